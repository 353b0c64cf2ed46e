-- What is printed of a statement is a statement with the same tree.
use Rattle.std.proofs.Common.{◌≡◌, ℕ, zero, suc, ◌-◌, ◌≤◌, ◌<◌, ◌^◌, Bool, true, false, if◌then◌else◌, nat_lt, nat_le, int_le, List, [], Some, None, refl, sym, ◌∙◌, subst, ℤ, pos, negsuc, neg_ℤ, arith}
use Rattle.std.proofs.lemmas.Bool.{lt-ltb, ltb-true, leb-false}
use Rattle.cr_value.specs.declared.value.Value.{Value}
use Rattle.cr_value.specs.declared.value.Value.TheVariants as v
use Rattle.cr_tree.specs.declared.limits.TheConstants.{LIMITS}
use Rattle.cr_tree.specs.declared.symbol.Mark.{Mark}
use Rattle.cr_tree.specs.declared.symbol.Mark.TheVariants as m
use Rattle.cr_tree.specs.declared.symbol.Symbol.{Symbol}
use Rattle.cr_tree.specs.declared.symbol.Symbol.TheVariants as k
use Rattle.cr_tree.specs.Grammar.{NoSizes}
use Rattle.cr_tree.specs.Language.{Language}
use Rattle.cr_tree.specs.Judging.{IsRead}
use Rattle.cr_tree.proofs.Forms.{if_true}
use Rattle.cr_tree.specs.declared.statement.Join.{Join}
use Rattle.cr_tree.specs.declared.statement.JoinKind.{JoinKind}
use Rattle.cr_tree.specs.declared.statement.JoinKind.TheVariants as j
use Rattle.cr_tree.specs.declared.statement.Shown.TheVariants as s
use Rattle.cr_tree.specs.declared.statement.Constraint.TheVariants as c
use Rattle.cr_tree.specs.declared.statement.Column.{Column}
use Rattle.cr_tree.specs.declared.statement.Statement.{Statement}
use Rattle.cr_tree.specs.declared.statement.Statement.TheVariants as t
use Rattle.cr_statement.specs.Languages.{◌◁◌, ◌▷◌, ◌⊗◌, ◌⟨$⟩◌, One, Other, mark, maybe, maybe_mark, name, one_of, sizes}
use Rattle.cr_statement.specs.Statements as grammar
use Rattle.cr_roundtrip.specs.Printed.{All, IsSeen, InRange}
use Rattle.cr_roundtrip.proofs.Printed.{front, back, join}
use Rattle.cr_roundtrip.proofs.Rewriting.{Rewrites, kept, expression, mapped, behind, before, pair, option, several, at_most, listed, either}

-- ---- integers

pub int_ranged : (x : Symbol) (i : ℤ) → grammar.int_of x ≡ Some i → IsSeen x → InRange i
int_ranged (k.Number n) i e a = by (nat_lt n (2 ^ 63)) refl e
  where
    by : (b : Bool) → nat_lt n (2 ^ 63) ≡ b → (if b then Some (pos n) else None) ≡ Some i → InRange i
    by true h e = let same : pos n ≡ i = cc in subst InRange same (ltb-true n (2 ^ 63) h)
    by false h e = absurd (cc)
int_ranged (k.Bits b) i e a = let same : b ≡ i = cc in subst InRange same a
int_ranged (k.Mark x) i e a = absurd (cc)
int_ranged (k.Name x) i e a = absurd (cc)
int_ranged (k.Text x) i e a = absurd (cc)
int_ranged (k.Blob x) i e a = absurd (cc)
int_ranged (k.Param x) i e a = absurd (cc)
int_ranged k.Other i e a = absurd (cc)

pub negated_ranged : (n : ℕ) → n ≤ 2 ^ 63 → InRange (neg_ℤ (pos n))
negated_ranged zero h = omega arith
negated_ranged (suc n) h = h

pub negative_ranged : (x : Symbol) (i : ℤ) → grammar.negative_of x ≡ Some i → IsSeen x → InRange i
negative_ranged (k.Number n) i e a = by (nat_le n (2 ^ 63)) e
  where
    by : (b : Bool) → (if b then Some (neg_ℤ (pos n)) else None) ≡ Some i → InRange i
    by true e = let same : neg_ℤ (pos n) ≡ i = cc in subst InRange same (negated_ranged n a)
    by false e = absurd (cc)
negative_ranged (k.Bits (pos n)) i e a = let same : neg_ℤ (pos n) ≡ i = cc in subst InRange same (negated_ranged n (omega (arith, a)))
negative_ranged (k.Bits (negsuc n)) i e a = by (int_le (negsuc n) (negsuc (2 ^ 63 - 1))) refl e
  where
    below : int_le (negsuc n) (negsuc (2 ^ 63 - 1)) ≡ false → suc n < 2 ^ 63
    below h = omega (arith, leb-false (2 ^ 63 - 1) n h)

    by : (b : Bool) → int_le (negsuc n) (negsuc (2 ^ 63 - 1)) ≡ b → (if b then None else Some (neg_ℤ (negsuc n))) ≡ Some i → InRange i
    by true h e = absurd (cc)
    by false h e = let same : neg_ℤ (negsuc n) ≡ i = cc in subst InRange same (below h)
negative_ranged (k.Mark x) i e a = absurd (cc)
negative_ranged (k.Name x) i e a = absurd (cc)
negative_ranged (k.Text x) i e a = absurd (cc)
negative_ranged (k.Blob x) i e a = absurd (cc)
negative_ranged (k.Param x) i e a = absurd (cc)
negative_ranged k.Other i e a = absurd (cc)

-- the number in decimal
abbrev pub count_of : ℤ → grammar.count.D
count_of (pos n) = Other (record { symbol = k.Number n; value = pos n })
count_of (negsuc n) = One (record { symbol = k.Number (suc n); value = negsuc n })

abbrev pub count_value : grammar.count.D → ℤ
count_value d = grammar.count.value d

pub count_fits : (i : ℤ) → InRange i → grammar.count.fits LIMITS (count_of i)
count_fits (pos n) h = if_true (nat_lt n (2 ^ 63)) (Some (pos n)) None (lt-ltb n (2 ^ 63) h)
count_fits (negsuc n) h = if_true (nat_le (suc n) (2 ^ 63)) (Some (negsuc n)) None (lt-ltb n (2 ^ 63) h)

pub count_same : (i : ℤ) → count_value (count_of i) ≡ i
count_same (pos n) = refl
count_same (negsuc n) = refl

pub count_seen : (i : ℤ) → InRange i → All IsSeen (grammar.count.words (count_of i))
count_seen (pos n) h = (omega (arith, h), tt)
count_seen (negsuc n) h = (tt, (h, tt))

pub count_ranged : (d : grammar.count.D) → grammar.count.fits LIMITS d → All IsSeen (grammar.count.words d) → InRange (count_value d)
count_ranged (One d) i a = negative_ranged d.symbol d.value i a.1.0
count_ranged (Other d) i a = int_ranged d.symbol d.value i a.0

abbrev pub count : Rewrites grammar.count
count = record { to = λ d. count_of (count_value d); fitting = λ d i a. count_fits (count_value d) (count_ranged d i a); means = λ d i. count_same (count_value d); seen = λ d i a. count_seen (count_value d) (count_ranged d i a) }

-- ---- what stands behind DEFAULT

abbrev pub literal_int : ℤ → grammar.literal.D
literal_int (pos n) = Other (Other (record { symbol = k.Number n; value = v.Int (pos n) }))
literal_int (negsuc n) = One (record { symbol = k.Number (suc n); value = negsuc n })

pub int_fits : (i : ℤ) → InRange i → grammar.literal.fits LIMITS (literal_int i)
int_fits (pos n) h = if_true (nat_lt n (2 ^ 63)) (Some (v.Int (pos n))) None (lt-ltb n (2 ^ 63) h)
int_fits (negsuc n) h = if_true (nat_le (suc n) (2 ^ 63)) (Some (negsuc n)) None (lt-ltb n (2 ^ 63) h)

pub int_same : (i : ℤ) → grammar.literal.value (literal_int i) ≡ v.Int i
int_same (pos n) = refl
int_same (negsuc n) = refl

pub int_seen : (i : ℤ) → InRange i → All IsSeen (grammar.literal.words (literal_int i))
int_seen (pos n) h = (omega (arith, h), tt)
int_seen (negsuc n) h = (tt, (h, tt))

abbrev pub plain_to : Symbol → Value → grammar.literal.D
plain_to (k.Bits i) a = literal_int i
plain_to x a = Other (Other (record { symbol = x; value = a }))

abbrev pub literal_to : grammar.literal.D → grammar.literal.D
literal_to (One d) = literal_int d.value
literal_to (Other (One d)) = literal_int d.value
literal_to (Other (Other d)) = plain_to d.symbol d.value

pub plain_fits : (x : Symbol) (a : Value) → grammar.plain_of x ≡ Some a → IsSeen x → grammar.literal.fits LIMITS (plain_to x a)
plain_fits (k.Bits i) a e h = int_fits i h
plain_fits (k.Mark x) a e h = e
plain_fits (k.Name x) a e h = e
plain_fits (k.Text x) a e h = e
plain_fits (k.Blob x) a e h = e
plain_fits (k.Number x) a e h = e
plain_fits (k.Param x) a e h = e
plain_fits k.Other a e h = e

pub plain_same : (x : Symbol) (a : Value) → grammar.plain_of x ≡ Some a → grammar.literal.value (plain_to x a) ≡ a
plain_same (k.Bits i) a e = let same : v.Int i ≡ a = cc in int_same i ∙ same
plain_same (k.Mark x) a e = refl
plain_same (k.Name x) a e = refl
plain_same (k.Text x) a e = refl
plain_same (k.Blob x) a e = refl
plain_same (k.Number x) a e = refl
plain_same (k.Param x) a e = refl
plain_same k.Other a e = refl

pub plain_seen : (x : Symbol) (a : Value) → IsSeen x → All IsSeen (grammar.literal.words (plain_to x a))
plain_seen (k.Bits i) a h = int_seen i h
plain_seen (k.Mark x) a h = (h, tt)
plain_seen (k.Name x) a h = (h, tt)
plain_seen (k.Text x) a h = (h, tt)
plain_seen (k.Blob x) a h = (h, tt)
plain_seen (k.Number x) a h = (h, tt)
plain_seen (k.Param x) a h = (h, tt)
plain_seen k.Other a h = (h, tt)

pub literal_fits : (d : grammar.literal.D) → grammar.literal.fits LIMITS d → All IsSeen (grammar.literal.words d) → grammar.literal.fits LIMITS (literal_to d)
literal_fits (One d) i a = int_fits d.value (negative_ranged d.symbol d.value i a.1.0)
literal_fits (Other (One d)) i a = int_fits d.value (int_ranged d.symbol d.value i a.1.0)
literal_fits (Other (Other d)) i a = plain_fits d.symbol d.value i a.0

pub literal_same : (d : grammar.literal.D) → grammar.literal.fits LIMITS d → grammar.literal.value (literal_to d) ≡ grammar.literal.value d
literal_same (One d) i = int_same d.value
literal_same (Other (One d)) i = int_same d.value
literal_same (Other (Other d)) i = plain_same d.symbol d.value i

pub literal_seen : (d : grammar.literal.D) → grammar.literal.fits LIMITS d → All IsSeen (grammar.literal.words d) → All IsSeen (grammar.literal.words (literal_to d))
literal_seen (One d) i a = int_seen d.value (negative_ranged d.symbol d.value i a.1.0)
literal_seen (Other (One d)) i a = int_seen d.value (int_ranged d.symbol d.value i a.1.0)
literal_seen (Other (Other d)) i a = plain_seen d.symbol d.value a.0

abbrev pub literal : Rewrites grammar.literal
literal = record { to = literal_to; fitting = literal_fits; means = literal_same; seen = literal_seen }

-- ---- SELECT

abbrev pub flag_to : (on off : Mark) → (grammar.flag on off).D → (grammar.flag on off).D
flag_to on off (One d) = One d
flag_to on off (Other b) = Other false

abbrev pub flag : (on off : Mark) → Rewrites (grammar.flag on off)
flag on off = record { to = flag_to on off; fitting = fits; means = same; seen = sees }
  where
    fits : (d : (grammar.flag on off).D) → (grammar.flag on off).fits LIMITS d → All IsSeen ((grammar.flag on off).words d) → (grammar.flag on off).fits LIMITS (flag_to on off d)
    fits (One d) i a = i
    fits (Other b) i a = i

    same : (d : (grammar.flag on off).D) → (grammar.flag on off).fits LIMITS d → (grammar.flag on off).value (flag_to on off d) ≡ (grammar.flag on off).value d
    same (One d) i = refl
    same (Other b) i = refl

    sees : (d : (grammar.flag on off).D) → (grammar.flag on off).fits LIMITS d → All IsSeen ((grammar.flag on off).words d) → All IsSeen ((grammar.flag on off).words (flag_to on off d))
    sees (One d) i a = a
    sees (Other b) i a = tt

-- a mark and a name, of which the mark may be absent
abbrev pub Aliased : Language (List ℕ)
Aliased = (λ x. x.1) ⟨$⟩ maybe_mark m.As ⊗ name

abbrev pub aliased : Rewrites Aliased
aliased = record { to = λ d. (true, d.1); fitting = λ d i a. i; means = λ d i. refl; seen = λ d i a. (tt, back IsSeen ((maybe_mark m.As).words d.0) (name.words d.1) a) }

abbrev pub alias : Rewrites grammar.alias
alias = option aliased

abbrev pub shown : Rewrites grammar.shown
shown = either (kept (mark m.Star s.All)) (either (kept (s.AllOf ⟨$⟩ name ▷ m.Dot ▷ m.Star)) (mapped (λ x. s.One x.0 x.1) (pair expression alias)))

abbrev pub source : Rewrites grammar.source
source = mapped (λ x. record { table = x.0; alias = x.1 }) (pair (kept name) alias)

abbrev pub joined : (kind : JoinKind) → Rewrites (grammar.joined kind)
joined kind = mapped (λ x. record { kind = kind; source = x.0; on = x.1 }) (pair (behind m.Join source) (option (behind m.On expression)))

abbrev pub comma_join : Rewrites {A = Join} ((λ x. record { kind = j.Comma; source = x; on = None }) ⟨$⟩ m.Comma ◁ grammar.source)
comma_join = mapped (λ x. record { kind = j.Comma; source = x; on = None }) (behind m.Comma source)

abbrev pub join_to : grammar.join.D → grammar.join.D
join_to (One d) = One (comma_join.to d)
join_to (Other (One d)) = Other (One (false, (joined j.Left).to d.1))
join_to (Other (Other (One d))) = Other (Other (One ((joined j.Inner).to d)))
join_to (Other (Other (Other (One d)))) = Other (Other (Other (One ((joined j.Cross).to d))))
join_to (Other (Other (Other (Other d)))) = Other (Other (One ((joined j.Inner).to d)))

abbrev pub joins : Rewrites grammar.join
joins = record { to = join_to; fitting = fits; means = same; seen = sees }
  where
    fits : (d : grammar.join.D) → grammar.join.fits LIMITS d → All IsSeen (grammar.join.words d) → grammar.join.fits LIMITS (join_to d)
    fits (One d) i a = comma_join.fitting d i a
    fits (Other (One d)) i a = (tt, (joined j.Left).fitting d.1 i.1 (back IsSeen ((maybe_mark m.Outer).words d.0) ((grammar.joined j.Left).words d.1) a.1))
    fits (Other (Other (One d))) i a = (joined j.Inner).fitting d i a.1
    fits (Other (Other (Other (One d)))) i a = (joined j.Cross).fitting d i a.1
    fits (Other (Other (Other (Other d)))) i a = (joined j.Inner).fitting d i a

    same : (d : grammar.join.D) → grammar.join.fits LIMITS d → grammar.join.value (join_to d) ≡ grammar.join.value d
    same (One d) i = comma_join.means d i
    same (Other (One d)) i = (joined j.Left).means d.1 i.1
    same (Other (Other (One d))) i = (joined j.Inner).means d i
    same (Other (Other (Other (One d)))) i = (joined j.Cross).means d i
    same (Other (Other (Other (Other d)))) i = (joined j.Inner).means d i

    sees : (d : grammar.join.D) → grammar.join.fits LIMITS d → All IsSeen (grammar.join.words d) → All IsSeen (grammar.join.words (join_to d))
    sees (One d) i a = comma_join.seen d i a
    sees (Other (One d)) i a = (tt, (joined j.Left).seen d.1 i.1 (back IsSeen ((maybe_mark m.Outer).words d.0) ((grammar.joined j.Left).words d.1) a.1))
    sees (Other (Other (One d))) i a = (tt, (joined j.Inner).seen d i a.1)
    sees (Other (Other (Other (One d)))) i a = (tt, (joined j.Cross).seen d i a.1)
    sees (Other (Other (Other (Other d)))) i a = (tt, (joined j.Inner).seen d i a)

abbrev pub tables : Rewrites grammar.tables
tables = mapped (λ x. record { first = x.0; joins = x.1 }) (pair source (at_most joins (λ lim. lim.joins)))

abbrev pub filter : Rewrites grammar.filter
filter = option (behind m.Where expression)

abbrev pub term : Rewrites grammar.term
term = mapped (λ x. record { expr = x.0; descending = x.1 }) (pair expression (flag m.Desc m.Asc))

abbrev pub limit : Rewrites grammar.limit
limit = mapped (λ x. record { count = x.0; offset = x.1 }) (pair (behind m.Limit count) (option (behind m.Offset count)))

abbrev pub select : Rewrites grammar.select
select = mapped (λ x. record { distinct = x.0; shown = x.1.0; from = x.1.1.0; filter = x.1.1.1.0; group = x.1.1.1.1.0; having = x.1.1.1.1.1.0; order = x.1.1.1.1.1.1.0; limit = x.1.1.1.1.1.1.1 })
    (pair (behind m.Select (flag m.Distinct m.All)) (pair (listed shown) (pair (option (behind m.From tables)) (pair filter (pair (option (behind m.Group (behind m.By (listed expression)))) (pair (option (behind m.Having expression))
    (pair (option (behind m.Order (behind m.By (listed term)))) (option limit))))))))

-- ---- writes

abbrev pub insert : Rewrites grammar.insert
insert = mapped (λ x. record { table = x.0; columns = x.1.0; rows = x.1.1 })
    (pair (behind m.Insert (behind m.Into (kept name))) (pair (option (behind m.Open (before m.Close (listed (kept name))))) (behind m.Values (listed (behind m.Open (before m.Close (listed expression)))))))

abbrev pub assignment : Rewrites grammar.assignment
assignment = mapped (λ x. record { column = x.0; value = x.1 }) (pair (kept name) (behind m.Equal expression))

abbrev pub update : Rewrites grammar.update
update = mapped (λ x. record { table = x.0; assignments = x.1.0; filter = x.1.1 }) (pair (behind m.Update (kept name)) (pair (behind m.Set (listed assignment)) filter))

abbrev pub delete : Rewrites grammar.delete
delete = mapped (λ x. record { table = x.0; filter = x.1 }) (pair (behind m.Delete (behind m.From (kept name))) filter)

-- ---- CREATE TABLE

abbrev pub constraint : Rewrites grammar.constraint
constraint = either (kept (m.Primary ◁ mark m.Key c.PrimaryKey)) (either (kept (m.Not ◁ mark m.Null c.NotNull)) (either (mapped c.Default (behind m.Default literal)) (kept (c.Collate ⟨$⟩ m.Collate ◁ name))))

abbrev pub no_sizes : Rewrites sizes
no_sizes = record { to = λ d. NoSizes; fitting = λ d i a. tt; means = λ d i. refl; seen = λ d i a. tt }

abbrev pub column : Rewrites grammar.column
column = mapped (λ x. record { name = x.0; type_words = x.1.0; constraints = x.1.1.1 }) (pair (kept name) (pair (several (kept name)) (pair no_sizes (several constraint))))

abbrev pub create : Rewrites grammar.create
create = mapped (λ x. record { if_not_exists = x.0; table = x.1.0; columns = x.1.1.0; key = x.1.1.1 })
    (pair (behind m.Create (behind m.Table (kept grammar.if_not_exists))) (pair (kept name) (behind m.Open (before m.Close (pair (listed column) (option (behind m.Comma (behind m.Primary (behind m.Key (behind m.Open (before m.Close (listed (kept name)))))))))))))

-- a column, before which COLUMN may be absent
abbrev pub Added : Language Column
Added = (λ x. x.1) ⟨$⟩ maybe_mark m.Column ⊗ grammar.column

abbrev pub added : Rewrites Added
added = record {
  to = λ d. (true, column.to d.1);
  fitting = λ d i a. (tt, column.fitting d.1 i.1 (back IsSeen ((maybe_mark m.Column).words d.0) (grammar.column.words d.1) a));
  means = λ d i. column.means d.1 i.1;
  seen = λ d i a. (tt, column.seen d.1 i.1 (back IsSeen ((maybe_mark m.Column).words d.0) (grammar.column.words d.1) a));
}

abbrev pub alter : Rewrites grammar.alter
alter = mapped (λ x. record { table = x.0; column = x.1 }) (pair (behind m.Alter (behind m.Table (kept name))) (behind m.Add added))

-- ---- transactions

abbrev pub transaction_to : grammar.transaction.D → grammar.transaction.D
transaction_to (One d) = One (d.0, false)
transaction_to (Other (One b)) = Other (One false)
transaction_to (Other (Other (One b))) = Other (One false)
transaction_to (Other (Other (Other b))) = Other (Other (Other false))

abbrev pub transaction : Rewrites grammar.transaction
transaction = record { to = transaction_to; fitting = fits; means = same; seen = sees }
  where
    fits : (d : grammar.transaction.D) → grammar.transaction.fits LIMITS d → All IsSeen (grammar.transaction.words d) → grammar.transaction.fits LIMITS (transaction_to d)
    fits (One d) i a = (i.0, tt)
    fits (Other (One b)) i a = tt
    fits (Other (Other (One b))) i a = tt
    fits (Other (Other (Other b))) i a = tt

    same : (d : grammar.transaction.D) → grammar.transaction.fits LIMITS d → grammar.transaction.value (transaction_to d) ≡ grammar.transaction.value d
    same (One d) i = refl
    same (Other (One b)) i = refl
    same (Other (Other (One b))) i = refl
    same (Other (Other (Other b))) i = refl

    sees : (d : grammar.transaction.D) → grammar.transaction.fits LIMITS d → All IsSeen (grammar.transaction.words d) → All IsSeen (grammar.transaction.words (transaction_to d))
    sees (One d) i a = (tt, join IsSeen ((maybe (one_of grammar.mode_of)).words d.0) [] (front IsSeen ((maybe (one_of grammar.mode_of)).words d.0) ((maybe_mark m.Transaction).words d.1) a.1) tt)
    sees (Other (One b)) i a = (tt, tt)
    sees (Other (Other (One b))) i a = (tt, tt)
    sees (Other (Other (Other b))) i a = (tt, tt)

-- ---- the whole

abbrev pub statement : Rewrites grammar.statement
statement = either (mapped t.Select select) (either (mapped t.Create create) (either (mapped t.Alter alter) (either (mapped t.Insert insert) (either (mapped t.Update update) (either (mapped t.Delete delete) transaction)))))

-- the symbols that are printed of a statement
abbrev pub again : grammar.statement.D → List Symbol
again d = grammar.statement.words (statement.to d)

pub again_read : (ts : List Symbol) (x : Statement) → All IsSeen ts → (r : IsRead grammar.statement ts x) → IsRead grammar.statement (again r.what) x
again_read ts x a r =
    let b = subst (All IsSeen) (sym r.written) a in
    record { what = statement.to r.what; fitting = statement.fitting r.what r.fitting b; written = refl; means = statement.means r.what r.fitting ∙ r.means }
