-- The parsers of the parts of a CREATE TABLE master their languages.
use Rattle.std.proofs.Common.{◌≡◌, true, false, List, [], ◌∷◌, ◌++◌, Some, length, refl, pos, neg_ℤ, arith}
use Rattle.cr_value.specs.declared.value.Value.{Value}
use Rattle.cr_value.specs.declared.value.Value.TheVariants as v
use Rattle.cr_tree.specs.declared.limits.Limits.{Limits}
use Rattle.cr_tree.specs.declared.symbol.Mark.{Mark}
use Rattle.cr_tree.specs.declared.symbol.Mark.TheVariants as m
use Rattle.cr_tree.specs.declared.symbol.Symbol.{Symbol}
use Rattle.cr_tree.specs.declared.symbol.Symbol.TheVariants as k
use Rattle.cr_tree.specs.Marks.{same_mark, is_mark}
use Rattle.cr_tree.specs.Grammar.{Sizes, NoSizes, OneSize, TwoSizes, sizes_words}
use Rattle.cr_tree.specs.Reading.{expect, name, is_name, sizes}
use Rattle.cr_tree.proofs.Forms.{is_same}
use Rattle.cr_tree.proofs.Repeats.{begins_next, sizes_right}
use Rattle.cr_tree.proofs.Tracks.{Within, sizes_regular}
use Rattle.cr_tree.specs.declared.statement.Constraint.TheVariants as c
use Rattle.cr_statement.specs.Languages.{One, Other, ◌◁◌, ◌▷◌, ◌⟨$⟩◌, ◌∣◌, all_fit, all_words, mark, many, maybe, nothing, one_of}
use Rattle.cr_statement.specs.Languages as languages
use Rattle.cr_statement.specs.Statements as grammar
use Rattle.cr_statement.specs.Creating.{literal, constraint, begins_constraint, type_words, constraints, column, key, if_not_exists}
use Rattle.cr_statement.proofs.Mastery.{MastersBefore, Anything, neither, many_of, shrinks_of, followed_by, made_of, behind_mark, and_then_by, maybe_of, either_of, nothing_of, name_of, symbol_of}
use Rattle.cr_statement.proofs.Statements.{names_of}

-- ---- what stands behind DEFAULT

-- a value by itself begins with no mark but NULL
plain_avoids : (x : Mark) → same_mark x m.Null ≡ false → (t : Symbol) (a : Value) → grammar.plain_of t ≡ Some a → is_mark x t ≡ false
plain_avoids x e (k.Mark m.Null) a i = e
plain_avoids x e (k.Mark y) a i = absurd (cc)
plain_avoids x e _ a i = refl

literal_of : MastersBefore Anything grammar.literal (λ lim. literal)
unfolding literal same_mark
literal_of =
    either_of (is_mark m.Minus) (λ lim d i. is_same m.Minus)
    (neither Anything (is_mark m.Minus) (v.Int ⟨$⟩ m.Plus ◁ grammar.int) (one_of grammar.plain_of) (λ lim d rest i st. refl) (λ lim d rest i st. plain_avoids m.Minus refl d.symbol d.value i))
    (made_of (behind_mark (symbol_of grammar.negative_of (k.Number 0) (neg_ℤ (pos 0)) refl) m.Minus) v.Int)
    (either_of (is_mark m.Plus) (λ lim d i. is_same m.Plus) (λ lim d rest i st. plain_avoids m.Plus refl d.symbol d.value i)
    (made_of (behind_mark (symbol_of grammar.int_of (k.Number 0) (pos 0) refl) m.Plus) v.Int)
    (symbol_of grammar.plain_of (k.Mark m.Null) v.Null refl))

-- ---- constraints

constraint_of : MastersBefore Anything grammar.constraint (λ lim. constraint)
unfolding constraint same_mark
constraint_of =
    either_of (is_mark m.Primary) (λ lim d i. is_same m.Primary)
    (neither Anything (is_mark m.Primary) (m.Not ◁ mark m.Null c.NotNull) ((c.Default ⟨$⟩ m.Default ◁ grammar.literal) ∣ (c.Collate ⟨$⟩ m.Collate ◁ languages.name)) (λ lim d rest i st. refl)
    (neither Anything (is_mark m.Primary) (c.Default ⟨$⟩ m.Default ◁ grammar.literal) (c.Collate ⟨$⟩ m.Collate ◁ languages.name) (λ lim d rest i st. refl) (λ lim d rest i st. refl)))
    (behind_mark (behind_mark (nothing_of c.PrimaryKey) m.Key) m.Primary)
    (either_of (is_mark m.Not) (λ lim d i. is_same m.Not)
    (neither Anything (is_mark m.Not) (c.Default ⟨$⟩ m.Default ◁ grammar.literal) (c.Collate ⟨$⟩ m.Collate ◁ languages.name) (λ lim d rest i st. refl) (λ lim d rest i st. refl))
    (behind_mark (behind_mark (nothing_of c.NotNull) m.Null) m.Not)
    (either_of (is_mark m.Default) (λ lim d i. is_same m.Default) (λ lim d rest i st. refl)
    (made_of (behind_mark literal_of m.Default) c.Default)
    (made_of (behind_mark name_of m.Collate) c.Collate)))

constraint_begins : (lim : Limits) (d : grammar.constraint.D) → grammar.constraint.fits lim d → begins_next begins_constraint (grammar.constraint.words d) ≡ true
constraint_begins lim (One d) i = refl
constraint_begins lim (Other (One d)) i = refl
constraint_begins lim (Other (Other (One d))) i = refl
constraint_begins lim (Other (Other (Other d))) i = refl

constraint_takes : (lim : Limits) (t : Symbol) (ts : List Symbol) → begins_constraint t ≡ true → Within (length ts) (constraint (t ∷ ts))
unfolding constraint same_mark expect
constraint_takes lim (k.Mark m.Primary) ts h = shrinks_of (behind_mark (nothing_of c.PrimaryKey) m.Key) lim ts
constraint_takes lim (k.Mark m.Not) ts h = shrinks_of (behind_mark (nothing_of c.NotNull) m.Null) lim ts
constraint_takes lim (k.Mark m.Default) ts h = shrinks_of (made_of literal_of c.Default) lim ts
constraint_takes lim (k.Mark m.Collate) ts h = shrinks_of (made_of name_of c.Collate) lim ts
constraint_takes lim _ ts h = absurd (cc)

constraints_of : MastersBefore (λ rest. (begins_next begins_constraint rest ≡ false) × Anything rest) (many grammar.constraint) (λ lim. constraints)
unfolding constraints
constraints_of = many_of begins_constraint constraint_begins (λ ts h. tt) constraint_takes constraint_of

-- ---- columns

name_takes : (t : Symbol) (ts : List Symbol) → is_name t ≡ true → Within (length ts) (name (t ∷ ts))
unfolding name
name_takes (k.Name n) ts h = omega arith
name_takes _ ts h = absurd (cc)

words_of : MastersBefore (λ rest. (begins_next is_name rest ≡ false) × Anything rest) (many languages.name) (λ lim. type_words)
unfolding type_words
words_of = many_of is_name (λ lim d i. refl) (λ ts h. tt) (λ lim t ts h. name_takes t ts h) name_of

sizes_of : MastersBefore (λ rest. (begins_next (is_mark m.Open) rest ≡ false) × Anything rest) languages.sizes (λ lim. sizes)
sizes_of = record { right = λ lim. sizes_right; grows = λ lim lim' d wide i. i; regular = λ e v v' h lim lim' wide. sizes_regular e v v' h }

-- what follows goes on with no column
abbrev pub Ended : List Symbol → Type 0
Ended rest = (begins_next is_name rest ≡ false) × ((begins_next (is_mark m.Open) rest ≡ false) × (begins_next begins_constraint rest ≡ false))

constraints_open : (lim : Limits) (ds : List grammar.constraint.D) (rest : List Symbol) → all_fit (grammar.constraint.fits lim) ds → Ended rest → (begins_next (is_mark m.Open) (all_words grammar.constraint.words ds ++ rest) ≡ false) × Anything rest
unfolding same_mark
constraints_open lim [] rest i st = (st.1.0, tt)
constraints_open lim (One d ∷ ds) rest i st = (refl, tt)
constraints_open lim (Other (One d) ∷ ds) rest i st = (refl, tt)
constraints_open lim (Other (Other (One d)) ∷ ds) rest i st = (refl, tt)
constraints_open lim (Other (Other (Other d)) ∷ ds) rest i st = (refl, tt)

constraints_named : (ds : List grammar.constraint.D) (rest : List Symbol) → Ended rest → begins_next is_name (all_words grammar.constraint.words ds ++ rest) ≡ false
constraints_named [] rest st = st.0
constraints_named (One d ∷ ds) rest st = refl
constraints_named (Other (One d) ∷ ds) rest st = refl
constraints_named (Other (Other (One d)) ∷ ds) rest st = refl
constraints_named (Other (Other (Other d)) ∷ ds) rest st = refl

sizes_named : (s : Sizes) (ds : List grammar.constraint.D) (rest : List Symbol) → Ended rest → begins_next is_name ((sizes_words s ++ all_words grammar.constraint.words ds) ++ rest) ≡ false
sizes_named NoSizes ds rest st = constraints_named ds rest st
sizes_named (OneSize a) ds rest st = refl
sizes_named (TwoSizes a b) ds rest st = refl

pub column_of : MastersBefore Ended grammar.column (λ lim. column)
unfolding column
column_of = made_of (and_then_by name_of (and_then_by words_of (and_then_by sizes_of (followed_by constraints_of (λ rest h. (h.1.1, tt))) constraints_open) (λ lim d rest i st. (sizes_named d.0 d.1 rest st, tt))) (λ lim d rest i st. tt))
    (λ x. record { name = x.0; type_words = x.1.0; constraints = x.1.1.1 })

-- ---- IF NOT EXISTS, and the key

pub if_not_exists_of : MastersBefore (λ rest. begins_next (is_mark m.If) rest ≡ false) grammar.if_not_exists (λ lim. if_not_exists)
unfolding if_not_exists
if_not_exists_of = either_of (is_mark m.If) (λ lim d i. is_same m.If) (λ lim d rest i st. st) (followed_by (behind_mark (behind_mark (behind_mark (nothing_of true) m.Exists) m.Not) m.If) (λ rest h. tt)) (followed_by (nothing_of false) (λ rest h. tt))

pub key_of : MastersBefore (λ rest. (begins_next (is_mark m.Comma) rest ≡ false) × Anything rest) (maybe grammar.key) (λ lim. key)
unfolding key
key_of = maybe_of (is_mark m.Comma) (λ lim d i. is_same m.Comma) (behind_mark (behind_mark (behind_mark names_of m.Key) m.Primary) m.Comma)
