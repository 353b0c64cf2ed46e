-- The parser of a CREATE TABLE masters its language.
use Rattle.std.proofs.Common.{◌≡◌, ℕ, zero, suc, ◌+◌, ◌≤◌, Bool, true, false, ◌&&◌, List, [], ◌∷◌, ◌++◌, map, Option, Some, None, length, refl, sym, ◌∙◌, ap, subst, append_assoc, arith}
use Rattle.std.proofs.lemmas.List.{append-nil}
use Rattle.cr_tree.specs.declared.limits.Limits.{Limits}
use Rattle.cr_tree.specs.declared.limits.TheConstants.{LIMITS}
use Rattle.cr_tree.specs.declared.symbol.Mark.TheVariants as m
use Rattle.cr_tree.specs.declared.symbol.Symbol.{Symbol}
use Rattle.cr_tree.specs.declared.symbol.Symbol.TheVariants as k
use Rattle.cr_tree.specs.Marks.{same_mark, is_mark}
use Rattle.cr_tree.specs.Reading.{Outcome, Reads, Fails, Parser, and_then, ◌>>=◌, pure, expect, is_name, sees_name, behind, listed}
use Rattle.cr_tree.specs.Language.{Language}
use Rattle.cr_tree.proofs.Forms.{Good, good_as, if_false, is_same, mark_is}
use Rattle.cr_tree.proofs.Repeats.{begins_next}
use Rattle.cr_tree.proofs.Tracks.{Within, Track}
use Rattle.cr_tree.proofs.Judged.{IsWider, IsOver}
use Rattle.cr_tree.specs.declared.statement.Column.{Column}
use Rattle.cr_statement.specs.Languages.{One, Other, ◌◁◌, ◌▷◌, ◌⊗◌, ◌⟨$⟩◌, ◌∣◌, option_fits, option_words, option_value, all_fit, all_words, maybe, commas, nothing}
use Rattle.cr_statement.specs.Statements as grammar
use Rattle.cr_statement.specs.Reading.{made, both, choose, by_option, found_from, found, names}
use Rattle.cr_statement.specs.Creating.{column, next_column, columns, key, body, create, alter}
use Rattle.cr_statement.proofs.Mastery.{MastersBefore, Anything, shrinks_of, followed_by, made_of, behind_mark, before_mark, and_then_by, either_of, nothing_of, name_of, eat_of}
use Rattle.cr_statement.proofs.Statements.{names_of}
use Rattle.cr_statement.proofs.Columns.{Ended, column_of, key_of, if_not_exists_of}

abbrev Names : Type 0
Names = List (List ℕ)

-- the columns behind the first, and the key
abbrev Rest : Type 0
Rest = List Column × Option Names

abbrev led : Column × Rest → Rest
led x = (x.0 ∷ x.1.0, x.1.1)

-- ---- one decision at each comma

-- PRIMARY KEY and names
abbrev primary : Parser Names
primary = behind m.Primary (behind m.Key names)

abbrev Primary : Language Names
Primary = m.Primary ◁ m.Key ◁ m.Open ◁ grammar.names ▷ m.Close

abbrev tail : ℕ → Parser Rest
tail zero = made (λ k. ([], k)) key
tail (suc n) = choose (is_mark m.Comma) (behind m.Comma (choose is_name (made led (both column (tail n))) (made (λ k. ([], Some k)) primary))) (pure ([], None))

abbrev Tail : ℕ → Language Rest
Tail zero = (λ k. ([], k)) ⟨$⟩ maybe grammar.key
Tail (suc n) = (m.Comma ◁ ((led ⟨$⟩ grammar.column ⊗ Tail n) ∣ ((λ k. ([], Some k)) ⟨$⟩ Primary))) ∣ nothing ([], None)

-- what follows is no comma and goes on with no column
abbrev Closed : List Symbol → Type 0
Closed rest = (begins_next (is_mark m.Comma) rest ≡ false) × Ended rest

tail_ended : (n : ℕ) (d : (Tail n).D) (rest : List Symbol) → Closed rest → Ended ((Tail n).words d ++ rest)
unfolding same_mark
tail_ended zero None rest st = st.1
tail_ended zero (Some d) rest st = (refl, (refl, refl))
tail_ended (suc n) (One d) rest st = (refl, (refl, refl))
tail_ended (suc n) (Other d) rest st = st.1

tail_of : (n : ℕ) → MastersBefore Closed (Tail n) (λ lim. tail n)
tail_of zero = made_of (followed_by key_of (λ rest h. (h.0, tt))) (λ k. ([], k))
tail_of (suc n) = either_of (is_mark m.Comma) (λ lim d i. is_same m.Comma) (λ lim d rest i st. st.0)
    (behind_mark (either_of is_name (λ lim d i. refl) (λ lim d rest i st. refl) (made_of (and_then_by column_of (tail_of n) (λ lim d rest i st. tail_ended n d rest st)) led)
    (made_of (followed_by (behind_mark (behind_mark names_of m.Key) m.Primary) (λ rest h. tt)) (λ k. ([], Some k)))) m.Comma)
    (followed_by (nothing_of ([], None)) (λ rest h. tt))

-- ---- the same as a loop over columns, and the key behind it

abbrev with_key : List Column → Parser Rest
with_key all = key >>= (λ k. pure (all, k))

abbrev behind_all : List Column → Rest → Parser Rest
behind_all all r = pure (all ++ r.0, r.1)

key_none : (t : Symbol) (ts : List Symbol) → is_mark m.Comma t ≡ false → key (t ∷ ts) ≡ Reads None (t ∷ ts)
unfolding key
key_none t ts h = if_false (is_mark m.Comma t) (and_then (behind m.Comma primary (t ∷ ts)) (λ a. pure (Some a))) (Reads None (t ∷ ts)) h

tail_none : (n : ℕ) (t : Symbol) (ts : List Symbol) → is_mark m.Comma t ≡ false → tail (suc n) (t ∷ ts) ≡ Reads ([], None) (t ∷ ts)
tail_none n t ts h = if_false (is_mark m.Comma t) (behind m.Comma (choose is_name (made led (both column (tail n))) (made (λ k. ([], Some k)) primary)) (t ∷ ts)) (Reads ([], None) (t ∷ ts)) h

next_none : (t : Symbol) (ts : List Symbol) → is_mark m.Comma t ≡ false → next_column (t ∷ ts) ≡ Reads None (t ∷ ts)
unfolding next_column
next_none t ts h = if_false (is_mark m.Comma t && sees_name ts) (and_then (behind m.Comma column (t ∷ ts)) (λ c. pure (Some c))) (Reads None (t ∷ ts)) (ap (λ z. z && sees_name ts) h)

key_last : (all : List Column) (o : Outcome (Option Names)) → and_then o (λ k. pure (all, k)) ≡ and_then (and_then {A = Option Names} {B = Rest} o (λ k. pure ([], k))) (behind_all all)
key_last all (Reads k rest) = ap (λ z. Reads (z, k) rest) (sym (append-nil all))
key_last all (Fails c rest) = refl

primary_last : (all : List Column) (o : Outcome Names) → and_then (and_then {A = Names} {B = Option Names} o (λ k. pure (Some k))) (λ k. pure (all, k)) ≡ and_then (and_then {A = Names} {B = Rest} o (λ k. pure ([], Some k))) (behind_all all)
primary_last all (Reads k rest) = ap (λ z. Reads (z, Some k) rest) (sym (append-nil all))
primary_last all (Fails c rest) = refl

column_next : (n : ℕ) (all : List Column) → ((all : List Column) (ts : List Symbol) → and_then (found_from next_column n all ts) with_key ≡ and_then (tail n ts) (behind_all all)) → (o : Outcome Column)
    → and_then (and_then (and_then {A = Column} {B = Option Column} o (λ c. pure (Some c))) (by_option (pure all) (λ c. found_from next_column n (listed all c)))) with_key
    ≡ and_then (and_then (and_then {A = Column} {B = Column × Rest} o (λ c. tail n >>= (λ r. pure (c, r)))) (λ x. pure (led x))) (behind_all all)
column_next n all again (Reads c rest) = again (listed all c) rest ∙ at (tail n rest)
  where
    at : (o : Outcome Rest) → and_then o (behind_all (listed all c)) ≡ and_then (and_then {A = Column × Rest} {B = Rest} (and_then {A = Rest} {B = Column × Rest} o (λ r. pure (c, r))) (λ x. pure (led x))) (behind_all all)
    at (Reads r rest) = ap (λ z. Reads (z, r.1) rest) (append_assoc all (c ∷ []) r.0)
    at (Fails c rest) = refl
column_next n all again (Fails c rest) = refl

looped : (n : ℕ) (all : List Column) (ts : List Symbol) → and_then (found_from next_column n all ts) with_key ≡ and_then (tail n ts) (behind_all all)
unfolding found_from next_column key expect same_mark
looped zero all ts = key_last all (key ts)
looped (suc n) all [] = at
  where
    at : and_then (found_from next_column (suc n) all []) with_key ≡ Reads (all ++ [], None) []
    at = ap (λ z. Reads (z, None) []) (sym (append-nil all))
looped (suc n) all (t ∷ ts) = by (λ all ts. looped n all ts) (is_mark m.Comma t) refl
  where
    next : Option Column → Parser (List Column)
    next = by_option (pure all) (λ c. found_from next_column n (listed all c))

    comma : ((all : List Column) (ts : List Symbol) → and_then (found_from next_column n all ts) with_key ≡ and_then (tail n ts) (behind_all all)) → (ts : List Symbol)
        → and_then (and_then (next_column (k.Mark m.Comma ∷ ts)) next) with_key ≡ and_then (tail (suc n) (k.Mark m.Comma ∷ ts)) (behind_all all)
    comma again [] = primary_last all (primary [])
    comma again (k.Name x ∷ ts) = column_next n all again (column (k.Name x ∷ ts))
    comma again (u ∷ ts) = primary_last all (primary (u ∷ ts))

    by : ((all : List Column) (ts : List Symbol) → and_then (found_from next_column n all ts) with_key ≡ and_then (tail n ts) (behind_all all)) → (b : Bool) → is_mark m.Comma t ≡ b
        → and_then (and_then (next_column (t ∷ ts)) next) with_key ≡ and_then (tail (suc n) (t ∷ ts)) (behind_all all)
    by again true e = subst (λ z. and_then (and_then (next_column (z ∷ ts)) next) with_key ≡ and_then (tail (suc n) (z ∷ ts)) (behind_all all)) (sym (mark_is m.Comma t e)) (comma again ts)
    by again false e = ap (λ o. and_then (and_then o next) with_key) (next_none t ts e) ∙ (ap (λ o. and_then o (λ k. pure (all, k))) (key_none t ts e)
        ∙ (ap (λ z. Reads (z, None) (t ∷ ts)) (sym (append-nil all)) ∙ sym (ap (λ o. and_then o (behind_all all)) (tail_none n t ts e))))

-- ---- how many turns there may be doesn't matter, if there are enough

same_then : {A B : Type 0} (N : ℕ) (g g' : A → Parser B) → ((a : A) (ts : List Symbol) → length ts ≤ N → g a ts ≡ g' a ts) → (o : Outcome A) → Within N o → and_then o g ≡ and_then o g'
same_then N g g' h (Reads a rest) w = h a rest w
same_then N g g' h (Fails c rest) w = refl

enough : (n n' : ℕ) (ts : List Symbol) → length ts ≤ n → length ts ≤ n' → tail n ts ≡ tail n' ts
unfolding key expect same_mark
enough zero zero ts l l' = refl
enough zero (suc n') [] l l' = refl
enough zero (suc n') (t ∷ ts) l l' = absurd (omega (arith, l))
enough (suc n) zero [] l l' = refl
enough (suc n) zero (t ∷ ts) l l' = absurd (omega (arith, l'))
enough (suc n) (suc n') [] l l' = refl
enough (suc n) (suc n') (t ∷ ts) l l' = by (λ ts h h'. enough n n' ts h h') (is_mark m.Comma t) refl
  where
    comma : ((us : List Symbol) → length us ≤ n → length us ≤ n' → tail n us ≡ tail n' us) → (us : List Symbol) → length us ≤ n → length us ≤ n' → tail (suc n) (k.Mark m.Comma ∷ us) ≡ tail (suc n') (k.Mark m.Comma ∷ us)
    comma again [] h h' = refl
    comma again (k.Name x ∷ us) h h' = ap (λ o. and_then {A = Column × Rest} {B = Rest} o (λ x. pure (led x)))
        (same_then (suc (length us)) (λ c. tail n >>= (λ r. pure (c, r))) (λ c. tail n' >>= (λ r. pure (c, r))) (λ c ws i. ap (λ o. and_then {A = Rest} {B = Column × Rest} o (λ r. pure (c, r))) (again ws (omega (arith, i, h)) (omega (arith, i, h'))))
        (column (k.Name x ∷ us)) (shrinks_of column_of LIMITS (k.Name x ∷ us)))
    comma again (u ∷ us) h h' = refl

    by : ((us : List Symbol) → length us ≤ n → length us ≤ n' → tail n us ≡ tail n' us) → (b : Bool) → is_mark m.Comma t ≡ b → tail (suc n) (t ∷ ts) ≡ tail (suc n') (t ∷ ts)
    by again true e = subst (λ z. tail (suc n) (z ∷ ts) ≡ tail (suc n') (z ∷ ts)) (sym (mark_is m.Comma t e)) (comma again ts (omega (arith, l)) (omega (arith, l')))
    by again false e = tail_none n t ts e ∙ sym (tail_none n' t ts e)

-- ---- all columns, and the key

-- with so many turns
abbrev list_by : ℕ → Parser Rest
list_by n = made led (both column (tail n))

abbrev List_by : ℕ → Language Rest
List_by n = led ⟨$⟩ grammar.column ⊗ Tail n

list_by_of : (n : ℕ) → MastersBefore Closed (List_by n) (λ lim. list_by n)
list_by_of n = made_of (and_then_by column_of (tail_of n) (λ lim d rest i st. tail_ended n d rest st)) led

listed_so : (n : ℕ) (ts : List Symbol) → length ts ≤ n → both columns key ts ≡ list_by n ts
unfolding columns found
listed_so n ts l = at (column ts) (shrinks_of column_of LIMITS ts)
  where
    last : (c : Column) (o : Outcome Rest) → and_then o (behind_all (c ∷ [])) ≡ and_then {A = Column × Rest} {B = Rest} (and_then {A = Rest} {B = Column × Rest} o (λ r. pure (c, r))) (λ x. pure (led x))
    last c (Reads r rest) = refl
    last c (Fails d rest) = refl

    at : (o : Outcome Column) → Within (length ts) o → and_then (and_then o (λ c ts. found_from next_column (length ts) (c ∷ []) ts)) with_key ≡ and_then {A = Column × Rest} {B = Rest} (and_then {A = Column} {B = Column × Rest} o (λ c. tail n >>= (λ r. pure (c, r)))) (λ x. pure (led x))
    at (Reads c rest) w = looped (length rest) (c ∷ []) rest ∙ (last c (tail (length rest) rest)
        ∙ ap (λ o. and_then {A = Column × Rest} {B = Rest} (and_then {A = Rest} {B = Column × Rest} o (λ r. pure (c, r))) (λ x. pure (led x))) (enough (length rest) n rest (omega arith) (omega (arith, w, l))))
    at (Fails d rest) w = refl

-- ---- the same as commas, and the key or nothing

abbrev Listing : Language Rest
Listing = commas grammar.column ⊗ maybe grammar.key

abbrev comma_words : List grammar.column.D → List Symbol
comma_words ds = all_words (λ d. k.Mark m.Comma ∷ grammar.column.words d) ds

abbrev Parts : Type 0
Parts = List grammar.column.D × Option grammar.key.D

abbrev parts : (n : ℕ) → (Tail n).D → Parts
parts zero d = ([], d)
parts (suc n) (One (One d)) = (d.0 ∷ (parts n d.1).0, (parts n d.1).1)
parts (suc n) (One (Other d)) = ([], Some d)
parts (suc n) (Other d) = ([], None)

abbrev parts_fit : Limits → Parts → Type 0
parts_fit lim x = all_fit (grammar.column.fits lim) x.0 × option_fits (grammar.key.fits lim) x.1

fit_parts : (lim : Limits) (n : ℕ) (d : (Tail n).D) → (Tail n).fits lim d → parts_fit lim (parts n d)
fit_parts lim zero d i = (tt, i)
fit_parts lim (suc n) (One (One d)) i = let j = fit_parts lim n d.1 i.1 in ((i.0, j.0), j.1)
fit_parts lim (suc n) (One (Other d)) i = (tt, i)
fit_parts lim (suc n) (Other d) i = (tt, tt)

parts_spelled : (n : ℕ) (d : (Tail n).D) → comma_words (parts n d).0 ++ option_words grammar.key.words (parts n d).1 ≡ (Tail n).words d
parts_spelled zero d = refl
parts_spelled (suc n) (One (One d)) = ap (λ z. k.Mark m.Comma ∷ z) (append_assoc (grammar.column.words d.0) (comma_words (parts n d.1).0) (option_words grammar.key.words (parts n d.1).1) ∙ ap (λ z. grammar.column.words d.0 ++ z) (parts_spelled n d.1))
parts_spelled (suc n) (One (Other d)) = refl
parts_spelled (suc n) (Other d) = refl

abbrev parts_mean : Parts → Rest
parts_mean x = (map grammar.column.value x.0, option_value grammar.key.value x.1)

parts_so : (n : ℕ) (d : (Tail n).D) → parts_mean (parts n d) ≡ (Tail n).value d
parts_so zero d = refl
parts_so (suc n) (One (One d)) = ap (λ (z : Rest). (grammar.column.value d.0 ∷ z.0, z.1)) (parts_so n d.1)
parts_so (suc n) (One (Other d)) = refl
parts_so (suc n) (Other d) = refl

abbrev of_parts : (n : ℕ) → List grammar.column.D → Option grammar.key.D → (Tail n).D
of_parts zero ds e = e
of_parts (suc n) [] None = Other tt
of_parts (suc n) [] (Some e) = One (Other e)
of_parts (suc n) (d ∷ ds) e = One (One (d, of_parts n ds e))

parts_back : (n : ℕ) (ds : List grammar.column.D) (e : Option grammar.key.D) → length ds ≤ n → parts n (of_parts n ds e) ≡ (ds, e)
parts_back zero [] e l = refl
parts_back zero (d ∷ ds) e l = absurd (omega (arith, l))
parts_back (suc n) [] None l = refl
parts_back (suc n) [] (Some e) l = refl
parts_back (suc n) (d ∷ ds) e l = ap (λ (z : Parts). (d ∷ z.0, z.1)) (parts_back n ds e (omega (arith, l)))

parts_fitting : (lim : Limits) (n : ℕ) (ds : List grammar.column.D) (e : Option grammar.key.D) → length ds ≤ n → all_fit (grammar.column.fits lim) ds → option_fits (grammar.key.fits lim) e → (Tail n).fits lim (of_parts n ds e)
parts_fitting lim zero ds e l i j = j
parts_fitting lim (suc n) [] None l i j = tt
parts_fitting lim (suc n) [] (Some e) l i j = j
parts_fitting lim (suc n) (d ∷ ds) e l i j = (i.0, parts_fitting lim n ds e (omega (arith, l)) i.1 j)

abbrev whole_parts : (n : ℕ) → (List_by n).D → Listing.D
whole_parts n d = ((d.0, (parts n d.1).0), (parts n d.1).1)

listing_good : (lim : Limits) (ts : List Symbol) → Good (Listing.fits lim) Listing.words Listing.value ts (both columns key ts)
listing_good lim ts = subst (Good (Listing.fits lim) Listing.words Listing.value ts) (sym (listed_so (length ts) ts (omega arith)))
    (good_as ((List_by (length ts)).fits lim) (List_by (length ts)).words (List_by (length ts)).value (Listing.fits lim) Listing.words Listing.value (whole_parts (length ts))
    (λ d i. let j = fit_parts lim (length ts) d.1 i.1 in ((i.0, j.0), j.1))
    (λ d. append_assoc (grammar.column.words d.0) (comma_words (parts (length ts) d.1).0) (option_words grammar.key.words (parts (length ts) d.1).1) ∙ ap (λ z. grammar.column.words d.0 ++ z) (parts_spelled (length ts) d.1))
    (λ d. ap (λ (z : Rest). (grammar.column.value d.0 ∷ z.0, z.1)) (parts_so (length ts) d.1))
    ts (list_by (length ts) ts) (((list_by_of (length ts)).right lim).good ts))

listing_reads : (lim : Limits) (d : Listing.D) (rest : List Symbol) → Listing.fits lim d → Closed rest → both columns key (Listing.words d ++ rest) ≡ Reads (Listing.value d) rest
listing_reads lim d rest i st =
    let n = length (Listing.words d ++ rest) + length d.0.1 in
    let e = of_parts n d.0.1 d.1 in
    let back = parts_back n d.0.1 d.1 (omega arith) in
    let tailed : (Tail n).words e ≡ comma_words d.0.1 ++ option_words grammar.key.words d.1 = sym (parts_spelled n e) ∙ ap (λ (z : Parts). comma_words z.0 ++ option_words grammar.key.words z.1) back in
    let spelled : Listing.words d ≡ grammar.column.words d.0.0 ++ (Tail n).words e = append_assoc (grammar.column.words d.0.0) (comma_words d.0.1) (option_words grammar.key.words d.1) ∙ ap (λ z. grammar.column.words d.0.0 ++ z) (sym tailed) in
    let meant : (Tail n).value e ≡ parts_mean (d.0.1, d.1) = sym (parts_so n e) ∙ ap parts_mean back in
    listed_so n (Listing.words d ++ rest) (omega arith)
    ∙ (ap (λ z. list_by n (z ++ rest)) spelled
    ∙ (((list_by_of n).right lim).reads (d.0.0, e) rest (i.0.0, parts_fitting lim n d.0.1 d.1 (omega arith) i.0.1 i.1) st
    ∙ ap (λ (z : Rest). Reads (grammar.column.value d.0.0 ∷ z.0, z.1) rest) meant))

all_grow : (lim lim' : Limits) (ds : List grammar.column.D) → IsWider lim lim' → all_fit (grammar.column.fits lim) ds → all_fit (grammar.column.fits lim') ds
all_grow lim lim' [] wide i = tt
all_grow lim lim' (d ∷ ds) wide i = (column_of.grows lim lim' d wide i.0, all_grow lim lim' ds wide i.1)

listing_of : MastersBefore Closed Listing (λ lim. both columns key)
listing_of = record {
  right = λ lim. record { good = listing_good lim; reads = listing_reads lim };
  grows = λ lim lim' d wide i. ((column_of.grows lim lim' d.0.0 wide i.0.0, all_grow lim lim' d.0.1 wide i.0.1), key_of.grows lim lim' d.1 wide i.1);
  regular = λ e v v' h lim lim' wide. record {
    shrinks = λ ts. subst (Within (length ts)) (sym (listed_so (length ts) ts (omega arith))) (((list_by_of (length ts)).regular e v v' h lim lim' wide).shrinks ts);
    shrinks_too = λ ts. subst (Within (length ts)) (sym (listed_so (length ts) ts (omega arith))) (((list_by_of (length ts)).regular e v v' h lim lim' wide).shrinks_too ts);
    tracks = λ p. let n = length (p ++ v) + length (p ++ v') in
        subst (λ z. Track e v v' h z (both columns key (p ++ v'))) (sym (listed_so n (p ++ v) (omega arith)))
        (subst (λ z. Track e v v' h (list_by n (p ++ v)) z) (sym (listed_so n (p ++ v') (omega arith))) (((list_by_of n).regular e v v' h lim lim' wide).tracks p));
  };
}

-- ---- the whole

body_of : MastersBefore Anything (m.Open ◁ Listing ▷ m.Close) (λ lim. body)
unfolding body same_mark
body_of = behind_mark (before_mark listing_of m.Close (λ rest. (refl, (refl, (refl, refl))))) m.Open

pub create_of : MastersBefore IsOver grammar.create (λ lim. create)
unfolding create
create_of = followed_by (made_of (and_then_by (behind_mark (behind_mark if_not_exists_of m.Table) m.Create) (and_then_by name_of body_of (λ lim d rest i st. tt)) (λ lim d rest i st. refl)) (λ x. record { if_not_exists = x.0; table = x.1.0; columns = x.1.1.0; key = x.1.1.1 })) (λ rest h. tt)

over_ended : (rest : List Symbol) → IsOver rest → Ended rest
over_ended [] h = (refl, (refl, refl))
over_ended (t ∷ ts) h = absurd h

pub alter_of : MastersBefore IsOver grammar.alter (λ lim. alter)
unfolding alter
alter_of = made_of (and_then_by (behind_mark (behind_mark name_of m.Table) m.Alter)
    (behind_mark (made_of (and_then_by (eat_of m.Column) (followed_by column_of over_ended) (λ lim d rest i st. refl)) (λ x. x.1)) m.Add) (λ lim d rest i st. tt)) (λ x. record { table = x.0; column = x.1 })
