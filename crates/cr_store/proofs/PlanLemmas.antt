-- What a change makes of a plan, from the cells of its row.
use Rattle.std.proofs.Common.{◌≡◌, inl, inr, ℤ, pos, ◌+ℤ◌, ℕ, ◌+◌, Bool, true, false, cond, List, [], ◌∷◌, ◌++◌, map, length, suc, refl, sym, ap, ◌∙◌, subst, arith}
use Rattle.std.proofs.lemmas.List.{append-nil, map-append}
use Rattle.std.proofs.lemmas.List.Elements.{filter-append}
use Rattle.std.proofs.lemmas.List.Concat.{flat_map-append}
use Rattle.std.specs.Prelude.{filter}
use Rattle.std.specs.List.{AllByRecursion}
use Rattle.cr_lattice.specs.declared.change.Change.{Change}
use Rattle.cr_lattice.specs.declared.stamped.Stamped.{Stamped}
use Rattle.cr_lattice.specs.Change.{beats}
use Rattle.cr_lattice.specs.ChangeOrder.{row_exact}
use Rattle.cr_lattice.specs.Rows.{is_of_row}
use Rattle.cr_lattice.proofs.ChangeLaws.{Beats-beats}
use Rattle.cr_lattice.proofs.Tested.{and_true}
use Rattle.cr_cells.specs.Holding.{changes_of, cells_of}
use Rattle.cr_cells.specs.Commit.{stamped, is_new_in}
use Rattle.cr_cells.proofs.MemberLemmas.{split}
use Rattle.cr_cells.proofs.NewLemmas.{fails, any_of_part, of_row, new_by_row}
use Rattle.cr_store.specs.declared.plan.New.{New}
use Rattle.cr_store.specs.declared.plan.Plan.{Plan}
use Rattle.cr_store.specs.Plan.{is_new, removes, gone_by, is_there, IsPlan}
use Rattle.cr_store.specs.Words.{same_key}
use Rattle.cr_store.proofs.CommitKeys.{one_key}

-- ---- what only cells of a row pass

part_of_part : (p : Change → Bool) (q : Stamped → Bool) → ((s : Stamped) → p s.change ≡ true → q s ≡ true) → (ss : List Stamped) → filter p (changes_of (filter q ss)) ≡ filter p (changes_of ss)
part_of_part p q f [] = refl
part_of_part p q f (s ∷ ss) =
    elim (split (q s)) [
      | inl so ↦ rw so (ap (λ l. cond (p s.change) (s.change ∷ l) l) (part_of_part p q f ss))
      | inr not_so ↦ rw (not_so, fails (p s.change) (q s) (f s) not_so) (part_of_part p q f ss)
    ]

row_of_loser : (c d : Change) → beats c d ≡ true → is_of_row c.table c.pk d ≡ true
row_of_loser c d e = let r = row_exact c d (Beats-beats c d e).row in of_row c d (sym r.0) (sym r.1)

row_of_key : (c d : Change) → same_key d c ≡ true → is_of_row c.table c.pk d ≡ true
row_of_key c d e = let k = one_key d c e in of_row c d k.table k.pk

-- ---- by the cells of the row

pub is_there-row : (ss : List Stamped) (c : Change) → is_there (cells_of ss c.table c.pk) c ≡ is_there ss c
unfolding cells_of
is_there-row ss c = any_of_part (λ s. same_key s.change c) (λ s. is_of_row c.table c.pk s.change) (λ s. row_of_key c s.change) ss

removes-row : (ss : List Stamped) (c : Change) → filter (removes c) (changes_of (cells_of ss c.table c.pk)) ≡ filter (removes c) (changes_of ss)
unfolding cells_of
removes-row ss c = part_of_part (removes c) (λ s. is_of_row c.table c.pk s.change) (λ s e. row_of_loser c s.change (and_true _ _ e).0) ss

-- ---- one more change

length-stamped : (version seq : ℤ) (cs : List Change) → length (stamped version seq cs) ≡ length cs
length-stamped version seq [] = refl
length-stamped version seq (c ∷ cs) = ap (λ n. suc n) (length-stamped version (seq +ℤ pos 1) cs)

stamped_more : (version : ℤ) (n : ℕ) (cs : List Change) (c : Change) → stamped version (pos n) (cs ++ c ∷ []) ≡ stamped version (pos n) cs ++ record { change = c; version = version; seq = pos (n + length cs) } ∷ []
stamped_more version n [] c = ap (λ (m : ℕ). (let s : Stamped = record { change = c; version = version; seq = pos m } in s) ∷ []) (omega arith)
stamped_more version n (d ∷ ds) c =
    let at : n + 1 + length ds ≡ n + suc (length ds) = omega arith in
    ap (λ l. record { change = d; version = version; seq = pos n } ∷ l)
    (stamped_more version (n + 1) ds c ∙ ap (λ (m : ℕ). stamped version (pos (n + 1)) ds ++ record { change = c; version = version; seq = pos m } ∷ []) at)

all-more : (P : New → Type 0) (ns : List New) (n : New) → AllByRecursion P ns → P n → AllByRecursion P (ns ++ n ∷ [])
all-more P [] n all here = (here, tt)
all-more P (m ∷ ms) n all here = (all.0, all-more P ms n all.1 here)

length-map : (ns : List New) → length (map (λ (n : New). n.cell) ns) ≡ length ns
length-map [] = refl
length-map (n ∷ ns) = ap (λ m. suc m) (length-map ns)

-- a change that does not come in leaves the plan
pub plan_stays : (ss : List Stamped) (cs : List Change) (c : Change) (version : ℤ) (p : Plan) (row : List Stamped) → row ≡ cells_of ss c.table c.pk → is_new_in row c ≡ false
    → IsPlan ss cs version p → IsPlan ss (cs ++ c ∷ []) version p
plan_stays ss cs c version p row from_row none plan =
    let old : is_new (changes_of ss) c ≡ false = sym (new_by_row ss c) ∙ ap (λ r. is_new_in r c) (sym from_row) ∙ none in
    let tail : filter (is_new (changes_of ss)) (c ∷ []) ≡ [] = rw old refl in
    let same : filter (is_new (changes_of ss)) (cs ++ c ∷ []) ≡ filter (is_new (changes_of ss)) cs =
    filter-append (is_new (changes_of ss)) cs (c ∷ []) ∙ ap (λ l. filter (is_new (changes_of ss)) cs ++ l) tail ∙ append-nil _ in
    record {
      news = plan.news ∙ ap (stamped version (pos 0)) (sym same);
      there = plan.there;
      gone = plan.gone ∙ ap (gone_by (changes_of ss)) (sym same);
    }

-- a change that comes in is the next cell, and removes what it beats under other keys
pub plan_grows : (ss : List Stamped) (cs : List Change) (c : Change) (version : ℤ) (p q : Plan) (row : List Stamped) (n : New) → row ≡ cells_of ss c.table c.pk → is_new_in row c ≡ true
    → n.cell ≡ record { change = c; version = version; seq = pos (length p.news.items) } → n.is_there ≡ is_there row c
    → q.news.items ≡ p.news.items ++ n ∷ [] → q.gone.items ≡ p.gone.items ++ filter (removes c) (changes_of row)
    → IsPlan ss cs version p → IsPlan ss (cs ++ c ∷ []) version q
plan_grows ss cs c version p q row n from_row some cell there grown gone plan =
    let kept : List Change = changes_of ss in
    let came : List Change = filter (is_new kept) cs in
    let new : is_new kept c ≡ true = sym (new_by_row ss c) ∙ ap (λ r. is_new_in r c) (sym from_row) ∙ some in
    let tail : filter (is_new kept) (c ∷ []) ≡ c ∷ [] = rw new refl in
    let more : filter (is_new kept) (cs ++ c ∷ []) ≡ came ++ c ∷ [] = filter-append (is_new kept) cs (c ∷ []) ∙ ap (λ l. came ++ l) tail in
    let same_length : length p.news.items ≡ length came = sym (length-map p.news.items) ∙ ap length plan.news ∙ length-stamped version (pos 0) came in
    let count : length p.news.items ≡ 0 + length came = omega arith in
    let told : n.is_there ≡ is_there ss n.cell.change = there ∙ ap (λ r. is_there r c) from_row ∙ is_there-row ss c ∙ ap (is_there ss) (ap (λ (s : Stamped). s.change) (sym cell)) in
    record {
      news =
          ap (map (λ (n : New). n.cell)) grown ∙ map-append (λ (n : New). n.cell) p.news.items (n ∷ []) ∙ ap (λ l. l ++ n.cell ∷ []) plan.news
          ∙ ap (λ (s : Stamped). stamped version (pos 0) came ++ s ∷ []) (cell ∙ ap (λ (m : ℕ). record { change = c; version = version; seq = pos m }) count)
          ∙ sym (stamped_more version 0 came c) ∙ ap (stamped version (pos 0)) (sym more);
      there = subst (AllByRecursion (λ n. n.is_there ≡ is_there ss n.cell.change)) (sym grown) (all-more (λ n. n.is_there ≡ is_there ss n.cell.change) p.news.items n plan.there told);
      gone =
          gone ∙ ap (λ l. l ++ filter (removes c) (changes_of row)) plan.gone ∙ ap (λ r. gone_by kept came ++ filter (removes c) (changes_of r)) from_row
          ∙ ap (λ l. gone_by kept came ++ l) (removes-row ss c ∙ sym (append-nil _)) ∙ sym (flat_map-append (λ c. filter (removes c) kept) came (c ∷ [])) ∙ ap (gone_by kept) (sym more);
    }
