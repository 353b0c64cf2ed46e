-- What a query over one table answers.
use Rattle.std.proofs.Common.{◌≡◌, ℕ, ℤ, pos, negsuc, ◌+◌, ◌<◌, List, [], ◌∷◌, ◌++◌, length, map, filter, flat_map, Bool, true, false, cond, None, refl, sym, ap, subst, ◌∙◌, All}
use Rattle.std.specs.List.{list_all}
use Rattle.std.specs.List.Sorted.{IsPermutation, IsSorted, IsSortedBy}
use Rattle.std.specs.Ordering.{is_lt}
use Rattle.std.proofs.Common.{arith}
use Rattle.std.proofs.lemmas.List.{length-map}
use Rattle.std.specs.List.{AllByRecursion}
use Rattle.std.proofs.Math.ListN.{get_or-map}
use Rattle.std.proofs.lemmas.List.Elements.{All-from_recursion}
use Rattle.sqlite_trees.proofs.ListLemmas.{all-permutation}
use Rattle.std.proofs.lemmas.List.Sorted.{IsPermutation-map, IsPermutation-sym}
use Rattle.sqlite.specs.declared.types.Value.TheVariants.{Null, Int}
use Rattle.sqlite.specs.Order.{Row}
use Rattle.sqlite.specs.Term.{Term, lit, eval_all, holds}
use Rattle.sqlite.specs.Query.{Query, inner, end, IsAnswer, output, Output, output_cmp, key_cmp}
use Rattle.sqlite_value.specs.declared.keys.Key.{Key}
use Rattle.sqlite.specs.Program.{overlay}
use Rattle.sqlite_sql.specs.Program.{IsProgramAnswer}
use Rattle.sqlite_trees.specs.Tree.{Trees}
use Rattle.sqlite.specs.Command.TheVariants.{Select}
use Rattle.sqlite.specs.Schema.{Schema}
use Rattle.sqlite.specs.State.{State, Shown}
use Rattle.sqlite.specs.Listing.{understood, reads_listing}
use Rattle.sqlite.proofs.Callers.{IsPlain, command_of, reads_as}
use Rattle.sqlite_rules.specs.Lists.{Has}
use Rattle.sqlite_rules.proofs.ListLemmas.{has_filtered}
use Rattle.sqlite_rules.proofs.ProbeLemmas.{has_mapped, mapped_has}
use Rattle.cr_rows.specs.Rows.{Lists, SameRows}
use Rattle.cr_rows.proofs.RowLemmas.{has_permuted, listed_kept, kept_listed}

-- SELECT project FROM the tree WHERE terms ORDER BY order
abbrev pub plain_query : ℕ → List Term → List Term → List (Term × Key) → Query
plain_query tree terms project order = record {
  from = inner tree end;
  filter = terms;
  group = None;
  project = project;
  distinct = false;
  collations = [];
  order = order;
  limit = lit (Int (negsuc 0));
  offset = lit (Int (pos 0));
}

-- the rows that pass, as the query shows them
abbrev pub passes_all : List Term → Row → Row → Bool
passes_all terms params r = list_all (holds (params ∷ r ∷ [])) terms

abbrev pub shown_from : List Term → List Term → Row → List Row → List Row
shown_from terms project params rows = map (λ r. eval_all project (params ∷ r ∷ [])) (filter (passes_all terms params) rows)

pub record HasAnswered (terms project : List Term) (order : List (Term × Key)) (params : Row) (rows answer : List Row) : Type 0 where
  pub same : IsPermutation (shown_from terms project params rows) answer
  pub sorted : (pick : Row → Row) → ((r : Row) → eval_all (map (λ k. k.0) order) (params ∷ r ∷ []) ≡ pick (eval_all project (params ∷ r ∷ [])))
      → IsSortedBy (λ x y. is_lt (key_cmp 0 (map (λ k. k.1) order) (pick x) (pick y))) answer

module _ (tree : ℕ) (terms project : List Term) (order : List (Term × Key)) (params : Row) where
  abbrev q : Query
  q = plain_query tree terms project order

  outputs : (rows : List Row) → map (λ (o : Output). o.1) (map (output q) (flat_map (λ r. cond (passes_all terms params r) ((params ∷ r ∷ []) ∷ []) []) rows)) ≡ shown_from terms project params rows
  outputs [] = refl
  outputs (r ∷ rows) = go (passes_all terms params r) (outputs rows)
    where
      go : (b : Bool) → map (λ (o : Output). o.1) (map (output q) (flat_map (λ r. cond (passes_all terms params r) ((params ∷ r ∷ []) ∷ []) []) rows)) ≡ shown_from terms project params rows
          → map (λ (o : Output). o.1) (map (output q) (cond b ((params ∷ r ∷ []) ∷ []) [] ++ flat_map (λ r. cond (passes_all terms params r) ((params ∷ r ∷ []) ∷ []) []) rows))
          ≡ map (λ r. eval_all project (params ∷ r ∷ [])) (cond b (r ∷ filter (passes_all terms params) rows) (filter (passes_all terms params) rows))
      go true later = ap (λ all. eval_all project (params ∷ r ∷ []) ∷ all) later
      go false later = later

  picked : (pick : Row → Row) → ((r : Row) → eval_all (map (λ k. k.0) order) (params ∷ r ∷ []) ≡ pick (eval_all project (params ∷ r ∷ []))) → (rows : List Row)
      → AllByRecursion (λ (o : Output). o.0 ≡ pick o.1) (map (output q) (flat_map (λ r. cond (passes_all terms params r) ((params ∷ r ∷ []) ∷ []) []) rows))
  picked pick keyed [] = tt
  picked pick keyed (r ∷ rows) = go (passes_all terms params r) (picked pick keyed rows)
    where
      go : (b : Bool) → AllByRecursion (λ (o : Output). o.0 ≡ pick o.1) (map (output q) (flat_map (λ r. cond (passes_all terms params r) ((params ∷ r ∷ []) ∷ []) []) rows))
          → AllByRecursion (λ (o : Output). o.0 ≡ pick o.1) (map (output q) (cond b ((params ∷ r ∷ []) ∷ []) [] ++ flat_map (λ r. cond (passes_all terms params r) ((params ∷ r ∷ []) ∷ []) []) rows))
      go true later = (keyed r, later)
      go false later = later

  picked_sort : (pick : Row → Row) (outs : List Output) → All (λ (o : Output). o.0 ≡ pick o.1) outs → IsSorted (output_cmp q) outs
      → IsSortedBy (λ x y. is_lt (key_cmp 0 (map (λ k. k.1) order) (pick x) (pick y))) (map (λ (o : Output). o.1) outs)
  picked_sort pick outs each up k d low high =
      let default : Output = (pick d, d) in
      let within : k + 1 < length outs = simp length-map at high in
      let here = up k default low within in
      rw (get_or-map (λ (o : Output). o.1) outs (k + 1) default, get_or-map (λ (o : Output). o.1) outs k default, ← each (k + 1) default within, ← each k default (omega arith)) here

  pub answers : (db : Trees) (answer : List Row) → overlay db [] tree ≡ db tree → IsProgramAnswer [] q db params answer → HasAnswered terms project order params (db tree) answer
  answers db answer here h =
      let a : IsAnswer q (overlay db []) params answer = h Null in
      let staged : a.staged ≡ flat_map (λ r. cond (passes_all terms params r) ((params ∷ r ∷ []) ∷ []) []) (db tree) = a.grouped ∙ rw here in
      let kept : map (λ (o : Output). o.1) a.kept ≡ shown_from terms project params (db tree) = ap (map (λ (o : Output). o.1)) (a.distinct ∙ ap (map (output q)) staged) ∙ outputs (db tree) in
      let shown : answer ≡ map (λ (o : Output). o.1) a.ordered = a.shown in
      let moved = IsPermutation-map (λ (o : Output). o.1) a.kept a.ordered a.same in
      record {
        same = subst (λ xs. IsPermutation xs answer) kept (subst (IsPermutation (map (λ (o : Output). o.1) a.kept)) (sym shown) moved);
        sorted = λ pick keyed.
            let from : AllByRecursion (λ (o : Output). o.0 ≡ pick o.1) a.kept =
            subst (AllByRecursion (λ (o : Output). o.0 ≡ pick o.1)) (sym (a.distinct ∙ ap (map (output q)) staged)) (picked pick keyed (db tree)) in
            let each = All-from_recursion (λ (o : Output). o.0 ≡ pick o.1) a.ordered (all-permutation (λ (o : Output). o.0 ≡ pick o.1) a.kept a.ordered a.same from) in
            subst (IsSortedBy (λ x y. is_lt (key_cmp 0 (map (λ k. k.1) order) (pick x) (pick y)))) (sym shown) (picked_sort pick a.ordered each a.sorted);
      }

-- a query that is run reads the rows of its table
pub asks : (schema : Schema) (sql : List ℕ) (tree : ℕ) (terms project : List Term) (order : List (Term × Key)) (names : List (List ℕ)) (params : Row) (old new : State) (rows : List Row)
    → command_of (understood schema sql) ≡ Select (record { lets = []; body = plain_query tree terms project order }) names → IsPlain (understood schema sql) → reads_listing schema sql ≡ false
    → overlay old.now.trees [] tree ≡ old.now.trees tree → old.now.schema ≡ schema → Shown sql params old new rows → HasAnswered terms project order params (old.now.trees tree) rows
asks schema sql tree terms project order names params old new rows is plain unlisted here has h =
    let read = reads_as sql params old new schema has _ is plain unlisted rows h in answers tree terms project order params old.now.trees rows here read.answer

-- the rows of an answer are those that are listed and pass
pub lists_answered : (terms project : List Term) (order : List (Term × Key)) (params : Row) (rows answer shown : List Row) (test : Row → Bool)
    → ((id : ℤ) (x : Row) → Has shown x → passes_all terms params (Int id ∷ x) ≡ test x) → ((id : ℤ) (x : Row) → Has shown x → eval_all project (params ∷ (Int id ∷ x) ∷ []) ≡ x)
    → Lists rows shown → HasAnswered terms project order params rows answer → SameRows (filter test shown) answer
lists_answered terms project order params rows answer shown test same shows it asked = record { to = to; from = from }
  where
    to : (x : Row) → Has (filter test shown) x → Has answer x
    to x h =
        let c = kept_listed (passes_all terms params) test rows shown same it x h in
        let was = has_filtered test shown x h in
        has_permuted (shown_from terms project params rows) answer x asked.same
        (subst (Has (shown_from terms project params rows)) (shows c.0 x was.0) (mapped_has (λ r. eval_all project (params ∷ r ∷ [])) (filter (passes_all terms params) rows) (Int c.0 ∷ x) c.1))

    from : (r : Row) → Has answer r → Has (filter test shown) r
    from r h =
        let source = has_mapped (λ r. eval_all project (params ∷ r ∷ [])) (filter (passes_all terms params) rows) r (has_permuted answer (shown_from terms project params rows) r (IsPermutation-sym _ _ asked.same) h) in
        let was = has_filtered (passes_all terms params) rows source.0 source.1 in
        let l = listed_kept (passes_all terms params) test rows shown same it source.0 was.0 was.1 in
        let kept = has_filtered test shown l.1 l.3 in
        subst (Has (filter test shown)) (sym (source.2 ∙ ap (λ z. eval_all project (params ∷ z ∷ [])) l.2 ∙ shows l.0 l.1 kept.0)) l.3
