-- An INSERT wants the same rows to come whatever rows are shown, and is judged alike.
use Rattle.std.proofs.Common.{◌≡◌, List, ◌++◌, Option, Some, None, refl, sym, ap, ◌∙◌}
use Rattle.std.specs.Option.{option_map}
use Rattle.std.proofs.lemmas.List.{append_cancel_left}
use Rattle.cr_lattice.specs.declared.table.ColumnDef.{ColumnDef}
use Rattle.cr_lattice.specs.Rows.{rows}
use Rattle.cr_query.specs.Query.{Row, Meaning}
use Rattle.cr_query.specs.Queries.{Insert}
use Rattle.cr_query.specs.Writes.{inserted_rows, wanted_by_insert}
use Rattle.cr_touched.specs.Parts.{keys_of, is_key_of, under_keys}
use Rattle.cr_touched.specs.Inserts.{verdict, InsertsAreJudgedAlike, InsertsFaultAlike}
use Rattle.cr_touched.proofs.Inserts.{keys_pass, same_verdict}

some_is : {A : Type 0} (a b : A) → Some a ≡ Some b → a ≡ b
some_is a b e = cc

-- the rows that come, of those that are wanted
what_comes : {E : Type 0} (m : Meaning E) (cols : List ColumnDef) (w : Insert E) (shown out : List Row) → wanted_by_insert m cols w shown ≡ Some out
    → (more : List Row) × (inserted_rows m cols w ≡ Some more) × (shown ++ more ≡ out)
what_comes m cols w shown out e = by (inserted_rows m cols w) refl e where
  by : (o : Option (List Row)) → inserted_rows m cols w ≡ o → option_map (λ more. shown ++ more) o ≡ Some out
      → (more : List Row) × (inserted_rows m cols w ≡ Some more) × (shown ++ more ≡ out)
  by None i e = absurd cc
  by (Some more) i e = (more, i, some_is (shown ++ more) out e)

pub fault_alike : {E : Type 0} → InsertsFaultAlike E
fault_alike m cols w some all e = by (inserted_rows m cols w) e where
  by : (o : Option (List Row)) → option_map (λ more. some ++ more) o ≡ None → option_map (λ more. all ++ more) o ≡ None
  by None e = refl
  by (Some more) e = absurd cc

pub judged_alike : {E : Type 0} → InsertsAreJudgedAlike E
judged_alike m n w def site kept more v keyed defaults are comes j =
    let some = rows (under_keys def more kept) def in
    let a = what_comes m def.columns w some j.wanted j.by_one in
    let b = what_comes n def.columns w some j.wanted j.by_other in
    let one : more ≡ a.0 = some_is more a.0 (sym comes ∙ a.1) in
    let is : some ++ more ≡ j.wanted = ap (λ l. some ++ l) one ∙ a.2 in
    let other : b.0 ≡ more = append_cancel_left some b.0 more (b.2 ∙ sym is) in
    record {
      wanted = rows kept def ++ more;
      by_one = ap (option_map (λ l. rows kept def ++ l)) comes;
      by_other = ap (option_map (λ l. rows kept def ++ l)) (b.1 ∙ ap Some other);
      told =
          same_verdict def keyed defaults kept are more (is_key_of (keys_of def more)) (keys_pass def more) site
          ∙ ap (verdict def site (under_keys def more kept)) is
          ∙ j.told;
    }
