-- What a plan writes is of tables that are there.
use Rattle.std.proofs.Common.{◌≡◌, ℤ, pos, true, List, [], ◌∷◌, map, sym, subst}
use Rattle.std.specs.Prelude.{filter}
use Rattle.std.specs.List.{AllByRecursion}
use Rattle.cr_lattice.specs.declared.change.Change.{Change}
use Rattle.cr_lattice.specs.declared.stamped.Stamped.{Stamped}
use Rattle.cr_lattice.specs.declared.table.Table.{Table}
use Rattle.cr_lattice.specs.Keep.{keep}
use Rattle.cr_lattice.proofs.KeepLaws.{kept_from}
use Rattle.cr_cells.specs.Commit.{stamped}
use Rattle.cr_cells.specs.Holding.{changes_of}
use Rattle.cr_cells.specs.Tables.{AreWellFormed}
use Rattle.cr_cells.proofs.MemberLemmas.{all_at, all_from, Among-filter}
use Rattle.cr_store.specs.declared.plan.New.{New}
use Rattle.cr_store.specs.declared.plan.Plan.{Plan}
use Rattle.cr_store.specs.Ordinals.{has_table, IsNamed}
use Rattle.cr_store.specs.Plan.{is_new, IsPlan}
use Rattle.cr_store.proofs.CommitCells.{changes_of-stamped}
use Rattle.cr_store.proofs.CommitKeys.{In-Among, Among-In}
use Rattle.cr_store.proofs.OrdinalLemmas.{named_change, named_by_change}

module _ (ts : List Table) where
  abbrev Named : Change → Type 0
  Named c = has_table ts c.table ≡ true

  of_news : (ns : List New) → AllByRecursion (IsNamed ts) (map (λ n. n.cell) ns) → AllByRecursion (λ n. IsNamed ts n.cell) ns
  of_news [] all = tt
  of_news (n ∷ ns) all = (all.0, of_news ns all.1)

  pub named_news : (ss : List Stamped) (more : List Change) (version : ℤ) (p : Plan) → AreWellFormed ts more → IsPlan ss (keep more) version p → AllByRecursion (λ n. IsNamed ts n.cell) p.news.items
  named_news ss more version p well plan =
      let come = filter (is_new (changes_of ss)) (keep more) in
      let each = named_change ts more well in
      let kept : AllByRecursion Named (keep more) = all_from Named (keep more) (λ c a. all_at Named more c each (In-Among more c (kept_from more c (Among-In (keep more) c a)).member)) in
      let new : AllByRecursion Named come = all_from Named come (λ c a. all_at Named (keep more) c kept (Among-filter (is_new (changes_of ss)) (keep more) c a).0) in
      let cells = named_by_change ts (stamped version (pos 0) come) (subst (AllByRecursion Named) (sym (changes_of-stamped version (pos 0) come)) new) in
      of_news p.news.items (subst (AllByRecursion (IsNamed ts)) (sym plan.news) cells)
