use Rattle.std.proofs.Common.{ℤ, ◌≤ℤ◌, ◌∙◌, ap, refl, rules, subst, sym}
use Rattle.cr_cells.specs.Holding.{Holding, IsSound}
use Rattle.cr_replica.proofs.Above.{nothing_above}
use Rattle.cr_replica.proofs.replica.Replica.changes_above.Goals as goal

pub returns-then-version-db_version-clause-reads : goal.returns-then-version-db_version-clause-reads
returns-then-version-db_version-clause-reads g c = λ clean.
    let within = subst g.C.Cells.is_clean (sym c.self.view_is) clean in
    let there = ap g.C.Cells.holding c.self.view_is in
    let past : c.db_version.result ≤ℤ c.args.version = search rules in
    record {
      same = refl;
      answers = c.new.ensures.items ∙ sym (nothing_above (g.C.Cells.holding c.args.self.now) c.args.version (subst IsSound there (c.db_version.ensures.sound within))
          (subst (λ (n : ℤ). n ≤ℤ c.args.version) (c.db_version.ensures.version within ∙ ap (λ (h : Holding). h.version) there) past));
    }
