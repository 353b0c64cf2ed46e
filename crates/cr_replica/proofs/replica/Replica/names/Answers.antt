use Rattle.std.proofs.Common.{◌∙◌, ap, sym, w64, to_z-of_z, rules}
use Rattle.std.specs.List.{list_all}
use Rattle.cr_lattice.specs.Keep.{in_order, keep}
use Rattle.cr_cells.specs.Holding.{Holding}
use Rattle.cr_replica.specs.Snapshots.{is_in_profile}
use Rattle.cr_replica.proofs.replica.Replica.names.Goals as goal

pub returns-clause-reads : goal.returns-clause-reads
returns-clause-reads g c = λ clean.
    let read = c.in-Ok.ensures.reads clean in
    record {
      same = read.same ∙ ap g.C.Cells.holding c.self.view_is;
      answers = record {
        tables = c.new.ensures ∙ read.answers ∙ ap (λ (inside : _). (g.C.Cells.holding inside).tables) c.self.view_is;
        site = c.site.ensures clean ∙ ap (λ (h : Holding). h.site) (read.same ∙ ap g.C.Cells.holding c.self.view_is);
        version = to_z-of_z {w = w64} {z = c.db_version.result} (search rules) ∙ c.db_version.ensures.version clean ∙ ap (λ (h : Holding). h.version) (read.same ∙ ap g.C.Cells.holding c.self.view_is);
        no_modules = c.new-7.ensures ∙ c.new-6.ensures.items;
      };
    }

pub returns-clause-empty : goal.returns-clause-empty
returns-clause-empty g c = (c.new-3.ensures ∙ c.new-2.ensures.items, c.new-5.ensures ∙ c.new-4.ensures.items)

pub returns-clause-whole : goal.returns-clause-whole
unfolding keep in_order
returns-clause-whole g c = record {
  tables = ap (list_all is_in_profile) (c.new.ensures ∙ sym c.deref.ensures.value) ∙ sym c.are_in_profile.ensures ∙ search rules;
  kept = ap keep (c.new-5.ensures ∙ c.new-4.ensures.items) ∙ sym (c.new-5.ensures ∙ c.new-4.ensures.items);
  no_modules = c.new-7.ensures ∙ c.new-6.ensures.items;
}
