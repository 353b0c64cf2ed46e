use Rattle.cr_modules.proofs.Places.{still_distinct, there, updates, updates_none}
use Rattle.cr_modules.proofs.modules.Modules.update.Goals as goal

pub update-requires : goal.update-requires
update-requires g c =
    c.requires _ (there _ c.args.name.now c.deref.result.now c.args.self.now.list.items c.deref.ensures.value c.in-Some.at c.index_mut.result.now c.in-Some.ensures c.index_mut.ensures.value)

pub invariant_of-self : goal.invariant_of-self
invariant_of-self g c = record {
  distinct = still_distinct (λ r. r.name) c.args.self.now.list.items c.in-Some.at c.index_mut.result.now c.update.new.self c.index_mut.ensures.value c.update.ensures.name c.args.self.now.distinct;
}

pub returns-in-Some : goal.returns-in-Some
returns-in-Some g c =
    updates _ c.args.name.now c.args.rows.now c.deref.result.now c.args.self.now.list.items c.deref.ensures.value c.in-Some.at c.index_mut.result.now c.update.new.self c.update.result
    c.in-Some.ensures c.index_mut.ensures.value c.args.self.now.distinct c.update.ensures.updated

pub returns-in-None : goal.returns-in-None
returns-in-None g c = updates_none _ c.args.name.now c.args.rows.now c.deref.result.now c.args.self.now.list.items c.deref.ensures.value c.in-None.ensures
