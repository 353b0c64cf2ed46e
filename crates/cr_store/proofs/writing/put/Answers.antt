use Rattle.cr_store.proofs.writing.put.Goals as goal

pub returns-else-new-clause-put : goal.returns-else-new-clause-put
returns-else-new-clause-put g c clean a b o d ss there it = rw c.if-new.false (c.insert.ensures.put clean a b o d ss there it)
