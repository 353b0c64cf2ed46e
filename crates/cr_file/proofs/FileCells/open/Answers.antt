use Rattle.cr_file.proofs.FileCells.open.Goals as goal

pub returns-in-Err-clause-same : goal.returns-in-Err-clause-same
returns-in-Err-clause-same c = c.in-Err.ensures.same
