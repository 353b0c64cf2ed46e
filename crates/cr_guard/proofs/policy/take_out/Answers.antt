use Rattle.std.proofs.Common.{rules}
use Rattle.std.specs.Prelude.{not}
use Rattle.std.proofs.lemmas.Fn.{filter_same}
use Rattle.cr_guard.specs.Policy.{speaks_of}
use Rattle.cr_guard.proofs.policy.take_out.Goals as goal

pub returns-clause-rest : goal.returns-clause-rest
returns-clause-rest c = filter_same _ (λ r. not (speaks_of c.args.table.now c.args.column.now r)) _ (λ x b f' called. search rules) _ _ c.retain.ensures.filtered
