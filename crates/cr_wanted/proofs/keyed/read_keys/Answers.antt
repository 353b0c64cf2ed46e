use Rattle.cr_wanted.proofs.Keys.{all_keyed}
use Rattle.cr_wanted.proofs.keyed.read_keys.Goals as goal

pub returns : goal.returns
returns c = all_keyed c.args.def.now c.requires.key c.args.rows.now c.requires.width c.requires.long c.requires.nulls c.read_rows.ensures
