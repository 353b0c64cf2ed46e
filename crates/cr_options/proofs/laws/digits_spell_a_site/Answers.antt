use Rattle.cr_options.proofs.Digits.{digits_spell, site_is_spelled}
use Rattle.cr_options.proofs.laws.digits_spell_a_site.Goals as goal

pub returns-clause-spelled : goal.returns-clause-spelled
returns-clause-spelled c = site_is_spelled

pub returns-clause-spells : goal.returns-clause-spells
returns-clause-spells c = digits_spell 16
