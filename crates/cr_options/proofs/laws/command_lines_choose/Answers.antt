use Rattle.cr_options.proofs.Lines.{both_line, file_line, fleet_line, help_line, joined_line, site_line, stray_line, version_line}
use Rattle.cr_options.proofs.Digits.{digits_are_value, site_is_spelled}
use Rattle.cr_options.proofs.laws.command_lines_choose.Goals as goal

pub returns-clause-fleet : goal.returns-clause-fleet
returns-clause-fleet c = fleet_line

pub returns-clause-store : goal.returns-clause-store
returns-clause-store c = file_line

pub returns-clause-joined : goal.returns-clause-joined
returns-clause-joined c = joined_line

pub returns-clause-site : goal.returns-clause-site
returns-clause-site c = λ program name digits site h spelled size.
    both_line program name digits _ h (digits_are_value digits site spelled size) ((site_is_spelled digits site).1 (spelled, size))

pub returns-clause-no_site : goal.returns-clause-no_site
returns-clause-no_site c = λ program name word h k none. both_line program name word _ h k none

pub returns-clause-site_alone : goal.returns-clause-site_alone
returns-clause-site_alone c = site_line

pub returns-clause-stray : goal.returns-clause-stray
returns-clause-stray c = stray_line

pub returns-clause-help : goal.returns-clause-help
returns-clause-help c = λ program. (help_line program, version_line program)
