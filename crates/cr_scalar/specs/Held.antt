-- The value that an operand holds, wherever it stands.
use Rattle.cr_value.specs.declared.value.Value.{Value}
use Rattle.cr_scalar.specs.declared.operand.Source.{Source}
use Rattle.cr_scalar.specs.declared.operand.Source.TheVariants.{Standing, Made}

abbrev pub held : Source → Value
held (Standing v) = v.now
held (Made v) = v
