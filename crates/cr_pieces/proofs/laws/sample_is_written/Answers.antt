use Rattle.cr_pieces.proofs.Sample.{sample_text, sample_written}
use Rattle.cr_pieces.proofs.laws.sample_is_written.Goals as goal

pub returns : goal.returns
returns c = (sample_written, sample_text)
