use Rattle.std.proofs.Common.{ℕ, ◌∙◌, ap}
use Rattle.std.proofs.Math.Dec.{leb}
use Rattle.embedding.specs.Counted.{end_of}
use Rattle.embedding.proofs.Counting.{end_is}
use Rattle.embedding.proofs.counted.CountedModule.eof.Goals as goal

pub returns : goal.returns
returns c =
    ap (λ (n : ℕ). leb n c.args.cursor.now.at) c.end_of.ensures ∙ end_is c.args.cursor.now.at (end_of c.args.self.now.last c.args.cursor.now.args)
