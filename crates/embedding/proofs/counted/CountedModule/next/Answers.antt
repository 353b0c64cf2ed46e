use Rattle.std.proofs.Common.{◌<◌, ◌^◌, ℕ, rules}
use Rattle.embedding.specs.Counted.{end_of}
use Rattle.embedding.proofs.Counting.{below_end, rest_is}
use Rattle.embedding.proofs.counted.CountedModule.next.Goals as goal

pub overflow_add-cursor : goal.overflow_add-cursor
overflow_add-cursor c =
    let end : ℕ = end_of c.args.self.now.last c.args.cursor.now.args in
    let below : c.args.cursor.now.at < end = below_end c.args.cursor.now.at end c.requires in
    let small : c.args.self.now.last < 2 ^ 32 = c.args.self.now.few in
    search rules

pub returns : goal.returns
returns c = rest_is c.args.cursor.now.at (end_of c.args.self.now.last c.args.cursor.now.args)
