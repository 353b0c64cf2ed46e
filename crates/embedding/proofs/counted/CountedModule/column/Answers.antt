use Rattle.std.proofs.Common.{◌<◌, ◌-◌, ◌^◌, ℕ, ℤ, arith, rules, ap, sym, ◌∙◌, w64}
use Rattle.std.proofs.lemmas.Int.{to_z_pos}
use Rattle.cr_value.specs.declared.value.Value.TheVariants.{Int}
use Rattle.cr_module.specs.Lawful.{head_value}
use Rattle.embedding.specs.Counted.{end_of, numbers}
use Rattle.embedding.proofs.Counting.{below_end, none_beside, number_is}
use Rattle.embedding.proofs.counted.CountedModule.column.Goals as goal

pub overflow_cast-result : goal.overflow_cast-result
overflow_cast-result c =
    let end : ℕ = end_of c.args.self.now.last c.args.cursor.now.args in
    let below : c.args.cursor.now.at < end = below_end c.args.cursor.now.at end c.requires in
    let small : c.args.self.now.last < 2 ^ 32 = c.args.self.now.few in
    search rules

pub returns-then-at-eq0 : goal.returns-then-at-eq0
returns-then-at-eq0 c =
    let at : ℕ = c.args.cursor.now.at in
    let end : ℕ = end_of c.args.self.now.last c.args.cursor.now.args in
    let below : at < end = below_end at end c.requires in
    let small : c.args.self.now.last < 2 ^ 32 = c.args.self.now.few in
    ap (λ (z : ℤ). Int z) (to_z_pos w64 at (omega arith))
    ∙ number_is at (end - at) c.requires
    ∙ ap (λ (place : ℕ). head_value place (numbers at (end - at))) (sym c.if-at-eq0.true)

pub returns-else-at-eq0 : goal.returns-else-at-eq0
returns-else-at-eq0 c =
    let end : ℕ = end_of c.args.self.now.last c.args.cursor.now.args in
    none_beside c.args.cursor.now.at (end - c.args.cursor.now.at) c.args.at (λ e. search rules)
