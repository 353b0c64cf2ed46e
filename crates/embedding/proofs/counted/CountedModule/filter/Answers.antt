use Rattle.std.proofs.Common.{◌≡◌, ◌<◌, ◌≤◌, ◌+◌, ◌^◌, ◌∷◌, [], List, ℕ, ℤ, pos, arith, rules, ap, sym, subst, ◌∙◌, w64, to_z, to_z-of_z}
use Rattle.std.proofs.lemmas.Int.{to_z_pos}
use Rattle.cr_value.specs.declared.value.Value.{Value}
use Rattle.cr_value.specs.declared.value.Value.TheVariants.{Int}
use Rattle.embedding.specs.Counted.{end_of, natural, part, whole}
use Rattle.embedding.specs.declared.counted.Span.{Span}
use Rattle.embedding.proofs.Counting.{numbers_wide}
use Rattle.embedding.proofs.Cutting.{part_within}
use Rattle.embedding.proofs.Passing.{chosen_read, end_stays}
use Rattle.embedding.proofs.counted.CountedModule.filter.Goals as goal

-- a reading ends within the table
end_small : (last index : ℕ) (vs : List Value) (s : Span) → s ≡ part index vs (whole last) → s.end ≤ last + 1
end_small last index vs s e = subst (λ (t : Span). t.end ≤ last + 1) (sym e) (part_within index vs (whole last)).end_below

pub overflow_cast-span : goal.overflow_cast-span
overflow_cast-span c =
    let last : ℕ = c.args.self.now.last in
    let few : last < 2 ^ 32 = c.args.self.now.few in
    let small : c.part-span.result.end ≤ last + 1 = end_small last _ c.args.args.now c.part-span.result c.part-span.ensures in
    search rules

pub returns-clause-filtered : goal.returns-clause-filtered
returns-clause-filtered c = λ cs os e many.
    let last : ℕ = c.args.self.now.last in
    let few : last < 2 ^ 32 = c.args.self.now.few in
    let span : Span = c.part-span.result in
    let small : span.end ≤ last + 1 = end_small last _ c.args.args.now span c.part-span.ensures in
    let is : span ≡ part (natural c.args.index) c.args.args.now (whole last) =
    c.part-span.ensures ∙ ap (λ (z : ℤ). part (natural z) c.args.args.now (whole last)) (to_z-of_z c.ranges.index) in
    let fits : span.end < 2 ^ 63 = omega arith in
    let bits : to_z w64 span.end ≡ pos span.end = to_z_pos w64 span.end fits in
    let stored : c.new.result ≡ Int (to_z w64 span.end) ∷ [] = search rules in
    let kept : c.new.result ≡ Int (pos span.end) ∷ [] = stored ∙ ap (λ (z : ℤ). Int z ∷ []) bits in
    chosen_read last last cs os c.args.args.now c.args.index span (end_of last c.new.result) e many is (end_stays last span.end c.new.result kept small)

pub returns-clause-wide : goal.returns-clause-wide
returns-clause-wide c = numbers_wide c.args.self.now.columns c.part-span.result.start _ c.args.self.now.one

pub returns-clause-all_wide : goal.returns-clause-all_wide
returns-clause-all_wide c = numbers_wide c.args.self.now.columns 1 c.args.self.now.last c.args.self.now.one
