use Rattle.std.proofs.Common.{◌≡◌, List, map, rules, subst}
use Rattle.cr_resolve.specs.declared.reading.Made.{Made}
use Rattle.cr_resolve.specs.Told.{Refuses, told}
use Rattle.cr_select.specs.declared.outputs.Output.{Output}
use Rattle.cr_select.specs.Outputs.{as_result}
use Rattle.cr_select.specs.Named.{Before, Behind, back, named_in}
use Rattle.cr_select.proofs.Readings.{in_back, both_read}
use Rattle.cr_select.proofs.named.named_in.Goals as goal

pub returns-in_err-back : goal.returns-in_err-back
returns-in_err-back g c =
    let known = g.K.Naming.known c.args.known.now in
    let front = c.in_ok-front.front.made in
    let m : Made Before = record { made = record { results = map as_result front.results; joined = front.joined; filter = front.filter }; is_misplaced = c.in_ok-front.front.is_misplaced } in
    let why : Refuses (named_in known c.args.sources.now c.args.select.now).bad c.in_err-back.field-0.0 =
    in_back known c.args.sources.now c.args.select.now m c.in_err-back.field-0.0 c.in_ok-front.ensures
    (subst (λ (os : List Output). Refuses (back known c.args.sources.now (map as_result os) c.args.select.now).bad c.in_err-back.field-0.0) c.as_slice.ensures c.in_err-back.ensures) in
    search rules

pub returns : goal.returns
returns g c =
    let known = g.K.Naming.known c.args.known.now in
    let front = c.in_ok-front.front.made in
    let behind = c.in_ok-back.back.made in
    let m : Made Before = record { made = record { results = map as_result front.results; joined = front.joined; filter = front.filter }; is_misplaced = c.in_ok-front.front.is_misplaced } in
    let n : Made Behind = record { made = record { groups = behind.groups; having = behind.having; order = behind.order }; is_misplaced = c.in_ok-back.back.is_misplaced } in
    let had : back known c.args.sources.now (map as_result front.results) c.args.select.now ≡ told n =
    subst (λ (os : List Output). back known c.args.sources.now (map as_result os) c.args.select.now ≡ told n) c.as_slice.ensures c.in_ok-back.ensures in
    let read = both_read known c.args.sources.now c.args.select.now m n c.in_ok-front.ensures had in
    cc c.either-is_misplaced.ensures
