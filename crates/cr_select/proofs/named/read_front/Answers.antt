use Rattle.std.proofs.Common.{◌≡◌, List, rules, subst}
use Rattle.cr_tree.specs.declared.statement.Shown.{Shown}
use Rattle.cr_resolve.specs.declared.reading.Made.{Made}
use Rattle.cr_resolve.specs.Queries.{Result as ResultOf, results_of}
use Rattle.cr_resolve.specs.Told.{Refuses, told}
use Rattle.std.specs.Prelude.{map}
use Rattle.cr_select.specs.Outputs.{as_result}
use Rattle.cr_select.specs.Named.{front}
use Rattle.cr_select.proofs.Readings.{in_ons, in_filter, front_read}
use Rattle.cr_select.proofs.named.read_front.Goals as goal

pub returns-in_err-joined : goal.returns-in_err-joined
returns-in_err-joined g c =
    let known = g.K.Naming.known c.args.known.now in
    let m : Made (List ResultOf) = record { made = map as_result c.in_ok-results.results.made; is_misplaced = c.in_ok-results.results.is_misplaced } in
    let shown : results_of known c.args.sources.now c.args.select.now.shown ≡ told m = subst (λ (ts : List Shown). results_of known c.args.sources.now ts ≡ told m) c.as_slice.ensures c.in_ok-results.ensures in
    let why : Refuses (front known c.args.sources.now c.args.select.now).bad c.in_err-joined.field-0.0 = in_ons known c.args.sources.now c.args.select.now m c.in_err-joined.field-0.0 shown c.in_err-joined.ensures in
    search rules

pub returns-in_err-filter : goal.returns-in_err-filter
returns-in_err-filter g c =
    let known = g.K.Naming.known c.args.known.now in
    let m : Made (List ResultOf) = record { made = map as_result c.in_ok-results.results.made; is_misplaced = c.in_ok-results.results.is_misplaced } in
    let shown : results_of known c.args.sources.now c.args.select.now.shown ≡ told m = subst (λ (ts : List Shown). results_of known c.args.sources.now ts ≡ told m) c.as_slice.ensures c.in_ok-results.ensures in
    let why : Refuses (front known c.args.sources.now c.args.select.now).bad c.in_err-filter.field-0.0 =
    in_filter known c.args.sources.now c.args.select.now m c.in_ok-joined.joined c.in_err-filter.field-0.0 shown c.in_ok-joined.ensures c.in_err-filter.ensures in
    search rules

pub returns : goal.returns
returns g c =
    let known = g.K.Naming.known c.args.known.now in
    let m : Made (List ResultOf) = record { made = map as_result c.in_ok-results.results.made; is_misplaced = c.in_ok-results.results.is_misplaced } in
    let shown : results_of known c.args.sources.now c.args.select.now.shown ≡ told m = subst (λ (ts : List Shown). results_of known c.args.sources.now ts ≡ told m) c.as_slice.ensures c.in_ok-results.ensures in
    let read = front_read known c.args.sources.now c.args.select.now m c.in_ok-joined.joined c.in_ok-filter.filter shown c.in_ok-joined.ensures c.in_ok-filter.ensures in
    cc (c.either-is_shown_misplaced.ensures, c.either-is_misplaced.ensures)
