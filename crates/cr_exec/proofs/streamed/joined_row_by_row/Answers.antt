use Rattle.std.proofs.Common.{◌≡◌, ◌∙◌, ◌-◌, ℕ, List, length, map, Err, ap, rules}
use Rattle.std.specs.List.{zip}
use Rattle.cr_scalar.specs.Host.{host}
use Rattle.cr_term.specs.declared.query.Joined.{Joined}
use Rattle.cr_query.specs.Query.{Row, joined}
use Rattle.cr_meaning.specs.View.{query, terms}
use Rattle.cr_module.specs.Reading.{tables_between}
use Rattle.cr_exec.specs.LookUps.{joined_rows}
use Rattle.cr_exec.specs.Scopes.{there}
use Rattle.cr_exec.specs.Streamed.{AddsRead}
use Rattle.cr_exec.specs.Tails.{with_quiet_first}
use Rattle.cr_exec.proofs.Streams.{read_both, read_fault}
use Rattle.cr_exec.proofs.streamed.joined_row_by_row.Goals as goal

pub returns-in_err-join_read-clause-joins : goal.returns-in_err-join_read-clause-joins
returns-in_err-join_read-clause-joins g c =
    let f = g.F.Functions in
    let own = c.args.functions.now in
    let h = host (f.function_of own) (f.scalar own) (f.step own) (f.finish own) (f.order_of own) in
    let q = c.args.query.now in
    let rows : ℕ → List Row = g.S.Source.rows_of c.args.source.now in
    let now : ℕ → List Row = g.S.Source.rows_of c.tables_between.new.source in
    let same : map there c.as_slice-terms.result.now ≡ with_quiet_first (terms q) =
    ap (map there) c.as_slice-terms.ensures.value ∙ c.in_ok-terms.ensures in
    let read : c.as_slice.result.now ≡ tables_between rows 1 (length q.joined - 1) =
    c.as_slice.ensures.value ∙ c.in_ok-tables.ensures.read
    ∙ ap (λ (js : List Joined). tables_between rows 1 (length js - 1)) c.as_slice-count.ensures in
    let zipped : map joined_rows c.as_slice-2.result.now ≡ zip c.args.later.now c.as_slice.result.now =
    ap (map joined_rows) c.as_slice-2.ensures.value ∙ c.in_ok-later.ensures.sources in
    let all : List (List Row) = tables_between rows 0 (length q.joined) in
    let fault = c.in_err-join_read.field-0.0 in
    let why : AddsRead h c.args.params.now (λ m. joined m (query q) all) c.new-out.result.items c.join_read.new.out.items (Err fault) =
    read_fault h c.args.params.now q c.args.first.now c.args.later.now c.requires.parts c.requires.inner c.as_slice-terms.result.now same
    rows now c.in_ok-tables.ensures.rows c.as_slice.result.now read c.as_slice-2.result.now zipped
    c.new-out.result.items c.join_read.new.out.items fault c.in_err-join_read.ensures.joins in
    search rules

pub returns-clause-joins : goal.returns-clause-joins
returns-clause-joins g c =
    let f = g.F.Functions in
    let own = c.args.functions.now in
    let h = host (f.function_of own) (f.scalar own) (f.step own) (f.finish own) (f.order_of own) in
    let q = c.args.query.now in
    let rows : ℕ → List Row = g.S.Source.rows_of c.args.source.now in
    let now : ℕ → List Row = g.S.Source.rows_of c.tables_between.new.source in
    let same : map there c.as_slice-terms.result.now ≡ with_quiet_first (terms q) =
    ap (map there) c.as_slice-terms.ensures.value ∙ c.in_ok-terms.ensures in
    let read : c.as_slice.result.now ≡ tables_between rows 1 (length q.joined - 1) =
    c.as_slice.ensures.value ∙ c.in_ok-tables.ensures.read
    ∙ ap (λ (js : List Joined). tables_between rows 1 (length js - 1)) c.as_slice-count.ensures in
    let zipped : map joined_rows c.as_slice-2.result.now ≡ zip c.args.later.now c.as_slice.result.now =
    ap (map joined_rows) c.as_slice-2.ensures.value ∙ c.in_ok-later.ensures.sources in
    read_both h c.args.params.now q c.args.first.now c.args.later.now c.requires.parts c.requires.inner c.as_slice-terms.result.now same
    rows now c.in_ok-tables.ensures.rows c.as_slice.result.now read c.as_slice-2.result.now zipped
    c.new-out.result.items c.join_read.new.out.items c.new-out.ensures.items c.in_ok-join_read.ensures.joins
