use Rattle.std.proofs.Common.{◌≡◌, List, map, rules, subst}
use Rattle.cr_tree.specs.declared.expr.Expr.{Expr as Tree}
use Rattle.cr_resolve.specs.Reading.{each}
use Rattle.cr_resolve.specs.Told.{told, Refuses}
use Rattle.cr_resolve.specs.Writes.{insert_row}
use Rattle.cr_written.proofs.Loops.{each_fails, each_next}
use Rattle.cr_written.proofs.insert.insert_rows.Goals as goal

pub returns-in_err-read : goal.returns-in_err-read
returns-in_err-read g c =
    let f = insert_row (g.K.Naming.known c.args.known.now) c.args.table.now c.args.width in
    let rows = c.args.rows.now in
    let row : Refuses (f c.row-item.result).bad c.in_err-read.field-0.0 = subst (λ (ts : List Tree). Refuses (f ts).bad c.in_err-read.field-0.0) c.as_slice.ensures c.in_err-read.ensures in
    let why : Refuses (each (map f rows)).bad c.in_err-read.field-0.0 =
    each_fails f c.loop-row.made rows c.loop-row.row-index c.row-item.result c.in_err-read.field-0.0 (each (map f rows)) c.loop-row-test.true c.row-item.is row c.loop-row.invariant in
    search rules

pub loop-row-preserved : goal.loop-row-preserved
loop-row-preserved g c =
    let f = insert_row (g.K.Naming.known c.args.known.now) c.args.table.now c.args.width in
    let rows = c.args.rows.now in
    let row : f c.row-item.result ≡ told c.in_ok-read.read = subst (λ (ts : List Tree). f ts ≡ told c.in_ok-read.read) c.as_slice.ensures c.in_ok-read.ensures in
    each_next f c.loop-row.made c.push.new.self rows c.loop-row.row-index c.row-item.result c.in_ok-read.read (each (map f rows)) c.loop-row-test.true c.row-item.is row c.in_ok-push.ensures c.loop-row.invariant
