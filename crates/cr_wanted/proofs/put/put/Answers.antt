use Rattle.std.proofs.Common.{◌∙◌, sym, ap, arith}
use Rattle.std.proofs.Math.ListN.{set}
use Rattle.cr_value.specs.Affinity.{applied}
use Rattle.cr_wanted.proofs.Puts.{put-none, put-past, put-at}
use Rattle.cr_wanted.proofs.put.put.Goals as goal

pub returns-in_default : goal.returns-in_default
returns-in_default c = sym (put-none c.args.columns.now c.args.place c.args.value.now c.args.row.now.items c.in_default.ensures.lookup.3)

pub returns-then-place-len : goal.returns-then-place-len
returns-then-place-len c = sym (put-past c.args.columns.now c.args.place c.args.value.now c.args.row.now.items (omega arith))

pub returns : goal.returns
returns c =
    ap (set c.args.row.now.items c.args.place) (c.in_ok-row.ensures ∙ ap (λ col. applied col.affinity c.args.value.now) c.in-Some.ensures.lookup.1)
    ∙ sym (put-at c.args.columns.now c.args.place c.args.value.now c.args.row.now.items c.in-Some.column.now c.in-Some.ensures.lookup.3.0 (omega arith))
