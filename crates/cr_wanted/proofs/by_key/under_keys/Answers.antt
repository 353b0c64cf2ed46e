use Rattle.std.proofs.Common.{◌≡◌, ◌∙◌, map, map-id, sym, ap}
use Rattle.std.specs.Vec.Iter.{into_iter_items}
use Rattle.std.proofs.lemmas.Iterator.Consumers.{YieldsList-end}
use Rattle.std.proofs.lemmas.Iterator.Adapters.{YieldsList-from_vec}
use Rattle.cr_delta.specs.Key.{key_of}
use Rattle.cr_lattice.specs.Sets.{set_of}
use Rattle.cr_query.specs.Writes.{repeats, has_twice, by_key}
use Rattle.cr_wanted.proofs.Sets.{read, under, by, stands_twice, stands_once, one_more}
use Rattle.cr_wanted.proofs.by_key.under_keys.Goals as goal

pub returns-then-branch : goal.returns-then-branch
unfolding has_twice
returns-then-branch c =
    let f = key_of c.args.def.now in
    ap (λ rows. repeats (map f rows)) (sym (read c.loop-row.yielded c.in-Some.row (into_iter_items c.next.new.self) (into_iter_items c.loop-row.row-iterator) c.args.rows.items c.in-Some.ensures.steps.0 c.loop-row.invariant.whole))
    ∙ stands_twice f c.loop-row.yielded c.in-Some.row c.loop-row.under.entries c.loop-row.invariant.entries (into_iter_items c.next.new.self) c.in_ok-put_under.field-0 c.in_ok-put_under.ensures.told c.if-branch.true

pub loop-row-preserved : goal.loop-row-preserved
loop-row-preserved c =
    let f = key_of c.args.def.now in
    record {
      whole = read c.loop-row.yielded c.in-Some.row (into_iter_items c.next.new.self) (into_iter_items c.loop-row.row-iterator) c.args.rows.items c.in-Some.ensures.steps.0 c.loop-row.invariant.whole;
      entries = one_more f c.loop-row.yielded c.in-Some.row c.loop-row.under.entries c.loop-row.invariant.entries c.put_under.new.under.entries c.in_ok-put_under.ensures.put;
      once = stands_once f c.loop-row.yielded c.in-Some.row c.loop-row.under.entries c.loop-row.invariant.entries c.in_ok-put_under.field-0 c.in_ok-put_under.ensures.told c.if-branch.false c.loop-row.invariant.once;
    }

pub returns : goal.returns
unfolding has_twice by_key
returns c =
    let done : c.loop-row.yielded ≡ c.args.rows.items =
    sym (map-id c.loop-row.yielded) ∙ (YieldsList-end (YieldsList-from_vec {s = c.into_iter-row-iterator.result} c.args.rows.items c.into_iter-row-iterator.ensures.into_iter_gives.0 (c.into_iter-row-iterator.ensures.into_iter_gives.1 ∙ c.args.rows.ok.0)) c.loop-row.yielded c.loop-row.row-iterator c.loop-row.yielded_by c.next.result c.next.new.self c.in-None.is c.next.ensures.steps).0 in (
      ap (λ rows. repeats (map (key_of c.args.def.now) rows)) (sym done) ∙ c.loop-row.invariant.once,
      c.loop-row.invariant.entries ∙ ap (λ rows. map (under (key_of c.args.def.now)) (set_of (by (key_of c.args.def.now)) rows)) done,
    )
