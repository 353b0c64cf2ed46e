use Rattle.std.proofs.Common.{refl, sym, ap, ◌∙◌, true≢false}
use Rattle.cr_lattice.specs.Sets.{set_of}
use Rattle.cr_store.proofs.StoredLemmas.{apart_from_ids, ids_from_apart}
use Rattle.cr_store.proofs.stored.read_table.Goals as goal

pub returns-then-not-are_distinct : goal.returns-then-not-are_distinct
returns-then-not-are_distinct g c =
    (refl, λ it. true≢false (sym (c.are_distinct.ensures.1 (ids_from_apart c.args.rows.now c.in_ok-ids.ids.items c.in_ok-ids.ensures.0 it.numbered it.apart)) ∙ c.if-not-are_distinct.true))

pub returns : goal.returns
returns g c = (
  c.in_ok-in_order.ensures ∙ ap (set_of g.T.Stored.order) c.in_ok-items.ensures.0,
  record {
    numbered = c.in_ok-ids.ensures.1;
    apart = apart_from_ids c.args.rows.now c.in_ok-ids.ids.items c.in_ok-ids.ensures.0 (c.are_distinct.ensures.0 c.if-not-are_distinct.false);
    each = c.in_ok-items.ensures.1;
  },
)
