use Rattle.std.proofs.Common.{◌∙◌, map, sym, ap, subst}
use Rattle.std.specs.List.{AllByRecursion}
use Rattle.std.specs.List.Sorted.{IsStrictlySortedBy}
use Rattle.cr_value.specs.Order.{bytes_cmp}
use Rattle.cr_delta.specs.Key.{key_of, HasKey}
use Rattle.cr_query.specs.Writes.{has_long_key, lacks_value, by_key}
use Rattle.cr_wanted.proofs.Sets.{keys_rise, all-set}
use Rattle.cr_wanted.proofs.judged.judged.Goals as goal

pub returns-in-Some : goal.returns-in-Some
unfolding by_key
returns-in-Some c =
    let h = rw c.in-Some.is at c.in_ok-rows.ensures in
    let def = c.args.def.now in
    let rows = c.args.rows.items in
    record {
      short = ap (has_long_key def) (sym c.as_slice.ensures.value) ∙ sym c.has_long_key.ensures ∙ c.if-has_long_key.false;
      whole = ap (lacks_value def) (sym c.as_slice-2.ensures.value) ∙ sym c.lacks_value.ensures ∙ c.if-lacks_value.false;
      once = h.0;
      by_key = h.1;
      keys = subst (AllByRecursion (HasKey def)) (sym h.1) (all-set (key_of def) (HasKey def) rows (subst (AllByRecursion (HasKey def)) c.as_slice-3.ensures.value c.read_keys.ensures));
      in_order = subst (λ taken. IsStrictlySortedBy bytes_cmp (map (key_of def) taken)) (sym h.1) (keys_rise (key_of def) rows);
    }
