use Rattle.std.proofs.Common.{◌≡◌, ◌==◌, length, rules, List, ℕ, filter, sym, ap, subst, ◌∙◌}
use Rattle.std.specs.Prelude.{IfOk}
use Rattle.std.specs.List.Sorted.{IsStrictlySortedBy}
use Rattle.cr_value.specs.Order.{bytes_cmp}
use Rattle.cr_value.specs.OrderLaws.{bytes_total, bytes_exact}
use Rattle.cr_lattice.specs.declared.change.Change.{Change}
use Rattle.cr_lattice.proofs.SortedSets.{IsStrictlySortedBy-set_of}
use Rattle.cr_touched.specs.Parts.{is_key_of, part}
use Rattle.cr_pending.proofs.Keys.{none_is, part_among, part_in_order, part_none}
use Rattle.cr_pending.proofs.under.under_keys.Goals as goal

pub returns-then-is_empty : goal.returns-then-is_empty
returns-then-is_empty c =
    let same : length c.in_ok-keys.keys.items ≡ c.in_ok-keys.keys.len = search rules in
    let none = none_is c.in_ok-keys.keys.items (ap (λ (n : ℕ). n == 0) same ∙ sym c.is_empty.ensures ∙ c.if-is_empty.true) in
    c.new.ensures.items
    ∙ sym (part_none c.args.table.now c.args.changes.now)
    ∙ ap (λ (ks : List (List ℕ)). part c.args.table.now (is_key_of ks) c.args.changes.now) (sym none ∙ c.in_ok-keys.ensures)
    ∙ part_in_order c.args.table.now (filter (is_key_of c.args.touched.now.keys) c.args.keys.now) c.args.changes.now
    ∙ part_among c.args.table.now c.args.touched.now.keys c.args.keys.now c.args.changes.now c.requires

pub part-requires : goal.part-requires
part-requires c =
    subst (IsStrictlySortedBy bytes_cmp) (sym (c.deref.ensures.value ∙ c.in_ok-keys.ensures))
    (IsStrictlySortedBy-set_of bytes_total bytes_exact (filter (is_key_of c.args.touched.now.keys) c.args.keys.now))

pub returns : goal.returns
returns c =
    subst (λ (found : List Change). IfOk c.part.result (λ v. v.items ≡ found))
    (ap (λ (ks : List (List ℕ)). part c.args.table.now (is_key_of ks) c.args.changes.now) (c.deref.ensures.value ∙ c.in_ok-keys.ensures)
    ∙ part_in_order c.args.table.now (filter (is_key_of c.args.touched.now.keys) c.args.keys.now) c.args.changes.now
    ∙ part_among c.args.table.now c.args.touched.now.keys c.args.keys.now c.args.changes.now c.requires) c.part.ensures
