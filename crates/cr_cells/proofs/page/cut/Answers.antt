use Rattle.std.proofs.Common.{◌≡◌, ◌∙◌, ℕ, suc, ◌-◌, ◌<◌, length, map, true, List, Option, Some, ap, arith, rules, subst}
use Rattle.std.specs.Prelude.{filter, unwrap_or}
use Rattle.std.specs.List.{list_any}
use Rattle.std.proofs.lemmas.Fn.{filter_same}
use Rattle.cr_value.specs.OrderLaws.{bytes_total, bytes_exact}
use Rattle.cr_lattice.specs.declared.stamped.Stamped.{Stamped}
use Rattle.cr_lattice.specs.Check.{same_bytes}
use Rattle.cr_lattice.proofs.SortedSets.{IsStrictlySortedBy-set_of}
use Rattle.cr_cells.specs.Pages.{up_to, keys_of}
use Rattle.cr_cells.proofs.PageLemmas.{without_end, first_keys, keys_of_part, key_of_some}
use Rattle.cr_cells.proofs.page.cut.Goals as goal

pub returns-then-len-limit : goal.returns-then-len-limit
returns-then-len-limit c = record {
  cells_are = without_end c.args.cells.items;
  keys = λ b e. absurd cc;
  bound = λ b e. absurd cc;
}

pub returns : goal.returns
returns c =
    let b = c.swap_remove-bound.result in
    let n : ℕ = c.args.limit - 1 in
    let keys : c.in_ok-keys.keys.items ≡ keys_of c.args.cells.items = c.in_ok-keys.ensures ∙ ap keys_of c.deref.ensures.value in
    let many : n < length c.in_ok-keys.keys.items = search rules in
    let more : n < length (keys_of c.args.cells.items) = subst (λ ks. n < length ks) keys many in
    let at = subst (λ ks. b ≡ lib.ListN.get_or ks n b) keys c.swap_remove-bound.ensures.value in
    let whole : suc n ≡ c.args.limit = search rules in
    let left : c.retain.new.self.items ≡ filter (λ (s : Stamped). up_to (Some b) s.change.pk) c.args.cells.items =
    filter_same _ (λ (s : Stamped). up_to (Some b) s.change.pk) _ (λ x r f called. search rules) _ _ c.retain.ensures.filtered in
    record {
      cells_are = left;
      keys = λ k e.
          let keys =
          ap (λ l. length (keys_of l)) left ∙ ap length (keys_of_part (up_to (Some b)) c.args.cells.items)
          ∙ first_keys (keys_of c.args.cells.items) n b (IsStrictlySortedBy-set_of bytes_total bytes_exact (map (λ (s : Stamped). s.change.pk) c.args.cells.items)) more at ∙ whole in
          omega (keys, arith);
      bound = λ k e.
          subst (λ x. list_any (λ (s : Stamped). same_bytes x s.change.pk) c.args.cells.items ≡ true) (ap (λ (o : Option (List ℕ)). unwrap_or o b) e) (key_of_some c.args.cells.items n b more at);
    }
