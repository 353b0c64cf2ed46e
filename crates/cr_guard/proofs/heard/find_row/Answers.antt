use Rattle.std.proofs.Common.{◌≡◌, ◌<◌, ℕ, List, get_or, length, false, Err, Equal, sym, ◌∙◌, subst}
use Rattle.std.specs.List.{list_any}
use Rattle.std.specs.List.Sorted.{IsStrictlySortedBy}
use Rattle.std.specs.Ordering.{is_eq}
use Rattle.cr_value.specs.Order.{bytes_cmp}
use Rattle.cr_value.specs.OrderLaws.{bytes_total}
use Rattle.cr_delta.proofs.Runs.{looked_up}
use Rattle.cr_guard.proofs.Finding.{found_at, got, none_found}
use Rattle.cr_guard.proofs.heard.find_row.Goals as goal

pub returns-in-Ok : goal.returns-in-Ok
returns-in-Ok c key is =
    let rows = c.args.rows.now in
    let pk = c.args.pk.now in
    let sorted = subst (IsStrictlySortedBy bytes_cmp) is c.requires in
    let within = subst (λ (ks : List (List ℕ)). c.in-Ok.place < length ks) is c.in-Ok.ensures.bound in
    let tie = subst (λ (ks : List (List ℕ)). (d : List ℕ) → bytes_cmp (get_or ks c.in-Ok.place d) pk ≡ Equal) is c.in-Ok.ensures.position in
    got bytes_total key c.get.result rows c.in-Ok.place within c.get.ensures.lookup.2 c.get.ensures.lookup.1 ∙ found_at bytes_total key rows c.in-Ok.place pk sorted within tie

pub returns-in-Err : goal.returns-in-Err
returns-in-Err c key is =
    let none : list_any (λ k. is_eq (bytes_cmp k c.args.pk.now)) c.args.keys.now ≡ false =
    sym (looked_up bytes_total c.args.keys.now c.args.pk.now (Err c.in-Err.field-0) c.requires c.in-Err.ensures.bound c.in-Err.ensures.position) in
    sym (none_found bytes_total key c.args.rows.now c.args.pk.now (subst (λ (ks : List (List ℕ)). list_any (λ k. is_eq (bytes_cmp k c.args.pk.now)) ks ≡ false) is none))
