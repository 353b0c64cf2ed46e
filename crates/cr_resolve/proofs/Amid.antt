-- IN by the meeting of its operand with an item.
use Rattle.std.proofs.Common.{◌≡◌, ◌∙◌, List, [], Bool, ◌||◌, Ok, Err, ap, sym, subst}
use Rattle.cr_term.specs.declared.operator.Meeting.{Meeting}
use Rattle.cr_term.specs.Nodes as e
use Rattle.cr_term.specs.declared.expr.Expr.{Expr}
use Rattle.cr_term.specs.Operands.{meeting_item}
use Rattle.cr_resolve.specs.declared.refusal.Refusal.{Refusal}
use Rattle.cr_resolve.specs.declared.refusal.Refusal.TheVariants.{Memory}
use Rattle.cr_resolve.specs.declared.reading.Made.{Made}
use Rattle.cr_resolve.specs.Known.{Known, collation}
use Rattle.cr_resolve.specs.Reading.{Read, with_both}
use Rattle.cr_resolve.specs.Told.{told, Refuses}
use Rattle.cr_resolve.specs.Compares.{MeetsItem, IsAmong}

pub no_memory : (known : Known) (x : Expr) → MeetsItem known x (Err Memory)
unfolding MeetsItem
no_memory known x = tt

pub no_collation : (known : Known) (x : Expr) (m : Meeting) (f : Refusal) → m ≡ meeting_item x → Refuses (collation known m.collation) f → MeetsItem known x (Err f)
unfolding MeetsItem
no_collation known x m f is h = subst (λ (n : Meeting). Refuses (collation known n.collation) f) is h

pub met : (known : Known) (x : Expr) (m : Meeting) → m ≡ meeting_item x → collation known m.collation ≡ [] → MeetsItem known x (Ok m)
unfolding MeetsItem
met known x m is h = (sym is, h)

pub memory : (known : Known) (negated : Bool) (x : Made Expr) (items : Made (List Expr)) → IsAmong known negated x items (Err Memory)
unfolding IsAmong
memory known negated x items = tt

pub refused : (known : Known) (negated : Bool) (x : Made Expr) (items : Made (List Expr)) (f : Refusal) → MeetsItem known x.made (Err f) → IsAmong known negated x items (Err f)
unfolding MeetsItem IsAmong
refused known negated x items f h = h

pub made : (known : Known) (negated : Bool) (x : Made Expr) (items : Made (List Expr)) (m : Meeting) (r : Made Expr) → MeetsItem known x.made (Ok m)
    → told r ≡ with_both (e.In negated m) (told x) (told items) → IsAmong known negated x items (Ok r)
unfolding MeetsItem IsAmong
made known negated x items m r h t =
    let there : collation known (meeting_item x.made).collation ≡ [] = ap (λ (n : Meeting). collation known n.collation) h.0 ∙ h.1 in
    let one : with_both (e.In negated (meeting_item x.made)) (told x) (told items) ≡ told r = ap (λ (n : Meeting). with_both (e.In negated n) (told x) (told items)) h.0 ∙ sym t in
    let whole : List Refusal → Read Expr = λ b. record { bad = b; misplaced = x.is_misplaced || items.is_misplaced; made = e.In negated (meeting_item x.made) x.made items.made } in
    ap whole there ∙ one
