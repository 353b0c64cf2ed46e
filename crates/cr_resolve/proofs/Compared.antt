-- A comparison by the meeting of its operands.
use Rattle.std.proofs.Common.{◌≡◌, ◌∙◌, List, [], ◌||◌, Ok, Err, ap, sym, subst}
use Rattle.cr_term.specs.declared.operator.Comparison.{Comparison}
use Rattle.cr_term.specs.declared.operator.Meeting.{Meeting}
use Rattle.cr_term.specs.Nodes as e
use Rattle.cr_term.specs.declared.expr.Expr.{Expr}
use Rattle.cr_term.specs.Operands.{meeting}
use Rattle.cr_resolve.specs.declared.refusal.Refusal.{Refusal}
use Rattle.cr_resolve.specs.declared.refusal.Refusal.TheVariants.{Memory}
use Rattle.cr_resolve.specs.declared.reading.Made.{Made}
use Rattle.cr_resolve.specs.Known.{Known, collation}
use Rattle.cr_resolve.specs.Reading.{Read, with_both}
use Rattle.cr_resolve.specs.Told.{told, Refuses}
use Rattle.cr_resolve.specs.Compares.{Meets, Compares}

pub no_memory : (known : Known) (x y : Expr) → Meets known x y (Err Memory)
unfolding Meets
no_memory known x y = tt

pub no_collation : (known : Known) (x y : Expr) (m : Meeting) (f : Refusal) → m ≡ meeting x y → Refuses (collation known m.collation) f → Meets known x y (Err f)
unfolding Meets
no_collation known x y m f is h = subst (λ (n : Meeting). Refuses (collation known n.collation) f) is h

pub met : (known : Known) (x y : Expr) (m : Meeting) → m ≡ meeting x y → collation known m.collation ≡ [] → Meets known x y (Ok m)
unfolding Meets
met known x y m is h = (sym is, h)

pub memory : (known : Known) (op : Comparison) (x y : Made Expr) → Compares known op x y (Err Memory)
unfolding Compares
memory known op x y = tt

pub refused : (known : Known) (op : Comparison) (x y : Made Expr) (f : Refusal) → Meets known x.made y.made (Err f) → Compares known op x y (Err f)
unfolding Meets Compares
refused known op x y f h = h

pub made : (known : Known) (op : Comparison) (x y : Made Expr) (m : Meeting) (r : Made Expr) → Meets known x.made y.made (Ok m)
    → told r ≡ with_both (e.Compare op m) (told x) (told y) → Compares known op x y (Ok r)
unfolding Meets Compares
made known op x y m r h t =
    let there : collation known (meeting x.made y.made).collation ≡ [] = ap (λ (n : Meeting). collation known n.collation) h.0 ∙ h.1 in
    let one : with_both (e.Compare op (meeting x.made y.made)) (told x) (told y) ≡ told r = ap (λ (n : Meeting). with_both (e.Compare op n) (told x) (told y)) h.0 ∙ sym t in
    let whole : List Refusal → Read Expr = λ b. record { bad = b; misplaced = x.is_misplaced || y.is_misplaced; made = e.Compare op (meeting x.made y.made) x.made y.made } in
    ap whole there ∙ one
