-- BETWEEN by the meetings of its operand with the bounds.
use Rattle.std.proofs.Common.{◌≡◌, ◌∙◌, List, [], ◌++◌, Bool, ◌||◌, Result, Ok, Err, ap, sym, subst}
use Rattle.cr_term.specs.declared.operator.Meeting.{Meeting}
use Rattle.cr_term.specs.Nodes as e
use Rattle.cr_term.specs.declared.expr.Expr.{Expr}
use Rattle.cr_term.specs.Operands.{meeting}
use Rattle.cr_resolve.specs.declared.refusal.Refusal.{Refusal}
use Rattle.cr_resolve.specs.declared.refusal.Refusal.TheVariants.{Memory}
use Rattle.cr_resolve.specs.declared.reading.Made.{Made}
use Rattle.cr_resolve.specs.declared.comparing.Meetings.{Meetings}
use Rattle.cr_resolve.specs.Known.{Known, collation}
use Rattle.cr_resolve.specs.Reading.{Read, with_both}
use Rattle.cr_resolve.specs.Told.{told, Refuses}
use Rattle.cr_resolve.specs.Compares.{Meets, MeetsBounds, IsBetween}
use Rattle.cr_resolve.proofs.Refusals.{ahead}

pub no_memory : (known : Known) (x low high : Expr) → MeetsBounds known x low high (Err Memory)
unfolding MeetsBounds
no_memory known x low high = tt

pub low_refused : (known : Known) (x low high : Expr) (f : Refusal) → Meets known x low (Err f) → MeetsBounds known x low high (Err f)
unfolding Meets MeetsBounds
low_refused known x low high f h = ahead (collation known (meeting x low).collation) (collation known (meeting x high).collation) f h

there : (known : Known) (x y : Expr) (m : Meeting) → Meets known x y (Ok m) → collation known (meeting x y).collation ≡ []
unfolding Meets
there known x y m h = ap (λ (n : Meeting). collation known n.collation) h.0 ∙ h.1

so : (known : Known) (x y : Expr) (m : Meeting) → Meets known x y (Ok m) → meeting x y ≡ m
unfolding Meets
so known x y m h = h.0

pub high_refused : (known : Known) (x low high : Expr) (m : Meeting) (f : Refusal) → Meets known x low (Ok m) → Meets known x high (Err f) → MeetsBounds known x low high (Err f)
unfolding Meets MeetsBounds
high_refused known x low high m f l h =
    subst (λ (b : List Refusal). Refuses (b ++ collation known (meeting x high).collation) f) (sym (there known x low m l)) h

pub met : (known : Known) (x low high : Expr) (m n : Meeting) → Meets known x low (Ok m) → Meets known x high (Ok n) → MeetsBounds known x low high (Ok (record { low = m; high = n }))
unfolding MeetsBounds
met known x low high m n l h = (l, h)

pub memory : (known : Known) (negated : Bool) (x low high : Made Expr) → IsBetween known negated x low high (Err Memory)
unfolding IsBetween
memory known negated x low high = tt

at : (known : Known) (x low high x' low' high' : Expr) (r : Result Meetings Refusal) → x' ≡ x → low' ≡ low → high' ≡ high → MeetsBounds known x' low' high' r → MeetsBounds known x low high r
at known x low high x' low' high' r a b d h =
    subst (λ (k : Expr). MeetsBounds known x low k r) d (subst (λ (k : Expr). MeetsBounds known x k high' r) b (subst (λ (k : Expr). MeetsBounds known k low' high' r) a h))

pub refused : (known : Known) (negated : Bool) (x low high : Made Expr) (x' low' high' : Expr) (f : Refusal) → x' ≡ x.made → low' ≡ low.made → high' ≡ high.made
    → MeetsBounds known x' low' high' (Err f) → IsBetween known negated x low high (Err f)
unfolding MeetsBounds IsBetween
refused known negated x low high x' low' high' f a b d h = at known x.made low.made high.made x' low' high' (Err f) a b d h

pub made : (known : Known) (negated : Bool) (x low high : Made Expr) (x' low' high' : Expr) (m : Meetings) (r : Made Expr) → x' ≡ x.made → low' ≡ low.made → high' ≡ high.made
    → MeetsBounds known x' low' high' (Ok m) → told r ≡ with_both (λ f h. f h) (with_both (e.Between negated m.low m.high) (told x) (told low)) (told high) → IsBetween known negated x low high (Ok r)
unfolding MeetsBounds IsBetween
made known negated x low high x' low' high' m r a b d k t =
    let h : Meets known x.made low.made (Ok m.low) × Meets known x.made high.made (Ok m.high) = at known x.made low.made high.made x' low' high' (Ok m) a b d k in
    let p : Meeting = meeting x.made low.made in
    let q : Meeting = meeting x.made high.made in
    let whole : List Refusal → Meeting → Meeting → Read Expr =
    λ b j k. record { bad = b; misplaced = (x.is_misplaced || low.is_misplaced) || high.is_misplaced; made = e.Between negated j k x.made low.made high.made } in
    ap (λ (b : List Refusal). whole (b ++ collation known q.collation) p q) (there known x.made low.made m.low h.0)
    ∙ ap (λ (b : List Refusal). whole b p q) (there known x.made high.made m.high h.1)
    ∙ ap (λ (k : Meeting). whole [] k q) (so known x.made low.made m.low h.0) ∙ ap (whole [] m.low) (so known x.made high.made m.high h.1) ∙ sym t
