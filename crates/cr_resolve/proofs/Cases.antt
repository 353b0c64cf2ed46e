-- CASE by the meetings of its operand with its arms.
use Rattle.std.proofs.Common.{◌≡◌, ◌∙◌, ◌+◌, ◌<◌, Bool, ◌||◌, List, [], ◌∷◌, ◌++◌, length, map, take, drop, get_or, Option, Some, None, Result, Ok, Err, refl, ap, sym, subst, append_assoc}
use Rattle.std.proofs.lemmas.List.{append-nil, map-append, take-append-drop}
use Rattle.std.specs.Prelude.{IsErrAnd}
use Rattle.cr_term.specs.declared.operator.Meeting.{Meeting}
use Rattle.cr_term.specs.declared.expr.Expr.{Expr}
use Rattle.cr_term.specs.declared.expr.When.{When}
use Rattle.cr_term.specs.Nodes as e
use Rattle.cr_term.specs.Operands.{meeting, no_meeting}
use Rattle.cr_questions.specs.Questions.{Name}
use Rattle.cr_resolve.specs.declared.refusal.Refusal.{Refusal}
use Rattle.cr_resolve.specs.declared.refusal.Refusal.TheVariants.{Memory}
use Rattle.cr_resolve.specs.declared.reading.Made.{Made}
use Rattle.cr_resolve.specs.Known.{Known, collation, collations}
use Rattle.cr_resolve.specs.Reading.{Read}
use Rattle.cr_resolve.specs.Expressions.{Pair, arm_node, arm_collations}
use Rattle.cr_resolve.specs.Told.{told, Refuses}
use Rattle.cr_resolve.specs.Compares.{Meets}
use Rattle.cr_resolve.specs.Cases.{ArmMeets, ArmsMeet, MeetsArm, IsCase, case_made}
use Rattle.cr_resolve.proofs.InSight.{rest_at}
use Rattle.cr_resolve.proofs.Refusals.{ahead}

-- ---- one arm

pub arm_memory : (known : Known) (x : Option Expr) (arm : Pair) → MeetsArm known x arm (Err Memory)
unfolding MeetsArm
arm_memory known x arm = tt

met_arm : (known : Known) (x : Expr) (arm : Pair) (r : Result Meeting Refusal) → Meets known x arm.when r → MeetsArm known (Some x) arm r
unfolding Meets MeetsArm
met_arm known x arm (Ok m) h = (h.0, append-nil (collation known (meeting x arm.when).collation) ∙ ap (λ (n : Meeting). collation known n.collation) h.0 ∙ h.1)
met_arm known x arm (Err f) h = subst (λ (b : List Refusal). Refuses b f) (sym (append-nil (collation known (meeting x arm.when).collation))) h

pub arm_meets : (known : Known) (o : Option Expr) (x y : Expr) (arm : Pair) (r : Result Meeting Refusal) → o ≡ Some x → y ≡ x → Meets known y arm.when r → MeetsArm known o arm r
arm_meets known o x y arm r is same h = subst (λ (p : Option Expr). MeetsArm known p arm r) (ap Some same ∙ sym is) (met_arm known y arm r h)

pub arm_alone : (known : Known) (o : Option Expr) (arm : Pair) (m : Meeting) → o ≡ None → m ≡ no_meeting → MeetsArm known o arm (Ok m)
unfolding MeetsArm
arm_alone known o arm m is h = subst (λ (p : Option Expr). MeetsArm known p arm (Ok m)) (sym is) (sym h, refl)

pub arm_made : (known : Known) (x : Option Expr) (p : Pair) (m : Meeting) → MeetsArm known x p (Ok m) → ArmMeets known x p (Ok (record { meeting = m; when = p.when; then = p.gives }))
unfolding MeetsArm ArmMeets
arm_made known None p m h = (ap (λ (n : Meeting). record { meeting = n; when = p.when; then = p.gives }) h.0, h.1)
arm_made known (Some x) p m h = (ap (λ (n : Meeting). record { meeting = n; when = p.when; then = p.gives }) h.0, h.1)

pub arm_unmet : (known : Known) (x : Option Expr) (p : Pair) (f : Refusal) → MeetsArm known x p (Err f) → ArmMeets known x p (Err f)
unfolding MeetsArm ArmMeets
arm_unmet known x p f h = h

-- ---- all arms

collations_append : (known : Known) (xs ys : List Name) → collations known (xs ++ ys) ≡ collations known xs ++ collations known ys
collations_append known [] ys = refl
collations_append known (x ∷ xs) ys = ap (λ (b : List Refusal). collation known x ++ b) (collations_append known xs ys) ∙ sym (append_assoc (collation known x) (collations known xs) (collations known ys))

arms_append : (x : Option Expr) (ps qs : List Pair) → arm_collations x (ps ++ qs) ≡ arm_collations x ps ++ arm_collations x qs
arms_append None ps qs = refl
arms_append (Some x) ps qs = map-append _ ps qs

split : (known : Known) (x : Option Expr) (ps qs : List Pair) → collations known (arm_collations x (ps ++ qs)) ≡ collations known (arm_collations x ps) ++ collations known (arm_collations x qs)
split known x ps qs = ap (collations known) (arms_append x ps qs) ∙ collations_append known (arm_collations x ps) (arm_collations x qs)

pub arms_memory : (known : Known) (x : Option Expr) (arms : List Pair) → ArmsMeet known x arms (Err Memory)
unfolding ArmsMeet
arms_memory known x arms = tt

pub no_arms : (known : Known) (x : Option Expr) → ArmsMeet known x [] (Ok [])
unfolding ArmsMeet
no_arms known None = (refl, refl)
no_arms known (Some x) = (refl, refl)

pub one_more : (known : Known) (x : Option Expr) (ps : List Pair) (p : Pair) (ws : List When) (w : When) → ArmsMeet known x ps (Ok ws) → ArmMeets known x p (Ok w)
    → ArmsMeet known x (ps ++ p ∷ []) (Ok (ws ++ w ∷ []))
unfolding ArmsMeet ArmMeets
one_more known x ps p ws w h k = (
  map-append (arm_node x) ps (p ∷ []) ∙ ap (λ (vs : List When). vs ++ arm_node x p ∷ []) h.0 ∙ ap (λ (v : When). ws ++ v ∷ []) k.0,
  split known x ps (p ∷ []) ∙ ap (λ (b : List Refusal). b ++ collations known (arm_collations x (p ∷ []))) h.1 ∙ k.1,
)

pub arm_refused : (known : Known) (x : Option Expr) (ps : List Pair) (p : Pair) (rest all : List Pair) (ws : List When) (f : Refusal) → ArmsMeet known x ps (Ok ws) → ArmMeets known x p (Err f)
    → all ≡ ps ++ p ∷ rest → ArmsMeet known x all (Err f)
unfolding ArmsMeet ArmMeets
arm_refused known x ps p rest all ws f h k is =
    let here : collations known (arm_collations x all) ≡ collations known (arm_collations x (p ∷ [])) ++ collations known (arm_collations x rest) =
    ap (λ (qs : List Pair). collations known (arm_collations x qs)) is ∙ split known x ps (p ∷ rest) ∙ ap (λ (b : List Refusal). b ++ collations known (arm_collations x (p ∷ rest))) h.1 ∙ split known x (p ∷ []) rest in
    subst (λ (b : List Refusal). Refuses b f) (sym here) (ahead (collations known (arm_collations x (p ∷ []))) (collations known (arm_collations x rest)) f k)

-- what is left, from an arm on
same : {A : Type 0} (xs : List A) → map (λ y. y) xs ≡ xs
same [] = refl
same (x ∷ xs) = ap (λ (ys : List _). x ∷ ys) (same xs)

pub one_at : {A : Type 0} (xs all : List A) (x : A) → map (λ y. y) xs ≡ take (length xs) all → length xs < length all → x ≡ get_or all (length xs) x → all ≡ xs ++ x ∷ drop (length xs + 1) all
one_at xs all x h l e =
    sym (take-append-drop (length xs) all) ∙ ap (λ (ys : List _). ys ++ drop (length xs) all) (sym h ∙ same xs) ∙ ap (λ (ys : List _). xs ++ ys) (rest_at all (length xs) x l e)

-- the refusal of an arm is that of all
pub arms_told : (known : Known) (x : Option Expr) (all : List Pair) (r : Result (List When) Refusal) (f : Refusal) → IsErrAnd r (λ e. e ≡ f) → ArmsMeet known x all (Err f) → ArmsMeet known x all r
arms_told known x all (Ok ws) f h k = absurd h
arms_told known x all (Err d) f h k = subst (λ (g : Refusal). ArmsMeet known x all (Err g)) (sym h) k

-- ---- the whole

pub memory : (known : Known) (x : Made (Option Expr)) (arms : Made (List Pair)) (other : Made (Option Expr)) → IsCase known x arms other (Err Memory)
unfolding IsCase
memory known x arms other = tt

pub refused : (known : Known) (x : Made (Option Expr)) (arms : Made (List Pair)) (other : Made (Option Expr)) (f : Refusal) → ArmsMeet known x.made arms.made (Err f) → IsCase known x arms other (Err f)
unfolding ArmsMeet IsCase
refused known x arms other f h = h

pub is_case : (known : Known) (x : Made (Option Expr)) (arms : Made (List Pair)) (other : Made (Option Expr)) (ws : List When) (misplaced : Bool) (r : Made Expr) → ArmsMeet known x.made arms.made (Ok ws)
    → misplaced ≡ arms.is_misplaced → told r ≡ case_made x ws misplaced other → IsCase known x arms other (Ok r)
unfolding ArmsMeet IsCase
is_case known x arms other ws misplaced r h k t =
    let whole : List Refusal → Bool → List When → Read Expr = λ b n vs. record { bad = b; misplaced = (x.is_misplaced || n) || other.is_misplaced; made = e.Case x.made vs other.made } in
    ap (λ (b : List Refusal). whole b arms.is_misplaced (map (arm_node x.made) arms.made)) h.1 ∙ ap (whole [] arms.is_misplaced) h.0 ∙ ap (λ (n : Bool). whole [] n ws) (sym k) ∙ sym t
