-- What is answered about a statement, by what is known of it.
use Rattle.std.proofs.Common.{◌≡◌, ◌∙◌, Bool, true, false, List, [], ◌∷◌, ◌++◌, Result, Err, Some, ap, sym, subst}
use Rattle.std.specs.List.{flat_map, list_any}
use Rattle.cr_tree.specs.declared.statement.Statement.{Statement}
use Rattle.cr_term.specs.declared.query.Resolved.{Resolved}
use Rattle.cr_questions.specs.Questions.{Answers, first_denied, questions}
use Rattle.cr_resolve.specs.declared.refusal.Refusal.{Refusal}
use Rattle.cr_resolve.specs.declared.refusal.Refusal.TheVariants.{OutOfProfile, Limit, BadName, NoSuchTable, NoSuchColumn, AmbiguousColumn, NoSuchFunction, WrongArity, NoSuchCollation, Misaggregate, TableExists, Denied, Memory}
use Rattle.cr_resolve.specs.declared.refusal.Outside.TheVariants.{Real}
use Rattle.cr_resolve.specs.Reading.{Read, fine, when}
use Rattle.cr_resolve.specs.Known.{Known}
use Rattle.cr_resolve.specs.Told.{first, Refuses}
use Rattle.cr_resolve.specs.Trees.{casts}
use Rattle.cr_resolve.specs.Resolve.{Resolves, resolved, judged, or_allowed, trees, read}
use Rattle.cr_resolved.specs.Casts.{is_outside}

-- what is told first is answered
first_judged : (answers : Answers) (x : Resolved) (bad : List Refusal) (f : Refusal) → first bad ≡ Some f → judged answers x bad ≡ Err f
first_judged answers x [] f h = absurd (cc)
first_judged answers x (b ∷ bad) f h = let e : b ≡ f = cc in ap Err e

pub refusal_judged : (answers : Answers) (x : Resolved) (bad : List Refusal) (f : Refusal) → Refuses bad f → Resolves (Err f) (judged answers x bad)
refusal_judged answers x bad Memory h = tt
refusal_judged answers x bad (OutOfProfile what) h = first_judged answers x bad (OutOfProfile what) h
refusal_judged answers x bad (Limit which) h = first_judged answers x bad (Limit which) h
refusal_judged answers x bad (BadName name) h = first_judged answers x bad (BadName name) h
refusal_judged answers x bad (NoSuchTable name) h = first_judged answers x bad (NoSuchTable name) h
refusal_judged answers x bad (NoSuchColumn name) h = first_judged answers x bad (NoSuchColumn name) h
refusal_judged answers x bad (AmbiguousColumn name) h = first_judged answers x bad (AmbiguousColumn name) h
refusal_judged answers x bad (NoSuchFunction name) h = first_judged answers x bad (NoSuchFunction name) h
refusal_judged answers x bad (WrongArity name) h = first_judged answers x bad (WrongArity name) h
refusal_judged answers x bad (NoSuchCollation name) h = first_judged answers x bad (NoSuchCollation name) h
refusal_judged answers x bad Misaggregate h = first_judged answers x bad Misaggregate h
refusal_judged answers x bad (TableExists name) h = first_judged answers x bad (TableExists name) h
refusal_judged answers x bad (Denied q) h = first_judged answers x bad (Denied q) h

-- ---- a statement

module _ (known : Known) (answers : Answers) (x : Statement) where
  -- what stands against a CAST, and then what is read
  abbrev judged_by : Bool → Read Resolved → Result Resolved Refusal
  judged_by outside w = judged answers w.made (when outside (OutOfProfile Real) ++ w.bad)

  abbrev has_outside : Bool
  has_outside = list_any is_outside (flat_map casts (trees x))

  clear : (outside : Bool) → outside ≡ has_outside → outside ≡ false → resolved known answers x ≡ judged answers (read known x).made (read known x).bad
  clear outside is not_so = ap (λ b. judged_by b (read known x)) (sym is ∙ not_so)

  pub cast_told : (outside : Bool) → outside ≡ has_outside → outside ≡ true → Resolves (Err (OutOfProfile Real)) (resolved known answers x)
  cast_told outside is so = ap (λ b. judged_by b (read known x)) (sym is ∙ so)

  pub names_told : (outside : Bool) (f : Refusal) → outside ≡ has_outside → outside ≡ false
      → Refuses (read known x).bad f → Resolves (Err f) (resolved known answers x)
  names_told outside f is not_so h =
      subst (λ (m : Result Resolved Refusal). Resolves (Err f) m) (sym (clear outside is not_so)) (refusal_judged answers (read known x).made (read known x).bad f h)

  pub answers_told : (outside : Bool) (made : Resolved) (result : Result Resolved Refusal) → outside ≡ has_outside → outside ≡ false
      → read known x ≡ fine made → Resolves result (or_allowed answers made (first_denied answers (questions made)))
      → Resolves result (resolved known answers x)
  answers_told outside made result is not_so h allowed =
      subst (λ (m : Result Resolved Refusal). Resolves result m)
      (sym (clear outside is not_so ∙ ap (λ (w : Read Resolved). judged answers w.made w.bad) h)) allowed
