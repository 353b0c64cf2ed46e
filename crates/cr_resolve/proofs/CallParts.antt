-- What an answer says of a call, by what its name means and what answers say of its arguments.
use Rattle.std.proofs.Common.{◌≡◌, ◌∙◌, ℕ, Bool, false, List, length, map, Result, Ok, Err, ap, sym, subst}
use Rattle.std.proofs.lemmas.List.{length-map}
use Rattle.cr_tree.specs.declared.expr.Expr.{Expr as Tree}
use Rattle.cr_tree.specs.declared.expr.Expr as tree
use Rattle.cr_term.specs.declared.expr.Expr.{Expr}
use Rattle.cr_questions.specs.Questions.{Name}
use Rattle.cr_resolve.specs.declared.refusal.Refusal.{Refusal}
use Rattle.cr_resolve.specs.declared.reading.Made.{Made}
use Rattle.cr_resolve.specs.declared.call.Owner.{Owner}
use Rattle.cr_resolve.specs.declared.call.Owner.TheVariants as of
use Rattle.cr_resolve.specs.declared.call.Unread.{Unread}
use Rattle.cr_resolve.specs.declared.call.Callee.{Callee}
use Rattle.cr_resolve.specs.declared.call.Callee.TheVariants as to
use Rattle.cr_resolve.specs.Known.{Known}
use Rattle.cr_resolve.specs.Reading.{Read, each}
use Rattle.cr_resolve.specs.Scope.{Source}
use Rattle.cr_resolve.specs.Expressions.{Place, reader, expr}
use Rattle.cr_resolve.specs.Told.{Refuses, Reads}
use Rattle.cr_resolve.specs.Calls.{callee, CallsUnread, scalar_call, CallsScalar, aggregate_call, CallsAggregate}
use Rattle.cr_resolve.specs.Answered.{IsRead, AreRead}
use Rattle.cr_resolve.proofs.Refusals.{ahead}
use Rattle.cr_resolve.proofs.Called.{by_callee, called_as}
use Rattle.cr_resolve.proofs.Placed as placed

module _ (known : Known) (ss : List Source) (may : Bool) (name : Name) (args : List Tree) where
  abbrev p : Place
  p = record { sources = ss; aggregates = may }

  abbrev inside : Place
  inside = record { sources = ss; aggregates = false }

  meant : (count : ℕ) (c : Callee) → callee known name count ≡ c → count ≡ length args → expr known ss may (tree.Call name args) ≡ by_callee known c name p (map (reader known) args)
  meant count c is h =
      placed.called known ss may name args
      ∙ called_as known name p (map (reader known) args) c (ap (callee known name) (length-map args (reader known) ∙ sym h) ∙ is)

  abbrev here : Read (List Expr)
  here = each (map (expr known ss may) args)

  abbrev within : Read (List Expr)
  within = each (map (expr known ss false) args)

  scalar_is : (count : ℕ) (owner : Owner) → callee known name count ≡ to.Scalar owner → count ≡ length args → expr known ss may (tree.Call name args) ≡ scalar_call known owner name here
  scalar_is count owner is h = meant count (to.Scalar owner) is h ∙ ap (λ rs. scalar_call known owner name (each rs)) (placed.all_placed known ss may args)

  aggregate_of : (count : ℕ) (owner : Owner) → callee known name count ≡ to.Aggregate owner → count ≡ length args → expr known ss may (tree.Call name args) ≡ aggregate_call known owner name may within
  aggregate_of count owner is h = meant count (to.Aggregate owner) is h ∙ ap (λ rs. aggregate_call known owner name may (each rs)) (placed.all_placed known ss false args)

  -- what stands against the arguments stands against the call
  against_scalar : (owner : Owner) (x : Read (List Expr)) (f : Refusal) → Refuses x.bad f → Refuses (scalar_call known owner name x).bad f
  against_scalar of.Host x f h = h
  against_scalar of.Engine x f h = ahead x.bad _ f h

  pub scalar_refused : (count : ℕ) (owner : Owner) (f : Refusal) → callee known name count ≡ to.Scalar owner → count ≡ length args → AreRead known ss may args (Err f) → IsRead known ss may (tree.Call name args) (Err f)
  unfolding IsRead AreRead
  scalar_refused count owner f is h g = subst (λ (r : Read Expr). Refuses r.bad f) (sym (scalar_is count owner is h)) (against_scalar owner here f g)

  pub scalar : (count : ℕ) (owner : Owner) (m : Made (List Expr)) (r : Result (Made Expr) Refusal) → callee known name count ≡ to.Scalar owner → count ≡ length args → AreRead known ss may args (Ok m)
      → CallsScalar known owner name m r → IsRead known ss may (tree.Call name args) r
  unfolding IsRead AreRead CallsScalar
  scalar count owner m r is h g k = subst (λ (whole : Read Expr). Reads whole r) (sym (scalar_is count owner is h ∙ ap (scalar_call known owner name) g)) k

  pub aggregate_refused : (count : ℕ) (owner : Owner) (f : Refusal) → callee known name count ≡ to.Aggregate owner → count ≡ length args → AreRead known ss false args (Err f) → IsRead known ss may (tree.Call name args) (Err f)
  unfolding IsRead AreRead
  aggregate_refused count owner f is h g = subst (λ (r : Read Expr). Refuses r.bad f) (sym (aggregate_of count owner is h)) (ahead within.bad _ f g)

  pub aggregate : (count : ℕ) (owner : Owner) (m : Made (List Expr)) (r : Result (Made Expr) Refusal) → callee known name count ≡ to.Aggregate owner → count ≡ length args → AreRead known ss false args (Ok m)
      → CallsAggregate known owner name may m r → IsRead known ss may (tree.Call name args) r
  unfolding IsRead AreRead CallsAggregate
  aggregate count owner m r is h g k = subst (λ (whole : Read Expr). Reads whole r) (sym (aggregate_of count owner is h ∙ ap (aggregate_call known owner name may) g)) k

  pub unread : (count : ℕ) (f : Unread) (r : Result (Made Expr) Refusal) → callee known name count ≡ to.Unread f → count ≡ length args → CallsUnread known f name r → IsRead known ss may (tree.Call name args) r
  unfolding IsRead CallsUnread
  unread count f r is h k = subst (λ (whole : Read Expr). Reads whole r) (sym (meant count (to.Unread f) is h)) k
