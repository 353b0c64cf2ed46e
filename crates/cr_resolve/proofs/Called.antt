-- Calls by what their names mean.
use Rattle.std.proofs.Common.{◌≡◌, ◌∙◌, ℕ, Bool, true, false, not, ◌||◌, ◌&&◌, List, [], length, map, Option, Some, None, Ok, Err, refl, ap, sym, subst}
use Rattle.std.specs.Prelude.{◌==◌, if◌then◌else◌}
use Rattle.cr_host.specs.declared.function.Definition.{Definition}
use Rattle.cr_host.specs.declared.function.Definition.TheVariants as defined
use Rattle.cr_host.specs.BuiltIn.{is_built_in_scalar, is_built_in_aggregate}
use Rattle.cr_term.specs.declared.operator.BuiltIn.{BuiltIn}
use Rattle.cr_term.specs.declared.operator.Aggregate.{Aggregate as Kind}
use Rattle.cr_term.specs.declared.expr.Expr.{Expr}
use Rattle.cr_term.specs.Nodes as e
use Rattle.cr_term.specs.Operands.{collation_of}
use Rattle.cr_questions.specs.Questions.{Name}
use Rattle.cr_resolve.specs.declared.refusal.Refusal.{Refusal}
use Rattle.cr_resolve.specs.declared.refusal.Refusal.TheVariants.{Memory}
use Rattle.cr_resolve.specs.declared.reading.Made.{Made}
use Rattle.cr_resolve.specs.declared.call.Owner.{Owner}
use Rattle.cr_resolve.specs.declared.call.Owner.TheVariants as of
use Rattle.cr_resolve.specs.declared.call.Unread.{Unread}
use Rattle.cr_resolve.specs.declared.call.Callee.{Callee}
use Rattle.cr_resolve.specs.declared.call.Callee.TheVariants as to
use Rattle.cr_resolve.specs.Reading.{Read, with, also_misplaced, each}
use Rattle.cr_resolve.specs.Known.{Known, is_function, is_site_id, is_db_version, collation, collations}
use Rattle.cr_resolve.specs.Expressions.{Place, Reader, own_collations, engine_call, call_by, call}
use Rattle.cr_resolve.specs.Told.{told, Refuses}
use Rattle.cr_resolve.specs.Calls.{engine_callee, callee_by, callee, unread_call, CallsUnread, own_function, scalar_call, CallsScalar, kind_of, aggregate_call, CallsAggregate}

-- ---- scalar functions

pub scalar_memory : (known : Known) (owner : Owner) (name : Name) (args : Made (List Expr)) → CallsScalar known owner name args (Err Memory)
unfolding CallsScalar
scalar_memory known of.Host name args = tt
scalar_memory known of.Engine name args = tt

pub own_refused : (known : Known) (name : Name) (args : Made (List Expr)) (f : BuiltIn) (r : Refusal) → f ≡ own_function name args.made
    → Refuses (collations known (own_collations f)) r → CallsScalar known of.Engine name args (Err r)
unfolding CallsScalar own_function
own_refused known name args f r is h = subst (λ (g : BuiltIn). Refuses (collations known (own_collations g)) r) is h

pub own_is : (known : Known) (name : Name) (args : Made (List Expr)) (f : BuiltIn) (r : Made Expr) → f ≡ own_function name args.made
    → collations known (own_collations f) ≡ [] → told r ≡ with (e.BuiltIn f) (told args) → CallsScalar known of.Engine name args (Ok r)
unfolding CallsScalar own_function
own_is known name args f r is h t =
    let whole : BuiltIn → Read Expr = λ g. record { bad = collations known (own_collations g); misplaced = args.is_misplaced; made = e.BuiltIn g args.made } in
    let none : whole f ≡ told r = ap (λ (b : List Refusal). let x : Read Expr = record { bad = b; misplaced = args.is_misplaced; made = e.BuiltIn f args.made } in x) h ∙ sym t in
    ap whole (sym is) ∙ none

pub host_is : (known : Known) (name : Name) (args : Made (List Expr)) (r : Made Expr) → told r ≡ with (e.Host name) (told args) → CallsScalar known of.Host name args (Ok r)
unfolding CallsScalar
host_is known name args r t = sym t

-- ---- aggregates

pub aggregate_memory : (known : Known) (owner : Owner) (name : Name) (allowed : Bool) (args : Made (List Expr)) → CallsAggregate known owner name allowed args (Err Memory)
unfolding CallsAggregate
aggregate_memory known owner name allowed args = tt

pub aggregate_refused : (known : Known) (owner : Owner) (name : Name) (allowed : Bool) (args : Made (List Expr)) (n : Name) (r : Refusal) → n ≡ collation_of args.made
    → Refuses (collation known n) r → CallsAggregate known owner name allowed args (Err r)
unfolding CallsAggregate
aggregate_refused known owner name allowed args n r is h = subst (λ (m : Name). Refuses (collation known m) r) is h

pub aggregate_is : (known : Known) (owner : Owner) (name : Name) (allowed : Bool) (args : Made (List Expr)) (n : Name) (kind : Kind) (r : Made Expr) → n ≡ collation_of args.made
    → collation known n ≡ [] → kind ≡ kind_of owner name n → told r ≡ also_misplaced (not allowed) (with (e.Aggregate kind) (told args)) → CallsAggregate known owner name allowed args (Ok r)
unfolding CallsAggregate
aggregate_is known owner name allowed args n kind r is h k t =
    let whole : Name → Read Expr = λ m. record { bad = collation known m; misplaced = not allowed || args.is_misplaced; made = e.Aggregate (kind_of owner name m) args.made } in
    let made : List Refusal → Kind → Read Expr = λ b j. record { bad = b; misplaced = not allowed || args.is_misplaced; made = e.Aggregate j args.made } in
    ap whole (sym is) ∙ ap (λ (b : List Refusal). made b (kind_of owner name n)) h ∙ ap (made []) (sym k) ∙ sym t

pub unread_memory : (known : Known) (f : Unread) (name : Name) → CallsUnread known f name (Err Memory)
unfolding CallsUnread
unread_memory known f name = tt

-- ---- what a name means

-- what a call is by what its name means
abbrev pub by_callee : Known → Callee → Name → Place → List Reader → Read Expr
by_callee known (to.Scalar owner) name p args = scalar_call known owner name (each (map (λ r. r p) args))
by_callee known (to.Aggregate owner) name p args = aggregate_call known owner name p.aggregates (each (map (λ r. r (record p { aggregates = false })) args))
by_callee known (to.Unread f) name p args = unread_call known f name

pushed : {A B : Type 0} (g : A → B) (b : Bool) (x y : A) → g (if b then x else y) ≡ (if b then g x else g y)
pushed g true x y = refl
pushed g false x y = refl

pushed_to : {A B : Type 0} (g : A → B) (b : Bool) (x y : A) (z : B) → g y ≡ z → g (if b then x else y) ≡ (if b then g x else z)
pushed_to g true x y z h = refl
pushed_to g false x y z h = h

engine_same : (known : Known) (name : Name) (count : ℕ) (p : Place) (args : List Reader) → by_callee known (engine_callee known name count) name p args ≡ engine_call known name count p args
unfolding kind_of
engine_same known name count p args =
    let g : Callee → Read Expr = λ c. by_callee known c name p args in
    pushed_to g (is_built_in_scalar name count) _ _ _
    (pushed_to g (is_built_in_aggregate name count) _ _ _
    (pushed_to g (is_site_id name && (count == 0)) _ _ _
    (pushed_to g (is_db_version name && (count == 0)) _ _ _
    (pushed g (is_function known name) _ _))))

defined_same : (known : Known) (o : Option Definition) (name : Name) (count : ℕ) (p : Place) (args : List Reader) → by_callee known (callee_by known o name count) name p args ≡ call_by known o name count p args
unfolding kind_of
defined_same known (Some (defined.Scalar n)) name count p args = refl
defined_same known (Some (defined.Aggregate n)) name count p args = refl
defined_same known None name count p args = engine_same known name count p args

pub called_as : (known : Known) (name : Name) (p : Place) (args : List Reader) (c : Callee) → callee known name (length args) ≡ c → call known name p args ≡ by_callee known c name p args
unfolding callee
called_as known name p args c h =
    sym (defined_same known (known.function_of name (length args)) name (length args) p args) ∙ ap (λ (d : Callee). by_callee known d name p args) h
