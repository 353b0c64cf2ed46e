-- Which function a call means, by its name and its count of arguments, and what it makes of arguments that are read. How
-- arguments bring a collation is long, so what an answer says of a call is kept closed.
use Rattle.std.specs.Prelude.{ℕ, Bool, not, ◌&&◌, ◌==◌, List, codes, Option, Some, None, Result, if◌then◌else◌}
use Rattle.std.specs.Str.{bytes_eq}
use Rattle.cr_value.specs.declared.value.Value.TheVariants.{Null}
use Rattle.cr_host.specs.declared.function.Definition.{Definition}
use Rattle.cr_host.specs.declared.function.Definition.TheVariants as defined
use Rattle.cr_host.specs.BuiltIn.{is_built_in_scalar, is_built_in_aggregate}
use Rattle.cr_term.specs.declared.operator.BuiltIn.{BuiltIn}
use Rattle.cr_term.specs.declared.operator.Aggregate.{Aggregate as Kind}
use Rattle.cr_term.specs.declared.operator.Aggregate.TheVariants as k
use Rattle.cr_term.specs.declared.expr.Expr.{Expr}
use Rattle.cr_term.specs.Nodes as e
use Rattle.cr_term.specs.Operands.{collation_of}
use Rattle.cr_questions.specs.Questions.{Name}
use Rattle.cr_resolve.specs.declared.refusal.Refusal.{Refusal}
use Rattle.cr_resolve.specs.declared.refusal.Refusal.TheVariants as no
use Rattle.cr_resolve.specs.declared.reading.Made.{Made}
use Rattle.cr_resolve.specs.declared.call.Owner.{Owner}
use Rattle.cr_resolve.specs.declared.call.Owner.TheVariants as of
use Rattle.cr_resolve.specs.declared.call.Unread.{Unread}
use Rattle.cr_resolve.specs.declared.call.Unread.TheVariants as unread
use Rattle.cr_resolve.specs.declared.call.Callee.{Callee}
use Rattle.cr_resolve.specs.declared.call.Callee.TheVariants as to
use Rattle.cr_resolve.specs.Reading.{Read, fine, refused, with, also, also_misplaced}
use Rattle.cr_resolve.specs.Known.{Known, is_function, is_site_id, is_db_version, collation}
use Rattle.cr_resolve.specs.Expressions.{built_in, own_call}
use Rattle.cr_resolve.specs.Told.{told, Reads}

-- ---- which function

abbrev pub engine_callee : Known → Name → ℕ → Callee
engine_callee known name count =
    if is_built_in_scalar name count then to.Scalar of.Engine
    else if is_built_in_aggregate name count then to.Aggregate of.Engine
    else if is_site_id name && (count == 0) then to.Unread unread.SiteId
    else if is_db_version name && (count == 0) then to.Unread unread.DbVersion
    else if is_function known name then to.Unread unread.OtherCount
    else to.Unread unread.NoFunction

-- the host's comes first
abbrev pub callee_by : Known → Option Definition → Name → ℕ → Callee
callee_by known (Some (defined.Scalar n)) name count = to.Scalar of.Host
callee_by known (Some (defined.Aggregate n)) name count = to.Aggregate of.Host
callee_by known None name count = engine_callee known name count

unfoldable pub callee : Known → Name → ℕ → Callee
callee known name count = callee_by known (known.function_of name count) name count

-- ---- a call whose arguments are not read

abbrev pub unread_call : Known → Unread → Name → Read Expr
unread_call known unread.SiteId name = fine (e.SiteId known.catalog.site)
unread_call known unread.DbVersion name = fine (e.DbVersion known.catalog.db_version)
unread_call known unread.OtherCount name = refused (no.WrongArity name) (e.Literal Null)
unread_call known unread.NoFunction name = refused (no.NoSuchFunction name) (e.Literal Null)

unfoldable pub CallsUnread : Known → Unread → Name → Result (Made Expr) Refusal → Type 0
CallsUnread known f name r = Reads (unread_call known f name) r

-- ---- a scalar function

-- the engine's function of that name
unfoldable pub own_function : Name → List Expr → BuiltIn
own_function name args = built_in name args

abbrev pub scalar_call : Known → Owner → Name → Read (List Expr) → Read Expr
scalar_call known of.Host name args = with (e.Host name) args
scalar_call known of.Engine name args = own_call known name args

unfoldable pub CallsScalar : Known → Owner → Name → Made (List Expr) → Result (Made Expr) Refusal → Type 0
CallsScalar known owner name args r = Reads (scalar_call known owner name (told args)) r

-- ---- an aggregate

-- the engine's of that name, under a collation
abbrev pub engine_kind : Name → Name → Kind
engine_kind name collation =
    if bytes_eq name (codes "count") then k.Count
    else if bytes_eq name (codes "max") then k.Max collation
    else if bytes_eq name (codes "min") then k.Min collation
    else k.Sum

unfoldable pub kind_of : Owner → Name → Name → Kind
kind_of of.Host name collation = k.Host name
kind_of of.Engine name collation = engine_kind name collation

abbrev pub aggregate_call : Known → Owner → Name → Bool → Read (List Expr) → Read Expr
aggregate_call known owner name allowed args =
    also_misplaced (not allowed) (also (λ z. collation known (collation_of args.made)) (with (λ es. e.Aggregate (kind_of owner name (collation_of es)) es) args))

unfoldable pub CallsAggregate : Known → Owner → Name → Bool → Made (List Expr) → Result (Made Expr) Refusal → Type 0
CallsAggregate known owner name allowed args r = Reads (aggregate_call known owner name allowed (told args)) r
