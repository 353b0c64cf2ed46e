-- Expressions made of their parts anew: how operands meet, and which collation a function takes, is decided again.
use Rattle.std.specs.Prelude.{List, map, Option, Some, None}
use Rattle.std.specs.Option.{option_map}
use Rattle.cr_term.specs.declared.operator.BuiltIn.{BuiltIn as Own}
use Rattle.cr_term.specs.declared.operator.BuiltIn.TheVariants as b
use Rattle.cr_term.specs.declared.operator.Aggregate.{Aggregate as Kind}
use Rattle.cr_term.specs.declared.operator.Aggregate.TheVariants as k
use Rattle.cr_term.specs.declared.expr.When.{When}
use Rattle.cr_term.specs.declared.expr.Expr.{Expr}
use Rattle.cr_term.specs.Nodes as e
use Rattle.cr_term.specs.declared.expr.Expr.TheOpen.{Expr-F, Literal, Param, Column, Shown, Unary, Arithmetic, Join, Like, Logic, Compare, Collate, Cast, In, Between, Case, BuiltIn, Host, Aggregate, SiteId, DbVersion}
use Rattle.cr_term.specs.Operands.{meeting, meeting_item, no_meeting, comparison, collation_of, first_collation}

-- a node with other parts
abbrev pub mapped : {A B C D : Type 0} → (A → B) → (C → D) → Expr-F A C → Expr-F B D
mapped f g (Literal v) = Literal v
mapped f g (Param n) = Param n
mapped f g (Column c) = Column c
mapped f g (Shown n x) = Shown n (f x)
mapped f g (Unary op x) = Unary op (f x)
mapped f g (Arithmetic op x y) = Arithmetic op (f x) (f y)
mapped f g (Join x y) = Join (f x) (f y)
mapped f g (Like n x y) = Like n (f x) (f y)
mapped f g (Logic op x y) = Logic op (f x) (f y)
mapped f g (Compare op m x y) = Compare op m (f x) (f y)
mapped f g (Collate x name) = Collate (f x) name
mapped f g (Cast to x) = Cast to (f x)
mapped f g (In n m x items) = In n m (f x) (map f items)
mapped f g (Between n m l x low high) = Between n m l (f x) (f low) (f high)
mapped f g (Case x arms other) = Case (option_map f x) (map g arms) (option_map f other)
mapped f g (BuiltIn h args) = BuiltIn h (map f args)
mapped f g (Host name args) = Host name (map f args)
mapped f g (Aggregate kind args) = Aggregate kind (map f args)
mapped f g (SiteId bytes) = SiteId bytes
mapped f g (DbVersion n) = DbVersion n

-- a function with the collation of its arguments
abbrev pub own_with : Own → List Expr → Own
own_with (b.Max n) args = b.Max (first_collation args)
own_with (b.Min n) args = b.Min (first_collation args)
own_with (b.NullIf n) args = b.NullIf (first_collation args)
own_with f args = f

abbrev pub kind_with : Kind → List Expr → Kind
kind_with (k.Max n) args = k.Max (collation_of args)
kind_with (k.Min n) args = k.Min (collation_of args)
kind_with f args = f

-- an arm with the operand that it meets, if there is one
abbrev pub arm_with : Option Expr → When → When
arm_with None w = record { meeting = no_meeting; when = w.when; then = w.then }
arm_with (Some x) w = record { meeting = meeting x w.when; when = w.when; then = w.then }

-- an expression of its parts
abbrev pub built : Expr-F Expr When → Expr
built (Literal v) = e.Literal v
built (Param n) = e.Param n
built (Column c) = e.Column c
built (Shown n x) = e.Shown n x
built (Unary op x) = e.Unary op x
built (Arithmetic op x y) = e.Arithmetic op x y
built (Join x y) = e.Join x y
built (Like n x y) = e.Like n x y
built (Logic op x y) = e.Logic op x y
built (Compare op m x y) = comparison op x y
built (Collate x name) = e.Collate x name
built (Cast to x) = e.Cast to x
built (In n m x items) = e.In n (meeting_item x) x items
built (Between n m l x low high) = e.Between n (meeting x low) (meeting x high) x low high
built (Case x arms other) = e.Case x (map (arm_with x) arms) other
built (BuiltIn f args) = e.BuiltIn (own_with f args) args
built (Host name args) = e.Host name args
built (Aggregate kind args) = e.Aggregate (kind_with kind args) args
built (SiteId bytes) = e.SiteId bytes
built (DbVersion n) = e.DbVersion n
