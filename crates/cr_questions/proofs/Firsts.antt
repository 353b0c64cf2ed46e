-- The first of several that there is.
use Rattle.std.proofs.Common.{◌≡◌, ◌∙◌, ℕ, List, map, Option, Some, None, refl, sym}
use Rattle.std.specs.Option.{option_map, option_or}
use Rattle.cr_term.specs.declared.expr.When.{When}
use Rattle.cr_term.specs.declared.expr.Expr.{Expr}
use Rattle.cr_term.specs.declared.expr.Expr as e
use Rattle.cr_term.specs.Operands.{explicit_collation, explicit_layer, explicit_arm, first_of, flat}
use Rattle.cr_questions.specs.Parts.{explicit_of_arm}
use Rattle.cr_questions.proofs.Folds.{case_fold}

pub or_assoc : {A : Type 0} (a b c : Option A) → option_or (option_or a b) c ≡ option_or a (option_or b c)
or_assoc None b c = refl
or_assoc (Some x) b c = refl

pub or_none : {A : Type 0} (a : Option A) → option_or a None ≡ a
or_none None = refl
or_none (Some x) = refl

-- of a CASE, from left to right
pub explicit_of_case : (x : Option Expr) (arms : List When) (other : Option Expr)
    → explicit_collation (e.Case x arms other) ≡ option_or (option_or (flat (option_map explicit_collation x)) (first_of (map explicit_of_arm arms))) (flat (option_map explicit_collation other))
explicit_of_case x arms other = case_fold explicit_layer explicit_arm x arms other
    ∙ sym (or_assoc (flat (option_map explicit_collation x)) (first_of (map explicit_of_arm arms)) (flat (option_map explicit_collation other)))

pub explicit_from_case : (expr : Expr) (x : Option Expr) (arms arms' : List When) (other : Option Expr) (a b c : Option (List ℕ))
    → expr ≡ e.Case x arms other → arms' ≡ arms → a ≡ flat (option_map explicit_collation x) → b ≡ option_or a (first_of (map explicit_of_arm arms'))
    → c ≡ option_or b (flat (option_map explicit_collation other)) → c ≡ explicit_collation expr
explicit_from_case expr x arms arms' other a b c is k p q r = rw (is, explicit_of_case x arms other, r, q, p, k) refl
