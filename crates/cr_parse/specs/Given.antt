-- What a function that parses gives: the reading's outcome, unless memory runs out.
use Rattle.std.specs.Prelude.{◌≡◌, ℕ, ◌+◌, ◌<◌, ◌≤◌, List, Result, Ok, Err, IfOk}
use Rattle.std.specs.declared.alloc.Global.{Global}
use denote.Ref.{MutBor}
use Rattle.cr_tree.specs.declared.limits.Limits.{Limits}
use Rattle.cr_tree.specs.declared.symbol.Symbol.{Symbol}
use Rattle.cr_tree.specs.declared.expr.Expr.{Expr}
use Rattle.cr_tree.specs.Reading.{Outcome, Reads, Fails, Syntax, Limit, expr}
use Rattle.cr_parse.specs.declared.fault.Fault.{Fault}
use Rattle.cr_parse.specs.declared.fault.Fault.TheVariants as f

abbrev pub Gives : {X A : Type 0} → (X → A) → Outcome A → Result X Fault → List Symbol → Type 0
Gives view outcome (Ok x) new = outcome ≡ Reads (view x) new
Gives view outcome (Err f.Memory) new = Unit {0}
Gives view outcome (Err f.Syntax) new = outcome ≡ Fails Syntax new
Gives view outcome (Err (f.Limit x)) new = outcome ≡ Fails (Limit x) new

-- the same of a function that takes no memory, and so never tells want of it
abbrev pub Tells : {X A : Type 0} → (X → A) → Outcome A → Result X Fault → List Symbol → Type 0
Tells view outcome (Ok x) new = outcome ≡ Reads (view x) new
Tells view outcome (Err f.Memory) new = ⊥
Tells view outcome (Err f.Syntax) new = outcome ≡ Fails Syntax new
Tells view outcome (Err (f.Limit x)) new = outcome ≡ Fails (Limit x) new

-- a function value that parses expressions with fewer parentheses or less room
pub record Nests (lim : Limits) (pre : Global → MutBor (List Symbol) → Limits → ℕ → Type 0)
    (post : Global → MutBor (List Symbol) → Limits → ℕ → Result (Expr × ℕ) Fault → MutBor (List Symbol) → Type 0) : Type 0 where
  pub callable : (alloc : Global) (old : MutBor (List Symbol)) (m : Limits) (least : ℕ) → m.opens + m.room < lim.opens + lim.room → pre alloc old m least
  pub reads : (alloc : Global) (old new : MutBor (List Symbol)) (m : Limits) (least : ℕ) (res : Result (Expr × ℕ) Fault) → post alloc old m least res new
      → Gives (λ x. x) (expr m least old.now) res new.now
  pub low : (alloc : Global) (old new : MutBor (List Symbol)) (m : Limits) (least : ℕ) (res : Result (Expr × ℕ) Fault) → post alloc old m least res new
      → IfOk res (λ x. x.1 ≤ m.room)
