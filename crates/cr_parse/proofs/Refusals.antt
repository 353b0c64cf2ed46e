-- A fault is told as the reading's outcome is judged.
use Rattle.std.proofs.Common.{◌≡◌, ◌≢◌, ◌-◌, List, length, Result, Err, refl, sym, ap}
use Rattle.cr_tree.specs.declared.symbol.Symbol.{Symbol}
use Rattle.cr_tree.specs.Reading.{Outcome, Parser, and_then}
use Rattle.cr_parse.specs.declared.error.ParseError.{ParseError}
use Rattle.cr_parse.specs.declared.error.ParseError.TheVariants as p
use Rattle.cr_parse.specs.declared.fault.Fault.{Fault}
use Rattle.cr_parse.specs.declared.fault.Fault.TheVariants as f
use Rattle.cr_parse.specs.Given.{Gives}
use Rattle.cr_parse.specs.Judge.{judge, refusal}

pub told : {A : Type 0} (ts new : List Symbol) (o : Outcome A) (e : Fault) → Gives (λ (x : A). x) o (Err e) new
    → (let r : Result A ParseError = Err (refusal e (length ts - length new)) in r ≢ Err p.Memory → r ≡ judge ts o)
told ts new o f.Memory h m = absurd (m refl)
told ts new o f.Syntax h m = ap (judge ts) (sym h)
told ts new o (f.Limit x) h m = ap (judge ts) (sym h)

-- the same, where more would have been made of what was read
pub told_then : {A B : Type 0} (ts new : List Symbol) (o : Outcome A) (g : A → Parser B) (e : Fault) → Gives (λ (x : A). x) o (Err e) new
    → (let r : Result B ParseError = Err (refusal e (length ts - length new)) in r ≢ Err p.Memory → r ≡ judge ts (and_then o g))
told_then ts new o g f.Memory h m = absurd (m refl)
told_then ts new o g f.Syntax h m = ap (λ z. judge ts (and_then z g)) (sym h)
told_then ts new o g (f.Limit x) h m = ap (λ z. judge ts (and_then z g)) (sym h)
