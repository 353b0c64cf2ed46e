-- How the parsers call each other.
use Rattle.std.proofs.Common.{◌≡◌, ℕ, zero, suc, ◌-◌, ◌<◌, List, refl, arith, sub-one}
use Rattle.cr_tree.specs.declared.limits.Limits.{Limits}
use Rattle.cr_tree.specs.declared.symbol.Symbol.{Symbol}
use Rattle.cr_tree.specs.Reading.{Sized, too_high, level, expr_at, expr_by, inside_by, argument_by, below_by, expr, rules_of, inside_limits, argument_limits, below_limits}

pub expr_level : (lim : Limits) (least : ℕ) (ts : List Symbol) → expr lim least ts ≡ level lim (rules_of lim) least ts
unfolding expr rules_of expr_by expr_at inside_by argument_by below_by
expr_level lim least ts = at lim.opens lim.room
  where
    at : (opens room : ℕ) → expr_by lim.commas lim.joins opens room least ts
        ≡ level (record lim { opens = opens; room = room }) (record { inside = inside_by lim.commas lim.joins opens room; argument = argument_by lim.commas lim.joins opens room; below = below_by lim.commas lim.joins opens room }) least ts
    at zero zero = refl
    at zero (suc room) = refl
    at (suc opens) zero = refl
    at (suc opens) (suc room) = refl

pub inside_expr : (lim : Limits) (ts : List Symbol) → 0 < lim.opens → (rules_of lim).inside ts ≡ expr (inside_limits lim) 1 ts
unfolding rules_of inside_by expr
inside_expr lim ts h = at lim.opens h
  where
    at : (opens : ℕ) → 0 < opens → inside_by lim.commas lim.joins opens lim.room ts ≡ expr_by lim.commas lim.joins (opens - 1) lim.room 1 ts
    at zero h = absurd (omega arith)
    at (suc opens) h = rw sub-one refl

pub argument_expr : (lim : Limits) (ts : List Symbol) → 0 < lim.opens → 0 < lim.room → (rules_of lim).argument ts ≡ expr (argument_limits lim) 1 ts
unfolding rules_of argument_by expr
argument_expr lim ts h g = at lim.opens lim.room h g
  where
    at : (opens room : ℕ) → 0 < opens → 0 < room → argument_by lim.commas lim.joins opens room ts ≡ expr_by lim.commas lim.joins (opens - 1) (room - 1) 1 ts
    at opens zero h g = absurd (omega arith)
    at zero (suc room) h g = absurd (omega arith)
    at (suc opens) (suc room) h g = rw sub-one rw sub-one refl

-- with no room
pub argument_high : (lim : Limits) (ts : List Symbol) → lim.room ≡ 0 → (rules_of lim).argument ts ≡ too_high {A = Sized} 1 ts
unfolding rules_of argument_by
argument_high lim ts h = at lim.room h
  where
    at : (room : ℕ) → room ≡ 0 → argument_by lim.commas lim.joins lim.opens room ts ≡ too_high {A = Sized} 1 ts
    at zero h = refl
    at (suc room) h = absurd (omega arith)

-- with no parentheses left
pub argument_shut : (lim : Limits) (ts : List Symbol) → lim.opens ≡ 0 → (rules_of lim).argument ts ≡ too_high {A = Sized} 1 ts
unfolding rules_of argument_by
argument_shut lim ts h = at lim.opens lim.room h
  where
    at : (opens room : ℕ) → opens ≡ 0 → argument_by lim.commas lim.joins opens room ts ≡ too_high {A = Sized} 1 ts
    at zero zero h = refl
    at zero (suc room) h = refl
    at (suc opens) room h = absurd (omega arith)

pub inside_shut : (lim : Limits) (ts : List Symbol) → lim.opens ≡ 0 → (rules_of lim).inside ts ≡ too_high {A = Sized} 1 ts
unfolding rules_of inside_by
inside_shut lim ts h = at lim.opens h
  where
    at : (opens : ℕ) → opens ≡ 0 → inside_by lim.commas lim.joins opens lim.room ts ≡ too_high {A = Sized} 1 ts
    at zero h = refl
    at (suc opens) h = absurd (omega arith)

pub below_expr : (lim : Limits) (least : ℕ) (ts : List Symbol) → 0 < lim.room → (rules_of lim).below least ts ≡ expr (below_limits lim) least ts
unfolding rules_of below_by expr
below_expr lim least ts h = at lim.room h
  where
    at : (room : ℕ) → 0 < room → below_by lim.commas lim.joins lim.opens room least ts ≡ expr_by lim.commas lim.joins lim.opens (room - 1) least ts
    at zero h = absurd (omega arith)
    at (suc room) h = rw sub-one refl

pub below_high : (lim : Limits) (least : ℕ) (ts : List Symbol) → lim.room ≡ 0 → (rules_of lim).below least ts ≡ too_high {A = Sized} least ts
unfolding rules_of below_by
below_high lim least ts h = at lim.room h
  where
    at : (room : ℕ) → room ≡ 0 → below_by lim.commas lim.joins lim.opens room least ts ≡ too_high {A = Sized} least ts
    at zero h = refl
    at (suc room) h = absurd (omega arith)
