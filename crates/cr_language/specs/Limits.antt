-- How much a statement may have. Source: this project's own.
use Rattle.std.specs.Prelude.{◌≡◌}
use Rattle.cr_tree.specs.declared.limits.TheConstants.{LIMITS}

-- An expression is 100 deep at most, a leaf being 1, and 200 parentheses are open in it at once; a call has 100 arguments at most,
-- with 99 commas between them, and a FROM 16 tables, 15 behind the first.
abbrev pub StatementsHaveLimits : Type 0
StatementsHaveLimits = LIMITS ≡ record { opens = 200; room = 99; commas = 99; joins = 15 }
