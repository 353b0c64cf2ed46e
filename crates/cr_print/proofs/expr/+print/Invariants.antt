use Rattle.std.proofs.Common.{◌≡◌, ◌++◌, [], map, drop, codes}
use Rattle.std.specs.Str.{IsUtf8}
use Rattle.std.specs.String.{string_bytes}
use Rattle.cr_print.specs.Pieces.{in_row}
use Rattle.cr_print.specs.Expressions.{expr, arm}
use Rattle.cr_print.proofs.expr.+print.Given as goal

abbrev pub invariant-push_exprs-loop-x : goal.invariant-push_exprs-loop-x
invariant-push_exprs-loop-x l = record {
  written : string_bytes l.out ++ in_row l.before (codes ", ") (map expr (drop l.x-index l.exprs))
      ≡ string_bytes l.fn.out ++ in_row [] (codes ", ") (map expr l.exprs);
  utf8 : IsUtf8 l.before;
}

abbrev pub invariant-push_arms-loop-arm : goal.invariant-push_arms-loop-arm
invariant-push_arms-loop-arm l =
    string_bytes l.out ++ in_row [] [] (map arm (drop l.arm-index l.arms)) ≡ string_bytes l.fn.out ++ in_row [] [] (map arm l.arms)
