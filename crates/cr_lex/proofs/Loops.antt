-- One byte further in a loop.
use Rattle.std.proofs.Common.{◌≡◌, ℕ, ◌+◌, ◌<◌, ◌≤◌, ◌==◌, ◌&&◌, Bool, false, cond, not, List, length, drop, get_or, Some, None, ap}
use Rattle.std.proofs.lemmas.List.{drop_more, at_drop_all}
use Rattle.cr_lex.specs.Reading.{closing, comment_len}

pub closing_more : (q : ℕ) (a : Bool) (xs : List ℕ) (i : ℕ) → i < length xs
    → closing q a i (drop i xs) ≡ cond (get_or xs i 0 == q) (closing q (not a) (i + 1) (drop (i + 1) xs)) (cond a (Some i) (closing q false (i + 1) (drop (i + 1) xs)))
unfolding closing
closing_more q a xs i lt = ap (closing q a i) (drop_more xs i 0 lt)

pub closing_ends : (q : ℕ) (a : Bool) (xs : List ℕ) (i : ℕ) → length xs ≤ i → closing q a i (drop i xs) ≡ cond a (Some i) None
unfolding closing
closing_ends q a xs i le = at_drop_all (closing q a i) xs i le

pub comment_more : (a : Bool) (xs : List ℕ) (i : ℕ) → i < length xs
    → comment_len a i (drop i xs) ≡ cond (a && get_or xs i 0 == 47) (i + 1) (comment_len (get_or xs i 0 == 42) (i + 1) (drop (i + 1) xs))
unfolding comment_len
comment_more a xs i lt = ap (comment_len a i) (drop_more xs i 0 lt)

pub comment_ends : (a : Bool) (xs : List ℕ) (i : ℕ) → length xs ≤ i → comment_len a i (drop i xs) ≡ i
unfolding comment_len
comment_ends a xs i le = at_drop_all (comment_len a i) xs i le
