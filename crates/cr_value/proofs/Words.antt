-- Words in texts.
use Rattle.std.proofs.Common.{◌≡◌, ℕ, ◌+◌, ◌<◌, Bool, true, false, ◌||◌, List, length, drop, refl, ap, ◌∙◌}
use Rattle.std.proofs.lemmas.List.{drop_more}
use Rattle.cr_value.specs.Affinity.{begins_with_word, has_word}

here_or_later : (b r : Bool) → b ≡ true → (b || r) ≡ true
here_or_later b r e = rw e refl

later : (b r : Bool) → b ≡ false → (b || r) ≡ r
later b r e = rw e refl

pub found : (word text : List ℕ) (i : ℕ) → i < length text → begins_with_word word (drop i text) ≡ true → has_word word (drop i text) ≡ true
unfolding has_word
found word text i lt h = let at = drop_more text i 0 lt in ap (has_word word) at ∙ here_or_later _ _ (rw at at h)

pub not_here : (word text : List ℕ) (i : ℕ) → i < length text → begins_with_word word (drop i text) ≡ false → has_word word (drop i text) ≡ has_word word (drop (i + 1) text)
unfolding has_word
not_here word text i lt h = let at = drop_more text i 0 lt in ap (has_word word) at ∙ later _ _ (rw at at h)
