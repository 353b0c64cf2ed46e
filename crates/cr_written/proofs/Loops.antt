-- Loops that put what they read behind what is read.
use Rattle.std.proofs.Common.{◌≡◌, ◌∙◌, ℕ, ◌+◌, ◌<◌, Bool, ◌||◌, List, [], ◌∷◌, ◌++◌, length, map, drop, get_or, sym, ap, subst, append_assoc}
use Rattle.cr_resolve.specs.declared.refusal.Refusal.{Refusal}
use Rattle.cr_resolve.specs.declared.reading.Made.{Made}
use Rattle.cr_resolve.specs.Reading.{Read, with_both, each}
use Rattle.cr_resolve.specs.Told.{told, Refuses}
use Rattle.cr_resolve.proofs.InSight.{rest_at}
use Rattle.cr_resolve.proofs.Refusals.{ahead}
use Rattle.cr_select.proofs.Each.{after, or_assoc}

-- what is left to read, behind what is read
abbrev pub behind : {B : Type 0} → Made (List B) → Read (List B) → Read (List B)
behind held rest = after held.is_misplaced held.made rest

abbrev pub ahead_of : {B : Type 0} → Read B → Read (List B) → Read (List B)
ahead_of r rest = with_both (λ y ys. y ∷ ys) r rest

module _ {B : Type 0} where
  pub next : (held more : Made (List B)) (m : Made B) (r : Read B) (rest whole : Read (List B)) → r ≡ told m → told more ≡ with_both (λ ys y. ys ++ y ∷ []) (told held) (told m)
      → behind held (ahead_of r rest) ≡ whole → behind more rest ≡ whole
  next held more m r rest whole h g left =
      let put : Read (List B) → Read (List B) = λ w. record { bad = rest.bad; misplaced = w.misplaced || rest.misplaced; made = w.made ++ rest.made } in
      let pushed : behind more rest ≡ put (with_both (λ ys y. ys ++ y ∷ []) (told held) (told m)) = ap put g in
      let flag : Bool → Read (List B) = λ b. record { bad = rest.bad; misplaced = b; made = (held.made ++ m.made ∷ []) ++ rest.made } in
      let list : List B → Read (List B) = λ ys. record { bad = rest.bad; misplaced = held.is_misplaced || (m.is_misplaced || rest.misplaced); made = ys } in
      pushed ∙ ap flag (or_assoc held.is_misplaced m.is_misplaced rest.misplaced) ∙ ap list (append_assoc held.made (m.made ∷ []) rest.made)
      ∙ ap (λ (s : Read B). behind held (ahead_of s rest)) (sym h) ∙ left

  pub fails : (held : Made (List B)) (r : Read B) (rest whole : Read (List B)) (f : Refusal) → Refuses r.bad f → behind held (ahead_of r rest) ≡ whole → Refuses whole.bad f
  fails held r rest whole f h left = subst (λ (w : Read (List B)). Refuses w.bad f) left (ahead r.bad rest.bad f h)

-- ---- item by item

module _ {A B : Type 0} (f : A → Read B) where
  opened : (held : Made (List B)) (xs : List A) (i : ℕ) (x : A) → i < length xs → x ≡ get_or xs i x → behind held (each (map f (drop i xs))) ≡ behind held (ahead_of (f x) (each (map f (drop (i + 1) xs))))
  opened held xs i x h e = ap (λ (ys : List A). behind held (each (map f ys))) (rest_at xs i x h e)

  pub each_next : (held more : Made (List B)) (xs : List A) (i : ℕ) (x : A) (m : Made B) (whole : Read (List B)) → i < length xs → x ≡ get_or xs i x
      → f x ≡ told m → told more ≡ with_both (λ ys y. ys ++ y ∷ []) (told held) (told m) → behind held (each (map f (drop i xs))) ≡ whole → behind more (each (map f (drop (i + 1) xs))) ≡ whole
  each_next held more xs i x m whole h e k g q = next held more m (f x) (each (map f (drop (i + 1) xs))) whole k g (sym (opened held xs i x h e) ∙ q)

  pub each_fails : (held : Made (List B)) (xs : List A) (i : ℕ) (x : A) (g : Refusal) (whole : Read (List B)) → i < length xs → x ≡ get_or xs i x
      → Refuses (f x).bad g → behind held (each (map f (drop i xs))) ≡ whole → Refuses whole.bad g
  each_fails held xs i x g whole h e k q = fails held (f x) (each (map f (drop (i + 1) xs))) whole g k (sym (opened held xs i x h e) ∙ q)
