-- What is read of the items of a list, one after another.
use Rattle.std.proofs.Common.{◌≡◌, ◌∙◌, ℕ, ◌+◌, ◌<◌, Bool, true, false, ◌||◌, List, [], ◌∷◌, ◌++◌, length, map, drop, get_or, refl, sym, ap, subst, append_assoc}
use Rattle.std.proofs.lemmas.List.{append-nil}
use Rattle.cr_resolve.specs.declared.refusal.Refusal.{Refusal}
use Rattle.cr_resolve.specs.declared.reading.Made.{Made}
use Rattle.cr_resolve.specs.Reading.{Read, with_both, each}
use Rattle.cr_resolve.specs.Told.{told, Refuses}
use Rattle.cr_resolve.proofs.InSight.{rest_at}
use Rattle.cr_resolve.proofs.Refusals.{ahead}

pub or_assoc : (a b c : Bool) → ((a || b) || c) ≡ (a || (b || c))
or_assoc true b c = refl
or_assoc false b c = refl

pub or_false : (a : Bool) → (a || false) ≡ a
or_false true = refl
or_false false = refl

-- ---- what is left to read, behind what is read

abbrev pub after : {B : Type 0} → Bool → List B → Read (List B) → Read (List B)
after b held r = record { bad = r.bad; misplaced = b || r.misplaced; made = held ++ r.made }

abbrev pub behind : {A B : Type 0} → (A → Read B) → Bool → List B → List A → Read (List B)
behind f b held xs = after b held (each (map f xs))

module _ {A B : Type 0} (f : A → Read B) where
  opened : (b : Bool) (held : List B) (xs : List A) (i : ℕ) (x : A) → i < length xs → x ≡ get_or xs i x → behind f b held (drop i xs) ≡ behind f b held (x ∷ drop (i + 1) xs)
  opened b held xs i x h e = ap (behind f b held) (rest_at xs i x h e)

  pub next : (b : Bool) (held : List B) (xs : List A) (i : ℕ) (x : A) (m : Made B) (whole : Read (List B)) → i < length xs → x ≡ get_or xs i x
      → f x ≡ told m → behind f b held (drop i xs) ≡ whole → behind f (b || m.is_misplaced) (held ++ m.made ∷ []) (drop (i + 1) xs) ≡ whole
  next b held xs i x m whole h e k q =
      let rest : Read (List B) = each (map f (drop (i + 1) xs)) in
      let step : behind f b held (x ∷ drop (i + 1) xs) ≡ after b held (with_both (λ y ys. y ∷ ys) (told m) rest) =
      ap (λ (r : Read B). after b held (with_both (λ y ys. y ∷ ys) r rest)) k in
      let flag : Bool → Read (List B) = λ c. record { bad = rest.bad; misplaced = c; made = (held ++ m.made ∷ []) ++ rest.made } in
      let list : List B → Read (List B) = λ ys. record { bad = rest.bad; misplaced = b || (m.is_misplaced || rest.misplaced); made = ys } in
      ap flag (or_assoc b m.is_misplaced rest.misplaced) ∙ ap list (append_assoc held (m.made ∷ []) rest.made) ∙ sym step ∙ sym (opened b held xs i x h e) ∙ q

  pub fails : (b : Bool) (held : List B) (xs : List A) (i : ℕ) (x : A) (g : Refusal) (whole : Read (List B)) → i < length xs → x ≡ get_or xs i x
      → Refuses (f x).bad g → behind f b held (drop i xs) ≡ whole → Refuses whole.bad g
  fails b held xs i x g whole h e r q =
      subst (λ (w : Read (List B)). Refuses w.bad g) (sym (opened b held xs i x h e) ∙ q) (ahead (f x).bad (each (map f (drop (i + 1) xs))).bad g r)

pub nothing_left : {B : Type 0} (b : Bool) (held : List B) → after b held (record { bad = []; misplaced = false; made = [] }) ≡ record { bad = []; misplaced = b; made = held }
nothing_left {B} b held =
    let flag : Bool → Read (List B) = λ c. record { bad = []; misplaced = c; made = held ++ [] } in
    let list : List B → Read (List B) = λ ys. record { bad = []; misplaced = b; made = ys } in
    ap flag (or_false b) ∙ ap list (append-nil held)
