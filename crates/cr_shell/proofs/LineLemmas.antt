-- Words and literals of a line.
use Rattle.std.proofs.Common.{◌≡◌, ◌≢◌, ◌∙◌, refl, sym, ap, ℕ, suc, ◌+◌, ◌-◌, ◌<◌, ◌≤◌, ◌==◌, nat_le, not, Bool, true, false, List, [], ◌∷◌, ◌++◌, length, take, drop, get_or, Option, Some, None, Result, Ok, Err, arith, Bor, ◌⊎◌, inl, inr}
use Rattle.std.specs.Prelude.{MatchOption, IfOk, IfSome, IfNone}
use Rattle.std.specs.List.{prefix_len}
use Rattle.std.specs.Option.{option_map}
use Rattle.std.proofs.lemmas.Bool.{eq-eqb, ne_eqb, lt-ltb, le-ltb, leb-true, leb-false}
use Rattle.std.proofs.lemmas.List.{drop_more, take_at, drop_at, length-append, drop-drop, drop_all}
use Rattle.cr_value.specs.declared.value.Value.{Value}
use Rattle.cr_value.specs.Literal.{Begins}
use Rattle.cr_value.specs.Reading.{literal_at}
use Rattle.std.proofs.Math.Dec.{ltb}
use Rattle.cr_value.proofs.Places.{begins, begins_read}
use Rattle.cr_shell.specs.Words.{split_at_space, behind, is_empty}

pub told : (b : Bool) → (b ≡ true) ⊎ (b ≡ false)
told true = inl refl
told false = inr refl

passes : (c : ℕ) → c ≢ 32 → not (c == 32) ≡ true
passes c n = ap not (ne_eqb c 32 n)

prefix_whole : (bs : List ℕ) → ((i : ℕ) → i < length bs → get_or bs i 0 ≢ 32) → prefix_len (λ c. not (c == 32)) bs ≡ length bs
prefix_whole [] h = refl
prefix_whole (b ∷ bs) h = rw (passes b (h 0 (omega arith))) (let e = prefix_whole bs (λ i lt. h (suc i) (omega arith)) in omega arith)

prefix_word : (xs ys : List ℕ) → ((i : ℕ) → i < length xs → get_or xs i 0 ≢ 32) → prefix_len (λ c. not (c == 32)) (xs ++ 32 ∷ ys) ≡ length xs
prefix_word [] ys h = refl
prefix_word (x ∷ xs) ys h = rw (passes x (h 0 (omega arith))) (let e = prefix_word xs ys (λ i lt. h (suc i) (omega arith)) in omega arith)

pub splits : (bs : List ℕ) (r : Option (Bor (List ℕ) × Bor (List ℕ)))
    → MatchOption r ((i : ℕ) → i < length bs → get_or bs i 0 ≢ 32) (λ x. (bs ≡ x.0.now ++ (32 ∷ x.1.now)) × ((i : ℕ) → i < length x.0.now → get_or x.0.now i 0 ≢ 32))
    → option_map (λ x. (x.0.now, x.1.now)) r ≡ split_at_space bs
unfolding split_at_space
splits bs None h = rw (prefix_whole bs h, le-ltb (length bs) (length bs) (omega arith)) refl
splits bs (Some x) h =
    let xs = x.0.now in
    let ys = x.1.now in
    let n : prefix_len (λ c. not (c == 32)) bs ≡ length xs = ap (prefix_len (λ c. not (c == 32))) h.0 ∙ prefix_word xs ys h.1 in
    let inside : ltb (length xs) (length bs) ≡ true = lt-ltb _ _ (let e = ap length h.0 in omega (arith, length-append xs (32 ∷ ys))) in
    let front : take (length xs) bs ≡ xs = ap (take (length xs)) h.0 ∙ take_at xs (32 ∷ ys) (length xs) refl in
    let behind : drop (length xs + 1) bs ≡ ys = sym (drop-drop 1 (length xs) bs) ∙ ap (λ l. drop 1 (drop (length xs) l)) h.0 ∙ ap (drop 1) (drop_at xs (32 ∷ ys) (length xs) refl) in
    rw (n, inside, front, behind) refl

-- ---- literals

nothing_left : (text : List ℕ) (at : ℕ) (x : Value × List ℕ) → length text ≤ at → literal_at (drop at text) ≡ Some x → ⊥
unfolding literal_at
nothing_left text at x le e = (let f : None ≡ Some x = ap literal_at (sym (drop_all at text le)) ∙ e in absurd cc)

none_begins : (text : List ℕ) (at : ℕ) (o : Option (Value × List ℕ)) → literal_at (drop at text) ≡ o → ((v : Value) (end : ℕ) → Begins text at v end → ⊥) → None ≡ literal_at (drop at text)
none_begins text at None e n = sym e
none_begins text at (Some x) e n = absurd (elim (told (nat_le at (length text))) [ inl le ↦ n x.0 (length text - length x.1) (begins text at x.0 x.1 (leb-true _ _ le) e) | inr past ↦ nothing_left text at x (omega (arith, leb-false _ _ past)) e ])

pub reads : (text : List ℕ) (at : ℕ) {E : Type 0} (r : Result (Option (Value × ℕ)) E) → IfOk r (λ found. IfSome found (λ x. Begins text at x.0 x.1)) → IfOk r (λ found. IfNone found ((v : Value) (end : ℕ) → Begins text at v end → ⊥))
    → IfOk r (λ found. option_map (λ x. (x.0, drop x.1 text)) found ≡ literal_at (drop at text))
reads text at (Err e) s n = tt
reads text at (Ok None) s n = none_begins text at (literal_at (drop at text)) refl n
reads text at (Ok (Some x)) s n = sym (begins_read text at x.0 x.1 s)

pub behind_at : (text : List ℕ) (at c : ℕ) → at < length text → get_or text at 0 ≡ c → Some (drop (at + 1) text) ≡ behind c (drop at text)
unfolding behind
behind_at text at c lt e = sym (ap (behind c) (drop_more text at 0 lt) ∙ rw (eq-eqb (get_or text at 0) c e) refl)

pub not_behind : (text : List ℕ) (at c : ℕ) → at < length text → get_or text at 0 ≢ c → None ≡ behind c (drop at text)
unfolding behind
not_behind text at c lt n = sym (ap (behind c) (drop_more text at 0 lt) ∙ rw (ne_eqb (get_or text at 0) c n) refl)

pub nothing_behind : (text : List ℕ) (at c : ℕ) → length text ≤ at → None ≡ behind c (drop at text)
unfolding behind
nothing_behind text at c le = rw (drop_all at text le) refl

pub at_end : (text : List ℕ) (at : ℕ) → nat_le (length text) at ≡ is_empty (drop at text)
at_end text at = elim (told (nat_le (length text) at)) [ inl y ↦ y ∙ sym (ap is_empty (drop_all at text (leb-true _ _ y))) | inr n ↦ n ∙ sym (ap is_empty (drop_more text at 0 (leb-false _ _ n))) ]
