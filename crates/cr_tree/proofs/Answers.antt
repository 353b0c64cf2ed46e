-- What can be said of symbols excludes all else: they are read as one thing, or have one bad place, or meet a limit. So
-- the language alone says which it is.
use Rattle.std.proofs.Common.{◌≡◌, ℕ, suc, ◌≤◌, ◌<◌, Bool, true, false, nat_lt, List, ◌++◌, length, take, drop, refl, sym, ◌∙◌, ap, append_assoc, arith}
use Rattle.std.proofs.lemmas.Bool.{ltb-true, ltb-false}
use Rattle.std.proofs.lemmas.List.{take-append-drop, take-take}
use Rattle.cr_tree.specs.declared.limits.LimitKind.{LimitKind}
use Rattle.cr_tree.specs.declared.limits.TheConstants.{LIMITS}
use Rattle.cr_tree.specs.declared.symbol.Symbol.{Symbol}
use Rattle.cr_tree.specs.Language.{Language}
use Rattle.cr_tree.specs.Judging.{IsRead, OneBegins, IsBadPlace, MeetsLimit}

-- what begins with some symbols begins with fewer of them
fewer : (m n : ℕ) (ts words more : List Symbol) → m ≤ n → words ≡ take n ts ++ more → words ≡ take m ts ++ (drop m (take n ts) ++ more)
fewer m n ts words more h e = e ∙ (ap (λ z. z ++ more) (sym (take-append-drop m (take n ts)))
    ∙ (append_assoc (take m (take n ts)) (drop m (take n ts)) more ∙ ap (λ z. z ++ (drop m (take n ts) ++ more)) (take-take m n ts h)))

by_order : (m n : ℕ) {P : Type 0} → (m < n → P) → (n < m → P) → (m ≡ n → P) → P
by_order m n {P} f g h = at (nat_lt m n) refl
  where
    at : (b : Bool) → nat_lt m n ≡ b → P
    at true i = f (ltb-true m n i)
    at false i = later (nat_lt n m) refl
      where
        later : (b : Bool) → nat_lt n m ≡ b → P
        later true j = g (ltb-true n m j)
        later false j = h (omega (arith, ltb-false m n i, ltb-false n m j))

module _ {A : Type 0} (L : Language A) (ts : List Symbol) where
  pub read_has_no_bad_place : (a : A) (n : ℕ) → IsRead L ts a → IsBadPlace L ts n → ⊥
  read_has_no_bad_place a n r b = by_order n (length ts) (λ h. b.here h LIMITS r.what (drop (suc n) ts) r.fitting (r.written ∙ sym (take-append-drop (suc n) ts)))
      (λ h. absurd (omega (arith, h, b.within))) (λ e. b.ended e LIMITS r.what r.fitting r.written)

  pub read_meets_no_limit : (k : LimitKind) (a : A) → IsRead L ts a → MeetsLimit k L ts → ⊥
  read_meets_no_limit k a r m = m.here r.what (drop (suc m.place) ts) r.fitting (r.written ∙ sym (take-append-drop (suc m.place) ts))

  -- a bad place is no later than where something goes on
  no_later : (m n : ℕ) → IsBadPlace L ts m → n ≤ length ts → OneBegins L (take n ts) → m < n → ⊥
  no_later m n b h one l = b.here (omega (arith, h, l)) LIMITS one.what (drop (suc m) (take n ts) ++ one.more) one.fitting (fewer (suc m) n ts (L.words one.what) one.more (omega (arith, l)) one.written)

  pub bad_place_is_one : (m n : ℕ) → IsBadPlace L ts m → IsBadPlace L ts n → m ≡ n
  bad_place_is_one m n b c = by_order m n (λ h. absurd (no_later m n b c.within c.before h)) (λ h. absurd (no_later n m c b.within b.before h)) (λ e. e)

  pub bad_place_meets_no_limit : (k : LimitKind) (n : ℕ) → IsBadPlace L ts n → MeetsLimit k L ts → ⊥
  bad_place_meets_no_limit k n b m = by_order n m.place
      (λ h. no_later n m.place b (omega (arith, m.within)) m.before h)
      (λ h. m.here b.before.what (drop (suc m.place) (take n ts) ++ b.before.more) b.before.fitting (fewer (suc m.place) n ts (L.words b.before.what) b.before.more (omega (arith, h)) b.before.written))
      (λ e. b.here (omega (arith, e, m.within)) m.beyond.limits m.beyond.what m.beyond.more m.beyond.fitting (m.beyond.written ∙ ap (λ z. take (suc z) ts ++ m.beyond.more) (sym e)))

  -- a limit is not met where something within the limits goes on
  not_passed : (j k : LimitKind) (m : MeetsLimit j L ts) (n : MeetsLimit k L ts) → m.place < n.place → ⊥
  not_passed j k m n h = m.here n.before.what (drop (suc m.place) (take n.place ts) ++ n.before.more) n.before.fitting (fewer (suc m.place) n.place ts (L.words n.before.what) n.before.more (omega (arith, h)) n.before.written)

  pub limit_place_is_one : (j k : LimitKind) (m : MeetsLimit j L ts) (n : MeetsLimit k L ts) → m.place ≡ n.place
  limit_place_is_one j k m n = by_order m.place n.place (λ h. absurd (not_passed j k m n h)) (λ h. absurd (not_passed k j n m h)) (λ e. e)
