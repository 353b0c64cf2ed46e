-- Parts that are read one after another.
use Rattle.std.proofs.Common.{◌≡◌, ◌∙◌, ℕ, ◌+◌, ◌<◌, ◌≤◌, Bool, true, false, ◌||◌, List, [], ◌∷◌, ◌++◌, length, map, drop, get_or, Option, Some, None, Ok, Err, refl, ap, sym, subst, append_assoc}
use Rattle.std.proofs.lemmas.List.{append-nil, drop_all}
use Rattle.cr_tree.specs.declared.expr.Expr.{Expr as Tree}
use Rattle.cr_tree.specs.declared.expr.When.{When as ArmTree}
use Rattle.cr_term.specs.declared.expr.Expr.{Expr}
use Rattle.cr_resolve.specs.declared.refusal.Refusal.{Refusal}
use Rattle.cr_resolve.specs.declared.refusal.Refusal.TheVariants.{Memory}
use Rattle.cr_resolve.specs.declared.reading.Made.{Made}
use Rattle.cr_resolve.specs.Known.{Known}
use Rattle.cr_resolve.specs.Reading.{Read, fine, with, with_both, each}
use Rattle.cr_resolve.specs.Scope.{Source}
use Rattle.cr_resolve.specs.Expressions.{Pair, expr}
use Rattle.cr_resolve.specs.Told.{told, Refuses}
use Rattle.cr_resolve.specs.declared.case.Arms.{Arms}
use Rattle.cr_resolve.specs.Cases.{arms_read}
use Rattle.cr_resolve.specs.Answered.{IsRead, AreRead, IsReadIfAny, AreArmsRead, pair}
use Rattle.cr_resolve.proofs.InSight.{rest_at}
use Rattle.cr_resolve.proofs.Refusals.{ahead}

-- ---- a list of parts

or_assoc : (a b c : Bool) → ((a || b) || c) ≡ (a || (b || c))
or_assoc true b c = refl
or_assoc false b c = refl

or_false : (a : Bool) → (a || false) ≡ a
or_false true = refl
or_false false = refl

-- the parts that are read, and what is left, are the whole
abbrev Left : {A B : Type 0} → (B → Read A) → Made (List A) → List B → List B → Type 0
Left read held rest all = with_both (λ xs ys. xs ++ ys) (told held) (each (map read rest)) ≡ each (map read all)

module _ {A B : Type 0} (read : B → Read A) where
  begins : (m : Made (List A)) (all : List B) → told m ≡ fine [] → Left read m all all
  begins m all h = ap (λ (r : Read (List A)). with_both (λ xs ys. xs ++ ys) r (each (map read all))) h

  goes_on : (held more : Made (List A)) (m : Made A) (x : B) (rest all : List B) → read x ≡ told m → told more ≡ with_both (λ xs y. xs ++ y ∷ []) (told held) (told m)
      → Left read held (x ∷ rest) all → Left read more rest all
  goes_on held more m x rest all h g left =
      let them : Read (List A) = each (map read rest) in
      let whole : Bool → List A → Read (List A) = λ b ys. record { bad = them.bad; misplaced = b; made = ys } in
      ap (λ (r : Read (List A)). with_both (λ xs ys. xs ++ ys) r them) g
      ∙ ap (λ (b : Bool). whole b ((held.made ++ m.made ∷ []) ++ them.made)) (or_assoc held.is_misplaced m.is_misplaced them.misplaced)
      ∙ ap (whole (held.is_misplaced || (m.is_misplaced || them.misplaced))) (append_assoc held.made (m.made ∷ []) them.made)
      ∙ ap (λ (r : Read A). with_both (λ xs ys. xs ++ ys) (told held) (with_both (λ y ys. y ∷ ys) r them)) (sym h) ∙ left

  breaks_off : (held : Made (List A)) (x : B) (rest all : List B) (f : Refusal) → Refuses (read x).bad f → Left read held (x ∷ rest) all → Refuses (each (map read all)).bad f
  breaks_off held x rest all f h left = subst (λ (r : Read (List A)). Refuses r.bad f) left (ahead (read x).bad (each (map read rest)).bad f h)

  ends : (held : Made (List A)) (all : List B) → Left read held [] all → each (map read all) ≡ told held
  ends held all left =
      let whole : Bool → List A → Read (List A) = λ b ys. record { bad = []; misplaced = b; made = ys } in
      sym left ∙ ap (λ (b : Bool). whole b (held.made ++ [])) (or_false held.is_misplaced) ∙ ap (whole held.is_misplaced) (append-nil held.made)

module _ (known : Known) (ss : List Source) (may : Bool) where
  -- ---- expressions

  unfoldable pub LeftToRead : Made (List Expr) → List Tree → List Tree → Type 0
  LeftToRead held rest all = Left (expr known ss may) held rest all

  pub all_memory : (ts : List Tree) → AreRead known ss may ts (Err Memory)
  unfolding AreRead
  all_memory ts = tt

  pub all_begin : (m : Made (List Expr)) (ts : List Tree) → told m ≡ fine [] → LeftToRead m ts ts
  unfolding LeftToRead
  all_begin m ts h = begins (expr known ss may) m ts h

  pub all_go_on : (held more : Made (List Expr)) (m : Made Expr) (ts all : List Tree) (i : ℕ) (t : Tree) → i < length ts → t ≡ get_or ts i t → IsRead known ss may t (Ok m)
      → told more ≡ with_both (λ xs y. xs ++ y ∷ []) (told held) (told m) → LeftToRead held (drop i ts) all → LeftToRead more (drop (i + 1) ts) all
  unfolding LeftToRead IsRead
  all_go_on held more m ts all i t h is r g left =
      goes_on (expr known ss may) held more m t (drop (i + 1) ts) all r g (subst (λ (rest : List Tree). Left (expr known ss may) held rest all) (rest_at ts i t h is) left)

  pub all_break_off : (held : Made (List Expr)) (ts all : List Tree) (i : ℕ) (t : Tree) (f : Refusal) → i < length ts → t ≡ get_or ts i t → IsRead known ss may t (Err f)
      → LeftToRead held (drop i ts) all → AreRead known ss may all (Err f)
  unfolding LeftToRead IsRead AreRead
  all_break_off held ts all i t f h is r left =
      breaks_off (expr known ss may) held t (drop (i + 1) ts) all f r (subst (λ (rest : List Tree). Left (expr known ss may) held rest all) (rest_at ts i t h is) left)

  pub all_end : (held : Made (List Expr)) (ts all : List Tree) (i : ℕ) → length ts ≤ i → LeftToRead held (drop i ts) all → AreRead known ss may all (Ok held)
  unfolding LeftToRead AreRead
  all_end held ts all i h left = ends (expr known ss may) held all (subst (λ (rest : List Tree). Left (expr known ss may) held rest all) (drop_all i ts h) left)

  -- ---- arms

  unfoldable pub ArmsLeft : Made (List Pair) → List ArmTree → List ArmTree → Type 0
  ArmsLeft held rest all = Left (pair known ss may) held rest all

  pub arms_memory : (ws : List ArmTree) → AreArmsRead known ss may ws (Err Memory)
  unfolding AreArmsRead
  arms_memory ws = tt

  pub arms_begin : (m : Made (List Pair)) (ws : List ArmTree) → told m ≡ fine [] → ArmsLeft m ws ws
  unfolding ArmsLeft
  arms_begin m ws h = begins (pair known ss may) m ws h

  pub arms_go_on : (held more : Made (List Pair)) (m n : Made Expr) (ws all : List ArmTree) (i : ℕ) (w : ArmTree) → i < length ws → w ≡ get_or ws i w
      → IsRead known ss may w.when (Ok m) → IsRead known ss may w.then (Ok n)
      → told more ≡ with_both (λ xs y. xs ++ y ∷ []) (told held) (with_both (λ x y. record { when = x; gives = y }) (told m) (told n)) → ArmsLeft held (drop i ws) all → ArmsLeft more (drop (i + 1) ws) all
  unfolding ArmsLeft IsRead
  arms_go_on held more m n ws all i w h is r s g left =
      let both : Read Expr → Read Expr → Read Pair = λ a b. with_both (λ x y. record { when = x; gives = y }) a b in
      let p : Made Pair = record { made = record { when = m.made; gives = n.made }; is_misplaced = m.is_misplaced || n.is_misplaced } in
      let one : pair known ss may w ≡ told p = ap (λ (a : Read Expr). both a (expr known ss may w.then)) r ∙ ap (both (told m)) s in
      goes_on (pair known ss may) held more p w (drop (i + 1) ws) all one g (subst (λ (rest : List ArmTree). Left (pair known ss may) held rest all) (rest_at ws i w h is) left)

  pub when_breaks_off : (held : Made (List Pair)) (ws all : List ArmTree) (i : ℕ) (w : ArmTree) (f : Refusal) → i < length ws → w ≡ get_or ws i w
      → IsRead known ss may w.when (Err f) → ArmsLeft held (drop i ws) all → AreArmsRead known ss may all (Err f)
  unfolding ArmsLeft IsRead AreArmsRead
  when_breaks_off held ws all i w f h is r left =
      breaks_off (pair known ss may) held w (drop (i + 1) ws) all f (ahead (expr known ss may w.when).bad (expr known ss may w.then).bad f r)
      (subst (λ (rest : List ArmTree). Left (pair known ss may) held rest all) (rest_at ws i w h is) left)

  pub then_breaks_off : (held : Made (List Pair)) (ws all : List ArmTree) (i : ℕ) (w : ArmTree) (m : Made Expr) (f : Refusal) → i < length ws → w ≡ get_or ws i w
      → IsRead known ss may w.when (Ok m) → IsRead known ss may w.then (Err f) → ArmsLeft held (drop i ws) all → AreArmsRead known ss may all (Err f)
  unfolding ArmsLeft IsRead AreArmsRead
  then_breaks_off held ws all i w m f h is r s left =
      breaks_off (pair known ss may) held w (drop (i + 1) ws) all f
      (subst (λ (a : Read Expr). Refuses (a.bad ++ (expr known ss may w.then).bad) f) (sym r) s)
      (subst (λ (rest : List ArmTree). Left (pair known ss may) held rest all) (rest_at ws i w h is) left)

  pub arms_end : (arms : Arms) (ws all : List ArmTree) (i : ℕ) → length ws ≤ i → ArmsLeft (arms_read arms) (drop i ws) all → AreArmsRead known ss may all (Ok arms)
  unfolding ArmsLeft AreArmsRead
  arms_end arms ws all i h left =
      let held : Made (List Pair) = arms_read arms in
      ends (pair known ss may) held all (subst (λ (rest : List ArmTree). Left (pair known ss may) held rest all) (drop_all i ws h) left)

  -- ---- one that need not be there

  pub any_memory : (o : Option Tree) → IsReadIfAny known ss may o (Err Memory)
  unfolding IsReadIfAny
  any_memory o = tt

  pub any_none : (o : Option Tree) (m : Made (Option Expr)) → o ≡ None → told m ≡ fine None → IsReadIfAny known ss may o (Ok m)
  unfolding IsReadIfAny
  any_none o m is h = subst (λ (q : Option Tree). IsReadIfAny known ss may q (Ok m)) (sym is) (sym h)

  pub any_some : (o : Option Tree) (t u : Tree) (n : Made Expr) (m : Made (Option Expr)) → o ≡ Some t → u ≡ t → IsRead known ss may u (Ok n) → told m ≡ with Some (told n) → IsReadIfAny known ss may o (Ok m)
  unfolding IsReadIfAny IsRead
  any_some o t u n m is same h g = subst (λ (q : Option Tree). IsReadIfAny known ss may q (Ok m)) (ap Some same ∙ sym is) (ap (with Some) h ∙ sym g)

  pub any_refused : (o : Option Tree) (t u : Tree) (f : Refusal) → o ≡ Some t → u ≡ t → IsRead known ss may u (Err f) → IsReadIfAny known ss may o (Err f)
  unfolding IsReadIfAny IsRead
  any_refused o t u f is same h = subst (λ (q : Option Tree). IsReadIfAny known ss may q (Err f)) (ap Some same ∙ sym is) h
