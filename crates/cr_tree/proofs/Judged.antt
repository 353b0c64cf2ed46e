-- A parser that is right at every limit, and what it promises of all symbols: which are read, where the others are
-- refused, and that a limit is met.
use Rattle.std.proofs.Common.{◌≡◌, ℕ, suc, ◌+◌, ◌-◌, ◌≤◌, ◌<◌, max, Bool, true, false, List, [], ◌∷◌, ◌++◌, length, take, drop, refl, sym, ◌∙◌, ap, subst, append_assoc, length-append, arith}
use Rattle.std.proofs.Math.Seq.{take-append_seam}
use Rattle.std.proofs.lemmas.List.{append-nil, take-append-drop, take-append-le}
use Rattle.cr_tree.specs.declared.limits.LimitKind.{LimitKind}
use Rattle.cr_tree.specs.declared.limits.LimitKind.TheVariants as limits
use Rattle.cr_tree.specs.declared.limits.Limits.{Limits}
use Rattle.cr_tree.specs.declared.limits.TheConstants.{LIMITS}
use Rattle.cr_tree.specs.declared.symbol.Symbol.{Symbol}
use Rattle.cr_tree.specs.Grammar.{spelled, tree}
use Rattle.cr_tree.specs.Reading.{Outcome, Reads, Fails, Cause, Syntax, Limit, Parser, and_then, pure, head, expr, whole}
use Rattle.cr_tree.specs.Language.{Language, IsWithin}
use Rattle.cr_tree.specs.Language as language
use Rattle.cr_tree.specs.Judging.{IsRead, OneBegins, DifferIn, BeginsBeyond, NoneBegins, NoneWithin, IsBadPlace, MeetsLimit}
use Rattle.cr_tree.proofs.Forms.{Found, Begun, Good, Right, as_right, map_right}
use Rattle.cr_tree.proofs.Phrases.{Written, Stops, least_tight}
use Rattle.cr_tree.proofs.Levels.{expr_right}
use Rattle.cr_tree.proofs.Tracks.{Track, same_reads, same_fails, deeper, past, Within, Under, Regular, Widened, Stands, all_exact, not_widened, then_regular, pure_regular, expr_regular}

-- nothing follows
abbrev pub IsOver : List Symbol → Type 0
IsOver [] = Unit {0}
IsOver (t ∷ ts) = ⊥

-- no limit is narrower
pub record IsWider (lim lim' : Limits) : Type 0 where
  pub opens : lim.opens ≤ lim'.opens
  pub room : lim.room ≤ lim'.room
  pub commas : lim.commas ≤ lim'.commas
  pub joins : lim.joins ≤ lim'.joins

-- a parser of a language at every limits
pub record Masters {A : Type 0} (L : Language A) (f : Limits → Parser A) : Type 0 where
  pub right : (lim : Limits) → Right (L.fits lim) L.words L.value IsOver (f lim)
  pub grows : (lim lim' : Limits) (d : L.D) → IsWider lim lim' → L.fits lim d → L.fits lim' d
  pub regular : (exact : LimitKind → Bool) (v v' : List Symbol) (heads : head v ≡ head v') (lim lim' : Limits) → Widened exact lim lim' → Regular exact v v' heads (f lim) (f lim')

-- ---- other limits

abbrev none_exact : LimitKind → Bool
none_exact x = false

no_exact : {P : Type 0} → false ≡ true → P
no_exact e = absurd (cc)

-- wider in every kind, and as wide as these
abbrev wide_as : Limits → Limits
wide_as lim = record { opens = max (LIMITS.opens + 2) lim.opens; room = max (LIMITS.room + 2) lim.room; commas = max (suc LIMITS.commas) lim.commas; joins = max (suc LIMITS.joins) lim.joins }

is_wide : (lim : Limits) → Widened none_exact LIMITS (wide_as lim)
is_wide lim = record {
  more_opens = λ e. omega arith;
  same_opens = λ e. no_exact e;
  more_room = λ e. omega arith;
  same_room = λ e. no_exact e;
  more_commas = λ e. omega arith;
  same_commas = λ e. no_exact e;
  more_joins = λ e. omega arith;
  same_joins = λ e. no_exact e;
}

as_wide : (lim : Limits) → IsWider lim (wide_as lim)
as_wide lim = record { opens = omega arith; room = omega arith; commas = omega arith; joins = omega arith }

-- each kind but this
abbrev other_than : LimitKind → LimitKind → Bool
other_than limits.Depth limits.Depth = false
other_than limits.Arguments limits.Arguments = false
other_than limits.Tables limits.Tables = false
other_than x y = true

not_other : (x : LimitKind) → other_than x x ≡ true → ⊥
not_other limits.Depth e = cc
not_other limits.Arguments e = cc
not_other limits.Tables e = cc

same_kind : (x y : LimitKind) → (other_than x y ≡ true → ⊥) → x ≡ y
same_kind limits.Depth limits.Depth h = refl
same_kind limits.Depth limits.Arguments h = absurd (h refl)
same_kind limits.Depth limits.Tables h = absurd (h refl)
same_kind limits.Arguments limits.Depth h = absurd (h refl)
same_kind limits.Arguments limits.Arguments h = refl
same_kind limits.Arguments limits.Tables h = absurd (h refl)
same_kind limits.Tables limits.Depth h = absurd (h refl)
same_kind limits.Tables limits.Arguments h = absurd (h refl)
same_kind limits.Tables limits.Tables h = refl

-- wider in one kind alone, and there as wide as these
abbrev wide_in : LimitKind → Limits → Limits
wide_in limits.Depth lim = record LIMITS { opens = max (LIMITS.opens + 2) lim.opens; room = max (LIMITS.room + 2) lim.room }
wide_in limits.Arguments lim = record LIMITS { commas = max (suc LIMITS.commas) lim.commas }
wide_in limits.Tables lim = record LIMITS { joins = max (suc LIMITS.joins) lim.joins }

is_wide_in : (x : LimitKind) (lim : Limits) → Widened (other_than x) LIMITS (wide_in x lim)
is_wide_in limits.Depth lim = record {
  more_opens = λ e. omega arith;
  same_opens = λ e. no_exact e;
  more_room = λ e. omega arith;
  same_room = λ e. no_exact e;
  more_commas = λ e. absurd (cc);
  same_commas = λ e. refl;
  more_joins = λ e. absurd (cc);
  same_joins = λ e. refl;
}
is_wide_in limits.Arguments lim = record {
  more_opens = λ e. absurd (cc);
  same_opens = λ e. refl;
  more_room = λ e. absurd (cc);
  same_room = λ e. refl;
  more_commas = λ e. omega arith;
  same_commas = λ e. no_exact e;
  more_joins = λ e. absurd (cc);
  same_joins = λ e. refl;
}
is_wide_in limits.Tables lim = record {
  more_opens = λ e. absurd (cc);
  same_opens = λ e. refl;
  more_room = λ e. absurd (cc);
  same_room = λ e. refl;
  more_commas = λ e. absurd (cc);
  same_commas = λ e. refl;
  more_joins = λ e. omega arith;
  same_joins = λ e. no_exact e;
}

as_wide_in : (x : LimitKind) (lim : Limits) → DifferIn x LIMITS lim → IsWider lim (wide_in x lim)
as_wide_in limits.Depth lim d = record { opens = omega arith; room = omega arith; commas = omega (arith, d.0); joins = omega (arith, d.1) }
as_wide_in limits.Arguments lim d = record { opens = omega (arith, d.0); room = omega (arith, d.1); commas = omega arith; joins = omega (arith, d.2) }
as_wide_in limits.Tables lim d = record { opens = omega (arith, d.0); room = omega (arith, d.1); commas = omega (arith, d.2); joins = omega arith }

differs_in : (x : LimitKind) (lim : Limits) → DifferIn x LIMITS (wide_in x lim)
differs_in limits.Depth lim = (refl, refl)
differs_in limits.Arguments lim = (refl, refl, refl)
differs_in limits.Tables lim = (refl, refl, refl)

module _ {A : Type 0} (L : Language A) (f : Limits → Parser A) (master : Masters L f) where
  -- a refusal stands on every list that begins so, and in other limits if it is of syntax or of a limit that is the same
  stays : (exact : LimitKind → Bool) (lim : Limits) (c : Cause) (p v v' : List Symbol) → head v ≡ head v' → Widened exact LIMITS lim → Stands exact c → f LIMITS (p ++ v) ≡ Fails c v → (x : A) (rest : List Symbol) → f lim (p ++ v') ≡ Reads x rest → ⊥
  stays exact lim c p v v' h w st fails x rest reads = at ((master.regular exact v v' h LIMITS lim w).tracks p)
    where
      at : Track exact v v' h (f LIMITS (p ++ v)) (f lim (p ++ v')) → ⊥
      at (same_reads a q i j) = let clash : Fails c v ≡ Reads a (q ++ v) = sym fails ∙ i in cc
      at (same_fails c q _ i j) = let clash : Reads x rest ≡ Fails c (q ++ v') = sym reads ∙ j in cc
      at (deeper k q e i _) = let both : Fails c v ≡ Fails (Limit k) (q ++ v) = sym fails ∙ i in let same : c ≡ Limit k = cc in let stands : exact k ≡ true = subst (Stands exact) same st in cc
      at (past t u e w) = let w' : length v ≤ length u = subst (Within (length u)) fails w in omega (arith, w', ap length e)

  -- what stands behind all that is read stands there on every list that begins so
  stays_read : (lim : Limits) (a : A) (p v v' : List Symbol) → head v ≡ head v' → Widened none_exact LIMITS lim
      → f LIMITS (p ++ v) ≡ Reads a v → (x : A) (rest : List Symbol) → length rest < length v' → f lim (p ++ v') ≡ Reads x rest → ⊥
  stays_read lim a p v v' h w fully x rest l reads = at ((master.regular none_exact v v' h LIMITS lim w).tracks p)
    where
      at : Track none_exact v v' h (f LIMITS (p ++ v)) (f lim (p ++ v')) → ⊥
      at (same_reads b q i j) = let e : Reads b (q ++ v') ≡ Reads x rest = sym j ∙ reads in let e' : q ++ v' ≡ rest = cc in omega (arith, l, ap length e', length-append q v')
      at (same_fails c q _ i j) = let clash : Reads a v ≡ Fails c (q ++ v) = sym fully ∙ i in cc
      at (deeper k q e i _) = let clash : Reads a v ≡ Fails (Limit k) (q ++ v) = sym fully ∙ i in cc
      at (past t u e w) = let w' : length v ≤ length u = subst (Within (length u)) fully w in omega (arith, w', ap length e)

  -- it is read in whole, with limits as wide as that takes
  reads_whole : (lim : Limits) (d : L.D) → L.fits lim d → f lim (L.words d) ≡ Reads (L.value d) []
  reads_whole lim d i = ap (f lim) (sym (append-nil (L.words d))) ∙ (master.right lim).reads d [] i tt

  module _ (lim : Limits) (d : L.D) (fits : L.fits lim d) where
    wide : f (wide_as lim) (L.words d) ≡ Reads (L.value d) []
    wide = reads_whole (wide_as lim) d (master.grows lim (wide_as lim) d (as_wide lim) fits)

    -- nothing begins with the symbols to a refused one
    refused_begins : (p : List Symbol) (x : Symbol) (r more : List Symbol) → f LIMITS (p ++ x ∷ r) ≡ Fails Syntax (x ∷ r) → L.words d ≡ p ++ x ∷ more → ⊥
    refused_begins p x r more fails s = stays none_exact (wide_as lim) Syntax p (x ∷ r) (x ∷ more) refl (is_wide lim) tt fails (L.value d) [] (ap (f (wide_as lim)) (sym s) ∙ wide)

    -- where the end is refused the symbols are nothing whole
    refused_end : (p : List Symbol) → f LIMITS (p ++ []) ≡ Fails Syntax [] → L.words d ≡ p → ⊥
    refused_end p fails s = stays none_exact (wide_as lim) Syntax p [] [] refl (is_wide lim) tt fails (L.value d) [] (ap (f (wide_as lim)) (append-nil p ∙ sym s) ∙ wide)

    -- nothing goes on with a symbol that stands behind all that is read
    behind_begins : (a : A) (p : List Symbol) (x : Symbol) (r more : List Symbol) → f LIMITS (p ++ x ∷ r) ≡ Reads a (x ∷ r) → L.words d ≡ p ++ x ∷ more → ⊥
    behind_begins a p x r more fully s = stays_read (wide_as lim) a p (x ∷ r) (x ∷ more) refl (is_wide lim) fully (L.value d) [] (omega arith) (ap (f (wide_as lim)) (sym s) ∙ wide)

  -- where a limit is met nothing within the limits begins so
  limit_begins : (d : L.D) → L.fits LIMITS d → (k : LimitKind) (p : List Symbol) (x : Symbol) (r more : List Symbol) → f LIMITS (p ++ x ∷ r) ≡ Fails (Limit k) (x ∷ r) → L.words d ≡ p ++ x ∷ more → ⊥
  limit_begins d fits k p x r more fails s = stays all_exact LIMITS (Limit k) p (x ∷ r) (x ∷ more) refl (not_widened LIMITS) refl fails (L.value d) [] (ap (f LIMITS) (sym s) ∙ reads_whole LIMITS d fits)

  -- ---- of all symbols

  next_of : (p : List Symbol) (x : Symbol) (u ts : List Symbol) → p ++ x ∷ u ≡ ts → take (suc (length p)) ts ≡ p ++ x ∷ []
  next_of p x u ts e = ap (λ z. take (suc (length p)) z) (sym e ∙ sym (append_assoc p (x ∷ []) u)) ∙ (let n : suc (length p) ≡ length (p ++ x ∷ []) = omega (arith, length-append p (x ∷ [])) in ap (λ k. take k ((p ++ x ∷ []) ++ u)) n ∙ take-append_seam (p ++ x ∷ []) u)

  place_of : (p rest ts : List Symbol) → p ++ rest ≡ ts → length ts - length rest ≡ length p
  place_of p rest ts e = omega (arith, ap length e, length-append p rest)

  front_of : (p rest ts : List Symbol) → p ++ rest ≡ ts → take (length ts - length rest) ts ≡ p
  front_of p rest ts e = ap (λ n. take n ts) (place_of p rest ts e) ∙ (ap (take (length p)) (sym e) ∙ take-append_seam p rest)

  -- what begins with those and one more begins with these
  goes_on_so : (p : List Symbol) (x : Symbol) (u ts words more : List Symbol) → p ++ x ∷ u ≡ ts → words ≡ take (suc (length ts - length (x ∷ u))) ts ++ more → words ≡ p ++ x ∷ more
  goes_on_so p x u ts words more e s = s ∙ (ap (λ z. z ++ more) (ap (λ n. take (suc n) ts) (place_of p (x ∷ u) ts e) ∙ next_of p x u ts e) ∙ append_assoc p (x ∷ []) more)

  begun_so : (ts rest : List Symbol) → (b : Begun (L.fits LIMITS) L.words ts rest) → OneBegins L (take (length ts - length rest) ts)
  begun_so ts rest b = record { what = b.what; fitting = b.fitting; more = b.more; written = b.spells ∙ ap (λ z. z ++ b.more) (sym (front_of b.front rest ts b.reads)) }

  begun : (ts rest : List Symbol) (c : Cause) → f LIMITS ts ≡ Fails c rest → Begun (L.fits LIMITS) L.words ts rest
  begun ts rest c i = subst (Good (L.fits LIMITS) L.words L.value ts) i ((master.right LIMITS).good ts)

  found : (ts rest : List Symbol) (a : A) → f LIMITS ts ≡ Reads a rest → Found (L.fits LIMITS) L.words L.value ts a rest
  found ts rest a i = subst (Good (L.fits LIMITS) L.words L.value ts) i ((master.right LIMITS).good ts)

  pub read_is : (ts : List Symbol) (a : A) → f LIMITS ts ≡ Reads a [] → IsRead L ts a
  read_is ts a i = let g = found ts [] a i in record { what = g.what; fitting = g.fitting; written = sym (append-nil (L.words g.what)) ∙ g.spells; means = g.means }

  pub all_are_read : (ts : List Symbol) (a : A) → IsRead L ts a → f LIMITS ts ≡ Reads a []
  all_are_read ts a r = ap (f LIMITS) (sym r.written) ∙ (reads_whole LIMITS r.what r.fitting ∙ ap (λ z. Reads z []) r.means)

  bad_place : (ts p rest : List Symbol) → p ++ rest ≡ ts → OneBegins L (take (length ts - length rest) ts)
      → ((x : Symbol) (u more : List Symbol) → rest ≡ x ∷ u → (lim : Limits) (d : L.D) → L.fits lim d → L.words d ≡ p ++ x ∷ more → ⊥)
      → (rest ≡ [] → (lim : Limits) (d : L.D) → L.fits lim d → L.words d ≡ p → ⊥) → IsBadPlace L ts (length ts - length rest)
  bad_place ts p rest e one here ended = record { within = omega arith; before = one; here = at rest e here; ended = over rest e ended }
    where
      at : (rest : List Symbol) → p ++ rest ≡ ts → ((x : Symbol) (u more : List Symbol) → rest ≡ x ∷ u → (lim : Limits) (d : L.D) → L.fits lim d → L.words d ≡ p ++ x ∷ more → ⊥)
          → length ts - length rest < length ts → NoneBegins L (take (suc (length ts - length rest)) ts)
      at [] e here h = absurd (omega (arith, h))
      at (x ∷ u) e here h = λ lim d more i s. here x u more refl lim d i (goes_on_so p x u ts (L.words d) more e s)

      over : (rest : List Symbol) → p ++ rest ≡ ts → (rest ≡ [] → (lim : Limits) (d : L.D) → L.fits lim d → L.words d ≡ p → ⊥)
          → length ts - length rest ≡ length ts → (lim : Limits) (d : L.D) → L.fits lim d → L.words d ≡ ts → ⊥
      over [] e ended h = λ lim d i s. ended refl lim d i (s ∙ (sym e ∙ append-nil p))
      over (x ∷ u) e ended h = absurd (omega (arith, h, ap length e, length-append p (x ∷ u)))

  pub refused_is : (ts rest : List Symbol) → f LIMITS ts ≡ Fails Syntax rest → IsBadPlace L ts (length ts - length rest)
  refused_is ts rest i =
      let b = begun ts rest Syntax i in
      let fails : f LIMITS (b.front ++ rest) ≡ Fails Syntax rest = ap (f LIMITS) b.reads ∙ i in
      bad_place ts b.front rest b.reads (begun_so ts rest b)
      (λ x u more e lim d j s. refused_begins lim d j b.front x u more (subst (λ z. f LIMITS (b.front ++ z) ≡ Fails Syntax z) e fails) s)
      (λ e lim d j s. refused_end lim d j b.front (subst (λ z. f LIMITS (b.front ++ z) ≡ Fails Syntax z) e fails) s)

  pub left_over : (ts : List Symbol) (t : Symbol) (rest : List Symbol) (a : A) → f LIMITS ts ≡ Reads a (t ∷ rest) → IsBadPlace L ts (length ts - length (t ∷ rest))
  left_over ts t rest a i =
      let g = found ts (t ∷ rest) a i in
      let fully : f LIMITS (L.words g.what ++ t ∷ rest) ≡ Reads a (t ∷ rest) = ap (f LIMITS) g.spells ∙ i in
      bad_place ts (L.words g.what) (t ∷ rest) g.spells
      (record { what = g.what; fitting = g.fitting; more = []; written = sym (append-nil (L.words g.what)) ∙ ap (λ z. z ++ []) (sym (front_of (L.words g.what) (t ∷ rest) ts g.spells)) })
      (λ x u more e lim d j s. behind_begins lim d j a (L.words g.what) x u more (subst (λ z. f LIMITS (L.words g.what ++ z) ≡ Reads a z) e fully) s)
      (λ e. absurd (cc))

  -- something begins with the symbols to one that met a limit
  beyond : (k : LimitKind) (ts rest : List Symbol) → f LIMITS ts ≡ Fails (Limit k) rest → (length rest ≤ length ts) × (0 < length rest) × BeginsBeyond k L (take (suc (length ts - length rest)) ts)
  beyond k ts rest i = at ((master.regular (other_than k) [] [] refl LIMITS (wide_in k LIMITS) (is_wide_in k LIMITS)).tracks ts)
    where
      narrow : f LIMITS (ts ++ []) ≡ Fails (Limit k) rest
      narrow = ap (f LIMITS) (append-nil ts) ∙ i

      begins_so : (n : ℕ) (front more words rest' : List Symbol) → front ++ rest' ≡ ts → words ≡ front ++ more → length rest' < n → n ≤ length ts → words ≡ take (suc (length ts - n)) ts ++ (drop (suc (length ts - n)) front ++ more)
      begins_so n front more words rest' e s l h =
          let enough : suc (length ts - n) ≤ length front = omega (arith, l, h, ap length e, length-append front rest') in
          s ∙ (ap (λ z. z ++ more) (sym (take-append-drop (suc (length ts - n)) front)) ∙ (append_assoc (take (suc (length ts - n)) front) (drop (suc (length ts - n)) front) more
          ∙ ap (λ z. z ++ (drop (suc (length ts - n)) front ++ more)) (sym (take-append-le (suc (length ts - n)) front rest' enough) ∙ ap (take (suc (length ts - n))) e)))

      by : (o : Outcome A) → Good (L.fits (wide_in k LIMITS)) L.words L.value ts o → (n : ℕ) → Under n o → n ≤ length ts → BeginsBeyond k L (take (suc (length ts - n)) ts)
      by (Reads a rest') g n u h = record { limits = wide_in k LIMITS; alone = differs_in k LIMITS; what = g.what; fitting = g.fitting; more = drop (suc (length ts - n)) (L.words g.what) ++ []; written = begins_so n (L.words g.what) [] (L.words g.what) rest' g.spells (sym (append-nil (L.words g.what))) u h }
      by (Fails c rest') g n u h = record { limits = wide_in k LIMITS; alone = differs_in k LIMITS; what = g.what; fitting = g.fitting; more = drop (suc (length ts - n)) g.front ++ g.more; written = begins_so n g.front g.more (L.words g.what) rest' g.reads g.spells u h }

      some : (n : ℕ) (o : Outcome A) → Under n o → 0 < n
      some n (Reads a rest') u = omega (arith, u)
      some n (Fails c rest') u = omega (arith, u)

      at : Track (other_than k) [] [] refl (f LIMITS (ts ++ [])) (f (wide_in k LIMITS) (ts ++ [])) → (length rest ≤ length ts) × (0 < length rest) × BeginsBeyond k L (take (suc (length ts - length rest)) ts)
      at (same_reads a q i' j) = absurd (let clash : Fails (Limit k) rest ≡ Reads a (q ++ []) = sym narrow ∙ i' in cc)
      at (same_fails c q s i' j) = absurd (let clash : Fails (Limit k) rest ≡ Fails c (q ++ []) = sym narrow ∙ i' in let same : c ≡ Limit k = cc in not_other k (subst (Stands (other_than k)) same s))
      at (deeper x q e i' u) =
          let same : rest ≡ q ++ [] = same_rest (sym narrow ∙ i') in
          let under : Under (length rest) (f (wide_in k LIMITS) ts) = subst (λ z. Under (length z) (f (wide_in k LIMITS) ts)) (sym same) (subst (λ z. Under (length (q ++ [])) (f (wide_in k LIMITS) z)) (append-nil ts) u) in
          let b = begun ts rest (Limit k) i in
          let h : length rest ≤ length ts = omega (arith, ap length b.reads, length-append b.front rest) in
          (h, some (length rest) (f (wide_in k LIMITS) ts) under, by (f (wide_in k LIMITS) ts) ((master.right (wide_in k LIMITS)).good ts) (length rest) under h)
        where
          same_rest : {c c' : Cause} {p q : List Symbol} → ◌≡◌ {A = Outcome A} (Fails c p) (Fails c' q) → p ≡ q
          same_rest e = cc
      at (past x u i' h) = absurd (cc)

  pub limit_is : (k : LimitKind) (ts rest : List Symbol) → f LIMITS ts ≡ Fails (Limit k) rest → MeetsLimit k L ts
  limit_is k ts rest i =
      let b = begun ts rest (Limit k) i in
      let m = beyond k ts rest i in
      record { place = length ts - length rest; within = omega (arith, m.0, m.1); before = begun_so ts rest b; here = at b.front rest b.reads (ap (f LIMITS) b.reads ∙ i) m.1; beyond = m.2 }
    where
      at : (p rest : List Symbol) → p ++ rest ≡ ts → f LIMITS (p ++ rest) ≡ Fails (Limit k) rest → 0 < length rest → NoneWithin L (take (suc (length ts - length rest)) ts)
      at p [] e fails h = absurd (omega (arith, h))
      at p (x ∷ u) e fails h = λ d more j s. limit_begins d j k p x u more fails (goes_on_so p x u ts (L.words d) more e s)

  pub limit_place : (k : LimitKind) (ts rest : List Symbol) (i : f LIMITS ts ≡ Fails (Limit k) rest) → (limit_is k ts rest i).place ≡ length ts - length rest
  unfolding limit_is
  limit_place k ts rest i = refl

  -- nothing that is beyond a limit of another kind alone goes on there
  other_begins : (j k : LimitKind) → other_than j k ≡ true → (lim : Limits) → DifferIn j LIMITS lim → (d : L.D) → L.fits lim d
      → (p : List Symbol) (x : Symbol) (r more : List Symbol) → f LIMITS (p ++ x ∷ r) ≡ Fails (Limit k) (x ∷ r) → L.words d ≡ p ++ x ∷ more → ⊥
  other_begins j k o lim alone d fits p x r more fails s =
      stays (other_than j) (wide_in j lim) (Limit k) p (x ∷ r) (x ∷ more) refl (is_wide_in j lim) o fails (L.value d) []
      (ap (f (wide_in j lim)) (sym s) ∙ reads_whole (wide_in j lim) d (master.grows lim (wide_in j lim) d (as_wide_in j lim alone) fits))

  -- a limit that is met where the parser meets one is of its kind
  pub limit_is_one : (j k : LimitKind) (ts rest : List Symbol) → f LIMITS ts ≡ Fails (Limit k) rest → (m : MeetsLimit j L ts) → m.place ≡ length ts - length rest → j ≡ k
  limit_is_one j k ts rest i m e = same_kind j k (let b = begun ts rest (Limit k) i in at b.front rest b.reads (ap (f LIMITS) b.reads ∙ i) e)
    where
      at : (p rest : List Symbol) → p ++ rest ≡ ts → f LIMITS (p ++ rest) ≡ Fails (Limit k) rest → m.place ≡ length ts - length rest → other_than j k ≡ true → ⊥
      at p [] r fails e o = omega (arith, m.within, e)
      at p (x ∷ u) r fails e o =
          other_begins j k o m.beyond.limits m.beyond.alone m.beyond.what m.beyond.fitting p x u m.beyond.more fails
          (goes_on_so p x u ts (L.words m.beyond.what) m.beyond.more r (m.beyond.written ∙ ap (λ z. take (suc z) ts ++ m.beyond.more) e))

-- ---- expressions

whole_right : (lim : Limits) → Right (IsWithin lim) spelled tree IsOver (whole lim)
unfolding whole
whole_right lim = record {
  good = λ ts. (as_right (λ p. p) (λ p. p) (λ p w. record { proper = w.proper; low = w.low; few = w.few; short = w.short }) (λ p w. record { proper = w.proper; tight = least_tight p; low = w.low; few = w.few; short = w.short }) (λ p. refl) (λ p. refl) (λ p. refl) read).good ts;
  reads = λ p rest w st. read.reads p rest (record { proper = w.proper; tight = least_tight p; low = w.low; few = w.few; short = w.short }) (over rest st);
}
  where
    read : Right (Written lim 1) spelled tree (Stops 1) (λ ts. and_then (expr lim 1 ts) (λ x. pure x.0))
    read = map_right (λ x. x.0) (expr_right (lim.opens + lim.room) lim 1 (omega arith) (omega arith) (omega arith))

    over : (rest : List Symbol) → IsOver rest → Stops 1 rest
    over [] st = record { operator = omega arith; plain = refl }
    over (t ∷ ts) st = absurd st

whole_regular : (exact : LimitKind → Bool) (v v' : List Symbol) (heads : head v ≡ head v') (lim lim' : Limits) → Widened exact lim lim' → Regular exact v v' heads (whole lim) (whole lim')
unfolding whole
whole_regular exact v v' heads lim lim' w = then_regular exact v v' heads (expr_regular exact v v' heads lim lim' 1 w (omega arith) (omega arith)) (λ x. pure_regular exact v v' heads x.0)

pub expressions : Masters language.expr whole
expressions = record {
  right = whole_right;
  grows = λ lim lim' p w f. record { proper = f.proper; low = omega (arith, f.low, w.room); few = omega (arith, f.few, w.opens); short = omega (arith, f.short, w.commas) };
  regular = whole_regular;
}
