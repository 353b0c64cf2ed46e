-- What arguments leave of a span.
use Rattle.std.proofs.Common.{◌≡◌, ℕ, ◌+◌, ◌*◌, ◌/◌, ◌%◌, ◌<◌, ◌≤◌, arith, pos, negsuc, Bool, true, false, cond, ◌&&◌, List, [], ◌∷◌, refl, ap, ◌∙◌, length, Ordering, Less, Equal, Greater, int_cmp, max, min}
use Rattle.std.proofs.Math.Dec.{ltb}
use Rattle.std.proofs.lemmas.Bool.{ltb-true, ltb-false}
use Rattle.std.specs.Ordering.{MatchOrdering}
use Rattle.cr_value.specs.declared.value.Value.{Value}
use Rattle.cr_value.specs.declared.value.Value.TheVariants.{Null, Int, Text, Blob}
use Rattle.cr_module.specs.declared.plan.Comparison.{Comparison}
use Rattle.cr_module.specs.declared.plan.Comparison.TheVariants.{Eq, Gt, Le, Lt, Ge}
use Rattle.cr_module.specs.Lawful.{compares, stands}
use Rattle.embedding.specs.declared.counted.Span.{Span}
use Rattle.embedding.specs.Counted.{cut, cut_at, digit, digits, natural, op_of, part, whole}

-- a value that compares so to each argument
abbrev pub meets_ops : List Comparison → List Value → Value → Bool
meets_ops [] vs v = true
meets_ops (op ∷ ops) [] v = true
meets_ops (op ∷ ops) (arg ∷ vs) v = compares op v arg && meets_ops ops vs v

pub record IsIn (n : ℕ) (s : Span) : Type 0 where
  pub from_start : s.start ≤ n
  pub to_end : n < s.end

-- ---- one argument

abbrev IsRanked : Comparison → ℕ → ℕ → Type 0
IsRanked Eq n k = n ≡ k
IsRanked Gt n k = k < n
IsRanked Le n k = n ≤ k
IsRanked Lt n k = n < k
IsRanked Ge n k = k ≤ n

ranked_by : (op : Comparison) (n k : ℕ) (o : Ordering) → MatchOrdering o (n < k) (n ≡ k) (k < n) → stands op o ≡ true → IsRanked op n k
ranked_by Eq n k Less r t = absurd (let z : ⊥ = cc in z)
ranked_by Eq n k Equal r t = r
ranked_by Eq n k Greater r t = absurd (let z : ⊥ = cc in z)
ranked_by Gt n k Less r t = absurd (let z : ⊥ = cc in z)
ranked_by Gt n k Equal r t = absurd (let z : ⊥ = cc in z)
ranked_by Gt n k Greater r t = r
ranked_by Le n k Less r t = omega arith
ranked_by Le n k Equal r t = omega arith
ranked_by Le n k Greater r t = absurd (let z : ⊥ = cc in z)
ranked_by Lt n k Less r t = r
ranked_by Lt n k Equal r t = absurd (let z : ⊥ = cc in z)
ranked_by Lt n k Greater r t = absurd (let z : ⊥ = cc in z)
ranked_by Ge n k Less r t = absurd (let z : ⊥ = cc in z)
ranked_by Ge n k Equal r t = omega arith
ranked_by Ge n k Greater r t = omega arith

tested : (n k : ℕ) (a b : Bool) → ltb n k ≡ a → ltb k n ≡ b → MatchOrdering (cond a Less (cond b Greater Equal)) (n < k) (n ≡ k) (k < n)
tested n k true b p q = ltb-true n k p
tested n k false true p q = ltb-true k n q
tested n k false false p q = omega (arith, ltb-false n k p, ltb-false k n q)

ranks : (n k : ℕ) → MatchOrdering (int_cmp (pos n) (pos k)) (n < k) (n ≡ k) (k < n)
ranks n k = tested n k (ltb n k) (ltb k n) refl refl

cut_at_keeps : (op : Comparison) (n k : ℕ) (s : Span) → IsRanked op n k → IsIn n s → IsIn n (cut_at op k s)
cut_at_keeps Eq n k s r h = record { from_start = omega arith; to_end = omega arith }
cut_at_keeps Gt n k s r h = record { from_start = omega arith; to_end = omega arith }
cut_at_keeps Le n k s r h = record { from_start = omega arith; to_end = omega arith }
cut_at_keeps Lt n k s r h = record { from_start = omega arith; to_end = omega arith }
cut_at_keeps Ge n k s r h = record { from_start = omega arith; to_end = omega arith }

-- every number that is there is above one below 0
below_zero : (op : Comparison) (n k : ℕ) (s : Span) → 1 ≤ n → stands op (int_cmp (pos n) (negsuc k)) ≡ true → IsIn n s → IsIn n (cut_at op 0 s)
below_zero Eq n k s one t h = absurd (let z : ⊥ = cc in z)
below_zero Gt n k s one t h = record { from_start = omega arith; to_end = omega arith }
below_zero Le n k s one t h = absurd (let z : ⊥ = cc in z)
below_zero Lt n k s one t h = absurd (let z : ⊥ = cc in z)
below_zero Ge n k s one t h = record { from_start = omega arith; to_end = omega arith }

cut_keeps : (op : Comparison) (arg : Value) (n : ℕ) (s : Span) → 1 ≤ n → compares op (Int (pos n)) arg ≡ true → IsIn n s → IsIn n (cut op arg s)
cut_keeps op Null n s one t h = h
cut_keeps op (Int (pos k)) n s one t h = cut_at_keeps op n k s (ranked_by op n k (int_cmp (pos n) (pos k)) (ranks n k) t) h
cut_keeps op (Int (negsuc k)) n s one t h = below_zero op n k s one t h
cut_keeps op (Text x) n s one t h = h
cut_keeps op (Blob x) n s one t h = h

-- a span is cut, and never grows
pub record IsWithin (t s : Span) : Type 0 where
  pub start_above : s.start ≤ t.start
  pub end_below : t.end ≤ s.end

cut_at_within : (op : Comparison) (k : ℕ) (s : Span) → IsWithin (cut_at op k s) s
cut_at_within Eq k s = record { start_above = omega arith; end_below = omega arith }
cut_at_within Gt k s = record { start_above = omega arith; end_below = omega arith }
cut_at_within Le k s = record { start_above = omega arith; end_below = omega arith }
cut_at_within Lt k s = record { start_above = omega arith; end_below = omega arith }
cut_at_within Ge k s = record { start_above = omega arith; end_below = omega arith }

same_within : (s : Span) → IsWithin s s
same_within s = record { start_above = omega arith; end_below = omega arith }

cut_within : (op : Comparison) (arg : Value) (s : Span) → IsWithin (cut op arg s) s
cut_within op Null s = same_within s
cut_within op (Int z) s = cut_at_within op (natural z) s
cut_within op (Text x) s = same_within s
cut_within op (Blob x) s = same_within s

within_both : (u t s : Span) → IsWithin u t → IsWithin t s → IsWithin u s
within_both u t s a b = record { start_above = omega arith; end_below = omega arith }

-- ---- all arguments

pub part_within : (index : ℕ) (vs : List Value) (s : Span) → IsWithin (part index vs s) s
part_within index [] s = same_within s
part_within index (v ∷ vs) s = within_both _ _ s (part_within (index / 6) vs (cut (op_of (index % 6)) v s)) (cut_within (op_of (index % 6)) v s)

op_told : (op : Comparison) → op_of (digit op) ≡ op
op_told Eq = refl
op_told Gt = refl
op_told Le = refl
op_told Lt = refl
op_told Ge = refl

digit_small : (op : Comparison) → digit op < 6
digit_small Eq = omega arith
digit_small Gt = omega arith
digit_small Le = omega arith
digit_small Lt = omega arith
digit_small Ge = omega arith

first_op : (op : Comparison) (n : ℕ) → op_of ((digit op + 6 * n) % 6) ≡ op
first_op op n = (let e : (digit op + 6 * n) % 6 ≡ digit op = omega (arith, digit_small op) in ap op_of e) ∙ op_told op

other_ops : (op : Comparison) (n : ℕ) → (digit op + 6 * n) / 6 ≡ n
other_ops op n = omega (arith, digit_small op)

pub part_keeps : (ops : List Comparison) (vs : List Value) (n : ℕ) (s : Span) → 1 ≤ n → length vs ≡ length ops → meets_ops ops vs (Int (pos n)) ≡ true → IsIn n s → IsIn n (part (digits ops) vs s)
part_keeps ops [] n s one many t h = h
part_keeps [] (v ∷ vs) n s one many t h = absurd (omega arith)
part_keeps (op ∷ ops) (v ∷ vs) n s one many t h =
    rw (first_op op (digits ops), other_ops op (digits ops))
    (part_keeps ops vs n (cut op v s) one (omega arith) (second _ _ t) (cut_keeps op v n s one (first _ _ t) h))
  where
    first : (a b : Bool) → a && b ≡ true → a ≡ true
    first true b t = refl
    first false b t = absurd (let z : ⊥ = cc in z)

    second : (a b : Bool) → a && b ≡ true → b ≡ true
    second true b t = t
    second false b t = absurd (let z : ⊥ = cc in z)

-- ---- examples: no number is read beside those that are asked for

between_two : (last a b : ℕ) → part (digits (Ge ∷ Lt ∷ [])) (Int (pos a) ∷ Int (pos b) ∷ []) (whole last) ≡ record { start = max 1 a; end = min (last + 1) b }
between_two last a b = refl

that_one : (last a : ℕ) → part (digits (Eq ∷ [])) (Int (pos a) ∷ []) (whole last) ≡ record { start = max 1 a; end = min (last + 1) (a + 1) }
that_one last a = refl

none_below_one : (last n : ℕ) → (part (digits (Le ∷ [])) (Int (negsuc n) ∷ []) (whole last)).end ≤ 1
none_below_one last n = omega arith
