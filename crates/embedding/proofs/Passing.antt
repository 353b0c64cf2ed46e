-- Which constraints are passed, and what is read by them.
use Rattle.std.proofs.Common.{◌≡◌, ℕ, ◌+◌, ◌-◌, ◌<◌, ◌≤◌, ◌⊎◌, inl, inr, arith, ℤ, pos, min, Bool, true, false, ◌&&◌, ◌==◌, List, [], ◌∷◌, ◌++◌, Option, Some, None, refl, sym, ap, subst, ◌∙◌, map, length, slice_get, get_or}
use Rattle.std.specs.List.{AllByRecursion, position}
use Rattle.std.specs.Option.{option_map_or}
use Rattle.std.proofs.lemmas.List.{length-map}
use Rattle.std.proofs.lemmas.List.Quantifiers.{position-Some}
use Rattle.std.proofs.lemmas.Option.{slice_get-get_or}
use Rattle.std.proofs.lemmas.Bool.{eqb-true}
use Rattle.cr_value.specs.declared.value.Value.{Value}
use Rattle.cr_value.specs.declared.value.Value.TheVariants.{Int}
use Rattle.cr_query.specs.Query.{Row}
use Rattle.cr_module.specs.declared.plan.Argument.{Argument}
use Rattle.cr_module.specs.declared.plan.Choice.{Choice}
use Rattle.cr_module.specs.declared.plan.Comparison.TheVariants.{Eq}
use Rattle.cr_module.specs.declared.plan.Constraint.{Constraint}
use Rattle.cr_module.specs.declared.plan.Order.{Order}
use Rattle.cr_module.specs.Lawful.{IsChoice, IsRead, compares, is_usable_at, meets_all, meets_omitted, meets_one, value_at}
use Rattle.embedding.specs.declared.counted.Span.{Span}
use Rattle.embedding.specs.Counted.{choice_at, choice_of, digits, end_of, is_lower, is_upper, natural, numbers, op_at, part, passed, place_of, places, whole}
use Rattle.embedding.proofs.Counting.{number_row, span_gives}
use Rattle.embedding.proofs.Cutting.{IsIn, IsWithin, meets_ops, part_keeps, part_within}

-- ---- what is chosen

first : (a b : Bool) → a && b ≡ true → a ≡ true
first true b t = refl
first false b t = absurd (let z : ⊥ = cc in z)

pub record IsPlaced (cs : List Constraint) (at : ℕ) : Type 0 where
  pub constraint : Constraint
  pub there : slice_get cs at ≡ Some constraint
  pub usable : constraint.usable ≡ true
  pub on_column : constraint.column ≡ 0

abbrev AllPlaced : List Constraint → List ℕ → Type 0
AllPlaced cs ats = AllByRecursion (IsPlaced cs) ats

module _ (p : Constraint → Bool) (on : (c : Constraint) → p c ≡ true → (c.usable && (c.column == 0)) ≡ true) (cs : List Constraint) where
  found_at : (o : Option ℕ) → position p cs ≡ o → AllPlaced cs (place_of o)
  found_at None e = tt
  found_at (Some at) e =
      let d : Constraint = record { column = 0; op = Eq; usable = false } in
      let there = position-Some p cs at d e in
      let both = on (get_or cs at d) there.1 in (
        record {
          constraint = get_or cs at d;
          there = slice_get-get_or cs at d there.0;
          usable = first _ _ both;
          on_column = eqb-true _ _ (second _ _ both);
        },
        tt,
      )
    where
      second : (a b : Bool) → a && b ≡ true → b ≡ true
      second true b t = t
      second false b t = absurd (let z : ⊥ = cc in z)

all_both : (cs : List Constraint) (xs ys : List ℕ) → AllPlaced cs xs → AllPlaced cs ys → AllPlaced cs (xs ++ ys)
all_both cs [] ys a b = b
all_both cs (x ∷ xs) ys a b = (a.0, all_both cs xs ys a.1 b)

abbrev chosen : List Constraint → List ℕ
chosen cs = places (position is_lower cs) (position is_upper cs)

all_placed : (cs : List Constraint) → AllPlaced cs (chosen cs)
all_placed cs =
    all_both cs (place_of (position is_lower cs)) (place_of (position is_upper cs))
    (found_at is_lower (λ c t. first _ _ t) cs _ refl)
    (found_at is_upper (λ c t. first _ _ t) cs _ refl)

all_usable : (cs : List Constraint) (ats : List ℕ) → AllPlaced cs ats → AllByRecursion (λ a. is_usable_at cs a.constraint ≡ true) (map passed ats)
all_usable cs [] all = tt
all_usable cs (at ∷ ats) all =
    (ap (λ (o : Option Constraint). option_map_or (λ c. c.usable) o false) all.0.there ∙ all.0.usable, all_usable cs ats all.1)

pub choice_usable : (cost : ℕ) (cs : List Constraint) → IsChoice cs (choice_of cost cs)
choice_usable cost cs = all_usable cs (chosen cs) (all_placed cs)

map_both : (xs ys : List ℕ) → map passed (xs ++ ys) ≡ map passed xs ++ map passed ys
map_both [] ys = refl
map_both (x ∷ xs) ys = ap (λ (l : List Argument). passed x ∷ l) (map_both xs ys)

pub choice_made : (cost : ℕ) (cs : List Constraint) (lower upper : Option ℕ) (args : List Argument) (index : ℤ)
    → lower ≡ position is_lower cs → upper ≡ position is_upper cs
    → args ≡ map passed (place_of lower) ++ map passed (place_of upper) → index ≡ pos (digits (map (op_at cs) (places lower upper)))
    → ◌≡◌ {A = Choice} (record { args = args; index = index; cost = cost; consumed = false }) (choice_of cost cs)
choice_made cost cs lower upper args index l u a x =
    (λ i. record { args = (a ∙ sym (map_both (place_of lower) (place_of upper))) i; index = x i; cost = cost; consumed = false })
    ∙ (λ i. choice_at cost cs (places (l i) (u i)))

-- ---- what is read

meets_one_is : (cs : List Constraint) (at : ℕ) (v : Value) (row : Row) → IsPlaced cs at → meets_one cs (passed at) v row ≡ compares (op_at cs at) (value_at 0 row) v
meets_one_is cs at v row p =
    ap (λ (o : Option Constraint). option_map_or (λ c. compares c.op (value_at c.column row) v) o true) p.there
    ∙ ap (λ (k : ℕ). compares p.constraint.op (value_at k row) v) p.on_column
    ∙ ap (λ (o : Option Constraint). compares (option_map_or (λ c. c.op) o Eq) (value_at 0 row) v) (sym p.there)

meets_are : (cs : List Constraint) (ats : List ℕ) (vs : List Value) (row : Row) → AllPlaced cs ats → meets_all cs (map passed ats) vs row ≡ meets_ops (map (op_at cs) ats) vs (value_at 0 row)
meets_are cs [] vs row all = refl
meets_are cs (at ∷ ats) [] row all = refl
meets_are cs (at ∷ ats) (v ∷ vs) row all = λ i. meets_one_is cs at v row all.0 i && meets_are cs ats vs row all.1 i

none_omitted : (cs : List Constraint) (ats : List ℕ) (vs : List Value) (row : Row) → meets_omitted cs (map passed ats) vs row ≡ true
none_omitted cs [] vs row = refl
none_omitted cs (at ∷ ats) [] row = refl
none_omitted cs (at ∷ ats) (v ∷ vs) row = none_omitted cs ats vs row

all_omit : (cs : List Constraint) (ats : List ℕ) (vs : List Value) (rows : List Row) → AllByRecursion (λ row. meets_omitted cs (map passed ats) vs row ≡ true) rows
all_omit cs ats vs [] = tt
all_omit cs ats vs (row ∷ rows) = (none_omitted cs ats vs row, all_omit cs ats vs rows)

unless_true : (b : Bool) → (b ≡ true → ⊥) → b ≡ false
unless_true b never = elim b as (λ v. b ≡ v → b ≡ false) [ true ↦ λ t. absurd (never t) | false ↦ λ f. f ] refl

module _ (cost last : ℕ) (cs : List Constraint) (os : List Order) (ats : List ℕ) (placed : AllPlaced cs ats) (vs : List Value) (many : length vs ≡ length (map passed ats)) where
  abbrev span : Span
  span = part (digits (map (op_at cs) ats)) vs (whole last)

  within : IsWithin span (whole last)
  within = part_within (digits (map (op_at cs) ats)) vs (whole last)

  as_many : length vs ≡ length (map (op_at cs) ats)
  as_many = many ∙ length-map ats passed ∙ sym (length-map ats (op_at cs))

  outside : (k : ℕ) → 1 ≤ k → k < last + 1 → (k < span.start) ⊎ (span.end ≤ k) → meets_all cs (map passed ats) vs (number_row k) ≡ false
  outside k one below beside = unless_true _ (λ t.
      let ops : meets_ops (map (op_at cs) ats) vs (Int (pos k)) ≡ true = sym (meets_are cs ats vs (number_row k) placed) ∙ t in
      let there : IsIn k (whole last) = record { from_start = one; to_end = below } in
      let here : IsIn k span = part_keeps (map (op_at cs) ats) vs k (whole last) one as_many ops there in
      elim beside [ inl before ↦ omega (arith, here.from_start) | inr behind ↦ omega (arith, here.to_end) ])

  pub span_read : IsRead (numbers 1 last) cs os (choice_at cost cs ats) vs (numbers span.start (span.end - span.start))
  span_read = record {
    gives = span_gives (meets_all cs (map passed ats) vs) last span.start span.end within.start_above within.end_below outside;
    omitted = all_omit cs ats vs _;
    ordered = λ e. absurd (let z : ⊥ = cc in z);
  }

pub chosen_read : (cost last : ℕ) (cs : List Constraint) (os : List Order) (vs : List Value) (index : ℤ) (s : Span) (end : ℕ)
    → (choice_of cost cs).index ≡ index → length vs ≡ length (choice_of cost cs).args → s ≡ part (natural index) vs (whole last) → end ≡ s.end
    → IsRead (numbers 1 last) cs os (choice_of cost cs) vs (numbers s.start (end - s.start))
chosen_read cost last cs os vs index s end e many is at =
    let same : s ≡ part (digits (map (op_at cs) (chosen cs))) vs (whole last) = is ∙ ap (λ (z : ℤ). part (natural z) vs (whole last)) (sym e) in
    subst (λ (k : ℕ). IsRead (numbers 1 last) cs os (choice_of cost cs) vs (numbers s.start (k - s.start))) (sym at)
    (subst (λ (t : Span). IsRead (numbers 1 last) cs os (choice_of cost cs) vs (numbers t.start (t.end - t.start))) (sym same)
    (span_read cost last cs os (chosen cs) (all_placed cs) vs many))

pub end_stays : (last end : ℕ) (args : List Value) → args ≡ Int (pos end) ∷ [] → end ≤ last + 1 → end_of last args ≡ end
end_stays last end args e small = ap (end_of last) e ∙ (let least : min (last + 1) end ≡ end = omega arith in least)
