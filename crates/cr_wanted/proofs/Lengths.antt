-- How long a packed key is, place by place.
use Rattle.std.proofs.Common.{◌≡◌, ◌∙◌, ℕ, ◌+◌, ◌-◌, ◌<◌, ◌≤◌, min, List, [], ◌∷◌, ◌++◌, length, take, Option, Some, None, ap, arith, length-append}
use Rattle.std.specs.List.{filter_map, flat_map}
use Rattle.std.specs.Option.{option_to_list}
use Rattle.std.proofs.lemmas.List.Concat.{flat_map-append}
use Rattle.cr_value.specs.declared.value.Value.{Value}
use Rattle.cr_value.specs.Packing.{packed_value, packed}
use Rattle.cr_delta.specs.Key.{key_places}
use Rattle.cr_delta.proofs.KeyParts.{parts_more}

pub whole_length : (vs : List Value) (most : ℕ) → min (1 + length (flat_map packed_value vs)) most ≡ min (length (packed vs)) most
whole_length vs most = ap (λ n. min n most) (omega arith)

module _ (f : ℕ → Option Value) (place : ℕ) (low : 1 ≤ place) (high : place < 9) where
  abbrev bytes_before : List ℕ
  bytes_before = flat_map packed_value (filter_map f (take (place - 1) key_places))

  abbrev bytes_after : List ℕ
  bytes_after = flat_map packed_value (filter_map f (take (place + 1 - 1) key_places))

  grown : (vs : List Value) → option_to_list (f place) ≡ vs → length bytes_after ≡ length bytes_before + length (flat_map packed_value vs)
  grown vs h =
      ap (λ l. length (flat_map packed_value l)) (parts_more f place low high)
      ∙ ap (λ l. length (flat_map packed_value (filter_map f (take (place - 1) key_places) ++ l))) h
      ∙ ap length (flat_map-append packed_value (filter_map f (take (place - 1) key_places)) vs)
      ∙ length-append bytes_before (flat_map packed_value vs)

  pub length_more : (v : Value) (len more new most : ℕ) → f place ≡ Some v → len ≡ min (1 + length bytes_before) most → more ≡ length (packed_value v) → new ≡ min (len + more) most → new ≡ min (1 + length bytes_after) most
  length_more v len more new most h e m n =
      let g = grown (v ∷ []) (ap option_to_list h) in
      let l = length-append (packed_value v) [] in
      omega (arith, g, l, e, m, n)

  pub length_same : (len most : ℕ) → f place ≡ None → len ≡ min (1 + length bytes_before) most → len ≡ min (1 + length bytes_after) most
  length_same len most h e = let g = grown [] (ap option_to_list h) in omega (arith, g, e)
