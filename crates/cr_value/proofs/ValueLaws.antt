-- Laws of values.
use Rattle.std.proofs.Common.{◌≡◌, inl, inr, ℕ, ◌+◌, ◌==◌, ℤ, Bool, true, false, List, ◌++◌, length, drop, get_or, Option, Some, None, refl, sym, ap, ◌∙◌, append_assoc, arith}
use Rattle.std.specs.Option.{option_map_or}
use Rattle.std.specs.Str.{IsUtf8, str_to_ascii_lowercase}
use Rattle.std.proofs.lemmas.Cmp.{on_total}
use Rattle.std.proofs.lemmas.List.{drop_at, length-append, length-drop}
use Rattle.hex.proofs.HexLemmas.{decode_of-encode_upper}
use Rattle.cr_value.specs.declared.value.Value.{Value}
use Rattle.cr_value.specs.declared.value.Value.TheVariants.{Null, Int, Text, Blob}
use Rattle.cr_value.specs.declared.affinity.Affinity.TheVariants as affinity
use Rattle.cr_value.specs.declared.collation.Collation.TheVariants as collation
use Rattle.cr_value.specs.OrderLaws.{bytes_total}
use Rattle.cr_value.specs.Affinity.{int_of_text, as_number}
use Rattle.cr_value.specs.Collation.{without_trailing_spaces}
use Rattle.cr_value.specs.Packing.{IsBytes}
use Rattle.cr_value.specs.Literal.{is_printable, IsBlobLiteral, IsLiteral, literal}
use Rattle.cr_value.specs.Laws.{CollationsAreTotal, AffinityOnceIsEnough, OneSpelling, OneMeaning, OneLiteral, IsWritten, LiteralsAreReadBack}
use Rattle.cr_value.proofs.Fields.{unpacked_again, some_is}
use Rattle.cr_value.proofs.TextBytes.{IsBytes-utf8}
use Rattle.cr_value.proofs.Places.{opened, begins_read}

pub collation_total : CollationsAreTotal
collation_total collation.Binary = bytes_total
collation_total collation.Nocase = on_total str_to_ascii_lowercase bytes_total
collation_total collation.Rtrim = on_total without_trailing_spaces bytes_total

number_twice : (t : List ℕ) (r : Option ℤ) → int_of_text t ≡ r → as_number (option_map_or Int r (Text t)) ≡ option_map_or Int r (Text t)
number_twice t (Some n) e = refl
number_twice t None e = ap (λ (r : Option ℤ). option_map_or Int r (Text t)) e

as_number_twice : (v : Value) → as_number (as_number v) ≡ as_number v
as_number_twice Null = refl
as_number_twice (Int n) = refl
as_number_twice (Text t) = number_twice t (int_of_text t) refl
as_number_twice (Blob b) = refl

pub applied_twice : AffinityOnceIsEnough
applied_twice affinity.Integer v = as_number_twice v
applied_twice affinity.Text Null = refl
applied_twice affinity.Text (Int n) = refl
applied_twice affinity.Text (Text t) = refl
applied_twice affinity.Text (Blob b) = refl
applied_twice affinity.Blob v = refl
applied_twice affinity.Numeric v = as_number_twice v

pub one_spelling : OneSpelling
one_spelling vs x y p q = p.spelled ∙ sym q.spelled

pub one_meaning : OneMeaning
one_meaning vs ws bytes p q = some_is vs ws (sym (unpacked_again bytes vs p) ∙ unpacked_again bytes ws q)

pub one_literal : OneLiteral
one_literal text at v w end last b d =
    let same = sym (begins_read text at v end b) ∙ begins_read text at w last d in
    let parts = some_is (v, drop end text) (w, drop last text) same in
    let rest : drop end text ≡ drop last text = ap (λ (x : Value × List ℕ). x.1) parts in
    let len = sym (length-drop end text) ∙ ap length rest ∙ length-drop last text in
    (ap (λ (x : Value × List ℕ). x.0) parts, omega (arith, len, b.in_text, d.in_text))

blob_written : (b : List ℕ) → IsBytes b → IsBlobLiteral b (literal (Blob b))
blob_written b fits = (88, _, inl refl, refl, decode_of-encode_upper b fits)

text_written : (t after : List ℕ) (p : Bool) → is_printable t ≡ p → IsUtf8 t → (get_or after 0 0 == 39) ≡ false → IsLiteral (Text t) (literal (Text t)) after
text_written t after true e u q = (u, inl (e, rw e refl, q))
text_written t after false e u q = (u, inr (literal (Blob t), blob_written t (IsBytes-utf8 t u), rw e refl))

pub written : IsWritten
written Null after is d q = refl
written (Int n) after is d q = (refl, is, d)
written (Text t) after is d q = text_written t after (is_printable t) refl is q
written (Blob b) after is d q = blob_written b is

pub read_back : LiteralsAreReadBack
read_back before after v is =
    let split : drop (length before) (before ++ literal v ++ after) ≡ literal v ++ after = ap (drop (length before)) (append_assoc before (literal v) after) ∙ drop_at before (literal v ++ after) (length before) refl in
    opened (before ++ literal v ++ after) (length before) v (literal v) after (length before + length (literal v)) refl (omega (arith, length-append (before ++ literal v) after, length-append before (literal v))) split is
