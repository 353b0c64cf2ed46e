-- Each statement is laid out as it is printed.
use Rattle.std.proofs.Common.{◌≡◌, ℕ, ◌^◌, Bool, true, false, if◌then◌else◌, nat_lt, List, [], ◌∷◌, ◌++◌, map, Some, None, ℤ, pos, negsuc, refl, sym, ◌∙◌, ap, subst, append_assoc, codes}
use Rattle.std.proofs.lemmas.List.{append-nil}
use Rattle.std.specs.Fmt.{signed_decimal}
use Rattle.cr_value.specs.declared.value.Value.{Value}
use Rattle.cr_value.specs.declared.value.Value.TheVariants as v
use Rattle.cr_tree.specs.declared.limits.TheConstants.{LIMITS}
use Rattle.cr_tree.specs.declared.symbol.Mark.TheVariants as m
use Rattle.cr_tree.specs.declared.symbol.Symbol.{Symbol}
use Rattle.cr_tree.specs.declared.symbol.Symbol.TheVariants as k
use Rattle.cr_tree.specs.Grammar.{spelled}
use Rattle.cr_tree.specs.Language.{expr}
use Rattle.cr_lex.specs.Marks.{words, signs}
use Rattle.cr_tree.specs.declared.statement.Join.{Join}
use Rattle.cr_tree.specs.declared.statement.JoinKind.{JoinKind}
use Rattle.cr_tree.specs.declared.statement.JoinKind.TheVariants as j
use Rattle.cr_tree.specs.declared.statement.Shown.TheVariants as s
use Rattle.cr_tree.specs.declared.statement.Tables.{Tables}
use Rattle.cr_tree.specs.declared.statement.Limit.{Limit}
use Rattle.cr_tree.specs.declared.statement.Mode.{Mode}
use Rattle.cr_tree.specs.declared.statement.Mode.TheVariants as o
use Rattle.cr_tree.specs.declared.statement.Constraint.TheVariants as c
use Rattle.cr_tree.specs.declared.statement.Statement.TheVariants as t
use Rattle.cr_statement.specs.Languages.{◌◁◌, ◌▷◌, ◌⟨$⟩◌, One, Other, mark, maybe, maybe_mark, many, commas, name, sizes}
use Rattle.cr_statement.specs.Statements as grammar
use Rattle.cr_pieces.specs.Pieces.{text}
use Rattle.cr_pieces.specs.Known as piece
use Rattle.cr_pieces.proofs.Quoted.{string_piece}
use Rattle.cr_pieces.proofs.Blobs.{blob_piece}
use Rattle.cr_pieces.proofs.Signs.{sign_piece}
use Rattle.cr_pieces.proofs.Follows.{all_follow}
use Rattle.cr_print.specs.Pieces.{in_row, listed, value}
use Rattle.cr_print.specs.Pieces as parts
use Rattle.cr_print.specs.Layout as layout
use Rattle.cr_print.specs.Expressions as expressions
use Rattle.cr_roundtrip.specs.Printed.{number_phrase, All, IsSeen, InRange}
use Rattle.cr_roundtrip.proofs.Printed.{back}
use Rattle.cr_roundtrip.proofs.Written.{pieces, number_spelled}
use Rattle.cr_roundtrip.proofs.Texts.{gap, number_text}
use Rattle.cr_roundtrip.proofs.Chain.{calm_follows, named, number_chain}
use Rattle.cr_roundtrip.proofs.Rewriting.{Rewrites, kept, expression, mapped, behind, before, pair, option, several, either}
use Rattle.cr_roundtrip.proofs.Rewriting as rewriting
use Rattle.cr_roundtrip.proofs.Laid.{Laid, Tail, laid_as, tail_as, laid_word, laid_sign, laid_name, apart, nothing_there, then_tail, behind_comma, Prints, PrintsTail, expression_printed, name_printed, mapped_printed, mapped_tail, word_before, sign_before, comma_before, apart_printed, in_parentheses_printed, option_printed, many_printed, up_printed, listed_printed, pair_printed, pair_tail, either_printed, either_tail}
use Rattle.cr_roundtrip.proofs.Again as again
use Rattle.cr_roundtrip.proofs.Again.{count_of, count_value, count_seen, count_ranged, literal_int, plain_to, literal_to, negative_ranged, int_ranged, int_seen}

-- ---- integers

count_words : (i : ℤ) → spelled (number_phrase i) ≡ grammar.count.words (count_of i)
count_words (pos n) = refl
count_words (negsuc n) = refl

laid_count : (b : Bool) (i : ℤ) → InRange i → Laid b (grammar.count.words (count_of i)) (signed_decimal i)
laid_count b i h = record { with = pieces b (number_phrase i); spells = number_spelled b i ∙ count_words i; reads = number_text b i; chains = number_chain b i (subst (All IsSeen) (sym (count_words i)) (count_seen i h)) }

count_printed : Prints grammar.count again.count signed_decimal
count_printed = record { laid = λ b d i a. laid_count b (count_value d) (count_ranged d i a) }

-- ---- SELECT

aliased_printed : Prints again.Aliased again.aliased (λ n. codes "AS " ++ parts.name n)
unfolding words
aliased_printed = record { laid = λ b d i a. then_tail (laid_word b (codes "AS") m.As refl) (apart (laid_name true d.1 (back IsSeen ((maybe_mark m.As).words d.0) (k.Name d.1 ∷ []) a).0)) }

alias_printed : PrintsTail grammar.alias again.alias layout.alias
alias_printed = option_printed layout.alias refl (λ a. refl) (apart_printed aliased_printed)

star_printed : Prints (mark m.Star s.All) (kept (mark m.Star s.All)) layout.shown
unfolding signs
star_printed = record { laid = λ b d i a. laid_sign b (codes "*") m.Star refl refl refl }

all_of_text : (b : Bool) (n : List ℕ) → text (piece.name b n ∷ piece.sign false (codes ".") m.Dot ∷ piece.sign false (codes "*") m.Star ∷ []) ≡ gap b ++ (parts.name n ++ codes ".*")
all_of_text true n = refl
all_of_text false n = refl

all_of_printed : Prints (s.AllOf ⟨$⟩ name ▷ m.Dot ▷ m.Star) (kept (s.AllOf ⟨$⟩ name ▷ m.Dot ▷ m.Star)) layout.shown
unfolding signs
all_of_printed = record {
  laid = λ b d i a. record {
    with = piece.name b d ∷ piece.sign false (codes ".") m.Dot ∷ piece.sign false (codes "*") m.Star ∷ [];
    spells = refl;
    reads = all_of_text b d;
    chains = λ qs h w. (named b d a.0, refl, (sign_piece false (codes ".") m.Dot refl, refl, (sign_piece false (codes "*") m.Star refl, all_follow (piece.after_sign (codes "*")) (λ c. refl) (text qs), w)));
  };
}

shown_printed : Prints grammar.shown again.shown layout.shown
shown_printed = either_printed star_printed (either_printed all_of_printed (mapped_printed (λ x. s.One x.0 x.1) layout.shown (λ x. refl) (pair_printed expression_printed alias_printed)))

source_printed : Prints grammar.source again.source layout.source
source_printed = mapped_printed (λ x. record { table = x.0; alias = x.1 }) layout.source (λ x. refl) (pair_printed name_printed alias_printed)

on_printed : PrintsTail (maybe (m.On ◁ expr)) (option (behind m.On expression)) (layout.clause (codes " ON "))
unfolding words
on_printed = option_printed (layout.clause (codes " ON ")) refl (λ a. refl) (apart_printed (word_before m.On (codes "ON") refl expression_printed))

abbrev join_text : Join → List ℕ
join_text x = codes "JOIN " ++ (layout.source x.source ++ layout.clause (codes " ON ") x.on)

joined_printed : (kind : JoinKind) → Prints (grammar.joined kind) (again.joined kind) join_text
unfolding words
joined_printed kind = mapped_printed (λ x. record { kind = kind; source = x.0; on = x.1 }) join_text (λ x. refl) (pair_printed (word_before m.Join (codes "JOIN") refl source_printed) on_printed)

join_printed : PrintsTail grammar.join again.joins layout.join
unfolding words
join_printed = record { tail = at }
  where
    at : (d : grammar.join.D) → grammar.join.fits LIMITS d → All IsSeen (grammar.join.words d) → Tail (grammar.join.words (again.join_to d)) (layout.join (grammar.join.value d))
    at (One d) i a = tail_as (sym (append-nil (codes ", " ++ layout.source (grammar.source.value d)))) (behind_comma (source_printed.laid true d i a.1))
    at (Other (One d)) i a = apart (then_tail (laid_word true (codes "LEFT") m.Left refl) (apart ((joined_printed j.Left).laid true d.1 i.1 (back IsSeen ((maybe_mark m.Outer).words d.0) ((grammar.joined j.Left).words d.1) a.1))))
    at (Other (Other (One d))) i a = apart (then_tail (laid_word true (codes "INNER") m.Inner refl) (apart ((joined_printed j.Inner).laid true d i a.1)))
    at (Other (Other (Other (One d)))) i a = apart (then_tail (laid_word true (codes "CROSS") m.Cross refl) (apart ((joined_printed j.Cross).laid true d i a.1)))
    at (Other (Other (Other (Other d)))) i a = apart (then_tail (laid_word true (codes "INNER") m.Inner refl) (apart ((joined_printed j.Inner).laid true d i a)))

abbrev tables_text : Tables → List ℕ
tables_text x = layout.source x.first ++ in_row [] [] (map layout.join x.joins)

tables_printed : Prints grammar.tables again.tables tables_text
tables_printed = mapped_printed (λ x. record { first = x.0; joins = x.1 }) tables_text (λ x. refl) (pair_printed source_printed (up_printed (λ lim. lim.joins) join_printed))

from_printed : PrintsTail (maybe (m.From ◁ grammar.tables)) (option (behind m.From again.tables)) layout.from
unfolding words
from_printed = option_printed layout.from refl (λ a. refl) (apart_printed (word_before m.From (codes "FROM") refl tables_printed))

filter_printed : PrintsTail grammar.filter again.filter (layout.clause (codes " WHERE "))
unfolding words
filter_printed = option_printed (layout.clause (codes " WHERE ")) refl (λ a. refl) (apart_printed (word_before m.Where (codes "WHERE") refl expression_printed))

group_printed : PrintsTail (maybe (m.Group ◁ m.By ◁ commas expr)) (option (behind m.Group (behind m.By (rewriting.listed expression)))) layout.group
unfolding words
group_printed = option_printed layout.group refl (λ a. refl) (apart_printed (word_before m.Group (codes "GROUP") refl (word_before m.By (codes "BY") refl (listed_printed expression_printed))))

having_printed : PrintsTail (maybe (m.Having ◁ expr)) (option (behind m.Having expression)) (layout.clause (codes " HAVING "))
unfolding words
having_printed = option_printed (layout.clause (codes " HAVING ")) refl (λ a. refl) (apart_printed (word_before m.Having (codes "HAVING") refl expression_printed))

descending_printed : PrintsTail (grammar.flag m.Desc m.Asc) (again.flag m.Desc m.Asc) layout.descending
unfolding words
descending_printed = record { tail = at }
  where
    at : (d : (grammar.flag m.Desc m.Asc).D) → (grammar.flag m.Desc m.Asc).fits LIMITS d → All IsSeen ((grammar.flag m.Desc m.Asc).words d) → Tail ((grammar.flag m.Desc m.Asc).words (again.flag_to m.Desc m.Asc d)) (layout.descending ((grammar.flag m.Desc m.Asc).value d))
    at (One d) i a = apart (laid_word true (codes "DESC") m.Desc refl)
    at (Other d) i a = nothing_there

term_printed : Prints grammar.term again.term layout.term
term_printed = mapped_printed (λ x. record { expr = x.0; descending = x.1 }) layout.term (λ x. refl) (pair_printed expression_printed descending_printed)

order_printed : PrintsTail (maybe (m.Order ◁ m.By ◁ commas grammar.term)) (option (behind m.Order (behind m.By (rewriting.listed again.term)))) layout.order
unfolding words
order_printed = option_printed layout.order refl (λ a. refl) (apart_printed (word_before m.Order (codes "ORDER") refl (word_before m.By (codes "BY") refl (listed_printed term_printed))))

offset_printed : PrintsTail (maybe (m.Offset ◁ grammar.count)) (option (behind m.Offset again.count)) layout.offset
unfolding words
offset_printed = option_printed layout.offset refl (λ a. refl) (apart_printed (word_before m.Offset (codes "OFFSET") refl count_printed))

abbrev limit_text : Limit → List ℕ
limit_text x = codes "LIMIT " ++ (signed_decimal x.count ++ layout.offset x.offset)

limit_printed : PrintsTail (maybe grammar.limit) (option again.limit) layout.limit
unfolding words
limit_printed = option_printed layout.limit refl (λ a. refl) (apart_printed (mapped_printed (λ x. record { count = x.0; offset = x.1 }) limit_text (λ x. refl) (pair_printed (word_before m.Limit (codes "LIMIT") refl count_printed) offset_printed)))

abbrev select_word : Bool → List ℕ
select_word true = codes "SELECT DISTINCT"
select_word false = codes "SELECT"

distinct_printed : Prints (m.Select ◁ grammar.flag m.Distinct m.All) (behind m.Select (again.flag m.Distinct m.All)) select_word
unfolding words
distinct_printed = record { laid = at }
  where
    at : (b : Bool) (d : (grammar.flag m.Distinct m.All).D) → (grammar.flag m.Distinct m.All).fits LIMITS d → All IsSeen (k.Mark m.Select ∷ (grammar.flag m.Distinct m.All).words d)
        → Laid b (k.Mark m.Select ∷ (grammar.flag m.Distinct m.All).words (again.flag_to m.Distinct m.All d)) (select_word ((grammar.flag m.Distinct m.All).value d))
    at b (One d) i a = then_tail (laid_word b (codes "SELECT") m.Select refl) (apart (laid_word true (codes "DISTINCT") m.Distinct refl))
    at b (Other d) i a = laid_word b (codes "SELECT") m.Select refl

select_groups : (s l f w g h o n : List ℕ) → s ++ ((32 ∷ l) ++ (f ++ (w ++ (g ++ (h ++ (o ++ n)))))) ≡ (((((s ++ 32 ∷ []) ++ l) ++ f) ++ w) ++ (g ++ h)) ++ o ++ n
select_groups s l f w g h o n = simp append_assoc

distinct_word : (d : Bool) → select_word d ++ 32 ∷ [] ≡ layout.distinct d
distinct_word true = refl
distinct_word false = refl

select_printed : Prints grammar.select again.select layout.select
select_printed = mapped_printed (λ x. record { distinct = x.0; shown = x.1.0; from = x.1.1.0; filter = x.1.1.1.0; group = x.1.1.1.1.0; having = x.1.1.1.1.1.0; order = x.1.1.1.1.1.1.0; limit = x.1.1.1.1.1.1.1 }) layout.select
    (λ x. select_groups (select_word x.0) (listed (map layout.shown x.1.0)) (layout.from x.1.1.0) (layout.clause (codes " WHERE ") x.1.1.1.0) (layout.group x.1.1.1.1.0) (layout.clause (codes " HAVING ") x.1.1.1.1.1.0) (layout.order x.1.1.1.1.1.1.0) (layout.limit x.1.1.1.1.1.1.1)
    ∙ ap (λ z. ((((z ++ listed (map layout.shown x.1.0)) ++ layout.from x.1.1.0) ++ layout.clause (codes " WHERE ") x.1.1.1.0) ++ (layout.group x.1.1.1.1.0 ++ layout.clause (codes " HAVING ") x.1.1.1.1.1.0)) ++ layout.order x.1.1.1.1.1.1.0 ++ layout.limit x.1.1.1.1.1.1.1) (distinct_word x.0))
    (pair_printed distinct_printed (pair_tail (apart_printed (listed_printed shown_printed)) (pair_tail from_printed (pair_tail filter_printed (pair_tail group_printed (pair_tail having_printed (pair_tail order_printed limit_printed)))))))

-- ---- writes

columns_printed : PrintsTail (maybe (m.Open ◁ grammar.names ▷ m.Close)) (option (behind m.Open (before m.Close (rewriting.listed (kept name))))) layout.columns
columns_printed = option_printed layout.columns refl (λ a. refl) (apart_printed (in_parentheses_printed (listed_printed name_printed)))

insert_groups : (p n c w l : List ℕ) → (p ++ n) ++ (c ++ (w ++ l)) ≡ (((p ++ n) ++ c) ++ w) ++ l
insert_groups p n c w l = simp append_assoc

insert_printed : Prints grammar.insert again.insert layout.insert
unfolding words
insert_printed = mapped_printed (λ x. record { table = x.0; columns = x.1.0; rows = x.1.1 }) layout.insert (λ x. insert_groups (codes "INSERT INTO ") (parts.name x.0) (layout.columns x.1.0) (codes " VALUES ") (listed (map layout.row x.1.1)))
    (pair_printed (word_before m.Insert (codes "INSERT") refl (word_before m.Into (codes "INTO") refl name_printed))
    (pair_tail columns_printed (apart_printed (word_before m.Values (codes "VALUES") refl (listed_printed (in_parentheses_printed (listed_printed expression_printed)))))))

assignment_printed : Prints grammar.assignment again.assignment layout.assignment
unfolding signs
assignment_printed = mapped_printed (λ x. record { column = x.0; value = x.1 }) layout.assignment (λ x. sym (append_assoc (parts.name x.0) (codes " = ") (expressions.expr x.1)))
    (pair_printed name_printed (apart_printed (sign_before m.Equal (codes "=") refl (λ b. refl) (λ b. refl) expression_printed)))

update_groups : (p n s l w : List ℕ) → (p ++ n) ++ ((s ++ l) ++ w) ≡ (((p ++ n) ++ s) ++ l) ++ w
update_groups p n s l w = simp append_assoc

update_printed : Prints grammar.update again.update layout.update
unfolding words
update_printed = mapped_printed (λ x. record { table = x.0; assignments = x.1.0; filter = x.1.1 }) layout.update (λ x. update_groups (codes "UPDATE ") (parts.name x.0) (codes " SET ") (listed (map layout.assignment x.1.0)) (layout.clause (codes " WHERE ") x.1.1))
    (pair_printed (word_before m.Update (codes "UPDATE") refl name_printed) (pair_tail (apart_printed (word_before m.Set (codes "SET") refl (listed_printed assignment_printed))) filter_printed))

delete_printed : Prints grammar.delete again.delete layout.delete
unfolding words
delete_printed = mapped_printed (λ x. record { table = x.0; filter = x.1 }) layout.delete (λ x. refl) (pair_printed (word_before m.Delete (codes "DELETE") refl (word_before m.From (codes "FROM") refl name_printed)) filter_printed)

-- ---- CREATE TABLE

literal_words : (i : ℤ) → spelled (number_phrase i) ≡ grammar.literal.words (literal_int i)
literal_words (pos n) = refl
literal_words (negsuc n) = refl

laid_int : (b : Bool) (i : ℤ) → InRange i → Laid b (grammar.literal.words (literal_int i)) (signed_decimal i)
laid_int b i h = record { with = pieces b (number_phrase i); spells = number_spelled b i ∙ literal_words i; reads = number_text b i; chains = number_chain b i (subst (All IsSeen) (sym (literal_words i)) (int_seen i h)) }

led_text : (b : Bool) (p : List ℕ) (t : List ℕ) → text (piece.word b p m.All ∷ []) ≡ gap b ++ p
led_text true p t = ap (λ z. 32 ∷ z) (append-nil p)
led_text false p t = append-nil p

laid_plain : (b : Bool) (x : Symbol) (a : Value) → grammar.plain_of x ≡ Some a → IsSeen x → Laid b (grammar.literal.words (plain_to x a)) (value a)
unfolding words
laid_plain b (k.Bits i) a e h = let same : v.Int i ≡ a = cc in laid_as (ap value same) (laid_int b i h)
laid_plain b (k.Number n) a e h = by (nat_lt n (2 ^ 63)) e
  where
    by : (d : Bool) → (if d then Some (v.Int (pos n)) else None) ≡ Some a → Laid b (k.Number n ∷ []) (value a)
    by true e = let same : v.Int (pos n) ≡ a = cc in laid_as (ap value same) (record { with = pieces b (number_phrase (pos n)); spells = refl; reads = number_text b (pos n); chains = number_chain b (pos n) (h, tt) })
    by false e = absurd (cc)
laid_plain b (k.Text w) a e h = let same : v.Text w ≡ a = cc in laid_as (ap value same) (record { with = piece.string b w ∷ []; spells = refl; reads = led_text b (value (v.Text w)) []; chains = λ qs c u. (string_piece b w h.0 h.1, calm_follows (piece.string b w).next refl refl (text qs) c, u) })
laid_plain b (k.Blob w) a e h = let same : v.Blob w ≡ a = cc in laid_as (ap value same) (record { with = piece.blob b w ∷ []; spells = refl; reads = led_text b (value (v.Blob w)) []; chains = λ qs c u. (blob_piece b w h, calm_follows (piece.blob b w).next refl refl (text qs) c, u) })
laid_plain b (k.Mark m.Null) a e h = let same : v.Null ≡ a = cc in laid_as (ap value same) (laid_word b (codes "NULL") m.Null refl)
laid_plain b (k.Mark x) a e h = absurd (cc)
laid_plain b (k.Name w) a e h = absurd (cc)
laid_plain b (k.Param n) a e h = absurd (cc)
laid_plain b k.Other a e h = absurd (cc)

literal_printed : Prints grammar.literal again.literal value
literal_printed = record { laid = at }
  where
    at : (b : Bool) (d : grammar.literal.D) → grammar.literal.fits LIMITS d → All IsSeen (grammar.literal.words d) → Laid b (grammar.literal.words (literal_to d)) (value (grammar.literal.value d))
    at b (One d) i a = laid_int b d.value (negative_ranged d.symbol d.value i a.1.0)
    at b (Other (One d)) i a = laid_int b d.value (int_ranged d.symbol d.value i a.1.0)
    at b (Other (Other d)) i a = laid_plain b d.symbol d.value i a.0

constraint_printed : PrintsTail grammar.constraint again.constraint layout.constraint
unfolding words
constraint_printed =
    either_tail (record { tail = λ d i a. apart (then_tail (laid_word true (codes "PRIMARY") m.Primary refl) (apart (laid_word true (codes "KEY") m.Key refl))) })
    (either_tail (record { tail = λ d i a. apart (then_tail (laid_word true (codes "NOT") m.Not refl) (apart (laid_word true (codes "NULL") m.Null refl))) })
    (either_tail (mapped_tail c.Default layout.constraint (λ x. refl) (apart_printed (word_before m.Default (codes "DEFAULT") refl literal_printed)))
    (record { tail = λ d i a. apart (then_tail (laid_word true (codes "COLLATE") m.Collate refl) (apart (laid_name true d a.1.0))) })))

words_row : (ws : List (List ℕ)) → in_row [] [] (map (λ n. 32 ∷ parts.name n) ws) ≡ in_row (codes " ") (codes " ") (map parts.name ws)
words_row [] = refl
words_row (w ∷ ws) = ap (λ z. (32 ∷ parts.name w) ++ z) (words_row ws)

type_printed : PrintsTail (many name) (several (kept name)) (λ ws. in_row (codes " ") (codes " ") (map parts.name ws))
type_printed = record { tail = λ d i a. tail_as (words_row ((many name).value d)) ((many_printed (apart_printed name_printed)).tail d i a) }

no_sizes_printed : PrintsTail sizes again.no_sizes (λ u. [])
no_sizes_printed = record { tail = λ d i a. nothing_there }

column_printed : Prints grammar.column again.column layout.column
column_printed = mapped_printed (λ x. record { name = x.0; type_words = x.1.0; constraints = x.1.1.1 }) layout.column
    (λ x. sym (append_assoc (parts.name x.0) (in_row (codes " ") (codes " ") (map parts.name x.1.0)) (in_row [] [] (map layout.constraint x.1.1.1))))
    (pair_printed name_printed (pair_tail type_printed (pair_tail no_sizes_printed (many_printed constraint_printed))))

key_printed : PrintsTail (maybe grammar.key) (option (behind m.Comma (behind m.Primary (behind m.Key (behind m.Open (before m.Close (rewriting.listed (kept name)))))))) layout.key
unfolding words
key_printed = option_printed layout.key refl (λ a. refl) (comma_before (word_before m.Primary (codes "PRIMARY") refl (word_before m.Key (codes "KEY") refl (in_parentheses_printed (listed_printed name_printed)))))

abbrev create_words : Bool → List ℕ
create_words true = codes "CREATE TABLE IF NOT EXISTS"
create_words false = codes "CREATE TABLE"

exists_printed : Prints (m.Create ◁ m.Table ◁ grammar.if_not_exists) (behind m.Create (behind m.Table (kept grammar.if_not_exists))) create_words
unfolding words
exists_printed = record { laid = at }
  where
    at : (b : Bool) (d : grammar.if_not_exists.D) → grammar.if_not_exists.fits LIMITS d → All IsSeen (k.Mark m.Create ∷ k.Mark m.Table ∷ grammar.if_not_exists.words d) → Laid b (k.Mark m.Create ∷ k.Mark m.Table ∷ grammar.if_not_exists.words d) (create_words (grammar.if_not_exists.value d))
    at b (One d) i a = then_tail (laid_word b (codes "CREATE") m.Create refl) (apart (then_tail (laid_word true (codes "TABLE") m.Table refl)
        (apart (then_tail (laid_word true (codes "IF") m.If refl) (apart (then_tail (laid_word true (codes "NOT") m.Not refl) (apart (laid_word true (codes "EXISTS") m.Exists refl))))))))
    at b (Other d) i a = then_tail (laid_word b (codes "CREATE") m.Create refl) (apart (laid_word true (codes "TABLE") m.Table refl))

create_groups : (h n l q : List ℕ) → h ++ ((32 ∷ n) ++ (32 ∷ 40 ∷ ((l ++ q) ++ 41 ∷ []))) ≡ ((((h ++ 32 ∷ []) ++ n) ++ 32 ∷ 40 ∷ []) ++ l) ++ q ++ 41 ∷ []
create_groups h n l q = simp append_assoc

create_word_is : (d : Bool) → create_words d ++ 32 ∷ [] ≡ layout.create_word d
create_word_is true = refl
create_word_is false = refl

create_printed : Prints grammar.create again.create layout.create
create_printed = mapped_printed (λ x. record { if_not_exists = x.0; table = x.1.0; columns = x.1.1.0; key = x.1.1.1 }) layout.create
    (λ x. create_groups (create_words x.0) (parts.name x.1.0) (listed (map layout.column x.1.1.0)) (layout.key x.1.1.1)
    ∙ ap (λ z. (((z ++ parts.name x.1.0) ++ 32 ∷ 40 ∷ []) ++ listed (map layout.column x.1.1.0)) ++ layout.key x.1.1.1 ++ 41 ∷ []) (create_word_is x.0))
    (pair_printed exists_printed (pair_tail (apart_printed name_printed) (apart_printed (in_parentheses_printed (pair_printed (listed_printed column_printed) key_printed)))))

-- ---- ALTER TABLE

added_printed : Prints again.Added again.added (λ c. codes "COLUMN" ++ 32 ∷ layout.column c)
unfolding words
added_printed = record { laid = λ b d i a. then_tail (laid_word b (codes "COLUMN") m.Column refl) (apart (column_printed.laid true d.1 i.1 (back IsSeen ((maybe_mark m.Column).words d.0) (grammar.column.words d.1) a))) }

alter_printed : Prints grammar.alter again.alter layout.alter
unfolding words
alter_printed = mapped_printed (λ x. record { table = x.0; column = x.1 }) layout.alter (λ x. sym (append_assoc (codes "ALTER TABLE " ++ parts.name x.0) (codes " ADD COLUMN ") (layout.column x.1)))
    (pair_printed (word_before m.Alter (codes "ALTER") refl (word_before m.Table (codes "TABLE") refl name_printed)) (apart_printed (word_before m.Add (codes "ADD") refl added_printed)))

-- ---- transactions

begin_printed : (b : Bool) (x : Symbol) (a : Mode) → grammar.mode_of x ≡ Some a → Laid b (k.Mark m.Begin ∷ x ∷ []) (layout.begin (Some a))
unfolding words
begin_printed b (k.Mark m.Deferred) a e = let same : o.Deferred ≡ a = cc in laid_as (ap (λ z. layout.begin (Some z)) same) (then_tail (laid_word b (codes "BEGIN") m.Begin refl) (apart (laid_word true (codes "DEFERRED") m.Deferred refl)))
begin_printed b (k.Mark m.Immediate) a e = let same : o.Immediate ≡ a = cc in laid_as (ap (λ z. layout.begin (Some z)) same) (then_tail (laid_word b (codes "BEGIN") m.Begin refl) (apart (laid_word true (codes "IMMEDIATE") m.Immediate refl)))
begin_printed b (k.Mark m.Exclusive) a e = let same : o.Exclusive ≡ a = cc in laid_as (ap (λ z. layout.begin (Some z)) same) (then_tail (laid_word b (codes "BEGIN") m.Begin refl) (apart (laid_word true (codes "EXCLUSIVE") m.Exclusive refl)))
begin_printed b (k.Mark x) a e = absurd (cc)
begin_printed b _ a e = absurd (cc)

transaction_printed : Prints grammar.transaction again.transaction layout.statement
unfolding words
transaction_printed = record { laid = at }
  where
    at : (b : Bool) (d : grammar.transaction.D) → grammar.transaction.fits LIMITS d → All IsSeen (grammar.transaction.words d) → Laid b (grammar.transaction.words (again.transaction_to d)) (layout.statement (grammar.transaction.value d))
    at b (One (None, u)) i a = laid_word b (codes "BEGIN") m.Begin refl
    at b (One (Some d, u)) i a = begin_printed b d.symbol d.value i.0
    at b (Other (One d)) i a = laid_word b (codes "COMMIT") m.Commit refl
    at b (Other (Other (One d))) i a = laid_word b (codes "COMMIT") m.Commit refl
    at b (Other (Other (Other d))) i a = laid_word b (codes "ROLLBACK") m.Rollback refl

-- ---- the whole

pub statement_printed : Prints grammar.statement again.statement layout.statement
statement_printed = either_printed (mapped_printed t.Select layout.statement (λ x. refl) select_printed) (either_printed (mapped_printed t.Create layout.statement (λ x. refl) create_printed)
    (either_printed (mapped_printed t.Alter layout.statement (λ x. refl) alter_printed) (either_printed (mapped_printed t.Insert layout.statement (λ x. refl) insert_printed) (either_printed (mapped_printed t.Update layout.statement (λ x. refl) update_printed)
    (either_printed (mapped_printed t.Delete layout.statement (λ x. refl) delete_printed) transaction_printed)))))
