-- Columns of a line, one after the other.
use Rattle.std.proofs.Common.{◌≡◌, ◌∙◌, refl, sym, ap, subst, ℕ, suc, ◌+◌, ◌-◌, true, false, List, [], ◌∷◌, ◌++◌, append_assoc, length, take, drop, Option, Some, None, ◌≤◌}
use Rattle.std.proofs.lemmas.List.{drop-drop, drop_all}
use Rattle.std.specs.Option.{option_map}
use Rattle.cr_shell.specs.declared.table_line.Column.{Column}
use Rattle.cr_shell.specs.Words.{behind, is_empty}
use Rattle.cr_shell.specs.TableLine.{word_at, column_at, keys_with, columns_in}
use Rattle.cr_shell.proofs.BytesLemmas.{rest_from}
use Rattle.std.proofs.lemmas.Str.{is_utf8-from_IsUtf8, IsUtf8-nil}

-- ---- a word

pub no_word : (text : List ℕ) (at stop : ℕ) → length text ≤ at → Some ([], drop at text) ≡ word_at stop (drop at text)
unfolding word_at
no_word text at stop le = rw (drop_all at text le, is_utf8-from_IsUtf8 [] IsUtf8-nil) refl

pub word_behind : (text : List ℕ) (at stop : ℕ) (word : List ℕ) (n : ℕ)
    → Some (word, drop n (take (length text - at) (drop at text))) ≡ word_at stop (take (length text - at) (drop at text)) → Some (word, drop (at + n) text) ≡ word_at stop (drop at text)
word_behind text at stop word n e =
    ap (λ (l : List ℕ). Some (word, l)) (sym (drop-drop n at text) ∙ ap (drop n) (sym (rest_from at text))) ∙ e ∙ ap (word_at stop) (rest_from at text)

pub no_word_behind : (text : List ℕ) (at stop : ℕ) → None ≡ word_at stop (take (length text - at) (drop at text)) → None ≡ word_at stop (drop at text)
no_word_behind text at stop e = e ∙ ap (word_at stop) (rest_from at text)

-- ---- the columns

pushed : (before : List Column) (c : Column) (o : Option (List Column)) → option_map (λ more. before ++ more) (option_map (λ more. c ∷ more) o) ≡ option_map (λ more. (before ++ c ∷ []) ++ more) o
pushed before c None = refl
pushed before c (Some more) = ap Some (sym (append_assoc before (c ∷ []) more))

module _ (whole : Option (List Column)) (before : List Column) (left most keys : ℕ) (bytes : List ℕ)
    (so_far : whole ≡ option_map (λ more. before ++ more) (columns_in left keys bytes)) (one_left : left ≡ suc most) where
  now_left : whole ≡ option_map (λ more. before ++ more) (columns_in (suc most) keys bytes)
  now_left = subst (λ (n : ℕ). whole ≡ option_map (λ more. before ++ more) (columns_in n keys bytes)) one_left so_far

  stepped : (o : Option (List Column)) → columns_in (suc most) keys bytes ≡ o → whole ≡ option_map (λ more. before ++ more) o
  stepped o e = now_left ∙ ap (option_map (λ more. before ++ more)) e

  no_column_here : column_at keys bytes ≡ None → columns_in (suc most) keys bytes ≡ None
  unfolding columns_in
  no_column_here e = rw e refl

  pub no_column : None ≡ column_at keys bytes → None ≡ whole
  no_column e = sym (stepped None (no_column_here (sym e)))

  module _ (x : Column × List ℕ) (read : Some x ≡ column_at keys bytes) where
    last_here : is_empty x.1 ≡ true → columns_in (suc most) keys bytes ≡ Some (x.0 ∷ [])
    unfolding columns_in
    last_here e = rw (sym read, e) refl

    unparted_here : is_empty x.1 ≡ false → behind 32 x.1 ≡ None → columns_in (suc most) keys bytes ≡ None
    unfolding columns_in
    unparted_here e b = rw (sym read, e, b) refl

    next_here : (rest : List ℕ) → is_empty x.1 ≡ false → behind 32 x.1 ≡ Some rest → columns_in (suc most) keys bytes ≡ option_map (λ more. x.0 ∷ more) (columns_in most (keys_with keys x.0) rest)
    unfolding columns_in
    next_here rest e b = rw (sym read, e, b) refl

    pub last_column : is_empty x.1 ≡ true → Some (before ++ x.0 ∷ []) ≡ whole
    last_column e = sym (stepped (Some (x.0 ∷ [])) (last_here e))

    pub unparted_column : is_empty x.1 ≡ false → None ≡ behind 32 x.1 → None ≡ whole
    unparted_column e b = sym (stepped None (unparted_here e (sym b)))

    pub next_column : (rest : List ℕ) → is_empty x.1 ≡ false → Some rest ≡ behind 32 x.1 → whole ≡ option_map (λ more. (before ++ x.0 ∷ []) ++ more) (columns_in most (keys_with keys x.0) rest)
    next_column rest e b = stepped _ (next_here rest e (sym b)) ∙ pushed before x.0 (columns_in most (keys_with keys x.0) rest)

pub none_left : (whole : Option (List Column)) (before : List Column) (left keys : ℕ) (bytes : List ℕ) → whole ≡ option_map (λ more. before ++ more) (columns_in left keys bytes) → left ≡ 0 → None ≡ whole
unfolding columns_in
none_left whole before left keys bytes so_far e = sym (subst (λ (n : ℕ). whole ≡ option_map (λ more. before ++ more) (columns_in n keys bytes)) e so_far)
