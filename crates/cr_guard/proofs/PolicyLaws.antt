-- Laws of policies.
use Rattle.std.proofs.Common.{◌≡◌, ℕ, Bool, true, false, not, ◌&&◌, List, [], ◌∷◌, if◌then◌else◌, Option, Some, None, refl, sym, ap, ◌∙◌}
use Rattle.std.specs.Prelude.{filter, find}
use Rattle.std.specs.Option.{option_map_or, option_or}
use Rattle.std.specs.Str.{bytes_eq}
use Rattle.std.proofs.lemmas.List.Folds.{find-append}
use Rattle.std.proofs.lemmas.Slice.Eq.{bytes_eq-Decides}
use Rattle.cr_host.specs.declared.meaning.Auth.{Auth}
use Rattle.cr_host.specs.declared.meaning.Auth.TheVariants.{Ok, Deny, Ignore}
use Rattle.cr_host.specs.Names.{folded}
use Rattle.cr_lattice.proofs.Filters.{find-filter}
use Rattle.cr_delta.proofs.Among.{and_true}
use Rattle.cr_guard.specs.declared.policy.ReadRule.{ReadRule}
use Rattle.cr_guard.specs.Policy.{speaks_of, without, kept_rule, with_read, read_answer}
use Rattle.cr_guard.specs.Laws.{LaterRuleDecides, same_names}

-- where two tests are one, nothing that fails the one passes the other
find_gone : {A : Type 0} (p q : A → Bool) → ((x : A) → p x ≡ q x) → (xs : List A) → find p (filter (λ x. not (q x)) xs) ≡ None
find_gone p q same [] = refl
find_gone p q same (x ∷ xs) = by (q x) refl (find_gone p q same xs)
  where
    by : (b : Bool) → q x ≡ b → find p (filter (λ y. not (q y)) xs) ≡ None → find p (filter (λ y. not (q y)) (x ∷ xs)) ≡ None
    by true e rest = rw e rest
    by false e rest = let no : p x ≡ false = same x ∙ e in rw (e, no) rest

or_none : {A : Type 0} (o : Option A) → option_or o None ≡ o
or_none None = refl
or_none (Some x) = refl

equal : (xs ys : List ℕ) → bytes_eq xs ys ≡ true → xs ≡ ys
equal xs ys = (bytes_eq-Decides xs ys).0

module _ (rule : ReadRule) (table column : List ℕ) where
  kept_answer : (a : Auth) → same_names rule table column ≡ true → rule.answer ≡ a → option_map_or (λ r. r.answer) (find (speaks_of table column) (kept_rule rule a)) Ok ≡ a
  kept_answer Ok so is = refl
  kept_answer Deny so is = rw so is
  kept_answer Ignore so is = rw so is

  kept_none : (a : Auth) → same_names rule table column ≡ false → find (speaks_of table column) (kept_rule rule a) ≡ None
  kept_none Ok other = refl
  kept_none Deny other = rw other refl
  kept_none Ignore other = rw other refl

  -- two columns of one rule have the same names
  of_one_rule : (r : ReadRule) → speaks_of table column r ≡ true → speaks_of rule.table rule.column r ≡ true → same_names rule table column ≡ true
  of_one_rule r p q =
      let a = and_true _ _ p in
      let b = and_true _ _ q in
      let t : folded table ≡ folded rule.table = equal _ _ a.0 ∙ sym (equal _ _ b.0) in
      let c : folded column ≡ folded rule.column = equal _ _ a.1 ∙ sym (equal _ _ b.1) in
      rw ((bytes_eq-Decides (folded table) (folded rule.table)).1 t, (bytes_eq-Decides (folded column) (folded rule.column)).1 c) refl

  other_rules : same_names rule table column ≡ false → (r : ReadRule) → speaks_of table column r ≡ true → not (speaks_of rule.table rule.column r) ≡ true
  other_rules other r p = by (speaks_of rule.table rule.column r) refl
    where
      by : (b : Bool) → speaks_of rule.table rule.column r ≡ b → not b ≡ true
      by true q = let both : true ≡ false = sym (of_one_rule r p q) ∙ other in absurd cc
      by false q = refl

  same_speaks : same_names rule table column ≡ true → (r : ReadRule) → speaks_of table column r ≡ speaks_of rule.table rule.column r
  same_speaks so r =
      let p = and_true _ _ so in
      ap (λ n. bytes_eq n r.table && bytes_eq (folded column) r.column) (equal _ _ p.0) ∙ ap (λ n. bytes_eq (folded rule.table) r.table && bytes_eq n r.column) (equal _ _ p.1)

  decides : (b : Bool) → same_names rule table column ≡ b → (rules : List ReadRule)
      → read_answer (with_read rule rules) table column ≡ (if b then rule.answer else read_answer rules table column)
  decides true so rules =
      ap (λ o. option_map_or (λ r. r.answer) o Ok)
      (find-append (speaks_of table column) (without rule.table rule.column rules) (kept_rule rule rule.answer)
      ∙ ap (λ o. option_or o (find (speaks_of table column) (kept_rule rule rule.answer))) (find_gone (speaks_of table column) (speaks_of rule.table rule.column) (same_speaks so) rules))
      ∙ kept_answer rule.answer so refl
  decides false other rules =
      ap (λ o. option_map_or (λ r. r.answer) o Ok)
      (find-append (speaks_of table column) (without rule.table rule.column rules) (kept_rule rule rule.answer)
      ∙ ap (option_or (find (speaks_of table column) (without rule.table rule.column rules))) (kept_none rule.answer other)
      ∙ or_none (find (speaks_of table column) (without rule.table rule.column rules))
      ∙ find-filter (speaks_of table column) (λ r. not (speaks_of rule.table rule.column r)) (other_rules other) rules)

pub later_rule_decides : LaterRuleDecides
later_rule_decides rule rules table column = decides rule table column (same_names rule table column) refl rules
