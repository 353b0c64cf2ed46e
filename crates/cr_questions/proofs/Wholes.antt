-- What is done with a query's expressions, one kind after another.
use Rattle.std.proofs.Common.{◌≡◌, ◌∙◌, List, [], ◌∷◌, ◌++◌, map, refl, ap, sym}
use Rattle.std.specs.Option.{option_to_list}
use Rattle.std.specs.List.{flat_map}
use Rattle.std.proofs.lemmas.List.Concat.{flat_map-append}
use Rattle.std.proofs.lemmas.List.Folds.{flat_map-map}
use Rattle.cr_term.specs.declared.expr.Expr.{Expr}
use Rattle.cr_term.specs.declared.query.Query.{Query}
use Rattle.cr_questions.specs.Questions.{exprs_of}

flat_of_flat : {X Y B : Type 0} (f : Y → List B) (g : X → List Y) (xs : List X) → flat_map f (flat_map g xs) ≡ flat_map (λ x. flat_map f (g x)) xs
flat_of_flat f g [] = refl
flat_of_flat f g (x ∷ xs) = flat_map-append f (g x) (flat_map g xs) ∙ ap (λ ys. flat_map f (g x) ++ ys) (flat_of_flat f g xs)

module _ {B S : Type 0} (act : S → List B → S) (more : (s : S) (xs ys : List B) → act (act s xs) ys ≡ act s (xs ++ ys)) (f : Expr → List B) where
  one : (es more_es : List Expr) (r s t : S) (ys : List B) → s ≡ act r (flat_map f es) → t ≡ act s ys → ys ≡ flat_map f more_es → t ≡ act r (flat_map f (es ++ more_es))
  one es more_es r s t ys h k is = k ∙ ap (λ o. act o ys) h ∙ more r (flat_map f es) ys ∙ ap (act r) (ap (λ zs. flat_map f es ++ zs) is ∙ sym (flat_map-append f es more_es))

  pub query_acts : (q : Query) (r s1 s2 s3 s4 s5 s6 : S)
      → s1 ≡ act r (flat_map (λ c. f c.expr) q.results) → s2 ≡ act s1 (flat_map (λ j. flat_map f j.on) q.joined) → s3 ≡ act s2 (flat_map f q.filter)
      → s4 ≡ act s3 (flat_map (λ t. f t.expr) q.groups) → s5 ≡ act s4 (flat_map f (option_to_list q.having)) → s6 ≡ act s5 (flat_map (λ t. f t.expr) q.order)
      → s6 ≡ act r (flat_map f (exprs_of q))
  query_acts q r s1 s2 s3 s4 s5 s6 h1 h2 h3 h4 h5 h6 =
      let a = map (λ c. c.expr) q.results in
      let b = flat_map (λ j. j.on) q.joined in
      let d = map (λ t. t.expr) q.groups in
      let k = map (λ t. t.expr) q.order in
      one (a ++ b ++ q.filter ++ d ++ option_to_list q.having) k r s5 s6 (flat_map (λ t. f t.expr) q.order)
      (one (a ++ b ++ q.filter ++ d) (option_to_list q.having) r s4 s5 (flat_map f (option_to_list q.having))
      (one (a ++ b ++ q.filter) d r s3 s4 (flat_map (λ t. f t.expr) q.groups)
      (one (a ++ b) q.filter r s2 s3 (flat_map f q.filter)
      (one a b r s1 s2 (flat_map (λ j. flat_map f j.on) q.joined)
      (h1 ∙ ap (act r) (sym (flat_map-map f (λ c. c.expr) q.results))) h2 (sym (flat_of_flat f (λ j. j.on) q.joined)))
      h3 refl) h4 (sym (flat_map-map f (λ t. t.expr) q.groups))) h5 refl) h6 (sym (flat_map-map f (λ t. t.expr) q.order))
