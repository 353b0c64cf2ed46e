-- What an aggregate told of the rows of a group is its value over the group.
use Rattle.std.proofs.Common.{◌≡◌, inl, inr, ◌∙◌, ℕ, true, false, not, List, [], ◌∷◌, ◌++◌, length, map, Option, Ok, Err, Result, refl, sym, ap}
use Rattle.std.specs.Prelude.{IfOk, nat_le}
use Rattle.std.proofs.Math.Dec.{leb-suc-zero}
use Rattle.std.specs.Option.{ForSome}
use Rattle.std.specs.declared.alloc.AllocError.{AllocError}
use Rattle.std.specs.List.{AllByRecursion, AllZip}
use Rattle.cr_value.specs.declared.value.Value.{Value}
use Rattle.cr_term.specs.Parts.{columns}
use Rattle.cr_term.specs.declared.expr.Column.{Column}
use Rattle.cr_term.specs.declared.expr.Expr.{Expr}
use Rattle.cr_term.specs.declared.expr.Expr as e
use Rattle.cr_term.specs.declared.operator.Aggregate.{Aggregate}
use Rattle.cr_term.specs.declared.operator.Aggregate.TheVariants.{CountAll, Count, Max, Min, Sum, Host}
use Rattle.cr_scalar.specs.Host.{Host as Means}
use Rattle.cr_scalar.specs.Compare.{Orders}
use Rattle.cr_scalar.specs.Meaning.{Meant, Outcome, and_then, bounded, byte_limit}
use Rattle.cr_scalar.specs.Functions.{all_of}
use Rattle.cr_scalar.specs.Aggregates.{aggregate_of}
use Rattle.cr_expr.specs.Laws.{AgreeOn}
use Rattle.cr_expr.specs.Setting.{Setting, over}
use Rattle.cr_expr.specs.Eval.{each, eval_of, meaning}
use Rattle.cr_expr.proofs.LimitLaw.{limit_law}
use Rattle.cr_expr.proofs.Nodes.{aggregate_node, one_node}
use Rattle.cr_expr.proofs.ReadsLaw.{reads_law}
use Rattle.cr_query.specs.Query.{Row}
use Rattle.cr_meaning.specs.Meaning.{IsLimit, at_group, at_row}
use Rattle.cr_tally.specs.declared.tally.Tally.{Tally}
use Rattle.cr_tally.specs.Tallies.{AreArguments, IsAlone, Worth, is_built_in}

small_for : (most : Option ℕ) → IsLimit most → (v : Value) → bounded byte_limit v ≡ Ok v → bounded most v ≡ Ok v
small_for most (inl none) v small = ap (λ (m : Option ℕ). bounded m v) none
small_for most (inr is) v small = ap (λ (m : Option ℕ). bounded m v) is ∙ small

-- ---- arguments

pub none_there : (ks : List Aggregate) → not (not (nat_le (length (ks ++ [])) 0)) ≡ true → ks ≡ []
none_there [] is = refl
none_there (k ∷ ks) is = let so : false ≡ true = ap (λ b. not (not b)) (sym (leb-suc-zero (length (ks ++ [])))) ∙ is in absurd cc

one_more : (o : Outcome (List Value)) (os : Outcome (List (List Value))) (r : List Value) (rs : List (List Value)) → o ≡ Ok r → os ≡ Ok rs → and_then o (λ v. and_then os (λ vs. Ok (v ∷ vs))) ≡ Ok (r ∷ rs)
one_more o os r rs first later = ap (λ (p : Outcome (List Value)). and_then p (λ v. and_then os (λ vs. Ok (v ∷ vs)))) first ∙ ap (λ (ps : Outcome (List (List Value))). and_then ps (λ vs. Ok (r ∷ vs))) later

rows_read : (means : Means) (params : List Value) (args : List Expr) (most : Option ℕ) (members : List Row) → IsLimit most → (rows : List Row) (given : List (List Value)) → AllZip (AreArguments means params args) rows given
    → all_of (map (λ row. all_of (each (map meaning args) (over (at_group most means params (record { shown = []; members = members })) row))) rows) ≡ Ok given
rows_read means params args most members limit [] [] all = refl
rows_read means params args most members limit [] (vs ∷ given) all = absurd all
rows_read means params args most members limit (row ∷ rows) [] all = absurd all
rows_read means params args most members limit (row ∷ rows) (vs ∷ given) all = one_more _ _ vs given (all.0 most members limit) (rows_read means params args most members limit rows given all.1)

-- a value in one setting is that in another
abbrev Keeps : Setting → Setting → Expr → Type 0
Keeps a b x = (v : Value) → eval_of a x ≡ Ok v → eval_of b x ≡ Ok v

all_kept : (a b : Setting) (es : List Expr) → AllByRecursion (Keeps a b) es → (vs : List Value) → all_of (each (map meaning es) a) ≡ Ok vs → all_of (each (map meaning es) b) ≡ Ok vs
all_kept a b [] keeps vs is = is
all_kept a b (x ∷ xs) keeps vs is = by_parts (all_kept a b xs keeps.1) (eval_of a x) (all_of (each (map meaning xs) a)) refl refl is where
  by_parts : ((ws : List Value) → all_of (each (map meaning xs) a) ≡ Ok ws → all_of (each (map meaning xs) b) ≡ Ok ws) → (o : Meant) (os : Outcome (List Value)) → eval_of a x ≡ o → all_of (each (map meaning xs) a) ≡ os → and_then o (λ w. and_then os (λ ws. Ok (w ∷ ws))) ≡ Ok vs
      → and_then (eval_of b x) (λ w. and_then (all_of (each (map meaning xs) b)) (λ ws. Ok (w ∷ ws))) ≡ Ok vs
  by_parts later (Err f) os e es so = absurd cc
  by_parts later (Ok w) (Err f) e es so = absurd cc
  by_parts later (Ok w) (Ok ws) e es so =
      ap (λ (m : Meant). and_then m (λ u. and_then (all_of (each (map meaning xs) b)) (λ us. Ok (u ∷ us)))) (keeps.0 w e)
      ∙ ap (λ (ms : Outcome (List Value)). and_then ms (λ us. Ok (w ∷ us))) (later ws es)
      ∙ so

-- the values of expressions over a row alone, under the limit, are those over it in any group
module _ (means : Means) (params : List Value) (row : Row) (most : Option ℕ) (members : List Row) (limit : IsLimit most) where
  abbrev alone : Setting
  alone = at_row byte_limit means params row

  abbrev there : Setting
  there = over (at_group most means params (record { shown = []; members = members })) row

  agree : (cs : List Column) (r : Row) → AgreeOn cs r r
  agree [] r = tt
  agree (c ∷ cs) r = (refl, agree cs r)

  one_there : (x : Expr) → IsAlone x → (v : Value) → eval_of alone x ≡ Ok v → eval_of there x ≡ Ok v
  one_there x none v is =
      sym (reads_law x (over (at_group most means params (record { shown = []; members = [] })) row) there (record { most = refl; params = refl; shown = refl; host = refl; row = agree (columns x) row; group = inl none }))
      ∙ under most limit
    where
      under : (n : Option ℕ) → IsLimit n → eval_of (over (at_group n means params (record { shown = []; members = [] })) row) x ≡ Ok v
      under n (inl endless) = ap (λ (m : Option ℕ). eval_of (at_row m means params row) x) endless ∙ limit_law x alone (λ big. absurd cc) ∙ is
      under n (inr at) = ap (λ (m : Option ℕ). eval_of (at_row m means params row) x) at ∙ is

  pub all_there : (args : List Expr) → AllByRecursion IsAlone args → (vs : List Value) → all_of (each (map meaning args) alone) ≡ Ok vs → all_of (each (map meaning args) there) ≡ Ok vs
  all_there args none = all_kept alone there args (kept args none) where
    kept : (es : List Expr) → AllByRecursion IsAlone es → AllByRecursion (Keeps alone there) es
    kept [] all = tt
    kept (x ∷ xs) all = (one_there x all.0, kept xs all.1)

pub arguments_then : (means : Means) (params : List Value) (row : Row) (args : List Expr) (result : Result (Option (List Value)) AllocError)
    → IfOk result (λ o. ForSome o (λ vs. all_of (each (map meaning args) (at_row byte_limit means params row)) ≡ Ok vs))
    → IfOk result (λ o. ForSome o (λ given. AllByRecursion IsAlone args → AreArguments means params args row given))
arguments_then means params row args (Ok o) told = λ vs is alone most members limit. all_there means params row most members limit args alone vs (told vs is)
arguments_then means params row args (Err x) told = tt

-- ---- the value

-- an aggregate that SQLite has asks no host
own_alone : (order : Orders) (f g : List ℕ → List (List Value) → Result Value (List ℕ)) (kind : Aggregate) (rows : List (List Value)) → is_built_in kind ≡ true
    → aggregate_of order f kind rows ≡ aggregate_of order g kind rows
own_alone order f g CountAll rows own = refl
own_alone order f g Count rows own = refl
own_alone order f g (Max name) rows own = refl
own_alone order f g (Min name) rows own = refl
own_alone order f g Sum rows own = refl
own_alone order f g (Host name) rows own = absurd cc

pub worth : (t : Tally) (v : Value) → bounded byte_limit t.value ≡ Ok t.value → v ≡ t.value → Worth t v
worth t v small is means params rows tells most limit =
    let s : Setting = at_group most means params (record { shown = []; members = rows }) in
    let kind = t.call.kind.now in
    let args = t.call.args.now in
    let by_name = λ (name : List ℕ). means.aggregate name (length (map meaning args)) in
    one_node s (e.Aggregate kind args)
    ∙ ap (λ (m : Meant). and_then m (bounded most))
    (aggregate_node s kind args
    ∙ ap (λ (o : Outcome (List (List Value))). and_then o (aggregate_of means.order by_name kind)) (rows_read means params args most rows limit rows tells.given tells.arguments)
    ∙ own_alone means.order by_name (λ name. means.aggregate name 1) kind tells.given tells.built_in
    ∙ tells.value)
    ∙ small_for most limit t.value small
    ∙ ap (λ (w : Value). Ok w) (sym is)
