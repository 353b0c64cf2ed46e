-- Lists of aggregates, one more at a time.
use Rattle.std.proofs.Common.{◌≡◌, ◌∙◌, List, [], ◌∷◌, ◌++◌, ap, map, refl, subst}
use Rattle.std.specs.List.{AllByRecursion, AllZip}
use Rattle.cr_value.specs.declared.value.Value.{Value}
use Rattle.cr_query.specs.Query.{Row}
use Rattle.cr_scalar.specs.Host.{Host as Means}
use Rattle.cr_tally.specs.declared.show.Call.{Call}
use Rattle.cr_tally.specs.declared.tally.Tally.{Tally}
use Rattle.cr_tally.specs.Tallies.{Step, TellAll}
use Rattle.cr_tally.specs.Queries.{TellsFrom}

pub zips-append : {A B : Type 0} (R : A → B → Type 0) (xs us : List A) (ys vs : List B) → AllZip R xs ys → AllZip R us vs → AllZip R (xs ++ us) (ys ++ vs)
zips-append R [] us [] vs all more = more
zips-append R [] us (y ∷ ys) vs all more = absurd all
zips-append R (x ∷ xs) us [] vs all more = absurd all
zips-append R (x ∷ xs) us (y ∷ ys) vs all more = (all.0, zips-append R xs us ys vs all.1 more)

pub zip-append : {A B : Type 0} (R : A → B → Type 0) (xs : List A) (ys : List B) (x : A) (y : B) → AllZip R xs ys → R x y → AllZip R (xs ++ x ∷ []) (ys ++ y ∷ [])
zip-append R xs ys x y all one = zips-append R xs (x ∷ []) ys (y ∷ []) all (one, tt)

pub all-append : {A : Type 0} (P : A → Type 0) (xs ys : List A) → AllByRecursion P xs → AllByRecursion P ys → AllByRecursion P (xs ++ ys)
all-append P [] ys all more = more
all-append P (x ∷ xs) ys all more = (all.0, all-append P xs ys all.1 more)

-- each steps on
pub steps_on : (means : Means) (params : List Value) (more rows : List Row) (ts us : List Tally) → AllZip (Step means params more) ts us → TellAll means params rows ts → TellAll means params (rows ++ more) us
steps_on means params more rows [] [] steps tell = tt
steps_on means params more rows [] (u ∷ us) steps tell = absurd steps
steps_on means params more rows (t ∷ ts) [] steps tell = absurd steps
steps_on means params more rows (t ∷ ts) (u ∷ us) steps tell = (steps.0.tells rows tell.0, steps_on means params more rows ts us steps.1 tell.1)

same_calls : (means : Means) (params : List Value) (more : List Row) (ts us : List Tally) → AllZip (Step means params more) ts us → map (λ u. u.call) us ≡ map (λ t. t.call) ts
same_calls means params more [] [] steps = refl
same_calls means params more [] (u ∷ us) steps = absurd steps
same_calls means params more (t ∷ ts) [] steps = absurd steps
same_calls means params more (t ∷ ts) (u ∷ us) steps = ap (λ (c : Call). c ∷ map (λ u. u.call) us) steps.0.same ∙ ap (λ (cs : List Call). t.call ∷ cs) (same_calls means params more ts us steps.1)

pub told_on : (means : Means) (params : List Value) (first ts us : List Tally) (rows more page : List Row) → page ≡ more → TellsFrom means params first rows ts → AllZip (Step means params page) ts us
    → TellsFrom means params first (rows ++ more) us
told_on means params first ts us rows more page same tells steps = record {
  same = same_calls means params page ts us steps ∙ tells.same;
  tells = λ begin. steps_on means params more rows ts us (subst (λ (rs : List Row). AllZip (Step means params rs) ts us) same steps) (tells.tells begin);
}
