-- The fault that is told of a statement is one that an expression of it has.
use Rattle.std.proofs.Common.{◌≡◌, inr, ℕ, Bool, true, false, cond, List, Some, None, refl, ap, subst}
use Rattle.std.specs.Str.{bytes_eq}
use Rattle.std.proofs.lemmas.Slice.Eq.{bytes_eq-Decides}
use Rattle.cr_value.specs.declared.value.Value.{Value}
use Rattle.cr_value.specs.declared.value.Value.TheVariants.{Null}
use Rattle.cr_tree.specs.declared.statement.Statement.{Statement}
use Rattle.cr_scalar.specs.declared.fault.EvalFault.{EvalFault}
use Rattle.cr_scalar.specs.declared.fault.EvalFault.TheVariants as fault
use Rattle.cr_scalar.specs.Meaning.{byte_limit}
use Rattle.cr_scalar.specs.Host.{Host as Functions}
use Rattle.cr_query.proofs.Lacking.{answer_lacks, rows_lack, insert_lacks, update_lacks, delete_lacks}
use Rattle.cr_query.proofs.Having.{query_has, insert_has, update_has, delete_has}
use Rattle.cr_meaning.specs.View.{Ordered}
use Rattle.cr_meaning.specs.Meaning.{Counts, regarded, strict}
use Rattle.cr_meaning.specs.Faults.{alone}
use Rattle.cr_meaning.proofs.Faulting.{m, on_row, over, true_on_row, true_over}
use Rattle.cr_world.specs.declared.refusal.Refusal.{Refusal}
use Rattle.cr_world.specs.declared.refusal.Refusal.TheVariants as refusal
use Rattle.cr_world.specs.declared.refusal.EvalFault.TheVariants as eval
use Rattle.cr_world.specs.Resolved.{Target, Resolved, Select, Mark, Insert, Update, Delete, Create, Alter, Begin, Commit, Rollback}
use Rattle.cr_world.specs.Resolved as target
use Rattle.cr_world.specs.State.{State, columns_of, rows_named, tables_named}
use Rattle.cr_world.specs.Statement.{Host, IsFoundOf, allowed_of, evaluated, touches}
use Rattle.cr_language.specs.Sql.{Engine, sql}
use Rattle.cr_language.specs.Faults.{told, HasFault, ToldFaultsAreHad}

module _ (functions : Functions) (params : List Value) (f : EvalFault) (st : State) where
  -- what evaluates to nothing where the fault alone counts
  has_it : (y : Resolved Ordered) → evaluated (m functions params f) st y ≡ None → HasFault functions params f st y
  has_it (Select names q) e =
      query_has (m functions params f) _ _ _ _ _ _ _ _ (on_row functions params f) (over functions params f) (true_on_row functions params f) (true_over functions params f) q (tables_named st names)
      (answer_lacks (m functions params f) q (tables_named st names) e)
  has_it (Insert (target.Table def) w) e =
      insert_has (m functions params f) _ _ _ _ _ _ _ _ (on_row functions params f) (over functions params f) (true_on_row functions params f) (true_over functions params f) w
      (insert_lacks (m functions params f) def.columns w (rows_named st def.name) e)
  has_it (Insert target.Changes w) e =
      insert_has (m functions params f) _ _ _ _ _ _ _ _ (on_row functions params f) (over functions params f) (true_on_row functions params f) (true_over functions params f) w
      (rows_lack (m functions params f) (columns_of target.Changes) w e)
  has_it (Insert (target.Module name columns) w) e =
      insert_has (m functions params f) _ _ _ _ _ _ _ _ (on_row functions params f) (over functions params f) (true_on_row functions params f) (true_over functions params f) w
      (rows_lack (m functions params f) (columns_of (target.Module name columns)) w e)
  has_it (Update (target.Table def) w) e =
      update_has (m functions params f) _ _ _ _ _ _ _ _ (on_row functions params f) (over functions params f) (true_on_row functions params f) (true_over functions params f) w (rows_named st def.name)
      (update_lacks (m functions params f) def.columns w (rows_named st def.name) e)
  has_it (Update target.Changes w) e = absurd (let z : ⊥ = cc in z)
  has_it (Update (target.Module name columns) w) e = absurd (let z : ⊥ = cc in z)
  has_it (Delete (target.Table def) w) e =
      delete_has (m functions params f) _ _ _ _ _ _ _ _ (on_row functions params f) (over functions params f) (true_on_row functions params f) (true_over functions params f) w (rows_named st def.name)
      (delete_lacks (m functions params f) w (rows_named st def.name) e)
  has_it (Delete target.Changes w) e = absurd (let z : ⊥ = cc in z)
  has_it (Delete (target.Module name columns) w) e = absurd (let z : ⊥ = cc in z)
  has_it (Mark t ignored) e = absurd (let z : ⊥ = cc in z)
  has_it (Create def there) e = absurd (let z : ⊥ = cc in z)
  has_it (Alter t col) e = absurd (let z : ⊥ = cc in z)
  has_it Begin e = absurd (let z : ⊥ = cc in z)
  has_it Commit e = absurd (let z : ⊥ = cc in z)
  has_it Rollback e = absurd (let z : ⊥ = cc in z)

-- what a host's function said counts where it counts alone
said_alone : (text : List ℕ) → Counts (alone (fault.Host text)) (fault.Host text)
said_alone text = (inr refl, (ap (λ (b : Bool). cond b None (Some Null)) same, ap (λ (b : Bool). cond b None (Some false)) same)) where
  same : bytes_eq text text ≡ true
  same = (bytes_eq-Decides text text).1 refl

module _ (e : Engine) (host : Host) (st : State) (params : List Value) (x : Statement) where
  abbrev Found : Refusal → Type 0
  Found r = IsFoundOf (sql e) host st params x r

  by_fault : (f : EvalFault) (r : Refusal) (y : Resolved Ordered) → told f ≡ Some r → Found r → allowed_of (sql e) host st params x ≡ Some y → touches st.modules y ≡ false
      → evaluated (regarded (strict byte_limit) e.host params) st y ≡ None → evaluated (regarded (alone f) e.host params) st y ≡ None
  by_fault fault.Overflow r y is found allowed untouched none =
      subst Found (let z : r ≡ refusal.Eval eval.Overflow = cc in z) found y allowed untouched none (alone fault.Overflow) (inr refl, (refl, refl))
  by_fault fault.NotANumber r y is found allowed untouched none =
      subst Found (let z : r ≡ refusal.Eval eval.NotANumber = cc in z) found y allowed untouched none (alone fault.NotANumber) (inr refl, (refl, refl))
  by_fault fault.NotUtf8 r y is found allowed untouched none =
      subst Found (let z : r ≡ refusal.Eval eval.NotUtf8 = cc in z) found y allowed untouched none (alone fault.NotUtf8) (inr refl, (refl, refl))
  by_fault (fault.Host text) r y is found allowed untouched none =
      subst Found (let z : r ≡ refusal.Eval (eval.Host text) = cc in z) found y allowed untouched none (alone (fault.Host text)) (said_alone text)
  by_fault fault.TooBig r y is found allowed untouched none =
      subst Found (let z : r ≡ refusal.TooBig = cc in z) found y allowed untouched none (alone fault.TooBig) (refl, (refl, refl))
  by_fault fault.Memory r y is found allowed untouched none = absurd (let z : ⊥ = cc in z)

pub told_faults : (e : Engine) → ToldFaultsAreHad e
told_faults e host st params x f r ms y is answers allowed untouched none =
    has_it e.host params f st y (by_fault e host st params x f r y is answers.1.1 allowed untouched none)
