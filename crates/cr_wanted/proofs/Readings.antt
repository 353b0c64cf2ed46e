-- Rows of a source that are read one after another, of which a list of their own is made.
use Rattle.std.proofs.Common.{◌≡◌, ◌∙◌, true, List, [], Option, Result, Ok, Err, sym, subst}
use Rattle.cr_value.specs.declared.value.Value.{Value}
use Rattle.cr_scalar.specs.Host.{Host}
use Rattle.cr_bags.specs.Bags.{gather}
use Rattle.cr_query.specs.Query.{Row, Meaning}
use Rattle.cr_meaning.specs.View.{Ordered}
use Rattle.cr_meaning.specs.Meaning.{Regard, regarded}
use Rattle.cr_module.specs.Lawful.{is_at_end}
use Rattle.cr_exec.specs.Answers.{Stage, IsMeant, behind}
use Rattle.cr_exec.specs.Streamed.{Selects}
use Rattle.cr_exec.specs.declared.streamed.SourceFault.{SourceFault}
use Rattle.cr_exec.specs.declared.streamed.SourceFault.TheVariants.{Eval, Store}
use Rattle.cr_exec.proofs.Loops.{behind_nil}
use Rattle.cr_exec.proofs.Stages.{Gives, meant_on, faults_on}
use Rattle.cr_exec.proofs.Streams.{read_starts, read_ends}

module _ (host : Host) (params : List Value) where
  -- what is read is the same by another name
  pub selects_on : {X Y : Type 0} (f g : Stage Y) (view : X → Y)
      → ((regard : Regard) → f (regarded regard host params) ≡ g (regarded regard host params))
      → (r : Result X SourceFault) → Selects host params r view f → Selects host params r view g
  selects_on f g view k (Ok x) h = meant_on host params f g (view x) (view x) (λ regard e. sym (k regard) ∙ e) h
  selects_on f g view k (Err (Eval e)) h = faults_on host params f g e (λ regard n. sym (k regard) ∙ n) h
  selects_on f g view k (Err Store) h = tt

  module _ {Y : Type 0} (f : Meaning Ordered → Row → Option (List Y)) (all : Stage (List Y)) (left : List Row) (out : List Y) where
    abbrev pub left_behind : Stage (List Y)
    left_behind m = behind out (gather (f m) left)

    abbrev pub whole : Stage (List Y)
    whole m = behind [] (all m)

    -- before the first row nothing is made
    pub list_starts : (rows : List Row) → out ≡ [] → left ≡ rows → ((m : Meaning Ordered) → gather (f m) rows ≡ all m)
        → Gives host params left_behind whole
    list_starts rows none is k =
        subst (λ (ys : List Y). Gives host params (λ m. behind ys (gather (f m) left)) whole) (sym none)
        (read_starts host params f all [] left rows is k)

    -- behind the last all is made
    pub list_ends : is_at_end left ≡ true → Gives host params left_behind whole → IsMeant host params all out
    list_ends none g =
        meant_on host params whole all out out (λ regard k. sym (behind_nil (all (regarded regard host params))) ∙ k)
        (read_ends host params f all [] left out none g)
