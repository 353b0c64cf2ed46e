-- Rows that an INSERT brings, judged by what is kept of their keys.
use Rattle.std.proofs.Common.{◌≡◌, ◌⊎◌, inl, inr, ℕ, Bool, true, false, ◌||◌, List, [], ◌∷◌, ◌++◌, Option, option_map, refl, sym, ap, subst, ◌∙◌}
use Rattle.std.specs.List.{list_any}
use Rattle.cr_value.specs.declared.value.Value.{Value}
use Rattle.cr_lattice.specs.declared.change.Change.{Change}
use Rattle.cr_lattice.specs.declared.table.Table.{Table}
use Rattle.cr_lattice.specs.declared.table.TableDef.{TableDef}
use Rattle.cr_lattice.specs.Profile.{has_key}
use Rattle.cr_lattice.specs.Rows.{rows}
use Rattle.cr_cells.specs.Tables.{IsStored, has_defaults, is_named}
use Rattle.cr_delta.specs.Delta.{passes_limit}
use Rattle.cr_delta.proofs.Among.{member_has}
use Rattle.cr_query.specs.Query.{Row}
use Rattle.cr_query.specs.Writes.{has_long_key, has_null, lacks_value}
use Rattle.cr_scalar.specs.Host.{Host as Means}
use Rattle.cr_term.specs.declared.query.Insert.{Insert}
use Rattle.cr_scalar.specs.declared.fault.EvalFault.{EvalFault}
use Rattle.cr_exec.proofs.Stages.{faults_on}
use Rattle.cr_exec.specs.Answers.{Faults, IsMeant}
use Rattle.cr_taken.specs.Taken.{AreKept, Replicates, replicated}
use Rattle.cr_taken.proofs.Members.{found_member}
use Rattle.cr_taken.proofs.Tables.{writable, kept_well_formed}
use Rattle.cr_touched.specs.Parts.{is_key_of, keys_of, part}
use Rattle.cr_touched.specs.Shown.{AreKeptOf}
use Rattle.cr_touched.specs.Inserts.{Verdict, verdict_with}
use Rattle.cr_touched.proofs.Inserts.{keys_pass, same_verdict}
use Rattle.cr_touched.proofs.Shown.{soundly_shown}
use Rattle.cr_world.specs.declared.refusal.Refusal.{Refusal}
use Rattle.cr_world.specs.declared.refusal.Refusal.TheVariants as refusal
use Rattle.cr_changed.specs.Changed.{AreMade, IsRefused, Leads, Stands, StandsAlone, insert_brings, insert_wants}

-- ---- rows behind rows

any_behind : (p : Row → Bool) (xs ys : List Row) → list_any p (xs ++ ys) ≡ (list_any p xs || list_any p ys)
any_behind p [] ys = refl
any_behind p (x ∷ xs) ys = ap (λ b. p x || b) (any_behind p xs ys) ∙ grouped (p x) (list_any p xs) (list_any p ys) where
  grouped : (a b c : Bool) → (a || (b || c)) ≡ ((a || b) || c)
  grouped true b c = refl
  grouped false b c = refl

or_true : (a : Bool) → (a || true) ≡ true
or_true true = refl
or_true false = refl

long_behind : (def : TableDef) (xs ys : List Row) → has_long_key def (xs ++ ys) ≡ (has_long_key def xs || has_long_key def ys)
unfolding has_long_key
long_behind def xs ys = any_behind _ xs ys

lacks_behind : (def : TableDef) (xs ys : List Row) → lacks_value def (xs ++ ys) ≡ (lacks_value def xs || lacks_value def ys)
unfolding lacks_value
lacks_behind def xs ys = any_behind (has_null def) xs ys

-- ---- what is said of rows by a verdict on them

abbrev MadeBy : Verdict → List Change → Type 0
MadeBy v changes = (v.long ≡ false) × (v.lacking ≡ false) × (v.twice ≡ false) × (passes_limit v.changes ≡ false) × (changes ≡ v.changes)

abbrev ToldBy : Verdict → Refusal → Type 0
ToldBy v r =
    ((v.long ≡ true) × (r ≡ refusal.TooBig))
    ⊎ (((v.long ≡ false) × (v.lacking ≡ true) × (r ≡ refusal.NotNull))
    ⊎ (((v.long ≡ false) × (v.lacking ≡ false) × (v.twice ≡ true) × (r ≡ refusal.PrimaryKey))
    ⊎ ((v.long ≡ false) × (v.lacking ≡ false) × (v.twice ≡ false) × (passes_limit v.changes ≡ true) × (r ≡ refusal.VersionLimit))))

-- ---- the rows that an INSERT wants

module _ (means : Means) (params : List Value) (i : Insert) (kept : List Change) where
  abbrev behind_shown : Option (List Row) → Option (List Row)
  behind_shown o = option_map (λ more. rows kept i.relation.definition ++ more) o

  -- where what it brings has a fault, what it wants has it
  pub faults_behind : (e : EvalFault) → Faults means params (insert_brings i) e → Faults means params (insert_wants kept i) e
  faults_behind e f = faults_on means params (insert_brings i) (insert_wants kept i) e (λ g none. ap behind_shown none) f

module _ (means : Means) (params : List Value) (i : Insert) (more : List Row) (both : IsMeant means params (insert_brings i) more) (kept : List Change) where
  wants : IsMeant means params (insert_wants kept i) (rows kept i.relation.definition ++ more)
  wants = record { under = λ g limit. ap (behind_shown means params i kept) (both.under g limit) }

  pub made_leads : (site : List ℕ) (changes : List Change) → AreMade i.relation.definition site kept (rows kept i.relation.definition ++ more) changes
      → Leads means params i.relation.definition site kept (insert_wants kept i) changes
  made_leads site changes m = record { rows = rows kept i.relation.definition ++ more; both = wants; short = m.short; whole = m.whole; once = m.once; within = m.within; are = m.are }

  pub told_refused : (site : List ℕ) (r : Refusal) → (r ≡ refusal.Memory) ⊎ Stands i.relation.definition site kept (rows kept i.relation.definition ++ more) r
      → IsRefused means params i.relation.definition site kept (insert_wants kept i) r
  told_refused site r (inl memory) = inl memory
  told_refused site r (inr stands) = inr (inr (rows kept i.relation.definition ++ more, wants, stands))

-- ---- where rows come to what is kept of a table

-- Tables and what is kept of them, as a sound store has them, or a transaction: so is what is kept of one of them.
module _ (tables : List Table) (kept : List Change) (def : TableDef) (are : AreKept tables kept) (there : Replicates tables def) where
  keyed : has_key def ≡ true
  keyed = (writable tables kept def are there).key

  defaults : has_defaults def ≡ true
  defaults = (member_has IsStored tables (replicated def) are.stored (found_member (is_named def.name) tables (replicated def) there)).defaults

  kept_of_it : AreKeptOf def kept
  kept_of_it = record { unbeaten = are.unbeaten; well_formed = kept_well_formed tables kept def are there }

  module _ (more : List Row) where
    -- what stands against the rows by themselves stands against them all
    pub alone_stands : (site : List ℕ) (r : Refusal) → StandsAlone def more r → Stands def site kept (rows kept def ++ more) r
    alone_stands site r (inl (long, told)) = inl (long_behind def (rows kept def) more ∙ ap (λ b. has_long_key def (rows kept def) || b) long ∙ or_true (has_long_key def (rows kept def)), told)
    alone_stands site r (inr (short, lacks, told)) =
        let shown = soundly_shown def keyed kept kept_of_it defaults in
        inr (inl (
          long_behind def (rows kept def) more ∙ ap (λ b. b || has_long_key def more) shown.short ∙ short,
          lacks_behind def (rows kept def) more ∙ ap (λ b. lacks_value def (rows kept def) || b) lacks ∙ or_true (lacks_value def (rows kept def)),
          told,
        ))

    -- what is read of the keys is their part of all
    module _ (some : List Change) (some_is : some ≡ part def.name (is_key_of (keys_of def more)) kept) where
      verdicts : (site : List ℕ) → verdict_with def site more some ≡ verdict_with def site more kept
      verdicts site =
          ap (verdict_with def site more) some_is
          ∙ sym (same_verdict def keyed defaults kept kept_of_it more (is_key_of (keys_of def more)) (keys_pass def more) site)

      pub made_over : (site : List ℕ) (changes : List Change) → AreMade def site some (rows some def ++ more) changes → AreMade def site kept (rows kept def ++ more) changes
      made_over site changes m =
          let v : MadeBy (verdict_with def site more kept) changes = subst (λ (v : Verdict). MadeBy v changes) (verdicts site) (m.short, m.whole, m.once, m.within, m.are) in
          record { short = v.0; whole = v.1; once = v.2; within = v.3; are = v.4 }

      pub told_over : (site : List ℕ) (r : Refusal) → (r ≡ refusal.Memory) ⊎ Stands def site some (rows some def ++ more) r → (r ≡ refusal.Memory) ⊎ Stands def site kept (rows kept def ++ more) r
      told_over site r (inl memory) = inl memory
      told_over site r (inr stands) = inr (subst (λ (v : Verdict). ToldBy v r) (verdicts site) stands)
