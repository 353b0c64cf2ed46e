-- Takings are joins, and what is refused changes nothing.
use Rattle.std.proofs.Common.{◌≡◌, ℕ, Bool, true, false, List, ◌++◌, Option, Some, None, refl, sym, ap, ◌∙◌, cond}
use Rattle.cr_lattice.specs.declared.change.Change.{Change}
use Rattle.cr_lattice.specs.Keep.{join}
use Rattle.cr_lattice.proofs.KeepLaws.{join_assoc, join_keeps_second}
use Rattle.cr_cells.specs.Holding.{Holding, kept_of, IsSound}
use Rattle.cr_cells.specs.Marks.{Mark}
use Rattle.cr_cells.specs.Commit.{committed}
use Rattle.cr_cells.proofs.LawLemmas.{kept-committed}
use Rattle.cr_world.specs.declared.command.Command.TheVariants.{Open, Use, Define, Take, Rows, Changes, Pull, PullSince, Policy, Sql}
use Rattle.cr_world.specs.declared.command.Declaration.TheVariants.{Real, Table as Declared}
use Rattle.cr_world.specs.Language.{Language, IsLanguage}
use Rattle.cr_world.specs.State.{State, now, with_pending, catalog, tables_named}
use Rattle.cr_world.specs.Statement.{adding, ended, is_memory, ends}
use Rattle.cr_world.specs.World.{Closures}
use Rattle.cr_world.specs.Headline.{TakingsAreJoins, RefusedChangesNothing, RefusedCommandChangesNothing, Blind}
use Rattle.cr_query.proofs.QueryLaws.{answer_same}
use Rattle.cr_query.proofs.HiddenColumns.{seen_alike}
use Rattle.cr_query.specs.Queries.{Query}
use Rattle.cr_meaning.specs.Meaning.{strict}
use Rattle.cr_world.proofs.Alike.{say_the_same}

taken : (h : Holding) (more : List Change) (mark : Option Mark) → IsSound h → kept_of (committed h more mark) ≡ join (kept_of h) more
taken h more mark sound = kept-committed h more mark sound.kept

-- with an open transaction, and without
with_more : (st : State) (o : Option (List Change)) (more : List Change) → IsSound st.holding → st.pending ≡ o → now (adding more st) ≡ join (now st) more
unfolding now
with_more st None more sound e =
    ap (λ (o : Option (List Change)). now (elim o as (λ _. State) [ None ↦ record st { holding = committed st.holding more None } | Some p ↦ record st { pending = Some (p ++ more) } ])) e
    ∙ ap (with_pending (kept_of (committed st.holding more None))) e
    ∙ taken st.holding more None sound
    ∙ ap (λ (o : Option (List Change)). join (with_pending (kept_of st.holding) o) more) (sym e)
with_more st (Some p) more sound e =
    ap (λ (o : Option (List Change)). now (elim o as (λ _. State) [ None ↦ record st { holding = committed st.holding more None } | Some p ↦ record st { pending = Some (p ++ more) } ])) e
    ∙ sym (join_split (kept_of st.holding) p more)
    ∙ ap (λ (o : Option (List Change)). join (with_pending (kept_of st.holding) o) more) (sym e) where
      join_split : (a b c : List Change) → join (join a b) c ≡ join a (b ++ c)
      join_split a b c = join_assoc a b c ∙ join_keeps_second a (b ++ c)

pub joins : {S E : Type 0} (l : Language S E) (k : Closures) → TakingsAreJoins l k
joins l k st more mark sound = (taken st.holding more mark sound, with_more st st.pending more sound refl)

left_holding : (open_ out : Bool) (st : State) → (cond open_ st (cond out (ended st) st)).holding ≡ st.holding
left_holding true out st = refl
left_holding false true st = refl
left_holding false false st = refl

left_same : (open_ out : Bool) (st : State) → out ≡ false → cond open_ st (cond out (ended st) st) ≡ st
left_same true out st e = refl
left_same false out st e = ap (λ (b : Bool). cond b (ended st) st) e

left_open : (open_ out : Bool) (st : State) → open_ ≡ true → cond open_ st (cond out (ended st) st) ≡ st
left_open open_ out st e = ap (λ (b : Bool). cond b st (cond out (ended st) st)) e

left_ended : (open_ out : Bool) (st : State) → open_ ≡ false → out ≡ true → cond open_ st (cond out (ended st) st) ≡ ended st
left_ended open_ out st e f = (λ i. cond (e i) st (cond (f i) (ended st) st))

pub refused : {S E : Type 0} (l : Language S E) (k : Closures) → RefusedChangesNothing l k
refused l k host st params s r = (
  left_holding (is_memory r) (ends l host st params s) st,
  left_same (is_memory r) (ends l host st params s) st,
  left_open (is_memory r) (ends l host st params s) st,
  left_ended (is_memory r) (ends l host st params s) st,
)

pub refused_command : {S E : Type 0} (l : Language S E) (k : Closures) → RefusedCommandChangesNothing l k
refused_command l k w (Open name site) r = refl
refused_command l k w (Use name) r = refl
refused_command l k w (Define Real) r = refl
refused_command l k w (Define (Declared def)) r = refl
refused_command l k w (Take row) r = refl
refused_command l k w (Rows name) r = refl
refused_command l k w (Changes n) r = refl
refused_command l k w (Pull name) r = refl
refused_command l k w (PullSince name) r = refl
refused_command l k w (Policy rule) r = refl
refused_command l k w (Sql text) r = refl

pub blind : {S E : Type 0} (l : Language S E) (k : Closures) → IsLanguage l → Blind l k
blind {S} {E} l k law host st new params s r t ms ns sel free definitions hidden a b =
    say_the_same l law host params s st new sel free
    (law.local s (catalog st) (catalog new) host.ask sel free definitions)
    (λ (names : List (List ℕ)) (q : Query E) e most.
    let h = hidden names q e in
    sym (law.unseen most q params (tables_named st names) h.1.2)
    ∙ answer_same (l.regarded (strict most) params) (law.lawful most params) q _ _ (seen_alike (l.standing q) h.0 _ _ h.1.0 h.1.1)
    ∙ law.unseen most q params (tables_named new names) h.1.3)
    r t ms ns a b
