-- What two replicas that held the same show of a table.
use Rattle.std.proofs.Common.{◌≡◌, inl, inr, Bool, true, false, ℕ, List, [], Option, Some, None, refl, sym, ap, ◌∙◌, find}
use Rattle.std.specs.Prelude.{if◌then◌else◌}
use Rattle.cr_lattice.specs.declared.change.Change.{Change}
use Rattle.cr_lattice.specs.declared.table.Table.{Table}
use Rattle.cr_lattice.specs.Keep.{SameMembers}
use Rattle.cr_lattice.specs.Rows.{rows}
use Rattle.cr_lattice.proofs.KeepLaws.{keep_members}
use Rattle.cr_cells.specs.Holding.{Holding, kept_of}
use Rattle.cr_cells.specs.Tables.{is_named}
use Rattle.cr_replica.specs.Showing.{shown_of, in_order}
use Rattle.cr_world.specs.declared.command.Command.TheVariants.{Rows}
use Rattle.cr_world.specs.declared.command.FleetReply.{FleetReply}
use Rattle.cr_world.specs.declared.command.FleetReply.TheVariants.{Script, Rows as Shown, Changes as Told, Done, Refused}
use Rattle.cr_world.specs.declared.refusal.Refusal.{Refusal}
use Rattle.cr_world.specs.declared.refusal.Refusal.TheVariants.{NoSuchTable}
use Rattle.cr_world.specs.Refusals.{is_want}
use Rattle.cr_world.specs.Causes.{IsWant}
use Rattle.cr_world.specs.Language.{Language}
use Rattle.cr_world.specs.World.{World, Member, Keeps, AllKeep, Closures, used, item_at}
use Rattle.cr_world.specs.Answers.{Answers, OfUsed, ShowsRows, tells_want}
use Rattle.cr_world.specs.Headline.{table_in, HeldTheSame, ShowTheSame}
use Rattle.cr_world.proofs.Alike.{at_place}

pub used_keeps : (w : World) (place : Option ℕ) (m : Member) → AllKeep w → item_at place w.members ≡ Some m → Keeps m
used_keeps w None m k e = absurd (let q : ⊥ = cc in q)
used_keeps w (Some i) m k e = at_place Keeps w.members i m k e

-- what is shown depends on what is kept alone
shown_same : (g h : Holding) (t : Table) → kept_of g ≡ kept_of h → shown_of g t ≡ shown_of h t
shown_same g h t e = ap (λ (ks : List Change). if t.is_replicated then in_order (rows ks t.definition) else []) e

kept_same : (m n : Member) → Keeps m → Keeps n → SameMembers m.held n.held → kept_of m.state.holding ≡ kept_of n.state.holding
kept_same m n k l s = k.keeps ∙ keep_members m.held n.held s ∙ sym l.keeps

wanted : (x : Refusal) → IsWant x → is_want x ≡ true
wanted x (inl e) = ap is_want e
wanted x (inr e) = ap is_want e

differ : (b : Bool) → b ≡ true → b ≡ false → ⊥
differ true e f = cc
differ false e f = cc

-- a reply that does not tell of want, where rows are asked for
abbrev pub IsShown : Member → List ℕ → Option Table → FleetReply → Type 0
IsShown m name None r = r ≡ Refused (NoSuchTable name)
IsShown m name (Some t) r = r ≡ Shown (shown_of m.state.holding t)

shown_is : (m : Member) (name : List ℕ) (t : Option Table) (r : FleetReply) → ShowsRows m.state.holding name t r → tells_want r ≡ false → IsShown m name t r
shown_is m name None Done p n = absurd p
shown_is m name (Some t) Done p n = absurd p
shown_is m name None (Told cells) p n = absurd p
shown_is m name (Some t) (Told cells) p n = absurd p
shown_is m name None (Script x) p n = absurd p
shown_is m name (Some t) (Script x) p n = absurd p
shown_is m name None (Shown a) p n = absurd p
shown_is m name (Some t) (Shown a) p n = ap Shown p
shown_is m name None (Refused x) (inl p) n = absurd (differ (is_want x) (wanted x p) n)
shown_is m name (Some t) (Refused x) (inl p) n = absurd (differ (is_want x) (wanted x p) n)
shown_is m name None (Refused x) (inr p) n = ap Refused p.1
shown_is m name (Some t) (Refused x) (inr p) n = absurd (let q : Some t ≡ None = p.0 in cc)

-- two members that held the same show the same of a table
tables_same : (m n : Member) (name : List ℕ) (t u : Option Table) (r s : FleetReply) → kept_of m.state.holding ≡ kept_of n.state.holding → t ≡ u → IsShown m name t r → IsShown n name u s → r ≡ s
tables_same m n name None None r s k e p q = p ∙ sym q
tables_same m n name None (Some u) r s k e p q = absurd (let f : None ≡ Some u = e in cc)
tables_same m n name (Some t) None r s k e p q = absurd (let f : Some t ≡ None = e in cc)
tables_same m n name (Some t) (Some u) r s k e p q = let same : t ≡ u = cc in p ∙ ap Shown (shown_same m.state.holding n.state.holding t k ∙ ap (shown_of n.state.holding) same) ∙ sym q

members_same : (v w : World) (name : List ℕ) (m n : Option Member) (r s : FleetReply) → used v ≡ m → used w ≡ n → AllKeep v → AllKeep w → HeldTheSame m n → table_in m name ≡ table_in n name
    → OfUsed m r (λ x. ShowsRows x.state.holding name (find (is_named name) x.state.holding.tables) r) → OfUsed n s (λ x. ShowsRows x.state.holding name (find (is_named name) x.state.holding.tables) s)
    → tells_want r ≡ false → tells_want s ≡ false → r ≡ s
members_same v w name None n r s d e k l h t p q a b = absurd h
members_same v w name (Some m) None r s d e k l h t p q a b = absurd h
members_same v w name (Some m) (Some n) r s d e k l h t p q a b =
    tables_same m n name (find (is_named name) m.state.holding.tables) (find (is_named name) n.state.holding.tables) r s (kept_same m n (used_keeps v v.in_use m k d) (used_keeps w w.in_use n l e) h) t
    (shown_is m name (find (is_named name) m.state.holding.tables) r p a) (shown_is n name (find (is_named name) n.state.holding.tables) s q b)

pub both_shown : {S E : Type 0} (l : Language S E) (k : Closures) (v w : World) (name : List ℕ) (r s : FleetReply) → AllKeep v → AllKeep w → HeldTheSame (used v) (used w) → table_in (used v) name ≡ table_in (used w) name
    → Answers l k v (Rows name) r → Answers l k w (Rows name) s → ShowTheSame (Some r) (Some s)
both_shown lang c v w name r s k l h t p q = λ a b. members_same v w name (used v) (used w) r s refl refl k l h t p q a b
