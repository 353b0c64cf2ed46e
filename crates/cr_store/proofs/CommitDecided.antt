-- What a plan decides, and what is committed once it is written.
use Rattle.std.proofs.Common.{◌≡◌, inl, inr, ℤ, pos, ◌+ℤ◌, ◌≤ℤ◌, Bool, true, false, not, cond, ◌&&◌, List, [], ◌∷◌, map, Option, refl, sym, ap, ◌∙◌, subst, arith}
use Rattle.std.proofs.lemmas.Int.{ints}
use Rattle.std.specs.Prelude.{filter, int_lt}
use Rattle.std.specs.List.{AllByRecursion}
use Rattle.std.specs.Ordering.{int_eq}
use Rattle.sqlite.specs.Effect.{Database}
use Rattle.sqlite_rules.specs.Lists.{Has}
use Rattle.cr_rows.specs.Rows.{Lists}
use Rattle.cr_lattice.specs.declared.change.Change.{Change}
use Rattle.cr_lattice.specs.declared.stamped.Stamped.{Stamped}
use Rattle.cr_lattice.specs.Keep.{has, keep, join}
use Rattle.cr_cells.specs.Calls.{is_past_limit}
use Rattle.cr_cells.specs.Commit.{newly_kept, is_changed, stamped, greatest_version, cells_after, committed}
use Rattle.cr_cells.specs.Holding.{Holding, changes_of, kept_of, IsStampedTo, IsSound}
use Rattle.cr_cells.specs.Marks.{Mark, marks_after}
use Rattle.cr_cells.specs.Tables.{AreWellFormed}
use Rattle.cr_cells.proofs.MemberLemmas.{split, Among}
use Rattle.cr_cells.proofs.CommitLemmas.{none_passes, unchanged_cells}
use Rattle.cr_cells.proofs.NewLemmas.{news_are, some-newly_kept}
use Rattle.cr_store.specs.declared.plan.New.{New}
use Rattle.cr_store.specs.declared.plan.Plan.{Plan}
use Rattle.cr_store.specs.declared.outcome.Decision.{Decision}
use Rattle.cr_store.specs.declared.outcome.Outcome.{Outcome}
use Rattle.cr_store.specs.Committing.{is_none, left_by, IsDecided, HasCommitted}
use Rattle.cr_store.specs.Plan.{is_new, gone_by, put_all, without_all, IsPlan}
use Rattle.cr_store.specs.Rows.{cell_row, meta_rows, table_rows, mark_row}
use Rattle.cr_store.specs.declared.format.Format.TheVariants.{Second}
use Rattle.cr_store.specs.Shows.{Shows, HasCells}
use Rattle.cr_store.proofs.CommitCells.{IsToWrite, left_after, after_left}
use Rattle.cr_store.proofs.MoveLemmas.{lists_moved}
use Rattle.cr_store.proofs.NamedNews.{named_news}

-- ---- whether something comes in

is_none-news : (ns : List New) → is_none ns ≡ is_none (map (λ (n : New). n.cell) ns)
is_none-news [] = refl
is_none-news (n ∷ ns) = refl

is_none-stamped : (version seq : ℤ) (cs : List Change) → is_none (stamped version seq cs) ≡ is_none cs
is_none-stamped version seq [] = refl
is_none-stamped version seq (c ∷ cs) = refl

pub plan_changes : (ss : List Stamped) (more : List Change) (version : ℤ) (p : Plan) → IsPlan ss (keep more) version p → not (is_none p.news.items) ≡ is_changed (changes_of ss) more
plan_changes ss more version p plan =
    ap not (is_none-news p.news.items ∙ ap (λ (l : List Stamped). is_none l) plan.news ∙ is_none-stamped version (pos 0) (filter (is_new (changes_of ss)) (keep more)))
    ∙ ap (λ (l : List Change). not (is_none l)) (news_are (changes_of ss) more)
    ∙ some-newly_kept (changes_of ss) more

-- ---- members, as the contracts have them

pub Has-Among : (ss : List Stamped) (s : Stamped) → Has ss s → Among ss s
Has-Among [] s h = absurd h
Has-Among (t ∷ ts) s h = elim h [ inl here ↦ inl here | inr there ↦ inr (Has-Among ts s there) ]

pub Among-Has : (ss : List Stamped) (s : Stamped) → Among ss s → Has ss s
Among-Has [] s h = absurd h
Among-Has (t ∷ ts) s h = elim h [ inl here ↦ inl here | inr there ↦ inr (Among-Has ts s there) ]

-- ---- nothing comes in

no_news : (ns : List New) → is_none ns ≡ true → ns ≡ []
no_news [] e = refl
no_news (n ∷ ns) e = absurd cc

not_false : (b : Bool) → not b ≡ false → b ≡ true
not_false true e = refl
not_false false e = absurd cc

none-newly_kept : (kept more : List Change) → is_changed kept more ≡ false → newly_kept kept more ≡ []
unfolding newly_kept is_changed
none-newly_kept kept more e = none_passes (λ c. not (has kept c)) (join kept more) e

nothing_left : (ss : List Stamped) (more : List Change) (d : Decision) → IsPlan ss (keep more) d.stamp d.plan → is_changed (changes_of ss) more ≡ false → left_by d ss ≡ ss
nothing_left ss more d plan e =
    let news : d.plan.news.items ≡ [] = no_news d.plan.news.items (not_false _ (plan_changes ss more d.stamp d.plan plan ∙ e)) in
    let none : filter (is_new (changes_of ss)) (keep more) ≡ [] = news_are (changes_of ss) more ∙ none-newly_kept (changes_of ss) more e in
    let gone : d.plan.gone.items ≡ [] = plan.gone ∙ ap (gone_by (changes_of ss)) none in
    ap (λ g. without_all d.stamp g (put_all d.plan.news.items ss)) gone ∙ ap (λ ns. put_all ns ss) news

-- ---- something comes in

below_next : (version : ℤ) (ss : List Stamped) → AllByRecursion (IsStampedTo version) ss → AllByRecursion (λ s. int_lt s.version (version +ℤ pos 1) ≡ true) ss
below_next version [] all = tt
below_next version (s ∷ ss) all = ((let past : s.version ≤ℤ version = all.0.past in grind (arith, ints)), below_next version ss all.1)

to_write : (h : Holding) (more : List Change) (stamp : ℤ) (p : Plan) → IsSound h → stamp ≡ h.version +ℤ pos 1 → IsPlan h.cells (keep more) stamp p → IsToWrite h.cells more stamp p.news.items p.gone.items
to_write h more stamp p sound next plan =
    let same : filter (is_new (kept_of h)) (keep more) ≡ newly_kept (kept_of h) more = news_are (kept_of h) more in
    record {
      kept = sound.kept;
      below = subst (λ v. AllByRecursion (λ s. int_lt s.version v ≡ true) h.cells) (sym next) (below_next h.version h.cells sound.stamped);
      cells = plan.news ∙ ap (stamped stamp (pos 0)) same;
      told = plan.there;
      goes = plan.gone ∙ ap (gone_by (kept_of h)) same;
    }

-- ---- the decision

only_and : (a b : Bool) → (a && b) ≡ false → a ≡ true → b ≡ false
only_and true b e t = e
only_and false b e t = absurd cc

pub past_limit : (h : Holding) (more : List Change) (stamp : ℤ) (p : Plan) (changed past : Bool) → IsPlan h.cells (keep more) stamp p → changed ≡ not (is_none p.news.items)
    → past ≡ (changed && int_eq h.version greatest_version) → is_past_limit h more ≡ past
past_limit h more stamp p changed past plan some limit =
    ap (λ b. b && int_eq h.version greatest_version) (sym (some ∙ plan_changes h.cells more stamp p plan)) ∙ sym limit

pub decided : (h : Holding) (more : List Change) (d : Decision) → IsSound h → (int_eq h.version greatest_version ≡ false → d.stamp ≡ h.version +ℤ pos 1)
    → IsPlan h.cells (keep more) d.stamp d.plan → d.is_changed ≡ not (is_none d.plan.news.items) → (d.is_changed && int_eq h.version greatest_version) ≡ false
    → d.version ≡ cond d.is_changed d.stamp h.version → AreWellFormed h.tables more → IsDecided h more d
decided h more d sound next plan some within version well =
    let changed : d.is_changed ≡ is_changed (kept_of h) more = some ∙ plan_changes h.cells more d.stamp d.plan plan in
    let past : is_past_limit h more ≡ false = past_limit h more d.stamp d.plan d.is_changed false plan some (sym within) in
    elim (split (is_changed (kept_of h) more)) [
      | inl so ↦ (
          let stamp : d.stamp ≡ h.version +ℤ pos 1 = next (only_and _ _ past so) in
          let w = to_write h more d.stamp d.plan sound stamp plan in
          record {
            changed = changed;
            past = past;
            version = rw so (version ∙ ap (λ b. cond b d.stamp h.version) (changed ∙ so) ∙ stamp);
            to = λ s a. subst (λ v. Has (cells_after h.cells more v) s) stamp (Among-Has _ s (left_after h.cells more d.stamp d.plan.news.items d.plan.gone.items w s (Has-Among _ s a)));
            from = λ s a. Among-Has _ s (after_left h.cells more d.stamp d.plan.news.items d.plan.gone.items w s (Has-Among _ s (subst (λ v. Has (cells_after h.cells more v) s) (sym stamp) a)));
            named = named_news h.tables h.cells more d.stamp d.plan well plan;
          })
      | inr not_so ↦ (
          let left : left_by d h.cells ≡ h.cells = nothing_left h.cells more d plan not_so in
          let after : cells_after h.cells more (h.version +ℤ pos 1) ≡ h.cells = unchanged_cells h.cells more (h.version +ℤ pos 1) sound.kept not_so in
          record {
            changed = changed;
            past = past;
            version = rw not_so (version ∙ ap (λ b. cond b d.stamp h.version) (changed ∙ not_so));
            to = λ s a. subst (λ l. Has l s) (left ∙ sym after) a;
            from = λ s a. subst (λ l. Has l s) (after ∙ sym left) a;
            named = named_news h.tables h.cells more d.stamp d.plan well plan;
          })
    ]

-- ---- the rows

-- what is written of a decision shows what is committed
pub shows_committed : (db : Database) (h : Holding) (more : List Change) (peer : Option Mark) (d : Decision) → IsDecided h more d
    → HasCells db h.tables (meta_rows Second h.site d.version) (table_rows 1 h.tables) [] (map mark_row (marks_after h.marks peer)) (left_by d h.cells) → Shows db (committed h more peer)
shows_committed db h more peer d it has = record {
  schema = has.held.schema;
  meta_are = subst (λ v. Lists (db.trees 0) (meta_rows Second h.site v)) it.version has.held.meta_are;
  tables_are = has.held.tables_are;
  old_are = has.held.old_are;
  cells_are = lists_moved (cell_row Second h.tables) (db.trees 8) (left_by d h.cells) (cells_after h.cells more (h.version +ℤ pos 1)) it.to it.from has.held.cells_are;
  marks_are = has.held.marks_are;
}

-- as code goes: the stamp and the version are those of the decision
pub has_committed : (db : Database) (h : Holding) (more : List Change) (peer : Option Mark) (d : Decision) (o : Outcome) (stamp version : ℤ) → IsDecided h more d → stamp ≡ d.stamp → version ≡ d.version
    → HasCells db h.tables (meta_rows Second h.site version) (table_rows 1 h.tables) [] (map mark_row (marks_after h.marks peer)) (without_all stamp d.plan.gone.items (put_all d.plan.news.items h.cells))
    → o.version ≡ version → o.marks.items ≡ marks_after h.marks peer → o.is_changed ≡ d.is_changed → HasCommitted db h more peer o
has_committed db h more peer d o stamp version it same_stamp same_version has o_version marks changed =
    let by_version = subst (λ v. HasCells db h.tables (meta_rows Second h.site v) (table_rows 1 h.tables) [] (map mark_row (marks_after h.marks peer)) (without_all stamp d.plan.gone.items (put_all d.plan.news.items h.cells))) same_version has in
    let by_stamp = subst (λ v. HasCells db h.tables (meta_rows Second h.site d.version) (table_rows 1 h.tables) [] (map mark_row (marks_after h.marks peer)) (without_all v d.plan.gone.items (put_all d.plan.news.items h.cells))) same_stamp by_version in
    record {
      shows = shows_committed db h more peer d it by_stamp;
      version = o_version ∙ same_version ∙ it.version;
      marks = marks;
      changed = changed ∙ it.changed;
      past = it.past;
    }
