-- What a query whose rows are read one at a time has shown so far.
use Rattle.std.proofs.Common.{◌≡◌, ◌⊎◌, inl, inr, ℕ, List, [], ◌∷◌, ◌++◌, map, Option, Some, None, Ok, IsTrue, if◌then◌else◌, refl, sym, ap, subst, ◌∙◌, append_assoc, append-nil}
use Rattle.std.proofs.lemmas.List.{map-append}
use Rattle.sqlite.specs.Order.{Row}
use Rattle.sqlite.specs.declared.error.Error.{Error}
use Rattle.sqlite_trees.specs.declared.store.Store.{Ghosts}
use Rattle.sqlite_resolve.specs.declared.compiled.Compiled.{Compiled}
use Rattle.sqlite_schema.specs.declared.command.Command.{Command}
use Rattle.sqlite_schema.specs.declared.command.Returning.{Returning}
use Rattle.sqlite.specs.Clock.{timed}
use Rattle.sqlite.specs.Does.{Does}
use Rattle.sqlite.specs.Effect.{Database, IsDatabase, SparesFrozen}
use Rattle.sqlite.specs.Listing.{understood, reads_listing, IsSourceOf}
use Rattle.sqlite.specs.State.{State, Fails, Writes, ShowsRows, Shown, IsUnchanged, mode_of}
use Rattle.sqlite.specs.Held.{Held, state}
use Rattle.sqlite.specs.Stream.{returned, HasEnded}
use Rattle.sqlite.specs.Given.{IsPlain, HasGiven, HasBegun, Advances, HandsOn}
use Rattle.sqlite.proofs.Callers.{unchanged_then}
use Rattle.cr_rows.proofs.AskLemmas.{shown_same, shown_was_open}

-- ---- what is shown stays so while nothing is changed

writes_then : (a b c : State) (returning : Option Returning) (command : Command) (text : List ℕ) (params : Row) (count : ℕ) → (w : Writes a b returning command text params count) → IsUnchanged b c
    → Writes a c returning command text params count
writes_then a b c returning command text params count w q =
    let now : b.now ≡ c.now = sym q.0.now_is in
    record {
      tally = w.tally;
      changed = subst (λ d. Does a.step_limit (mode_of a) params a.now text returning command (Ok (w.tally, d))) now w.changed;
      frozen = subst (SparesFrozen a.now) now w.frozen;
      sound = subst IsDatabase now w.sound;
      shown = record {
        was_open = w.shown.was_open;
        is_open = q.0.is_open;
        now_is = refl;
        committed_is = q.0.committed_is ∙ w.shown.committed_is ∙ ap (λ (d : Database). if a.in_transaction then a.committed else d) now;
        mode = q.0.mode ∙ w.shown.mode;
      };
      marks = q.2 ∙ w.marks;
      counted = w.counted;
      changes = q.1.changes ∙ w.changes;
      last_rowid = q.1.last_rowid ∙ w.last_rowid;
    }

rows_then : (a b c : State) (sql : List ℕ) (it : Compiled) (params : Row) (rows : List Row) (o : Option Returning) → ShowsRows a b sql it params rows o → IsUnchanged b c → ShowsRows a c sql it params rows o
unfolding writes_then
rows_then a b c sql it params rows None h q = (h.0, h.1, h.2, unchanged_then a b c h.3 q)
rows_then a b c sql it params rows (Some what) h q = (h.0, writes_then a b c (Some what) it.command _ params h.0 h.1 q, h.2)

shown_then : (sql : List ℕ) (params : Row) (a b c : State) (rows : List Row) → Shown sql params a b rows → IsUnchanged b c → Shown sql params a c rows
unfolding Shown
shown_then sql params a b c rows h q = (h.0, h.1, rows_then a b c sql h.0 _ rows h.0.returning h.2 q)

-- a query that changes nothing shows the same rows of the state that was unchanged before it
then_shown : (sql : List ℕ) (params : Row) (a b c : State) (rows : List Row) (k : Compiled) → understood b.now.schema sql ≡ Ok k → k.returning ≡ None → IsUnchanged a b → Shown sql params b c rows
    → Shown sql params a c rows
unfolding Shown
then_shown sql params a b c rows k is bare q h =
    let same : k ≡ h.0 = let e = sym is ∙ h.1.is in cc in
    let none : h.0.returning ≡ None = ap (λ (it : Compiled). it.returning) (sym same) ∙ bare in
    let full = timed params h.0.formats h.1.now in
    let it = subst (ShowsRows b c sql h.0 full rows) none h.2 in
    let now : b.now ≡ a.now = q.0.now_is in (
      h.0,
      record { is = subst (λ (d : Database). understood d.schema sql ≡ Ok h.0) now h.1.is; whole = h.1.whole; given = h.1.given; now = h.1.now },
      subst (ShowsRows a c sql h.0 full rows) (sym none) (it.0, subst (λ (d : Database). IsSourceOf (reads_listing d.schema sql) d it.0) now it.1, it.2, unchanged_then a b c q it.3),
    )

module _ {S : Type 0} (g : Ghosts S) (sql : List ℕ) (params : Row) where
  -- the rows that are given so far are the first of those that the query shows
  pub record HasShown (old now : Held S) (given : List Row) : Type 0 where
    pub stands : (HasGiven g sql params now given × IsUnchanged (state g old) (state g now)) ⊎ (Shown sql params (state g old) (state g now) (given ++ returned now.reading) × HasEnded now.reading)

  pub has_begun : (old now : Held S) → HasBegun g sql params old now → HasShown old now []
  has_begun old now (inl h) = record { stands = inl h }
  has_begun old now (inr h) = record { stands = inr (h.1, h.2) }

  pub one_more : (old a b : Held S) (given : List Row) (row : Row) → HasShown old a given → Advances g a b (Some row) → HandsOn a b (Some row) → IsUnchanged (state g a) (state g b)
      → HasShown old b (given ++ row ∷ [])
  one_more old a b given row it on hands same = record {
    stands = elim it.stands [
      | inl h ↦ inl (on sql params given h.0, unchanged_then (state g old) (state g a) (state g b) h.1 same)
      | inr h ↦
          let next = hands h.1 in
          let all : given ++ returned a.reading ≡ (given ++ row ∷ []) ++ returned b.reading = ap (λ rows. given ++ rows) next.0 ∙ sym (append_assoc given (row ∷ []) (returned b.reading)) in
          inr (subst (Shown sql params (state g old) (state g b)) all (shown_then sql params (state g old) (state g a) (state g b) _ h.0 same), next.1)
    ];
  }

  bare_of : (h : Held S) (given : List Row) → HasGiven g sql params h given → (k : Compiled) × (understood h.schema sql ≡ Ok k) × (k.returning ≡ None)
  unfolding HasGiven
  bare_of h given it = (it.0.found.compiled, it.0.statement.is, it.1)

  pub no_more : (old a b : Held S) (given : List Row) → HasShown old a given → Advances g a b None → HandsOn a b None → IsUnchanged (state g a) (state g b) → Shown sql params (state g old) (state g b) given
  no_more old a b given it on hands same = elim it.stands [
    | inl h ↦ let bare = bare_of a given h.0 in then_shown sql params (state g old) (state g a) (state g b) given bare.0 bare.1 bare.2 h.1 (on sql params given h.0)
    | inr h ↦
        let all : given ++ returned a.reading ≡ given = ap (λ rows. given ++ rows) (hands h.1).0.0 ∙ append-nil given in
        subst (Shown sql params (state g old) (state g b)) all (shown_then sql params (state g old) (state g a) (state g b) _ h.0 same)
  ]

  -- ---- what it leaves, wherever it stops

  was_open : (old a : Held S) (given : List Row) → HasShown old a given → IsTrue (state g old).is_open
  was_open old a given it = elim it.stands [
    | inl h ↦ h.1.0.was_open
    | inr h ↦ shown_was_open sql params (state g old) (state g a) _ h.0
  ]

  unchanged : (old a : Held S) (given : List Row) → IsPlain (understood old.schema sql) → HasShown old a given → IsUnchanged (state g old) (state g a)
  unchanged old a given plain it = elim it.stands [
    | inl h ↦ h.1
    | inr h ↦ shown_same sql params (state g old) (state g a) _ plain h.0
  ]

  -- what a query leaves that may no longer be under way
  pub record Leaves (old : Held S) (new : State) : Type 0 where
    pub was_open : IsTrue new.is_open → IsTrue (state g old).is_open
    pub same : IsPlain (understood old.schema sql) → (state g old).now ≡ (state g old).committed → IsTrue new.is_open → new.now ≡ (state g old).now

  pub stands : (old a : Held S) (given : List Row) → HasShown old a given → Leaves old (state g a)
  stands old a given it = record { was_open = λ _. was_open old a given it; same = λ plain settled live. (unchanged old a given plain it).0.now_is }

  pub stops : (old a b : Held S) (given : List Row) (e : Error) → HasShown old a given → Fails (state g a) (state g b) ⊥ e ⊎ IsUnchanged (state g a) (state g b) → Leaves old (state g b)
  stops old a b given e it (inl h) = record {
    was_open = λ _. was_open old a given it;
    same = λ plain settled live. (h.3.undone live).0 ∙ (unchanged old a given plain it).0.committed_is ∙ sym settled;
  }
  stops old a b given e it (inr h) = record { was_open = λ _. was_open old a given it; same = λ plain settled live. h.0.now_is ∙ (unchanged old a given plain it).0.now_is }

-- ---- what is made of the rows

pub made_more : {A B : Type 0} (f : A → B) (made : List B) (given : List A) (x : A) (y : B) → made ≡ map f given → y ≡ f x → made ++ y ∷ [] ≡ map f (given ++ x ∷ [])
made_more f made given x y so_far is = ap (λ all. all ++ y ∷ []) so_far ∙ ap (λ z. map f given ++ z ∷ []) is ∙ sym (map-append f given (x ∷ []))
