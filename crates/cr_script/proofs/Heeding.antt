-- What a listener hears of a script, turn by turn.
use Rattle.std.proofs.Common.{◌≡◌, ◌⊎◌, inl, inr, ℕ, zero, suc, ◌≤◌, arith, List, [], ◌∷◌, ◌++◌, Option, Some, None, Result, Ok, sym, ap, subst, length, drop, append_assoc, append-nil}
use Rattle.std.proofs.lemmas.List.{length-drop}
use Rattle.cr_guard.specs.declared.event.Event.{Event}
use Rattle.cr_lex.specs.declared.token.Token.{Token}
use Rattle.cr_tree.specs.declared.statement.Statement.{Statement}
use Rattle.cr_statement.specs.Sql.{Refusal as Unread}
use Rattle.cr_world.specs.declared.command.Reply.{Reply}
use Rattle.cr_world.specs.declared.refusal.Refusal.{Refusal}
use Rattle.cr_world.specs.Causes.{IsWant}
use Rattle.cr_world.specs.Language.{Language, Piece}
use Rattle.cr_world.specs.Language as language
use Rattle.cr_world.specs.State.{State}
use Rattle.cr_world.specs.Statement.{Host}
use Rattle.cr_script.specs.Hearing.{HearsAll, HearsTurn, heard_of_statement}
use Rattle.cr_script.specs.Scripts.{Goes, Stops, Turns, next, pieces_left}
use Rattle.cr_script.proofs.Turning.{none_left, one_left, takes}

-- what a turn answers
pub heard_of : (hears : List Event → Type 0) (old : State) (found : Result (Option (Statement × ℕ)) Unread) (o p : Option (Reply × ℕ)) (new : State) → o ≡ p → HearsTurn hears old found (Ok o) new → HearsTurn hears old found (Ok p) new
heard_of hears old found o p new e h = subst (λ (x : Option (Reply × ℕ)). HearsTurn hears old found (Ok x) new) e h

same_found : (found : Result (Option (Statement × ℕ)) Unread) (p q : Statement × ℕ) → found ≡ Ok (Some p) → found ≡ Ok (Some q) → p ≡ q
same_found found p q e f = cc

-- nothing is heard of a script whose next statement is refused, unless for want
pub refuses : {E G : Type 0} (l : Language Statement E) (host : Host) (hears : G → G → List Event → Type 0) (ps : List (Piece Statement)) (h k : G) (st : State) (r : Refusal) → IsWant r ⊎ hears h k [] → HearsAll l host hears h st ps [] (Some r) k
refuses l host hears [] h k st r heard = heard
refuses l host hears (language.Unread why ∷ ps) h k st r heard = heard
refuses l host hears (language.Statement s ∷ ps) h k st r heard = heard

-- what a turn does under a host, it does under the same host
pub turns_alike : {E C : Type 0} (l : Language Statement E) (h k : Host) (is_honest is_clean : C → Type 0) (stands : C → State) (old : C) (found : Result (Option (Statement × ℕ)) Unread) (result : Result (Option (Reply × ℕ)) Refusal) (new : C) → h ≡ k
    → Turns l h is_honest is_clean stands old found result new → Turns l k is_honest is_clean stands old found result new
turns_alike l h k is_honest is_clean stands old found result new e t = subst (λ (x : Host). Turns l x is_honest is_clean stands old found result new) e t

module _ {E C G : Type 0} (l : Language Statement E) (host : Host) (is_honest is_clean : C → Type 0) (stands : C → State) (hears : G → G → List Event → Type 0) where
  -- What was heard of the statements so far: what is heard of the rest of the script goes on from there.
  pub record Heeds (source : List ℕ) (all : List (Piece Statement)) (old : C) (g : G) (now : C) (h : G) (rest : List Token) (replies : List Reply) : Type 0 where
    pub turns : ℕ
    pub enough : length rest ≤ turns
    pub leads : is_clean now → (xs : List Reply) (why : Option Refusal) (k : G) → HearsAll l host hears h (stands now) (pieces_left turns source rest) xs why k → HearsAll l host hears g (stands old) all (replies ++ xs) why k

  pub heeds_none : (source : List ℕ) (tokens : List Token) (c : C) (g : G) (replies : List Reply) → replies ≡ [] → Heeds source (pieces_left (length tokens) source tokens) c g c g tokens replies
  heeds_none source tokens c g replies e = record {
    turns = length tokens;
    enough = omega arith;
    leads = λ clean xs why k run. subst (λ (r : List Reply). HearsAll l host hears g (stands c) (pieces_left (length tokens) source tokens) (r ++ xs) why k) (sym e) run;
  }

  -- a statement was heard of
  one_heard : (source : List ℕ) (all : List (Piece Statement)) (old : C) (g : G) (now : C) (h : G) (rest rest' : List Token) (replies : List Reply) (t : Reply × ℕ) (now' : C) (h' : G) (turns : ℕ) → length rest ≤ turns
      → (is_clean now → (xs : List Reply) (why : Option Refusal) (k : G) → HearsAll l host hears h (stands now) (pieces_left turns source rest) xs why k → HearsAll l host hears g (stands old) all (replies ++ xs) why k)
      → (goes : Goes l host is_honest is_clean stands now (next source rest) t now') → (is_clean now' → hears h h' (heard_of_statement goes.statement (stands now) (stands now'))) → rest' ≡ drop t.1 rest
      → Heeds source all old g now' h' rest' (replies ++ t.0 ∷ [])
  one_heard source all old g now h rest rest' replies t now' h' zero few leads goes heard same =
      let some = takes source rest goes.statement t.1 goes.is in
      absurd (omega (arith, few, some.0, some.1))
  one_heard source all old g now h rest rest' replies t now' h' (suc n) few leads goes heard same =
      let some = takes source rest goes.statement t.1 goes.is in
      let fewer : length (drop t.1 rest) ≤ n = omega (arith, few, some.0, some.1, length-drop t.1 rest) in
      subst (λ (r : List Token). Heeds source all old g now' h' r (replies ++ t.0 ∷ [])) (sym same) (record {
        turns = n;
        enough = fewer;
        leads = λ clean xs why k run.
            subst (λ (r : List Reply). HearsAll l host hears g (stands old) all r why k) (sym (append_assoc replies (t.0 ∷ []) xs))
            (leads (goes.carries.device.was_clean clean) (t.0 ∷ xs) why k
            (subst (λ (ps : List (Piece Statement)). HearsAll l host hears h (stands now) ps (t.0 ∷ xs) why k) (sym (one_left n source rest goes.statement t.1 goes.is)) (
              (stands now').modules,
              h',
              goes.carries.answers clean,
              subst (λ (st : State). hears h h' (heard_of_statement goes.statement (stands now) st)) (sym (goes.carries.leaves clean)) (heard clean),
              subst (λ (st : State). HearsAll l host hears h' st (pieces_left n source (drop t.1 rest)) xs why k) (sym (goes.carries.leaves clean)) run,
            )));
      })

  -- what the turn tells, of the statement that it is
  of_turn : (source : List ℕ) (rest : List Token) (now : C) (h : G) (t : Reply × ℕ) (now' : C) (h' : G) → (goes : Goes l host is_honest is_clean stands now (next source rest) t now')
      → HearsTurn (hears h h') (stands now) (next source rest) (Ok (Some t)) (stands now') → hears h h' (heard_of_statement goes.statement (stands now) (stands now'))
  of_turn source rest now h t now' h' goes (x, n, e, heard) =
      subst (λ (s : Statement). hears h h' (heard_of_statement s (stands now) (stands now'))) (ap (λ (p : Statement × ℕ). p.0) (same_found (next source rest) (x, n) (goes.statement, t.1) e goes.is)) heard

  pub heeds_more : (source : List ℕ) (all : List (Piece Statement)) (old : C) (g : G) (now : C) (h : G) (rest rest' : List Token) (replies replies' : List Reply) (t : Reply × ℕ) (now' : C) (h' : G)
      → Heeds source all old g now h rest replies → Goes l host is_honest is_clean stands now (next source rest) t now'
      → (is_clean now' → HearsTurn (hears h h') (stands now) (next source rest) (Ok (Some t)) (stands now')) → rest' ≡ drop t.1 rest → replies' ≡ replies ++ t.0 ∷ [] → Heeds source all old g now' h' rest' replies'
  heeds_more source all old g now h rest rest' replies replies' t now' h' d goes heard same told =
      subst (Heeds source all old g now' h' rest') (sym told)
      (one_heard source all old g now h rest rest' replies t now' h' d.turns d.enough d.leads goes (λ clean. of_turn source rest now h t now' h' goes (heard clean)) same)

  -- ---- how a script ends

  -- nothing is heard where no statement is left
  pub heeded : (source : List ℕ) (all : List (Piece Statement)) (old : C) (g : G) (now : C) (h : G) (rest : List Token) (replies : List Reply) (k : G)
      → Heeds source all old g now h rest replies → next source rest ≡ Ok None → is_clean now → hears h k [] → HearsAll l host hears g (stands old) all replies None k
  heeded source all old g now h rest replies k d e clean heard =
      subst (λ (r : List Reply). HearsAll l host hears g (stands old) all r None k) (append-nil replies)
      (d.leads clean [] None k (subst (λ (ps : List (Piece Statement)). HearsAll l host hears h (stands now) ps [] None k) (sym (none_left d.turns source rest e)) heard))

  -- nor where one is refused, unless for want
  pub heeds_refused : (source : List ℕ) (all : List (Piece Statement)) (old : C) (g : G) (now : C) (h : G) (rest : List Token) (replies : List Reply) (r : Refusal) (k : G)
      → Heeds source all old g now h rest replies → is_clean now → IsWant r ⊎ hears h k [] → HearsAll l host hears g (stands old) all replies (Some r) k
  heeds_refused source all old g now h rest replies r k d clean heard =
      subst (λ (xs : List Reply). HearsAll l host hears g (stands old) all xs (Some r) k) (append-nil replies)
      (d.leads clean [] (Some r) k (refuses l host hears (pieces_left d.turns source rest) h k (stands now) r heard))

  -- a store that is clean after a refusal was so before it
  pub was_clean : (source : List ℕ) (rest : List Token) (now new : C) (r : Refusal) → Stops l host is_honest is_clean stands now (next source rest) r new → is_clean new → is_clean now
  was_clean source rest now new r (inl (why, e, told, same)) clean = subst is_clean same clean
  was_clean source rest now new r (inr (inl (x, k, e, carries))) clean = carries.device.was_clean clean
  was_clean source rest now new r (inr (inr want)) clean = subst is_clean want.1 clean
