-- Lines that are heard, one after another.
use Rattle.std.proofs.Common.{◌≡◌, ◌≢◌, ◌∙◌, refl, sym, ap, subst, ℕ, Bool, true, false, List, [], ◌∷◌, ◌++◌, append_assoc, append-nil, map, length, Option, Some, None, Result, Ok, Err, ◌⊎◌, inl, inr, ◌+◌, arith, ◌≤◌, ◌<◌, ◌==◌, ◌&&◌, not, length-append}
use Rattle.std.specs.Prelude.{IfOk, if◌then◌else◌}
use Rattle.std.specs.List.{flat_map, list_all, AllByRecursion}
use Rattle.std.proofs.lemmas.Bool.{ne_eqb}
use Rattle.std.proofs.lemmas.Grind.{flat_map-append}
use Rattle.std.specs.Io.KnownBytes.{Consumes, IsAtEnd}
use Rattle.cr_world.specs.declared.command.Command.{Command}
use Rattle.cr_world.specs.declared.command.Command.TheVariants.{Sql}
use Rattle.cr_world.specs.declared.command.FleetReply.{FleetReply}
use Rattle.cr_world.specs.declared.command.FleetReply.TheVariants.{Refused}
use Rattle.cr_world.specs.declared.refusal.Refusal.TheVariants as refusal
use Rattle.cr_shell.specs.declared.asking.Asked.{Asked}
use Rattle.cr_shell.specs.declared.asking.Asked.TheVariants.{Nothing, Quit, Asks}
use Rattle.cr_shell.specs.declared.serving.Line.{Line}
use Rattle.cr_shell.specs.declared.serving.Next.{Next}
use Rattle.cr_shell.specs.declared.serving.Next.TheVariants as next
use Rattle.cr_shell.specs.declared.serving.End.{End}
use Rattle.cr_shell.specs.declared.serving.End.TheVariants as end
use Rattle.cr_shell.specs.declared.serving.ServeFault.{ServeFault}
use Rattle.cr_shell.specs.declared.serving.ServeFault.TheVariants as fault
use Rattle.cr_shell.specs.Asking.{asked, has_token}
use Rattle.cr_shell.specs.declared.printing.Answer.{Answer}
use Rattle.cr_shell.specs.declared.printing.Answer.TheVariants.{Reply, Help}
use Rattle.cr_shell.specs.Printing.{Prints, answer_printed}
use Rattle.cr_shell.specs.Running.{Guarded, Standing, guarded}
use Rattle.cr_shell.specs.Serving.{Entry, AtLine, AtEnd, asks, Turn, own_answer, AreTurns, with_command, with_reply, commands, replies, Heard, IsKept, IsPushed, last_line, Replies, Hears, HearsLine, HearsUnfinished, Takes, FailsAtEnd, Ends, Serves, IsAllOf, ended, IsLine, input_limit}
use Rattle.cr_shell.proofs.BytesLemmas.{consumes_none, consumes_more}
use Rattle.cr_shell.proofs.PrintLemmas.{prints_none, prints_more}
use Rattle.cr_shell.proofs.RanLaws.{RanLaws}

-- ---- a line

never : {P : Type 0} (b : Bool) → b ≡ true → b ≡ false → P
never b t f = absurd (let q : true ≡ false = sym t ∙ f in cc)

pub kept_bytes : (line : Line) (b : List ℕ) → IsKept line b → line.is_lost ≡ false → line.bytes.items ≡ b
kept_bytes line b (inl lost) h = never line.is_lost lost.0 h
kept_bytes line b (inr e) h = e.1

is_more : (b : List ℕ) (x : ℕ) → b ++ x ∷ [] ≢ []
is_more [] x = λ e. (let f : x ∷ [] ≡ [] = e in cc)
is_more (c ∷ b) x = λ e. (let f : c ∷ b ++ x ∷ [] ≡ [] = e in cc)

pub kept_more : (old new : Line) (b : List ℕ) (x : ℕ) → IsPushed old new x → IsKept old b → IsKept new (b ++ x ∷ [])
kept_more old new b x (inl lost) k = inl (lost, is_more b x)
kept_more old new b x (inr p) k = inr (p.1, p.2 ∙ ap (λ (l : List ℕ). l ++ x ∷ []) (kept_bytes old b k p.0))

-- ---- turns

with_more : (c : Option Command) (cs ds : List Command) → with_command c (cs ++ ds) ≡ with_command c cs ++ ds
with_more None cs ds = refl
with_more (Some c) cs ds = refl

commands_more : (ts us : List Turn) → commands (ts ++ us) ≡ commands ts ++ commands us
commands_more [] us = refl
commands_more (t ∷ ts) us = ap (with_command t.command) (commands_more ts us) ∙ with_more t.command (commands ts) (commands us)

reply_more : (c : Option Command) (x : Answer) (rs ss : List FleetReply) → with_reply c x (rs ++ ss) ≡ with_reply c x rs ++ ss
reply_more None x rs ss = refl
reply_more (Some c) (Reply r) rs ss = refl
reply_more (Some c) Help rs ss = refl

replies_more : (ts us : List Turn) → replies (ts ++ us) ≡ replies ts ++ replies us
replies_more [] us = refl
replies_more (t ∷ ts) us = ap (with_reply t.command t.answer) (replies_more ts us) ∙ reply_more t.command t.answer (replies ts) (replies us)

turns_more : (before mid after : List ℕ) (ts us : List Turn) → AreTurns before ts mid → AreTurns mid us after → AreTurns before (ts ++ us) after
turns_more before mid after [] us p q = subst (λ (g : List ℕ). AreTurns g us after) p q
turns_more before mid after (t ∷ ts) us p q = (p.0, turns_more t.gathered mid after ts us p.1 q)

map_more : {X Y : Type 0} (f : X → Y) (xs ys : List X) → map f (xs ++ ys) ≡ map f xs ++ map f ys
map_more f [] ys = refl
map_more f (x ∷ xs) ys = ap (λ l. f x ∷ l) (map_more f xs ys)

all_more : {X : Type 0} (P : X → Type 0) (xs ys : List X) → AllByRecursion P xs → AllByRecursion P ys → AllByRecursion P (xs ++ ys)
all_more P [] ys p q = q
all_more P (x ∷ xs) ys p q = (p.0, all_more P xs ys p.1 q)

-- ---- what is asked

-- what is known of the answer to it
abbrev pub Told : Asked → List ℕ → List ℕ → Entry → Type 0
Told it gathered before entry = (it, gathered) ≡ asks before entry

pub told_ok : {F : Type 0} (a : Result Asked F) (it : Asked) (gathered before : List ℕ) (entry : Entry) → a ≡ Ok it → IfOk a (λ x. Told x gathered before entry) → Told it gathered before entry
told_ok {F} a it gathered before entry e h = subst (λ (x : Result Asked F). IfOk x (λ y. Told y gathered before entry)) e h

asked_is : (it : Asked) (gathered before : List ℕ) (entry : Entry) → Told it gathered before entry → (asks before entry).0 ≡ it
asked_is it gathered before entry e = ap (λ (x : Asked × List ℕ). x.0) (sym e)

left_is : (it : Asked) (gathered before : List ℕ) (entry : Entry) → Told it gathered before entry → gathered ≡ (asks before entry).1
left_is it gathered before entry e = ap (λ (x : Asked × List ℕ). x.1) e

-- the end doesn't end the run by `.quit`
abbrev rest_asks : Bool → List ℕ → Asked × List ℕ
rest_asks b gathered = if b then (Asks (Sql gathered), []) else (Nothing, gathered)

rest_quits : (b : Bool) (gathered : List ℕ) → (rest_asks b gathered).0 ≡ Quit → ⊥
rest_quits true gathered q = (let f : Asks (Sql gathered) ≡ Quit = q in cc)
rest_quits false gathered q = (let f : Nothing ≡ Quit = q in cc)

pub never_quits : (gathered : List ℕ) → (asks gathered AtEnd).0 ≡ Quit → ⊥
never_quits gathered q = rest_quits (has_token gathered) gathered q

-- what the line asks that is kept
pub asked_of_kept : {F : Type 0} (a : Result Asked F) (line : Line) (b before after : List ℕ) → IsKept line b → IfOk a (λ it. (line.is_lost ≡ false) × ((it, after) ≡ asked before line.bytes.items)) → IfOk a (λ it. Told it after before (AtLine b))
asked_of_kept (Ok it) line b before after kept e = e.1 ∙ ap (asked before) (kept_bytes line b kept e.0)
asked_of_kept (Err x) line b before after kept e = tt

-- ---- lines

module _ {T G : Type 0} (runs : Guarded T G → Guarded T G → List Command → List FleetReply → Type 0) (laws : RanLaws runs) where
  -- it ends the run
  pub quit_asked : (f0 : T) (p0 : G) (before gathered : List ℕ) (entry : Entry) → Told Quit gathered before entry → Replies runs (f0, p0, before) entry None (f0, p0, gathered)
  quit_asked f0 p0 before gathered entry e = (asked_is Quit gathered before entry e, refl, refl)

  -- a command that is asked for
  pub stepped : (f0 f1 : T) (p0 p1 : G) (before gathered : List ℕ) (entry : Entry) (c : Command) (r : FleetReply) → Told (Asks c) gathered before entry
      → runs (f0, p0) (f1, p1) (c ∷ []) (r ∷ []) → Replies runs (f0, p0, before) entry (Some (Reply r)) (f1, p1, gathered)
  stepped f0 f1 p0 p1 before gathered entry c r e s = (Some c, (asked_is (Asks c) gathered before entry e, left_is (Asks c) gathered before entry e), s)

  -- none is asked for
  pub unasked : (f : T) (p : G) (before gathered : List ℕ) (entry : Entry) (it : Asked) (x : Answer) → own_answer it ≡ Some x → Told it gathered before entry
      → Replies runs (f, p, before) entry (Some x) (f, p, gathered)
  unasked f p before gathered entry it x own e =
      (None, inr (ap own_answer (asked_is it gathered before entry e) ∙ own, left_is it gathered before entry e), laws.none (f, p))

  -- there is no memory to know what is asked
  pub forgotten : (f : T) (p : G) (before gathered : List ℕ) (entry : Entry) → gathered ≡ [] → Replies runs (f, p, before) entry (Some (Reply (Refused refusal.Memory))) (f, p, gathered)
  forgotten f p before gathered entry e = (None, inl (refl, e), laws.none (f, p))

module _ {T G W : Type 0} (contents : W → Option (List ℕ)) (runs : Guarded T G → Guarded T G → List Command → List FleetReply → Type 0) (laws : RanLaws runs) where
  abbrev Hear : W × Bool → W × Bool → Standing T G → Standing T G → List Entry → Type 0
  Hear w0 w1 s0 s1 entries = Heard contents runs w0 w1 s0 s1 entries

  pub heard_none : (w : W × Bool) (f : T) (p : G) (g : List ℕ) → Hear w w (f, p, g) (f, p, g) []
  heard_none w f p g = record {
    turns = [];
    entries_are = refl;
    are_for = refl;
    ran = laws.none (f, p);
    written = prints_none contents w;
  }

  pub heard_one : (w0 w1 : W × Bool) (s0 s1 : Standing T G) (entry : Entry) (x : Answer) → Replies runs s0 entry (Some x) s1 → Prints contents w0 w1 (answer_printed x) → Hear w0 w1 s0 s1 (entry ∷ [])
  heard_one w0 w1 s0 s1 entry x p q = record {
    turns = record { entry = entry; command = p.0; answer = x; gathered = s1.2 } ∷ [];
    entries_are = refl;
    are_for = (p.1, refl);
    ran = p.2;
    written = subst (Prints contents w0 w1) (sym (append-nil (answer_printed x))) q;
  }

  pub heard_more : (w0 w1 w2 : W × Bool) (s0 s1 s2 : Standing T G) (xs ys : List Entry) → Hear w0 w1 s0 s1 xs → Hear w1 w2 s1 s2 ys → Hear w0 w2 s0 s2 (xs ++ ys)
  heard_more w0 w1 w2 s0 s1 s2 xs ys p q = record {
    turns = p.turns ++ q.turns;
    entries_are = map_more (λ t. t.entry) p.turns q.turns ∙ ap (λ l. l ++ map (λ t. t.entry) q.turns) p.entries_are ∙ ap (λ l. xs ++ l) q.entries_are;
    are_for = turns_more s0.2 s1.2 s2.2 p.turns q.turns p.are_for q.are_for;
    ran = rw (commands_more p.turns q.turns, replies_more p.turns q.turns) (laws.more (guarded s0) (guarded s1) (guarded s2) (commands p.turns) (commands q.turns) (replies p.turns) (replies q.turns) p.ran q.ran);
    written = subst (Prints contents w0 w2) (sym (ap (flat_map answer_printed) (map_more (λ t. t.answer) p.turns q.turns) ∙ flat_map-append answer_printed (map (λ t. t.answer) p.turns) (map (λ t. t.answer) q.turns)))
        (prints_more contents w0 w1 w2 _ _ p.written q.written);
  }

-- ---- the input so far

ended_more : (lines : List (List ℕ)) (b : List ℕ) → ended (lines ++ b ∷ []) ≡ (ended lines ++ b) ++ 10 ∷ []
ended_more lines b = flat_map-append (λ l. l ++ 10 ∷ []) lines (b ∷ []) ∙ ap (λ l. ended lines ++ l) (append-nil (b ++ 10 ∷ [])) ∙ sym (append_assoc (ended lines) b (10 ∷ []))

both_true : (a b : Bool) → (a && b) ≡ true → (a ≡ true) × (b ≡ true)
both_true true true e = (refl, refl)
both_true true false e = absurd (let q : false ≡ true = e in cc)
both_true false b e = absurd (let q : false ≡ true = e in cc)

line_more : (b : List ℕ) (x : ℕ) → (x ≡ 10 → ⊥) → IsLine b → IsLine (b ++ x ∷ [])
line_more [] x n h = rw (ne_eqb x 10 n) refl
line_more (c ∷ cs) x n h = let t = both_true (not (c == 10)) (list_all (λ d. not (d == 10)) cs) h in rw t.0 (line_more cs x n t.1)

-- an input that is within its limit, with a byte more
byte_fits : (xs : List ℕ) (x n : ℕ) → length xs ≡ n → n < input_limit → length (xs ++ x ∷ []) ≤ input_limit
byte_fits xs x n is few =
    let more : length (xs ++ x ∷ []) ≡ n + 1 = length-append xs (x ∷ []) ∙ ap (λ m. m + 1) is in
    omega (arith, more, few)

none_more : (xs : List ℕ) (n : ℕ) → length xs ≡ n → n < input_limit → length xs ≤ input_limit
none_more xs n is few = omega (arith, is, few)

few_read : (xs : List ℕ) (n : ℕ) → length xs ≡ n → n < input_limit → length xs < input_limit
few_read xs n is few = omega (arith, is, few)

-- the unfinished line is all that stands behind the lines
last_is : (b : List ℕ) → b ≢ [] → last_line b ≡ b ∷ []
last_is [] n = absurd (n refl)
last_is (c ∷ b) n = refl

module _ {T G R W : Type 0} (remaining : R → Option (List ℕ)) (contents : W → Option (List ℕ)) (runs : Guarded T G → Guarded T G → List Command → List FleetReply → Type 0) where
  -- the lines so far were heard, and the unfinished one is kept
  abbrev pub Going : R × Bool → R × Bool → W × Bool → W × Bool → Standing T G → Standing T G → Line → ℕ → Type 0
  Going r0 r1 w0 w1 s0 s1 line n =
      (lines : List (List ℕ)) × (b : List ℕ) × Consumes (remaining r0.0) (remaining r1.0) (ended lines ++ b) × AllByRecursion IsLine lines × IsLine b × IsKept line b × Heard contents runs w0 w1 s0 s1 (map AtLine lines) × (length (ended lines ++ b) ≡ n)

module _ {T G R W : Type 0} (remaining : R → Option (List ℕ)) (contents : W → Option (List ℕ)) (runs : Guarded T G → Guarded T G → List Command → List FleetReply → Type 0) (laws : RanLaws runs) where
  abbrev HearR : W × Bool → W × Bool → Standing T G → Standing T G → List Entry → Type 0
  HearR w0 w1 s0 s1 entries = Heard contents runs w0 w1 s0 s1 entries

  abbrev Goes : R × Bool → R × Bool → W × Bool → W × Bool → Standing T G → Standing T G → Line → ℕ → Type 0
  Goes r0 r1 w0 w1 s0 s1 line n = Going remaining contents runs r0 r1 w0 w1 s0 s1 line n

  pub going_start : (r : R × Bool) (w : W × Bool) (f : T) (p : G) (g : List ℕ) (line : Line) → g ≡ [] → (line.bytes.items ≡ []) × (line.is_lost ≡ false) → Goes r r w w (f, p, []) (f, p, g) line 0
  going_start r w f p g line empty e = ([], [], consumes_none (remaining r.0), tt, refl, inr (e.1, e.0), subst (λ (x : List ℕ). HearR w w (f, p, []) (f, p, x) []) (sym empty) (heard_none contents runs laws w f p []), refl)

  going_byte : (r0 r1 r2 : R × Bool) (w0 w1 : W × Bool) (s0 s1 : Standing T G) (old new : Line) (n x : ℕ) → Goes r0 r1 w0 w1 s0 s1 old n → Consumes (remaining r1.0) (remaining r2.0) (x ∷ []) → (x ≡ 10 → ⊥)
      → IsPushed old new x → Goes r0 r2 w0 w1 s0 s1 new (n + 1)
  going_byte r0 r1 r2 w0 w1 s0 s1 old new n x g c other push =
      let e : ended g.0 ++ (g.1 ++ x ∷ []) ≡ (ended g.0 ++ g.1) ++ x ∷ [] = sym (append_assoc (ended g.0) g.1 (x ∷ [])) in (
        g.0,
        g.1 ++ x ∷ [],
        subst (Consumes (remaining r0.0) (remaining r2.0)) (sym e) (consumes_more (remaining r0.0) (remaining r1.0) (remaining r2.0) (ended g.0 ++ g.1) (x ∷ []) g.2 c),
        g.3,
        line_more g.1 x other g.4,
        kept_more old new g.1 x push g.5,
        g.6,
        ap length e ∙ length-append (ended g.0 ++ g.1) (x ∷ []) ∙ ap (λ m. m + 1) g.7,
      )

  -- one line more
  heard_line : (w0 w1 w2 : W × Bool) (s0 s1 s2 : Standing T G) (lines : List (List ℕ)) (b : List ℕ) → HearR w0 w1 s0 s1 (map AtLine lines) → HearR w1 w2 s1 s2 (AtLine b ∷ []) → HearR w0 w2 s0 s2 (map AtLine (lines ++ b ∷ []))
  heard_line w0 w1 w2 s0 s1 s2 lines b p q = subst (HearR w0 w2 s0 s2) (sym (map_more AtLine lines (b ∷ []))) (heard_more contents runs laws w0 w1 w2 s0 s1 s2 (map AtLine lines) (AtLine b ∷ []) p q)

  going_line : (r0 r1 r2 : R × Bool) (w0 w1 w2 : W × Bool) (s0 s1 s2 : Standing T G) (old new : Line) (n : ℕ) → Goes r0 r1 w0 w1 s0 s1 old n → Consumes (remaining r1.0) (remaining r2.0) (10 ∷ [])
      → ((b : List ℕ) → IsKept old b → HearR w1 w2 s1 s2 (AtLine b ∷ [])) → (new.bytes.items ≡ []) × (new.is_lost ≡ false) → Goes r0 r2 w0 w2 s0 s2 new (n + 1)
  going_line r0 r1 r2 w0 w1 w2 s0 s1 s2 old new n g c h empty =
      let e : ended (g.0 ++ g.1 ∷ []) ++ [] ≡ (ended g.0 ++ g.1) ++ 10 ∷ [] = append-nil (ended (g.0 ++ g.1 ∷ [])) ∙ ended_more g.0 g.1 in (
        g.0 ++ g.1 ∷ [],
        [],
        subst (Consumes (remaining r0.0) (remaining r2.0)) (sym e) (consumes_more (remaining r0.0) (remaining r1.0) (remaining r2.0) (ended g.0 ++ g.1) (10 ∷ []) g.2 c),
        all_more IsLine g.0 (g.1 ∷ []) g.3 (g.4, tt),
        refl,
        inr (empty.1, empty.0),
        heard_line w0 w1 w2 s0 s1 s2 g.0 g.1 g.6 (h g.1 g.5),
        ap length e ∙ length-append (ended g.0 ++ g.1) (10 ∷ []) ∙ ap (λ m. m + 1) g.7,
      )

  pub goes : (r0 r1 r2 : R × Bool) (w0 w1 w2 : W × Bool) (s0 s1 s2 : Standing T G) (old new : Line) (n x : ℕ) → Goes r0 r1 w0 w1 s0 s1 old n → Consumes (remaining r1.0) (remaining r2.0) (x ∷ []) → w1.1 ≡ false
      → Takes contents runs w1 w2 s1 s2 old new x next.Goes → Goes r0 r2 w0 w2 s0 s2 new (n + 1) × (w2.1 ≡ false)
  goes r0 r1 r2 w0 w1 w2 s0 s1 s2 old new n x g c ok (inl p) =
      (subst (λ (w : W × Bool). Goes r0 r2 w0 w s0 s2 new (n + 1)) (sym p.2) (subst (λ (s : Standing T G). Goes r0 r2 w0 w1 s0 s new (n + 1)) (sym p.3) (going_byte r0 r1 r2 w0 w1 s0 s1 old new n x g c p.1 p.4)), ap (λ (w : W × Bool). w.1) p.2 ∙ ok)
  goes r0 r1 r2 w0 w1 w2 s0 s1 s2 old new n x g c ok (inr p) =
      let heard : (b : List ℕ) → IsKept old b → HearR w1 w2 s1 s2 (AtLine b ∷ []) = λ b kept. (p.2 b kept).0 in
      (going_line r0 r1 r2 w0 w1 w2 s0 s1 s2 old new n g (subst (λ (y : ℕ). Consumes (remaining r1.0) (remaining r2.0) (y ∷ [])) p.0 c) heard p.1, (p.2 g.1 g.5).1)

  -- nothing is left of the line where the fleet stands as it did
  same_heard : (w0 w1 w2 : W × Bool) (s0 : Standing T G) (f1 f2 : T) (p1 p2 : G) (g : List ℕ) (xs : List Entry) → w2 ≡ w1 → f2 ≡ f1 → p2 ≡ p1 → HearR w0 w1 s0 (f1, p1, g) xs → HearR w0 w2 s0 (f2, p2, g) xs
  same_heard w0 w1 w2 s0 f1 f2 p1 p2 g xs e d b h =
      subst (λ (w : W × Bool). HearR w0 w s0 (f2, p2, g) xs) (sym e) (subst (λ (f : T). HearR w0 w1 s0 (f, p2, g) xs) (sym d) (subst (λ (p : G). HearR w0 w1 s0 (f1, p, g) xs) (sym b) h))

  abbrev Serve : Result End ServeFault → R × Bool → R × Bool → W × Bool → W × Bool → Guarded T G → Guarded T G → Type 0
  Serve result r0 r1 w0 w1 f0 f1 = Serves contents runs remaining result r0 r1 w0 w1 f0 f1

  -- `.quit` before a line feed
  pub serves_quit : (r0 r1 r2 : R × Bool) (w0 w1 w2 : W × Bool) (f0 f1 f2 : T) (p0 p1 p2 : G) (g1 g2 : List ℕ) (old new : Line) (n : ℕ) → Goes r0 r1 w0 w1 (f0, p0, []) (f1, p1, g1) old n → (x : ℕ) → Consumes (remaining r1.0) (remaining r2.0) (x ∷ []) → w1.1 ≡ false
      → n < input_limit → r2.1 ≡ false → Takes contents runs w1 w2 (f1, p1, g1) (f2, p2, g2) old new x next.Quits → Serve (Ok end.Quit) r0 r2 w0 w2 (f0, p0) (f2, p2)
  serves_quit r0 r1 r2 w0 w1 w2 f0 f1 f2 p0 p1 p2 g1 g2 old new n g x cx ok few read_ok (inl q) = absurd (let e : next.Quits ≡ next.Goes = q.0 in cc)
  serves_quit r0 r1 r2 w0 w1 w2 f0 f1 f2 p0 p1 p2 g1 g2 old new n g x cx ok few read_ok (inr q) =
      let c : Consumes (remaining r1.0) (remaining r2.0) (10 ∷ []) = subst (λ (y : ℕ). Consumes (remaining r1.0) (remaining r2.0) (y ∷ [])) q.0 cx in
      let t = q.2 g.1 g.5 in
      record {
        input = (ended g.0 ++ g.1) ++ 10 ∷ [];
        lines = g.0;
        entries = map AtLine g.0;
        gathered = g1;
        read = consumes_more (remaining r0.0) (remaining r1.0) (remaining r2.0) (ended g.0 ++ g.1) (10 ∷ []) g.2 c;
        cut = (g.1, g.4, t.0.0, inl (sym (ended_more g.0 g.1)), refl);
        are_lines = g.3;
        heard = same_heard w0 w1 w2 (f0, p0, []) f1 f2 p1 p2 g1 (map AtLine g.0) t.1 t.0.1 t.0.2 g.6;
        caused = (byte_fits (ended g.0 ++ g.1) 10 n g.7 few, read_ok, ap (λ (w : W × Bool). w.1) t.1 ∙ ok);
        stops = tt;
      }

  -- the writer failed at a line
  pub serves_write : (r0 r1 r2 : R × Bool) (w0 w1 w2 : W × Bool) (f0 f1 f2 : T) (p0 p1 p2 : G) (g1 g2 : List ℕ) (old new : Line) (n : ℕ) → Goes r0 r1 w0 w1 (f0, p0, []) (f1, p1, g1) old n → (x : ℕ) → Consumes (remaining r1.0) (remaining r2.0) (x ∷ []) → w1.1 ≡ false
      → n < input_limit → r2.1 ≡ false → Takes contents runs w1 w2 (f1, p1, g1) (f2, p2, g2) old new x next.Fails → Serve (Err fault.Write) r0 r2 w0 w2 (f0, p0) (f2, p2)
  serves_write r0 r1 r2 w0 w1 w2 f0 f1 f2 p0 p1 p2 g1 g2 old new n g x cx ok few read_ok (inl q) = absurd (let e : next.Fails ≡ next.Goes = q.0 in cc)
  serves_write r0 r1 r2 w0 w1 w2 f0 f1 f2 p0 p1 p2 g1 g2 old new n g x cx ok few read_ok (inr q) =
      let c : Consumes (remaining r1.0) (remaining r2.0) (10 ∷ []) = subst (λ (y : ℕ). Consumes (remaining r1.0) (remaining r2.0) (y ∷ [])) q.0 cx in
      let t = q.2 g.1 g.5 in
      record {
        input = ended (g.0 ++ g.1 ∷ []);
        lines = g.0 ++ g.1 ∷ [];
        entries = map AtLine (g.0 ++ g.1 ∷ []);
        gathered = g2;
        read = subst (Consumes (remaining r0.0) (remaining r2.0)) (sym (ended_more g.0 g.1)) (consumes_more (remaining r0.0) (remaining r1.0) (remaining r2.0) (ended g.0 ++ g.1) (10 ∷ []) g.2 c);
        cut = (inl refl, inl refl);
        are_lines = all_more IsLine g.0 (g.1 ∷ []) g.3 (g.4, tt);
        heard = heard_line w0 w1 w2 (f0, p0, []) (f1, p1, g1) (f2, p2, g2) g.0 g.1 g.6 t.0;
        caused = (subst (λ (xs : List ℕ). length xs ≤ input_limit) (sym (ended_more g.0 g.1)) (byte_fits (ended g.0 ++ g.1) 10 n g.7 few), read_ok, t.1);
        stops = record { before = map AtLine g.0; last = AtLine g.1; entries_are = map_more AtLine g.0 (g.1 ∷ []); writer = w1; standing = (f1, p1, g1); heard_before = g.6; had_not_failed = ok; heard_last = t.0 };
      }

  -- the reader failed, or its limit is reached
  pub serves_read : (r0 r1 r2 : R × Bool) (w0 w1 : W × Bool) (f0 f1 : T) (p0 p1 : G) (g1 : List ℕ) (line : Line) (n : ℕ) → Goes r0 r1 w0 w1 (f0, p0, []) (f1, p1, g1) line n → Consumes (remaining r1.0) (remaining r2.0) [] → w1.1 ≡ false
      → (r2.1 ≡ true) ⊎ (n ≡ input_limit) → Serve (Err fault.Read) r0 r2 w0 w1 (f0, p0) (f1, p1)
  serves_read r0 r1 r2 w0 w1 f0 f1 p0 p1 g1 line n g c ok why = record {
    input = ended g.0 ++ g.1;
    lines = g.0;
    entries = map AtLine g.0;
    gathered = g1;
    read = subst (Consumes (remaining r0.0) (remaining r2.0)) (append-nil (ended g.0 ++ g.1)) (consumes_more (remaining r0.0) (remaining r1.0) (remaining r2.0) (ended g.0 ++ g.1) [] g.2 c);
    cut = (g.1, g.4, refl, refl);
    are_lines = g.3;
    heard = g.6;
    caused = (elim why [ inl f ↦ inl f | inr e ↦ inr (g.7 ∙ e) ], ok);
    stops = tt;
  }

  -- the input is the lines and the unfinished one, unless that is empty
  all_of : (lines : List (List ℕ)) (b : List ℕ) (left : Option (List ℕ)) → IsAtEnd left → IsAllOf (ended lines ++ b) left (lines ++ last_line b)
  all_of lines [] left over = inl (append-nil (ended lines) ∙ sym (ap ended (append-nil lines)))
  all_of lines (c ∷ b) left over = inr (lines, c ∷ b, (λ e. (let f : c ∷ b ≡ [] = e in cc)), refl, refl, over)

  last_lines : (b : List ℕ) → IsLine b → AllByRecursion IsLine (last_line b)
  last_lines [] h = tt
  last_lines (c ∷ b) h = (h, tt)

  entries_more : (lines : List (List ℕ)) (b : List ℕ) → map AtLine lines ++ (map AtLine (last_line b) ++ AtEnd ∷ []) ≡ map AtLine (lines ++ last_line b) ++ AtEnd ∷ []
  entries_more lines b = sym (append_assoc (map AtLine lines) (map AtLine (last_line b)) (AtEnd ∷ [])) ∙ ap (λ (l : List Entry). l ++ AtEnd ∷ []) (sym (map_more AtLine lines (last_line b)))

  read_all : (r0 r1 r2 : R × Bool) (bytes : List ℕ) → Consumes (remaining r0.0) (remaining r1.0) bytes → Consumes (remaining r1.0) (remaining r2.0) [] → Consumes (remaining r0.0) (remaining r2.0) bytes
  read_all r0 r1 r2 bytes p q = subst (Consumes (remaining r0.0) (remaining r2.0)) (append-nil bytes) (consumes_more (remaining r0.0) (remaining r1.0) (remaining r2.0) bytes [] p q)

  -- the writer failed at the end
  fails_at_end : (r0 r1 r2 : R × Bool) (w0 w1 w2 : W × Bool) (f0 f1 f2 : T) (p0 p1 p2 : G) (g1 g2 : List ℕ) (line : Line) (n : ℕ) (g : Goes r0 r1 w0 w1 (f0, p0, []) (f1, p1, g1) line n) → Consumes (remaining r1.0) (remaining r2.0) [] × IsAtEnd (remaining r2.0) → w1.1 ≡ false → n < input_limit → r2.1 ≡ false
      → FailsAtEnd contents runs w1 w2 (f1, p1, g1) (f2, p2, g2) g.1 → w2.1 ≡ true → Serve (Err fault.Write) r0 r2 w0 w2 (f0, p0) (f2, p2)
  fails_at_end r0 r1 r2 w0 w1 w2 f0 f1 f2 p0 p1 p2 g1 g2 line n g c ok few read_ok (inl q) failed = record {
    input = ended g.0 ++ g.1;
    lines = g.0 ++ g.1 ∷ [];
    entries = map AtLine (g.0 ++ g.1 ∷ []);
    gathered = g2;
    read = read_all r0 r1 r2 (ended g.0 ++ g.1) g.2 c.0;
    cut = (inr (g.0, g.1, q.0, refl, refl, c.1), inl refl);
    are_lines = all_more IsLine g.0 (g.1 ∷ []) g.3 (g.4, tt);
    heard = heard_line w0 w1 w2 (f0, p0, []) (f1, p1, g1) (f2, p2, g2) g.0 g.1 g.6 q.1;
    caused = (none_more (ended g.0 ++ g.1) n g.7 few, read_ok, failed);
    stops = record { before = map AtLine g.0; last = AtLine g.1; entries_are = map_more AtLine g.0 (g.1 ∷ []); writer = w1; standing = (f1, p1, g1); heard_before = g.6; had_not_failed = ok; heard_last = q.1 };
  }
  fails_at_end r0 r1 r2 w0 w1 w2 f0 f1 f2 p0 p1 p2 g1 g2 line n g c ok few read_ok (inr q) failed =
      let before : HearR w0 q.0 (f0, p0, []) q.1 (map AtLine (g.0 ++ last_line g.1)) = subst (HearR w0 q.0 (f0, p0, []) q.1) (sym (map_more AtLine g.0 (last_line g.1))) (heard_more contents runs laws w0 w1 q.0 (f0, p0, []) (f1, p1, g1) q.1 (map AtLine g.0) (map AtLine (last_line g.1)) g.6 q.2) in
      record {
        input = ended g.0 ++ g.1;
        lines = g.0 ++ last_line g.1;
        entries = map AtLine (g.0 ++ last_line g.1) ++ AtEnd ∷ [];
        gathered = g2;
        read = read_all r0 r1 r2 (ended g.0 ++ g.1) g.2 c.0;
        cut = (all_of g.0 g.1 (remaining r2.0) c.1, inr (c.1, refl));
        are_lines = all_more IsLine g.0 (last_line g.1) g.3 (last_lines g.1 g.4);
        heard = heard_more contents runs laws w0 q.0 w2 (f0, p0, []) q.1 (f2, p2, g2) (map AtLine (g.0 ++ last_line g.1)) (AtEnd ∷ []) before q.4;
        caused = (none_more (ended g.0 ++ g.1) n g.7 few, read_ok, failed);
        stops = record { before = map AtLine (g.0 ++ last_line g.1); last = AtEnd; entries_are = refl; writer = q.0; standing = q.1; heard_before = before; had_not_failed = q.3; heard_last = q.4 };
      }

  -- the end of the input
  pub serves_end : (result : Result End ServeFault) (r0 r1 r2 : R × Bool) (w0 w1 w2 : W × Bool) (f0 f1 f2 : T) (p0 p1 p2 : G) (g1 g2 : List ℕ) (line : Line) (n : ℕ) → Goes r0 r1 w0 w1 (f0, p0, []) (f1, p1, g1) line n → Consumes (remaining r1.0) (remaining r2.0) [] × IsAtEnd (remaining r2.0) → w1.1 ≡ false → n < input_limit → r2.1 ≡ false
      → ((b : List ℕ) → IsKept line b → Ends contents runs w1 w2 (f1, p1, g1) (f2, p2, g2) b result) → Serve result r0 r2 w0 w2 (f0, p0) (f2, p2)
  serves_end (Ok end.Quit) r0 r1 r2 w0 w1 w2 f0 f1 f2 p0 p1 p2 g1 g2 line n g c ok few read_ok q =
      let t = q g.1 g.5 in
      record {
        input = ended g.0 ++ g.1;
        lines = g.0;
        entries = map AtLine g.0;
        gathered = g1;
        read = read_all r0 r1 r2 (ended g.0 ++ g.1) g.2 c.0;
        cut = (g.1, g.4, t.1.0, inr (g.0, g.1, t.0, refl, refl, c.1), refl);
        are_lines = g.3;
        heard = same_heard w0 w1 w2 (f0, p0, []) f1 f2 p1 p2 g1 (map AtLine g.0) t.2 t.1.1 t.1.2 g.6;
        caused = (none_more (ended g.0 ++ g.1) n g.7 few, read_ok, ap (λ (w : W × Bool). w.1) t.2 ∙ ok);
        stops = tt;
      }
  serves_end (Ok end.Input) r0 r1 r2 w0 w1 w2 f0 f1 f2 p0 p1 p2 g1 g2 line n g c ok few read_ok q =
      let t = q g.1 g.5 in
      record {
        input = ended g.0 ++ g.1;
        lines = g.0 ++ last_line g.1;
        entries = map AtLine (g.0 ++ last_line g.1) ++ AtEnd ∷ [];
        gathered = g2;
        read = read_all r0 r1 r2 (ended g.0 ++ g.1) g.2 c.0;
        cut = (all_of g.0 g.1 (remaining r2.0) c.1, c.1, refl);
        are_lines = all_more IsLine g.0 (last_line g.1) g.3 (last_lines g.1 g.4);
        heard = subst (HearR w0 w2 (f0, p0, []) (f2, p2, g2)) (entries_more g.0 g.1) (heard_more contents runs laws w0 w1 w2 (f0, p0, []) (f1, p1, g1) (f2, p2, g2) (map AtLine g.0) (map AtLine (last_line g.1) ++ AtEnd ∷ []) g.6 t.0);
        caused = (few_read (ended g.0 ++ g.1) n g.7 few, read_ok, t.1);
        stops = tt;
      }
  serves_end (Err fault.Read) r0 r1 r2 w0 w1 w2 f0 f1 f2 p0 p1 p2 g1 g2 line n g c ok few read_ok q = absurd (q g.1 g.5)
  serves_end (Err fault.Write) r0 r1 r2 w0 w1 w2 f0 f1 f2 p0 p1 p2 g1 g2 line n g c ok few read_ok q =
      let t = q g.1 g.5 in fails_at_end r0 r1 r2 w0 w1 w2 f0 f1 f2 p0 p1 p2 g1 g2 line n g c ok few read_ok t.0 t.1

-- ---- the end

module _ {T G W : Type 0} (contents : W → Option (List ℕ)) (runs : Guarded T G → Guarded T G → List Command → List FleetReply → Type 0) (laws : RanLaws runs) where
  abbrev HearE : W × Bool → W × Bool → Standing T G → Standing T G → List Entry → Type 0
  HearE w0 w1 s0 s1 entries = Heard contents runs w0 w1 s0 s1 entries

  -- the end doesn't end the run by `.quit`, so it was heard
  pub end_heard : (w0 w1 : W × Bool) (s0 s1 : Standing T G) (b : Bool) → Hears contents runs w0 w1 s0 s1 AtEnd b → HearE w0 w1 s0 s1 (AtEnd ∷ [])
  end_heard w0 w1 s0 s1 true h = h
  end_heard w0 w1 s0 s1 false h = absurd (never_quits s0.2 h.0.0)

  -- a line was heard, as the writer then is
  pub line_quits : (w0 w1 : W × Bool) (s0 s1 : Standing T G) (b : List ℕ) (r : Bool) → Hears contents runs w0 w1 s0 s1 (AtLine b) r → r ≡ false → HearsLine contents runs w0 w1 s0 s1 b next.Quits
  line_quits w0 w1 s0 s1 b r h e = subst (λ (x : Bool). Hears contents runs w0 w1 s0 s1 (AtLine b) x) e h

  pub line_heard : (w0 w1 : W × Bool) (s0 s1 : Standing T G) (b : List ℕ) (r : Bool) → Hears contents runs w0 w1 s0 s1 (AtLine b) r → r ≡ true → HearE w0 w1 s0 s1 (AtLine b ∷ [])
  line_heard w0 w1 s0 s1 b r h e = subst (λ (x : Bool). Hears contents runs w0 w1 s0 s1 (AtLine b) x) e h

  -- the unfinished line was heard
  pub unfinished_heard : (w0 w1 : W × Bool) (s0 s1 : Standing T G) (b : List ℕ) (n : Next) → b ≢ [] → HearsLine contents runs w0 w1 s0 s1 b n → HearsUnfinished contents runs w0 w1 s0 s1 b n
  unfinished_heard w0 w1 s0 s1 b next.Goes n h = (subst (λ (l : List (List ℕ)). HearE w0 w1 s0 s1 (map AtLine l)) (sym (last_is b n)) h.0, h.1)
  unfinished_heard w0 w1 s0 s1 b next.Fails n h = (n, h)
  unfinished_heard w0 w1 s0 s1 b next.Quits n h = (n, h)

  -- there is none
  pub none_unfinished : (w : W × Bool) (f : T) (p : G) (g : List ℕ) (b : List ℕ) → b ≡ [] → w.1 ≡ false → HearsUnfinished contents runs w w (f, p, g) (f, p, g) b next.Goes
  none_unfinished w f p g b e ok = (subst (λ (l : List ℕ). HearE w w (f, p, g) (f, p, g) (map AtLine (last_line l))) (sym e) (heard_none contents runs laws w f p g), ok)

  -- the end was heard behind it
  pub ends_input : (w0 w1 w2 : W × Bool) (s0 s1 s2 : Standing T G) (b : List ℕ) → HearsUnfinished contents runs w0 w1 s0 s1 b next.Goes → HearE w1 w2 s1 s2 (AtEnd ∷ []) → w2.1 ≡ false → Ends contents runs w0 w2 s0 s2 b (Ok end.Input)
  ends_input w0 w1 w2 s0 s1 s2 b h e ok = (heard_more contents runs laws w0 w1 w2 s0 s1 s2 (map AtLine (last_line b)) (AtEnd ∷ []) h.0 e, ok)

  pub ends_failed : (w0 w1 w2 : W × Bool) (s0 s1 s2 : Standing T G) (b : List ℕ) → HearsUnfinished contents runs w0 w1 s0 s1 b next.Goes → HearE w1 w2 s1 s2 (AtEnd ∷ []) → w2.1 ≡ true → Ends contents runs w0 w2 s0 s2 b (Err fault.Write)
  ends_failed w0 w1 w2 s0 s1 s2 b h e failed = (inr (w1, s1, h.0, h.1, e), failed)

  pub ends_at_line : (w0 w1 : W × Bool) (s0 s1 : Standing T G) (b : List ℕ) → HearsUnfinished contents runs w0 w1 s0 s1 b next.Fails → Ends contents runs w0 w1 s0 s1 b (Err fault.Write)
  ends_at_line w0 w1 s0 s1 b h = (inl (h.0, h.1.0), h.1.1)

  pub ends_by_quit : (w0 w1 : W × Bool) (s0 s1 : Standing T G) (b : List ℕ) → HearsUnfinished contents runs w0 w1 s0 s1 b next.Quits → Ends contents runs w0 w1 s0 s1 b (Ok end.Quit)
  ends_by_quit w0 w1 s0 s1 b h = (h.0, h.1.0, h.1.1)
