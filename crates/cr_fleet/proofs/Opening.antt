-- Opening a new replica.
use Rattle.std.proofs.Common.{◌≡◌, inl, inr, ℕ, List, [], ◌∷◌, ◌++◌, Bool, true, false, not, ◌&&◌, ◌||◌, cond, nat_le, ◌≤◌, ◌<◌, arith, Option, Some, None, refl, sym, ap, subst, ◌∙◌, map, length}
use Rattle.std.specs.Prelude.{is_some, if◌then◌else◌}
use Rattle.std.specs.List.{AllByRecursion, list_any}
use Rattle.std.proofs.lemmas.List.{length-map}
use Rattle.std.proofs.lemmas.Bool.{le-leb}
use Rattle.std.proofs.lemmas.Bool.Decides.{leb_tells}
use Rattle.cr_lattice.specs.Check.{same_bytes}
use Rattle.cr_lattice.specs.Keep.{keep, in_order}
use Rattle.cr_cells.specs.Holding.{empty_holding}
use Rattle.cr_world.specs.declared.command.Command.TheVariants.{Open}
use Rattle.cr_world.specs.declared.command.FleetReply.TheVariants.{Done, Refused}
use Rattle.cr_fleet.specs.declared.fleet.Named.{Named}
use Rattle.cr_world.specs.declared.refusal.Limit.TheVariants as limit
use Rattle.cr_world.specs.declared.refusal.Refusal.{Refusal}
use Rattle.cr_world.specs.declared.refusal.Refusal.TheVariants.{Limit, BadName, SameSite, Memory}
use Rattle.cr_world.specs.World.{World, Keeps, Closures, new_member, place_of}
use Rattle.cr_world.specs.Answers.{IsWantFor, opening_refusal, has_site, is_replica_name}
use Rattle.cr_world.specs.Causes.{IsWant}
use Rattle.cr_world.specs.Language.{Language}
use Rattle.cr_world.specs.State.{State, new_state}
use Rattle.cr_guard.specs.Policy.{Rules}
use Rattle.cr_session.specs.Sessions.{SessionOf}
use Rattle.cr_fleet.specs.Between.{Opens, RefusesOpening, early_refusal}
use Rattle.cr_fleet.specs.Fleets.{FleetOf, AreClean, Shows, Steps, seen, name_and_state, place_in, is_free_name}
use Rattle.cr_fleet.proofs.Marking.{marks_more}
use Rattle.cr_fleet.proofs.Places.{one_more_there, pair, all_map, map_any, map_append, all_append, all_front, all_last}
use Rattle.cr_fleet.proofs.Stepping.{place_same, refused_steps}

bad : (a b : Bool) → (a && not b) ≡ false → (not a || b) ≡ true
bad true true e = refl
bad true false e = absurd (let q : ⊥ = cc in q)
bad false b e = refl

good : (a b : Bool) → (a && not b) ≡ true → (not a || b) ≡ false
good true true e = absurd (let q : ⊥ = cc in q)
good true false e = refl
good false b e = absurd (let q : ⊥ = cc in q)

-- of three tests the first that passes
pick : {X : Type 0} (a b c : Bool) (x y z : X) → Option X
pick a b c x y z = cond a (Some x) (cond b (Some y) (cond c (Some z) None))

keeps_new : (name site : List ℕ) → Keeps (new_member name site)
unfolding keep in_order
keeps_new name site = record { keeps = refl; no_modules = refl }

module _ {S E C : Type 0} (l : Language S E) (k : Closures) (is_clean : C → Type 0) (stands : C → State) (rules : Rules) (old : FleetOf C) (name site : List ℕ) where
  -- the tests in the world are those of the fleet
  name_same : (w : World) → Shows stands w rules old → is_some (place_of w name) ≡ is_some (place_in old name)
  name_same w s = ap (λ (o : Option ℕ). is_some o) (place_same l k is_clean stands rules w old name s)

  count_same : (w : World) → Shows stands w rules old → length w.members ≡ length old.0
  count_same w s = sym (length-map w.members name_and_state) ∙ ap length s.members ∙ length-map old.0 (seen stands)

  site_same : (w : World) → Shows stands w rules old → list_any (has_site site) w.members ≡ list_any (λ r. same_bytes (stands r.1).holding.site site) old.0
  site_same w s =
      let at_site : List ℕ × State → Bool = (λ h. same_bytes h.1.holding.site site) in
      sym (map_any name_and_state at_site w.members) ∙ ap (list_any at_site) s.members ∙ map_any (seen stands) at_site old.0

  told : (w : World) (a b c : Bool) → (not (is_replica_name name) || is_some (place_of w name)) ≡ a → nat_le 64 (length w.members) ≡ b → list_any (has_site site) w.members ≡ c
      → opening_refusal w name site ≡ cond a (Some (BadName name)) (cond b (Some (Limit limit.Replicas)) (cond c (Some SameSite) None))
  told w a b c e f g = λ i. cond (e i) (Some (BadName name)) (cond (f i) (Some (Limit limit.Replicas)) (cond (g i) (Some SameSite) None))

  taken : (w : World) → Shows stands w rules old → is_free_name name old ≡ false → (not (is_replica_name name) || is_some (place_of w name)) ≡ true
  taken w s e = ap (λ (b : Bool). not (is_replica_name name) || b) (name_same w s) ∙ bad (is_replica_name name) (is_some (place_in old name)) e

  free : (w : World) → Shows stands w rules old → is_free_name name old ≡ true → (not (is_replica_name name) || is_some (place_of w name)) ≡ false
  free w s e = ap (λ (b : Bool). not (is_replica_name name) || b) (name_same w s) ∙ good (is_replica_name name) (is_some (place_in old name)) e

  count : (w : World) (b : Bool) → Shows stands w rules old → nat_le 64 (length old.0) ≡ b → nat_le 64 (length w.members) ≡ b
  count w b s e = ap (nat_le 64) (count_same w s) ∙ e

  pub open_name : is_free_name name old ≡ false → Steps l k is_clean stands rules old (Open name site) (Refused (BadName name)) rules old
  open_name e = refused_steps l k is_clean stands rules old (Open name site) (BadName name) (λ clean w s. inr (told w true _ _ (taken w s e) refl refl))

  -- there is no memory for a name that may not be
  pub open_nameless : is_free_name name old ≡ false → Steps l k is_clean stands rules old (Open name site) (Refused Memory) rules old
  open_nameless e = refused_steps l k is_clean stands rules old (Open name site) Memory (λ clean w s. inl (subst (λ o. IsWantFor o Memory) (sym (told w true _ _ (taken w s e) refl refl)) (refl, refl)))

  pub open_full : is_free_name name old ≡ true → nat_le 64 (length old.0) ≡ true → Steps l k is_clean stands rules old (Open name site) (Refused (Limit limit.Replicas)) rules old
  open_full e f = refused_steps l k is_clean stands rules old (Open name site) (Limit limit.Replicas) (λ clean w s. inr (told w false true _ (free w s e) (count w true s f) refl))

  pub open_site : is_free_name name old ≡ true → nat_le 64 (length old.0) ≡ false → (AreClean is_clean old → list_any (λ r. same_bytes (stands r.1).holding.site site) old.0 ≡ true)
      → Steps l k is_clean stands rules old (Open name site) (Refused SameSite) rules old
  open_site e f g = refused_steps l k is_clean stands rules old (Open name site) SameSite (λ clean w s. inr (told w false false true (free w s e) (count w false s f) (site_same w s ∙ g clean)))

  -- nothing stands against it, and memory or the store does not suffice
  pub open_want : (r : Refusal) → IsWant r → is_free_name name old ≡ true → nat_le 64 (length old.0) ≡ false → (AreClean is_clean old → list_any (λ r. same_bytes (stands r.1).holding.site site) old.0 ≡ false)
      → Steps l k is_clean stands rules old (Open name site) (Refused r) rules old
  open_want r is e f g = refused_steps l k is_clean stands rules old (Open name site) r (λ clean w s. inl (subst (λ o. IsWantFor o r) (sym (told w false false false (free w s e) (count w false s f) (site_same w s ∙ g clean))) is))

  pub open_done : (c : C) → is_free_name name old ≡ true → nat_le 64 (length old.0) ≡ false → (AreClean is_clean old → list_any (λ r. same_bytes (stands r.1).holding.site site) old.0 ≡ false)
      → (is_clean c → stands c ≡ new_state (empty_holding site)) → is_clean c → Steps l k is_clean stands rules old (Open name site) Done rules (old.0 ++ (name, c) ∷ [], Some (length old.0))
  open_done c e f g made clean_new = record {
    was_clean = λ clean. all_front (λ r. is_clean r.1) old.0 ((name, c) ∷ []) clean;
    stays_clean = λ clean answered. all_append (λ r. is_clean r.1) old.0 ((name, c) ∷ []) clean (clean_new, tt);
    steps = λ clean w s. (
        let before = all_front (λ r. is_clean r.1) old.0 ((name, c) ∷ []) clean in
        let new = new_member name site in (
          told w false false false (free w s e) (count w false s f) (site_same w s ∙ g before),
          record {
            members = map_append name_and_state w.members (new ∷ []) ∙ (λ i. s.members i ++ (name, sym (made (all_last (λ r. is_clean r.1) old.0 (name, c) clean)) i) ∷ []) ∙ sym (map_append (seen stands) old.0 ((name, c) ∷ []));
            in_use = ap Some (count_same w s);
            rules = s.rules;
            keep = all_append Keeps w.members (new ∷ []) s.keep (keeps_new name site, tt);
            marks = marks_more w.members name site s.marks (site_same w s ∙ g before);
          },
        ));
  }

-- ---- whatever becomes of the stores of the others

module _ {C : Type 0} (is_clean : C → Type 0) (stands : C → State) (old : FleetOf C) (name site : List ℕ) where
  early_is : (a b : Bool) → is_free_name name old ≡ a → nat_le 64 (length old.0) ≡ b → early_refusal old name ≡ (if not a then Some (BadName name) else if b then Some (Limit limit.Replicas) else None)
  early_is a b e f = λ i. if not (e i) then Some (BadName name) else if f i then Some (Limit limit.Replicas) else None

  told_early : (a b : Bool) (r : Refusal) → is_free_name name old ≡ a → nat_le 64 (length old.0) ≡ b → RefusesOpening (if not a then Some (BadName name) else if b then Some (Limit limit.Replicas) else None) r
      → Opens is_clean stands old old name site (Refused r)
  told_early a b r e f p = (subst (λ (o : Option Refusal). RefusesOpening o r) (sym (early_is a b e f)) p, refl)

  pub name_opens : is_free_name name old ≡ false → Opens is_clean stands old old name site (Refused (BadName name))
  name_opens e = told_early false _ (BadName name) e refl (inr refl)

  pub nameless_opens : is_free_name name old ≡ false → Opens is_clean stands old old name site (Refused Memory)
  nameless_opens e = told_early false _ Memory e refl (inl (refl, refl))

  pub full_opens : is_free_name name old ≡ true → nat_le 64 (length old.0) ≡ true → Opens is_clean stands old old name site (Refused (Limit limit.Replicas))
  full_opens e f = told_early true true (Limit limit.Replicas) e f (inr refl)

  pub site_opens : is_free_name name old ≡ true → nat_le 64 (length old.0) ≡ false → Opens is_clean stands old old name site (Refused SameSite)
  site_opens e f = told_early true false SameSite e f (inl refl)

  pub want_opens : (r : Refusal) → IsWant r → is_free_name name old ≡ true → nat_le 64 (length old.0) ≡ false → Opens is_clean stands old old name site (Refused r)
  want_opens r is e f = told_early true false r e f (inr is)

  pub done_opens : (c : C) → is_free_name name old ≡ true → nat_le 64 (length old.0) ≡ false → is_clean c → stands c ≡ new_state (empty_holding site)
      → Opens is_clean stands old (old.0 ++ (name, c) ∷ [], Some (length old.0)) name site Done
  done_opens c e f clean made = (early_is true false e f, c, clean, made, refl)

-- ---- the sessions of a fleet, by their names

module _ {C : Type 0} (is_clean : SessionOf C → Type 0) (stands : SessionOf C → State) (items : List (Named C)) (site : List ℕ) where
  pub site_paired : (b : Bool) → (AllByRecursion (λ (n : Named C). is_clean n.session) items → b ≡ list_any (λ (n : Named C). same_bytes (stands n.session).holding.site site) items)
      → (in_use : Option ℕ) → AreClean is_clean (map pair items, in_use) → list_any (λ (r : List ℕ × SessionOf C). same_bytes (stands r.1).holding.site site) (map pair items) ≡ b
  site_paired b e in_use clean = map_any pair (λ (r : List ℕ × SessionOf C). same_bytes (stands r.1).holding.site site) items ∙ sym (e (all_map pair (λ (r : List ℕ × SessionOf C). is_clean r.1) items clean))

  pub full_paired : 64 ≤ length items → nat_le 64 (length (map pair items)) ≡ true
  full_paired h = ap (nat_le 64) (length-map items pair) ∙ le-leb 64 (length items) h

  pub room_paired : length items < 64 → nat_le 64 (length (map pair items)) ≡ false
  room_paired h = ap (nat_le 64) (length-map items pair) ∙ elim (leb_tells 64 (length items)) [
    | inl p ↦ absurd (let q = p.1 in omega (arith, h))
    | inr q ↦ q.0
  ]

module _ {S E C : Type 0} (l : Language S E) (k : Closures) (is_clean : SessionOf C → Type 0) (stands : SessionOf C → State) (rules : Rules) where
  pub opened : (items new : List (Named C)) (in_use : Option ℕ) (at : ℕ) (n : Named C) (name site : List ℕ) → new ≡ items ++ n ∷ [] → n.name ≡ name → at ≡ length items
      → is_free_name name (map pair items, in_use) ≡ true → nat_le 64 (length (map pair items)) ≡ false
      → (AreClean is_clean (map pair items, in_use) → list_any (λ (r : List ℕ × SessionOf C). same_bytes (stands r.1).holding.site site) (map pair items) ≡ false)
      → (is_clean n.session → stands n.session ≡ new_state (empty_holding site)) → is_clean n.session
      → Steps l k is_clean stands rules (map pair items, in_use) (Open name site) Done rules (map pair new, Some at)
  opened items new in_use at n name site pushed named place free room other made clean_new =
      subst (λ (f : FleetOf (SessionOf C)). Steps l k is_clean stands rules (map pair items, in_use) (Open name site) Done rules f) (sym (one_more_there items new at n name pushed named place))
      (open_done l k is_clean stands rules (map pair items, in_use) name site n.session free room other made clean_new)

  pub not_opened : (items new : List (Named C)) (in_use : Option ℕ) (name site : List ℕ) (r : Refusal) → new ≡ items → IsWant r
      → is_free_name name (map pair items, in_use) ≡ true → nat_le 64 (length (map pair items)) ≡ false
      → (AreClean is_clean (map pair items, in_use) → list_any (λ (r : List ℕ × SessionOf C). same_bytes (stands r.1).holding.site site) (map pair items) ≡ false)
      → Steps l k is_clean stands rules (map pair items, in_use) (Open name site) (Refused r) rules (map pair new, in_use)
  not_opened items new in_use name site r same is free room other =
      subst (λ (rs : List (Named C)). Steps l k is_clean stands rules (map pair items, in_use) (Open name site) (Refused r) rules (map pair rs, in_use)) (sym same)
      (open_want l k is_clean stands rules (map pair items, in_use) name site r is free room other)

module _ {C : Type 0} (is_clean : SessionOf C → Type 0) (stands : SessionOf C → State) (items new : List (Named C)) (in_use : Option ℕ) (name site : List ℕ)
    (free : is_free_name name (map pair items, in_use) ≡ true) (room : nat_le 64 (length (map pair items)) ≡ false) where
  pub one_opens : (at : ℕ) (n : Named C) → new ≡ items ++ n ∷ [] → n.name ≡ name → at ≡ length items → is_clean n.session → stands n.session ≡ new_state (empty_holding site)
      → Opens is_clean stands (map pair items, in_use) (map pair new, Some at) name site Done
  one_opens at n pushed named place clean made =
      subst (λ (f : FleetOf (SessionOf C)). Opens is_clean stands (map pair items, in_use) f name site Done) (sym (one_more_there items new at n name pushed named place))
      (done_opens is_clean stands (map pair items, in_use) name site n.session free room clean made)

  pub none_opens : (r : Refusal) → new ≡ items → IsWant r → Opens is_clean stands (map pair items, in_use) (map pair new, in_use) name site (Refused r)
  none_opens r same is =
      subst (λ (rs : List (Named C)). Opens is_clean stands (map pair items, in_use) (map pair rs, in_use) name site (Refused r)) (sym same)
      (want_opens is_clean stands (map pair items, in_use) name site r is free room)
