-- A write whose terms leave out the rows of other keys makes of what is kept of these keys what it makes of all.
use Rattle.std.proofs.Common.{◌≡◌, ◌⊎◌, inl, inr, ◌∙◌, ℕ, Bool, true, false, not, ◌&&◌, ◌||◌, nat_lt, cond, List, [], ◌∷◌, length, map, Option, Some, None, Ok, Err, unwrap_or, refl, sym, ap, subst, Equal}
use Rattle.std.specs.Prelude.{Result, filter}
use Rattle.std.specs.List.{flat_map, list_any, AllByRecursion}
use Rattle.std.specs.Option.{option_map, option_and_then}
use Rattle.std.specs.Ordering.{on}
use Rattle.std.proofs.lemmas.Cmp.{on_total}
use Rattle.cr_value.specs.declared.value.Value.{Value}
use Rattle.cr_value.specs.Order.{bytes_cmp}
use Rattle.cr_value.specs.OrderLaws.{bytes_total, bytes_exact}
use Rattle.cr_value.specs.Packing.{size_limit}
use Rattle.cr_value.proofs.Fields.{some_is}
use Rattle.cr_lattice.specs.declared.change.Change.{Change}
use Rattle.cr_lattice.specs.declared.table.TableDef.{TableDef}
use Rattle.cr_lattice.specs.Check.{same_bytes}
use Rattle.cr_lattice.specs.Sets.{set_of}
use Rattle.cr_lattice.specs.Profile.{has_key}
use Rattle.cr_lattice.specs.Rows.{is_alive, alive_keys, row, rows}
use Rattle.cr_lattice.proofs.RowLemmas.{any_alive_key}
use Rattle.cr_cells.specs.Tables.{has_defaults}
use Rattle.cr_delta.specs.Key.{key_of}
use Rattle.cr_delta.specs.Delta.{delta, is_wanted, passes_limit}
use Rattle.cr_delta.proofs.Among.{Among, map_member, member_has, member_of_any}
use Rattle.cr_delta.proofs.Members.{is_same, same_is}
use Rattle.cr_term.specs.declared.expr.Expr.{Expr}
use Rattle.cr_term.specs.declared.query.Assignment.{Assignment}
use Rattle.cr_term.specs.declared.query.Delete.{Delete}
use Rattle.cr_term.specs.declared.query.Update.{Update}
use Rattle.cr_scalar.specs.Host.{Host}
use Rattle.cr_scalar.specs.declared.fault.EvalFault.{EvalFault}
use Rattle.cr_scalar.specs.Meaning.{byte_limit}
use Rattle.cr_bags.specs.Bags.{gather, each, single}
use Rattle.cr_query.specs.Query.{Row, Meaning, holds}
use Rattle.cr_query.specs.Writes.{has_null_key, has_null, has_long_key, lacks_value, repeats, has_twice, by_key, put_all, assigned, updated, wanted_by_update}
use Rattle.cr_query.proofs.Refining.{Gains, by_gather, by_map}
use Rattle.cr_query.proofs.RefiningWrites.{left_refines, updated_refines}
use Rattle.cr_meaning.specs.View.{Ordered}
use Rattle.cr_meaning.specs.View as view
use Rattle.cr_meaning.specs.Meaning.{IsLimit, Regard, exact, meaning, regarded, sized, strict}
use Rattle.cr_meaning.proofs.Limits.{refines}
use Rattle.cr_exec.specs.Answers.{Stage, IsMeant, Faults}
use Rattle.cr_exec.proofs.Stages.{faults_on}
use Rattle.cr_world.specs.declared.refusal.Refusal.{Refusal}
use Rattle.cr_world.specs.declared.refusal.Refusal.TheVariants as refusal
use Rattle.cr_touched.specs.Inserts.{Verdict, verdict}
use Rattle.cr_touched.specs.Parts.{is_key_of, part}
use Rattle.cr_touched.specs.Shown.{AreKeptOf}
use Rattle.cr_touched.specs.Touched.{passes, IsShownOutside}
use Rattle.cr_touched.proofs.Inserts.{kept_of_part}
use Rattle.cr_touched.proofs.Sets.{all_set, any_set, filter_set}
use Rattle.cr_touched.proofs.Shown.{short, whole as all_values, once, is_its_key, is_present}
use Rattle.cr_touched.proofs.Touches.{delta_of_touched}
use Rattle.cr_changed.specs.Changed.{Changes, Leads}
use Rattle.cr_sought.specs.Sought.{is_of_key, is_to_key}
use Rattle.cr_sought.specs.Laws.{LeaveOutOthers, of_keys}
use Rattle.cr_sought.specs.Writes.{DeletesByKeys, UpdatesByKeys}
use Rattle.cr_sought.proofs.Joins.{of_row, told_rows}
use Rattle.cr_sought.proofs.LeftOut.{each_member}
use Rattle.cr_sought.proofs.Made.{Gives, IsAtMostOne, Makes, all_both, all_given, all_own, any_made, any_there, gather_given, made, none_both, once_made, others_made, passing}
use Rattle.cr_sought.proofs.Puts.{key_stays}

-- what stands against rows of this verdict first
abbrev Against : Verdict → Refusal → Type 0
Against v r =
    ((v.long ≡ true) × (r ≡ refusal.TooBig))
    ⊎ (((v.long ≡ false) × (v.lacking ≡ true) × (r ≡ refusal.NotNull))
    ⊎ (((v.long ≡ false) × (v.lacking ≡ false) × (v.twice ≡ true) × (r ≡ refusal.PrimaryKey))
    ⊎ ((v.long ≡ false) × (v.lacking ≡ false) × (v.twice ≡ false) × (passes_limit v.changes ≡ true) × (r ≡ refusal.VersionLimit))))

-- What a write makes of each row of a table: rows of other keys than some it keeps, and of a row it makes nothing or one row of
-- its key.
record ByRow (host : Host) (params : List Value) (def : TableDef) (kept : List Change) (keys : List (List ℕ))
    (f : Meaning Ordered → Row → Option (List Row)) : Type 0 where
  keeps : (g : Regard) → IsLimit g.most → (r : Row) → Among (rows kept def) r → is_key_of keys (key_of def r) ≡ false
      → f (regarded g host params) r ≡ Some (single r)
  gains : (g : Regard) → IsLimit g.most → (r : Row) → Gains (f (sized host params) r) (f (regarded g host params) r)
  few : (r : Row) (us : List Row) → f (exact host params) r ≡ Some us → IsAtMostOne (key_of def) (key_of def r) us

module _ (host : Host) (params : List Value) (def : TableDef) (keyed : has_key def ≡ true) (defaults : has_defaults def ≡ true)
    (kept : List Change) (are : AreKeptOf def kept) (keys : List (List ℕ)) (f : Meaning Ordered → Row → Option (List Row))
    (by_row : ByRow host params def kept keys f) (site : List ℕ) where
  abbrev p : List ℕ → Bool
  p = is_key_of keys

  abbrev k : Row → List ℕ
  k = key_of def

  abbrev some : List Change
  some = of_keys def keys kept

  abbrev all : List Row
  all = rows kept def

  abbrev mine : List Row
  mine = filter (passes def p) all

  mine_are : mine ≡ rows some def
  mine_are = told_rows def keyed kept are p

  -- what is made of a row without a limit
  abbrev g : Row → List Row
  g r = unwrap_or (f (exact host params) r) []

  abbrev whole : List Row
  whole = made k p g all

  makes : AllByRecursion (Makes k p g) all
  makes = each_member (Makes k p g) all (λ r among. record { few = few_of r (f (exact host params) r) refl; stays = λ out. ap (λ o. unwrap_or o []) (by_row.keeps (strict None) (inl refl) r among out) }) where
    few_of : (r : Row) (o : Option (List Row)) → f (exact host params) r ≡ o → IsAtMostOne k (k r) (unwrap_or o [])
    few_of r None is = inl refl
    few_of r (Some us) is = by_row.few r us is

  same_exact : (r : Row) (us : List Row) → f (exact host params) r ≡ Some us → g r ≡ us
  same_exact r us e = ap (λ o. unwrap_or o []) e

  all_of : (most : Option ℕ) → IsLimit most → ((r : Row) (us : List Row) → f (meaning most host params) r ≡ Some us → g r ≡ us) → (us : List Row)
      → gather (f (meaning most host params)) (rows some def) ≡ Some us
      → (us ≡ flat_map g mine) × (gather (f (meaning most host params)) all ≡ Some whole)
  all_of most limit same us e =
      let h = f (meaning most host params) in
      let here : gather h mine ≡ Some us = ap (gather h) mine_are ∙ e in
      let own_given = all_given h g same mine us here in
      let others = each_member (λ r. passes def p r ≡ false → Gives h g r) all
      (λ r among out. by_row.keeps (strict most) limit r among out ∙ ap (λ l. Some l) (sym (ap (λ o. unwrap_or o []) (by_row.keeps (strict None) (inl refl) r among out)))) in
      (some_is us (flat_map g mine) (sym here ∙ gather_given h g mine own_given), gather_given h g all (all_both h g (passes def p) all own_given others))

  is_made : (us : List Row) → IsMeant host params (λ m. gather (f m) (rows some def)) us → us ≡ flat_map g mine
  is_made us b = (all_of None (inl refl) same_exact us (b.under (strict None) (inl refl))).0

  whole_sized : (us : List Row) → IsMeant host params (λ m. gather (f m) (rows some def)) us → gather (f (sized host params)) all ≡ Some whole
  whole_sized us b = (all_of byte_limit (inr refl) (λ r us e. same_exact r us (by_row.gains (strict None) (inl refl) r us e)) us (b.under (strict byte_limit) (inr refl))).1

  both : (us : List Row) → IsMeant host params (λ m. gather (f m) (rows some def)) us → IsMeant host params (λ m. gather (f m) all) whole
  both us b = record {
    under = λ regard limit. by_gather (f (sized host params)) (f (regarded regard host params)) (by_row.gains regard limit) all whole (whole_sized us b);
  }

  fault_of : (regard : Regard) → gather (f (regarded regard host params)) (rows some def) ≡ None → gather (f (regarded regard host params)) all ≡ None
  fault_of regard e = none_both (f (regarded regard host params)) g (passes def p) all (ap (gather (f (regarded regard host params))) mine_are ∙ e)

  faults : (e : EvalFault) → Faults host params (λ m. gather (f m) (rows some def)) e → Faults host params (λ m. gather (f m) all) e
  faults e h = faults_on host params (λ m. gather (f m) (rows some def)) (λ m. gather (f m) all) e fault_of h

  -- ---- what is said of the rows that are made

  abbrev few_rows : List Row
  few_rows = flat_map g mine

  long : has_long_key def few_rows ≡ has_long_key def whole
  unfolding has_long_key
  long = sym (any_made k p g (λ r. not (has_null_key def r) && nat_lt size_limit (length (key_of def r))) all makes (short def keyed kept are defaults))

  lacking : lacks_value def few_rows ≡ lacks_value def whole
  unfolding lacks_value
  lacking = sym (any_made k p g (has_null def) all makes (all_values def keyed kept are defaults))

  some_are : AreKeptOf def some
  some_are = kept_of_part def p kept are

  twice : has_twice def few_rows ≡ has_twice def whole
  unfolding has_twice
  twice =
      once_made k p g mine (all_own k p g all makes) (ap (λ rs. repeats (map k rs)) mine_are ∙ once def keyed some some_are)
      ∙ sym (once_made k p g all makes (once def keyed kept are))

  tied : (t : List ℕ → Bool) (r q : Row) → on k bytes_cmp r q ≡ Equal → t (k r) ≡ t (k q)
  tied t r q e = ap t (bytes_exact (k r) (k q) e)

  abbrev IsThere : Row → Type 0
  IsThere r = (is_alive kept def.name (k r) ≡ true) × (row kept def (k r) ≡ r)

  there : (r : Row) → Among all r → IsThere r
  there r among =
      let o = of_row def kept r among in
      let alive = is_present def keyed kept are o.0 o.1 in
      let own : k r ≡ o.0 = ap k o.2 ∙ is_its_key def keyed kept are o.0 alive in
      (ap (is_alive kept def.name) own ∙ alive, ap (row kept def) own ∙ sym o.2)

  alive_row : (pk : List ℕ) → is_alive kept def.name pk ≡ true → Among all (row kept def pk)
  unfolding rows
  alive_row pk alive =
      let m = member_of_any (same_bytes pk) (alive_keys kept def.name) (any_alive_key kept def.name pk ∙ alive) in
      map_member (row kept def) (alive_keys kept def.name) pk (subst (λ l. Among (alive_keys kept def.name) l) (sym (same_is pk m.0 m.2)) m.1)

  outside : IsShownOutside kept def (by_key def whole) p
  unfolding by_key is_wanted
  outside = record {
    shown =
        all_set (on k bytes_cmp) (λ r. p (k r) ≡ false → IsThere r) whole
        (others_made k p g IsThere all makes (each_member IsThere all there));
    all = λ pk out alive.
        let own : k (row kept def pk) ≡ pk = is_its_key def keyed kept are pk alive in
        any_set (on_total k bytes_total) (λ r. same_bytes (k r) pk) (tied (λ l. same_bytes l pk)) whole
        ∙ any_there k p g (λ r. same_bytes (k r) pk) all makes (row kept def pk) (alive_row pk alive) (ap p own ∙ out) (is_same (k (row kept def pk)) pk own);
  }

  passing_set : filter (passes def p) (by_key def whole) ≡ by_key def few_rows
  unfolding by_key
  passing_set =
      filter_set (on_total k bytes_total) (passes def p) (tied p) whole
      ∙ ap (set_of (on k bytes_cmp)) (passing k p g all makes)

  changes : delta def site some (by_key def few_rows) ≡ delta def site kept (by_key def whole)
  changes =
      let wanted = by_key def whole in
      sym
      (ap (λ cs. delta def site cs wanted) (sym are.unbeaten)
      ∙ delta_of_touched def site kept wanted p (subst (λ cs. IsShownOutside cs def wanted p) (sym are.unbeaten) outside)
      ∙ ap (λ cs. delta def site (part def.name p cs) (filter (passes def p) wanted)) are.unbeaten
      ∙ ap (delta def site some) passing_set)

  alike : (us : List Row) → IsMeant host params (λ m. gather (f m) (rows some def)) us → verdict def site some us ≡ verdict def site kept whole
  alike us b = ap (verdict def site some) (is_made us b) ∙ (λ i. record { long = long i; lacking = lacking i; twice = twice i; changes = changes i })

  -- ---- what the write makes

  leads : (made_changes : List Change) → Leads host params def site some (λ m. gather (f m) (rows some def)) made_changes
      → Leads host params def site kept (λ m. gather (f m) all) made_changes
  leads made_changes l =
      let same = alike l.rows l.both in
      record {
        rows = whole;
        both = both l.rows l.both;
        short = sym (ap (λ v. v.long) same) ∙ l.short;
        whole = sym (ap (λ v. v.lacking) same) ∙ l.whole;
        once = sym (ap (λ v. v.twice) same) ∙ l.once;
        within = sym (ap (λ v. passes_limit v.changes) same) ∙ l.within;
        are = l.are ∙ ap (λ v. v.changes) same;
      }

  all_makes : {X : Type 0} (result : Result X Refusal) (changes_in : X → List Change)
      → Changes host params def site some (λ m. gather (f m) (rows some def)) result changes_in
      → Changes host params def site kept (λ m. gather (f m) all) result changes_in
  all_makes (Ok x) changes_in l = leads (changes_in x) l
  all_makes (Err r) changes_in (inl memory) = inl memory
  all_makes (Err r) changes_in (inr (inl e)) = inr (inl (e.0, e.1, faults e.0 e.2))
  all_makes (Err r) changes_in (inr (inr s)) = inr (inr (whole, both s.0 s.1, subst (λ v. Against v r) (alike s.0 s.1) s.2))

-- ---- DELETE and UPDATE

abbrev left_by : Delete → Meaning Ordered → Row → Option (List Row)
left_by w m r = option_map (λ b. cond b (single r) []) (option_map not (holds m (map view.plain w.filter) r))

abbrev made_by : TableDef → Update → Meaning Ordered → Row → Option (List Row)
made_by def w m r = option_map single (updated m def.columns (view.update w) r)

module _ (host : Host) (params : List Value) (def : TableDef) (kept : List Change) (keys : List (List ℕ)) where
  left_out : (terms : List Expr) → LeaveOutOthers host params def kept terms keys → (g : Regard) → IsLimit g.most → (r : Row) → Among (rows kept def) r
      → is_key_of keys (key_of def r) ≡ false → holds (regarded g host params) (map view.plain terms) r ≡ Some false
  left_out terms others g limit r among out =
      member_has (λ x. is_key_of keys (key_of def x) ≡ false → holds (regarded g host params) (map view.plain terms) x ≡ Some false) (rows kept def) r (others g limit) among out

  deletes : (w : Delete) → LeaveOutOthers host params def kept w.filter keys → ByRow host params def kept keys (left_by w)
  deletes w others = record {
    keeps = λ g limit r among out.
        ap (λ b. option_map (λ b. cond b (single r) []) (option_map not b))
        (left_out w.filter others g limit r among out);
    gains = λ g limit r. left_refines (sized host params) (regarded g host params) (refines host params g limit) terms r;
    few = λ r us e. few (holds (exact host params) terms r) r us e;
  } where
    terms : List Ordered
    terms = map view.plain w.filter

    few : (o : Option Bool) (r : Row) (us : List Row) → option_map (λ b. cond b (single r) []) (option_map not o) ≡ Some us
        → IsAtMostOne (key_of def) (key_of def r) us
    few None r us e = absurd cc
    few (Some true) r us e = inl (sym (some_is [] us e))
    few (Some false) r us e = inr (r, sym (some_is (single r) us e), refl)

  of_places : (ws : List Assignment) → list_any (is_of_key def) (map (λ a. a.place) (map view.assignment ws)) ≡ list_any (is_to_key def) ws
  of_places [] = refl
  of_places (a ∷ ws) = ap (λ b. is_to_key def a || b) (of_places ws)

  abbrev places : Update → List ℕ
  places w = map (λ a. a.place) (map view.assignment w.assignments)

  -- the row that is wanted, by whether the terms hold
  abbrev new_row : Update → Meaning Ordered → Row → Option Bool → Option Row
  new_row w m r o = option_and_then (λ b. cond b (assigned m def.columns (view.update w).assignments r) (Some r)) o

  updates : (w : Update) → list_any (is_to_key def) w.assignments ≡ false → LeaveOutOthers host params def kept w.filter keys
      → ByRow host params def kept keys (made_by def w)
  updates w spared others = record {
    keeps = λ g limit r among out.
        ap (λ o. option_map single (new_row w (regarded g host params) r o))
        (left_out w.filter others g limit r among out);
    gains = λ g limit r.
        by_map single (updated (sized host params) def.columns (view.update w) r) (updated (regarded g host params) def.columns (view.update w) r)
        (updated_refines (sized host params) (regarded g host params) (refines host params g limit) def.columns (view.update w) r);
    few = λ r us e. few r us (holds (exact host params) terms r) e;
  } where
    terms : List Ordered
    terms = map view.plain w.filter

    values : Meaning Ordered → Row → Option (List Value)
    values m r = each (λ a. m.value a.expr r) (view.update w).assignments

    own : (r u : Row) (us : List Row) → key_of def u ≡ key_of def r → single u ≡ us → IsAtMostOne (key_of def) (key_of def r) us
    own r u us key is = inr (u, sym is, key)

    put : (r : Row) (us : List Row) (o : Option (List Value)) → option_map single (option_map (λ vs. put_all def.columns (places w) vs r) o) ≡ Some us
        → IsAtMostOne (key_of def) (key_of def r) us
    put r us None e = absurd cc
    put r us (Some vs) e =
        own r (put_all def.columns (places w) vs r) us (key_stays def (places w) vs r (of_places w.assignments ∙ spared)) (some_is (single (put_all def.columns (places w) vs r)) us e)

    few : (r : Row) (us : List Row) (o : Option Bool) → option_map single (new_row w (exact host params) r o) ≡ Some us → IsAtMostOne (key_of def) (key_of def r) us
    few r us None e = absurd cc
    few r us (Some true) e = put r us (values (exact host params) r) e
    few r us (Some false) e = own r r us refl (some_is (single r) us e)

pub deletes_by_keys : {X : Type 0} → DeletesByKeys X
deletes_by_keys host params def site kept w keys result changes_in keyed defaults are of others c =
    let stage : List Change → TableDef → Stage (List Row) = λ cs d m. gather (left_by w m) (rows cs d) in
    subst (λ d. Changes host params def site kept (stage kept d) result changes_in) (sym of)
    (all_makes host params def keyed defaults kept are keys (left_by w) (deletes host params def kept keys w others)
    site result changes_in
    (subst (λ d. Changes host params def site (of_keys def keys kept) (stage (of_keys def keys kept) d) result changes_in) of c))

pub updates_by_keys : {X : Type 0} → UpdatesByKeys X
updates_by_keys host params def site kept w keys result changes_in keyed defaults are of spared others c =
    let stage : List Change → TableDef → Stage (List Row) = λ cs d m. wanted_by_update m d.columns (view.update w) (rows cs d) in
    subst (λ d. Changes host params def site kept (stage kept d) result changes_in) (sym of)
    (all_makes host params def keyed defaults kept are keys (made_by def w)
    (updates host params def kept keys w (subst (λ d. list_any (is_to_key d) w.assignments ≡ false) of spared) others)
    site result changes_in
    (subst (λ d. Changes host params def site (of_keys def keys kept) (stage (of_keys def keys kept) d) result changes_in) of c))
