-- The rows that pass of a table are those of its pages, one behind another.
use Rattle.std.proofs.Common.{◌≡◌, ◌∙◌, ℕ, ◌<◌, ◌≤◌, arith, Bool, true, false, ◌&&◌, cond, List, [], ◌∷◌, ◌++◌, append-nil, length, map, Option, Some, None, refl, sym, ap, subst}
use Rattle.std.specs.Prelude.{filter}
use Rattle.std.specs.Option.{ForSome, is_none}
use Rattle.std.proofs.lemmas.List.{map-append}
use Rattle.std.proofs.lemmas.List.Kept.{IsStrictlySortedBy-filter}
use Rattle.std.specs.Ordering.{is_le, is_lt}
use Rattle.cr_value.specs.declared.value.Value.{Value}
use Rattle.cr_value.specs.Order.{bytes_cmp}
use Rattle.cr_value.proofs.Fields.{some_is}
use Rattle.cr_lattice.specs.declared.change.Change.{Change}
use Rattle.cr_lattice.specs.declared.table.TableDef.{TableDef}
use Rattle.cr_lattice.specs.Change.{change_cmp}
use Rattle.cr_lattice.specs.Check.{same_bytes}
use Rattle.cr_lattice.specs.Keep.{join, keep}
use Rattle.cr_lattice.specs.Rows.{alive_keys, row, rows}
use Rattle.cr_lattice.proofs.Filters.{filter-filter}
use Rattle.cr_lattice.proofs.KeepLaws.{join_keeps_second, sorted-keep}
use Rattle.cr_lattice.proofs.Tested.{and_false, and_true}
use Rattle.cr_cells.specs.Pages.{above, between, up_to}
use Rattle.cr_replica.specs.Snapshots.{is_between, keys_of}
use Rattle.cr_term.specs.declared.expr.Expr.{Expr}
use Rattle.cr_scalar.specs.Host.{Host}
use Rattle.cr_touched.specs.Parts.{is_at, part}
use Rattle.cr_touched.proofs.Parts.{filter-append, keep_part, parts_are_joined, rows_part, sorted_keys}
use Rattle.cr_tables.proofs.Walks.{All, Rises}
use Rattle.cr_query.specs.Query.{Row}
use Rattle.cr_pushdown.specs.Passing.{passes, passing}
use Rattle.cr_pushdown.specs.declared.scan.Scan.{Scan}
use Rattle.cr_pushdown.specs.Scan.{IsFrom, is_behind, is_left, is_of, rows_left}
use Rattle.cr_pushdown.proofs.Orders.{AreOf, LieBehind, all_stay, not_le, one_behind, page_lies, reached, rises_of}

-- ---- parts

-- what a filter leaves passes it
passes_all : (q : Change → Bool) (cs : List Change) → All (λ c. q c ≡ true) (filter q cs)
passes_all q [] = tt
passes_all q (c ∷ cs) =
    elim (q c) as (λ b. q c ≡ b → All (λ d. q d ≡ true) (cond b (c ∷ filter q cs) (filter q cs))) [
      | true ↦ λ e. (e, passes_all q cs)
      | false ↦ λ e. passes_all q cs
    ] refl

of_each : (table : List ℕ) (p : List ℕ → Bool) (cs : List Change) → All (λ c. is_at table p c ≡ true) cs → AreOf table cs
of_each table p [] all = tt
of_each table p (c ∷ cs) all = ((and_true (same_bytes c.table table) (p c.pk) all.0).0, of_each table p cs all.1)

pub part_rises : (table : List ℕ) (p : List ℕ → Bool) (s : List Change) → Rises (part table p (keep s))
unfolding part
part_rises table p s =
    rises_of table (filter (is_at table p) (keep s)) (of_each table p (filter (is_at table p) (keep s)) (passes_all (is_at table p) (keep s)))
    (IsStrictlySortedBy-filter change_cmp (is_at table p) (keep s) (sorted-keep s))

and_so : (b : Bool) → (b && true) ≡ b
and_so true = refl
and_so false = refl

abbrev every : List ℕ → Bool
every k = true

-- the part of all keys
part_whole : (def : TableDef) (cs : List Change) → part def.name every cs ≡ filter (is_of def) cs
unfolding part
part_whole def cs = λ i. filter (λ c. and_so (is_of def c) i) cs

-- what is kept of one table stands by its keys
pub kept_rises : (def : TableDef) (cs : List Change) → Rises (keep (filter (is_of def) cs))
kept_rises def cs = subst Rises (keep_part def.name every cs ∙ ap keep (part_whole def cs)) (part_rises def.name every cs)

-- and is of that table
pub kept_of_one : (def : TableDef) (cs : List Change) → filter (is_of def) (keep (filter (is_of def) cs)) ≡ keep (filter (is_of def) cs)
kept_of_one def cs =
    sym (part_whole def (keep (filter (is_of def) cs))) ∙ keep_part def.name every (filter (is_of def) cs) ∙ ap keep (part_whole def (filter (is_of def) cs) ∙ again cs)
  where
    both : (b : Bool) → (b && b) ≡ b
    both true = refl
    both false = refl

    again : (cs : List Change) → filter (is_of def) (filter (is_of def) cs) ≡ filter (is_of def) cs
    again cs = filter-filter (is_of def) (is_of def) cs ∙ (λ i. filter (λ c. both (is_of def c) i) cs)

again : (x o : Bool) → (x && (o && x)) ≡ (o && x)
again true o = refl
again false o = sym (and_false o)

part_behind : (def : TableDef) (b : List ℕ) (later : List Change) → part def.name (above (Some b)) (filter (is_behind (Some b)) later) ≡ part def.name (above (Some b)) later
unfolding part
part_behind def b later =
    filter-filter (is_at def.name (above (Some b))) (is_behind (Some b)) later
    ∙ (λ i. filter (λ c. (ap (λ x. x && (is_of def c && is_lt (bytes_cmp b c.pk))) (not_le c.pk b) ∙ again (is_lt (bytes_cmp b c.pk)) (is_of def c)) i) later)

-- ---- a page

module _ (def : TableDef) (after bound : Option (List ℕ)) where
  abbrev p : List ℕ → Bool
  p = between after bound

  -- of further changes above a key those up to the page's end are their part
  part_now : (more : List Change) → filter (is_of def) more ≡ more → filter (is_left after) more ≡ more → filter (λ c. up_to bound c.pk) more ≡ part def.name p more
  unfolding part
  part_now more of left =
      ap (filter (λ c. up_to bound c.pk)) (sym left)
      ∙ filter-filter (λ c. up_to bound c.pk) (is_left after) more
      ∙ ap (filter (λ c. p c.pk)) (sym of)
      ∙ filter-filter (λ c. p c.pk) (is_of def) more

  page_part : (kept : List Change) → filter (is_between def.name after bound) kept ≡ part def.name p kept
  unfolding part
  page_part kept = refl

  -- a page of what is kept, and with it further changes, is that of both
  pub page_joined : (kept more page now all : List Change) → filter (is_of def) more ≡ more → filter (is_left after) more ≡ more
      → page ≡ filter (is_between def.name after bound) kept → now ≡ filter (λ c. up_to bound c.pk) more → all ≡ join page now → all ≡ part def.name p (join kept more)
  page_joined kept more page now all of left page_is now_is all_is =
      all_is
      ∙ (λ i. join ((page_is ∙ page_part kept) i) ((now_is ∙ part_now more of left) i))
      ∙ parts_are_joined def.name p kept more

  pub page_kept : (kept page : List Change) → keep kept ≡ kept → page ≡ filter (is_between def.name after bound) kept → keep page ≡ page
  page_kept kept page whole is =
      let of = is ∙ page_part kept in
      ap keep of ∙ sym (keep_part def.name p kept) ∙ ap (part def.name p) whole ∙ sym of

-- a page of some keys ends above the key before it
pub ends_above : (def : TableDef) (after bound : Option (List ℕ)) (limit : ℕ) (kept page : List Change) → 0 < limit → page ≡ filter (is_between def.name after bound) kept
    → ForSome bound (λ b. limit ≤ length (keys_of page)) → ForSome bound (λ b. above after b ≡ true)
ends_above def after None limit kept page some is keys = λ b e. absurd cc
ends_above def after (Some b) limit kept page some is keys =
    λ x e. subst (λ (k : List ℕ). above after k ≡ true) (some_is b x e)
    (by page (subst (All (λ c. is_between def.name after (Some b) c ≡ true)) (sym is) (passes_all (is_between def.name after (Some b)) kept)) (keys b refl))
  where
    by : (page : List Change) → All (λ c. is_between def.name after (Some b) c ≡ true) page → limit ≤ length (keys_of page) → above after b ≡ true
    by [] all none = let zero : length (keys_of []) ≡ 0 = refl in absurd (omega (arith, some, none, zero))
    by (c ∷ cs) all n =
        let within = and_true (above after c.pk) (is_le (bytes_cmp c.pk b)) (and_true (same_bytes c.table def.name) (between after (Some b) c.pk) all.0).1 in
        reached after c.pk b within.0 within.1

-- ---- one page behind another

all_keys : (ks : List (List ℕ)) → filter every ks ≡ ks
all_keys [] = refl
all_keys (k ∷ ks) = ap (λ (ls : List (List ℕ)). k ∷ ls) (all_keys ks)

module _ (host : Host) (params : List Value) (terms : List Expr) (def : TableDef) where
  abbrev of : List Change → List Row
  of = passing host params terms def

  -- the rows that pass of those of some keys
  abbrev of_keys : List Change → List (List ℕ) → List Row
  of_keys cs ks = filter (passes host params terms) (map (row cs def) ks)

  of_part : (p : List ℕ → Bool) (cs : List Change) → of (part def.name p cs) ≡ of_keys cs (filter p (alive_keys cs def.name))
  of_part p cs = ap (filter (passes host params terms)) (rows_part def p cs)

  whole : (cs : List Change) → of (part def.name every cs) ≡ of cs
  unfolding rows
  whole cs = of_part every cs ∙ ap (of_keys cs) (all_keys (alive_keys cs def.name))

  -- what is kept of the table's own changes serves for all
  pub own_joined : (kept changes : List Change) → of (join kept (keep (filter (is_of def) changes))) ≡ of (join kept changes)
  own_joined kept changes =
      let own = keep (filter (is_of def) changes) in
      let parts : part def.name every (join kept own) ≡ part def.name every (join kept changes) =
      sym (parts_are_joined def.name every kept own)
      ∙ ap (join (part def.name every kept)) (part_whole def own ∙ kept_of_one def changes ∙ ap keep (sym (part_whole def changes)))
      ∙ join_keeps_second (part def.name every kept) (part def.name every changes)
      ∙ parts_are_joined def.name every kept changes in
      sym (whole (join kept own)) ∙ ap of parts ∙ whole (join kept changes)

  -- two parts, one behind the other
  pub goes_on : (cs : List Change) (p q r : List ℕ → Bool) → LieBehind p q r → of (part def.name p cs) ++ of (part def.name q cs) ≡ of (part def.name r cs)
  goes_on cs p q r lie =
      let ks = alive_keys cs def.name in
      (λ i. of_part p cs i ++ of_part q cs i)
      ∙ sym (filter-append (passes host params terms) (map (row cs def) (filter p ks)) (map (row cs def) (filter q ks)))
      ∙ ap (filter (passes host params terms)) (sym (map-append (row cs def) (filter p ks) (filter q ks)))
      ∙ ap (of_keys cs) (one_behind p q r lie ks (sorted_keys def.name every cs))
      ∙ sym (of_part r cs)

  -- behind the end of a page the further changes behind it serve for all
  behind_end : (kept later : List Change) (b : List ℕ) → part def.name (above (Some b)) (join kept (filter (is_behind (Some b)) later)) ≡ part def.name (above (Some b)) (join kept later)
  behind_end kept later b =
      let q = above (Some b) in
      sym (parts_are_joined def.name q kept (filter (is_behind (Some b)) later))
      ∙ ap (join (part def.name q kept)) (part_behind def b later)
      ∙ parts_are_joined def.name q kept later

  -- the rows of a page, and those that are left behind it
  pub page_read : (kept later : List Change) (after bound : Option (List ℕ)) (rest : List Change) (is_last : Bool) (page : List Row) → ForSome bound (λ b. above after b ≡ true)
      → rest ≡ filter (is_behind bound) later → is_last ≡ is_none bound → page ≡ of (part def.name (between after bound) (join kept later))
      → page ++ cond is_last [] (of (part def.name (above bound) (join kept rest))) ≡ of (part def.name (above after) (join kept later))
  page_read kept later after None rest is_last page over is last are =
      (λ i. are i ++ cond (last i) [] (of (part def.name (above None) (join kept rest))))
      ∙ append-nil (of (part def.name (between after None) (join kept later)))
      ∙ (λ i. of (part def.name (λ k. and_so (above after k) i) (join kept later)))
  page_read kept later after (Some b) rest is_last page over is last are =
      (λ i. are i ++ cond (last i) [] (of (part def.name (above (Some b)) (join kept (is i)))))
      ∙ ap (λ (cs : List Change). of (part def.name (between after (Some b)) (join kept later)) ++ of cs) (behind_end kept later b)
      ∙ goes_on (join kept later) (between after (Some b)) (above (Some b)) (above after) (page_lies after b (over b refl))

  -- before the first page all is left
  pub all_left : (cs : List Change) → of (part def.name (above None) cs) ≡ of cs
  all_left cs = whole cs

  -- at its beginning
  pub begins_whole : (kept changes own : List Change) (scan : Scan) → own ≡ keep (filter (is_of def) changes) → IsFrom def own scan → rows_left host params terms kept scan ≡ of (join kept changes)
  begins_whole kept changes own scan is from =
      ap (λ b. cond b [] (passing host params terms scan.def.now (part scan.def.now.name (above scan.after) (join kept scan.later.now)))) from.left
      ∙ (λ i. passing host params terms (from.table i) (part (from.table i).name (above (from.after i)) (join kept ((from.later ∙ is) i))))
      ∙ all_left (join kept (keep (filter (is_of def) changes)))
      ∙ own_joined kept changes

-- ---- the further changes that are left

both : (b : Bool) → (b && b) ≡ b
both true = refl
both false = refl

-- they lie behind its end
pub left_behind : (bound : Option (List ℕ)) (later : List Change) → filter (is_left bound) (filter (is_behind bound) later) ≡ filter (is_behind bound) later
left_behind None later = all_stay (filter (is_behind None) later)
left_behind (Some b) later =
    filter-filter (is_left (Some b)) (is_behind (Some b)) later
    ∙ (λ i. filter (λ c. (ap (λ x. x && is_lt (bytes_cmp b c.pk)) (not_le c.pk b) ∙ both (is_lt (bytes_cmp b c.pk)) ∙ sym (not_le c.pk b)) i) later)

pub of_next : (def : TableDef) (bound : Option (List ℕ)) (later : List Change) → filter (is_of def) later ≡ later → filter (is_of def) (filter (is_behind bound) later) ≡ filter (is_behind bound) later
of_next def bound later of =
    filter-filter (is_of def) (is_behind bound) later
    ∙ (λ i. filter (λ c. either_first (is_behind bound c) (is_of def c) i) later)
    ∙ sym (filter-filter (is_behind bound) (is_of def) later)
    ∙ ap (filter (is_behind bound)) of
  where
    either_first : (a b : Bool) → (a && b) ≡ (b && a)
    either_first true b = sym (and_so b)
    either_first false b = sym (and_false b)
