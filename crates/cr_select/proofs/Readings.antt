-- A query whose names are read, part by part.
use Rattle.std.proofs.Common.{◌≡◌, ◌∙◌, ℕ, ◌+◌, ◌<◌, Bool, true, false, ◌||◌, List, [], ◌∷◌, ◌++◌, length, map, drop, get_or, Option, refl, sym, ap, subst, append_assoc}
use Rattle.std.specs.Option.{option_map}
use Rattle.cr_tree.specs.declared.statement.Select.{Select}
use Rattle.cr_term.specs.declared.expr.Expr.{Expr}
use Rattle.cr_term.specs.declared.query.Joined.{Joined}
use Rattle.cr_term.specs.declared.query.GroupTerm.{GroupTerm}
use Rattle.cr_term.specs.declared.query.OrderTerm.{OrderTerm}
use Rattle.cr_term.specs.Operands.{collation_of}
use Rattle.cr_questions.specs.Questions.{Name}
use Rattle.cr_resolve.specs.declared.refusal.Refusal.{Refusal}
use Rattle.cr_resolve.specs.declared.reading.Made.{Made}
use Rattle.cr_resolve.specs.Known.{Known, collation, collations}
use Rattle.cr_resolve.specs.Reading.{Read, fine, each, if_any}
use Rattle.cr_resolve.specs.declared.scope.Source.{Source}
use Rattle.cr_resolve.specs.Expressions.{expr}
use Rattle.cr_resolve.specs.Queries.{Result as ResultOf, Named as NamedQuery, distinct_collations, group_term, joined_from, named, or_none, order_term, results_of, sources_of, written}
use Rattle.cr_resolve.specs.Told.{told, Refuses}
use Rattle.cr_resolve.proofs.InSight.{rest_at}
use Rattle.cr_resolve.proofs.Refusals.{ahead}
use Rattle.cr_select.specs.declared.outputs.Output.{Output}
use Rattle.cr_select.specs.Outputs.{as_result}
use Rattle.cr_select.specs.Named.{Before, Behind, before, behind, whole, front, back, named_in}

past : (xs ys : List Refusal) (f : Refusal) → xs ≡ [] → Refuses ys f → Refuses (xs ++ ys) f
past xs ys f is h = subst (λ (zs : List Refusal). Refuses (zs ++ ys) f) (sym is) h

-- ---- collations of result columns

abbrev pub output_collations : Known → List Output → List Refusal
output_collations known os = collations known (map (λ r. collation_of (r.expr ∷ [])) (map as_result os))

opened : (known : Known) (os : List Output) (i : ℕ) (o : Output) → i < length os → o ≡ get_or os i o
    → output_collations known (drop i os) ≡ collation known (collation_of (o.expr ∷ [])) ++ output_collations known (drop (i + 1) os)
opened known os i o h e = ap (output_collations known) (rest_at os i o h e)

pub collation_next : (known : Known) (os : List Output) (i : ℕ) (o : Output) (n : Name) (bad : List Refusal) → i < length os → o ≡ get_or os i o → n ≡ collation_of (o.expr ∷ [])
    → collation known n ≡ [] → output_collations known (drop i os) ≡ bad → output_collations known (drop (i + 1) os) ≡ bad
collation_next known os i o n bad h e is k q =
    let none : collation known (collation_of (o.expr ∷ [])) ≡ [] = ap (collation known) (sym is) ∙ k in
    sym (ap (λ fs. fs ++ output_collations known (drop (i + 1) os)) none) ∙ sym (opened known os i o h e) ∙ q

pub collation_fails : (known : Known) (os : List Output) (i : ℕ) (o : Output) (n : Name) (bad : List Refusal) (f : Refusal) → i < length os → o ≡ get_or os i o → n ≡ collation_of (o.expr ∷ [])
    → Refuses (collation known n) f → output_collations known (drop i os) ≡ bad → Refuses bad f
collation_fails known os i o n bad f h e is r q =
    let mine : Refuses (collation known (collation_of (o.expr ∷ []))) f = subst (λ (m : Name). Refuses (collation known m) f) is r in
    subst (λ (fs : List Refusal). Refuses fs f) (sym (opened known os i o h e) ∙ q) (ahead (collation known (collation_of (o.expr ∷ []))) (output_collations known (drop (i + 1) os)) f mine)

-- ---- the parts, from left to right

module _ (known : Known) (ss : List Source) (q : Select) where
  abbrev ons : Read (List Joined)
  ons = joined_from known ss 0 (written q.from) ss

  abbrev filter : Read (Option Expr)
  filter = if_any (option_map (expr known ss false) q.filter)

  pub in_results : (f : Refusal) → Refuses (results_of known ss q.shown).bad f → Refuses (front known ss q).bad f
  unfolding front
  in_results f h = ahead (results_of known ss q.shown).bad (ons.bad ++ filter.bad) f h

  pub in_ons : (m : Made (List ResultOf)) (f : Refusal) → results_of known ss q.shown ≡ told m → Refuses ons.bad f → Refuses (front known ss q).bad f
  unfolding front
  in_ons m f is h = past (results_of known ss q.shown).bad (ons.bad ++ filter.bad) f (ap (λ (r : Read (List ResultOf)). r.bad) is) (ahead ons.bad filter.bad f h)

  pub in_filter : (m : Made (List ResultOf)) (j : Made (List Joined)) (f : Refusal) → results_of known ss q.shown ≡ told m → ons ≡ told j → Refuses filter.bad f → Refuses (front known ss q).bad f
  unfolding front
  in_filter m j f is there h =
      past (results_of known ss q.shown).bad (ons.bad ++ filter.bad) f (ap (λ (r : Read (List ResultOf)). r.bad) is) (past ons.bad filter.bad f (ap (λ (r : Read (List Joined)). r.bad) there) h)

  pub front_read : (m : Made (List ResultOf)) (j : Made (List Joined)) (w : Made (Option Expr)) → results_of known ss q.shown ≡ told m → ons ≡ told j → filter ≡ told w
      → front known ss q ≡ told (record { made = record { results = m.made; joined = j.made; filter = w.made }; is_misplaced = (m.is_misplaced || j.is_misplaced) || w.is_misplaced })
  unfolding front
  front_read m j w is there kept =
      ap (λ (r : Read (List ResultOf)). before r ons filter) is ∙ ap (λ (r : Read (List Joined)). before (told m) r filter) there ∙ ap (λ (r : Read (Option Expr)). before (told m) (told j) r) kept

  module _ (rs : List ResultOf) where
    abbrev groups : Read (List GroupTerm)
    groups = each (map (group_term known ss rs) (or_none q.group))

    abbrev having : Read (Option Expr)
    having = if_any (option_map (expr known ss true) q.having)

    abbrev order : Read (List OrderTerm)
    order = each (map (order_term known ss rs) (or_none q.order))

    abbrev distinct : List Refusal
    distinct = distinct_collations known q.distinct rs

    pub in_groups : (f : Refusal) → Refuses groups.bad f → Refuses (back known ss rs q).bad f
    unfolding back
    in_groups f h = ahead groups.bad (having.bad ++ (order.bad ++ distinct)) f h

    pub in_having : (g : Made (List GroupTerm)) (f : Refusal) → groups ≡ told g → Refuses having.bad f → Refuses (back known ss rs q).bad f
    unfolding back
    in_having g f is h = past groups.bad (having.bad ++ (order.bad ++ distinct)) f (ap (λ (r : Read (List GroupTerm)). r.bad) is) (ahead having.bad (order.bad ++ distinct) f h)

    pub in_order : (g : Made (List GroupTerm)) (w : Made (Option Expr)) (f : Refusal) → groups ≡ told g → having ≡ told w → Refuses order.bad f → Refuses (back known ss rs q).bad f
    unfolding back
    in_order g w f is had h =
        past groups.bad (having.bad ++ (order.bad ++ distinct)) f (ap (λ (r : Read (List GroupTerm)). r.bad) is)
        (past having.bad (order.bad ++ distinct) f (ap (λ (r : Read (Option Expr)). r.bad) had) (ahead order.bad distinct f h))

    pub in_distinct : (g : Made (List GroupTerm)) (w : Made (Option Expr)) (o : Made (List OrderTerm)) (f : Refusal) → groups ≡ told g → having ≡ told w → order ≡ told o
        → Refuses distinct f → Refuses (back known ss rs q).bad f
    unfolding back
    in_distinct g w o f is had by h =
        past groups.bad (having.bad ++ (order.bad ++ distinct)) f (ap (λ (r : Read (List GroupTerm)). r.bad) is)
        (past having.bad (order.bad ++ distinct) f (ap (λ (r : Read (Option Expr)). r.bad) had) (past order.bad distinct f (ap (λ (r : Read (List OrderTerm)). r.bad) by) h))

    pub back_read : (g : Made (List GroupTerm)) (w : Made (Option Expr)) (o : Made (List OrderTerm)) → groups ≡ told g → having ≡ told w → order ≡ told o → distinct ≡ []
        → back known ss rs q ≡ told (record { made = record { groups = g.made; having = w.made; order = o.made }; is_misplaced = (g.is_misplaced || w.is_misplaced) || o.is_misplaced })
    unfolding back
    back_read g w o is had by none =
        ap (λ (r : Read (List GroupTerm)). behind r having order distinct) is ∙ ap (λ (r : Read (Option Expr)). behind (told g) r order distinct) had
        ∙ ap (λ (r : Read (List OrderTerm)). behind (told g) (told w) r distinct) by ∙ ap (λ (fs : List Refusal). behind (told g) (told w) (told o) fs) none

  -- ---- both halves

  pub in_front : (f : Refusal) → Refuses (front known ss q).bad f → Refuses (named_in known ss q).bad f
  unfolding named_in
  in_front f h = ahead (front known ss q).bad (back known ss (front known ss q).made.results q).bad f h

  pub in_back : (m : Made Before) (f : Refusal) → front known ss q ≡ told m → Refuses (back known ss m.made.results q).bad f → Refuses (named_in known ss q).bad f
  unfolding named_in
  in_back m f is h = subst (λ (r : Read Before). Refuses (whole r (back known ss r.made.results q)).bad f) (sym is) h

  pub both_read : (m : Made Before) (n : Made Behind) → front known ss q ≡ told m → back known ss m.made.results q ≡ told n
      → named_in known ss q ≡ told (record {
        made = record { results = m.made.results; joined = m.made.joined; filter = m.made.filter; groups = n.made.groups; having = n.made.having; order = n.made.order };
        is_misplaced = m.is_misplaced || n.is_misplaced;
      })
  unfolding named_in
  both_read m n is had = ap (λ (r : Read Before). whole r (back known ss r.made.results q)) is ∙ ap (λ (r : Read Behind). whole (told m) r) had

-- ---- behind the tables

six : (a b c d e f : Bool) → ((a || b) || c) || ((d || e) || f) ≡ (a || b || c || d || e || f)
six true b c d e f = refl
six false true c d e f = refl
six false false true d e f = refl
six false false false true e f = refl
six false false false false true f = refl
six false false false false false f = refl

seven : (a b c d e f g : List Refusal) → (a ++ (b ++ c)) ++ (d ++ (e ++ (f ++ g))) ≡ a ++ b ++ c ++ d ++ e ++ f ++ g
seven a b c d e f g = simp append_assoc

eight : (s a b c d e f g : List Refusal) → s ++ (a ++ (b ++ (c ++ (d ++ (e ++ (f ++ g)))))) ≡ s ++ a ++ b ++ c ++ d ++ e ++ f ++ g
eight s a b c d e f g = simp append_assoc

-- what the definition makes of sources
abbrev over : Known → Select → Read (List Source) → Read NamedQuery
over known q sources =
    let results : Read (List ResultOf) = results_of known sources.made q.shown in
    let ons : Read (List Joined) = joined_from known sources.made 0 (written q.from) sources.made in
    let filter : Read (Option Expr) = if_any (option_map (expr known sources.made false) q.filter) in
    let groups : Read (List GroupTerm) = each (map (group_term known sources.made results.made) (or_none q.group)) in
    let having : Read (Option Expr) = if_any (option_map (expr known sources.made true) q.having) in
    let order : Read (List OrderTerm) = each (map (order_term known sources.made results.made) (or_none q.order)) in
    record {
      bad = sources.bad ++ results.bad ++ ons.bad ++ filter.bad ++ groups.bad ++ having.bad ++ order.bad ++ distinct_collations known q.distinct results.made;
      misplaced = results.misplaced || ons.misplaced || filter.misplaced || groups.misplaced || having.misplaced || order.misplaced;
      made = record { results = results.made; joined = ons.made; filter = filter.made; groups = groups.made; having = having.made; order = order.made };
    }

pub no_source : (known : Known) (q : Select) (f : Refusal) → Refuses (sources_of known (written q.from)).bad f → Refuses (named known q).bad f
no_source known q f h =
    let ss : Read (List Source) = sources_of known (written q.from) in
    let r : Read (List ResultOf) = results_of known ss.made q.shown in
    let o : Read (List Joined) = joined_from known ss.made 0 (written q.from) ss.made in
    let w : Read (Option Expr) = if_any (option_map (expr known ss.made false) q.filter) in
    let g : Read (List GroupTerm) = each (map (group_term known ss.made r.made) (or_none q.group)) in
    let v : Read (Option Expr) = if_any (option_map (expr known ss.made true) q.having) in
    let t : Read (List OrderTerm) = each (map (order_term known ss.made r.made) (or_none q.order)) in
    let d : List Refusal = distinct_collations known q.distinct r.made in
    subst (λ (fs : List Refusal). Refuses fs f) (eight ss.bad r.bad o.bad w.bad g.bad v.bad t.bad d) (ahead ss.bad (r.bad ++ (o.bad ++ (w.bad ++ (g.bad ++ (v.bad ++ (t.bad ++ d)))))) f h)

pub over_sources : (known : Known) (q : Select) (ss : List Source) → sources_of known (written q.from) ≡ fine ss → named known q ≡ named_in known ss q
unfolding named_in front back
over_sources known q ss is =
    let r : Read (List ResultOf) = results_of known ss q.shown in
    let o : Read (List Joined) = joined_from known ss 0 (written q.from) ss in
    let w : Read (Option Expr) = if_any (option_map (expr known ss false) q.filter) in
    let g : Read (List GroupTerm) = each (map (group_term known ss r.made) (or_none q.group)) in
    let h : Read (Option Expr) = if_any (option_map (expr known ss true) q.having) in
    let t : Read (List OrderTerm) = each (map (order_term known ss r.made) (or_none q.order)) in
    let d : List Refusal = distinct_collations known q.distinct r.made in
    let made : NamedQuery = record { results = r.made; joined = o.made; filter = w.made; groups = g.made; having = h.made; order = t.made } in
    let bad : List Refusal → Read NamedQuery = λ fs. record { bad = fs; misplaced = r.misplaced || o.misplaced || w.misplaced || g.misplaced || h.misplaced || t.misplaced; made = made } in
    let flag : Bool → Read NamedQuery = λ b. record { bad = (r.bad ++ (o.bad ++ w.bad)) ++ (g.bad ++ (h.bad ++ (t.bad ++ d))); misplaced = b; made = made } in
    ap (over known q) is ∙ sym (ap bad (seven r.bad o.bad w.bad g.bad h.bad t.bad d)) ∙ sym (ap flag (six r.misplaced o.misplaced w.misplaced g.misplaced h.misplaced t.misplaced))
