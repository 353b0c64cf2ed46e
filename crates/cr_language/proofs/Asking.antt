-- What is asked about a select, and what is left of it, doesn't depend on where its relations stand.
use Rattle.std.proofs.Common.{◌≡◌, ◌∙◌, Bool, true, false, List, [], ◌∷◌, ◌++◌, map, filter, Option, Some, None, Ok, refl, ap, sym}
use Rattle.std.specs.Prelude.{get_or, not, ◌||◌, if◌then◌else◌, Result}
use Rattle.std.specs.Option.{option_to_list}
use Rattle.std.specs.List.{flat_map, list_any}
use Rattle.std.specs.Str.{bytes_eq}
use Rattle.cr_host.specs.declared.meaning.Action.TheVariants as action
use Rattle.cr_tree.specs.declared.statement.Select.{Select}
use Rattle.cr_tree.specs.declared.statement.Statement.TheVariants as s
use Rattle.cr_term.specs.declared.expr.Column.{Column as Field}
use Rattle.cr_term.specs.declared.expr.Expr.{Expr}
use Rattle.cr_term.specs.declared.expr.When.{When}
use Rattle.cr_term.specs.declared.expr.Expr.TheOpen.{Expr-F, Literal, Param, Column, Shown, Unary, Arithmetic, Join, Like, Logic, Compare, Collate, Cast, In, Between, Case, BuiltIn, Host, Aggregate, SiteId, DbVersion}
use Rattle.cr_term.specs.declared.expr.Expr.TheFolds.{fold-Expr}
use Rattle.cr_term.specs.Nodes as e
use Rattle.cr_term.specs.Build.{built}
use Rattle.cr_term.specs.Parts.{parts, arm, columns}
use Rattle.cr_term.specs.declared.query.Relation.{Relation}
use Rattle.cr_term.specs.declared.query.Joined.{Joined}
use Rattle.cr_term.specs.declared.query.Query.{Query}
use Rattle.cr_term.specs.declared.query.Resolved.{Resolved}
use Rattle.cr_term.specs.declared.query.Resolved.TheVariants as r
use Rattle.cr_resolve.specs.declared.refusal.Refusal.{Refusal}
use Rattle.cr_questions.specs.declared.question.Question.{Question}
use Rattle.cr_resolve.specs.Known.{Known}
use Rattle.cr_resolve.specs.Reading.{Read, with}
use Rattle.cr_resolve.specs.Trees.{calls}
use Rattle.cr_value.specs.declared.value.Value.TheVariants.{Null}
use Rattle.cr_resolve.specs.Queries.{select}
use Rattle.cr_questions.specs.Questions.{Name, Answers, ask, no_table, no_column, relation_at, read_of, question_of, asked, asked_all, relations_of, exprs_of, is_read, bare_reads, select_questions, first_denied, is_gone, left_arm, left, left_joined, left_query, left_of}
use Rattle.cr_resolve.specs.Resolve.{trees, cast_outside, marked, select_or_mark, or_allowed, judged, resolved}
use Rattle.cr_language.specs.Laws.{unplaced, unplaced_joined, unplaced_query, unplaced_resolved, unplaced_outcome, asks, SelectsLookAtTheirNames}
use Rattle.cr_language.proofs.Lists.{both, map_map, flat_map_map, get_map, none_are, all_parts}
use Rattle.cr_language.proofs.Selects.{are_quiet, selects_alike}

at_same : (rs : List Relation) (c : Field) → relation_at (map unplaced rs) c ≡ unplaced (relation_at rs c)
at_same rs c = get_map unplaced rs c.source no_table

abbrev read_in : Relation → Field → Question
read_in x c = ask action.Read x.definition.name (get_or x.definition.columns c.place no_column).name

read_same : (rs : List Relation) (c : Field) → read_of (map unplaced rs) c ≡ read_of rs c
read_same rs c = ap (λ (x : Relation). read_in x c) (at_same rs c)

question_same : {A C : Type 0} (rs : List Relation) (n : Expr-F A C) → question_of (map unplaced rs) n ≡ question_of rs n
question_same rs (Literal v) = refl
question_same rs (Param n) = refl
question_same rs (Column c) = ap Some (read_same rs c)
question_same rs (Shown n x) = refl
question_same rs (Unary op x) = refl
question_same rs (Arithmetic op x y) = refl
question_same rs (Join x y) = refl
question_same rs (Like n x y) = refl
question_same rs (Logic op x y) = refl
question_same rs (Compare op m x y) = refl
question_same rs (Collate x name) = refl
question_same rs (Cast to x) = refl
question_same rs (In n m x items) = refl
question_same rs (Between n m l x low high) = refl
question_same rs (Case x arms other) = refl
question_same rs (BuiltIn f args) = refl
question_same rs (Host name args) = refl
question_same rs (Aggregate kind args) = refl
question_same rs (SiteId b) = refl
question_same rs (DbVersion n) = refl

asked_same : (rs : List Relation) → asked (map unplaced rs) ≡ asked rs
asked_same rs = λ i. fold-Expr (List Question) (List Question) (λ n. option_to_list (question_same rs n i) ++ parts n) arm

left_same : (answers : Answers) (rs : List Relation) → left answers (map unplaced rs) ≡ left answers rs
left_same answers rs = λ i. fold-Expr Expr When (λ n. if is_gone answers (question_same rs n i) then e.Literal Null else built n) left_arm

-- ---- queries

relations_are : (q : Query) → relations_of (unplaced_query q) ≡ map unplaced (relations_of q)
relations_are q =
    map_map unplaced_joined (λ j. j.relation) (λ j. unplaced j.relation) (λ j. refl) q.joined
    ∙ sym (map_map (λ (j : Joined). j.relation) unplaced (λ j. unplaced j.relation) (λ j. refl) q.joined)

exprs_are : (q : Query) → exprs_of (unplaced_query q) ≡ exprs_of q
exprs_are q =
    ap (λ (ons : List Expr). map (λ x. x.expr) q.results ++ ons ++ q.filter ++ map (λ g. g.expr) q.groups ++ option_to_list q.having ++ map (λ t. t.expr) q.order)
    (flat_map_map unplaced_joined (λ j. j.on) (λ j. j.on) (λ j. refl) q.joined)

abbrev of_read : Relation → Question
of_read x = ask action.Read x.definition.name []

is_read_same : (rs : List Relation) (fields : List Field) (name : Name) → is_read (map unplaced rs) fields name ≡ is_read rs fields name
is_read_same rs [] name = refl
is_read_same rs (f ∷ fs) name = λ i. bytes_eq name (at_same rs f i).definition.name || is_read_same rs fs name i

bare_one : (b : Bool) (x : Relation) (us xs : List Relation) → map of_read us ≡ map of_read xs → map of_read (if b then unplaced x ∷ us else us) ≡ map of_read (if b then x ∷ xs else xs)
bare_one true x us xs e = ap (λ qs. of_read x ∷ qs) e
bare_one false x us xs e = e

bare_map : (f : Name → Bool) (rs : List Relation) → map of_read (filter (λ x. not (f x.definition.name)) (map unplaced rs)) ≡ map of_read (filter (λ x. not (f x.definition.name)) rs)
bare_map f [] = refl
bare_map f (x ∷ xs) = bare_one (not (f x.definition.name)) x (filter (λ x. not (f x.definition.name)) (map unplaced xs)) (filter (λ x. not (f x.definition.name)) xs) (bare_map f xs)

bare_same : (rs : List Relation) (fields : List Field) → bare_reads (map unplaced rs) fields ≡ bare_reads rs fields
bare_same rs fields =
    (λ i. map of_read (filter (λ x. not (is_read_same rs fields x.definition.name i)) (map unplaced rs)))
    ∙ bare_map (is_read rs fields) rs

abbrev questions_by : List Relation → List Expr → List Question
questions_by rs es = ask action.Select [] [] ∷ asked_all rs es ++ bare_reads rs (flat_map columns es)

questions_same : (q : Query) → select_questions (unplaced_query q) ≡ select_questions q
questions_same q =
    both questions_by _ _ _ _ (relations_are q) (exprs_are q)
    ∙ (λ i. ask action.Select [] [] ∷ flat_map (asked_same (relations_of q) i) (exprs_of q) ++ bare_same (relations_of q) (flat_map columns (exprs_of q)) i)

joined_left : (f : Expr → Expr) (js : List Joined) → map (left_joined f) (map unplaced_joined js) ≡ map unplaced_joined (map (left_joined f) js)
joined_left f [] = refl
joined_left f (j ∷ js) = ap (λ xs. left_joined f (unplaced_joined j) ∷ xs) (joined_left f js)

left_unplaced : (f : Expr → Expr) (q : Query) → left_query f (unplaced_query q) ≡ unplaced_query (left_query f q)
left_unplaced f q = ap (λ (js : List Joined). record (left_query f q) { joined = js }) (joined_left f q.joined)

left_is : (answers : Answers) (q : Query) → left_of answers (r.Select (unplaced_query q)) ≡ r.Select (unplaced_query (left_query (left answers (relations_of q)) q))
left_is answers q =
    ap (λ (f : Expr → Expr). r.Select (left_query f (unplaced_query q))) (ap (left answers) (relations_are q) ∙ left_same answers (relations_of q))
    ∙ ap r.Select (left_unplaced (left answers (relations_of q)) q)

-- ---- the whole

unplaced_twice : (z : Query) → r.Select (unplaced_query (unplaced_query z)) ≡ r.Select (unplaced_query z)
unplaced_twice z = ap (λ (js : List Joined). r.Select (record z { joined = js })) (map_map unplaced_joined unplaced_joined unplaced_joined (λ j. refl) z.joined)

allowed_same : (answers : Answers) (q : Query) (o : Option Question) → unplaced_outcome (or_allowed answers (r.Select (unplaced_query q)) o) ≡ unplaced_outcome (or_allowed answers (r.Select q) o)
allowed_same answers q None = ap (λ (x : Resolved). Ok (unplaced_resolved x)) (left_is answers q) ∙ ap Ok (unplaced_twice (left_query (left answers (relations_of q)) q))
allowed_same answers q (Some x) = refl

judged_same : (answers : Answers) (q : Query) (bad : List Refusal) → unplaced_outcome (judged answers (r.Select (unplaced_query q)) bad) ≡ unplaced_outcome (judged answers (r.Select q) bad)
judged_same answers q (f ∷ fs) = refl
judged_same answers q [] =
    ap (λ (qs : List Question). unplaced_outcome (or_allowed answers (r.Select (unplaced_query q)) (first_denied answers qs))) (questions_same q)
    ∙ allowed_same answers q (first_denied answers (select_questions q))

-- what is told of a query as it is read
abbrev of_read_query : Answers → List Refusal → Read Query → Result Resolved Refusal
of_read_query answers casts q = unplaced_outcome (judged answers (r.Select q.made) (casts ++ q.bad))

outcome_is : (known : Known) (answers : Answers) (q : Select) → marked q ≡ None
    → unplaced_outcome (resolved known answers (s.Select q)) ≡ of_read_query answers (cast_outside (s.Select q)) (with unplaced_query (select known q))
outcome_is known answers q e =
    ap (λ (o : Option Name). unplaced_outcome (judged answers (select_or_mark known q o).made (cast_outside (s.Select q) ++ (select_or_mark known q o).bad))) e
    ∙ sym (judged_same answers (select known q).made (cast_outside (s.Select q) ++ (select known q).bad))

unnegated : (b : Bool) → not b ≡ true → b ≡ false
unnegated true e = absurd (let z : ⊥ = cc in z)
unnegated false e = refl

pub look_at_their_names : SelectsLookAtTheirNames
look_at_their_names known c d answers q unmarked quiet names =
    let h = are_quiet q (all_parts (λ n. asks n ≡ false) calls (trees (s.Select q)) (none_are asks (flat_map calls (trees (s.Select q))) (unnegated (list_any asks (flat_map calls (trees (s.Select q)))) quiet))) in
    outcome_is (record known { catalog = c }) answers q unmarked
    ∙ ap (of_read_query answers (cast_outside (s.Select q))) (selects_alike known c d q h names)
    ∙ sym (outcome_is (record known { catalog = d }) answers q unmarked)
