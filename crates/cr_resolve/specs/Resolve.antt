-- A statement once its names are resolved and its questions are answered, or the first thing that stands against it.
-- Source: this project's own order of refusals.
use Rattle.std.specs.Prelude.{◌≡◌, Bool, false, List, [], ◌∷◌, ◌++◌, map, codes, Option, Some, None, Result, Ok, Err, if◌then◌else◌}
use Rattle.std.specs.Option.{is_some, is_none, option_to_list}
use Rattle.std.specs.List.{flat_map, list_any}
use Rattle.std.specs.Str.{bytes_eq, str_to_ascii_lowercase}
use Rattle.cr_value.specs.declared.value.Value.TheVariants.{Text}
use Rattle.cr_tree.specs.declared.expr.Expr.{Expr as Tree, out-Expr}
use Rattle.cr_tree.specs.declared.expr.Expr.TheOpen.{Expr-F, Literal, Call}
use Rattle.cr_tree.specs.declared.statement.Shown.{Shown}
use Rattle.cr_tree.specs.declared.statement.Shown.TheVariants.{One}
use Rattle.cr_tree.specs.declared.statement.Tables.{Tables}
use Rattle.cr_tree.specs.declared.statement.Select.{Select}
use Rattle.cr_tree.specs.declared.statement.Statement.{Statement}
use Rattle.cr_tree.specs.declared.statement.Statement.TheVariants as s
use Rattle.cr_term.specs.declared.query.Resolved.{Resolved}
use Rattle.cr_term.specs.declared.query.Resolved.TheVariants as r
use Rattle.cr_resolve.specs.declared.refusal.Refusal.{Refusal}
use Rattle.cr_resolve.specs.declared.refusal.Refusal.TheVariants.{OutOfProfile, Denied, Memory}
use Rattle.cr_resolve.specs.declared.refusal.Outside.TheVariants.{Real}
use Rattle.cr_questions.specs.declared.question.Question.{Question}
use Rattle.cr_resolve.specs.Reading.{Read, fine, with, when}
use Rattle.cr_resolve.specs.Known.{Known, table}
use Rattle.cr_resolve.specs.Trees.{casts}
use Rattle.cr_resolve.specs.Expressions.{cast_target}
use Rattle.cr_resolve.specs.Queries.{select, or_none}
use Rattle.cr_resolve.specs.Writes.{insert, update, delete}
use Rattle.cr_resolve.specs.Creates.{create, alter}
use Rattle.cr_questions.specs.Questions.{Name, Answers, questions, first_denied, left_of}

-- ---- the expressions of a statement as they are written, in source order

abbrev pub shown_trees : Shown → List Tree
shown_trees (One t alias) = t ∷ []
shown_trees _ = []

abbrev pub on_trees : Option Tables → List Tree
on_trees None = []
on_trees (Some t) = flat_map (λ j. option_to_list j.on) t.joins

abbrev pub select_trees : Select → List Tree
select_trees q = flat_map shown_trees q.shown ++ on_trees q.from ++ option_to_list q.filter ++ or_none q.group ++ option_to_list q.having ++ map (λ t. t.expr) (or_none q.order)

abbrev pub trees : Statement → List Tree
trees (s.Select q) = select_trees q
trees (s.Insert i) = flat_map (λ row. row) i.rows
trees (s.Update u) = map (λ a. a.value) u.assignments ++ option_to_list u.filter
trees (s.Delete d) = option_to_list d.filter
trees (s.Create c) = []
trees (s.Alter a) = []
trees (s.Begin mode) = []
trees s.Commit = []
trees s.Rollback = []

-- a CAST to another type than the three, which is told before all names
abbrev pub cast_outside : Statement → List Refusal
cast_outside x = when (list_any (λ words. is_none (cast_target words)) (flat_map casts (trees x))) (OutOfProfile Real)

-- ---- SELECT crsql_as_crr('t')

abbrev pub text_node : {A B : Type 0} → Expr-F A B → Option Name
text_node (Literal (Text t)) = Some t
text_node _ = None

abbrev pub only_text : List Tree → Option Name
only_text (x ∷ []) = text_node (out-Expr x)
only_text _ = None

abbrev pub marked_node : {B : Type 0} → Expr-F Tree B → Option Name
marked_node (Call name args) = if bytes_eq name (codes "crsql_as_crr") then only_text args else None
marked_node _ = None

abbrev pub marked_shown : List Shown → Option Name
marked_shown (One t None ∷ []) = marked_node (out-Expr t)
marked_shown _ = None

abbrev pub is_bare : Select → Bool
is_bare q = if q.distinct then false else if is_some q.from then false else if is_some q.filter then false else if is_some q.group then false else if is_some q.having then false else if is_some q.order then false else is_none q.limit

-- the table that the whole statement marks, if it is that statement
abbrev pub marked : Select → Option Name
marked q = if is_bare q then marked_shown q.shown else None

abbrev pub select_or_mark : Known → Select → Option Name → Read Resolved
select_or_mark known q (Some name) = with (λ t. r.MarkReplicated (record { relation = t; is_ignored = false })) (table known (str_to_ascii_lowercase name))
select_or_mark known q None = with r.Select (select known q)

-- ---- the whole

abbrev pub read : Known → Statement → Read Resolved
read known (s.Select q) = select_or_mark known q (marked q)
read known (s.Insert i) = with r.Insert (insert known i)
read known (s.Update u) = with r.Update (update known u)
read known (s.Delete d) = with r.Delete (delete known d)
read known (s.Create c) = with r.Create (create known c)
read known (s.Alter a) = with r.Alter (alter known a)
read known (s.Begin mode) = fine r.Begin
read known s.Commit = fine r.Commit
read known s.Rollback = fine r.Rollback

-- all that stands against a statement, in the order in which it is told
abbrev pub complaints : Known → Statement → List Refusal
complaints known x = cast_outside x ++ (read known x).bad

abbrev pub or_allowed : Answers → Resolved → Option Question → Result Resolved Refusal
or_allowed answers x (Some q) = Err (Denied q)
or_allowed answers x None = Ok (left_of answers x)

abbrev pub judged : Answers → Resolved → List Refusal → Result Resolved Refusal
judged answers x (f ∷ fs) = Err f
judged answers x [] = or_allowed answers x (first_denied answers (questions x))

-- a statement as it is evaluated, or its refusal
abbrev pub resolved : Known → Answers → Statement → Result Resolved Refusal
resolved known answers x = judged answers (read known x).made (complaints known x)

-- an answer is what is meant, or there was no memory
abbrev pub Resolves : Result Resolved Refusal → Result Resolved Refusal → Type 0
Resolves (Ok x) meant = meant ≡ Ok x
Resolves (Err Memory) meant = Unit {0}
Resolves (Err f) meant = meant ≡ Err f
