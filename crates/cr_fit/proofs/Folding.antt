-- What is read of folded symbols has folded names.
use Rattle.std.proofs.Common.{◌≡◌, refl, ℕ, true, false, ◌&&◌, List, [], ◌∷◌, ◌++◌, map, Option, Some, None, Result, Ok, Err, IfOk, sym, ap, subst, drop, codes}
use Rattle.std.specs.List.{list_all}
use Rattle.cr_lex.specs.declared.token.Token.{Token}
use Rattle.cr_tree.specs.declared.symbol.Symbol.{Symbol}
use Rattle.cr_tree.specs.declared.symbol.Symbol.TheVariants as k
use Rattle.cr_tree.specs.declared.symbol.Mark.TheVariants as m
use Rattle.cr_tree.specs.declared.statement.Constraint.{Constraint}
use Rattle.cr_tree.specs.declared.statement.Constraint.TheVariants as c
use Rattle.cr_tree.specs.declared.statement.Column.{Column}
use Rattle.cr_tree.specs.declared.statement.Statement.{Statement}
use Rattle.cr_tree.specs.Judging.{IsRead}
use Rattle.cr_tree.specs.Grammar.{sizes_words}
use Rattle.cr_parse.specs.declared.error.ParseError.{ParseError}
use Rattle.cr_parse.specs.declared.error.ParseError.TheVariants as p
use Rattle.cr_parse.proofs.Judged.{judged_read}
use Rattle.cr_statement.specs.Languages.{One, Other, all_words, option_words}
use Rattle.cr_statement.specs.Statements as grammar
use Rattle.cr_statement.specs.Whole as whole
use Rattle.cr_statement.proofs.Whole.{statement_of}
use Rattle.cr_statement.specs.Sql.{told, judged, statement_tokens, statement_symbols}
use Rattle.cr_statement.specs.Sql as sql
use Rattle.cr_statement.specs.Scripts.{next_at, behind, semicolons}
use Rattle.cr_cells.specs.Tables.{is_folded, has_folded_names}
use Rattle.cr_resolve.specs.Creates.{definition, column_def, collation_after}
use Rattle.cr_fit.specs.Folded.{IsFoldedColumn, DefinesFolded, NamesAreFolded}
use Rattle.cr_fit.proofs.Symbols.{all, front, back, IsFolded, are_folded}

-- ---- constraints

abbrev FoldedConstraint : Constraint → Type 0
FoldedConstraint c.PrimaryKey = Unit {0}
FoldedConstraint c.NotNull = Unit {0}
FoldedConstraint (c.Default v) = Unit {0}
FoldedConstraint (c.Collate n) = is_folded n ≡ true

abbrev FoldedConstraints : List Constraint → Type 0
FoldedConstraints [] = Unit {0}
FoldedConstraints (x ∷ xs) = FoldedConstraint x × FoldedConstraints xs

constraint_is : (d : grammar.constraint.D) → all IsFolded (grammar.constraint.words d) → FoldedConstraint (grammar.constraint.value d)
constraint_is (One d) a = tt
constraint_is (Other (One d)) a = tt
constraint_is (Other (Other (One d))) a = tt
constraint_is (Other (Other (Other n))) a = a.1.0

constraints_are : (ds : List grammar.constraint.D) → all IsFolded (all_words grammar.constraint.words ds) → FoldedConstraints (map grammar.constraint.value ds)
constraints_are [] a = tt
constraints_are (d ∷ ds) a = (
  constraint_is d (front IsFolded (grammar.constraint.words d) (all_words grammar.constraint.words ds) a),
  constraints_are ds (back IsFolded (grammar.constraint.words d) (all_words grammar.constraint.words ds) a),
)

collation_is : (name : List ℕ) (cs : List Constraint) → is_folded name ≡ true → FoldedConstraints cs → is_folded (collation_after name cs) ≡ true
collation_is name [] e a = e
collation_is name (c.PrimaryKey ∷ cs) e a = collation_is name cs e a.1
collation_is name (c.NotNull ∷ cs) e a = collation_is name cs e a.1
collation_is name (c.Default v ∷ cs) e a = collation_is name cs e a.1
collation_is name (c.Collate n ∷ cs) e a = collation_is n cs a.0 a.1

-- ---- columns

abbrev FoldedColumn : Column → Type 0
FoldedColumn x = (is_folded x.name ≡ true) × FoldedConstraints x.constraints

column_is : (d : grammar.column.D) → all IsFolded (grammar.column.words d) → FoldedColumn (grammar.column.value d)
column_is d a = (
  a.0,
  constraints_are d.1.1.1
      (back IsFolded (sizes_words d.1.1.0) (all_words grammar.constraint.words d.1.1.1)
      (back IsFolded (all_words (λ n. k.Name n ∷ []) d.1.0) (sizes_words d.1.1.0 ++ all_words grammar.constraint.words d.1.1.1) a.1)),
)

abbrev FoldedColumns : List Column → Type 0
FoldedColumns [] = Unit {0}
FoldedColumns (x ∷ xs) = FoldedColumn x × FoldedColumns xs

abbrev comma_column : grammar.column.D → List Symbol
comma_column d = k.Mark m.Comma ∷ grammar.column.words d

columns_are : (ds : List grammar.column.D) → all IsFolded (all_words comma_column ds) → FoldedColumns (map grammar.column.value ds)
columns_are [] a = tt
columns_are (d ∷ ds) a = (
  column_is d (front IsFolded (comma_column d) (all_words comma_column ds) a).1,
  columns_are ds (back IsFolded (comma_column d) (all_words comma_column ds) a),
)

defined : (key : Option (List (List ℕ))) (x : Column) → FoldedColumn x → IsFoldedColumn (column_def key x)
defined key x f = rw f.0 (collation_is (codes "binary") x.constraints refl f.1)

all_defined : (key : Option (List (List ℕ))) (xs : List Column) → FoldedColumns xs → list_all (λ col. is_folded col.name && is_folded col.collation) (map (column_def key) xs) ≡ true
all_defined key [] f = refl
all_defined key (x ∷ xs) f = rw (defined key x f.0) (all_defined key xs f.1)

-- ---- statements

abbrev columns_words : grammar.column.D × List grammar.column.D → List Symbol
columns_words d = grammar.column.words d.0 ++ all_words comma_column d.1

abbrev key_words : Option grammar.key.D → List Symbol
key_words o = option_words grammar.key.words o

create_is : (d : grammar.create.D) → all IsFolded (grammar.create.words d) → has_folded_names (definition (grammar.create.value d)) ≡ true
unfolding has_folded_names
create_is d a =
    let named = back IsFolded (grammar.if_not_exists.words d.0) (k.Name d.1.0 ∷ k.Mark m.Open ∷ (columns_words d.1.1.0 ++ key_words d.1.1.1) ++ k.Mark m.Close ∷ []) a.1.1 in
    let inside : all IsFolded (columns_words d.1.1.0 ++ key_words d.1.1.1) = front IsFolded (columns_words d.1.1.0 ++ key_words d.1.1.1) (k.Mark m.Close ∷ []) named.1.1 in
    let columns : all IsFolded (columns_words d.1.1.0) = front IsFolded (columns_words d.1.1.0) (key_words d.1.1.1) inside in
    let first = column_is d.1.1.0.0 (front IsFolded (grammar.column.words d.1.1.0.0) (all_words comma_column d.1.1.0.1) columns) in
    let others = columns_are d.1.1.0.1 (back IsFolded (grammar.column.words d.1.1.0.0) (all_words comma_column d.1.1.0.1) columns) in
    rw named.0 (all_defined (grammar.create.value d).key (grammar.create.value d).columns (first, others))

alter_is : (d : grammar.alter.D) → all IsFolded (grammar.alter.words d) → IsFoldedColumn (column_def None (grammar.alter.value d).column)
alter_is (name, (true, column)) a = defined None (grammar.column.value column) (column_is column a.1.1.1.1.1)
alter_is (name, (false, column)) a = defined None (grammar.column.value column) (column_is column a.1.1.1.1)

command_is : (d : grammar.command.D) → DefinesFolded (grammar.command.value d)
command_is (One i) = tt
command_is (Other (One u)) = tt
command_is (Other (Other (One d))) = tt
command_is (Other (Other (Other (One b)))) = tt
command_is (Other (Other (Other (Other (One x))))) = tt
command_is (Other (Other (Other (Other (Other (One x)))))) = tt
command_is (Other (Other (Other (Other (Other (Other x)))))) = tt

statement_is : (d : grammar.statement.D) → all IsFolded (grammar.statement.words d) → DefinesFolded (grammar.statement.value d)
statement_is (One q) a = tt
statement_is (Other (One x)) a = create_is x a
statement_is (Other (Other (One x))) a = alter_is x a
statement_is (Other (Other (Other x))) a = command_is x

read_is : (ts : List Symbol) (x : Statement) → all IsFolded ts → IsRead grammar.statement ts x → DefinesFolded x
read_is ts x a r = subst DefinesFolded r.means (statement_is r.what (subst (all IsFolded) (sym r.written) a))

-- ---- the next statement of a script

told_or : {R : Type 0} → Statement → Result (Statement × ℕ) R → Statement
told_or d (Ok y) = y.0
told_or d (Err why) = d

found_or : {R : Type 0} → Statement → Result (Option (Statement × ℕ)) R → Statement
found_or d (Ok (Some y)) = y.0
found_or d (Ok None) = d
found_or d (Err why) = d

judged_is : (source : List ℕ) (tokens : List Token) (r : Result Statement ParseError) (x : Statement) (n : ℕ) → judged source tokens ≡ r → told source tokens r ≡ Ok (x, n) → DefinesFolded x
unfolding told_or
judged_is source tokens (Ok tree) x n e f =
    let same : tree ≡ x = ap (told_or x) f in
    let read : IsRead grammar.statement (statement_symbols source tokens) tree =
    subst (λ (o : Result Statement ParseError). IfOk o (λ y. IsRead grammar.statement (statement_symbols source tokens) y)) e (judged_read grammar.statement whole.statement statement_of (statement_symbols source tokens)) in
    subst DefinesFolded same (read_is (statement_symbols source tokens) tree (are_folded source (statement_tokens source tokens)) read)
judged_is source tokens (Err (p.Syntax at)) x n e f = absurd (let q : ⊥ = cc in q)
judged_is source tokens (Err (p.Limit which)) x n e f = absurd (let q : ⊥ = cc in q)
judged_is source tokens (Err p.Memory) x n e f = absurd (let q : ⊥ = cc in q)

behind_is : (k n : ℕ) (r : Result (Statement × ℕ) sql.Refusal) (x : Statement) → behind k r ≡ Ok (Some (x, n)) → (i : ℕ) × (r ≡ Ok (x, i))
unfolding found_or
behind_is k n (Ok y) x e = let same : y.0 ≡ x = ap (found_or x) e in (y.1, ap (λ (z : Statement). Ok (z, y.1)) same)
behind_is k n (Err why) x e = absurd (let q : ⊥ = cc in q)

at_is : (source : List ℕ) (k n : ℕ) (tokens : List Token) (x : Statement) → next_at source k tokens ≡ Ok (Some (x, n)) → DefinesFolded x
at_is source k n [] x e = absurd (let q : ⊥ = cc in q)
at_is source k n (t ∷ ts) x e =
    let found = behind_is k n (told source (t ∷ ts) (judged source (t ∷ ts))) x e in
    judged_is source (t ∷ ts) (judged source (t ∷ ts)) x found.0 refl found.1

pub are_names_folded : NamesAreFolded
are_names_folded source tokens x n e = at_is source (semicolons source tokens) n (drop (semicolons source tokens) tokens) x e
