use Rattle.std.proofs.Common.{◌≡◌, List, [], ◌∷◌, rules, subst}
use Rattle.cr_tree.specs.declared.statement.Assignment.{Assignment as AssignmentTree}
use Rattle.cr_resolve.specs.Told.{told, Refuses}
use Rattle.cr_resolve.specs.Writes.{assignments, update as meant}
use Rattle.cr_written.proofs.Wholes.{update_no_table, update_no_value, update_no_filter, update_misplaced, updated}
use Rattle.cr_written.proofs.update.update.Goals as goal

pub returns-in_err-source : goal.returns-in_err-source
returns-in_err-source g c =
    let known = g.K.Naming.known c.args.known.now in
    let why : Refuses (meant known c.args.update.now).bad c.in_err-source.field-0.0 = update_no_table known c.args.update.now c.in_err-source.field-0.0 c.in_err-source.ensures in
    search rules

pub returns-in_err-values : goal.returns-in_err-values
returns-in_err-values g c =
    let known = g.K.Naming.known c.args.known.now in
    let u = c.args.update.now in
    let s = c.in_ok-source.source in
    let f = c.in_err-values.field-0.0 in
    let why : Refuses (meant known u).bad f =
    update_no_value known u s c.in_ok-source.ensures f
    (subst (λ (trees : List AssignmentTree). Refuses (assignments known (s ∷ []) s.relation.definition [] trees).bad f) c.as_slice.ensures c.in_err-values.ensures) in
    search rules

pub returns-in_err-filter : goal.returns-in_err-filter
returns-in_err-filter g c =
    let known = g.K.Naming.known c.args.known.now in
    let u = c.args.update.now in
    let s = c.in_ok-source.source in
    let v = c.in_ok-values.values in
    let valued : assignments known (s ∷ []) s.relation.definition [] u.assignments ≡ told v =
    subst (λ (trees : List AssignmentTree). assignments known (s ∷ []) s.relation.definition [] trees ≡ told v) c.as_slice.ensures c.in_ok-values.ensures in
    let why : Refuses (meant known u).bad c.in_err-filter.field-0.0 = update_no_filter known u s c.in_ok-source.ensures v valued c.in_err-filter.field-0.0 c.in_err-filter.ensures in
    search rules

pub returns-in_err-check_placed : goal.returns-in_err-check_placed
returns-in_err-check_placed g c =
    let known = g.K.Naming.known c.args.known.now in
    let u = c.args.update.now in
    let s = c.in_ok-source.source in
    let v = c.in_ok-values.values in
    let valued : assignments known (s ∷ []) s.relation.definition [] u.assignments ≡ told v =
    subst (λ (trees : List AssignmentTree). assignments known (s ∷ []) s.relation.definition [] trees ≡ told v) c.as_slice.ensures c.in_ok-values.ensures in
    let why : Refuses (meant known u).bad c.in_err-check_placed.field-0.0 =
    update_misplaced known u s c.in_ok-source.ensures v valued c.in_ok-filter.filter c.in_ok-filter.ensures c.either.result c.either.ensures c.in_err-check_placed.field-0.0 c.in_err-check_placed.ensures in
    search rules

pub returns : goal.returns
returns g c =
    let known = g.K.Naming.known c.args.known.now in
    let u = c.args.update.now in
    let s = c.in_ok-source.source in
    let v = c.in_ok-values.values in
    let valued : assignments known (s ∷ []) s.relation.definition [] u.assignments ≡ told v =
    subst (λ (trees : List AssignmentTree). assignments known (s ∷ []) s.relation.definition [] trees ≡ told v) c.as_slice.ensures c.in_ok-values.ensures in
    updated known u s c.in_ok-source.ensures v valued c.in_ok-filter.filter c.in_ok-filter.ensures c.either.result c.either.ensures c.in_ok-check_placed.ensures
