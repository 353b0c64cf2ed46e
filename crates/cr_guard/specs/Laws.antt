-- Laws of what is heard and of policies. Source: this project's own.
use Rattle.std.specs.Prelude.{◌≡◌, ◌↔◌, ℕ, Bool, true, ◌&&◌, List, [], map, Some, if◌then◌else◌}
use Rattle.std.specs.List.{flat_map, Contains}
use Rattle.std.specs.List.Sorted.{IsStrictlySortedBy}
use Rattle.std.specs.Ordering.{on, then_cmp}
use Rattle.std.specs.declared.cmp.Ordering.{Ordering}
use Rattle.std.specs.Str.{bytes_eq}
use Rattle.cr_value.specs.declared.value.Value.{Value}
use Rattle.cr_value.specs.Order.{bytes_cmp}
use Rattle.cr_lattice.specs.declared.table.TableDef.{TableDef}
use Rattle.cr_host.specs.Names.{folded}
use Rattle.cr_guard.specs.declared.event.Event.{Event}
use Rattle.cr_guard.specs.declared.heard.TableRows.{TableRows}
use Rattle.cr_guard.specs.declared.policy.ReadRule.{ReadRule}
use Rattle.cr_guard.specs.Heard.{row_at, same_row, became, heard, heard_of}
use Rattle.cr_guard.specs.Policy.{with_read, read_answer}

-- An event is heard exactly where it is of the table and tells what became of the row under its key.
abbrev pub HeardIsWhatBecame : Type 0
HeardIsWhatBecame =
    (def : TableDef) (before after : List (List Value)) (e : Event)
    → Contains (heard def before after) e ↔ (e.table ≡ def.name) × (became (row_at def before e.pk) (row_at def after e.pk) ≡ Some e.kind)

-- by the bytes of the table's name, then of the packed key
abbrev pub event_cmp : Event → Event → Ordering
event_cmp = then_cmp (on (λ e. e.table) bytes_cmp) (on (λ e. e.pk) bytes_cmp)

-- Of tables in the order of their names, the events are in order, and there is one of a row at most.
abbrev pub HeardIsInOrder : Type 0
HeardIsInOrder =
    (ts : List TableRows) → IsStrictlySortedBy bytes_cmp (map (λ t. t.definition.name) ts) → IsStrictlySortedBy event_cmp (flat_map heard_of ts)

-- Where all rows stay as they were, nothing is heard.
abbrev pub StayingIsSilent : Type 0
StayingIsSilent = (def : TableDef) (rows : List (List Value)) → heard def rows rows ≡ []

-- Two rows show the same values exactly where they are equal.
abbrev pub SameRowsAreEqual : Type 0
SameRowsAreEqual = (a b : List Value) → (same_row a b ≡ true) ↔ (a ≡ b)

-- names that differ in the case of ASCII letters alone
abbrev pub same_names : ReadRule → List ℕ → List ℕ → Bool
same_names rule table column = bytes_eq (folded table) (folded rule.table) && bytes_eq (folded column) (folded rule.column)

-- With a rule, READ of its column is answered as it says, and of every other column as before.
abbrev pub LaterRuleDecides : Type 0
LaterRuleDecides =
    (rule : ReadRule) (rules : List ReadRule) (table column : List ℕ)
    → read_answer (with_read rule rules) table column ≡ (if same_names rule table column then rule.answer else read_answer rules table column)
