-- A policy of plain rules. Source: this project's own; what is asked and answered is by "Compile-Time Authorization
-- Callbacks" of SQLite's C interface.
use Rattle.std.specs.Prelude.{ℕ, Bool, true, false, not, ◌&&◌, nat_lt, List, [], ◌∷◌, ◌++◌, filter, find, Option, None}
use Rattle.std.specs.Option.{option_map_or}
use Rattle.std.specs.Str.{bytes_eq}
use Rattle.cr_host.specs.declared.meaning.Action.{Action}
use Rattle.cr_host.specs.declared.meaning.Action.TheVariants.{Read}
use Rattle.cr_host.specs.declared.meaning.Auth.{Auth}
use Rattle.cr_host.specs.declared.meaning.Auth.TheVariants.{Ok, Deny, Ignore}
use Rattle.cr_host.specs.Names.{folded}
use Rattle.cr_guard.specs.declared.policy.ReadRule.{ReadRule}
use Rattle.cr_guard.specs.declared.policy.PolicyRule.{PolicyRule}
use Rattle.cr_guard.specs.declared.policy.PolicyRule.TheVariants as rules

-- the rules of READ, their names in lower case, and how many changes a commit may have
pub record Rules : Type 0 where
  pub reads : List ReadRule
  pub most_changes : Option ℕ

abbrev pub no_rules : Rules
no_rules = record { reads = []; most_changes = None }

-- a rule is of that column, the ASCII letters of its names in either case
abbrev pub speaks_of : List ℕ → List ℕ → ReadRule → Bool
speaks_of table column rule = bytes_eq (folded table) rule.table && bytes_eq (folded column) rule.column

abbrev pub without : List ℕ → List ℕ → List ReadRule → List ReadRule
without table column = filter (λ rule. not (speaks_of table column rule))

abbrev pub folded_rule : ReadRule → ReadRule
folded_rule rule = record { table = folded rule.table; column = folded rule.column; answer = rule.answer }

-- a rule that denies or ignores is kept, one that allows is not
abbrev pub kept_rule : ReadRule → Auth → List ReadRule
kept_rule rule Ok = []
kept_rule rule Deny = folded_rule rule ∷ []
kept_rule rule Ignore = folded_rule rule ∷ []

-- keeping a rule takes memory; taking one back, and a number of changes, take none
abbrev pub is_kept : Auth → Bool
is_kept Ok = false
is_kept Deny = true
is_kept Ignore = true

abbrev pub wants_memory : PolicyRule → Bool
wants_memory (rules.Read rule) = is_kept rule.answer
wants_memory (rules.MaxChanges most) = false

-- the rules of other columns, and this one last
abbrev pub with_read : ReadRule → List ReadRule → List ReadRule
with_read rule rules = without rule.table rule.column rules ++ kept_rule rule rule.answer

abbrev pub with_rule : PolicyRule → Rules → Rules
with_rule (rules.Read rule) p = record p { reads = with_read rule p.reads }
with_rule (rules.MaxChanges most) p = record p { most_changes = most }

-- READ of a column is answered as its rule says, and OK where there is none
abbrev pub read_answer : List ReadRule → List ℕ → List ℕ → Auth
read_answer reads table column = option_map_or (λ rule. rule.answer) (find (speaks_of table column) reads) Ok

-- rules speak of READ alone
abbrev pub rule_answer : Rules → Action → List ℕ → List ℕ → Auth
rule_answer p Read a b = read_answer p.reads a b
rule_answer p action a b = Ok

-- more changes than there may be
abbrev pub passes : Option ℕ → ℕ → Bool
passes most count = option_map_or (λ n. nat_lt n count) most false
