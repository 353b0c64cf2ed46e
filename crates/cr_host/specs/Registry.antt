-- What a registry lists, and how its entries are found. Source: this project's own rules.
use Rattle.std.specs.Prelude.{◌≡◌, ℕ, ◌&&◌, ◌==◌, not, List, [], ◌∷◌, Bool, true, false, if◌then◌else◌, Option, Some, None, Result, Ok, Err, map, filter, position, slice_get}
use Rattle.std.specs.Option.{option_map}
use Rattle.std.specs.List.{list_any}
use Rattle.std.specs.Str.{bytes_eq}
use Rattle.std.specs.declared.cmp.Ordering.{Ordering}
use Rattle.cr_value.specs.Bytes.{bytes_cmp}
use Rattle.cr_value.specs.Collation.{text_cmp}
use Rattle.cr_host.specs.declared.arity.Arity.{Arity}
use Rattle.cr_host.specs.declared.arity.Arity.TheVariants.{Any, Exactly}
use Rattle.cr_host.specs.declared.fault.AddFault.{AddFault}
use Rattle.cr_host.specs.declared.fault.AddFault.TheVariants.{BadName, Memory}
use Rattle.cr_host.specs.declared.function.Definition.{Definition}
use Rattle.cr_host.specs.declared.folded.FoldedName.{FoldedName}
use Rattle.cr_host.specs.declared.function.FoundCollation.{FoundCollation}
use Rattle.cr_host.specs.declared.function.FoundCollation.TheVariants.{BuiltIn, Host}
use Rattle.cr_host.specs.declared.function.Definition.TheVariants as numbered
use Rattle.cr_host.specs.declared.function.Function.{Function}
use Rattle.cr_host.specs.declared.function.Function.TheVariants.{Scalar, Aggregate}
use Rattle.cr_host.specs.declared.function.Scalar as the_scalar
use Rattle.cr_host.specs.declared.function.Aggregate as the_aggregate
use Rattle.cr_host.specs.declared.function.Collating.{Collating}
use Rattle.cr_host.specs.declared.registry.FnKey.{FnKey}
use Rattle.cr_host.specs.declared.registry.Registry.{Registry}
use Rattle.cr_host.specs.Names.{folded, built_in_collation}

-- a function under a name, whose ASCII letters are in lower case, and a count of arguments
pub record Listed : Type 0 where
  pub name : List ℕ
  pub arity : Arity
  pub definition : Definition

-- a collation under a name, and the number of its definition
pub record Named : Type 0 where
  pub name : List ℕ
  pub number : ℕ

abbrev pub same_arity : Arity → Arity → Bool
same_arity Any Any = true
same_arity Any (Exactly n) = false
same_arity (Exactly m) Any = false
same_arity (Exactly m) (Exactly n) = m == n

abbrev pub is_entry : List ℕ → Arity → Listed → Bool
is_entry name arity e = bytes_eq (folded name) e.name && same_arity arity e.arity

abbrev pub entry_at : List ℕ → Arity → List Listed → Option Definition
entry_at name arity [] = None
entry_at name arity (e ∷ es) = if is_entry name arity e then Some e.definition else entry_at name arity es

-- a call takes the function of its count of arguments, else the one of any count
abbrev pub function_for : List ℕ → ℕ → List Listed → Option Definition
function_for name count es = elim (entry_at name (Exactly count) es) as (λ _. Option Definition) [ Some d ↦ Some d | None ↦ entry_at name Any es ]

-- the entries, with the one of that name and count in its place, else last
abbrev pub with_entry : List ℕ → Arity → Definition → List Listed → List Listed
with_entry name arity d [] = record { name = folded name; arity = arity; definition = d } ∷ []
with_entry name arity d (e ∷ es) = if is_entry name arity e then record e { definition = d } ∷ es else e ∷ with_entry name arity d es

abbrev pub without_entry : List ℕ → Arity → List Listed → List Listed
without_entry name arity = filter (λ e. not (is_entry name arity e))

abbrev pub is_named : List ℕ → Named → Bool
is_named name c = bytes_eq (folded name) c.name

abbrev pub number_at : List ℕ → List Named → Option ℕ
number_at name [] = None
number_at name (c ∷ cs) = if is_named name c then Some c.number else number_at name cs

-- the collations, with the one of that name in its place, else last
abbrev pub with_collation : List ℕ → ℕ → List Named → List Named
with_collation name number [] = record { name = folded name; number = number } ∷ []
with_collation name number (c ∷ cs) = if is_named name c then record c { number = number } ∷ cs else c ∷ with_collation name number cs

-- the order of texts under a name: a built-in collation's, else that of the host's definition under that name
abbrev pub order_for : (ℕ → List ℕ → List ℕ → Ordering) → List ℕ → List Named → Option (List ℕ → List ℕ → Ordering)
order_for order name cs = elim (built_in_collation name) as (λ _. Option (List ℕ → List ℕ → Ordering)) [ Some c ↦ Some (text_cmp c) | None ↦ option_map order (number_at name cs) ]

-- the collation of a name as it is found: a built-in one, else the place of the host's under that name, the oldest at 0
abbrev pub found_for : List ℕ → List Named → Option FoundCollation
found_for name cs = elim (built_in_collation name) as (λ _. Option FoundCollation) [ Some c ↦ Some (BuiltIn c) | None ↦ option_map Host (position (is_named name) cs) ]

-- the order of texts under the host's collation at a place: that of its definition, or BINARY's where there is none
abbrev pub order_at : (ℕ → List ℕ → List ℕ → Ordering) → List Named → ℕ → List ℕ → List ℕ → Ordering
order_at order cs place = elim (slice_get cs place) as (λ _. List ℕ → List ℕ → Ordering) [ Some c ↦ order c.number | None ↦ bytes_cmp ]

-- the order of texts under a collation that was found, where at orders by the host's at a place
abbrev pub found_order : (ℕ → List ℕ → List ℕ → Ordering) → FoundCollation → List ℕ → List ℕ → Ordering
found_order at (BuiltIn c) = text_cmp c
found_order at (Host place) = at place

abbrev pub AnswersBy : {H V W X : Type 0} {F : V → Type 0} {G : W → Type 0} {E : X → Type 0} → (the_scalar.Scalar H V F → Type 0) → (the_aggregate.Aggregate H W X G E → Type 0) → Function H V W X F G E → Type 0
AnswersBy scalar aggregate (Scalar s) = scalar s
AnswersBy scalar aggregate (Aggregate a) = aggregate a

module _ {H V W X : Type 0} {F : V → Type 0} {G : W → Type 0} {E : X → Type 0} where
  abbrev pub definition : Function H V W X F G E → Definition
  definition (Scalar s) = numbered.Scalar s.number
  definition (Aggregate a) = numbered.Aggregate a.number

  abbrev pub listing : FnKey × Function H V W X F G E → Listed
  listing e = record { name = e.0.name.bytes.items; arity = e.0.arity; definition = definition e.1 }

module _ {H V W X Y : Type 0} {F : V → Type 0} {G : W → Type 0} {E : X → Type 0} {C : Y → Type 0} where
  -- the functions, oldest first
  abbrev pub listed : Registry H V W X Y F G E C → List Listed
  listed r = map listing r.functions.entries

  -- each function, with its closures
  abbrev pub functions : Registry H V W X Y F G E C → List (Function H V W X F G E)
  functions r = map (λ e. e.1) r.functions.entries

  -- the collations, oldest first
  abbrev pub collations : Registry H V W X Y F G E C → List Named
  collations r = map (λ e. record { name = e.0.bytes.items; number = e.1.number }) r.collations.entries

  -- each collation, with its closure
  abbrev pub orders : Registry H V W X Y F G E C → List (Collating H Y C)
  orders r = map (λ e. e.1) r.collations.entries

-- the key has that name and count
abbrev pub is_key : List ℕ → Arity → FnKey → Bool
is_key name arity key = bytes_eq (folded name) key.name.bytes.items && same_arity arity key.arity

abbrev pub is_collation_key : List ℕ → FoldedName → Bool
is_collation_key name key = bytes_eq (folded name) key.bytes.items

-- a function has that name, for some count of arguments
abbrev pub names_function : List ℕ → List Listed → Bool
names_function name ls = list_any (λ l. bytes_eq (folded name) l.name) ls

-- a name is refused just where it may not be registered
abbrev pub RefusesBadNames : {T : Type 0} → Bool → Result T AddFault → Type 0
RefusesBadNames accepted (Ok x) = accepted ≡ true
RefusesBadNames accepted (Err BadName) = accepted ≡ false
RefusesBadNames accepted (Err Memory) = accepted ≡ true
