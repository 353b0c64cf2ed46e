-- When closures answer what a host's definitions say. Source: this project's own.
use Rattle.std.specs.Prelude.{◌≡◌, ℕ, List, [], ◌∷◌, Result, Ok, Err, Option, Some, None}
use Rattle.std.specs.Borrow.{Bor}
use Rattle.std.specs.declared.cmp.Ordering.{Ordering}
use Rattle.cr_value.specs.declared.value.Value.{Value}
use Rattle.cr_value.specs.declared.value.Value.TheVariants.{Null}
use Rattle.cr_host.specs.declared.function.Definition.{Definition}
use Rattle.cr_host.specs.declared.function.Definition.TheVariants.{Scalar, Aggregate}
use Rattle.cr_host.specs.declared.fault.FnFault.{FnFault}
use Rattle.cr_host.specs.declared.fault.FnFault.TheVariants.{Host, Memory}

-- what was answered is what the definition says, a value or the text of a fault; or there was no memory
abbrev pub Meets : Result Value (List ℕ) → Result Value FnFault → Type 0
Meets meaning (Ok v) = meaning ≡ Ok v
Meets meaning (Err Memory) = Unit {0}
Meets meaning (Err (Host text)) = meaning ≡ Err text

-- a scalar function, whose calls pre and post describe, may be called, and each answer meets its definition
pub record AnswersAs (pre : Bor (List Value) → Type 0) (post : Bor (List Value) → Result Value FnFault → Type 0) (meaning : List Value → Result Value (List ℕ)) : Type 0 where
  pub callable : (args : Bor (List Value)) → pre args
  pub meets : (args : Bor (List Value)) (r : Result Value FnFault) → post args r → Meets (meaning args.now) r

-- the same of the step of an aggregate
pub record StepsAs (pre : Bor Value → Bor (List Value) → Type 0) (post : Bor Value → Bor (List Value) → Result Value FnFault → Type 0) (meaning : Value → List Value → Result Value (List ℕ)) : Type 0 where
  pub callable : (held : Bor Value) (row : Bor (List Value)) → pre held row
  pub meets : (held : Bor Value) (row : Bor (List Value)) (r : Result Value FnFault) → post held row r → Meets (meaning held.now row.now) r

-- and of its end
pub record FinishesAs (pre : Bor Value → Type 0) (post : Bor Value → Result Value FnFault → Type 0) (meaning : Value → Result Value (List ℕ)) : Type 0 where
  pub callable : (held : Bor Value) → pre held
  pub meets : (held : Bor Value) (r : Result Value FnFault) → post held r → Meets (meaning held.now) r

-- a collation may be called, and orders texts as its definition says
pub record ComparesAs (pre : Bor (List ℕ) → Bor (List ℕ) → Type 0) (post : Bor (List ℕ) → Bor (List ℕ) → Ordering → Type 0) (meaning : List ℕ → List ℕ → Ordering) : Type 0 where
  pub callable : (a b : Bor (List ℕ)) → pre a b
  pub meets : (a b : Bor (List ℕ)) (r : Ordering) → post a b r → r ≡ meaning a.now b.now

-- an answer other than want of memory
abbrev pub HasMemory : Result Value FnFault → Type 0
HasMemory (Ok v) = Unit {0}
HasMemory (Err (Host text)) = Unit {0}
HasMemory (Err Memory) = ⊥

-- a closure of one argument, whose answers post describes, never answers want of memory
abbrev pub NeverLacks : {A : Type 0} → (A → Result Value FnFault → Type 0) → Type 0
NeverLacks post = (a : _) (r : Result Value FnFault) → post a r → HasMemory r

-- the same of a closure of two
abbrev pub NeverLacksAt : {A B : Type 0} → (A → B → Result Value FnFault → Type 0) → Type 0
NeverLacksAt post = (a : _) (b : _) (r : Result Value FnFault) → post a b r → HasMemory r

-- what an aggregate holds after rows, in turn; the first fault ends it
abbrev pub held_after : (Value → List Value → Result Value (List ℕ)) → Value → List (List Value) → Result Value (List ℕ)
held_after step held [] = Ok held
held_after step held (row ∷ rows) = elim (step held row) as (λ _. Result Value (List ℕ)) [ Ok next ↦ held_after step next rows | Err text ↦ Err text ]

-- an aggregate's value of rows: the fold from NULL, and then its end
abbrev pub aggregated : (Value → List Value → Result Value (List ℕ)) → (Value → Result Value (List ℕ)) → List (List Value) → Result Value (List ℕ)
aggregated step finish rows = elim (held_after step Null rows) as (λ _. Result Value (List ℕ)) [ Ok held ↦ finish held | Err text ↦ Err text ]

-- a call answers just where there is a scalar function, as its definition says
abbrev pub CallsAt : Option Definition → (ℕ → Result Value (List ℕ)) → Option (Result Value FnFault) → Type 0
CallsAt (Some (Scalar n)) meaning (Some r) = Meets (meaning n) r
CallsAt (Some (Scalar n)) meaning None = ⊥
CallsAt (Some (Aggregate n)) meaning (Some r) = ⊥
CallsAt (Some (Aggregate n)) meaning None = Unit {0}
CallsAt None meaning (Some r) = ⊥
CallsAt None meaning None = Unit {0}

-- a step, an end or a fold answers just where there is an aggregate, as its definition says
abbrev pub FoldsAt : Option Definition → (ℕ → Result Value (List ℕ)) → Option (Result Value FnFault) → Type 0
FoldsAt (Some (Aggregate n)) meaning (Some r) = Meets (meaning n) r
FoldsAt (Some (Aggregate n)) meaning None = ⊥
FoldsAt (Some (Scalar n)) meaning (Some r) = ⊥
FoldsAt (Some (Scalar n)) meaning None = Unit {0}
FoldsAt None meaning (Some r) = ⊥
FoldsAt None meaning None = Unit {0}

-- a fault is of that text, or there was no memory for it
abbrev pub Says : List ℕ → FnFault → Type 0
Says said Memory = Unit {0}
Says said (Host text) = said ≡ text
