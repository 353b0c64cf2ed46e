-- Which symbols are of a language, and where they stop being the beginning of what is of it.
use Rattle.std.specs.Prelude.{◌≡◌, ℕ, suc, ◌≤◌, ◌<◌, List, ◌++◌, length, take}
use Rattle.cr_tree.specs.declared.symbol.Symbol.{Symbol}
use Rattle.cr_tree.specs.declared.limits.LimitKind.{LimitKind}
use Rattle.cr_tree.specs.declared.limits.LimitKind.TheVariants as k
use Rattle.cr_tree.specs.declared.limits.Limits.{Limits}
use Rattle.cr_tree.specs.declared.limits.TheConstants.{LIMITS}
use Rattle.cr_tree.specs.Language.{Language}

-- the symbols are of the language and mean this, within the limits
pub record IsRead {A : Type 0} (L : Language A) (ts : List Symbol) (a : A) : Type 0 where
  pub what : L.D
  pub fitting : L.fits LIMITS what
  pub written : L.words what ≡ ts
  pub means : L.value what ≡ a

-- something within the limits begins with the symbols
pub record OneBegins {A : Type 0} (L : Language A) (ts : List Symbol) : Type 0 where
  pub what : L.D
  pub fitting : L.fits LIMITS what
  pub more : List Symbol
  pub written : L.words what ≡ ts ++ more

-- limits that differ in one kind at most
abbrev pub DifferIn : LimitKind → Limits → Limits → Type 0
DifferIn k.Depth a b = (a.commas ≡ b.commas) × (a.joins ≡ b.joins)
DifferIn k.Arguments a b = (a.opens ≡ b.opens) × (a.room ≡ b.room) × (a.joins ≡ b.joins)
DifferIn k.Tables a b = (a.opens ≡ b.opens) × (a.room ≡ b.room) × (a.commas ≡ b.commas)

-- something does within limits that differ in this kind alone
pub record BeginsBeyond {A : Type 0} (which : LimitKind) (L : Language A) (ts : List Symbol) : Type 0 where
  pub limits : Limits
  pub alone : DifferIn which LIMITS limits
  pub what : L.D
  pub fitting : L.fits limits what
  pub more : List Symbol
  pub written : L.words what ≡ ts ++ more

-- nothing does, whatever the limits
abbrev pub NoneBegins : {A : Type 0} → Language A → List Symbol → Type 0
NoneBegins L ts = (lim : Limits) (d : L.D) (more : List Symbol) → L.fits lim d → L.words d ≡ ts ++ more → ⊥

-- nothing within the limits does
abbrev pub NoneWithin : {A : Type 0} → Language A → List Symbol → Type 0
NoneWithin L ts = (d : L.D) (more : List Symbol) → L.fits LIMITS d → L.words d ≡ ts ++ more → ⊥

-- The first symbol that nothing of the language has there; or the end, where the symbols are not of it.
pub record IsBadPlace {A : Type 0} (L : Language A) (ts : List Symbol) (n : ℕ) : Type 0 where
  pub within : n ≤ length ts
  pub before : OneBegins L (take n ts)
  pub here : n < length ts → NoneBegins L (take (suc n) ts)
  pub ended : n ≡ length ts → (lim : Limits) (d : L.D) → L.fits lim d → L.words d ≡ ts → ⊥

-- Up to some symbol something within the limits begins so; with that symbol nothing within them does, and something
-- does that is beyond a limit of this kind alone.
pub record MeetsLimit {A : Type 0} (which : LimitKind) (L : Language A) (ts : List Symbol) : Type 0 where
  pub place : ℕ
  pub within : place < length ts
  pub before : OneBegins L (take place ts)
  pub here : NoneWithin L (take (suc place) ts)
  pub beyond : BeginsBeyond which L (take (suc place) ts)
