-- How languages are put together: what stands one after the other, what may be absent, lists, and choices.
use Rattle.std.specs.Prelude.{◌≡◌, ℕ, ◌≤◌, length, Bool, if◌then◌else◌, List, [], ◌∷◌, ◌++◌, map, Option, Some, None}
use Rattle.cr_tree.specs.declared.limits.Limits.{Limits}
use Rattle.cr_tree.specs.declared.symbol.Mark.{Mark}
use Rattle.cr_tree.specs.declared.symbol.Mark.TheVariants as m
use Rattle.cr_tree.specs.declared.symbol.Symbol.{Symbol}
use Rattle.cr_tree.specs.declared.symbol.Symbol.TheVariants as k
use Rattle.cr_tree.specs.Grammar.{Sizes, sizes_words, AreSizes}
use Rattle.cr_tree.specs.Language.{Language}

infixr 20 ◌◁◌
-- behind a mark
abbrev pub ◌◁◌ : {A : Type 0} → Mark → Language A → Language A
x ◁ L = record { D = L.D; fits = L.fits; words = λ d. k.Mark x ∷ L.words d; value = L.value }

infixl 21 ◌▷◌
-- before a mark
abbrev pub ◌▷◌ : {A : Type 0} → Language A → Mark → Language A
L ▷ x = record { D = L.D; fits = L.fits; words = λ d. L.words d ++ k.Mark x ∷ []; value = L.value }

infixr 19 ◌⊗◌
-- one after the other
abbrev pub ◌⊗◌ : {A B : Type 0} → Language A → Language B → Language (A × B)
L ⊗ M = record { D = L.D × M.D; fits = λ lim d. L.fits lim d.0 × M.fits lim d.1; words = λ d. L.words d.0 ++ M.words d.1; value = λ d. (L.value d.0, M.value d.1) }

infixr 18 ◌⟨$⟩◌
-- with what it means
abbrev pub ◌⟨$⟩◌ : {A B : Type 0} → (A → B) → Language A → Language B
h ⟨$⟩ L = record { D = L.D; fits = L.fits; words = L.words; value = λ d. h (L.value d) }

-- nothing, which means this
abbrev pub nothing : {A : Type 0} → A → Language A
nothing a = record { D = Unit {0}; fits = λ lim d. Unit {0}; words = λ d. []; value = λ d. a }

-- a mark, which means this
abbrev pub mark : {A : Type 0} → Mark → A → Language A
mark x a = record { D = Unit {0}; fits = λ lim d. Unit {0}; words = λ d. k.Mark x ∷ []; value = λ d. a }

abbrev pub option_fits : {D : Type 0} → (D → Type 0) → Option D → Type 0
option_fits fits None = Unit {0}
option_fits fits (Some d) = fits d

abbrev pub option_words : {D : Type 0} → (D → List Symbol) → Option D → List Symbol
option_words words None = []
option_words words (Some d) = words d

abbrev pub option_value : {A D : Type 0} → (D → A) → Option D → Option A
option_value value None = None
option_value value (Some d) = Some (value d)

-- it or nothing
abbrev pub maybe : {A : Type 0} → Language A → Language (Option A)
maybe L = record { D = Option L.D; fits = λ lim. option_fits (L.fits lim); words = option_words L.words; value = option_value L.value }

-- the mark or nothing
abbrev pub maybe_mark : Mark → Language Bool
maybe_mark x = record { D = Bool; fits = λ lim d. Unit {0}; words = λ d. if d then k.Mark x ∷ [] else []; value = λ d. d }

abbrev pub all_fit : {D : Type 0} → (D → Type 0) → List D → Type 0
all_fit fits [] = Unit {0}
all_fit fits (d ∷ ds) = fits d × all_fit fits ds

abbrev pub all_words : {D : Type 0} → (D → List Symbol) → List D → List Symbol
all_words words [] = []
all_words words (d ∷ ds) = words d ++ all_words words ds

-- as many as one likes
abbrev pub many : {A : Type 0} → Language A → Language (List A)
many L = record { D = List L.D; fits = λ lim. all_fit (L.fits lim); words = all_words L.words; value = map L.value }

-- at most as many as the limits have
abbrev pub up_to : {A : Type 0} → (Limits → ℕ) → Language A → Language (List A)
up_to most L = record { D = List L.D; fits = λ lim ds. all_fit (L.fits lim) ds × (length ds ≤ most lim); words = all_words L.words; value = map L.value }

-- one or more, with commas between
abbrev pub commas : {A : Type 0} → Language A → Language (List A)
commas L = record { D = L.D × List L.D; fits = λ lim d. L.fits lim d.0 × all_fit (L.fits lim) d.1; words = λ d. L.words d.0 ++ all_words (λ d. k.Mark m.Comma ∷ L.words d) d.1; value = λ d. L.value d.0 ∷ map L.value d.1 }

pub data Either (D E : Type 0) : Type 0 where
  One : D → Either D E
  Other : E → Either D E

abbrev pub either_fits : {D E : Type 0} → (D → Type 0) → (E → Type 0) → Either D E → Type 0
either_fits f g (One d) = f d
either_fits f g (Other e) = g e

abbrev pub by_either : {A D E : Type 0} → (D → A) → (E → A) → Either D E → A
by_either f g (One d) = f d
by_either f g (Other e) = g e

infixr 17 ◌∣◌
-- the one or the other
abbrev pub ◌∣◌ : {A : Type 0} → Language A → Language A → Language A
L ∣ M = record { D = Either L.D M.D; fits = λ lim. either_fits (L.fits lim) (M.fits lim); words = by_either L.words M.words; value = by_either L.value M.value }

-- ---- names and expressions

abbrev pub name : Language (List ℕ)
name = record { D = List ℕ; fits = λ lim n. Unit {0}; words = λ n. k.Name n ∷ []; value = λ n. n }

-- a symbol with a meaning
abbrev pub one_of : {A : Type 0} → (Symbol → Option A) → Language A
one_of {A} means = record { D = record { symbol : Symbol; value : A }; fits = λ lim d. means d.symbol ≡ Some d.value; words = λ d. d.symbol ∷ []; value = λ d. d.value }

abbrev pub sizes : Language (Unit {0})
sizes = record { D = Sizes; fits = λ lim s. AreSizes s; words = sizes_words; value = λ s. tt }
