-- What holds of a part under a regard holds of the whole, under each.
use Rattle.std.proofs.Common.{◌≡◌, inr, List, Some, None, ◌∙◌, sym}
use Rattle.cr_value.specs.declared.value.Value.{Value}
use Rattle.cr_scalar.specs.Host.{Host}
use Rattle.cr_scalar.specs.declared.fault.EvalFault.{EvalFault}
use Rattle.cr_scalar.specs.declared.fault.EvalFault.TheVariants.{Overflow, NotANumber, NotUtf8, Host as Said, TooBig, Memory}
use Rattle.cr_meaning.specs.Meaning.{Regard, IsLimit, StandsAlone, Counts, regarded}
use Rattle.cr_exec.specs.Answers.{Stage, Faults, IsMeant}

-- what is left of a whole gives the whole
pub record Gives {Y : Type 0} (host : Host) (params : List Value) (rest whole : Stage Y) : Type 0 where
  pub under : (g : Regard) → IsLimit g.most → rest (regarded g host params) ≡ whole (regarded g host params)

-- a fault counts under one of the two limits
pub limit_of_count : (g : Regard) (e : EvalFault) → Counts g e → IsLimit g.most
limit_of_count g Overflow c = c.0
limit_of_count g NotANumber c = c.0
limit_of_count g NotUtf8 c = c.0
limit_of_count g (Said text) c = c.0
limit_of_count g TooBig c = inr c.0
limit_of_count g Memory c = absurd c

pub alone : (g : Regard) (e : EvalFault) → Counts g e → StandsAlone g e
alone g Overflow c = c.1
alone g NotANumber c = c.1
alone g NotUtf8 c = c.1
alone g (Said text) c = c.1
alone g TooBig c = c.1
alone g Memory c = absurd c

module _ (host : Host) (params : List Value) where
  -- what has no answer wherever the fault counts
  pub faults_by : {Y : Type 0} (f : Stage Y) (e : EvalFault) → ((g : Regard) → Counts g e → f (regarded g host params) ≡ None) → Faults host params f e
  faults_by f Overflow h = record { under = h }
  faults_by f NotANumber h = record { under = h }
  faults_by f NotUtf8 h = record { under = h }
  faults_by f (Said text) h = record { under = h }
  faults_by f TooBig h = record { under = h }
  faults_by f Memory h = tt

  pub misses : {Y : Type 0} (f : Stage Y) (e : EvalFault) → Faults host params f e → (g : Regard) → Counts g e → f (regarded g host params) ≡ None
  misses f Overflow h g c = h.under g c
  misses f NotANumber h g c = h.under g c
  misses f NotUtf8 h g c = h.under g c
  misses f (Said text) h g c = h.under g c
  misses f TooBig h g c = h.under g c
  misses f Memory h g c = absurd c

  -- a fault of a part is one of the whole
  pub faults_on : {Y Z : Type 0} (f : Stage Y) (whole : Stage Z) (e : EvalFault) → ((g : Regard) → f (regarded g host params) ≡ None → whole (regarded g host params) ≡ None) → Faults host params f e → Faults host params whole e
  faults_on f whole e k h = faults_by whole e (λ g c. k g (misses f e h g c))

  -- and what it is decides what the whole is
  pub meant_on : {Y Z : Type 0} (f : Stage Y) (whole : Stage Z) (y : Y) (z : Z) → ((g : Regard) → f (regarded g host params) ≡ Some y → whole (regarded g host params) ≡ Some z) → IsMeant host params f y → IsMeant host params whole z
  meant_on f whole y z k h = record { under = λ g l. k g (h.under g l) }

  -- a fault of a part behind one that is known
  pub faults_after : {X Y Z : Type 0} (p : Stage X) (x : X) (f : Stage Y) (whole : Stage Z) (e : EvalFault) → ((g : Regard) → p (regarded g host params) ≡ Some x → f (regarded g host params) ≡ None → whole (regarded g host params) ≡ None) → IsMeant host params p x → Faults host params f e → Faults host params whole e
  faults_after p x f whole e k b h = faults_by whole e (λ g c. k g (b.under g (limit_of_count g e c)) (misses f e h g c))

  pub meant_after : {X Y Z : Type 0} (p : Stage X) (x : X) (f : Stage Y) (y : Y) (whole : Stage Z) (z : Z) → ((g : Regard) → p (regarded g host params) ≡ Some x → f (regarded g host params) ≡ Some y → whole (regarded g host params) ≡ Some z) → IsMeant host params p x → IsMeant host params f y → IsMeant host params whole z
  meant_after p x f y whole z k b h = record { under = λ g l. k g (b.under g l) (h.under g l) }

  pub meant_always : {Y : Type 0} (f : Stage Y) (y : Y) → ((g : Regard) → f (regarded g host params) ≡ Some y) → IsMeant host params f y
  meant_always f y k = record { under = λ g l. k g }

  pub gives_all : {Y : Type 0} (rest whole : Stage Y) → ((g : Regard) → rest (regarded g host params) ≡ whole (regarded g host params)) → Gives host params rest whole
  gives_all rest whole k = record { under = λ g l. k g }

  pub gives_faults : {Y : Type 0} (rest whole : Stage Y) (e : EvalFault) → Gives host params rest whole → Faults host params rest e → Faults host params whole e
  gives_faults rest whole e s h = faults_by whole e (λ g c. sym (s.under g (limit_of_count g e c)) ∙ misses rest e h g c)

  pub gives_meant : {Y : Type 0} (rest whole : Stage Y) (y : Y) → Gives host params rest whole → IsMeant host params rest y → IsMeant host params whole y
  gives_meant rest whole y s h = record { under = λ g l. sym (s.under g l) ∙ h.under g l }

  -- one step, where a part is known
  pub gives_next : {X Y : Type 0} (part : Stage X) (x : X) (rest next whole : Stage Y) → ((g : Regard) → part (regarded g host params) ≡ Some x → next (regarded g host params) ≡ rest (regarded g host params)) → IsMeant host params part x → Gives host params rest whole → Gives host params next whole
  gives_next part x rest next whole k h s = record { under = λ g l. k g (h.under g l) ∙ s.under g l }
