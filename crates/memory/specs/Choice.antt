-- Choosing by a test, and refusing where one fails: the shape of every definition that has answers in an order.
use Rattle.std.specs.Prelude.{Bool, true, false}

-- the first where the test holds, else the second
abbrev pub pick {ℓ} : {X : Type ℓ} → Bool → X → X → X
pick true a b = a
pick false a b = b

-- what must hold to go on: the refusal where it does not
abbrev pub need {ℓ} : {X : Type ℓ} → Bool → X → X → X
need true refusal rest = rest
need false refusal rest = refusal
