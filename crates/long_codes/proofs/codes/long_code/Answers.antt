use mathlib.Core.Path.{refl}
use native.Mathlib.Omega.{arith}
use Rattle.long_codes.proofs.codes.long_code.Goals as goal

-- `long_codes::codes::long_code` meets its contract: what begins with no longer code of a byte has no code here.
pub returns-then-x-lt-ABOVE_8 : goal.returns-then-x-lt-ABOVE_8
returns-then-x-lt-ABOVE_8 c = record { shorter = λ h. refl; longer = λ h l. absurd (omega arith); mark = λ h. refl }

pub returns : goal.returns
returns c = record { shorter = λ h. refl; longer = λ h l. absurd (omega arith); mark = λ h. refl }
