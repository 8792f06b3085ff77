-- Numbers of refusals: the one that is 2.
use mathlib.Core.Path.{◌≡◌, refl}
use native.Mathlib.Omega.{arith}
use Rattle.integers.specs.Answers.{number_of}
use Rattle.integers.specs.declared.answer.Refusal.{Refusal}
use Rattle.integers.specs.declared.answer.Refusal.TheVariants.{Truncated, TooLarge, NotAllowed, Held, OverLimit, Vacant, UnderDeletion, NotUnderDeletion, OutOfTurn, NoRoom, TooLong, BadStreamList, BadFieldList, NoState, BadPacking, Padded}

pub only_truncated : (why : Refusal) → number_of why ≡ 2 → why ≡ Truncated
only_truncated Truncated e = refl
only_truncated TooLarge e = absurd (omega arith)
only_truncated NotAllowed e = absurd (omega arith)
only_truncated Held e = absurd (omega arith)
only_truncated OverLimit e = absurd (omega arith)
only_truncated Vacant e = absurd (omega arith)
only_truncated UnderDeletion e = absurd (omega arith)
only_truncated NotUnderDeletion e = absurd (omega arith)
only_truncated OutOfTurn e = absurd (omega arith)
only_truncated NoRoom e = absurd (omega arith)
only_truncated TooLong e = absurd (omega arith)
only_truncated BadStreamList e = absurd (omega arith)
only_truncated BadFieldList e = absurd (omega arith)
only_truncated NoState e = absurd (omega arith)
only_truncated BadPacking e = absurd (omega arith)
only_truncated Padded e = absurd (omega arith)
