-- The tables: what is given is bytes, the calls give what the table says, and it passes a test of the rules. By computing.
use mathlib.Core.Path.{◌≡◌, refl}
use mathlib.Core.Bool.{Bool, true}
use mathlib.Core.List.{List, map}
use Rattle.model.specs.Parts.{Closing, over, ended}
use Rattle.link.specs.Claims.{Event}
use Rattle.link_examples.specs.Examples.{Shown, calls_of, life, accident, interim}
use Rattle.link_examples.specs.Ever.{late}
use Rattle.link_examples.proofs.Computing.{computed}
use Rattle.link_examples.proofs.RulesCheck.{keeps, keeps_so_far}
use Rattle.link_examples.proofs.Bare.{bare}
use Rattle.link_examples.proofs.CallBytes.{all_given}

pub record Computed (test : List Event → Bool) (t : List Shown) : Type 0 where
  pub given : all_given (calls_of t) ≡ true
  pub gives : computed 4096 4096 (calls_of t) ≡ t
  pub kept : test (map bare t) ≡ true

pub life-computed : Computed keeps life
unfolding all_given computed keeps life
life-computed = record { given = refl; gives = refl; kept = refl }

pub accident-computed : Computed keeps accident
unfolding all_given computed keeps accident
accident-computed = record { given = refl; gives = refl; kept = refl }

pub interim-computed : Computed keeps interim
unfolding all_given computed keeps interim
interim-computed = record { given = refl; gives = refl; kept = refl }

pub late-computed : (k : Closing) → Computed keeps_so_far (late k)
unfolding all_given computed keeps_so_far late
late-computed over = record { given = refl; gives = refl; kept = refl }
late-computed ended = record { given = refl; gives = refl; kept = refl }
