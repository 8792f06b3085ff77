-- Which numbers strings and names are refused by: 2, 3, 19, 13, 18. What follows one is refused by these and by its own.
-- Along the definitions, as for integers.
use mathlib.Core.Bool.{Bool}
use Prim.Native.Nat.{ℕ, ◌-◌}
use mathlib.Core.List.{List, [], ◌∷◌}
use lib.ListN.{length}
use lib.Dec.{ltb, leb, eqb}
use Rattle.memory.proofs.Order.{pick-both, need-both}
use Rattle.integers.specs.Answers.{truncated, too_large, padded, too_long, bad_packing}
use Rattle.integers.specs.Integer.{read_int}
use Rattle.integers.proofs.Told.{Told, RefusedBy, wider-refusals, int_refusals, int-told, told-on-int, told-on-read}
use Rattle.huffman.specs.Packing.{Unpacked}
use Rattle.wire.specs.Text.{text_at, size_limit, is_packed, read_string, string_after, string_end}
use Rattle.wire.specs.Name.{read_name}
use Rattle.std.specs.Prelude.{Err}
use Rattle.integers.specs.Answers.{Read}
use Rattle.integers.specs.declared.answer.Refusal.TheVariants.{BadPacking, TooLong, Truncated}

abbrev pub text_refusals : List ℕ
text_refusals = truncated ∷ too_large ∷ padded ∷ too_long ∷ bad_packing ∷ []

abbrev pub TextTold : {Y : Type 0} → Read Y → Type 0
TextTold r = RefusedBy text_refusals r

module _ (s : List ℕ) (at : ℕ) where
  end-told : (packed : Bool) (limit size start : ℕ) (u : Unpacked) → Told TextTold (string_end packed limit size start u)
  unfolding string_end
  end-told packed limit size start u =
      need-both (Told TextTold) (leb (length u.bytes) limit) (Err TooLong) _ (λ e. record { told = tt })
      (λ e. need-both (Told TextTold) u.whole (Err BadPacking) _ (λ d. record { told = tt }) (λ d. record { told = tt }))

  after-told : (packed : Bool) (limit size start : ℕ) → Told TextTold (string_after packed s limit size start)
  unfolding string_after
  after-told packed limit size start =
      need-both (Told TextTold) (leb size (size_limit packed limit)) (Err TooLong) _ (λ e. record { told = tt })
      (λ e. need-both (Told TextTold) (leb size (length s - start)) (Err Truncated) _ (λ d. record { told = tt })
      (λ d. end-told packed limit size start (text_at packed s start size)))

  pub string-told : (limit : ℕ) → Told TextTold (read_string s at limit)
  unfolding read_string
  string-told limit =
      need-both (Told TextTold) (ltb at (length s)) (Err Truncated) _ (λ e. record { told = tt })
      (λ e. told-on-int TextTold Err (wider-refusals text_refusals int_refusals tt) (read_int 7 s at) (int-told 7 s at) (after-told (is_packed s at) limit))

pub name-told : (k : ℕ) (s : List ℕ) (at : ℕ) → Told TextTold (read_name k s at)
unfolding read_name
name-told k s at =
    told-on-int TextTold Err (wider-refusals text_refusals int_refusals tt) (read_int k s at) (int-told k s at)
    (λ index next. pick-both (Told TextTold) (eqb index 0) _ _
    (λ e. told-on-read text_refusals TextTold Err (λ m r. r) (read_string s next 255) (string-told s next 255) (λ p after. record { told = tt }))
    (λ e. record { told = tt }))
