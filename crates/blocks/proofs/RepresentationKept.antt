-- An answer other than 2 of `read_representation` does not change when bytes are added behind.
-- The reader is a chain of tests and readers, kept link by link.
use mathlib.Core.Path.{◌≡◌, refl, ◌∙◌}
use Prim.Native.Nat.{ℕ, ◌<◌}
use native.Mathlib.Omega.{arith}
use mathlib.Core.List.{List, ◌++◌}
use lib.ListN.{length, get_or}
use lib.Dec.{ltb}
use Rattle.integers.specs.Integer.{read_int}
use Rattle.integers.proofs.Kept.{Kept, kept_same, kept-need, kept-pick, kept-inside, kept-on-int, kept-on-read, byte-kept, int-kept}
use Rattle.wire.specs.Text.{read_string}
use Rattle.wire.specs.Name.{read_name}
use Rattle.wire.proofs.TextKept.{string-kept, name-kept}
use Rattle.blocks.specs.Reading.{flag_of, representation_of, read_indexed, read_literal, read_representation}
use Rattle.blocks.specs.declared.read.RepresentationPlace.{RepresentationPlace}
use Rattle.blocks.specs.declared.read.RepresentationPlace.TheVariants.{Indexed, Literal}
use Rattle.blocks.proofs.Bounds.{representation-good, representation-of-kept}
use Rattle.std.specs.Prelude.{Ok, Err}
use Rattle.integers.specs.Answers.{answer_number}
use Rattle.integers.specs.declared.answer.Refusal.TheVariants.{NotAllowed, Truncated}

module _ (s t : List ℕ) (at : ℕ) where
  indexed-kept : Kept answer_number (read_indexed s at) (read_indexed (s ++ t) at)
  unfolding read_indexed
  indexed-kept =
      kept-on-int answer_number Err refl (read_int 7 s at) (read_int 7 (s ++ t) at) (int-kept 7 s t at) (λ i next e.
      kept-need answer_number (ltb 0 i) (kept_same answer_number (Err NotAllowed))
      (kept_same answer_number (Ok (Indexed (record { value = i }), next))))

  literal-kept : at < length s → Kept answer_number (read_literal s at) (read_literal (s ++ t) at)
  unfolding read_literal
  literal-kept h =
      rw (byte-kept s t at h)
      (kept-on-read answer_number Err refl (read_name 6 s at) (read_name 6 (s ++ t) at) (name-kept 6 s t at) (λ name next e.
      kept-on-read answer_number Err refl (read_string s next 2047) (read_string (s ++ t) next 2047) (string-kept s t next 2047)
      (λ value after d. kept_same answer_number (Ok (Literal (flag_of (get_or s at 0)) name value, after)))))

  pub representation-kept : Kept answer_number (read_representation s at) (read_representation (s ++ t) at)
  unfolding read_representation
  representation-kept =
      kept-inside answer_number (Err Truncated) refl s t at (λ h.
      rw (byte-kept s t at h)
      (kept-pick answer_number (ltb (get_or s at 0) 128) (literal-kept h) indexed-kept))

  -- one that was read, and what it says
  pub representation-same : (p : RepresentationPlace) (next : ℕ) → read_representation s at ≡ Ok (p, next)
      → (read_representation (s ++ t) at ≡ Ok (p, next)) × (representation_of (s ++ t) p ≡ representation_of s p)
  representation-same p next e = (
    representation-kept.same (λ z. let w : ◌≡◌ {A = ℕ} 0 2 = rw e at z in omega arith) ∙ e,
    representation-of-kept s t p (representation-good s at p next e).places,
  )
