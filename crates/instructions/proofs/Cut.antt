-- A proper beginning of an instruction is answered 2.
-- Another answer would be kept when the rest is added, but the whole is found with all its bytes, more than the beginning has.
use mathlib.Core.Path.{◌≡◌, refl, sym, ap, ◌∙◌}
use Prim.Native.Nat.{ℕ, ◌≤◌, ◌<◌}
use native.Mathlib.Omega.{arith}
use mathlib.Core.List.{List, ◌++◌}
use lib.ListN.{length, length-append}
use Rattle.memory.proofs.Order.{split}
use Rattle.memory.proofs.Places.{has_all}
use Rattle.memory.specs.Bytes.{Has}
use Rattle.integers.proofs.Refusals.{only_truncated}
use Rattle.integers.proofs.Kept.{Kept}
use Rattle.instructions.specs.Instruction.{Instruction, acknowledge, FineIndex, FineInstruction, instruction_wire, Manages}
use Rattle.instructions.specs.Reading.{instruction_answer, read_for_decoder, read_for_encoder}
use Rattle.instructions.specs.declared.read.InstructionPlace.{InstructionPlace}
use Rattle.instructions.proofs.Bounds.{decoder-good, encoder-good}
use Rattle.instructions.proofs.Back.{decoder-back, encoder-back}
use Rattle.instructions.proofs.Kept.{decoder-kept, encoder-kept}
use Rattle.std.specs.Prelude.{Ok, Err}
use Rattle.integers.specs.Answers.{Read, answer_number, number_of}
use Rattle.integers.specs.declared.answer.Refusal.TheVariants.{Truncated}

-- r is answered of n bytes, and q of more, whose first `taken` bytes are an instruction
cut : (r q : Read InstructionPlace) → Kept answer_number r q → (n : ℕ) → ((p : InstructionPlace) (taken : ℕ) → r ≡ Ok (p, taken) → taken ≤ n)
    → (p : InstructionPlace) (taken : ℕ) → q ≡ Ok (p, taken) → n < taken → r ≡ Err Truncated
cut (Ok (p', taken')) q k n b p taken e l =
    let d : q ≡ Ok (p', taken') = k.same (λ z. omega arith) in
    let z : taken ≡ taken' = ap (λ (r : Read InstructionPlace). (instruction_answer r).first) (sym e ∙ d) in
    absurd (omega (arith, b p' taken' refl))
cut (Err why) q k n b p taken e l =
    split (number_of why) 2 (λ h. other (λ z. omega arith))
    (λ h. split 2 (number_of why) (λ g. other (λ z. omega arith)) (λ g. ap Err (only_truncated why (omega arith))))
  where
    other : (number_of why ≡ 2 → ⊥) → ◌≡◌ {A = Read InstructionPlace} (Err why) (Err Truncated)
    other h =
        let d : q ≡ Err why = k.same h in
        let z : ◌≡◌ {A = ℕ} 0 1 = cc in
        absurd (omega arith)

module _ (xs ys : List ℕ) (more : 0 < length ys) where
  pub decoder-cut : (i : Instruction) → Manages i → FineInstruction i → instruction_wire i ≡ xs ++ ys → read_for_decoder xs ≡ Err Truncated
  decoder-cut i m f e =
      let p : Has (xs ++ ys) 0 (instruction_wire i) = rw e (has_all (xs ++ ys)) in
      let b = decoder-back (xs ++ ys) i m f p in
      cut (read_for_decoder xs) (read_for_decoder (xs ++ ys)) (decoder-kept xs ys) (length xs) (λ q taken d. (decoder-good xs q taken d).inside)
      b.0 (length (instruction_wire i)) b.1 (omega (arith, ap length e, length-append xs ys))

  pub encoder-cut : (i : ℕ) → FineIndex i → instruction_wire (acknowledge i) ≡ xs ++ ys → read_for_encoder xs ≡ Err Truncated
  encoder-cut i f e =
      let p : Has (xs ++ ys) 0 (instruction_wire (acknowledge i)) = rw e (has_all (xs ++ ys)) in
      let b = encoder-back (xs ++ ys) i f p in
      cut (read_for_encoder xs) (read_for_encoder (xs ++ ys)) (encoder-kept xs ys) (length xs) (λ q taken d. (encoder-good xs q taken d).inside)
      b.0 (length (instruction_wire (acknowledge i))) b.1 (omega (arith, ap length e, length-append xs ys))
