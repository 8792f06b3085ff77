-- An answer other than 2 does not change when bytes are added behind, and an instruction that was read is the same one in the longer bytes.
-- Each reader is a chain of tests and readers, kept link by link.
use mathlib.Core.Path.{◌≡◌, refl, sym, ap, ap₂, ◌∙◌}
use Prim.Native.Nat.{ℕ}
use native.Mathlib.Omega.{arith}
use mathlib.Core.List.{List, ◌++◌}
use lib.ListN.{get_or}
use lib.Dec.{ltb, leb}
use Rattle.integers.specs.Integer.{read_int}
use Rattle.wire.specs.Text.{read_string, value_limit}
use Rattle.wire.specs.Name.{read_name}
use Rattle.stream_lists.specs.StreamList.{list_of, read_list, InList}
use Rattle.stream_lists.specs.declared.stream_list.ListPlace.{ListPlace}
use Rattle.integers.proofs.Kept.{Kept, kept_same, kept-need, kept-pick, kept-inside, kept-on-read, kept-on-int, byte-kept, int-kept}
use Rattle.wire.proofs.TextBounds.{string-bytes-kept, name-of-kept}
use Rattle.wire.proofs.TextKept.{string-kept, name-kept}
use Rattle.stream_lists.proofs.ListKept.{list-kept, streams-kept}
use Rattle.instructions.specs.Instruction.{insert, delete}
use Rattle.instructions.specs.Reading.{read_index, read_insert, read_delete, read_acknowledgement, read_for_decoder, read_for_encoder, instruction_of, InBytes}
use Rattle.instructions.specs.declared.read.InstructionPlace.{InstructionPlace}
use Rattle.instructions.specs.declared.read.InstructionPlace.TheVariants.{Insert, Delete, Acknowledge}
use Rattle.instructions.proofs.Bounds.{decoder-good}
use Rattle.std.specs.Prelude.{Ok, Err}
use Rattle.integers.specs.Answers.{answer_number}
use Rattle.integers.specs.declared.answer.Refusal.TheVariants.{NotAllowed, Truncated}

module _ (s t : List ℕ) where
  pub index_kept : (k : ℕ) → Kept answer_number (read_index k s) (read_index k (s ++ t))
  unfolding read_index
  index_kept k =
      kept-on-int answer_number Err refl (read_int k s 0) (read_int k (s ++ t) 0) (int-kept k s t 0) (λ i next e. kept_same answer_number _)

  pub insert-kept : Kept answer_number (read_insert s) (read_insert (s ++ t))
  unfolding read_insert
  insert-kept =
      kept-on-read answer_number Err refl (read_index 7 s) (read_index 7 (s ++ t)) (index_kept 7) (λ i next e.
      kept-on-read answer_number Err refl (read_name 8 s next) (read_name 8 (s ++ t) next) (name-kept 8 s t next) (λ name after f.
      kept-on-read answer_number Err refl (read_string s after value_limit) (read_string (s ++ t) after value_limit)
      (string-kept s t after value_limit) (λ value taken g. kept_same answer_number (Ok (Insert i name value, taken)))))

  pub delete-kept : Kept answer_number (read_delete s) (read_delete (s ++ t))
  unfolding read_delete
  delete-kept =
      kept-on-read answer_number Err refl (read_index 6 s) (read_index 6 (s ++ t)) (index_kept 6) (λ i next e.
      kept-on-read answer_number Err refl (read_list s next) (read_list (s ++ t) next) (list-kept s t next) (λ nontrailer after f.
      kept-on-read answer_number Err refl (read_list s after) (read_list (s ++ t) after) (list-kept s t after) (λ trailer taken g.
      kept_same answer_number (Ok (Delete i nontrailer trailer, taken)))))

  pub acknowledgement-kept : Kept answer_number (read_acknowledgement s) (read_acknowledgement (s ++ t))
  unfolding read_acknowledgement
  acknowledgement-kept =
      kept-on-read answer_number Err refl (read_index 6 s) (read_index 6 (s ++ t)) (index_kept 6) (λ i taken e.
      kept_same answer_number (Ok (Acknowledge i, taken)))

  pub decoder-kept : Kept answer_number (read_for_decoder s) (read_for_decoder (s ++ t))
  unfolding read_for_decoder
  decoder-kept =
      kept-inside answer_number (Err Truncated) refl s t 0 (λ h.
      rw (byte-kept s t 0 h)
      (kept-pick answer_number (leb 128 (get_or s 0 0)) insert-kept
      (kept-need answer_number (ltb (get_or s 0 0) 64) (kept_same answer_number (Err NotAllowed)) delete-kept)))

  pub encoder-kept : Kept answer_number (read_for_encoder s) (read_for_encoder (s ++ t))
  unfolding read_for_encoder
  encoder-kept =
      kept-inside answer_number (Err Truncated) refl s t 0 (λ h.
      rw (byte-kept s t 0 h)
      (kept-need answer_number (ltb (get_or s 0 0) 128) (kept_same answer_number (Err NotAllowed))
      (kept-need answer_number (leb 64 (get_or s 0 0)) (kept_same answer_number (Err NotAllowed)) acknowledgement-kept)))

  list-of-kept : (p : ListPlace) → InList s p → list_of (s ++ t) p ≡ list_of s p
  list-of-kept p g =
      ap (λ (ys : List ℕ). record { horizon = p.horizon; streams = ys })
      (streams-kept s t p.count p.deltas p.horizon g.end g.deltas)

  -- the instruction at a place in s is the same with t behind
  pub instruction-of-kept : (p : InstructionPlace) → InBytes s p → instruction_of (s ++ t) p ≡ instruction_of s p
  instruction-of-kept (Insert i name value) g =
      ap₂ (insert i.value) (name-of-kept s t name g.0) (string-bytes-kept s value t g.1)
  instruction-of-kept (Delete i nontrailer trailer) g = ap₂ (delete i.value) (list-of-kept nontrailer g.0) (list-of-kept trailer g.1)
  instruction-of-kept (Acknowledge i) g = refl

  -- an instruction that was read is read the same, and says the same
  module _ (p : InstructionPlace) (taken : ℕ) where
    pub decoder-same : read_for_decoder s ≡ Ok (p, taken)
        → (read_for_decoder (s ++ t) ≡ Ok (p, taken)) × (instruction_of (s ++ t) p ≡ instruction_of s p)
    decoder-same e =
        (decoder-kept.same (λ z. omega (arith, sym (ap answer_number e) ∙ z)) ∙ e, instruction-of-kept p (decoder-good s p taken e).bytes)

    pub encoder-same : read_for_encoder s ≡ Ok (p, taken) → read_for_encoder (s ++ t) ≡ Ok (p, taken)
    encoder-same e = encoder-kept.same (λ z. omega (arith, sym (ap answer_number e) ∙ z)) ∙ e
