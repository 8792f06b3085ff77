-- An instruction has exactly one accepted form, given which of its strings are packed. That its form is accepted: by the round trips of its parts.
use mathlib.Core.Path.{◌≡◌, refl, sym, ap, ap₂, ◌∙◌}
use mathlib.Core.Bool.{Bool, true, false}
use Prim.Native.Nat.{ℕ, ◌+◌}
use native.Mathlib.Omega.{arith}
use native.Mathlib.Nat.{sub-zero}
use mathlib.Core.List.{List, ◌++◌}
use lib.ListN.{length, length-append}
use Rattle.memory.specs.Bytes.{part, Has, Small}
use Rattle.memory.proofs.Order.{not-both}
use Rattle.memory.proofs.Overlay.{small-append}
use Rattle.memory.proofs.Places.{has_left, has_right, has_all, part-all}
use Rattle.integers.specs.Integer.{int_wire}
use Rattle.integers.proofs.Lengths.{first_byte, int-bytes-small}
use Rattle.wire.specs.Name.{Name}
use Rattle.wire.proofs.TextBounds.{string-bytes-small}
use Rattle.instructions.specs.Instruction.{Instruction, insert, delete, acknowledge, FineIndex, FineInstruction, Manages, instruction_wire}
use Rattle.instructions.specs.Reading.{read_for_decoder, read_for_encoder, instruction_of}
use Rattle.instructions.specs.declared.read.InstructionPlace.{InstructionPlace}
use Rattle.instructions.specs.declared.read.InstructionPlace.TheVariants.{Insert, Delete, Acknowledge}
use Rattle.instructions.proofs.Equations.{insert-found, decoder-insert}
use Rattle.instructions.proofs.Lengths.{instruction-small}
use Rattle.instructions.proofs.Back.{index_back, decoder-back, encoder-back}
use Rattle.forms.specs.Forms.{Packed, string_form, name_form, instruction_form}
use Rattle.forms.specs.Packed.{none, packed_instruction, AcceptedInstruction, FitInstruction}
use Rattle.forms.specs.Claim.{Alike}
use Rattle.forms.proofs.Stands.{Stands, stands-part, name-fits}
use Rattle.forms.proofs.InstructionStands.{decoder-stands, encoder-stands}
use Rattle.forms.proofs.FormBack.{string-small, string-back, name-small, name_back}
use Rattle.std.specs.Prelude.{Ok}
use Rattle.integers.specs.Answers.{Read}

-- of any reader that finds an instruction only where it stands in its form
module _ (reader : List ℕ → Read InstructionPlace)
    (stands : (s : List ℕ) → Small s → (p : InstructionPlace) (taken : ℕ) → reader s ≡ Ok (p, taken)
    → Stands s 0 (instruction_form (packed_instruction p) (instruction_of s p)) taken) where
  taken-form : (s : List ℕ) → Small s → (p : InstructionPlace) (taken : ℕ) → reader s ≡ Ok (p, taken)
      → part s 0 taken ≡ instruction_form (packed_instruction p) (instruction_of s p)
  taken-form s small p taken e = rw sub-zero at (stands-part (stands s small p taken e))

  alike : Alike reader
  alike s t a b p q n m e d says packs = taken-form s a p n e ∙ ap₂ instruction_form packs says ∙ sym (taken-form t b q m d)

  no_other : (packed : Packed) (i : Instruction) (s : List ℕ) → AcceptedInstruction reader packed i s → s ≡ instruction_form packed i
  no_other packed i s a =
      sym (part-all s) ∙ taken-form s a.bytes a.place (length s) a.reads ∙ ap₂ instruction_form a.packs a.says

insert-accepted : (packed : Packed) (i : ℕ) (name : Name) (value : List ℕ) → FineInstruction (insert i name value) → FitInstruction packed (insert i name value)
    → AcceptedInstruction read_for_decoder packed (insert i name value) (instruction_form packed (insert i name value))
unfolding instruction_form
insert-accepted packed i name value h b =
    let xs : List ℕ = int_wire 7 128 i in
    let ys : List ℕ = name_form 8 0 packed.name name in
    let zs : List ℕ = string_form packed.value value in
    let s : List ℕ = xs ++ (ys ++ zs) in
    let p : Has s 0 xs = has_left s 0 xs (ys ++ zs) (has_all s) in
    let u : Has s (0 + length xs) (ys ++ zs) = has_right s 0 xs (ys ++ zs) (has_all s) in
    let first = first_byte s 7 0 128 i p in
    let n = name_back s packed.name 8 (0 + length xs) 0 name h.1 b.0 (has_left s (0 + length xs) ys zs u) in
    let v = string-back s packed.value (0 + length xs + length ys) 2047 value h.2 h.2 b.1 (has_right s (0 + length xs) ys zs u) in
    let l : 0 + length xs + length ys + length zs ≡ length s = omega (arith, length-append xs (ys ++ zs), length-append ys zs) in
    record {
      bytes = small-append xs (ys ++ zs) (int-bytes-small 7 128 i (omega arith) h.0.1)
          (small-append ys zs (name-small 8 0 packed.name name (omega arith) h.1 b.0) (string-small packed.value value h.2 b.1));
      place = Insert (record { value = i }) n.0 v.0;
      reads = decoder-insert s first.0 first.1
          ∙ rw l at (insert-found s _ refl _ _ (index_back s 7 1 i h.0 p) _ refl n.0 _ n.1 _ refl v.0 _ v.1);
      says = rw (n.2, v.2) refl;
      packs = ap₂ (λ (x y : Bool). record { name = x; value = y }) n.3 v.3;
    }

-- what has no strings has none packed
abbrev is_insert : Instruction → Bool
is_insert (insert i name value) = true
is_insert (delete i nontrailer trailer) = false
is_insert (acknowledge i) = false

no-strings : (s : List ℕ) (p : InstructionPlace) → is_insert (instruction_of s p) ≡ false → packed_instruction p ≡ none
no-strings s (Insert i name value) e = not-both true refl e
no-strings s (Delete i nontrailer trailer) e = refl
no-strings s (Acknowledge i) e = refl

decoder-accepts : (packed : Packed) (i : Instruction) → Manages i → FineInstruction i → FitInstruction packed i
    → AcceptedInstruction read_for_decoder packed i (instruction_form packed i)
unfolding instruction_form instruction_wire
decoder-accepts packed (insert i name value) m h b = insert-accepted packed i name value h b
decoder-accepts packed (delete i nontrailer trailer) m h b =
    let w : List ℕ = instruction_wire (delete i nontrailer trailer) in
    let r = decoder-back w (delete i nontrailer trailer) m h (has_all w) in
    record {
      bytes = instruction-small (delete i nontrailer trailer) h tt;
      place = r.0;
      reads = r.1;
      says = r.2;
      packs = no-strings w r.0 (ap is_insert r.2) ∙ sym b;
    }
decoder-accepts packed (acknowledge i) m h b = absurd m

-- "given what it says and which of its strings are packed, an instruction .. has exactly one accepted form": for the decoder an insert or a delete,
pub one_for_decoder : (packed : Packed) (i : Instruction) → Manages i → FineInstruction i → FitInstruction packed i
    → AcceptedInstruction read_for_decoder packed i (instruction_form packed i)
    × ((s : List ℕ) → AcceptedInstruction read_for_decoder packed i s → s ≡ instruction_form packed i)
one_for_decoder packed i m h b = (decoder-accepts packed i m h b, no_other read_for_decoder decoder-stands packed i)

-- and for the encoder an acknowledgement
pub one_for_encoder : (i : ℕ) → FineIndex i
    → AcceptedInstruction read_for_encoder none (acknowledge i) (instruction_form none (acknowledge i))
    × ((s : List ℕ) → AcceptedInstruction read_for_encoder none (acknowledge i) s → s ≡ instruction_form none (acknowledge i))
unfolding instruction_form instruction_wire
one_for_encoder i h =
    let w : List ℕ = instruction_wire (acknowledge i) in
    let r = encoder-back w i h (has_all w) in (
      record {
        bytes = instruction-small (acknowledge i) h tt;
        place = r.0;
        reads = r.1;
        says = r.2;
        packs = no-strings w r.0 (ap is_insert r.2);
      },
      no_other read_for_encoder encoder-stands none (acknowledge i),
    )

-- an instruction that was read can be said with the strings packed that are
pub instruction-fits : (s : List ℕ) → Small s → (p : InstructionPlace) → FitInstruction (packed_instruction p) (instruction_of s p)
instruction-fits s small (Insert i name value) = (name-fits s small name, string-bytes-small s value small)
instruction-fits s small (Delete i nontrailer trailer) = refl
instruction-fits s small (Acknowledge i) = refl

-- with other bytes behind
pub decoder_alike : Alike read_for_decoder
decoder_alike = alike read_for_decoder decoder-stands

pub encoder_alike : Alike read_for_encoder
encoder_alike = alike read_for_encoder encoder-stands
