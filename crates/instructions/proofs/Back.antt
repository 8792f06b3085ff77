-- Reading gives back every instruction that can be said: where its bytes stand, the end that it is for reads it, and takes these bytes.
-- By the round trips of its parts, and the first byte, which keeps the bits before the index.
use mathlib.Core.Path.{◌≡◌, refl, ap, ◌∙◌}
use Prim.Native.Nat.{ℕ, ◌+◌, ◌*◌, ◌^◌}
use native.Mathlib.Omega.{arith}
use mathlib.Core.List.{List, ◌++◌}
use lib.ListN.{length}
use Rattle.memory.specs.Bytes.{Has}
use Rattle.memory.proofs.Places.{has_left, has_right, has-front}
use Rattle.integers.specs.Integer.{int_wire}
use Rattle.wire.specs.Text.{string_wire}
use Rattle.wire.specs.Name.{Name, name_wire}
use Rattle.stream_lists.specs.StreamList.{StreamList, list_wire}
use Rattle.integers.proofs.Back.{int-back}
use Rattle.integers.proofs.Lengths.{first_byte}
use Rattle.wire.proofs.TextBack.{string-back, name_back}
use Rattle.stream_lists.proofs.ListBack.{list_back}
use Rattle.instructions.specs.Instruction.{Instruction, insert, delete, acknowledge, FineIndex, FineInstruction, instruction_wire, Manages}
use Rattle.instructions.specs.Reading.{read_index, read_for_decoder, read_for_encoder, instruction_of}
use Rattle.instructions.specs.declared.read.InstructionPlace.{InstructionPlace}
use Rattle.instructions.specs.declared.read.InstructionPlace.TheVariants.{Insert, Delete, Acknowledge}
use Rattle.instructions.proofs.Equations.{index-found, insert-found, delete-found, acknowledgement-found, decoder-insert, decoder-acknowledgement, decoder-delete, encoder-insert, encoder-delete, encoder-acknowledgement}
use Rattle.instructions.proofs.Writing.{insert-length, delete-length}
use Rattle.std.specs.Prelude.{Ok, Err}
use Rattle.integers.specs.declared.answer.Refusal.TheVariants.{NotAllowed}

pub index_back : (s : List ℕ) (k t i : ℕ) → FineIndex i → Has s 0 (int_wire k (t * 2 ^ k) i)
    → read_index k s ≡ Ok (record { value = i }, 0 + length (int_wire k (t * 2 ^ k) i))
index_back s k t i h p = index-found k s _ refl (record { value = i }) _ (int-back s k 0 t i h.1 p) h.0

module _ (s : List ℕ) where
  insert-back : (i : ℕ) (name : Name) (value : List ℕ) → FineInstruction (insert i name value) → Has s 0 (instruction_wire (insert i name value))
      → (p : InstructionPlace) × (read_for_decoder s ≡ Ok (p, length (instruction_wire (insert i name value))))
      × (instruction_of s p ≡ insert i name value)
  unfolding instruction_wire
  insert-back i name value h p =
      let xs : List ℕ = int_wire 7 128 i in
      let ys : List ℕ = name_wire 8 0 name in
      let zs : List ℕ = string_wire value in
      let q : Has s 0 xs = has_left s 0 xs (ys ++ zs) p in
      let u : Has s (0 + length xs) (ys ++ zs) = has_right s 0 xs (ys ++ zs) p in
      let first = first_byte s 7 0 128 i q in
      let e = index_back s 7 1 i h.0 q in
      let n = name_back s 8 (0 + length xs) 0 name h.1 (has_left s (0 + length xs) ys zs u) in
      let v = string-back s (0 + length xs + length ys) 2047 value h.2 h.2 (has_right s (0 + length xs) ys zs u) in
      let l : 0 + length xs + length ys + length zs ≡ length (instruction_wire (insert i name value)) =
      omega (arith, insert-length i name value)
      in (
        Insert (record { value = i }) n.0 v.0,
        decoder-insert s first.0 first.1
            ∙ insert-found s _ refl _ _ e _ refl n.0 _ n.1 _ refl v.0 _ v.1
            ∙ ap (λ (taken : ℕ). Ok (Insert (record { value = i }) n.0 v.0, taken)) l,
        rw (n.2, v.2) refl,
      )

  delete-back : (i : ℕ) (nontrailer trailer : StreamList) → FineInstruction (delete i nontrailer trailer) → Has s 0 (instruction_wire (delete i nontrailer trailer))
      → (p : InstructionPlace) × (read_for_decoder s ≡ Ok (p, length (instruction_wire (delete i nontrailer trailer))))
      × (instruction_of s p ≡ delete i nontrailer trailer)
  unfolding instruction_wire
  delete-back i nontrailer trailer h p =
      let xs : List ℕ = int_wire 6 0 i in
      let ys : List ℕ = list_wire nontrailer.horizon nontrailer.streams in
      let zs : List ℕ = list_wire trailer.horizon trailer.streams in
      let q : Has s 0 xs = has_left s 0 xs (ys ++ zs) p in
      let u : Has s (0 + length xs) (ys ++ zs) = has_right s 0 xs (ys ++ zs) p in
      let first = first_byte s 6 0 0 i q in
      let e = index_back s 6 0 i h.0 q in
      let f = h.1 in
      let g = h.2 in
      let n = list_back s (0 + length xs) nontrailer.horizon nontrailer.streams f.0 f.1 f.2 (has_left s (0 + length xs) ys zs u) in
      let v = list_back s (0 + length xs + length ys) trailer.horizon trailer.streams g.0 g.1 g.2 (has_right s (0 + length xs) ys zs u) in
      let l : 0 + length xs + length ys + length zs ≡ length (instruction_wire (delete i nontrailer trailer)) =
      omega (arith, delete-length i nontrailer trailer)
      in (
        Delete (record { value = i }) n.0 v.0,
        decoder-delete s first.0 first.2
            ∙ delete-found s _ refl _ _ e _ refl n.0 _ n.1 _ refl v.0 _ v.1
            ∙ ap (λ (taken : ℕ). Ok (Delete (record { value = i }) n.0 v.0, taken)) l,
        rw (n.2, v.2) refl,
      )

  -- for the decoder, over an instruction that stands at the front
  pub decoder-back : (i : Instruction) → Manages i → FineInstruction i → Has s 0 (instruction_wire i)
      → (p : InstructionPlace) × (read_for_decoder s ≡ Ok (p, length (instruction_wire i))) × (instruction_of s p ≡ i)
  decoder-back (insert i name value) m = insert-back i name value
  decoder-back (delete i nontrailer trailer) m = delete-back i nontrailer trailer
  decoder-back (acknowledge i) m = absurd m

  -- for the encoder
  pub encoder-back : (i : ℕ) → FineIndex i → Has s 0 (instruction_wire (acknowledge i))
      → (p : InstructionPlace) × (read_for_encoder s ≡ Ok (p, length (instruction_wire (acknowledge i)))) × (instruction_of s p ≡ acknowledge i)
  unfolding instruction_wire
  encoder-back i h p =
      let first = first_byte s 6 0 64 i p in
      let l : 0 + length (int_wire 6 64 i) ≡ length (int_wire 6 64 i) = omega arith in (
        Acknowledge (record { value = i }),
        encoder-acknowledgement s first.0 first.2 first.1
            ∙ acknowledgement-found s _ refl _ _ (index_back s 6 1 i h p)
            ∙ ap (λ (taken : ℕ). Ok (Acknowledge (record { value = i }), taken)) l,
        refl,
      )

  -- the other end refuses it, by the first byte
  pub decoder-other : (i : ℕ) → Has s 0 (instruction_wire (acknowledge i)) → read_for_decoder s ≡ Err NotAllowed
  unfolding instruction_wire
  decoder-other i p = let first = first_byte s 6 0 64 i p in decoder-acknowledgement s first.0 first.2 first.1

  pub encoder-other : (i : Instruction) → Manages i → Has s 0 (instruction_wire i) → read_for_encoder s ≡ Err NotAllowed
  unfolding instruction_wire
  encoder-other (insert i name value) m p =
      let first = first_byte s 7 0 128 i (has_left s 0 (int_wire 7 128 i) (name_wire 8 0 name ++ string_wire value) p) in
      encoder-insert s first.0 first.1
  encoder-other (delete i nontrailer trailer) m p =
      let zs : List ℕ = list_wire nontrailer.horizon nontrailer.streams ++ list_wire trailer.horizon trailer.streams in
      let first = first_byte s 6 0 0 i (has_left s 0 (int_wire 6 0 i) zs p) in
      encoder-delete s first.0 first.2
  encoder-other (acknowledge i) m p = absurd m

-- the same of an instruction with other bytes behind
pub decoder-front : (i : Instruction) (rest : List ℕ) → Manages i → FineInstruction i
    → (p : InstructionPlace) × (read_for_decoder (instruction_wire i ++ rest) ≡ Ok (p, length (instruction_wire i)))
    × (instruction_of (instruction_wire i ++ rest) p ≡ i)
decoder-front i rest m h = decoder-back (instruction_wire i ++ rest) i m h (has-front (instruction_wire i) rest)

pub encoder-front : (i : ℕ) (rest : List ℕ) → FineIndex i
    → (p : InstructionPlace) × (read_for_encoder (instruction_wire (acknowledge i) ++ rest) ≡ Ok (p, length (instruction_wire (acknowledge i))))
    × (instruction_of (instruction_wire (acknowledge i) ++ rest) p ≡ acknowledge i)
encoder-front i rest h = encoder-back (instruction_wire (acknowledge i) ++ rest) i h (has-front (instruction_wire (acknowledge i)) rest)
