-- An instruction that was read stands in the bytes as the writer that is told which strings to pack writes it.
-- By cases along the equations of the readers, and the laws of its parts.
use mathlib.Core.Path.{◌≡◌, sym}
use Prim.Native.Nat.{ℕ, ◌*◌, ◌/◌, ◌^◌, ◌<◌, ◌≤◌}
use native.Mathlib.Omega.{arith}
use mathlib.Core.List.{List}
use lib.ListN.{length, get_or}
use Rattle.memory.specs.Bytes.{Small}
use Rattle.memory.proofs.Order.{split, need-both}
use Rattle.integers.proofs.Told.{Told}
use lib.Dec.{leb}
use Rattle.forms.proofs.Found.{Found, found-each, found-on-read, found-on-int}
use Rattle.integers.specs.declared.answer.Refusal.TheVariants.{NotAllowed}
use Rattle.integers.specs.Integer.{read_int, int_wire}
use Rattle.wire.specs.Text.{read_string}
use Rattle.wire.specs.Name.{read_name}
use Rattle.stream_lists.specs.StreamList.{read_list}
use Rattle.integers.specs.declared.number.TableIndex.{TableIndex}
use Rattle.instructions.specs.Reading.{read_index, read_insert, read_delete, read_acknowledgement, read_for_decoder, read_for_encoder, instruction_of}
use Rattle.instructions.specs.declared.read.InstructionPlace.{InstructionPlace}
use Rattle.instructions.proofs.Equations.{decoder-empty, decoder-insert, decoder-acknowledgement, decoder-delete, encoder-empty, encoder-insert, encoder-delete, encoder-acknowledgement}
use Rattle.forms.specs.Forms.{instruction_form}
use Rattle.forms.specs.Packed.{packed_instruction}
use Rattle.forms.proofs.Stands.{Stands, stands-join, int-there, string-stands, name-stands}
use Rattle.forms.proofs.Lists.{list-stands}
use Rattle.std.specs.Prelude.{Ok, Err}
use Rattle.integers.specs.Answers.{Read}

module _ (s : List ℕ) (small : Small s) where
  module _ (k top : ℕ) (t : get_or s 0 0 / 2 ^ k * 2 ^ k ≡ top) where
    abbrev IndexStands : TableIndex → ℕ → Type 0
    IndexStands i next = Stands s 0 (int_wire k top i.value) next

    index_read : Told (Found IndexStands) (read_index k s)
    unfolding read_index
    index_read =
        found-on-int IndexStands (read_int k s 0) (λ v next e.
        need-both (Told (Found IndexStands)) (leb 62 v) (Err NotAllowed) _ (λ d. record { told = tt })
        (λ d. record { told = int-there s small k 0 top t (record { value = v }) next (sym e) }))

    index-stands : (i : TableIndex) (next : ℕ) → read_index k s ≡ Ok (i, next) → Stands s 0 (int_wire k top i.value) next
    index-stands = found-each IndexStands (read_index k s) index_read

  abbrev InstructionStands : InstructionPlace → ℕ → Type 0
  InstructionStands p taken = Stands s 0 (instruction_form (packed_instruction p) (instruction_of s p)) taken

  abbrev Standing : Read InstructionPlace → Type 0
  Standing r = Told (Found InstructionStands) r

  insert-read : 128 ≤ get_or s 0 0 → Standing (read_insert s)
  unfolding read_insert instruction_form
  insert-read b =
      found-on-read InstructionStands (read_index 7 s) (λ i next e.
      found-on-read InstructionStands (read_name 8 s next) (λ name after f.
      found-on-read InstructionStands (read_string s after 2047) (λ value taken h.
      record {
        told = stands-join (index-stands 7 128 (omega (arith, small 0)) i next e)
            (stands-join (name-stands s small 8 next 0 (omega (arith, small next)) name after f) (string-stands s small after 2047 value taken h));
      })))

  delete-read : get_or s 0 0 < 64 → Standing (read_delete s)
  unfolding read_delete instruction_form
  delete-read b =
      found-on-read InstructionStands (read_index 6 s) (λ i next e.
      found-on-read InstructionStands (read_list s next) (λ nontrailer after f.
      found-on-read InstructionStands (read_list s after) (λ trailer taken h.
      record {
        told = stands-join (index-stands 6 0 (omega arith) i next e)
            (stands-join (list-stands s small next nontrailer after f) (list-stands s small after trailer taken h));
      })))

  acknowledgement-read : 64 ≤ get_or s 0 0 → get_or s 0 0 < 128 → Standing (read_acknowledgement s)
  unfolding read_acknowledgement instruction_form
  acknowledgement-read b c =
      found-on-read InstructionStands (read_index 6 s) (λ i taken e. record { told = index-stands 6 64 (omega arith) i taken e })

  decoder-read : Standing (read_for_decoder s)
  decoder-read =
      split 0 (length s)
      (λ h. split (get_or s 0 0) 128
      (λ k. split (get_or s 0 0) 64
      (λ l. rw (decoder-delete s h l) (delete-read l))
      (λ l. rw (decoder-acknowledgement s h k l) (record { told = tt })))
      (λ k. rw (decoder-insert s h k) (insert-read k)))
      (λ h. rw (decoder-empty s h) (record { told = tt }))

  encoder-read : Standing (read_for_encoder s)
  encoder-read =
      split 0 (length s)
      (λ h. split (get_or s 0 0) 128
      (λ k. split (get_or s 0 0) 64
      (λ l. rw (encoder-delete s h l) (record { told = tt }))
      (λ l. rw (encoder-acknowledgement s h k l) (acknowledgement-read l k)))
      (λ k. rw (encoder-insert s h k) (record { told = tt })))
      (λ h. rw (encoder-empty s h) (record { told = tt }))

  module _ (p : InstructionPlace) (taken : ℕ) where
    pub decoder-stands : read_for_decoder s ≡ Ok (p, taken) → Stands s 0 (instruction_form (packed_instruction p) (instruction_of s p)) taken
    decoder-stands = found-each InstructionStands (read_for_decoder s) decoder-read p taken

    pub encoder-stands : read_for_encoder s ≡ Ok (p, taken) → Stands s 0 (instruction_form (packed_instruction p) (instruction_of s p)) taken
    encoder-stands = found-each InstructionStands (read_for_encoder s) encoder-read p taken
