-- A collect frees the ready entry whose delete arrived first, and nothing where none is ready.
-- A ready index has a delete, so the search among the deletes meets one.
use mathlib.Core.Path.{◌≡◌, refl, ap, ◌∙◌}
use Prim.Native.Nat.{ℕ, ◌≤◌, ◌<◌}
use native.Mathlib.Omega.{arith}
use mathlib.Core.Bool.{Bool, true, false}
use mathlib.Core.Option.{Option, none, some, map}
use lib.ListN.{length}
use lib.Dec.{leb}
use borrow.Author.Tests.{le-leb, lt-leb}
use Rattle.memory.proofs.Order.{need-true, need-false, not-both}
use Rattle.instructions.specs.Instruction.{FineIndex, acknowledge, instruction_wire}
use Rattle.blocks.specs.Meaning.{holds}
use Rattle.blocks.proofs.MeaningHeld.{static-above, dynamic-slot}
use Rattle.integers.specs.Answers.{no_room}
use Rattle.model.specs.Table.{look}
use Rattle.model.specs.Parts.{Delete}
use Rattle.model.specs.Outcome.{nothing, instruction, refuse, finish}
use Rattle.model.specs.Decoder.{Held, held_index, delete_index, Decoder, slot_in, lookup, delete_of, ready, next_freed, without}
use Rattle.model.specs.Decoder.{free_entry, collect_entry, FormsDecoder}
use Rattle.model.specs.DecoderCalls.{collect, decoder_call}
use Rattle.model_laws.specs.Ready.{FirstReady}
use Rattle.model_laws.proofs.Tables.{look-index, first_some}
use Rattle.model_laws.proofs.Deletes.{first_of}
use Rattle.model_laws.proofs.Forms.{ready-delete, freed-ready}

module _ (D : Decoder) (F : FormsDecoder D) where
  pub held-index : (i : ℕ) (h : Held) → look held_index i D.entries ≡ some h → FineIndex i
  held-index i h e = rw (look-index held_index i D.entries h e) at (F.entries i h e).index

  pub held-slot : (i : ℕ) (h : Held) → look held_index i D.entries ≡ some h → lookup D i ≡ holds h.entry
  unfolding lookup slot_in
  held-slot i h e =
      let low = (held-index i h e).0 in
      dynamic-slot (λ k. slot_in (look held_index k D.entries)) i (static-above i (omega arith)) ∙ ap slot_in e

  collect-call : (room : ℕ) (o : Option ℕ) → next_freed D ≡ o → decoder_call D (collect room) ≡ free_entry D room o
  unfolding decoder_call collect_entry
  collect-call room o e = ap (free_entry D room) e

  pub none_ready : ((i : ℕ) → ready D i ≡ false) → (room : ℕ) → decoder_call D (collect room) ≡ finish D 0 0 nothing
  unfolding free_entry
  none_ready n room = go (next_freed D) refl
    where
      go : (o : Option ℕ) → next_freed D ≡ o → decoder_call D (collect room) ≡ finish D 0 0 nothing
      go none e = collect-call room none e
      go (some i) e = not-both (ready D i) (freed-ready D F i e) (n i)

  pub one_ready : (k : ℕ) → ready D k ≡ true → (d : Delete) × FirstReady D d
      × ((room : ℕ) → length (instruction_wire (acknowledge d.index)) ≤ room
      → decoder_call D (collect room)
      ≡ finish (without D d.index) (length (instruction_wire (acknowledge d.index))) 0 (instruction (acknowledge d.index)))
      × ((room : ℕ) → room < length (instruction_wire (acknowledge d.index)) → decoder_call D (collect room) ≡ refuse D no_room)
  unfolding next_freed free_entry delete_of
  one_ready k r =
      let test : Delete → Bool = λ x. ready D x.index in
      let a = ready-delete D F k r in
      let y = first_some delete_index test D.deletes k a.0 a.1 (ap (ready D) (look-index delete_index k D.deletes a.0 a.1) ∙ r) in
      let d : Delete = y.0 in
      let f = first_of delete_index test D.deletes d y.1 in
      let next : next_freed D ≡ some d.index = ap (map delete_index) y.1 in
      let size = length (instruction_wire (acknowledge d.index)) in (
        d,
        record { before = f.before; behind = f.behind; arrived = f.split; ready_now = f.passes; none_before = f.none_before },
        (λ room fits. collect-call room (some d.index) next ∙ need-true (leb size room) (refuse D no_room) _ (le-leb size room fits)),
        (λ room short. collect-call room (some d.index) next ∙ need-false (leb size room) (refuse D no_room) _ (lt-leb size room short)),
      )
