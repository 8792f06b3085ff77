-- The sizes that an encoder's call adds and frees are those of what happened in it.
-- An insert tells its own name and value; what an acknowledgement frees is what the table held, which what happened before tells.
use mathlib.Core.Path.{◌≡◌, refl, ap, ◌∙◌}
use Prim.Native.Nat.{ℕ}
use native.Mathlib.Nat.{add-zero}
use mathlib.Core.Bool.{Bool, true, false}
use mathlib.Core.Option.{Option, none, some}
use mathlib.Core.List.{List, [], ◌∷◌}
use lib.Dec.{eqb}
use Rattle.memory.specs.Choice.{pick}
use Rattle.wire.specs.Name.{literal}
use Rattle.instructions.specs.Instruction.{insert, delete, acknowledge}
use Rattle.model.specs.Table.{size, look}
use Rattle.model.specs.Parts.{Delete}
use Rattle.model.specs.Outcome.{Output, nothing, instruction, block, fields}
use Rattle.model.specs.Decoder.{name_bytes}
use Rattle.model.specs.Encoder.{Encoder, Sent, sent_index}
use Rattle.model.specs.EncoderCalls.{EncoderCall, encoder_call}
use Rattle.model.specs.EncoderCalls as at-encoder
use Rattle.model.specs.Happened.{inserted, freed, Contents, named, entry_of, size_in, added_by, removed_by, sum_of}
use Rattle.model_laws.specs.History.{size_sent, sent, acked}
use Rattle.model_laws.proofs.SentHappened.{wrote_delete, sent_happened, held_slot, Told}

module _ (t : Contents) where
  -- ---- one call, of what it may do
  inserted-added : (b : Bool) (j : ℕ) (name value : List ℕ)
      → sum_of added_by t (pick b (inserted j (literal name) value ∷ []) []) ≡ pick b (size (record { name = name; value = value })) 0
  unfolding sum_of added_by entry_of named name_bytes size_in
  inserted-added true j name value = add-zero _
  inserted-added false j name value = refl

  inserted-removed : (b : Bool) (j : ℕ) (name value : List ℕ) → sum_of removed_by t (pick b (inserted j (literal name) value ∷ []) []) ≡ 0
  unfolding sum_of removed_by
  inserted-removed true j name value = refl
  inserted-removed false j name value = refl

  output-added : (o : Output) → sum_of added_by t (wrote_delete o) ≡ 0
  unfolding sum_of added_by wrote_delete
  output-added nothing = refl
  output-added (instruction (insert i name value)) = refl
  output-added (instruction (delete i first last)) = refl
  output-added (instruction (acknowledge i)) = refl
  output-added (block rs) = refl
  output-added (fields fs) = refl

  output-removed : (o : Output) → sum_of removed_by t (wrote_delete o) ≡ 0
  unfolding sum_of removed_by wrote_delete
  output-removed nothing = refl
  output-removed (instruction (insert i name value)) = refl
  output-removed (instruction (delete i first last)) = refl
  output-removed (instruction (acknowledge i)) = refl
  output-removed (block rs) = refl
  output-removed (fields fs) = refl

  freed-added : (b : Bool) (i : ℕ) → sum_of added_by t (pick b (freed i ∷ []) []) ≡ 0
  unfolding sum_of added_by
  freed-added true i = refl
  freed-added false i = refl

  freed-removed : (b : Bool) (i n : ℕ) → size_in (t i) ≡ n → sum_of removed_by t (pick b (freed i ∷ []) []) ≡ pick b n 0
  unfolding sum_of removed_by
  freed-removed true i n e = add-zero _ ∙ e
  freed-removed false i n e = refl

  slot-size : (o : Option Sent) → size_in (held_slot o) ≡ size_sent o
  unfolding held_slot size_in size_sent
  slot-size none = refl
  slot-size (some e) = refl

  -- ---- every call
  module _ (h : ℕ → Bool) (d : ℕ → Option Delete) (E : Encoder) (T : Told E.entries t h d) where
    abbrev answered : EncoderCall → Bool
    answered c = eqb (encoder_call E c).answer.number 0

    pub call-added : (c : EncoderCall) → sum_of added_by t (sent_happened c (encoder_call E c)) ≡ sent E c
    unfolding sent_happened sent sum_of
    call-added (at-encoder.insert name value room) =
        inserted-added (answered (at-encoder.insert name value room)) (encoder_call E (at-encoder.insert name value room)).answer.second name value
    call-added (at-encoder.delete i room) = output-added (encoder_call E (at-encoder.delete i room)).output
    call-added (at-encoder.block s part fs room) = refl
    call-added (at-encoder.acknowledged i taken) = freed-added (answered (at-encoder.acknowledged i taken)) i
    call-added (at-encoder.unread number) = refl

    pub call-removed : (c : EncoderCall) → sum_of removed_by t (sent_happened c (encoder_call E c)) ≡ acked E c
    unfolding sent_happened acked sum_of
    call-removed (at-encoder.insert name value room) =
        inserted-removed (answered (at-encoder.insert name value room)) (encoder_call E (at-encoder.insert name value room)).answer.second name value
    call-removed (at-encoder.delete i room) = output-removed (encoder_call E (at-encoder.delete i room)).output
    call-removed (at-encoder.block s part fs room) = refl
    call-removed (at-encoder.acknowledged i taken) =
        freed-removed (answered (at-encoder.acknowledged i taken)) i _
        (ap size_in (T.entries i) ∙ slot-size (look sent_index i E.entries))
    call-removed (at-encoder.unread number) = refl
