-- The read call by its ways: the test whether memory forms a state, the reading of the bytes, and the model's step.
-- By the tests in their order.
use mathlib.Core.Path.{◌≡◌, refl, sym, ap, ◌∙◌}
use Prim.Native.Nat.{ℕ}
use mathlib.Core.Bool.{false}
use mathlib.Core.List.{List, []}
use Rattle.memory.proofs.Order.{need-true, need-false}
use Rattle.integers.specs.Answers.{refusal, not_allowed, no_state, number_of, on_read}
use Rattle.integers.specs.declared.answer.Refusal.{Refusal}
use Rattle.integers.specs.declared.number.TableIndex.{TableIndex}
use Rattle.wire.specs.Text.{string_bytes}
use Rattle.stream_lists.specs.StreamList.{list_of}
use Rattle.wire.specs.declared.text.StringPlace.{StringPlace}
use Rattle.stream_lists.specs.declared.stream_list.ListPlace.{ListPlace}
use Rattle.wire.specs.declared.name.NamePlace.{NamePlace}
use Rattle.wire.specs.declared.name.NamePlace.TheVariants.{Index as NameIndex, Text}
use Rattle.instructions.specs.Reading.{read_for_decoder, instruction_of}
use Rattle.instructions.specs.declared.read.InstructionPlace.{InstructionPlace}
use Rattle.instructions.specs.declared.read.InstructionPlace.TheVariants.{Insert, Delete, Acknowledge}
use Rattle.model.specs.Decoder.{name_bytes, read_instruction}
use Rattle.state.specs.DecoderState.{decoder_of, overlay_decoder}
use Rattle.state.specs.Forms.{forms_decoder}
use Rattle.reply.specs.Result.{Result, refused, stepped}
use Rattle.decoder.specs.Calls.{read_call}
use Rattle.decoder.proofs.Standing.{Stands, Leaves, same, refuses, stays}
use Rattle.decoder_read.specs.Steps.{kept_delete}
use Rattle.decoder_insert.specs.Inserts.{named_insert, indexed_insert}
use Rattle.std.specs.Prelude.{Ok, Err}
use Rattle.integers.specs.Answers.{Read}

module _ (m s : List ℕ) where
  pub read-no-state : forms_decoder m ≡ false → Leaves (read_call m s) (refusal no_state) m
  unfolding read_call
  read-no-state e = same (need-false _ _ _ e) (refuses m no_state)

  module _ (st : Stands m) (r : Read InstructionPlace) (told : r ≡ read_for_decoder s) where
    abbrev step : InstructionPlace → ℕ → Result
    step p taken = stepped overlay_decoder m [] (read_instruction (decoder_of m) (instruction_of s p) taken)

    -- a refusal of the reader's, passed on
    abbrev stop : Refusal → Result
    stop why = refused m [] (number_of why)

    read_as : (t : Read InstructionPlace) → r ≡ t → read_call m s ≡ on_read stop t step
    unfolding read_call
    read_as t e = need-true _ _ _ st.forms ∙ ap (λ (x : Read InstructionPlace). on_read stop x step) (sym told ∙ e)

    pub read-refused : (why : Refusal) → r ≡ Err why → Leaves (read_call m s) (refusal (number_of why)) m
    read-refused why e = same (read_as (Err why) e) (refuses m (number_of why))

    module _ (p : InstructionPlace) (taken : ℕ) (found : r ≡ Ok (p, taken)) where
      read_found : (q : InstructionPlace) → p ≡ q → read_call m s ≡ step q taken
      read_found q e = read_as (Ok (p, taken)) found ∙ ap (λ (t : InstructionPlace). step t taken) e

      pub read-by-index : (i : TableIndex) (name : NamePlace) (value : StringPlace) → p ≡ Insert i name value
          → (named : TableIndex) → name ≡ NameIndex named
          → read_call m s ≡ indexed_insert m i.value named.value (string_bytes s value) taken
      unfolding read_instruction
      read-by-index i name value e named d = read_found (Insert i (NameIndex named) value) (e ∙ ap (λ (n : NamePlace). Insert i n value) d)

      pub read-by-string : (i : TableIndex) (name : NamePlace) (value : StringPlace) → p ≡ Insert i name value
          → (text : StringPlace) → name ≡ Text text
          → read_call m s ≡ named_insert m i.value (string_bytes s text) (string_bytes s value) taken
      unfolding read_instruction name_bytes
      read-by-string i name value e text d = read_found (Insert i (Text text) value) (e ∙ ap (λ (n : NamePlace). Insert i n value) d)

      pub read-delete : (i : TableIndex) (nontrailer later : ListPlace) → p ≡ Delete i nontrailer later
          → read_call m s ≡ kept_delete m (record { index = i.value; nontrailer = list_of s nontrailer; trailer = list_of s later }) taken
      unfolding read_instruction
      read-delete i nontrailer later e = read_found (Delete i nontrailer later) e

      -- the reader finds no acknowledgement
      pub read-acknowledgement : (i : TableIndex) → p ≡ Acknowledge i → Leaves (read_call m s) (refusal not_allowed) m
      unfolding read_instruction
      read-acknowledgement i e = same (read_found (Acknowledge i) e) (stays m st _ not_allowed refl)
