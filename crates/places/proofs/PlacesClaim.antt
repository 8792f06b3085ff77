-- Fewer than 128 places are held where an insert is judged behind 7. On the model by the sums; of the calls by the tests that they pass, and by the limit and
-- the count of memory that forms a state.
use mathlib.Core.Path.{◌≡◌, subst, sym, ◌∙◌}
use Prim.Native.Nat.{ℕ, ◌+◌, ◌≤◌, ◌<◌}
use native.Mathlib.Omega.{arith}
use mathlib.Core.Bool.{true}
use mathlib.Core.List.{List, [], ◌∷◌}
use lib.ListN.{length, length-map}
use lib.Dec.{leb}
use borrow.Author.Tests.{leb-true, eqb-false}
use Rattle.memory.proofs.Order.{need-both}
use Rattle.integers.specs.Answers.{among, no_room, on_read, Read, number_of}
use Rattle.integers.specs.declared.number.TableIndex.{TableIndex}
use Rattle.wire.specs.Name.{name_of}
use Rattle.wire.specs.Text.{string_bytes}
use Rattle.wire.specs.declared.name.NamePlace.{NamePlace}
use Rattle.wire.specs.declared.text.StringPlace.{StringPlace}
use Rattle.instructions.specs.Reading.{read_for_decoder, instruction_of}
use Rattle.instructions.specs.declared.read.InstructionPlace.TheVariants.{Insert}
use Rattle.statics.specs.Table.{Entry}
use Rattle.model.specs.Table.{size}
use Rattle.model.specs.Outcome.{Outcome}
use Rattle.model.specs.Decoder.{held_index, Decoder, held_size, read_instruction}
use Rattle.model.specs.Encoder.{sent_index, Encoder, sent_size, insert_entry}
use Rattle.model.proofs.Places.{place-left}
use Rattle.model_laws.proofs.Marks.{and_both}
use Rattle.model_laws.proofs.Tables.{nope}
use Rattle.model_laws.proofs.DecoderWays.{insert-ways}
use Rattle.state.specs.Layout.{count_of, decoder_role, decoder_length, encoder_role, encoder_length}
use Rattle.state.specs.Rows.{rows_of}
use Rattle.state.specs.DecoderState.{held_of_row, decoder_of, overlay_decoder}
use Rattle.state.specs.EncoderState.{encoder_of, overlay_encoder}
use Rattle.state.specs.Forms.{head_ok, forms_decoder, forms_encoder}
use Rattle.state_laws.proofs.FrontForms.{head-told}
use Rattle.state_laws.proofs.RowsTest.{length-rows_of}
use Rattle.state_laws.proofs.SentRows.{length-sents_of}
use Rattle.reply.specs.Result.{Result, refused, stepped}
use Rattle.decoder.specs.Calls.{read_call}
use Rattle.encoder.specs.Calls.{insert_call}
use Rattle.places.specs.Places.{PlacesClaim}
use Rattle.std.specs.Prelude.{Ok}
use Rattle.instructions.specs.declared.read.InstructionPlace.{InstructionPlace}
use Rattle.integers.specs.declared.answer.Refusal.{Refusal}

-- ---- on the model
pub held-places : (D : Decoder) → D.limit ≤ 4096 → (e : Entry) → held_size D.entries + size e ≤ D.limit → length D.entries < 128
unfolding held_size
held-places D low e fits = place-left held_index (λ h. h.entry) D.entries e D.limit low fits

pub sent-places : (E : Encoder) → E.limit ≤ 4096 → (e : Entry) → sent_size E.entries + size e ≤ E.limit → length E.entries < 128
unfolding sent_size
sent-places E low e fits = place-left sent_index (λ s. s.entry) E.entries e E.limit low fits

module _ (m : List ℕ) where
  -- ---- memory that forms a state has a limit of at most 4,096, and stands for as many entries as it counts
  pub held-limit : forms_decoder m ≡ true → (decoder_of m).limit ≤ 4096
  unfolding forms_decoder decoder_of
  held-limit forms = (head-told decoder_role decoder_length m (and_both (head_ok decoder_role decoder_length m) _ forms).0).limit

  pub sent-limit : forms_encoder m ≡ true → (encoder_of m).limit ≤ 4096
  unfolding forms_encoder encoder_of
  sent-limit forms = (head-told encoder_role encoder_length m (and_both (head_ok encoder_role encoder_length m) _ forms).0).limit

  held-count : length (decoder_of m).entries ≡ count_of m
  unfolding decoder_of
  held-count = length-map (rows_of m 0 (count_of m)) held_of_row ∙ length-rows_of m 0 (count_of m)

  sent-count : length (encoder_of m).entries ≡ count_of m
  unfolding encoder_of
  sent-count = length-sents_of m 0 (count_of m)

  -- ---- a read
  abbrev Few : Result → Type 0
  Few r = r.answer.number ≡ 0 → count_of m < 128

  module _ (s : List ℕ) (i : TableIndex) (name : NamePlace) (value : StringPlace) (taken : ℕ) where
    insert-few : forms_decoder m ≡ true
        → Few (stepped overlay_decoder m [] (read_instruction (decoder_of m) (instruction_of s (Insert i name value)) taken))
    unfolding stepped
    insert-few forms =
        insert-ways (λ o. Few (stepped overlay_decoder m [] o)) (decoder_of m) (λ a z e. absurd (eqb-false a.number 0 z e))
        i.value (name_of s name) (string_bytes s value) taken
        (λ xs e free fits d.
        let places = held-places (decoder_of m) (held-limit forms) (record { name = xs; value = string_bytes s value }) fits in
        omega (arith, places, held-count))

    read-few : read_for_decoder s ≡ Ok (Insert i name value, taken) → Few (read_call m s)
    unfolding read_call
    read-few found =
        need-both Few (forms_decoder m) _ _ (λ f e. absurd (omega arith))
        (λ forms. subst (λ (r : Read InstructionPlace). Few (on_read (λ (why : Refusal). refused m [] (number_of why)) r
        (λ p taken. stepped overlay_decoder m [] (read_instruction (decoder_of m) (instruction_of s p) taken)))) (sym found) (insert-few forms))

  -- ---- an insert
  abbrev Behind : Result → Type 0
  Behind r = among (0 ∷ no_room ∷ []) r.answer.number ≡ true → count_of m < 128

  insert-behind : (name value out : List ℕ) → Behind (insert_call m name value out)
  unfolding insert_call insert_entry stepped
  insert-behind name value out =
      need-both Behind (forms_encoder m) _ _ (λ f e. nope (cc))
      (λ forms. need-both Behinds (leb (length name) 255) _ _ (λ n e. nope (cc))
      (λ n. need-both Behinds (leb (length value) 2047) _ _ (λ v e. nope (cc))
      (λ v. need-both Behinds (leb (sent_size (encoder_of m).entries + size (record { name = name; value = value })) (encoder_of m).limit) _ _ (λ g e. nope (cc))
      (λ g e.
      let places = sent-places (encoder_of m) (sent-limit forms) (record { name = name; value = value }) (leb-true _ _ g) in
      omega (arith, places, sent-count)))))
    where
      Behinds : Outcome Encoder → Type 0
      Behinds o = Behind (stepped overlay_encoder m out o)

pub places-claim : PlacesClaim
places-claim = record {
  held = held-places;
  sent = sent-places;
  read = read-few;
  insert = insert-behind;
}
