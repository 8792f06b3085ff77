-- What the encoder's calls write is what the model's choice says, and reads back: by the ways through each call, of which only the last answers 0.
-- Memory that forms a state gives a state in the model's sense, and what is said in such a state is fine.
use mathlib.Core.Path.{◌≡◌, refl, sym, ap, subst, ◌∙◌}
use mathlib.Core.Logic.{⊎_elim}
use Prim.Native.Nat.{ℕ}
use native.Mathlib.Omega.{arith}
use mathlib.Core.Bool.{true, false}
use mathlib.Core.Option.{some}
use mathlib.Core.List.{List, []}
use lib.ListN.{length}
use lib.Dec.{eqb}
use borrow.Author.Tests.{eqb-false}
use Rattle.memory.specs.Bytes.{Small}
use Rattle.memory.proofs.Order.{need-both}
use Rattle.integers.specs.Answers.{Answer, no_state, out_of_turn}
use Rattle.fields.specs.Form.{Field}
use Rattle.fields.specs.Reading.{FieldListRead, read_field_list}
use Rattle.fields.specs.Reading as lists
use Rattle.fields.proofs.Walk.{list-number}
use Rattle.fields.proofs.Lists.{list-forth}
use Rattle.instructions.specs.Instruction.{insert}
use Rattle.blocks.specs.Representation.{AllFine, block_wire}
use Rattle.blocks.specs.Reading.{block, read_block}
use Rattle.blocks.proofs.Back.{block_back}
use Rattle.model.specs.Table.{look}
use Rattle.model.specs.Parts.{part_of}
use Rattle.model.specs.Outcome.{nothing, output_bytes}
use Rattle.model.specs.Encoder.{Sent, sent_index, Encoder, choose_name, delete_of_sent, encode_block, FormsEncoder}
use Rattle.model_laws.proofs.EncoderWays.{insert_of, insert-ways, delete-ways, block-ways}
use Rattle.model_laws.proofs.FormsSent.{new-fine}
use Rattle.model_laws.proofs.Saying.{name-fine, choices-fine}
use Rattle.state.specs.EncoderState.{encoder_of, overlay_encoder}
use Rattle.state.specs.Forms.{forms_encoder}
use Rattle.state_laws.proofs.EncoderLaws.{encoder-laws}
use Rattle.parts.specs.Turn.{part_turn}
use Rattle.reply.specs.Result.{Result, refused, stepped}
use Rattle.encoder.specs.Calls.{insert_call, delete_call, block_call, on_list}
use Rattle.round_trip.specs.Written.{wrote, ReadsAs, BlockBack, WrittenClaim}
use Rattle.round_trip.proofs.Wrote.{front, front_reads}
use Rattle.round_trip.proofs.Meaning.{choices-mean}

-- what is claimed of a result answered 0
abbrev Done : (Result → Type 0) → Result → Type 0
Done P r = r.answer.number ≡ 0 → P r

module _ (m : List ℕ) (small : Small m) where
  abbrev E : Encoder
  E = encoder_of m

  formed : forms_encoder m ≡ true → FormsEncoder E
  formed f = (encoder-laws.fits m small f).forms

  module _ (P : Result → Type 0) (out : List ℕ) where
    -- of a call that is refused nothing is claimed, be it before the model's step or by it
    before-step : (number : ℕ) → eqb number 0 ≡ false → Done P (refused m out number)
    before-step number z e = absurd (eqb-false number 0 z e)

    by-step : (a : Answer) → eqb a.number 0 ≡ false
        → Done P (stepped overlay_encoder m out (record { state = E; answer = a; output = nothing }))
    unfolding stepped
    by-step a z e = absurd (eqb-false a.number 0 z e)

  module _ (name value out : List ℕ) where
    abbrev Inserted : Result → Type 0
    Inserted r = ReadsAs (wrote r) (insert r.answer.second (choose_name E.entries name) value)

    inserted : Done Inserted (insert_call m name value out)
    unfolding insert_call stepped output_bytes
    inserted =
        need-both (Done Inserted) (forms_encoder m) _ _ (λ f. before-step Inserted out no_state refl)
        (λ f. insert-ways (λ o. Done Inserted (stepped overlay_encoder m out o)) E (by-step Inserted out) name value (length out)
        (λ i e n v fits room done.
        let F = formed f in
        let new = new-fine E F.limit i name value e n v fits in
        front_reads out (insert_of E i name value) tt
        ((new.low, omega arith), name-fine E.entries F.order F.entries name n, v) room))

  module _ (index : ℕ) (out : List ℕ) where
    abbrev Deleted : Result → Type 0
    Deleted r = (e : Sent) × (look sent_index index E.entries ≡ some e) × ReadsAs (wrote r) (delete_of_sent e)

    deleted : Done Deleted (delete_call m index out)
    unfolding delete_call stepped output_bytes
    deleted =
        need-both (Done Deleted) (forms_encoder m) _ _ (λ f. before-step Deleted out no_state refl)
        (λ f. delete-ways (λ o. Done Deleted (stepped overlay_encoder m out o)) E (by-step Deleted out) index (length out)
        (λ e there still room done.
        let fine = (formed f).entries index e there in (
          e,
          there,
          front_reads out (delete_of_sent e) tt
              ((fine.low, omega arith), (fine.nontrailer, omega arith, tt), (fine.trailer, omega arith, tt)) room,
        )))

  module _ (stream part : ℕ) (s : List ℕ) (bytes : Small s) (out : List ℕ) where
    abbrev Encoded : Result → Type 0
    Encoded r = BlockBack m s (wrote r)

    fields-encoded : forms_encoder m ≡ true → (fs : List Field) → read_field_list s ≡ lists.FieldListRead.list fs
        → Done Encoded (stepped overlay_encoder m out (encode_block E stream part fs (length out)))
    unfolding stepped output_bytes
    fields-encoded f fs e =
        let F = formed f in
        let form = list-forth s bytes fs e in
        block-ways (λ o. Done Encoded (stepped overlay_encoder m out o)) E (by-step Encoded out) stream part fs (length out)
        (λ p rs chosen q below turn short room done.
        let fine : AllFine rs = subst AllFine (sym chosen) (choices-fine E.entries F.order F.entries fs form.1) in
        record {
          fields = fs;
          read = e;
          chosen = ap read_block (front out (block_wire rs) room) ∙ block_back rs fine short ∙ ap block chosen;
          means = choices-mean E.entries F.order fs form.1;
          same = form.0;
        })

    encoded : Done Encoded (block_call m stream part s out)
    unfolding block_call
    encoded =
        need-both (Done Encoded) (forms_encoder m) _ _ (λ f. before-step Encoded out no_state refl)
        (λ f. need-both (Done Encoded) (part_turn E.written stream (part_of part)) _ _ (λ g. before-step Encoded out out_of_turn refl)
        (λ g. go f (read_field_list s) refl))
      where
        go : forms_encoder m ≡ true → (r : FieldListRead) → read_field_list s ≡ r
            → Done Encoded (on_list (refused m out) r (λ fs. stepped overlay_encoder m out (encode_block E stream part fs (length out))))
        go f (lists.FieldListRead.list fs) e z = fields-encoded f fs e z
        go f (lists.FieldListRead.refused why) e z =
            ⊎_elim (λ d. absurd (omega arith)) (λ d. absurd (omega arith)) (list-number s (length s) 0 [] why e)

pub written-claim : WrittenClaim
written-claim = record {
  insert = λ m name value out small n v. inserted m small name value out;
  delete = λ m index out small. deleted m small index out;
  block = λ m stream part s out small bytes. encoded m small stream part s bytes out;
}
