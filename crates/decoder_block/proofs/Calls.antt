-- The block call by its ways: each refusal in its order, and what a block in turn that reads well gives. By the tests along that way.
-- Where nothing changes, the state is laid over the memory that it was read from, and an empty output over the lent one.
use Prim.Native.Nat.{ℕ, ◌≤◌, ◌<◌}
use mathlib.Core.Path.{◌≡◌, refl, sym, ap, ◌∙◌}
use native.Mathlib.Omega.{arith}
use mathlib.Core.Bool.{Bool, true, false, ◌&&◌}
use mathlib.Core.Option.{Option, none, some}
use mathlib.Core.List.{List}
use lib.Dec.{ltb, eqb}
use lib.ListN.{length}
use borrow.Author.Tests.{lt-ltb, le-leb, lt-leb, ltb-true, eqb-true}
use Rattle.memory.specs.Bytes.{overlay}
use Rattle.memory.proofs.Order.{either, not-both, need-true, need-false}
use Rattle.std.specs.Prelude as std
use Rattle.std.specs.Prelude.{Ok, Err, Some}
use Rattle.integers.specs.Answers.{Answer, done, number_of}
use Rattle.integers.specs.declared.answer.Refusal.{Refusal}
use Rattle.fields.specs.Form.{Field, list_form}
use Rattle.blocks.specs.Reading.{BlockRead, read_block}
use Rattle.blocks.specs.Meaning.{BlockMeaning, list}
use Rattle.model.specs.Parts.{Part, nontrailer, trailer, part_of, Marks, in_turn}
use Rattle.model.specs.Outcome.{output_bytes}
use Rattle.model.specs.Decoder.{give_fields, decode_part, decode_block}
use Rattle.state.specs.DecoderState.{decoder_of, overlay_decoder}
use Rattle.state.specs.Forms.{forms_decoder}
use Rattle.state_laws.proofs.DecoderLaws.{decoder-laws}
use Rattle.parts.specs.Turn.{part_turn, part_in, turn_of}
use Rattle.parts.specs.Close.{closed_of}
use Rattle.parts.specs.declared.turn.Part.{Part as PartCase}
use Rattle.parts.proofs.Given as parts
use Rattle.model_laws.proofs.Marks.{part-back}
use Rattle.integers.specs.declared.number.StreamNumber.{StreamNumber}
use Rattle.reply.specs.Result.{Result, refused, stepped}
use Rattle.decoder.specs.Calls.{block_call}
use Rattle.decoder_survey.specs.Measure.{Stands, ReadsWell, meaning_of}
use Rattle.decoder_survey.specs.Passes.{survey_answer, block_survey}
use Rattle.decoder_survey.specs.declared.measure.Survey.{Survey}
use Rattle.decoder_survey.specs.declared.measure.Survey.TheVariants.{Bytes, Waits}
use Rattle.decoder_survey.proofs.Entries.{changes}
use Rattle.decoder_survey.proofs.Surveying.{survey-is}

-- ---- the part in turn

pub record InTurn (marks : Marks) (stream part : ℕ) : Type 0 where
  pub kind : Part
  pub is : part_of part ≡ some kind
  pub low : stream < 4096
  pub turn : in_turn marks stream kind ≡ true
  pub few : part ≤ 1

both : (a b : Bool) → (a && b) ≡ true → (a ≡ true) × (b ≡ true)
both true b e = (refl, e)
both false b e = not-both false e refl

module _ (marks : Marks) (stream part : ℕ) where
  of-kind : (p : Part) → part_of part ≡ some p → part ≤ 1 → part_turn marks stream (part_of part) ≡ true → InTurn marks stream part
  unfolding part_turn
  of-kind p e few t =
      let b = both (ltb stream 4096) (in_turn marks stream p) (rw e at t) in
      record { kind = p; is = e; low = ltb-true stream 4096 b.0; turn = b.1; few = few }

  pub in-turn : part_turn marks stream (part_of part) ≡ true → InTurn marks stream part
  unfolding part_of part_turn
  in-turn t =
      either (eqb part 0)
      (λ z. let e = eqb-true part 0 z in of-kind nontrailer (rw z) (omega arith) t)
      (λ z. either (eqb part 1)
      (λ o. let e = eqb-true part 1 o in of-kind trailer (rw (z, o)) (omega arith) t)
      (λ o. let f : part_of part ≡ none = rw (z, o) in
      not-both (part_turn marks stream (part_of part)) t (ap (part_turn marks stream) f)))

-- ---- the answer that a part is in turn

module _ (marks : Marks) (stream part : ℕ) where
  pub turned : (s : StreamNumber) (c : PartCase) → turn_of marks stream (part_of part) ≡ Some (s, c) → part_turn marks stream (part_of part) ≡ true
  turned s c e = let g = parts.given marks stream part s c e in rw (g.stream, g.number, part-back (part_in c)) g.turn

-- ---- the ways

-- what a call answers and leaves, by what it is
pub leaves : {call R : Result} {answer : Answer} {memory output : List ℕ} → call ≡ R → answer ≡ R.answer → memory ≡ R.memory → output ≡ R.output
    → (answer ≡ call.answer) × ((memory ≡ call.memory) × (output ≡ call.output))
leaves e a m o = (a ∙ sym (ap (λ (r : Result). r.answer) e), (m ∙ sym (ap (λ (r : Result). r.memory) e), o ∙ sym (ap (λ (r : Result). r.output) e)))

module _ (m : List ℕ) (stream part : ℕ) (s out : List ℕ) where
  pub no_state : forms_decoder m ≡ false → block_call m stream part s out ≡ refused m out 17
  unfolding block_call
  no_state e = need-false _ _ _ e

  module _ (forms : forms_decoder m ≡ true) where
    pub out_of_turn : part_turn (decoder_of m).finished stream (part_of part) ≡ false → block_call m stream part s out ≡ refused m out 11
    unfolding block_call
    out_of_turn e = need-true _ _ _ forms ∙ need-false _ _ _ e

    pub not-read : part_turn (decoder_of m).finished stream (part_of part) ≡ true → (why : Refusal) → read_block s ≡ BlockRead.refused why
        → block_call m stream part s out ≡ refused m out (number_of why)
    unfolding block_call
    not-read t why e = simp (forms, t, e)

  module _ (S : Stands m) (T : InTurn (decoder_of m).finished stream part) (w : ReadsWell s) where
    given : (M : BlockMeaning) → meaning_of m s ≡ M
        → block_call m stream part s out ≡ stepped overlay_decoder m out (give_fields (decoder_of m) stream T.kind (length out) M)
    unfolding block_call decode_block decode_part meaning_of part_turn
    given M e = simp (S.forms, T.is, lt-ltb stream 4096 T.low, T.turn, w.1, ← e)

    pub waits : (i : ℕ) → meaning_of m s ≡ BlockMeaning.waits i
        → block_call m stream part s out ≡ record { answer = record { number = 1; first = i; second = 0 }; memory = m; output = out }
    unfolding stepped give_fields output_bytes
    waits i e =
        given (BlockMeaning.waits i) e
        ∙ ap (λ (n : List ℕ). record { answer = record { number = 1; first = i; second = 0 }; memory = n; output = out })
        (decoder-laws.self m S.small S.forms)

    module _ (fs : List Field) (e : meaning_of m s ≡ list fs) where
      pub no_room : length out < length (list_form fs) → block_call m stream part s out ≡ refused m out 12
      unfolding stepped give_fields output_bytes
      no_room h =
          given (list fs) e
          ∙ ap (stepped overlay_decoder m out) (need-false _ _ _ (lt-leb (length (list_form fs)) (length out) h))
          ∙ ap (λ (n : List ℕ). refused n out 12) (decoder-laws.self m S.small S.forms)

      pub gives : length (list_form fs) ≤ length out
          → block_call m stream part s out
          ≡ record {
            answer = done (length (list_form fs)) 0;
            memory = closed_of (part_of part) m stream;
            output = overlay out 0 (list_form fs);
          }
      unfolding stepped give_fields output_bytes closed_of
      gives h =
          given (list fs) e
          ∙ ap (stepped overlay_decoder m out) (need-true _ _ _ (le-leb (length (list_form fs)) (length out) h))
          ∙ ap (λ (n : List ℕ). record { answer = done (length (list_form fs)) 0; memory = n; output = overlay out 0 (list_form fs) })
          (sym (ap (λ (o : Option Part). closed_of o m stream) T.is ∙ (changes m S).finish stream T.kind T.low))

  -- a block that is refused or waits: the survey's answer, and nothing changes
  pub unwritten : Stands m → part_turn (decoder_of m).finished stream (part_of part) ≡ true → (v : std.Result Survey Refusal) → ((n : ℕ) → v ≡ Ok (Bytes n) → ⊥)
      → v ≡ block_survey m s → block_call m stream part s out ≡ record { answer = survey_answer v; memory = m; output = out }
  unwritten S t (Ok (Bytes n)) k e = absurd (k n refl)
  unwritten S t (Ok (Waits index)) k e = let g = survey-is m s (Ok (Waits index)) e in waits S (in-turn _ _ _ t) g.0 index.value g.1
  unwritten S t (Err why) k e = not-read S.forms t why (survey-is m s (Err why) e)
