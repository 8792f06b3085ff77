-- The block call's equations, one for each way through it. By the tests along that way; a refusal leaves memory and output, as a state that memory forms is
-- over it already.
use Prim.Native.Nat.{ℕ, ◌≤◌, ◌<◌}
use mathlib.Core.Path.{◌≡◌, refl, sym, ap, subst, ◌∙◌}
use native.Mathlib.Omega.{arith}
use mathlib.Core.Bool.{true, false}
use mathlib.Core.Option.{Option, some}
use mathlib.Core.List.{List, map}
use lib.Dec.{ltb, leb}
use lib.ListN.{length}
use borrow.Author.Tests.{lt-ltb, le-leb, lt-leb}
use Rattle.memory.specs.Bytes.{Small, overlay}
use Rattle.memory.proofs.Order.{need-true, need-false}
use Rattle.integers.specs.Answers.{Answer, done, refusal, number_of}
use Rattle.integers.specs.declared.answer.Refusal.{Refusal}
use Rattle.std.specs.Prelude.{Ok, Err}
use Rattle.std.specs.Prelude as answers
use Rattle.integers.specs.declared.number.StreamNumber.{StreamNumber}
use Rattle.fields.specs.Form.{Field}
use Rattle.fields.specs.Reading.{FieldListRead, list, read_field_list, list_checked}
use Rattle.fields.specs.Reading as reading
use Rattle.blocks.specs.Representation.{Representation, block_wire}
use Rattle.model.specs.Parts.{Part, nontrailer, trailer, part_of, part_number, Marks, in_turn, streams}
use Rattle.model.specs.Outcome.{Outcome, refuse, output_bytes}
use Rattle.model.specs.Encoder.{Encoder, choose, write_part, encode_part, encode_block}
use Rattle.state.specs.Front.{marks_of}
use Rattle.state.specs.EncoderState.{encoder_of, overlay_encoder}
use Rattle.state.specs.Forms.{forms_encoder}
use Rattle.state_laws.proofs.EncoderForms.{forms-holds-encoder}
use Rattle.state_laws.proofs.EncoderOverlay.{overlay-self-encoder}
use Rattle.parts.specs.Turn.{part_turn, part_in}
use Rattle.parts.specs.Close.{closed_by}
use Rattle.parts.specs.declared.turn.Part.{Part as PartCase}
use Rattle.parts.proofs.Given.{in-turn, Given}
use Rattle.reply.specs.Result.{Result, refused, stepped}
use Rattle.encoder.specs.Calls.{on_list, block_call}
use Rattle.encoder_fields.specs.Measure.{fields_in, representations_of, room_answer, ReadsWell}
use Rattle.encoder_fields.specs.Refer.{entered}
use Rattle.encoder_fields.proofs.Fields.{capped-low}
use Rattle.encoder_fields.proofs.Bound.{room-ways}
use Rattle.encoder_references.proofs.Entering.{entered-length, entered-written}
use Rattle.encoder_passes.proofs.Writing.{Passed}

-- ---- a result, part by part, as a function's contract has it

abbrev pub Tells : Result → Answer → List ℕ → List ℕ → Type 0
Tells r answer memory output = (answer ≡ r.answer) × ((memory ≡ r.memory) × (output ≡ r.output))

tells : (r x : Result) → r ≡ x → (answer : Answer) (memory output : List ℕ) → answer ≡ x.answer → memory ≡ x.memory → output ≡ x.output
    → Tells r answer memory output
tells r x e answer memory output a m o =
    (a ∙ sym (ap (λ (t : Result). t.answer) e), (m ∙ sym (ap (λ (t : Result). t.memory) e), o ∙ sym (ap (λ (t : Result). t.output) e)))

pub tells-refused : (r : Result) (m out : List ℕ) (number : ℕ) → r ≡ refused m out number → (answer : Answer) → answer ≡ refusal number → Tells r answer m out
tells-refused r m out number e answer a = tells r (refused m out number) e answer m out a refl refl

-- memory and output after a step that leaves both
pub tells-kept : (r : Result) (m out : List ℕ) (number : ℕ) → r ≡ refused m out number → (answer : Answer) → answer ≡ refusal number
    → (m' out' : List ℕ) → m' ≡ m → out' ≡ out → Tells r answer m' out'
tells-kept r m out number e answer a m' out' em eo = tells r (refused m out number) e answer m' out' a em eo

-- ---- a part and its number

part-is : (p : Part) → part_of (part_number p) ≡ some p
unfolding part_of
part-is nontrailer = refl
part-is trailer = refl

-- the part that a call's number names is in turn
pub named-turn : {marks : Marks} {stream n : ℕ} {s : StreamNumber} {c : PartCase} → Given marks stream n s c → part_turn marks stream (part_of n) ≡ true
named-turn {marks} {stream} {n} {s} {c} g =
    ap (λ (k : ℕ). part_turn marks stream (part_of k)) g.number
    ∙ ap (part_turn marks stream) (part-is (part_in c))
    ∙ ap (λ (k : ℕ). part_turn marks k (some (part_in c))) g.stream
    ∙ g.turn

-- ---- a field list

abbrev pub Answered : Type 0
Answered = answers.Result (Unit {0}) Refusal

-- an answer that refuses nothing
pub done-answer : (r : Answered) → ((why : Refusal) → r ≡ Err why → ⊥) → r ≡ Ok tt
done-answer (Ok tt) n = refl
done-answer (Err why) n = absurd (n why refl)

-- what the check answers of a list that reads well, and of one that is refused
list_checked-Ok : (r : FieldListRead) → Ok tt ≡ list_checked r → (fs : List Field) × (r ≡ list fs)
list_checked-Ok (list fs) e = (fs, refl)
list_checked-Ok (reading.FieldListRead.refused why) e = let z : ◌≡◌ {A = ℕ} 0 1 = cc in absurd (omega arith)

pub list-read : (s : List ℕ) (r : Answered) → r ≡ list_checked (read_field_list s) → r ≡ Ok tt → (fs : List Field) × (read_field_list s ≡ list fs)
list-read s r e d = list_checked-Ok (read_field_list s) (sym d ∙ e)

pub list-refused : (r : FieldListRead) (why : Refusal) → Err why ≡ list_checked r → r ≡ reading.FieldListRead.refused why
list-refused (list fs) why e = let z : ◌≡◌ {A = ℕ} 0 1 = cc in absurd (omega arith)
list-refused (reading.FieldListRead.refused why) x e = cc

-- ---- the call

pub written-marks : (m : List ℕ) → marks_of m ≡ (encoder_of m).written
unfolding encoder_of
written-marks m = refl

module _ (m : List ℕ) (stream part : ℕ) (s out : List ℕ) where
  pub not-formed : forms_encoder m ≡ false → block_call m stream part s out ≡ refused m out 17
  unfolding block_call
  not-formed e = need-false (forms_encoder m) _ _ e

  module _ (forms : forms_encoder m ≡ true) where
    pub not-in-turn : part_turn (encoder_of m).written stream (part_of part) ≡ false → block_call m stream part s out ≡ refused m out 11
    unfolding block_call
    not-in-turn e = need-true (forms_encoder m) _ _ forms ∙ need-false (part_turn (encoder_of m).written stream (part_of part)) _ _ e

    module _ (turn : part_turn (encoder_of m).written stream (part_of part) ≡ true) where
      after_turn : block_call m stream part s out
          ≡ on_list (refused m out) (read_field_list s) (λ fs. stepped overlay_encoder m out (encode_block (encoder_of m) stream part fs (length out)))
      unfolding block_call
      after_turn = need-true (forms_encoder m) _ _ forms ∙ need-true (part_turn (encoder_of m).written stream (part_of part)) _ _ turn

      pub not-a-list : (why : Refusal) → read_field_list s ≡ reading.FieldListRead.refused why → block_call m stream part s out ≡ refused m out (number_of why)
      not-a-list why e =
          after_turn
          ∙ ap (λ (r : FieldListRead). on_list (refused m out) r (λ fs. stepped overlay_encoder m out (encode_block (encoder_of m) stream part fs (length out)))) e

-- the call's numbers, and the stream and the part that they name
pub same-call : (m : List ℕ) (stream x part n : ℕ) (s out : List ℕ) → stream ≡ x → part ≡ n → (answer : Answer) (memory output : List ℕ)
    → Tells (block_call m x n s out) answer memory output → Tells (block_call m stream part s out) answer memory output
same-call m stream x part n s out a b answer memory output t = rw (a, b) t

-- ---- a block in turn whose list reads well

pub record Ready (m : List ℕ) (stream : ℕ) (part : Part) (s : List ℕ) : Type 0 where
  pub small : Small m
  pub forms : forms_encoder m ≡ true
  pub turn : part_turn (encoder_of m).written stream (some part) ≡ true
  pub fields : List Field
  pub read : read_field_list s ≡ list fields

-- as a function's clauses have it
pub ready-by : {m : List ℕ} {stream : ℕ} {part : Part} {s : List ℕ} → Small m
    → (forms_encoder m ≡ true) × (part_turn (encoder_of m).written stream (some part) ≡ true) → ReadsWell s → Ready m stream part s
ready-by small p r = record { small = small; forms = p.0; turn = p.1; fields = r.0; read = r.1 }

module _ {m : List ℕ} {stream : ℕ} {part : Part} {s : List ℕ} (R : Ready m stream part s) where
  abbrev E : Encoder
  E = encoder_of m

  abbrev rs : List Representation
  rs = representations_of m s

  abbrev size : ℕ
  size = length (block_wire rs)

  pub its-turn : (stream < streams) × (in_turn E.written stream part ≡ true)
  its-turn = in-turn E.written stream part R.turn

  pub long-memory : 16960 ≤ length m
  long-memory = (forms-holds-encoder m R.small R.forms).long

  module _ (out : List ℕ) where
    abbrev write : Outcome Encoder
    write = write_part E stream part rs (length out)

    encoded : encode_block E stream (part_number part) R.fields (length out) ≡ write
    unfolding encode_block encode_part
    encoded =
        ap (λ (o : Option Part). encode_part E stream o R.fields (length out)) (part-is part)
        ∙ need-true (ltb stream streams) _ _ (lt-ltb stream streams its-turn.0)
        ∙ need-true (in_turn E.written stream part) _ _ its-turn.1
        ∙ ap (λ (r : FieldListRead). write_part E stream part (map (choose E.entries) (fields_in r)) (length out)) (sym R.read)

    call : block_call m stream (part_number part) s out ≡ stepped overlay_encoder m out write
    call =
        after_turn m stream (part_number part) s out R.forms (ap (part_turn E.written stream) (part-is part) ∙ R.turn)
        ∙ ap (λ (r : FieldListRead). on_list (refused m out) r (λ fs. stepped overlay_encoder m out (encode_block E stream (part_number part) fs (length out)))) R.read
        ∙ ap (stepped overlay_encoder m out) encoded

    refuses : (number : ℕ) → write ≡ refuse E number → block_call m stream (part_number part) s out ≡ refused m out number
    unfolding stepped output_bytes
    refuses number e =
        call
        ∙ ap (stepped overlay_encoder m out) e
        ∙ ap (λ (l : List ℕ). refused l out number) (overlay-self-encoder E m (forms-holds-encoder m R.small R.forms))

    too_long : 16384 < size → block_call m stream (part_number part) s out ≡ refused m out 13
    unfolding write_part
    too_long h = refuses 13 (need-false (leb size 16384) _ _ (lt-leb size 16384 h))

    no_room : size ≤ 16384 → length out < size → block_call m stream (part_number part) s out ≡ refused m out 12
    unfolding write_part
    no_room short h =
        refuses 12 (need-true (leb size 16384) _ _ (le-leb size 16384 short) ∙ need-false (leb size (length out)) _ _ (lt-leb size (length out) h))

    -- by the room's answer: it refuses, or there is room
    abbrev pub Fits : Answered → Type 0
    Fits (Ok done) = (size ≤ 16384) × (size ≤ length out)
    Fits (Err why) = block_call m stream (part_number part) s out ≡ refused m out (number_of why)

    pub fitting : (r : Answered) → r ≡ room_answer size (length out) → Fits r
    fitting r e = subst Fits (sym e) (room-ways size (length out) Fits (λ short room. (short, room)) too_long no_room)

    given : size ≤ 16384 → size ≤ length out → block_call m stream (part_number part) s out ≡ record {
      answer = done size 0;
      memory = closed_by part (entered m stream part rs) stream;
      output = overlay out 0 (block_wire rs);
    }
    unfolding write_part stepped output_bytes
    given short room =
        call
        ∙ ap (stepped overlay_encoder m out)
        (need-true (leb size 16384) _ _ (le-leb size 16384 short) ∙ need-true (leb size (length out)) _ _ (le-leb size (length out) room))
        ∙ ap (λ (l : List ℕ). record { answer = done size 0; memory = l; output = overlay out 0 (block_wire rs) })
        (sym (entered-written m R.small R.forms stream its-turn.0 part rs))

    -- the same of memory and output after a step that leaves both
    module _ (m' out' : List ℕ) (em : m' ≡ m) (eo : out' ≡ out) where
      pub still-forms : forms_encoder m' ≡ true
      still-forms = ap forms_encoder em ∙ R.forms

      pub still-room : (size ≤ 16384) × (size ≤ length out)
          → (length (block_wire (representations_of m' s)) ≤ 16384) × (length (block_wire (representations_of m' s)) ≤ length out')
      still-room h = rw (em, eo) h

      pub still-passed : size ≤ 16384 → (n : ℕ) (refers new : List ℕ) → Passed m' stream part s out' true n refers new
          → (n ≡ size) × ((refers ≡ entered m stream part rs) × (new ≡ overlay out 0 (block_wire rs)))
      still-passed short n refers new p =
          let q : Passed m stream part s out true n refers new = rw (em, eo) at p in
          (q.0 ∙ sym (capped-low size short), q.1)

    -- the call's result, by what its steps leave
    module _ (short : size ≤ 16384) (room : size ≤ length out) (refers : List ℕ) (e : refers ≡ entered m stream part rs) where
      pub refers-length : length refers ≡ length m
      refers-length = ap length e ∙ entered-length m R.small R.forms stream its-turn.0 part rs

      pub gives : (n : ℕ) → n ≡ size → (answer : Answer) (closed new : List ℕ) → answer ≡ done n 0
          → closed ≡ closed_by part refers stream → new ≡ overlay out 0 (block_wire rs) → Tells (block_call m stream (part_number part) s out) answer closed new
      gives n is answer closed new a c o =
          tells _ _ (given short room) answer closed new (a ∙ ap (λ (k : ℕ). done k 0) is)
          (c ∙ ap (λ (l : List ℕ). closed_by part l stream) e) o
