-- What happened at the decoder by calls, bytes and answers is what the model's calls did; so history and table agree, on memory.
-- By the reading of an instruction, and by reading back the acknowledgement that a collect wrote.
use mathlib.Core.Path.{◌≡◌, refl, sym, ap, ap₂, ◌∙◌, subst, fun_ext}
use mathlib.Core.Logic.{◌↔◌}
use Prim.Native.Nat.{ℕ, ◌+◌}
use native.Mathlib.Omega.{arith}
use native.Mathlib.Nat.{zero-add}
use mathlib.Core.Bool.{Bool, true, false}
use mathlib.Core.Option.{Option, none}
use mathlib.Core.List.{List, [], ◌∷◌, ◌++◌}
use lib.ListN.{length}
use lib.Dec.{eqb}
use Rattle.memory.specs.Choice.{pick}
use Rattle.memory.specs.Bytes.{Small}
use Rattle.memory.proofs.Order.{pick-both}
use Rattle.memory.proofs.Places.{has_all}
use Rattle.integers.specs.Answers.{Answer, out_of_turn, on_read, Read}
use Rattle.instructions.specs.Instruction.{acknowledge, FineIndex, instruction_wire}
use Rattle.instructions.specs.Reading.{read_for_decoder, read_for_encoder, instruction_of}
use Rattle.instructions.proofs.Back.{encoder-back}
use Rattle.blocks.specs.Reading.{BlockRead, read_block}
use Rattle.blocks.specs.Reading as blocks
use Rattle.model.specs.Table.{look, total}
use Rattle.model.specs.Parts.{part_of, Marks, no_marks, Delete}
use Rattle.model.specs.Outcome.{output_bytes}
use Rattle.model.specs.Decoder.{Decoder, held_size, slot_in, delete_of, start_decoder, ready, FormsDecoder}
use Rattle.model.specs.DecoderCalls.{decoder_call, after_decoder}
use Rattle.model.specs.DecoderCalls as at-decoder
use Rattle.model.specs.Happened.{Happened, done_by, after, held_by, deletion_by, Contents, empty, is_held, added_by, removed_by, sum_of}
use Rattle.model_laws.proofs.Forms.{freed-held}
use Rattle.model_laws.proofs.DecoderWays.{collect-ways}
use Rattle.model_laws.proofs.DecoderHistory.{wrote_that, did_by, did_since, contents_of, Told, told-calls}
use Rattle.model_laws.proofs.Collecting.{held-index}
use Rattle.model_laws.proofs.Holding.{told-ready, ready-told}
use Rattle.model_laws.proofs.Answers.{decoder_refused, collected-told}
use Rattle.state.specs.Layout.{held_of}
use Rattle.state.specs.DecoderState.{decoder_of}
use Rattle.state.specs.Forms.{forms_decoder}
use Rattle.state_laws.proofs.DecoderLaws.{decoder-laws}
use Rattle.parts.specs.Turn.{part_turn}
use Rattle.decoder.specs.Calls.{start_call}
use Rattle.link.specs.Calls.{DecoderCall, decoder_result, AllDecoderBytes, decoder_after}
use Rattle.link.specs.Calls as calls
use Rattle.link.specs.Happened.{managed, acknowledged, happened, history, Ready}
use Rattle.link.specs.Histories.{contents_in, Lawful, BlockMeans, finished_after, hold_answer, Agrees}
use Rattle.link.proofs.Lifted.{StandsDecoder, LiftedDecoder, read_block_call, decoder_call_of, decoder_unread}
use Rattle.link.proofs.DecoderLifting.{lift-decoder, start-decoder, stands-self-decoder}
use Rattle.link.proofs.Runs.{decoder_calls_of, fine-decoders, after-decoder}
use Rattle.link.proofs.DoneBytes.{done-bytes}
use Rattle.link.proofs.HeldSizes.{held-decoder}
use Rattle.link.proofs.BlockMeanings.{block-means}
use Rattle.link.proofs.LawfulReads.{lawful-read}
use Rattle.link.proofs.BlockTurns.{block-turn}
use Rattle.link.proofs.FinishedParts.{finished-after, hold-answer}
use Rattle.std.specs.Prelude.{Ok, Err}
use Rattle.instructions.specs.declared.read.InstructionPlace.{InstructionPlace}

pub forms-decoder : (m : List ℕ) (D : Decoder) → StandsDecoder m D → FormsDecoder D
forms-decoder m D h = subst FormsDecoder h.state (decoder-laws.fits m h.small h.forms).forms

-- ---- an instruction that was read
abbrev read_call_of : List ℕ → Read InstructionPlace → at-decoder.DecoderCall
read_call_of s q = on_read decoder_unread q (λ p taken. at-decoder.read (instruction_of s p) taken)

read-did : (D : Decoder) (s : List ℕ) (a : Answer) (q : Read InstructionPlace) → a ≡ (decoder_call D (read_call_of s q)).answer
    → pick (eqb a.number 0) (on_read (λ why. []) q (λ p taken. done_by (instruction_of s p))) [] ≡ did_by (read_call_of s q) (decoder_call D (read_call_of s q))
unfolding did_by
read-did D s a (Ok (p, taken)) e = ap (λ (b : Answer). pick (eqb b.number 0) (done_by (instruction_of s p)) []) e
read-did D s a (Err why) e = pick-both (λ (l : List Happened). l ≡ []) (eqb a.number 0) [] [] (λ t. refl) (λ t. refl)

-- ---- a block did nothing
block-did : (D : Decoder) (turn : Bool) (stream part room : ℕ) (q : BlockRead)
    → [] ≡ did_by (pick turn (read_block_call stream part room q) (at-decoder.unread out_of_turn))
    (decoder_call D (pick turn (read_block_call stream part room q) (at-decoder.unread out_of_turn)))
unfolding did_by
block-did D true stream part room (blocks.BlockRead.block rs) = refl
block-did D true stream part room (blocks.BlockRead.refused why) = refl
block-did D false stream part room q = refl

-- ---- a collect
nothing-acknowledged : acknowledged [] ≡ []
unfolding read_for_encoder
nothing-acknowledged = refl

one-acknowledged : (i : ℕ) → FineIndex i → acknowledged (instruction_wire (acknowledge i)) ≡ done_by (acknowledge i)
one-acknowledged i fine =
    let w = instruction_wire (acknowledge i) in
    let back = encoder-back w i fine (has_all w) in
    ap (λ (r : Read InstructionPlace). on_read (λ why. []) r (λ p taken. done_by (instruction_of w p))) back.1 ∙ ap done_by back.2

collect-did : (D : Decoder) → FormsDecoder D → (room : ℕ)
    → acknowledged (output_bytes (decoder_call D (at-decoder.collect room)).output) ≡ wrote_that (decoder_call D (at-decoder.collect room)).output
unfolding decoder_call output_bytes wrote_that
collect-did D F room =
    collect-ways (λ o. acknowledged (output_bytes o.output) ≡ wrote_that o.output) D (λ a z. nothing-acknowledged) room (λ e. nothing-acknowledged)
    (λ i e fits. let h = freed-held D F i e in one-acknowledged i (held-index D F i h.0 h.1))

-- ---- every call, and lists of them
pub happened-same : (m : List ℕ) (D : Decoder) → StandsDecoder m D → (c : DecoderCall) → LiftedDecoder D c (decoder_result m c)
    → happened c (decoder_result m c) ≡ did_by (decoder_call_of D c) (decoder_call D (decoder_call_of D c))
unfolding happened decoder_call_of did_by
happened-same m D h (calls.DecoderCall.read s) L = read-did D s (decoder_result m (calls.DecoderCall.read s)).answer (read_for_decoder s) L.answer
happened-same m D h (calls.DecoderCall.block stream part s out) L =
    block-did D (part_turn D.finished stream (part_of part)) stream part (length out) (read_block s)
happened-same m D h (calls.DecoderCall.close k stream) L = refl
happened-same m D h (calls.DecoderCall.collect out) L =
    let o = decoder_call D (at-decoder.collect (length out)) in
    let r = decoder_result m (calls.DecoderCall.collect out) in
    ap acknowledged
    (done-bytes D o out r L.answer L.output (decoder_refused D (at-decoder.collect (length out))) (collected-told D (length out)))
    ∙ collect-did D (forms-decoder m D h) (length out)
happened-same m D h (calls.DecoderCall.hold index) L = refl

history-same : (m : List ℕ) (D : Decoder) → StandsDecoder m D → (cs : List DecoderCall) → AllDecoderBytes cs
    → history m cs ≡ did_since D (decoder_calls_of D cs)
unfolding history did_since decoder_calls_of
history-same m D h [] b = refl
history-same m D h (c ∷ cs) b =
    let L = lift-decoder m D h c b.0 in
    ap₂ (λ (xs ys : List Happened). xs ++ ys) (happened-same m D h c L) (history-same (decoder_result m c).memory _ L.stands cs b.1)

-- ---- ready, by the enquiry's answer
answer-hold : (m : List ℕ) (D : Decoder) → StandsDecoder m D → (i : ℕ) → (decoder_result m (calls.DecoderCall.hold i)).answer ≡ (decoder_call D (at-decoder.hold i)).answer
unfolding decoder_call_of
answer-hold m D h i = (lift-decoder m D h (calls.DecoderCall.hold i) tt).answer

pub enquiry-ready : (m : List ℕ) (D : Decoder) → StandsDecoder m D → (i : ℕ) → Ready m i → ready (decoder_of m) i ≡ true
enquiry-ready m D h i r =
    let e = answer-hold m D h i in
    ap (λ (C : Decoder). ready C i) h.state
    ∙ told-ready D (forms-decoder m D h) i
    (sym (ap (λ (a : Answer). a.number) e) ∙ r.0, sym (ap (λ (a : Answer). a.first) e) ∙ r.1)

pub ready-enquiry : (m : List ℕ) (D : Decoder) → StandsDecoder m D → (i : ℕ) → ready (decoder_of m) i ≡ true → Ready m i
ready-enquiry m D h i r =
    let e = answer-hold m D h i in
    let t = ready-told D (forms-decoder m D h) i (sym (ap (λ (C : Decoder). ready C i) h.state) ∙ r) in
    (ap (λ (a : Answer). a.number) e ∙ t.0, ap (λ (a : Answer). a.first) e ∙ t.1)

-- ---- history and table agree
module _ (m : List ℕ) (D : Decoder) (h : StandsDecoder m D) (cs : List DecoderCall) (b : AllDecoderBytes cs) where
  abbrev D' : Decoder
  D' = after_decoder D (decoder_calls_of D cs)

  stands : StandsDecoder (decoder_after m cs) D'
  stands = after-decoder m D h cs b

  told : Told D (history m cs) D'
  told = subst (λ (xs : List Happened). Told D xs D') (sym (history-same m D h cs b))
      (told-calls D (forms-decoder m D h) (decoder_calls_of D cs) (fine-decoders D cs))

  finished-now : finished_after D.finished m cs ≡ D'.finished
  finished-now = finished-after m D h cs b

  hold-now : (i : ℕ) → hold_answer (after (held_by i) (is_held (contents_of D i)) (history m cs)) (after (deletion_by i) (delete_of D i) (history m cs))
      (finished_after D.finished m cs) i
      ≡ hold_answer (is_held (contents_of D' i)) (delete_of D' i) D'.finished i
  hold-now i =
      let o : Option Delete = after (deletion_by i) (delete_of D i) (history m cs) in
      let f : Marks = finished_after D.finished m cs in
      ap (λ (t : Bool). hold_answer t o f i) (told.held i)
      ∙ ap (λ (x : Option Delete). hold_answer (is_held (contents_of D' i)) x f i) (told.deletion i)
      ∙ ap (λ (g : Marks). hold_answer (is_held (contents_of D' i)) (delete_of D' i) g i) finished-now

  pub agrees : Agrees m (contents_of D) (delete_of D) D.deletes D.finished cs
  agrees = record {
    entries = λ i. ap (λ (C : Decoder). contents_of C i) stands.state ∙ sym (ap (λ (t : Contents). t i) told.entries);
    held = λ i. ap (λ (C : Decoder). is_held (contents_of C i)) stands.state ∙ sym (told.held i);
    deletion = λ i. ap (λ (C : Decoder). delete_of C i) stands.state ∙ sym (told.deletion i);
    arrived = ap (λ (C : Decoder). C.deletes) stands.state ∙ sym told.arrived;
    enquiry = λ i. (enquiry-ready (decoder_after m cs) D' stands i, ready-enquiry (decoder_after m cs) D' stands i);
    parts = λ s p. ap (λ (C : Decoder). C.finished s p) stands.state ∙ sym (ap (λ (f : Marks). f s p) finished-now);
    hold = λ i. answer-hold (decoder_after m cs) D' stands i ∙ hold-answer D' i ∙ sym (hold-now i);
    turn = λ stream part b out small lent.
        subst (λ (f : Marks). ((decoder_result (decoder_after m cs) (calls.DecoderCall.block stream part b out)).answer.number ≡ 11)
        ↔ (part_turn f stream (part_of part) ≡ false)) (sym finished-now) (block-turn (decoder_after m cs) D' stands stream part b out small lent);
    lawful = λ s small z.
        subst (λ (g : ℕ → Bool). Lawful g (λ i. after (deletion_by i) (delete_of D i) (history m cs)) (managed s)) (sym (fun_ext told.held))
        (subst (λ (d : ℕ → Option Delete). Lawful (λ i. is_held (contents_of D' i)) d (managed s)) (sym (fun_ext told.deletion))
        (lawful-read (decoder_after m cs) D' stands s small z));
    means = λ stream part b out small lent.
        subst (λ (t : Contents). BlockMeans t b (decoder_result (decoder_after m cs) (calls.DecoderCall.block stream part b out))) (sym told.entries)
        (block-means (decoder_after m cs) D' stands stream part b out small lent);
  }

  pub sizes : held_of (decoder_after m cs) + sum_of removed_by (contents_of D) (history m cs)
      ≡ held_size D.entries + sum_of added_by (contents_of D) (history m cs)
  sizes = let e = held-decoder (decoder_after m cs) D' stands in let t = told.sizes in omega (arith, e, t)

-- ---- from a start, and from other memory that forms a state
module _ (m : List ℕ) (limit : ℕ) (small : Small m) (started : (start_call m limit).answer.number ≡ 0) (cs : List DecoderCall) (b : AllDecoderBytes cs) where
  pub agree_start : Agrees (start_call m limit).memory empty (λ i. none) [] no_marks cs
  unfolding start_decoder look slot_in delete_of
  agree_start = agrees (start_call m limit).memory (start_decoder limit) (start-decoder m limit small started) cs b

  pub held_start : held_of (decoder_after (start_call m limit).memory cs) + sum_of removed_by empty (history (start_call m limit).memory cs)
      ≡ sum_of added_by empty (history (start_call m limit).memory cs)
  unfolding start_decoder look slot_in held_size total
  held_start = sizes (start_call m limit).memory (start_decoder limit) (start-decoder m limit small started) cs b ∙ zero-add (sum_of added_by empty (history (start_call m limit).memory cs))

pub agree_state : (m : List ℕ) → Small m → forms_decoder m ≡ true → (cs : List DecoderCall) → AllDecoderBytes cs
    → Agrees m (contents_in m) (delete_of (decoder_of m)) (decoder_of m).deletes (decoder_of m).finished cs
agree_state m small forms cs b = agrees m (decoder_of m) (stands-self-decoder m small forms) cs b
