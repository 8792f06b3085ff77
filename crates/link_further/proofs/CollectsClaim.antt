-- "No deletion forgotten", on memory and bytes: an entry that is ready is acknowledged within one collect more than deletes arrived before its own, and
-- these are at most 127. From the model's, of the state that memory stands for: what each collect that is done wrote are the model's bytes.
use mathlib.Core.Path.{◌≡◌, refl, sym, ap, ap₂, ◌∙◌, subst}
use Prim.Native.Nat.{ℕ, suc, ◌≤◌, ◌<◌}
use native.Mathlib.Omega.{arith}
use mathlib.Core.Bool.{Bool, true, false}
use mathlib.Core.List.Memᴰ
use mathlib.Core.List.{List, [], ◌∷◌, ◌++◌, Memᴰ}
use lib.ListN.{length, take, drop, length-append, take-append-drop}
use lib.Seq.{take-take}
use lib.Dec.{eqb}
use Rattle.memory.specs.Choice.{pick}
use Rattle.memory.specs.Bytes.{Small}
use Rattle.integers.specs.Answers.{Answer, out_of_turn, on_read, Read}
use Rattle.instructions.specs.Reading.{read_for_decoder, instruction_of}
use Rattle.instructions.specs.Instruction.{acknowledge, instruction_wire}
use Rattle.blocks.specs.Reading.{BlockRead, read_block}
use Rattle.blocks.specs.Reading as blocks
use Rattle.model.specs.Parts.{part_of, Delete}
use Rattle.model.specs.Decoder.{delete_index, Decoder, delete_of, ready_delete, ready, FormsDecoder}
use Rattle.model.specs.DecoderCalls.{decoder_call}
use Rattle.model.specs.DecoderCalls as at-decoder
use Rattle.model_laws.proofs.Tables.{look-index}
use Rattle.model_laws.proofs.Deletes.{look-splits, look-placed}
use Rattle.model_laws.proofs.Forms.{ready-delete}
use Rattle.model_laws.proofs.Answers.{decoder_refused, collected-told}
use Rattle.model_laws.proofs.Collects.{collected_by, collected_since, Waiting, by_place, few-deletes}
use Rattle.state.specs.DecoderState.{decoder_of}
use Rattle.state.specs.Forms.{forms_decoder}
use Rattle.parts.specs.Turn.{part_turn}
use Rattle.link.specs.Calls.{DecoderCall, decoder_result, AllDecoderBytes}
use Rattle.link.specs.Calls as calls
use Rattle.link.specs.Happened.{Ready}
use Rattle.link_further.specs.Collects.{collected, enough, CollectsClaim}
use Rattle.link_further.specs.Collects as claim
use Rattle.link.proofs.Lifted.{StandsDecoder, LiftedDecoder, read_block_call, decoder_call_of, decoder_unread}
use Rattle.link.proofs.DecoderLifting.{lift-decoder, stands-self-decoder}
use Rattle.link.proofs.Runs.{decoder_calls_of, fine-decoders}
use Rattle.link.proofs.DoneBytes.{done-bytes}
use Rattle.link.proofs.DecoderHistory.{forms-decoder, enquiry-ready}
use Rattle.std.specs.Prelude.{Ok, Err}
use Rattle.instructions.specs.declared.read.InstructionPlace.{InstructionPlace}

-- ---- a read and a block are no collect
read-silent : (D : Decoder) (s : List ℕ) (q : Read InstructionPlace)
    → [] ≡ collected_by (on_read decoder_unread q (λ p taken. at-decoder.read (instruction_of s p) taken))
    (decoder_call D (on_read decoder_unread q (λ p taken. at-decoder.read (instruction_of s p) taken)))
unfolding collected_by
read-silent D s (Ok (p, taken)) = refl
read-silent D s (Err why) = refl

block-silent : (D : Decoder) (turn : Bool) (stream part room : ℕ) (q : BlockRead)
    → [] ≡ collected_by (pick turn (read_block_call stream part room q) (at-decoder.unread out_of_turn))
    (decoder_call D (pick turn (read_block_call stream part room q) (at-decoder.unread out_of_turn)))
unfolding collected_by
block-silent D true stream part room (blocks.BlockRead.block rs) = refl
block-silent D true stream part room (blocks.BlockRead.refused why) = refl
block-silent D false stream part room q = refl

-- ---- what a call wrote as a collect, and a list of calls
collected-call : (D : Decoder) (m : List ℕ) (c : DecoderCall) → LiftedDecoder D c (decoder_result m c)
    → claim.collected_by c (decoder_result m c) ≡ collected_by (decoder_call_of D c) (decoder_call D (decoder_call_of D c))
unfolding claim.collected_by collected_by decoder_call_of
collected-call D m (calls.DecoderCall.read s) L = read-silent D s (read_for_decoder s)
collected-call D m (calls.DecoderCall.block stream part s out) L =
    block-silent D (part_turn D.finished stream (part_of part)) stream part (length out) (read_block s)
collected-call D m (calls.DecoderCall.close k stream) L = refl
collected-call D m (calls.DecoderCall.collect out) L =
    let o = decoder_call D (at-decoder.collect (length out)) in
    let r = decoder_result m (calls.DecoderCall.collect out) in
    ap₂ (λ (a : Answer) (l : List ℕ). pick (eqb a.number 0) (l ∷ []) []) L.answer
    (done-bytes D o out r L.answer L.output (decoder_refused D (at-decoder.collect (length out))) (collected-told D (length out)))
collected-call D m (calls.DecoderCall.hold index) L = refl

pub collected-since : (m : List ℕ) (D : Decoder) → StandsDecoder m D → (cs : List DecoderCall) → AllDecoderBytes cs
    → collected m cs ≡ collected_since D (decoder_calls_of D cs)
unfolding collected collected_since decoder_calls_of
collected-since m D h [] b = refl
collected-since m D h (c ∷ cs) b =
    let L = lift-decoder m D h c b.0 in
    ap₂ (λ (xs ys : List (List ℕ)). xs ++ ys) (collected-call D m c L) (collected-since (decoder_result m c).memory _ L.stands cs b.1)

-- ---- the claim
among-more : (x : List ℕ) (n k : ℕ) (l : List (List ℕ)) → n ≤ k → Memᴰ x (take n l) → Memᴰ x (take k l)
among-more x n k l h m =
    subst (Memᴰ x) (take-append-drop n (take k l)) (Memᴰ.append_left (drop n (take k l)) (subst (Memᴰ x) (sym (take-take n k l h)) m))

module _ (m : List ℕ) (small : Small m) (forms : forms_decoder m ≡ true) where
  abbrev D : Decoder
  D = decoder_of m

  stands : StandsDecoder m D
  stands = stands-self-decoder m small forms

  F : FormsDecoder D
  F = forms-decoder m D stands

  by_state : (i : ℕ) → Ready m i → ready D i ≡ true
  by_state i r = enquiry-ready m D stands i r

  module _ (before behind : List Delete) (d : Delete) (place : D.deletes ≡ before ++ (d ∷ behind)) (now : Ready m d.index) where
    waiting : Waiting D.deletes D.finished before d
    unfolding ready ready_delete delete_of
    waiting =
        let there = look-placed delete_index D.deletes before behind d place F.once in
        record { behind = behind; place = place; now = sym (ap (ready_delete D.finished) there) ∙ by_state d.index now }

    placed : (cs : List DecoderCall) → AllDecoderBytes cs → length before < length (collected m cs)
        → Memᴰ (instruction_wire (acknowledge d.index)) (take (suc (length before)) (collected m cs))
    placed cs b =
        subst (λ (xs : List (List ℕ)). length before < length xs → Memᴰ (instruction_wire (acknowledge d.index)) (take (suc (length before)) xs))
        (sym (collected-since m D stands cs b)) (by_place D F before d waiting (decoder_calls_of D cs) (fine-decoders D cs))

    -- each of the at most 128 deletes has an entry of its own
    few-before : length before < enough
    few-before = omega (arith, few-deletes D F, ap length place, length-append before (d ∷ behind))

  found : (i : ℕ) → Ready m i → (cs : List DecoderCall) → AllDecoderBytes cs → enough ≤ length (collected m cs)
      → Memᴰ (instruction_wire (acknowledge i)) (take enough (collected m cs))
  unfolding delete_of
  found i r cs b long =
      let d = ready-delete D F i (by_state i r) in
      let at : d.0.index ≡ i = look-index delete_index i D.deletes d.0 d.1 in
      let s = look-splits delete_index i D.deletes d.0 d.1 in
      let now : Ready m d.0.index = subst (Ready m) (sym at) r in
      let few = few-before s.0 s.1 d.0 s.2 now in
      subst (λ (k : ℕ). Memᴰ (instruction_wire (acknowledge k)) (take enough (collected m cs))) at
      (among-more _ (suc (length s.0)) enough (collected m cs) (omega arith) (placed s.0 s.1 d.0 s.2 now cs b (omega arith)))

pub collects-claim : CollectsClaim
collects-claim = record { within = found; by_place = λ m small forms before behind d place now cs b. placed m small forms before behind d place now cs b }
