-- Demand 3, what stands before "Hence", on memory and bytes: after every list of calls, from a start and from all memory that forms a state.
-- From the model's, of the state that memory stands for.
use mathlib.Core.Path.{◌≡◌, refl, ap, ◌∙◌, subst₂, fun_ext}
use mathlib.Core.Logic.{⊎_elim}
use Prim.Native.Nat.{ℕ}
use mathlib.Core.Bool.{true}
use mathlib.Core.Option.{Option, some}
use mathlib.Core.List.Memᴰ
use mathlib.Core.List.{List, [], ◌∷◌}
use lib.ListN.{length}
use Rattle.memory.specs.Bytes.{Small}
use Rattle.memory.proofs.Order.{either, not-both}
use Rattle.integers.specs.Answers.{done, no_room}
use Rattle.blocks.specs.Representation.{Representation, indexed, block_wire}
use Rattle.blocks.specs.Reading.{block, read_block}
use Rattle.blocks.specs.Meaning.{Refers, block_references}
use Rattle.model.specs.Parts.{Part, nontrailer, trailer, Delete, names_part, is_ready, streams}
use Rattle.model.specs.Outcome.{Outcome, output_bytes}
use Rattle.model.specs.Decoder.{Decoder, delete_of, ready_delete, ready, FormsDecoder}
use Rattle.model.specs.DecoderCalls.{decoder_call, collect}
use Rattle.model_laws.specs.Ready.{FirstReady}
use Rattle.model_laws.specs.Ready as model
use Rattle.model_laws.proofs.Marks.{OpenPart, ready-or}
use Rattle.model_laws.proofs.Forms.{delete-held, ready-delete}
use Rattle.model_laws.proofs.Collecting.{held-index, held-slot}
use Rattle.model_laws.proofs.Ready.{ready-half}
use Rattle.state.specs.DecoderState.{decoder_of, overlay_decoder}
use Rattle.state.specs.Forms.{forms_decoder}
use Rattle.state_laws.proofs.DecoderLaws.{decoder-laws}
use Rattle.reply.specs.Result.{refused, stepped}
use Rattle.decoder.specs.Calls.{collect_call}
use Rattle.link.specs.Calls.{decoder_result}
use Rattle.link.specs.Calls as calls
use Rattle.link.specs.Happened.{Ready}
use Rattle.link.specs.Claims.{CouldStill, Frees, NamedPart, ReadyHalf, ReadyClaim}
use Rattle.link.proofs.Lifted.{StandsDecoder, decoder_call_of}
use Rattle.link.proofs.DecoderLifting.{same-decoder, stands-self-decoder, start-decoder}
use Rattle.link.proofs.Runs.{after-decoder}
use Rattle.link.proofs.DecoderHistory.{enquiry-ready, ready-enquiry, agree_start, agree_state}
use Rattle.link.proofs.StillAccepted.{still-model, one-small, one-read, open-takes}

refers-itself : (i : ℕ) → Refers (indexed i ∷ []) i
unfolding block_references
refers-itself i = Memᴰ.head refl

-- a part named by its own list
named-part : (d : Delete) (s : ℕ) (p : Part) → NamedPart d s p → names_part d s p ≡ true
unfolding names_part
named-part d s nontrailer n = n
named-part d s trailer n = n

part-named : (d : Delete) (s : ℕ) (p : Part) → names_part d s p ≡ true → NamedPart d s p
unfolding names_part
part-named d s nontrailer n = n
part-named d s trailer n = n

module _ (m : List ℕ) (small : Small m) (forms : forms_decoder m ≡ true) where
  abbrev D : Decoder
  D = decoder_of m

  F : FormsDecoder D
  F = (decoder-laws.fits m small forms).forms

  half : model.AbstractReadyHalf D
  half = ready-half D F

  stands : StandsDecoder m D
  stands = stands-self-decoder m small forms

  -- ---- ready exactly when no block could still be accepted
  module _ (i : ℕ) (d : Delete) (e : delete_of D i ≡ some d) where
    -- no block of bytes that could still be accepted in a named part refers to the entry
    abbrev Unreachable : Type 0
    Unreachable = (s : ℕ) (p : Part) (b : List ℕ) (rs : List Representation) → Small b → read_block b ≡ block rs → NamedPart d s p → Refers rs i
        → CouldStill m s p b → ⊥

    ready-unreachable : ready D i ≡ true → Unreachable
    ready-unreachable now s p b rs small_b read names refers still =
        (half.exactly i d e).0 now s p rs (named-part d s p names) refers (still-model m D stands s p b rs read still)

    ready-is : ready D i ≡ is_ready D.finished d
    unfolding ready ready_delete
    ready-is = ap (ready_delete D.finished) e

    open-reachable : OpenPart D.finished d streams → Unreachable → ⊥
    open-reachable o out =
        let h = delete-held D F i d e in
        let f = held-index D F i h.0 h.1 in
        out o.stream o.part (block_wire (indexed i ∷ [])) (indexed i ∷ []) (one-small i f) (one-read i f) (part-named d o.stream o.part o.named) (refers-itself i)
        (open-takes m D stands i f h.0.entry (held-slot D F i h.0 h.1) o.stream o.part o.low o.unmarked)

    unreachable-ready : Unreachable → ready D i ≡ true
    unreachable-ready out = ⊎_elim (λ r. ready-is ∙ r) (λ o. absurd (open-reachable o out)) (ready-or D.finished d)

  -- ---- a collect is the model's
  collected : (out : List ℕ) (o : Outcome Decoder) → decoder_call D (collect (length out)) ≡ o → collect_call m out ≡ stepped overlay_decoder m out o
  unfolding decoder_result decoder_call_of
  collected out o e = same-decoder m small forms (calls.DecoderCall.collect out) ∙ ap (stepped overlay_decoder m out) e

  -- an entry that is ready by the state is so by the enquiry's answer, and the other way round
  is-ready : (i : ℕ) → ready D i ≡ true → Ready m i
  is-ready i r = ready-enquiry m D stands i r

  by_state : (i : ℕ) → Ready m i → ready D i ≡ true
  by_state i r = enquiry-ready m D stands i r

  none_ready : ((i : ℕ) → Ready m i → ⊥) → (out : List ℕ) → collect_call m out ≡ record { answer = done 0 0; memory = m; output = out }
  unfolding stepped output_bytes
  none_ready idle out =
      collected out _ (half.none_ready (λ i. either (ready D i) (λ r. absurd (idle i (is-ready i r))) (λ r. r)) (length out))
      ∙ ap (λ (l : List ℕ). record { answer = done 0 0; memory = l; output = out }) (decoder-laws.self m small forms)

  -- the ready entry whose delete arrived first is freed
  frees : (k : ℕ) → ready D k ≡ true → (d : Delete) × FirstReady D d × Frees m d.index
  unfolding stepped output_bytes
  frees k now =
      let one = half.one_ready k now in (
        one.0,
        one.1,
        record {
          freed = λ out fits. collected out _ (one.2 (length out) fits);
          no_room = λ out short. collected out _ (one.3 (length out) short) ∙ ap (λ (l : List ℕ). refused l out no_room) (decoder-laws.self m small forms);
        },
      )

  pub ready-memory : ReadyHalf m (delete_of D) D.deletes
  ready-memory = record {
    exactly = λ i d e. (λ r. ready-unreachable i d e (by_state i r), λ out. is-ready i (unreachable-ready i d e out));
    none_ready = none_ready;
    one_ready = λ k r.
        let f = frees k (by_state k r) in
        let i = f.0.index in
        let d = ready-delete D F i f.1.ready_now in
        (i, d.0, d.1, is-ready i f.1.ready_now, f.2);
    first_freed = λ k r.
        let f = frees k (by_state k r) in
        let n = f.1 in (
          n.before,
          f.0,
          n.behind,
          n.arrived,
          is-ready f.0.index n.ready_now,
          f.2,
          λ e there now. not-both (ready D e.index) (by_state e.index now) (n.none_before e there),
        );
  }

-- the deletions by history are those of memory, and so is the order in which they arrived
ready-after : (m : List ℕ) (D : Decoder) → StandsDecoder m D → (deletions : ℕ → Option Delete) (arrived : List Delete)
    → ((i : ℕ) → delete_of (decoder_of m) i ≡ deletions i) → (decoder_of m).deletes ≡ arrived → ReadyHalf m deletions arrived
ready-after m D h deletions arrived same order = subst₂ (ReadyHalf m) (fun_ext same) order (ready-memory m h.small h.forms)

pub ready-claim : ReadyClaim
ready-claim = record {
  from_start = λ m limit small started cs bytes.
      let agree = agree_start m limit small started cs bytes in
      ready-after _ _ (after-decoder _ _ (start-decoder m limit small started) cs bytes) _ _ agree.deletion agree.arrived;
  from_state = λ m small forms cs bytes.
      let agree = agree_state m small forms cs bytes in
      ready-after _ _ (after-decoder m _ (stands-self-decoder m small forms) cs bytes) _ _ agree.deletion agree.arrived;
}
