-- Every list of calls on the memory of both ends is a list of steps, and the model's list of calls has its events.
-- By induction: memory stands for the model's states, each call is lifted, and is a step by the ways of the model's call.
use mathlib.Core.Path.{◌≡◌, refl, sym, ap, ap₂, ◌∙◌, subst}
use Prim.Native.Nat.{ℕ}
use native.Mathlib.Omega.{arith}
use mathlib.Core.Bool.{Bool, true, false, ◌&&◌}
use mathlib.Core.Option.{Option, none, some}
use mathlib.Core.List.{List, [], ◌∷◌}
use lib.ListN.{length}
use lib.Dec.{ltb, eqb}
use borrow.Author.Tests.{eqb-false}
use Rattle.memory.specs.Choice.{pick, need}
use Rattle.memory.proofs.Order.{pick-false}
use Rattle.integers.specs.Answers.{Answer, out_of_turn, on_read, Read, number_of}
use Rattle.instructions.specs.Instruction.{Instruction, insert, delete, acknowledge, FineIndex, instruction_wire}
use Rattle.instructions.specs.Reading.{read_for_decoder, instruction_of}
use Rattle.instructions.proofs.Told.{decoder_refusals, decoder-told}
use Rattle.blocks.specs.Representation.{Representation}
use Rattle.blocks.specs.Reading.{BlockRead, read_block}
use Rattle.blocks.specs.Reading as blocks
use Rattle.blocks.proofs.Told.{block_refusals, BlockTold, block-told}
use Rattle.model.specs.Parts.{Part, part_of, Closing, in_turn, streams}
use Rattle.model.specs.Outcome.{Outcome, output_bytes, refuse}
use Rattle.model.specs.Decoder.{Decoder, read_instruction, decode_part, decode_block, close_parts, collect_entry, FormsDecoder}
use Rattle.model.specs.DecoderCalls.{decoder_call}
use Rattle.model.specs.DecoderCalls as at-decoder
use Rattle.model.specs.Encoder.{Encoder, FormsEncoder}
use Rattle.model.specs.Events.{freed_by, told_by}
use Rattle.model.specs.Events as model
use Rattle.model_laws.specs.Link.{FineLinkCall, FineLinkCalls}
use Rattle.model_laws.specs.Promises.{Tells}
use Rattle.model_laws.proofs.Answers.{decoded-told}
use Rattle.model_laws.proofs.DecoderWays as ways
use Rattle.model_laws.proofs.Saying.{ack-fine}
use Rattle.parts.specs.Turn.{part_turn}
use Rattle.reply.specs.Result.{Result}
use Rattle.link.specs.Calls.{DecoderCall, DecoderBytes, decoder_result, encoder_result, done_bytes}
use Rattle.link.specs.Calls as calls
use Rattle.link.specs.Claims.{LinkCall, Ends, Event, turn, events, LinkBytes, AllLinkBytes, Acknowledges}
use Rattle.link.proofs.Lifted.{read_block_call, decoder_call_of, StandsDecoder, StandsEncoder, decoder_unread}
use Rattle.link.proofs.DecoderLifting.{lift-decoder}
use Rattle.link.proofs.EncoderLifting.{fine-encoder, kept-self-encoder, lift-encoder}
use Rattle.link.proofs.DecoderHistory.{forms-decoder}
use Rattle.link.proofs.Steps.{Step, heard, offered, freed, told, reset, bytes, modelled}
use Rattle.link.proofs.QuietSteps.{TiedStep, idle-step, Left, done_none, done-told, done-some, refuses-some}
use Rattle.link.proofs.QuietSteps.{quiet_read, quiet-offer, quiet-closed, quiet-collect, quiet-enquiry}
use Rattle.link.proofs.EncoderSteps.{encoder-step}
use Rattle.std.specs.Prelude.{Ok, Err}
use Rattle.instructions.specs.declared.read.InstructionPlace.{InstructionPlace}
use Rattle.integers.proofs.Told.{RefusedBy}

-- ---- what the model's calls at the decoder answer

read_taken : (D : Decoder) (i : Instruction) (taken : ℕ) → (read_instruction D i taken).answer.number ≡ 0 → (read_instruction D i taken).answer.first ≡ taken
read_taken D (insert i name value) taken =
    ways.insert-ways (λ (o : Outcome Decoder). o.answer.number ≡ 0 → o.answer.first ≡ taken) D
    (λ a z e. absurd (eqb-false a.number 0 z e)) i name value taken (λ xs d free fits e. refl)
read_taken D (delete i nontrailer trailer) taken =
    ways.delete-ways (λ (o : Outcome Decoder). o.answer.number ≡ 0 → o.answer.first ≡ taken) D
    (λ a z e. absurd (eqb-false a.number 0 z e)) i nontrailer trailer taken (λ h there free e. refl)
read_taken D (acknowledge i) taken =
    ways.acknowledge-ways (λ (o : Outcome Decoder). o.answer.number ≡ 0 → o.answer.first ≡ taken) D
    (λ a z e. absurd (eqb-false a.number 0 z e)) i taken

-- a block out of turn is refused before it is looked at
refused-first : {X : Type 0} (a b : Bool) (x y : X) → (a && b) ≡ false → need a x (need b x y) ≡ x
refused-first true true x y e = absurd (eqb-false 0 0 e refl)
refused-first true false x y e = refl
refused-first false b x y e = refl

unturned : (D : Decoder) (stream part : ℕ) (rs : List Representation) (room : ℕ) → part_turn D.finished stream (part_of part) ≡ false
    → decode_block D stream part rs room ≡ refuse D out_of_turn
unfolding decode_block decode_part part_turn
unturned D stream part rs room = go (part_of part)
  where
    go : (o : Option Part) → part_turn D.finished stream o ≡ false → decode_part D stream o rs room ≡ refuse D out_of_turn
    go none e = refl
    go (some p) e = refused-first (ltb stream streams) (in_turn D.finished stream p) _ _ e

turned : (D : Decoder) (stream part : ℕ) (rs : List Representation) (room : ℕ) (b : Bool) → part_turn D.finished stream (part_of part) ≡ b
    → decoder_call D (pick b (at-decoder.block stream part rs room) (at-decoder.unread out_of_turn)) ≡ decode_block D stream part rs room
unfolding decoder_call
turned D stream part rs room true e = refl
turned D stream part rs room false e = sym (unturned D stream part rs room e)

-- ---- one call

-- the memory of both ends stands for the model's states
pub record Joined (S : Ends) (M : model.Ends) : Type 0 where
  pub encoder-stands : StandsEncoder S.encoder M.encoder
  pub decoder-stands : StandsDecoder S.decoder M.decoder

pub record LinkStep (S : Ends) (M : model.Ends) (c : LinkCall) : Type 0 where
  pub call : model.LinkCall
  pub fine : FineLinkCall call
  pub tied : TiedStep (turn S c).event (model.turn M call).event
  pub joined : Joined (turn S c).ends (model.turn M call).ends

encoder-forms : (m : List ℕ) (E : Encoder) → StandsEncoder m E → FormsEncoder E
encoder-forms m E T = subst FormsEncoder T.state (kept-self-encoder m T.small T.forms).fits.forms

answer-number : (r : Result) (a : Answer) → r.answer ≡ a → r.answer.number ≡ a.number
answer-number r a e = ap (λ (x : Answer). x.number) e

module _ (S : Ends) (M : model.Ends) (J : Joined S M) where
  abbrev D : Decoder
  D = M.decoder

  -- what was read, by its reading
  read_step : (n : ℕ) (s : List ℕ) (q : Read InstructionPlace) → read_for_decoder s ≡ q → RefusedBy decoder_refusals q
      → Left (decoder_result S.decoder (calls.DecoderCall.read s)) []
      (decoder_call D (on_read decoder_unread q (λ p taken. at-decoder.read (instruction_of s p) taken)))
      → StandsDecoder (decoder_result S.decoder (calls.DecoderCall.read s)).memory
      (decoder_call D (on_read decoder_unread q (λ p taken. at-decoder.read (instruction_of s p) taken))).state
      → LinkStep S M (LinkCall.at_decoder n (calls.DecoderCall.read s))
  unfolding turn model.turn model.decoder_event decoder_call
  read_step n s (Ok (p, taken)) e t l h =
      let i : Instruction = instruction_of s p in
      let r : Result = decoder_result S.decoder (calls.DecoderCall.read s) in
      record {
        call = model.decoder n (at-decoder.read i taken);
        fine = tt;
        tied = record {
          step = heard n s r i (record {
            place = p;
            taken = taken;
            found = e;
            same = refl;
            told = λ z. ap (λ (a : Answer). a.first) l.answer ∙ read_taken D i taken (sym (answer-number r _ l.answer) ∙ z);
          });
          byte = refl;
          same = ap (λ (a : Answer). model.heard i a.number) l.answer;
        };
        joined = record { encoder-stands = J.encoder-stands; decoder-stands = h };
      }
  read_step n s (Err why) e t l h =
      let r : Result = decoder_result S.decoder (calls.DecoderCall.read s) in
      let q : r.answer.number ≡ number_of why = answer-number r _ l.answer in
      record {
        call = model.decoder n (decoder_unread why);
        fine = tt;
        tied = idle-step (Event.by_decoder n (calls.DecoderCall.read s) r) (quiet_read n s r (why, e, q, λ z. refuses-some decoder_refusals refl (number_of why) t (sym q ∙ z)));
        joined = record { encoder-stands = J.encoder-stands; decoder-stands = h };
      }

  -- what was offered, by its reading
  module _ (n stream part : ℕ) (s out : List ℕ) where
    abbrev offer-result : Result
    offer-result = decoder_result S.decoder (calls.DecoderCall.block stream part s out)

    offer-read : (rs : List Representation) → read_block s ≡ blocks.BlockRead.block rs → Left offer-result out (decode_block D stream part rs (length out))
        → StandsDecoder offer-result.memory (decode_block D stream part rs (length out)).state → LinkStep S M (LinkCall.at_decoder n (calls.DecoderCall.block stream part s out))
    unfolding turn model.turn model.decoder_event decoder_call
    offer-read rs e l h =
        let o : Outcome Decoder = decode_block D stream part rs (length out) in
        let t : Tells (length out) o = decoded-told D stream part rs (length out) in
        let r : Result = offer-result in
        record {
          call = model.decoder n (at-decoder.block stream part rs (length out));
          fine = tt;
          tied = record {
            step = offered n stream part s out r rs o.output (record {
              reads = e;
              written = λ z. done-told r out (output_bytes o.output) t.fits z
                  (ap (λ (a : Answer). a.first) l.answer ∙ t.told (sym (answer-number r _ l.answer) ∙ z)) l.output;
            });
            byte = refl;
            same = ap (λ (a : Answer). model.offered n stream part rs (length out) a o.output) l.answer;
          };
          joined = record { encoder-stands = J.encoder-stands; decoder-stands = h };
        }

    offer-step : (b : Bool) → part_turn D.finished stream (part_of part) ≡ b → (q : BlockRead) → read_block s ≡ q → BlockTold q
        → Left offer-result out (decoder_call D (pick b (read_block_call stream part (length out) q) (at-decoder.unread out_of_turn)))
        → StandsDecoder offer-result.memory (decoder_call D (pick b (read_block_call stream part (length out) q) (at-decoder.unread out_of_turn))).state
        → LinkStep S M (LinkCall.at_decoder n (calls.DecoderCall.block stream part s out))
    unfolding turn model.turn model.decoder_event decoder_call
    offer-step b f (blocks.BlockRead.block rs) e t l h =
        let d = turned D stream part rs (length out) b f in
        offer-read rs e (subst (Left offer-result out) d l) (subst (λ (o : Outcome Decoder). StandsDecoder offer-result.memory o.state) d h)
    offer-step true f (blocks.BlockRead.refused why) e t l h =
        let z : offer-result.answer.number ≡ number_of why = answer-number offer-result _ l.answer in
        record {
          call = model.decoder n (decoder_unread why);
          fine = tt;
          tied = idle-step (Event.by_decoder n (calls.DecoderCall.block stream part s out) offer-result)
              (quiet-offer n stream part s out offer-result (why, e, λ y. refuses-some block_refusals refl (number_of why) t (sym z ∙ y)));
          joined = record { encoder-stands = J.encoder-stands; decoder-stands = h };
        }
    offer-step false f (blocks.BlockRead.refused why) e t l h =
        let z : offer-result.answer.number ≡ out_of_turn = answer-number offer-result _ l.answer in
        record {
          call = model.decoder n (decoder_unread why);
          fine = tt;
          tied = idle-step (Event.by_decoder n (calls.DecoderCall.block stream part s out) offer-result)
              (quiet-offer n stream part s out offer-result (why, e, λ y. omega (arith, z, y)));
          joined = record { encoder-stands = J.encoder-stands; decoder-stands = h };
        }

  closed-tied : (n : ℕ) (c : Closing) (stream : ℕ) (r : Result) → Left r [] (close_parts D c stream)
      → TiedStep (Event.by_decoder n (calls.DecoderCall.close c stream) r) (told_by c stream (close_parts D c stream).answer)
  unfolding told_by
  closed-tied n c stream r =
      let e : Event = Event.by_decoder n (calls.DecoderCall.close c stream) r in
      ways.close-ways (λ (o : Outcome Decoder). Left r [] o → TiedStep e (told_by c stream o.answer)) D
      (λ a z l. subst (TiedStep e) (sym (pick-false (eqb a.number 0) (model.told c stream) model.quiet z))
      (idle-step e (quiet-closed n c stream r (λ y. eqb-false a.number 0 z (sym (answer-number r _ l.answer) ∙ y)))))
      c stream
      (λ below l. record { step = told n c stream r (answer-number r _ l.answer); byte = refl; same = refl })

  freed-tied : (n : ℕ) (out : List ℕ) (r : Result) (i : ℕ) → Acknowledges (acknowledge i) → done_bytes r ≡ instruction_wire (acknowledge i)
      → TiedStep (Event.by_decoder n (calls.DecoderCall.collect out) r) (model.freed i)
  freed-tied n out r i f b =
      let g = f.1 in
      let e : i ≡ f.0 = cc in
      record { step = freed n out r i (subst FineIndex (sym e) f.2) b; byte = refl; same = refl }

  collect-tied : FormsDecoder D → (n : ℕ) (out : List ℕ) (r : Result) → Left r out (collect_entry D (length out))
      → TiedStep (Event.by_decoder n (calls.DecoderCall.collect out) r) (freed_by (collect_entry D (length out)).output)
  unfolding freed_by output_bytes decoder_call
  collect-tied F n out r =
      let c : Event = Event.by_decoder n (calls.DecoderCall.collect out) r in
      ways.collect-ways (λ (o : Outcome Decoder). collect_entry D (length out) ≡ o → Left r out o → TiedStep c (freed_by o.output)) D
      (λ a z e l. idle-step c (quiet-collect n out r (done_none r (ap (λ (x : Answer). eqb x.number 0) l.answer ∙ z))))
      (length out)
      (λ idle e l. idle-step c (quiet-collect n out r (done-some r out [] 0 (omega arith) l.answer l.output)))
      (λ i next room e l.
      freed-tied n out r i (ack-fine D (at-decoder.collect (length out)) F (acknowledge i) (ap (λ (o : Outcome Decoder). o.output) e))
      (done-some r out _ 0 room l.answer l.output))
      refl

  -- a call at the decoder, by what it is tied to
  decoder-step : (n : ℕ) (c : DecoderCall) → DecoderBytes c → LinkStep S M (LinkCall.at_decoder n c)
  unfolding turn model.turn model.decoder_event decoder_call_of decoder_call
  decoder-step n (calls.DecoderCall.read s) b =
      let L = lift-decoder S.decoder D J.decoder-stands (calls.DecoderCall.read s) b in
      read_step n s (read_for_decoder s) refl (decoder-told s).told (record { answer = L.answer; output = L.output }) L.stands
  decoder-step n (calls.DecoderCall.block stream part s out) b =
      let L = lift-decoder S.decoder D J.decoder-stands (calls.DecoderCall.block stream part s out) b in
      offer-step n stream part s out (part_turn D.finished stream (part_of part)) refl (read_block s) refl (block-told s)
      (record { answer = L.answer; output = L.output }) L.stands
  decoder-step n (calls.DecoderCall.close k stream) b =
      let L = lift-decoder S.decoder D J.decoder-stands (calls.DecoderCall.close k stream) b in
      record {
        call = model.decoder n (at-decoder.close k stream);
        fine = tt;
        tied = closed-tied n k stream (decoder_result S.decoder (calls.DecoderCall.close k stream)) (record { answer = L.answer; output = L.output });
        joined = record { encoder-stands = J.encoder-stands; decoder-stands = L.stands };
      }
  decoder-step n (calls.DecoderCall.collect out) b =
      let L = lift-decoder S.decoder D J.decoder-stands (calls.DecoderCall.collect out) b in
      record {
        call = model.decoder n (at-decoder.collect (length out));
        fine = tt;
        tied = collect-tied (forms-decoder S.decoder D J.decoder-stands) n out (decoder_result S.decoder (calls.DecoderCall.collect out))
            (record { answer = L.answer; output = L.output });
        joined = record { encoder-stands = J.encoder-stands; decoder-stands = L.stands };
      }
  decoder-step n (calls.DecoderCall.hold index) b =
      let L = lift-decoder S.decoder D J.decoder-stands (calls.DecoderCall.hold index) b in
      record {
        call = model.decoder n (at-decoder.hold index);
        fine = tt;
        tied = let r : Result = decoder_result S.decoder (calls.DecoderCall.hold index) in
            idle-step (Event.by_decoder n (calls.DecoderCall.hold index) r) (quiet-enquiry n index r);
        joined = record { encoder-stands = J.encoder-stands; decoder-stands = L.stands };
      }

  pub link-step : (c : LinkCall) → LinkBytes c → LinkStep S M c
  unfolding turn model.turn
  link-step (LinkCall.at_encoder c) b =
      let L = lift-encoder S.encoder M.encoder J.encoder-stands c b in
      record {
        call = model.encoder _;
        fine = fine-encoder M.encoder c b;
        tied = encoder-step M.encoder (encoder-forms S.encoder M.encoder J.encoder-stands) c b (encoder_result S.encoder c)
            (record { answer = L.answer; output = L.output });
        joined = record { encoder-stands = L.stands; decoder-stands = J.decoder-stands };
      }
  link-step (LinkCall.at_decoder n c) b = decoder-step n c b
  link-step (LinkCall.reset stream) b =
      record { call = model.LinkCall.reset stream; fine = tt; tied = record { step = reset stream; byte = refl; same = refl }; joined = J }

-- ---- lists of calls
pub record Run (S : Ends) (M : model.Ends) (cs : List LinkCall) : Type 0 where
  pub calls : List model.LinkCall
  pub fine : FineLinkCalls calls
  pub steps : List Step
  pub byte : bytes steps ≡ events S cs
  pub same : modelled steps ≡ model.events M calls

pub run : (S : Ends) (M : model.Ends) → Joined S M → (cs : List LinkCall) → AllLinkBytes cs → Run S M cs
unfolding events model.events
run S M J [] b = record { calls = []; fine = tt; steps = []; byte = refl; same = refl }
run S M J (c ∷ cs) b =
    let L = link-step S M J c b.0 in
    let R = run (turn S c).ends (model.turn M L.call).ends L.joined cs b.1 in
    record {
      calls = L.call ∷ R.calls;
      fine = (L.fine, R.fine);
      steps = L.tied.step ∷ R.steps;
      byte = ap₂ (λ (e : Event) (es : List Event). e ∷ es) L.tied.byte R.byte;
      same = ap₂ (λ (e : model.Event) (es : List model.Event). e ∷ es) L.tied.same R.same;
    }
