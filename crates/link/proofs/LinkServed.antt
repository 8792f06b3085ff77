-- What the model's claim says of a list of steps that keeps the rules holds on bytes.
-- An offered block was written, so that it reads as what was said; fewer bytes are fewer instructions; a slot is held on both sides.
use mathlib.Core.Path.{◌≡◌, sym, ap, ◌∙◌, subst}
use mathlib.Core.Logic.{◌⊎◌, inl, inr}
use Prim.Native.Nat.{ℕ, ◌<◌}
use mathlib.Core.Bool.{false}
use mathlib.Core.Option.{some}
use mathlib.Core.List.{List, ◌∷◌, ◌++◌}
use lib.ListN.{length}
use Rattle.fields.specs.Form.{list_form}
use Rattle.instructions.specs.Instruction.{Instruction}
use Rattle.instructions.specs.Reading.{read_for_decoder, read_for_encoder}
use Rattle.blocks.specs.Representation.{Representation}
use Rattle.blocks.specs.Reading.{block, read_block}
use Rattle.blocks.specs.Meaning.{Refers}
use Rattle.model.specs.Outcome.{Output, output_bytes}
use Rattle.model.specs.Outcome as outcome
use Rattle.model.specs.Events.{at}
use Rattle.model_laws.specs.Link as model
use Rattle.model_laws.proofs.Tables.{nope}
use Rattle.reply.specs.Result.{Result}
use Rattle.link.specs.Calls as calls
use Rattle.link.specs.Claims.{Event, Written, written_in, held_after, Rules, Names, Managed, Acknowledges, Cut, ServedBlock, Served}
use Rattle.link.proofs.Wires.{Whole, Ends, border-order}
use Rattle.link.proofs.Steps.{Misread, Unreadable, Step, byte_of, model_of, bytes, modelled, HeardAs, AcknowledgedAs, OfferStep}
use Rattle.link.proofs.StepHistories.{held_same, SameBlock, alike, alike-model}
use Rattle.link.proofs.StepBorders.{Split, split_steps, events-around, heard-border, heard-next, acked-next}
use Rattle.link.proofs.LinkRules.{told-by-bytes}
use Rattle.integers.specs.Answers.{Read, number_of}
use Rattle.instructions.specs.declared.read.InstructionPlace.{InstructionPlace}
use Rattle.integers.specs.declared.answer.Refusal.TheVariants.{Truncated}

fields-bytes : (o : Output) (v : model.Written) → o ≡ outcome.fields v.fields → output_bytes o ≡ list_form v.fields
unfolding output_bytes
fields-bytes o v e = ap output_bytes e

-- bytes that are refused, of the whole next instruction or of a cut one
cut-answer : (reads : List ℕ → Read InstructionPlace) (Says : Instruction → Type 0) (is : List Instruction) (h : ℕ) (s : List ℕ) (r : Result) → Misread reads s r
    → Whole reads is h s ⊎ Ends reads Says s → (r.answer.number ≡ 2) × Cut Says s
cut-answer reads Says is h s r f (inl w) = let a = f.1 in let b = w.found in nope (cc)
cut-answer reads Says is h s r f (inr e) = let a = f.1 in let b = e.0 in let z : f.0 ≡ Truncated = cc in (f.2 ∙ ap number_of z, e.1)

module _ (ss : List Step) (R : Rules (bytes ss)) (M : model.AbstractServed (modelled ss)) where
  -- ---- an offered block
  module _ (xs : List Step) (st : Step) (ys : List Step) (q : ss ≡ xs ++ (st ∷ ys)) (n s part : ℕ) (b out : List ℕ) (r : Result)
      (is : byte_of st ≡ Event.by_decoder n (calls.DecoderCall.block s part b out) r) (w : Written) (found : at n (written_in (bytes xs)) ≡ some w) where
    -- the block in the model
    said : (v : model.Written) × (at n (model.written_in (modelled xs)) ≡ some v) × SameBlock (model.said_in (modelled xs)) w v
    said = alike-model _ _ _ (alike xs) n w found

    same_bytes : w.bytes ≡ b
    same_bytes =
        let u = R.unchanged (bytes xs) (bytes ys) n s part b out r (events-around byte_of ss xs st ys q _ is) in
        let f = u.1 in
        let e : w ≡ u.0 = cc in
        ap (λ (x : Written). x.bytes) e ∙ u.4

    served : OfferStep n s part b out r (model_of st) → ServedBlock (bytes xs) w r
    served t = record {
      no_fault = B.no_fault;
      right = λ z. t.tied.written z ∙ fields-bytes t.output v (B.right z) ∙ same.list;
      waits = (λ z. waiting (B.waits.0 z), λ e. B.waits.1 (waited e));
      prompt = λ h. B.prompt (border-order _ _ _ _ _ same.before (heard-border ss R.management xs (st ∷ ys) q) h);
    }
      where
        v : model.Written
        v = said.0

        same : SameBlock (model.said_in (modelled xs)) w v
        same = said.2

        B : model.AbstractServedBlock (modelled xs) v r.answer t.output
        B = M.blocks (modelled xs) (modelled ys) n s part t.says (length out) r.answer t.output (events-around model_of ss xs st ys q _ t.is) v said.1

        waiting : ((i : ℕ) × (61 < i) × Refers v.says i × (model.held_after (modelled xs) i ≡ false))
            → (i : ℕ) × (61 < i) × Names w.bytes i × (held_after (bytes xs) i ≡ false)
        waiting e = (e.0, e.1, (v.says, same.reads, e.2), held_same xs false e.0 ∙ e.3)

        waited : ((i : ℕ) × (61 < i) × Names w.bytes i × (held_after (bytes xs) i ≡ false))
            → (i : ℕ) × (61 < i) × Refers v.says i × (model.held_after (modelled xs) i ≡ false)
        waited e =
            let a = same.reads in
            let k = e.2.1 in
            let z : e.2.0 ≡ v.says = cc in
            (e.0, e.1, subst (λ (rs : List Representation). Refers rs e.0) z e.2.2, sym (held_same xs false e.0) ∙ e.3)

    offered : OfferStep n s part b out r (model_of st) ⊎ Unreadable b r → ServedBlock (bytes xs) w r
    offered (inl t) = served t
    offered (inr u) =
        let a : read_block b ≡ block said.0.says = ap read_block (sym same_bytes) ∙ said.2.reads in
        let k = u.1 in
        nope (cc)

  blocks : (xs ys : List Event) (n s part : ℕ) (b out : List ℕ) (r : Result) → bytes ss ≡ xs ++ (Event.by_decoder n (calls.DecoderCall.block s part b out) r ∷ ys)
      → (w : Written) → at n (written_in xs) ≡ some w → ServedBlock xs w r
  blocks xs ys n s part b out r q w found =
      let P = split_steps byte_of ss xs (Event.by_decoder n (calls.DecoderCall.block s part b out) r) ys q in
      let f : at n (written_in (bytes P.before)) ≡ some w = ap (λ (l : List Event). at n (written_in l)) P.front ∙ found in
      subst (λ (l : List Event). ServedBlock l w r) P.front
      (offered P.before P.step P.after P.whole n s part b out r P.is w f (told-by-bytes P.step _ P.is))

  -- ---- reads
  management : (xs ys : List Event) (n : ℕ) (s : List ℕ) (r : Result) → bytes ss ≡ xs ++ (Event.by_decoder n (calls.DecoderCall.read s) r ∷ ys)
      → (r.answer.number ≡ 0) ⊎ ((r.answer.number ≡ 2) × Cut Managed s)
  management xs ys n s r q = go (told-by-bytes P.step _ P.is)
    where
      P : Split byte_of ss xs (Event.by_decoder n (calls.DecoderCall.read s) r) ys
      P = split_steps byte_of ss xs (Event.by_decoder n (calls.DecoderCall.read s) r) ys q

      go : HeardAs s r (model_of P.step) ⊎ Misread read_for_decoder s r → (r.answer.number ≡ 0) ⊎ ((r.answer.number ≡ 2) × Cut Managed s)
      go (inl t) =
          inl (M.management (modelled P.before) (modelled P.after) t.0 r.answer.number
          (events-around model_of ss P.before P.step P.after P.whole _ t.2))
      go (inr f) =
          inr (cut-answer read_for_decoder Managed _ _ s r f (heard-next ss R.management P.before P.step P.after P.whole n s r P.is))

  acknowledgements : (xs ys : List Event) (s : List ℕ) (r : Result) → bytes ss ≡ xs ++ (Event.by_encoder (calls.EncoderCall.acknowledge s) r ∷ ys)
      → (r.answer.number ≡ 0) ⊎ ((r.answer.number ≡ 2) × Cut Acknowledges s)
  acknowledgements xs ys s r q = go (told-by-bytes P.step _ P.is)
    where
      P : Split byte_of ss xs (Event.by_encoder (calls.EncoderCall.acknowledge s) r) ys
      P = split_steps byte_of ss xs (Event.by_encoder (calls.EncoderCall.acknowledge s) r) ys q

      go : AcknowledgedAs s r (model_of P.step) ⊎ Misread read_for_encoder s r → (r.answer.number ≡ 0) ⊎ ((r.answer.number ≡ 2) × Cut Acknowledges s)
      go (inl t) =
          inl (M.acknowledgements (modelled P.before) (modelled P.after) t.0 r.answer.number
          (events-around model_of ss P.before P.step P.after P.whole _ t.2))
      go (inr f) =
          inr (cut-answer read_for_encoder Acknowledges _ _ s r f (acked-next ss R.acknowledgements P.before P.step P.after P.whole s r P.is))

  pub served-bytes : Served (bytes ss)
  served-bytes = record { blocks = blocks; management = management; acknowledgements = acknowledgements }
