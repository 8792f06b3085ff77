-- Request 8: which two calls of the decoder may change places; that the length alone counts of the output lent; and that a closing is idempotent.
-- On memory that forms no state every call is refused and changes nothing. On memory that forms one, blocks and closings leave it with other marks laid over it:
-- the calls look at marks that the other leaves alone, so each answers and writes the same; and both orders lay the same marks, over the same memory.
use mathlib.Core.Path.{◌≡◌, refl, sym, ap, subst, ◌∙◌}
use Prim.Native.Nat.{ℕ}
use mathlib.Core.Bool.{true, false}
use mathlib.Core.List.{List, [], ◌∷◌}
use lib.ListN.{length}
use Rattle.memory.specs.Bytes.{Small, overlay}
use Rattle.memory.proofs.Order.{either}
use Rattle.integers.specs.Answers.{Answer}
use Rattle.model.specs.Parts.{Marks, Closing}
use Rattle.model.specs.Outcome.{Outcome, output_bytes}
use Rattle.model.specs.Decoder.{Decoder, with_finished}
use Rattle.model_laws.proofs.Answers.{decoder_refused}
use Rattle.state.specs.DecoderState.{decoder_of, overlay_decoder}
use Rattle.state.specs.Forms.{forms_decoder}
use Rattle.state_laws.proofs.DecoderLaws.{decoder-laws}
use Rattle.reply.specs.Result.{Result, stepped}
use Rattle.link.specs.Calls.{DecoderCall, decoder_result, decoder_lent, decoder_after, done_bytes}
use Rattle.link.specs.Calls as calls
use Rattle.link.specs.Histories.{finished_by}
use Rattle.link_further.specs.Order.{Alike, EitherWay, apart, SameWritten, OrderClaim}
use Rattle.link.proofs.Lifted.{decoder_call_of, StandsDecoder}
use Rattle.link.proofs.StatesKept.{SmallDecoderCall, KeptDecoder, kept-decoder}
use Rattle.link.proofs.DecoderLifting.{fine-decoder, block-bytes, stands-over, long-decoder, kept-self-decoder, same-decoder}
use Rattle.link.proofs.DoneBytes.{done-bytes}
use Rattle.link.proofs.Writes.{block-tells}
use Rattle.link.proofs.Answers.{no-decoder}
use Rattle.link_further.proofs.OrderMarks.{marks-over, marks-swap, marks-answer}
use Rattle.link_further.proofs.OrderCalls.{outcome, Marking, SameFor, apart-sym, apart-marking, apart-same, Told, told, same-told, next_marks, room-outcome}
use Rattle.link_further.proofs.OrderAgain.{Again, closed-again}

-- ---- memory that forms no state
module _ (m : List ℕ) (unformed : forms_decoder m ≡ false) where
  stays : (c : DecoderCall) → (decoder_result m c).memory ≡ m
  stays c = ap (λ (r : Result). r.memory) (no-decoder m unformed c)

  refused-both : (c d : DecoderCall) → EitherWay m c d
  refused-both c d = record {
    one = record {
      answer = ap (λ (l : List ℕ). (decoder_result l c).answer) (sym (stays d));
      output = ap (λ (l : List ℕ). (decoder_result l c).output) (sym (stays d));
    };
    other = record {
      answer = ap (λ (l : List ℕ). (decoder_result l d).answer) (stays c);
      output = ap (λ (l : List ℕ). (decoder_result l d).output) (stays c);
    };
    memory = ap (λ (l : List ℕ). (decoder_result l d).memory) (stays c) ∙ stays d
        ∙ sym (ap (λ (l : List ℕ). (decoder_result l c).memory) (stays d) ∙ stays c);
  }

  refused-room : (s part : ℕ) (b out lent : List ℕ)
      → SameWritten (decoder_result m (calls.DecoderCall.block s part b out)) (decoder_result m (calls.DecoderCall.block s part b lent))
  refused-room s part b out lent =
      let c : DecoderCall = calls.DecoderCall.block s part b out in
      let d : DecoderCall = calls.DecoderCall.block s part b lent in
      record {
        answer = ap (λ (r : Result). r.answer) (no-decoder m unformed c) ∙ sym (ap (λ (r : Result). r.answer) (no-decoder m unformed d));
        memory = stays c ∙ sym (stays d);
        written = ap done_bytes (no-decoder m unformed c) ∙ sym (ap done_bytes (no-decoder m unformed d));
      }

  stays_after : (cs : List DecoderCall) → decoder_after m cs ≡ m
  unfolding decoder_after
  stays_after [] = refl
  stays_after (c ∷ cs) = ap (λ (l : List ℕ). decoder_after l cs) (stays c) ∙ stays_after cs

  refused-again : (k : Closing) (s : ℕ) (cs : List DecoderCall) → Again m k s cs
  refused-again k s cs =
      let c : DecoderCall = calls.DecoderCall.close k s in
      let l : List ℕ = decoder_after (decoder_result m c).memory cs in
      let e : l ≡ m = ap (λ (x : List ℕ). decoder_after x cs) (stays c) ∙ stays_after cs in
      no-decoder l (ap forms_decoder e ∙ unformed) c
      ∙ ap (λ (a : Answer). record { answer = a; memory = l; output = [] }) (sym (ap (λ (r : Result). r.answer) (no-decoder m unformed c)))

-- ---- memory that forms one

-- a block or a closing brings no string
marking-bytes : (X : Decoder) (c : DecoderCall) → Marking c → SmallDecoderCall (decoder_call_of X c)
unfolding decoder_call_of
marking-bytes X (calls.DecoderCall.read s) k = absurd k
marking-bytes X (calls.DecoderCall.block s part b out) k = block-bytes X s part b out
marking-bytes X (calls.DecoderCall.close j s) k = tt
marking-bytes X (calls.DecoderCall.collect out) k = absurd k
marking-bytes X (calls.DecoderCall.hold index) k = absurd k

module _ (m : List ℕ) (small : Small m) (forms : forms_decoder m ≡ true) where
  abbrev D : Decoder
  D = decoder_of m

  -- what a call shows beside memory
  abbrev shows : DecoderCall → Told → Result
  shows c t = record { answer = t.answer; memory = m; output = overlay (decoder_lent c) 0 (output_bytes t.output) }

  -- l is m with the marks f laid over it
  record Marked (l : List ℕ) (f : Marks) : Type 0 where
    is : l ≡ overlay_decoder (with_finished D f) m
    kept : KeptDecoder (with_finished D f)

  at_first : Marked m D.finished
  at_first = record { is = sym (decoder-laws.self m small forms); kept = kept-self-decoder m small forms }

  -- what a call answers and writes there, and the marks after it
  module _ (l : List ℕ) (f : Marks) (M : Marked l f) where
    stands : StandsDecoder l (with_finished D f)
    stands = subst (λ (x : List ℕ). StandsDecoder x (with_finished D f)) (sym M.is)
        (stands-over (with_finished D f) m small (long-decoder m small forms) M.kept)

    steps : (c : DecoderCall) → decoder_result l c ≡ stepped overlay_decoder l (decoder_lent c) (outcome (with_finished D f) c)
    steps c =
        let S = stands in
        same-decoder l S.small S.forms c
        ∙ ap (λ (X : Decoder). stepped overlay_decoder l (decoder_lent c) (outcome X c)) S.state

    tells : (c : DecoderCall) → Alike (decoder_result l c) (shows c (told (outcome (with_finished D f) c)))
    unfolding stepped
    tells c = record { answer = ap (λ (r : Result). r.answer) (steps c); output = ap (λ (r : Result). r.output) (steps c) }

    next : (c : DecoderCall) → Marking c → Marked (decoder_result l c).memory (finished_by f c (decoder_result l c))
    unfolding stepped
    next c k =
        let F : Decoder = with_finished D f in
        let r : Result = decoder_result l c in
        let after : Marks = finished_by f c r in
        let e : (outcome F c).state ≡ with_finished D after = next_marks F c k r (tells c).answer in
        let K : KeptDecoder (with_finished D after) =
        subst KeptDecoder e (kept-decoder F M.kept (decoder_call_of F c) (fine-decoder F c) (marking-bytes F c k)) in
        record {
          is = ap (λ (x : Result). x.memory) (steps c) ∙ ap (λ (X : Decoder). overlay_decoder X l) e
              ∙ ap (overlay_decoder (with_finished D after)) M.is ∙ marks-over D f after K.fits m;
          kept = K;
        }

  -- a block or a closing answers and writes the same with marks that it does not tell apart
  alike : (l : List ℕ) (f : Marks) → Marked l f → (k : List ℕ) (g : Marks) → Marked k g → (c : DecoderCall) → SameFor c f g
      → Alike (decoder_result l c) (decoder_result k c)
  alike l f M k g N c same =
      let a = tells l f M c in
      let b = tells k g N c in
      let e = same-told D f g c same in
      record {
        answer = a.answer ∙ ap (λ (t : Told). t.answer) e ∙ sym b.answer;
        output = a.output ∙ ap (λ (t : Told). overlay (decoder_lent c) 0 (output_bytes t.output)) e ∙ sym b.output;
      }

  -- memory with the same marks laid over it is the same
  laid_same : (l k : List ℕ) (f g : Marks) → Marked l f → Marked k g → f ≡ g → l ≡ k
  laid_same l k f g M N e = M.is ∙ ap (λ (x : Marks). overlay_decoder (with_finished D x) m) e ∙ sym N.is

  moved-both : (c d : DecoderCall) → apart c d ≡ true → EitherWay m c d
  moved-both c d h =
      let f : Marks = D.finished in
      let r : Result = decoder_result m c in
      let q : Result = decoder_result m d in
      let fc : Marks = finished_by f c r in
      let fd : Marks = finished_by f d q in
      let back : apart d c ≡ true = apart-sym c d h in
      let marks-c : Marking c = apart-marking c d h in
      let marks-d : Marking d = apart-marking d c back in
      let C : Marked r.memory fc = next m f at_first c marks-c in
      let E : Marked q.memory fd = next m f at_first d marks-d in
      let one = alike q.memory fd E m f at_first c (apart-same c d h f q) in
      let other = alike r.memory fc C m f at_first d (apart-same d c back f r) in
      let q' : Result = decoder_result r.memory d in
      let r' : Result = decoder_result q.memory c in
      record {
        one = record { answer = sym one.answer; output = sym one.output };
        other = other;
        memory = laid_same q'.memory r'.memory (finished_by fc d q') (finished_by fd c r')
            (next r.memory fc C d marks-d) (next q.memory fd E c marks-c)
            (marks-answer fc d q' q other.answer ∙ marks-swap f c r d q ∙ marks-answer fd c r r' (sym one.answer));
      }

  -- a block's outcome is a matter of the room; its answer, its state and its bytes are what the call leaves
  module _ (s part : ℕ) (b : List ℕ) where
    abbrev offered : List ℕ → DecoderCall
    offered out = calls.DecoderCall.block s part b out

    given : (out : List ℕ) → decoder_result m (offered out) ≡ stepped overlay_decoder m out (outcome D (offered out))
    given out = same-decoder m small forms (offered out)

    writes : (out : List ℕ) → done_bytes (decoder_result m (offered out)) ≡ output_bytes (outcome D (offered out)).output
    unfolding stepped
    writes out =
        done-bytes D (outcome D (offered out)) out (decoder_result m (offered out)) (ap (λ (r : Result). r.answer) (given out))
        (ap (λ (r : Result). r.output) (given out)) (decoder_refused D (decoder_call_of D (offered out))) (block-tells D s part b out)

    same-room : (out lent : List ℕ) → length out ≡ length lent → SameWritten (decoder_result m (offered out)) (decoder_result m (offered lent))
    unfolding stepped
    same-room out lent same =
        let e : outcome D (offered out) ≡ outcome D (offered lent) = room-outcome D s part b out lent same in
        record {
          answer = ap (λ (r : Result). r.answer) (given out) ∙ ap (λ (o : Outcome Decoder). o.answer) e ∙ sym (ap (λ (r : Result). r.answer) (given lent));
          memory = ap (λ (r : Result). r.memory) (given out) ∙ ap (λ (o : Outcome Decoder). overlay_decoder o.state m) e
              ∙ sym (ap (λ (r : Result). r.memory) (given lent));
          written = writes out ∙ ap (λ (o : Outcome Decoder). output_bytes o.output) e ∙ sym (writes lent);
        }

pub order-claim : OrderClaim
order-claim = record {
  either_way = λ m small c d h. either (forms_decoder m) (λ e. moved-both m small e c d h) (λ e. refused-both m e c d);
  room_alone = λ m small s part b out lent same.
      either (forms_decoder m) (λ e. same-room m small e s part b out lent same) (λ e. refused-room m e s part b out lent);
  again = λ m small k s cs bytes. either (forms_decoder m) (λ e. closed-again m small e k s cs bytes) (λ e. refused-again m e k s cs);
}
