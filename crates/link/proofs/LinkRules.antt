-- A list of steps that keeps the link's rules on bytes keeps the model's.
-- Each of the model's events is that on bytes of the same step; reads are of whole instructions, blocks are read as what was written.
use mathlib.Core.Path.{◌≡◌, sym, ap, ◌∙◌, subst}
use mathlib.Core.Logic.{◌⊎◌, inl, inr}
use Prim.Native.Nat.{ℕ, ◌≤◌}
use native.Mathlib.Omega.{arith}
use mathlib.Core.Option.{some}
use mathlib.Core.List.Memᴰ
use mathlib.Core.List.{List, ◌∷◌, ◌++◌, Memᴰ}
use lib.ListN.{length}
use Rattle.integers.specs.Answers.{Answer}
use Rattle.fields.specs.Form.{list_form}
use Rattle.instructions.specs.Instruction.{Instruction, acknowledge}
use Rattle.instructions.specs.Reading.{read_for_decoder, read_for_encoder}
use Rattle.blocks.specs.Representation.{Representation}
use Rattle.blocks.specs.Reading.{block, read_block}
use Rattle.model.specs.Parts.{Closing, over, ended}
use Rattle.model.specs.Outcome.{Output}
use Rattle.model.specs.Events as events
use Rattle.model.specs.Events.{at}
use Rattle.model_laws.specs.Link as model
use Rattle.reply.specs.Result.{Result}
use Rattle.link.specs.Calls as calls
use Rattle.link.specs.Claims.{Event, Written, written_in, Accepted, NontrailersDone, Rules, Managed, Acknowledges}
-- what the rules refuse is shown before anything is shown from them
use Rattle.link.proofs.Steps.{Unreadable, Step, byte_of, model_of, bytes, modelled, OfferStep, ByteTold, byte-told, OfferedStep, ModelTold, model-told}
use Rattle.link.proofs.StepHistories.{alike, alike-model, alike-bytes}
use Rattle.link.proofs.StepBorders.{Split, split_steps, events-around, next-read, heard-next, acked-next, at-acknowledge}

-- ---- the other side of an event
pub told-by-bytes : (st : Step) (e : Event) → byte_of st ≡ e → ByteTold e (model_of st)
told-by-bytes st e q = subst (λ (x : Event). ByteTold x (model_of st)) q (byte-told st)

told-by-model : (st : Step) (m : events.Event) → model_of st ≡ m → ModelTold m (byte_of st)
told-by-model st m q = subst (λ (x : events.Event). ModelTold x (byte_of st)) q (model-told st)

-- ---- events that happened
module _ (xs : List Step) (n : ℕ) where
  accepted-bytes : model.Accepted n (modelled xs) → Accepted n (bytes xs)
  accepted-bytes d =
      let m = Memᴰ.of_map model_of xs d.when in
      let t = told-by-model m.0 _ m.2 in
      record {
        stream = d.stream;
        part = d.part;
        bytes = t.given;
        output = t.lent;
        result = t.result;
        done = ap (λ (a : Answer). a.number) t.answer-is ∙ d.done;
        when = subst (λ (e : Event). Memᴰ e (bytes xs)) t.is (Memᴰ.map byte_of m.1);
      }

  accepted-model : Accepted n (bytes xs) → model.Accepted n (modelled xs)
  accepted-model d = let m = Memᴰ.of_map byte_of xs d.when in go m.0 m.1 (told-by-bytes m.0 _ m.2)
    where
      go : (st : Step) → Memᴰ st xs
          → OfferStep n d.stream d.part d.bytes d.output d.result (model_of st) ⊎ Unreadable d.bytes d.result
          → model.Accepted n (modelled xs)
      go st m (inl t) = record {
        stream = d.stream;
        part = d.part;
        says = t.says;
        room = length d.output;
        answer = d.result.answer;
        output = t.output;
        done = d.done;
        when = subst (λ (e : events.Event). Memᴰ e (modelled xs)) t.is (Memᴰ.map model_of m);
      }
      go st m (inr u) = absurd (u.2 d.done)

module _ (xs : List Step) (s : ℕ) where
  reset-bytes : Memᴰ (events.Event.reset s) (modelled xs) → Memᴰ (Event.reset s) (bytes xs)
  reset-bytes w =
      let m = Memᴰ.of_map model_of xs w in
      subst (λ (e : Event). Memᴰ e (bytes xs)) (told-by-model m.0 _ m.2) (Memᴰ.map byte_of m.1)

  reset-model : Memᴰ (Event.reset s) (bytes xs) → Memᴰ (events.Event.reset s) (modelled xs)
  reset-model w =
      let m = Memᴰ.of_map byte_of xs w in
      subst (λ (e : events.Event). Memᴰ e (modelled xs)) (told-by-bytes m.0 _ m.2) (Memᴰ.map model_of m.1)

-- of the blocks written in ss, the non-trailer ones on the stream s were answered "done" in xs
nontrailers-model : (ss xs : List Step) (s : ℕ) → NontrailersDone (bytes ss) s (bytes xs) → model.NontrailersDone (modelled ss) s (modelled xs)
nontrailers-model ss xs s f n w h e z =
    let v = alike-bytes _ _ _ (alike ss) n w h in accepted-model xs n (f n v.0 v.1 (v.2.stream ∙ e) (v.2.part ∙ z))

-- ---- the rules
module _ (ss : List Step) (R : Rules (bytes ss)) where
  management : (xs ys : List events.Event) (i : Instruction) (n : ℕ) → modelled ss ≡ xs ++ (events.heard i n ∷ ys)
      → at (model.heard_in xs) (model.said_in xs) ≡ some i
  management xs ys i n q =
      let P = split_steps model_of ss xs (events.heard i n) ys q in
      let t = told-by-model P.step _ P.is in
      let w = heard-next ss R.management P.before P.step P.after P.whole t.which t.given t.result t.is in
      subst (λ (l : List events.Event). at (model.heard_in l) (model.said_in l) ≡ some i) P.front
      (next-read read_for_decoder Managed _ _ t.given t.result i t.tied w).0

  acknowledged : (xs ys : List events.Event) (i n : ℕ) → modelled ss ≡ xs ++ (events.acknowledged i n ∷ ys)
      → at (model.acknowledged_in xs) (model.freed_in xs) ≡ some i
  acknowledged xs ys i n q =
      let P = split_steps model_of ss xs (events.acknowledged i n) ys q in
      let t = told-by-model P.step _ P.is in
      let w = acked-next ss R.acknowledgements P.before P.step P.after P.whole t.given t.result t.is in
      subst (λ (l : List events.Event). at (model.acknowledged_in l) (model.freed_in l) ≡ some i) P.front
      (at-acknowledge (model.freed_in (modelled P.before)) _ i (next-read read_for_encoder Acknowledges _ _ t.given t.result (acknowledge i) t.tied w).0)

  module _ (xs ys : List events.Event) (n s part : ℕ) (rs : List Representation) (room : ℕ) (a : Answer) (o : Output)
      (q : modelled ss ≡ xs ++ (events.offered n s part rs room a o ∷ ys)) where
    offer-split : Split model_of ss xs (events.offered n s part rs room a o) ys
    offer-split = split_steps model_of ss xs (events.offered n s part rs room a o) ys q

    offer-told : OfferedStep n s part rs room a (byte_of offer-split.step)
    offer-told = told-by-model offer-split.step _ offer-split.is

    offer-around : bytes ss
        ≡ bytes offer-split.before ++ (Event.by_decoder n (calls.DecoderCall.block s part offer-told.given offer-told.lent) offer-told.result ∷ bytes offer-split.after)
    offer-around = events-around byte_of ss offer-split.before offer-split.step offer-split.after offer-split.whole _ offer-told.is

    unchanged : (w : model.Written) × (at n (model.written_in xs) ≡ some w) × (w.stream ≡ s) × (w.part ≡ part) × (w.says ≡ rs)
        × (length (list_form w.fields) ≤ room)
    unchanged =
        let P = offer-split in
        let t = offer-told in
        let u = R.unchanged (bytes P.before) (bytes P.after) n s part t.given t.lent t.result offer-around in
        let v = alike-model _ _ _ (alike P.before) n u.0 u.1 in
        let b = v.2 in
        let x : read_block t.given ≡ block v.0.says = ap read_block (sym u.4) ∙ b.reads in
        let y = t.reads in
        let z : v.0.says ≡ rs = cc in (
          v.0,
          subst (λ (l : List events.Event). at n (model.written_in l) ≡ some v.0) P.front v.1,
          sym b.stream ∙ u.2,
          sym b.part ∙ u.3,
          z,
          omega (arith, ap length b.list, t.room-is, u.5),
        )

    once : model.Accepted n xs → ⊥
    once d =
        let P = offer-split in
        let t = offer-told in
        R.once (bytes P.before) (bytes P.after) n s part t.given t.lent t.result offer-around
        (accepted-bytes P.before n (subst (model.Accepted n) (sym P.front) d))

    resets : Memᴰ (events.Event.reset s) xs → ⊥
    resets d =
        let P = offer-split in
        let t = offer-told in
        R.resets (bytes P.before) (bytes P.after) n s part t.given t.lent t.result offer-around
        (reset-bytes P.before s (subst (Memᴰ (events.Event.reset s)) (sym P.front) d))

  trailers : (xs ys : List events.Event) (n s : ℕ) (rs : List Representation) (room : ℕ) (a : Answer) (o : Output)
      → modelled ss ≡ xs ++ (events.offered n s 1 rs room a o ∷ ys) → model.NontrailersDone (modelled ss) s xs
  trailers xs ys n s rs room a o q =
      let P = offer-split xs ys n s 1 rs room a o q in
      let t = offer-told xs ys n s 1 rs room a o q in
      subst (model.NontrailersDone (modelled ss) s) P.front (nontrailers-model ss P.before s
      (R.trailers (bytes P.before) (bytes P.after) n s t.given t.lent t.result (offer-around xs ys n s 1 rs room a o q)))

  -- parts closed by the host
  module _ (xs ys : List events.Event) (k : Closing) (s : ℕ) (q : modelled ss ≡ xs ++ (events.told k s ∷ ys)) where
    close-split : Split model_of ss xs (events.told k s) ys
    close-split = split_steps model_of ss xs (events.told k s) ys q

    close-told : (n : ℕ) × (r : Result) × (r.answer.number ≡ 0) × (byte_of close-split.step ≡ Event.by_decoder n (calls.DecoderCall.close k s) r)
    close-told = told-by-model close-split.step _ close-split.is

    -- what a rule says on bytes, for every such event: A of those before it, or a reset. Where A gives B, it says B on the model's.
    close-rule : (A : List Event → Type 0) (B : List events.Event → Type 0)
        → ((xs ys : List Event) (n : ℕ) (r : Result) → bytes ss ≡ xs ++ (Event.by_decoder n (calls.DecoderCall.close k s) r ∷ ys) → r.answer.number ≡ 0
        → A xs ⊎ Memᴰ (Event.reset s) xs)
        → ((xs : List Step) → A (bytes xs) → B (modelled xs)) → B xs ⊎ Memᴰ (events.Event.reset s) xs
    close-rule A B rule f =
        let P = close-split in
        let t = close-told in
        go (rule (bytes P.before) (bytes P.after) t.0 t.1
        (events-around byte_of ss P.before P.step P.after P.whole _ t.3) t.2)
      where
        go : A (bytes close-split.before) ⊎ Memᴰ (Event.reset s) (bytes close-split.before) → B xs ⊎ Memᴰ (events.Event.reset s) xs
        go (inl a) = inl (subst B close-split.front (f close-split.before a))
        go (inr m) = inr (subst (Memᴰ (events.Event.reset s)) close-split.front (reset-model close-split.before s m))

  overs : (xs ys : List events.Event) (s : ℕ) → modelled ss ≡ xs ++ (events.told over s ∷ ys)
      → model.NontrailersDone (modelled ss) s xs ⊎ Memᴰ (events.Event.reset s) xs
  overs xs ys s q =
      close-rule xs ys over s q (NontrailersDone (bytes ss) s) (model.NontrailersDone (modelled ss) s)
      (λ xs ys n. R.overs xs ys n s) (λ xs. nontrailers-model ss xs s)

  ends : (xs ys : List events.Event) (s : ℕ) → modelled ss ≡ xs ++ (events.told ended s ∷ ys)
      → ((n : ℕ) (w : model.Written) → at n (model.written_in (modelled ss)) ≡ some w → w.stream ≡ s → model.Accepted n xs)
      ⊎ Memᴰ (events.Event.reset s) xs
  ends xs ys s q =
      close-rule xs ys ended s q
      (λ xs. (n : ℕ) (w : Written) → at n (written_in (bytes ss)) ≡ some w → w.stream ≡ s → Accepted n xs)
      (λ xs. (n : ℕ) (w : model.Written) → at n (model.written_in (modelled ss)) ≡ some w → w.stream ≡ s → model.Accepted n xs)
      (λ xs ys n. R.ends xs ys n s)
      (λ xs f n w h e. let v = alike-bytes _ _ _ (alike ss) n w h in accepted-model xs n (f n v.0 v.1 (v.2.stream ∙ e)))

  pub model-rules : model.AbstractRules (modelled ss)
  model-rules = record {
    management = management;
    acknowledgements = acknowledged;
    unchanged = unchanged;
    once = once;
    trailers = trailers;
    overs = overs;
    ends = ends;
    resets = resets;
  }
