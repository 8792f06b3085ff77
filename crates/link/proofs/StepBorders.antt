-- Along a list of steps whose reads get the other end's unread bytes, what was read so far ends between two instructions; so each read gets the whole
-- next instruction at its front, or ends inside one. By induction over the steps so far.
use mathlib.Core.Path.{◌≡◌, refl, sym, ap, ap₂, ◌∙◌, subst}
use mathlib.Core.Logic.{◌⊎◌, inl, inr}
use Prim.Native.Nat.{ℕ, zero, suc, ◌+◌}
use native.Mathlib.Omega.{arith}
use native.Mathlib.Nat.{add-zero}
use mathlib.Core.Option.{some}
use mathlib.Core.List.{List, [], ◌∷◌, ◌++◌, append-nil, nil≢cons, head-eq_of_cons-eq, tail-eq_of_cons-eq, map, map-append}
use lib.ListN.{length, drop}
use lib.Seq.{append_snoc}
use lib.Dec.{eqb}
use borrow.Author.Tests.{eqb-true}
use Rattle.memory.specs.Choice.{pick}
use Rattle.memory.proofs.Order.{either, pick_true, pick-false}
use Rattle.instructions.specs.Instruction.{Instruction, acknowledge, instruction_wire}
use Rattle.instructions.specs.Reading.{read_for_decoder, read_for_encoder, instruction_of}
use Rattle.model.specs.Events.{at}
use Rattle.model_laws.specs.Link as model
use Rattle.model_laws.proofs.Tables.{nope}
use Rattle.model_laws.proofs.Linking.{said-append, freed-append, heard-append, acknowledged-append}
use Rattle.reply.specs.Result.{Result}
use Rattle.link.specs.Calls as calls
use Rattle.link.specs.Claims.{Event, management_in, read_of, read_in, acknowledgements_in, acknowledged_of, acknowledged_in, MayRead, Managed, Acknowledges}
use Rattle.link.proofs.Wires.{Border, border-start, border-more, border-next, Whole, Ends, beginning}
use Rattle.link.proofs.Wires.{for-decoder, for-encoder}
use Rattle.link.proofs.Steps.{ReadAs, Step, said, wrote, acknowledged, heard, offered, freed, told, quiet, byte_of, model_of, bytes, modelled}
use Rattle.link.proofs.Steps as steps
use Rattle.link.proofs.StepHistories.{said-acknowledged, management-said, acknowledgements-freed, each-said, each-freed}
use Rattle.integers.specs.Answers.{Read}
use Rattle.instructions.specs.declared.read.InstructionPlace.{InstructionPlace}

-- ---- a list of steps and its lists of events

-- where an event stands among the steps, or among whatever else the events are made of
pub record Split {A X : Type 0} (f : A → X) (ss : List A) (xs : List X) (e : X) (ys : List X) : Type 0 where
  pub before : List A
  pub step : A
  pub after : List A
  pub whole : ss ≡ before ++ (step ∷ after)
  pub front : map f before ≡ xs
  pub is : f step ≡ e

pub split_steps : {A X : Type 0} (f : A → X) (ss : List A) (xs : List X) (e : X) (ys : List X) → map f ss ≡ xs ++ (e ∷ ys) → Split f ss xs e ys
split_steps f [] [] e ys q = absurd (nil≢cons q)
split_steps f [] (x ∷ xs) e ys q = absurd (nil≢cons q)
split_steps f (s ∷ ss) [] e ys q =
    record { before = []; step = s; after = ss; whole = refl; front = refl; is = head-eq_of_cons-eq q }
split_steps {A} {X} f (s ∷ ss) (x ∷ xs) e ys q =
    let r = split_steps f ss xs e ys (tail-eq_of_cons-eq q) in
    record {
      before = s ∷ r.before;
      step = r.step;
      after = r.after;
      whole = ap (λ (l : List A). s ∷ l) r.whole;
      front = ap₂ (λ (y : X) (l : List X). y ∷ l) (head-eq_of_cons-eq q) r.front;
      is = r.is;
    }

-- the events around a step's
pub events-around : {X : Type 0} (f : Step → X) (ss xs : List Step) (st : Step) (ys : List Step) → ss ≡ xs ++ (st ∷ ys) → (e : X) → f st ≡ e
    → map f ss ≡ map f xs ++ (e ∷ map f ys)
events-around {X} f ss xs st ys q e d = ap (map f) q ∙ map-append f xs (st ∷ ys) ∙ ap (λ (x : X). map f xs ++ (x ∷ map f ys)) d

-- what every step keeps holds of every beginning
module _ (P : List Step → Type 0) (ss : List Step)
    (keeps : (xs : List Step) (st : Step) (ys : List Step) → ss ≡ xs ++ (st ∷ ys) → P xs → P (xs ++ (st ∷ []))) where
  along-from : (xs us ys : List Step) → ss ≡ xs ++ (us ++ ys) → P xs → P (xs ++ us)
  along-from xs [] ys q p = subst P (sym (append-nil xs)) p
  along-from xs (u ∷ us) ys q p =
      subst P (append_snoc xs u us)
      (along-from (xs ++ (u ∷ [])) us ys (q ∙ sym (append_snoc xs u (us ++ ys))) (keeps xs u (us ++ ys) q p))

  along : P [] → (xs ys : List Step) → ss ≡ xs ++ ys → P xs
  along p xs ys q = along-from [] xs ys q p

-- ---- how far a step reads: not at all, or the next instruction
abbrev Moves : List Instruction → ℕ → ℕ → ℕ → Type 0
Moves is h n b = ((n ≡ 0) × (b ≡ 0)) ⊎ ((i : Instruction) × (at h is ≡ some i) × (n ≡ 1) × (b ≡ length (instruction_wire i)))

border-moves : (is : List Instruction) (h k n b : ℕ) → Border is h k → Moves is h n b → Border is (h + n) (k + b)
border-moves is h k n b B (inl m) = rw (m.0, m.1, add-zero h, add-zero k) B
border-moves is h k n b B (inr m) =
    let e : suc h ≡ h + n = omega (arith, m.2) in
    subst (λ (t : ℕ). Border is t (k + b)) e
    (subst (λ (t : ℕ). Border is (suc h) (k + t)) (sym m.3) (border-next is h k m.0 B m.1))

-- more may be said, and as much be read
border-step : (is js ks : List Instruction) (h k n b h' k' : ℕ) → ks ≡ is ++ js → h' ≡ h + n → k' ≡ k + b → Border is h k → Moves is h n b → Border ks h' k'
border-step is js ks h k n b h' k' l x y B m = rw (l, x, y) (border-more is js (h + n) (k + b) (border-moves is h k n b B m))

-- a read of the whole next instruction reads that one
pub next-read : (reads : List ℕ → Read InstructionPlace) (Says : Instruction → Type 0) (is : List Instruction) (h : ℕ) (s : List ℕ) (r : Result) (i : Instruction)
    (f : ReadAs reads s r i) → Whole reads is h s ⊎ Ends reads Says s → (at h is ≡ some i) × (f.taken ≡ length (instruction_wire i))
next-read reads Says is h s r i f (inl w) =
    let a = f.found in
    let b = w.found in
    let q : (w.place, length (instruction_wire w.next)) ≡ (f.place, f.taken) = cc in
    let p = ap (λ (x : InstructionPlace × ℕ). x.0) q in
    let t = sym (ap (λ (x : InstructionPlace × ℕ). x.1) q) in
    let n : w.next ≡ i = sym w.same ∙ ap (instruction_of s) p ∙ f.same in
    (w.there ∙ ap some n, t ∙ ap (λ (j : Instruction). length (instruction_wire j)) n)
next-read reads Says is h s r i f (inr e) = let a = f.found in let b = e.0 in nope (cc)

read-moves : (reads : List ℕ → Read InstructionPlace) (Says : Instruction → Type 0) (is : List Instruction) (h : ℕ) (s : List ℕ) (r : Result) (i : Instruction)
    → ReadAs reads s r i → Whole reads is h s ⊎ Ends reads Says s
    → Moves is h (pick (eqb r.answer.number 0) 1 0 + 0) (pick (eqb r.answer.number 0) r.answer.first 0)
read-moves reads Says is h s r i f w =
    let z = eqb r.answer.number 0 in
    let n = next-read reads Says is h s r i f w in
    either z
    (λ e. inr (
      i,
      n.0,
      ap (λ (t : ℕ). t + 0) (pick_true z 1 0 e),
      pick_true z r.answer.first 0 e ∙ f.told (eqb-true r.answer.number 0 e) ∙ n.1,
    ))
    (λ e. inl (ap (λ (t : ℕ). t + 0) (pick-false z 1 0 e), pick-false z r.answer.first 0 e))

-- ---- management
read-snoc : (es : List Event) (e : Event) → read_in (es ++ (e ∷ [])) ≡ read_in es + read_of e
unfolding read_in
read-snoc [] e = omega arith
read-snoc (x ∷ es) e = omega (arith, read-snoc es e)

module _ (is : List Instruction) (h : ℕ) where
  heard-moves : (st : Step) → ((n : ℕ) (s : List ℕ) (r : Result) → byte_of st ≡ Event.by_decoder n (calls.DecoderCall.read s) r → Whole read_for_decoder is h s ⊎ Ends read_for_decoder Managed s)
      → Moves is h (model.heard_in (model_of st ∷ [])) (read_of (byte_of st))
  unfolding model.heard_in
  heard-moves (said c r i f) w = inl (refl, refl)
  heard-moves (wrote stream part s out r fs rs f) w = inl (refl, refl)
  heard-moves (acknowledged s r i f) w = inl (refl, refl)
  heard-moves (heard n s r i f) w = read-moves read_for_decoder Managed is h s r i f (w n s r refl)
  heard-moves (offered n stream part s out r rs o f) w = inl (refl, refl)
  heard-moves (freed n out r i f e) w = inl (refl, refl)
  heard-moves (told n k stream r z) w = inl (refl, refl)
  heard-moves (steps.Step.reset stream) w = inl (refl, refl)
  heard-moves (quiet e q) w = inl (refl, q.read)

module _ (ss : List Step) (rule : (xs ys : List Event) (n : ℕ) (s : List ℕ) (r : Result)
    → bytes ss ≡ xs ++ (Event.by_decoder n (calls.DecoderCall.read s) r ∷ ys) → MayRead (management_in xs) (read_in xs) s) where
  abbrev Heard : List Step → Type 0
  Heard xs = Border (model.said_in (modelled xs)) (model.heard_in (modelled xs)) (read_in (bytes xs))

  heard-whole : (xs : List Step) (st : Step) (ys : List Step) → ss ≡ xs ++ (st ∷ ys) → Heard xs → (n : ℕ) (s : List ℕ) (r : Result)
      → byte_of st ≡ Event.by_decoder n (calls.DecoderCall.read s) r
      → Whole read_for_decoder (model.said_in (modelled xs)) (model.heard_in (modelled xs)) s ⊎ Ends read_for_decoder Managed s
  heard-whole xs st ys q B n s r e =
      let g = rule (bytes xs) (bytes ys) n s r (events-around byte_of ss xs st ys q _ e) in
      beginning read_for_decoder Managed for-decoder (model.said_in (modelled xs)) (model.heard_in (modelled xs)) (read_in (bytes xs)) (each-said xs) B s g.0
      (ap (drop (read_in (bytes xs))) (sym (management-said xs)) ∙ g.1)

  heard-keeps : (xs : List Step) (st : Step) (ys : List Step) → ss ≡ xs ++ (st ∷ ys) → Heard xs → Heard (xs ++ (st ∷ []))
  heard-keeps xs st ys q B =
      let m = map-append model_of xs (st ∷ []) in
      border-step (model.said_in (modelled xs)) (model.said_in (model_of st ∷ [])) _ (model.heard_in (modelled xs)) (read_in (bytes xs))
      (model.heard_in (model_of st ∷ [])) (read_of (byte_of st)) _ _
      (ap model.said_in m ∙ said-append (modelled xs) (model_of st ∷ []))
      (ap model.heard_in m ∙ heard-append (modelled xs) (model_of st ∷ []))
      (ap read_in (map-append byte_of xs (st ∷ [])) ∙ read-snoc (bytes xs) (byte_of st))
      B (heard-moves (model.said_in (modelled xs)) (model.heard_in (modelled xs)) st (heard-whole xs st ys q B))

  heard-start : Heard []
  unfolding model.said_in model.heard_in read_in
  heard-start = border-start

  pub heard-border : (xs ys : List Step) → ss ≡ xs ++ ys → Heard xs
  heard-border = along Heard ss heard-keeps heard-start

  -- what a read gets
  pub heard-next : (xs : List Step) (st : Step) (ys : List Step) → ss ≡ xs ++ (st ∷ ys) → (n : ℕ) (s : List ℕ) (r : Result)
      → byte_of st ≡ Event.by_decoder n (calls.DecoderCall.read s) r
      → Whole read_for_decoder (model.said_in (modelled xs)) (model.heard_in (modelled xs)) s ⊎ Ends read_for_decoder Managed s
  heard-next xs st ys q = heard-whole xs st ys q (heard-border xs (st ∷ ys) q)

-- ---- acknowledgements
acknowledged-snoc : (es : List Event) (e : Event) → acknowledged_in (es ++ (e ∷ [])) ≡ acknowledged_in es + acknowledged_of e
unfolding acknowledged_in
acknowledged-snoc [] e = omega arith
acknowledged-snoc (x ∷ es) e = omega (arith, acknowledged-snoc es e)

-- the acknowledgements that were written
abbrev pub acknowledgements : List Step → List Instruction
acknowledgements xs = map acknowledge (model.freed_in (modelled xs))

module _ (is : List Instruction) (h : ℕ) where
  acknowledged-moves : (st : Step)
      → ((s : List ℕ) (r : Result) → byte_of st ≡ Event.by_encoder (calls.EncoderCall.acknowledge s) r → Whole read_for_encoder is h s ⊎ Ends read_for_encoder Acknowledges s)
      → Moves is h (model.acknowledged_in (model_of st ∷ [])) (acknowledged_of (byte_of st))
  unfolding model.acknowledged_in
  acknowledged-moves (said c r i f) w = inl (refl, said-acknowledged c r f.speaks)
  acknowledged-moves (wrote stream part s out r fs rs f) w = inl (refl, refl)
  acknowledged-moves (acknowledged s r i f) w = read-moves read_for_encoder Acknowledges is h s r (acknowledge i) f (w s r refl)
  acknowledged-moves (heard n s r i f) w = inl (refl, refl)
  acknowledged-moves (offered n stream part s out r rs o f) w = inl (refl, refl)
  acknowledged-moves (freed n out r i f e) w = inl (refl, refl)
  acknowledged-moves (told n k stream r z) w = inl (refl, refl)
  acknowledged-moves (steps.Step.reset stream) w = inl (refl, refl)
  acknowledged-moves (quiet e q) w = inl (refl, q.acknowledged)

module _ (ss : List Step) (rule : (xs ys : List Event) (s : List ℕ) (r : Result) → bytes ss ≡ xs ++ (Event.by_encoder (calls.EncoderCall.acknowledge s) r ∷ ys)
    → MayRead (acknowledgements_in xs) (acknowledged_in xs) s) where
  abbrev Acked : List Step → Type 0
  Acked xs = Border (acknowledgements xs) (model.acknowledged_in (modelled xs)) (acknowledged_in (bytes xs))

  acked-whole : (xs : List Step) (st : Step) (ys : List Step) → ss ≡ xs ++ (st ∷ ys) → Acked xs → (s : List ℕ) (r : Result)
      → byte_of st ≡ Event.by_encoder (calls.EncoderCall.acknowledge s) r
      → Whole read_for_encoder (acknowledgements xs) (model.acknowledged_in (modelled xs)) s ⊎ Ends read_for_encoder Acknowledges s
  acked-whole xs st ys q B s r e =
      let g = rule (bytes xs) (bytes ys) s r (events-around byte_of ss xs st ys q _ e) in
      beginning read_for_encoder Acknowledges for-encoder (acknowledgements xs) (model.acknowledged_in (modelled xs)) (acknowledged_in (bytes xs))
      (each-freed xs) B s g.0 (ap (drop (acknowledged_in (bytes xs))) (sym (acknowledgements-freed xs)) ∙ g.1)

  acked-keeps : (xs : List Step) (st : Step) (ys : List Step) → ss ≡ xs ++ (st ∷ ys) → Acked xs → Acked (xs ++ (st ∷ []))
  acked-keeps xs st ys q B =
      let m = map-append model_of xs (st ∷ []) in
      border-step (acknowledgements xs) (map acknowledge (model.freed_in (model_of st ∷ []))) _ (model.acknowledged_in (modelled xs)) (acknowledged_in (bytes xs))
      (model.acknowledged_in (model_of st ∷ [])) (acknowledged_of (byte_of st)) _ _
      (ap (map acknowledge) (ap model.freed_in m ∙ freed-append (modelled xs) (model_of st ∷ []))
      ∙ map-append acknowledge (model.freed_in (modelled xs)) (model.freed_in (model_of st ∷ [])))
      (ap model.acknowledged_in m ∙ acknowledged-append (modelled xs) (model_of st ∷ []))
      (ap acknowledged_in (map-append byte_of xs (st ∷ [])) ∙ acknowledged-snoc (bytes xs) (byte_of st))
      B (acknowledged-moves (acknowledgements xs) (model.acknowledged_in (modelled xs)) st (acked-whole xs st ys q B))

  acked-start : Acked []
  unfolding model.freed_in model.acknowledged_in acknowledged_in
  acked-start = border-start

  -- what a read of an acknowledgement gets
  pub acked-next : (xs : List Step) (st : Step) (ys : List Step) → ss ≡ xs ++ (st ∷ ys) → (s : List ℕ) (r : Result)
      → byte_of st ≡ Event.by_encoder (calls.EncoderCall.acknowledge s) r
      → Whole read_for_encoder (acknowledgements xs) (model.acknowledged_in (modelled xs)) s ⊎ Ends read_for_encoder Acknowledges s
  acked-next xs st ys q = acked-whole xs st ys q (along Acked ss acked-keeps acked-start xs (st ∷ ys) q)

-- the index that the next acknowledgement names
pub at-acknowledge : (l : List ℕ) (h i : ℕ) → at h (map acknowledge l) ≡ some (acknowledge i) → at h l ≡ some i
unfolding at
at-acknowledge [] h i e = nope (cc)
at-acknowledge (j ∷ l) zero i e = let d : j ≡ i = cc in ap some d
at-acknowledge (j ∷ l) (suc h) i e = at-acknowledge l h i e
