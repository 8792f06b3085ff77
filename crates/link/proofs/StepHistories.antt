-- What a list of steps says is the same on bytes and in the model: the instructions and acknowledgements written, the slots held, the blocks.
-- By induction over the steps, from what ties the two sides of each.
use mathlib.Core.Path.{◌≡◌, refl, sym, ap, ap₂, ◌∙◌, subst}
use Prim.Native.Nat.{ℕ, zero, suc, ◌+◌}
use native.Mathlib.Omega.{arith}
use native.Mathlib.Nat.{add-zero}
use mathlib.Core.Bool.{Bool, true, false, ◌&&◌}
use mathlib.Core.Option.{some}
use mathlib.Core.List.{List, [], ◌∷◌, ◌++◌, map}
use lib.ListN.{length, length-append}
use lib.Seq.{append_snoc}
use lib.Dec.{eqb}
use Rattle.memory.specs.Bytes.{Has}
use Rattle.memory.specs.Choice.{pick}
use Rattle.memory.proofs.Places.{has_all}
use Rattle.memory.proofs.Order.{pick_true}
use Rattle.fields.specs.Form.{list_form}
use Rattle.instructions.specs.Instruction.{Instruction, insert, delete, acknowledge, FineIndex, Manages, instruction_wire}
use Rattle.instructions.specs.Reading.{read_for_decoder, read_for_encoder, instruction_of}
use Rattle.instructions.specs.declared.read.InstructionPlace.{InstructionPlace}
use Rattle.instructions.proofs.Back.{encoder-back}
use Rattle.instructions.proofs.Bounds.{decoder-good}
use Rattle.blocks.specs.Reading.{block, read_block}
use Rattle.model.specs.Happened.{Happened, inserted, done_by, after, held_by}
use Rattle.model.specs.Events.{at}
use Rattle.model_laws.specs.Link as model
use Rattle.model_laws.proofs.Tables.{nope}
use Rattle.model_laws.proofs.Linking.{at-end}
use Rattle.model_laws.proofs.HappenedLists.{after-append}
use Rattle.state_laws.proofs.Each.{Each}
use Rattle.reply.specs.Result.{Result}
use Rattle.link.specs.Calls.{EncoderCall, done_bytes}
use Rattle.link.specs.Calls as calls
use Rattle.link.specs.Happened.{happened}
use Rattle.link.specs.Claims.{Event, management_of, management_in, acknowledgements_in, acknowledged_of, Written, written_of, written_from, happened_of, happened_in, Managed, Acknowledges}
use Rattle.link.specs.Claims as claims
use Rattle.link.proofs.Wires.{wires, Border, border-start, border-more, border-next}
use Rattle.link.proofs.Steps.{Speaks, ReadAs, Step, said, wrote, acknowledged, heard, offered, freed, told, quiet, bytes, modelled}
use Rattle.link.proofs.Steps as steps
use Rattle.std.specs.Prelude.{Ok}
use Rattle.integers.specs.Answers.{Read, on_read}

-- ---- an insert or a delete on bytes
said-management : (c : EncoderCall) (r : Result) → Speaks c → management_of (Event.by_encoder c r) ≡ done_bytes r
said-management (calls.EncoderCall.insert name value out) r f = refl
said-management (calls.EncoderCall.delete index out) r f = refl
said-management (calls.EncoderCall.block stream part s out) r f = absurd f
said-management (calls.EncoderCall.acknowledge s) r f = absurd f

pub said-acknowledged : (c : EncoderCall) (r : Result) → Speaks c → acknowledged_of (Event.by_encoder c r) ≡ 0
said-acknowledged (calls.EncoderCall.insert name value out) r f = refl
said-acknowledged (calls.EncoderCall.delete index out) r f = refl
said-acknowledged (calls.EncoderCall.block stream part s out) r f = absurd f
said-acknowledged (calls.EncoderCall.acknowledge s) r f = absurd f

said-written : (c : EncoderCall) (r : Result) → Speaks c → (k : ℕ) → written_of k (Event.by_encoder c r) ≡ []
said-written (calls.EncoderCall.insert name value out) r f k = refl
said-written (calls.EncoderCall.delete index out) r f k = refl
said-written (calls.EncoderCall.block stream part s out) r f k = absurd f
said-written (calls.EncoderCall.acknowledge s) r f k = absurd f

-- ---- the bytes are the instructions, one after another
pub management-said : (ss : List Step) → management_in (bytes ss) ≡ wires (model.said_in (modelled ss))
unfolding management_in model.said_in wires
management-said [] = refl
management-said (said c r i f ∷ ss) =
    ap₂ (λ (l m : List ℕ). l ++ m) (said-management c r f.speaks ∙ f.bytes) (management-said ss)
management-said (wrote stream part s out r fs rs f ∷ ss) = management-said ss
management-said (acknowledged s r i f ∷ ss) = management-said ss
management-said (heard n s r i f ∷ ss) = management-said ss
management-said (offered n stream part s out r rs o f ∷ ss) = management-said ss
management-said (freed n out r i f e ∷ ss) = management-said ss
management-said (told n k stream r z ∷ ss) = management-said ss
management-said (steps.Step.reset stream ∷ ss) = management-said ss
management-said (quiet e q ∷ ss) = ap₂ (λ (l m : List ℕ). l ++ m) q.management (management-said ss)

pub acknowledgements-freed : (ss : List Step) → acknowledgements_in (bytes ss) ≡ wires (map acknowledge (model.freed_in (modelled ss)))
unfolding acknowledgements_in model.freed_in wires
acknowledgements-freed [] = refl
acknowledgements-freed (said c r i f ∷ ss) = acknowledgements-freed ss
acknowledgements-freed (wrote stream part s out r fs rs f ∷ ss) = acknowledgements-freed ss
acknowledgements-freed (acknowledged s r i f ∷ ss) = acknowledgements-freed ss
acknowledgements-freed (heard n s r i f ∷ ss) = acknowledgements-freed ss
acknowledgements-freed (offered n stream part s out r rs o f ∷ ss) = acknowledgements-freed ss
acknowledgements-freed (freed n out r i f e ∷ ss) = ap₂ (λ (l m : List ℕ). l ++ m) e (acknowledgements-freed ss)
acknowledgements-freed (told n k stream r z ∷ ss) = acknowledgements-freed ss
acknowledgements-freed (steps.Step.reset stream ∷ ss) = acknowledgements-freed ss
acknowledgements-freed (quiet e q ∷ ss) = ap₂ (λ (l m : List ℕ). l ++ m) q.acknowledgement (acknowledgements-freed ss)

-- ---- each can be said
pub each-said : (ss : List Step) → Each Managed (model.said_in (modelled ss))
unfolding model.said_in
each-said [] = tt
each-said (said c r i f ∷ ss) = ((f.manages, f.fine), each-said ss)
each-said (wrote stream part s out r fs rs f ∷ ss) = each-said ss
each-said (acknowledged s r i f ∷ ss) = each-said ss
each-said (heard n s r i f ∷ ss) = each-said ss
each-said (offered n stream part s out r rs o f ∷ ss) = each-said ss
each-said (freed n out r i f e ∷ ss) = each-said ss
each-said (told n k stream r z ∷ ss) = each-said ss
each-said (steps.Step.reset stream ∷ ss) = each-said ss
each-said (quiet e q ∷ ss) = each-said ss

pub each-freed : (ss : List Step) → Each Acknowledges (map acknowledge (model.freed_in (modelled ss)))
unfolding model.freed_in
each-freed [] = tt
each-freed (said c r i f ∷ ss) = each-freed ss
each-freed (wrote stream part s out r fs rs f ∷ ss) = each-freed ss
each-freed (acknowledged s r i f ∷ ss) = each-freed ss
each-freed (heard n s r i f ∷ ss) = each-freed ss
each-freed (offered n stream part s out r rs o f ∷ ss) = each-freed ss
each-freed (freed n out r i f e ∷ ss) = ((i, refl, f), each-freed ss)
each-freed (told n k stream r z ∷ ss) = each-freed ss
each-freed (steps.Step.reset stream ∷ ss) = each-freed ss
each-freed (quiet e q ∷ ss) = each-freed ss

-- ---- slots held

-- what an event did, before the later ones
held_next : (i : ℕ) (h : Bool) (e : Event) (es : List Event) (xs : List Happened) → happened_of e ≡ xs
    → after (held_by i) h (happened_in (e ∷ es)) ≡ after (held_by i) (after (held_by i) h xs) (happened_in es)
unfolding happened_in
held_next i h e es xs d = ap (λ (l : List Happened). after (held_by i) h (l ++ happened_in es)) d ∙ after-append (held_by i) h xs (happened_in es)

held_one : (i : ℕ) (h : Bool) (b : Bool) (j : Instruction) (n : ℕ) → Manages j → b ≡ eqb n 0 → after (held_by i) h (pick b (done_by j) []) ≡ model.held_by j n i h
unfolding after held_by
held_one i h b (insert j name value) n m e = pick-over b (eqb j i) h ∙ ap (λ (t : Bool). pick (t && eqb j i) true h) e
  where
    pick-over : (a c h : Bool) → after (held_by i) h (pick a (inserted j name value ∷ []) []) ≡ pick (a && eqb j i) true h
    pick-over true c h = refl
    pick-over false c h = refl
held_one i h true (delete j first last) n m e = refl
held_one i h false (delete j first last) n m e = refl
held_one i h b (acknowledge j) n m e = absurd m

on-found : (s : List ℕ) (q : Read InstructionPlace) (p : InstructionPlace) (taken : ℕ) (j : Instruction)
    → q ≡ Ok (p, taken) → instruction_of s p ≡ j → on_read (λ why. []) q (λ p taken. done_by (instruction_of s p)) ≡ done_by j
on-found s q p taken j e d = rw e (ap done_by d)

heard-did : (s : List ℕ) (r : Result) (j : Instruction) → ReadAs read_for_decoder s r j
    → happened (calls.DecoderCall.read s) r ≡ pick (eqb r.answer.number 0) (done_by j) []
unfolding happened
heard-did s r j f =
    ap (λ (l : List Happened). pick (eqb r.answer.number 0) l []) (on-found s (read_for_decoder s) f.place f.taken j f.found f.same)

heard-manages : (s : List ℕ) (r : Result) (j : Instruction) → ReadAs read_for_decoder s r j → Manages j
heard-manages s r j f = subst Manages f.same (decoder-good s f.place f.taken f.found).kind

freed-did : (out : List ℕ) (r : Result) (j : ℕ) → FineIndex j → done_bytes r ≡ instruction_wire (acknowledge j)
    → happened (calls.DecoderCall.collect out) r ≡ done_by (acknowledge j)
unfolding happened
freed-did out r j f e =
    let b : List ℕ = done_bytes r in
    let g = encoder-back b j f (subst (Has b 0) e (has_all b)) in
    on-found b (read_for_encoder b) g.0 (length (instruction_wire (acknowledge j))) (acknowledge j) g.1 g.2

pub held_same : (ss : List Step) (h : Bool) (i : ℕ) → after (held_by i) h (happened_in (bytes ss)) ≡ model.held_from h (modelled ss) i
unfolding happened_in happened after held_by model.held_from
held_same [] h i = refl
held_same (said c r j f ∷ ss) h i = held_same ss h i
held_same (wrote stream part s out r fs rs f ∷ ss) h i = held_same ss h i
held_same (acknowledged s r j f ∷ ss) h i = held_same ss h i
held_same (heard n s r j f ∷ ss) h i =
    held_next i h (Event.by_decoder n (calls.DecoderCall.read s) r) (bytes ss) _ (heard-did s r j f)
    ∙ ap (λ (t : Bool). after (held_by i) t (happened_in (bytes ss)))
    (held_one i h (eqb r.answer.number 0) j r.answer.number (heard-manages s r j f) refl)
    ∙ held_same ss (model.held_by j r.answer.number i h) i
held_same (offered n stream part s out r rs o f ∷ ss) h i = held_same ss h i
held_same (freed n out r j f e ∷ ss) h i =
    held_next i h (Event.by_decoder n (calls.DecoderCall.collect out) r) (bytes ss) _ (freed-did out r j f e)
    ∙ held_same ss (pick (eqb j i) false h) i
held_same (told n k stream r z ∷ ss) h i = held_same ss h i
held_same (steps.Step.reset stream ∷ ss) h i = held_same ss h i
held_same (quiet e q ∷ ss) h i = held_next i h e (bytes ss) [] q.happened ∙ held_same ss h i

-- ---- blocks written

-- a block on bytes and in the model; `is` are all instructions said, those before the block are its first ones
pub record SameBlock (is : List Instruction) (w : Written) (v : model.Written) : Type 0 where
  pub stream : w.stream ≡ v.stream
  pub part : w.part ≡ v.part
  pub list : list_form v.fields ≡ w.list
  pub reads : read_block w.bytes ≡ block v.says
  pub before : Border is v.before w.before

abbrev pub Alike : List Instruction → List Written → List model.Written → Type 0
Alike is [] [] = Unit {0}
Alike is [] (v ∷ vs) = ⊥
Alike is (w ∷ ws) [] = ⊥
Alike is (w ∷ ws) (v ∷ vs) = SameBlock is w v × Alike is ws vs

pub alike-model : (is : List Instruction) (ws : List Written) (vs : List model.Written) → Alike is ws vs → (n : ℕ) (w : Written) → at n ws ≡ some w
    → (v : model.Written) × (at n vs ≡ some v) × SameBlock is w v
unfolding at
alike-model is [] vs a n w e = nope (cc)
alike-model is (x ∷ ws) [] a n w e = absurd a
alike-model is (x ∷ ws) (v ∷ vs) a zero w e = let d : x ≡ w = cc in (v, refl, subst (λ (t : Written). SameBlock is t v) d a.0)
alike-model is (x ∷ ws) (v ∷ vs) a (suc n) w e = alike-model is ws vs a.1 n w e

pub alike-bytes : (is : List Instruction) (ws : List Written) (vs : List model.Written) → Alike is ws vs → (n : ℕ) (v : model.Written) → at n vs ≡ some v
    → (w : Written) × (at n ws ≡ some w) × SameBlock is w v
unfolding at
alike-bytes is ws [] a n v e = nope (cc)
alike-bytes is [] (y ∷ vs) a n v e = absurd a
alike-bytes is (w ∷ ws) (y ∷ vs) a zero v e = let d : y ≡ v = cc in (w, refl, subst (λ (t : model.Written). SameBlock is w t) d a.0)
alike-bytes is (w ∷ ws) (y ∷ vs) a (suc n) v e = alike-bytes is ws vs a.1 n v e

-- what an event adds before the later ones
from_next : (e : Event) (k : ℕ) (es : List Event) (b : List ℕ) (ws : List Written) → management_of e ≡ b → written_of k e ≡ ws
    → written_from k (e ∷ es) ≡ ws ++ written_from (k + length b) es
unfolding written_from
from_next e k es b ws m w = ap₂ (λ (l : List Written) (c : List ℕ). l ++ written_from (k + length c) es) w m

from-same : (e : Event) (k : ℕ) (es : List Event) (ws : List Written) → management_of e ≡ [] → written_of k e ≡ ws
    → written_from k (e ∷ es) ≡ ws ++ written_from k es
from-same e k es ws m w = from_next e k es [] ws m w ∙ ap (λ (n : ℕ). ws ++ written_from n es) (add-zero k)

-- the same of steps: after k bytes that are the instructions `is`, h in number
module _ (is : List Instruction) (h k : ℕ) (grown : length is ≡ h) (b : Border is h k) where
  longer : (i : Instruction) → length (is ++ (i ∷ [])) ≡ suc h
  longer i = omega (arith, length-append is (i ∷ []))

  further : (i : Instruction) → Border (is ++ (i ∷ [])) (suc h) (k + length (instruction_wire i))
  further i =
      let there : at h (is ++ (i ∷ [])) ≡ some i = ap (λ (n : ℕ). at n (is ++ (i ∷ []))) (sym grown) ∙ at-end is i in
      border-next (is ++ (i ∷ [])) h k i (border-more is (i ∷ []) h k b) there

alike-skip : (is : List Instruction) (k : ℕ) (e : Event) (es : List Event) (vs : List model.Written) → management_of e ≡ [] → written_of k e ≡ []
    → Alike is (written_from k es) vs → Alike is (written_from k (e ∷ es)) vs
alike-skip is k e es vs m w a = subst (λ (ws : List Written). Alike is ws vs) (sym (from-same e k es [] m w)) a

alike_from : (is : List Instruction) (h k : ℕ) → length is ≡ h → Border is h k → (ss : List Step)
    → Alike (is ++ model.said_in (modelled ss)) (written_from k (bytes ss)) (model.written_from h (modelled ss))
unfolding written_from model.written_from model.said_in
alike_from is h k g b [] = tt
alike_from is h k g b (said c r i f ∷ ss) =
    let e = from_next (Event.by_encoder c r) k (bytes ss) (instruction_wire i) [] (said-management c r f.speaks ∙ f.bytes) (said-written c r f.speaks k) in
    let vs = model.written_from (suc h) (modelled ss) in
    subst (λ (l : List Instruction). Alike l (written_from k (Event.by_encoder c r ∷ bytes ss)) vs) (append_snoc is i (model.said_in (modelled ss)))
    (subst (λ (ws : List Written). Alike ((is ++ (i ∷ [])) ++ model.said_in (modelled ss)) ws vs) (sym e)
    (alike_from (is ++ (i ∷ [])) (suc h) (k + length (instruction_wire i)) (longer is h k g b i) (further is h k g b i) ss))
alike_from is h k g b (wrote stream part s out r fs rs f ∷ ss) =
    let w : Written = record { stream = stream; part = part; list = s; bytes = done_bytes r; before = k } in
    let e : Event = Event.by_encoder (calls.EncoderCall.block stream part s out) r in
    let v : model.Written = record { stream = stream; part = part; says = rs; fields = fs; before = h } in
    let vs : List model.Written = v ∷ model.written_from h (modelled ss) in
    let z : eqb r.answer.number 0 ≡ true = rw f.done refl in
    let q : written_of k e ≡ w ∷ [] = pick_true (eqb r.answer.number 0) (w ∷ []) [] z in
    let is' = is ++ model.said_in (modelled ss) in
    subst (λ (ws : List Written). Alike is' ws vs) (sym (from-same e k (bytes ss) (w ∷ []) refl q)) (
      record { stream = refl; part = refl; list = f.list; reads = f.reads; before = border-more is (model.said_in (modelled ss)) h k b },
      alike_from is h k g b ss,
    )
alike_from is h k g b (acknowledged s r i f ∷ ss) =
    alike-skip _ k (Event.by_encoder (calls.EncoderCall.acknowledge s) r) (bytes ss) _ refl refl (alike_from is h k g b ss)
alike_from is h k g b (heard n s r i f ∷ ss) = alike-skip _ k (Event.by_decoder n (calls.DecoderCall.read s) r) (bytes ss) _ refl refl (alike_from is h k g b ss)
alike_from is h k g b (offered n stream part s out r rs o f ∷ ss) = alike-skip _ k (Event.by_decoder n (calls.DecoderCall.block stream part s out) r) (bytes ss) _ refl refl (alike_from is h k g b ss)
alike_from is h k g b (freed n out r i f e ∷ ss) = alike-skip _ k (Event.by_decoder n (calls.DecoderCall.collect out) r) (bytes ss) _ refl refl (alike_from is h k g b ss)
alike_from is h k g b (told n c stream r z ∷ ss) = alike-skip _ k (Event.by_decoder n (calls.DecoderCall.close c stream) r) (bytes ss) _ refl refl (alike_from is h k g b ss)
alike_from is h k g b (steps.Step.reset stream ∷ ss) = alike-skip _ k (Event.reset stream) (bytes ss) _ refl refl (alike_from is h k g b ss)
alike_from is h k g b (quiet e q ∷ ss) = alike-skip _ k e (bytes ss) _ q.management (q.written k) (alike_from is h k g b ss)

pub alike : (ss : List Step) → Alike (model.said_in (modelled ss)) (claims.written_in (bytes ss)) (model.written_in (modelled ss))
alike ss = alike_from [] 0 0 refl border-start ss
