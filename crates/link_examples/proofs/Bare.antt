-- The test of the rules sees no memory: it answers the same of events and of what is shown of them.
-- What an event says is a matter of its call, its answer and the bytes written, and these are shown.
use mathlib.Core.Path.{◌≡◌, refl, sym, ap, ap₂, fun_ext, ◌∙◌}
use Prim.Native.Nat.{ℕ, zero, suc, ◌+◌}
use mathlib.Core.Bool.{Bool, true, false, ◌&&◌, ◌||◌}
use mathlib.Core.List.{List, [], ◌∷◌, ◌++◌, map, map-map, map-append}
use lib.ListN.{length, take, drop}
use lib.Dec.{eqb}
use Rattle.memory.specs.Choice.{pick}
use Rattle.integers.specs.Answers.{Answer}
use Rattle.reply.specs.Result.{Result}
use Rattle.link.specs.Calls.{DecoderCall, EncoderCall, done_bytes}
use Rattle.link.specs.Calls as calls
use Rattle.link.specs.Claims.{LinkCall, Event, by_encoder, by_decoder, read_by}
use Rattle.link.specs.Claims.{management_of, management_in, read_of, read_in, acknowledgement_of, acknowledgements_in, acknowledged_of, acknowledged_in}
use Rattle.link.specs.Claims.{Written, written_of, written_from, written_in}
use Rattle.link_examples.specs.Examples.{Shown, call, shown}
use Rattle.link_examples.proofs.ListTests.{any}
use Rattle.link_examples.proofs.RulesCheck.{is_accepted, is_done, is_reset, Past, past, keeps_event, keeps_from, keeps, keeps_so_far}

-- ---- an event from what is shown of it: with no memory, and with no more output than was written
abbrev bare_result : Answer → List ℕ → Result
bare_result a b = record { answer = a; memory = []; output = b }

abbrev bare_call : LinkCall → Result → Event
bare_call (LinkCall.at_encoder c) r = by_encoder c r
bare_call (LinkCall.at_decoder n c) r = by_decoder n c r
bare_call (LinkCall.reset stream) r = Event.reset stream

abbrev pub bare : Shown → Event
bare (call c a b) = bare_call c (bare_result a b)
bare (Shown.reset stream) = Event.reset stream

-- ---- one event

-- what a result is shown to have written, it has written
take_again : (n : ℕ) (l : List ℕ) → take n (take n l) ≡ take n l
take_again zero l = refl
take_again (suc n) [] = refl
take_again (suc n) (x ∷ l) = ap {B = List ℕ} (λ r. x ∷ r) (take_again n l)

done-again : (r : Result) → done_bytes (bare_result r.answer (done_bytes r)) ≡ done_bytes r
done-again r = go (eqb r.answer.number 0)
  where
    go : (b : Bool) → pick b (take r.answer.first (pick b (take r.answer.first r.output) [])) [] ≡ pick b (take r.answer.first r.output) []
    go true = take_again r.answer.first r.output
    go false = refl

-- all that the test looks at
record Says : Type 0 where
  pub management : List ℕ
  pub read : ℕ
  pub acknowledgement : List ℕ
  pub acknowledged : ℕ
  pub written : ℕ → List Written
  pub done : ℕ → Bool
  pub reset : ℕ → Bool

abbrev says : Event → Says
says e = record {
  management = management_of e;
  read = read_of e;
  acknowledgement = acknowledgement_of e;
  acknowledged = acknowledged_of e;
  written = λ k. written_of k e;
  done = λ n. is_done n e;
  reset = λ t. is_reset t e;
}

-- an event that only writes: management bytes, acknowledgements, a block
abbrev only : List ℕ → List ℕ → (ℕ → List Written) → Says
only management acknowledgement written = record {
  management = management;
  read = 0;
  acknowledgement = acknowledgement;
  acknowledged = 0;
  written = written;
  done = λ n. false;
  reset = λ t. false;
}

-- the block that a call wrote after k management bytes, with the bytes b
abbrev block_at : ℕ → ℕ → List ℕ → Result → List ℕ → ℕ → List Written
block_at stream part s r b k = pick (eqb r.answer.number 0) (record { stream = stream; part = part; list = s; bytes = b; before = k } ∷ []) []

-- the event that is made of what is shown of one
abbrev again : Event → Event
again e = bare (shown e)

-- it says the same, and passes where the other does
alike-write : (c : EncoderCall) (r : Result) → says (again (by_encoder c r)) ≡ says (by_encoder c r)
alike-write (calls.EncoderCall.insert name value out) r = ap (λ (b : List ℕ). only b [] (λ k. [])) (done-again r)
alike-write (calls.EncoderCall.delete index out) r = ap (λ (b : List ℕ). only b [] (λ k. [])) (done-again r)
alike-write (calls.EncoderCall.block stream part s out) r = ap (λ (b : List ℕ). only [] [] (block_at stream part s r b)) (done-again r)
alike-write (calls.EncoderCall.acknowledge s) r = refl

-- an event at the decoder: bytes read, an acknowledgement, a block answered "done"
abbrev only_read : ℕ → DecoderCall → Result → List ℕ → Says
only_read n c r acknowledgement = record {
  management = [];
  read = read_by c r;
  acknowledgement = acknowledgement;
  acknowledged = 0;
  written = λ k. [];
  done = λ m. eqb n m && is_accepted c r;
  reset = λ t. false;
}

alike_read : (n : ℕ) (c : DecoderCall) (r : Result) → says (again (by_decoder n c r)) ≡ says (by_decoder n c r)
alike_read n (calls.DecoderCall.read s) r = refl
alike_read n (calls.DecoderCall.block stream part s out) r = refl
alike_read n (calls.DecoderCall.close k stream) r = refl
alike_read n (calls.DecoderCall.collect out) r = ap (only_read n (calls.DecoderCall.collect out) r) (done-again r)
alike_read n (calls.DecoderCall.hold index) r = refl

alike : (e : Event) → says (again e) ≡ says e
alike (by_encoder c r) = alike-write c r
alike (by_decoder n c r) = alike_read n c r
alike (Event.reset stream) = refl

same-read-event : (ever : List Written) (P : Past) (n : ℕ) (c : DecoderCall) (r : Result)
    → keeps_event ever P (again (by_decoder n c r)) ≡ keeps_event ever P (by_decoder n c r)
same-read-event ever P n (calls.DecoderCall.read s) r = refl
same-read-event ever P n (calls.DecoderCall.block stream part s out) r = refl
same-read-event ever P n (calls.DecoderCall.close k stream) r = refl
same-read-event ever P n (calls.DecoderCall.collect out) r = refl
same-read-event ever P n (calls.DecoderCall.hold index) r = refl

same-event : (ever : List Written) (P : Past) (e : Event) → keeps_event ever P (again e) ≡ keeps_event ever P e
same-event ever P (by_encoder c r) = refl
same-event ever P (by_decoder n c r) = same-read-event ever P n c r
same-event ever P (Event.reset stream) = refl

-- ---- lists of events
same-management : (xs : List Event) → management_in (map again xs) ≡ management_in xs
unfolding management_in
same-management [] = refl
same-management (x ∷ xs) = ap₂ ◌++◌ (ap (λ (s : Says). s.management) (alike x)) (same-management xs)

same_read : (xs : List Event) → read_in (map again xs) ≡ read_in xs
unfolding read_in
same_read [] = refl
same_read (x ∷ xs) = ap₂ ◌+◌ (ap (λ (s : Says). s.read) (alike x)) (same_read xs)

same-acknowledgements : (xs : List Event) → acknowledgements_in (map again xs) ≡ acknowledgements_in xs
unfolding acknowledgements_in
same-acknowledgements [] = refl
same-acknowledgements (x ∷ xs) = ap₂ ◌++◌ (ap (λ (s : Says). s.acknowledgement) (alike x)) (same-acknowledgements xs)

same-acknowledged : (xs : List Event) → acknowledged_in (map again xs) ≡ acknowledged_in xs
unfolding acknowledged_in
same-acknowledged [] = refl
same-acknowledged (x ∷ xs) = ap₂ ◌+◌ (ap (λ (s : Says). s.acknowledged) (alike x)) (same-acknowledged xs)

same-written : (k : ℕ) (xs : List Event) → written_from k (map again xs) ≡ written_from k xs
unfolding written_from
same-written k [] = refl
same-written k (x ∷ xs) =
    ap₂ ◌++◌ (ap (λ (s : Says). s.written k) (alike x))
    (same-written (k + length (management_of (again x))) xs
    ∙ ap (λ (s : Says). written_from (k + length s.management) xs) (alike x))

same-accepted : (n : ℕ) (xs : List Event) → any (is_done n) (map again xs) ≡ any (is_done n) xs
same-accepted n [] = refl
same-accepted n (x ∷ xs) = ap₂ ◌||◌ (ap (λ (s : Says). s.done n) (alike x)) (same-accepted n xs)

same-reset : (t : ℕ) (xs : List Event) → any (is_reset t) (map again xs) ≡ any (is_reset t) xs
same-reset t [] = refl
same-reset t (x ∷ xs) = ap₂ ◌||◌ (ap (λ (s : Says). s.reset t) (alike x)) (same-reset t xs)

same-past : (xs : List Event) → past (map again xs) ≡ past xs
unfolding past
same-past xs =
    let m = ap₂ drop (same_read xs) (same-management xs) in
    let a = ap₂ drop (same-acknowledged xs) (same-acknowledgements xs) in
    let w = same-written 0 xs in
    let d = fun_ext (λ n. same-accepted n xs) in
    let r = fun_ext (λ t. same-reset t xs) in
    cc

-- ---- the test
module _ (ever-bare ever : List Event → List Written) (same-ever : (xs : List Event) → ever-bare (map again xs) ≡ ever xs) where
  same_from : (before es : List Event) → keeps_from ever-bare (map again before) (map again es) ≡ keeps_from ever before es
  same_from before [] = refl
  same_from before (e ∷ es) =
      ap₂ ◌&&◌ (ap₂ (λ (w : List Written) (P : Past). keeps_event w P (again e)) (same-ever before) (same-past before) ∙ same-event (ever before) (past before) e)
      (ap (λ (l : List Event). keeps_from ever-bare l (map again es)) (sym (map-append again before (e ∷ []))) ∙ same_from (before ++ (e ∷ [])) es)

pub same-keeps : (es : List Event) → keeps (map bare (map shown es)) ≡ keeps es
unfolding keeps
same-keeps es = rw (map-map bare shown es) (same_from (λ xs. written_in (map again es)) (λ xs. written_in es) (λ xs. same-written 0 es) [] es)

pub same-so-far : (es : List Event) → keeps_so_far (map bare (map shown es)) ≡ keeps_so_far es
unfolding keeps_so_far
same-so-far es = rw (map-map bare shown es) (same_from (λ xs. written_in xs) (λ xs. written_in xs) (same-written 0) [] es)

-- ---- what events say is said by what is shown of them
module _ (xs : List Event) (t : List Shown) (e : map shown xs ≡ t) where
  again-is : map again xs ≡ map bare t
  again-is = sym (map-map bare shown xs) ∙ ap (map bare) e

  pub written-shown : written_in xs ≡ written_in (map bare t)
  written-shown = sym (same-written 0 xs) ∙ ap (λ (l : List Event). written_in l) again-is

  pub accepted-shown : (n : ℕ) → any (is_done n) xs ≡ any (is_done n) (map bare t)
  accepted-shown n = sym (same-accepted n xs) ∙ ap (any (is_done n)) again-is

  pub reset-shown : (s : ℕ) → any (is_reset s) xs ≡ any (is_reset s) (map bare t)
  reset-shown s = sym (same-reset s xs) ∙ ap (any (is_reset s)) again-is
