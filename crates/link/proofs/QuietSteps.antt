-- Calls in which nothing happened: refused, or of no consequence. And what a result's bytes are, by what the model's call answers and writes.
use mathlib.Core.Path.{◌≡◌, refl, ap, ◌∙◌, subst}
use Prim.Native.Nat.{ℕ, ◌≤◌}
use native.Mathlib.Omega.{arith}
use mathlib.Core.Bool.{false}
use mathlib.Core.List.{List, []}
use lib.ListN.{length, take}
use lib.Dec.{T, eqb}
use borrow.Author.Tests.{ne_eqb}
use Rattle.memory.specs.Bytes.{overlay}
use Rattle.memory.proofs.Order.{pick-false}
use Rattle.memory.proofs.Places.{has-overlay, has_part}
use Rattle.integers.specs.Answers.{Answer, done, among}
use Rattle.integers.proofs.Told.{One}
use Rattle.instructions.specs.Reading.{read_for_decoder, read_for_encoder}
use Rattle.instructions.proofs.Equations.{encoder-empty}
use Rattle.model.specs.Parts.{Closing}
use Rattle.model.specs.Outcome.{Outcome, output_bytes}
use Rattle.model.specs.Events as model
use Rattle.reply.specs.Result.{Result}
use Rattle.link.specs.Calls.{EncoderCall, done_bytes, done_count}
use Rattle.link.specs.Calls as calls
use Rattle.link.specs.Happened.{managed, acknowledged, happened}
use Rattle.link.specs.Claims.{Event}
use Rattle.link.proofs.Steps.{Speaks, Misread, Unreadable, Quiet, Step, quiet, byte_of, model_of}

-- a step with these two events
pub record TiedStep (e : Event) (m : model.Event) : Type 0 where
  pub step : Step
  pub byte : byte_of step ≡ e
  pub same : model_of step ≡ m

pub idle-step : (e : Event) → Quiet e → TiedStep e model.quiet
idle-step e q = record { step = quiet e q; byte = refl; same = refl }

-- a result that is what the model's call gives, over the lent output
pub record Left {S : Type 0} (r : Result) (out : List ℕ) (o : Outcome S) : Type 0 where
  pub answer : r.answer ≡ o.answer
  pub output : r.output ≡ overlay out 0 (output_bytes o.output)

-- ---- the bytes of a result
pub done_none : (r : Result) → eqb r.answer.number 0 ≡ false → done_bytes r ≡ []
done_none r z = pick-false (eqb r.answer.number 0) (take r.answer.first r.output) [] z

count_none : (r : Result) → eqb r.answer.number 0 ≡ false → done_count r ≡ 0
count_none r z = pick-false (eqb r.answer.number 0) r.answer.first 0 z

pub done-told : (r : Result) (out b : List ℕ) → length b ≤ length out → r.answer.number ≡ 0 → r.answer.first ≡ length b
    → r.output ≡ overlay out 0 b → done_bytes r ≡ b
done-told r out b h z f o = rw (z, f, o) (has_part (overlay out 0 b) 0 b (has-overlay out 0 b (omega arith)))

pub done-some : (r : Result) (out b : List ℕ) (second : ℕ) → length b ≤ length out → r.answer ≡ done (length b) second → r.output ≡ overlay out 0 b
    → done_bytes r ≡ b
done-some r out b second h a o = done-told r out b h (ap (λ (x : Answer). x.number) a) (ap (λ (x : Answer). x.first) a) o

-- a number of a reading's refusal is not 0
pub refuses-some : (ns : List ℕ) → among ns 0 ≡ false → (n : ℕ) → One ns n → n ≡ 0 → ⊥
refuses-some ns e n f z = absurd (subst T (ap (among ns) z ∙ e) f)

pub refused-number : (r : Result) → (r.answer.number ≡ 0 → ⊥) → eqb r.answer.number 0 ≡ false
refused-number r f = ne_eqb r.answer.number 0 f

-- ---- quiet events
pub quiet-speech : (c : EncoderCall) (r : Result) → Speaks c → done_bytes r ≡ [] → Quiet (Event.by_encoder c r)
quiet-speech (calls.EncoderCall.insert name value out) r s d =
    record { management = d; read = refl; acknowledgement = refl; acknowledged = refl; written = λ k. refl; happened = refl; idle = tt }
quiet-speech (calls.EncoderCall.delete index out) r s d =
    record { management = d; read = refl; acknowledgement = refl; acknowledged = refl; written = λ k. refl; happened = refl; idle = tt }
quiet-speech (calls.EncoderCall.block stream part s out) r f d = absurd f
quiet-speech (calls.EncoderCall.acknowledge s) r f d = absurd f

pub quiet-block : (stream part : ℕ) (s out : List ℕ) (r : Result) → eqb r.answer.number 0 ≡ false
    → Quiet (Event.by_encoder (calls.EncoderCall.block stream part s out) r)
quiet-block stream part s out r z = record {
  management = refl;
  read = refl;
  acknowledgement = refl;
  acknowledged = refl;
  written = λ k. pick-false (eqb r.answer.number 0) _ [] z;
  happened = refl;
  idle = tt;
}

pub quiet-acknowledgement : (s : List ℕ) (r : Result) → Misread read_for_encoder s r → Quiet (Event.by_encoder (calls.EncoderCall.acknowledge s) r)
quiet-acknowledgement s r f = record {
  management = refl;
  read = refl;
  acknowledgement = refl;
  acknowledged = count_none r (refused-number r f.3);
  written = λ k. refl;
  happened = refl;
  idle = f;
}

-- an instruction that was refused did nothing
misread-nothing : (s : List ℕ) (r : Result) → (r.answer.number ≡ 0 → ⊥) → happened (calls.DecoderCall.read s) r ≡ []
unfolding happened
misread-nothing s r f = pick-false (eqb r.answer.number 0) (managed s) [] (refused-number r f)

pub quiet_read : (n : ℕ) (s : List ℕ) (r : Result) → Misread read_for_decoder s r → Quiet (Event.by_decoder n (calls.DecoderCall.read s) r)
quiet_read n s r f = record {
  management = refl;
  read = count_none r (refused-number r f.3);
  acknowledgement = refl;
  acknowledged = refl;
  written = λ k. refl;
  happened = misread-nothing s r f.3;
  idle = f;
}

pub quiet-offer : (n stream part : ℕ) (s out : List ℕ) (r : Result) → Unreadable s r → Quiet (Event.by_decoder n (calls.DecoderCall.block stream part s out) r)
unfolding happened
quiet-offer n stream part s out r f =
    record { management = refl; read = refl; acknowledgement = refl; acknowledged = refl; written = λ k. refl; happened = refl; idle = f }

pub quiet-closed : (n : ℕ) (k : Closing) (stream : ℕ) (r : Result) → (r.answer.number ≡ 0 → ⊥) → Quiet (Event.by_decoder n (calls.DecoderCall.close k stream) r)
unfolding happened
quiet-closed n k stream r f =
    record { management = refl; read = refl; acknowledgement = refl; acknowledged = refl; written = λ j. refl; happened = refl; idle = f }

none-acknowledged : (b : List ℕ) → b ≡ [] → acknowledged b ≡ []
none-acknowledged b e = rw (e, encoder-empty [] (omega arith)) refl

pub quiet-collect : (n : ℕ) (out : List ℕ) (r : Result) → done_bytes r ≡ [] → Quiet (Event.by_decoder n (calls.DecoderCall.collect out) r)
unfolding happened
quiet-collect n out r d = record {
  management = refl;
  read = refl;
  acknowledgement = d;
  acknowledged = refl;
  written = λ k. refl;
  happened = none-acknowledged (done_bytes r) d;
  idle = tt;
}

pub quiet-enquiry : (n index : ℕ) (r : Result) → Quiet (Event.by_decoder n (calls.DecoderCall.hold index) r)
unfolding happened
quiet-enquiry n index r =
    record { management = refl; read = refl; acknowledgement = refl; acknowledged = refl; written = λ k. refl; happened = refl; idle = tt }
