-- What memory that forms a decoder's state gives to a call: the laws of its changes, and what a step of the model leaves of it.
-- By the claims of `table_laws` and `state_laws`.
use mathlib.Core.Path.{◌≡◌, refl, sym, ap, ◌∙◌}
use Prim.Native.Nat.{ℕ, ◌≤◌}
use native.Mathlib.Omega.{arith}
use mathlib.Core.Bool.{true}
use mathlib.Core.List.{List, []}
use lib.ListN.{length}
use Rattle.memory.specs.Bytes.{Small}
use Rattle.integers.specs.Answers.{Answer, done, refusal}
use Rattle.model.specs.Outcome.{nothing, Outcome, refuse, finish}
use Rattle.model.specs.Decoder.{Decoder}
use Rattle.state.specs.Layout.{decoder_length, limit_of}
use Rattle.state.specs.DecoderState.{decoder_of, overlay_decoder}
use Rattle.state.specs.Forms.{forms_decoder}
use Rattle.state_laws.proofs.DecoderForms.{forms-holds-decoder}
use Rattle.state_laws.proofs.DecoderLaws.{decoder-laws}
use Rattle.table_laws.specs.DecoderChanges.{DecoderChanges}
use Rattle.table_laws.proofs.DecoderClaim.{decoder-claim}
use Rattle.reply.specs.Result.{Result, refused, stepped}

-- bytes that form a state
pub record Stands (m : List ℕ) : Type 0 where
  pub small : Small m
  pub forms : forms_decoder m ≡ true

-- what a slice lends forms a state where the test says so
pub formed : (m : List ℕ) → forms_decoder m ≡ true → Small m → Stands m
formed m f s = record { small = s; forms = f }

-- what a call says and leaves
pub record Leaves (r : Result) (a : Answer) (after : List ℕ) : Type 0 where
  pub answer : a ≡ r.answer
  pub memory : after ≡ r.memory

-- the same of a call that is another's
pub same : {r t : Result} {a : Answer} {after : List ℕ} → r ≡ t → Leaves t a after → Leaves r a after
same e l = record { answer = l.answer ∙ ap (λ (x : Result). x.answer) (sym e); memory = l.memory ∙ ap (λ (x : Result). x.memory) (sym e) }

-- a call that is refused
pub refuses : (m : List ℕ) (number : ℕ) → Leaves (refused m [] number) (refusal number) m
refuses m number = record { answer = refl; memory = refl }

-- so an answer and a memory are the call's
pub meets : {r : Result} {a b : Answer} {now after : List ℕ} → Leaves r b after → a ≡ b → now ≡ after → (a ≡ r.answer) × (now ≡ r.memory)
meets l e f = (e ∙ l.answer, f ∙ l.memory)

pub carried : {r t : Result} {a : Answer} {now : List ℕ} → t ≡ r → (a ≡ r.answer) × (now ≡ r.memory) → (a ≡ t.answer) × (now ≡ t.memory)
carried e l = (l.0 ∙ ap (λ (x : Result). x.answer) (sym e), l.1 ∙ ap (λ (x : Result). x.memory) (sym e))

-- a step that is done
pub steps : (m : List ℕ) (o : Outcome Decoder) (D : Decoder) (first second : ℕ) (after : List ℕ) → o ≡ finish D first second nothing
    → after ≡ overlay_decoder D m → Leaves (stepped overlay_decoder m [] o) (done first second) after
unfolding stepped
steps m o D first second after e f = record {
  answer = ap (λ (x : Outcome Decoder). x.answer) (sym e);
  memory = f ∙ ap (λ (x : Outcome Decoder). overlay_decoder x.state m) (sym e);
}

module _ (m : List ℕ) (st : Stands m) where
  pub changes : DecoderChanges m (decoder_of m)
  changes = decoder-claim.changes m (decoder_of m) (record { small = st.small; forms = st.forms; state = refl })

  pub long : decoder_length ≤ length m
  long = (forms-holds-decoder m st.small st.forms).long

  pub low-limit : limit_of m ≤ 4096
  low-limit = omega (arith, changes.limit, (forms-holds-decoder m st.small st.forms).fits.forms.limit)

  -- "Every number but 0 leaves state and buffers unchanged."
  pub stays : (o : Outcome Decoder) (number : ℕ) → o ≡ refuse (decoder_of m) number → Leaves (stepped overlay_decoder m [] o) (refusal number) m
  unfolding stepped
  stays o number e = record {
    answer = ap (λ (x : Outcome Decoder). x.answer) (sym e);
    memory = sym (decoder-laws.self m st.small st.forms) ∙ ap (λ (x : Outcome Decoder). overlay_decoder x.state m) (sym e);
  }
