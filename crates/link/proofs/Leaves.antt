-- What is claimed of what a call leaves, and three ways to have it: a refusal, a start answered "done", and a step of the model laid over memory.
use mathlib.Core.Path.{◌≡◌, refl, sym, ap, ◌∙◌}
use Prim.Native.Nat.{ℕ}
use mathlib.Core.Bool.{Bool, true}
use mathlib.Core.List.{List, []}
use lib.ListN.{length, drop}
use lib.Dec.{T}
use Rattle.memory.specs.Bytes.{overlay}
use Rattle.memory.proofs.Overlay.{length-overlay}
use Rattle.integers.specs.Answers.{done}
use Rattle.model.specs.Outcome.{nothing, output_bytes, Outcome, finish}
use Rattle.model_laws.specs.Promises.{Unchanged}
use Rattle.reply.specs.Result.{Result, refused, stepped}
use Rattle.reply.proofs.Joined.{separable}
use Rattle.link.specs.Calls.{Call, result_of, lent, forms_at, length_at}
use Rattle.link.specs.Answers.{Answered, First}
use Rattle.link.proofs.Says.{Allowed, Says, refuses, refusal-allowed}
use Rattle.link.proofs.Writes.{Writes}

pub record Leaves (c : Call) (m : List ℕ) (r : Result) : Type 0 where
  pub allowed : Allowed c r.answer
  pub judged_first : First c m r.answer.number
  pub unchanged : (r.answer.number ≡ 0 → ⊥) → (r.memory ≡ m) × (r.output ≡ lent c)
  pub written : r.answer.number ≡ 0 → drop r.answer.first r.output ≡ drop r.answer.first (lent c)
  pub formed : r.answer.number ≡ 0 → forms_at c r.memory ≡ true
  pub beyond : drop (length_at c) r.memory ≡ drop (length_at c) m
  pub memory_length : length r.memory ≡ length m
  pub output_length : length r.output ≡ length (lent c)

pub leaves-answered : (m : List ℕ) (c : Call) → Leaves c m (result_of m c) → Answered m c
leaves-answered m c L =
    let A = L.allowed in
    record {
      numbered = A.numbered;
      judged_first = L.judged_first;
      first = A.first;
      second = A.second;
      counted = A.counted;
      parts_back = separable (result_of m c).answer A.narrow A.byte A.low;
      unchanged = L.unchanged;
      written = L.written;
      forms = L.formed;
      beyond = L.beyond;
      memory_length = L.memory_length;
      output_length = L.output_length;
    }

-- l is m with a state laid over it
pub record Laid (forms : List ℕ → Bool) (bytes : ℕ) (m l : List ℕ) : Type 0 where
  pub formed : forms l ≡ true
  pub beyond : drop bytes l ≡ drop bytes m
  pub same_length : length l ≡ length m

module _ (c : Call) (m : List ℕ) where
  pub refused-leaves : (number : ℕ) → T (refuses c number) → First c m number → Leaves c m (refused m (lent c) number)
  refused-leaves number t first = record {
    judged_first = first;
    allowed = refusal-allowed c number t;
    unchanged = λ z. (refl, refl);
    written = λ z. refl;
    formed = λ z. absurd (rw z at t);
    beyond = refl;
    memory_length = refl;
    output_length = refl;
  }

  -- a step of the model, from the state s that memory stands for
  pub stepped-leaves : {S : Type 0} (over : S → List ℕ → List ℕ) (s : S) (o : Outcome S) → over s m ≡ m
      → Laid (forms_at c) (length_at c) m (over o.state m) → Unchanged s o → Writes (lent c) o → Says c o → First c m o.answer.number
      → Leaves c m (stepped over m (lent c) o)
  unfolding stepped output_bytes
  stepped-leaves over s o self L same writes says first = record {
    judged_first = first;
    allowed = says.says;
    unchanged = λ z. (ap (λ x. over x m) (same z).0 ∙ self, ap (λ x. overlay (lent c) 0 (output_bytes x)) (same z).1);
    written = writes;
    formed = λ z. L.formed;
    beyond = L.beyond;
    memory_length = L.same_length;
    output_length = length-overlay (lent c) 0 (output_bytes o.output);
  }

-- a start answered "done": nothing is lent and nothing told
pub started-leaves : (c : Call) (m l : List ℕ) → lent c ≡ [] → Says c (finish m 0 0 nothing) → Laid (forms_at c) (length_at c) m l → First c m 0
    → Leaves c m (record { answer = done 0 0; memory = l; output = [] })
started-leaves c m l none says L first = record {
  judged_first = first;
  allowed = says.says;
  unchanged = λ z. absurd (z refl);
  written = λ z. sym none;
  formed = λ z. L.formed;
  beyond = L.beyond;
  memory_length = L.same_length;
  output_length = ap length (sym none);
}
