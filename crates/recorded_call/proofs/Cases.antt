-- What a call leaves is what its definition says, once its kind and its bytes are known.
use Prim.Native.Nat.{ℕ}
use mathlib.Core.Path.{◌≡◌, sym, subst, ap, ◌∙◌}
use mathlib.Core.List.{List, ◌++◌}
use lib.ListN.{length, take, drop}
use Rattle.integers.specs.Answers.{Answer}
use Rattle.encoder.specs.Calls.{insert_call}
use Rattle.recording.specs.declared.Call.{Call}
use Rattle.recording.specs.declared.Kind.{Kind}
use Rattle.recorded_parts.specs.Lent.{lent_of}
use Rattle.recorded_parts.proofs.Lending.{lent-bytes, left-bytes}
use Rattle.recorded_call.specs.Performed.{Performed, performed_as, performed}

-- the answer, both memories and the output, as a contract has them
abbrev pub Leaves : Performed → Answer → List ℕ → List ℕ → List ℕ → Type 0
Leaves p a d e out = (a ≡ p.answer) × ((d ≡ p.decoder) × ((e ≡ p.encoder) × (out ≡ p.output)))

pub cited : (call : Call) (bytes d e out : List ℕ) (known : Kind) (s : List ℕ) {a : Answer} {d' e' out' : List ℕ} → call.kind ≡ known → s ≡ take call.end bytes
    → Leaves (performed_as known call.first call.second s call.split d e out) a d' e' out' → Leaves (performed call bytes d e out) a d' e' out'
cited call bytes d e out known s {a} {d'} {e'} {out'} p q h =
    subst (λ (k : Kind). Leaves (performed_as k call.first call.second (take call.end bytes) call.split d e out) a d' e' out') (sym p)
    (subst (λ (x : List ℕ). Leaves (performed_as known call.first call.second x call.split d e out) a d' e' out') q h)

-- an insert of the name and the value that the bytes are split into
pub split_at : (m : List ℕ) (name value s : List ℕ) (at : ℕ) (out : List ℕ) → name ≡ take at s → value ≡ drop at s → insert_call m name value out ≡ insert_call m (take at s) (drop at s) out
split_at m name value s at out p q = ap (λ (x : List ℕ). insert_call m x value out) p ∙ ap (λ (x : List ℕ). insert_call m (take at s) x out) q

-- the same where a part of the output is lent and `rest` is left
abbrev pub LeavesIn : Performed → List ℕ → Answer → List ℕ → List ℕ → List ℕ → Type 0
LeavesIn p rest a d e out = (a ≡ p.answer) × ((d ≡ p.decoder) × ((e ≡ p.encoder) × (out ≡ p.output ++ rest)))

-- the lent part is the first bytes of the output, as many as the room says
pub as_lent : (call : Call) (bytes d e out : List ℕ) (n : ℕ) {a : Answer} {d' e' out' : List ℕ} → n ≡ lent_of call.room (length out)
    → LeavesIn (performed call bytes d e (take n out)) (drop n out) a d' e' out'
    → LeavesIn (performed call bytes d e (take call.room out)) (drop call.room out) a d' e' out'
as_lent call bytes d e out n {a} {d'} {e'} {out'} k h =
    subst (λ (x : List ℕ). LeavesIn (performed call bytes d e x) (drop call.room out) a d' e' out') (ap (λ (i : ℕ). take i out) k ∙ lent-bytes call.room out)
    (subst (λ (x : List ℕ). LeavesIn (performed call bytes d e (take n out)) x a d' e' out') (ap (λ (i : ℕ). drop i out) k ∙ left-bytes call.room out) h)
