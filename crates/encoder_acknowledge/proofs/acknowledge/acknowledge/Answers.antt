use mathlib.Core.Path.{◌≡◌, refl, sym, ap, ◌∙◌}
use Prim.Native.Nat.{ℕ}
use mathlib.Core.List.{List}
use mathlib.Core.Bool.{true}
use native.Mathlib.Omega.{arith}
use Rattle.instructions.specs.Reading.{read_for_encoder}
use Rattle.instructions.specs.declared.read.InstructionPlace.{InstructionPlace}
use Rattle.state.specs.Forms.{forms_encoder}
use Rattle.encoder.proofs.Leaving.{answer-of, memory-of}
use Rattle.encoder_acknowledge.proofs.Taking.{few-taken, index-taken}
use Rattle.encoder_acknowledge.proofs.Acknowledging.{acknowledge-no-state, acknowledge-refused, acknowledge-found}
use Rattle.encoder_acknowledge.proofs.acknowledge.acknowledge.Goals as goal
use Rattle.std.specs.Prelude.{Ok}
use Rattle.integers.specs.Answers.{Read}

-- what was read, of the kind that is told
read : (s : List ℕ) {r : Read InstructionPlace} {q : InstructionPlace} {n : ℕ} → r ≡ read_for_encoder s → r ≡ Ok (q, n)
    → (p : InstructionPlace) → q ≡ p → read_for_encoder s ≡ Ok (p, n)
read s {n = n} e i p f = sym e ∙ i ∙ ap (λ (q : InstructionPlace). Ok (q, n)) f

pub returns-then-not-forms_encoder : goal.returns-then-not-forms_encoder
returns-then-not-forms_encoder c =
    let a = c.args in
    let e = acknowledge-no-state a.m.now a.s.now (sym c.forms_encoder.ensures ∙ c.if-not-forms_encoder.true) in
    record { result_value = answer-of e c.because.ensures; m_after = memory-of e refl }

pub returns-in_default : goal.returns-in_default
returns-in_default c =
    let forms : forms_encoder c.args.m.now ≡ true = sym c.forms_encoder.ensures ∙ c.if-not-forms_encoder.false in
    let f = c in
    let a = f.args in
    let t = c in
    let e = acknowledge-refused a.m.now a.s.now forms _ (sym t.read_for_encoder-r.ensures ∙ c.unwrap_err.ensures) in
    record { result_value = answer-of e c.because-in_default.ensures; m_after = memory-of e refl }

pub overflow_cast-taken : goal.overflow_cast-taken
overflow_cast-taken c = omega (arith, few-taken _ _ _ (read _ c.read_for_encoder-r.ensures c.in-Ok.is _ refl))

pub free-requires : goal.free-requires
free-requires c =
    let forms : forms_encoder c.args.m.now ≡ true = sym c.forms_encoder.ensures ∙ c.if-not-forms_encoder.false in
    (index-taken _ _ _ (read _ c.read_for_encoder-r.ensures c.in-Ok.is _ c.in-Acknowledge.is), forms)

pub returns-in-Insert : goal.returns-in-Insert
returns-in-Insert c =
    let e = acknowledge-found _ _ (sym c.forms_encoder.ensures ∙ c.if-not-forms_encoder.false) _ _ (read _ c.read_for_encoder-r.ensures c.in-Ok.is _ c.in-Insert.is) in
    record { result_value = answer-of e c.because-in-Insert.ensures; m_after = memory-of e refl }

pub returns-in-Delete : goal.returns-in-Delete
returns-in-Delete c =
    let e = acknowledge-found _ _ (sym c.forms_encoder.ensures ∙ c.if-not-forms_encoder.false) _ _ (read _ c.read_for_encoder-r.ensures c.in-Ok.is _ c.in-Delete.is) in
    record { result_value = answer-of e c.because-in-Delete.ensures; m_after = memory-of e refl }

pub returns-in-Acknowledge : goal.returns-in-Acknowledge
returns-in-Acknowledge c =
    let e = acknowledge-found _ _ (sym c.forms_encoder.ensures ∙ c.if-not-forms_encoder.false) _ _ (read _ c.read_for_encoder-r.ensures c.in-Ok.is _ c.in-Acknowledge.is) in
    record { result_value = answer-of e c.free.ensures.result_value; m_after = memory-of e c.free.ensures.m_after }
