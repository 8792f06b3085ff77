use mathlib.Core.Path.{refl}
use Rattle.encoder.proofs.Leaving.{answer-of, memory-of}
use Rattle.encoder.proofs.Starting.{start-over, start-short, start-fresh}
use Rattle.encoder.proofs.start.start.Goals as goal

pub returns-then-limit : goal.returns-then-limit
returns-then-limit c =
    let a = c.args in
    let e = start-over a.m.now a.limit c.if-limit.true in
    record { result_value = answer-of e c.because.ensures; m_after = memory-of e refl }

pub returns-then-m-lt-ENCODER_LENGTH : goal.returns-then-m-lt-ENCODER_LENGTH
returns-then-m-lt-ENCODER_LENGTH c =
    let a = c.args in
    let e = start-short a.m.now a.limit c.if-limit.false c.if-m-lt-ENCODER_LENGTH.true in
    record { result_value = answer-of e c.because-then-m-lt-ENCODER_LENGTH.ensures; m_after = memory-of e refl }

pub returns : goal.returns
returns c =
    let a = c.args in
    let e = start-fresh a.m.now a.limit c.if-limit.false c.if-m-lt-ENCODER_LENGTH.false in
    record { result_value = answer-of e c.done.ensures; m_after = memory-of e c.start.ensures }
