use mathlib.Core.Path.{refl, sym, ◌∙◌}
use native.Mathlib.Omega.{arith}
use borrow.Author.Rules.{rules}
use Rattle.memory.specs.Bytes.{Small}
use Rattle.table_laws.specs.DecoderChanges.{found}
use Rattle.table_laws.specs.EncoderChanges.{EncoderChanges}
use Rattle.state.specs.EncoderState.{encoder_of}
use Rattle.encoder.proofs.Leaving.{answer-of, memory-of}
use Rattle.encoder.proofs.Standing.{changes, long, row-found}
use Rattle.encoder_acknowledge.proofs.Acknowledging.{freed-missing, freed-live, freed-done}
use Rattle.encoder_acknowledge.proofs.acknowledge.free.Goals as goal

pub find-f-requires : goal.find-f-requires
find-f-requires c =
    let small : Small c.args.m.now = search rules in
    let stands : EncoderChanges c.args.m.now (encoder_of c.args.m.now) = changes _ small c.requires.1 in
    (c.requires.0, stands.ordered)

pub returns-in_default : goal.returns-in_default
returns-in_default c =
    let small : Small c.args.m.now = search rules in
    let p = c.requires in
    let e = freed-missing _ small p.1 _ _ c.args.taken (sym c.find-f.ensures ∙ c.in_default.is) in
    record { result_value = answer-of e c.because.ensures; m_after = memory-of e refl }

pub status_at-requires : goal.status_at-requires
status_at-requires c =
    let small : Small c.args.m.now = search rules in
    let stands : EncoderChanges c.args.m.now (encoder_of c.args.m.now) = changes _ small c.requires.1 in
    let at : found c.args.m.now c.args.index.value c.in-Ok.place = sym c.find-f.ensures ∙ c.in-Ok.is in
    ((row-found _ small c.requires.1 _ _ at).below, omega (arith, stands.ordered.long))

pub returns-then-status_at-eq0 : goal.returns-then-status_at-eq0
returns-then-status_at-eq0 c =
    let small : Small c.args.m.now = search rules in
    let at : found c.args.m.now c.args.index.value c.in-Ok.place = sym c.find-f.ensures ∙ c.in-Ok.is in
    let e = freed-live _ small c.requires.1 _ _ c.args.taken at (sym c.status_at.ensures ∙ c.if-status_at-eq0.true) in
    record { result_value = answer-of e c.because-then-status_at-eq0.ensures; m_after = memory-of e refl }

pub take_out-requires : goal.take_out-requires
take_out-requires c =
    let small : Small c.args.m.now = search rules in
    let stands : EncoderChanges c.args.m.now (encoder_of c.args.m.now) = changes _ small c.requires.1 in
    let at : found c.args.m.now c.args.index.value c.in-Ok.place = sym c.find-f.ensures ∙ c.in-Ok.is in
    (stands.removing _ _ at, long _ small c.requires.1)

pub returns : goal.returns
returns c =
    let small : Small c.args.m.now = search rules in
    let at : found c.args.m.now c.args.index.value c.in-Ok.place = sym c.find-f.ensures ∙ c.in-Ok.is in
    let e = freed-done _ small c.requires.1 _ _ c.args.taken at (λ z. c.if-status_at-eq0.false (c.status_at.ensures ∙ z)) in
    record { result_value = answer-of e c.done.ensures; m_after = memory-of e c.take_out.ensures }
