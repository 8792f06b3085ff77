use mathlib.Core.Path.{sym, ap, ◌∙◌}
use native.Mathlib.Omega.{arith}
use Prim.Native.Nat.{ℕ}
use lib.ListN.{get_or}
use Rattle.std.specs.Prelude.{Ok, Err}
use Rattle.integers.specs.Answers.{Read, on_read}
use Rattle.blocks.specs.Reading.{flag_of}
use Rattle.blocks.specs.declared.read.RepresentationPlace.{RepresentationPlace}
use Rattle.blocks.proofs.Bounds.{representation-good}
use Rattle.short_forms.proofs.ShortReads.{short-named-reads}
use Rattle.decoder_survey.specs.declared.measure.Survey.{Survey}
use Rattle.decoder_survey.specs.Measure.{field_at, field_measured}
use Rattle.decoder_survey.proofs.measure.literal_step.Goals as goal

pub named_size-requires : goal.named_size-requires
named_size-requires c =
    let read = short-named-reads _ _ c.requires.1 c.requires.2 _ _ _ (sym c.short_named.ensures ∙ c.in-Some.is) in
    let i = (representation-good _ _ _ _ read).places in record { stands = c.requires.0; in_bytes = (omega arith, i.1, i.2, i.3) }

pub returns : goal.returns
returns c =
    let step_by : Read RepresentationPlace → Read Survey = λ r. on_read Err r (λ (p : RepresentationPlace) (next : ℕ). Ok (field_measured (field_at c.args.m.now c.args.s.now p), next)) in
    let read = short-named-reads _ _ c.requires.1 c.requires.2 _ _ _ (sym c.short_named.ensures ∙ c.in-Some.is) in
    ap (λ (n : Survey). Ok (n, c.in-Some.next)) (c.named_size.ensures (flag_of (get_or c.args.s.now c.args.at 0))) ∙ sym (ap step_by read)
