use mathlib.Core.Path.{sym, ap}
use mathlib.Core.List.{List, ◌++◌}
use Prim.Native.Nat.{ℕ}
use native.Mathlib.Omega.{arith}
use lib.ListN.{drop}
use lib.Seq.{length-take-le}
use Rattle.recorded_parts.proofs.Lending.{lent-within}
use Rattle.recorded_call.proofs.Cases.{as_lent}
use Rattle.recorded_call.proofs.perform_within.Goals as goal

pub slice_bounds-perform-end : goal.slice_bounds-perform-end
slice_bounds-perform-end c =
    let a = c.args in
    omega (arith, c.lent-n.ensures, lent-within a.call.room a.output.now)

pub slice_bounds-perform-end-2 : goal.slice_bounds-perform-end-2
slice_bounds-perform-end-2 c =
    let a = c.args in
    sym (length-take-le c.lent-n.result a.output.now (omega (arith, c.lent-n.ensures, lent-within a.call.room a.output.now)))

pub returns : goal.returns
returns c =
    let a = c.args in
    let n = c.lent-n in let all = as_lent a.call a.bytes.now a.decoder.now a.encoder.now a.output.now _ n.ensures
    (c.perform.ensures.result_value, (c.perform.ensures.decoder_after, (c.perform.ensures.encoder_after, ap (λ (x : List ℕ). x ++ drop n.result a.output.now) c.perform.ensures.output_after))) in record { result_value = all.0; decoder_after = all.1.0; encoder_after = all.1.1.0; output_after = all.1.1.1 }
