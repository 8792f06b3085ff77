use Rattle.std.proofs.Common.{refl, sym, ap, ◌∙◌, length, arith}
use Rattle.memory.specs.Bytes.{overlay}
use Rattle.stream_lists.proofs.ListWriting.{deltas-none, fits_next, delta-length, delta-stored}
use Rattle.stream_lists.proofs.stream_list.write_deltas.Goals as goal

pub loop-listed-init : goal.loop-listed-init
loop-listed-init c = (c.requires.fits, refl, refl, refl)

pub overflow_sub-stream : goal.overflow_sub-stream
overflow_sub-stream c =
    let l = c.loop-listed in
    omega (arith, fits_next c.args.streams.now l.listed-index l.last c.loop-listed-test.true l.invariant.0)

pub write-next-requires : goal.write-next-requires
write-next-requires c =
    let l = c.loop-listed in
    let xs = c.args.streams.now in
    let f = fits_next xs l.listed-index l.last c.loop-listed-test.true l.invariant.0 in
    let d = delta-length xs l.listed-index l.last c.loop-listed-test.true _ c.new-delta.ensures in
    record {
      width_bound = (omega arith, omega arith);
      value_le_largest = omega (arith, c.new-delta.ensures);
      value_in_bounds = omega (arith, c.requires.streams_in_bounds);
    }

pub loop-listed-preserved : goal.loop-listed-preserved
loop-listed-preserved c =
    let w = c.write-next in
    let n = c.new-delta.ensures in
    let l = c.loop-listed in
    let xs = c.args.streams.now in
    let f = fits_next xs l.listed-index l.last c.loop-listed-test.true l.invariant.0 in
    let d = delta-length xs l.listed-index l.last c.loop-listed-test.true _ n in (
      f.2,
      omega (arith, w.ensures.value),
      l.invariant.2 ∙ delta-stored xs l.listed-index l.last c.loop-listed-test.true _ n l.out _ l.next _ w.ensures.value w.ensures.out_after,
      omega arith,
    )

pub returns : goal.returns
returns c =
    let l = c.loop-listed in
    let e = deltas-none c.args.streams.now l.listed-index l.last c.loop-listed-test.false in
    record { value = omega (arith, ap length e); out_after = sym (l.invariant.2 ∙ ap (overlay l.out l.next) e) }
