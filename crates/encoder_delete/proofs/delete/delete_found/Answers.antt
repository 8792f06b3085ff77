use mathlib.Core.Path.{◌≡◌, refl, ap, ◌∙◌}
use native.Mathlib.Omega.{arith}
use borrow.Author.Rules.{rules}
use Rattle.memory.specs.Bytes.{Small}
use Rattle.memory.specs.Numbers.{number}
use Rattle.state.specs.EncoderState.{nontrailer_at, trailer_at}
use Rattle.encoder.proofs.Leaving.{answer-of, memory-of, output-of}
use Rattle.encoder.proofs.Standing.{RowFound, row-found, long}
use Rattle.encoder_delete.proofs.Deleting.{said-fine, said-length, found-short, found-done}
use Rattle.encoder_delete.proofs.delete.delete_found.Goals as goal

pub nontrailer_place-requires : goal.nontrailer_place-requires
nontrailer_place-requires c =
    let small : Small c.args.m.now = search rules in
    let row : RowFound c.args.m.now c.args.index.value c.args.place = row-found _ small c.requires.m_value _ _ c.requires.m_value_2.0 in
    omega (arith, row.below)

pub horizon_at-nontrailer-requires : goal.horizon_at-nontrailer-requires
horizon_at-nontrailer-requires c =
    let small : Small c.args.m.now = search rules in
    let row : RowFound c.args.m.now c.args.index.value c.args.place = row-found _ small c.requires.m_value _ _ c.requires.m_value_2.0 in
    omega (arith, c.nontrailer_place.ensures, row.below, long _ small c.requires.m_value)

pub trailer_place-requires : goal.trailer_place-requires
trailer_place-requires c =
    let small : Small c.args.m.now = search rules in
    let row : RowFound c.args.m.now c.args.index.value c.args.place = row-found _ small c.requires.m_value _ _ c.requires.m_value_2.0 in
    omega (arith, row.below)

pub horizon_at-trailer-requires : goal.horizon_at-trailer-requires
horizon_at-trailer-requires c =
    let small : Small c.args.m.now = search rules in
    let row : RowFound c.args.m.now c.args.index.value c.args.place = row-found _ small c.requires.m_value _ _ c.requires.m_value_2.0 in
    omega (arith, c.trailer_place.ensures, row.below, long _ small c.requires.m_value)

pub returns-then-out-n : goal.returns-then-out-n
returns-then-out-n c =
    let small : Small c.args.m.now = search rules in
    let nontrailer : c.horizon_at-nontrailer.result ≡ nontrailer_at c.args.m.now c.args.place = c.horizon_at-nontrailer.ensures ∙ ap (number 2 c.args.m.now) c.nontrailer_place.ensures in
    let trailer : c.horizon_at-trailer.result ≡ trailer_at c.args.m.now c.args.place = c.horizon_at-trailer.ensures ∙ ap (number 2 c.args.m.now) c.trailer_place.ensures in
    let a = c.args in
    let p = c.requires in
    let e = found-short a.m.now small p.m_value a.index.value a.place p.m_value_2.0 p.m_value_2.1 _ _ _
    nontrailer trailer c.delete_size-n.ensures.0 a.out.now c.if-out-n.true in record { result_value = answer-of e c.because.ensures; m_after = memory-of e refl; out_after = output-of e refl }

pub write_delete-requires : goal.write_delete-requires
write_delete-requires c =
    let small : Small c.args.m.now = search rules in
    let nontrailer : c.horizon_at-nontrailer.result ≡ nontrailer_at c.args.m.now c.args.place = c.horizon_at-nontrailer.ensures ∙ ap (number 2 c.args.m.now) c.nontrailer_place.ensures in
    let trailer : c.horizon_at-trailer.result ≡ trailer_at c.args.m.now c.args.place = c.horizon_at-trailer.ensures ∙ ap (number 2 c.args.m.now) c.trailer_place.ensures in
    let size = c.delete_size-n.ensures.0 in
    let a = c.args in
    let p = c.requires in record {
      fine_instruction = said-fine a.m.now small p.m_value a.index.value a.place p.m_value_2.0 p.m_value_2.1 _ _ _ nontrailer trailer size;
      trailer_streams_in_bounds = omega (
        arith,
        said-length a.m.now small p.m_value a.index.value a.place p.m_value_2.0 p.m_value_2.1 _ _ _ nontrailer trailer size,
        c.if-out-n.false,
      );
    }

pub put_status-requires : goal.put_status-requires
put_status-requires c =
    let small : Small c.args.m.now = search rules in
    let row : RowFound c.args.m.now c.args.index.value c.args.place = row-found _ small c.requires.m_value _ _ c.requires.m_value_2.0 in
    (row.below, omega (arith, long _ small c.requires.m_value))

pub returns : goal.returns
returns c =
    let small : Small c.args.m.now = search rules in
    let nontrailer : c.horizon_at-nontrailer.result ≡ nontrailer_at c.args.m.now c.args.place = c.horizon_at-nontrailer.ensures ∙ ap (number 2 c.args.m.now) c.nontrailer_place.ensures in
    let trailer : c.horizon_at-trailer.result ≡ trailer_at c.args.m.now c.args.place = c.horizon_at-trailer.ensures ∙ ap (number 2 c.args.m.now) c.trailer_place.ensures in
    let a = c.args in
    let p = c.requires in
    let e = found-done a.m.now small p.m_value a.index.value a.place p.m_value_2.0 p.m_value_2.1 _ _ _
    nontrailer trailer c.delete_size-n.ensures.0 a.out.now c.if-out-n.false in record { result_value = answer-of e c.done.ensures; m_after = memory-of e c.put_status.ensures; out_after = output-of e c.write_delete.ensures.out_after }
