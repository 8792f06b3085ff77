use Prim.Native.Nat.{◌+◌, ◌<◌}
use mathlib.Core.Path.{◌≡◌, refl, sym, ap, subst}
use native.Mathlib.Omega.{arith}
use Rattle.memory.specs.Bytes.{Small}
use Rattle.integers.specs.declared.number.TableIndex.{TableIndex}
use Rattle.wire.specs.Name.{FineName}
use Rattle.state_laws.proofs.EncoderLaws.{encoder-laws}
use Rattle.encoder_fields.proofs.Chosen.{name-fine}
use Rattle.encoder.proofs.Leaving.{answer-of, memory-of, output-of}
use Rattle.encoder.proofs.Standing.{changes}
use Rattle.encoder_insert.proofs.Inserting.{fitting-held, fitting-place, fitting-short, fitting-done}
use Rattle.encoder_insert.proofs.insert.insert_fitting.Goals as goal

pub lowest_vacant-place-requires : goal.lowest_vacant-place-requires
lowest_vacant-place-requires c =
    let small : Small c.args.m.now = λ k. grind arith in
    (changes _ small c.requires.m_value).ordered

pub overflow_cast-place : goal.overflow_cast-place
overflow_cast-place c =
    let a = c.args in
    let small : Small c.args.m.now = λ k. grind arith in
    let place = fitting-place a.m.now small c.requires.m_value a.name.now a.value.now a.out.now c.requires.fitting in
    omega (arith, c.lowest_vacant-place.ensures, place)

pub overflow_add-place : goal.overflow_add-place
overflow_add-place c =
    let a = c.args in
    let small : Small c.args.m.now = λ k. grind arith in
    let place = fitting-place a.m.now small c.requires.m_value a.name.now a.value.now a.out.now c.requires.fitting in
    omega (arith, c.lowest_vacant-place.ensures, place)

pub new-index-requires : goal.new-index-requires
new-index-requires c =
    let a = c.args in
    let small : Small c.args.m.now = λ k. grind arith in
    let place = fitting-place a.m.now small c.requires.m_value a.name.now a.value.now a.out.now c.requires.fitting in
    (omega arith, omega (arith, c.lowest_vacant-place.ensures, place))

pub insert_size-n-requires : goal.insert_size-n-requires
insert_size-n-requires c = (c.requires.fitting.name_short, c.requires.fitting.value_short)

pub returns-then-out-n : goal.returns-then-out-n
returns-then-out-n c =
    let a = c.args in
    let small : Small c.args.m.now = λ k. grind arith in
    let index : c.new-index.result.value ≡ 62 + c.lowest_vacant-place.result = ap (λ (i : TableIndex). i.value) c.new-index.ensures in
    let e =
    fitting-short a.m.now small c.requires.m_value a.name.now a.value.now a.out.now c.lowest_vacant-place.result c.new-index.result.value
    c.lowest_vacant-place.ensures index _ c.choose_name-by.ensures _ c.insert_size-n.ensures.0 c.if-out-n.true in
    record { result_value = answer-of e c.because.ensures; m_after = memory-of e refl; out_after = output-of e refl }

pub put_insert-requires : goal.put_insert-requires
put_insert-requires c =
    let a = c.args in
    let small : Small c.args.m.now = λ k. grind arith in
    let f = c.requires.fitting in
    let place = fitting-place a.m.now small c.requires.m_value a.name.now a.value.now a.out.now f in
    let index : c.new-index.result.value ≡ 62 + c.lowest_vacant-place.result = ap (λ (i : TableIndex). i.value) c.new-index.ensures in
    let low : c.lowest_vacant-place.result < 128 = omega (arith, c.lowest_vacant-place.ensures, place) in
    let fine = name-fine _ (encoder-laws.fits _ small c.requires.m_value).forms _ f.name_short in
    record {
      fine_instruction = ((omega (arith, index), omega (arith, index)), subst FineName (sym c.choose_name-by.ensures) fine, f.value_short);
      room = omega (arith, c.insert_size-n.ensures.0, c.if-out-n.false);
    }

pub enter-requires : goal.enter-requires
enter-requires c =
    let a = c.args in
    let small : Small c.args.m.now = λ k. grind arith in
    let index : c.new-index.result.value ≡ 62 + c.lowest_vacant-place.result = ap (λ (i : TableIndex). i.value) c.new-index.ensures in
    let held = fitting-held a.m.now small c.requires.m_value a.name.now a.value.now a.out.now c.requires.fitting in
    record { place_value = (c.lowest_vacant-place.ensures, index, c.requires.m_value); value_bound = (held, c.requires.fitting.name_short) }

pub returns : goal.returns
returns c =
    let a = c.args in
    let small : Small c.args.m.now = λ k. grind arith in
    let index : c.new-index.result.value ≡ 62 + c.lowest_vacant-place.result = ap (λ (i : TableIndex). i.value) c.new-index.ensures in
    let held = fitting-held a.m.now small c.requires.m_value a.name.now a.value.now a.out.now c.requires.fitting in
    let e =
    fitting-done a.m.now small c.requires.m_value a.name.now a.value.now a.out.now c.lowest_vacant-place.result c.new-index.result.value
    c.lowest_vacant-place.ensures index _ c.choose_name-by.ensures _ c.insert_size-n.ensures.0 c.if-out-n.false held c.requires.fitting.name_short in
    record { result_value = answer-of e c.done.ensures; m_after = memory-of e c.enter.ensures; out_after = output-of e c.put_insert.ensures }
