use Prim.Native.Nat.{ℕ, ◌+◌, ◌<◌}
use native.Mathlib.Omega.{arith}
use mathlib.Core.Path.{◌≡◌, sym, ap, ◌∙◌}
use mathlib.Core.List.{List}
use lib.ListN.{length}
use Rattle.memory.specs.Bytes.{overlay}
use Rattle.blocks.specs.Reading.{read_representation}
use Rattle.short_forms.specs.Short.{short_index_at, short_literal_at}
use Rattle.blocks.specs.declared.read.RepresentationPlace.TheVariants.{Indexed}
use Rattle.blocks.proofs.Bounds.{representation-good}
use Rattle.short_forms.proofs.ShortReads.{short-index-reads}
use Rattle.decoder_survey.proofs.ShortForms.{short-length, ShortReads, short-reads}
use Rattle.decoder_fields.proofs.Indexing.{row-found}
use Rattle.decoder_fields.proofs.Writing.{writing-starts, writing-next, writing-turn, writing-ends}
use Rattle.decoder_fields.proofs.write.write_fields.Goals as goal
use Rattle.std.specs.Prelude.{Ok, Some}

pub loop-at-init : goal.loop-at-init
loop-at-init c = let p = c.requires in writing-starts _ _ _ p.reads_well p.list p.s_in_bounds

pub write_rest-requires : goal.write_rest-requires
write_rest-requires c = record { stands = c.requires.stands; unwritten = c.loop-at.invariant.rest }

pub returns-in_default : goal.returns-in_default
returns-in_default c = c.write_rest.ensures ∙ c.loop-at.invariant.laid

pub write_short-to-requires : goal.write_short-to-requires
write_short-to-requires c =
    let literal : short_literal_at c.args.s.now c.loop-at.at ≡ Some c.in-Some.next = sym c.short_literal-l.ensures ∙ c.in-Some.is in
    let literal-read : ShortReads c.args.m.now c.args.s.now c.loop-at.at c.in-Some.next = short-reads _ _ _ _ c.loop-at-test.true c.if-s-at-lt-INDEXED.true literal in
    let z = literal-read in
    let w = writing-next _ _ _ _ _ _ _ c.loop-at.invariant c.loop-at-test.true _ _ z.reads in
    let n = short-length c.args.s.now c.loop-at.at c.in-Some.next z.past z.inside in
    record { at_in_bounds = (c.loop-at-test.true, c.if-s-at-lt-INDEXED.true, literal); at_in_bounds_2 = omega (arith, w.1, ap length z.bytes, n) }

pub loop-at-smaller-then-s-at-lt-INDEXED : goal.loop-at-smaller-then-s-at-lt-INDEXED
loop-at-smaller-then-s-at-lt-INDEXED c =
    let literal : short_literal_at c.args.s.now c.loop-at.at ≡ Some c.in-Some.next = sym c.short_literal-l.ensures ∙ c.in-Some.is in
    let literal-read : ShortReads c.args.m.now c.args.s.now c.loop-at.at c.in-Some.next = short-reads _ _ _ _ c.loop-at-test.true c.if-s-at-lt-INDEXED.true literal in
    let z = literal-read in omega (arith, z.past, z.inside)

pub loop-at-preserved-then-s-at-lt-INDEXED : goal.loop-at-preserved-then-s-at-lt-INDEXED
loop-at-preserved-then-s-at-lt-INDEXED c =
    let literal : short_literal_at c.args.s.now c.loop-at.at ≡ Some c.in-Some.next = sym c.short_literal-l.ensures ∙ c.in-Some.is in
    let literal-read : ShortReads c.args.m.now c.args.s.now c.loop-at.at c.in-Some.next = short-reads _ _ _ _ c.loop-at-test.true c.if-s-at-lt-INDEXED.true literal in
    let z = literal-read in
    let l = c.loop-at in
    let w = c.write_short-to.ensures in
    writing-turn _ _ _ _ _ _ _ l.invariant c.loop-at-test.true _ _ z.reads _ _ (w.value ∙ ap (λ (x : List ℕ). l.to + length x) (sym z.bytes))
    (w.out_after ∙ ap (overlay l.out l.to) (sym z.bytes))

pub write_rest-requires-in_default-i : goal.write_rest-requires-in_default-i
write_rest-requires-in_default-i c = record { stands = c.requires.stands; unwritten = c.loop-at.invariant.rest }

pub returns-in_default-i : goal.returns-in_default-i
returns-in_default-i c = c.write_rest-in_default-i.ensures ∙ c.loop-at.invariant.laid

pub write_dynamic-to-requires : goal.write_dynamic-to-requires
write_dynamic-to-requires c =
    let index : (short_index_at c.args.s.now c.loop-at.at ≡ Some (c.in-Some-i.index, c.in-Some-i.next)) × (61 < c.in-Some-i.index.value) = row-found _ _ _ (sym c.short_row_index-i.ensures ∙ c.in-Some-i.is) in
    let index_read : read_representation c.args.s.now c.loop-at.at ≡ Ok (Indexed c.in-Some-i.index, c.in-Some-i.next) = short-index-reads _ _ c.loop-at-test.true c.if-s-at-lt-INDEXED.false _ _ index.0 in
    let w = writing-next _ _ _ _ _ _ _ c.loop-at.invariant c.loop-at-test.true _ _ index_read in record { stands = (c.requires.stands, index.1); field = w.0; value_in_bounds = w.1 }

pub loop-at-smaller : goal.loop-at-smaller
loop-at-smaller c =
    let index : (short_index_at c.args.s.now c.loop-at.at ≡ Some (c.in-Some-i.index, c.in-Some-i.next)) × (61 < c.in-Some-i.index.value) = row-found _ _ _ (sym c.short_row_index-i.ensures ∙ c.in-Some-i.is) in
    let index_read : read_representation c.args.s.now c.loop-at.at ≡ Ok (Indexed c.in-Some-i.index, c.in-Some-i.next) = short-index-reads _ _ c.loop-at-test.true c.if-s-at-lt-INDEXED.false _ _ index.0 in
    let g = representation-good _ _ _ _ index_read in omega (arith, g.past, g.inside)

pub loop-at-preserved : goal.loop-at-preserved
loop-at-preserved c =
    let index : (short_index_at c.args.s.now c.loop-at.at ≡ Some (c.in-Some-i.index, c.in-Some-i.next)) × (61 < c.in-Some-i.index.value) = row-found _ _ _ (sym c.short_row_index-i.ensures ∙ c.in-Some-i.is) in
    let index_read : read_representation c.args.s.now c.loop-at.at ≡ Ok (Indexed c.in-Some-i.index, c.in-Some-i.next) = short-index-reads _ _ c.loop-at-test.true c.if-s-at-lt-INDEXED.false _ _ index.0 in
    let w = c.write_dynamic-to.ensures in
    writing-turn _ _ _ _ _ _ _ c.loop-at.invariant c.loop-at-test.true _ _ index_read _ _ w.value w.out_after

pub returns : goal.returns
returns c = writing-ends _ _ _ _ _ _ _ c.loop-at.invariant c.loop-at-test.false
