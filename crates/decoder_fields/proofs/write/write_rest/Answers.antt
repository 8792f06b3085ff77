use native.Mathlib.Omega.{arith}
use mathlib.Core.Path.{◌≡◌, sym, ap, ◌∙◌}
use Rattle.blocks.specs.Reading.{read_representation}
use Rattle.blocks.specs.declared.read.RepresentationPlace.TheVariants.{Indexed}
use Rattle.blocks.proofs.Bounds.{representation-good}
use Rattle.decoder_survey.proofs.Rest.{no-refusal}
use Rattle.decoder_fields.specs.Indexes.{index_in, IsLiteral}
use Rattle.decoder_fields.proofs.Indexing.{entry_read, other-read, low-other, high-other}
use Rattle.decoder_fields.proofs.Writing.{writing-on, writing-next, writing-turn, writing-ends}
use Rattle.decoder_fields.proofs.write.write_rest.Goals as goal
use Rattle.std.specs.Prelude.{Ok}

pub loop-at-init : goal.loop-at-init
loop-at-init c = writing-on _ _ _ _ _ c.requires.unwritten

pub read_index-i-requires : goal.read_index-i-requires
read_index-i-requires c = (c.loop-at-test.true, c.if-s-at-ge-INDEXED.true)

pub returns-in_default : goal.returns-in_default
returns-in_default c =
    let h = c.loop-at-test.true in
    let r = high-other _ _ h c.if-s-at-ge-INDEXED.true (sym c.in_default.is ∙ c.read_index-i.ensures) in
    no-refusal _ _ c.loop-at.invariant.rest.reads h _ r.1

pub write_indexed-to-requires : goal.write_indexed-to-requires
write_indexed-to-requires c =
    let entry : read_representation c.args.s.now c.loop-at.at ≡ Ok (Indexed c.in-Some.index, c.in-Some.next) = entry_read _ _ _ (sym c.in-Some.is ∙ c.read_index-i.ensures) in
    let known = c in
    let w = writing-next _ _ _ _ _ _ _ known.loop-at.invariant known.loop-at-test.true _ _ entry in record { text_value = (known.static_text-text.ensures, known.requires.stands, (representation-good _ _ _ _ entry).places.0); field = w.0; value_in_bounds = w.1 }

pub loop-at-smaller-then-s-at-ge-INDEXED : goal.loop-at-smaller-then-s-at-ge-INDEXED
loop-at-smaller-then-s-at-ge-INDEXED c =
    let entry : read_representation c.args.s.now c.loop-at.at ≡ Ok (Indexed c.in-Some.index, c.in-Some.next) = entry_read _ _ _ (sym c.in-Some.is ∙ c.read_index-i.ensures) in
    let g = representation-good _ _ _ _ entry in omega (arith, g.past, g.inside)

pub loop-at-preserved-then-s-at-ge-INDEXED : goal.loop-at-preserved-then-s-at-ge-INDEXED
loop-at-preserved-then-s-at-ge-INDEXED c =
    let entry : read_representation c.args.s.now c.loop-at.at ≡ Ok (Indexed c.in-Some.index, c.in-Some.next) = entry_read _ _ _ (sym c.in-Some.is ∙ c.read_index-i.ensures) in
    let known = c in
    let w = c.write_indexed-to.ensures in
    writing-turn _ _ _ _ _ _ _ known.loop-at.invariant known.loop-at-test.true _ _ entry _ _ w.value w.out_after

pub read_literal_at-r-requires : goal.read_literal_at-r-requires
read_literal_at-r-requires c = (c.loop-at-test.true, omega (arith, c.if-s-at-ge-INDEXED.false))

pub returns-in_default-r : goal.returns-in_default-r
returns-in_default-r c =
    let e = sym c.read_literal_at-r.ensures ∙ c.in_default-r.is in
    no-refusal _ _ c.loop-at.invariant.rest.reads c.loop-at-test.true _ e

pub write_literal_place-to-requires : goal.write_literal_place-to-requires
write_literal_place-to-requires c =
    let read : read_representation c.args.s.now c.loop-at.at ≡ Ok (c.in-Ok.place, c.in-Ok.next) = sym c.read_literal_at-r.ensures ∙ c.in-Ok.is in
    let literal : IsLiteral c.in-Ok.place = other-read c.in-Ok.place c.in-Ok.next (low-other _ _ c.loop-at-test.true c.if-s-at-ge-INDEXED.false ∙ ap index_in read) in
    let known = c in
    let w = writing-next _ _ _ _ _ _ _ known.loop-at.invariant known.loop-at-test.true _ _ read in record { text_value = (known.static_text-text.ensures, known.requires.stands); literal = literal; in_bytes = (representation-good _ _ _ _ read).places; field = w.0; r_in_bounds = w.1 }

pub loop-at-smaller : goal.loop-at-smaller
loop-at-smaller c =
    let read : read_representation c.args.s.now c.loop-at.at ≡ Ok (c.in-Ok.place, c.in-Ok.next) = sym c.read_literal_at-r.ensures ∙ c.in-Ok.is in
    let g = representation-good _ _ _ _ read in omega (arith, g.past, g.inside)

pub loop-at-preserved : goal.loop-at-preserved
loop-at-preserved c =
    let read : read_representation c.args.s.now c.loop-at.at ≡ Ok (c.in-Ok.place, c.in-Ok.next) = sym c.read_literal_at-r.ensures ∙ c.in-Ok.is in
    let known = c in
    let w = c.write_literal_place-to.ensures in
    writing-turn _ _ _ _ _ _ _ known.loop-at.invariant known.loop-at-test.true _ _ read _ _ w.value w.out_after

pub returns : goal.returns
returns c = writing-ends _ _ _ _ _ _ _ c.loop-at.invariant c.loop-at-test.false
