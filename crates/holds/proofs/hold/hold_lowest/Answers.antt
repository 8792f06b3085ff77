use native.Mathlib.Omega.{arith}
use Rattle.holds.proofs.Opening.{first-lower, second-lower}
use Rattle.holds.proofs.Reading.{nontrailer-list, trailer-list}
use Rattle.holds.proofs.hold.hold_lowest.Goals as goal

pub named_lowest-nontrailer-requires : goal.named_lowest-nontrailer-requires
named_lowest-nontrailer-requires c = nontrailer-list _ _ _ _ (omega arith) c.nontrailer_list.ensures c.requires

pub named_lowest-trailer-requires : goal.named_lowest-trailer-requires
named_lowest-trailer-requires c = trailer-list _ _ _ _ (omega arith) c.trailer_list.ensures c.requires

pub returns-then-told : goal.returns-then-told
returns-then-told c =
    first-lower _ _ _ _ c.nontrailer_list.ensures c.trailer_list.ensures _ _ c.named_lowest-nontrailer.ensures c.named_lowest-trailer.ensures
    (omega arith)

pub returns : goal.returns
returns c =
    second-lower _ _ _ _ c.nontrailer_list.ensures c.trailer_list.ensures _ _ c.named_lowest-nontrailer.ensures c.named_lowest-trailer.ensures
    (omega arith)
