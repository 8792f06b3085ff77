use native.Mathlib.Omega.{arith}
use Rattle.holds.proofs.Opening.{count-few, delete-count}
use Rattle.holds.proofs.Reading.{nontrailer-list, trailer-list}
use Rattle.holds.proofs.hold.hold_count.Goals as goal

pub named_count-requires : goal.named_count-requires
named_count-requires c = nontrailer-list _ _ _ _ (omega arith) c.nontrailer_list.ensures c.requires

pub named_count-requires-2 : goal.named_count-requires-2
named_count-requires-2 c = trailer-list _ _ _ _ (omega arith) c.trailer_list.ensures c.requires

pub overflow_add-result : goal.overflow_add-result
overflow_add-result c = omega (arith, count-few _ _ c.named_count.ensures, count-few _ _ c.named_count-2.ensures)

pub returns : goal.returns
returns c = delete-count _ _ _ _ c.nontrailer_list.ensures c.trailer_list.ensures _ _ c.named_count.ensures c.named_count-2.ensures
