use Rattle.std.proofs.Common.{arith}
use Rattle.statics.proofs.Entries.{name-slice}
use Rattle.statics.proofs.Places.{place-stands}
use Rattle.statics.proofs.table.static_name.Goals as goal

-- the entry stands in the text at its place
pub slice_bounds-result-end : goal.slice_bounds-result-end
slice_bounds-result-end c =
    let s = place-stands _ c.requires.text_value c.static_place-p.ensures c.requires.le_value in omega (arith, s.end)

pub returns : goal.returns
returns c = name-slice (place-stands _ c.requires.text_value c.static_place-p.ensures c.requires.le_value)
