use mathlib.Core.Path.{sym, ◌∙◌}
use Rattle.entry_places.proofs.Locating.{locate-static, locate-above}
use Rattle.entry_places.proofs.place.locate.Goals as goal

-- `entry_places::place::locate` meets its contract: the definition's test, and then what is found.
pub returns-then-index-le-LAST : goal.returns-then-index-le-LAST
returns-then-index-le-LAST c = sym (locate-static _ _ c.requires.0 c.if-index-le-LAST.true)

pub returns-in-Ok : goal.returns-in-Ok
returns-in-Ok c =
    let above = c.if-index-le-LAST.false in
    sym (locate-above _ _ above (sym c.find.ensures ∙ c.in-Ok.is))

pub returns-in-Err : goal.returns-in-Err
returns-in-Err c =
    let above = c.if-index-le-LAST.false in
    sym (locate-above _ _ above (sym c.find.ensures ∙ c.in-Err.is))
