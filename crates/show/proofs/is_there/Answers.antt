use borrow.Author.Tests.{eqb-true, not-true, not-false}
use Rattle.show.proofs.There.{plain-there, packed-there}
use Rattle.show.proofs.is_there.Goals as goal

-- `show::is_there` says yes only of a string that is there: its tests are what `plain-there` and `packed-there` ask for.
pub returns-then-not-place : goal.returns-then-not-place
returns-then-not-place c =
    let d = c in
    λ e. plain-there _ _ d.if-s-start.false d.if-s-start-2.false (not-true _ c.if-not-place.true) (eqb-true _ _ e)

pub returns : goal.returns
returns c =
    let d = c in
    λ e. packed-there _ _ d.if-s-start.false d.if-s-start-2.false (not-false _ c.if-not-place.false) _
    c.unpacked_size-u.ensures (not-false _ c.if-not-u.false) (eqb-true _ _ e)
