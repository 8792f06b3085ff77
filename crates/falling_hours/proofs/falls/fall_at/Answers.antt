use Rattle.std.proofs.Common.{rules}
use mathlib.Core.Bool.{true, false}
use mathlib.Core.Path.{◌∙◌}
use Rattle.falling_hours.specs.Falls.{is_apart, fall_at}
use Rattle.falling_hours.proofs.falls.fall_at.Goals as goal

pub returns : goal.returns
unfolding fall_at
returns c =
    let a = c.args in
    let below = c.lowest-below.ensures (is_apart a.machine a.tenths true) (λ r b h. search rules) in
    let above = c.lowest-above.ensures (is_apart a.machine a.tenths false) (λ r b h. search rules) in
    c.first_fall.ensures ∙ rw (above, below)
