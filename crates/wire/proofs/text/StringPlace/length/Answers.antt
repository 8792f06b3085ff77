use mathlib.Core.Path.{refl}
use Rattle.wire.specs.Text.{string_length}
use Rattle.wire.proofs.text.StringPlace.length.Goals as goal

-- `StringPlace::length` gives the place's size, which is the string's length.
pub returns : goal.returns
unfolding string_length
returns c = refl
