use Prim.Native.Nat.{ℕ}
use mathlib.Core.Path.{ap, ◌∙◌}
use mathlib.Core.List.{List}
use Rattle.memory.specs.Bytes.{overlay}
use Rattle.memory.specs.Numbers.{number_bytes}
use Rattle.state.specs.Layout.{offsets_place}
use Rattle.state.proofs.row.put_no_rows.Goals as goal

pub returns : goal.returns
returns c = c.put_u16.ensures ∙ ap (λ (l : List ℕ). overlay l offsets_place (number_bytes 2 0)) c.put_u32.ensures
