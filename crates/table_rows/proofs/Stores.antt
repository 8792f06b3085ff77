-- The record stored: held size, then count.
use mathlib.Core.Path.{◌≡◌, ap, ◌∙◌}
use Prim.Native.Nat.{ℕ}
use mathlib.Core.List.{List}
use Rattle.memory.specs.Bytes.{overlay}
use Rattle.memory.specs.Numbers.{number_bytes}
use Rattle.state.specs.Layout.{held_place, count_place}
use Rattle.table_rows.specs.Rows.{recorded}

pub record-stored : (m a b : List ℕ) (held count h n : ℕ) → a ≡ overlay m held_place (number_bytes 2 h) → b ≡ overlay a count_place (number_bytes 2 n)
    → h ≡ held → n ≡ count → b ≡ recorded m held count
unfolding recorded
record-stored m a b held count h n ea eb eh en =
    eb ∙ ap (λ (l : List ℕ). overlay l count_place (number_bytes 2 n)) ea
    ∙ (λ k. overlay (overlay m held_place (number_bytes 2 (eh k))) count_place (number_bytes 2 (en k)))
