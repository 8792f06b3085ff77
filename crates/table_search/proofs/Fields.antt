-- The name and the value of a row as parts of memory: where they end, and how long they are.
use mathlib.Core.Path.{◌≡◌, ap, ◌∙◌}
use Prim.Native.Nat.{ℕ, ◌+◌, ◌-◌, ◌≤◌, ◌<◌}
use native.Mathlib.Omega.{arith}
use mathlib.Core.List.{List}
use lib.ListN.{length}
use Rattle.memory.specs.Bytes.{part}
use Rattle.memory.proofs.Places.{length_part}
use Rattle.state.specs.Layout.{text_place, count_of, offset_at, name_length_at, value_length_at}
use Rattle.state.specs.Rows.{name_at, value_at}
use Rattle.table_search.specs.Search.{Ordered}

-- a part by the places where it starts and ends
pub part-between : (m : List ℕ) (a b n k : ℕ) → a ≡ b → n ≡ k → part m a (a + n - a) ≡ part m b k
part-between m a b n k d e = let f : a + n - a ≡ k = omega arith in ap (part m a) f ∙ ap (λ (j : ℕ). part m j k) d

-- the text of a row lies in memory, whole
module _ (m : List ℕ) (o : Ordered m) (i : ℕ) (h : i < count_of m) where
  pub name-end : text_place + offset_at m i + name_length_at m i ≤ length m
  name-end = omega (arith, o.name i h, o.text i h, o.long)

  -- where the next row's text starts
  pub value-stop : text_place + offset_at m i + name_length_at m i + value_length_at m i ≡ text_place + offset_at m (i + 1)
  value-stop = omega (arith, o.name i h)

  pub value-end : text_place + offset_at m i + name_length_at m i + value_length_at m i ≤ length m
  value-end = omega (arith, o.name i h, o.text i h, o.long)

  pub length-name : length (name_at m i) ≡ name_length_at m i
  length-name = length_part m (text_place + offset_at m i) (name_length_at m i) name-end

  pub length-value : length (value_at m i) ≡ value_length_at m i
  length-value = length_part m (text_place + offset_at m i + name_length_at m i) (value_length_at m i) value-end
