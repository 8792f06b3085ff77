-- The sizes are the lengths of what the wire's definitions say, for every width and every number.
-- By the equations of `group_wire` and `int_wire`, group by group, and by the laws of append.
use mathlib.Core.Path.{◌≡◌, refl, sym, ap, ◌∙◌}
use Prim.Native.Nat.{ℕ, ◌+◌, ◌-◌, ◌*◌, ◌/◌, ◌^◌, ◌≤◌, ◌<◌}
use native.Mathlib.Omega.{arith}
use mathlib.Core.List.{List, []}
use lib.ListN.{length}
use Rattle.memory.proofs.Order.{split}
use Rattle.integers.specs.Integer.{int_wire, group_wire}
use Rattle.integers.proofs.Writing.{last-group, next-group, int-past-prefix}
use Rattle.integers.proofs.Lengths.{int-one}
use Rattle.wire.specs.Text.{wire_size, string_wire}
use Rattle.wire.specs.Name.{Name, name_wire}
use Rattle.stream_lists.specs.StreamList.{list_wire, deltas_wire}
use Rattle.wire.proofs.TextWriting.{string-length-wire, index-wire, literal-length-wire}
use Rattle.stream_lists.proofs.ListWriting.{list_length}
use Rattle.instructions.specs.Instruction.{insert, delete, acknowledge, instruction_wire}
use Rattle.instructions.proofs.Writing.{insert-length, delete-length, acknowledge-wire}
use Rattle.blocks.specs.Representation.{indexed, literal, representation_wire}
use Rattle.blocks.proofs.Writing.{indexed-wire, literal-length}
use Rattle.sizes.specs.Sizes.{groups_size, int_size, string_size, insert_index_size, insert_text_size, delete_size, literal_index_size, literal_text_size}
use Rattle.sizes.proofs.Equations.{groups-one, groups-two, groups-three, groups-four, int-prefix, int-groups}

-- a group, and as many more as the rest takes
one_more_lem : (n r : ℕ) → 0 < n → 128 ≤ r → length (group_wire n r) ≡ 1 + length (group_wire (n - 1) (r / 128))
one_more_lem n r p h = omega (arith, ap length (next-group n r p h))

-- the fourth group takes what is left
last-of : (q : ℕ) → length (group_wire 0 q) ≡ 1
unfolding group_wire
last-of q = refl

groups-size : (r : ℕ) → length (group_wire 3 r) ≡ groups_size r
groups-size r =
    split r 128
    (λ h. ap length (last-group 3 r h) ∙ sym (groups-one r h))
    (λ h. let a = one_more_lem 3 r (omega arith) h in
    split r 16384
    (λ k. omega (arith, ap length (last-group 2 (r / 128) (omega arith)), groups-two r h k))
    (λ k. let b = one_more_lem 2 (r / 128) (omega arith) (omega arith) in
    split r 2097152
    (λ l. omega (arith, ap length (last-group 1 (r / 128 / 128) (omega arith)), groups-three r k l))
    (λ l. let d = one_more_lem 1 (r / 128 / 128) (omega arith) (omega arith) in
    omega (arith, last-of (r / 128 / 128 / 128), groups-four r l))))

pub int-size : (k top v : ℕ) → length (int_wire k top v) ≡ int_size k v
int-size k top v =
    split v (2 ^ k - 1)
    (λ h. int-one k top v h ∙ sym (int-prefix k v (2 ^ k - 1) refl h))
    (λ h. let e = ap length (int-past-prefix k top v (2 ^ k) refl h) in
    omega (arith, groups-size (v - (2 ^ k - 1)), int-groups k v (2 ^ k - 1) refl h))

pub string-size : (xs : List ℕ) → length (string_wire xs) ≡ string_size (wire_size xs)
unfolding string_size
string-size xs = omega (arith, string-length-wire xs 0, int-size 7 0 (wire_size xs))

-- a name's index, or a byte that says that a string follows
module _ (k top : ℕ) where
  index-size : (j : ℕ) → length (name_wire k top (Name.indexed j)) ≡ int_size k j
  index-size j = ap length (index-wire k top j) ∙ int-size k top j

  text-size : (name : List ℕ) → 0 < 2 ^ k - 1 → length (name_wire k top (Name.literal name)) ≡ 1 + string_size (wire_size name)
  text-size name h = omega (arith, literal-length-wire k top name, int-one k top 0 h, string-size name)

pub insert-index-size : (i j : ℕ) (value : List ℕ)
    → length (instruction_wire (insert i (Name.indexed j) value)) ≡ insert_index_size i j (wire_size value)
unfolding insert_index_size
insert-index-size i j value =
    omega (arith, insert-length i (Name.indexed j) value, int-size 7 128 i, index-size 8 0 j, string-size value)

pub insert-text-size : (i : ℕ) (name value : List ℕ)
    → length (instruction_wire (insert i (Name.literal name) value)) ≡ insert_text_size i (wire_size name) (wire_size value)
unfolding insert_text_size
insert-text-size i name value =
    omega (arith, insert-length i (Name.literal name) value, int-size 7 128 i, text-size 8 0 name (omega arith), string-size value)

-- a list of no streams: its horizon, and the count 0
empty-size : (h : ℕ) → length (list_wire h []) ≡ int_size 8 h + 1
unfolding deltas_wire
empty-size h = omega (arith, list_length h [] h 0 refl refl, int-size 8 0 h, int-one 8 0 0 (omega arith))

pub delete-size : (i h t : ℕ)
    → length (instruction_wire (delete i (record { horizon = h; streams = [] }) (record { horizon = t; streams = [] }))) ≡ delete_size i h t
unfolding delete_size
delete-size i h t = omega (arith, delete-length i (record { horizon = h; streams = [] }) (record { horizon = t; streams = [] }), int-size 6 0 i, empty-size h, empty-size t)

pub acknowledge-size : (i : ℕ) → length (instruction_wire (acknowledge i)) ≡ int_size 6 i
acknowledge-size i = ap length (acknowledge-wire i) ∙ int-size 6 64 i

pub indexed-size : (i : ℕ) → length (representation_wire (indexed i)) ≡ int_size 7 i
indexed-size i = ap length (indexed-wire i) ∙ int-size 7 128 i

pub literal-index-size : (flag j : ℕ) (value : List ℕ)
    → length (representation_wire (literal flag (Name.indexed j) value)) ≡ literal_index_size j (wire_size value)
unfolding literal_index_size
literal-index-size flag j value =
    omega (arith, literal-length flag (Name.indexed j) value, index-size 6 (flag * 64) j, string-size value)

pub literal-text-size : (flag : ℕ) (name value : List ℕ)
    → length (representation_wire (literal flag (Name.literal name) value)) ≡ literal_text_size (wire_size name) (wire_size value)
unfolding literal_text_size
literal-text-size flag name value =
    omega (arith, literal-length flag (Name.literal name) value, text-size 6 (flag * 64) name (omega arith), string-size value)
