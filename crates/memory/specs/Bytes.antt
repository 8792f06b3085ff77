-- Bytes at places of a list: parts, runs of stores, and what stands where.
use Rattle.std.specs.Prelude.{ℕ, ◌+◌, ◌<◌, ◌≡◌, List, [], ◌∷◌, length, get_or, take, drop, set}

-- the n elements of l from the place at on
abbrev pub part : List ℕ → ℕ → ℕ → List ℕ
part l at n = take n (drop at l)

-- l, with the elements vs stored from the place at on
abbrev pub overlay : List ℕ → ℕ → List ℕ → List ℕ
overlay l at [] = l
overlay l at (v ∷ vs) = overlay (set l at v) (at + 1) vs

-- the elements vs stand in l from the place at on
abbrev pub Has : List ℕ → ℕ → List ℕ → Type 0
Has l at [] = Unit {0}
Has l at (v ∷ vs) = (at < length l) × (get_or l at 0 ≡ v) × Has l (at + 1) vs

-- l, with its n elements from the place `from` on copied to the place `to`
abbrev pub moved : List ℕ → ℕ → ℕ → ℕ → List ℕ
moved l to from n = overlay l to (part l from n)

-- every element is a byte
abbrev pub Small : List ℕ → Type 0
Small l = (k : ℕ) → get_or l k 0 < 256
