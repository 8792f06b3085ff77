-- A count of elements at the start of a list.
use Rattle.std.specs.Prelude.{ℕ, ◌≤◌, ◌≡◌, List, length, take}

-- n counts elements at the start of l. The second part follows from the first; both are stated so that the prover finds them at a part `&l[..n]`.
abbrev pub Counts : ℕ → List ℕ → Type 0
Counts n l = (n ≤ length l) × (n ≡ length (take n l))
