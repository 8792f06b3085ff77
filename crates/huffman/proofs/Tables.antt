-- A table and what it says, held against each other at every place at once, by computing.
use mathlib.Core.Path.{◌≡◌}
use mathlib.Core.Bool.{true}
use Prim.Native.Nat.{ℕ, ◌<◌}
use lib.Dec.{eqb}
use borrow.Author.Tests.{eqb-true}
use Rattle.std.proofs.lemmas.Bool.{agree_below, agree_below_at}

pub table-at : (f g : ℕ → ℕ) (n : ℕ) → agree_below (λ k. eqb (f k) (g k)) (λ _. true) n ≡ true → (i : ℕ) → i < n → f i ≡ g i
table-at f g n t i h = eqb-true (f i) (g i) (agree_below_at (λ k. eqb (f k) (g k)) (λ _. true) n i t h)
