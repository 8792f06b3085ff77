use Prim.Native.Nat.{ℕ, ◌+◌, ◌*◌, ◌-◌}
use mathlib.Core.Path.{◌≡◌}
use Rattle.columns.specs.Columns.{changed, MakesBytesOf}
use Rattle.columns.proofs.column.change.Given as goal

-- `columns::column::change` meets its contract. The loop's invariant: what is left to change makes of `m` what the whole makes of it at entry.
abbrev pub invariant-loop-i : goal.invariant-loop-i
invariant-loop-i g l =
    (h : ℕ → ℕ) → MakesBytesOf h (goal.F-post g l.f) → changed h 2 l.n l.initial.m l.at ≡ changed h 2 (l.n - l.i) l.m (l.at + 2 * l.i)
