use Prim.Native.Nat.{ℕ, ◌≤◌}
use mathlib.Core.Path.{ap, ap₂, sym, subst, ◌∙◌}
use native.Mathlib.Omega.{arith}
use Rattle.integers.specs.declared.number.TableIndex.{TableIndex}
use Rattle.static_search.specs.declared.hashes.Hashed.{Hashed}
use Rattle.static_search.proofs.Hashing.{hash-within, hash-parts}
use Rattle.static_search.proofs.hashes.hashed_entry.Goals as goal

pub new-requires : goal.new-requires
new-requires c = omega (arith, hash-within c.args.hash, hash-parts c.args.hash _ c.stored_entry-stored.ensures)

pub returns : goal.returns
returns c =
    let hash = c.args.hash in
    let p = hash-parts hash _ c.stored_entry-stored.ensures in
    let i = c.new.ensures ∙ ap (λ (k : ℕ). record { value = k }) p.0 in
    let e = ap₂ {C = Hashed} (λ (k : TableIndex) (n : ℕ). record { index = k; length = n }) i p.1 in
    record { value = e; le_value = subst (λ (r : Hashed). (1 ≤ r.index.value) × (r.index.value ≤ 61)) (sym e) (hash-within hash) }
