-- What a reader found is as it should be; of a refusal nothing is said. Along a chain of readers, link by link.
use mathlib.Core.Path.{◌≡◌, refl, subst}
use Prim.Native.Nat.{ℕ}
use Rattle.integers.specs.Answers.{Read, on_read}
use Rattle.integers.specs.Integer.{on_int, value}
use Rattle.integers.specs.declared.integer.WireInt.{WireInt}
use Rattle.integers.proofs.Told.{Told}
use Rattle.std.specs.Prelude.{Ok, Err}

abbrev pub Found : {X : Type 0} → (X → ℕ → Type 0) → Read X → Type 0
Found P (Ok found) = P found.0 found.1
Found P (Err why) = Unit {0}

module _ {X : Type 0} (P : X → ℕ → Type 0) where
  pub found-each : (r : Read X) → Told (Found P) r → (x : X) (next : ℕ) → r ≡ Ok (x, next) → P x next
  found-each r h x next e = subst (Found P) e h.told

  -- a reader, then what follows
  pub found-on-read : {Y : Type 0} (r : Read Y) {f : Y → ℕ → Read X}
      → ((y : Y) (next : ℕ) → r ≡ Ok (y, next) → Told (Found P) (f y next)) → Told (Found P) (on_read Err r f)
  found-on-read (Ok (y, next)) g = g y next refl
  found-on-read (Err why) g = record { told = tt }

  pub found-on-int : (r : Read WireInt) {f : ℕ → ℕ → Read X}
      → ((v next : ℕ) → r ≡ value v next → Told (Found P) (f v next)) → Told (Found P) (on_int Err r f)
  found-on-int r g = found-on-read r (λ n next e. g n.value next e)
