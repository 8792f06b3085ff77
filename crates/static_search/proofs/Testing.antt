-- One entry of the static table compared with a name or a value: lengths that differ decide, and else the bytes at the place of a name do.
use mathlib.Core.Path.{◌≡◌, refl, sym, ap, ap₂, ◌∙◌}
use mathlib.Core.Bool.{false}
use Prim.Native.Nat.{ℕ, ◌+◌, ◌≤◌}
use native.Mathlib.Omega.{arith}
use mathlib.Core.List.{List}
use lib.ListN.{length}
use Rattle.memory.specs.Bytes.{part}
use Rattle.memory.specs.Compare.{same_at, same}
use Rattle.memory.proofs.Places.{part-all}
use Rattle.memory.proofs.Sameness.{same_at-same, length-same}
use Rattle.statics.specs.Table.{entry_at, static_name, static_value}
use Rattle.static_search.specs.Search.{has_name}
use Rattle.static_search.specs.Hash.{has_value}
use Rattle.statics.specs.declared.table.StaticPlace.{StaticPlace}
use Rattle.statics.proofs.Entries.{Stands}

-- a list that stands in a text at a place, compared with a list of its length
pub same-part : (text : List ℕ) (at n : ℕ) (x y : List ℕ) → part text at n ≡ x → at + n ≤ length text → n ≡ length y
    → same_at n text at y 0 ≡ same x y
same-part text at n x y e b l =
    same_at-same n text at y 0 b (omega arith) ∙ ap₂ same e (ap (part y 0) l ∙ part-all y)

module _ {text : List ℕ} {p : StaticPlace} (i : ℕ) (s : Stands text p (entry_at i)) (name : List ℕ) where
  module _ (l : length (static_name i) ≡ length name) where
    name-size : p.name ≡ length name
    name-size = sym s.name_length ∙ l

    pub name-end : p.start + length name ≤ length text
    name-end = omega (arith, s.end, name-size)

    pub name-same : same_at (length name) text p.start name 0 ≡ has_name i name
    unfolding has_name
    name-same = same-part text p.start (length name) (static_name i) name (ap (part text p.start) (sym name-size) ∙ s.name) name-end refl

module _ {text : List ℕ} {p : StaticPlace} (i : ℕ) (s : Stands text p (entry_at i)) (value : List ℕ) where
  pub value-other : (p.value ≡ length value → ⊥) → false ≡ has_value i value
  unfolding has_value
  value-other f = sym (length-same (static_value i) value (λ e. f (sym s.value_length ∙ e)))
