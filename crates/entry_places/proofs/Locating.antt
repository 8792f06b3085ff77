-- Where an index is looked for: 1 to 61 in the static table, all others in the rows. By the test of the definition. The lengths of what stands there.
use mathlib.Core.Path.{◌≡◌, sym, ap, ap₂, ◌∙◌}
use Prim.Native.Nat.{ℕ, ◌≤◌, ◌<◌}
use mathlib.Core.List.{List}
use Rattle.memory.proofs.Order.{pick_true, pick-false}
use Rattle.blocks.specs.Meaning.{is_static}
use Rattle.blocks.proofs.MeaningHeld.{static-within, static-above}
use lib.ListN.{length}
use Rattle.statics.specs.Table.{place_of, static_name, static_value}
use Rattle.statics.specs.declared.table.StaticPlace.{StaticPlace}
use Rattle.statics.proofs.Places.{name_length, value_length}
use Rattle.state.specs.Layout.{count_of}
use Rattle.table_search.specs.Search.{find_from}
use Rattle.entry_places.specs.Place.{place_found, locate}
use Rattle.entry_places.specs.declared.place.EntryPlace.TheVariants.{Static}
use Rattle.std.specs.Prelude.{Option, Some}
use Rattle.std.specs.Prelude.{Result}

pub locate-static : (m : List ℕ) (i : ℕ) → 1 ≤ i → i ≤ 61 → locate m i ≡ Some (Static (record { value = i }))
unfolding locate
locate-static m i low high = pick_true (is_static i) _ _ (static-within i low high)

pub locate-above : (m : List ℕ) (i : ℕ) → 61 < i → {f : Result ℕ ℕ} → find_from m i (count_of m) 0 ≡ f → locate m i ≡ place_found f
unfolding locate
locate-above m i high e = pick-false (is_static i) _ _ (static-above i high) ∙ ap place_found e

-- the lengths of a static entry, by its place in the static text
pub static-lengths : (i : ℕ) → 1 ≤ i → i ≤ 61 → {p : StaticPlace} → p ≡ place_of i
    → ◌≡◌ {A = Option (ℕ × ℕ)} (Some (p.name, p.value)) (Some (length (static_name i), length (static_value i)))
static-lengths i low high e =
    ap (λ (q : StaticPlace). Some (q.name, q.value)) e ∙ sym (ap₂ (λ (n v : ℕ). Some (n, v)) (name_length i low high) (value_length i low high))
