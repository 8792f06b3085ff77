-- The name that an insert gives by index: a static entry's, that of the entry in a row, or none.
-- By what the index names in memory and in the model's table.
use mathlib.Core.Path.{◌≡◌, refl, sym, ap, subst, ◌∙◌}
use Prim.Native.Nat.{ℕ, ◌+◌, ◌≤◌, ◌<◌}
use native.Mathlib.Omega.{arith}
use mathlib.Core.Bool.{true, false}
use mathlib.Core.Option.{Option, none, some}
use mathlib.Core.List.{List, []}
use lib.ListN.{length}
use Rattle.memory.proofs.Order.{pick-both}
use Rattle.memory.proofs.Places.{length_part}
use Rattle.integers.specs.Answers.{refusal, vacant}
use Rattle.integers.specs.declared.number.TableIndex.{TableIndex}
use Rattle.wire.specs.Name.{indexed}
use Rattle.statics.specs.Table.{static_name}
use Rattle.blocks.specs.Meaning.{is_static}
use Rattle.blocks.proofs.MeaningHeld.{within-static, static-slot, dynamic-slot}
use Rattle.model.specs.Table.{look}
use Rattle.model.specs.Decoder.{Held, held_index, slot_in, lookup, slot_name, name_bytes, insert_named}
use Rattle.state.specs.Layout.{count_of, text_place, offset_at, name_length_at}
use Rattle.state.specs.Rows.{name_at}
use Rattle.state.specs.DecoderState.{decoder_of, overlay_decoder}
use Rattle.table_search.specs.Search.{find_from}
use Rattle.entry_places.specs.Place.{place_found, locate}
use Rattle.entry_places.specs.declared.place.EntryPlace.{EntryPlace}
use Rattle.entry_places.specs.declared.place.EntryPlace.TheVariants.{Static, Dynamic}
use Rattle.table_laws.specs.DecoderChanges.{found}
use Rattle.reply.specs.Result.{stepped}
use Rattle.decoder.proofs.Standing.{Stands, Leaves, changes, stays}
use Rattle.decoder_insert.specs.Inserts.{named_insert, indexed_insert}
use Rattle.std.specs.Prelude.{Result, Ok, Err, Option as Perhaps, Some, None}

module _ (m : List ℕ) (st : Stands m) where
  -- the name of the entry in a row has its length
  pub row-name : (x row : ℕ) → found m x row → (row < 128) × (name_length_at m row ≤ 4096) × (length (name_at m row) ≡ name_length_at m row)
  row-name x row e =
      let C = changes m st in
      let below = (C.here x row e).0 in
      let text = C.ordered.text row below in
      let name = C.ordered.name row below in
      (omega (arith, C.ordered.few), omega arith, length_part m (text_place + offset_at m row) (name_length_at m row) (omega (arith, C.ordered.long)))

  module _ (y : ℕ) where
    abbrev named : Option (List ℕ)
    named = name_bytes (lookup (decoder_of m)) (indexed y)

    abbrev Names : Perhaps EntryPlace → Type 0
    Names (Some (Static i)) = ((1 ≤ i.value) × (i.value ≤ 61)) × (i.value ≡ y) × (named ≡ some (static_name i.value))
    Names (Some (Dynamic row)) = found m y row × (named ≡ some (name_at m row))
    Names None = named ≡ none

    static-named : is_static y ≡ true → named ≡ some (static_name y)
    unfolding name_bytes lookup slot_name
    static-named h = ap slot_name (static-slot _ y h)

    dynamic-named : (o : Option Held) → is_static y ≡ false → look held_index y (decoder_of m).entries ≡ o → named ≡ slot_name (slot_in o)
    unfolding name_bytes lookup
    dynamic-named o h e = ap slot_name (dynamic-slot _ y h ∙ ap slot_in e)

    names-found : is_static y ≡ false → (f : Result ℕ ℕ) → find_from m y (count_of m) 0 ≡ f → Names (place_found f)
    unfolding slot_in slot_name
    names-found h (Ok row) e = (e, dynamic-named _ h ((changes m st).here y row e).1)
    names-found h (Err place) e = dynamic-named none h ((changes m st).nowhere y place e)

    names : Names (locate m y)
    unfolding locate
    names =
        pick-both Names (is_static y) (Some (Static (record { value = y }))) (place_found (find_from m y (count_of m) 0))
        (λ e. (within-static y e, refl, static-named e))
        (λ e. names-found e (find_from m y (count_of m) 0) refl)

    module _ (p : Perhaps EntryPlace) (told : p ≡ locate m y) where
      told_names : Names p
      told_names = subst Names (sym told) names

      pub name-static : (i : TableIndex) → p ≡ Some (Static i) → ((1 ≤ i.value) × (i.value ≤ 61)) × (i.value ≡ y) × (named ≡ some (static_name i.value))
      name-static i e = subst Names e told_names

      pub name-row : (row : ℕ) → p ≡ Some (Dynamic row) → found m y row × (named ≡ some (name_at m row))
      name-row row e = subst Names e told_names

      pub name-nowhere : p ≡ None → named ≡ none
      name-nowhere e = subst Names e told_names

    -- the insert that has this name
    pub indexed-named : (x : ℕ) (value : List ℕ) (taken : ℕ) (name : List ℕ) → named ≡ some name
        → indexed_insert m x y value taken ≡ named_insert m x name value taken
    indexed-named x value taken name e = ap (λ (o : Option (List ℕ)). stepped overlay_decoder m [] (insert_named (decoder_of m) x value taken o)) e

    pub indexed-vacant : (x : ℕ) (value : List ℕ) (taken : ℕ) → named ≡ none → Leaves (indexed_insert m x y value taken) (refusal vacant) m
    unfolding insert_named
    indexed-vacant x value taken e = stays m st _ vacant (ap (insert_named (decoder_of m) x value taken) e)
