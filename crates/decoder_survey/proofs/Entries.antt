-- What an index names in memory that forms a decoder's state: where the search finds it, and that its name and value are short.
-- By the cases of the search, each by what the changes of memory say of it.
use Prim.Native.Nat.{ℕ, ◌≤◌}
use mathlib.Core.Path.{◌≡◌, refl, sym, ap, subst, ◌∙◌}
use native.Mathlib.Omega.{arith}
use mathlib.Core.Bool.{true, false}
use mathlib.Core.List.{List}
use lib.ListN.{length}
use Rattle.memory.proofs.Order.{pick-both}
use Rattle.statics.specs.Table.{Entry}
use Rattle.statics.proofs.Places.{name-most, value-most}
use Rattle.blocks.specs.Meaning.{vacant, holds, is_static}
use Rattle.blocks.proofs.MeaningHeld.{within-static, static-slot, dynamic-slot}
use Rattle.model.specs.Table.{look}
use Rattle.model.specs.Decoder.{held_index, slot_in, lookup}
use Rattle.model_laws.proofs.Tables.{nope}
use Rattle.state.specs.Layout.{count_of}
use Rattle.state.specs.DecoderState.{decoder_of}
use Rattle.state_laws.proofs.DecoderLaws.{decoder-laws}
use Rattle.table_search.specs.Search.{find_from}
use Rattle.entry_places.specs.Place.{place_found, locate, InPlace, place_name, place_value, place_lengths}
use Rattle.entry_places.specs.declared.place.EntryPlace.{EntryPlace}
use Rattle.entry_places.specs.declared.place.EntryPlace.TheVariants.{Static}
use Rattle.std.specs.Prelude.{Option, Some, None, IfSome, MatchOption, unwrap_or}
use Rattle.table_laws.specs.DecoderChanges.{DecoderChanges}
use Rattle.table_laws.proofs.DecoderClaim.{decoder-claim}
use Rattle.decoder_survey.specs.Measure.{Stands}
use Rattle.std.specs.Prelude.{Result, Ok, Err}

pub changes : (m : List ℕ) → Stands m → DecoderChanges m (decoder_of m)
changes m S = decoder-claim.changes m (decoder_of m) S

abbrev pub entry_of : List ℕ → EntryPlace → Entry
entry_of m p = record { name = place_name m p; value = place_value m p }

-- index i names the entry that stands there
pub record Located (m : List ℕ) (i : ℕ) (p : EntryPlace) : Type 0 where
  pub means : lookup (decoder_of m) i ≡ holds (entry_of m p)
  pub inside : InPlace m p
  pub name : length (place_name m p) ≤ 255
  pub value : length (place_value m p) ≤ 2047

-- what a search for index i answers
abbrev pub Looked : List ℕ → ℕ → Option EntryPlace → Type 0
Looked m i o = MatchOption o (lookup (decoder_of m) i ≡ vacant) (Located m i)

module _ (m : List ℕ) (S : Stands m) (i : ℕ) where
  static : is_static i ≡ true → Looked m i (Some (Static (record { value = i })))
  unfolding lookup
  static h = record {
    means = static-slot _ i h;
    inside = within-static i h;
    name = name-most i;
    value = omega (arith, value-most i);
  }

  slot : is_static i ≡ false → lookup (decoder_of m) i ≡ slot_in (look held_index i (decoder_of m).entries)
  unfolding lookup
  slot h = dynamic-slot _ i h

  pub dynamic : is_static i ≡ false → (f : Result ℕ ℕ) → find_from m i (count_of m) 0 ≡ f → Looked m i (place_found f)
  unfolding slot_in
  dynamic h (Ok p) e =
      let r = (changes m S).here i p e in
      let f = (decoder-laws.fits m S.small S.forms).forms.entries i _ r.1 in
      record { means = slot h ∙ ap slot_in r.1; inside = r.0; name = f.name; value = f.value }
  dynamic h (Err p) e = slot h ∙ ap slot_in ((changes m S).nowhere i p e)

  by-search : Looked m i (locate m i)
  unfolding locate
  by-search =
      pick-both (Looked m i) (is_static i) (Some (Static (record { value = i }))) (place_found (find_from m i (count_of m) 0))
      static
      (λ h. dynamic h (find_from m i (count_of m) 0) refl)

  pub looked : {o : Option EntryPlace} → o ≡ locate m i → Looked m i o
  looked e = subst (Looked m i) (sym e) by-search

  pub located : {p : EntryPlace} → locate m i ≡ Some p → Located m i p
  located e = looked (sym e)

pub inside : (m : List ℕ) (i : ℕ) (o : Option EntryPlace) → Looked m i o → IfSome o (InPlace m)
inside m i (Some p) L = L.inside
inside m i None L = tt

-- ---- what lengths that are told say of the place

pub record Sized (m : List ℕ) (i : ℕ) (n v : ℕ) : Type 0 where
  pub place : EntryPlace
  pub located : Located m i place
  pub name : n ≡ length (place_name m place)
  pub value : v ≡ length (place_value m place)

abbrev name-told : Option (ℕ × ℕ) → ℕ
name-told o = (unwrap_or o (0, 0)).0

abbrev value-told : Option (ℕ × ℕ) → ℕ
value-told o = (unwrap_or o (0, 0)).1

pub sized : (m : List ℕ) (i : ℕ) (o : Option EntryPlace) → Looked m i o → (n v : ℕ) → place_lengths m o ≡ Some (n, v) → Sized m i n v
sized m i (Some p) L n v e = record { place = p; located = L; name = sym (ap name-told e); value = sym (ap value-told e) }
sized m i None L n v e = nope (cc)

pub no_lengths : (m : List ℕ) (i : ℕ) (o : Option EntryPlace) → Looked m i o → place_lengths m o ≡ None → lookup (decoder_of m) i ≡ vacant
no_lengths m i (Some p) L e = nope (cc)
no_lengths m i None L e = L
