-- The bytes of a block's fields, turn by turn: the rest laid over the output so far is the whole laid over the output as it was.
-- By the cases of what the next representation and the rest mean.
use Prim.Native.Nat.{ℕ, ◌+◌, ◌≤◌, ◌<◌}
use mathlib.Core.Path.{◌≡◌, refl, sym, ap, ap₂, subst, ◌∙◌}
use native.Mathlib.Omega.{arith}
use mathlib.Core.List.{List, ◌++◌}
use lib.ListN.{length, length-append}
use Rattle.memory.specs.Bytes.{overlay}
use Rattle.memory.proofs.Overlay.{length-overlay, overlay-append}
use Rattle.fields.specs.Form.{list_form}
use Rattle.blocks.specs.Reading.{read_representation}
use Rattle.blocks.specs.Meaning.{FieldMeaning, field, BlockMeaning, list, after_field}
use Rattle.blocks.specs.declared.read.RepresentationPlace.{RepresentationPlace}
use Rattle.decoder_survey.specs.Measure.{field_at, IsField, field_bytes, ReadsWell, meaning_of, IsList, list_bytes}
use Rattle.decoder_survey.specs.Passes.{meaning_from, Unwritten}
use Rattle.decoder_survey.proofs.Rest.{whole, rest-none, turn}
use Rattle.std.specs.Prelude.{Ok}

-- ---- one field, and what follows it

record Parts (F : FieldMeaning) (M : BlockMeaning) : Type 0 where
  first : IsField F
  rest : IsList M
  bytes : list_bytes (after_field F M) ≡ field_bytes F ++ list_bytes M

parts : (F : FieldMeaning) (M : BlockMeaning) → IsList (after_field F M) → Parts F M
unfolding list_form
parts (field f) (list fs) h = record { first = tt; rest = tt; bytes = refl }
parts (field f) (BlockMeaning.waits i) h = absurd h
parts (FieldMeaning.waits i) M h = absurd h

-- ---- a block

-- before the turn at a place, with the output so far, which goes to the place `to`; in the end the goal is there
pub record Writing (m s lent goal out : List ℕ) (to at : ℕ) : Type 0 where
  pub rest : Unwritten m s out at to
  pub laid : overlay out to (list_bytes (meaning_from m s at)) ≡ goal
  pub same : length out ≡ length lent

pub writing-starts : (m s out : List ℕ) → ReadsWell s → IsList (meaning_of m s) → length (list_bytes (meaning_of m s)) ≤ length out
    → Writing m s out (overlay out 0 (list_bytes (meaning_of m s))) out 0 0
writing-starts m s out h l r =
    let w = whole m s h in
    record {
      rest = record {
        reads = w.reads;
        meant = subst IsList w.means l;
        room = omega (arith, ap (λ (b : BlockMeaning). length (list_bytes b)) w.means);
      };
      laid = sym (ap (λ (b : BlockMeaning). overlay out 0 (list_bytes b)) w.means);
      same = refl;
    }

pub writing-on : (m s out : List ℕ) (to at : ℕ) → Unwritten m s out at to → Writing m s out (overlay out to (list_bytes (meaning_from m s at))) out to at
writing-on m s out to at u = record { rest = u; laid = refl; same = refl }

module _ (m s lent goal out : List ℕ) (to at : ℕ) (W : Writing m s lent goal out to at) where
  module _ (h : at < length s) (p : RepresentationPlace) (next : ℕ) (e : read_representation s at ≡ Ok (p, next)) where
    abbrev F : FieldMeaning
    F = field_at m s p

    abbrev M : BlockMeaning
    M = meaning_from m s next

    next-parts : Parts F M
    next-parts = parts F M (subst IsList (turn m s at W.rest.reads h p next e).means W.rest.meant)

    rest-bytes : list_bytes (meaning_from m s at) ≡ field_bytes F ++ list_bytes M
    rest-bytes = ap list_bytes (turn m s at W.rest.reads h p next e).means ∙ next-parts.bytes

    rest-length : length (list_bytes (meaning_from m s at)) ≡ length (field_bytes F) + length (list_bytes M)
    rest-length = ap length rest-bytes ∙ length-append (field_bytes F) (list_bytes M)

    -- a field comes next, and has its room
    pub writing-next : IsField F × (to + length (field_bytes F) ≤ length out)
    writing-next = (next-parts.first, omega (arith, W.rest.room, rest-length))

    pub writing-turn : (out' : List ℕ) (to' : ℕ) → to' ≡ to + length (field_bytes F) → out' ≡ overlay out to (field_bytes F) → Writing m s lent goal out' to' next
    writing-turn out' to' d k =
        let n : length out' ≡ length out = ap length k ∙ length-overlay out to (field_bytes F) in
        record {
          rest = record {
            reads = (turn m s at W.rest.reads h p next e).reads;
            meant = next-parts.rest;
            room = omega (arith, W.rest.room, rest-length);
          };
          laid =
              ap₂ (λ (o : List ℕ) (t : ℕ). overlay o t (list_bytes M)) k d
              ∙ sym (overlay-append out to (field_bytes F) (list_bytes M)) ∙ ap (overlay out to) (sym rest-bytes) ∙ W.laid;
          same = n ∙ W.same;
        }

  pub writing-ends : length s ≤ at → out ≡ goal
  unfolding list_form
  writing-ends h = ap (λ (b : BlockMeaning). overlay out to (list_bytes b)) (sym (rest-none m s at h)) ∙ W.laid
