-- A field that is unknown to the tables is written as a literal with both its strings: no static name has 127 bytes, and by what happened no entry serves.
use mathlib.Core.Path.{◌≡◌, refl, ap, ◌∙◌}
use mathlib.Core.Logic.{⊎_elim}
use mathlib.Core.Bool.{Bool, false}
use mathlib.Core.Option.{none}
use Prim.Native.Nat.{ℕ, ◌+◌, ◌*◌}
use native.Mathlib.Omega.{arith}
use mathlib.Core.List.{List, [], ◌∷◌}
use lib.ListN.{length, length-append}
use lib.Dec.{T, leb, leb→le}
use Rattle.memory.specs.Bytes.{Small}
use Rattle.integers.specs.Integer.{int_wire, group_wire}
use Rattle.integers.proofs.Lengths.{int-one}
use Rattle.wire.specs.Text.{packs, string_wire}
use Rattle.wire.specs.Name.{Name}
use Rattle.wire.proofs.TextWriting.{plain-wire, literal-length-wire}
use Rattle.statics.specs.Table.{entries, entry_at, static_name}
use Rattle.statics.proofs.Places.{below, below_at}
use Rattle.fields.specs.Form.{Field}
use Rattle.blocks.specs.Representation.{Representation, literal, representation_wire}
use Rattle.blocks.proofs.Writing.{literal-length}
use Rattle.model.specs.Encoder.{Encoder, start_encoder, choose}
use Rattle.model.specs.EncoderCalls.{after_encoder}
use Rattle.model.specs.Happened.{Happened, empty}
use Rattle.model_laws.proofs.SentHappened.{ToldAfter, told-start}
use Rattle.state.specs.EncoderState.{encoder_of}
use Rattle.encoder.specs.Calls.{start_call}
use Rattle.link.specs.Calls.{EncoderCall, AllEncoderBytes, encoder_after}
use Rattle.link.specs.Happened.{history_there}
use Rattle.link.specs.Histories.{Static, Serving, Named, Equal, NamedBy, LiteralFor, WrittenFor}
use Rattle.link.proofs.Lifted.{StandsEncoder}
use Rattle.link.proofs.EncoderLifting.{start-encoder}
use Rattle.link.proofs.Runs.{encoder_calls_of, after-encoder}
use Rattle.link.proofs.EncoderTables.{stands-forms, told-since}
use Rattle.link.proofs.EncoderChoices.{all-written}
use Rattle.block_room.specs.Claim.{Unknown}

-- ---- the static table: a computed test
abbrev short_name : ℕ → Bool
short_name i = leb (length (static_name i)) 126

names-short : T (below short_name 62)
unfolding entries entry_at
names-short = tt

no_static : (name : List ℕ) → length name ≡ 127 → (i : ℕ) → Static (Named name) i → ⊥
no_static name e i (low, high, same) =
    omega (arith, ap length same, leb→le (length (static_name i)) 126 (below_at short_name 62 i names-short (omega arith)))

-- ---- the choice, by what happened
module _ (hs : List Happened) (f : Field) (long : length f.name ≡ 127) (unknown : (i : ℕ) → Serving hs (Named f.name) i → ⊥) where
  name-only : (n : Name) → NamedBy hs f.name n → n ≡ Name.literal f.name
  name-only n =
      ⊎_elim (λ a. absurd (no_static f.name long a.0 a.1.there))
      (λ a. ⊎_elim (λ b. absurd (unknown b.0 b.1.there)) (λ b. b.1) a.1)

  literal-only : (r : Representation) → LiteralFor hs f r → r ≡ literal f.flag (Name.literal f.name) f.value
  literal-only r a = a.2 ∙ ap (λ (n : Name). literal f.flag n f.value) (name-only a.0 a.1)

  written-only : (r : Representation) → WrittenFor hs f r → r ≡ literal f.flag (Name.literal f.name) f.value
  written-only r =
      ⊎_elim (λ a. literal-only r a.1)
      (λ a. ⊎_elim (λ b. absurd (same-static b.0 b.1.there))
      (λ b. ⊎_elim (λ d. absurd (same-serving d.0 d.1.there)) (λ d. literal-only r d.1) b.1)
      a.1)
    where
      same-static : (i : ℕ) → Static (Equal f.name f.value) i → ⊥
      same-static i (low, high, same) = no_static f.name long i (low, high, same.0)

      same-serving : (i : ℕ) → Serving hs (Equal f.name f.value) i → ⊥
      same-serving i (e, held, free, same) = unknown i (e, held, free, same.0)

-- ---- after calls from a start
module _ (m : List ℕ) (limit : ℕ) (small : Small m) (started : (start_call m limit).answer.number ≡ 0) (cs : List EncoderCall) (b : AllEncoderBytes cs) where
  abbrev first : List ℕ
  first = (start_call m limit).memory

  abbrev now : Encoder
  now = after_encoder (start_encoder limit) (encoder_calls_of (start_encoder limit) cs)

  begins : StandsEncoder first (start_encoder limit)
  begins = start-encoder m limit small started

  pub stands : StandsEncoder (encoder_after first cs) now
  stands = after-encoder first (start_encoder limit) begins cs b

  told : ToldAfter empty (λ i. false) (λ i. none) (history_there first cs) now.entries
  unfolding start_encoder
  told = told-since first (start_encoder limit) begins cs b empty (λ i. false) (λ i. none) told-start

  pub chosen : (f : Field) → Unknown first cs f
      → choose (encoder_of (encoder_after first cs)).entries f ≡ literal f.flag (Name.literal f.name) f.value
  chosen f u =
      let w = all-written (history_there first cs) now.entries (stands-forms (encoder_after first cs) now stands).order told (f ∷ []) (u.fine, tt) in
      ap (λ (E : Encoder). choose E.entries f) stands.state
      ∙ written-only (history_there first cs) f u.name_length u.unknown (choose now.entries f) w.0

-- ---- its bytes: 127 is the first length that takes two
two_bytes : length (int_wire 7 0 127) ≡ 2
unfolding int_wire group_wire
two_bytes = refl

pub plain_more : (xs : List ℕ) → length xs ≡ 127 → packs xs ≡ false → length (string_wire xs) ≡ 129
plain_more xs e plain =
    ap length (plain-wire xs plain)
    ∙ length-append (int_wire 7 0 (length xs)) xs
    ∙ ap (λ (n : ℕ). length (int_wire 7 0 n) + n) e
    ∙ ap (λ (n : ℕ). n + 127) two_bytes

pub literal-most : (flag : ℕ) (name value : List ℕ) → length name ≡ 127 → length value ≡ 127 → packs name ≡ false → packs value ≡ false
    → length (representation_wire (literal flag (Name.literal name) value)) ≡ 259
literal-most flag name value n v p q =
    omega (
      arith,
      literal-length flag (Name.literal name) value,
      literal-length-wire 6 (flag * 64) name,
      int-one 6 (flag * 64) 0 (omega arith),
      plain_more name n p,
      plain_more value v q,
    )
