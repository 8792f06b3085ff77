-- A memory that holds an encoder's state, its front and its horizons: it reads back as the state. Everything about memory that forms an encoder's
-- state goes through this record.
use mathlib.Core.Path.{◌≡◌, sym, ap, ◌∙◌}
use Prim.Native.Nat.{ℕ, ◌≤◌, ◌<◌}
use native.Mathlib.Omega.{arith}
use mathlib.Core.Bool.{false}
use mathlib.Core.List.{List, map}
use lib.Dec.{ltb}
use lib.ListN.{length, length-map}
use borrow.Author.Tests.{le-ltb}
use Rattle.memory.proofs.Order.{split, pick-false}
use Rattle.columns.specs.Pieces.{HasAll}
use Rattle.model.specs.Parts.{Part, streams}
use Rattle.model.specs.Encoder.{sent_index, Encoder, FineSent}
use Rattle.state.specs.Layout.{encoder_length, count_of, status_at}
use Rattle.state.specs.Rows.{rows_of}
use Rattle.state.specs.Front.{marks_of}
use Rattle.state.specs.EncoderState.{sents_of, encoder_of, row_of_sent, encoder_front, horizon_pieces}
use Rattle.state_laws.specs.Laws.{FitsEncoder}
use Rattle.state_laws.proofs.FrontHolds.{HoldsFront}
use Rattle.state_laws.proofs.FrontRead.{read-limit, read_count, read-rows, read-marks}
use Rattle.state_laws.proofs.Each.{Each, found-each}
use Rattle.state_laws.proofs.Horizons.{nontrailers-read, trailers-read}
use Rattle.state_laws.proofs.SentRows.{sents-back, statuses-low}

pub record HoldsEncoder (E : Encoder) (m : List ℕ) : Type 0 where
  pub long : encoder_length ≤ length m
  pub fits : FitsEncoder E
  pub front : HoldsFront (encoder_front E) m
  pub horizons : HasAll m (horizon_pieces E.entries)

-- every entry of a well-formed state is fine
pub fits_each : (E : Encoder) → FitsEncoder E → Each FineSent E.entries
fits_each E fits = found-each FineSent sent_index 62 E.entries fits.forms.order fits.forms.entries

module _ (E : Encoder) (m : List ℕ) (H : HoldsEncoder E m) where
  holds-limit : (encoder_of m).limit ≡ E.limit
  unfolding encoder_of encoder_front
  holds-limit = read-limit (encoder_front E) m H.front

  count-is : count_of m ≡ length E.entries
  unfolding encoder_front
  count-is = read_count (encoder_front E) m H.front ∙ length-map E.entries row_of_sent

  rows_are : rows_of m 0 (length E.entries) ≡ map row_of_sent E.entries
  unfolding encoder_front
  rows_are = rw count-is at (read-rows (encoder_front E) m H.front)

  pub holds-status : (i : ℕ) → i < count_of m → status_at m i ≤ 1
  holds-status i h = statuses-low m E.entries 0 rows_are i (omega arith) (omega (arith, count-is))

  holds-entries : (encoder_of m).entries ≡ E.entries
  unfolding encoder_of
  holds-entries =
      let fine = fits_each E H.fits in
      ap (sents_of m 0) count-is
      ∙ sents-back m E.entries 0 rows_are (nontrailers-read m E.entries fine H.horizons) (trailers-read m E.entries fine H.horizons)

  holds-written : (s : ℕ) (p : Part) → (encoder_of m).written s p ≡ E.written s p
  unfolding encoder_of encoder_front marks_of
  holds-written s p =
      split s streams
      (λ h. read-marks (encoder_front E) m H.front s p h)
      (λ h. pick-false (ltb s streams) _ false (le-ltb s streams h) ∙ sym (H.fits.marks s p h))

  pub holds-state-encoder : encoder_of m ≡ E
  holds-state-encoder = λ k. record { limit = holds-limit k; entries = holds-entries k; written = λ s p. holds-written s p k }
