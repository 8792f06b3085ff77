-- A memory that holds a decoder's state, its front and its deletes: it reads back as the state, and the overlay of a state makes such a memory.
-- Everything about memory that forms a decoder's state goes through this record.
use mathlib.Core.Path.{◌≡◌, ap, ◌∙◌}
use Prim.Native.Nat.{ℕ, ◌≤◌}
use native.Mathlib.Omega.{arith}
use mathlib.Core.List.{List, map}
use lib.ListN.{length}
use Rattle.memory.specs.Bytes.{overlay, Has}
use Rattle.memory.proofs.Overlay.{length-overlay, overlay-same}
use Rattle.memory.proofs.Places.{has-overlay}
use Rattle.model.specs.Decoder.{Decoder}
use Rattle.state.specs.Layout.{decoder_length, deletes_place}
use Rattle.state.specs.DecoderState.{held_of_row, deletes_of, decoder_of, deletes_bytes, decoder_front, overlay_decoder}
use Rattle.state.specs.Front.{overlay_front}
use Rattle.state_laws.specs.Laws.{FitsDecoder}
use Rattle.state_laws.proofs.FrontHolds.{HoldsFront}
use Rattle.state_laws.proofs.FrontRead.{read-limit, read-deletes, read-rows}
use Rattle.state_laws.proofs.FrontOverlay.{length-overlay_front, overlay-holds, overlay-self, holds-beyond}
use Rattle.state_laws.proofs.FrontMarks.{holds-marks}
use Rattle.state_laws.proofs.DeletesRead.{length-deletes_bytes, deletes-back}
use Rattle.state_laws.proofs.HeldRows.{held_back, fits-few, fits-lists, fits-front}

pub record HoldsDecoder (D : Decoder) (m : List ℕ) : Type 0 where
  pub long : decoder_length ≤ length m
  pub fits : FitsDecoder D
  pub front : HoldsFront (decoder_front D) m
  pub deletes : Has m deletes_place (deletes_bytes D.deletes)

-- ---- it reads back, and the overlay of the state leaves it

module _ (D : Decoder) (m : List ℕ) (H : HoldsDecoder D m) where
  holds-limit : (decoder_of m).limit ≡ D.limit
  unfolding decoder_of decoder_front
  holds-limit = read-limit (decoder_front D) m H.front

  holds-entries : (decoder_of m).entries ≡ D.entries
  unfolding decoder_of decoder_front
  holds-entries = ap (map held_of_row) (read-rows (decoder_front D) m H.front) ∙ held_back D.deletes D.entries

  holds-deletes : (decoder_of m).deletes ≡ D.deletes
  unfolding decoder_of decoder_front
  holds-deletes =
      ap (deletes_of m 0) (read-deletes (decoder_front D) m H.front) ∙ (deletes-back m 0 D.deletes (fits-lists D H.fits) H.deletes).0

  holds-finished : (decoder_of m).finished ≡ D.finished
  unfolding decoder_of decoder_front
  holds-finished = holds-marks (decoder_front D) m H.front H.fits.marks

  pub holds-state-decoder : decoder_of m ≡ D
  holds-state-decoder = λ k. record { limit = holds-limit k; entries = holds-entries k; deletes = holds-deletes k; finished = holds-finished k }

  pub overlay-self-decoder : overlay_decoder D m ≡ m
  unfolding overlay_decoder
  overlay-self-decoder =
      ap (λ (l : List ℕ). overlay l deletes_place (deletes_bytes D.deletes)) (overlay-self (decoder_front D) m H.front)
      ∙ overlay-same m deletes_place (deletes_bytes D.deletes) H.deletes

-- ---- a state over memory

pub length-overlay_decoder : (D : Decoder) (m : List ℕ) → length (overlay_decoder D m) ≡ length m
unfolding overlay_decoder
length-overlay_decoder D m =
    length-overlay (overlay_front (decoder_front D) m) deletes_place (deletes_bytes D.deletes) ∙ length-overlay_front (decoder_front D) m

pub overlay-holds-decoder : (D : Decoder) (m : List ℕ) → decoder_length ≤ length m → FitsDecoder D → HoldsDecoder D (overlay_decoder D m)
unfolding overlay_decoder
overlay-holds-decoder D m long fits =
    let f = decoder_front D in
    let bytes = deletes_bytes D.deletes in
    let n = length-deletes_bytes D.deletes (fits-lists D fits) in
    let few = fits-few D fits in
    let same = length-overlay_front f m in
    record {
      long = omega (arith, length-overlay_decoder D m);
      fits = fits;
      front = holds-beyond f (overlay_front f m) deletes_place bytes (omega arith) (overlay-holds f m (omega arith) (fits-front D fits));
      deletes = has-overlay (overlay_front f m) deletes_place bytes (omega arith);
    }
