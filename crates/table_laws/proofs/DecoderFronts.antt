-- What stands after the front in memory stays there under another front: a change of the front alone is the state with that front over memory.
use Prim.Native.Nat.{ℕ, ◌≤◌, ◌<◌}
use mathlib.Core.Path.{◌≡◌, refl, sym, ap, subst, ◌∙◌}
use native.Mathlib.Omega.{arith}
use mathlib.Core.List.{List}
use lib.ListN.{length}
use Rattle.memory.specs.Bytes.{overlay, Has}
use Rattle.memory.proofs.Overlay.{overlay-same}
use Rattle.memory.proofs.Places.{has-overlay, has_end}
use Rattle.marks.specs.Marks.{cleared}
use Rattle.model.specs.Parts.{Part, nontrailer, Marks, mark, mark_both, block_marks, streams}
use Rattle.model.specs.Decoder.{Decoder, start_decoder, with_finished}
use Rattle.state.specs.Layout.{decoder_role, deletes_place, marks_place}
use Rattle.state.specs.Front.{Front, with_marks, overlay_front}
use Rattle.state.specs.DecoderState.{deletes_bytes, decoder_front, overlay_decoder}
use Rattle.state_laws.proofs.FrontHolds.{FineFront}
use Rattle.state_laws.proofs.FrontOverlay.{length-overlay_front, front-beyond}
use Rattle.state_laws.proofs.DecoderHolds.{HoldsDecoder}
use Rattle.parts.specs.Close.{closed_both, closed_by}
use Rattle.table.specs.Changes.{started}
use Rattle.table_laws.proofs.FrontFits.{marks-fit}
use Rattle.table_laws.proofs.FrontStores.{start-front}
use Rattle.table_laws.proofs.FrontMarks.{marks-front, both-front, block-front}

-- ---- what stands after a front stays there under another

module _ (g : Front) (G : FineFront g) (m : List ℕ) (at : ℕ) (xs : List ℕ) (after : 7232 ≤ at) (h : Has m at xs) where
  pub stays : overlay (overlay_front g m) at xs ≡ overlay_front g m
  stays = sym (front-beyond g m at xs after G) ∙ ap (overlay_front g) (overlay-same m at xs h)

  pub stays-has : at ≤ length m → Has (overlay_front g m) at xs
  stays-has b =
      subst (λ (l : List ℕ). Has l at xs) stays
      (has-overlay (overlay_front g m) at xs (omega (arith, length-overlay_front g m, has_end m at xs b h)))

-- a change of the front alone
pub front-only : (D E : Decoder) (g : Front) (m : List ℕ) → HoldsDecoder D m → FineFront g → g ≡ decoder_front E → D.deletes ≡ E.deletes
    → overlay_front g m ≡ overlay_decoder E m
unfolding overlay_decoder
front-only D E g m H G e d =
    sym (stays g G m deletes_place (deletes_bytes D.deletes) (omega arith) H.deletes)
    ∙ (λ k. overlay (overlay_front (e k) m) deletes_place (deletes_bytes (d k)))

-- ---- a fresh state, and parts finished

pub start-decoder : (m : List ℕ) (limit : ℕ) → started m decoder_role limit ≡ overlay_decoder (start_decoder limit) m
unfolding overlay_decoder decoder_front start_decoder deletes_bytes
start-decoder m limit = start-front m decoder_role limit

module _ (D : Decoder) (m : List ℕ) (H : HoldsDecoder D m) where
  -- the front with other marks
  marks-only : (marks : Marks) → overlay_front (with_marks (decoder_front D) marks) m ≡ overlay_decoder (with_finished D marks) m
  unfolding decoder_front
  marks-only marks =
      let E : Decoder = with_finished D marks in
      front-only D E (decoder_front E) m H (marks-fit (decoder_front D) H.front.fine marks) refl refl

  module _ (s : ℕ) (h : s < streams) where
    pub over-decoder : cleared m (marks_place nontrailer) s ≡ overlay_decoder (with_finished D (mark s nontrailer D.finished)) m
    unfolding decoder_front
    over-decoder = marks-front (decoder_front D) m H.front s h nontrailer ∙ marks-only (mark s nontrailer D.finished)

    pub end-decoder : closed_both m s ≡ overlay_decoder (with_finished D (mark_both s D.finished)) m
    unfolding decoder_front
    end-decoder = both-front (decoder_front D) m H.front s h ∙ marks-only (mark_both s D.finished)

    pub finish-decoder : (p : Part) → closed_by p m s ≡ overlay_decoder (with_finished D (block_marks p s D.finished)) m
    unfolding decoder_front
    finish-decoder p = block-front p (decoder_front D) m H.front s h ∙ marks-only (block_marks p s D.finished)
