-- What memory that forms an encoder's state gives a call: its length, the bounds of a row that was found, and that a refusal by the model leaves
-- everything as it was. By the laws of the state and of its changes.
use mathlib.Core.Path.{◌≡◌, refl}
use Prim.Native.Nat.{ℕ, ◌≤◌, ◌<◌}
use native.Mathlib.Omega.{arith}
use mathlib.Core.Bool.{true}
use mathlib.Core.Option.{some}
use mathlib.Core.List.{List}
use lib.ListN.{length}
use Rattle.memory.specs.Bytes.{Small}
use Rattle.integers.specs.Answers.{refusal}
use Rattle.model.specs.Table.{look}
use Rattle.model.specs.Outcome.{output_bytes, refuse}
use Rattle.model.specs.Encoder.{sent_index}
use Rattle.model_laws.proofs.Tables.{look-index}
use Rattle.state.specs.Layout.{limit_of, index_at, status_at}
use Rattle.state.specs.EncoderState.{nontrailer_at, trailer_at, sent_at, encoder_of, overlay_encoder}
use Rattle.state.specs.Forms.{forms_encoder}
use Rattle.state_laws.proofs.EncoderHolds.{holds-status}
use Rattle.state_laws.proofs.EncoderForms.{forms-holds-encoder}
use Rattle.state_laws.proofs.EncoderLaws.{encoder-laws}
use Rattle.table_laws.specs.DecoderChanges.{found}
use Rattle.table_laws.specs.EncoderChanges.{EncoderChanges}
use Rattle.table_laws.proofs.EncoderClaim.{encoder-claim}
use Rattle.reply.specs.Result.{refused, stepped}

-- the row at a place, found by its index x
pub record RowFound (m : List ℕ) (x place : ℕ) : Type 0 where
  pub below : place < 128
  pub index : index_at m place ≡ x
  pub low : 62 ≤ x
  pub high : x ≤ 189
  pub nontrailer : nontrailer_at m place ≤ 4096
  pub trailer : trailer_at m place ≤ 4096
  pub status : status_at m place ≤ 1
  pub looked : look sent_index x (encoder_of m).entries ≡ some (sent_at m place)

module _ (m : List ℕ) (small : Small m) (forms : forms_encoder m ≡ true) where
  pub changes : EncoderChanges m (encoder_of m)
  changes = encoder-claim.changes m (encoder_of m) (record { small = small; forms = forms; state = refl })

  pub long : 16960 ≤ length m
  long = (forms-holds-encoder m small forms).long

  pub limit-low : limit_of m ≤ 4096
  limit-low = omega (arith, changes.limit, (encoder-laws.fits m small forms).forms.limit)

  -- a row that is found is that of a fine entry
  pub row-found : (x place : ℕ) → found m x place → RowFound m x place
  unfolding sent_at
  row-found x place f =
      let here = changes.here x place f in
      let at : index_at m place ≡ x = look-index sent_index x (encoder_of m).entries (sent_at m place) here.1 in
      let fine = (encoder-laws.fits m small forms).forms.entries x (sent_at m place) here.1 in
      record {
        below = omega (arith, changes.ordered.few, here.0);
        index = at;
        low = omega (arith, fine.low);
        high = omega (arith, fine.high);
        nontrailer = fine.nontrailer;
        trailer = fine.trailer;
        status = holds-status (encoder_of m) m (forms-holds-encoder m small forms) place here.0;
        looked = here.1;
      }

  -- "Every number but 0 leaves state and buffers unchanged."
  pub stays : (out : List ℕ) (number : ℕ) → stepped overlay_encoder m out (refuse (encoder_of m) number) ≡ refused m out number
  unfolding stepped output_bytes
  stays out number =
      λ k. record { answer = refusal number; memory = encoder-laws.self m small forms k; output = out }
