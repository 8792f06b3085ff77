-- Searches and changes of memory that forms an encoder's state, against the model's state: such memory holds the state, and the laws of that memory answer.
use Prim.Native.Nat.{ℕ, ◌+◌}
use mathlib.Core.Path.{refl, ap, subst, ◌∙◌}
use native.Mathlib.Omega.{arith}
use mathlib.Core.List.{List}
use lib.ListN.{length}
use Rattle.model.specs.Table.{put}
use Rattle.model.specs.Encoder.{sent_index, Encoder, with_sent, new_sent}
use Rattle.state.specs.Layout.{count_of}
use Rattle.state.specs.EncoderState.{row_of_sent, encoder_front, overlay_encoder}
use Rattle.state_laws.proofs.EncoderHolds.{HoldsEncoder}
use Rattle.state_laws.proofs.EncoderForms.{forms-holds-encoder}
use Rattle.table_search.specs.Search as memory
use Rattle.table_laws.specs.DecoderChanges.{found}
use Rattle.table_laws.specs.EncoderChanges.{EncoderChanges, EncoderClaim}
use Rattle.table_laws.proofs.Ordering.{ordered-front}
use Rattle.table_laws.proofs.Finding.{FoundAt, MissingAt, found_front, missing-front}
use Rattle.table_laws.proofs.EncoderSearches.{
  says-limit,
  says-held,
  says-count,
  says-rise,
  says_here,
  says-nowhere,
  says-serving,
  says-unserved,
  says-serving-both,
  says-unserved-both,
  says-missing,
  says-vacant,
}
use Rattle.table_laws.proofs.EncoderUpdates.{starts, writes, removes, frees, deletes, refers, opens, inserts}

module _ (E : Encoder) (m : List ℕ) (H : HoldsEncoder E m) where
  -- where searches find and miss an entry of the model's state
  sent-found : (x place : ℕ) → found m x place → FoundAt sent_index x place E.entries
  unfolding encoder_front row_of_sent
  sent-found x place e = found_front sent_index row_of_sent (λ s. refl) m x (encoder_front E) H.front E.entries refl place e

  abbrev place : ℕ
  place = memory.vacant_row m (count_of m) 0

  sent-missing : MissingAt sent_index (62 + place) place E.entries
  unfolding encoder_front row_of_sent
  sent-missing =
      missing-front sent_index row_of_sent (λ s. refl) m (62 + place) (encoder_front E) H.front E.entries refl place 62 H.fits.forms.order
      (says-missing E m H)

  pub holds-changes : EncoderChanges m E
  holds-changes = record {
    ordered = ordered-front (encoder_front E) m H.front (says-rise E m H);
    limit = says-limit E m H;
    held = says-held E m H;
    count = says-count E m H;
    here = says_here E m H;
    nowhere = says-nowhere E m H;
    serving = says-serving E m H;
    unserved = says-unserved E m H;
    serving_both = says-serving-both E m H;
    unserved_both = says-unserved-both E m H;
    vacant = says-vacant E m H;
    opening = opens E m H (62 + place) place sent-missing;
    insert = λ name value room few short.
        inserts E m H (62 + place) place sent-missing name value room few short
        (omega (arith, (opens E m H (62 + place) place sent-missing (length name) (length value) room few short).below))
        ∙ ap (λ (i : ℕ). overlay_encoder (with_sent E (put sent_index (new_sent i name value) E.entries)) m) (says-vacant E m H);
    delete = λ x row e. deletes E m H x row (sent-found x row e);
    refer = λ x row s p e h. refers E m H x row (sent-found x row e) s p;
    removing = λ x row e. removes E m H x row (sent-found x row e);
    free = λ x row e. frees E m H x row (sent-found x row e);
    write = writes E m H;
  }

pub encoder-claim : EncoderClaim
encoder-claim = record {
  start = λ m limit long low. starts m limit;
  changes = λ m E S. holds-changes E m (subst (λ (F : Encoder). HoldsEncoder F m) S.state (forms-holds-encoder m S.small S.forms));
}
