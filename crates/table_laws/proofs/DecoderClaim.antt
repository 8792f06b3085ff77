-- The searches and changes of memory that forms a decoder's state, from the record that it holds the state.
use mathlib.Core.Path.{subst}
use Prim.Native.Nat.{ℕ}
use native.Mathlib.Omega.{arith}
use mathlib.Core.List.{List}
use Rattle.model.specs.Decoder.{Decoder, delete_of}
use Rattle.state.specs.DecoderState.{decoder_front}
use Rattle.state_laws.proofs.FrontRead.{read-limit}
use Rattle.state_laws.proofs.HeldRows.{fits-order}
use Rattle.state_laws.proofs.DecoderHolds.{HoldsDecoder}
use Rattle.state_laws.proofs.DecoderForms.{forms-holds-decoder}
use Rattle.table_laws.specs.DecoderChanges.{DecoderStands, DecoderChanges, DecoderClaim}
use Rattle.table_laws.proofs.Ordering.{ordered-front}
use Rattle.table_laws.proofs.DecoderSearches.{
  held-is,
  count-is,
  deletes-are,
  found_at,
  missing_at,
  found_below,
  held_found,
  not-deleted,
  deletes-few,
  delete-found,
  delete-good,
  kept_row,
}
use Rattle.table_laws.proofs.DecoderFronts.{start-decoder, over-decoder, end-decoder, finish-decoder}
use Rattle.table_laws.proofs.DecoderInsert.{opening-decoder, named-decoder, insert-decoder}
use Rattle.table_laws.proofs.DecoderKeep.{keep-decoder}
use Rattle.table_laws.proofs.DecoderFree.{removing-decoder, dropping-decoder, free-decoder}

stands-holds : (m : List ℕ) (D : Decoder) → DecoderStands m D → HoldsDecoder D m
stands-holds m D S = subst (λ (E : Decoder). HoldsDecoder E m) S.state (forms-holds-decoder m S.small S.forms)

module _ (m : List ℕ) (D : Decoder) (H : HoldsDecoder D m) where
  holds-changes : DecoderChanges m D
  unfolding decoder_front delete_of
  holds-changes = record {
    ordered = ordered-front (decoder_front D) m H.front (fits-order D H.fits);
    limit = read-limit (decoder_front D) m H.front;
    held = held-is D m H;
    count = count-is D m H;
    here = λ x p e. let F = found_at D m H x p e in (found_below D m H x p F, held_found D m H x p F);
    nowhere = λ x p e. (missing_at D m H x p e).looked;
    live = λ x p e z. not-deleted D m H x p (found_at D m H x p e) z;
    deleted = λ x p k e s. let F = found_at D m H x p e in (delete-found D m H x p F k s, delete-good D m H x p F k s);
    kept = λ k h. kept_row D m H k h;
    opening = λ x p name value e room few short. opening-decoder D m H x p (missing_at D m H x p e) name value room few short;
    named = λ x p y row e d. named-decoder D m H x p (missing_at D m H x p e) row (found_below D m H y row (found_at D m H y row d));
    insert = λ x p name value e fine room few short. insert-decoder D m H x p (missing_at D m H x p e) name value fine room few short;
    room = λ x p e z. omega (arith, deletes-are D m H, deletes-few D m H x p (found_at D m H x p e) z);
    keep = λ d p e z nontrailer trailer. keep-decoder D m H d p (found_at D m H d.index p e) z;
    removing = λ x p e. removing-decoder D m H x p (found_at D m H x p e);
    dropping = λ x p k e s. dropping-decoder D m H x p (found_at D m H x p e) k s;
    free = λ x p k e s. free-decoder D m H x p (found_at D m H x p e) k s;
    over = λ s h. over-decoder D m H s h;
    end = λ s h. end-decoder D m H s h;
    finish = λ s p h. finish-decoder D m H s h p;
  }

pub decoder-claim : DecoderClaim
decoder-claim = record {
  start = λ m limit long low. start-decoder m limit;
  changes = λ m D S. holds-changes m D (stands-holds m D S);
}
