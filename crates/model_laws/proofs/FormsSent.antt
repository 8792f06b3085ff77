-- An encoder's state stays well formed: from the start, through every call, whatever its arguments, and so after every list of calls.
-- A refusal keeps the state; what is done is one of the table's changes.
use mathlib.Core.Path.{◌≡◌, ap, ◌∙◌}
use Prim.Native.Nat.{ℕ, ◌+◌, ◌≤◌}
use native.Mathlib.Omega.{arith}
use mathlib.Core.List.{List, [], ◌∷◌}
use lib.ListN.{length}
use Rattle.model.specs.Table.{size, look, vacant_from, total}
use Rattle.model.specs.Parts.{block_marks}
use Rattle.model.specs.Outcome.{Outcome}
use Rattle.model.specs.Encoder.{sent_index, Encoder, sent_size, start_encoder, new_sent, mark_deleted, refer, FineSent, FormsEncoder}
use Rattle.model.specs.EncoderCalls.{EncoderCall, insert, delete, block, acknowledged, unread, encoder_call, after_encoder}
use Rattle.model.proofs.Places.{place-left}
use Rattle.model_laws.proofs.Tables.{nope, look-index, vacant-low, vacant-free, vacant-high}
use Rattle.model_laws.proofs.EncoderWays.{insert-ways, delete-ways, block-ways, acknowledged-ways}
use Rattle.model_laws.proofs.Order.{delete-index, refer-index}
use Rattle.model_laws.proofs.SentChanges.{delete-entry, delete-fine, refer-entry, refer-fine, sent-put, sent-free, sent-map}

pub sent-start : (limit : ℕ) → limit ≤ 4096 → FormsEncoder (start_encoder limit)
unfolding start_encoder sent_size look total
sent-start limit h = record { limit = h; fits = omega arith; few = omega arith; order = tt; entries = λ i x e. nope (cc) }

-- "the lowest from 62 that is not held" is at most 189: fewer than 128 are held where the new entry keeps the limit
pub new-fine : (E : Encoder) → E.limit ≤ 4096 → (i : ℕ) (name value : List ℕ) → i ≡ vacant_from sent_index 62 E.entries
    → length name ≤ 255 → length value ≤ 2047 → sent_size E.entries + size (record { name = name; value = value }) ≤ E.limit
    → FineSent (new_sent i name value)
unfolding sent_size
new-fine E low i name value e n v fits =
    let few = place-left sent_index (λ s. s.entry) E.entries (record { name = name; value = value }) E.limit low fits in
    let l = vacant-low sent_index 62 E.entries in
    let h = vacant-high sent_index 62 E.entries in
    record { low = omega arith; high = omega arith; name = n; value = v; nontrailer = omega arith; trailer = omega arith }

abbrev Keeps : Outcome Encoder → Type 0
Keeps o = FormsEncoder o.state

pub sent-call : (E : Encoder) (c : EncoderCall) → FormsEncoder E → FormsEncoder (encoder_call E c).state
unfolding encoder_call
sent-call E (insert name value room) F =
    insert-ways Keeps E (λ a z. F) name value room
    (λ i e n v fits written.
    sent-put E F (new_sent i name value) (rw e (vacant-free sent_index 62 E.entries F.order)) (new-fine E F.limit i name value e n v fits) fits)
sent-call E (delete i room) F =
    delete-ways Keeps E (λ a z. F) i room
    (λ e there still fits.
    sent-map E F (mark_deleted e.index) (delete-index e.index) (delete-entry e.index) (delete-fine e.index) E.written)
sent-call E (block s part fs room) F =
    block-ways Keeps E (λ a z. F) s part fs room
    (λ p rs chosen e below turn short fits.
    sent-map E F (refer s p rs) (refer-index s p rs) (refer-entry s p rs) (refer-fine s p rs below) (block_marks p s E.written))
sent-call E (acknowledged i taken) F =
    acknowledged-ways Keeps E (λ a z. F) i taken
    (λ e there gone. sent-free E F e (ap (λ (j : ℕ). look sent_index j E.entries) (look-index sent_index i E.entries e there) ∙ there))
sent-call E (unread number) F = F

pub sent-after : (E : Encoder) (cs : List EncoderCall) → FormsEncoder E → FormsEncoder (after_encoder E cs)
unfolding after_encoder
sent-after E [] F = F
sent-after E (c ∷ cs) F = sent-after (encoder_call E c).state cs (sent-call E c F)
