-- The size that the encoder holds, by the calls since the start: what a call puts in or frees is what it adds to or takes from the sum. By the ways
-- of each call, then over the calls, from any state.
use mathlib.Core.Path.{◌≡◌, refl, sym, ap, ◌∙◌}
use Prim.Native.Nat.{ℕ, ◌+◌}
use native.Mathlib.Omega.{arith}
use mathlib.Core.List.{List, [], ◌∷◌}
use lib.Dec.{eqb}
use Rattle.memory.specs.Choice.{pick}
use Rattle.memory.proofs.Order.{pick-false, pick-both}
use Rattle.blocks.specs.Representation.{Representation}
use Rattle.blocks.specs.Meaning.{block_references}
use Rattle.model.specs.Table.{size, look, total}
use Rattle.model.specs.Parts.{Part, nontrailer, trailer}
use Rattle.model.specs.Outcome.{Outcome}
use Rattle.model.specs.Encoder.{Encoder, Sent, sent_index, sent_size, start_encoder, new_sent, as_deleted, mark_deleted, mentions, referred, refer}
use Rattle.model.specs.EncoderCalls.{EncoderCall, encoder_call, after_encoder}
use Rattle.model.specs.EncoderCalls as at-encoder
use Rattle.model_laws.specs.History.{size_sent, sent, acked, sent_since, acked_since}
use Rattle.model_laws.proofs.Tables.{pick-eq, look-index, total-put, total-cut, total-map}
use Rattle.model_laws.proofs.EncoderWays as encoder
use Rattle.model_laws.proofs.Order.{delete-index, refer-index}

abbrev sent_weight : Sent → ℕ
sent_weight e = size e.entry

delete-weight : (i : ℕ) (e : Sent) → sent_weight (mark_deleted i e) ≡ sent_weight e
unfolding mark_deleted
delete-weight i e = pick-eq (λ t. sent_weight t ≡ sent_weight e) e.index i (as_deleted e) e (λ h. refl) (λ h. refl)

referred-weight : (s : ℕ) (p : Part) (e : Sent) → sent_weight (referred s p e) ≡ sent_weight e
unfolding referred
referred-weight s nontrailer e = refl
referred-weight s trailer e = refl

refer-weight : (s : ℕ) (p : Part) (rs : List Representation) (e : Sent) → sent_weight (refer s p rs e) ≡ sent_weight e
unfolding refer
refer-weight s p rs e =
    pick-both (λ t. sent_weight t ≡ sent_weight e) (mentions (block_references rs) e.index) (referred s p e) e
    (λ h. referred-weight s p e) (λ h. refl)

abbrev Changed : Encoder → ℕ → ℕ → Outcome Encoder → Type 0
Changed E freed put_in o = sent_size o.state.entries + freed ≡ sent_size E.entries + put_in

sent-call : (E : Encoder) (c : EncoderCall) → Changed E (acked E c) (sent E c) (encoder_call E c)
unfolding encoder_call sent acked sent_size size_sent
sent-call E (at-encoder.insert name value room) =
    encoder.insert-ways (λ o. Changed E 0 (pick (eqb o.answer.number 0) (size (record { name = name; value = value })) 0) o) E
    (λ n e. ap (λ t. sent_size E.entries + t) (sym (pick-false (eqb n.number 0) _ 0 e))) name value room
    (λ i e f g h m. omega (arith, total-put sent_index sent_weight (new_sent i name value) E.entries))
sent-call E (at-encoder.delete i room) =
    encoder.delete-ways (Changed E 0 0) E (λ n e. refl) i room
    (λ e f g h. ap (λ t. t + 0)
    (total-map sent_index (mark_deleted e.index) (delete-index e.index) sent_weight (delete-weight e.index) E.entries))
sent-call E (at-encoder.block s part fs room) =
    encoder.block-ways (Changed E 0 0) E (λ n e. refl) s part fs room
    (λ p rs e f g h k m. ap (λ t. t + 0)
    (total-map sent_index (refer s p rs) (refer-index s p rs) sent_weight (refer-weight s p rs) E.entries))
sent-call E (at-encoder.acknowledged i taken) =
    encoder.acknowledged-ways (λ o. Changed E (pick (eqb o.answer.number 0) (size_sent (look sent_index i E.entries)) 0) 0 o) E
    (λ n e. ap (λ t. sent_size E.entries + t) (pick-false (eqb n.number 0) _ 0 e)) i taken
    (λ e f g.
    let q = look-index sent_index i E.entries e f in
    let p = total-cut sent_index sent_weight e.index E.entries e (ap (λ t. look sent_index t E.entries) q ∙ f) in
    omega (arith, p, ap size_sent f))
sent-call E (at-encoder.unread number) = refl

sent-calls : (E : Encoder) (cs : List EncoderCall)
    → sent_size (after_encoder E cs).entries + acked_since E cs ≡ sent_size E.entries + sent_since E cs
unfolding after_encoder acked_since sent_since
sent-calls E [] = refl
sent-calls E (c ∷ cs) =
    let first = sent-call E c in
    let rest = sent-calls (encoder_call E c).state cs in
    omega (arith, first, rest)

pub encoder_held : (limit : ℕ) (cs : List EncoderCall)
    → sent_size (after_encoder (start_encoder limit) cs).entries + acked_since (start_encoder limit) cs ≡ sent_since (start_encoder limit) cs
unfolding start_encoder sent_size total
encoder_held limit cs = let all = sent-calls (start_encoder limit) cs in omega (arith, all)
