-- Which blocks a part takes and what finishes it, as computed facts: change request 3's sentences, and document 01's that stand beside them.
use mathlib.Core.Path.{◌≡◌, refl}
use mathlib.Core.List.{[], ◌∷◌}
use Rattle.integers.specs.Answers.{done, refusal}
use Rattle.statics.specs.Ascii.{bytes}
use Rattle.model.specs.EncoderCalls as at-encoder
use Rattle.model.proofs.AcceptanceCalls.{decoder_answers, encoder_answers, field, insert-h9, interim, trailer-block, over, ended, refers-62}
use Rattle.model.proofs.AcceptanceCalls.{put-h9, says_none}

-- "A waiting block is kept by the host and offered again." It waits for 62, changes nothing, and is done once 62 is there. So is a trailer, which
-- finishes nothing before: not where it waits, nor where it has no room.
pub waits-then-done :
    (decoder_answers 68 (refers-62 0 16 ∷ insert-h9 62 ∷ refers-62 0 16 ∷ []) ≡ record { number = 1; first = 62; second = 0 } ∷ done 6 0 ∷ done 5 0 ∷ []) ×
    (decoder_answers 68 (refers-62 1 16 ∷ insert-h9 62 ∷ refers-62 1 4 ∷ refers-62 1 16 ∷ []) ≡
    record { number = 1; first = 62; second = 0 } ∷ done 6 0 ∷ refusal 12 ∷ done 5 0 ∷ [])
unfolding decoder_answers
waits-then-done = (refl, refl)

-- "From now on a non-trailer block does not finish its part .. a trailer block is answered "done", which finishes both." "A further non-trailer block on an
-- unfinished part is in turn, at both ends; a trailer may come while the non-trailer part is open, even with no block before it"
pub trailer-last :
    (decoder_answers 68 (interim 0 ∷ interim 0 ∷ trailer-block 0 ∷ interim 0 ∷ trailer-block 0 ∷ trailer-block 1 ∷ interim 1 ∷ []) ≡
    done 0 0 ∷ done 0 0 ∷ done 0 0 ∷ refusal 11 ∷ refusal 11 ∷ done 0 0 ∷ refusal 11 ∷ []) ×
    (encoder_answers 68 (says_none 0 0 ∷ says_none 0 0 ∷ says_none 0 1 ∷ says_none 0 0 ∷ says_none 0 1 ∷ says_none 1 1 ∷ says_none 1 0 ∷ []) ≡
    done 0 0 ∷ done 0 0 ∷ done 0 0 ∷ refusal 11 ∷ refusal 11 ∷ done 0 0 ∷ refusal 11 ∷ [])
unfolding decoder_answers encoder_answers
trailer-last = (refl, refl)

-- at the encoder too a trailer that has no room closes nothing
pub unwritten-closes-nothing :
    encoder_answers 68 (put-h9 ∷ at-encoder.block 0 1 (field (bytes "h") (bytes "9") ∷ []) 0 ∷ says_none 0 0 ∷ says_none 0 1 ∷ []) ≡
    done 6 62 ∷ refusal 12 ∷ done 0 0 ∷ done 0 0 ∷ []
unfolding encoder_answers
unwritten-closes-nothing = refl

-- "The host says "non-trailer part over"": that part is finished, the trailer's is not. ""Over" gives 11 above stream 4,095, else it is done, said again too."
pub over_nontrailer :
    decoder_answers 68 (over 0 ∷ interim 0 ∷ over 0 ∷ trailer-block 0 ∷ over 0 ∷ over 4095 ∷ over 4096 ∷ []) ≡
    done 0 0 ∷ refusal 11 ∷ done 0 0 ∷ done 0 0 ∷ done 0 0 ∷ done 0 0 ∷ refusal 11 ∷ []
unfolding decoder_answers
over_nontrailer = refl

-- "The host may say that a stream has ended or was reset: both parts are finished, and saying it again is fine."
pub ended-both :
    decoder_answers 68 (interim 0 ∷ ended 0 ∷ interim 0 ∷ trailer-block 0 ∷ ended 0 ∷ []) ≡ done 0 0 ∷ done 0 0 ∷ refusal 11 ∷ refusal 11 ∷ done 0 0 ∷ []
unfolding decoder_answers
ended-both = refl
