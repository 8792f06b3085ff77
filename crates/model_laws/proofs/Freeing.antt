-- Further facts of `model`'s Acceptance, computed here once: a collect or an enquiry looks at all 4,096 streams.
use mathlib.Core.Path.{◌≡◌, refl}
use mathlib.Core.List.{[], ◌∷◌}
use Rattle.integers.specs.Answers.{done, refusal}
use Rattle.model.specs.DecoderCalls.{collect, hold}
use Rattle.model.specs.Encoder.{empty_list}
use Rattle.model.proofs.AcceptanceCalls.{decoder_answers, freed, insert-h9, list-3-4-7, delete_with, delete-of, delete-nontrailer, over, refers-62}

-- a collect "frees the ready entry .. and writes its Delete-Ack": each time, also where an index is used again
pub freed-again :
    freed 68 (insert-h9 62 ∷ delete-nontrailer 0 ∷ collect 16 ∷ insert-h9 62 ∷ delete-nontrailer 0 ∷ collect 16 ∷ []) ≡ 62 ∷ 62 ∷ []
unfolding freed
freed-again = refl

-- the others then in the order in which their deletes were read
pub freed-in-turn : freed 68 (insert-h9 62 ∷ insert-h9 63 ∷ delete-of 63 ∷ delete-of 62 ∷ collect 16 ∷ collect 16 ∷ []) ≡ 63 ∷ 62 ∷ []
unfolding freed
freed-in-turn = refl

-- one whose delete arrived first and that is not ready holds back nobody
pub waiting-passed-over : freed 68 (insert-h9 62 ∷ insert-h9 63 ∷ delete-nontrailer 1 ∷ delete-of 63 ∷ collect 16 ∷ collect 16 ∷ over 0 ∷ collect 16 ∷ []) ≡ 63 ∷ 62 ∷ []
unfolding freed
waiting-passed-over = refl

-- "a busy low slot can come back again and again and keep a high one waiting": no longer. The second delete of 62 is read behind that of 63.
pub busy-slot-behind :
    freed 68 (insert-h9 62 ∷ insert-h9 63 ∷ delete-of 62 ∷ delete-of 63 ∷ collect 16 ∷ insert-h9 62 ∷ delete-of 62 ∷ collect 16 ∷ collect 16 ∷ []) ≡
    62 ∷ 63 ∷ 62 ∷ []
unfolding freed
busy-slot-behind = refl

-- the first that arrived is freed or none: with too little room for its acknowledgement, two bytes for 63, the answer is 12, though 62's would fit
pub room-for-the-first :
    decoder_answers 68 (insert-h9 62 ∷ insert-h9 63 ∷ delete-of 63 ∷ delete-of 62 ∷ collect 1 ∷ collect 2 ∷ collect 1 ∷ []) ≡
    done 6 0 ∷ done 6 0 ∷ done 6 0 ∷ done 5 0 ∷ refusal 12 ∷ done 2 0 ∷ done 1 0 ∷ []
unfolding decoder_answers
room-for-the-first = refl

-- "with none ready it is done, writes 0 bytes and changes nothing": no entry under deletion, one that is not ready, and it still serves
pub none-freed :
    decoder_answers 68 (insert-h9 62 ∷ collect 16 ∷ delete-nontrailer 1 ∷ collect 16 ∷ refers-62 0 16 ∷ over 0 ∷ collect 16 ∷ []) ≡
    done 6 0 ∷ done 0 0 ∷ done 5 0 ∷ done 0 0 ∷ done 5 0 ∷ done 0 0 ∷ done 1 0 ∷ []
unfolding decoder_answers
none-freed = refl

-- "With our rule a slot was freed after the first of three blocks." Two of them are interim answers; a collect frees once the part is over.
pub interim-kept :
    decoder_answers 68 (insert-h9 62 ∷ refers-62 0 16 ∷ delete-nontrailer 1 ∷ collect 16 ∷ refers-62 0 16 ∷ refers-62 0 16 ∷ over 0 ∷ collect 16 ∷ []) ≡
    done 6 0 ∷ done 5 0 ∷ done 5 0 ∷ done 0 0 ∷ done 5 0 ∷ done 5 0 ∷ done 0 0 ∷ done 1 0 ∷ []
unfolding decoder_answers
interim-kept = refl

-- "A hold enquiry about an entry under deletion tells how many named parts are unfinished and the lowest stream having one (4,096 if none)."
pub hold-told :
    decoder_answers 68 (insert-h9 62 ∷ delete-nontrailer 5 ∷ hold 62 ∷ over 0 ∷ over 1 ∷ hold 62 ∷ over 2 ∷ over 3 ∷ over 4 ∷ hold 62 ∷ []) ≡
    done 6 0 ∷ done 5 0 ∷ done 5 0 ∷ done 0 0 ∷ done 0 0 ∷ done 3 2 ∷ done 0 0 ∷ done 0 0 ∷ done 0 0 ∷ done 0 4096 ∷ []
unfolding decoder_answers
hold-told = refl

-- of the listed streams too: 0 is the lowest, past 0 to 2 it is 4, and past 3 and 4 it is 7
pub hold-listed :
    decoder_answers 68 (insert-h9 62 ∷ delete_with list-3-4-7 (empty_list 0) ∷ hold 62 ∷ over 0 ∷ over 1 ∷ over 2 ∷ hold 62 ∷ over 3 ∷ over 4 ∷ hold 62 ∷ []) ≡
    done 6 0 ∷ done 5 0 ∷ done 5 0 ∷ done 0 0 ∷ done 0 0 ∷ done 0 0 ∷ done 2 4 ∷ done 0 0 ∷ done 0 0 ∷ done 1 7 ∷ []
unfolding decoder_answers
hold-listed = refl

-- what is under deletion counts in the held size; after the collect there is room again
pub room-again :
    decoder_answers 68 (insert-h9 62 ∷ insert-h9 63 ∷ delete-nontrailer 0 ∷ insert-h9 64 ∷ collect 16 ∷ insert-h9 64 ∷ []) ≡
    done 6 0 ∷ done 6 0 ∷ done 5 0 ∷ refusal 7 ∷ done 1 0 ∷ done 6 0 ∷ []
unfolding decoder_answers
room-again = refl
