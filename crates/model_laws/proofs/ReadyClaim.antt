-- Demand 3, what stands before "Hence": after every list of calls, from a start and from every state that forms one.
-- The calls keep what forms a state, and the statement holds of each such state.
use mathlib.Core.List.{List}
use Rattle.model.specs.Decoder.{Decoder, start_decoder, FormsDecoder}
use Rattle.model.specs.DecoderCalls.{DecoderCall, after_decoder}
use Rattle.model_laws.specs.Ready.{FineCalls, AbstractReadyHalf, AbstractReady}
use Rattle.model_laws.proofs.Forms.{forms-start, forms-after}
use Rattle.model_laws.proofs.Limits.{start-low}
use Rattle.model_laws.proofs.Ready.{ready-half}

pub ready-after : (D : Decoder) → FormsDecoder D → (cs : List DecoderCall) → FineCalls cs → AbstractReadyHalf (after_decoder D cs)
ready-after D F cs fine = ready-half (after_decoder D cs) (forms-after D cs F fine)

pub ready-claim : AbstractReady
ready-claim = record { from_start = λ limit started. ready-after (start_decoder limit) (forms-start limit (start-low limit started)); from_state = ready-after }
