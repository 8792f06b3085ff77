use mathlib.Core.Path.{refl}
use native.Mathlib.Omega.{arith}
use Rattle.decoder.proofs.Standing.{meets}
use Rattle.decoder.proofs.Calling.{start-over, start-short, start-done}
use Rattle.decoder.proofs.start.start.Goals as goal

pub returns-then-limit : goal.returns-then-limit
returns-then-limit c = let all = meets (start-over _ _ (omega arith)) c.because.ensures refl in record { result_value = all.0; m_after = all.1 }

pub returns-then-m-lt-DECODER_LENGTH : goal.returns-then-m-lt-DECODER_LENGTH
returns-then-m-lt-DECODER_LENGTH c = let all = meets (start-short _ _ (omega arith) (omega arith)) c.because-then-m-lt-DECODER_LENGTH.ensures refl in record { result_value = all.0; m_after = all.1 }

pub returns : goal.returns
returns c = let all = meets (start-done _ _ (omega arith) (omega arith)) c.done.ensures c.start.ensures in record { result_value = all.0; m_after = all.1 }
