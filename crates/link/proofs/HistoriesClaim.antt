-- The claims on histories: each end's own.
use Rattle.link.specs.Histories.{HistoriesClaim}
use Rattle.link.proofs.DecoderHistory.{agree_start, agree_state, held_start}
use Rattle.link.proofs.EncoderHistory.{encoder_history, encoder_turn}
use Rattle.link.proofs.Within.{decoder_within, encoder_within}

pub histories-claim : HistoriesClaim
histories-claim = record {
  agree_start = agree_start;
  agree_state = agree_state;
  decoder_held = held_start;
  decoder_within = decoder_within;
  encoder_history = encoder_history;
  encoder_turn = encoder_turn;
  encoder_within = encoder_within;
}
