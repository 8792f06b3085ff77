-- Every call's promises, put together.
-- From the files on answers, on the blocks that could still be accepted, and on the hold enquiry.
use Rattle.model.specs.Parts.{nontrailer, over, ended}
use Rattle.model_laws.specs.Promises.{Promises}
use Rattle.model_laws.proofs.Answers.{decoder_refused, encoder_refused, decoded-told, collected-told, inserted-told, deleted-told, encoded-told}
use Rattle.model_laws.proofs.CouldStill.{nontrailer_leaves, trailer_finishes, close-finishes}
use Rattle.model_laws.proofs.Holding.{hold_tells}

pub promises : Promises
promises = record {
  decoder_refused = decoder_refused;
  encoder_refused = encoder_refused;
  decoded = decoded-told;
  collected = collected-told;
  inserted = inserted-told;
  deleted = deleted-told;
  encoded = encoded-told;
  nontrailer_leaves = nontrailer_leaves;
  trailer_finishes = trailer_finishes;
  over_finishes = λ D s. close-finishes over D s nontrailer tt;
  ended_finishes = λ D s p. close-finishes ended D s p tt;
  hold_tells = hold_tells;
}
