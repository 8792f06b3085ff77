-- The claim of `specs/Claim.antt`: each part by its theorem.
use Rattle.integers.proofs.OneForm.{one_form}
use Rattle.integers.proofs.Padding.{padded-refused, refused-padded}
use Rattle.forms.specs.Claim.{FormsClaim}
use Rattle.forms.proofs.PaddedPlaces.{padded-places}
use Rattle.forms.proofs.OneInstruction.{one_for_decoder, one_for_encoder, decoder_alike, encoder_alike}
use Rattle.forms.proofs.OneBlock.{one_block, blocks_alike}
use Rattle.forms.proofs.OurWriter.{our_instruction_lem, our_block_lem}

pub forms-claim : FormsClaim
forms-claim =
    record {
      one_integer = one_form;
      padded = padded-refused;
      only_padded = refused-padded;
      everywhere = padded-places;
      one_for_decoder = one_for_decoder;
      one_for_encoder = one_for_encoder;
      one_block = one_block;
      decoder_alike = decoder_alike;
      encoder_alike = encoder_alike;
      blocks_alike = blocks_alike;
      our_instruction_lem = our_instruction_lem;
      our_block_lem = our_block_lem;
    }
