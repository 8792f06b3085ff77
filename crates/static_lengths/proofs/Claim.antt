-- At most 14 entries have a name of the right length; those that the searches may compare are among them, and nothing is lost by it.
use Rattle.static_lengths.specs.Claim.{LengthsClaim}
use Rattle.static_lengths.proofs.Few.{exactly, few, reached}
use Rattle.static_lengths.proofs.Compared.{
  name_there,
  both_there,
  name_one,
  name_within,
  both_seven,
  both_within,
  name_compared,
  both_compared,
}

pub lengths-claim : LengthsClaim
lengths-claim =
    record {
      exactly = exactly;
      few = few;
      reached = reached;
      name_there = name_there;
      both_there = both_there;
      name_one = name_one;
      name_within = name_within;
      both_seven = both_seven;
      both_within = both_within;
      name_compared = name_compared;
      both_compared = both_compared;
    }
