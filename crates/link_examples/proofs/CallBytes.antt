-- That all that is given and lent is bytes, as a test that computes.
use mathlib.Core.Path.{◌≡◌}
use mathlib.Core.Bool.{Bool, true, ◌&&◌}
use mathlib.Core.List.{List, [], ◌∷◌}
use Rattle.model_laws.proofs.Marks.{and_both}
use Rattle.link.specs.Calls.{EncoderCall, insert, delete, acknowledge, EncoderBytes}
use Rattle.link.specs.Calls as calls
use Rattle.link.specs.Claims.{LinkCall, LinkBytes, AllLinkBytes}
use Rattle.link.proofs.CallTests.{are_bytes, decoder_given, small-given, decoder-given}

abbrev encoder_given : EncoderCall → Bool
encoder_given (insert name value out) = are_bytes name && are_bytes value && are_bytes out
encoder_given (delete index out) = are_bytes out
encoder_given (calls.EncoderCall.block stream part s out) = are_bytes s && are_bytes out
encoder_given (acknowledge s) = are_bytes s

abbrev given : LinkCall → Bool
given (LinkCall.at_encoder c) = encoder_given c
given (LinkCall.at_decoder n c) = decoder_given c
given (LinkCall.reset stream) = true

unfoldable pub all_given : List LinkCall → Bool
all_given [] = true
all_given (c ∷ cs) = given c && all_given cs

-- ---- what the tests say
encoder-bytes : (c : EncoderCall) → encoder_given c ≡ true → EncoderBytes c
encoder-bytes (insert name value out) e =
    let h = and_both (are_bytes name && are_bytes value) (are_bytes out) e in
    let g = and_both (are_bytes name) (are_bytes value) h.0 in
    (small-given name g.0, small-given value g.1, small-given out h.1)
encoder-bytes (delete index out) e = small-given out e
encoder-bytes (calls.EncoderCall.block stream part s out) e =
    let h = and_both (are_bytes s) (are_bytes out) e in (small-given s h.0, small-given out h.1)
encoder-bytes (acknowledge s) e = small-given s e

link-bytes : (c : LinkCall) → given c ≡ true → LinkBytes c
link-bytes (LinkCall.at_encoder c) e = encoder-bytes c e
link-bytes (LinkCall.at_decoder n c) e = decoder-given c e
link-bytes (LinkCall.reset stream) e = tt

pub all-bytes : (cs : List LinkCall) → all_given cs ≡ true → AllLinkBytes cs
unfolding all_given
all-bytes [] e = tt
all-bytes (c ∷ cs) e = let h = and_both (given c) (all_given cs) e in (link-bytes c h.0, all-bytes cs h.1)
