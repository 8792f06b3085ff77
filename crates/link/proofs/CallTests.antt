-- That what is given to a decoder's calls and lent to them is bytes, as a test that computes. For closed lists of calls.
use mathlib.Core.Path.{◌≡◌}
use Prim.Native.Nat.{ℕ}
use native.Mathlib.Omega.{arith}
use mathlib.Core.Bool.{Bool, true, ◌&&◌}
use mathlib.Core.List.{List, [], ◌∷◌}
use lib.Dec.{ltb}
use borrow.Author.Tests.{ltb-true}
use Rattle.memory.specs.Bytes.{Small}
use Rattle.memory.proofs.Overlay.{small-cons}
use Rattle.model_laws.proofs.Marks.{and_both}
use Rattle.link.specs.Calls.{DecoderCall, DecoderBytes, AllDecoderBytes}
use Rattle.link.specs.Calls as calls

abbrev pub are_bytes : List ℕ → Bool
are_bytes [] = true
are_bytes (x ∷ l) = ltb x 256 && are_bytes l

abbrev pub decoder_given : DecoderCall → Bool
decoder_given (calls.DecoderCall.read s) = are_bytes s
decoder_given (calls.DecoderCall.block stream part s out) = are_bytes s && are_bytes out
decoder_given (calls.DecoderCall.close k stream) = true
decoder_given (calls.DecoderCall.collect out) = are_bytes out
decoder_given (calls.DecoderCall.hold index) = true

abbrev pub all_decoder_given : List DecoderCall → Bool
all_decoder_given [] = true
all_decoder_given (c ∷ cs) = decoder_given c && all_decoder_given cs

-- ---- what the tests say
pub small-given : (l : List ℕ) → are_bytes l ≡ true → Small l
small-given [] e = λ k. omega arith
small-given (x ∷ l) e =
    let h = and_both (ltb x 256) (are_bytes l) e in
    small-cons x l (ltb-true x 256 h.0) (small-given l h.1)

pub decoder-given : (c : DecoderCall) → decoder_given c ≡ true → DecoderBytes c
decoder-given (calls.DecoderCall.read s) e = small-given s e
decoder-given (calls.DecoderCall.block stream part s out) e =
    let h = and_both (are_bytes s) (are_bytes out) e in
    (small-given s h.0, small-given out h.1)
decoder-given (calls.DecoderCall.close k stream) e = tt
decoder-given (calls.DecoderCall.collect out) e = small-given out e
decoder-given (calls.DecoderCall.hold index) e = tt

pub all-decoder-given : (cs : List DecoderCall) → all_decoder_given cs ≡ true → AllDecoderBytes cs
all-decoder-given [] e = tt
all-decoder-given (c ∷ cs) e =
    let h = and_both (decoder_given c) (all_decoder_given cs) e in
    (decoder-given c h.0, all-decoder-given cs h.1)
