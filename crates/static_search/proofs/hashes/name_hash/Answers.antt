use Prim.Native.Nat.{ℕ, ◌+◌, ◌*◌, ◌%◌}
use mathlib.Core.Path.{ap₂}
use lib.ListN.{length}
use Rattle.static_search.specs.Hash.{hash_of}
use Rattle.static_search.proofs.hashes.name_hash.Goals as goal

pub returns : goal.returns
unfolding hash_of
returns c =
    let name = c.args.name.now in
    ap₂ (λ (first last : ℕ). (121 * (length name % 128) + 2 * first + 33 * last) % 128) c.wide.ensures.0 c.wide-2.ensures.0
