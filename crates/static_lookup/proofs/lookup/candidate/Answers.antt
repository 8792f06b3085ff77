use Rattle.std.proofs.Common.{ap, sym, ◌∙◌}
use Rattle.static_search.specs.declared.hashes.Hashed.{Hashed}
use Rattle.static_search.specs.Hash.{hashed_of}
use Rattle.static_search.proofs.Hashing.{candidate-empty, candidate-other, candidate-here}
use Rattle.static_lookup.proofs.lookup.candidate.Goals as goal
use Rattle.std.specs.Prelude.{Some}

-- What the hash leaves, where the length is right.
pub returns-then-name-eq0 : goal.returns-then-name-eq0
returns-then-name-eq0 c = candidate-empty _ c.if-name-eq0.true

pub returns-then-hashed-name : goal.returns-then-hashed-name
returns-then-hashed-name c =
    let h = c.hashed_entry-hashed.ensures.value ∙ ap hashed_of c.name_hash.ensures in
    ap (λ (r : Hashed). Some r.index) h
    ∙ candidate-here _ c.if-name-eq0.false (sym (ap (λ (r : Hashed). r.length) h) ∙ c.if-hashed-name.true)

pub returns : goal.returns
returns c =
    let h = c.hashed_entry-hashed.ensures.value ∙ ap hashed_of c.name_hash.ensures in
    candidate-other _ c.if-name-eq0.false (λ e. c.if-hashed-name.false (ap (λ (r : Hashed). r.length) h ∙ e))
