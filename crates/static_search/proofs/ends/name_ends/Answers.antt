use Rattle.std.proofs.Common.{◌≡◌, refl, ap, ◌∙◌, ℕ, ◌+◌, ◌-◌, arith}
use Rattle.memory.specs.Numbers.{number}
use Rattle.statics.specs.Table.{entries, entry_at, static_name}
use Rattle.static_search.specs.Ends.{width_of, ends_of}
use Rattle.static_search.specs.declared.ends.TheConstants.{NAME_ENDS}
use Rattle.static_search.proofs.Words.{table-says}
use Rattle.static_search.proofs.ends.name_ends.Goals as goal

pub returns : goal.returns
unfolding ends_of width_of number entry_at entries
returns c =
    let k : ℕ = c.args.index.value - 1 in
    let e : k + 1 ≡ c.args.index.value = omega arith in
    table-says NAME_ENDS (λ k. ends_of (static_name (k + 1))) 61 refl refl k (omega arith) ∙ ap (λ (i : ℕ). ends_of (static_name i)) e
