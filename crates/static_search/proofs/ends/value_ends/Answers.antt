use Rattle.std.proofs.Common.{◌≡◌, refl, ap, ◌∙◌, ℕ, ◌+◌, ◌-◌, [], arith}
use Rattle.memory.specs.Numbers.{number}
use Rattle.statics.specs.Table.{entries, entry_at, static_value}
use Rattle.static_search.specs.Ends.{width_of, ends_of}
use Rattle.static_search.specs.declared.ends.TheConstants.{VALUE_ENDS}
use Rattle.static_search.proofs.Words.{table-says}
use Rattle.static_search.proofs.ends.value_ends.Goals as goal

-- all values behind the table are empty
pub returns-then-i-ge16 : goal.returns-then-i-ge16
unfolding ends_of width_of number entry_at entries
returns-then-i-ge16 c =
    let k : ℕ = c.args.index.value - 17 in
    let e : k + 17 ≡ c.args.index.value = omega arith in
    table-says [] (λ k. ends_of (static_value (k + 17))) 45 refl refl k (omega arith) ∙ ap (λ (i : ℕ). ends_of (static_value i)) e

pub returns : goal.returns
unfolding ends_of width_of number entry_at entries
returns c =
    let k : ℕ = c.args.index.value - 1 in
    let e : k + 1 ≡ c.args.index.value = omega arith in
    table-says VALUE_ENDS (λ k. ends_of (static_value (k + 1))) 16 refl refl k (omega arith) ∙ ap (λ (i : ℕ). ends_of (static_value i)) e
