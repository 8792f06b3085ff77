-- Change request "Quicker name search": "look only at those whose name has the right length, .. and show that these are at most 14 for any name. Same
-- answers .. as before." A contract cannot count looks. What can be said stands here: the entries whose bytes `has_name` and `has_value` may be asked to compare
-- (static_search/specs/Compared.antt) are among these.
use Rattle.std.specs.Prelude.{◌≡◌, ◌↔◌, ℕ, ◌≤◌, length}
use mathlib.Core.List.{List, Memᴰ}
use Rattle.statics.specs.Table.{last_static, static_name}
use Rattle.static_search.specs.Search.{has_name, has_both, find_name, find_both}
use Rattle.static_search.specs.Compared.{compared_name, compared_both}
use Rattle.static_lengths.specs.Lengths.{of_length, first_of, most}

abbrev pub Within : List ℕ → List ℕ → Type 0
Within is js = (i : ℕ) → Memᴰ i is → Memᴰ i js

pub record LengthsClaim : Type 0 where
  -- `of_length n` has the static indexes whose name has n bytes, and no others
  pub exactly : (n i : ℕ) → Memᴰ i (of_length n) ↔ ((1 ≤ i) × (i ≤ last_static) × (length (static_name i) ≡ n))
  -- "these are at most 14 for any name", and of 7 bytes they are 14
  pub few : (n : ℕ) → length (of_length n) ≤ most
  pub reached : length (of_length 7) ≡ most
  -- nothing is lost by looking at these alone
  pub name_there : (name : List ℕ) → find_name name ≡ first_of (λ k. has_name k name) (of_length (length name))
  pub both_there : (name value : List ℕ) → find_both name value ≡ first_of (λ k. has_both k name value) (of_length (length name))
  -- the searches compare bytes of fewer still, which their functions ask for: one for a name, a run of at most seven for name and value, each of the right length,
  pub name_one : (name : List ℕ) → length (compared_name name) ≤ 1
  pub name_within : (name : List ℕ) → Within (compared_name name) (of_length (length name))
  pub both_seven : (name : List ℕ) → length (compared_both name) ≤ 7
  pub both_within : (name : List ℕ) → Within (compared_both name) (of_length (length name))
  -- and lose nothing by that either
  pub name_compared : (name : List ℕ) → find_name name ≡ first_of (λ k. has_name k name) (compared_name name)
  pub both_compared : (name value : List ℕ) → find_both name value ≡ first_of (λ k. has_both k name value) (compared_both name)
