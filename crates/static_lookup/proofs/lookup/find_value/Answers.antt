use Rattle.std.proofs.Common.{◌≡◌, ℕ, ◌+◌, ◌-◌, ◌≤◌, ap, sym, ◌∙◌, Bool, List, arith}
use Rattle.integers.specs.declared.number.TableIndex.{TableIndex}
use Rattle.statics.specs.Table.{static_name}
use Rattle.static_search.specs.Hash.{has_value, last_of}
use Rattle.static_search.specs.Search.{has_both, lowest_both, find_name}
use Rattle.static_search.proofs.Finding.{turn-here, turn-next}
use Rattle.static_search.proofs.Compared.{run-compared}
use Rattle.static_search.proofs.Runs.{last-high, value-decides, run-over, run-start}
use Rattle.static_lookup.proofs.lookup.find_value.Goals as goal
use Rattle.std.specs.Prelude.{Some}

abbrev number : TableIndex → ℕ
number index = index.value

-- an index of the run is one of the table, and there the value decides
module _ {first last : TableIndex} (p : (1 ≤ first.value) × (first.value ≤ 61) × (find_name (static_name first.value) ≡ Some first))
    (e : last ≡ record { value = last_of first.value }) {i : ℕ} (h : i ≤ last.value) where
  in-run : i ≤ last_of first.value
  in-run = omega (arith, ap number e)

  high : i ≤ 61
  high = omega (arith, in-run, last-high _ p.0 p.1 p.2)

  decides : (value : List ℕ) (r : Bool) → first.value ≤ i → r ≡ has_value (first.value + (i - first.value)) value
      → has_both i (static_name first.value) value ≡ r
  decides value r low d =
      let behind : first.value + (i - first.value) ≡ i = omega arith in
      sym (d ∙ ap (λ (k : ℕ). has_value k value) behind ∙ value-decides _ p.0 p.1 p.2 _ i low in-run)

pub overflow_add-i-end : goal.overflow_add-i-end
overflow_add-i-end c =
    let p = c.requires in
    omega (arith, ap number c.last_of-last.ensures, last-high _ p.0 p.1 p.2)

pub loop-i-init : goal.loop-i-init
loop-i-init c = let p = c.requires in run-start _ p.0 p.1 p.2 _

pub has_value-requires : goal.has_value-requires
has_value-requires c =
    let p = c.requires in
    let run = in-run p c.last_of-last.ensures {i = c.loop-i.i} (omega arith) in
    let top = high p c.last_of-last.ensures {i = c.loop-i.i} (omega arith) in
    record {
      le_value = (p.0, omega arith);
      fact = run-compared _ p.2 (c.loop-i.i - c.args.first.value) (omega arith);
    }

pub new-requires : goal.new-requires
new-requires c = omega (arith, high c.requires c.last_of-last.ensures {i = c.loop-i.i} (omega arith))

pub returns-then-has_value : goal.returns-then-has_value
unfolding lowest_both
returns-then-has_value c =
    let l = c.loop-i.invariant in
    ap (λ (k : TableIndex). Some k) c.new.ensures
    ∙ sym (l ∙ turn-here _ _ (high c.requires c.last_of-last.ensures {i = c.loop-i.i} (omega arith))
    (decides c.requires c.last_of-last.ensures {i = c.loop-i.i} (omega arith) _ _ (omega arith) c.has_value.ensures ∙ c.if-has_value.true))

pub loop-i-preserved : goal.loop-i-preserved
unfolding lowest_both
loop-i-preserved c =
    let l = c.loop-i.invariant in
    l ∙ turn-next _ _ (high c.requires c.last_of-last.ensures {i = c.loop-i.i} (omega arith))
    (decides c.requires c.last_of-last.ensures {i = c.loop-i.i} (omega arith) _ _ (omega arith) c.has_value.ensures ∙ c.if-has_value.false)

pub returns : goal.returns
returns c =
    let p = c.requires in
    let l = c.loop-i.invariant in
    sym (l ∙ run-over _ p.0 p.1 p.2 _ _ (omega arith) (omega (arith, ap number c.last_of-last.ensures, c.loop-i-test.false)))
