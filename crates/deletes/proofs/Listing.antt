-- The turns of storing a list's streams: the deltas that are left are read again and give the streams that are left to store.
-- By the equations of `read_deltas` and `streams_from`; a delta that is left can be read, since all of them were.
use mathlib.Core.Path.{◌≡◌, sym, ap, ◌∙◌}
use Prim.Native.Nat.{ℕ, suc, ◌+◌, ◌*◌, ◌-◌, ◌≤◌, ◌<◌}
use native.Mathlib.Omega.{arith}
use mathlib.Core.List.{List}
use lib.ListN.{length}
use Rattle.memory.specs.Bytes.{overlay}
use Rattle.memory.specs.Numbers.{number_bytes}
use Rattle.memory.proofs.Overlay.{overlay-append}
use Rattle.memory.proofs.Numbers.{length-number_bytes}
use Rattle.integers.specs.declared.number.StreamNumber.{StreamNumber}
use Rattle.stream_lists.specs.StreamList.{read_delta, read_deltas, streams_from, list_of, InList}
use Rattle.stream_lists.specs.declared.stream_list.ListPlace.{ListPlace}
use Rattle.stream_lists.proofs.ListLaws.{deltas-refused, deltas-more, streams-end, streams-more}
use Rattle.stream_lists.proofs.ListBounds.{delta-good, deltas-good}
use Rattle.state.specs.DecoderState.{streams_bytes}
use Rattle.std.specs.Prelude.{Ok, Err}
use Rattle.integers.specs.Answers.{Read}
use Rattle.integers.specs.declared.answer.Refusal.{Refusal}

-- i of the streams are stored: the others, stored over `now`, give the whole
pub record Left (s whole : List ℕ) (at count i : ℕ) (now : List ℕ) (last place : ℕ) : Type 0 where
  pub near : last ≤ 4096
  pub stored : whole ≡ overlay now (at + 2 * i) (streams_bytes (streams_from (count - i) s place last))
  pub end : ℕ
  pub deltas : read_deltas (count - i) s place last ≡ Ok end

pub left-all : (s m : List ℕ) (at count place horizon end : ℕ) → horizon ≤ 4096 → read_deltas count s place horizon ≡ Ok end
    → Left s (overlay m at (streams_bytes (streams_from count s place horizon))) at count 0 m horizon place
left-all s m at count place horizon end h e =
    let a : at + 2 * 0 ≡ at = omega arith in
    let n : count - 0 ≡ count = omega arith in
    record { near = h; stored = rw (a, n); end = end; deltas = rw n e }

module _ (s whole : List ℕ) (at count i : ℕ) (now : List ℕ) (last place : ℕ) (h : Left s whole at count i now last place) where
  pub left-none : count ≤ i → whole ≡ now
  unfolding streams_bytes
  left-none l =
      let n : count - i ≡ 0 = omega arith in
      h.stored ∙ ap (λ (k : ℕ). overlay now (at + 2 * i) (streams_bytes (streams_from k s place last))) n
      ∙ ap (λ (xs : List ℕ). overlay now (at + 2 * i) (streams_bytes xs)) (streams-end s place last)

  module _ (l : i < count) (r : Read StreamNumber) (e : r ≡ read_delta s place last) where
    pub never-refused : (why : Refusal) → r ≡ Err why → ⊥
    never-refused why d =
        let u = deltas-refused s place last r e (count - i) (omega arith) why d in
        let v = h.deltas in
        let z : ◌≡◌ {A = ℕ} 0 1 = cc in omega arith

    pub left_less : (x : StreamNumber) (next : ℕ) → r ≡ Ok (x, next) → (one : List ℕ) → one ≡ overlay now (at + 2 * i) (number_bytes 2 x.value)
        → Left s whole at count (i + 1) one x.value next
    unfolding streams_bytes
    left_less x next d one f =
        let n : count - i ≡ suc (count - (i + 1)) = omega arith in
        let m : count - i - 1 ≡ count - (i + 1) = omega arith in
        let xs : List ℕ = streams_from (count - (i + 1)) s next x.value in
        let a : at + 2 * i + length (number_bytes 2 x.value) ≡ at + 2 * (i + 1) = omega (arith, length-number_bytes 2 x.value) in
        let g = delta-good s place last x next (sym e ∙ d) in
        record {
          near = omega arith;
          stored =
              h.stored ∙ ap (λ (k : ℕ). overlay now (at + 2 * i) (streams_bytes (streams_from k s place last))) n
              ∙ ap (λ (ys : List ℕ). overlay now (at + 2 * i) (streams_bytes ys)) (streams-more s place last r e x next d (count - (i + 1)))
              ∙ overlay-append now (at + 2 * i) (number_bytes 2 x.value) (streams_bytes xs)
              ∙ ap (λ (k : ℕ). overlay (overlay now (at + 2 * i) (number_bytes 2 x.value)) k (streams_bytes xs)) a
              ∙ ap (λ (o : List ℕ). overlay o (at + 2 * (i + 1)) (streams_bytes xs)) (sym f);
          end = h.end;
          deltas = sym (rw m at (deltas-more s place last r e x next d (count - i) (omega arith))) ∙ h.deltas;
        }

-- a list lists as many streams as its count says
pub list_counted : (s : List ℕ) (p : ListPlace) → InList s p → length (list_of s p).streams ≡ p.count
list_counted s p h = (deltas-good s p.count p.deltas p.horizon h.end h.deltas).counted
