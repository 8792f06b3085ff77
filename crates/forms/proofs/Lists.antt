-- A stream list that was read stands in the bytes as the writer writes it: by `int-stands` at each of its numbers.
use mathlib.Core.Path.{◌≡◌, refl, sym, subst}
use Prim.Native.Nat.{ℕ, zero, suc, ◌+◌, ◌-◌}
use native.Mathlib.Omega.{arith}
use native.Mathlib.Numerals.{sub-one}
use mathlib.Core.List.{List}
use lib.Dec.{ltb, leb}
use lib.ListN.{length}
use Rattle.memory.specs.Bytes.{Small}
use Rattle.memory.proofs.Order.{need-both}
use Rattle.integers.specs.Integer.{read_int, int_wire}
use Rattle.stream_lists.specs.StreamList.{on_deltas, read_delta, read_deltas, streams_from, list_of, read_list, deltas_wire, list_wire}
use Rattle.stream_lists.proofs.ListLaws.{deltas-end, deltas-refused, deltas-more, streams-end, streams-more}
use Rattle.stream_lists.proofs.ListBounds.{deltas-good}
use Rattle.integers.specs.declared.integer.WireInt.{WireInt}
use Rattle.integers.specs.declared.number.StreamNumber.{StreamNumber}
use Rattle.stream_lists.specs.declared.stream_list.ListPlace.{ListPlace}
use Rattle.integers.proofs.Told.{Told}
use Rattle.integers.specs.declared.answer.Refusal.TheVariants.{BadStreamList}
use Rattle.forms.proofs.Found.{Found, found-each, found-on-int}
use Rattle.forms.proofs.Stands.{Stands, stands-join, int-there}
use Rattle.std.specs.Prelude.{Result, Ok, Err}
use Rattle.integers.specs.Answers.{Read}
use Rattle.integers.specs.declared.answer.Refusal.{Refusal}

module _ (s : List ℕ) (small : Small s) where
  -- a number of eight bits has nothing above it
  byte-there : (at : ℕ) (n : WireInt) (next : ℕ) → Ok (n, next) ≡ read_int 8 s at → Stands s at (int_wire 8 0 n.value) next
  byte-there at n next e = int-there s small 8 at 0 (omega (arith, small at)) n next e

  module _ (at last : ℕ) where
    abbrev DeltaStands : StreamNumber → ℕ → Type 0
    DeltaStands x next = Stands s at (int_wire 8 0 (x.value - last)) next

    delta-read : Told (Found DeltaStands) (read_delta s at last)
    unfolding read_delta
    delta-read =
        found-on-int DeltaStands (read_int 8 s at) (λ v next e.
        let d : last + v - last ≡ v = omega arith in
        need-both (Told (Found DeltaStands)) (ltb 0 v) (Err BadStreamList) _ (λ f. record { told = tt })
        (λ f. need-both (Told (Found DeltaStands)) (leb (last + v) 4095) (Err BadStreamList) _ (λ g. record { told = tt })
        (λ g. record { told = rw d (byte-there at (record { value = v }) next (sym e)) })))

    delta-stands : (x : StreamNumber) (next : ℕ) → read_delta s at last ≡ Ok (x, next) → Stands s at (int_wire 8 0 (x.value - last)) next
    delta-stands = found-each DeltaStands (read_delta s at last) delta-read

  abbrev DeltasStand : ℕ → ℕ → ℕ → Result ℕ Refusal → Type 0
  DeltasStand n at last (Ok next) = Stands s at (deltas_wire last (streams_from n s at last)) next
  DeltasStand n at last (Err why) = Unit {0}

  deltas-next : (n at last : ℕ) (r : Read StreamNumber) → r ≡ read_delta s at last
      → ((at last : ℕ) → DeltasStand n at last (read_deltas n s at last)) → DeltasStand (suc n) at last (read_deltas (suc n) s at last)
  unfolding deltas_wire
  deltas-next n at last (Err why) e ih = rw (deltas-refused s at last _ e (suc n) (omega arith) why refl) tt
  deltas-next n at last (Ok (x, after)) e ih =
      rw (deltas-more s at last _ e x after refl (suc n) (omega arith), sub-one) (grow (read_deltas n s after x.value) (ih after x.value))
    where
      grow : (z : Result ℕ Refusal) → DeltasStand n after x.value z → DeltasStand (suc n) at last z
      grow (Err why) h = tt
      grow (Ok next) h = rw (streams-more s at last _ e x after refl n) (stands-join (delta-stands at last x after (sym e)) h)

  deltas-read : (n at last : ℕ) → DeltasStand n at last (read_deltas n s at last)
  unfolding deltas_wire
  deltas-read zero at last =
      rw (deltas-end s at last 0 (omega arith), streams-end s at last) (record { there = tt; ends = omega arith })
  deltas-read (suc n) at last = deltas-next n at last (read_delta s at last) refl (deltas-read n)

  deltas-stand : (n at last next : ℕ) → read_deltas n s at last ≡ Ok next → Stands s at (deltas_wire last (streams_from n s at last)) next
  deltas-stand n at last next e = subst (DeltasStand n at last) e (deltas-read n at last)

  module _ (at : ℕ) where
    abbrev ListStands : ListPlace → ℕ → Type 0
    ListStands p next = Stands s at (list_wire p.horizon (list_of s p).streams) next

    found-on-deltas : (r : Result ℕ Refusal) {f : ℕ → Read ListPlace} → ((next : ℕ) → r ≡ Ok next → Told (Found ListStands) (f next))
        → Told (Found ListStands) (on_deltas Err r f)
    found-on-deltas (Ok next) g = g next refl
    found-on-deltas (Err why) g = record { told = tt }

    three : (x : WireInt) (after : ℕ) (y : WireInt) (start next : ℕ) → length (streams_from y.value s start x.value) ≡ y.value
        → Stands s at (int_wire 8 0 x.value) after → Stands s after (int_wire 8 0 y.value) start
        → Stands s start (deltas_wire x.value (streams_from y.value s start x.value)) next
        → Stands s at (list_wire x.value (streams_from y.value s start x.value)) next
    unfolding list_wire
    three x after y start next l a b c = rw l (stands-join a (stands-join b c))

    list_read : Told (Found ListStands) (read_list s at)
    unfolding read_list
    list_read =
        found-on-int ListStands (read_int 8 s at) (λ x after e.
        need-both (Told (Found ListStands)) (leb x 4096) (Err BadStreamList) _ (λ h. record { told = tt })
        (λ h. found-on-int ListStands (read_int 8 s after) (λ y start f.
        need-both (Told (Found ListStands)) (leb y 16) (Err BadStreamList) _ (λ k. record { told = tt })
        (λ k. found-on-deltas (read_deltas y s start x) (λ next u.
        record {
          told = three (record { value = x }) after (record { value = y }) start next (deltas-good s y start x next u).counted
              (byte-there at (record { value = x }) after (sym e)) (byte-there after (record { value = y }) start (sym f))
              (deltas-stand y start x next u);
        })))))

    pub list-stands : (p : ListPlace) (next : ℕ) → read_list s at ≡ Ok (p, next) → Stands s at (list_wire p.horizon (list_of s p).streams) next
    list-stands = found-each ListStands (read_list s at) list_read
