-- The equations of `read_delta`, `read_deltas`, `streams_from` and `read_list`, one for each way through them.
-- Only these unfold the definitions.
use mathlib.Core.Path.{◌≡◌, refl}
use Prim.Native.Nat.{ℕ, zero, suc, ◌+◌, ◌-◌, ◌≤◌, ◌<◌}
use native.Mathlib.Nat.{not-suc-le-zero}
use native.Mathlib.Numerals.{sub-one}
use mathlib.Core.List.{List, [], ◌∷◌}
use borrow.Author.Tests.{lt-ltb, le-ltb, le-leb, lt-leb}
use Rattle.integers.specs.Integer.{read_int}
use Rattle.stream_lists.specs.StreamList.{read_delta, read_deltas, streams_from, read_list}
use Rattle.integers.specs.declared.integer.WireInt.{WireInt}
use Rattle.integers.specs.declared.number.StreamNumber.{StreamNumber}
use Rattle.std.specs.Prelude.{Result, Ok, Err}
use Rattle.integers.specs.Answers.{Read}
use Rattle.integers.specs.declared.answer.Refusal.{Refusal}
use Rattle.integers.specs.declared.answer.Refusal.TheVariants.{BadStreamList}

module _ (s : List ℕ) (at last : ℕ) (r : Read WireInt) (e : r ≡ read_int 8 s at) where
  pub delta-refused : (why : Refusal) → r ≡ Err why → read_delta s at last ≡ Err why
  unfolding read_delta
  delta-refused number d = simp (← e, d)

  module _ (x : WireInt) (next : ℕ) (d : r ≡ Ok (x, next)) where
    pub delta-zero : x.value ≤ 0 → read_delta s at last ≡ Err BadStreamList
    unfolding read_delta
    delta-zero h = simp (← e, d, le-ltb _ _ h)

    pub delta-over : 0 < x.value → 4095 < last + x.value → read_delta s at last ≡ Err BadStreamList
    unfolding read_delta
    delta-over h k = simp (← e, d, lt-ltb _ _ h, lt-leb _ _ k)

    pub delta-stream : 0 < x.value → last + x.value ≤ 4095 → read_delta s at last ≡ Ok (record { value = last + x.value }, next)
    unfolding read_delta
    delta-stream h k = simp (← e, d, lt-ltb _ _ h, le-leb _ _ k)

module _ (s : List ℕ) (at last : ℕ) where
  pub deltas-end : (n : ℕ) → n ≤ 0 → read_deltas n s at last ≡ Ok at
  unfolding read_deltas
  deltas-end zero p = refl
  deltas-end (suc n) p = absurd (not-suc-le-zero p)

  pub streams-end : streams_from 0 s at last ≡ []
  unfolding streams_from
  streams-end = refl

  module _ (r : Read StreamNumber) (e : r ≡ read_delta s at last) where
    pub deltas-refused : (n : ℕ) → 0 < n → (why : Refusal) → r ≡ Err why → read_deltas n s at last ≡ Err why
    unfolding read_deltas
    deltas-refused zero p number d = absurd (not-suc-le-zero p)
    deltas-refused (suc n) p number d = simp (← e, d)

    module _ (x : StreamNumber) (next : ℕ) (d : r ≡ Ok (x, next)) where
      pub deltas-more : (n : ℕ) → 0 < n → read_deltas n s at last ≡ read_deltas (n - 1) s next x.value
      unfolding read_deltas
      deltas-more zero p = absurd (not-suc-le-zero p)
      deltas-more (suc n) p = simp (← e, d, sub-one)

      pub streams-more : (n : ℕ) → streams_from (suc n) s at last ≡ x.value ∷ streams_from n s next x.value
      unfolding streams_from
      streams-more n = simp (← e, d)

module _ (s : List ℕ) (at : ℕ) (r : Read WireInt) (e : r ≡ read_int 8 s at) where
  pub list-refused : (why : Refusal) → r ≡ Err why → read_list s at ≡ Err why
  unfolding read_list
  list-refused number d = simp (← e, d)

  module _ (x : WireInt) (after : ℕ) (d : r ≡ Ok (x, after)) where
    pub list-far : 4096 < x.value → read_list s at ≡ Err BadStreamList
    unfolding read_list
    list-far h = simp (← e, d, lt-leb _ _ h)

    module _ (h : x.value ≤ 4096) (q : Read WireInt) (f : q ≡ read_int 8 s after) where
      pub count-refused : (why : Refusal) → q ≡ Err why → read_list s at ≡ Err why
      unfolding read_list
      count-refused number g = simp (← e, d, le-leb _ _ h, ← f, g)

      module _ (y : WireInt) (deltas : ℕ) (g : q ≡ Ok (y, deltas)) where
        pub list-many : 16 < y.value → read_list s at ≡ Err BadStreamList
        unfolding read_list
        list-many k = simp (← e, d, le-leb _ _ h, ← f, g, lt-leb _ _ k)

        module _ (k : y.value ≤ 16) (z : Result ℕ Refusal) (u : z ≡ read_deltas y.value s deltas x.value) where
          pub list-bad : (why : Refusal) → z ≡ Err why → read_list s at ≡ Err why
          unfolding read_list
          list-bad number v = simp (← e, d, le-leb _ _ h, ← f, g, le-leb _ _ k, ← u, v)

          pub list-found : (next : ℕ) → z ≡ Ok next
              → read_list s at ≡ Ok (record { horizon = x.value; count = y.value; deltas = deltas }, next)
          unfolding read_list
          list-found next v = simp (← e, d, le-leb _ _ h, ← f, g, le-leb _ _ k, ← u, v)
