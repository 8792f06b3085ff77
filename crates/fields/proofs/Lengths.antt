-- The equations of `read_length`, one for each way through it: each test of the way is given as a fact.
use mathlib.Core.Path.{◌≡◌}
use Prim.Native.Nat.{ℕ, ◌+◌, ◌*◌, ◌%◌, ◌≤◌, ◌<◌}
use native.Mathlib.Omega.{arith}
use mathlib.Core.List.{List}
use lib.ListN.{length, get_or}
use borrow.Author.Tests.{lt-ltb, le-ltb, le-leb, lt-leb}
use Rattle.fields.specs.Reading.{read_length}
use Rattle.std.specs.Prelude.{Ok, Err}
use Rattle.integers.specs.declared.answer.Refusal.TheVariants.{BadFieldList, TooLong}

module _ (s : List ℕ) (at limit : ℕ) where
  -- no byte there
  pub length_none : length s ≤ at → read_length s at limit ≡ Err BadFieldList
  unfolding read_length
  length_none h = simp (le-ltb at (length s) h)

  module _ (h : at < length s) (b : ℕ) (e : b ≡ get_or s at 0) where
    pub length-one : b < 128 → b ≤ limit → read_length s at limit ≡ Ok (b, at + 1)
    unfolding read_length
    length-one k l = simp (lt-ltb at (length s) h, ← e, lt-ltb b 128 k, le-leb b limit l)

    pub length-one-long : b < 128 → limit < b → read_length s at limit ≡ Err TooLong
    unfolding read_length
    length-one-long k l = simp (lt-ltb at (length s) h, ← e, lt-ltb b 128 k, lt-leb b limit l)

    -- a second group must follow, and is not there
    pub length_cut : 128 ≤ b → length s ≤ at + 1 → read_length s at limit ≡ Err BadFieldList
    unfolding read_length
    length_cut k l = simp (lt-ltb at (length s) h, ← e, le-ltb b 128 k, le-ltb (at + 1) (length s) l)

    module _ (k : 128 ≤ b) (l : at + 1 < length s) (d : ℕ) (f : d ≡ get_or s (at + 1) 0) where
      -- the second group says another follows
      pub length-third : 128 ≤ d → read_length s at limit ≡ Err TooLong
      unfolding read_length
      length-third m = simp (lt-ltb at (length s) h, ← e, le-ltb b 128 k, lt-ltb (at + 1) (length s) l, ← f, le-ltb d 128 m)

      -- one group would do: not the shortest form
      pub length-padded : d ≡ 0 → read_length s at limit ≡ Err BadFieldList
      unfolding read_length
      length-padded m =
          let x : d < 128 = omega arith in
          let y : d ≤ 0 = omega arith in
          simp (lt-ltb at (length s) h, ← e, le-ltb b 128 k, lt-ltb (at + 1) (length s) l, ← f, lt-ltb d 128 x, le-ltb 0 d y)

      module _ (m : d < 128) (n : 0 < d) where
        pub length_two : b % 128 + 128 * d ≤ limit → read_length s at limit ≡ Ok (b % 128 + 128 * d, at + 2)
        unfolding read_length
        length_two p =
            simp (
              lt-ltb at (length s) h,
              ← e,
              le-ltb b 128 k,
              lt-ltb (at + 1) (length s) l,
              ← f,
              lt-ltb d 128 m,
              lt-ltb 0 d n,
              le-leb (b % 128 + 128 * d) limit p,
            )

        pub length-two-long : limit < b % 128 + 128 * d → read_length s at limit ≡ Err TooLong
        unfolding read_length
        length-two-long p =
            simp (
              lt-ltb at (length s) h,
              ← e,
              le-ltb b 128 k,
              lt-ltb (at + 1) (length s) l,
              ← f,
              lt-ltb d 128 m,
              lt-ltb 0 d n,
              lt-leb (b % 128 + 128 * d) limit p,
            )
