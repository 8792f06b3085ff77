-- The turns of the loops that test rows, streams and deletes: the answer for what is left before a turn is the one after it.
-- The test of k is taken apart where k is not 0.
use Rattle.std.proofs.Common.{◌≡◌, ℕ, suc, ◌+◌, ◌-◌, ◌*◌, ◌<◌, ◌≤◌, Bool, true, false, ◌&&◌, eqb, ltb, leb, List, sym, refl, ap, ◌∙◌, arith, le-ltb, lt-ltb, eq-eqb, ne_eqb, le-leb}
use mathlib.Core.Bool.{and_assoc, and-true, and-eq-true_iff}
use borrow.Author.Tests.{lt-leb}
use Rattle.memory.specs.Choice.{pick}
use Rattle.memory.specs.Numbers.{number}
use Rattle.state.specs.Layout.{nontrailer_list, trailer_list, offset_at, name_length_at, status_at}
use Rattle.state.specs.Forms.{each, text_ok, pointing, streams_ok, list_ok, deletes_ok}

-- ---- a test of each row: i of n are seen, and passed where ok says so. The answer for all rows is ok with the one for those left

pub record EachSeen (test : ℕ → Bool) (n i : ℕ) (ok : Bool) : Type 0 where
  pub some : i ≤ n
  pub whole : each test n 0 ≡ (ok && each test (n - i) i)

pub each_start : (test : ℕ → Bool) (n : ℕ) → EachSeen test n 0 true
each_start test n = let e : n - 0 ≡ n = omega arith in record { some = omega arith; whole = rw e refl }

module _ (test : ℕ → Bool) (n i : ℕ) (ok : Bool) (seen : EachSeen test n i ok) where
  pub each_turn : i < n → (ok' : Bool) → ok' ≡ (ok && test i) → EachSeen test n (i + 1) ok'
  unfolding each
  each_turn more ok' e =
      let f : n - i ≡ suc (n - (i + 1)) = omega arith in
      record {
        some = omega arith;
        whole = seen.whole ∙ ap (λ (k : ℕ). ok && each test k i) f
            ∙ sym (ap (λ (b : Bool). b && each test (n - (i + 1)) (i + 1)) e ∙ and_assoc ok (test i) (each test (n - (i + 1)) (i + 1)));
      }

  pub each-end : n ≤ i → ok ≡ each test n 0
  unfolding each
  each-end h =
      let f : n - i ≡ 0 = omega arith in
      sym (seen.whole ∙ ap (λ (k : ℕ). ok && each test k i) f ∙ and-true ok)

-- ---- with a test of the texts: as long as each row passed, the text so far ends within the table's

pub record TextsSeen (test : ℕ → Bool) (m : List ℕ) (n i : ℕ) (ok : Bool) : Type 0 where
  pub rows : EachSeen test n i ok
  pub within : ok ≡ true → offset_at m i ≤ 4096

pub texts-start : (test : ℕ → Bool) (m : List ℕ) (n : ℕ) → offset_at m 0 ≡ 0 → TextsSeen test m n 0 true
texts-start test m n h = record { rows = each_start test n; within = λ e. omega arith }

-- the answer for a text counts only where each row before it passed
answered : (ok text asked rest : Bool) → (ok ≡ true → text ≡ asked) → (ok && (text && rest)) ≡ (ok && (asked && rest))
answered true text asked rest f = ap (λ (b : Bool). b && rest) (f refl)
answered false text asked rest f = refl

module _ (test : ℕ → Bool) (m : List ℕ) (n i : ℕ) (ok : Bool) (seen : TextsSeen test m n i ok) (more : i < n) where
  module _ (start end name : ℕ) (text rest also : Bool)
      (told : (start ≤ 4096 → name < 256 → text ≡ (leb end 4096 && (leb (start + name) end && leb (end - start - name) 2047)))
      × (text ≡ true → end ≤ 4096))
      (first : start ≡ offset_at m i) (second : end ≡ offset_at m (i + 1)) (third : name ≡ name_length_at m i) (short : name < 256)
      (is : rest ≡ also) where
    asked : ok ≡ true → text ≡ text_ok m i
    unfolding text_ok
    asked e = let low = seen.within e in rw (first, second, third) at (told.0 (omega arith) short)

    pub texts-turn : test i ≡ (text_ok m i && also) → (ok' : Bool) → ok' ≡ (ok && (text && rest)) → TextsSeen test m n (i + 1) ok'
    texts-turn both ok' e = record {
      rows = each_turn test n i ok seen.rows more ok'
          (e ∙ answered ok text (text_ok m i) rest asked ∙ ap (λ (b : Bool). ok && (text_ok m i && b)) is ∙ ap (λ (b : Bool). ok && b) (sym both));
      within = λ f.
          let all = (and-eq-true_iff ok (text && rest)).0 (sym e ∙ f) in
          let end-within = told.1 ((and-eq-true_iff text rest).0 all.1).0 in
          omega arith;
    }

-- ---- the rows that point at a delete: p of i rows did, and q with the next

module _ (m : List ℕ) (n i p : ℕ) where
  module _ (more : i < n) (q : ℕ) where
    counted : pointing m (n - i) i ≡ pick (eqb (status_at m i) 0) 0 1 + pointing m (n - (i + 1)) (i + 1)
    unfolding pointing
    counted =
        let e : n - i ≡ suc (n - (i + 1)) = omega arith in
        ap (λ (k : ℕ). pointing m k i) e

    pub pointing-one : (status_at m i ≡ 0 → ⊥) → q ≡ p + 1 → p + pointing m (n - i) i ≡ q + pointing m (n - (i + 1)) (i + 1)
    pointing-one f h =
        let e : pointing m (n - i) i ≡ 1 + pointing m (n - (i + 1)) (i + 1) = counted ∙ rw (ne_eqb (status_at m i) 0 f) refl in
        omega arith

    pub pointing-none : status_at m i ≡ 0 → q ≡ p → p + pointing m (n - i) i ≡ q + pointing m (n - (i + 1)) (i + 1)
    pointing-none f h =
        let e : pointing m (n - i) i ≡ 0 + pointing m (n - (i + 1)) (i + 1) = counted ∙ rw (eq-eqb (status_at m i) 0 f) refl in
        omega arith

  pub pointing-end : n ≤ i → p + pointing m (n - i) i ≡ p
  unfolding pointing
  pointing-end h =
      let e : n - i ≡ 0 = omega arith in
      let f : pointing m (n - i) i ≡ 0 = ap (λ (k : ℕ). pointing m k i) e in
      omega arith

pub pointing-start : (m : List ℕ) (n : ℕ) → pointing m n 0 ≡ 0 + pointing m (n - 0) 0
pointing-start m n =
    let e : n ≡ n - 0 = omega arith in
    let f : pointing m n 0 ≡ pointing m (n - 0) 0 = ap (λ (k : ℕ). pointing m k 0) e in
    omega arith

-- ---- streams: i of k are seen, the last of them `last`

module _ (m : List ℕ) (k at i last : ℕ) where
  module _ (more : i < k) where
    first : streams_ok m (k - i) (at + 2 * i) last
        ≡ (ltb last (number 2 m (at + 2 * i)) && (leb (number 2 m (at + 2 * i)) 4095
        && streams_ok m (k - (i + 1)) (at + 2 * (i + 1)) (number 2 m (at + 2 * i))))
    unfolding streams_ok
    first =
        let e : k - i ≡ suc (k - (i + 1)) = omega arith in
        let f : at + 2 * i + 2 ≡ at + 2 * (i + 1) = omega arith in
        ap (λ (x : ℕ). streams_ok m x (at + 2 * i) last) e ∙ rw f refl

    pub streams-low : number 2 m (at + 2 * i) ≤ last → streams_ok m (k - i) (at + 2 * i) last ≡ false
    streams-low h = first ∙ rw (le-ltb last (number 2 m (at + 2 * i)) h) refl

    module _ (above : last < number 2 m (at + 2 * i)) where
      pub streams-high : 4095 < number 2 m (at + 2 * i) → streams_ok m (k - i) (at + 2 * i) last ≡ false
      streams-high h = first ∙ rw (lt-ltb last (number 2 m (at + 2 * i)) above, lt-leb (number 2 m (at + 2 * i)) 4095 h) refl

      pub streams-turn : number 2 m (at + 2 * i) ≤ 4095
          → streams_ok m (k - i) (at + 2 * i) last ≡ streams_ok m (k - (i + 1)) (at + 2 * (i + 1)) (number 2 m (at + 2 * i))
      streams-turn h = first ∙ rw (lt-ltb last (number 2 m (at + 2 * i)) above, le-leb (number 2 m (at + 2 * i)) 4095 h) refl

  pub streams-end : k ≤ i → streams_ok m (k - i) (at + 2 * i) last ≡ true
  unfolding streams_ok
  streams-end h = let e : k - i ≡ 0 = omega arith in ap (λ (x : ℕ). streams_ok m x (at + 2 * i) last) e

pub streams-start : (m : List ℕ) (k at last : ℕ) → streams_ok m k at last ≡ streams_ok m (k - 0) (at + 2 * 0) last
streams-start m k at last =
    let e : k - 0 ≡ k = omega arith in
    let f : at + 2 * 0 ≡ at = omega arith in
    rw (e, f) refl

-- ---- deletes: k of n are seen

module _ (m : List ℕ) (n k : ℕ) where
  module _ (more : k < n) where
    lists : deletes_ok m (n - k) k ≡ (list_ok m (nontrailer_list k) && (list_ok m (trailer_list k) && deletes_ok m (n - (k + 1)) (k + 1)))
    unfolding deletes_ok
    lists =
        let e : n - k ≡ suc (n - (k + 1)) = omega arith in
        ap (λ (x : ℕ). deletes_ok m x k) e

    pub deletes-nontrailer : list_ok m (nontrailer_list k) ≡ false → deletes_ok m (n - k) k ≡ false
    deletes-nontrailer e = lists ∙ rw e refl

    module _ (nontrailer : list_ok m (nontrailer_list k) ≡ true) where
      pub deletes-trailer : list_ok m (trailer_list k) ≡ false → deletes_ok m (n - k) k ≡ false
      deletes-trailer e = lists ∙ rw (nontrailer, e) refl

      pub deletes-turn : list_ok m (trailer_list k) ≡ true → deletes_ok m (n - k) k ≡ deletes_ok m (n - (k + 1)) (k + 1)
      deletes-turn e = lists ∙ rw (nontrailer, e) refl

  pub deletes-end : n ≤ k → deletes_ok m (n - k) k ≡ true
  unfolding deletes_ok
  deletes-end h = let e : n - k ≡ 0 = omega arith in ap (λ (x : ℕ). deletes_ok m x k) e

pub deletes-start : (m : List ℕ) (count n : ℕ) → n ≡ count → deletes_ok m count 0 ≡ deletes_ok m (n - 0) 0
deletes-start m count n h = let e : count ≡ n - 0 = omega arith in ap (λ (x : ℕ). deletes_ok m x 0) e
