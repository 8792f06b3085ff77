-- The ways through the test of what forms a state: at which question it says no, what it asks last, and what it says where it says yes.
-- A question that is answered is rewritten by its answer, and the chain computes.
use Rattle.std.proofs.Common.{◌≡◌, ℕ, zero, suc, ◌+◌, ◌-◌, ◌*◌, ◌%◌, ◌^◌, ◌<◌, ◌≤◌, Bool, true, false, ◌&&◌, eqb, leb, List, length, sym, refl, ap, ◌∙◌, zero-add, arith, eq-eqb, ne_eqb, eqb-true, le-leb, leb-false, leb-true}
use mathlib.Core.Bool.{and_assoc, and-eq-true_iff}
use borrow.Author.Tests.{eqb-false, lt-leb}
use Rattle.memory.specs.Choice.{pick}
use Rattle.memory.specs.Compare.{zeros_at}
use Rattle.integers.specs.Integer.{largest}
use Rattle.state.specs.Layout.{
  decoder_length,
  encoder_length,
  decoder_role,
  encoder_role,
  february,
  listed_place,
  role_of,
  edition_of,
  limit_of,
  held_of,
  count_of,
  delete_count,
  before_first,
  index_at,
  index_before,
  offset_at,
  status_at,
  delete_index_at,
  horizon_at,
  listed_count_at,
}
use Rattle.state.specs.EncoderState.{nontrailer_at, trailer_at}
use Rattle.state.specs.Forms.{
  head_ok,
  each,
  index_ok,
  text_ok,
  columns_ok,
  rows_ok,
  status_ok,
  pointing,
  streams_ok,
  list_ok,
  deletes_ok,
  forms_decoder,
  reference_ok,
  forms_encoder,
}

-- ---- a question answered, before others

pub stop : (t r : Bool) → t ≡ false → (t && r) ≡ false
stop t r e = ap (λ (b : Bool). b && r) e

pub pass : (t r : Bool) → t ≡ true → (t && r) ≡ r
pass t r e = ap (λ (b : Bool). b && r) e

-- ---- a test of each row

crossed : (a b c d : Bool) → (a && b && (c && d)) ≡ (a && c && (b && d))
crossed false b c d = refl
crossed true true c d = refl
crossed true false true d = refl
crossed true false false d = refl

-- two tests of each row at once
pub each_both : (a b : ℕ → Bool) (k i : ℕ) → each (λ j. a j && b j) k i ≡ (each a k i && each b k i)
unfolding each
each_both a b zero i = refl
each_both a b (suc k) i = rw (each_both a b k (i + 1)) (crossed (a i) (b i) (each a k (i + 1)) (each b k (i + 1)))

-- ---- the head

module _ (role bytes : ℕ) (m : List ℕ) where
  pub head-short : length m < bytes → head_ok role bytes m ≡ false
  unfolding head_ok
  head-short h = rw (lt-leb bytes (length m) h) refl

  module _ (long : bytes ≤ length m) where
    pub head-role : (role_of m ≡ role → ⊥) → head_ok role bytes m ≡ false
    unfolding head_ok
    head-role h = rw (le-leb bytes (length m) long, ne_eqb (role_of m) role h) refl

    module _ (own : role_of m ≡ role) where
      pub head-edition : (edition_of m ≡ february → ⊥) → head_ok role bytes m ≡ false
      unfolding head_ok
      head-edition h = rw (le-leb bytes (length m) long, eq-eqb (role_of m) role own, ne_eqb (edition_of m) february h) refl

      module _ (second : edition_of m ≡ february) where
        asked : head_ok role bytes m ≡ (leb (limit_of m) 4096 && (leb (held_of m) 4096 && (leb (count_of m) 128 && zeros_at 54 m 10)))
        unfolding head_ok
        asked = rw (le-leb bytes (length m) long, eq-eqb (role_of m) role own, eq-eqb (edition_of m) february second) refl

        pub head-limit : 4096 < limit_of m → head_ok role bytes m ≡ false
        head-limit h = asked ∙ rw (lt-leb (limit_of m) 4096 h) refl

        module _ (limit : limit_of m ≤ 4096) where
          pub head-held : 4096 < held_of m → head_ok role bytes m ≡ false
          head-held h = asked ∙ rw (le-leb (limit_of m) 4096 limit, lt-leb (held_of m) 4096 h) refl

          module _ (held : held_of m ≤ 4096) where
            pub head-count : 128 < count_of m → head_ok role bytes m ≡ false
            head-count h = asked ∙ rw (le-leb (limit_of m) 4096 limit, le-leb (held_of m) 4096 held, lt-leb (count_of m) 128 h) refl

            pub head-zeros : count_of m ≤ 128 → head_ok role bytes m ≡ zeros_at 54 m 10
            head-zeros h = asked ∙ rw (le-leb (limit_of m) 4096 limit, le-leb (held_of m) 4096 held, le-leb (count_of m) 128 h) refl

  pub head-good : head_ok role bytes m ≡ true → (bytes ≤ length m) × (count_of m ≤ 128)
  unfolding head_ok
  head-good e =
      let long = (and-eq-true_iff (leb bytes (length m)) _).0 e in
      let own = (and-eq-true_iff (eqb (role_of m) role) _).0 long.1 in
      let second = (and-eq-true_iff (eqb (edition_of m) february) _).0 own.1 in
      let limit = (and-eq-true_iff (leb (limit_of m) 4096) _).0 second.1 in
      let held = (and-eq-true_iff (leb (held_of m) 4096) _).0 limit.1 in
      let count = (and-eq-true_iff (leb (count_of m) 128) _).0 held.1 in
      (leb-true bytes (length m) long.0, leb-true (count_of m) 128 count.0)

-- ---- the columns of n rows

module _ (m : List ℕ) (top n : ℕ) where
  pub columns-front : (index_before m 0 ≡ before_first → ⊥) → columns_ok m top n ≡ false
  unfolding columns_ok
  columns-front h = rw (ne_eqb (index_before m 0) before_first h) refl

  module _ (front : index_before m 0 ≡ before_first) where
    pub columns-top : top < index_before m n → columns_ok m top n ≡ false
    unfolding columns_ok
    columns-top h = rw (eq-eqb (index_before m 0) before_first front, lt-leb (index_before m n) top h) refl

    module _ (below : index_before m n ≤ top) where
      pub columns-start : (offset_at m 0 ≡ 0 → ⊥) → columns_ok m top n ≡ false
      unfolding columns_ok
      columns-start h = rw (eq-eqb (index_before m 0) before_first front, le-leb (index_before m n) top below, ne_eqb (offset_at m 0) 0 h) refl

      module _ (start : offset_at m 0 ≡ 0) where
        summed : columns_ok m top n ≡ (eqb (offset_at m n + 32 * n) (held_of m) && each (index_ok m) n 0)
        unfolding columns_ok
        summed = rw (eq-eqb (index_before m 0) before_first front, le-leb (index_before m n) top below, eq-eqb (offset_at m 0) 0 start) refl

        pub columns-held : (offset_at m n + 32 * n ≡ held_of m → ⊥) → columns_ok m top n ≡ false
        columns-held h = summed ∙ rw (ne_eqb (offset_at m n + 32 * n) (held_of m) h) refl

        pub columns-rising : offset_at m n + 32 * n ≡ held_of m → columns_ok m top n ≡ each (index_ok m) n 0
        columns-rising h = summed ∙ rw (eq-eqb (offset_at m n + 32 * n) (held_of m) h) refl

  pub columns-good : columns_ok m top n ≡ true → offset_at m 0 ≡ 0
  unfolding columns_ok
  columns-good e =
      let front = (and-eq-true_iff (eqb (index_before m 0) before_first) _).0 e in
      let below = (and-eq-true_iff (leb (index_before m n) top) _).0 front.1 in
      let start = (and-eq-true_iff (eqb (offset_at m 0) 0) _).0 below.1 in
      eqb-true (offset_at m 0) 0 start.0

-- ---- a text: what its end less its start is, and that less the name, where what is below 0 wraps

module _ (start end name text value : ℕ) (low : start ≤ 4096) (short : name < 256) (small : value < 2 ^ 16)
    (first : (text + start) % 2 ^ 16 ≡ end) (second : (value + name) % 2 ^ 16 ≡ text) where
  room : end ≤ 4096 → (b : Bool) → leb (start + name) end ≡ b → leb value 2047 ≡ (b && leb (end - start - name) 2047)
  room h true e =
      let fits = leb-true (start + name) end e in
      let exact : value ≡ end - start - name = omega arith in
      ap (λ (x : ℕ). leb x 2047) exact
  room h false e =
      let over = leb-false (start + name) end e in
      lt-leb value 2047 (omega arith)

  within : (b : Bool) → leb end 4096 ≡ b → (b && leb value 2047) ≡ (b && (leb (start + name) end && leb (end - start - name) 2047))
  within true e = room (leb-true end 4096 e) (leb (start + name) end) refl
  within false e = refl

  pub text-fits : (leb end 4096 && leb value 2047) ≡ (leb end 4096 && (leb (start + name) end && leb (end - start - name) 2047))
  text-fits = within (leb end 4096) refl

-- ---- a row

-- the decoder's status: none, or one that points at a delete
module _ (m : List ℕ) (i status : ℕ) (read : status ≡ status_at m i) where
  pub status-none : status ≡ 0 → status_ok m i ≡ true
  unfolding status_ok
  status-none h = rw (sym read, eq-eqb status 0 h) refl

  module _ (some : status ≡ 0 → ⊥) where
    pub status-past : delete_count m < status → status_ok m i ≡ false
    unfolding status_ok
    status-past h = rw (sym read, ne_eqb status 0 some, lt-leb status (delete_count m) h) refl

    pub status-points : status ≤ delete_count m → status_ok m i ≡ eqb (delete_index_at m (status - 1)) (index_at m i)
    unfolding status_ok
    status-points h = rw (sym read, ne_eqb status 0 some, le-leb status (delete_count m) h) refl

-- where no delete is kept, the status of a row is 0, and no row points at one
module _ (m : List ℕ) (none : delete_count m ≡ 0) where
  status-live : (i : ℕ) (b : Bool) → eqb (status_at m i) 0 ≡ b → status_ok m i ≡ b
  status-live i true e = status-none m i (status_at m i) refl (eqb-true (status_at m i) 0 e)
  status-live i false e =
      let some = eqb-false (status_at m i) 0 e in
      status-past m i (status_at m i) refl some (omega arith)

  statuses-live : (k i : ℕ) → (each (status_ok m) k i && eqb (pointing m k i) 0) ≡ each (λ j. eqb (status_at m j) 0) k i
  unfolding each pointing
  statuses-live zero i = refl
  statuses-live (suc k) i = go (statuses-live k (i + 1)) (eqb (status_at m i) 0) refl
    where
      go : (each (status_ok m) k (i + 1) && eqb (pointing m k (i + 1)) 0) ≡ each (λ j. eqb (status_at m j) 0) k (i + 1)
          → (b : Bool) → eqb (status_at m i) 0 ≡ b
          → (status_ok m i && each (status_ok m) k (i + 1) && eqb (pick (eqb (status_at m i) 0) 0 1 + pointing m k (i + 1)) 0)
          ≡ (eqb (status_at m i) 0 && each (λ j. eqb (status_at m j) 0) k (i + 1))
      go rest true e = rw (status-live i true e, e, zero-add (pointing m k (i + 1))) rest
      go rest false e = rw (status-live i false e, e) refl

  pub rows-live : (n : ℕ) → (each (text_ok m) n 0 && (each (status_ok m) n 0 && eqb (pointing m n 0) (delete_count m)))
      ≡ each (λ i. text_ok m i && eqb (status_at m i) 0) n 0
  rows-live n = rw (none, statuses-live n 0) (sym (each_both (text_ok m) (λ i. eqb (status_at m i) 0) n 0))

-- the encoder's status, and the row's horizons: asked at once
pub reference-asked : (m : List ℕ) (i status nontrailer trailer : ℕ)
    → status ≡ status_at m i → nontrailer ≡ nontrailer_at m i → trailer ≡ trailer_at m i
    → (leb status 1 && leb nontrailer 4096 && leb trailer 4096) ≡ reference_ok m i
unfolding reference_ok
reference-asked m i status nontrailer trailer first second third =
    rw (first, second, third) (and_assoc (leb (status_at m i) 1) (leb (nontrailer_at m i) 4096) (leb (trailer_at m i) 4096))

-- ---- a stream list

module _ (m : List ℕ) (at horizon : ℕ) (first : horizon ≡ horizon_at m at) where
  pub list-horizon : 4096 < horizon → list_ok m at ≡ false
  unfolding list_ok
  list-horizon h = rw (sym first, lt-leb horizon 4096 h) refl

  module _ (low : horizon ≤ 4096) (count : ℕ) (second : count ≡ listed_count_at m at) where
    pub list_count : 16 < count → list_ok m at ≡ false
    unfolding list_ok
    list_count h = rw (sym first, sym second, le-leb horizon 4096 low, lt-leb count 16 h) refl

    -- the streams stand at `listed`
    module _ (listed : ℕ) (place : listed ≡ listed_place at) where
      module _ (few : count ≤ 16) (ordered : Bool) (is : ordered ≡ streams_ok m count listed horizon) where
        last : list_ok m at ≡ (ordered && zeros_at (32 - 2 * count) m (listed + 2 * count))
        unfolding list_ok
        last = rw (sym first, sym second, le-leb horizon 4096 low, le-leb count 16 few, is, place) refl

        pub list-streams : ordered ≡ false → list_ok m at ≡ false
        list-streams e = last ∙ rw e refl

        pub list-zeros : ordered ≡ true → list_ok m at ≡ zeros_at (32 - 2 * count) m (listed + 2 * count)
        list-zeros e = last ∙ rw e refl

      pub list-empty : count ≡ 0 → list_ok m at ≡ zeros_at 32 m listed
      unfolding streams_ok
      list-empty e =
          let left : 32 - 2 * count ≡ 32 = omega arith in
          let from : listed + 2 * count ≡ listed = omega arith in
          rw (left, from) at (list-zeros (omega arith) true (rw e refl) refl)

-- ---- the whole, of n rows

module _ (m : List ℕ) where
  pub decoder-head : head_ok decoder_role decoder_length m ≡ false → forms_decoder m ≡ false
  unfolding forms_decoder
  decoder-head e = rw e refl

  module _ (head : head_ok decoder_role decoder_length m ≡ true) where
    pub decoder-count : 256 < delete_count m → forms_decoder m ≡ false
    unfolding forms_decoder
    decoder-count h = rw (head, lt-leb (delete_count m) 256 h) refl

    module _ (few : delete_count m ≤ 256) (n : ℕ) (counted : n ≡ count_of m) where
      pub decoder-columns : columns_ok m largest n ≡ false → forms_decoder m ≡ false
      unfolding forms_decoder rows_ok
      decoder-columns e = rw (head, le-leb (delete_count m) 256 few, sym counted, e) refl

      module _ (columns : columns_ok m largest n ≡ true) (rows : Bool)
          (is : rows ≡ (each (text_ok m) n 0 && (each (status_ok m) n 0 && eqb (pointing m n 0) (delete_count m)))) where
        paired : forms_decoder m ≡ (rows && deletes_ok m (delete_count m) 0)
        unfolding forms_decoder rows_ok
        paired =
            rw (head, le-leb (delete_count m) 256 few, sym counted, columns, is)
            (sym (and_assoc (each (text_ok m) n 0) _ _ ∙ ap (λ (b : Bool). each (text_ok m) n 0 && b) (and_assoc (each (status_ok m) n 0) _ _)))

        pub decoder-rows : rows ≡ false → forms_decoder m ≡ false
        decoder-rows e = paired ∙ rw e refl

        pub decoder-deletes : rows ≡ true → forms_decoder m ≡ deletes_ok m (delete_count m) 0
        decoder-deletes e = paired ∙ rw e refl

module _ (m : List ℕ) where
  pub encoder-head : head_ok encoder_role encoder_length m ≡ false → forms_encoder m ≡ false
  unfolding forms_encoder
  encoder-head e = rw e refl

  module _ (head : head_ok encoder_role encoder_length m ≡ true) where
    pub encoder-count : (delete_count m ≡ 0 → ⊥) → forms_encoder m ≡ false
    unfolding forms_encoder
    encoder-count h = rw (head, ne_eqb (delete_count m) 0 h) refl

    module _ (none : delete_count m ≡ 0) (n : ℕ) (counted : n ≡ count_of m) where
      pub encoder-columns : columns_ok m 189 n ≡ false → forms_encoder m ≡ false
      unfolding forms_encoder rows_ok
      encoder-columns e = rw (head, eq-eqb (delete_count m) 0 none, sym counted, e) refl

      pub encoder-rows : columns_ok m 189 n ≡ true → forms_encoder m ≡ each (λ i. text_ok m i && reference_ok m i) n 0
      unfolding forms_encoder rows_ok
      encoder-rows e = rw (head, eq-eqb (delete_count m) 0 none, sym counted, e) (sym (each_both (text_ok m) (reference_ok m) n 0))
