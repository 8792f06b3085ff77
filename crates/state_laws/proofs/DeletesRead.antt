-- The deletes in memory: their bytes are read back, and what the test finds there are the bytes of what is read.
-- By induction over the streams of a list, and over the deletes.
use mathlib.Core.Path.{◌≡◌, refl, ap}
use Prim.Native.Nat.{ℕ, zero, suc, ◌+◌, ◌*◌, ◌-◌, ◌≤◌, ◌<◌}
use native.Mathlib.Omega.{arith}
use mathlib.Core.Bool.{true}
use mathlib.Core.List.{List, [], ◌∷◌, ◌++◌, map}
use lib.ListN.{length, get_or, replicate, length-append, length-replicate}
use lib.Dec.{ltb, leb}
use borrow.Author.Tests.{ltb-true, leb-true, lt-ltb, le-leb}
use Rattle.memory.specs.Bytes.{Has, Small}
use Rattle.memory.specs.Numbers.{number, number_bytes}
use Rattle.memory.proofs.Places.{has_left, has_right, has_join}
use Rattle.memory.proofs.Numbers.{length-number_bytes, number_bound, number_back, bytes_back}
use Rattle.memory.proofs.Zeros.{zeros-has, has-zeros}
use Rattle.stream_lists.specs.StreamList.{StreamList, Fits}
use Rattle.instructions.specs.Instruction.{FineList}
use Rattle.model.specs.Parts.{Delete}
use Rattle.model.specs.Decoder.{delete_index}
use Rattle.model_laws.proofs.Marks.{and_both}
use Rattle.state.specs.Layout.{delete_place, nontrailer_list, trailer_list, delete_index_at}
use Rattle.state.specs.DecoderState.{streams_at, list_at, delete_at, deletes_of, streams_bytes, list_bytes, delete_bytes, deletes_bytes}
use Rattle.state.specs.Forms.{streams_ok, list_ok, deletes_ok}
use Rattle.state_laws.proofs.Each.{Each}

-- ---- a number, and what follows it

number-then : (n : ℕ) (m : List ℕ) (at v : ℕ) (rest : List ℕ) → Has m at (number_bytes n v ++ rest)
    → Has m at (number_bytes n v) × Has m (at + n) rest
number-then n m at v rest h =
    (has_left m at (number_bytes n v) rest h, rw (length-number_bytes n v) at (has_right m at (number_bytes n v) rest h))

then-number : (n : ℕ) (m : List ℕ) (at v : ℕ) (rest : List ℕ) → Has m at (number_bytes n v) → Has m (at + n) rest
    → Has m at (number_bytes n v ++ rest)
then-number n m at v rest h k = has_join m at (number_bytes n v) rest h (rw (length-number_bytes n v) k)

-- ---- streams

length-streams_bytes : (xs : List ℕ) → length (streams_bytes xs) ≡ 2 * length xs
unfolding streams_bytes
length-streams_bytes [] = refl
length-streams_bytes (x ∷ xs) =
    omega (arith, length-append (number_bytes 2 x) (streams_bytes xs), length-number_bytes 2 x, length-streams_bytes xs)

length-streams_at : (n : ℕ) (m : List ℕ) (at : ℕ) → length (streams_at n m at) ≡ n
unfolding streams_at
length-streams_at zero m at = refl
length-streams_at (suc n) m at = ap suc (length-streams_at n m (at + 2))

-- their bytes, read back
streams-back : (m : List ℕ) (at last : ℕ) (xs : List ℕ) → Fits last xs → Has m at (streams_bytes xs)
    → (streams_at (length xs) m at ≡ xs) × (streams_ok m (length xs) at last ≡ true)
unfolding streams_at streams_ok streams_bytes
streams-back m at last [] f h = (refl, refl)
streams-back m at last (x ∷ xs) f h =
    let p = number-then 2 m at x (streams_bytes xs) h in
    let e : number 2 m at ≡ x = number_back 2 m at x (omega (arith, f.1)) p.0 in
    let r = streams-back m (at + 2) x xs f.2 p.1 in
    rw e (ap (λ (t : List ℕ). x ∷ t) r.0, rw (lt-ltb last x f.0, le-leb x 4095 f.1, r.1))

-- and the other way round
streams-has : (n : ℕ) (m : List ℕ) (at last : ℕ) → Small m → at + 2 * n ≤ length m → streams_ok m n at last ≡ true
    → Has m at (streams_bytes (streams_at n m at)) × Fits last (streams_at n m at)
unfolding streams_at streams_ok streams_bytes
streams-has zero m at last s h e = (tt, tt)
streams-has (suc n) m at last s h e =
    let p = and_both (ltb last (number 2 m at)) _ e in
    let q = and_both (leb (number 2 m at) 4095) _ p.1 in
    let r = streams-has n m (at + 2) (number 2 m at) s (omega arith) q.1 in (
      then-number 2 m at (number 2 m at) (streams_bytes (streams_at n m (at + 2))) (bytes_back 2 m at s (omega arith)) r.0,
      (ltb-true last (number 2 m at) p.0, leb-true (number 2 m at) 4095 q.0, r.1),
    )

-- ---- a stream list

length-list_bytes : (l : StreamList) → length l.streams ≤ 16 → length (list_bytes l) ≡ 36
unfolding list_bytes
length-list_bytes l h =
    let xs = l.streams in
    omega (
      arith,
      length-append (number_bytes 2 l.horizon) (number_bytes 2 (length xs) ++ (streams_bytes xs ++ replicate (32 - 2 * length xs) 0)),
      length-append (number_bytes 2 (length xs)) (streams_bytes xs ++ replicate (32 - 2 * length xs) 0),
      length-append (streams_bytes xs) (replicate (32 - 2 * length xs) 0),
      length-number_bytes 2 l.horizon,
      length-number_bytes 2 (length xs),
      length-streams_bytes xs,
      length-replicate {A = ℕ} (32 - 2 * length xs) 0,
    )

pub list_back : (m : List ℕ) (at : ℕ) (l : StreamList) → FineList l → Has m at (list_bytes l) → (list_at m at ≡ l) × (list_ok m at ≡ true)
unfolding list_at list_ok list_bytes
list_back m at l f h =
    let xs = l.streams in
    let n = length xs in
    let p = number-then 2 m at l.horizon (number_bytes 2 n ++ (streams_bytes xs ++ replicate (32 - 2 * n) 0)) h in
    let q = number-then 2 m (at + 2) n (streams_bytes xs ++ replicate (32 - 2 * n) 0) p.1 in
    let e : at + 2 + 2 ≡ at + 4 = omega arith in
    let r : Has m (at + 4) (streams_bytes xs ++ replicate (32 - 2 * n) 0) = rw e at q.1 in
    let horizon : number 2 m at ≡ l.horizon = number_back 2 m at l.horizon (omega (arith, f.0)) p.0 in
    let count : number 2 m (at + 2) ≡ n = number_back 2 m (at + 2) n (omega (arith, f.1)) q.0 in
    let s = streams-back m (at + 4) l.horizon xs f.2 (has_left m (at + 4) (streams_bytes xs) (replicate (32 - 2 * n) 0) r) in
    let z : Has m (at + 4 + 2 * n) (replicate (32 - 2 * n) 0) =
    rw (length-streams_bytes xs) at (has_right m (at + 4) (streams_bytes xs) (replicate (32 - 2 * n) 0) r) in
    rw (horizon, count) (
      (λ k. record { horizon = l.horizon; streams = s.0 k }),
      rw (le-leb l.horizon 4096 f.0, le-leb n 16 f.1, s.1, has-zeros (32 - 2 * n) m (at + 4 + 2 * n) z),
    )

pub list-has : (m : List ℕ) (at : ℕ) → Small m → at + 36 ≤ length m → list_ok m at ≡ true
    → Has m at (list_bytes (list_at m at)) × FineList (list_at m at)
unfolding list_at list_ok list_bytes
list-has m at small h e =
    let horizon = number 2 m at in
    let n = number 2 m (at + 2) in
    let xs = streams_at n m (at + 4) in
    let p = and_both (leb horizon 4096) _ e in
    let q = and_both (leb n 16) _ p.1 in
    let r = and_both (streams_ok m n (at + 4) horizon) _ q.1 in
    let few : n ≤ 16 = leb-true n 16 q.0 in
    let s = streams-has n m (at + 4) horizon small (omega arith) r.0 in
    let z : Has m (at + 4 + 2 * n) (replicate (32 - 2 * n) 0) = zeros-has (32 - 2 * n) m (at + 4 + 2 * n) (omega arith) r.1 in
    let long : length xs ≡ n = length-streams_at n m (at + 4) in
    let d : at + 4 + length (streams_bytes xs) ≡ at + 4 + 2 * n = omega (arith, length-streams_bytes xs) in
    let g : at + 2 + 2 ≡ at + 4 = omega arith in
    rw long (
      then-number 2 m at horizon _ (bytes_back 2 m at small (omega arith))
          (then-number 2 m (at + 2) n _ (bytes_back 2 m (at + 2) small (omega arith))
          (rw g (has_join m (at + 4) (streams_bytes xs) (replicate (32 - 2 * n) 0) s.0 (rw d z)))),
      (leb-true horizon 4096 p.0, few, s.1),
    )

-- ---- a delete, and all

-- a delete whose numbers fit their fields
pub record FineLists (d : Delete) : Type 0 where
  pub index : d.index < 4294967296
  pub nontrailer : FineList d.nontrailer
  pub trailer : FineList d.trailer

pub length-delete_bytes : (d : Delete) → FineLists d → length (delete_bytes d) ≡ 76
unfolding delete_bytes
length-delete_bytes d f =
    omega (
      arith,
      length-append (number_bytes 4 d.index) (list_bytes d.nontrailer ++ list_bytes d.trailer),
      length-append (list_bytes d.nontrailer) (list_bytes d.trailer),
      length-number_bytes 4 d.index,
      length-list_bytes d.nontrailer f.nontrailer.1,
      length-list_bytes d.trailer f.trailer.1,
    )

pub length-deletes_bytes : (ds : List Delete) → Each FineLists ds → length (deletes_bytes ds) ≡ 76 * length ds
unfolding deletes_bytes
length-deletes_bytes [] f = refl
length-deletes_bytes (d ∷ ds) f =
    omega (arith, length-append (delete_bytes d) (deletes_bytes ds), length-delete_bytes d f.0, length-deletes_bytes ds f.1)

pub length-deletes_of : (m : List ℕ) (k n : ℕ) → length (deletes_of m k n) ≡ n
unfolding deletes_of
length-deletes_of m k zero = refl
length-deletes_of m k (suc n) = ap suc (length-deletes_of m (k + 1) n)

delete-back : (m : List ℕ) (k : ℕ) (d : Delete) → FineLists d → Has m (delete_place k) (delete_bytes d)
    → (delete_at m k ≡ d) × (list_ok m (nontrailer_list k) ≡ true) × (list_ok m (trailer_list k) ≡ true)
unfolding delete_at delete_bytes
delete-back m k d f h =
    let p = number-then 4 m (delete_place k) d.index (list_bytes d.nontrailer ++ list_bytes d.trailer) h in
    let e : nontrailer_list k + length (list_bytes d.nontrailer) ≡ trailer_list k = omega (arith, length-list_bytes d.nontrailer f.nontrailer.1) in
    let index : delete_index_at m k ≡ d.index = number_back 4 m (delete_place k) d.index f.index p.0 in
    let q = list_back m (nontrailer_list k) d.nontrailer f.nontrailer (has_left m (nontrailer_list k) (list_bytes d.nontrailer) (list_bytes d.trailer) p.1) in
    let r = list_back m (trailer_list k) d.trailer f.trailer
    (rw e at (has_right m (nontrailer_list k) (list_bytes d.nontrailer) (list_bytes d.trailer) p.1)) in
    ((λ j. record { index = index j; nontrailer = q.0 j; trailer = r.0 j }), q.1, r.1)

delete-has : (m : List ℕ) (k : ℕ) → Small m → delete_place k + 76 ≤ length m → list_ok m (nontrailer_list k) ≡ true → list_ok m (trailer_list k) ≡ true
    → Has m (delete_place k) (delete_bytes (delete_at m k)) × FineLists (delete_at m k)
unfolding delete_at delete_bytes
delete-has m k s h a b =
    let p = list-has m (nontrailer_list k) s (omega arith) a in
    let q = list-has m (trailer_list k) s (omega arith) b in
    let l = list_at m (nontrailer_list k) in
    let e : nontrailer_list k + length (list_bytes l) ≡ trailer_list k = omega (arith, length-list_bytes l p.1.1) in (
      then-number 4 m (delete_place k) _ _ (bytes_back 4 m (delete_place k) s (omega arith))
          (has_join m (nontrailer_list k) (list_bytes l) _ p.0 (rw e q.0)),
      record { index = number_bound 4 m (delete_place k) s; nontrailer = p.1; trailer = q.1 },
    )

-- what follows a delete
delete-then : (m : List ℕ) (k : ℕ) (d : Delete) (ds : List Delete) → FineLists d → Has m (delete_place k) (delete_bytes d ++ deletes_bytes ds)
    → Has m (delete_place k) (delete_bytes d) × Has m (delete_place (k + 1)) (deletes_bytes ds)
delete-then m k d ds f h =
    let e : delete_place k + length (delete_bytes d) ≡ delete_place (k + 1) = omega (arith, length-delete_bytes d f) in
    (has_left m (delete_place k) (delete_bytes d) (deletes_bytes ds) h, rw e at (has_right m (delete_place k) (delete_bytes d) (deletes_bytes ds) h))

pub deletes-back : (m : List ℕ) (k : ℕ) (ds : List Delete) → Each FineLists ds → Has m (delete_place k) (deletes_bytes ds)
    → (deletes_of m k (length ds) ≡ ds) × (deletes_ok m (length ds) k ≡ true)
unfolding deletes_of deletes_ok deletes_bytes
deletes-back m k [] f h = (refl, refl)
deletes-back m k (d ∷ ds) f h =
    let p = delete-then m k d ds f.0 h in
    let q = delete-back m k d f.0 p.0 in
    let r = deletes-back m (k + 1) ds f.1 p.1 in
    ((λ j. q.0 j ∷ r.0 j), rw (q.1, q.2, r.1))

pub deletes-has : (m : List ℕ) (k n : ℕ) → Small m → delete_place (k + n) ≤ length m → deletes_ok m n k ≡ true
    → Has m (delete_place k) (deletes_bytes (deletes_of m k n)) × Each FineLists (deletes_of m k n)
unfolding deletes_of deletes_ok deletes_bytes
deletes-has m k zero s h e = (tt, tt)
deletes-has m k (suc n) s h e =
    let p = and_both (list_ok m (nontrailer_list k)) _ e in
    let q = and_both (list_ok m (trailer_list k)) _ p.1 in
    let one = delete-has m k s (omega arith) p.0 q.0 in
    let rest = deletes-has m (k + 1) n s (omega arith) q.1 in
    let d : delete_place k + length (delete_bytes (delete_at m k)) ≡ delete_place (k + 1) = omega (arith, length-delete_bytes (delete_at m k) one.1) in
    (has_join m (delete_place k) (delete_bytes (delete_at m k)) _ one.0 (rw d rest.0), (one.1, rest.1))

-- the index of a delete that is read
pub index_of : (m : List ℕ) (k n j : ℕ) → j < n → get_or (map delete_index (deletes_of m k n)) j 0 ≡ delete_index_at m (k + j)
unfolding deletes_of delete_at
index_of m k zero j h = absurd (omega arith)
index_of m k (suc n) zero h = let e : k + 0 ≡ k = omega arith in rw e refl
index_of m k (suc n) (suc j) h = let e : k + suc j ≡ k + 1 + j = omega arith in rw e (index_of m (k + 1) n j (omega arith))
