-- Where an entry keeps 4,096, one of the 128 places is left: the held size counts 32 for each entry.
-- By the part of the test that adds the sizes up.
use mathlib.Core.Path.{◌≡◌}
use Prim.Native.Nat.{ℕ, ◌*◌, ◌≤◌}
use native.Mathlib.Omega.{arith}
use mathlib.Core.Bool.{true}
use mathlib.Core.List.{List}
use lib.Dec.{eqb, leb}
use Rattle.integers.specs.Integer.{largest}
use Rattle.model_laws.proofs.Marks.{and_both}
use Rattle.state.specs.Layout.{decoder_length, decoder_role, encoder_length, encoder_role, held_of, count_of, delete_count}
use Rattle.state.specs.Forms.{head_ok, rows_ok, forms_decoder, forms_encoder}
use Rattle.state_laws.proofs.RowsTest.{rows-within}
use Rattle.table_laws.specs.Room.{RoomClaim}

decoder-heads : (m : List ℕ) → forms_decoder m ≡ true → 32 * count_of m ≤ held_of m
unfolding forms_decoder
decoder-heads m forms =
    let p = and_both (head_ok decoder_role decoder_length m) _ forms in
    let q = and_both (leb (delete_count m) 256) _ p.1 in
    let r = and_both (rows_ok m largest (count_of m)) _ q.1 in
    rows-within m largest (count_of m) r.0

encoder-heads : (m : List ℕ) → forms_encoder m ≡ true → 32 * count_of m ≤ held_of m
unfolding forms_encoder
encoder-heads m forms =
    let p = and_both (head_ok encoder_role encoder_length m) _ forms in
    let q = and_both (eqb (delete_count m) 0) _ p.1 in
    let r = and_both (rows_ok m 189 (count_of m)) _ q.1 in
    rows-within m 189 (count_of m) r.0

pub room-claim : RoomClaim
room-claim = record {
  decoder = λ m forms text fits. let h = decoder-heads m forms in omega arith;
  encoder = λ m forms text fits. let h = encoder-heads m forms in omega arith;
}
