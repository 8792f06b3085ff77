-- What memory that passes the decoder's test has: what the table's searches and changes rely on, and head, rows and text lie in it.
-- From the claim of `table_laws` and the parts of the test.
use mathlib.Core.Path.{◌≡◌, refl}
use Prim.Native.Nat.{ℕ, ◌*◌, ◌≤◌}
use native.Mathlib.Omega.{arith}
use mathlib.Core.Bool.{true}
use mathlib.Core.List.{List}
use lib.ListN.{length}
use lib.Dec.{leb}
use Rattle.memory.specs.Bytes.{Small}
use Rattle.integers.specs.Integer.{largest}
use Rattle.model_laws.proofs.Marks.{and_both}
use Rattle.state.specs.Layout.{front_length, decoder_length, decoder_role, limit_of, held_of, count_of, delete_count}
use Rattle.state.specs.DecoderState.{decoder_of}
use Rattle.state.specs.Forms.{head_ok, rows_ok, forms_decoder}
use Rattle.state_laws.proofs.RowsTest.{rows-within}
use Rattle.state_laws.proofs.FrontForms.{head-told}
use Rattle.table_laws.specs.DecoderChanges.{DecoderChanges}
use Rattle.table_laws.proofs.DecoderClaim.{decoder-claim}

abbrev pub Standing : List ℕ → Type 0
Standing m = DecoderChanges m (decoder_of m)

pub standing : (m : List ℕ) → Small m → forms_decoder m ≡ true → Standing m
standing m small forms = decoder-claim.changes m (decoder_of m) (record { small = small; forms = forms; state = refl })

pub record Within (m : List ℕ) : Type 0 where
  pub long : front_length ≤ length m
  pub limit : limit_of m ≤ 4096
  pub held : held_of m ≤ 4096
  pub count : count_of m ≤ 128
  pub heads : 32 * count_of m ≤ held_of m

pub within : (m : List ℕ) → forms_decoder m ≡ true → Within m
unfolding forms_decoder
within m forms =
    let p = and_both (head_ok decoder_role decoder_length m) _ forms in
    let q = and_both (leb (delete_count m) 256) _ p.1 in
    let r = and_both (rows_ok m largest (count_of m)) _ q.1 in
    let h = head-told decoder_role decoder_length m p.0 in
    record {
      long = omega (arith, h.long);
      limit = h.limit;
      held = h.held;
      count = h.count;
      heads = rows-within m largest (count_of m) r.0;
    }
