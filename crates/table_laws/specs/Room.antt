-- "An insert that would pass it is 7, and otherwise room is always found": a place is left too, since every entry has at least size 32.
use Rattle.std.specs.Prelude.{◌≡◌, ℕ, ◌+◌, ◌≤◌, ◌<◌, true, List}
use Rattle.state.specs.Layout.{held_of, count_of}
use Rattle.state.specs.Forms.{forms_decoder, forms_encoder}

pub record RoomClaim : Type 0 where
  pub decoder : (m : List ℕ) → forms_decoder m ≡ true → (text : ℕ) → held_of m + (text + 32) ≤ 4096 → count_of m < 128
  pub encoder : (m : List ℕ) → forms_encoder m ≡ true → (text : ℕ) → held_of m + (text + 32) ≤ 4096 → count_of m < 128
