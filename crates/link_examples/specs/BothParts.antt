-- What a closing and a trailer finish, what the hold enquiry counts where a delete names both parts of a stream, and which indexes an insert may take, on memory and
-- bytes: closed lists of calls where the laws over all lists cite the model's own definition. In whatever memory a decoder is started with limit 4,096.
use Rattle.std.specs.Prelude.{◌≡◌, ℕ, List, [], ◌∷◌, ◌++◌}
use Rattle.memory.specs.Bytes.{Small}
use Rattle.model.specs.Parts.{over, ended}
use Rattle.decoder.specs.Calls.{start_call}
use Rattle.link.specs.Calls.{DecoderCall, read, close, hold}
use Rattle.ten_checks.specs.Checks.{tells}
use Rattle.link_examples.specs.Examples.{insert_9}
use Rattle.link_examples.specs.OrderCounts.{empty_block, wrote, out_of_turn}

-- an entry at 62, and a delete of it that names both parts of stream 0
abbrev pub delete_both : List ℕ
delete_both = 0x3E ∷ 0x01 ∷ 0x00 ∷ 0x01 ∷ 0x00 ∷ []

abbrev pub held_by_both : List DecoderCall
held_by_both = read insert_9 ∷ read delete_both ∷ []

-- what the hold enquiry tells: how many named parts are unfinished, and the lowest stream having one
abbrev pub holds : ℕ → ℕ → List ℕ
holds count stream = 0 ∷ count ∷ stream ∷ []

-- an insert of an entry without name and value, at index 190 and at 2^27 − 1
abbrev pub insert_190 : List ℕ
insert_190 = 0xFF ∷ 0x3F ∷ 0x00 ∷ 0x00 ∷ 0x00 ∷ []

abbrev pub insert_largest : List ℕ
insert_largest = 0xFF ∷ 0x80 ∷ 0xFF ∷ 0xFF ∷ 0x3F ∷ 0x00 ∷ 0x00 ∷ 0x00 ∷ []

pub record BothParts (m : List ℕ) : Type 0 where
  -- "how many named parts are unfinished": two of one stream count twice
  pub two_held : tells m held_by_both (hold 62) ≡ holds 2 0
  pub over_one : tells m (held_by_both ++ (close over 0 ∷ [])) (hold 62) ≡ holds 1 0
  pub ended_none : tells m (held_by_both ++ (close ended 0 ∷ [])) (hold 62) ≡ holds 0 4096
  pub trailer_none : tells m (held_by_both ++ (empty_block 1 ∷ [])) (hold 62) ≡ holds 0 4096
  -- "a stream has ended or was reset: both parts are finished"
  pub ended_nontrailer : tells m (close ended 0 ∷ []) (empty_block 0) ≡ out_of_turn
  pub ended_trailer : tells m (close ended 0 ∷ []) (empty_block 1) ≡ out_of_turn
  -- "over": the non-trailer part alone
  pub over_nontrailer : tells m (close over 0 ∷ []) (empty_block 0) ≡ out_of_turn
  pub over_trailer : tells m (close over 0 ∷ []) (empty_block 1) ≡ wrote 0 []
  -- 11 above stream 4,095, else it is done
  pub ended_last : tells m [] (close ended 4095) ≡ wrote 0 []
  pub ended_above : tells m [] (close ended 4096) ≡ out_of_turn
  pub over_last : tells m [] (close over 4095) ≡ wrote 0 []
  pub over_above : tells m [] (close over 4096) ≡ out_of_turn
  -- "New index 62 to 2^27 − 1", though at most 128 entries are held
  pub index_190 : tells m [] (read insert_190) ≡ wrote 5 []
  pub index_largest : tells m [] (read insert_largest) ≡ wrote 8 []

abbrev pub BothPartsClaim : Type 0
BothPartsClaim = (m : List ℕ) → Small m → (start_call m 4096).answer.number ≡ 0 → BothParts m
