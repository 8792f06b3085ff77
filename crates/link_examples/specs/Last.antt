-- That the bound of "No deletion forgotten" is reached: 128 entries are inserted and deleted, all ready at once. They are acknowledged in the order in which
-- their deletes were read, so the last of them by the 128th collect: "within at most 127" would be false.
use Rattle.std.specs.Prelude.{◌≡◌, ℕ, zero, suc, length, replicate}
use mathlib.Core.List.{List, [], ◌∷◌, ◌++◌, map, Memᴰ}
use Rattle.memory.specs.Bytes.{Small}
use Rattle.wire.specs.Name.{literal}
use Rattle.instructions.specs.Instruction.{insert, delete, acknowledge, instruction_wire}
use Rattle.model.specs.Encoder.{empty_list}
use Rattle.decoder.specs.Calls.{start_call}
use Rattle.link.specs.Calls.{DecoderCall, read, collect, decoder_after}
use Rattle.link.specs.Happened.{Ready}
use Rattle.link_further.specs.Collects.{collected, Within}

-- n indexes from i on
unfoldable pub indexes : ℕ → ℕ → List ℕ
indexes zero i = []
indexes (suc n) i = i ∷ indexes n (suc i)

-- an empty entry at each, and then a delete of each, whose lists name nothing
unfoldable pub inserts : List DecoderCall
inserts = map (λ i. read (instruction_wire (insert i (literal []) []))) (indexes 128 62)

unfoldable pub deletes : List DecoderCall
deletes = map (λ i. read (instruction_wire (delete i (empty_list 0) (empty_list 0)))) (indexes 128 62)

-- n collects, each with room
unfoldable pub collects : ℕ → List DecoderCall
collects n = replicate n (collect (replicate 5 0))

-- of the memory m that the reads left
pub record LastOf128 (m : List ℕ) : Type 0 where
  pub ready : Ready m 189
  -- 127 collects are all answered "done", and none writes its acknowledgement
  pub done : length (collected m (collects 127)) ≡ 127
  pub not_yet : Memᴰ (instruction_wire (acknowledge 189)) (collected m (collects 127)) → ⊥
  -- the next one does
  pub then : collected m (collects 128) ≡ collected m (collects 127) ++ (instruction_wire (acknowledge 189) ∷ [])

pub record LastClaim : Type 0 where
  pub last_of_128 : (m : List ℕ) → Small m → (start_call m 4096).answer.number ≡ 0 → LastOf128 (decoder_after (start_call m 4096).memory (inserts ++ deletes))
  -- so 127 would not do
  pub not_127 : Within 127 → ⊥
