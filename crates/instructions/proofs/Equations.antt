-- The equations of the readers of instructions, one for each way through them.
-- By the tests along that way; only these laws unfold the definitions.
use mathlib.Core.Path.{◌≡◌}
use Prim.Native.Nat.{ℕ, ◌≤◌, ◌<◌}
use native.Mathlib.Omega.{arith}
use mathlib.Core.List.{List}
use lib.ListN.{length, get_or}
use borrow.Author.Tests.{lt-ltb, le-ltb, le-leb, lt-leb}
use Rattle.integers.specs.Integer.{read_int}
use Rattle.wire.specs.Text.{read_string}
use Rattle.wire.specs.Name.{read_name}
use Rattle.stream_lists.specs.StreamList.{read_list}
use Rattle.integers.specs.declared.number.TableIndex.{TableIndex}
use Rattle.integers.specs.declared.integer.WireInt.{WireInt}
use Rattle.wire.specs.declared.text.StringPlace.{StringPlace}
use Rattle.wire.specs.declared.name.NamePlace.{NamePlace}
use Rattle.stream_lists.specs.declared.stream_list.ListPlace.{ListPlace}
use Rattle.instructions.specs.Reading.{read_index, read_insert, read_delete, read_acknowledgement, read_for_decoder, read_for_encoder}
use Rattle.instructions.specs.declared.read.InstructionPlace.TheVariants.{Insert, Delete, Acknowledge}
use Rattle.std.specs.Prelude.{Ok, Err}
use Rattle.integers.specs.Answers.{Read}
use Rattle.integers.specs.declared.answer.Refusal.TheVariants.{NotAllowed, Truncated}
use Rattle.integers.specs.declared.answer.Refusal.{Refusal}

-- an index: refused, below 62, or found
module _ (k : ℕ) (s : List ℕ) (r : Read WireInt) (e : r ≡ read_int k s 0) where
  pub index-refused : (why : Refusal) → r ≡ Err why → read_index k s ≡ Err why
  unfolding read_index
  index-refused why d = simp (← e, d)

  module _ (n : WireInt) (next : ℕ) (d : r ≡ Ok (n, next)) where
    pub index-low : n.value < 62 → read_index k s ≡ Err NotAllowed
    unfolding read_index
    index-low h = simp (← e, d, lt-leb _ _ h)

    pub index-found : 62 ≤ n.value → read_index k s ≡ Ok (record { value = n.value }, next)
    unfolding read_index
    index-found h = simp (← e, d, le-leb _ _ h)

-- an insert: its index, its name or its value refused, or found
module _ (s : List ℕ) (r : Read TableIndex) (e : r ≡ read_index 7 s) where
  pub insert-refused : (why : Refusal) → r ≡ Err why → read_insert s ≡ Err why
  unfolding read_insert
  insert-refused why d = simp (← e, d)

  module _ (i : TableIndex) (next : ℕ) (d : r ≡ Ok (i, next)) (n : Read NamePlace) (f : n ≡ read_name 8 s next) where
    pub insert-name-refused : (why : Refusal) → n ≡ Err why → read_insert s ≡ Err why
    unfolding read_insert
    insert-name-refused why g = simp (← e, d, ← f, g)

    module _ (name : NamePlace) (after : ℕ) (g : n ≡ Ok (name, after)) (v : Read StringPlace) (h : v ≡ read_string s after 2047) where
      pub insert-value-refused : (why : Refusal) → v ≡ Err why → read_insert s ≡ Err why
      unfolding read_insert
      insert-value-refused why k = simp (← e, d, ← f, g, ← h, k)

      pub insert-found : (value : StringPlace) (taken : ℕ) → v ≡ Ok (value, taken) → read_insert s ≡ Ok (Insert i name value, taken)
      unfolding read_insert
      insert-found value taken k = simp (← e, d, ← f, g, ← h, k)

-- a delete: its index, its first or its second list refused, or found
module _ (s : List ℕ) (r : Read TableIndex) (e : r ≡ read_index 6 s) where
  pub delete-refused : (why : Refusal) → r ≡ Err why → read_delete s ≡ Err why
  unfolding read_delete
  delete-refused why d = simp (← e, d)

  module _ (i : TableIndex) (next : ℕ) (d : r ≡ Ok (i, next)) (l : Read ListPlace) (f : l ≡ read_list s next) where
    pub delete-nontrailer-refused : (why : Refusal) → l ≡ Err why → read_delete s ≡ Err why
    unfolding read_delete
    delete-nontrailer-refused why g = simp (← e, d, ← f, g)

    module _ (nontrailer : ListPlace) (after : ℕ) (g : l ≡ Ok (nontrailer, after)) (m : Read ListPlace) (h : m ≡ read_list s after) where
      pub delete-trailer-refused : (why : Refusal) → m ≡ Err why → read_delete s ≡ Err why
      unfolding read_delete
      delete-trailer-refused why k = simp (← e, d, ← f, g, ← h, k)

      pub delete-found : (trailer : ListPlace) (taken : ℕ) → m ≡ Ok (trailer, taken) → read_delete s ≡ Ok (Delete i nontrailer trailer, taken)
      unfolding read_delete
      delete-found trailer taken k = simp (← e, d, ← f, g, ← h, k)

  -- an acknowledgement: its index refused, or found
  pub acknowledgement-refused : (why : Refusal) → r ≡ Err why → read_acknowledgement s ≡ Err why
  unfolding read_acknowledgement
  acknowledgement-refused why d = simp (← e, d)

  pub acknowledgement-found : (i : TableIndex) (taken : ℕ) → r ≡ Ok (i, taken) → read_acknowledgement s ≡ Ok (Acknowledge i, taken)
  unfolding read_acknowledgement
  acknowledgement-found i taken d = simp (← e, d)

-- the two ends, by the first byte
module _ (s : List ℕ) where
  pub decoder-empty : length s ≤ 0 → read_for_decoder s ≡ Err Truncated
  unfolding read_for_decoder
  decoder-empty h = simp (le-ltb _ _ h)

  pub encoder-empty : length s ≤ 0 → read_for_encoder s ≡ Err Truncated
  unfolding read_for_encoder
  encoder-empty h = simp (le-ltb _ _ h)

  module _ (h : 0 < length s) where
    pub decoder-insert : 128 ≤ get_or s 0 0 → read_for_decoder s ≡ read_insert s
    unfolding read_for_decoder
    decoder-insert k = simp (lt-ltb _ _ h, le-leb _ _ k)

    pub decoder-acknowledgement : get_or s 0 0 < 128 → 64 ≤ get_or s 0 0 → read_for_decoder s ≡ Err NotAllowed
    unfolding read_for_decoder
    decoder-acknowledgement k l = simp (lt-ltb _ _ h, lt-leb _ _ k, le-ltb _ _ l)

    pub decoder-delete : get_or s 0 0 < 64 → read_for_decoder s ≡ read_delete s
    unfolding read_for_decoder
    decoder-delete k = let l : get_or s 0 0 < 128 = omega arith in simp (lt-ltb _ _ h, lt-leb _ _ l, lt-ltb _ _ k)

    pub encoder-insert : 128 ≤ get_or s 0 0 → read_for_encoder s ≡ Err NotAllowed
    unfolding read_for_encoder
    encoder-insert k = simp (lt-ltb _ _ h, le-ltb _ _ k)

    pub encoder-delete : get_or s 0 0 < 64 → read_for_encoder s ≡ Err NotAllowed
    unfolding read_for_encoder
    encoder-delete k = let l : get_or s 0 0 < 128 = omega arith in simp (lt-ltb _ _ h, lt-ltb _ _ l, lt-leb _ _ k)

    pub encoder-acknowledgement : get_or s 0 0 < 128 → 64 ≤ get_or s 0 0 → read_for_encoder s ≡ read_acknowledgement s
    unfolding read_for_encoder
    encoder-acknowledgement k l = simp (lt-ltb _ _ h, lt-ltb _ _ k, le-leb _ _ l)
