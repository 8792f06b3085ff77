-- What an end starts a table with, by its start calls: the first that starts this table and is done. Where there is none, memory of zeros serves, which
-- can be started. What holds of both ends alike is said once, over the end's start call and over how its starts are told.
use mathlib.Core.Path.{◌≡◌, refl, sym, ap}
use mathlib.Core.Logic.{◌⊎◌, inl, inr, ⊎_map}
use Prim.Native.Nat.{ℕ, zero, suc, ◌≤◌}
use native.Mathlib.Omega.{arith}
use mathlib.Core.List.{List, [], ◌∷◌, Memᴰ}
use lib.ListN.{length, replicate}
use lib.Dec.{eqb}
use borrow.Author.Tests.{le-leb}
use Rattle.memory.specs.Choice.{pick}
use Rattle.memory.specs.Bytes.{Small}
use Rattle.memory.proofs.Overlay.{small-cons}
use Rattle.model_laws.proofs.Tables.{pick-eq}
use Rattle.state.specs.Layout.{decoder_length, encoder_length}
use Rattle.reply.specs.Result.{Result}
use Rattle.decoder.specs.Calls as decoder
use Rattle.encoder.specs.Calls as encoder
use Rattle.link.specs.Claims.{Ends}
use Rattle.link_further.specs.Anew.{TableCall, encoder_start, decoder_start, TableEvent, encoder_started, decoder_started, table_turn, table_events, AllTableBytes}

-- ---- memory that can be started: of the least length
pub encoder-starts : (m : List ℕ) (limit : ℕ) → limit ≤ 4096 → length m ≡ encoder_length → (encoder.start_call m limit).answer.number ≡ 0
unfolding encoder.start_call
encoder-starts m limit h e = rw (le-leb limit 4096 h, e) refl

pub decoder-starts : (m : List ℕ) (limit : ℕ) → limit ≤ 4096 → length m ≡ decoder_length → (decoder.start_call m limit).answer.number ≡ 0
unfolding decoder.start_call
decoder-starts m limit h e = rw (le-leb limit 4096 h, e) refl

pub small-zeros : (n : ℕ) → Small (replicate n 0)
small-zeros zero = λ k. omega arith
small-zeros (suc n) = small-cons 0 (replicate n 0) (omega arith) (small-zeros n)

-- ---- the starts of each end, in their order
pub record Start : Type 0 where
  pub table : ℕ
  pub limit : ℕ
  pub memory : List ℕ

unfoldable pub encoder_starts : List TableCall → List Start
encoder_starts [] = []
encoder_starts (encoder_start t limit m ∷ cs) = record { table = t; limit = limit; memory = m } ∷ encoder_starts cs
encoder_starts (decoder_start t limit m ∷ cs) = encoder_starts cs
encoder_starts (TableCall.of_table t c ∷ cs) = encoder_starts cs

unfoldable pub decoder_starts : List TableCall → List Start
decoder_starts [] = []
decoder_starts (encoder_start t limit m ∷ cs) = decoder_starts cs
decoder_starts (decoder_start t limit m ∷ cs) = record { table = t; limit = limit; memory = m } ∷ decoder_starts cs
decoder_starts (TableCall.of_table t c ∷ cs) = decoder_starts cs

-- ---- an end: its start call, and how its starts are told
pub record Side : Type 0 where
  pub call : List ℕ → ℕ → Result
  pub tells : ℕ → ℕ → Result → TableEvent

abbrev pub encoder_side : Side
encoder_side = record { call = encoder.start_call; tells = encoder_started }

abbrev pub decoder_side : Side
decoder_side = record { call = decoder.start_call; tells = decoder_started }

abbrev pub left : Side → Start → Result
left x s = x.call s.memory s.limit

-- ---- the start that counts for the table t; z where there is none
module _ (x : Side) (t : ℕ) (z : Start) where
  unfoldable pub opening : List Start → Start
  opening [] = z
  opening (s ∷ ss) = pick (eqb s.table t) (pick (eqb (left x s).answer.number 0) s (opening ss)) (opening ss)

  -- what holds of this start where it counts, and else of the one that counts among the later ones
  pub opening-next : (P : Start → Type 0) (s : Start) (ss : List Start) → (s.table ≡ t → (left x s).answer.number ≡ 0 → P s)
      → ((s.table ≡ t → (left x s).answer.number ≡ 0 → ⊥) → P (opening ss)) → P (opening (s ∷ ss))
  unfolding opening
  opening-next P s ss f g =
      pick-eq P s.table t _ (opening ss)
      (λ e. pick-eq P (left x s).answer.number 0 s (opening ss) (f e) (λ n. g (λ own d. n d)))
      (λ n. g (λ own d. n own))

  -- a start that can open the table: one told among the events es, or one with the limit that z has
  pub record Opens (es : List TableEvent) (s : Start) : Type 0 where
    pub small : Small s.memory
    pub done : (left x s).answer.number ≡ 0
    pub told : (s.limit ≡ z.limit) ⊎ Memᴰ (x.tells t s.limit (left x s)) es

  opens-none : Small z.memory → (left x z).answer.number ≡ 0 → Opens [] (opening [])
  unfolding opening
  opens-none b d = record { small = b; done = d; told = inl refl }

  opens-later : (e : TableEvent) (es : List TableEvent) (s : Start) → Opens es s → Opens (e ∷ es) s
  opens-later e es s O = record { small = O.small; done = O.done; told = ⊎_map (λ h. h) Memᴰ.tail O.told }

  opens-start : (s : Start) (ss : List Start) (es : List TableEvent) → Small s.memory → Opens es (opening ss)
      → Opens (x.tells s.table s.limit (left x s) ∷ es) (opening (s ∷ ss))
  opens-start s ss es b O =
      let e = x.tells s.table s.limit (left x s) in
      opening-next (Opens (e ∷ es)) s ss
      (λ own d. record { small = b; done = d; told = inr (Memᴰ.head (ap (λ (u : ℕ). x.tells u s.limit (left x s)) (sym own))) })
      (λ n. opens-later e es (opening ss) O)

-- ---- each end's start that counts can open the table, where z can be started
module _ (t : ℕ) (z : Start) (b : Small z.memory) where
  module _ (d : (encoder.start_call z.memory z.limit).answer.number ≡ 0) where
    pub encoder-opens : (S : Ends) (cs : List TableCall) → AllTableBytes cs
        → Opens encoder_side t z (table_events S cs) (opening encoder_side t z (encoder_starts cs))
    unfolding table_events table_turn encoder_starts
    encoder-opens S [] g = opens-none encoder_side t z b d
    encoder-opens S (encoder_start u limit m ∷ cs) g = opens-start encoder_side t z _ (encoder_starts cs) _ g.0 (encoder-opens (table_turn S (encoder_start u limit m)).ends cs g.1)
    encoder-opens S (decoder_start u limit m ∷ cs) g = opens-later encoder_side t z _ _ _ (encoder-opens (table_turn S (decoder_start u limit m)).ends cs g.1)
    encoder-opens S (TableCall.of_table u c ∷ cs) g = opens-later encoder_side t z _ _ _ (encoder-opens (table_turn S (TableCall.of_table u c)).ends cs g.1)

  module _ (d : (decoder.start_call z.memory z.limit).answer.number ≡ 0) where
    pub decoder-opens : (S : Ends) (cs : List TableCall) → AllTableBytes cs
        → Opens decoder_side t z (table_events S cs) (opening decoder_side t z (decoder_starts cs))
    unfolding table_events table_turn decoder_starts
    decoder-opens S [] g = opens-none decoder_side t z b d
    decoder-opens S (encoder_start u limit m ∷ cs) g = opens-later decoder_side t z _ _ _ (decoder-opens (table_turn S (encoder_start u limit m)).ends cs g.1)
    decoder-opens S (decoder_start u limit m ∷ cs) g = opens-start decoder_side t z _ (decoder_starts cs) _ g.0 (decoder-opens (table_turn S (decoder_start u limit m)).ends cs g.1)
    decoder-opens S (TableCall.of_table u c ∷ cs) g = opens-later decoder_side t z _ _ _ (decoder-opens (table_turn S (TableCall.of_table u c)).ends cs g.1)
