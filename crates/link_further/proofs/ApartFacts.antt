-- Which calls may change places, computed: a wrong definition fails here, before anything is proved of it. Then the request's three clauses for all calls.
-- The pairs computed to be left out are those of crates/link_examples/specs/OrderCounts.antt, and their like.
use mathlib.Core.Path.{◌≡◌, refl, ap, sym, ◌∙◌}
use Prim.Native.Nat.{ℕ}
use mathlib.Core.Bool.{true, false, not}
use mathlib.Core.List.{List, [], ◌∷◌}
use borrow.Author.Tests.{eq-eqb, ne_eqb}
use Rattle.memory.proofs.Order.{not-both}
use Rattle.model.specs.Parts.{Closing, over, ended}
use Rattle.link.specs.Calls.{read, block, close, collect, hold}
use Rattle.link_further.specs.Order.{other_stream, apart_from_block, apart_from_closing, apart}

-- ---- "two blocks on different streams", and not on one; numbers that no stream has are different too
blocks-apart : apart (block 0 0 [] []) (block 1 0 [] []) ≡ true
unfolding apart apart_from_block other_stream
blocks-apart = refl

trailers-apart : apart (block 0 1 [] []) (block 1 1 [] []) ≡ true
unfolding apart apart_from_block other_stream
trailers-apart = refl

blocks-above : apart (block 4096 0 [] []) (block 4097 0 [] []) ≡ true
unfolding apart apart_from_block other_stream
blocks-above = refl

trailers-together : apart (block 0 1 [] []) (block 0 1 [] []) ≡ false
unfolding apart apart_from_block other_stream
trailers-together = refl

trailer_nontrailer : apart (block 0 1 [] []) (block 0 0 [] []) ≡ false
unfolding apart apart_from_block other_stream
trailer_nontrailer = refl

-- ---- "a block and an "ended" for another stream", either first
block-ended : apart (block 0 0 [] []) (close ended 1) ≡ true
unfolding apart apart_from_block other_stream
block-ended = refl

ended_block : apart (close ended 1) (block 0 0 [] []) ≡ true
unfolding apart apart_from_closing other_stream
ended_block = refl

block-ended-together : apart (block 0 0 [] []) (close ended 0) ≡ false
unfolding apart apart_from_block other_stream
block-ended-together = refl

ended-block-together : apart (close ended 0) (block 0 0 [] []) ≡ false
unfolding apart apart_from_closing other_stream
ended-block-together = refl

-- ---- "two "ended" calls on any streams", on one too
ended-ended : apart (close ended 0) (close ended 0) ≡ true
unfolding apart apart_from_closing
ended-ended = refl

over-ended : apart (close over 0) (close ended 1) ≡ true
unfolding apart apart_from_closing
over-ended = refl

-- ---- "Collect, insert and delete are not in this law", nor is the enquiry
ended_collect : apart (close ended 0) (collect (0x00 ∷ [])) ≡ false
unfolding apart apart_from_closing
ended_collect = refl

collect-ended : apart (collect (0x00 ∷ [])) (close ended 0) ≡ false
unfolding apart
collect-ended = refl

block-collect : apart (block 0 1 [] []) (collect (0x00 ∷ [])) ≡ false
unfolding apart apart_from_block
block-collect = refl

block_read : apart (block 0 0 [] []) (read []) ≡ false
unfolding apart apart_from_block
block_read = refl

ended-hold : apart (close ended 0) (hold 62) ≡ false
unfolding apart apart_from_closing
ended-hold = refl

-- ---- the three clauses, for all calls: whatever parts, bytes and outputs
other-stream : (s t : ℕ) → (s ≡ t → ⊥) → other_stream s t ≡ true
unfolding other_stream
other-stream s t other = ap not (ne_eqb s t other)

module _ (s t : ℕ) (other : s ≡ t → ⊥) (part : ℕ) (b out : List ℕ) where
  -- "two blocks on different streams"
  two_blocks : (q : ℕ) (c lent : List ℕ) → apart (block s part b out) (block t q c lent) ≡ true
  unfolding apart apart_from_block
  two_blocks q c lent = other-stream s t other

  -- "or a block and an "ended" for another stream", the one first or the other
  block-closing : (k : Closing) → apart (block s part b out) (close k t) ≡ true
  unfolding apart apart_from_block
  block-closing k = other-stream s t other

  closing-block : (k : Closing) → apart (close k t) (block s part b out) ≡ true
  unfolding apart apart_from_closing
  closing-block k = other-stream t s (λ e. other (sym e))

-- "or two "ended" calls on any streams"
two-closings : (k j : Closing) (s t : ℕ) → apart (close k s) (close j t) ≡ true
unfolding apart apart_from_closing
two-closings k j s t = refl

-- ---- what another stream is
same-stream : (s : ℕ) → other_stream s s ≡ false
unfolding other_stream
same-stream s = ap not (eq-eqb s s refl)

pub other-not : (s t : ℕ) → other_stream s t ≡ true → s ≡ t → ⊥
other-not s t h e = not-both (other_stream s t) h (ap (other_stream s) (sym e) ∙ same-stream s)

pub other-sym : (s t : ℕ) → other_stream s t ≡ true → other_stream t s ≡ true
other-sym s t h = other-stream t s (λ e. other-not s t h (sym e))
