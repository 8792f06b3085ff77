-- A representation that was read stands in the bytes as the writer that is told which strings to pack writes it, and so does a whole block.
-- By cases along the equations of the readers, and the turns of `block_from`.
use mathlib.Core.Path.{◌≡◌, refl, sym, subst, ◌∙◌}
use Prim.Native.Nat.{ℕ, zero, suc, ◌+◌, ◌*◌, ◌/◌, ◌^◌, ◌≤◌, ◌<◌}
use native.Mathlib.Omega.{arith}
use native.Mathlib.Numerals.{sub-one}
use mathlib.Core.List.{List, [], ◌∷◌, ◌++◌, append-nil}
use lib.ListN.{length, get_or}
use lib.Dec.{ltb}
use lib.Seq.{append_snoc}
use borrow.Author.Tests.{lt-ltb, le-ltb, ltb-true, ltb-false}
use Rattle.memory.specs.Bytes.{Small}
use Rattle.memory.proofs.Order.{split, pick-both, need-both}
use Rattle.integers.specs.Integer.{read_int}
use Rattle.wire.specs.Text.{read_string}
use Rattle.wire.specs.Name.{read_name}
use Rattle.wire.proofs.TextBounds.{string-bytes-small}
use Rattle.blocks.specs.Representation.{Representation}
use Rattle.blocks.specs.Reading.{flag_of, representation_of, read_indexed, read_literal, read_representation, BlockRead, block, refused, block_from, read_block}
use Rattle.blocks.specs.declared.read.RepresentationPlace.{RepresentationPlace}
use Rattle.blocks.specs.declared.read.RepresentationPlace.TheVariants.{Indexed, Literal}
use Rattle.blocks.proofs.Equations.{flag-low, flag-high}
use Rattle.blocks.proofs.Bounds.{representation-good}
use Rattle.blocks.proofs.Turns.{block-done, block_refused, block_more, block-long, block-whole}
use Rattle.integers.proofs.Told.{Told}
use Rattle.forms.proofs.Found.{Found, found-each, found-on-read, found-on-int}
use Rattle.forms.specs.Forms.{representation_form, block_form}
use Rattle.forms.specs.Packed.{packed_representation, packed_from, FitRepresentation, FitBlock}
use Rattle.forms.proofs.Stands.{Stands, stands-join, int-there, string-stands, name-stands, name-fits}
use Rattle.std.specs.Prelude.{Ok, Err}
use Rattle.integers.specs.declared.answer.Refusal.TheVariants.{NotAllowed, TooLong, Truncated}
use Rattle.integers.specs.Answers.{Read}

-- the N bit of a literal's first byte is what stands above its name's index
pub flag-top : (b : ℕ) → b < 128 → b / 2 ^ 6 * 2 ^ 6 ≡ flag_of b * 64
flag-top b h =
    split b 64
    (λ l. rw (flag-low b l) (omega arith))
    (λ l. rw (flag-high b l) (omega arith))

-- which strings are packed, turn by turn
module _ (s : List ℕ) (at : ℕ) where
  pub packed-end : (f : ℕ) → length s ≤ at → packed_from f s at ≡ []
  unfolding packed_from
  packed-end zero h = refl
  packed-end (suc f) h = simp (le-ltb _ _ h)

  pub packed-next : (f : ℕ) → at < length s → (p : RepresentationPlace) (next : ℕ) → read_representation s at ≡ Ok (p, next)
      → packed_from (suc f) s at ≡ packed_representation p ∷ packed_from f s next
  unfolding packed_from
  packed-next f h p next e = simp (lt-ltb _ _ h, e)

module _ (s : List ℕ) (small : Small s) where
  module _ (at : ℕ) where
    abbrev RepresentationStands : RepresentationPlace → ℕ → Type 0
    RepresentationStands p next = Stands s at (representation_form (packed_representation p) (representation_of s p)) next

    indexed-read : 128 ≤ get_or s at 0 → Told (Found RepresentationStands) (read_indexed s at)
    unfolding read_indexed representation_form
    indexed-read b =
        found-on-int RepresentationStands (read_int 7 s at) (λ v next e.
        need-both (Told (Found RepresentationStands)) (ltb 0 v) (Err NotAllowed) _ (λ d. record { told = tt })
        (λ d. record { told = int-there s small 7 at 128 (omega (arith, small at)) (record { value = v }) next (sym e) }))

    literal-read : get_or s at 0 < 128 → Told (Found RepresentationStands) (read_literal s at)
    unfolding read_literal representation_form
    literal-read b =
        found-on-read RepresentationStands (read_name 6 s at) (λ name next e.
        found-on-read RepresentationStands (read_string s next 2047) (λ value after f.
        record {
          told = stands-join (name-stands s small 6 at (flag_of (get_or s at 0) * 64) (flag-top (get_or s at 0) b) name next e)
              (string-stands s small next 2047 value after f);
        }))

    representation-read : Told (Found RepresentationStands) (read_representation s at)
    unfolding read_representation
    representation-read =
        need-both (Told (Found RepresentationStands)) (ltb at (length s)) (Err Truncated) _ (λ d. record { told = tt })
        (λ d. pick-both (Told (Found RepresentationStands)) (ltb (get_or s at 0) 128) (read_literal s at) (read_indexed s at)
        (λ e. literal-read (ltb-true _ _ e)) (λ e. indexed-read (ltb-false _ _ e)))

    pub representation-stands : (p : RepresentationPlace) (next : ℕ) → read_representation s at ≡ Ok (p, next)
        → Stands s at (representation_form (packed_representation p) (representation_of s p)) next
    representation-stands = found-each RepresentationStands (read_representation s at) representation-read

  representation-fits : (p : RepresentationPlace) → FitRepresentation (packed_representation p) (representation_of s p)
  representation-fits (Indexed i) = refl
  representation-fits (Literal flag name value) = (name-fits s small name, string-bytes-small s value small)

  -- the representations from a place on, behind those before it: they can be said, and stand there
  record Rest (f at : ℕ) (before all : List Representation) : Type 0 where
    rest : List Representation
    whole : all ≡ before ++ rest
    fits : FitBlock (packed_from f s at) rest
    stands : Stands s at (block_form (packed_from f s at) rest) (length s)

  abbrev OfBlock : ℕ → ℕ → List Representation → BlockRead → Type 0
  OfBlock f at before (block all) = Rest f at before all
  OfBlock f at before (refused why) = Unit {0}

  no_more : (f at : ℕ) (before : List Representation) → at ≡ length s → Rest f at before before
  unfolding block_form
  no_more f at before e =
      record {
        rest = [];
        whole = sym (append-nil before);
        fits = rw (packed-end s at f (omega arith)) tt;
        stands = rw (packed-end s at f (omega arith)) (record { there = tt; ends = omega arith });
      }

  one_more_lem : (f at : ℕ) (before : List Representation) → at < length s → (r : Read RepresentationPlace) → r ≡ read_representation s at
      → ((at : ℕ) (before : List Representation) → at ≤ length s → length s ≤ at + f → OfBlock f at before (block_from f s at before))
      → length s ≤ at + suc f → OfBlock (suc f) at before (block_from (suc f) s at before)
  unfolding block_form
  one_more_lem f at before h (Err why) e ih l = rw (block_refused s at before h _ e (suc f) (omega arith) why refl) tt
  one_more_lem f at before h (Ok (p, next)) e ih l =
      let g = representation-good s at p next (sym e) in
      rw (block_more s at before h _ e (suc f) (omega arith) p next refl, sub-one)
      (grow (block_from f s next before') (ih next before' g.inside (omega (arith, g.past))))
    where
      before' : List Representation
      before' = before ++ (representation_of s p ∷ [])

      grow : (b : BlockRead) → OfBlock f next before' b → OfBlock (suc f) at before b
      grow (refused why) t = tt
      grow (block all) t =
          record {
            rest = representation_of s p ∷ t.rest;
            whole = t.whole ∙ append_snoc before (representation_of s p) t.rest;
            fits = rw (packed-next s at f h p next (sym e)) ((representation-good s at p next (sym e)).fine, representation-fits p, t.fits);
            stands = rw (packed-next s at f h p next (sym e)) (stands-join (representation-stands at p next (sym e)) t.stands);
          }

  from-read : (f at : ℕ) (before : List Representation) → at ≤ length s → length s ≤ at + f → OfBlock f at before (block_from f s at before)
  from-read zero at before h k = rw (block-done s at before 0 (omega arith)) (no_more 0 at before (omega arith))
  from-read (suc f) at before h k =
      split at (length s)
      (λ l. one_more_lem f at before l (read_representation s at) refl (from-read f) k)
      (λ l. rw (block-done s at before (suc f) l) (no_more (suc f) at before (omega arith)))

  pub block-stands : (rs : List Representation) → read_block s ≡ block rs
      → FitBlock (packed_from (length s) s 0) rs × Stands s 0 (block_form (packed_from (length s) s 0) rs) (length s)
  block-stands rs e =
      split 16384 (length s)
      (λ h. absurd (other (sym (block-long s h) ∙ e)))
      (λ h. let t = subst (OfBlock (length s) 0 []) (sym (block-whole s h) ∙ e) (from-read (length s) 0 [] (omega arith) (omega arith)) in
      rw t.whole (t.fits, t.stands))
    where
      other : refused TooLong ≡ block rs → ⊥
      other d = let z : ◌≡◌ {A = ℕ} 0 1 = cc in omega arith
