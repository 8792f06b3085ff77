-- Which instructions and places can be read: fine ones, of at least one byte and not many, inside the input, and of the kinds that the end reads.
-- By cases along the equations of the readers.
use mathlib.Core.Path.{◌≡◌, refl, sym, subst}
use Prim.Native.Nat.{ℕ, ◌≤◌}
use native.Mathlib.Omega.{arith}
use mathlib.Core.List.{List}
use lib.ListN.{length, get_or}
use Rattle.memory.proofs.Order.{split}
use Rattle.integers.specs.Integer.{read_int}
use Rattle.wire.specs.Text.{read_string}
use Rattle.wire.specs.Name.{FineName, name_of, read_name, GoodName}
use Rattle.stream_lists.specs.StreamList.{read_list, list_of, InList}
use Rattle.integers.specs.declared.number.TableIndex.{TableIndex}
use Rattle.wire.specs.declared.name.NamePlace.{NamePlace}
use Rattle.wire.specs.declared.name.NamePlace.TheVariants.{Index as NameIndex, Text}
use Rattle.stream_lists.specs.declared.stream_list.ListPlace.{ListPlace}
use Rattle.integers.proofs.Bounds.{int-good}
use Rattle.wire.proofs.TextBounds.{string-good, string-size, name-good}
use Rattle.stream_lists.proofs.ListBounds.{ListGood, list-good}
use Rattle.instructions.specs.Instruction.{FineIndex, FineList, FineInstruction, Manages}
use Rattle.instructions.specs.Reading.{read_index, read_insert, read_delete, read_acknowledgement, read_for_decoder, read_for_encoder, instruction_of, InBytes}
use Rattle.instructions.specs.declared.read.InstructionPlace.{InstructionPlace}
use Rattle.instructions.specs.declared.read.InstructionPlace.TheVariants.{Acknowledge}
use Rattle.instructions.proofs.Equations.{index-refused, index-low, index-found, insert-refused, insert-name-refused, insert-value-refused, insert-found, delete-refused, delete-nontrailer-refused, delete-trailer-refused, delete-found, acknowledgement-refused, acknowledgement-found, decoder-empty, decoder-insert, decoder-acknowledgement, decoder-delete, encoder-empty, encoder-insert, encoder-delete, encoder-acknowledgement}
use Rattle.std.specs.Prelude.{Ok, Err}
use Rattle.integers.specs.Answers.{Read}
use Rattle.integers.specs.declared.integer.WireInt.{WireInt}
use Rattle.wire.specs.declared.text.StringPlace.{StringPlace}

-- what the decoder's reader can find
pub record ForDecoder (s : List ℕ) (p : InstructionPlace) (taken : ℕ) : Type 0 where
  pub some : 1 ≤ taken
  pub inside : taken ≤ length s
  pub short : taken ≤ 9228
  pub kind : Manages (instruction_of s p)
  pub fine : FineInstruction (instruction_of s p)
  pub bytes : InBytes s p

-- what the encoder's reader can find
pub record ForEncoder (s : List ℕ) (p : InstructionPlace) (taken : ℕ) : Type 0 where
  pub some : 1 ≤ taken
  pub inside : taken ≤ length s
  pub short : taken ≤ 5
  pub index : TableIndex
  pub kind : p ≡ Acknowledge index
  pub fine : FineIndex index.value

abbrev OfIndex : List ℕ → Read TableIndex → Type 0
OfIndex s (Ok (i, next)) = (1 ≤ next) × (next ≤ length s) × (next ≤ 5) × FineIndex i.value
OfIndex s (Err why) = Unit {0}

abbrev OfDecoder : List ℕ → Read InstructionPlace → Type 0
OfDecoder s (Ok (p, taken)) = ForDecoder s p taken
OfDecoder s (Err why) = Unit {0}

abbrev OfEncoder : List ℕ → Read InstructionPlace → Type 0
OfEncoder s (Ok (p, taken)) = ForEncoder s p taken
OfEncoder s (Err why) = Unit {0}

of-index : (k : ℕ) (s : List ℕ) → k ≤ 8 → (r : Read WireInt) → r ≡ read_int k s 0 → OfIndex s (read_index k s)
of-index k s h (Err why) e = rw (index-refused k s _ e why refl) tt
of-index k s h (Ok (n, next)) e =
    let g = int-good k s 0 h _ e n next refl in
    split n.value 62
    (λ l. rw (index-low k s _ e n next refl l) tt)
    (λ l. rw (index-found k s _ e n next refl l) (omega (arith, g.0), g.1, omega (arith, g.3), (l, g.2)))

pub index-good : (k : ℕ) (s : List ℕ) → k ≤ 8 → (i : TableIndex) (next : ℕ) → read_index k s ≡ Ok (i, next)
    → (1 ≤ next) × (next ≤ length s) × (next ≤ 5) × FineIndex i.value
index-good k s h i next d = subst (OfIndex s) d (of-index k s h (read_int k s 0) refl)

-- a name and a list that were read can be said
fine-name : (s : List ℕ) (p : NamePlace) → GoodName s p → FineName (name_of s p)
fine-name s (NameIndex i) g = g
fine-name s (Text p) g = omega (arith, string-size s p g.0, g.1)

fine-list : (s : List ℕ) (at : ℕ) (p : ListPlace) (next : ℕ) → ListGood s at p next → FineList (list_of s p)
fine-list s at p next g = (g.near, omega (arith, g.counted, g.few), g.fits)

in_list : (s : List ℕ) (at : ℕ) (p : ListPlace) (next : ℕ) → ListGood s at p next → InList s p
in_list s at p next g = record { near = g.near; few = g.few; end = next; within = g.within; deltas = g.deltas }

module _ (s : List ℕ) where
  of-insert : (r : Read TableIndex) → r ≡ read_index 7 s → OfDecoder s (read_insert s)
  of-insert (Err why) e = rw (insert-refused s _ e why refl) tt
  of-insert (Ok (i, next)) e = names (read_name 8 s next) refl
    where
      names : (n : Read NamePlace) → n ≡ read_name 8 s next → OfDecoder s (read_insert s)
      names (Err why) f = rw (insert-name-refused s _ e i next refl _ f why refl) tt
      names (Ok (name, after)) f = values (read_string s after 2047) refl
        where
          values : (v : Read StringPlace) → v ≡ read_string s after 2047 → OfDecoder s (read_insert s)
          values (Err why) h = rw (insert-value-refused s _ e i next refl _ f name after refl _ h why refl) tt
          values (Ok (value, taken)) h =
              let a = index-good 7 s (omega arith) i next (sym e) in
              let b = name-good 8 s next (omega arith) name after (sym f) in
              let g = string-good s after 2047 value taken (sym h) in
              rw (insert-found s _ e i next refl _ f name after refl _ h value taken refl)
              (record {
                some = omega (arith, a.0, b.0, g.after, g.ends);
                inside = g.inside;
                short = omega (arith, a.2, b.2, g.near);
                kind = tt;
                fine = (a.3, fine-name s name b.3, omega (arith, string-size s value g.text, g.short));
                bytes = (b.3, g.text, g.short);
              })

  of-delete : (r : Read TableIndex) → r ≡ read_index 6 s → OfDecoder s (read_delete s)
  of-delete (Err why) e = rw (delete-refused s _ e why refl) tt
  of-delete (Ok (i, next)) e = nontrailers (read_list s next) refl
    where
      nontrailers : (l : Read ListPlace) → l ≡ read_list s next → OfDecoder s (read_delete s)
      nontrailers (Err why) f = rw (delete-nontrailer-refused s _ e i next refl _ f why refl) tt
      nontrailers (Ok (nontrailer, after)) f = trailers (read_list s after) refl
        where
          trailers : (m : Read ListPlace) → m ≡ read_list s after → OfDecoder s (read_delete s)
          trailers (Err why) h = rw (delete-trailer-refused s _ e i next refl _ f nontrailer after refl _ h why refl) tt
          trailers (Ok (trailer, taken)) h =
              let a = index-good 6 s (omega arith) i next (sym e) in
              let b = list-good s next nontrailer after (sym f) in
              let g = list-good s after trailer taken (sym h) in
              rw (delete-found s _ e i next refl _ f nontrailer after refl _ h trailer taken refl)
              (record {
                some = omega (arith, g.past, g.order);
                inside = g.within;
                short = omega (arith, a.2, b.close, g.close);
                kind = tt;
                fine = (a.3, fine-list s next nontrailer after b, fine-list s after trailer taken g);
                bytes = (in_list s next nontrailer after b, in_list s after trailer taken g);
              })

  of-acknowledgement : (r : Read TableIndex) → r ≡ read_index 6 s → OfEncoder s (read_acknowledgement s)
  of-acknowledgement (Err why) e = rw (acknowledgement-refused s _ e why refl) tt
  of-acknowledgement (Ok (i, taken)) e =
      let a = index-good 6 s (omega arith) i taken (sym e) in
      rw (acknowledgement-found s _ e i taken refl) (record { some = a.0; inside = a.1; short = a.2; index = i; kind = refl; fine = a.3 })

  of-decoder : OfDecoder s (read_for_decoder s)
  of-decoder =
      split 0 (length s)
      (λ h. split (get_or s 0 0) 128
      (λ k. split (get_or s 0 0) 64
      (λ l. rw (decoder-delete s h l) (of-delete (read_index 6 s) refl))
      (λ l. rw (decoder-acknowledgement s h k l) tt))
      (λ k. rw (decoder-insert s h k) (of-insert (read_index 7 s) refl)))
      (λ h. rw (decoder-empty s h) tt)

  of-encoder : OfEncoder s (read_for_encoder s)
  of-encoder =
      split 0 (length s)
      (λ h. split (get_or s 0 0) 128
      (λ k. split (get_or s 0 0) 64
      (λ l. rw (encoder-delete s h l) tt)
      (λ l. rw (encoder-acknowledgement s h k l) (of-acknowledgement (read_index 6 s) refl)))
      (λ k. rw (encoder-insert s h k) tt))
      (λ h. rw (encoder-empty s h) tt)

  module _ (p : InstructionPlace) (taken : ℕ) where
    pub decoder-good : read_for_decoder s ≡ Ok (p, taken) → ForDecoder s p taken
    decoder-good d = subst (OfDecoder s) d of-decoder

    pub encoder-good : read_for_encoder s ≡ Ok (p, taken) → ForEncoder s p taken
    encoder-good d = subst (OfEncoder s) d of-encoder
