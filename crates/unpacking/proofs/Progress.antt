-- The state of unpacking: the bytes that are done, and then what the bits that wait give, are the whole.
use mathlib.Core.Path.{◌≡◌, sym, ap, ap₂, ◌∙◌}
use mathlib.Core.Bool.{Bool}
use Prim.Native.Nat.{ℕ, suc, ◌+◌, ◌-◌, ◌*◌, ◌≤◌, ◌<◌}
use native.Mathlib.Omega.{arith}
use mathlib.Core.List.{List, [], ◌∷◌, ◌++◌, append_assoc, append-nil}
use lib.ListN.{length, set, length-append}
use Rattle.memory.specs.Bytes.{overlay}
use Rattle.memory.proofs.Overlay.{overlay-append}
use Rattle.huffman.specs.Bits.{bits}
use Rattle.huffman.specs.Packing.{Unpacked, code_bits, padding, before, unpack_bits, unpack}
use Rattle.huffman.proofs.Prefixes.{code-fit, length-code_bits}
use Rattle.huffman.proofs.Unpacks.{unpack-byte, length-unpack}
use Rattle.unpacking.specs.declared.bits.Bits.{Bits}
use Rattle.unpacking.specs.Waiting.{highest, waiting}
use Rattle.unpacking.specs.Turns.{Took, Stopped}

-- bytes before what follows
abbrev onto : List ℕ → Unpacked → Unpacked
onto done u = record { bytes = done ++ u.bytes; whole = u.whole }

pub record Progress (s : List ℕ) (b : Bits) (done : List ℕ) : Type 0 where
  pub fuel : ℕ
  pub whole : unpack s ≡ onto done (unpack_bits fuel (waiting b))
  pub enough : length (waiting b) < fuel

pub start : (s : List ℕ) (b : Bits) → waiting b ≡ bits s → Progress s b []
unfolding unpack
start s b e = record {
  fuel = length (bits s) + 1;
  whole = ap (λ (r : List Bool). onto [] (unpack_bits (length (bits s) + 1) r)) (sym e);
  enough = omega (arith, ap length e);
}

-- no code is shorter than five bits
pub unpack-length : (b : List ℕ) → 5 * length (unpack b).bytes ≤ 8 * length b
unpack-length b = omega (arith, length-unpack b)

-- a turn takes five bits at least
pub took-length : {b r : Bits} {byte : ℕ} → Took b r byte → length (waiting r) + 5 ≤ length (waiting b)
took-length {b} {r} {byte} q =
    omega (
      arith,
      ap length q.code,
      length-append (code_bits byte) (waiting r),
      length-code_bits byte,
      (code-fit byte (omega (arith, q.within))).low,
    )

module _ {s : List ℕ} {b : Bits} {done : List ℕ} (p : Progress s b done) where
  -- the bytes that are done are among those of the string
  pub done-most : length done ≤ length (unpack s).bytes
  done-most = omega (arith, ap (λ (u : Unpacked). length u.bytes) p.whole, length-append done (unpack_bits p.fuel (waiting b)).bytes)

  fuel-suc : p.fuel ≡ suc (p.fuel - 1)
  fuel-suc = let e = p.enough in omega arith

  pub turn : {r : Bits} {byte : ℕ} → Took b r byte → Progress s r (done ++ (byte ∷ []))
  turn {r} {byte} q =
      let k : ℕ = p.fuel - 1 in
      let u : unpack_bits p.fuel (waiting b) ≡ before byte (unpack_bits k (waiting r)) =
      ap₂ unpack_bits fuel-suc q.code ∙ unpack-byte k byte (waiting r) q.within in
      let bytes : List ℕ = (unpack_bits k (waiting r)).bytes in
      record {
        fuel = k;
        whole =
            p.whole ∙ ap (onto done) u
            ∙ ap (λ (xs : List ℕ). record { bytes = xs; whole = (unpack_bits k (waiting r)).whole }) (sym (append_assoc done (byte ∷ []) bytes));
        enough = omega (arith, p.enough, took-length q);
      }

  -- the bits that wait give no byte
  pub stopped : {r : Bits} → Stopped b r → unpack s ≡ record { bytes = done; whole = padding (highest r.n r.w) }
  stopped {r} q =
      let v = padding (highest r.n r.w) in
      p.whole ∙ ap (onto done) (ap (λ (f : ℕ). unpack_bits f (waiting b)) fuel-suc ∙ q.ends (p.fuel - 1))
      ∙ ap (λ (xs : List ℕ). record { bytes = xs; whole = v }) (append-nil done)

-- one more byte, counted and written
pub more : (done : List ℕ) (x : ℕ) → length (done ++ (x ∷ [])) ≡ length done + 1
more done x = length-append done (x ∷ [])

pub more-written : (out : List ℕ) (at : ℕ) (done : List ℕ) (x : ℕ) → set (overlay out at done) (at + length done) x ≡ overlay out at (done ++ (x ∷ []))
more-written out at done x = sym (overlay-append out at done (x ∷ []))
