use Prim.Native.Nat.{◌-◌}
use mathlib.Core.Path.{◌≡◌, sym, ap, ap₂, ◌∙◌}
use mathlib.Core.Bool.{Bool}
use mathlib.Core.List.{List, ◌++◌}
use native.Mathlib.Omega.{arith}
use lib.ListN.{take, drop, take-append-drop}
use Rattle.huffman.specs.Bits.{bits_of, bits}
use Rattle.huffman.proofs.BitLaws.{bits-append}
use Rattle.unpacking.proofs.Refills.{Sound, join-fits, join-sound, join-waiting}
use Rattle.unpacking.proofs.bits.Bits.refill.Goals as goal

pub overflow_add-result : goal.overflow_add-result
overflow_add-result c =
    let b = c.args.self in
    let p : Sound b.w b.n = record { few = b.few; wide = omega arith; zeros = b.zeros } in
    record { fits = join-fits p 32 c.word.result (32 - b.n) (omega arith) (omega arith) c.word.ensures.1 }

pub invariant_of-result : goal.invariant_of-result
invariant_of-result c =
    let b = c.args.self in
    let p : Sound b.w b.n = record { few = b.few; wide = omega arith; zeros = b.zeros } in
    let j = join-sound p 32 c.word.result (32 - b.n) (omega arith) (omega arith) c.word.ensures.1 in
    record { few = j.few; zeros = j.zeros }

pub returns : goal.returns
returns c =
    let b = c.args.self in
    let s = b.bytes.now in
    let p : Sound b.w b.n = record { few = b.few; wide = omega arith; zeros = b.zeros } in
    let parts = c.in-Some.ensures.cases in
    let d : bits s ≡ bits_of 32 c.word.result ++ bits c.in-Some.bytes.now =
    ap bits (sym (take-append-drop 4 s)) ∙ bits-append (take 4 s) (drop 4 s)
    ∙ ap₂ (λ (x y : List Bool). x ++ y) (ap bits (sym parts.0) ∙ sym c.word.ensures.0) (ap bits (sym parts.1)) in
    record {
      same = join-waiting p 32 c.word.result (32 - b.n) (omega arith) (omega arith) c.word.ensures.1 s c.in-Some.bytes.now d;
      full = λ l. absurd (omega arith);
    }
