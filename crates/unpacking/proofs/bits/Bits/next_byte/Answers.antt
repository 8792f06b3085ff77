use Prim.Native.Nat.{◌+◌, ◌*◌}
use native.Mathlib.Omega.{arith}
use Rattle.unpacking.proofs.Turns.{sound, short-found, long-found, took, refilled-took, no-more}
use Rattle.unpacking.proofs.bits.Bits.next_byte.Goals as goal
use Rattle.unpacking.proofs.bits.Bits.next_byte.Goals.{then-self-c+then-self-c-2+else-self-lt-LONG_SIZE+else-self-c-3, then-self-c+else-self-c-2, else-self-c}

pub returns-then-self-lt-LONG_SIZE : goal.returns-then-self-lt-LONG_SIZE
returns-then-self-lt-LONG_SIZE c =
    no-more (sound c.refill.result (omega arith)) c.refill.ensures
    (record { short = omega (arith, c.short_code-c-then-self-c.ensures.size, c.if-self-c-2.true); long = λ m. absurd (omega arith) })

pub returns-then-self-c-3 : goal.returns-then-self-c-3
returns-then-self-c-3 c =
    let d = c.long_code-c.result in
    no-more (sound c.refill.result (omega arith)) c.refill.ensures (record {
      short = omega (arith, c.short_code-c-then-self-c.ensures.size, c.if-self-c-2.true);
      long = λ m. (256 * d.byte + d.size, c.long_code-c.ensures, omega arith);
    })

pub returns : goal.returns
returns c =
    let t = c.behind.ensures in
    elim c.if-self-c.branch [
      | then-self-c+then-self-c-2+else-self-lt-LONG_SIZE+else-self-c-3 w ↦
          let b = w.refill.result in
          let p = sound b (omega arith) in
          rw (w.c-is) (refilled-took w.refill.ensures (took p
          (long-found b.w p.wide b.n _ _ b.few w.long_code-c.ensures (omega arith) (omega arith) w.if-self-c-3.false)
          (rw (w.self-is, w.c-is) at t)))
      | then-self-c+else-self-c-2 w ↦
          let b = w.refill.result in
          let p = sound b (omega arith) in
          let e = w.short_code-c-then-self-c.ensures in
          rw (w.c-is) (refilled-took w.refill.ensures (took p
          (short-found b.w p.wide b.n _ _ b.few e.byte e.size (omega arith) w.if-self-c-2.false)
          (rw (w.self-is, w.c-is) at t)))
      | else-self-c w ↦
          let b = c.args.self.now in
          let p = sound b (omega arith) in
          let e = c.short_code-c.ensures in
          rw (w.c-is) (took p (short-found b.w p.wide b.n _ _ b.few e.byte e.size (omega arith) w.if-self-c.false) (rw (w.self-is, w.c-is) at t))
    ]
