use Prim.Native.Nat.{◌+◌, ◌-◌, ◌<◌}
use mathlib.Core.Path.{◌≡◌, ◌∙◌}
use native.Mathlib.Omega.{arith}
use lib.ListN.{get_or, drop}
use Rattle.unpacking.proofs.Refills.{byte_next, join-fits, join-sound, join-waiting}
use Rattle.unpacking.proofs.bits.Bits.refill_last.Goals as goal

pub overflow_add-w : goal.overflow_add-w
overflow_add-w c =
    let l = c.loop-x in
    let s = c.args.self.bytes.now in
    let r = c.ranges.self in
    let b : get_or s l.x-index 0 < 256 = omega arith in
    let room = l.invariant.room in
    record { fits = join-fits l.invariant.sound 8 (get_or s l.x-index 0) (56 - l.n) (omega arith) (omega arith) b }

pub loop-x-preserved : goal.loop-x-preserved
loop-x-preserved c =
    let l = c.loop-x in
    let i = l.invariant in
    let s = c.args.self.bytes.now in
    let b : get_or s l.x-index 0 < 256 = omega arith in
    let e : 56 - l.n ≡ 64 - (l.n + 8) = omega arith in
    record {
      sound = join-sound i.sound 8 (get_or s l.x-index 0) (56 - l.n) (omega arith) e b;
      same =
          join-waiting i.sound 8 (get_or s l.x-index 0) (56 - l.n) (omega arith) e b (drop l.x-index s) (drop (l.x-index + 1) s) (byte_next s l.x-index c.loop-x-test.true)
          ∙ i.same;
      room = omega arith;
    }
