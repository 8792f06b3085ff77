use Prim.Native.Nat.{◌+◌, ◌-◌}
use mathlib.Core.Path.{sym, ap, ◌∙◌}
use native.Mathlib.Omega.{arith}
use Rattle.memory.specs.Bytes.{overlay}
use Rattle.packing.proofs.Writing.{last-bytes, last-store, last_none}
use Rattle.packing.proofs.pack.put_rest.Goals as goal

-- `packing::pack::put_rest` writes what is left, a byte at a time.
pub returns-then-n-eq0 : goal.returns-then-n-eq0
returns-then-n-eq0 c =
    let a = c.args in
    let v = c.push-rest.result in
    sym
    (ap (overlay a.out.now a.at) (last-bytes a.n a.u v (omega arith) c.push-rest.ensures)
    ∙ last_none _ a.at (a.n + 7) v (omega arith))

pub returns-then-n-le8 : goal.returns-then-n-le8
returns-then-n-le8 c =
    let a = c.args in
    let v = c.push-rest.result in
    sym
    (ap (overlay a.out.now a.at) (last-bytes a.n a.u v (omega arith) c.push-rest.ensures)
    ∙ last-store _ a.at (a.at + 1) (a.n + 7) (a.n - 1) v (omega arith) (omega arith)
    ∙ last_none _ (a.at + 1) (a.n - 1) v (omega arith))

pub returns-then-n-le16 : goal.returns-then-n-le16
returns-then-n-le16 c =
    let a = c.args in
    let v = c.push-rest.result in
    sym
    (ap (overlay a.out.now a.at) (last-bytes a.n a.u v (omega arith) c.push-rest.ensures)
    ∙ last-store _ a.at (a.at + 1) (a.n + 7) (a.n - 1) v (omega arith) (omega arith)
    ∙ last-store _ (a.at + 1) (a.at + 2) (a.n - 1) (a.n - 9) v (omega arith) (omega arith)
    ∙ last_none _ (a.at + 2) (a.n - 9) v (omega arith))

pub returns-then-n-le24 : goal.returns-then-n-le24
returns-then-n-le24 c =
    let a = c.args in
    let v = c.push-rest.result in
    sym
    (ap (overlay a.out.now a.at) (last-bytes a.n a.u v (omega arith) c.push-rest.ensures)
    ∙ last-store _ a.at (a.at + 1) (a.n + 7) (a.n - 1) v (omega arith) (omega arith)
    ∙ last-store _ (a.at + 1) (a.at + 2) (a.n - 1) (a.n - 9) v (omega arith) (omega arith)
    ∙ last-store _ (a.at + 2) (a.at + 3) (a.n - 9) (a.n - 17) v (omega arith) (omega arith)
    ∙ last_none _ (a.at + 3) (a.n - 17) v (omega arith))

pub returns : goal.returns
returns c =
    let a = c.args in
    let v = c.push-rest.result in
    sym
    (ap (overlay a.out.now a.at) (last-bytes a.n a.u v (omega arith) c.push-rest.ensures)
    ∙ last-store _ a.at (a.at + 1) (a.n + 7) (a.n - 1) v (omega arith) (omega arith)
    ∙ last-store _ (a.at + 1) (a.at + 2) (a.n - 1) (a.n - 9) v (omega arith) (omega arith)
    ∙ last-store _ (a.at + 2) (a.at + 3) (a.n - 9) (a.n - 17) v (omega arith) (omega arith)
    ∙ last-store _ (a.at + 3) (a.at + 4) (a.n - 17) (a.n - 25) v (omega arith) (omega arith)
    ∙ last_none _ (a.at + 4) (a.n - 25) v (omega arith))
