use mathlib.Core.Path.{sym, ap}
use borrow.Author.Tests.{not-true, not-false}
use Rattle.unpacking.specs.declared.unpack.UnpackedSize.{UnpackedSize}
use Rattle.wire.proofs.Strings.{after-long, after-cut, measured-long, measured-bad, measured-found}
use Rattle.wire.proofs.text.read_packed.Goals as goal

pub returns-then-limit-size : goal.returns-then-limit-size
returns-then-limit-size c = sym (after-long _ _ _ _ _ c.if-limit-size.true)

pub returns-then-s-start : goal.returns-then-s-start
returns-then-s-start c = sym (after-cut _ _ _ _ _ c.if-limit-size.false c.if-s-start.true)

pub returns-then-limit-length : goal.returns-then-limit-length
returns-then-limit-length c =
    let d = c in
    let e = c.unpacked_size-found.ensures in
    sym (measured-long _ _ _ _ d.if-limit-size.false d.if-s-start.false _ _ (ap (λ (r : UnpackedSize). r.count) e) (ap (λ (r : UnpackedSize). r.whole) e) c.if-limit-length.true)

pub returns-then-not-found : goal.returns-then-not-found
returns-then-not-found c =
    let d = c in
    let e = c.unpacked_size-found.ensures in
    sym (measured-bad _ _ _ _ d.if-limit-size.false d.if-s-start.false _ _ (ap (λ (r : UnpackedSize). r.count) e) (ap (λ (r : UnpackedSize). r.whole) e)
    c.if-limit-length.false (not-true _ c.if-not-found.true))

pub returns : goal.returns
returns c =
    let d = c in
    let e = c.unpacked_size-found.ensures in
    sym (measured-found _ _ _ _ d.if-limit-size.false d.if-s-start.false _ _ (ap (λ (r : UnpackedSize). r.count) e) (ap (λ (r : UnpackedSize). r.whole) e)
    c.if-limit-length.false (not-false _ c.if-not-found.false))
