-- The codes of at most 8 bits, found by the 8 bits that they begin. Tested over all 256 bytes at once.
use mathlib.Core.Path.{◌≡◌, refl, sym, ap, ◌∙◌}
use mathlib.Core.Bool.{Bool, true, false}
use Prim.Native.Nat.{ℕ, zero, suc, ◌+◌, ◌-◌, ◌*◌, ◌/◌, ◌%◌, ◌^◌, ◌≤◌, ◌<◌}
use native.Mathlib.Omega.{arith}
use lib.Dec.{eqb, ltb, leb}
use borrow.Author.Tests.{ltb-true, leb-true, eqb-true}
use Rattle.std.proofs.lemmas.Bool.{agree_below, agree_below_at}
use Rattle.memory.specs.Choice.{pick}
use Rattle.memory.proofs.Order.{split}
use Rattle.huffman.specs.Codes.{codes, code_of}
use Rattle.huffman.proofs.Prefixes.{pick_first, pick_second}
use Rattle.short_codes.specs.Short.{is_short, short_in, short_of}

-- 254 and 255 begin longer codes
pub short_none : (x : ℕ) → 254 ≤ x → x < 256 → short_of x ≡ 64
unfolding short_of short_in is_short codes
short_none x h b = split x 255 (λ l. let e : x ≡ 254 = omega arith in ap short_of e) (λ l. let e : x ≡ 255 = omega arith in ap short_of e)

-- c says a byte, times 256, and the size of its code, which begins the 8 bits of x
pub record ShortFront (x c : ℕ) : Type 0 where
  pub byte : ℕ
  pub within : byte < 256
  pub said : c ≡ byte * 256 + (code_of byte).size
  pub small : (code_of byte).size ≤ 8
  pub front : x / 2 ^ (8 - (code_of byte).size) ≡ (code_of byte).value

unfoldable right : ℕ → Bool
right x =
    pick (ltb (short_of x / 256) 256)
    (pick (eqb (short_of x % 256) (code_of (short_of x / 256)).size)
    (pick (leb (short_of x % 256) 8) (eqb (x / 2 ^ (8 - short_of x % 256)) (code_of (short_of x / 256)).value) false) false) false

all_right : agree_below right (λ _. true) 254 ≡ true
unfolding right short_of short_in is_short code_of codes
all_right = refl

pub short-front : (x : ℕ) → x < 254 → ShortFront x (short_of x)
unfolding right
short-front x h =
    let c = short_of x in
    let t = agree_below_at right (λ _. true) 254 x all_right h in
    let p = ltb (c / 256) 256 in
    let q = eqb (c % 256) (code_of (c / 256)).size in
    let r = leb (c % 256) 8 in
    let v = eqb (x / 2 ^ (8 - c % 256)) (code_of (c / 256)).value in
    let u = pick_second p (pick q (pick r v false) false) t in
    let w = pick_second q (pick r v false) u in
    let size : c % 256 ≡ (code_of (c / 256)).size = eqb-true (c % 256) (code_of (c / 256)).size (pick_first q (pick r v false) u) in
    let small : c % 256 ≤ 8 = leb-true (c % 256) 8 (pick_first r v w) in
    record {
      byte = c / 256;
      within = ltb-true (c / 256) 256 (pick_first p (pick q (pick r v false) false) t);
      said = omega arith;
      small = omega arith;
      front =
          ap (λ (k : ℕ). x / 2 ^ (8 - k)) (sym size) ∙ eqb-true (x / 2 ^ (8 - c % 256)) (code_of (c / 256)).value (pick_second r v w);
    }
