-- An answer other than 2 does not change when bytes are added behind: strings over the limit, names over the width.
-- Each reader is a chain of tests and readers, kept link by link.
use mathlib.Core.Path.{◌≡◌, refl}
use mathlib.Core.Bool.{Bool, true, false}
use Prim.Native.Nat.{ℕ, ◌-◌, ◌≤◌}
use native.Mathlib.Omega.{arith}
use mathlib.Core.List.{List, ◌++◌}
use lib.ListN.{length, length-append}
use lib.Dec.{leb, eqb}
use borrow.Author.Tests.{le-leb, leb-true}
use Rattle.integers.specs.Integer.{read_int}
use Rattle.memory.proofs.Order.{split}
use Rattle.wire.specs.Text.{text_at, size_limit, is_packed, read_string, string_after, string_end, name_limit}
use Rattle.wire.specs.Name.{read_name}
use Rattle.wire.specs.declared.name.NamePlace.TheVariants.{Index, Text}
use Rattle.wire.proofs.TextBounds.{text-kept}
use Rattle.integers.proofs.Kept.{Kept, kept_same, kept-need, kept-pick, kept_test, kept-inside, kept-on-int, kept-on-read, byte-kept, int-kept}
use Rattle.std.specs.Prelude.{Ok, Err}
use Rattle.integers.specs.Answers.{answer_number}
use Rattle.integers.specs.declared.answer.Refusal.TheVariants.{TooLong, Truncated}

none_kept : (packed : Bool) (s t : List ℕ) (start : ℕ) → text_at packed (s ++ t) start 0 ≡ text_at packed s start 0
unfolding text_at
none_kept true s t start = refl
none_kept false s t start = refl

-- as many bytes as are there are the same with others behind
there-kept : (packed : Bool) (s t : List ℕ) (start size : ℕ) → size ≤ length s - start → text_at packed (s ++ t) start size ≡ text_at packed s start size
there-kept packed s t start size h =
    split (length s) start
    (λ l. let z : size ≡ 0 = omega arith in rw z (none_kept packed s t start))
    (λ l. text-kept packed s t start size (omega arith))

after_kept : (packed : Bool) (s t : List ℕ) (limit size start : ℕ)
    → Kept answer_number (string_after packed s limit size start) (string_after packed (s ++ t) limit size start)
unfolding string_after
after_kept packed s t limit size start =
    kept-need answer_number (leb size (size_limit packed limit)) (kept_same answer_number (Err TooLong))
    (kept_test answer_number (Err Truncated) refl (leb size (length s - start)) (leb size (length (s ++ t) - start))
    (λ e. le-leb size (length (s ++ t) - start) (omega (arith, leb-true size (length s - start) e, length-append s t)))
    (λ e. rw (there-kept packed s t start size (leb-true size (length s - start) e))
    (kept_same answer_number (string_end packed limit size start (text_at packed s start size)))))

pub string-kept : (s t : List ℕ) (at limit : ℕ) → Kept answer_number (read_string s at limit) (read_string (s ++ t) at limit)
unfolding read_string
string-kept s t at limit =
    kept-inside answer_number (Err Truncated) refl s t at (λ h.
    rw (byte-kept s t at h)
    (kept-on-int answer_number Err refl (read_int 7 s at) (read_int 7 (s ++ t) at) (int-kept 7 s t at)
    (λ size start e. after_kept (is_packed s at) s t limit size start)))

pub name-kept : (k : ℕ) (s t : List ℕ) (at : ℕ) → Kept answer_number (read_name k s at) (read_name k (s ++ t) at)
unfolding read_name
name-kept k s t at =
    kept-on-int answer_number Err refl (read_int k s at) (read_int k (s ++ t) at) (int-kept k s t at) (λ index next e.
    kept-pick answer_number (eqb index 0)
    (kept-on-read answer_number Err refl (read_string s next name_limit) (read_string (s ++ t) next name_limit) (string-kept s t next name_limit)
    (λ p after d. kept_same answer_number (Ok (Text p, after))))
    (kept_same answer_number (Ok (Index (record { value = index }), next))))
