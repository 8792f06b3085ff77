-- Answers and parts of streams in words.
use Rattle.std.specs.Prelude.{ℕ, List, [], ◌++◌, ◌==◌, if◌then◌else◌}
use Rattle.std.specs.Fmt.{decimal}
use lib.Chars.{codes}

-- an answer by its number; nothing where no answer has it
abbrev pub answer_text : ℕ → List ℕ
answer_text n =
    if n == 0 then codes "done" else (
    if n == 1 then codes "vacant index" else (
    if n == 2 then codes "bytes end too early" else (
    if n == 3 then codes "integer too large or too long" else (
    if n == 4 then codes "H set" else (
    if n == 5 then codes "index or instruction not allowed" else (
    if n == 6 then codes "index held" else (
    if n == 7 then codes "limit passed" else (
    if n == 8 then codes "index vacant" else (
    if n == 9 then codes "entry already under deletion" else (
    if n == 10 then codes "entry not under deletion" else (
    if n == 11 then codes "stream, part or turn not allowed" else (
    if n == 12 then codes "lent output or memory too small" else (
    if n == 13 then codes "string or block too long" else (
    if n == 14 then codes "bad stream list" else (
    if n == 15 then codes "all places held" else (
    if n == 16 then codes "field list not in its form" else (
    if n == 17 then codes "memory forms no state" else (
    if n == 18 then codes "packed string not in its form" else (
    if n == 19 then codes "integer not in its shortest form" else (
    []))))))))))))))))))))

abbrev pub part_text : ℕ → List ℕ
part_text n = if n == 0 then codes "message" else (if n == 1 then codes "trailer" else codes "part " ++ decimal n)
