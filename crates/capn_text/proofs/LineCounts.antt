-- Lemmas for `lines_before`, `lines_in` and `read_next`: the number of lines that end in a list of bytes.
use Rattle.std.proofs.Common.{◌≡◌, ◌≤◌, ◌+◌, ◌==◌, ℕ, Bool, true, false, cond, List, [], ◌∷◌, ◌++◌}
use Rattle.std.proofs.Common.{length, take, drop, ap, arith}
use Rattle.std.proofs.lemmas.List.{take-append-drop}
use Rattle.capn_text.specs.Streams.{ended_lines}

pub lines_append : (x y : List ℕ) → ended_lines (x ++ y) ≡ ended_lines x + ended_lines y
lines_append [] y = omega arith
lines_append (c ∷ cs) y =
    let h = lines_append cs y in
    let k : cond (c == 10) 1 0 + ended_lines (cs ++ y) ≡ cond (c == 10) 1 0 + ended_lines cs + ended_lines y =
    omega arith in
    k

one_at_most : (b : Bool) → cond b 1 0 ≤ 1
one_at_most true = omega arith
one_at_most false = omega arith

pub lines_within : (x : List ℕ) → ended_lines x ≤ length x
lines_within [] = omega arith
lines_within (c ∷ cs) =
    let h = lines_within cs in
    let k = one_at_most (c == 10) in
    omega arith

pub lines_before : (n : ℕ) (x : List ℕ) → ended_lines (take n x) ≤ ended_lines x
lines_before n x =
    let h = ap ended_lines (take-append-drop n x) in
    let k = lines_append (take n x) (drop n x) in
    omega arith
