-- Lemmas for `put_plain` and `put_quoted`: the decimal digits of a number, written into an array of bytes.
use Rattle.std.proofs.Common.{◌≡◌, ℕ, zero, suc, ◌+◌, ◌-◌, ◌<◌, ◌≤◌, List, [], ◌∷◌, ◌++◌, length}
use Rattle.std.proofs.Common.{take, drop, replicate, refl, sym, ap, ap₂, ◌∙◌, arith, append_assoc}
use Rattle.std.specs.Fmt.{decimal}
use Rattle.std.proofs.lemmas.List.{append-nil, take_all, take-append-drop, take-replicate}
use Rattle.std.proofs.lemmas.List.{replicate-append-replicate}
use Rattle.capn_show.specs.Json.{number_text}

drop-filled : (k byte : ℕ) (xs : List ℕ) → drop k (replicate k byte ++ xs) ≡ xs
drop-filled zero byte xs = refl
drop-filled (suc k) byte xs = drop-filled k byte xs

pub plain-digits : (digits : List ℕ) (n start size : ℕ) → drop start digits ≡ decimal n ++ []
    → start + length (decimal n) ≡ size → take (size - start) (drop start digits) ≡ decimal n
plain-digits digits n start size text e =
    let whole = text ∙ append-nil (decimal n) in
    let long = ap length whole in
    take_all (size - start) (drop start digits) (omega arith) ∙ whole

quoted-from : (digits : List ℕ) (n start k : ℕ) → take start digits ≡ take start (replicate 22 34)
    → drop start digits ≡ decimal n ++ 34 ∷ [] → start < 22 → k + 1 ≡ start → drop k digits ≡ number_text n
quoted-from digits n start k fill text few e =
    let rest = decimal n ++ 34 ∷ [] in
    ap (drop k)
    (sym (take-append-drop start digits)
    ∙ ap₂ (λ (a b : List ℕ). a ++ b) (fill ∙ take-replicate start 22 34 (omega arith)) text
    ∙ ap (λ (j : ℕ). replicate j 34 ++ rest) (sym e)
    ∙ ap (λ (l : List ℕ). l ++ rest) (sym (replicate-append-replicate k 1 34))
    ∙ append_assoc (replicate k 34) (34 ∷ []) rest)
    ∙ drop-filled k 34 (34 ∷ rest)

length-closed : (x : List ℕ) (c : ℕ) → length (x ++ c ∷ []) ≡ suc (length x)
length-closed [] c = refl
length-closed (y ∷ x) c = ap suc (length-closed x c)

pub quoted-digits : (digits : List ℕ) (n start : ℕ) → take start digits ≡ take start (replicate 22 34)
    → drop start digits ≡ decimal n ++ 34 ∷ [] → start + length (decimal n) ≡ 21 → 1 ≤ start
    → take (22 - (start - 1)) (drop (start - 1) digits) ≡ number_text n
quoted-digits digits n start fill text e some =
    let whole = quoted-from digits n start (start - 1) fill text (omega arith) (omega arith) in
    let long = ap length whole in
    let all = length-closed (decimal n) 34 in
    let size : length (drop (start - 1) digits) ≤ 22 - (start - 1) = omega arith in
    take_all (22 - (start - 1)) (drop (start - 1) digits) size ∙ whole
