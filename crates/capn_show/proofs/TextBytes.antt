-- Lemmas for `bare_run` and `Grown`: the bytes of a text between quotes, and bytes that need no escape.
use Rattle.std.proofs.Common.{◌≡◌, ℕ, ◌+◌, ◌<◌, ◌==◌, ◌||◌, List, [], ◌∷◌, ◌++◌, Bool, true, false, if◌then◌else◌}
use Rattle.std.proofs.Common.{length, take, get_or, ap, ap₂, sym, refl, ◌∙◌, append_assoc}
use Rattle.std.proofs.lemmas.List.{append-nil, take_more}
use Rattle.capn_show.specs.JsonTexts.{json_escaped, json_escapes}
use Rattle.capn_show.specs.ReadyPlaces.{is_escaped}

-- ---- between quotes

pub escapes-joined : (xs ys : List ℕ) → json_escapes (xs ++ ys) ≡ json_escapes xs ++ json_escapes ys
escapes-joined [] ys = refl
escapes-joined (x ∷ xs) ys =
    ap (λ (l : List ℕ). json_escaped x ++ l) (escapes-joined xs ys)
    ∙ sym (append_assoc (json_escaped x) (json_escapes xs) (json_escapes ys))

bare-json : (x y z u v : Bool) (b : ℕ) → (x || (y || (z || (u || v)))) ≡ false →
    (if x then 92 ∷ 34 ∷ [] else if y then 92 ∷ 92 ∷ [] else if z then 92 ∷ 116 ∷ []
    else if u then 92 ∷ 110 ∷ [] else if v then 92 ∷ 114 ∷ [] else b ∷ []) ≡ b ∷ []
bare-json false false false false false b h = refl
bare-json false false false false true b h = absurd (cc)
bare-json false false false true v b h = absurd (cc)
bare-json false false true u v b h = absurd (cc)
bare-json false true z u v b h = absurd (cc)
bare-json true y z u v b h = absurd (cc)

bare-one : (b : ℕ) → is_escaped b ≡ false → json_escaped b ≡ b ∷ []
bare-one b h = bare-json (b == 34) (b == 92) (b == 9) (b == 10) (b == 13) b h

-- If the first `i` bytes and the next byte need no escape, the first `i + 1` bytes need none.
pub bare-more : (xs : List ℕ) (i : ℕ) → i < length xs → is_escaped (get_or xs i 0) ≡ false
    → json_escapes (take i xs) ≡ take i xs
    → json_escapes (take (i + 1) xs) ≡ take (i + 1) xs
bare-more xs i below bare h =
    let x = get_or xs i 0 in
    let more = take_more xs i 0 below in
    ap json_escapes more
    ∙ escapes-joined (take i xs) (x ∷ [])
    ∙ ap₂ (λ (a b : List ℕ). a ++ b) h (append-nil (json_escaped x) ∙ bare-one x bare)
    ∙ sym more
