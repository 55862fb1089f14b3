-- Lemma for `Cutting`: a range of the bytes of some words is a range of the bytes of all words.
use Rattle.std.proofs.Common.{◌≡◌, ℕ, ◌+◌, ◌-◌, ◌*◌, ◌≤◌, List, take, drop}
use Rattle.std.proofs.Common.{refl, ap, sym, ◌∙◌, arith}
use Rattle.std.proofs.lemmas.List.{drop-drop, drop-take, take-take}
use Rattle.capn_words.specs.Message.{bytes}
use Rattle.capn_words.proofs.shared.Words.{bytes-drop, bytes-take}

-- a range of the bytes of the `size` words from index `start` on is a range of the bytes of all words `ws`
pub bytes_of_part : (start size word len : ℕ) (ws : List ℕ) → 8 * word + len ≤ 8 * size
    → take len (drop (8 * word) (bytes (take size (drop start ws)))) ≡ take len (drop (8 * (start + word)) (bytes ws))
bytes_of_part start size word len ws h =
    let left : 8 * word + (8 * size - 8 * word) ≡ 8 * size = omega arith in
    let part = sym (bytes-take size (drop start ws)) ∙ ap (λ (j : ℕ). take j (bytes (drop start ws))) (sym left) in
    let rest = drop-take (8 * word) (8 * size - 8 * word) (bytes (drop start ws)) in
    let front = take-take len (8 * size - 8 * word) (drop (8 * word) (bytes (drop start ws))) (omega arith) in
    let e : 8 * start + 8 * word ≡ 8 * (start + word) = omega arith in
    let at = ap (λ (xs : List ℕ). drop (8 * word) xs) (sym (bytes-drop start ws))
    ∙ drop-drop (8 * word) (8 * start) (bytes ws) ∙ ap (λ (j : ℕ). drop j (bytes ws)) e in
    rw (part, rest, front, at) refl
