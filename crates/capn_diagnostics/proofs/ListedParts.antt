-- Lemmas for `fmt` of `Listed`: the text of a list of numbers, number by number.
use Rattle.std.proofs.Common.{◌≡◌, ℕ, ◌+◌, ◌<◌, ◌≤◌, List, [], ◌∷◌, ◌++◌, length, drop, get_or, codes, refl}
use Rattle.std.proofs.Common.{sym, ◌∙◌, arith, append_assoc, append-nil, length-drop, add-one, drop-cons}
use Rattle.std.proofs.lemmas.List.{nil_from_length}
use Rattle.std.specs.Fmt.{decimal}
use Rattle.capn_diagnostics.specs.MessageTexts.{behind_commas, listed}

pub listed-first : (ns : List ℕ) → (length ns ≡ 0 → ⊥)
    → decimal (get_or ns 0 0) ++ behind_commas (drop 1 ns) ≡ listed ns
listed-first [] h = absurd (h refl)
listed-first (n ∷ ns) h = refl

pub listed-next : (done more ns : List ℕ) (i : ℕ) → i < length ns → more ≡ codes ", " ++ decimal (get_or ns i 0)
    → done ++ behind_commas (drop i ns) ≡ listed ns → (done ++ more) ++ behind_commas (drop (i + 1) ns) ≡ listed ns
listed-next done more ns i h e before =
    rw (append_assoc done more (behind_commas (drop (i + 1) ns)), e, add-one) (rw (drop-cons ns i 0) at before)

pub listed-end : (done ns : List ℕ) (i : ℕ) → length ns ≤ i → done ++ behind_commas (drop i ns) ≡ listed ns
    → done ≡ listed ns
listed-end done ns i h before =
    let none : drop i ns ≡ [] = nil_from_length (drop i ns) (omega (arith, length-drop i ns)) in
    sym (append-nil done) ∙ rw none at before
