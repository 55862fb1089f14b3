-- Lemmas for `fmt` of `PathText`: the text of a path, number by number.
use Rattle.std.proofs.Common.{◌≡◌, ℕ, ◌+◌, ◌<◌, ◌≤◌, List, [], ◌∷◌, ◌++◌, length, drop, get_or, codes, refl}
use Rattle.std.proofs.Common.{sym, ◌∙◌, arith, append_assoc, append-nil, length-drop, add-one, drop-cons}
use Rattle.std.proofs.lemmas.List.{nil_from_length}
use Rattle.std.specs.Fmt.{decimal}
use Rattle.capn_diagnostics.specs.Texts.{dotted, path_text}

pub path-first : (path : List ℕ) → (length path ≡ 0 → ⊥)
    → decimal (get_or path 0 0) ++ dotted (drop 1 path) ≡ path_text path
path-first [] h = absurd (h refl)
path-first (n ∷ path) h = refl

pub path-next : (done more path : List ℕ) (i : ℕ) → i < length path → more ≡ codes "." ++ decimal (get_or path i 0)
    → done ++ dotted (drop i path) ≡ path_text path → (done ++ more) ++ dotted (drop (i + 1) path) ≡ path_text path
path-next done more path i h e before =
    rw (append_assoc done more (dotted (drop (i + 1) path)), e, add-one) (rw (drop-cons path i 0) at before)

pub path-end : (done path : List ℕ) (i : ℕ) → length path ≤ i → done ++ dotted (drop i path) ≡ path_text path
    → done ≡ path_text path
path-end done path i h before =
    let none : drop i path ≡ [] = nil_from_length (drop i path) (omega (arith, length-drop i path)) in
    sym (append-nil done) ∙ rw none at before
