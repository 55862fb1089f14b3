-- Coverings that are laid into items one after another: the number of items stays, and no item is covered more often
-- than there are coverings.
use Rattle.std.proofs.Common.{◌≡◌, ◌⊎◌, inl, inr, ℕ, zero, suc, ◌+◌, ◌<◌, ◌≤◌, ◌==◌, List, [], ◌∷◌, ◌++◌}
use Rattle.std.proofs.Common.{length, get_or, set, refl, ◌∙◌, arith}
use Rattle.std.proofs.lemmas.Bool.{cases_eq, cases_lt}
use Rattle.std.proofs.lemmas.Bool.Decides.{nat_tests}
use Rattle.std.proofs.lemmas.List.{get_or-set_same, get_or-set_other, get_or_past, length-set}
use Rattle.capn_words.proofs.shared.Choices.{pick}
use Rattle.capn_cover.specs.declared.covered.Covered.{Covered}
use Rattle.capn_cover.specs.declared.covered.Role.{Role}
use Rattle.capn_cover.specs.Covers.{Covering, unreached}
use Rattle.capn_cover.specs.inner.Laid.{first_covered, covered_again, once_more, followed, followed_in}
use Rattle.capn_cover.specs.inner.Laid.{touched, laid, HasRoom}

pub laid-append : (m : List (List ℕ)) (xs ys : List Covering) (cells : List Covered)
    → laid m (xs ++ ys) cells ≡ laid m ys (laid m xs cells)
laid-append m [] ys cells = refl
laid-append m (x ∷ xs) ys cells = laid-append m xs ys (touched m x cells)

-- marking a slot as followed keeps the number of items
pub length_followed : (slot : ℕ) (cells : List Covered) → length (followed_in slot cells) ≡ length cells
length_followed slot cells = length-set cells slot (followed (get_or cells slot unreached))

pub length-touched : (m : List (List ℕ)) (c : Covering) (cells : List Covered)
    → length (touched m c cells) ≡ length cells
length-touched m c cells =
    let done : List Covered = followed_in c.slot cells in
    length-set done c.word (once_more m c.slot c.role (get_or done c.word unreached)) ∙ length_followed c.slot cells

-- laying coverings in keeps the number of items
pub laid-length : (m : List (List ℕ)) (cs : List Covering) (cells : List Covered)
    → length (laid m cs cells) ≡ length cells
laid-length m [] cells = refl
laid-length m (c ∷ cs) cells = laid-length m cs (touched m c cells) ∙ length-touched m c cells

-- a word that is covered once more has one more in its times
pub times-more : (m : List (List ℕ)) (slot : ℕ) (role : Role) (x : Covered)
    → (once_more m slot role x).times ≡ x.times + 1
times-more m slot role x =
    pick (λ (y : Covered). y.times ≡ x.times + 1) (x.times == 0) (first_covered m slot role x)
    (covered_again m slot role x)
    (λ t. let zero : x.times ≡ 0 = grind (arith, nat_tests) in omega arith) (λ f. refl)

-- if a change of one item adds at most `more` to its times, no item gains more than that
set-times : (k more : ℕ) (x : Covered) (cells : List Covered) → x.times ≤ (get_or cells k unreached).times + more
    → (w : ℕ) → (get_or (set cells k x) w unreached).times ≤ (get_or cells w unreached).times + more
set-times k more x cells h w = elim (cases_lt w (length cells)) [ inl l ↦ inside l (cases_eq w k) | inr l ↦ past l ]
  where
    inside : w < length cells → (w ≡ k) ⊎ (w ≡ k → ⊥)
        → (get_or (set cells k x) w unreached).times ≤ (get_or cells w unreached).times + more
    inside l (inl e) =
        let within : k < length cells = omega arith in
        rw e (rw (get_or-set_same cells k x unreached within) h)
    inside l (inr n) = rw (get_or-set_other cells k w x unreached n) (omega arith)

    past : length cells ≤ w → (get_or (set cells k x) w unreached).times ≤ (get_or cells w unreached).times + more
    past l =
        let n = length-set cells k x in
        let is = get_or_past (set cells k x) w unreached (omega arith) in
        rw is (omega arith)

times-followed : (slot : ℕ) (cells : List Covered) (w : ℕ)
    → (get_or (followed_in slot cells) w unreached).times ≤ (get_or cells w unreached).times + 0
times-followed slot cells w =
    set-times slot 0 (followed (get_or cells slot unreached)) cells (omega arith) w

-- marking a slot as followed leaves the room for coverings
pub room_followed : (slot n : ℕ) (cells : List Covered) → HasRoom n cells → HasRoom n (followed_in slot cells)
room_followed slot n cells h w = let more = times-followed slot cells w in let room = h w in omega arith

-- one covering adds at most one to the times of any item
pub times-touched : (m : List (List ℕ)) (c : Covering) (cells : List Covered) (w : ℕ)
    → (get_or (touched m c cells) w unreached).times ≤ (get_or cells w unreached).times + 1
times-touched m c cells w =
    let done : List Covered = followed_in c.slot cells in
    let x : Covered = get_or done c.word unreached in
    let e = times-more m c.slot c.role x in
    let once = set-times c.word 1 (once_more m c.slot c.role x) done (omega (arith, e)) w in
    let before = times-followed c.slot cells w in
    omega arith

room-touched : (m : List (List ℕ)) (c : Covering) (n : ℕ) (cells : List Covered) → HasRoom (suc n) cells
    → HasRoom n (touched m c cells)
room-touched m c n cells h w = let more = times-touched m c cells w in let room = h w in omega arith

-- room for more coverings is room for fewer
pub room-less : (n k : ℕ) (cells : List Covered) → n ≤ k → HasRoom k cells → HasRoom n cells
room-less n k cells l h w = let room = h w in omega arith

-- if there is room for the coverings and for `n` more, there is room for `n` once they are laid in
pub room-laid : (m : List (List ℕ)) (cs : List Covering) (n k : ℕ) (cells : List Covered) → length cs + n ≤ k
    → HasRoom k cells → HasRoom n (laid m cs cells)
room-laid m [] n k cells l h = room-less n k cells (omega arith) h
room-laid m (c ∷ cs) n zero cells l h = absurd (omega arith)
room-laid m (c ∷ cs) n (suc k) cells l h =
    room-laid m cs n k (touched m c cells) (omega arith) (room-touched m c k cells h)
