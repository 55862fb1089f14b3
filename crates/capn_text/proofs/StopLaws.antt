-- Lemmas for `contents.rt`, `heads.rt`, `leaves.rt` and `tokens.rt`: the stops of readers that read one after the
-- other.
use Rattle.std.proofs.Common.{◌≡◌, ◌+◌, ◌-◌, ◌≤◌, ◌<◌, ℕ, zero, suc, List, [], ◌∷◌, ◌++◌, length, Option, Some, None}
use Rattle.std.proofs.Common.{refl, sym, ap, subst, ◌∙◌, append_assoc, arith}
use Rattle.std.proofs.lemmas.List.{append-nil}
use Rattle.capn_text.specs.declared.fault.Stop.{Stop}
use Rattle.capn_text.specs.declared.fault.Stop.TheVariants as stops
use Rattle.capn_text.specs.inner.Tokens.{◌>>=◌, many, FailsIdly}
use Rattle.capn_text.specs.Streams.{first_lines, ended_lines}
use Rattle.capn_text.specs.inner.Stops.{AreLines, GoesOn, Stops, IsLost, IsOpen, FailsAt}
use Rattle.capn_text.proofs.Steps.{bind_some, some_is, then}
use Rattle.capn_text.proofs.WholeLines.{are_none, are_both, first_front}

-- A reader, which takes a height and bytes, and gives an item and the bytes after the item, or `None`.
abbrev pub Reads : Type 0 → Type 0
Reads X = ℕ → List ℕ → Option (X × List ℕ)

-- If `read room` reads `x` from `t`, the bytes `c` that are read are complete lines. At each height `r` of at least
-- `room`, `read r` reads `x` from `c` followed by any bytes `z`.
abbrev pub Local : {X : Type 0} → Reads X → ℕ → Type 0
Local {X} read room = (t : List ℕ) (x : X) (after : List ℕ) → read room t ≡ Some (x, after)
    → (c : List ℕ) × (t ≡ c ++ after) × AreLines c
    × ((r : ℕ) (z : List ℕ) → room ≤ r → read r (c ++ z) ≡ Some (x, z))

-- For some bytes `w` and some `x`, `read` reads `x` from all of `w` at every height `r`.
abbrev pub Full : {X : Type 0} → Reads X → Type 0
Full {X} read = (w : List ℕ) × (x : X) × ((r : ℕ) → read r w ≡ Some (x, []))

-- The reader that first reads with `f`, and then reads with `g` from the bytes that `f` has left.
abbrev pub both : {X Y : Type 0} → Reads X → (X → Reads Y) → Reads Y
both f g r t = f r t >>= λ x. g x.0 r x.1

-- The reader that reads no bytes, and gives `y`.
abbrev pub given : {Y : Type 0} → Y → Reads Y
given y r t = Some (y, t)

pub local_given : {Y : Type 0} (y : Y) (room : ℕ) → Local (given y) room
local_given {Y} y room t x after e =
    let p = some_is (y, t) (x, after) e in
    subst (λ (q : Y × List ℕ). (c : List ℕ) × (t ≡ c ++ q.1) × AreLines c
    × ((r : ℕ) (z : List ℕ) → room ≤ r → given y r (c ++ z) ≡ Some (q.0, z))) p ([], refl, are_none, λ r z h. refl)

pub full_given : {Y : Type 0} (y : Y) → Full (given y)
full_given y = ([], y, λ r. refl)

-- Let `f` be `Local`. If `f` reads `x` from all of `w`, it also reads `x` from `w` followed by any bytes `z`.
pub past : {X : Type 0} (f : Reads X) (least : ℕ) (w : List ℕ) (x : X) → Local f least
    → ((r : ℕ) → least ≤ r → f r w ≡ Some (x, [])) → (r : ℕ) (z : List ℕ) → least ≤ r → f r (w ++ z) ≡ Some (x, z)
past f least w x near h r z low =
    let p = near w x [] (h least (omega arith)) in
    let is : w ≡ p.0 = p.1 ∙ append-nil p.0 in
    ap (λ t. f r (t ++ z)) is ∙ p.3 r z (omega arith)

pub full_both : {X Y : Type 0} (f : Reads X) (g : X → Reads Y) → Local f 0 → Full f → ((x : X) → Full (g x))
    → Full (both f g)
full_both f g near full fulls =
    let second = fulls full.1 in
    let p = near full.0 full.1 [] (full.2 0) in
    let is : full.0 ≡ p.0 = p.1 ∙ append-nil p.0 in (
      full.0 ++ second.0,
      second.1,
      λ r. ap (λ c. both f g r (c ++ second.0)) is
          ∙ ap (λ o. o >>= λ x. g x.0 r x.1) (p.3 r second.0 (omega arith)) ∙ second.2 r,
    )

module _ {X Y : Type 0} (f : Reads X) (g : X → Reads Y) (room : ℕ) where
  pub local_both : Local f room → ((x : X) → Local (g x) room) → Local (both f g) room
  local_both near nears t y after e =
      let a = bind_some (f room t) (λ x. g x.0 room x.1) (y, after) e in
      let p = near t a.0.0 a.0.1 a.1 in
      let q = nears a.0.0 a.0.1 y after a.2 in (
        p.0 ++ q.0,
        then t p.0 q.0 a.0.1 after p.1 q.1,
        are_both p.0 q.0 p.2 q.2,
        λ r z low. ap (both f g r) (append_assoc p.0 q.0 z) ∙ ap (λ o. o >>= λ x. g x.0 r x.1) (p.3 r (q.0 ++ z) low)
            ∙ q.3 r z low,
      )

  goes_on_first : (least : ℕ) → Local f least → ((x : X) → Full (g x)) → (front : List ℕ) → GoesOn f least front
      → GoesOn (both f g) least front
  goes_on_first least near fulls front on =
      let second = fulls on.2 in (
        on.0,
        on.1 ++ second.0,
        second.1,
        λ r low. ap (both f g r) (sym (append_assoc front on.1 second.0))
            ∙ ap (λ o. o >>= λ x. g x.0 r x.1) (past f least (front ++ on.1) on.2 near on.3 r second.0 low)
            ∙ second.2 r,
      )

  stops_first : Local f room → ((x : X) → Full (g x)) → (n : ℕ) (t : List ℕ) → Stops f room t n
      → Stops (both f g) room t n
  stops_first near fulls n t h = (
    h.0,
    h.1,
    h.2,
    h.3,
    goes_on_first room near fulls h.0 h.4,
    λ r z low same. ap (λ o. o >>= λ x. g x.0 r x.1) (h.5 r z low same),
  )

  open_first : Local f room → ((x : X) → Full (g x)) → (t : List ℕ) → IsOpen f room t → IsOpen (both f g) room t
  open_first near fulls t h =
      let second = fulls h.5 in (
        h.0,
        h.1,
        h.2,
        h.3,
        h.4 ++ second.0,
        second.1,
        λ r low. ap (both f g r) (sym (append_assoc h.0 h.4 second.0))
            ∙ ap (λ o. o >>= λ x. g x.0 r x.1) (past f room (h.0 ++ h.4) h.5 near h.6 r second.0 low)
            ∙ second.2 r,
      )

  pub first_fails : ((r : ℕ) → Local f r) → ((x : X) → Full (g x)) → (e : Stop) (t : List ℕ) → FailsAt f room e t
      → FailsAt (both f g) room e t
  first_fails near fulls stops.Memory t h = tt
  first_fails near fulls (stops.Left n) t h =
      (stops_first (near room) fulls n t h.0, λ r z low. ap (λ o. o >>= λ x. g x.0 r x.1) (h.1 r z low))
  first_fails near fulls (stops.Cut n) t h =
      (stops_first (near room) fulls n t h.0, open_first (near room) fulls t h.1)
  first_fails near fulls stops.Deep t h = (
    h.0,
    h.1,
    h.2,
    goes_on_first (suc room) (near (suc room)) fulls h.0 h.3,
    λ z. ap (λ o. o >>= λ x. g x.0 room x.1) (h.4 z),
  )

  -- Let `f` be `Local`. If `f` reads `x` and then `g x` stops before the last `n` bytes, `both f g` also stops there.
  stops_second : Local f room → (t : List ℕ) (x : X) (after : List ℕ) → f room t ≡ Some (x, after) → (n : ℕ)
      → Stops (g x) room after n → Stops (both f g) room t n
  stops_second near t x after is n h =
      let p = near t x after is in (
        p.0 ++ h.0,
        h.1,
        then t p.0 h.0 after h.1 p.1 h.2,
        h.3,
        (
          are_both p.0 h.0 p.2 h.4.0,
          h.4.1,
          h.4.2,
          λ r low. ap (λ s. both f g r s) (append_assoc p.0 h.0 h.4.1)
              ∙ ap (λ o. o >>= λ y. g y.0 r y.1) (p.3 r (h.0 ++ h.4.1) (omega arith)) ∙ h.4.3 r low,
        ),
        λ r z low same. ap (λ s. both f g r s) (append_assoc p.0 h.0 z)
            ∙ ap (λ o. o >>= λ y. g y.0 r y.1) (p.3 r (h.0 ++ z) (omega arith)) ∙ h.5 r z low same,
      )

  lost_second : Local f room → (t : List ℕ) (x : X) (after : List ℕ) → f room t ≡ Some (x, after)
      → IsLost (g x) room after → IsLost (both f g) room t
  lost_second near t x after is h r z low =
      let p = near t x after is in
      ap (λ s. both f g r s) (ap (λ s. s ++ z) p.1 ∙ append_assoc p.0 after z)
      ∙ ap (λ o. o >>= λ y. g y.0 r y.1) (p.3 r (after ++ z) (omega arith)) ∙ h r z low

  open_second : Local f room → (t : List ℕ) (x : X) (after : List ℕ) → f room t ≡ Some (x, after)
      → IsOpen (g x) room after → IsOpen (both f g) room t
  open_second near t x after is h =
      let p = near t x after is in (
        p.0 ++ h.0,
        h.1,
        then t p.0 h.0 after h.1 p.1 h.2,
        h.3,
        h.4,
        h.5,
        λ r low. ap (λ s. both f g r s) (append_assoc p.0 h.0 h.4)
            ∙ ap (λ o. o >>= λ y. g y.0 r y.1) (p.3 r (h.0 ++ h.4) (omega arith)) ∙ h.6 r low,
      )

  pub second_fails : Local f room → (t : List ℕ) (x : X) (after : List ℕ) → f room t ≡ Some (x, after) → (e : Stop)
      → FailsAt (g x) room e after → FailsAt (both f g) room e t
  second_fails near t x after is stops.Memory h = tt
  second_fails near t x after is (stops.Left n) h =
      (stops_second near t x after is n h.0, lost_second near t x after is h.1)
  second_fails near t x after is (stops.Cut n) h =
      (stops_second near t x after is n h.0, open_second near t x after is h.1)
  second_fails near t x after is stops.Deep h =
      let p = near t x after is in (
        p.0 ++ h.0,
        h.1,
        then t p.0 h.0 after h.1 p.1 h.2,
        (
          are_both p.0 h.0 p.2 h.3.0,
          h.3.1,
          h.3.2,
          λ r low. ap (λ s. both f g r s) (append_assoc p.0 h.0 h.3.1)
              ∙ ap (λ o. o >>= λ y. g y.0 r y.1) (p.3 r (h.0 ++ h.3.1) (omega arith)) ∙ h.3.3 r low,
        ),
        λ z. ap (λ s. both f g room s) (append_assoc p.0 h.0 z)
            ∙ ap (λ o. o >>= λ y. g y.0 room y.1) (p.3 room (h.0 ++ z) (omega arith)) ∙ h.4 z,
      )

-- ---- `count` items

abbrev pub all : {X : Type 0} → Reads X → ℕ → Reads (List X)
all one n r = many (one r) n

abbrev others : {X : Type 0} → Reads X → ℕ → X → Reads (List X)
others one n x = both (all one n) (λ xs. given (x ∷ xs))

pub local_all : {X : Type 0} (one : Reads X) (room : ℕ) → Local one room → (n : ℕ) → Local (all one n) room
unfolding many
local_all one room near zero = local_given [] room
local_all one room near (suc n) =
    local_both one (others one n) room near
    (λ x. local_both (all one n) (λ xs. given (x ∷ xs)) room (local_all one room near n)
    (λ xs. local_given (x ∷ xs) room))

-- If reading the last `count - i` items from `rest` fails with `e`, reading all `count` items from `text` fails with
-- `e`. This is the invariant of a loop.
abbrev pub PassesOn : {X : Type 0} → Reads X → ℕ → ℕ → ℕ → List ℕ → List ℕ → Type 0
PassesOn one room count i rest text = (e : Stop) → FailsAt (all one (count - i)) room e rest
    → FailsAt (all one count) room e text

module _ {X : Type 0} (one : Reads X) (near : (r : ℕ) → Local one r) where
  full_others : (n : ℕ) → Full (all one n) → (x : X) → Full (others one n x)
  full_others n full x =
      full_both (all one n) (λ xs. given (x ∷ xs)) (local_all one 0 (near 0) n) full (λ xs. full_given (x ∷ xs))

  pub full_all : Full one → (n : ℕ) → Full (all one n)
  unfolding many
  full_all full zero = full_given []
  full_all full (suc n) = full_both one (others one n) (near 0) full (full_others n (full_all full n))

  module _ (room : ℕ) where
    pub passes_on : (count i : ℕ) (rest text : List ℕ) (x : X) (after : List ℕ) → i < count
        → one room rest ≡ Some (x, after)
        → PassesOn one room count i rest text → PassesOn one room count (i + 1) after text
    unfolding many
    passes_on count i rest text x after low is so_far e h =
        let n = count - (i + 1) in
        let k : suc n ≡ count - i = omega arith in
        let later : FailsAt (others one n x) room e after =
        first_fails (all one n) (λ xs. given (x ∷ xs)) room (λ r. local_all one r (near r) n)
        (λ xs. full_given (x ∷ xs)) e after h in
        let here : FailsAt (all one (suc n)) room e rest =
        second_fails one (others one n) room (near room) rest x after is e later in
        so_far e (subst (λ m. FailsAt (all one m) room e rest) k here)

    pub one_fails : Full one → (count i : ℕ) (rest text : List ℕ) → i < count → PassesOn one room count i rest text
        → (e : Stop)
        → FailsAt one room e rest → FailsAt (all one count) room e text
    unfolding many
    one_fails full count i rest text low so_far e h =
        let n = count - (i + 1) in
        let k : suc n ≡ count - i = omega arith in
        let here : FailsAt (all one (suc n)) room e rest =
        first_fails one (others one n) room near (full_others n (full_all full n)) e rest h in
        so_far e (subst (λ m. FailsAt (all one m) room e rest) k here)

-- ---- one line

module _ {X : Type 0} (read : List ℕ → Option (X × List ℕ)) (show : X → List ℕ) (P : X → Type 0)
    (takes : (t : List ℕ) (x : X) (rest : List ℕ) → read t ≡ Some (x, rest) → (t ≡ show x ++ rest) × P x)
    (again : (x : X) (rest : List ℕ) → P x → read (show x ++ rest) ≡ Some (x, rest)) where
  pub local_lines : ((x : X) → P x → AreLines (show x)) → (room : ℕ) → Local (λ r. read) room
  local_lines lines room t x after e =
      let p = takes t x after e in
      (show x, p.0, lines x p.1, λ r z low. again x z p.1)

  pub full_line : (x : X) → P x → Full (λ r. read)
  full_line x p = (show x, x, λ r. ap read (sym (append-nil (show x))) ∙ again x [] p)

  pub not_read : (t z : List ℕ) (lines : (x : X) → P x → AreLines (show x) × (ended_lines (show x) ≡ 1))
      → read t ≡ None → first_lines 1 z ≡ first_lines 1 t → (o : Option (X × List ℕ)) → read z ≡ o → read z ≡ None
  not_read t z lines none same (Some y) is =
      let p = takes z y.0 y.1 is in
      let l = lines y.0 p.1 in
      let n : ended_lines (show y.0) + 0 ≡ 1 = omega (arith, l.1) in
      let first : first_lines 1 t ≡ show y.0 =
      sym same ∙ ap (first_lines 1) p.0 ∙ ap (λ k. first_lines k (show y.0 ++ y.1)) (sym n) ∙ l.0 0 y.1
      ∙ append-nil (show y.0) in
      let f = first_front 1 t in
      let other = sym (ap read (f.1 ∙ ap (λ s. s ++ f.0) first) ∙ again y.0 f.0 p.1) ∙ none in
      absurd cc
  not_read t z lines none same None is = is

  pub line_stops : ((x : X) → P x → AreLines (show x) × (ended_lines (show x) ≡ 1)) → (x : X) → P x
      → (room : ℕ) (t : List ℕ)
      → read t ≡ None → Stops (λ r. read) room t (length t)
  line_stops lines x p room t none = (
    [],
    t,
    refl,
    refl,
    (are_none, show x, x, λ r low. ap read (sym (append-nil (show x))) ∙ again x [] p),
    λ r z low same. not_read t z lines none same (read z) refl,
  )

-- ---- failures

pub idle_none : {Y : Type 0} (e : Stop) (r : Option Y) → FailsIdly e r → r ≡ None
idle_none stops.Memory r h = absurd h
idle_none (stops.Left n) r h = h
idle_none (stops.Cut n) r h = h
idle_none stops.Deep r h = h

-- `f` does not depend on the height, so a stop at height 0 is a stop at height `room`.
module _ {X : Type 0} (f : List ℕ → Option (X × List ℕ)) (room : ℕ) where
  any_stops : (t : List ℕ) (n : ℕ) → Stops (λ r. f) 0 t n → Stops (λ r. f) room t n
  any_stops t n h = (
    h.0,
    h.1,
    h.2,
    h.3,
    (h.4.0, h.4.1, h.4.2, λ r low. h.4.3 0 (omega arith)),
    λ r z low same. h.5 0 z (omega arith) same,
  )

  pub any_room : (e : Stop) (t : List ℕ) → FailsAt (λ r. f) 0 e t → FailsAt (λ r. f) room e t
  any_room stops.Memory t h = tt
  any_room (stops.Left n) t h = (any_stops t n h.0, λ r z low. h.1 0 z (omega arith))
  any_room (stops.Cut n) t h =
      (any_stops t n h.0, (h.1.0, h.1.1, h.1.2, h.1.3, h.1.4, h.1.5, λ r low. h.1.6 0 (omega arith)))
  any_room stops.Deep t h = (h.0, h.1, h.2, (h.3.0, h.3.1, h.3.2, λ r low. h.3.3 1 (omega arith)), h.4)
