-- The stops of a reader: at a wrong line, at an unfinished line, or at a value that is too deep. (Our own.)
use Rattle.std.specs.Prelude.{ℕ, suc, ◌≡◌, ◌≤◌, ◌+◌, List, [], ◌++◌, length, Option, Some, None, Result, Ok, Err}
use Rattle.std.specs.Prelude.{⊤, nat_lt, cond}
use Rattle.capn_text.specs.Streams.{first_lines, ended_lines, few}
use Rattle.capn_text.specs.declared.fault.Stop.{Stop}
use Rattle.capn_text.specs.declared.fault.Stop.TheVariants as stops

-- `x` is empty, or consists of complete lines: the first lines of `x ++ y` are the lines of `x`, and then the first
-- lines of `y`.
abbrev pub AreLines : List ℕ → Type 0
AreLines x = (n : ℕ) (y : List ℕ) → first_lines (ended_lines x + n) (x ++ y) ≡ x ++ first_lines n y

-- `front` consists of complete lines. For some bytes `y` and some `x`, each `read r` with `r` of at least `least` reads
-- `x` from all of `front ++ y`.
abbrev pub GoesOn : {X : Type 0} → (ℕ → List ℕ → Option (X × List ℕ)) → ℕ → List ℕ → Type 0
GoesOn {X} read least front = AreLines front × (y : List ℕ) × (x : X)
    × ((r : ℕ) → least ≤ r → read r (front ++ y) ≡ Some (x, []))

module _ {X : Type 0} (read : ℕ → List ℕ → Option (X × List ℕ)) (room : ℕ) where
  -- `text` is `front ++ rest`, and `rest` has `left` bytes. Some bytes complete `front` (`GoesOn`). Nothing is read
  -- from `front ++ z` if `z` has the same first line as `rest`.
  abbrev pub Stops : List ℕ → ℕ → Type 0
  Stops text left = (front : List ℕ) × (rest : List ℕ) × (text ≡ front ++ rest) × (length rest ≡ left)
      × GoesOn read room front
      × ((r : ℕ) (z : List ℕ) → room ≤ r → first_lines 1 z ≡ first_lines 1 rest → read r (front ++ z) ≡ None)

  -- `text` begins with the complete lines `front`. `read room` reads nothing from `front`, whatever bytes `z` follow.
  -- `read (suc room)` reads something from `front ++ y`, for some bytes `y`.
  abbrev pub Deepens : List ℕ → Type 0
  Deepens text = (front : List ℕ) × (rest : List ℕ) × (text ≡ front ++ rest)
      × GoesOn read (suc room) front × ((z : List ℕ) → read room (front ++ z) ≡ None)

  -- `read r` reads nothing from `text ++ z`, for any bytes `z` and any `r` of at least `room`.
  abbrev pub IsLost : List ℕ → Type 0
  IsLost text = (r : ℕ) (z : List ℕ) → room ≤ r → read r (text ++ z) ≡ None

  -- `front` is `text` with at most `few` bytes removed from its end. For some `x` and some bytes `y`, each `read r`
  -- with `r` of at least `room` reads `x` from all of `front ++ y`.
  abbrev pub IsOpen : List ℕ → Type 0
  IsOpen text = (front : List ℕ) × (last : List ℕ) × (text ≡ front ++ last) × (length last ≤ few)
      × (y : List ℕ) × (x : X) × ((r : ℕ) → room ≤ r → read r (front ++ y) ≡ Some (x, []))

  -- Reading `text` with `read room` ends at the given stop. The stop `Memory` says nothing about `text`.
  abbrev pub FailsAt : Stop → List ℕ → Type 0
  FailsAt stops.Memory text = ⊤
  FailsAt (stops.Left n) text = Stops text n × IsLost text
  FailsAt (stops.Cut n) text = Stops text n × IsOpen text
  FailsAt stops.Deep text = Deepens text

-- If the result is `Ok x`, `read room` reads `view x` from `text`. If the result is `Err e`, reading `text` ends at the
-- stop `e`.
abbrev pub GivesAt : {X Y : Type 0} → (X → Y × List ℕ) → Result X Stop → (ℕ → List ℕ → Option (Y × List ℕ)) → ℕ → List ℕ
    → Type 0
GivesAt view (Ok x) read room text = read room text ≡ Some (view x)
GivesAt view (Err e) read room text = FailsAt read room e text

-- `read` reads no line from `text ++ z`, for any bytes `z`.
abbrev pub IsLineLost : {X : Type 0} → (List ℕ → Option (X × List ℕ)) → List ℕ → Type 0
IsLineLost read text = (z : List ℕ) → read (text ++ z) ≡ None

-- `front` is `text` with at most `few` bytes removed from its end. For some `x` and some bytes `y`, `read` reads `x`
-- from all of `front ++ y`.
abbrev pub IsLineOpen : {X : Type 0} → (List ℕ → Option (X × List ℕ)) → List ℕ → Type 0
IsLineOpen {X} read text = (front : List ℕ) × (last : List ℕ) × (text ≡ front ++ last) × (length last ≤ few)
    × (y : List ℕ) × (x : X) × (read (front ++ y) ≡ Some (x, []))

-- Reading the line at the front of `text` with `read` ends at the given stop. The stop `Memory` says nothing about
-- `text`. The stop `Deep` is impossible.
abbrev pub LineFails : {X : Type 0} → Stop → (List ℕ → Option (X × List ℕ)) → List ℕ → Type 0
LineFails stops.Memory read text = ⊤
LineFails (stops.Left n) read text = (read text ≡ None) × (n ≡ length text) × IsLineLost read text
LineFails (stops.Cut n) read text = (read text ≡ None) × (n ≡ length text) × IsLineOpen read text
LineFails stops.Deep read text = ⊥

-- If the result is `Ok x`, `read` reads `view x` from the line at the front of `text`. If the result is `Err e`,
-- reading that line ends at the stop `e`.
abbrev pub GivesLine : {X Y : Type 0} → (X → Y × List ℕ) → Result X Stop → (List ℕ → Option (Y × List ℕ)) → List ℕ
    → Type 0
GivesLine view (Ok x) read text = read text ≡ Some (view x)
GivesLine view (Err e) read text = LineFails e read text

-- The stop if no line is read from `text`: `Cut` if `text` has fewer than `few` bytes, and `Left` otherwise.
abbrev pub stop_in : List ℕ → Stop
stop_in text = cond (nat_lt (length text) few) (stops.Cut (length text)) (stops.Left (length text))
