-- Lemmas for `leaves.rt`: the stop if one line is not read.
use Rattle.std.proofs.Common.{◌≡◌, ◌^◌, ◌<◌, ℕ, zero, suc, true, List, [], ◌∷◌, ◌++◌, length, Option, Some, None, refl}
use Rattle.std.proofs.Common.{sym, ap, subst, arith}
use Rattle.std.specs.Prelude.{⊤}
use Rattle.std.specs.List.{AllByRecursion}
use Rattle.hex.specs.Hex.{encode_lower}
use Rattle.capn_value.specs.Text.{line, digits_of, one_line}
use Rattle.capn_text.specs.Streams.{ended_lines}
use Rattle.capn_text.specs.inner.Stops.{AreLines, Stops, FailsAt, LineFails}
use Rattle.capn_text.specs.inner.Tokens.{byte_at, bit_at, word_line_at, number_line_at, row_line_at}
use Rattle.capn_text.specs.inner.Values.{Holds, head_at}
use Rattle.capn_text.specs.declared.fault.Stop.{Stop}
use Rattle.capn_text.specs.declared.fault.Stop.TheVariants as stops
use Rattle.capn_text.proofs.TokenText.{one_byte, byte_again, byte_takes, encode_none, encode_more}
use Rattle.capn_text.proofs.Numbers.{word_text, word_line_again, word_line_takes, number_text, number_line_again}
use Rattle.capn_text.proofs.Numbers.{number_line_takes, one_digit, bit_again, bit_takes, row_again, row_takes}
use Rattle.capn_text.proofs.HeadText.{head_text, head_again, head_takes}
use Rattle.capn_text.proofs.LineBytes.{head_is_line, word_is_line, number_is_line, bits_are_lines, bits_are_line}
use Rattle.capn_text.proofs.LineBytes.{bytes_are_lines, bytes_are_line}
use Rattle.capn_text.proofs.StopLaws.{Local, Full, local_lines, full_line, line_stops}

-- Let `read` read one line. As `read` does not depend on the height, it stops at the same place at any height `room`.
module _ {X : Type 0} (read : List ℕ → Option (X × List ℕ)) (room : ℕ)
    (stop : (t : List ℕ) → read t ≡ None → Stops (λ r. read) room t (length t)) where
  pub line_fails : (e : Stop) (t : List ℕ) → LineFails e read t → FailsAt (λ r. read) room e t
  line_fails stops.Memory t h = tt
  line_fails (stops.Left n) t h = (subst (λ m. Stops (λ r. read) room t m) (sym h.1) (stop t h.0), λ r z low. h.2 z)
  line_fails (stops.Cut n) t h =
      let o = h.2 in (
        subst (λ m. Stops (λ r. read) room t m) (sym h.1) (stop t h.0),
        (o.0, o.1, o.2, o.3, o.4, o.5, λ r low. o.6),
      )
  line_fails stops.Deep t h = absurd h

-- ---- words and numbers

module _ (level : ℕ) where
  pub word_local : (room : ℕ) → Local (λ r. word_line_at level) room
  word_local room =
      local_lines (word_line_at level) (word_text level) (λ w. w < 2 ^ 64) (word_line_takes level)
      (word_line_again level) (λ w p. (word_is_line level w p).0) room

  pub word_full : Full (λ r. word_line_at level)
  word_full =
      full_line (word_line_at level) (word_text level) (λ w. w < 2 ^ 64) (word_line_takes level) (word_line_again level)
      0 (omega arith)

  pub word_fails : (room : ℕ) (e : Stop) (t : List ℕ) → LineFails e (word_line_at level) t
      → FailsAt (λ r. word_line_at level) room e t
  word_fails room =
      line_fails (word_line_at level) room
      (line_stops (word_line_at level) (word_text level) (λ w. w < 2 ^ 64) (word_line_takes level)
      (word_line_again level) (word_is_line level) 0 (omega arith) room)

  module _ (greatest : ℕ) (top : greatest < 2 ^ 64) where
    number_lines : (n : ℕ) → n < suc greatest → AreLines (number_text level n) × (ended_lines (number_text level n) ≡ 1)
    number_lines n p = number_is_line level n (omega arith)

    pub number_local : (room : ℕ) → Local (λ r. number_line_at greatest level) room
    number_local room =
        local_lines (number_line_at greatest level) (number_text level) (λ n. n < suc greatest)
        (number_line_takes greatest level) (number_line_again greatest level top) (λ n p. (number_lines n p).0) room

    pub number_full : Full (λ r. number_line_at greatest level)
    number_full =
        full_line (number_line_at greatest level) (number_text level) (λ n. n < suc greatest)
        (number_line_takes greatest level) (number_line_again greatest level top) 0 (omega arith)

    pub number_fails : (room : ℕ) (e : Stop) (t : List ℕ) → LineFails e (number_line_at greatest level) t
        → FailsAt (λ r. number_line_at greatest level) room e t
    number_fails room =
        line_fails (number_line_at greatest level) room
        (line_stops (number_line_at greatest level) (number_text level) (λ n. n < suc greatest)
        (number_line_takes greatest level) (number_line_again greatest level top) number_lines 0 (omega arith) room)

-- ---- one line of many digits

module _ {X : Type 0} (one : List ℕ → Option (X × List ℕ)) (show : X → List ℕ) (text : List X → List ℕ)
    (P : X → Type 0) (none : text [] ≡ []) (more : (x : X) (xs : List X) → text (x ∷ xs) ≡ show x ++ text xs)
    (takes : (t : List ℕ) (x : X) (rest : List ℕ) → one t ≡ Some (x, rest) → (t ≡ show x ++ rest) × P x)
    (again : (x : X) (rest : List ℕ) → P x → one (show x ++ rest) ≡ Some (x, rest)) (level : ℕ)
    (lines : (xs : List X) → AllByRecursion P xs → AreLines (one_line level (length xs) (text xs)))
    (is_line : (n : ℕ) (xs : List X) → length xs ≡ suc n → AllByRecursion P xs
    → AreLines (one_line level (length xs) (text xs)) × (ended_lines (one_line level (length xs) (text xs)) ≡ 1))
    (some : X) (p : P some) where
  abbrev Of : ℕ → List X → Type 0
  Of n xs = (length xs ≡ n) × AllByRecursion P xs

  abbrev spelled : List X → List ℕ
  spelled xs = one_line level (length xs) (text xs)

  row_line_takes : (n : ℕ) (t : List ℕ) (xs : List X) (rest : List ℕ) → row_line_at one level n t ≡ Some (xs, rest)
      → (t ≡ spelled xs ++ rest) × Of n xs
  row_line_takes n t xs rest e =
      let p = row_takes one show text P none more level takes n t xs rest e in
      (p.0, (p.1, p.2))

  row_line_again : (n : ℕ) (xs : List X) (rest : List ℕ) → Of n xs
      → row_line_at one level n (spelled xs ++ rest) ≡ Some (xs, rest)
  row_line_again n xs rest q =
      subst (λ m. row_line_at one level m (spelled xs ++ rest) ≡ Some (xs, rest)) q.0
      (row_again one show text P none more level again xs rest q.1)

  many_of : (n : ℕ) → (xs : List X) × Of n xs
  many_of zero = ([], (refl, tt))
  many_of (suc n) = let q = many_of n in (some ∷ q.0, (ap suc q.1.0, (p, q.1.1)))

  pub row_local : (n room : ℕ) → Local (λ r. row_line_at one level n) room
  row_local n room =
      local_lines (row_line_at one level n) spelled (Of n) (row_line_takes n) (row_line_again n)
      (λ xs q. lines xs q.1) room

  pub row_full : (n : ℕ) → Full (λ r. row_line_at one level n)
  row_full n =
      let q = many_of n in
      full_line (row_line_at one level n) spelled (Of n) (row_line_takes n) (row_line_again n) q.0 q.1

  row_stops : (n room : ℕ) (t : List ℕ) → row_line_at one level n t ≡ None
      → Stops (λ r. row_line_at one level n) room t (length t)
  unfolding row_line_at
  row_stops zero room t e = absurd cc
  row_stops (suc n) room t e =
      let q = many_of (suc n) in
      line_stops (row_line_at one level (suc n)) spelled (Of (suc n)) (row_line_takes (suc n)) (row_line_again (suc n))
      (λ xs h. is_line n xs h.0 h.1) q.0 q.1 room t e

  pub row_fails : (n room : ℕ) (e : Stop) (t : List ℕ) → LineFails e (row_line_at one level n) t
      → FailsAt (λ r. row_line_at one level n) room e t
  row_fails n room = line_fails (row_line_at one level n) room (row_stops n room)

module _ (level n : ℕ) where
  pub bits_local : (room : ℕ) → Local (λ r. row_line_at bit_at level n) room
  bits_local room =
      row_local bit_at one_digit digits_of (λ _. ⊤) refl (λ x ys. refl) bit_takes bit_again level
      (λ xs q. bits_are_lines level xs) (λ m xs e q. bits_are_line level m xs e) true tt n room

  pub bits_full : Full (λ r. row_line_at bit_at level n)
  bits_full =
      row_full bit_at one_digit digits_of (λ _. ⊤) refl (λ x ys. refl) bit_takes bit_again level
      (λ xs q. bits_are_lines level xs) (λ m xs e q. bits_are_line level m xs e) true tt n

  pub bits_fail : (room : ℕ) (e : Stop) (t : List ℕ) → LineFails e (row_line_at bit_at level n) t
      → FailsAt (λ r. row_line_at bit_at level n) room e t
  bits_fail room =
      row_fails bit_at one_digit digits_of (λ _. ⊤) refl (λ x ys. refl) bit_takes bit_again level
      (λ xs q. bits_are_lines level xs) (λ m xs e q. bits_are_line level m xs e) true tt n room

  pub bytes_local : (room : ℕ) → Local (λ r. row_line_at byte_at level n) room
  bytes_local room =
      row_local byte_at one_byte encode_lower (λ b. b < 2 ^ 8) encode_none encode_more byte_takes byte_again level
      (bytes_are_lines level) (bytes_are_line level) 0 (omega arith) n room

  pub bytes_full : Full (λ r. row_line_at byte_at level n)
  bytes_full =
      row_full byte_at one_byte encode_lower (λ b. b < 2 ^ 8) encode_none encode_more byte_takes byte_again level
      (bytes_are_lines level) (bytes_are_line level) 0 (omega arith) n

  pub bytes_fail : (room : ℕ) (e : Stop) (t : List ℕ) → LineFails e (row_line_at byte_at level n) t
      → FailsAt (λ r. row_line_at byte_at level n) room e t
  bytes_fail room =
      row_fails byte_at one_byte encode_lower (λ b. b < 2 ^ 8) encode_none encode_more byte_takes byte_again level
      (bytes_are_lines level) (bytes_are_line level) 0 (omega arith) n room

-- ---- first lines

module _ (level : ℕ) where
  pub head_local : (room : ℕ) → Local (λ r. head_at level) room
  head_local room =
      local_lines (head_at level) (λ h. line level (head_text h)) Holds (head_takes level) (head_again level)
      (λ h p. (head_is_line level h p).0) room
