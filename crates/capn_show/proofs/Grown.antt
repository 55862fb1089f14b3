-- Lemmas for `bits.rt`, `byte_digits.rt` and `escapes.rt`: a loop that appends a text for each element of a list.
use Rattle.std.proofs.Common.{◌≡◌, ℕ, ◌+◌, ◌<◌, List, [], ◌∷◌, ◌++◌, Bool, length, take, drop, get_or, refl, sym, ap}
use Rattle.std.proofs.Common.{◌∙◌, arith, append_assoc}
use Rattle.std.proofs.Math.Seq.{take-add}
use Rattle.std.proofs.lemmas.List.{append-nil, take_all, take_more, take-append-drop}
use Rattle.hex.specs.Hex.{encode_lower}
use Rattle.capn_value.specs.Text.{digit, digits_of}
use Rattle.capn_show.specs.JsonTexts.{json_escaped, json_escapes}
use Rattle.capn_show.specs.declared.fault.Broken.{Broken}
use Rattle.capn_show.specs.Outgoing.{Outgoing, Adds, BreaksOff}
use Rattle.capn_show.proofs.shared.Appended.{both, otherwise, otherwise-broken, then-broken, broken-before}
use Rattle.capn_show.proofs.TextDigits.{encode_lower-none, encode_lower-cons}
use Rattle.capn_show.proofs.TextBytes.{escapes-joined}

module _ {A : Type 0} (F : List A → List ℕ) (joins : (xs ys : List A) → F (xs ++ ys) ≡ F xs ++ F ys)
    (p q : Outgoing) (xs : List A) (i : ℕ) where
  more : (r : Outgoing) (d : A) → i < length xs → Adds p q (F (take i xs))
      → Adds q r (F (get_or xs i d ∷ [])) → Adds p r (F (take (i + 1) xs))
  more r d below h k =
      otherwise p r (F (take i xs) ++ F (get_or xs i d ∷ [])) (F (take (i + 1) xs))
      (sym (ap F (take_more xs i d below) ∙ joins (take i xs) (get_or xs i d ∷ [])))
      (both p q r (F (take i xs)) (F (get_or xs i d ∷ [])) h k)

  cut : (r : Outgoing) (e : Broken) (d : A) → i < length xs → Adds p q (F (take i xs))
      → BreaksOff q r e (F (get_or xs i d ∷ [])) → BreaksOff p r e (F xs)
  cut r e d below h k =
      let front = F (take i xs) in
      let here = F (get_or xs i d ∷ []) in
      let rest = F (drop (i + 1) xs) in
      otherwise-broken p r e ((front ++ here) ++ rest) (F xs)
      (ap (λ (l : List ℕ). l ++ rest) (sym (ap F (take_more xs i d below) ∙ joins (take i xs) (get_or xs i d ∷ [])))
      ∙ sym (joins (take (i + 1) xs) (drop (i + 1) xs))
      ∙ ap F (take-append-drop (i + 1) xs))
      (broken-before p r e (front ++ here) rest (then-broken p q r e front here h k))

  all : i ≡ length xs → Adds p q (F (take i xs)) → Adds p q (F xs)
  all e h = otherwise p q (F (take i xs)) (F xs) (ap F (take_all i xs (omega arith))) h

module _ {A : Type 0} (F : List A → List ℕ) (joins : (xs ys : List A) → F (xs ++ ys) ≡ F xs ++ F ys)
    (p q r : Outgoing) (xs : List A) (i k : ℕ) where
  block-more : Adds p q (F (take i xs)) → Adds q r (F (take k (drop i xs))) → Adds p r (F (take (i + k) xs))
  block-more h j =
      otherwise p r (F (take i xs) ++ F (take k (drop i xs))) (F (take (i + k) xs))
      (sym (ap F (take-add i k xs) ∙ joins (take i xs) (take k (drop i xs))))
      (both p q r (F (take i xs)) (F (take k (drop i xs))) h j)

  block-cut : (e : Broken) → Adds p q (F (take i xs)) → BreaksOff q r e (F (take k (drop i xs)))
      → BreaksOff p r e (F xs)
  block-cut e h j =
      let front = F (take i xs) in
      let here = F (take k (drop i xs)) in
      let rest = F (drop (i + k) xs) in
      otherwise-broken p r e ((front ++ here) ++ rest) (F xs)
      (ap (λ (l : List ℕ). l ++ rest) (sym (ap F (take-add i k xs) ∙ joins (take i xs) (take k (drop i xs))))
      ∙ sym (joins (take (i + k) xs) (drop (i + k) xs))
      ∙ ap F (take-append-drop (i + k) xs))
      (broken-before p r e (front ++ here) rest (then-broken p q r e front here h j))

digits_of-joined : (xs ys : List Bool) → digits_of (xs ++ ys) ≡ digits_of xs ++ digits_of ys
digits_of-joined [] ys = refl
digits_of-joined (x ∷ xs) ys = ap (λ (l : List ℕ). digit x ∷ l) (digits_of-joined xs ys)

encode_lower-joined : (xs ys : List ℕ) → encode_lower (xs ++ ys) ≡ encode_lower xs ++ encode_lower ys
encode_lower-joined [] ys = sym (ap (λ (l : List ℕ). l ++ encode_lower ys) encode_lower-none)
encode_lower-joined (x ∷ xs) ys =
    encode_lower-cons x (xs ++ ys)
    ∙ ap (λ (l : List ℕ). encode_lower (x ∷ []) ++ l) (encode_lower-joined xs ys)
    ∙ sym (append_assoc (encode_lower (x ∷ [])) (encode_lower xs) (encode_lower ys))
    ∙ ap (λ (l : List ℕ). l ++ encode_lower ys) (sym (encode_lower-cons x xs))

module _ (p q : Outgoing) where
  module _ (xs : List ℕ) (i : ℕ) where
    pub escapes-more : (r : Outgoing) (x : ℕ) → i < length xs → x ≡ get_or xs i 0 → Adds p q (json_escapes (take i xs))
        → Adds q r (json_escaped x) → Adds p r (json_escapes (take (i + 1) xs))
    escapes-more r x below e h k =
        more json_escapes escapes-joined p q xs i r 0 below h
        (otherwise q r (json_escaped x) (json_escapes (get_or xs i 0 ∷ []))
        (ap json_escaped e ∙ sym (append-nil (json_escaped (get_or xs i 0)))) k)

    pub escapes-cut : (r : Outgoing) (e : Broken) (x : ℕ) → i < length xs → x ≡ get_or xs i 0
        → Adds p q (json_escapes (take i xs)) → BreaksOff q r e (json_escaped x) → BreaksOff p r e (json_escapes xs)
    escapes-cut r e x below is h k =
        cut json_escapes escapes-joined p q xs i r e 0 below h
        (otherwise-broken q r e (json_escaped x) (json_escapes (get_or xs i 0 ∷ []))
        (ap json_escaped is ∙ sym (append-nil (json_escaped (get_or xs i 0)))) k)

    pub escapes-all : i ≡ length xs → Adds p q (json_escapes (take i xs)) → Adds p q (json_escapes xs)
    escapes-all = all json_escapes escapes-joined p q xs i

    -- Let `rest` be `xs` without its first `i` bytes. Let the first `k` bytes of `rest` need no escape.
    module _ (r : Outgoing) (k : ℕ) (rest : List ℕ) (left : rest ≡ drop i xs)
        (bare : json_escapes (take k rest) ≡ take k rest) where
      run-is : take k rest ≡ json_escapes (take k (drop i xs))
      run-is = sym bare ∙ ap (λ (l : List ℕ). json_escapes (take k l)) left

      pub bare-more : Adds p q (json_escapes (take i xs)) → Adds q r (take k rest)
          → Adds p r (json_escapes (take (i + k) xs))
      bare-more h j = block-more json_escapes escapes-joined p q r xs i k h (otherwise q r _ _ run-is j)

      pub bare-cut : (e : Broken) → Adds p q (json_escapes (take i xs)) → BreaksOff q r e (take k rest)
          → BreaksOff p r e (json_escapes xs)
      bare-cut e h j =
          block-cut json_escapes escapes-joined p q r xs i k e h (otherwise-broken q r e _ _ run-is j)

module _ (p q : Outgoing) where
  module _ (xs : List ℕ) where
    pub bytes-more : (r : Outgoing) (i k : ℕ) (digits : List ℕ) → digits ≡ encode_lower (take k (drop i xs))
        → Adds p q (encode_lower (take i xs)) → Adds q r digits → Adds p r (encode_lower (take (i + k) xs))
    bytes-more r i k digits e h j =
        block-more encode_lower encode_lower-joined p q r xs i k h
        (otherwise q r digits (encode_lower (take k (drop i xs))) e j)

    pub bytes-cut : (r : Outgoing) (e : Broken) (i k : ℕ) (digits : List ℕ)
        → digits ≡ encode_lower (take k (drop i xs)) → Adds p q (encode_lower (take i xs)) → BreaksOff q r e digits
        → BreaksOff p r e (encode_lower xs)
    bytes-cut r e i k digits is h j =
        block-cut encode_lower encode_lower-joined p q r xs i k e h
        (otherwise-broken q r e digits (encode_lower (take k (drop i xs))) is j)

    pub bytes-all : (n : ℕ) → n ≡ length xs → Adds p q (encode_lower (take n xs)) → Adds p q (encode_lower xs)
    bytes-all n e h = otherwise p q _ _ (ap encode_lower (take_all n xs (omega arith))) h

  module _ (xs : List Bool) where
    pub bits-more : (r : Outgoing) (i k : ℕ) (digits : List ℕ) → digits ≡ digits_of (take k (drop i xs))
        → Adds p q (digits_of (take i xs)) → Adds q r digits → Adds p r (digits_of (take (i + k) xs))
    bits-more r i k digits e h j =
        block-more digits_of digits_of-joined p q r xs i k h (otherwise q r digits (digits_of (take k (drop i xs))) e j)

    pub bits-cut : (r : Outgoing) (e : Broken) (i k : ℕ) (digits : List ℕ)
        → digits ≡ digits_of (take k (drop i xs)) → Adds p q (digits_of (take i xs)) → BreaksOff q r e digits
        → BreaksOff p r e (digits_of xs)
    bits-cut r e i k digits is h j =
        block-cut digits_of digits_of-joined p q r xs i k e h
        (otherwise-broken q r e digits (digits_of (take k (drop i xs))) is j)

    pub bits-all : (n : ℕ) → n ≡ length xs → Adds p q (digits_of (take n xs)) → Adds p q (digits_of xs)
    bits-all n e h = otherwise p q _ _ (ap digits_of (take_all n xs (omega arith))) h
