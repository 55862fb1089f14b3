-- Lemmas on `flags`, the marks of words, with one bit for each word. (For `mark` and `unmark`.)
use Rattle.std.proofs.Common.{◌≡◌, ◌≢◌, ℕ, zero, suc, ◌+◌, ◌*◌, ◌/◌, ◌%◌, ◌<◌, ◌≤◌, List, ◌∷◌, ◌++◌, length, set}
use Rattle.std.proofs.Common.{replicate, refl, ap, ap₂, sym, ◌∙◌, arith, Bool, false, ⊎_elim}
use Rattle.std.proofs.lemmas.List.{get_or-set_same, get_or-set_other}
use Rattle.std.proofs.lemmas.Bool.{cases_eq}
use Rattle.std.specs.Prelude.{slice_index, ◌==◌}
use Rattle.std.specs.Int.{bit_at}
use Rattle.capn_layout.specs.Patch.{is_marked, flags}

pub length-flags : (i n : ℕ) (ms : List ℕ) → length (flags i n ms) ≡ n
unfolding flags
length-flags i zero ms = refl
length-flags i (suc n) ms = ap suc (length-flags (suc i) n ms)

pub flags-same : (i n : ℕ) (ms ns : List ℕ) → ((k : ℕ) → is_marked ns k ≡ is_marked ms k) → flags i n ns ≡ flags i n ms
unfolding flags
flags-same i zero ms ns h = refl
flags-same i (suc n) ms ns h = ap₂ (λ (b : Bool) (bs : List Bool). b ∷ bs) (h i) (flags-same (suc i) n ms ns h)

pub flags-append : (i n k : ℕ) (ms : List ℕ) → flags i (n + k) ms ≡ flags i n ms ++ flags (i + n) k ms
unfolding flags
flags-append i zero k ms =
    let a : 0 + k ≡ k = omega arith in
    let b : i + 0 ≡ i = omega arith in
    ap₂ (λ (m j : ℕ). flags j m ms) a (sym b)
flags-append i (suc n) k ms =
    let a : suc n + k ≡ suc (n + k) = omega arith in
    let b : i + suc n ≡ suc i + n = omega arith in
    ap (λ (m : ℕ). flags i m ms) a
    ∙ ap (λ (bs : List Bool). is_marked ms i ∷ bs) (flags-append (suc i) n k ms)
    ∙ ap (λ (j : ℕ). is_marked ms i ∷ (flags (suc i) n ms ++ flags j k ms)) (sym b)

pub flags-clean : (i k : ℕ) (ms : List ℕ) → ((j : ℕ) → i ≤ j → is_marked ms j ≡ false)
    → flags i k ms ≡ replicate k false
unfolding flags
flags-clean i zero ms h = refl
flags-clean i (suc k) ms h =
    ap₂ (λ (b : Bool) (bs : List Bool). b ∷ bs) (h i (omega arith))
    (flags-clean (suc i) k ms (λ j le. h j (omega arith)))

flags-apart : (i n at : ℕ) (ms ns : List ℕ) → at < i → ((k : ℕ) → k ≢ at → is_marked ns k ≡ is_marked ms k)
    → flags i n ns ≡ flags i n ms
unfolding flags
flags-apart i zero at ms ns lt h = refl
flags-apart i (suc n) at ms ns lt h =
    ap₂ (λ (b : Bool) (bs : List Bool). b ∷ bs) (h i (omega arith)) (flags-apart (suc i) n at ms ns (omega arith) h)

pub flags-set : (i n j : ℕ) (b : Bool) (ms ns : List ℕ) → is_marked ns (i + j) ≡ b
    → ((k : ℕ) → k ≢ i + j → is_marked ns k ≡ is_marked ms k)
    → flags i n ns ≡ set (flags i n ms) j b
unfolding flags
flags-set i zero j b ms ns e h = refl
flags-set i (suc n) zero b ms ns e h =
    let z : i + 0 ≡ i = omega arith in
    ap₂ (λ (c : Bool) (bs : List Bool). c ∷ bs) (ap (λ (k : ℕ). is_marked ns k) (sym z)
    ∙ e) (flags-apart (suc i) n (i + 0) ms ns (omega arith) h)
flags-set i (suc n) (suc j) b ms ns e h =
    let z : suc i + j ≡ i + suc j = omega arith in
    ap₂ (λ (c : Bool) (bs : List Bool). c ∷ bs) (h i (omega arith))
    (flags-set (suc i) n j b ms ns (ap (λ (k : ℕ). is_marked ns k) z ∙ e) (λ k ne. h k (λ q. ne (q ∙ sym z))))

module _ (ms : List ℕ) (at new : ℕ) (lt : at < 64 * length ms) where
  pub marked-here : is_marked (set ms (at / 64) new) at ≡ (bit_at new (at % 64) == 1)
  marked-here = ap (λ (m : ℕ). bit_at m (at % 64) == 1) (get_or-set_same ms (at / 64) new 0 (omega arith))

  marked-apart : (i : ℕ) → i / 64 ≢ at / 64 → is_marked (set ms (at / 64) new) i ≡ is_marked ms i
  marked-apart i ne = ap (λ (m : ℕ). bit_at m (i % 64) == 1) (get_or-set_other ms (at / 64) (i / 64) new 0 ne)

  marked-beside : (i : ℕ) → i / 64 ≡ at / 64 → bit_at new (i % 64) ≡ bit_at (slice_index ms (at / 64)) (i % 64)
      → is_marked (set ms (at / 64) new) i ≡ is_marked ms i
  marked-beside i e same =
      ap (λ (m : ℕ). bit_at m (i % 64) == 1) (ap (slice_index (set ms (at / 64) new)) e
      ∙ get_or-set_same ms (at / 64) new 0 (omega arith))
      ∙ ap (λ (b : ℕ). b == 1) same
      ∙ ap (λ (q : ℕ). bit_at (slice_index ms q) (i % 64) == 1) (sym e)

  pub marked-others : ((r : ℕ) → r < 64 → r ≢ at % 64 → bit_at new r ≡ bit_at (slice_index ms (at / 64)) r)
      → (i : ℕ) → i ≢ at → is_marked (set ms (at / 64) new) i ≡ is_marked ms i
  marked-others same i ne =
      ⊎_elim (λ e. marked-beside i e (same (i % 64) (omega arith) (λ q. ne (omega (arith, e, q)))))
      (λ d. marked-apart i d) (cases_eq (i / 64) (at / 64))
