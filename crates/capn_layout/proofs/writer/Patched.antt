-- The words and holes that the marks and bytes of a buffer represent, after each change. (For `patch.rt`.)
use Rattle.std.proofs.Common.{◌≡◌, ◌≢◌, ℕ, zero, suc, ◌+◌, ◌*◌, ◌/◌, ◌^◌, ◌<◌, ◌≤◌, List, [], ◌∷◌, ◌++◌, length, take}
use Rattle.std.proofs.Common.{drop, set, replicate, refl, ap, ap₂, sym, subst, ◌∙◌, ◌-◌, arith, append_assoc}
use Rattle.std.proofs.Common.{length-append, Bool, true, false, Option, Some, None}
use Rattle.std.proofs.lemmas.List.{length-replicate, take_all, set_at, replicate_more}
use Rattle.std.specs.Prelude.{Result, Ok, Err, OnErr}
use Rattle.capn_words.specs.Message.{word_number, AreBytes, word_bytes, bytes}
use Rattle.capn_layout.specs.Patch.{cells, flags, is_marked, patched, IsPatched, whole, filled, IsWhole}
use Rattle.capn_words.proofs.shared.Words.{AreBytes-append, length-word_bytes}
use Rattle.capn_layout.proofs.writer.Cells.{length-cells, cells-none, cells-append, cells-one, cells-fill, cells-open}
use Rattle.capn_layout.proofs.writer.Cells.{cells-whole, written-bytes, written-length}
use Rattle.capn_layout.specs.Layout.{packed}
use Rattle.capn_layout.specs.inner.PaddedBytes.{pad, padded}
use Rattle.capn_layout.proofs.writer.PackedBytes.{cells-words, packed-padded}
use Rattle.capn_layout.proofs.writer.Flags.{length-flags, flags-same, flags-append, flags-clean, flags-set}

pub length-patched : (ms bs : List ℕ) → length (patched ms bs) ≡ length bs / 8
length-patched ms bs = length-cells (flags 0 (length bs / 8) ms) bs ∙ length-flags 0 (length bs / 8) ms

pub patched-same : (ms ns bs : List ℕ) → ((k : ℕ) → is_marked ns k ≡ is_marked ms k) → patched ns bs ≡ patched ms bs
patched-same ms ns bs h = ap (λ (fs : List Bool). cells fs bs) (flags-same 0 (length bs / 8) ms ns h)

pub patched-none : (ms : List ℕ) → patched ms [] ≡ []
unfolding flags
patched-none ms = cells-none []

-- In this block `k` words with the bytes `tail` are appended, and none of these words is a hole.
module _ (ms ns bs tail : List ℕ) (k : ℕ) (is : IsPatched ms bs) (l : length tail ≡ 8 * k) (same : (i : ℕ)
    → is_marked ns i ≡ is_marked ms i) where
  pub appended-words : length (bs ++ tail) / 8 ≡ length bs / 8 + k
  appended-words = let e = is.even in let a = length-append bs tail in omega arith

  pub patched-append : patched ns (bs ++ tail) ≡ patched ms bs ++ cells (replicate k false) tail
  patched-append =
      let n = length bs / 8 in
      let e : length bs ≡ 8 * n = let z = is.even in omega arith in
      let f : length bs ≡ 8 * length (flags 0 n ms) = e ∙ ap (λ (j : ℕ). 8 * j) (sym (length-flags 0 n ms)) in
      let clean : flags (0 + n) k ms ≡ replicate k false =
      flags-clean (0 + n) k ms (λ i le. is.clean i (omega arith)) in
      ap (λ (j : ℕ). cells (flags 0 j ns) (bs ++ tail)) appended-words
      ∙ ap (λ (fs : List Bool). cells fs (bs ++ tail)) (flags-same 0 (n + k) ms ns same ∙ flags-append 0 n k ms
      ∙ ap (λ (fs : List Bool). flags 0 n ms ++ fs) clean)
      ∙ cells-append (flags 0 n ms) (replicate k false) bs tail f

  pub is-appended : length bs / 8 + k ≤ 64 * length ns → AreBytes tail → IsPatched ns (bs ++ tail)
  is-appended room are = record {
    even = let e = is.even in let a = length-append bs tail in omega arith;
    room = let w = appended-words in omega arith;
    clean = λ i le. same i ∙ is.clean i (let w = appended-words in omega arith);
    bytes = AreBytes-append bs tail is.bytes are;
  }

cells-zeros : (k : ℕ) → cells (replicate k false) (replicate (8 * k) 0) ≡ replicate k (Some 0)
unfolding cells word_number
cells-zeros zero = refl
cells-zeros (suc k) =
    let e : 8 * suc k ≡ suc (suc (suc (suc (suc (suc (suc (suc (8 * k)))))))) = omega arith in
    ap (λ (j : ℕ). cells (replicate (suc k) false) (replicate j 0)) e
    ∙ ap (λ (xs : List (Option ℕ)). Some 0 ∷ xs) (cells-zeros k)

AreBytes-zeros : (k : ℕ) → AreBytes (replicate k 0)
AreBytes-zeros zero i = omega arith
AreBytes-zeros (suc k) zero = omega arith
AreBytes-zeros (suc k) (suc i) = AreBytes-zeros k i

-- In this block `k` words of zeros are appended.
module _ (ms ns bs : List ℕ) (k : ℕ) (is : IsPatched ms bs) (same : (i : ℕ) → is_marked ns i ≡ is_marked ms i) where
  zeros-length : length (replicate {A = ℕ} (8 * k) 0) ≡ 8 * k
  zeros-length = length-replicate {A = ℕ} (8 * k) 0

  pub patched-zeros : patched ns (bs ++ replicate (8 * k) 0) ≡ patched ms bs ++ replicate k (Some 0)
  patched-zeros =
      patched-append ms ns bs (replicate (8 * k) 0) k is zeros-length same
      ∙ ap (λ (xs : List (Option ℕ)). patched ms bs ++ xs) (cells-zeros k)

-- In this block the word `w` is appended.
module _ (ms ns bs : List ℕ) (w : ℕ) (is : IsPatched ms bs) (same : (i : ℕ) → is_marked ns i ≡ is_marked ms i) where
  pub patched-push : w < 2 ^ 64 → patched ns (bs ++ word_bytes w) ≡ patched ms bs ++ Some w ∷ []
  patched-push lt =
      patched-append ms ns bs (word_bytes w) 1 is (length-word_bytes w) same
      ∙ ap (λ (xs : List (Option ℕ)). patched ms bs ++ xs) (cells-one false w lt)

pub is-marked : (ms ns bs : List ℕ) (at : ℕ) → IsPatched ms bs → at < length bs / 8 → length ns ≡ length ms
    → ((i : ℕ) → i ≢ at → is_marked ns i ≡ is_marked ms i) → IsPatched ns bs
is-marked ms ns bs at is lt len others = record {
  even = is.even;
  room = let r = is.room in omega arith;
  clean = λ i le. others i (omega arith) ∙ is.clean i le;
  bytes = is.bytes;
}

pub patched-open : (ms ns bs : List ℕ) (at : ℕ) → ((i : ℕ) → i ≢ at → is_marked ns i ≡ is_marked ms i)
    → is_marked ns at ≡ true
    → patched ns bs ≡ set (patched ms bs) at None
patched-open ms ns bs at others here =
    let z : 0 + at ≡ at = omega arith in
    ap (λ (fs : List Bool). cells fs bs)
    (flags-set 0 (length bs / 8) at true ms ns (ap (is_marked ns) z
    ∙ here) (λ k ne. others k (λ e. ne (e ∙ sym z))))
    ∙ cells-open at (flags 0 (length bs / 8) ms) bs

-- In this block the bytes of `w` are written over word `at`, and the mark of that word is cleared.
module _ (ms ns bs cs : List ℕ) (at w : ℕ) (is : IsPatched ms bs) (lt : at < length bs / 8) (fits : w < 2 ^ 64)
    (len : length ns ≡ length ms) (written : cs ≡ take (8 * at) bs ++ (word_bytes w ++ drop (8 * at + 8) bs))
    (here : is_marked ns at ≡ false) (others : (i : ℕ) → i ≢ at → is_marked ns i ≡ is_marked ms i) where
  same-length : length cs ≡ length bs
  same-length = ap length written ∙ written-length (8 * at) w bs (let e = is.even in omega arith)

  pub is-filled : IsPatched ns cs
  is-filled = record {
    even = let e = is.even in let s = same-length in omega arith;
    room = let r = is.room in let s = same-length in omega arith;
    clean = λ i le. others i (let s = same-length in omega arith) ∙ is.clean i (let s = same-length in omega arith);
    bytes = subst AreBytes (sym written) (written-bytes (8 * at) w bs is.bytes);
  }

  pub patched-fill : patched ns cs ≡ set (patched ms bs) at (Some w)
  patched-fill =
      let n = length bs / 8 in
      let z : 0 + at ≡ at = omega arith in
      let lf = length-flags 0 n ms in
      let e : length bs ≡ 8 * length (flags 0 n ms) = let v = is.even in omega arith in
      ap (λ (l : ℕ). cells (flags 0 (l / 8) ns) cs) same-length
      ∙ ap₂ cells (flags-set 0 n at false ms ns (ap (is_marked ns) z ∙ here) (λ k ne. others k (λ q. ne (q ∙ sym z))))
      written
      ∙ cells-fill at (flags 0 n ms) bs w e (omega arith) fits

pub patched-whole : (ms bs : List ℕ) → IsPatched ms bs → IsWhole (patched ms bs) → bs ≡ bytes (filled (patched ms bs))
patched-whole ms bs is h =
    let lf = length-flags 0 (length bs / 8) ms in
    cells-whole (flags 0 (length bs / 8) ms) bs is.bytes (let e = is.even in omega arith) h

pub OnErr-always : {T E P : Type 0} (r : Result T E) → P → OnErr r P
OnErr-always (Ok x) p = tt
OnErr-always (Err e) p = p

pub filled_up : (bs : List ℕ) (to k : ℕ) → to ≡ length bs + k
    → take to bs ++ replicate (to - length bs) 0 ≡ bs ++ replicate k 0
filled_up bs to k e =
    let d : to - length bs ≡ k = omega arith in
    ap₂ (λ (xs : List ℕ) (j : ℕ). xs ++ replicate j 0) (take_all to bs (omega arith)) d

pub next_hole : (p : List (Option ℕ)) (n i at : ℕ) → i < n → at ≡ length p + i
    → set (p ++ (replicate i None ++ replicate (n - i) (Some 0))) at None ≡ p
    ++ (replicate (i + 1) None ++ replicate (n - (i + 1)) (Some 0))
next_hole p n i at lt e =
    let d : n - i ≡ suc (n - (i + 1)) = omega arith in
    let r = length-replicate {A = Option ℕ} i None in
    let q = p ++ replicate i None in
    let l : length q ≡ at = length-append p (replicate i None) ∙ omega arith in
    ap (λ (j : ℕ). set (p ++ (replicate i None ++ replicate j (Some 0))) at None) d
    ∙ ap (λ (xs : List (Option ℕ)). set xs at None)
    (sym (append_assoc p (replicate i None) (Some 0 ∷ replicate (n - (i + 1)) (Some 0))))
    ∙ set_at q (Some 0) (replicate (n - (i + 1)) (Some 0)) None at l
    ∙ append_assoc p (replicate i None) (None ∷ replicate (n - (i + 1)) (Some 0))
    ∙ ap (λ (xs : List (Option ℕ)). p ++ xs)
    (sym (append_assoc (replicate i None) (None ∷ []) (replicate (n - (i + 1)) (Some 0)))
    ∙ ap (λ (xs : List (Option ℕ)). xs ++ replicate (n - (i + 1)) (Some 0)) (replicate_more i None))

-- In this block `content`, padded with zeros to `k` words, is appended.
module _ (ms ns bs content : List ℕ) (k : ℕ) (is : IsPatched ms bs) (same : (i : ℕ)
    → is_marked ns i ≡ is_marked ms i) (l : 8 * k ≡ length content + pad (length content)) where
  padded-length : length (padded content) ≡ 8 * k
  padded-length =
      length-append content (replicate (pad (length content)) 0)
      ∙ (let r = length-replicate {A = ℕ} (pad (length content)) 0 in omega arith)

  patched-padded : patched ns (bs ++ padded content) ≡ patched ms bs ++ whole (packed 8 8 k content)
  patched-padded =
      patched-append ms ns bs (padded content) k is padded-length same
      ∙ ap (λ (xs : List (Option ℕ)). patched ms bs ++ xs) (cells-words k (padded content))
      ∙ ap (λ (ws : List ℕ). patched ms bs ++ whole ws) (packed-padded 8 8 k (pad (length content)) content)

  is-padded : length bs / 8 + k ≤ 64 * length ns → AreBytes content → IsPatched ns (bs ++ padded content)
  is-padded room are =
      is-appended ms ns bs (padded content) k is padded-length same room
      (AreBytes-append content (replicate (pad (length content)) 0) are (AreBytes-zeros (pad (length content))))

-- In this block `items` is `bs` followed by the padded `content`.
module _ (ms ns bs content items : List ℕ) (k : ℕ) (is : IsPatched ms bs) (same : (i : ℕ)
    → is_marked ns i ≡ is_marked ms i) (l : 8 * k ≡ length content + pad (length content))
    (grown : items ≡ bs ++ padded content) where
  pub grown-length : length items ≡ length bs + 8 * k
  grown-length =
      ap length grown ∙ length-append bs (padded content)
      ∙ ap (λ (n : ℕ). length bs + n) (padded-length ms ns bs content k is same l)

  pub is-grown : length bs / 8 + k ≤ 64 * length ns → AreBytes content → IsPatched ns items
  is-grown room are = subst (IsPatched ns) (sym grown) (is-padded ms ns bs content k is same l room are)

  pub patched-grown : (p : List (Option ℕ)) (ws : List ℕ) → patched ms bs ≡ p → packed 8 8 k content ≡ ws
      → patched ns items ≡ p ++ whole ws
  patched-grown p ws e f =
      ap (patched ns) grown ∙ patched-padded ms ns bs content k is same l
      ∙ ap₂ (λ (q : List (Option ℕ)) (vs : List ℕ). q ++ whole vs) e f
