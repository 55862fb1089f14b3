-- Lemmas for `pack` and capn_commands: the packer has at most one text for given words.
use Rattle.std.proofs.Common.{◌≡◌, ◌↔◌, ◌%◌, ℕ, zero, suc, ◌+◌, ◌-◌, ◌*◌, ◌<◌, ◌≤◌, inl, inr, List, [], ◌∷◌, ◌++◌}
use Rattle.std.proofs.Common.{length, take, drop, replicate, refl, sym, ap, ◌∙◌, subst, arith, append_assoc}
use Rattle.std.proofs.Common.{length-append, take_all, take-append-drop, drop-drop, length-drop, length-take}
use Rattle.std.proofs.lemmas.Bool.{cases_lt}
use Rattle.std.proofs.lemmas.List.{append_cancel_left, replicate-append-replicate, length-replicate, take-append-le}
use Rattle.capn_pack.specs.Packed.{Group, group_bytes, IsGroup, texts, contents, Packs, tag_of}
use Rattle.capn_pack.specs.Chosen.{IsChoice, IsChosenRow, Chosen, IsDense, AllDense}
use Rattle.capn_pack.specs.Packed.Group.{Zeros, Named, Raw}
use Rattle.std.specs.List.{AllByRecursion}
use Rattle.capn_pack.proofs.shared.FirstParts.{append_same}
use Rattle.capn_pack.proofs.shared.GroupLemmas.{length_contents}
use Rattle.capn_pack.proofs.shared.GroupLaws.{one_reading}

-- if `bs` are `n` dense words, word `m` of `bs` is dense and complete
dense_at : (n m : ℕ) (bs : List ℕ) → AllDense n bs → length bs ≡ 8 * n → m < n → IsDense (take 8 (drop (8 * m) bs))
    × (8 ≤ length (drop (8 * m) bs))
dense_at zero m bs h long less = absurd (omega arith)
dense_at (suc n) zero bs h long less = (h.0, omega arith)
dense_at (suc n) (suc m) bs h long less =
    let at : 8 + 8 * m ≡ 8 * suc m = omega arith in
    let rest = dense_at n m (drop 8 bs) h.1 (length-drop 8 bs ∙ omega arith) (omega arith) in
    let there : drop (8 * m) (drop 8 bs) ≡ drop (8 * suc m) bs = drop-drop (8 * m) 8 bs ∙ ap (λ k. drop k bs) at in
    subst (λ l. IsDense (take 8 l) × (8 ≤ length l)) there rest

-- if the packer chooses a run of `1 + m` zero words, a run of `1 + n` zero words at the front of the same bytes is not
-- longer
not_shorter : (m n : ℕ) (a b : List ℕ) → n < 256 → (m < 255 → take 8 a ≡ replicate 8 0 → ⊥)
    → replicate (8 * (1 + m)) 0 ++ a ≡ replicate (8 * (1 + n)) 0 ++ b → m < n → ⊥
not_shorter m n a b top last e less =
    let k = n - m - 1 in
    let size : 8 * (1 + m) + (8 + 8 * k) ≡ 8 * (1 + n) = omega arith in
    let split : replicate (8 * (1 + n)) 0 ++ b ≡ replicate (8 * (1 + m)) 0 ++ (replicate (8 + 8 * k) 0 ++ b) =
    ap (λ l. l ++ b) (ap (λ j. replicate j 0) (sym size) ∙ sym (replicate-append-replicate (8 * (1 + m)) (8 + 8 * k) 0))
    ∙ append_assoc (replicate (8 * (1 + m)) 0) (replicate (8 + 8 * k) 0) b in
    let tail : a ≡ replicate (8 + 8 * k) 0 ++ b =
    append_cancel_left (replicate (8 * (1 + m)) 0) a (replicate (8 + 8 * k) 0 ++ b) (e ∙ split) in
    let two : replicate (8 + 8 * k) 0 ++ b ≡ replicate 8 0 ++ (replicate (8 * k) 0 ++ b) =
    ap (λ l. l ++ b) (sym (replicate-append-replicate 8 (8 * k) 0))
    ∙ append_assoc (replicate 8 0) (replicate (8 * k) 0) b in
    last (omega arith) (ap (take 8) (tail ∙ two))

-- if the packer chooses a run of `m` dense words, a run of `n` dense words at the front of the same bytes is not longer
raw_not_shorter : (m n : ℕ) (f g a b : List ℕ) → n < 256 → length f ≡ 8 * m → length g ≡ 8 * n → AllDense n g
    → (m < 255 → IsDense (take 8 a) → ⊥) → f ++ a ≡ g ++ b → m < n → ⊥
raw_not_shorter m n f g a b top lf lg dense last e less =
    let there = dense_at n m g dense lg less in
    let cut : g ++ b ≡ take (8 * m) g ++ (drop (8 * m) g ++ b) = ap (λ l. l ++ b) (sym (take-append-drop (8 * m) g))
    ∙ append_assoc (take (8 * m) g) (drop (8 * m) g) b in
    let same : length f ≡ length (take (8 * m) g) = omega (arith, lf, lg, length-take (8 * m) g) in
    let tail : a ≡ drop (8 * m) g ++ b = (append_same f (take (8 * m) g) a (drop (8 * m) g ++ b) same (e ∙ cut)).1 in
    last (omega arith)
    (subst IsDense (sym (take-append-le 8 (drop (8 * m) g) b there.1) ∙ ap (take 8) (sym tail)) there.0)

same_number : (m n : ℕ) → (m < n → ⊥) → (n < m → ⊥) → m ≡ n
same_number m n p q =
    elim (cases_lt m n) [
      | inl h ↦ absurd (p h)
      | inr h ↦ elim (cases_lt n m) [ inl k ↦ absurd (q k) | inr k ↦ omega arith ]
    ]

-- the first word of a group of zero words is zero
zero_first : (more : ℕ) (a : List ℕ) → take 8 (group_bytes (Zeros more) ++ a) ≡ replicate 8 0
zero_first more a =
    let size : 8 + 8 * more ≡ 8 * (1 + more) = omega arith in
    ap (take 8) (ap (λ l. l ++ a) (ap (λ j. replicate j 0) (sym size) ∙ sym (replicate-append-replicate 8 (8 * more) 0))
    ∙ append_assoc (replicate 8 0) (replicate (8 * more) 0) a)

word_first : (word rest : List ℕ) → length word ≡ 8 → take 8 (word ++ rest) ≡ word
word_first word rest long = take-append-le 8 word rest (omega arith) ∙ take_all 8 word (omega arith)

-- for the words at the front of some bytes, the packer chooses at most one group
pub choice_same : (g h : Group) (a b : List ℕ) → IsGroup g → IsGroup h → IsChoice g a → IsChoice h b
    → group_bytes g ++ a ≡ group_bytes h ++ b → g ≡ h
choice_same (Zeros m) (Zeros n) a b p q c d e =
    ap Zeros (same_number m n (not_shorter m n a b q c e) (not_shorter n m b a p d (sym e)))
choice_same (Zeros m) (Named t w) a b p q c d e =
    let word : w ≡ replicate 8 0 = sym (word_first w b q.2) ∙ ap (take 8) (sym e) ∙ zero_first m a in
    absurd (omega (arith, d, ap tag_of word, q.0))
choice_same (Zeros m) (Raw w n g) a b p q c d e =
    let word : w ≡ replicate 8 0 = sym (word_first w (g ++ b) q.0) ∙ ap (take 8) (sym (append_assoc w g b) ∙ sym e)
    ∙ zero_first m a in
    absurd (omega (arith, d.0, ap tag_of word))
choice_same (Named s v) (Zeros n) a b p q c d e =
    let word : v ≡ replicate 8 0 = sym (word_first v a p.2) ∙ ap (take 8) e ∙ zero_first n b in
    absurd (omega (arith, c, ap tag_of word, p.0))
choice_same (Named s v) (Named t w) a b p q c d e =
    let r = append_same v w a b (p.2 ∙ sym q.2) e in
    (λ i. Named ((c ∙ ap tag_of r.0 ∙ sym d) i) (r.0 i))
choice_same (Named s v) (Raw w n g) a b p q c d e =
    let r = append_same v w a (g ++ b) (p.2 ∙ sym q.0) (e ∙ append_assoc w g b) in
    absurd (omega (arith, c, d.0, ap tag_of r.0, p.1))
choice_same (Raw v m f) (Zeros n) a b p q c d e =
    let word : v ≡ replicate 8 0 = sym (word_first v (f ++ a) p.0) ∙ ap (take 8) (sym (append_assoc v f a) ∙ e)
    ∙ zero_first n b in
    absurd (omega (arith, c.0, ap tag_of word))
choice_same (Raw v m f) (Named t w) a b p q c d e =
    let r = append_same v w (f ++ a) b (p.0 ∙ sym q.2) (sym (append_assoc v f a) ∙ e) in
    absurd (omega (arith, d, c.0, ap tag_of r.0, q.1))
choice_same (Raw v m f) (Raw w n g) a b p q c d e =
    let r = append_same v w (f ++ a) (g ++ b) (p.0 ∙ sym q.0) (sym (append_assoc v f a) ∙ e ∙ append_assoc w g b) in
    let count = same_number m n (raw_not_shorter m n f g a b q.1 p.2 q.2 d.1 c.2 r.1)
    (raw_not_shorter n m g f b a p.1 q.2 p.2 c.1 d.2 (sym r.1)) in
    let s = append_same f g a b (p.2 ∙ ap (λ k. 8 * k) count ∙ sym q.2) r.1 in
    (λ i. Raw (r.0 i) (count i) (s.0 i))

content_some : (g : Group) → IsGroup g → 0 < length (group_bytes g)
content_some (Zeros m) p = omega (arith, length-replicate {A = ℕ} (8 * (1 + m)) 0)
content_some (Named t w) p = omega (arith, p.2)
content_some (Raw w n f) p = omega (arith, p.0, length-append w f)

row_same : (gs hs : List Group) → IsChosenRow gs → IsChosenRow hs → contents gs ≡ contents hs → gs ≡ hs
row_same [] [] p q e = refl
row_same [] (h ∷ hs) p q e =
    absurd (omega (arith, content_some h q.0, ap length e, length-append (group_bytes h) (contents hs)))
row_same (g ∷ gs) [] p q e =
    absurd (omega (arith, content_some g p.0, ap length e, length-append (group_bytes g) (contents gs)))
row_same (g ∷ gs) (h ∷ hs) p q e =
    let first : g ≡ h = choice_same g h (contents gs) (contents hs) p.0 q.0 p.1 q.1 e in
    let rest : contents gs ≡ contents hs =
    append_cancel_left (group_bytes g) (contents gs) (contents hs) (e
    ∙ ap (λ k. group_bytes k ++ contents hs) (sym first)) in
    (λ i. first i ∷ row_same gs hs p.2 q.2 rest i)

-- the packer has at most one text for the bytes `bs`
pub one_text : (a b bs : List ℕ) → Chosen a bs → Chosen b bs → a ≡ b
one_text a b bs p q = p.text ∙ ap texts (row_same p.groups q.groups p.chosen q.chosen (sym p.content ∙ q.content))
    ∙ sym q.text

each_chosen : (gs : List Group) → IsChosenRow gs → AllByRecursion IsGroup gs
each_chosen [] h = tt
each_chosen (g ∷ gs) h = (h.0, each_chosen gs h.2)

-- the packer's text `b` for `bs` is a packed text of `bs`
pub packs_from_chosen : (b bs : List ℕ) → Chosen b bs → Packs b bs
packs_from_chosen b bs c =
    record { groups = c.groups; each = each_chosen c.groups c.chosen; is_text = c.text; are_bytes = c.content }

-- two of the packer's texts, `a` and `b`, are equal exactly if they pack the same bytes
pub texts_same : (a b vs ws : List ℕ) → Chosen a vs → Chosen b ws → (a ≡ b) ↔ (vs ≡ ws)
texts_same a b vs ws p q = (
  (λ e. one_reading b vs ws (packs_from_chosen b vs (subst (λ t. Chosen t vs) e p)) (packs_from_chosen b ws q)),
  (λ e. one_text a b ws (subst (Chosen a) e p) q),
)

-- if the packer has a text for `bs`, the length of `bs` is a multiple of 8
pub chosen_whole : (b bs : List ℕ) → Chosen b bs → length bs % 8 ≡ 0
chosen_whole b bs c = omega (arith, ap length c.content, length_contents c.groups (each_chosen c.groups c.chosen))
