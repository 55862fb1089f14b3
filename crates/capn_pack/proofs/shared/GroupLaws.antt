-- Lemmas for `reading`, `unpack`, capn_canon, capn_commands and other crates: bytes begin with at most one group, and a
-- packed text is read in only one way.
use Rattle.std.proofs.Common.{◌≡◌, ℕ, zero, suc, ◌*◌, ◌/◌, ◌^◌, ◌<◌, ◌≤◌, inl, inr, false, eqb, List, [], ◌∷◌, ◌++◌}
use Rattle.std.proofs.Common.{length, refl, sym, ap, ◌∙◌, subst, arith, append_assoc, length-append, pow-suc}
use Rattle.std.proofs.lemmas.Bool.{ne_eqb}
use Rattle.std.proofs.lemmas.List.{append-nil}
use Rattle.std.specs.Prelude.{count_ones}
use Rattle.std.specs.List.{AllByRecursion}
use Rattle.capn_pack.specs.Packed.{Group, group_text, group_words, IsGroup, texts, contents, word_count, Packs}
use Rattle.capn_pack.specs.Packed.{named_bytes}
use Rattle.capn_pack.specs.Packed.{IsNamedBy}
use Rattle.capn_pack.specs.UnpackRefusal.{words_at, len_at, HasHead, IsCut, IsTooLong, Stands}
use Rattle.capn_pack.specs.Packed.Group.{Zeros, Named, Raw}
use Rattle.capn_pack.specs.UnpackRefusal.{IsUnpackRefused}
use Rattle.capn_pack.specs.declared.fault.UnpackFault.{UnpackFault}
use Rattle.capn_pack.specs.declared.fault.UnpackFault.TheVariants as fault
use Rattle.capn_pack.proofs.shared.FirstParts.{append_same}
use Rattle.capn_pack.proofs.shared.GroupLemmas.{length_contents, count_append, text_some}
use Rattle.capn_pack.proofs.shared.SpreadLemmas.{ones_half, no_ones, parity, named_one, named_none}

-- in a `word` of `n` bytes, the number of bytes that a `tag` of `n` bits names is the number of set bits of `tag`
length_named : (n tag : ℕ) (word : List ℕ) → length word ≡ n → tag < 2 ^ n
    → length (named_bytes tag word) ≡ count_ones tag
length_named n tag [] long less = let none : tag ≡ 0 = omega (arith, ap (λ k. 2 ^ k) long) in
    omega (arith, ap count_ones none, no_ones)
length_named zero tag (x ∷ xs) long less = absurd (omega arith)
length_named (suc n) tag (x ∷ xs) long less =
    let half : tag / 2 < 2 ^ n = omega (arith, pow-suc 2 n) in
    let rest = length_named n (tag / 2) xs (omega arith) half in
    elim (parity tag) [
      | inl even ↦ omega (arith, ap length (named_none tag x xs even), ones_half tag, rest)
      | inr odd ↦ omega (arith, ap length (named_one tag x xs odd), ones_half tag, rest)
    ]

middle : (tag : ℕ) → 0 < tag → tag < 255 → (eqb tag 0 ≡ false) × (eqb tag 255 ≡ false)
middle tag above below = (ne_eqb tag 0 (λ e. absurd (omega arith)), ne_eqb tag 255 (λ e. absurd (omega arith)))

-- the bytes `b` begin with a complete head, which gives the length of the text of `g` and the number of words of `g`
pub record HeadOf (g : Group) (b : List ℕ) : Type 0 where
  pub head : HasHead b
  pub long : len_at b ≡ length (group_text g)
  pub count : words_at b ≡ group_words g

-- bytes that begin with the text of the group `g` satisfy `HeadOf g`
pub head_of : (g : Group) (more : List ℕ) → IsGroup g → HeadOf g (group_text g ++ more)
head_of (Zeros n) more is = record { head = omega arith; long = refl; count = refl }
head_of (Named tag word) more is =
    let tests = middle tag is.0 is.1 in
    let size = length_named 8 tag word is.2 (omega (arith, is.1)) in
    record {
      head = rw (tests.0, tests.1) (omega (arith, length-append (named_bytes tag word) more, size));
      long = rw (tests.0, tests.1) (omega (arith, size));
      count = rw (tests.0, tests.1) refl;
    }
head_of (Raw (a ∷ b ∷ c ∷ d ∷ e ∷ f ∷ g ∷ h ∷ []) n further) more is = record {
  head = omega arith;
  long = omega (arith, is.2);
  count = refl;
}
head_of (Raw _ n further) more is = absurd (omega (arith, is.0))

-- if `IsCut` holds of `rest`, `rest` begins with no complete group
pub no_group : (room : ℕ) (rest : List ℕ) → IsCut room rest → (g : Group) (more : List ℕ) → IsGroup g
    → rest ≡ group_text g ++ more → ⊥
no_group room rest cut g more is e =
    let h = head_of g more is in
    let head = subst HasHead (sym e) h.head in
    grind (arith, cut, head, ap length e, ap len_at e, h.long, length-append (group_text g) more)

-- ---- two readings of one text

named_same : (tag : ℕ) (v w x y : List ℕ) → length v ≡ length w → IsNamedBy tag v → IsNamedBy tag w
    → named_bytes tag v ++ x ≡ named_bytes tag w ++ y → (v ≡ w) × (x ≡ y)
named_same tag [] [] x y long p q e = (refl, e)
named_same tag [] (b ∷ w) x y long p q e = absurd (omega arith)
named_same tag (a ∷ v) [] x y long p q e = absurd (omega arith)
named_same tag (a ∷ v) (b ∷ w) x y long p q e =
    elim (parity tag) [
      | inl even ↦
          let r = named_same (tag / 2) v w x y (omega arith) p.1 q.1
          (rw (named_none tag a v even, named_none tag b w even) at e) in
          ((λ i. (p.0 even ∙ sym (q.0 even)) i ∷ r.0 i), r.1)
      | inr odd ↦
          let k : a ∷ (named_bytes (tag / 2) v ++ x) ≡ b ∷ (named_bytes (tag / 2) w ++ y) =
          rw (named_one tag a v odd, named_one tag b w odd) at e in
          let heads : a ≡ b = cc in
          let tails : named_bytes (tag / 2) v ++ x ≡ named_bytes (tag / 2) w ++ y = cc in
          let r = named_same (tag / 2) v w x y (omega arith) p.1 q.1 tails in
          ((λ i. heads i ∷ r.0 i), r.1)
    ]

head_is : (a b : ℕ) (x y : List ℕ) → a ∷ x ≡ b ∷ y → (a ≡ b) × (x ≡ y)
head_is a b x y e = (cc, cc)

-- two groups at the front of the same bytes are equal, and so are the bytes after them
pub group_same : (g h : Group) (x y : List ℕ) → IsGroup g → IsGroup h → group_text g ++ x ≡ group_text h ++ y
    → (g ≡ h) × (x ≡ y)
group_same (Zeros m) (Zeros n) x y p q e = let a = head_is _ _ _ _ e in let b = head_is _ _ _ _ a.1 in
    (ap Zeros b.0, b.1)
group_same (Zeros m) (Named t w) x y p q e = let a = head_is _ _ _ _ e in absurd (omega (arith, a.0, q.0))
group_same (Zeros m) (Raw w n f) x y p q e = let a = head_is _ _ _ _ e in absurd (omega (arith, a.0))
group_same (Named s v) (Zeros n) x y p q e = let a = head_is _ _ _ _ e in absurd (omega (arith, a.0, p.0))
group_same (Named s v) (Named t w) x y p q e =
    let a = head_is _ _ _ _ e in
    let k : named_bytes s v ++ x ≡ named_bytes s w ++ y = a.1 ∙ ap (λ u. named_bytes u w ++ y) (sym a.0) in
    let r = named_same s v w x y (p.2 ∙ sym q.2) p.3 (subst (λ u. IsNamedBy u w) (sym a.0) q.3) k in
    ((λ i. Named (a.0 i) (r.0 i)), r.1)
group_same (Named s v) (Raw w n f) x y p q e = let a = head_is _ _ _ _ e in absurd (omega (arith, a.0, p.1))
group_same (Raw v m f) (Zeros n) x y p q e = let a = head_is _ _ _ _ e in absurd (omega (arith, a.0))
group_same (Raw v m f) (Named t w) x y p q e = let a = head_is _ _ _ _ e in absurd (omega (arith, a.0, q.1))
group_same (Raw v m f) (Raw w n g) x y p q e =
    let a = head_is _ _ _ _ e in
    let k : v ++ (m ∷ (f ++ x)) ≡ w ++ (n ∷ (g ++ y)) = sym (append_assoc v (m ∷ f) x) ∙ a.1
    ∙ append_assoc w (n ∷ g) y in
    let r = append_same v w _ _ (p.0 ∙ sym q.0) k in
    let c = head_is _ _ _ _ r.1 in
    let z = append_same f g x y (p.2 ∙ ap (λ i. 8 * i) c.0 ∙ sym q.2) c.1 in
    ((λ i. Raw (r.0 i) (c.0 i) (z.0 i)), z.1)

-- `gs` are the groups `hs` and then groups with the text `rest`
pub record GoesOn (gs hs : List Group) (rest : List ℕ) : Type 0 where
  pub more : List Group
  pub whole : gs ≡ hs ++ more
  pub each : AllByRecursion IsGroup more
  pub text : rest ≡ texts more

-- if the text of `gs` begins with the text of `hs`, then `gs` begin with `hs`
pub goes_on : (gs hs : List Group) (rest : List ℕ) → AllByRecursion IsGroup gs → AllByRecursion IsGroup hs
    → texts gs ≡ texts hs ++ rest → GoesOn gs hs rest
goes_on gs [] rest p q e = record { more = gs; whole = refl; each = p; text = sym e }
goes_on [] (h ∷ hs) rest p q e =
    absurd (omega (
      arith,
      text_some h,
      ap length e,
      length-append (group_text h) (texts hs),
      length-append (group_text h ++ texts hs) rest,
    ))
goes_on (g ∷ gs) (h ∷ hs) rest p q e =
    let r = group_same g h (texts gs) (texts hs ++ rest) p.0 q.0 (e ∙ append_assoc (group_text h) (texts hs) rest) in
    let s = goes_on gs hs rest p.1 q.1 r.1 in
    record { more = s.more; whole = (λ i. r.0 i ∷ s.whole i); each = s.each; text = s.text }

no_texts : (gs : List Group) → [] ≡ texts gs → gs ≡ []
no_texts [] e = refl
no_texts (g ∷ gs) e = absurd (omega (arith, text_some g, ap length e, length-append (group_text g) (texts gs)))

-- the text `b` packs at most one list of bytes
pub one_reading : (b cs bs : List ℕ) → Packs b cs → Packs b bs → cs ≡ bs
one_reading b cs bs p q =
    let r = goes_on p.groups q.groups [] p.each q.each
    (sym p.is_text ∙ q.is_text ∙ sym (append-nil (texts q.groups))) in
    p.are_bytes ∙ ap contents (r.whole ∙ ap (λ l. q.groups ++ l) (no_texts r.more r.text) ∙ append-nil q.groups)
    ∙ sym q.are_bytes

-- `IsCut` does not hold of the text of complete groups
not_cut : (room : ℕ) (rest : List ℕ) (more : List Group) → AllByRecursion IsGroup more → rest ≡ texts more
    → IsCut room rest → ⊥
not_cut room rest [] p e cut = omega (arith, cut.0, ap length e)
not_cut room rest (g ∷ more) p e cut = no_group room rest cut g (texts more) p.0 e

not_long : (room : ℕ) (rest : List ℕ) (more : List Group) → AllByRecursion IsGroup more → rest ≡ texts more
    → word_count more ≤ room → IsTooLong room rest → ⊥
not_long room rest [] p e fits long = omega (arith, long.0, ap length e)
not_long room rest (g ∷ more) p e fits long =
    let h = head_of g (texts more) p.0 in
    omega (arith, long.2, ap words_at e, h.count)

-- if the fault `Q` never holds of complete groups of at most `room` words, `Q` is no fault of a text `b` that packs at
-- most `max` words
pub not_refused : (Q : ℕ → List ℕ → Type 0)
    → ((room : ℕ) (rest : List ℕ) (more : List Group) → AllByRecursion IsGroup more → rest ≡ texts more
    → word_count more ≤ room → Q room rest → ⊥)
    → (b bs : List ℕ) (max at : ℕ) → Packs b bs → length bs ≤ 8 * max → Stands Q b max at → ⊥
not_refused Q never b bs max at p fits s =
    let r = goes_on p.groups s.groups s.rest p.each s.each (sym p.is_text ∙ s.text) in
    never s.left s.rest r.more r.each r.text
    (omega (
      arith,
      ap length p.are_bytes,
      length_contents p.groups p.each,
      ap word_count r.whole,
      count_append s.groups r.more,
      s.counted,
    )) s.fault

-- a text `b` that packs at most `max` words is refused only for `Memory`
pub refused_only : (e : UnpackFault) (b bs : List ℕ) (max : ℕ) → IsUnpackRefused b max e → Packs b bs
    → length bs ≤ 8 * max
    → e ≡ fault.Memory
refused_only fault.Memory b bs max r p fits = refl
refused_only (fault.Cut at) b bs max r p fits =
    absurd (not_refused IsCut (λ room rest more each e _ cut. not_cut room rest more each e cut) b bs max at p fits r)
refused_only (fault.TooLong at) b bs max r p fits = absurd (not_refused IsTooLong not_long b bs max at p fits r)
refused_only fault.Failed b bs max r p fits = absurd r
