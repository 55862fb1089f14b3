-- Lemmas for `quoted_texts`: what is read of a text is what was written of it.
use Rattle.std.proofs.Common.{◌≡◌, ℕ, ◌<◌, ◌==◌, ◌||◌, ◌&&◌, Bool, true, false, not, cond, List, []}
use Rattle.std.proofs.Common.{◌∷◌, ◌++◌, length, Option, Some, None, refl, sym, ap, ap₂, ◌∙◌, append_assoc, arith}
use Rattle.std.proofs.Common.{nat_le, inl, inr, ◌⊎◌, subst}
use Rattle.std.proofs.lemmas.Bool.{lt-ltb, ne_eqb, leb-true, lt-leb, and_parts, and_from, or_from, cases_eq}
use Rattle.std.specs.Str.{all_scalars, encode_utf8_all}
use lib.Utf8.{scalar, encode, low_scalar}
use Rattle.capn_quoted.specs.Texts.{is_printable, is_control, has_control}
use Rattle.capn_quoted.specs.Hidden.{is_hidden, numbered}
use Rattle.capn_quoted.specs.Escapes.{escaped, written, all_written, escapes}
use Rattle.capn_quoted.specs.declared.stage.Stage.TheVariants as stages
use Rattle.capn_quoted.specs.Reading.{preceded, after_some, read_from}
use Rattle.capn_quoted.proofs.Shapes.{Shape, of1, of2, of3, of4, shape_of}
use Rattle.capn_quoted.proofs.CodePoints.{low_written, one_control, is_control_point}
use Rattle.capn_quoted.proofs.TextsRead.{end}

-- `text` is what is written of code points and a last zero, and the closing quote; `bytes` is their UTF-8.
pub record IsWide (text bytes : List ℕ) : Type 0 where
  pub points : List ℕ
  pub scalars : all_scalars points ≡ true
  pub clear : has_control (encode_utf8_all points) ≡ false
  pub text_is : text ≡ all_written points ++ end
  pub bytes_are : bytes ≡ encode_utf8_all points ++ 0 ∷ []

abbrev pub all_printable : List ℕ → Bool
all_printable [] = true
all_printable (b ∷ bs) = is_printable b && all_printable bs

-- `text` is what is written of the printable bytes `bytes`, and the closing quote.
pub record IsPlain (text bytes : List ℕ) : Type 0 where
  pub printable : all_printable bytes ≡ true
  pub text_is : text ≡ escapes bytes ++ 34 ∷ []

-- `text` is what is written of `bytes`, and the closing quote. If `w` is true, a last zero has to come.
abbrev pub IsTaken : Bool → List ℕ → List ℕ → Type 0
IsTaken w text bytes = IsWide text bytes ⊎ ((w ≡ false) × IsPlain text bytes)

-- ---- one code point more

pub wide_more : (c : ℕ) (text bytes : List ℕ) → scalar c ≡ true → is_control_point c ≡ false → IsWide text bytes
    → IsWide (written c ++ text) (encode c ++ bytes)
wide_more c text bytes s e h = record {
  points = c ∷ h.points;
  scalars = and_from (scalar c) (all_scalars h.points) s h.scalars;
  clear = one_control c (encode_utf8_all h.points) (shape_of c s)
      ∙ or_from (is_control_point c) (has_control (encode_utf8_all h.points)) e h.clear;
  text_is = ap (λ (l : List ℕ). written c ++ l) h.text_is ∙ sym (append_assoc (written c) (all_written h.points) end);
  bytes_are = ap (λ (l : List ℕ). encode c ++ l) h.bytes_are
      ∙ sym (append_assoc (encode c) (encode_utf8_all h.points) (0 ∷ []));
}

one_byte : (c : ℕ) → c < 128 → Shape c → encode c ≡ c ∷ []
one_byte c h (of1 k e) = e
one_byte c h (of2 a b big l k f g e) = absurd (omega arith)
one_byte c h (of3 a b d big l k f f2 g e) = absurd (omega arith)
one_byte c h (of4 a b d x big l k f f2 f3 g e) = absurd (omega arith)

low_is_written : (c : ℕ) → c < 128 → written c ≡ escaped c
low_is_written c h =
    ap (λ (t : Bool). cond t (escaped c) (cond (is_hidden c) (numbered c) (encode c))) (lt-ltb c 128 h)

-- The byte `c`, written as `front`, is one code point.
pub low_more : (w : Bool) (c : ℕ) (front text bytes : List ℕ) → c < 128 → is_control c ≡ false → escaped c ≡ front
    → IsWide text bytes → IsTaken w (front ++ text) (c ∷ bytes)
low_more w c front text bytes h e f wide =
    let s = low_scalar c (omega arith) in
    let clear : is_control_point c ≡ false =
    ap₂ (λ (x y : Bool). x || (y && nat_le c 159)) e (lt-leb 128 c h) in
    inl (subst (λ (l : List ℕ). IsWide (l ++ text) (c ∷ bytes)) (low_is_written c h ∙ f)
    (subst (λ (l : List ℕ). IsWide (written c ++ text) (l ++ bytes)) (one_byte c h (shape_of c s))
    (wide_more c text bytes s clear wide)))

pub printable_more : (w : Bool) (c : ℕ) (front text bytes : List ℕ) → is_printable c ≡ true → escaped c ≡ front
    → IsTaken w text bytes → IsTaken w (front ++ text) (c ∷ bytes)
printable_more w c front text bytes p f (inl wide) =
    let parts = and_parts (nat_le 32 c) (nat_le c 126) p in
    let least = leb-true 32 c parts.0 in
    let most = leb-true c 126 parts.1 in
    low_more w c front text bytes (omega arith)
    (ap₂ (λ (x y : Bool). (x && not (c == 9 || (c == 10 || c == 13))) || y) (lt-leb c 31 least)
    (ne_eqb c 127 (λ k. omega arith))) f wide
printable_more w c front text bytes p f (inr (e, plain)) =
    let parts = and_parts (nat_le 32 c) (nat_le c 126) p in
    let most = leb-true c 126 parts.1 in
    inr (
      e,
      record {
        printable = and_from (is_printable c) (all_printable bytes) p plain.printable;
        text_is = ap₂ (λ (x y : List ℕ). x ++ y) (sym f) plain.text_is
            ∙ sym (append_assoc (escaped c) (escapes bytes) (34 ∷ []))
            ∙ ap (λ (l : List ℕ). l ++ 34 ∷ []) (sym (low_written c bytes (omega arith)));
      },
    )

-- ---- what is read after a byte

abbrev pub some : List ℕ → Option (List ℕ)
some xs = Some xs

some_same : (xs ys : List ℕ) → some xs ≡ some ys → xs ≡ ys
some_same xs ys e = cc

pub split_read : (x : List ℕ) (r : Option (List ℕ)) (ys : List ℕ) → preceded x r ≡ Some ys
    → (zs : List ℕ) × (r ≡ Some zs) × (ys ≡ x ++ zs)
split_read x (Some zs) ys e = (zs, refl, sym (some_same (x ++ zs) ys e))
split_read x None ys e = absurd cc

-- The bytes are read between two code points from fewer than `n` bytes on.
abbrev pub Below : ℕ → Type 0
Below n = (v : Bool) (t ys : List ℕ) → length t < n → read_from (stages.Next v) t ≡ Some ys → IsTaken v t ys

pub wide_only : (t ys : List ℕ) → IsTaken true t ys → IsWide t ys
wide_only t ys (inl h) = h
wide_only t ys (inr (e, h)) = absurd cc

-- ---- the end

closed_taken : (cs ys : List ℕ) → read_from stages.Closed cs ≡ Some ys → (cs ≡ []) × (ys ≡ [])
closed_taken [] ys e = (refl, sym (some_same [] ys e))
closed_taken (c ∷ cs) ys e = absurd cc

pub quote_taken : (w : Bool) (cs ys : List ℕ) → read_from (stages.Next w) (34 ∷ cs) ≡ Some ys → IsTaken w (34 ∷ cs) ys
quote_taken true cs ys e = absurd cc
quote_taken false cs ys e =
    let r = split_read [] (read_from stages.Closed cs) ys e in
    let h = closed_taken cs r.0 r.1 in
    inr (
      refl,
      subst (λ (l : List ℕ). IsPlain (34 ∷ l) ys) (sym h.0)
          (subst (λ (l : List ℕ). IsPlain (34 ∷ []) l) (sym (r.2 ∙ h.1)) (record { printable = refl; text_is = refl })),
    )

pub zero_taken : (w : Bool) (cs ys : List ℕ) → read_from stages.Zero cs ≡ Some ys → IsTaken w (92 ∷ 48 ∷ cs) (0 ∷ ys)
zero_taken w [] ys e = absurd cc
zero_taken w (c ∷ cs) ys e = elim (cases_eq c 34) [
  | inl k ↦
      let f : read_from stages.Zero (34 ∷ cs) ≡ Some ys =
      subst (λ (n : ℕ). read_from stages.Zero (n ∷ cs) ≡ Some ys) k e in
      let r = split_read [] (read_from stages.Closed cs) ys f in
      let h = closed_taken cs r.0 r.1 in
      inl (record {
        points = [];
        scalars = refl;
        clear = refl;
        text_is = ap₂ (λ (n : ℕ) (l : List ℕ). 92 ∷ 48 ∷ n ∷ l) k h.0;
        bytes_are = ap (λ (l : List ℕ). 0 ∷ l) (r.2 ∙ h.1);
      })
  | inr k ↦
      let f : after_some (cond false (Some stages.Closed) None) None (λ u. preceded [] (read_from u cs)) ≡ Some ys =
      ap (λ (b : Bool). after_some (cond b (Some stages.Closed) None) None (λ u. preceded [] (read_from u cs)))
      (sym (ne_eqb c 34 k)) ∙ e in
      absurd cc
]
