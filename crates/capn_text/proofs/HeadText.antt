-- Lemmas on first lines: each name, and the numbers after it. (For `FirstLine`, `LineBytes`, `LineStops` and others.)
use Rattle.std.proofs.Common.{◌≡◌, ℕ, ◌^◌, ◌<◌, ◌≤◌, arith, List, [], ◌∷◌, ◌++◌, Option, Some, None, codes, refl, sym}
use Rattle.std.proofs.Common.{ap, subst}
use Rattle.std.proofs.Common.{◌∙◌, append_assoc}
use Rattle.std.specs.Prelude.{nat_le, cond}
use Rattle.std.proofs.lemmas.Bool.{leb-true, le-leb}
use Rattle.std.specs.Fmt.{decimal}
use Rattle.capn_value.specs.Text.{line, named}
use Rattle.capn_text.specs.inner.Tokens.{◌>>=◌, strip, indent_at, decimal_at}
use Rattle.capn_text.specs.inner.Values.{greatest_number, Holds, or_else, name_at, sizes_at, named_at, struct_or}
use Rattle.capn_text.specs.inner.Values.{null_or}
use Rattle.capn_text.specs.inner.Values.{head_at}
use Rattle.capn_text.specs.declared.heads.Leaf.{Leaf}
use Rattle.capn_text.specs.declared.heads.Leaf.TheVariants as leaves
use Rattle.capn_text.specs.declared.heads.Name.{Name}
use Rattle.capn_text.specs.declared.heads.Name.TheVariants as names
use Rattle.capn_text.specs.declared.heads.Head.{Head}
use Rattle.capn_text.specs.declared.heads.Head.TheVariants as heads
use Rattle.capn_text.proofs.Steps.{bind_some, guard_some, some_is}
use Rattle.capn_text.proofs.TokenText.{strip_takes, decimal_takes, decimal_again}
use Rattle.capn_text.proofs.Numbers.{in_line, line_from}

abbrev pub leaf_text : Leaf → List ℕ
leaf_text leaves.Voids = codes "void"
leaf_text leaves.Bits = codes "bits"
leaf_text leaves.Bytes = codes "bytes"
leaf_text leaves.Pairs = codes "u16"
leaf_text leaves.Quads = codes "u32"
leaf_text leaves.Octs = codes "u64"

abbrev pub name_text : Name → List ℕ
name_text names.Links = codes "pointers"
name_text names.Rows = codes "rows"
name_text names.Cap = codes "capability"
name_text (names.Leaf leaf) = leaf_text leaf

-- The first line of a value, without its indent and its newline.
abbrev pub head_text : Head → List ℕ
head_text heads.Null = codes "null"
head_text (heads.Struct w s) = codes "struct " ++ (decimal w ++ 32 ∷ decimal s)
head_text (heads.Named name n) = named (name_text name) n

pub number_below : (name : Name) → greatest_number name < 2 ^ 64
number_below names.Links = omega arith
number_below names.Rows = omega arith
number_below names.Cap = omega arith
number_below (names.Leaf leaves.Voids) = omega arith
number_below (names.Leaf leaves.Bits) = omega arith
number_below (names.Leaf leaves.Bytes) = omega arith
number_below (names.Leaf leaves.Pairs) = omega arith
number_below (names.Leaf leaves.Quads) = omega arith
number_below (names.Leaf leaves.Octs) = omega arith

-- ---- names

name_again : (name : Name) (z : List ℕ) → name_at (name_text name ++ 32 ∷ z) ≡ Some (name, z)
unfolding name_at
name_again names.Links z = refl
name_again names.Rows z = refl
name_again (names.Leaf leaves.Voids) z = refl
name_again (names.Leaf leaves.Bits) z = refl
name_again (names.Leaf leaves.Bytes) z = refl
name_again (names.Leaf leaves.Pairs) z = refl
name_again (names.Leaf leaves.Quads) z = refl
name_again (names.Leaf leaves.Octs) z = refl
name_again names.Cap z = refl

no_other : (name : Name) (z : List ℕ) → null_or (strip (codes "null\n") (name_text name ++ 32 ∷ z))
    (name_text name ++ 32 ∷ z)
    ≡ named_at (name_text name ++ 32 ∷ z)
no_other names.Links z = refl
no_other names.Rows z = refl
no_other (names.Leaf leaves.Voids) z = refl
no_other (names.Leaf leaves.Bits) z = refl
no_other (names.Leaf leaves.Bytes) z = refl
no_other (names.Leaf leaves.Pairs) z = refl
no_other (names.Leaf leaves.Quads) z = refl
no_other (names.Leaf leaves.Octs) z = refl
no_other names.Cap z = refl

abbrev IsNamed : List ℕ → Name × List ℕ → Type 0
IsNamed t x = t ≡ (name_text x.0 ++ 32 ∷ []) ++ x.1

named_front : (t : List ℕ) (name : Name) (other : Option (Name × List ℕ)) (x : Name × List ℕ)
    → (r : Option (List ℕ)) → ((rest : List ℕ) → r ≡ Some rest → t ≡ (name_text name ++ 32 ∷ []) ++ rest)
    → (other ≡ Some x → IsNamed t x) → or_else r name other ≡ Some x → IsNamed t x
named_front t name other x (Some rest) front after e = subst (IsNamed t) (some_is (name, rest) x e) (front rest refl)
named_front t name other x None front after e = after e

name_takes : (t : List ℕ) (x : Name × List ℕ) → name_at t ≡ Some x → IsNamed t x
unfolding name_at
name_takes t x e =
    named_front t names.Links _ x (strip (codes "pointers ") t) (λ r. strip_takes (codes "pointers ") t r)
    (named_front t names.Rows _ x (strip (codes "rows ") t) (λ r. strip_takes (codes "rows ") t r)
    (named_front t (names.Leaf leaves.Voids) _ x (strip (codes "void ") t) (λ r. strip_takes (codes "void ") t r)
    (named_front t (names.Leaf leaves.Bits) _ x (strip (codes "bits ") t) (λ r. strip_takes (codes "bits ") t r)
    (named_front t (names.Leaf leaves.Bytes) _ x (strip (codes "bytes ") t) (λ r. strip_takes (codes "bytes ") t r)
    (named_front t (names.Leaf leaves.Pairs) _ x (strip (codes "u16 ") t) (λ r. strip_takes (codes "u16 ") t r)
    (named_front t (names.Leaf leaves.Quads) _ x (strip (codes "u32 ") t) (λ r. strip_takes (codes "u32 ") t r)
    (named_front t (names.Leaf leaves.Octs) _ x (strip (codes "u64 ") t) (λ r. strip_takes (codes "u64 ") t r)
    (named_front t names.Cap None x (strip (codes "capability ") t) (λ r. strip_takes (codes "capability ") t r)
    (λ (h : None ≡ Some x). absurd cc))))))))) e

-- ---- lines

named_again : (name : Name) (n : ℕ) (rest : List ℕ) → n ≤ greatest_number name
    → named_at (name_text name ++ 32 ∷ (decimal n ++ 10 ∷ rest)) ≡ Some (heads.Named name n, rest)
unfolding named_at
named_again name n rest fits =
    let most = number_below name in
    ap (λ (r : Option (Name × List ℕ)). r >>= λ m. decimal_at m.1 >>= λ k. strip (10 ∷ []) k.1
    >>= λ z. cond (nat_le k.0 (greatest_number m.0)) (Some (heads.Named m.0 k.0, z)) None)
    (name_again name (decimal n ++ 10 ∷ rest))
    ∙ ap (λ (r : Option (ℕ × List ℕ)). r >>= λ k. strip (10 ∷ []) k.1
    >>= λ z. cond (nat_le k.0 (greatest_number name)) (Some (heads.Named name k.0, z)) None)
    (decimal_again n 10 rest (omega arith) refl)
    ∙ ap (λ b. cond b (Some (heads.Named name n, rest)) None) (le-leb n (greatest_number name) fits)

sizes_again : (w s : ℕ) (rest : List ℕ) → w < 2 ^ 64 → s < 2 ^ 64
    → sizes_at (decimal w ++ 32 ∷ (decimal s ++ 10 ∷ rest)) ≡ Some (heads.Struct w s, rest)
unfolding sizes_at
sizes_again w s rest fw fs =
    ap (λ (r : Option (ℕ × List ℕ)). r >>= λ k. strip (32 ∷ []) k.1 >>= λ gap. decimal_at gap
    >>= λ j. strip (10 ∷ []) j.1 >>= λ z. Some (heads.Struct k.0 j.0, z))
    (decimal_again w 32 (decimal s ++ 10 ∷ rest) fw refl)
    ∙ ap (λ (r : Option (ℕ × List ℕ)). r >>= λ j. strip (10 ∷ []) j.1 >>= λ z. Some (heads.Struct w j.0, z))
    (decimal_again s 10 rest fs refl)

after_indent : (h : Head) (rest : List ℕ) → Holds h
    → null_or (strip (codes "null\n") (head_text h ++ 10 ∷ rest)) (head_text h ++ 10 ∷ rest) ≡ Some (h, rest)
after_indent heads.Null rest fits = refl
after_indent (heads.Struct w s) rest fits =
    ap (λ z. sizes_at z) (append_assoc (decimal w) (32 ∷ decimal s) (10 ∷ rest))
    ∙ sizes_again w s rest fits.0 fits.1
after_indent (heads.Named name n) rest fits =
    ap (λ z. null_or (strip (codes "null\n") z) z) (append_assoc (name_text name) (32 ∷ decimal n) (10 ∷ rest))
    ∙ no_other name (decimal n ++ 10 ∷ rest) ∙ named_again name n rest fits

pub head_again : (level : ℕ) (h : Head) (rest : List ℕ) → Holds h
    → head_at level (line level (head_text h) ++ rest) ≡ Some (h, rest)
unfolding head_at
head_again level h rest fits =
    in_line level (head_text h) rest (λ l. null_or (strip (codes "null\n") l) l) ∙ after_indent h rest fits

-- `t` is the first line `x.0` without its indent, and then the bytes `x.1`. The numbers of `x.0` are in range.
abbrev Lined : List ℕ → Head × List ℕ → Type 0
Lined t x = (t ≡ head_text x.0 ++ 10 ∷ x.1) × Holds x.0

named_takes : (t : List ℕ) (x : Head × List ℕ) → named_at t ≡ Some x → Lined t x
unfolding named_at
named_takes t x e =
    let a = bind_some (name_at t) (λ m. decimal_at m.1 >>= λ k. strip (10 ∷ []) k.1
    >>= λ z. cond (nat_le k.0 (greatest_number m.0)) (Some (heads.Named m.0 k.0, z)) None) x e in
    let n = bind_some (decimal_at a.0.1) (λ k. strip (10 ∷ []) k.1
    >>= λ z. cond (nat_le k.0 (greatest_number a.0.0)) (Some (heads.Named a.0.0 k.0, z)) None) x a.2 in
    let z = bind_some (strip (10 ∷ []) n.0.1)
    (λ z. cond (nat_le n.0.0 (greatest_number a.0.0)) (Some (heads.Named a.0.0 n.0.0, z)) None) x n.2 in
    let g = guard_some (nat_le n.0.0 (greatest_number a.0.0)) (heads.Named a.0.0 n.0.0, z.0) x z.2 in
    let name = name_takes t a.0 a.1 in
    let number = (decimal_takes a.0.1 n.0.0 n.0.1 n.1).0 in
    let ended = strip_takes (10 ∷ []) n.0.1 z.0 z.1 in
    let after : a.0.1 ≡ decimal n.0.0 ++ 10 ∷ z.0 = number ∙ ap (λ y. decimal n.0.0 ++ y) ended in
    subst (Lined t) g.1 (
      name ∙ append_assoc (name_text a.0.0) (32 ∷ []) a.0.1 ∙ ap (λ y. name_text a.0.0 ++ 32 ∷ y) after
          ∙ sym (append_assoc (name_text a.0.0) (32 ∷ decimal n.0.0) (10 ∷ z.0)),
      leb-true n.0.0 (greatest_number a.0.0) g.0,
    )

sizes_take : (line t : List ℕ) (x : Head × List ℕ) → line ≡ codes "struct " ++ t → sizes_at t ≡ Some x → Lined line x
unfolding sizes_at
sizes_take line t x front e =
    let w = bind_some (decimal_at t) (λ k. strip (32 ∷ []) k.1 >>= λ gap. decimal_at gap
    >>= λ j. strip (10 ∷ []) j.1 >>= λ z. Some (heads.Struct k.0 j.0, z)) x e in
    let g = bind_some (strip (32 ∷ []) w.0.1) (λ gap. decimal_at gap >>= λ j. strip (10 ∷ []) j.1
    >>= λ z. Some (heads.Struct w.0.0 j.0, z)) x w.2 in
    let s = bind_some (decimal_at g.0) (λ j. strip (10 ∷ []) j.1 >>= λ z. Some (heads.Struct w.0.0 j.0, z)) x g.2 in
    let z = bind_some (strip (10 ∷ []) s.0.1) (λ z. Some (heads.Struct w.0.0 s.0.0, z)) x s.2 in
    let first = decimal_takes t w.0.0 w.0.1 w.1 in
    let gap = strip_takes (32 ∷ []) w.0.1 g.0 g.1 in
    let second = decimal_takes g.0 s.0.0 s.0.1 s.1 in
    let ended = strip_takes (10 ∷ []) s.0.1 z.0 z.1 in
    let after : t ≡ (decimal w.0.0 ++ 32 ∷ decimal s.0.0) ++ 10 ∷ z.0 =
    first.0 ∙ ap (λ y. decimal w.0.0 ++ y) (gap ∙ ap (λ y. 32 ∷ y) (second.0 ∙ ap (λ y. decimal s.0.0 ++ y) ended))
    ∙ sym (append_assoc (decimal w.0.0) (32 ∷ decimal s.0.0) (10 ∷ z.0)) in
    subst (Lined line) (some_is (heads.Struct w.0.0 s.0.0, z.0) x z.2)
    (front ∙ ap (λ y. codes "struct " ++ y) after, (first.1, second.1))

struct_takes : (t : List ℕ) (x : Head × List ℕ) (r : Option (List ℕ)) → strip (codes "struct ") t ≡ r
    → struct_or r t ≡ Some x → Lined t x
struct_takes t x (Some rest) is e = sizes_take t rest x (strip_takes (codes "struct ") t rest is) e
struct_takes t x None is e = named_takes t x e

null_takes : (t : List ℕ) (x : Head × List ℕ) (r : Option (List ℕ)) → strip (codes "null\n") t ≡ r
    → null_or r t ≡ Some x → Lined t x
null_takes t x (Some rest) is e =
    subst (Lined t) (some_is (heads.Null, rest) x e) (strip_takes (codes "null\n") t rest is, tt)
null_takes t x None is e = struct_takes t x (strip (codes "struct ") t) refl e

pub head_takes : (level : ℕ) (t : List ℕ) (h : Head) (rest : List ℕ) → head_at level t ≡ Some (h, rest)
    → (t ≡ line level (head_text h) ++ rest) × Holds h
unfolding head_at
head_takes level t h rest e =
    let a = bind_some (indent_at level t) (λ l. null_or (strip (codes "null\n") l) l) (h, rest) e in
    let l = null_takes a.0 (h, rest) (strip (codes "null\n") a.0) refl a.2 in
    (line_from level t a.0 (head_text h) (10 ∷ rest) rest a.1 l.0 refl, l.1)
