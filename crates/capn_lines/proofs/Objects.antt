-- An object covers each of its words once.
use Rattle.std.proofs.Common.{◌≡◌, ℕ, zero, suc, ◌+◌, ◌-◌, ◌*◌, ◌==◌, ◌<◌, ◌≤◌}
use Rattle.std.proofs.Common.{Bool, true, false, List, [], ◌∷◌, ◌++◌, length}
use Rattle.std.proofs.Common.{refl, ◌∙◌, ap, ap₂, arith, if◌then◌else◌, length-append}
use Rattle.std.proofs.Common.{◌≢◌}
use Rattle.std.proofs.lemmas.Bool.Decides.{nat_tests}
use Rattle.capn_words.specs.declared.pointer.Width.TheVariants.{W0, W1, W8, W16, W32, W64, Link, Rows}
use Rattle.capn_target.specs.declared.target.Shape.{Shape}
use Rattle.capn_target.specs.declared.target.Shape.TheVariants as shapes
use Rattle.capn_target.specs.Target.{content_words}
use Rattle.capn_cover.specs.declared.covered.Role.{Role}
use Rattle.capn_cover.specs.declared.covered.Role.TheVariants as roles
use Rattle.capn_cover.specs.Covers.{Covering, run, rows_run, content_run}
use Rattle.capn_cover.specs.Covers.{times}

-- ---- an object covers each of its words once

-- the coverings are of the words from the number `f` on, one after another
abbrev pub Follow : (f : ℕ) → List Covering → Type 0
Follow f [] = Unit {0}
Follow f (c ∷ cs) = (c.word ≡ f) × Follow (f + 1) cs

pub follow-append : (f : ℕ) (xs ys : List Covering) → Follow f xs → Follow (f + length xs) ys → Follow f (xs ++ ys)
follow-append f [] ys h k = let e : f + 0 ≡ f = omega arith in rw e at k
follow-append f (c ∷ xs) ys h k =
    let e : f + suc (length xs) ≡ f + 1 + length xs = omega arith in
    (h.0, follow-append (f + 1) xs ys h.1 (rw e at k))

pub run-length : (slot : ℕ) (role : Role) (first n : ℕ) → length (run slot role first n) ≡ n
run-length slot role first zero = refl
run-length slot role first (suc n) = ap suc (run-length slot role (first + 1) n)

pub run-follow : (slot : ℕ) (role : Role) (first n : ℕ) → Follow first (run slot role first n)
run-follow slot role first zero = tt
run-follow slot role first (suc n) = (refl, run-follow slot role (first + 1) n)

pub two-follow : (slot : ℕ) (role next : Role) (first a b : ℕ)
    → Follow first (run slot role first a ++ run slot next (first + a) b)
two-follow slot role next first a b =
    let e = run-length slot role first a in
    follow-append first (run slot role first a) (run slot next (first + a) b) (run-follow slot role first a)
    (rw e (run-follow slot next (first + a) b))

pub two-length : (slot : ℕ) (role next : Role) (first a b : ℕ)
    → length (run slot role first a ++ run slot next (first + a) b) ≡ a + b
two-length slot role next first a b =
    length-append (run slot role first a) (run slot next (first + a) b)
    ∙ ap₂ (λ (x y : ℕ). x + y) (run-length slot role first a) (run-length slot next (first + a) b)

pub rows-follow : (slot first a b n : ℕ) → Follow first (rows_run slot first a b n)
rows-follow slot first a b zero = tt
rows-follow slot first a b (suc n) =
    let e = two-length slot roles.Data roles.Slot first a b in
    follow-append first (run slot roles.Data first a ++ run slot roles.Slot (first + a) b)
    (rows_run slot (first + (a + b)) a b n) (two-follow slot roles.Data roles.Slot first a b)
    (rw e (rows-follow slot (first + (a + b)) a b n))

pub rows-length : (slot first a b n : ℕ) → length (rows_run slot first a b n) ≡ n * (a + b)
rows-length slot first a b zero = omega arith
rows-length slot first a b (suc n) =
    let e = two-length slot roles.Data roles.Slot first a b in
    let h = rows-length slot (first + (a + b)) a b n in
    let k : a + b + n * (a + b) ≡ suc n * (a + b) = omega arith in
    length-append (run slot roles.Data first a ++ run slot roles.Slot (first + a) b)
    (rows_run slot (first + (a + b)) a b n) ∙ ap₂ (λ (x y : ℕ). x + y) e h ∙ k

-- the number of words of an object
abbrev pub size_of : Shape → ℕ
size_of (shapes.Node a b) = a + b
size_of (shapes.Many Link n) = n
size_of (shapes.Many w n) = content_words w n
size_of (shapes.Rows n a b span) = 1 + (n * (a + b) + (span - n * (a + b)))

pub record IsRunOf (f n : ℕ) (cs : List Covering) : Type 0 where
  pub follow : Follow f cs
  pub many : length cs ≡ n

pub of-run : (slot : ℕ) (role : Role) (first n : ℕ) → IsRunOf first n (run slot role first n)
of-run slot role first n = record { follow = run-follow slot role first n; many = run-length slot role first n }

pub of-content : (slot first : ℕ) (shape : Shape) → IsRunOf first (size_of shape) (content_run slot first shape)
of-content slot first (shapes.Node a b) = record {
  follow = two-follow slot roles.Data roles.Slot first a b;
  many = two-length slot roles.Data roles.Slot first a b;
}
of-content slot first (shapes.Many Link n) = of-run slot roles.Slot first n
of-content slot first (shapes.Many W0 n) = of-run slot roles.Numbers first (content_words W0 n)
of-content slot first (shapes.Many W1 n) = of-run slot roles.Numbers first (content_words W1 n)
of-content slot first (shapes.Many W8 n) = of-run slot roles.Numbers first (content_words W8 n)
of-content slot first (shapes.Many W16 n) = of-run slot roles.Numbers first (content_words W16 n)
of-content slot first (shapes.Many W32 n) = of-run slot roles.Numbers first (content_words W32 n)
of-content slot first (shapes.Many W64 n) = of-run slot roles.Numbers first (content_words W64 n)
of-content slot first (shapes.Many Rows n) = of-run slot roles.Numbers first (content_words Rows n)
of-content slot first (shapes.Rows n a b span) =
    let rows = rows_run slot (first + 1) a b n in
    let slack = run slot roles.Slack (first + 1 + n * (a + b)) (span - n * (a + b)) in
    let x = run-length slot roles.Tag first 1 in
    let y = rows-length slot (first + 1) a b n in
    let z = run-length slot roles.Slack (first + 1 + n * (a + b)) (span - n * (a + b)) in
    record {
      follow = follow-append first (run slot roles.Tag first 1) (rows ++ slack) (run-follow slot roles.Tag first 1)
          (rw x (follow-append (first + 1) rows slack (rows-follow slot (first + 1) a b n)
          (rw y (run-follow slot roles.Slack (first + 1 + n * (a + b)) (span - n * (a + b))))));
      many = length-append (run slot roles.Tag first 1) (rows ++ slack)
          ∙ ap₂ (λ (p q : ℕ). p + q) x (length-append rows slack ∙ ap₂ (λ (p q : ℕ). p + q) y z);
    }

pub times-one : (v w t : ℕ) (b : Bool) → (v == w) ≡ b → (v ≡ w → t ≡ 0) → (v ≢ w → t ≡ 1)
    → (if v == w then 1 else 0) + t ≡ 1
times-one v w t true e h k =
    let x : v ≡ w = grind (arith, nat_tests) in
    rw e (let y = h x in omega arith)
times-one v w t false e h k =
    let x : v ≢ w = grind (arith, nat_tests) in
    rw e (let y = k x in omega arith)

pub times-none : (v w t : ℕ) → v ≢ w → t ≡ 0 → (if v == w then 1 else 0) + t ≡ 0
times-none v w t h e = grind (arith, nat_tests)

pub times-before : (f : ℕ) (cs : List Covering) (w : ℕ) → Follow f cs → w < f → times cs w ≡ 0
times-before f [] w h l = refl
times-before f (c ∷ cs) w h l =
    let e = h.0 in
    times-none c.word w (times cs w) (omega arith) (times-before (f + 1) cs w h.1 (omega arith))

pub times-inside : (f : ℕ) (cs : List Covering) (w : ℕ) → Follow f cs → f ≤ w → w < f + length cs → times cs w ≡ 1
times-inside f [] w h l k = absurd (omega arith)
times-inside f (c ∷ cs) w h l k =
    let e = h.0 in
    times-one c.word w (times cs w) (c.word == w) refl
    (λ x. times-before (f + 1) cs w h.1 (omega arith))
    (λ x. times-inside (f + 1) cs w h.1 (omega arith) (omega arith))

-- ---- what each covering is of

abbrev pub Each : (Covering → Type 0) → List Covering → Type 0
Each P [] = Unit {0}
Each P (c ∷ cs) = P c × Each P cs

pub each-append : (P : Covering → Type 0) (xs ys : List Covering) → Each P xs → Each P ys → Each P (xs ++ ys)
each-append P [] ys h k = k
each-append P (c ∷ xs) ys h k = (h.0, each-append P xs ys h.1 k)

-- the role is that of a word of an object
abbrev pub is_object : Role → Bool
is_object roles.Tag = true
is_object roles.Data = true
is_object roles.Slot = true
is_object roles.Numbers = true
is_object roles.Slack = true
is_object _ = false

-- a covering of the slot in the role of a word of an object
pub record IsOf (slot : ℕ) (c : Covering) : Type 0 where
  pub same : c.slot ≡ slot
  pub object : is_object c.role ≡ true

pub of-slot : (slot : ℕ) (role : Role) (first n : ℕ) → is_object role ≡ true
    → Each (IsOf slot) (run slot role first n)
of-slot slot role first zero e = tt
of-slot slot role first (suc n) e = (record { same = refl; object = e }, of-slot slot role (first + 1) n e)

pub two-of : (slot first a b : ℕ)
    → Each (IsOf slot) (run slot roles.Data first a ++ run slot roles.Slot (first + a) b)
two-of slot first a b =
    each-append (IsOf slot) (run slot roles.Data first a) (run slot roles.Slot (first + a) b)
    (of-slot slot roles.Data first a refl) (of-slot slot roles.Slot (first + a) b refl)

pub rows-of : (slot first a b n : ℕ) → Each (IsOf slot) (rows_run slot first a b n)
rows-of slot first a b zero = tt
rows-of slot first a b (suc n) =
    each-append (IsOf slot) (run slot roles.Data first a ++ run slot roles.Slot (first + a) b)
    (rows_run slot (first + (a + b)) a b n) (two-of slot first a b) (rows-of slot (first + (a + b)) a b n)

pub content-of : (slot first : ℕ) (shape : Shape) → Each (IsOf slot) (content_run slot first shape)
content-of slot first (shapes.Node a b) = two-of slot first a b
content-of slot first (shapes.Many Link n) = of-slot slot roles.Slot first n refl
content-of slot first (shapes.Many W0 n) = of-slot slot roles.Numbers first (content_words W0 n) refl
content-of slot first (shapes.Many W1 n) = of-slot slot roles.Numbers first (content_words W1 n) refl
content-of slot first (shapes.Many W8 n) = of-slot slot roles.Numbers first (content_words W8 n) refl
content-of slot first (shapes.Many W16 n) = of-slot slot roles.Numbers first (content_words W16 n) refl
content-of slot first (shapes.Many W32 n) = of-slot slot roles.Numbers first (content_words W32 n) refl
content-of slot first (shapes.Many W64 n) = of-slot slot roles.Numbers first (content_words W64 n) refl
content-of slot first (shapes.Many Rows n) = of-slot slot roles.Numbers first (content_words Rows n) refl
content-of slot first (shapes.Rows n a b span) =
    let slack = run slot roles.Slack (first + 1 + n * (a + b)) (span - n * (a + b)) in
    each-append (IsOf slot) (run slot roles.Tag first 1) (rows_run slot (first + 1) a b n ++ slack)
    (of-slot slot roles.Tag first 1 refl)
    (each-append (IsOf slot) (rows_run slot (first + 1) a b n) slack (rows-of slot (first + 1) a b n)
    (of-slot slot roles.Slack (first + 1 + n * (a + b)) (span - n * (a + b)) refl))

-- each covering is within the words that follow one another
pub each-within : (low high f : ℕ) (cs : List Covering) → Follow f cs → low ≤ f → f + length cs ≤ high
    → Each (λ c. (low ≤ c.word) × (c.word < high)) cs
each-within low high f [] h l k = tt
each-within low high f (c ∷ cs) h l k =
    let e = h.0 in
    ((omega arith, omega arith), each-within low high (f + 1) cs h.1 (omega arith) (omega arith))

pub each-both : (P Q R : Covering → Type 0) (cs : List Covering) → ((c : Covering) → P c → Q c → R c) → Each P cs
    → Each Q cs → Each R cs
each-both P Q R [] f h k = tt
each-both P Q R (c ∷ cs) f h k = (f c h.0 k.0, each-both P Q R cs f h.1 k.1)
