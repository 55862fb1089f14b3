-- One item after coverings are laid into all of them: its times, the first covering of its word, whether a later
-- one is by another part, and what they say of it as a slot.
use Rattle.std.proofs.Common.{◌≡◌, ℕ, suc, ◌+◌, ◌<◌, ◌==◌, Bool, true, false, ◌&&◌, ◌||◌, if◌then◌else◌, List, [], ◌∷◌}
use Rattle.std.proofs.Common.{length, get_or, set, replicate, refl, ap, ap₂, sym, ◌∙◌, arith}
use Rattle.std.proofs.lemmas.Bool.Decides.{nat_tests}
use Rattle.std.proofs.lemmas.List.{get_or-set_same, get_or-set_other, get_or-replicate}
use Rattle.capn_words.proofs.shared.Choices.{pick}
use Rattle.capn_cover.specs.declared.covered.Covered.{Covered}
use Rattle.capn_cover.specs.declared.covered.Role.{Role}
use Rattle.capn_cover.specs.Parts.{differs}
use Rattle.capn_cover.specs.Covers.{Covering, times, is_read, is_followed, holder, unreached, is_overlap, belonging}
use Rattle.capn_cover.specs.Covers.{belongs_at, cover_at}
use Rattle.capn_cover.specs.inner.Laid.{holder_after, followed, followed_in, first_covered, covered_again, once_more}
use Rattle.capn_cover.specs.inner.Laid.{touched, laid, uncut}
use Rattle.capn_cover.proofs.LaidItems.{length_followed, length-touched}

or-assoc : (a b c : Bool) → ((a || b) || c) ≡ (a || (b || c))
or-assoc true b c = refl
or-assoc false b c = refl

or-false : (a : Bool) → (a || false) ≡ a
or-false true = refl
or-false false = refl

-- an item that is covered `k` times
abbrev told : (slot : ℕ) → Role → (k holder : ℕ) → (overlap is_followed : Bool) → Covered
told slot role k h o i = record {
  times = k;
  slot = slot;
  holder = h;
  role = role;
  overlap = o;
  is_followed = i;
  cut = false;
}

told-same : (slot : ℕ) (role : Role) (k l h g : ℕ) (o p i j : Bool) → k ≡ l → h ≡ g → o ≡ p → i ≡ j
    → told slot role k h o i ≡ told slot role l g p j
told-same slot role k l h g o p i j e f a b =
    ap₂ (λ (x y : ℕ). told slot role x y o i) e f ∙ ap₂ (λ (x y : Bool). told slot role l g x y) a b

-- an item that nothing covers
abbrev blank : (is_followed : Bool) → Covered
blank i = record unreached { is_followed = i }

-- an item is followed after a visit of it covers words, if `f`
abbrev followed_after : (f i : Bool) → Bool
followed_after f i = if f then true else i

module _ (m : List (List ℕ)) where
  -- the item `x` after the covering `c` is laid in: `b` says whether `c` covers its word, and `f` whether it is by the
  -- visit of its word
  abbrev pub cell_after : (b f : Bool) → Covering → Covered → Covered
  cell_after b f c x =
      if b then once_more m c.slot c.role (if f then followed x else x) else (if f then followed x else x)

  -- the item `x` with the number `w` after each of the coverings is laid in
  abbrev pub after : Covered → List Covering → ℕ → Covered
  after x [] w = x
  after x (c ∷ cs) w = after (cell_after (c.word == w) (c.slot == w) c x) cs w

  -- a change of one item changes no other
  item-set : (f : Covered → Covered) (cells : List Covered) (k w : ℕ) → w < length cells
      → get_or (set cells k (f (get_or cells k unreached))) w unreached
      ≡ (if k == w then f (get_or cells w unreached) else get_or cells w unreached)
  item-set f cells k w within =
      pick (λ (x : Covered). get_or (set cells k (f (get_or cells k unreached))) w unreached ≡ x) (k == w)
      (f (get_or cells w unreached)) (get_or cells w unreached)
      (λ t. let e : k ≡ w = grind (arith, nat_tests) in
      let i = get_or-set_same cells w (f (get_or cells w unreached)) unreached within in
      rw e i)
      (λ n. let no : w ≡ k → ⊥ = grind (arith, nat_tests) in
      get_or-set_other cells k w (f (get_or cells k unreached)) unreached no)

  item-touched : (c : Covering) (cells : List Covered) (w : ℕ) → w < length cells
      → get_or (touched m c cells) w unreached
      ≡ cell_after (c.word == w) (c.slot == w) c (get_or cells w unreached)
  item-touched c cells w h =
      let k = length_followed c.slot cells in
      item-set (once_more m c.slot c.role) (followed_in c.slot cells) c.word w (omega arith)
      ∙ ap (λ (x : Covered). if c.word == w then once_more m c.slot c.role x else x)
      (item-set followed cells c.slot w h)

  item-laid : (cs : List Covering) (cells : List Covered) (w : ℕ) → w < length cells
      → get_or (laid m cs cells) w unreached ≡ after (get_or cells w unreached) cs w
  item-laid [] cells w h = refl
  item-laid (c ∷ cs) cells w h =
      let k = length-touched m c cells in
      item-laid cs (touched m c cells) w (omega arith) ∙ ap (λ (x : Covered). after x cs w) (item-touched c cells w h)

  -- an item that is covered already is covered once more
  again : (by : ℕ) (as_role : Role) (slot : ℕ) (role : Role) (n h : ℕ) (o i : Bool)
      → once_more m by as_role (told slot role (suc n) h o i)
      ≡ told slot role (suc (suc n)) (holder_after i h by as_role) (o || differs m slot role by as_role) i
  again by as_role slot role n h o i =
      let x : Covered = told slot role (suc n) h o i in
      let next : Covered =
      told slot role (suc (suc n)) (holder_after i h by as_role) (o || differs m slot role by as_role) i in
      pick (λ (y : Covered). y ≡ next) (suc n == 0) (first_covered m by as_role x) (covered_again m by as_role x)
      (λ t. let no : suc n ≡ 0 = grind (arith, nat_tests) in absurd (omega arith))
      (λ f. let e : suc n + 1 ≡ suc (suc n) = omega arith in
      ap (λ (k : ℕ). told slot role k (holder_after i h by as_role) (o || differs m slot role by as_role) i) e)

  module _ (by : ℕ) (as_role : Role) (slot : ℕ) (role : Role) (n h : ℕ) (o : Bool) where
    covered-more : (f i : Bool)
        → cell_after true f (record { word = 0; slot = by; role = as_role }) (told slot role (suc n) h o i)
        ≡ told slot role (suc (suc n)) (holder_after (followed_after f i) h by as_role)
        (o || differs m slot role by as_role) (followed_after f i)
    covered-more true i = again by as_role slot role n h o true
    covered-more false i = again by as_role slot role n h o i

    covered-else : (f i : Bool)
        → cell_after false f (record { word = 0; slot = by; role = as_role }) (told slot role (suc n) h o i)
        ≡ told slot role (suc n) h o (followed_after f i)
    covered-else true i = refl
    covered-else false i = refl

  -- the holder after a covering that reads the word as a slot if `r`, and the coverings behind it
  held-more : (f i r : Bool) (h by : ℕ) (cs : List Covering) (w : ℕ)
      → (if followed_after f i then (if followed_after f i then h else if r then by else h)
      else holder cs (if followed_after f i then h else if r then by else h) w)
      ≡ (if i then h else if f then h else holder cs (if r then by else h) w)
  held-more true true r h by cs w = refl
  held-more true false r h by cs w = refl
  held-more false true r h by cs w = refl
  held-more false false r h by cs w = refl

  held-else : (f i : Bool) (h : ℕ) (cs : List Covering) (w : ℕ)
      → (if followed_after f i then h else holder cs h w) ≡ (if i then h else if f then h else holder cs h w)
  held-else true true h cs w = refl
  held-else true false h cs w = refl
  held-else false true h cs w = refl
  held-else false false h cs w = refl

  follows : (f i b : Bool) → (followed_after f i || b) ≡ (i || (f || b))
  follows true true b = refl
  follows true false b = refl
  follows false i b = refl

  -- an item that is covered already, after each of the coverings
  abbrev told_after : (slot : ℕ) → Role → (k h : ℕ) → (o i : Bool) → List Covering → (w : ℕ) → Covered
  told_after slot role k h o i cs w = told slot role (k + times cs w) (if i then h else holder cs h w)
      (o || is_overlap m slot role cs w) (i || is_followed cs w)

  module _ (c : Covering) (slot : ℕ) (role : Role) (cs : List Covering) (w : ℕ)
      (rest : (n h : ℕ) (o i : Bool) → after (told slot role (suc n) h o i) cs w
      ≡ told_after slot role (suc n) h o i cs w) (n h : ℕ) (o i : Bool) where
    counted-by : (b f : Bool)
        → after (cell_after b f c (told slot role (suc n) h o i)) cs w
        ≡ told slot role (suc n + ((if b then 1 else 0) + times cs w))
        (if i then h else if f then h else holder cs (if b && is_read c.role then c.slot else h) w)
        (o || ((if b then differs m slot role c.slot c.role else false) || is_overlap m slot role cs w))
        (i || (f || is_followed cs w))
    counted-by true f =
        let d : Bool = differs m slot role c.slot c.role in
        let j : Bool = followed_after f i in
        let g : ℕ = holder_after j h c.slot c.role in
        ap (λ (x : Covered). after x cs w) (covered-more c.slot c.role slot role n h o f i)
        ∙ rest (suc n) g (o || d) j
        ∙ told-same slot role (suc (suc n) + times cs w) (suc n + (1 + times cs w)) (if j then g else holder cs g w)
        (if i then h else if f then h else holder cs (if is_read c.role then c.slot else h) w)
        ((o || d) || is_overlap m slot role cs w) (o || (d || is_overlap m slot role cs w))
        (j || is_followed cs w) (i || (f || is_followed cs w)) (omega arith)
        (held-more f i (is_read c.role) h c.slot cs w) (or-assoc o d (is_overlap m slot role cs w))
        (follows f i (is_followed cs w))
    counted-by false f =
        let j : Bool = followed_after f i in
        ap (λ (x : Covered). after x cs w) (covered-else c.slot c.role slot role n h o f i)
        ∙ rest n h o j
        ∙ told-same slot role (suc n + times cs w) (suc n + (0 + times cs w)) (if j then h else holder cs h w)
        (if i then h else if f then h else holder cs h w) (o || is_overlap m slot role cs w)
        (o || is_overlap m slot role cs w) (j || is_followed cs w) (i || (f || is_followed cs w)) (omega arith)
        (held-else f i h cs w) refl (follows f i (is_followed cs w))

  -- an item that is covered already keeps its slot and its role
  counted : (slot : ℕ) (role : Role) (cs : List Covering) (w n h : ℕ) (o i : Bool)
      → after (told slot role (suc n) h o i) cs w ≡ told_after slot role (suc n) h o i cs w
  counted slot role [] w n h o i =
      told-same slot role (suc n) (suc n + 0) h (if i then h else h) o (o || false) i (i || false) (omega arith)
      (same-both i) (sym (or-false o)) (sym (or-false i))
    where
      same-both : (b : Bool) → h ≡ (if b then h else h)
      same-both true = refl
      same-both false = refl
  counted slot role (c ∷ cs) w n h o i =
      counted-by c slot role cs w (counted slot role cs w) n h o i (c.word == w) (c.slot == w)

  -- an item that nothing covers, after each of the coverings
  abbrev fresh_after : (i : Bool) → List Covering → (w : ℕ) → Covered
  fresh_after i cs w = uncut (record (belongs_at m cs w) {
    holder = if i then 0 else holder cs 0 w;
    is_followed = i || is_followed cs w;
  })

  module _ (c : Covering) (cs : List Covering) (w : ℕ)
      (rest : (i : Bool) → after (blank i) cs w ≡ fresh_after i cs w) where
    belongs-by : (b f i : Bool)
        → after (cell_after b f c (blank i)) cs w
        ≡ uncut (record (if b then belonging m c cs w else belongs_at m cs w) {
          holder = if i then 0 else if f then 0 else holder cs (if b && is_read c.role then c.slot else 0) w;
          is_followed = i || (f || is_followed cs w);
        })
    belongs-by true f i =
        let j : Bool = followed_after f i in
        let g : ℕ = holder_after j 0 c.slot c.role in
        ap (λ (x : Covered). after x cs w) (first f)
        ∙ counted c.slot c.role cs w 0 g false j
        ∙ told-same c.slot c.role (1 + times cs w) (1 + times cs w) (if j then g else holder cs g w)
        (if i then 0 else if f then 0 else holder cs (if is_read c.role then c.slot else 0) w)
        (is_overlap m c.slot c.role cs w) (is_overlap m c.slot c.role cs w) (j || is_followed cs w)
        (i || (f || is_followed cs w)) refl (held-more f i (is_read c.role) 0 c.slot cs w) refl
        (follows f i (is_followed cs w))
      where
        first : (f : Bool) → cell_after true f c (blank i)
            ≡ told c.slot c.role 1 (holder_after (followed_after f i) 0 c.slot c.role) false (followed_after f i)
        first true = refl
        first false = refl
    belongs-by false true i =
        rest true
        ∙ ap₂ (λ (k : ℕ) (b : Bool). uncut (record (belongs_at m cs w) { holder = k; is_followed = b })) (held i)
        (said i)
      where
        held : (b : Bool) → ◌≡◌ {A = ℕ} 0 (if b then 0 else 0)
        held true = refl
        held false = refl

        said : (b : Bool) → true ≡ (b || (true || is_followed cs w))
        said true = refl
        said false = refl
    belongs-by false false i = rest i

  -- an item that nothing covers belongs to the first covering of its word
  belongs : (cs : List Covering) (w : ℕ) (i : Bool) → after (blank i) cs w ≡ fresh_after i cs w
  belongs [] w true = refl
  belongs [] w false = refl
  belongs (c ∷ cs) w i = belongs-by c cs w (belongs cs w) (c.word == w) (c.slot == w) i

  -- coverings that are laid into items that nothing covers make of each word what they say of it, but for the mark that
  -- it is cut
  pub all-laid : (cs : List Covering) (n w : ℕ) → w < n → w < length (replicate n unreached)
      → get_or (laid m cs (replicate n unreached)) w unreached ≡ uncut (cover_at m cs w)
  all-laid cs n w h k =
      item-laid cs (replicate n unreached) w k
      ∙ ap (λ (x : Covered). after x cs w) (get_or-replicate n w unreached unreached h)
      ∙ belongs cs w false
