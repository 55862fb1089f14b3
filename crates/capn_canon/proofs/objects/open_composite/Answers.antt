use Rattle.std.proofs.Common.{◌≡◌, ◌≢◌, ℕ, ◌+◌, ◌-◌, ◌*◌, ◌^◌, ◌<◌, ◌≤◌, ◌==◌, List, [], ◌∷◌, length}
use Rattle.std.proofs.Common.{refl, pos}
use Rattle.std.proofs.Common.{slice_index, ap, ap₂, sym, subst, ◌∙◌, arith, if◌then◌else◌}
use Rattle.std.proofs.lemmas.Bool.Decides.{nat_tests}
use Rattle.capn_words.specs.Pointers.{field, word_of}
use Rattle.capn_words.specs.declared.pointer.Pointer.TheVariants.{Node}
use Rattle.capn_words.specs.declared.pointer.Width.TheVariants.{Rows}
use Rattle.capn_words.proofs.shared.Choices.{if-yes, if-no, same-yes}
use Rattle.capn_target.specs.declared.target.Shape.TheVariants as shapes
use Rattle.capn_target.proofs.shared.Segments.{segment-room}
use Rattle.capn_canon.specs.declared.own_words_test.Tag.{Tag}
use Rattle.capn_canon.specs.declared.progress.Pass.{Pass}
use Rattle.capn_canon.specs.inner.InPlace.{HasObject}
use Rattle.capn_walk.specs.Visits.{price}
use Rattle.capn_layout.specs.Layout.{list_to}
use Rattle.capn_canon.specs.inner.Due.{DueFirst}
use Rattle.capn_layout.specs.RowWords.{kept_each}
use Rattle.capn_canon.proofs.places.Compared.{not-true}
use Rattle.capn_canon.proofs.check.DueComposite.{DueTagged, due-tagged, tag-fields}
use Rattle.capn_canon.proofs.check.DueSlots.{same-rows-due}
use Rattle.capn_canon.proofs.check.PassLeads.{finds-composite}
use Rattle.capn_canon.proofs.objects.open_composite.Goals.{then-step-eq0, else-step-eq0}
use Rattle.capn_canon.proofs.objects.open_composite.Goals.{then-tag-via-then-tag}
use Rattle.capn_canon.proofs.objects.open_composite.Goals.{then-tag-via-else-tag+then-tag-step}
use Rattle.capn_canon.proofs.objects.open_composite.Goals as goal

extra-yes : (s n w : ℕ) → s ≡ 0 → w ≡ n → w ≡ (if s == 0 then n else 0)
extra-yes s n w z e = e ∙ sym (if-yes (s == 0) n 0 (same-yes s 0 z))

extra-no : (s n w : ℕ) → s ≢ 0 → w ≡ 0 → w ≡ (if s == 0 then n else 0)
extra-no s n w z e = e ∙ sym (if-no (s == 0) n 0 (grind (arith, nat_tests)))

if-same : (s t n m : ℕ) → s ≡ t → n ≡ m → (if s == 0 then n else 0) ≡ (if t == 0 then m else 0)
if-same s t n m e f = ap₂ (λ (x y : ℕ). if x == 0 then y else 0) e f

-- The pass must find a list of structs at the next free word, and the tag `g` has the sizes of that list.
record IsTagged (all : List ℕ) (base : ℕ) (p : Pass) (span : ℕ) (g : Tag) : Type 0 where
  due : DueTagged all base p.from p.next p.depth p.left span
  count : g.count ≡ due.n
  words : g.words ≡ due.a
  slots : g.slots ≡ due.b
  whole : g.count * (g.words + g.slots) ≡ span

tagged : (all : List ℕ) (base : ℕ) (p : Pass) (span x : ℕ) (g : Tag) → HasObject all p → length all ≤ 2 ^ 29
    → span < 2 ^ 29 → slice_index all p.from ≡ list_to p.from p.next Rows span → x ≡ slice_index all p.next
    → g ≡ record { count = field 2 30 x; words = field 32 16 x; slots = field 48 16 x } → DueFirst all base p
    → IsTagged all base p span g
tagged all base p span x g o small few word at is h =
    let s = o.some in
    let before = o.opened.before in
    let k = due-tagged all base p.from p.next p.depth p.left span h small (omega arith) o.deep few word in
    let f = tag-fields x k.n k.a k.b k.few k.narrow k.short (at ∙ k.tag) in
    let n = ap (λ (t : Tag). t.count) is ∙ f.0 in
    let a = ap (λ (t : Tag). t.words) is ∙ f.1 in
    let b = ap (λ (t : Tag). t.slots) is ∙ f.2 in
    record { due = k; count = n; words = a; slots = b; whole = ap₂ ◌*◌ n (ap₂ ◌+◌ a b) ∙ sym k.whole }

pub returns : goal.returns
returns g c =
    let all = c.args.space in
    let p = c.args.pass in
    let o = c.requires.list.object in
    let s = o.some in
    let before = o.opened.before in
    let fits = o.opened.fits in
    let room = segment-room (all ∷ []) 0 c.requires.message (omega arith) in
    let small : length all ≤ 2 ^ 29 = omega arith in
    let w = c.words_of.ensures.words in
    let le = c.if-end-words_of.false in
    let g = c.tag_of-tag.result in
    let few = c.if-tag.false in
    let span = c.if-tag-step.false in
    let short = c.requires.list.few in
    let five = c.if-not-are_rows_at.ensures.same.0 refl in
    let x = c.word_at.result in
    let ea : g.words ≡ field 32 16 x = ap (λ (k : Tag). k.words) c.tag_of-tag.ensures in
    let eb : g.slots ≡ field 48 16 x = ap (λ (k : Tag). k.slots) c.tag_of-tag.ensures in
    let h = c.in-Some.ensures.found in
    let gn = h.0 in
    let gl = h.1 in
    let gv = h.2 in
    let extra : c.if-step-eq0.without_size ≡ (if g.words + g.slots == 0 then g.count else 0) =
    elim c.if-step-eq0.branch as (λ _. c.if-step-eq0.without_size
    ≡ (if g.words + g.slots == 0 then g.count else 0)) [
      | then-step-eq0 w ↦
          extra-yes (g.words + g.slots) g.count c.if-step-eq0.without_size w.if-step-eq0.true w.without_size-is
      | else-step-eq0 w ↦
          extra-no (g.words + g.slots) g.count c.if-step-eq0.without_size w.if-step-eq0.false w.without_size-is
    ] in
    let size_read = c.words_of.ensures.reads in
    let tag_read = c.word_at.ensures.reads in
    let row_reads = c.if-not-are_rows_at.ensures.reads in
    let parts : g.count * (g.words + g.slots) ≡ g.count * g.words + g.count * g.slots = omega arith in
    record {
      found = (
        omega arith,
        record { order = omega arith; before = omega arith; fits = omega arith; few = omega arith },
        omega arith,
        (λ deep. finds-composite all c.args.base deep p o small g.count g.words g.slots c.in-Some.progress (omega arith)
            (omega arith) (omega arith) (omega arith) (omega arith) five.2 five.4 five.0 five.1 (omega arith)
            (omega arith) gv),
      );
      deeper = let deep = o.deep in omega arith;
      only = λ f.
          let y = tagged all c.args.base p c.args.span x g o small short c.requires.list.word c.word_at.ensures.word
          c.tag_of-tag.ensures f in
          let k = y.due in
          let sum = ap₂ ◌+◌ y.words y.slots in
          let each = if-same (g.words + g.slots) (k.a + k.b) g.count k.n sum y.count in
          let q = c.in-Some.progress in
          let yc = y.count in
          let yw = y.words in
          let ys = y.slots in
          let whole = k.whole in
          let cheap = k.cheap in
          same-rows-due all c.args.base k.a k.b g.words g.slots (p.next + 1) k.n g.count
          (p.next + 1 + k.n * (k.a + k.b)) q.next (p.depth - 1)
          (p.left - price c.args.base (shapes.Rows k.n k.a k.b (k.n * (k.a + k.b)))) q.left (sym y.words) (sym y.slots)
          (sym y.count) (omega arith) (omega arith) k.below;
      reads = omega arith;
      most = omega arith;
    }

pub returns-then-end-words_of-clause-only : goal.returns-then-end-words_of-clause-only
returns-then-end-words_of-clause-only g c h =
    let all = c.args.space in
    let p = c.args.pass in
    let o = c.requires.list.object in
    let s = o.some in
    let before = o.opened.before in
    let fits = o.opened.fits in
    let room = segment-room (all ∷ []) 0 c.requires.message (omega arith) in
    let w = c.words_of.ensures.words in
    let gt = c.if-end-words_of.true in
    let k = due-tagged all c.args.base p.from p.next p.depth p.left c.args.span h (omega arith) (omega arith) o.deep
    c.requires.list.few c.requires.list.word in
    let r = k.room in
    let e = k.whole in
    absurd (omega arith)

pub returns-then-tag-clause-only : goal.returns-then-tag-clause-only
returns-then-tag-clause-only g c h =
    let all = c.args.space in
    let p = c.args.pass in
    let o = c.requires.list.object in
    let s = o.some in
    let before = o.opened.before in
    let fits = o.opened.fits in
    let room = segment-room (all ∷ []) 0 c.requires.message (omega arith) in
    let small : length all ≤ 2 ^ 29 = omega arith in
    let y = tagged all c.args.base p c.args.span c.word_at.result c.tag_of-tag.result o small c.requires.list.few
    c.requires.list.word c.word_at.ensures.word c.tag_of-tag.ensures h in
    let k = y.due in
    let yc = y.count in
    let yw = y.words in
    let ys = y.slots in
    let whole = k.whole in
    let few = k.few in
    absurd (elim c.then-tag.branch as (λ _. ⊥) [
      | then-tag-via-then-tag b ↦ let f = b.if-tag.true in omega arith
      | then-tag-via-else-tag+then-tag-step b ↦
          b.if-tag-step.true y.whole
    ])

pub returns-then-not-are_rows_at-clause-only
    : goal.returns-then-not-are_rows_at-clause-only
returns-then-not-are_rows_at-clause-only g c h =
    let all = c.args.space in
    let p = c.args.pass in
    let o = c.requires.list.object in
    let s = o.some in
    let before = o.opened.before in
    let fits = o.opened.fits in
    let room = segment-room (all ∷ []) 0 c.requires.message (omega arith) in
    let small : length all ≤ 2 ^ 29 = omega arith in
    let y = tagged all c.args.base p c.args.span c.word_at.result c.tag_of-tag.result o small c.requires.list.few
    c.requires.list.word c.word_at.ensures.word c.tag_of-tag.ensures h in
    let k = y.due in
    let yc = y.count in
    let yw = y.words in
    let ys = y.slots in
    let whole = k.whole in
    let all-kept = λ (n a b : ℕ). (kept_each (all ∷ []) 0 (p.next + 1) a (a + b) n ≡ a)
    × (kept_each (all ∷ []) 0 (p.next + 1 + a) b (a + b) n ≡ b)
    × (slice_index all p.from ≡ list_to p.from p.next Rows (n * (a + b)))
    × (p.next + (1 + n * (a + b)) ≤ length all) × (slice_index all p.next ≡ word_of (Node (pos n) a b)) in
    absurd (not-true (c.if-not-are_rows_at.ensures.same.1
    (subst (λ (n : ℕ). all-kept n c.tag_of-tag.result.words c.tag_of-tag.result.slots) (sym y.count)
    (subst (λ (a : ℕ). all-kept k.n a c.tag_of-tag.result.slots) (sym y.words)
    (subst (λ (b : ℕ). all-kept k.n k.a b) (sym y.slots) (k.words_kept, k.slots_kept, k.word, k.room, k.tag))))))

pub returns-in_default-clause-only : goal.returns-in_default-clause-only
returns-in_default-clause-only g c h =
    let all = c.args.space in
    let p = c.args.pass in
    let o = c.requires.list.object in
    let s = o.some in
    let before = o.opened.before in
    let fits = o.opened.fits in
    let room = segment-room (all ∷ []) 0 c.requires.message (omega arith) in
    let small : length all ≤ 2 ^ 29 = omega arith in
    let y = tagged all c.args.base p c.args.span c.word_at.result c.tag_of-tag.result o small c.requires.list.few
    c.requires.list.word c.word_at.ensures.word c.tag_of-tag.ensures h in
    let k = y.due in
    let yc = y.count in
    let yw = y.words in
    let ys = y.slots in
    let whole = k.whole in
    let g = c.tag_of-tag.result in
    let extra : c.if-step-eq0.without_size ≡ (if g.words + g.slots == 0 then g.count else 0) =
    elim c.if-step-eq0.branch as (λ _. c.if-step-eq0.without_size
    ≡ (if g.words + g.slots == 0 then g.count else 0)) [
      | then-step-eq0 b ↦
          extra-yes (g.words + g.slots) g.count c.if-step-eq0.without_size b.if-step-eq0.true b.without_size-is
      | else-step-eq0 b ↦
          extra-no (g.words + g.slots) g.count c.if-step-eq0.without_size b.if-step-eq0.false b.without_size-is
    ] in
    let each = if-same (g.words + g.slots) (k.a + k.b) g.count k.n (ap₂ ◌+◌ y.words y.slots) y.count in
    let cheap = k.cheap in
    let e = c.in_default.ensures.only (omega arith) in
    absurd (cc)
