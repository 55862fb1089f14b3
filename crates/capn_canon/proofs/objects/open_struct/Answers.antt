use Rattle.std.proofs.Common.{◌≡◌, ℕ, ◌+◌, ◌-◌, ◌*◌, ◌%◌, ◌^◌, ◌<◌, ◌≤◌, ◌==◌, ◌&&◌, List, [], ◌∷◌}
use Rattle.std.proofs.Common.{take, drop, slice_index, ap, subst, sym, ◌∙◌, arith, refl}
use Rattle.std.proofs.lemmas.Bool.Decides.{nat_tests}
use Rattle.capn_words.specs.Message.{IsMessage}
use Rattle.capn_words.specs.Pointers.{word_of, field}
use Rattle.capn_value.specs.Trim.{kept_words}
use Rattle.capn_words.proofs.shared.Choices.{if-no}
use Rattle.capn_target.proofs.shared.Segments.{segment-room}
use Rattle.capn_canon.specs.declared.own_words_test.Tag.{Tag}
use Rattle.capn_canon.specs.declared.progress.Pass.{Pass}
use Rattle.capn_layout.specs.Layout.{struct_to}
use Rattle.capn_canon.specs.inner.Due.{DueFirst}
use Rattle.capn_canon.specs.inner.InPlace.{HasObject}
use Rattle.capn_canon.proofs.places.Compared.{not-true}
use Rattle.capn_canon.proofs.check.DueObjects.{DueStruct, due-struct, struct-tag}
use Rattle.capn_canon.proofs.check.DueSlots.{same-due}
use Rattle.capn_canon.proofs.check.PassLeads.{finds-struct}
use Rattle.capn_canon.proofs.objects.open_struct.Goals.{then-end-words_of-via-then-end-words_of}
use Rattle.capn_canon.proofs.objects.open_struct.Goals.{then-end-words_of-via-else-end-words_of+then-words-slots-eq0}
use Rattle.capn_canon.proofs.objects.open_struct.Goals.{then-not-is_kept-via-then-not-is_kept}
use Rattle.capn_canon.proofs.objects.open_struct.Goals.{then-not-is_kept-via-else-not-is_kept+then-not-is_kept-2}
use Rattle.capn_canon.proofs.objects.open_struct.Goals as goal

struct-word : (x from next a b : ℕ) → x < 2 ^ 64 → from < next → next ≤ 2 ^ 29 → x % 2 ^ 32 ≡ 4 * (next - from - 1)
    → a ≡ field 32 16 x → b ≡ field 48 16 x → 0 < a + b → x ≡ struct_to from next a b
struct-word x from next a b lt order room low ea eb some =
    let f : x ≡ 4 * (next - from - 1) + 2 ^ 32 * a + 2 ^ 48 * b = omega arith in
    let n : next - from - 1 ≡ next - (from + 1) = omega arith in
    f ∙ sym (ap word_of (if-no ((a == 0) && (b == 0)) _ _ (grind (arith, nat_tests))) ∙ omega arith)

-- The pass must find a struct at the next free word, and the tag `g` has the sizes of that struct.
record IsTagged (all : List ℕ) (base : ℕ) (p : Pass) (g : Tag) : Type 0 where
  due : DueStruct all base p.from p.next p.depth p.left
  words : g.words ≡ due.a
  slots : g.slots ≡ due.b

tagged : (all : List ℕ) (base : ℕ) (p : Pass) (x : ℕ) (g : Tag) → HasObject all p → IsMessage (all ∷ [])
    → x ≡ slice_index all p.from → x % 2 ^ 32 ≡ 4 * (p.next - p.from - 1) → 0 < x
    → g ≡ record { count = field 2 30 x; words = field 32 16 x; slots = field 48 16 x } → DueFirst all base p
    → IsTagged all base p g
tagged all base p x g o message e low nz is h =
    let s = o.some in
    let before = o.opened.before in
    let fits = o.opened.fits in
    let small = segment-room (all ∷ []) 0 message (omega arith) in
    let k = due-struct all base p.from p.next p.depth p.left h (omega arith) (omega arith) o.deep
    (λ z. absurd (omega arith)) (ap (λ (y : ℕ). y % 2 ^ 32) (sym e) ∙ low) in
    let t = struct-tag all base p.from p.next p.depth p.left x g.words g.slots k (omega arith) (omega arith) e
    (ap (λ (y : Tag). y.words) is) (ap (λ (y : Tag). y.slots) is) in
    record { due = k; words = t.0; slots = t.1 }

pub returns-in-Some : goal.returns-in-Some
returns-in-Some g c =
    let all = c.args.space.now in
    let p = c.args.pass in
    let a = c.tag_of-tag.result.words in
    let b = c.tag_of-tag.result.slots in
    let g = c.in-Some.progress in
    let o = c.requires.object in
    let s = o.some in
    let before = o.opened.before in
    let fits = o.opened.fits in
    let few = o.opened.few in
    let small = segment-room (all ∷ []) 0 c.requires.message (omega arith) in
    let ea : a ≡ field 32 16 c.args.word = ap (λ (t : Tag). t.words) c.tag_of-tag.ensures in
    let eb : b ≡ field 48 16 c.args.word = ap (λ (t : Tag). t.slots) c.tag_of-tag.ensures in
    let w = c.words_of.ensures.words in
    let le = c.if-end-words_of.false in
    let ne = c.if-words-slots-eq0.false in
    let paid = c.in-Some.ensures.found in
    let gn = paid.0 in
    let gl = paid.1 in
    let gv = paid.2 in
    let some : 0 < a + b = omega arith in
    let word = sym c.requires.word ∙ struct-word c.args.word p.from p.next a b c.ranges.word.fits (omega arith)
    (omega arith) c.requires.near ea eb some in
    let size_read = c.words_of.ensures.reads in
    let word_read = c.if-not-is_kept.ensures.reads in
    let slot_read = c.if-not-is_kept-2.ensures.reads in
    record {
      found = (
        omega arith,
        record { order = omega arith; before = omega arith; fits = omega arith; few = omega arith },
        (λ deep. finds-struct all c.args.base deep p o (omega arith) a b g (omega arith) (omega arith) (omega arith)
            some word (c.if-not-is_kept.ensures.same.0 refl) (c.if-not-is_kept-2.ensures.same.0 refl) gn gl gv),
      );
      deeper = let deep = o.deep in omega arith;
      only = λ nz h.
          let t = tagged all c.args.base p c.args.word c.tag_of-tag.result o c.requires.message c.requires.word
          c.requires.near nz c.tag_of-tag.ensures h in
          let k = t.due in
          let ta = t.words in
          let tb = t.slots in
          let cheap = k.cheap in
          same-due all c.args.base (p.next + k.a) (p.next + a) k.b (p.next + a + b - (p.next + a)) (p.next + k.a + k.b)
          g.next (p.depth - 1) (p.left - (c.args.base + k.a + k.b)) g.left (omega arith) (omega arith) (omega arith)
          (omega arith) k.below;
      reads = omega arith;
      most = omega arith;
    }

pub returns-then-end-words_of-clause-only : goal.returns-then-end-words_of-clause-only
returns-then-end-words_of-clause-only g c nz h =
    let all = c.args.space.now in
    let p = c.args.pass in
    let t = tagged all c.args.base p c.args.word c.tag_of-tag.result c.requires.object c.requires.message
    c.requires.word c.requires.near nz c.tag_of-tag.ensures h in
    let k = t.due in
    let ta = t.words in
    let tb = t.slots in
    let w = c.words_of.ensures.words in
    let room = k.room in
    let some = k.some in
    elim c.then-end-words_of.branch as (λ _. ⊥) [
      | then-end-words_of-via-then-end-words_of b ↦ let gt = b.if-end-words_of.true in omega arith
      | then-end-words_of-via-else-end-words_of+then-words-slots-eq0 b ↦
          let z = b.if-words-slots-eq0.true in omega arith
    ]

pub returns-then-not-is_kept-clause-only : goal.returns-then-not-is_kept-clause-only
returns-then-not-is_kept-clause-only g c nz h =
    let all = c.args.space.now in
    let p = c.args.pass in
    let g = c.tag_of-tag.result in
    let t = tagged all c.args.base p c.args.word g c.requires.object c.requires.message c.requires.word c.requires.near
    nz c.tag_of-tag.ensures h in
    let k = t.due in
    let own = subst (λ (a : ℕ). kept_words (take a (drop p.next all)) ≡ a) (sym t.words) k.words_kept in
    let below = subst (λ (b : ℕ). kept_words (take b (drop (p.next + g.words) all)) ≡ b) (sym t.slots)
    (subst (λ (a : ℕ). kept_words (take k.b (drop (p.next + a) all)) ≡ k.b) (sym t.words) k.slots_kept) in
    elim c.then-not-is_kept.branch as (λ _. ⊥) [
      | then-not-is_kept-via-then-not-is_kept b ↦ not-true (b.if-not-is_kept.ensures.same.1 own)
      | then-not-is_kept-via-else-not-is_kept+then-not-is_kept-2 b ↦ not-true (b.if-not-is_kept-2.ensures.same.1 below)
    ]

pub returns-in-None-clause-only : goal.returns-in-None-clause-only
returns-in-None-clause-only g c nz h =
    let t = tagged c.args.space.now c.args.base c.args.pass c.args.word c.tag_of-tag.result c.requires.object
    c.requires.message c.requires.word c.requires.near nz c.tag_of-tag.ensures h in
    let k = t.due in
    let ta = t.words in
    let tb = t.slots in
    let cheap = k.cheap in
    let e = c.in-None.ensures.only (omega arith) in
    absurd (cc)
