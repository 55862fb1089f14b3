use Rattle.std.proofs.Common.{◌≡◌, ℕ, ◌+◌, ◌*◌, ◌^◌, ◌<◌, ◌≤◌, [], ◌∷◌, length, drop, ap, sym, subst, arith, refl}
use Rattle.capn_target.proofs.shared.Segments.{segment-room}
use Rattle.capn_words.specs.declared.pointer.Width.TheVariants.{Rows}
use Rattle.capn_target.specs.Shapes.{IsPlain}
use Rattle.capn_walk.specs.Visits.{price}
use Rattle.capn_target.specs.declared.target.Shape.TheVariants as shapes
use Rattle.capn_target.specs.Target.{words_for}
use Rattle.capn_layout.specs.FirstBits.{element_bits, first_bits}
use Rattle.capn_canon.specs.inner.WordsOfLayout.{Stand}
use Rattle.capn_canon.proofs.places.Compared.{not-true}
use Rattle.capn_canon.proofs.check.DueLists.{numbers-room, numbers-stand, numbers-cheap}
use Rattle.capn_canon.proofs.places.NumbersInPlace.{numbers-in-place, numbers-end, numbers-high, price-none, price-some}
use Rattle.capn_canon.proofs.check.PassLeads.{if-some}
use Rattle.capn_canon.proofs.objects.check_numbers.Goals.{in-W0, in_default}
use Rattle.capn_canon.proofs.objects.check_numbers.Goals.{then-end-words_of-via-then-end-words_of}
use Rattle.capn_canon.proofs.objects.check_numbers.Goals.{then-end-words_of-via-else-end-words_of+then-not-are_bits_at}
use Rattle.capn_canon.proofs.objects.check_numbers.Goals as goal

pub returns : goal.returns
returns g c =
    let all = c.args.space.now in
    let p = c.args.pass in
    let n = c.args.count in
    let k = c.args.width in
    let o = c.requires.list.object in
    let s = o.some in
    let before = o.opened.before in
    let fits = o.opened.fits in
    let few = o.opened.few in
    let short = segment-room (all ∷ []) 0 c.requires.message (omega arith) in
    let small : length all ≤ 2 ^ 29 = omega arith in
    let bits = ap (λ (x : ℕ). x * n) c.bits_of.ensures in
    let w = c.words_of.ensures.words in
    let le = c.if-end-words_of.false in
    let d = c.div_ceil-words.ensures in
    let stand = subst (λ (x : ℕ). Stand all p.next (first_bits x (drop p.next all))) bits
    (c.if-not-are_bits_at.ensures.same.0 refl) in
    let price_is : price c.args.base (shapes.Many k n)
    ≡ c.args.base + c.div_ceil-words.result + c.match-width.without_size =
    elim c.match-width.branch as (λ _. price c.args.base (shapes.Many k n)
    ≡ c.args.base + c.div_ceil-words.result + c.match-width.without_size) [
      | in-W0 w ↦ let e = price-none c.args.base n k w.in-W0.is in let f = w.without_size-is in omega arith
      | in_default w ↦ let e = price-some c.args.base n k c.requires.plain w.in_default.not-W0 in
          let f = w.without_size-is in omega arith
    ] in
    let order : p.from < p.next = omega arith in
    let room : p.next + words_for (element_bits k * n) ≤ length all = omega arith in
    let v = numbers-in-place all c.args.base p.from p.next p.depth k n c.requires.message small c.requires.plain order
    room c.requires.list.few o.deep c.requires.list.word stand in
    let ends = numbers-end all c.args.base p.from p.next p.depth k n c.requires.message small c.requires.plain order
    room c.requires.list.few o.deep c.requires.list.word stand in
    let high = numbers-high all c.args.base p.from p.next p.depth k n c.requires.message small c.requires.plain order
    room c.requires.list.few o.deep c.requires.list.word stand in
    let size_read = c.words_of.ensures.reads in
    let last_read = c.if-not-are_bits_at.ensures.reads in
    record {
      found = if-some c.paid.result
          (λ q h deep least low is. let gn = h.0 in let gl = h.1 in let gv = h.2 in
          record {
            value = _;
            price = price c.args.base (shapes.Many k n);
            below = 0;
            in_place = v;
            comes = record {
              next_is = omega arith;
              left_is = omega arith;
              visits_are = omega arith;
              fits = omega arith;
              few = omega arith;
            };
            lowered = λ on le. let e = is on in omega arith;
          }) c.paid.ensures.found;
      only = λ h. c.paid.ensures.only
          (let cheap = numbers-cheap all c.args.base p.from p.next p.depth p.left h small (omega arith) o.deep k n
          c.requires.list.few c.requires.list.word (λ e. subst IsPlain e c.requires.plain) c.requires.message
          c.requires.plain in omega arith);
      pays = if-some c.paid.result (λ q h. let gl = h.1 in omega arith) c.paid.ensures.found;
      reads = omega arith;
    }

pub returns-then-end-words_of-clause-only : goal.returns-then-end-words_of-clause-only
returns-then-end-words_of-clause-only g c h =
    let all = c.args.space.now in
    let p = c.args.pass in
    let n = c.args.count in
    let k = c.args.width in
    let o = c.requires.list.object in
    let s = o.some in
    let before = o.opened.before in
    let fits = o.opened.fits in
    let short = segment-room (all ∷ []) 0 c.requires.message (omega arith) in
    let small : length all ≤ 2 ^ 29 = omega arith in
    let bits = ap (λ (x : ℕ). x * n) c.bits_of.ensures in
    let w = c.words_of.ensures.words in
    let d = c.div_ceil-words.ensures in
    let simple = λ (e : k ≡ Rows). subst IsPlain e c.requires.plain in
    let room = numbers-room all c.args.base p.from p.next p.depth p.left h small (omega arith) o.deep k n
    c.requires.list.few c.requires.list.word simple c.requires.message c.requires.plain in
    let stand = numbers-stand all c.args.base p.from p.next p.depth p.left h small (omega arith) o.deep k n
    c.requires.list.few c.requires.list.word simple c.requires.message c.requires.plain in
    let same = subst (λ (x : ℕ). Stand all p.next (first_bits x (drop p.next all))) (sym bits) stand in
    absurd (elim c.then-end-words_of.branch as (λ _. ⊥) [
      | then-end-words_of-via-then-end-words_of b ↦ let gt = b.if-end-words_of.true in omega arith
      | then-end-words_of-via-else-end-words_of+then-not-are_bits_at b ↦
          not-true (b.if-not-are_bits_at.ensures.same.1 same)
    ])
