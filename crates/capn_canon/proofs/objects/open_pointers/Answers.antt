use Rattle.std.proofs.Common.{◌+◌, ◌-◌, ◌^◌, ◌≤◌, [], ◌∷◌, length, refl, arith}
use Rattle.capn_target.proofs.shared.Segments.{segment-room}
use Rattle.capn_canon.proofs.check.DueLists.{due-links}
use Rattle.capn_canon.proofs.check.DueSlots.{same-due}
use Rattle.capn_canon.proofs.check.PassLeads.{finds-links}
use Rattle.capn_canon.proofs.objects.open_pointers.Goals as goal

pub returns-in-Some : goal.returns-in-Some
returns-in-Some g c =
    let all = c.args.space.now in
    let p = c.args.pass in
    let o = c.requires.list.object in
    let s = o.some in
    let before = o.opened.before in
    let fits = o.opened.fits in
    let few = o.opened.few in
    let room = segment-room (all ∷ []) 0 c.requires.message (omega arith) in
    let small : length all ≤ 2 ^ 29 = omega arith in
    let w = c.words_of.ensures.words in
    let le = c.if-end-words_of.false in
    let g = c.in-Some.progress in
    let n = c.args.count in
    let h = c.in-Some.ensures.found in
    let gn = h.0 in
    let gl = h.1 in
    let gv = h.2 in
    let size_read = c.words_of.ensures.reads in
    record {
      found = (
        omega arith,
        record { order = omega arith; before = omega arith; fits = omega arith; few = omega arith },
        (λ deep. finds-links all c.args.base deep p o small n g (omega arith) c.requires.list.few c.requires.list.word
            gn gl gv),
      );
      deeper = let deep = o.deep in omega arith;
      only = λ f.
          let k = due-links all c.args.base p.from p.next p.depth p.left f small (omega arith) o.deep n
          c.requires.list.few c.requires.list.word in
          let cheap = k.cheap in
          same-due all c.args.base p.next p.next n (p.next + n - p.next) (p.next + n) g.next (p.depth - 1)
          (p.left - (c.args.base + n)) g.left refl (omega arith) (omega arith) (omega arith) k.below;
      reads = omega arith;
      most = omega arith;
    }

pub returns-then-end-words_of-clause-only : goal.returns-then-end-words_of-clause-only
returns-then-end-words_of-clause-only g c h =
    let all = c.args.space.now in
    let p = c.args.pass in
    let o = c.requires.list.object in
    let s = o.some in
    let before = o.opened.before in
    let fits = o.opened.fits in
    let room = segment-room (all ∷ []) 0 c.requires.message (omega arith) in
    let w = c.words_of.ensures.words in
    let gt = c.if-end-words_of.true in
    let k = due-links all c.args.base p.from p.next p.depth p.left h (omega arith) (omega arith) o.deep c.args.count
    c.requires.list.few c.requires.list.word in
    let r = k.room in
    absurd (omega arith)

pub returns-in-None-clause-only : goal.returns-in-None-clause-only
returns-in-None-clause-only g c h =
    let all = c.args.space.now in
    let p = c.args.pass in
    let o = c.requires.list.object in
    let s = o.some in
    let before = o.opened.before in
    let fits = o.opened.fits in
    let room = segment-room (all ∷ []) 0 c.requires.message (omega arith) in
    let k = due-links all c.args.base p.from p.next p.depth p.left h (omega arith) (omega arith) o.deep c.args.count
    c.requires.list.few c.requires.list.word in
    let e = c.in-None.ensures.only k.cheap in
    absurd (cc)
