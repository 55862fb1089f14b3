use Rattle.std.proofs.Common.{◌≡◌, ℕ, ◌*◌, ◌/◌, [], ◌∷◌, ◌++◌, List, length, drop, ap, sym, subst, ◌∙◌, arith}
use Rattle.capn_words.specs.Message.{bytes, words_in}
use Rattle.capn_words.proofs.shared.Words.{length-words_in, length-bytes}
use Rattle.capn_value.specs.Tree.{Tree}
use Rattle.capn_layout.specs.Layout.{words}
use Rattle.capn_layout.specs.Ready.{IsReadyIn}
use Rattle.capn_layout.proofs.shared.Room.{length_words}
use Rattle.capn_layout.proofs.writer.Drafted.{words-none, first-bytes, kept-then, appends-length}
use Rattle.capn_layout.proofs.writer.Stepwise.{laid-words}
use Rattle.capn_layout.proofs.object_layout.lay_root.Goals as goal

pub push-len-requires : goal.push-len-requires
push-len-requires g c = let r = c.requires.ready.room in omega arith

pub lay_slot-requires-clause-ready : goal.lay_slot-requires-clause-ready
lay_slot-requires-clause-ready g c =
    let e = c.push-len.ensures in
    let n : length (words_in c.push-len.result c.push-len.new.out) ≡ 1 =
    length-words_in c.push-len.result c.push-len.new.out ∙ appends-length 0 c.push-len.result (0 ∷ []) c.args.out.now
    c.push-len.new.out e ∙ omega arith in
    subst (λ (j : ℕ). IsReadyIn g.S.Source.has c.args.source.now 0 c.args.depth j (length c.push-len.new.out / 8))
    (sym n)
    (subst (λ (k : ℕ). IsReadyIn g.S.Source.has c.args.source.now 0 c.args.depth 1 (k / 8)) (sym e.kept.same)
    c.requires.ready)

pub lay_slot-requires-clause-inside : goal.lay_slot-requires-clause-inside
lay_slot-requires-clause-inside g c =
    let l = appends-length 0 c.push-len.result (0 ∷ []) c.args.out.now c.push-len.new.out c.push-len.ensures in
    omega arith

pub lay_slot-requires-clause-short : goal.lay_slot-requires-clause-short
lay_slot-requires-clause-short g c =
    let e = c.push-len.ensures.kept.same in
    let s = c.requires.short in
    omega arith

pub returns-clause-laid : goal.returns-clause-laid
returns-clause-laid g c v h =
    let out = c.args.out.now in
    let q = c.lay_slot.new.out in
    let n = c.lay_slot.result in
    let p = words_in c.push-len.result c.push-len.new.out in
    let begun : p ≡ [] ++ (0 ∷ []) = c.push-len.ensures.words ∙ ap (λ (x : List ℕ). x ++ (0 ∷ [])) (words-none out) in
    let all : (w : Tree) → g.S.Source.has c.args.source.now 0 w → words_in n q ≡ words w =
    λ w is. laid-words w p (words_in n q) begun (c.lay_slot.ensures.laid w is) in
    let r = c.requires.ready in
    let long = ap length (all r.value r.is) ∙ length_words r.value r.sound in
    let l = length-words_in n q in
    let room = r.room in
    let same = c.lay_slot.ensures.kept.same in
    let first = appends-length 0 c.push-len.result (0 ∷ []) out c.push-len.new.out c.push-len.ensures in
    let kept = kept-then c.push-len.result n out c.push-len.new.out q (omega arith) c.push-len.ensures.kept
    c.lay_slot.ensures.kept in
    let e : bytes (words_in n q) ≡ bytes (words v) = ap bytes (all v h) in
    let size : 8 * n ≡ length (bytes (words v)) = sym (ap length (sym e) ∙ length-bytes (words_in n q)
    ∙ ap (λ (j : ℕ). 8 * j) l) in (
      size,
      first-bytes n q (λ i. omega (arith, c.type_inv.out i)) (let s = kept.same in omega arith)
          ∙ ap (λ (x : List ℕ). bytes (words_in n q) ++ x) (kept.rest ∙ ap (λ (j : ℕ). drop j out) size)
          ∙ ap (λ (x : List ℕ). x ++ drop (length (bytes (words v))) out) e,
    )
