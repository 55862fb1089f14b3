use Rattle.std.proofs.Common.{◌≡◌, ◌∙◌, ◌+◌, ◌-◌, ◌*◌, ◌++◌, [], ◌∷◌, ap, sym, ℕ, drop, map, List, append_assoc}
use Rattle.std.proofs.Common.{append-nil, arith}
use Rattle.std.specs.Int.{from_bool}
use Rattle.capn_words.specs.Message.{words_in}
use Rattle.capn_layout.specs.Layout.{number, packed}
use Rattle.capn_layout.proofs.writer.Drafted.{appends-length, kept-then}
use Rattle.capn_layout.proofs.writer.PackedBits.{packed-next, chunk-is}
use Rattle.capn_layout.proofs.bits.extend_bits.Goals as goal

pub loop-i-preserved : goal.loop-i-preserved
loop-i-preserved c =
    let bits = c.args.bits.now in
    let i = c.loop-i.i in
    let words = c.div_ceil-words.result in
    let p = words_in c.loop-i.end c.loop-i.out in
    let rest = packed 64 1 (words - (i + 1)) (map from_bool (drop (64 * (i + 1)) bits)) in
    let a = c.push-end.ensures in
    let v = c.loop-i.invariant in
    let l = appends-length c.loop-i.end c.push-end.result (c.word_of_bits.result ∷ []) c.loop-i.out
    c.push-end.new.out a in
    let e = v.ends in
    record {
      rest = ap (λ (x : List ℕ). x ++ rest) a.words
          ∙ append_assoc p (c.word_of_bits.result ∷ []) rest
          ∙ ap (λ (w : ℕ). p ++ (w ∷ rest)) (c.word_of_bits.ensures
          ∙ ap (number 2) (chunk-is bits (64 * i) c.min-last.result c.min-last.ensures))
          ∙ ap (λ (ws : List ℕ). p ++ ws) (sym (packed-next bits words i c.loop-i-test.true))
          ∙ v.rest;
      ends = omega arith;
      same = kept-then c.loop-i.end c.push-end.result c.args.out.now c.loop-i.out c.push-end.new.out (omega arith)
          v.same a.kept;
    }

pub push-end-requires : goal.push-end-requires
push-end-requires c =
    let e = c.loop-i.invariant.ends in
    let k = c.loop-i.invariant.same.same in
    let r = c.requires in
    let w = c.div_ceil-words.ensures in
    let t = c.loop-i-test.true in
    omega arith

pub returns : goal.returns
returns c = record {
  words =
      let z : c.div_ceil-words.result - c.loop-i.i ≡ 0 = let t = c.loop-i-test.false in omega arith in
      sym (append-nil (words_in c.loop-i.end c.loop-i.out))
      ∙ ap (λ (j : ℕ). words_in c.loop-i.end c.loop-i.out ++ packed 64 1 j (map from_bool (drop (64 * c.loop-i.i)
      c.args.bits.now))) (sym z)
      ∙ c.loop-i.invariant.rest;
  kept = c.loop-i.invariant.same;
}
