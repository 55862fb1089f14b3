use Rattle.std.proofs.Common.{◌≡◌, ℕ, List, ◌++◌, [], take, take_all, ap, sym, ◌∙◌, arith}
use Rattle.std.proofs.lemmas.List.{append-nil, length-set}
use Rattle.capn_pack.specs.Packed.{named_bytes}
use Rattle.capn_pack.proofs.shared.SpreadLemmas.{ones_half}
use Rattle.capn_scratch.proofs.Spread.{spread_all, spread_bytes, spread_named}
use Rattle.capn_scratch.proofs.group.spread.Goals as goal

pub loop-index-preserved : goal.loop-index-preserved
loop-index-preserved g c =
    let l = c.loop-index in
    let i = l.invariant in
    let ones = ones_half l.left in
    record {
      named = spread_named c.args.tag l.left c.byte_of.result l.index l.next l.word c.args.bytes.now
          (omega (arith, i.room)) i.named c.byte_of.ensures.none;
      bytes = spread_bytes c.args.tag l.left c.byte_of.result l.index l.next l.word c.args.bytes.now
          (omega (arith, i.room)) i.bytes c.byte_of.ensures.named (λ odd. omega (arith, odd, ones, i.ones, c.requires));
      ones = omega (arith, ones, i.ones);
      room = length-set l.word l.index c.byte_of.result ∙ i.room;
      steps = omega (arith, c.tick.ensures, c.byte_of.ensures.steps, i.steps);
    }

pub returns-clause-bytes : goal.returns-clause-bytes
returns-clause-bytes g c =
    let l = c.loop-index in
    let i = l.invariant in
    let whole : take l.index l.word ++ [] ≡ l.word =
    append-nil (take l.index l.word) ∙ take_all l.index l.word (omega (arith, i.room)) in
    spread_all c.args.tag l.next l.word c.args.bytes.now i.room (omega arith) (omega (arith, i.ones, c.requires))
    (ap (λ (xs : List ℕ). named_bytes c.args.tag xs) (sym whole) ∙ i.bytes []
    ∙ append-nil (take l.next c.args.bytes.now))
