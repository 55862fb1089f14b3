use Rattle.std.proofs.Common.{sym, ◌∙◌, arith}
use Rattle.capn_words.proofs.shared.OneSegment.{seen_length, seen_word, only_place}
use Rattle.capn_words.proofs.bare.BareSpace.word.Goals as goal

pub word_of-requires : goal.word_of-requires
word_of-requires c =
    let p = only_place c.args.self.now c.args.at.segment c.args.at.word c.requires in
    let n = seen_length c.self.inside.bytes.now c.args.self.now c.self.view_is in
    let w = c.self.invariant.0 in
    omega arith

pub returns : goal.returns
returns c =
    let p = only_place c.args.self.now c.args.at.segment c.args.at.word c.requires in
    let w = seen_word c.self.inside.bytes.now c.args.self.now c.self.view_is c.args.at.word p.1 in
    rw p.0 (c.word_of.ensures ∙ sym w)
