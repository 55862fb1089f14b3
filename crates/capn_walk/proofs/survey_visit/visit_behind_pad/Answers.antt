use Rattle.std.proofs.Common.{ap, sym, ◌∙◌, arith}
use Rattle.capn_target.specs.Target.{target_from}
use Rattle.capn_walk.proofs.Pads.{pad-nowhere, pad-past, pad-there}
use Rattle.capn_walk.proofs.survey_visit.visit_behind_pad.Goals as goal

pub visit_found-requires-clause-found : goal.visit_found-requires-clause-found
visit_found-requires-clause-found g c =
    let n = c.segments.ensures.count in
    let past = c.if-segment-segments.true in
    sym (pad-nowhere c.args.space.now c.args.at c.args.segment c.args.word c.requires.far (omega arith))

pub visit_found-requires-then-word-size-clause-found : goal.visit_found-requires-then-word-size-clause-found
visit_found-requires-then-word-size-clause-found g c =
    let n = c.segments.ensures.count in
    let there = c.if-segment-segments.false in
    let l = c.segment_length-size.ensures.length in
    let past = c.if-word-size.true in
    sym (pad-past c.args.space.now c.args.at c.args.segment c.args.word c.requires.far (omega arith) (omega arith))

pub visit_found-requires-in-Node-clause-found : goal.visit_found-requires-in-Node-clause-found
visit_found-requires-in-Node-clause-found g c =
    let m = c.args.space.now in
    let n = c.segments.ensures.count in
    let there = c.if-segment-segments.false in
    let l = c.segment_length-size.ensures.length in
    let inside = c.if-word-size.false in
    let p = pad-there m c.args.at c.args.segment c.args.word c.requires.far (omega arith) (omega arith) in
    c.near-found.ensures.near ∙ ap (target_from m c.args.segment c.args.word 1) c.pointer_at-pointer.ensures.pointer
    ∙ sym p

pub visit_found-requires-in_default : goal.visit_found-requires-in_default
visit_found-requires-in_default g c =
    let m = c.args.space.now in
    let n = c.segments.ensures.count in
    let there = c.if-segment-segments.false in
    let l = c.segment_length-size.ensures.length in
    let inside = c.if-word-size.false in
    let p = pad-there m c.args.at c.args.segment c.args.word c.requires.far (omega arith) (omega arith) in
    record {
      message = c.requires.message;
      place = c.requires.place;
      found = c.near-found-in_default.ensures.near
          ∙ ap (target_from m c.args.segment c.args.word 1) c.pointer_at-pointer.ensures.pointer ∙ sym p;
      left = c.requires.left;
    }
