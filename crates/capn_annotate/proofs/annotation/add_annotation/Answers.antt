use Rattle.std.proofs.Common.{inl, refl}
use Rattle.capn_words.specs.Watched.{has_failed, inner_of}
use Rattle.capn_serve.specs.Outgoing.{outgoing}
use Rattle.capn_annotate.specs.Annotation.{IsAnnotation}
use Rattle.capn_annotate.proofs.Served.{nothing}
use Rattle.capn_annotate.proofs.annotation.add_annotation.Goals as goal

pub returns-in_err-before : goal.returns-in_err-before
returns-in_err-before g c =
    nothing (IsAnnotation c.args.order.now c.args.at c.args.frame.now (g.S.Space.message c.args.message.now))
    (outgoing (g.W.Write.contents (inner_of c.args.writer.now)) c.args.text.now.items) (has_failed c.args.writer.now)
    c.requires.fine c.from_residual.result c.from_residual.ensures.1

pub returns : goal.returns
returns g c =
    let m = g.S.Space.message c.args.message.now in
    inl (
      _,
      record {
        words = c.args.words.now;
        counts = c.count_words-counts.result;
        canonical = c.canonical_words-canonical.result;
        cover = c.requires.cover;
        are_counts = c.count_words-counts.ensures.counts;
        are_canonical = c.canonical_words-canonical.ensures;
        is = refl;
      },
      c.add_chosen.ensures,
    )
