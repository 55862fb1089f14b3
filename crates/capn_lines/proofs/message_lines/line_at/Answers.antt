use Rattle.std.proofs.Common.{◌≡◌, ◌+◌, ◌-◌, not, ap, ◌∙◌, arith}
use Rattle.capn_lines.proofs.LineWalks.{first, longer, begins-by, rest-first, rest-more, rest-stop, cut-few}
use Rattle.capn_lines.proofs.LineWalks.{not-zero-few}
use Rattle.capn_lines.proofs.shared.Lines.{line-next}
use Rattle.capn_lines.proofs.message_lines.line_at.Goals as goal

pub loop-word-init : goal.loop-word-init
loop-word-init g c =
    let m = g.S.Space.message c.args.space.now in
    let seen = c.seen_at-previous in
    let e : c.args.at.word + 1 - 1 ≡ c.args.at.word = omega arith in
    record {
      line = first m c.args.words.now c.args.at seen.result.word seen.result.kind seen.result.covered seen.ensures.word
          seen.ensures.kind seen.ensures.covered c.first_line-line.result c.first_line-line.ensures;
      kind = rw e seen.ensures.kind;
      covered = rw e seen.ensures.covered;
      rest = rest-first m c.args.words.now c.args.at;
    }

pub returns-then-not-is_alike-clause-exact : goal.returns-then-not-is_alike-clause-exact
returns-then-not-is_alike-clause-exact g c =
    let m = g.S.Space.message c.args.space.now in
    let i = c.loop-word.invariant in
    let h = c.loop-word in
    let b = begins-by m c.args.words.now c.args.at h.word c.is_alike.result h.previous.kind c.seen_at-next.result.kind
    h.previous.covered c.seen_at-next.result.covered (omega arith) c.is_alike.ensures i.kind i.covered
    c.seen_at-next.ensures.kind c.seen_at-next.ensures.covered in
    i.line ∙ rest-stop m c.args.words.now c.args.at h.word (omega arith) (b ∙ ap not c.if-not-is_alike.true) i.rest

pub returns-then-not-is_alike-clause-next : goal.returns-then-not-is_alike-clause-next
returns-then-not-is_alike-clause-next g c =
    let m = g.S.Space.message c.args.space.now in
    rw (returns-then-not-is_alike-clause-exact g c) (λ h. line-next m c.args.words.now c.args.at h)

pub longer-line-requires-clause-cut : goal.longer-line-requires-clause-cut
longer-line-requires-clause-cut g c =
    let m = g.S.Space.message c.args.space.now in
    rw c.loop-word.invariant.line (cut-few m c.args.words.now c.args.at (c.loop-word.word - c.args.at.word))

pub longer-line-requires-clause-not_zero : goal.longer-line-requires-clause-not_zero
longer-line-requires-clause-not_zero g c =
    let m = g.S.Space.message c.args.space.now in
    rw c.loop-word.invariant.line (not-zero-few m c.args.words.now c.args.at (c.loop-word.word - c.args.at.word))

pub loop-word-preserved : goal.loop-word-preserved
loop-word-preserved g c =
    let m = g.S.Space.message c.args.space.now in
    let i = c.loop-word.invariant in
    let h = c.loop-word in
    let seen = c.seen_at-next in
    let b = begins-by m c.args.words.now c.args.at h.word c.is_alike.result h.previous.kind c.seen_at-next.result.kind
    h.previous.covered c.seen_at-next.result.covered (omega arith) c.is_alike.ensures i.kind i.covered
    c.seen_at-next.ensures.kind c.seen_at-next.ensures.covered in
    let e : h.word + 1 - 1 ≡ h.word = omega arith in
    record {
      line = longer m c.args.words.now c.args.at h.word seen.result.word seen.result.covered (omega arith)
          seen.ensures.word seen.ensures.covered h.line i.line c.longer-line.result c.longer-line.ensures;
      kind = rw e seen.ensures.kind;
      covered = rw e seen.ensures.covered;
      rest = rest-more m c.args.words.now c.args.at h.word (omega arith) (omega arith)
          (b ∙ ap not c.if-not-is_alike.false) i.rest;
    }
