use Rattle.std.proofs.Common.{List, ℕ, [], ◌∷◌, ap, refl, arith}
use Rattle.capn_words.specs.Message.{segment_at}
use Rattle.capn_stream.proofs.OneSegment.{HasOne, has_one, one_stands}
use Rattle.capn_stream.proofs.shared.FrameLaws.{one_frame}
use Rattle.capn_stream.proofs.first_message.first_bare.Goals as goal

pub returns-then-bytes-lt8-clause-only : goal.returns-then-bytes-lt8-clause-only
returns-then-bytes-lt8-clause-only c words taken h =
    let has = has_one c.args.bytes.now c.args.max_words words taken h in
    elim c.then-bytes-lt8.branch [
      | goal.then-bytes-lt8-via-then-bytes-lt8 w ↦ absurd (omega (arith, has.table, w.if-bytes-lt8.true))
      | goal.then-bytes-lt8-via-else-bytes-lt8+then-entry_at-ne0 w ↦
          absurd (omega (arith, has.one, w.entry_at.ensures, w.if-entry_at-ne0.true))
    ]

pub returns-then-words-max_words-clause-only : goal.returns-then-words-max_words-clause-only
returns-then-words-max_words-clause-only c words taken h =
    let has = has_one c.args.bytes.now c.args.max_words words taken h in
    elim c.then-words-max_words.branch [
      | goal.then-words-max_words-via-then-words-max_words w ↦
          absurd (omega (arith, has.room, c.entry_at-words.ensures, w.if-words-max_words.true))
      | goal.then-words-max_words-via-else-words-max_words+then-end-bytes w ↦
          absurd (omega (arith, has.contents, c.entry_at-words.ensures, w.if-end-bytes.true))
    ]

pub returns-clause-found : goal.returns-clause-found
returns-clause-found c =
    let has : HasOne c.args.bytes.now c.args.max_words c.entry_at-words.result = record {
      table = c.if-bytes-lt8.false;
      one = omega (arith, c.entry_at.ensures, c.if-entry_at-ne0.false);
      size = c.entry_at-words.ensures;
      room = c.if-words-max_words.false;
      contents = c.if-end-bytes.false;
    } in
    one_stands c.args.bytes.now c.args.max_words c.entry_at-words.result c.in-Ok.message c.requires
    (λ i. omega (arith, c.type_inv.bytes i)) has c.in-Ok.ensures.exact

pub returns-clause-only : goal.returns-clause-only
returns-clause-only c words taken h =
    let stands = returns-clause-found c in
    let same = one_frame c.args.bytes.now c.args.max_words c.args.max_words _ (words ∷ []) _ taken stands h in
    let message = ap (λ (m : List (List ℕ)). segment_at m 0) same.0 in
    rw (message, same.1) refl
