use Rattle.std.proofs.Common.{◌≡◌, ◌<◌, ◌+◌, ◌++◌, List, ℕ, take, drop, replicate, length, arith, sym, subst, ap, ◌∙◌}
use Rattle.std.proofs.Common.{append_assoc}
use Rattle.std.proofs.lemmas.List.{take_all}
use Rattle.std.specs.Io.KnownBytes.{Appends}
use Rattle.capn_words.specs.Message.{bytes, segment_at}
use Rattle.capn_stream.specs.Frames.{segment_bytes, frame_text, padding, table}
use Rattle.capn_stream.specs.inner.FrameOutput.{head_text}
use Rattle.capn_stream.proofs.Sent.{begun_all, begun_front, begun_more, contents_more, contents_split}
use Rattle.capn_stream.proofs.frame_output.write_message.Goals as goal

-- a frame is its table with padding, and then its contents
in_two : (message : List (List ℕ)) → frame_text message ≡ head_text message ++ segment_bytes message
in_two message = sym (append_assoc (table message) (replicate (padding (length message)) 0) (segment_bytes message))

-- a frame is its table with padding, the bytes of the first `s` segments, and the bytes of the other segments
in_three : (message : List (List ℕ)) (s : ℕ)
    → frame_text message ≡ (head_text message ++ segment_bytes (take s message)) ++ segment_bytes (drop s message)
in_three message s =
    in_two message
    ∙ ap (λ (xs : List ℕ). head_text message ++ xs) (contents_split message s)
    ∙ sym (append_assoc (head_text message) (segment_bytes (take s message)) (segment_bytes (drop s message)))

pub returns-in_err-write_table-clause-begun : goal.returns-in_err-write_table-clause-begun
returns-in_err-write_table-clause-begun g c =
    let message = g.S.Space.message c.args.space.now in
    begun_front _ _ (head_text message) (segment_bytes message) (frame_text message) (in_two message)
    c.in_err-write_table.ensures.begun

pub returns-in_err-write_all-clause-begun : goal.returns-in_err-write_all-clause-begun
returns-in_err-write_all-clause-begun g c =
    let message = g.S.Space.message c.args.space.now in
    let s = c.loop-segment.segment in
    let here : s < length message = omega arith in
    let part = rw c.bytes_of.ensures at c.in_err-write_all.ensures.begun in
    let begun = begun_more _ _ _ (head_text message ++ segment_bytes (take s message)) (bytes (segment_at message s))
    c.loop-segment.invariant.written part in
    let same : head_text message ++ segment_bytes (take (s + 1) message)
    ≡ (head_text message ++ segment_bytes (take s message))
    ++ bytes (segment_at message s) =
    ap (λ (xs : List ℕ). head_text message ++ xs) (contents_more message s here)
    ∙ sym (append_assoc (head_text message) (segment_bytes (take s message)) (bytes (segment_at message s))) in
    begun_front _ _ ((head_text message ++ segment_bytes (take s message)) ++ bytes (segment_at message s))
    (segment_bytes (drop (s + 1) message)) (frame_text message)
    (in_three message (s + 1) ∙ ap (λ (xs : List ℕ). xs ++ segment_bytes (drop (s + 1) message)) same) begun

pub returns-clause-begun : goal.returns-clause-begun
returns-clause-begun g c =
    let message = g.S.Space.message c.args.space.now in
    let all = ap segment_bytes (take_all c.loop-segment.segment message (omega arith)) in
    let whole = in_two message ∙ ap (λ (xs : List ℕ). head_text message ++ xs) (sym all) in
    begun_all _ _ (frame_text message) (subst (Appends _ _) (sym whole) c.loop-segment.invariant.written)
