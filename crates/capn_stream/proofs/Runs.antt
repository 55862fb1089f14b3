-- The bytes that a framer receives are the frames of the messages that it gives, and the bytes that are left. (For
-- `cutting`.)
use Rattle.std.proofs.Common.{◌≡◌, ℕ, ◌≤◌, List, [], ◌∷◌, ◌++◌, length, take, drop, refl, ap, ap₂, sym, subst, ◌∙◌}
use Rattle.std.proofs.Common.{arith, append_assoc, length-append}
use Rattle.std.proofs.lemmas.List.{append-nil, drop_at, take_at}
use Rattle.capn_words.specs.Message.{total}
use Rattle.capn_stream.specs.Frames.{Frames, StandsFirst}
use Rattle.capn_stream.specs.FrameRefusal.{IsFrameRefused}
use Rattle.capn_stream.specs.StreamPieces.{Framing}
use Rattle.capn_stream.specs.Calls.{Call, fed, took, Lead, received, given, EndsBy, FailsWithin, IsRun}
use Rattle.capn_stream.specs.declared.fault.FrameFault.{FrameFault}
use Rattle.capn_stream.specs.declared.fault.FrameFault.TheVariants.{Memory, Empty, TooManySegments, TooManyWords, Cut}
use Rattle.capn_stream.specs.declared.fault.FrameFault.TheVariants.{Failed}
use Rattle.capn_stream.proofs.shared.FrameLaws.{one_frame, one_refusal, refused_whole, whole_of}
use Rattle.capn_stream.proofs.shared.Longer.{IsStop-append}

-- `bs` are frames of the messages, of at most `most` words each, and then the bytes `left`
abbrev Splits : List ℕ → (most : ℕ) → List (List (List ℕ)) → (left : List ℕ) → Type 0
Splits bs most [] left = bs ≡ left
Splits bs most (m ∷ messages) left = (n : ℕ) × StandsFirst bs most m n × Splits (drop n bs) most messages left

-- if `frame` is the frame of `m`, `frame ++ rest` begin with it
stands-first : (frame rest : List ℕ) (most : ℕ) (m : List (List ℕ)) → Frames frame m → total m ≤ most
    → StandsFirst (frame ++ rest) most m (length frame)
stands-first frame rest most m h room = record {
  inside = omega (arith, length-append frame rest);
  frame = subst (λ (xs : List ℕ). Frames xs m) (sym (take_at frame rest (length frame) refl)) h;
  room = room;
}

-- The bytes that were held and those that the calls receive are the frames of the messages that the calls give, and the
-- bytes that are held then. `more` are any bytes after these.
splits : (calls : List Call) (start last : Framing) (more : List ℕ) → Lead calls start last
    → Splits (start.rest ++ (received calls ++ more)) start.most (given calls) (last.rest ++ more)
    × (last.most ≡ start.most)
splits [] start last more h = (ap (λ (f : Framing). f.rest ++ more) (sym h), ap (λ (f : Framing). f.most) h)
splits (fed piece n ∷ calls) start last more h =
    let next = h.0 in
    let feeds = h.1 in
    let rest = splits calls next last more h.2 in
    let text : next.rest ++ (received calls ++ more) ≡ start.rest ++ ((take n piece ++ received calls) ++ more) =
    ap (λ (xs : List ℕ). xs ++ (received calls ++ more)) feeds.rest
    ∙ append_assoc start.rest (take n piece) (received calls ++ more)
    ∙ ap (λ (xs : List ℕ). start.rest ++ xs) (sym (append_assoc (take n piece) (received calls) more)) in (
      subst (λ (most : ℕ). Splits (start.rest ++ ((take n piece ++ received calls) ++ more)) most (given calls)
          (last.rest ++ more)) feeds.same
          (subst (λ (xs : List ℕ). Splits xs next.most (given calls) (last.rest ++ more)) text rest.0),
      rest.1 ∙ feeds.same,
    )
splits (took m ∷ calls) start last more h =
    let next = h.0 in
    let takes = h.1 in
    let rest = splits calls next last more h.2 in
    let bytes : List ℕ = received calls ++ more in
    let empty : next.rest ++ bytes ≡ drop (length start.rest) (start.rest ++ bytes) =
    ap (λ (f : Framing). f.rest ++ bytes) takes.3 ∙ sym (drop_at start.rest bytes (length start.rest) refl) in
    let same : next.most ≡ start.most = ap (λ (f : Framing). f.most) takes.3 in (
      (
        length start.rest,
        stands-first start.rest bytes start.most m takes.0 takes.1,
        subst (λ (most : ℕ). Splits (drop (length start.rest) (start.rest ++ bytes)) most (given calls)
            (last.rest ++ more)) same
            (subst (λ (xs : List ℕ). Splits xs next.most (given calls) (last.rest ++ more)) empty rest.0),
      ),
      rest.1 ∙ same,
    )

-- no bytes begin with a frame and are refused, other than for `Memory`
apart : (bs : List ℕ) (most : ℕ) (m : List (List ℕ)) (n : ℕ) (e : FrameFault) → StandsFirst bs most m n
    → IsFrameRefused bs most e → (e ≡ Memory → ⊥) → ⊥
apart bs most m n e h r other = other (refused_whole bs most e (whole_of bs most m n h) r)

-- bytes split in one way into frames and bytes that are refused
splits-once : (ms ns : List (List (List ℕ))) (bs : List ℕ) (most : ℕ) (left right : List ℕ) (e f : FrameFault)
    → Splits bs most ms left → Splits bs most ns right → IsFrameRefused left most e → IsFrameRefused right most f
    → (e ≡ Memory → ⊥) → (f ≡ Memory → ⊥) → (ms ≡ ns) × (left ≡ right)
splits-once [] [] bs most left right e f g h r s other also = (refl, sym g ∙ h)
splits-once [] (n ∷ ns) bs most left right e f g h r s other also =
    absurd (apart bs most n h.0 e h.1 (subst (λ (xs : List ℕ). IsFrameRefused xs most e) (sym g) r) other)
splits-once (m ∷ ms) [] bs most left right e f g h r s other also =
    absurd (apart bs most m g.0 f g.1 (subst (λ (xs : List ℕ). IsFrameRefused xs most f) (sym h) s) also)
splits-once (m ∷ ms) (n ∷ ns) bs most left right e f g h r s other also =
    let one = one_frame bs most most m n g.0 h.0 g.1 h.1 in
    let rest = splits-once ms ns (drop g.0 bs) most left right e f g.2
    (subst (λ (k : ℕ). Splits (drop k bs) most ns right) (sym one.1) h.2) r s other also in
    (ap₂ (λ (x : List (List ℕ)) (xs : List (List (List ℕ))). x ∷ xs) one.0 rest.0, rest.1)

-- ---- the reason why no message follows

ended : (rest more : List ℕ) (most : ℕ) (e : FrameFault) → more ≡ [] → IsFrameRefused rest most e
    → IsFrameRefused (rest ++ more) most e
ended rest more most e h r =
    subst (λ (xs : List ℕ). IsFrameRefused xs most e)
    (sym (append-nil rest) ∙ ap (λ (xs : List ℕ). rest ++ xs) (sym h)) r

within : (rest piece behind more : List ℕ) (most : ℕ) (e : FrameFault) → more ≡ piece ++ behind
    → IsFrameRefused ((rest ++ piece) ++ behind) most e → IsFrameRefused (rest ++ more) most e
within rest piece behind more most e h r =
    subst (λ (xs : List ℕ). IsFrameRefused xs most e)
    (append_assoc rest piece behind ∙ ap (λ (xs : List ℕ). rest ++ xs) (sym h)) r

refused : (at : Framing) (more : List ℕ) (e : FrameFault) → EndsBy at more e
    → IsFrameRefused (at.rest ++ more) at.most e × (e ≡ Memory → ⊥)
refused at more Memory h = absurd h
refused at more Failed h = absurd h
refused at more Empty h = (ended at.rest more at.most Empty h.0 h.1, (λ k. absurd cc))
refused at more Cut h = (ended at.rest more at.most Cut h.0 h.1, (λ k. absurd cc))
refused at more (TooManySegments n) h =
    let piece = h.0 in
    let behind = h.1 in (
      within at.rest piece behind more at.most (TooManySegments n) h.3
          (IsStop-append (at.rest ++ piece) behind at.most (TooManySegments n) h.4.1),
      (λ k. absurd cc),
    )
refused at more (TooManyWords n) h =
    let piece = h.0 in
    let behind = h.1 in (
      within at.rest piece behind more at.most (TooManyWords n) h.3
          (IsStop-append (at.rest ++ piece) behind at.most (TooManyWords n) h.4.1),
      (λ k. absurd cc),
    )

-- a run splits its bytes into the frames of the messages that it gives, and bytes that are refused for its reason
record Parts (start : Framing) (bs : List ℕ) (calls : List Call) (e : FrameFault) : Type 0 where
  left : List ℕ
  parts : Splits (start.rest ++ bs) start.most (given calls) left
  reason : IsFrameRefused left start.most e
  other : e ≡ Memory → ⊥

parts-of : (start : Framing) (bs : List ℕ) (calls : List Call) (e : FrameFault) → IsRun start bs calls e
    → Parts start bs calls e
parts-of start bs calls e run =
    let s = splits calls start run.last run.more run.leads in
    let r = refused run.last run.more e run.ends in
    record {
      left = run.last.rest ++ run.more;
      parts = subst (λ (xs : List ℕ). Splits (start.rest ++ xs) start.most (given calls) (run.last.rest ++ run.more))
          (sym run.all) s.0;
      reason = subst (λ (most : ℕ). IsFrameRefused (run.last.rest ++ run.more) most e) s.1 r.0;
      other = r.1;
    }

-- however the bytes are cut, the messages and the reason are the same
pub however_cut : (start : Framing) (bs : List ℕ) (calls others : List Call) (e f : FrameFault)
    → IsRun start bs calls e → IsRun start bs others f → (given calls ≡ given others) × (e ≡ f)
however_cut start bs calls others e f run also =
    let a = parts-of start bs calls e run in
    let b = parts-of start bs others f also in
    let one = splits-once (given calls) (given others) (start.rest ++ bs) start.most a.left b.left e f a.parts b.parts
    a.reason b.reason a.other b.other in (
      one.0,
      one_refusal a.left start.most e f a.reason
          (subst (λ (xs : List ℕ). IsFrameRefused xs start.most f) (sym one.1) b.reason) a.other b.other,
    )
