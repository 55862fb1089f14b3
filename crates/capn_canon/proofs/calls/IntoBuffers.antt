-- The results of calls that measure canonical bytes, or write them into a buffer. (For `length.rt` and
-- `written_bytes.rt`.)
use Rattle.std.proofs.Common.{◌≡◌, ◌↔◌, ℕ, ◌*◌, ◌+◌, ◌^◌, ◌≤◌, List, length, take, drop, Some, None}
use Rattle.std.proofs.Common.{Result, Ok, Err, IsOk, IfOk, IfErr, IsErrAnd, refl, ap, sym, subst, ◌∙◌, arith}
use Rattle.std.proofs.lemmas.Result.{IfOk-weaker}
use Rattle.std.proofs.Math.Seq.{take-append_seam, drop-append_seam}
use Rattle.std.proofs.lemmas.List.{length-append}
use Rattle.capn_words.specs.Message.{IsMessage}
use Rattle.capn_value.specs.Tree.{Tree}
use Rattle.capn_value.specs.FirstCap.{first_cap}
use Rattle.capn_walk.specs.Accepted.{root, IsValueOf}
use Rattle.capn_walk.specs.Limits.{Bounds}
use Rattle.capn_walk.proofs.shared.Unique.{unique}
use Rattle.capn_canon.specs.declared.length.CanonicalLength.{CanonicalLength}
use Rattle.capn_canon.specs.declared.message_refusal.MessageRefusal.{MessageRefusal}
use Rattle.capn_canon.specs.declared.message_refusal.MessageRefusal.TheVariants as messages
use Rattle.capn_canon.specs.declared.message_refusal.IntoRefusal.{IntoRefusal}
use Rattle.capn_canon.specs.declared.message_refusal.IntoRefusal.TheVariants as intos
use Rattle.capn_canon.specs.CanonicalLength.{HasBytes, IsCanonicalLength}
use Rattle.capn_canon.specs.MessageRefusal.{HasNoBytes, IsMessagePaidWithin, IsIntoPaidWithin}
use Rattle.capn_canon.specs.RefusalOf.{IsOfMessageInto}
use Rattle.capn_canon.specs.Denotes.{AnswersMessage}
use Rattle.capn_canon.specs.Theorem.{AnsweredInto, WrittenInto, RefusedInto}
use Rattle.capn_canon.specs.inner.Outcomes.{IsInto}
use Rattle.capn_layout.specs.Layout.{canon}
use Rattle.capn_canon.proofs.shared.NotRefused.{accepted-not_refused}
use Rattle.capn_canon.proofs.theorem.Headline.{denoted_length}

-- ---- what has canonical bytes is not refused

-- No `MessageRefusal` is true of a message that has canonical bytes.
pub no_bytes : (m : List (List ℕ)) (limits : Bounds) (e : MessageRefusal) → HasNoBytes m limits e
    → HasBytes m limits → ⊥
no_bytes m limits (messages.Walk s) h (v, is, free) = accepted-not_refused m limits s is.accepted h
no_bytes m limits (messages.Capability k) (w, also, e) (v, is, free) =
    let f : Some k ≡ None = sym e ∙ ap first_cap (unique m w v root also.is is.is) ∙ free in
    absurd cc

-- No `IntoRefusal` is true of a message that has at most `room` canonical bytes.
pub no_bytes_into : (m : List (List ℕ)) (limits : Bounds) (room : ℕ) (e : IntoRefusal) → RefusedInto m limits room e
    → (v : Tree) → IsValueOf m limits v → first_cap v ≡ None → length (canon v) ≤ room → ⊥
no_bytes_into m limits room (intos.Walk s) h v is free fits = no_bytes m limits (messages.Walk s) h (v, is, free)
no_bytes_into m limits room (intos.Capability k) h v is free fits =
    no_bytes m limits (messages.Capability k) h (v, is, free)
no_bytes_into m limits room (intos.NoRoom n p) (w, also, f, e, l, c) v is free fits =
    let s = ap (λ (x : Tree). length (canon x)) (unique m w v root also.is is.is) in
    absurd (omega arith)

into_refused : (m : List (List ℕ)) (limits : Bounds) (room : ℕ) (a : MessageRefusal) (e : IntoRefusal)
    → IsOfMessageInto a e → HasNoBytes m limits a → RefusedInto m limits room e
into_refused m limits room (messages.Walk s) e is h =
    subst (λ (x : IntoRefusal). RefusedInto m limits room x) (sym is) h
into_refused m limits room (messages.Capability k) e is h =
    subst (λ (x : IntoRefusal). RefusedInto m limits room x) (sym is) h

into_within : (budget : ℕ) (a : MessageRefusal) (e : IntoRefusal) → IsOfMessageInto a e
    → IsMessagePaidWithin budget a → IsIntoPaidWithin budget e
into_within budget (messages.Walk s) e is h = subst (λ (x : IntoRefusal). IsIntoPaidWithin budget x) (sym is) h
into_within budget (messages.Capability k) e is h = subst (λ (x : IntoRefusal). IsIntoPaidWithin budget x) (sym is) tt

pub not_written : (m : List (List ℕ)) (limits : Bounds) (old : List ℕ) (r : Result CanonicalLength IntoRefusal)
    (a : MessageRefusal) → IsErrAnd r (IsOfMessageInto a) → HasNoBytes m limits a
    → IsMessagePaidWithin limits.budget a → IsInto m limits old old r
not_written m limits old (Ok c) a is h b = absurd is
not_written m limits old (Err e) a is h b = record {
  written = tt;
  refused = into_refused m limits (length old) a e is h;
  unchanged = refl;
  bounded = into_within limits.budget a e is b;
}

-- ---- results of calls

-- The result `r` of measuring the canonical bytes of `m` is `Ok` if and only if `m` has canonical bytes.
pub length_answered : (m : List (List ℕ)) (limits : Bounds) (r : Result CanonicalLength MessageRefusal)
    → IfOk r (λ c. (v : Tree) × IsCanonicalLength m limits v c) → IfErr r (λ e. HasNoBytes m limits e)
    → IsOk r ↔ HasBytes m limits
length_answered m limits (Ok c) f e = ((λ k. (f.0, f.1.is, f.1.free)), (λ d. refl))
length_answered m limits (Err x) f e = ((λ k. absurd cc), (λ d. absurd (no_bytes m limits x e d)))

-- The result `r` of writing the canonical bytes of `m` to a buffer is `Ok` if and only if `m` has canonical bytes and
-- they fit into the buffer.
pub into_answered : (m : List (List ℕ)) (limits : Bounds) (old new : List ℕ) (r : Result CanonicalLength IntoRefusal)
    → IfOk r (λ c. WrittenInto m limits old new c) → IfErr r (λ e. RefusedInto m limits (length old) e)
    → AnsweredInto m limits (length old) r
into_answered m limits old new (Ok c) f e = ((λ k. (f.value, f.is.is, f.is.free, f.room)), (λ d. refl))
into_answered m limits old new (Err x) f e = (
  (λ k. absurd cc),
  (λ d. absurd (no_bytes_into m limits (length old) x e d.0 d.1 d.2 d.3)),
)

-- ---- the bytes that are written

module _ (m : List (List ℕ)) (limits : Bounds) (old new : List ℕ) (c : CanonicalLength)
    (h : WrittenInto m limits old new c) where
  first_bytes : take c.length new ≡ canon h.value
  first_bytes =
      let bs : List ℕ = canon h.value in
      ap (λ (n : ℕ). take n new) h.is.long ∙ ap (take (length bs)) h.written
      ∙ take-append_seam bs (drop (length bs) old)

  -- The first `c.length` bytes of `new` are the canonical bytes of `m`, and `c.paid` is the price of `m`.
  pub into_answers : AnswersMessage m limits (take c.length new) c.paid
  into_answers = record {
    value = h.value;
    is = h.is.is;
    free = h.is.free;
    canonical = first_bytes;
    priced = h.is.pays;
  }

  pub into_past : drop c.length new ≡ drop c.length old
  into_past =
      let bs : List ℕ = canon h.value in
      ap (λ (n : ℕ). drop n new) h.is.long ∙ ap (drop (length bs)) h.written
      ∙ drop-append_seam bs (drop (length bs) old) ∙ ap (λ (n : ℕ). drop n old) (sym h.is.long)

  pub into_inside : c.length ≤ length new
  into_inside =
      let bs : List ℕ = canon h.value in
      let e = ap length h.written in
      let a = length-append bs (drop (length bs) old) in
      let l = h.is.long in
      omega arith

-- ---- the clauses of a call that writes

module _ (m : List (List ℕ)) (limits : Bounds) (old new : List ℕ) (r : Result CanonicalLength IntoRefusal)
    (h : IfOk r (λ c. WrittenInto m limits old new c)) where
  pub found_into : IfOk r (λ c. AnswersMessage m limits (take c.length new) c.paid)
  found_into = IfOk-weaker r _ _ (λ c k. into_answers m limits old new c k) h

  pub past_into : IfOk r (λ c. drop c.length new ≡ drop c.length old)
  past_into = IfOk-weaker r _ _ (λ c k. into_past m limits old new c k) h

  pub inside_into : IfOk r (λ c. c.length ≤ length new)
  inside_into = IfOk-weaker r _ _ (λ c k. into_inside m limits old new c k) h

  pub short_into : IsMessage m → limits.budget ≤ 2 ^ 28 → limits.depth ≤ 256
      → IfOk r (λ c. c.length ≤ 8 * (c.paid + 1))
  short_into is small shallow = IfOk-weaker r _ _ (λ c k.
      let l = denoted_length m limits k.value is small shallow k.is.is in
      let e = k.is.long in
      let p = k.is.pays in
      omega arith) h

pub short_length : (m : List (List ℕ)) (limits : Bounds) (r : Result CanonicalLength MessageRefusal)
    → IfOk r (λ c. (v : Tree) × IsCanonicalLength m limits v c) → IsMessage m → limits.budget ≤ 2 ^ 28
    → limits.depth ≤ 256 → IfOk r (λ c. c.length ≤ 8 * (c.paid + 1))
short_length m limits r h is small shallow = IfOk-weaker r _ _ (λ c k.
    let l = denoted_length m limits k.0 is small shallow k.1.is in
    let e = k.1.long in
    let p = k.1.pays in
    omega arith) h
