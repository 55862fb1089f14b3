-- Lemmas on the bytes that a run holds of a message whose frame is refused, for each call at which a run may stop.
use Rattle.std.proofs.Common.{◌≡◌, inl, inr, ℕ, ◌+◌, ◌-◌, ◌≤◌, min, List, [], ◌++◌, length, take, drop, Bool, true}
use Rattle.std.proofs.Common.{false, Option, Result, Ok, Err, IfErr, refl, ap, sym, subst, ◌∙◌, append_assoc, arith}
use Rattle.std.proofs.lemmas.List.{take-append-drop, take_rest}
use Rattle.std.proofs.Math.Seq.{take-add}
use Rattle.capn_pack.specs.PackedPieces as packing
use Rattle.capn_pack.specs.PackedPieces.{Feeds, Held, Splits}
use Rattle.capn_pack.proofs.shared.StreamLemmas.{begins_then}
use Rattle.capn_stream.specs.StreamPieces.{FeedGives, Framing, KeepsHead}
use Rattle.capn_stream.specs.FrameRefusal.{IsFrameRefused}
use Rattle.capn_stream.specs.declared.fault.FrameFault.{FrameFault}
use Rattle.capn_stream.specs.declared.fault.FrameFault.TheVariants as frames
use Rattle.capn_canon.specs.declared.refusal.Refusal.TheVariants as refusals
use Rattle.capn_serve.specs.declared.position.Position.{Position}
use Rattle.capn_serve.specs.declared.fault.RunFault.{RunFault}
use Rattle.capn_serve.specs.declared.fault.RunFault.TheVariants as faults
use Rattle.capn_serve.specs.Fold.{Fold, AreParts}
use Rattle.capn_serve.specs.Outgoing.{Outgoing, SendsRest}
use Rattle.capn_serve.specs.ChunkRun.{AddsMessage, IsListening, Passes, Tells, fault_at}
use Rattle.capn_serve.specs.StreamRun.{taken_of}
use Rattle.capn_serve.specs.PackedChunkRun.{Pending, TellsPacked, pending}
use Rattle.capn_serve.specs.WhatCame.{HoldsTable}
use Rattle.capn_serve.specs.inner.Holding.{Holds, HoldsPacked, IsOfMessage, IsWithin}
use Rattle.capn_serve.proofs.More.{parts_longer, parts_more}
use Rattle.capn_serve.proofs.PackedMore.{begins_all, begins_longer, taken_after, within_taken}

abbrev Ending : Type 0
Ending = Result (Unit {0}) RunFault

-- ---- faults that refuse no frame

module _ {X : Type 0} (f : Fold X) (x : X) where
  pub holds_memory : (s came : List ℕ) (y : X) → Holds f x s faults.Memory came y
  holds_memory s came y = inr (record { frame = λ at h. cc; group = λ at o h. cc }, λ at n h. absurd (cc))

  pub holds_io : (s came : List ℕ) (y : X) → Holds f x s faults.Io came y
  holds_io s came y = inr (record { frame = λ at h. cc; group = λ at o h. cc }, λ at n h. absurd (cc))

  pub holds_long : (s came : List ℕ) (y : X) → Holds f x s faults.InputTooLong came y
  holds_long s came y = inr (record { frame = λ at h. cc; group = λ at o h. cc }, λ at n h. absurd (cc))

  pub holds_message : (s came : List ℕ) (y : X) (fault : RunFault) → IsOfMessage f fault → Holds f x s fault came y
  holds_message s came y fault (inl is) =
      subst (λ (g : RunFault). Holds f x s g came y) (sym is) (holds_memory s came y)
  holds_message s came y fault (inr (inl is)) =
      subst (λ (g : RunFault). Holds f x s g came y) (sym is) (holds_io s came y)
  holds_message s came y fault (inr (inr own)) = inl own

  -- If `fault` is the reason why a message was not served, `IsOfMessage` holds for `fault`.
  pub adds_fault : (frame : List ℕ) (message : List (List ℕ)) (a b : Outgoing) (failed : Bool) (fault : RunFault)
      (y : X) → AddsMessage f x frame message a b failed (Err fault) y → IsOfMessage f fault
  adds_fault frame message a b failed faults.Memory y adds = inl refl
  adds_fault frame message a b failed faults.Io y adds = inr (inl refl)
  adds_fault frame message a b failed faults.InputTooLong y adds = absurd adds
  adds_fault frame message a b failed (faults.Refused at r) y adds =
      inr (inr (x, (frame, message, r, adds.1, ap (λ (p : Position). faults.Refused p r) adds.0)))

pub pass_fault : {X : Type 0} (f : Fold X) (fault : FrameFault) (r : Ending) → Passes fault r
    → IfErr r (λ e. IsOfMessage f e)
pass_fault f fault (Ok u) passes = tt
pass_fault f fault (Err e) (memory, is) = inl is

pub sent_fault : (P : RunFault → Type 0) (text : List ℕ) (d e : Option (List ℕ)) (broken failed : Bool)
    (served result : Ending) → P faults.Io → SendsRest served text d e broken failed result → IfErr served P
    → IfErr result P
sent_fault P text d e true failed served result io (same, broken, is) holds =
    subst (λ (r : Ending). IfErr r P) (sym is) holds
sent_fault P text d e false false served result io (wrote, is) holds =
    subst (λ (r : Ending). IfErr r P) (sym is) holds
sent_fault P text d e false true served result io (wrote, is) holds =
    subst (λ (r : Ending). IfErr r P) (sym is) io

-- ---- a frame that is refused

module _ {X : Type 0} (f : Fold X) (x : X) (before : Framing) (bytes : List ℕ) (listening : IsListening f before) where
  table : (k i : ℕ) (held : List ℕ) → held ≡ before.rest ++ take i bytes
      → IsFrameRefused held before.most (frames.TooManyWords k)
      → HoldsTable f x (before.rest ++ bytes) k held x
  table k i held is refused =
      let whole : held ++ drop i bytes ≡ before.rest ++ bytes =
      ap (λ (p : List ℕ). p ++ drop i bytes) is
      ∙ append_assoc before.rest (take i bytes) (drop i bytes)
      ∙ ap (λ (p : List ℕ). before.rest ++ p) (take-append-drop i bytes) in (
        drop i bytes,
        ([], record { each = refl; is = sym whole }),
        subst (λ (m : ℕ). IsFrameRefused held m (frames.TooManyWords k)) listening.most refused,
      )

  pub holds_refused : (e : FrameFault) (after : Framing) → FeedGives before bytes (Err e) after
      → KeepsHead before.rest bytes before.most after.rest e
      → Holds f x (before.rest ++ bytes) (fault_at (f.place x) e) after.rest x
  holds_refused frames.Memory after fed kept = holds_memory f x (before.rest ++ bytes) after.rest x
  holds_refused frames.Empty after fed kept = absurd fed
  holds_refused frames.Cut after fed kept = absurd fed
  holds_refused frames.Failed after fed kept =
      absurd (let e : true ≡ false = sym fed.0 ∙ listening.good in cc)
  holds_refused (frames.TooManySegments k) after fed kept =
      inr (record { frame = λ at h. cc; group = λ at o h. cc }, λ at n h. absurd (cc))
  holds_refused (frames.TooManyWords k) after fed ((i, is), refused) =
      inr (
        record { frame = λ at h. cc; group = λ at o h. cc },
        λ at n h. (let same : k ≡ n = cc in
            subst (λ (m : ℕ). HoldsTable f x (before.rest ++ bytes) m after.rest x) same
            (table k i after.rest is refused)),
      )

-- ---- after messages that were served

module _ {X : Type 0} (f : Fold X) (x y z : X) (s mid e came : List ℕ) (a b : Outgoing) (told : Tells f x s mid a b y)
  where
    pub table_more : (n : ℕ) → HoldsTable f y (mid ++ e) n came z → HoldsTable f x (s ++ e) n came z
    table_more n (more, (parts, are), refused) =
        (more, (told.0 ++ parts, parts_more f x y z s mid e (came ++ more) told.0 parts told.1 are), refused)

    pub holds_more : (fault : RunFault) → Holds f y (mid ++ e) fault came z → Holds f x (s ++ e) fault came z
    holds_more fault (inl own) = inl own
    holds_more fault (inr (within, held)) = inr (within, λ at n h. table_more n (held at n h))

module _ {X : Type 0} (f : Fold X) (x z : X) (came : List ℕ) where
  pub table_longer : (s more : List ℕ) (n : ℕ) → HoldsTable f x s n came z → HoldsTable f x (s ++ more) n came z
  table_longer s more n (behind, (parts, are), refused) = (
    behind ++ more,
    (
      parts,
      subst (λ (l : List ℕ). AreParts f x (s ++ more) parts l z) (append_assoc came behind more)
          (parts_longer f x z s (came ++ behind) more parts are),
    ),
    refused,
  )

-- Case: the first `at` bytes of a chunk were served before the run stopped.
pub holds_served : {X : Type 0} (f : Fold X) (x y z : X) (first before : Framing) (bytes came : List ℕ) (at : ℕ)
    (a b : Outgoing) (fault : RunFault) → Tells f x (first.rest ++ take at bytes) before.rest a b y
    → Holds f y (before.rest ++ take (length bytes - at) (drop at bytes)) fault came z
    → Holds f x (first.rest ++ bytes) fault came z
holds_served f x y z first before bytes came at a b fault told held =
    let part = subst (λ (p : List ℕ). Holds f y (before.rest ++ p) fault came z) (take_rest bytes at) held in
    let whole : (first.rest ++ take at bytes) ++ drop at bytes ≡ first.rest ++ bytes =
    append_assoc first.rest (take at bytes) (drop at bytes)
    ∙ ap (λ (p : List ℕ). first.rest ++ p) (take-append-drop at bytes) in
    subst (λ (p : List ℕ). Holds f x p fault came z) whole
    (holds_more f x y z (first.rest ++ take at bytes) before.rest (drop at bytes) came a b told fault part)

-- Case: no byte of the chunk `bytes` was served before the run stopped.
pub holds_next : {X : Type 0} (f : Fold X) (x y z : X) (stream bytes came : List ℕ) (n : ℕ) (a b : Outgoing)
    (r : Result ℕ RunFault) → n ≡ 0 → Tells f x (take n bytes) [] a b y
    → IfErr r (λ e. Holds f y stream e came z) → IfErr r (λ e. Holds f x stream e came z)
holds_next f x y z stream bytes came n a b (Ok m) none told held = tt
holds_next f x y z stream bytes came n a b (Err fault) none told held =
    let nothing : Tells f x [] [] a b y = subst (λ (k : ℕ). Tells f x (take k bytes) [] a b y) none told in
    holds_more f x y z [] [] stream came a b nothing fault held

pub holds_part : {X : Type 0} (f : Fold X) (x y : X) (left within count : ℕ) (rest stream got came : List ℕ)
    (fault : RunFault) → got ≡ stream → count ≡ length stream → within ≡ min left count
    → Holds f x (rest ++ take within got) fault came y → Holds f x (rest ++ taken_of left stream) fault came y
holds_part f x y left within count rest stream got came fault same size least held =
    subst (λ (p : List ℕ). Holds f x (rest ++ p) fault came y)
    (within_taken left within count stream got same size least) held

-- ---- in packed bytes

module _ {X : Type 0} (f : Fold X) (x y : X) (held next : Held) (before : Framing) (left : ℕ)
    (bytes old new came : List ℕ) (none : old ≡ []) (fed : Feeds held bytes old new next) where
  split : Splits (held.rest ++ bytes) next.rest [] new fed.len
  split = subst (λ (l : List ℕ). Splits (held.rest ++ bytes) next.rest l new fed.len) none fed.split

  -- Case: the slice `bytes` was unpacked to `new`, and the run stopped while `new` was served.
  pub holds_slice : (r : Ending) → IfErr r (λ e. Holds f x (before.rest ++ taken_of left new) e came y)
      → IfErr r (λ e. HoldsPacked f x (pending held before left) bytes e came y)
  holds_slice (Ok u) h = tt
  holds_slice (Err fault) (inl own) = inl own
  holds_slice (Err fault) (inr (within, table)) = inr (
    within,
    λ at n h. (new, begins_all (held.rest ++ bytes) next.rest new fed.len split, table at n h),
  )

module _ {X : Type 0} (f : Fold X) (x : X) (p : Pending) (bytes came : List ℕ) (y : X) where
  pub packed_holds : (fault : RunFault) → IsWithin fault → ((at : Position) (n : ℕ)
      → fault ≡ faults.Refused at (refusals.Frame (frames.TooManyWords n)) → ⊥) → HoldsPacked f x p bytes fault came y
  packed_holds fault within other = inr (within, λ at n h. absurd (other at n h))

  pub packed_holds_memory : HoldsPacked f x p bytes faults.Memory came y
  packed_holds_memory =
      packed_holds faults.Memory (record { frame = λ at h. cc; group = λ at o h. cc }) (λ at n h. cc)

  pub packed_holds_io : HoldsPacked f x p bytes faults.Io came y
  packed_holds_io = packed_holds faults.Io (record { frame = λ at h. cc; group = λ at o h. cc }) (λ at n h. cc)

-- Case: the packed bytes `s` were served, and the run stopped within the packed bytes `t` after `s`.
module _ {X : Type 0} (f : Fold X) (x y z : X) (p q : Pending) (s t came : List ℕ) (a b : Outgoing)
    (told : TellsPacked f x p s q a b y) where
  pub packed_holds_more : (fault : RunFault) → HoldsPacked f y q t fault came z
      → HoldsPacked f x p (s ++ t) fault came z
  packed_holds_more fault (inl own) = inl own
  packed_holds_more fault (inr (within, held)) = inr (
    within,
    λ at n h. (let (v, begins, table) = held at n h in
        let w = told.stream in
        let all = begins_then (p.group.rest ++ s) q.group.rest t w v told.len told.split begins in
        let part = table_more f x y z (p.rest ++ w) q.rest (taken_of q.left v) came a b told.told n table in
        let taken : (p.rest ++ w) ++ taken_of q.left v ≡ p.rest ++ taken_of p.left (w ++ v) =
        append_assoc p.rest w (taken_of q.left v)
        ∙ ap (λ (l : List ℕ). p.rest ++ l) (sym (taken_after q.left p.left v w told.size)) in (
          w ++ v,
          subst (λ (l : List ℕ). packing.Begins l [] (w ++ v)) (append_assoc p.group.rest s t) all,
          subst (λ (l : List ℕ). HoldsTable f x l n came z) taken part,
        )),
  )

pub packed_holds_longer : {X : Type 0} (f : Fold X) (x z : X) (p : Pending) (s bytes more came : List ℕ)
    (fault : RunFault) → s ++ more ≡ bytes → HoldsPacked f x p s fault came z → HoldsPacked f x p bytes fault came z
packed_holds_longer f x z p s bytes more came fault whole (inl own) = inl own
packed_holds_longer f x z p s bytes more came fault whole (inr (within, held)) = inr (
  within,
  λ at n h. (let (stream, begins, table) = held at n h in
      (stream, begins_longer p.group.rest s bytes more stream whole begins, table)),
)

-- Case: the first `at` of the packed `bytes` were served, and the run stopped within the slice from `at` to `end`.
pub packed_holds_slice : {X : Type 0} (f : Fold X) (x y z : X) (p q : Pending) (bytes came : List ℕ) (at end : ℕ)
    (a b : Outgoing) (fault : RunFault) → at ≤ end → TellsPacked f x p (take at bytes) q a b y
    → HoldsPacked f y q (take (end - at) (drop at bytes)) fault came z → HoldsPacked f x p bytes fault came z
packed_holds_slice f x y z p q bytes came at end a b fault forward told held =
    let whole : at + (end - at) ≡ end = omega (arith, forward) in
    let joined : take at bytes ++ take (end - at) (drop at bytes) ≡ take end bytes =
    sym (take-add at (end - at) bytes) ∙ ap (λ (i : ℕ). take i bytes) whole in
    packed_holds_longer f x z p (take at bytes ++ take (end - at) (drop at bytes)) bytes (drop end bytes) came fault
    (ap (λ (l : List ℕ). l ++ drop end bytes) joined ∙ take-append-drop end bytes)
    (packed_holds_more f x y z p q (take at bytes) (take (end - at) (drop at bytes)) came a b told fault held)
