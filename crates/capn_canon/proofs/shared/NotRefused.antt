-- Bytes that denote a value without capabilities are refused only by `Memory`. (For `denotation`, capn_answers,
-- capn_archive and other crates.)
use Rattle.std.proofs.Common.{◌≡◌, inl, inr, ℕ, ◌+◌, List, length, Some, None, refl, ap, sym, subst, ◌∙◌, arith}
use Rattle.capn_words.proofs.shared.OneSegment.{bare_not_refused}
use Rattle.capn_pack.proofs.shared.GroupLaws.{refused_only, one_reading}
use Rattle.capn_stream.specs.Frames.{most_table_words}
use Rattle.capn_stream.proofs.shared.FrameLaws.{one_frame, stands_alone, whole_of, refused_whole}
use Rattle.capn_value.specs.Tree.{Tree}
use Rattle.capn_value.specs.FirstCap.{first_cap}
use Rattle.capn_walk.specs.declared.walk_answer.Stopped.{Stopped}
use Rattle.capn_walk.specs.inner.Verdict.{accepted, refused}
use Rattle.capn_walk.specs.Accepted.{IsAccepted}
use Rattle.capn_walk.specs.Accepted as walks
use Rattle.capn_walk.specs.Limits.{Bounds}
use Rattle.capn_walk.proofs.shared.Stops.{within-accepted, stop-refused}
use Rattle.capn_canon.specs.declared.form.Form.{Form}
use Rattle.capn_canon.specs.declared.form.Form.TheVariants as forms
use Rattle.capn_canon.specs.declared.refusal.Refusal.{Refusal}
use Rattle.capn_canon.specs.declared.refusal.Refusal.TheVariants as refusals
use Rattle.capn_canon.specs.Reads.{IsFramed, Unpacks, Reads}
use Rattle.capn_canon.specs.Denotes.{Denotes}
use Rattle.capn_canon.specs.Refusal.{IsMisframed, IsMisread, IsRefusedMessage, IsRefused}
use Rattle.capn_canon.proofs.shared.OneReading.{one_message, one_value}

framed-read : (bs : List ℕ) (most : ℕ) (m : List (List ℕ)) (r : Refusal) → IsFramed bs most m → IsMisframed bs most r
    → ⊥
framed-read bs most m (refusals.Frame e) h r =
    r.0 (refused_whole bs most e (whole_of bs most m (length bs) (stands_alone bs most m h.frame h.room)) r.1)
framed-read bs most m (refusals.Trailing at) h (n, k, l) =
    let e = (one_frame bs most most n m at (length bs) k (stands_alone bs most m h.frame h.room)).1 in
    absurd (omega arith)
framed-read bs most m (refusals.Bare e) h r = r
framed-read bs most m (refusals.Packed e) h r = r
framed-read bs most m (refusals.Walk s) h r = r
framed-read bs most m (refusals.Capability k) h r = r
framed-read bs most m refusals.Memory h r = r

unpacked-read : (bs : List ℕ) (most : ℕ) (m : List (List ℕ)) (r : Refusal) → Reads forms.Packed bs most m
    → (text : List ℕ) × Unpacks bs most text × IsMisframed text most r → ⊥
unpacked-read bs most m r (t, h, k) (u, i, j) =
    let same = one_reading bs u t i.packs h.packs in
    framed-read t most m r k (subst (λ (x : List ℕ). IsMisframed x most r) same j)

-- If `bs` are read as a message, no refusal says why they are not read (`IsMisread`).
pub read-not_misread : (form : Form) (bs : List ℕ) (most : ℕ) (m : List (List ℕ)) (r : Refusal) → Reads form bs most m
    → IsMisread form bs most r → ⊥
read-not_misread forms.Bare bs most m (refusals.Bare e) (ws, h, i) r = bare_not_refused bs ws e h r
read-not_misread forms.Bare bs most m (refusals.Packed e) h r = r
read-not_misread forms.Bare bs most m (refusals.Frame e) h r = r
read-not_misread forms.Bare bs most m (refusals.Trailing at) h r = r
read-not_misread forms.Bare bs most m (refusals.Walk s) h r = r
read-not_misread forms.Bare bs most m (refusals.Capability k) h r = r
read-not_misread forms.Bare bs most m refusals.Memory h r = r
read-not_misread forms.Stream bs most m r h i = framed-read bs most m r h i
read-not_misread forms.Packed bs most m (refusals.Packed e) (t, h, k) r =
    r.0 (refused_only e bs t (most + most_table_words) r.1 h.packs h.room)
read-not_misread forms.Packed bs most m (refusals.Bare e) h r = unpacked-read bs most m (refusals.Bare e) h r
read-not_misread forms.Packed bs most m (refusals.Frame e) h r = unpacked-read bs most m (refusals.Frame e) h r
read-not_misread forms.Packed bs most m (refusals.Trailing at) h r = unpacked-read bs most m (refusals.Trailing at) h r
read-not_misread forms.Packed bs most m (refusals.Walk s) h r = unpacked-read bs most m (refusals.Walk s) h r
read-not_misread forms.Packed bs most m (refusals.Capability k) h r =
    unpacked-read bs most m (refusals.Capability k) h r
read-not_misread forms.Packed bs most m refusals.Memory h r = unpacked-read bs most m refusals.Memory h r

-- The walk of an accepted message is not refused (`IsWalkRefused`).
pub accepted-not_refused : (m : List (List ℕ)) (limits : Bounds) (s : Stopped) → IsAccepted m limits →
    walks.IsWalkRefused m limits s.fault s.place s.paid s.visits → ⊥
accepted-not_refused m limits s h (inl r) = let a = h.some in let b = r.0 in absurd (omega arith)
accepted-not_refused m limits s h (inr r) =
    let a = within-accepted limits.budget (walks.visits_within m limits) h.within.all h.within.paid in
    let b = stop-refused limits.budget (walks.visits_within m limits) s.fault s.place s.paid s.visits r.1 in
    let e : accepted (walks.paid m limits) (walks.number_of_visits m limits) ≡ refused s.fault s.place s.paid s.visits =
    sym a ∙ b in
    absurd cc

-- If `bs` denote a value without capabilities, a refusal of `bs` is `Memory`.
pub not_refused : (form : Form) (bs : List ℕ) (limits : Bounds) (v : Tree) (r : Refusal) → Denotes form bs limits v
    → first_cap v ≡ None → IsRefused form bs limits r → r ≡ refusals.Memory
not_refused form bs limits v refusals.Memory h n r = refl
not_refused form bs limits v (refusals.Capability k) h n (m, i, (w, j, e)) =
    let same = one_value form bs limits v w h (record { message = m; reads = i; value = j }) in
    let f : Some k ≡ None = sym e ∙ ap first_cap (sym same) ∙ n in
    absurd cc
not_refused form bs limits v (refusals.Walk s) h n (m, i, r) =
    let same = one_message form bs limits.message_words h.message m h.reads i in
    absurd (accepted-not_refused m limits s (subst (λ (x : List (List ℕ)). IsAccepted x limits) same h.value.accepted)
    r)
not_refused form bs limits v (refusals.Bare e) h n r =
    absurd (read-not_misread form bs limits.message_words h.message (refusals.Bare e) h.reads r)
not_refused form bs limits v (refusals.Packed e) h n r =
    absurd (read-not_misread form bs limits.message_words h.message (refusals.Packed e) h.reads r)
not_refused form bs limits v (refusals.Frame e) h n r =
    absurd (read-not_misread form bs limits.message_words h.message (refusals.Frame e) h.reads r)
not_refused form bs limits v (refusals.Trailing at) h n r =
    absurd (read-not_misread form bs limits.message_words h.message (refusals.Trailing at) h.reads r)

-- If `bs` are read as `m`, a refusal of `m` is also a refusal of `bs`.
pub refused_message : (form : Form) (bs : List ℕ) (limits : Bounds) (m : List (List ℕ)) (r : Refusal)
    → Reads form bs limits.message_words m → IsRefusedMessage m limits r → IsRefused form bs limits r
refused_message form bs limits m (refusals.Walk s) h r = (m, h, r)
refused_message form bs limits m (refusals.Capability k) h r = (m, h, r)
refused_message form bs limits m refusals.Memory h r = tt
refused_message form bs limits m (refusals.Bare e) h r = absurd r
refused_message form bs limits m (refusals.Packed e) h r = absurd r
refused_message form bs limits m (refusals.Frame e) h r = absurd r
refused_message form bs limits m (refusals.Trailing at) h r = absurd r
