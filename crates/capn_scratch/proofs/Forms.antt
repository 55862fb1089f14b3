-- A result for a message is also a result for the bytes that are read as that message. (For `canonical_form.rt` and
-- `framed.rt`.)
use Rattle.std.proofs.Common.{◌≡◌, ℕ, ◌+◌, ◌-◌, ◌*◌, ◌≤◌, inl, inr, List, length, take, refl, ap, sym, subst, ◌∙◌}
use Rattle.std.proofs.Common.{arith, Result, Ok, Err, IsErrAnd, None, Some}
use Rattle.std.proofs.lemmas.List.{length-take, take_all}
use Rattle.capn_pack.specs.Packed.{Packs}
use Rattle.capn_pack.proofs.shared.GroupLaws.{one_reading}
use Rattle.capn_stream.specs.Frames.{most_table_words}
use Rattle.capn_stream.specs.FrameRefusal.{announced_segments}
use Rattle.capn_value.specs.Tree.{Tree}
use Rattle.capn_value.specs.FirstCap.{first_cap}
use Rattle.capn_walk.specs.Accepted.{IsValueOf, root}
use Rattle.capn_walk.specs.Limits.{Bounds}
use Rattle.capn_walk.proofs.shared.Unique.{unique}
use Rattle.capn_layout.specs.Layout.{canon}
use Rattle.capn_canon.specs.declared.form.Form.{Form}
use Rattle.capn_canon.specs.declared.form.Form.TheVariants as forms
use Rattle.capn_canon.specs.declared.length.CanonicalLength.{CanonicalLength}
use Rattle.capn_canon.specs.declared.message_refusal.IntoRefusal.{IntoRefusal}
use Rattle.capn_canon.specs.declared.message_refusal.IntoRefusal.TheVariants as intos
use Rattle.capn_canon.specs.declared.refusal.Refusal.TheVariants as refusals
use Rattle.capn_canon.specs.Denotes.{Denotes}
use Rattle.capn_canon.specs.MessageRefusal.{IsIntoPaidWithin}
use Rattle.capn_canon.specs.Theorem.{RefusedInto}
use Rattle.capn_canon.proofs.shared.NotRefused.{accepted-not_refused, read-not_misread}
use Rattle.capn_canon.proofs.shared.OneReading.{one_message}
use Rattle.capn_scratch.specs.FormRefusal.{IsFormPaidWithin, IsFormRefused, IsMessageRefused, IsOfInto, IsReadRefused}
use Rattle.capn_scratch.specs.FormRefusal.{LacksTable, LacksText}
use Rattle.capn_scratch.specs.Needs.{HasScratch, HoldsText, Needs, table_need}
use Rattle.capn_scratch.specs.Theorem.{AnsweredForm}
use Rattle.capn_scratch.specs.inner.Outcomes.{IsFormTold, IsFrameRefusedAfter, IsFrameTold, IsTold}
use Rattle.capn_scratch.specs.declared.refusal.FormRefusal.{FormRefusal}
use Rattle.capn_scratch.specs.declared.refusal.FormRefusal.TheVariants as told

-- ---- a message

refused_as : (m : List (List ℕ)) (limits : Bounds) (room : ℕ) (x : IntoRefusal) (e : FormRefusal) → IsOfInto x e
    → RefusedInto m limits room x → IsMessageRefused m limits room e
refused_as m limits room (intos.Walk s) e is h =
    subst (λ (y : FormRefusal). IsMessageRefused m limits room y) (sym is) h
refused_as m limits room (intos.Capability k) e is h =
    subst (λ (y : FormRefusal). IsMessageRefused m limits room y) (sym is) h
refused_as m limits room (intos.NoRoom n p) e is h =
    subst (λ (y : FormRefusal). IsMessageRefused m limits room y) (sym is) h

within_as : (budget : ℕ) (x : IntoRefusal) (e : FormRefusal) → IsOfInto x e → IsIntoPaidWithin budget x
    → IsFormPaidWithin budget e
within_as budget (intos.Walk s) e is h = subst (λ (y : FormRefusal). IsFormPaidWithin budget y) (sym is) h
within_as budget (intos.Capability k) e is h = subst (λ (y : FormRefusal). IsFormPaidWithin budget y) (sym is) tt
within_as budget (intos.NoRoom n p) e is h = subst (λ (y : FormRefusal). IsFormPaidWithin budget y) (sym is) h

pub told_refused : (m : List (List ℕ)) (limits : Bounds) (old new : List ℕ) (r : Result CanonicalLength FormRefusal)
    (x : IntoRefusal) → IsErrAnd r (IsOfInto x) → RefusedInto m limits (length old) x → new ≡ old
    → IsIntoPaidWithin limits.budget x → IsTold m limits old new r
told_refused m limits old new (Ok c) x is h same b = absurd is
told_refused m limits old new (Err e) x is h same b = record {
  written = tt;
  refused = refused_as m limits (length old) x e is h;
  unchanged = same;
  bounded = within_as limits.budget x e is b;
}

-- ---- frames

stream_refused : (bs : List ℕ) (limits : Bounds) (scratch room : ℕ) (e : FormRefusal)
    → IsFrameRefusedAfter 0 bs limits scratch room e → IsFormRefused forms.Stream bs limits scratch room e
stream_refused bs limits scratch room (told.NoScratch n) (k, e, h) =
    let same : k ≡ n = omega (arith, e) in
    inr (subst (λ (i : ℕ). LacksTable forms.Stream bs limits.message_words scratch i) same h)
stream_refused bs limits scratch room (told.Walk s) h = h
stream_refused bs limits scratch room (told.Capability k) h = h
stream_refused bs limits scratch room (told.NoRoom n p) h = h
stream_refused bs limits scratch room (told.Bare e) h = h
stream_refused bs limits scratch room (told.Packed e) h = h
stream_refused bs limits scratch room (told.Frame e) h = h
stream_refused bs limits scratch room (told.Trailing at) h = h

-- If `before` is 0, a result for the frame `bs` is also a result for `bs` in the form `Stream`.
pub stream_told : (bs : List ℕ) (limits : Bounds) (scratch : ℕ) (old new : List ℕ)
    (r : Result CanonicalLength FormRefusal) → IsFrameTold 0 bs limits scratch old new r
    → IsFormTold forms.Stream bs limits scratch old new r
stream_told bs limits scratch old new (Ok c) h =
    record { written = h.written; refused = tt; unchanged = tt; bounded = h.bounded }
stream_told bs limits scratch old new (Err e) h = record {
  written = tt;
  refused = stream_refused bs limits scratch (length old) e h.refused;
  unchanged = h.unchanged;
  bounded = h.bounded;
}

-- ---- packed texts

module _ (bs text : List ℕ) (words : ℕ) (packs : Packs bs text) (long : length text ≡ 8 * words) where
  behind : (scratch k : ℕ) → Needs forms.Stream text k → k ≤ scratch → HasScratch forms.Packed bs (words + scratch)
  behind scratch k need fits =
      (words + k, (text, packs, omega (arith, long, need)), omega (arith, fits))

  holds : (scratch : ℕ) → HoldsText forms.Packed bs (words + scratch)
  holds scratch = (text, packs, omega (arith, long))

  packed_refused : (limits : Bounds) (scratch room : ℕ) (e : FormRefusal)
      → words ≤ limits.message_words + most_table_words → IsFrameRefusedAfter words text limits scratch room e
      → IsFormRefused forms.Packed bs limits (words + scratch) room e
  packed_refused limits scratch room (told.NoScratch n) few (k, e, (m, is, free, need, short)) =
      inr (
        m,
        (text, record { packs = packs; room = omega (arith, long, few) }, is),
        holds scratch,
        (text, packs, omega (arith, e, long, need)),
        omega (arith, e, short),
      )
  packed_refused limits scratch room (told.Walk s) few (m, is, (k, need, fits), h) =
      (m, (text, record { packs = packs; room = omega (arith, long, few) }, is), behind scratch k need fits, h)
  packed_refused limits scratch room (told.Capability c) few (m, is, (k, need, fits), h) =
      (m, (text, record { packs = packs; room = omega (arith, long, few) }, is), behind scratch k need fits, h)
  packed_refused limits scratch room (told.NoRoom n p) few (m, is, (k, need, fits), h) =
      (m, (text, record { packs = packs; room = omega (arith, long, few) }, is), behind scratch k need fits, h)
  packed_refused limits scratch room (told.Bare e) few h = absurd h
  packed_refused limits scratch room (told.Packed e) few h = absurd h
  packed_refused limits scratch room (told.Frame e) few h =
      (holds scratch, (text, record { packs = packs; room = omega (arith, long, few) }, h.1))
  packed_refused limits scratch room (told.Trailing at) few h =
      (holds scratch, (text, record { packs = packs; room = omega (arith, long, few) }, h.1))

  -- A result for the frame `text` is also a result for the packed text `bs` that unpacks to `text`.
  pub packed_told : (limits : Bounds) (scratch : ℕ) (old new : List ℕ) (r : Result CanonicalLength FormRefusal)
      → words ≤ limits.message_words + most_table_words → IsFrameTold words text limits scratch old new r
      → IsFormTold forms.Packed bs limits (words + scratch) old new r
  packed_told limits scratch old new (Ok c) few h =
      let w = h.written in
      record {
        written = record {
          message = w.message;
          reads = (text, record { packs = packs; room = omega (arith, long, few) }, w.reads);
          has = behind scratch w.has.0 w.has.1 w.has.2;
          written = w.written;
        };
        refused = tt;
        unchanged = tt;
        bounded = h.bounded;
      }
  packed_told limits scratch old new (Err e) few h = record {
    written = tt;
    refused = packed_refused limits scratch (length old) e few h.refused;
    unchanged = h.unchanged;
    bounded = h.bounded;
  }

-- Suppose that `bs` unpack to the first `n` words of `text`, and that `text` has as many words as `bs` unpack to. Then
-- `bs` unpack to `text`.
pub all_unpacked : (bs packed text : List ℕ) (n words : ℕ) → Packs bs packed → length packed ≡ 8 * words
    → Packs bs (take (8 * n) text) → length text ≡ 8 * words → Packs bs text
all_unpacked bs packed text n words p long q size =
    let same = one_reading bs packed (take (8 * n) text) p q in
    let whole : length text ≤ 8 * n = omega (arith, size, long, ap length same, length-take (8 * n) text) in
    subst (λ (xs : List ℕ). Packs bs xs) (take_all (8 * n) text whole) q

-- ---- the theorem

not_message : (m : List (List ℕ)) (limits : Bounds) (room : ℕ) (e : FormRefusal) → IsMessageRefused m limits room e
    → (v : Tree) → IsValueOf m limits v → first_cap v ≡ None → length (canon v) ≤ room → ⊥
not_message m limits room (told.Walk s) h v is free fits = accepted-not_refused m limits s is.accepted h
not_message m limits room (told.Capability k) (w, also, e) v is free fits =
    let f : Some k ≡ None = sym e ∙ ap first_cap (unique m w v root also.is is.is) ∙ free in absurd cc
not_message m limits room (told.NoRoom n p) (w, also, f, e, l, c) v is free fits =
    let s = ap (λ (x : Tree). length (canon x)) (unique m w v root also.is is.is) in
    omega (arith, s, e, l, fits)
not_message m limits room (told.Bare e) h v is free fits = h
not_message m limits room (told.Packed e) h v is free fits = h
not_message m limits room (told.Frame e) h v is free fits = h
not_message m limits room (told.Trailing at) h v is free fits = h
not_message m limits room (told.NoScratch n) h v is free fits = h

-- If `bs` need `n` words of scratch and `k` words of scratch (`Needs`), `n` equals `k`.
pub one_need : (form : Form) (bs : List ℕ) (n k : ℕ) → Needs form bs n → Needs form bs k → n ≡ k
one_need forms.Bare bs n k h i = h ∙ sym i
one_need forms.Stream bs n k h i = h ∙ sym i
one_need forms.Packed bs n k (t, p, e) (u, q, f) =
    let same = one_reading bs t u p q in
    omega (arith, e, f, ap (λ (xs : List ℕ). length xs + 8 * table_need (announced_segments xs)) same)

not_read : (form : Form) (bs : List ℕ) (limits : Bounds) (scratch room : ℕ) (e : FormRefusal)
    → IsReadRefused form bs limits scratch room e → (v : Tree) → Denotes form bs limits v → first_cap v ≡ None
    → length (canon v) ≤ room → ⊥
not_read form bs limits scratch room e (m, is, has, h) v d free fits =
    let same = one_message form bs limits.message_words d.message m d.reads is in
    not_message m limits room e h v (subst (λ (x : List (List ℕ)). IsValueOf x limits v) same d.value) free fits

pub not_short : (form : Form) (bs : List ℕ) (most scratch n : ℕ) → LacksText form bs most scratch n
    → HasScratch form bs scratch → ⊥
not_short forms.Bare bs most scratch n h has = h
not_short forms.Stream bs most scratch n h has = h
not_short forms.Packed bs most scratch n (t, u, e, short) (k, (s, q, f), fits) =
    let same = one_reading bs t s u.packs q in
    omega (arith, e, short, f, fits, ap length same)

pub not_refused : (form : Form) (bs : List ℕ) (limits : Bounds) (scratch room : ℕ) (e : FormRefusal)
    → IsFormRefused form bs limits scratch room e → (v : Tree) → Denotes form bs limits v → first_cap v ≡ None
    → HasScratch form bs scratch → length (canon v) ≤ room → ⊥
not_refused form bs limits scratch room (told.Bare e) h v d free has fits =
    read-not_misread form bs limits.message_words d.message (refusals.Bare e) d.reads h
not_refused form bs limits scratch room (told.Packed e) h v d free has fits =
    read-not_misread form bs limits.message_words d.message (refusals.Packed e) d.reads h
not_refused form bs limits scratch room (told.Frame e) h v d free has fits =
    read-not_misread form bs limits.message_words d.message (refusals.Frame e) d.reads h.1
not_refused form bs limits scratch room (told.Trailing at) h v d free has fits =
    read-not_misread form bs limits.message_words d.message (refusals.Trailing at) d.reads h.1
not_refused form bs limits scratch room (told.NoScratch n) (inl h) v d free has fits =
    not_short form bs limits.message_words scratch n h has
not_refused form bs limits scratch room (told.NoScratch n) (inr (m, is, holds, need, short)) v d free has fits =
    omega (arith, one_need form bs n has.0 need has.1, short, has.2)
not_refused form bs limits scratch room (told.Walk s) h v d free has fits =
    not_read form bs limits scratch room (told.Walk s) h v d free fits
not_refused form bs limits scratch room (told.Capability k) h v d free has fits =
    not_read form bs limits scratch room (told.Capability k) h v d free fits
not_refused form bs limits scratch room (told.NoRoom n p) h v d free has fits =
    not_read form bs limits scratch room (told.NoRoom n p) h v d free fits

-- The theorem of `canonical_into_form` holds of each result `r` that `IsFormTold` allows.
pub answered : (form : Form) (bs : List ℕ) (limits : Bounds) (scratch : ℕ) (old new : List ℕ)
    (r : Result CanonicalLength FormRefusal) → IsFormTold form bs limits scratch old new r
    → AnsweredForm form bs limits scratch (length old) r
answered form bs limits scratch old new (Ok c) h =
    let w = h.written in (
      (λ k. (
        w.written.value,
        record { message = w.message; reads = w.reads; value = w.written.is.is },
        w.written.is.free,
        w.has,
        w.written.room,
      )),
      (λ d. refl),
    )
answered form bs limits scratch old new (Err e) h = (
  (λ k. absurd cc),
  (λ d. absurd (not_refused form bs limits scratch (length old) e h.refused d.0 d.1 d.2 d.3 d.4)),
)
