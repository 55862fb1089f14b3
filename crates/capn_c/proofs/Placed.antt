-- Lemmas: the words at the place of an entry are in the bytes at the entry's offset. (For `offsets`.)
use Rattle.std.proofs.Common.{◌≡◌, ℕ, zero, suc, ◌+◌, ◌*◌, ◌<◌, ◌≤◌, List, [], ◌∷◌, ◌++◌, length, take, drop, get_or}
use Rattle.std.proofs.Common.{map, refl, ap, sym, subst, ◌∙◌, arith, length-drop}
use Rattle.std.specs.List.{sum_by}
use Rattle.std.proofs.lemmas.List.{append-nil, drop-append-le, drop-drop, drop_at, take-append-le, take_all}
use Rattle.std.proofs.lemmas.List.Sums.{sum_by-cons}
use Rattle.capn_words.specs.Message.{bytes, segment_at, total, IsBare}
use Rattle.capn_words.proofs.shared.Words.{length-bytes}
use Rattle.capn_words.specs.declared.space.Place.{Place}
use Rattle.capn_stream.specs.Frames.{segment_bytes}
use Rattle.capn_stream.specs.FrameRefusal.{announced_segments, announced_words, head_length}
use Rattle.capn_stream.proofs.shared.FrameLaws.{announces, stands_alone}
use Rattle.capn_walk.specs.Index.{IndexesAreReadable, by_kind, entry_at, entry_of, entry_target, index_of}
use Rattle.capn_target.specs.Shapes.{IsContent, IsInMessage}
use Rattle.capn_target.specs.Target.{content_words}
use Rattle.capn_walk.specs.declared.entry.Entry.{Entry}
use Rattle.capn_walk.specs.declared.kind.Kind.{Kind}
use Rattle.capn_walk.specs.declared.kind.Kind.TheVariants as kinds
use Rattle.capn_target.specs.declared.target.Target.TheVariants as targets
use Rattle.capn_words.specs.declared.pointer.Width.TheVariants.{W0, W1, W8, W16, W32, W64, Link}
use Rattle.capn_canon.specs.Reads.{IsFramed}
use Rattle.capn_canon.specs.declared.form.Form.TheVariants as forms
use Rattle.capn_c.specs.Entries.{c_entry, starts_from, table_length}
use Rattle.capn_c.specs.Offsets.{OffsetsAreOfContents, OffsetsAreOfPlaces, StandAt, StandsAt, entry_place}
use Rattle.capn_c.specs.declared.entries.CapnEntry.{CapnEntry}
use Rattle.capn_c.proofs.Entered.{start_at}

-- ---- the contents of all segments

within_all : (m : List (List ℕ)) (s : ℕ) → s < length m → sum_by length (take s m) + length (segment_at m s) ≤ total m
within_all [] s h = absurd (omega (arith, h))
within_all (ws ∷ m) zero h = omega (arith, sum_by-cons length ws m)
within_all (ws ∷ m) (suc s) h =
    omega (
      arith,
      within_all m s (omega (arith, h)),
      sum_by-cons length ws (take s m),
      sum_by-cons length ws m,
    )

in_contents : (m : List (List ℕ)) (s w n : ℕ) → s < length m → w + n ≤ length (segment_at m s)
    → take (8 * n) (drop (8 * (sum_by length (take s m) + w)) (segment_bytes m))
    ≡ take (8 * n) (drop (8 * w) (bytes (segment_at m s)))
in_contents [] s w n h k = absurd (omega (arith, h))
in_contents (ws ∷ m) zero w n h k =
    let e : 8 * (sum_by length (take zero (ws ∷ m)) + w) ≡ 8 * w = omega arith in
    let long = length-bytes ws in
    let front = drop-append-le (8 * w) (bytes ws) (segment_bytes m) (omega (arith, k, long)) in
    let part = take-append-le (8 * n) (drop (8 * w) (bytes ws)) (segment_bytes m)
    (omega (arith, k, long, length-drop (8 * w) (bytes ws))) in
    ap (λ (i : ℕ). take (8 * n) (drop i (bytes ws ++ segment_bytes m))) e
    ∙ (ap (λ (xs : List ℕ). take (8 * n) xs) front ∙ part)
in_contents (ws ∷ m) (suc s) w n h k =
    let on = sum_by length (take s m) + w in
    let cons = sum_by-cons length ws (take s m) in
    let e : 8 * (sum_by length (take (suc s) (ws ∷ m)) + w) ≡ 8 * length ws + 8 * on = omega (arith, cons) in
    let past = sym (drop-drop (8 * on) (8 * length ws) (bytes ws ++ segment_bytes m))
    ∙ ap (λ (xs : List ℕ). drop (8 * on) xs) (drop_at (bytes ws) (segment_bytes m) (8 * length ws) (length-bytes ws)) in
    ap (λ (i : ℕ). take (8 * n) (drop i (bytes ws ++ segment_bytes m))) e
    ∙ (ap (λ (xs : List ℕ). take (8 * n) xs) past ∙ in_contents m s w n (omega (arith, h)) k)

-- ---- bytes that have the contents of all segments after a table

record HasContents (table : ℕ) (bs : List ℕ) (m : List (List ℕ)) : Type 0 where
  after : drop table bs ≡ segment_bytes m
  long : table + 8 * total m ≡ length bs

stand : (table : ℕ) (bs : List ℕ) (m : List (List ℕ)) → HasContents table bs m → (at : Place) (n : ℕ)
    → IsContent m at n → StandAt bs (table + 8 * (get_or (starts_from 0 m) at.segment 0 + at.word)) m at n
stand table bs m c at n h =
    let on = sum_by length (take at.segment m) + at.word in
    let start = start_at 0 at.segment m 0 h.exists in
    let e : table + 8 * (get_or (starts_from 0 m) at.segment 0 + at.word) ≡ table + 8 * on = omega (arith, start) in
    record {
      inside = omega (arith, start, within_all m at.segment h.exists, h.within, c.long);
      same = ap (λ (i : ℕ). take (8 * n) (drop i bs)) e
          ∙ (ap (λ (xs : List ℕ). take (8 * n) xs) (sym (drop-drop (8 * on) table bs)
          ∙ ap (λ (xs : List ℕ). drop (8 * on) xs) c.after)
          ∙ in_contents m at.segment at.word n h.exists h.within);
    }

-- Case: the bytes are a frame, with the contents after its table.
frame_contents : (bs : List ℕ) (most : ℕ) (m : List (List ℕ)) → IsFramed bs most m
    → HasContents (head_length (length m)) bs m
frame_contents bs most m h =
    let a = announces bs most m (length bs) (stands_alone bs most m h.frame h.room) in
    let head = head_length (announced_segments bs) in
    let size : length (drop head bs) ≤ 8 * announced_words bs = omega (arith, length-drop head bs, a.length_is) in
    let heads : head ≡ head_length (length m) = ap (λ (n : ℕ). head_length n) a.count in
    record {
      after = ap (λ (n : ℕ). drop n bs) (sym heads)
          ∙ (sym (take_all (8 * announced_words bs) (drop head bs) size) ∙ a.contents_are);
      long = omega (arith, heads, a.words, a.length_is);
    }

-- Case: the bytes are bare words, with no table before the contents.
bare_contents : (bs ws : List ℕ) (m : List (List ℕ)) → IsBare bs ws → m ≡ ws ∷ [] → HasContents 0 bs m
bare_contents bs ws m h e = record {
  after = h.same ∙ (sym (append-nil (bytes ws)) ∙ ap (λ (x : List (List ℕ)). segment_bytes x) (sym e));
  long = omega (
    arith,
    ap (λ (x : List (List ℕ)). total x) e,
    sum_by-cons length ws [],
    ap length h.same,
    length-bytes ws,
  );
}

pub placed : OffsetsAreOfPlaces
placed forms.Stream bs most m other r e n h =
    stand (head_length (length m)) bs m (frame_contents bs most m r) (entry_place e) n h
placed forms.Bare bs most m other (ws, h, same) e n k =
    stand 0 bs m (bare_contents bs ws m h same) (entry_place e) n k
placed forms.Packed bs most m other r e n h = absurd (other refl)

-- ---- the entries of an index

written : {A B : Type 0} (f : A → B) (es : List A) (rest : List B) (i : ℕ) (x : A) (none : B) → i < length es
    → get_or (map f es ++ rest) i none ≡ f (get_or es i x)
written f [] rest i x none h = absurd (omega (arith, h))
written f (e ∷ es) rest zero x none h = refl
written f (e ∷ es) rest (suc i) x none h = written f es rest i x none (omega (arith, h))

stands : (bs : List ℕ) (offset : ℕ) (m : List (List ℕ)) (e : Entry) (k : Kind)
    → ((n : ℕ) → IsContent m (entry_place e) n → StandAt bs offset m (entry_place e) n)
    → IsInMessage m (by_kind k e) → StandsAt bs offset m (by_kind k e)
stands bs offset m e kinds.Nil f h = tt
stands bs offset m e kinds.Cap f h = tt
stands bs offset m e kinds.Node f h = f (e.words + e.slots) h.0
stands bs offset m e kinds.Rows f h = f (1 + e.count * (e.words + e.slots)) h.0
stands bs offset m e kinds.Voids f h = f (content_words W0 e.count) h.0
stands bs offset m e kinds.Bits f h = f (content_words W1 e.count) h.0
stands bs offset m e kinds.Bytes f h = f (content_words W8 e.count) h.0
stands bs offset m e kinds.Pairs f h = f (content_words W16 e.count) h.0
stands bs offset m e kinds.Quads f h = f (content_words W32 e.count) h.0
stands bs offset m e kinds.Octs f h = f (content_words W64 e.count) h.0
stands bs offset m e kinds.Links f h = f (content_words Link e.count) h.0

pub contained : IndexesAreReadable → OffsetsAreOfContents
contained law form bs limits old new other h i l none =
    let m = h.message in
    let es = index_of m limits in
    let e = entry_at es i in
    let f = c_entry (table_length form m) (starts_from 0 m) in
    let same : get_or new i none ≡ f e =
    ap (λ (xs : List CapnEntry). get_or xs i none) h.entries
    ∙ written f es (drop (length es) old) i (entry_of targets.Nil 1) none l in
    let at = stands bs (f e).offset m e e.kind (λ n k. placed form bs limits.message_words m other h.reads e n k)
    ((law m limits h.accepted).1 i l).inside in
    subst (λ (c : CapnEntry). StandsAt bs c.offset m (entry_target e)) (sym same) at
