-- Lemmas on a fold that treats each message in one way. The messages of an input then have one text and one ending.
use Rattle.std.proofs.Common.{◌≡◌, ◌⊎◌, inl, inr, ℕ, ◌≤◌, List, [], ◌∷◌, ◌++◌, length, take, Bool, Option, true, false}
use Rattle.std.proofs.Common.{Result, Ok, Err, refl, ap, sym, subst, ◌∙◌, append_assoc, arith, length-append}
use Rattle.std.proofs.Math.Seq.{take-length, take-append-le}
use Rattle.capn_words.specs.Message.{total}
use Rattle.capn_words.specs.declared.bare.BareFault.{BareFault}
use Rattle.capn_words.proofs.shared.OneSegment.{bare_not_refused, one_bare, one_bare_fault}
use Rattle.capn_pack.proofs.shared.FirstParts.{append_same}
use Rattle.capn_pack.proofs.shared.SplitLaws.{one_split}
use Rattle.capn_stream.specs.Frames.{Frames, StandsFirst}
use Rattle.capn_stream.specs.declared.fault.FrameFault.{FrameFault}
use Rattle.capn_stream.proofs.shared.FrameLaws.{one_frame, refused_whole, whole_of}
use Rattle.capn_stream.proofs.shared.FrameLaws as frame_laws
use Rattle.capn_canon.specs.declared.form.Form.{Form}
use Rattle.capn_canon.specs.declared.form.Form.TheVariants as forms
use Rattle.capn_canon.specs.declared.refusal.Refusal.{Refusal}
use Rattle.capn_canon.specs.declared.refusal.Refusal.TheVariants as refusals
use Rattle.capn_serve.specs.declared.fault.RunFault.{RunFault}
use Rattle.capn_serve.specs.declared.fault.RunFault.TheVariants as faults
use Rattle.capn_serve.proofs.shared.Until.{ends_open, is_done, known}
use Rattle.capn_serve.specs.Fold.{AreServed, EndsBy, EndsRefused, EndsUnframed, Fold, IfGoing, IsFolded, Part, end_of}
use Rattle.capn_serve.specs.Fold.{frames_of, texts_of}
use Rattle.capn_serve.specs.StreamRun.{behind, has_more, taken_of}
use Rattle.capn_serve.specs.PackedRun.{IsDuePacked, cut_group, unless_more}
use Rattle.capn_serve.specs.BareRun.{EndsBare, WritesBy}
use Rattle.capn_serve.specs.FormRun.{AreMessages, most_stream}

abbrev pub Ending : Type 0
Ending = Result (Unit {0}) RunFault

abbrev pub stopped : RunFault → Ending
stopped fault = Err fault

abbrev pub done : Ending
done = Ok tt

-- In each state a message writes one text and leads to one state, or is refused for one reason, but not both.
pub record IsOneWay {X : Type 0} (f : Fold X) : Type 0 where
  pub steps : (x : X) (frame : List ℕ) (message : List (List ℕ)) (t u : List ℕ) (y z : X) → f.step x frame message t y
      → f.step x frame message u z → (t ≡ u) × (y ≡ z)
  pub refusals : (x : X) (frame : List ℕ) (message : List (List ℕ)) (r s : Refusal) → f.refuses x frame message r
      → f.refuses x frame message s → r ≡ s
  pub never_both : (x : X) (frame : List ℕ) (message : List (List ℕ)) (t : List ℕ) (y : X) (r : Refusal)
      → f.step x frame message t y → f.refuses x frame message r → ⊥

stands_first : (most : ℕ) (frame more : List ℕ) (message : List (List ℕ)) → Frames frame message
    → total message ≤ most → StandsFirst (frame ++ more) most message (length frame)
stands_first most frame more message framed room =
    let front : take (length frame) (frame ++ more) ≡ frame =
    take-append-le (length frame) frame more (omega arith) ∙ take-length frame in
    record {
      inside = omega (arith, length-append frame more);
      frame = subst (λ (xs : List ℕ). Frames xs message) (sym front) framed;
      room = room;
    }

-- Bytes begin with at most one frame of at most `most` words.
pub one_front : (most : ℕ) (a b x y : List ℕ) (m n : List (List ℕ)) → Frames a m → total m ≤ most → Frames b n
    → total n ≤ most → a ++ x ≡ b ++ y → (m ≡ n) × ((a ≡ b) × (x ≡ y))
one_front most a b x y m n framed room also few joined =
    let here = stands_first most a x m framed room in
    let there = subst (λ (xs : List ℕ). StandsFirst xs most n (length b)) (sym joined)
    (stands_first most b y n also few) in
    let same = one_frame (a ++ x) most most m n (length a) (length b) here there in
    (same.0, append_same a b x y same.1 joined)

module _ {X : Type 0} (f : Fold X) (one : IsOneWay f) (last : X → Option RunFault) where
  -- `ending` is the end of a run in the state `y` over the bytes `rest`.
  abbrev pub Behind : X → List ℕ → Ending → Type 0
  Behind y rest ending = EndsBy f (f.done y) y rest (last y) ending

  -- `ending` is the end of a run over the bytes `rest` in the state `y`, if `y` is not `done`.
  abbrev pub Open : X → List ℕ → Ending → Type 0
  Open y rest ending = EndsUnframed f y rest (last y) ending ⊎ EndsRefused f y rest ending

  refused_first : (y : X) (rest : List ℕ) (r : Ending) → EndsRefused f y rest r → (message : List (List ℕ))
      × (taken : ℕ) × StandsFirst rest f.most message taken
  refused_first y rest r (frame, more, message, refusal, is, framed, room, why, e) = (
    message,
    length frame,
    subst (λ (xs : List ℕ). StandsFirst xs f.most message (length frame)) (sym is)
        (stands_first f.most frame more message framed room),
  )

  apart : (y : X) (rest : List ℕ) (r s : Ending) → EndsUnframed f y rest (last y) r → EndsRefused f y rest s → ⊥
  apart y rest r s (e, other, refused, a) why =
      let first = refused_first y rest s why in
      other (refused_whole rest f.most e (whole_of rest f.most first.0 first.1 first.2) refused)

  one_open : (y : X) (rest : List ℕ) (r s : Ending) → Open y rest r → Open y rest s → r ≡ s
  one_open y rest r s (inl (e, n, h, a)) (inl (d, o, k, b)) =
      a ∙ ap (λ (x : FrameFault). end_of (f.place y) x (last y)) (frame_laws.one_refusal rest f.most e d h k n o)
      ∙ sym b
  one_open y rest r s (inl h) (inr k) = absurd (apart y rest r s h k)
  one_open y rest r s (inr h) (inl k) = absurd (apart y rest s r k h)
  one_open y rest r s (inr (a, x, m, p, is, framed, room, why, e)) (inr (b, z, n, q, also, fits, few, ought, d)) =
      let same = one_front f.most a b x z m n framed room fits few (sym is ∙ also) in
      let first = subst (λ (l : List ℕ). f.refuses y l m p) same.1.0 why in
      let fault = one.refusals y b n p q (subst (λ (l : List (List ℕ)). f.refuses y b l p) same.0 first) ought in
      e ∙ ap (λ (g : Refusal). stopped (faults.Refused (f.place y) g)) fault ∙ sym d

  one_behind : (y : X) (rest : List ℕ) (r s : Ending) → Behind y rest r → Behind y rest s → r ≡ s
  one_behind y rest r s h k =
      elim (known (f.done y)) [
        | inl over ↦ is_done f y rest (last y) r over h ∙ sym (is_done f y rest (last y) s over k)
        | inr going ↦
            one_open y rest r s (ends_open f y rest (last y) r going h) (ends_open f y rest (last y) s going k)
      ]

  no_open : (y z : X) (rest frame more text : List ℕ) (message : List (List ℕ)) (r : Ending) → Frames frame message
      → total message ≤ f.most → f.step y frame message text z → rest ≡ frame ++ more → Open y rest r → ⊥
  no_open y z rest frame more text message r framed room step is (inl (e, other, refused, a)) =
      let first = subst (λ (xs : List ℕ). StandsFirst xs f.most message (length frame)) (sym is)
      (stands_first f.most frame more message framed room) in
      other (refused_whole rest f.most e (whole_of rest f.most message (length frame) first) refused)
  no_open y z rest frame more text message r framed room step is (inr (a, x, m, p, also, fits, few, why, e)) =
      let same = one_front f.most a frame x more m message fits few framed room (sym also ∙ is) in
      let first = subst (λ (l : List ℕ). f.refuses y l m p) same.1.0 why in
      one.never_both y frame message text z p step (subst (λ (l : List (List ℕ)). f.refuses y frame l p) same.0 first)

  -- If a message is served in the state `y`, no run ends in `y` before that message.
  pub no_end : (y z : X) (rest frame more text : List ℕ) (message : List (List ℕ)) (r : Ending) → Frames frame message
      → total message ≤ f.most → f.done y ≡ false → f.step y frame message text z → rest ≡ frame ++ more
      → Behind y rest r → ⊥
  no_end y z rest frame more text message r framed room going step is behind =
      no_open y z rest frame more text message r framed room step is (ends_open f y rest (last y) r going behind)

  one_row : (x y z : X) (ps qs : List Part) (rest other : List ℕ) (r s : Ending) → AreServed f x ps y
      → AreServed f x qs z → frames_of ps ++ rest ≡ frames_of qs ++ other → Behind y rest r → Behind z other s
      → (texts_of ps ≡ texts_of qs) × ((r ≡ s) × (y ≡ z))
  one_row x y z [] [] rest other r s h k e a b =
      let there : y ≡ z = sym h ∙ k in (
        refl,
        (
          one_behind z other r s
              (subst (λ (xs : List ℕ). Behind z xs r) e (subst (λ (w : X). Behind w rest r) there a)) b,
          there,
        ),
      )
  one_row x y z [] (q ∷ qs) rest other r s h (mid, part, step, more) e a b =
      absurd (no_end x mid rest q.frame (frames_of qs ++ other) q.text q.message r part.frame part.room part.going step
      (e ∙ append_assoc q.frame (frames_of qs) other) (subst (λ (w : X). Behind w rest r) (sym h) a))
  one_row x y z (p ∷ ps) [] rest other r s (mid, part, step, more) k e a b =
      absurd (no_end x mid other p.frame (frames_of ps ++ rest) p.text p.message s part.frame part.room part.going step
      (sym e ∙ append_assoc p.frame (frames_of ps) rest) (subst (λ (w : X). Behind w other s) (sym k) b))
  one_row x y z (p ∷ ps) (q ∷ qs) rest other r s (mid, part, step, more) (mean, also, move, last_ones) e a b =
      let joined : p.frame ++ (frames_of ps ++ rest) ≡ q.frame ++ (frames_of qs ++ other) =
      sym (append_assoc p.frame (frames_of ps) rest) ∙ e ∙ append_assoc q.frame (frames_of qs) other in
      let same = one_front f.most p.frame q.frame (frames_of ps ++ rest) (frames_of qs ++ other) p.message q.message
      part.frame part.room also.frame also.room joined in
      let here = subst (λ (l : List (List ℕ)). f.step x q.frame l p.text mid) same.0
      (subst (λ (l : List ℕ). f.step x l p.message p.text mid) same.1.0 step) in
      let moved = one.steps x q.frame q.message p.text q.text mid mean here move in
      let rest_served = subst (λ (w : X). AreServed f w ps y) moved.1 more in
      let next = one_row mean y z ps qs rest other r s rest_served last_ones same.1.1 a b in
      (λ i. moved.0 i ++ next.0 i, next.1)

  pub one_folded : (x y z : X) (bytes t u : List ℕ) (r s : Ending) → IsFolded f x bytes (last y) t r y
      → IsFolded f x bytes (last z) u s z → (t ≡ u) × ((r ≡ s) × (y ≡ z))
  one_folded x y z bytes t u r s h k =
      let same = one_row x y z h.parts k.parts h.rest k.rest r s h.are.each k.are.each (sym h.are.is ∙ k.are.is) h.ends
      k.ends in
      (h.joined ∙ same.0 ∙ sym k.joined, same.1)

-- Two runs have the same text, the same ending, and the same state after the messages.
abbrev pub AreSame : {X : Type 0} → List ℕ → List ℕ → Ending → Ending → X → X → Type 0
AreSame t u r s y z = (t ≡ u) × ((r ≡ s) × (y ≡ z))

module _ {X : Type 0} (f : Fold X) (one : IsOneWay f) (x : X) where
  one_packed : (bytes t u : List ℕ) (is_longer : Bool) (r s : Ending) (y z : X)
      → IsDuePacked f x most_stream bytes is_longer t r y → IsDuePacked f x most_stream bytes is_longer u s z
      → (t ≡ u) × ((r ≡ s) × (y ≡ z))
  one_packed bytes t u is_longer r s y z h k =
      let same = one_split bytes h.group k.group [] h.stream k.stream h.offset k.offset h.split k.split in
      let first = subst (λ (w : List ℕ). IsFolded f x (taken_of most_stream w) (unless_more (has_more most_stream w)
      (unless_more is_longer (cut_group (f.place y) h.group h.offset))) t r y) same.1.0 h.due in
      let second = subst (λ (w : List ℕ). IsFolded f x (taken_of most_stream k.stream) (unless_more
      (has_more most_stream k.stream) (unless_more is_longer (cut_group (f.place y) w h.offset))) t r y) same.0 first in
      let third = subst (λ (n : ℕ). IsFolded f x (taken_of most_stream k.stream) (unless_more
      (has_more most_stream k.stream) (unless_more is_longer (cut_group (f.place y) k.group n))) t r y) same.1.1 second
      in
      one_folded f one (λ w. unless_more (has_more most_stream k.stream) (unless_more is_longer
      (cut_group (f.place w) k.group k.offset))) x y z (taken_of most_stream k.stream) t u r s third k.due

  one_unbare : (bytes : List ℕ) (g h : RunFault) → EndsBare f x bytes g → EndsBare f x bytes h → g ≡ h
  one_unbare bytes g h (inl (long, a)) (inl (more, b)) = a ∙ sym b
  one_unbare bytes g h (inl (long, a)) (inr (short, b)) = absurd (omega (arith, long, short))
  one_unbare bytes g h (inr (short, a)) (inl (long, b)) = absurd (omega (arith, long, short))
  one_unbare bytes g h (inr (short, inl (e, a, why))) (inr (few, inl (d, b, ought))) =
      a ∙ ap (λ (q : BareFault). faults.Refused (f.place x) (refusals.Bare q)) (one_bare_fault bytes e d why ought)
      ∙ sym b
  one_unbare bytes g h (inr (short, inl (e, a, why))) (inr (few, inr (ws, r, bare, refuses, b))) =
      absurd (bare_not_refused bytes ws e bare why)
  one_unbare bytes g h (inr (short, inr (ws, r, bare, refuses, a))) (inr (few, inl (e, b, why))) =
      absurd (bare_not_refused bytes ws e bare why)
  one_unbare bytes g h (inr (short, inr (ws, p, bare, refuses, a))) (inr (few, inr (vs, q, also, declines, b))) =
      let words : ws ≡ vs = one_bare bytes ws vs bare also in
      let fault = one.refusals x bytes (vs ∷ []) p q
      (subst (λ (l : List ℕ). f.refuses x bytes (l ∷ []) p) words refuses) declines in
      a ∙ ap (λ (r : Refusal). faults.Refused (f.place x) r) fault ∙ sym b

  one_unbare_by : (over : Bool) (bytes : List ℕ) (g h : RunFault) → IfGoing over (EndsBare f x bytes g)
      → IfGoing over (EndsBare f x bytes h) → g ≡ h
  one_unbare_by true bytes g h a b = absurd a
  one_unbare_by false bytes g h a b = one_unbare bytes g h a b

  one_written : (over : Bool) (bytes t u : List ℕ) (y z : X) → WritesBy f x over bytes t y → WritesBy f x over bytes u z
      → (t ≡ u) × (y ≡ z)
  one_written true bytes t u y z (none, same) (nothing, also) = (none ∙ sym nothing, same ∙ sym also)
  one_written false bytes t u y z (short, (ws, bare, step)) (few, (vs, also, move)) =
      let words : ws ≡ vs = one_bare bytes ws vs bare also in
      one.steps x bytes (vs ∷ []) t u y z (subst (λ (l : List ℕ). f.step x bytes (l ∷ []) t y) words step) move

  bare_apart : (over : Bool) (bytes t : List ℕ) (y : X) (g : RunFault) → WritesBy f x over bytes t y
      → IfGoing over (EndsBare f x bytes g) → ⊥
  bare_apart true bytes t y g writes ends = ends
  bare_apart false bytes t y g (short, writes) (inl (long, a)) = absurd (omega (arith, long, short))
  bare_apart false bytes t y g (short, (ws, bare, step)) (inr (few, inl (e, a, why))) =
      bare_not_refused bytes ws e bare why
  bare_apart false bytes t y g (short, (ws, bare, step)) (inr (few, inr (vs, r, also, refuses, a))) =
      let words : vs ≡ ws = one_bare bytes vs ws also bare in
      one.never_both x bytes (ws ∷ []) t y r step (subst (λ (l : List ℕ). f.refuses x bytes (l ∷ []) r) words refuses)

  -- The messages of one `input` have one text and one ending, and lead to one state.
  pub one_serving : (form : Form) (input t u : List ℕ) (r s : Ending) (y z : X) → AreMessages f x form input t r y
      → AreMessages f x form input u s z → AreSame t u r s y z
  one_serving forms.Stream input t u r s y z h k =
      one_folded f one (λ w. behind (has_more most_stream input)) x y z (taken_of most_stream input) t u r s h k
  one_serving forms.Packed input t u r s y z h k =
      one_packed (taken_of most_stream input) t u (has_more most_stream input) r s y z h k
  one_serving forms.Bare input t u (Ok a) (Ok b) y z h k =
      let same = one_written (f.done x) input t u y z h k in (same.0, (refl, same.1))
  one_serving forms.Bare input t u (Ok a) (Err g) y z writes (ends, none, is) =
      absurd (bare_apart (f.done x) input t y g writes ends)
  one_serving forms.Bare input t u (Err g) (Ok b) y z (ends, none, is) writes =
      absurd (bare_apart (f.done x) input u z g writes ends)
  one_serving forms.Bare input t u (Err g) (Err h) y z (ends, none, is) (close, nothing, also) =
      (none ∙ sym nothing, (ap stopped (one_unbare_by (f.done x) input g h ends close), is ∙ sym also))
