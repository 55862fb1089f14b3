-- Lemmas for capn_tool: the text shown for an input is unique.
use Rattle.std.proofs.Common.{◌≡◌, ◌⊎◌, inl, inr, ℕ, Bool, List, [], ◌∷◌, ◌++◌, Option, Ok, Err, refl, ap, sym}
use Rattle.std.proofs.Common.{subst, ◌∙◌}
use Rattle.std.specs.Prelude.{◌||◌, if◌then◌else◌}
use Rattle.capn_value.specs.Tree.{Tree}
use Rattle.capn_walk.specs.Limits.{Bounds}
use Rattle.capn_walk.specs.Accepted.{IsValueOf, IsWalkRefused, root}
use Rattle.capn_walk.proofs.shared.Unique.{unique}
use Rattle.capn_canon.specs.Refusal.{IsRefusedMessage}
use Rattle.capn_canon.specs.declared.form.Form.{Form}
use Rattle.capn_canon.specs.declared.form.Form.TheVariants as forms
use Rattle.capn_canon.specs.declared.refusal.Refusal.{Refusal}
use Rattle.capn_canon.specs.declared.refusal.Refusal.TheVariants as refusals
use Rattle.capn_canon.proofs.shared.NotRefused.{accepted-not_refused}
use Rattle.capn_canon.proofs.shared.OneRefusal.{one_message_refusal}
use Rattle.capn_marks.specs.MarkedPart.{marked_at}
use Rattle.capn_show.specs.Style.{styled}
use Rattle.capn_show.specs.declared.style.Style.{Style}
use Rattle.capn_serve.specs.Fold.{AreServed, EndsRefused, EndsUnframed, Fold, IsFolded, Part}
use Rattle.capn_serve.specs.BareRun.{EndsBare}
use Rattle.capn_serve.specs.FormRun.{AreMessages}
use Rattle.capn_serve.specs.StreamRun.{first_run}
use Rattle.capn_serve.specs.declared.position.Position.{Position}
use Rattle.capn_serve.specs.declared.service.Run.{Run}
use Rattle.capn_serve.specs.declared.fault.RunFault.{RunFault}
use Rattle.capn_serve.proofs.shared.OneServing.{Ending, IsOneWay, one_serving}
use Rattle.capn_commands.specs.MessageMarks.{marks_of}
use Rattle.capn_commands.specs.PartTexts.{part_end, part_of, refuses, serves}
use Rattle.capn_commands.specs.ShowRun.{part_fold}
use Rattle.capn_commands.specs.declared.part_texts.PartTexts.{PartTexts}

-- ---- the service does one thing with each message

module _ (s : PartTexts) (at : Position) (frame : List ℕ) (m : List (List ℕ)) where
  pub one_part : (t u : List ℕ) (p q : PartTexts) → serves s at frame m t p → serves s at frame m u q
      → (t ≡ u) × (p ≡ q)
  one_part t u p q ((v, is, e), same) ((w, also, h), alike) = (
    e ∙ ap (λ (x : Tree). part_of s at m x ++ part_end s at m) (unique m v w root is.is also.is) ∙ sym h,
    same ∙ sym alike,
  )

  refused_message : (r : Refusal) → refuses s at frame m r → IsRefusedMessage m s.limits r
  refused_message r (stop, e, h) = subst (λ (x : Refusal). IsRefusedMessage m s.limits x) (sym e) h

  no_memory : (r : Refusal) → refuses s at frame m r → r ≡ refusals.Memory → ⊥
  no_memory r (stop, e, h) k = let bad : refusals.Walk stop ≡ refusals.Memory = sym e ∙ k in cc

  pub one_refusal : (r q : Refusal) → refuses s at frame m r → refuses s at frame m q → r ≡ q
  one_refusal r q h k =
      one_message_refusal m s.limits r q (no_memory r h) (no_memory q k) (refused_message r h) (refused_message q k)

  pub not_both : (t : List ℕ) (p : PartTexts) (r : Refusal) → serves s at frame m t p → refuses s at frame m r → ⊥
  not_both t p r ((v, is, e), same) (stop, why, h) = accepted-not_refused m s.limits stop is.accepted h

pub part_one_way : (most : ℕ) → IsOneWay (part_fold most)
part_one_way most = record {
  steps = λ x frame m t u y z h k.
      let same = one_part x.service x.at frame m t u y.service z.service h.0 k.0 in
      let at : y.at ≡ z.at = h.1 ∙ sym k.1 in
      (same.0, λ i. record { service = same.1 i; at = at i });
  refusals = λ x frame m r s h k. one_refusal x.service x.at frame m r s h k;
  never_both = λ x frame m t y r h k. not_both x.service x.at frame m t y.service r h.0 k;
}

-- ---- services with the same options do the same

pub record IsLike (p q : PartTexts) : Type 0 where
  pub numbers : p.path.now ≡ q.path.now
  pub form : p.form ≡ q.form
  pub limits : p.limits ≡ q.limits
  pub style : p.style ≡ q.style
  pub offsets : p.offsets ≡ q.offsets
  pub ways : p.ways ≡ q.ways

-- The service `p` with `form`, `limits`, `style`, `offsets` and `ways` as its options.
abbrev alike : PartTexts → Form → Bounds → Style → Bool → Bool → PartTexts
alike p form limits style offsets ways = record p {
  form = form;
  limits = limits;
  style = style;
  offsets = offsets;
  ways = ways;
}

-- The text of the value at the path of `s` from the root `v`, and then the end of that text.
abbrev text_of : PartTexts → Position → List (List ℕ) → Tree → List ℕ
text_of s at m v = part_of s at m v ++ part_end s at m

-- The text of the value at the path `numbers` from the root `v`, and then the end of that text.
abbrev text_at : List ℕ → PartTexts → Position → List (List ℕ) → Tree → List ℕ
text_at numbers s at m v =
    (if s.offsets || s.ways then marked_at m (marks_of s at m) numbers v else styled s.style numbers v)
    ++ part_end s at m

same_text : (p q : PartTexts) (at : Position) (m : List (List ℕ)) (v : Tree) → IsLike p q
    → text_of p at m v ≡ text_of q at m v
same_text p q at m v like =
    ap (λ (f : Form). text_of (alike p f p.limits p.style p.offsets p.ways) at m v) like.form
    ∙ ap (λ (l : Bounds). text_of (alike p q.form l p.style p.offsets p.ways) at m v) like.limits
    ∙ ap (λ (s : Style). text_of (alike p q.form q.limits s p.offsets p.ways) at m v) like.style
    ∙ ap (λ (b : Bool). text_of (alike p q.form q.limits q.style b p.ways) at m v) like.offsets
    ∙ ap (λ (b : Bool). text_of (alike p q.form q.limits q.style q.offsets b) at m v) like.ways
    ∙ ap (λ (numbers : List ℕ). text_at numbers q at m v) like.numbers

module _ (most : ℕ) (q : PartTexts) where
  abbrev f : Fold (Run PartTexts)
  f = part_fold most

  -- The run `x` with the service `q`.
  abbrev pub by : Run PartTexts → Run PartTexts
  by x = record { service = q; at = x.at }

  step_by : (x y : Run PartTexts) (frame text : List ℕ) (m : List (List ℕ)) → IsLike x.service q
      → f.step x frame m text y → f.step (by x) frame m text (by y)
  step_by x y frame text m like (((v, is, e), same), at) = (
    (
      (
        v,
        subst (λ (l : Bounds). IsValueOf m l v) like.limits is,
        e ∙ same_text x.service q x.at m v like,
      ),
      refl,
    ),
    at,
  )

  refuses_by : (x : Run PartTexts) (frame : List ℕ) (m : List (List ℕ)) (r : Refusal) → IsLike x.service q
      → f.refuses x frame m r → f.refuses (by x) frame m r
  refuses_by x frame m r like (stop, e, h) = (
    stop,
    e,
    subst (λ (l : Bounds). IsWalkRefused m l stop.fault stop.place stop.paid stop.visits) like.limits h,
  )

  next_like : (x y : Run PartTexts) (frame text : List ℕ) (m : List (List ℕ)) → IsLike x.service q
      → f.step x frame m text y → IsLike y.service q
  next_like x y frame text m like (((v, is, e), same), at) = subst (λ (s : PartTexts). IsLike s q) (sym same) like

  last_like : (x y : Run PartTexts) (ps : List Part) → IsLike x.service q → AreServed f x ps y → IsLike y.service q
  last_like x y [] like is = subst (λ (r : Run PartTexts). IsLike r.service q) is like
  last_like x y (p ∷ ps) like (mid, part, step, more) =
      last_like mid y ps (next_like x mid p.frame p.text p.message like step) more

  served_by : (x y : Run PartTexts) (ps : List Part) → IsLike x.service q → AreServed f x ps y
      → AreServed f (by x) ps (by y)
  served_by x y [] like is = ap (λ (r : Run PartTexts). by r) is
  served_by x y (p ∷ ps) like (mid, part, step, more) = (
    by mid,
    record { frame = part.frame; room = part.room; going = part.going },
    step_by x mid p.frame p.text p.message like step,
    served_by mid y ps (next_like x mid p.frame p.text p.message like step) more,
  )

  ends_by : (y : Run PartTexts) (rest : List ℕ) (behind : Option RunFault) (r : Ending) → IsLike y.service q
      → EndsUnframed f y rest behind r ⊎ EndsRefused f y rest r
      → EndsUnframed f (by y) rest behind r ⊎ EndsRefused f (by y) rest r
  ends_by y rest behind r like (inl h) = inl h
  ends_by y rest behind r like (inr (frame, more, m, why, is, framed, room, h, e)) =
      inr (frame, more, m, why, is, framed, room, refuses_by y frame m why like h, e)

  folded_by : (x y : Run PartTexts) (bytes text : List ℕ) (behind : Option RunFault) (r : Ending)
      → IsLike x.service q → IsFolded f x bytes behind text r y → IsFolded f (by x) bytes behind text r (by y)
  folded_by x y bytes text behind r like h = record {
    parts = h.parts;
    rest = h.rest;
    are = record { each = served_by x y h.parts like h.are.each; is = h.are.is };
    joined = h.joined;
    ends = ends_by y h.rest behind r (last_like x y h.parts like h.are.each) h.ends;
  }

  bare_by : (x : Run PartTexts) (bytes : List ℕ) (fault : RunFault) → IsLike x.service q → EndsBare f x bytes fault
      → EndsBare f (by x) bytes fault
  bare_by x bytes fault like (inl h) = inl h
  bare_by x bytes fault like (inr (short, inl h)) = inr (short, inl h)
  bare_by x bytes fault like (inr (short, inr (words, r, bare, h, e))) =
      inr (short, inr (words, r, bare, refuses_by x bytes (words ∷ []) r like h, e))

  pub messages_by : (form : Form) (x y : Run PartTexts) (input text : List ℕ) (r : Ending) → IsLike x.service q
      → AreMessages f x form input text r y → AreMessages f (by x) form input text r (by y)
  messages_by forms.Stream x y input text r like h = folded_by x y _ text _ r like h
  messages_by forms.Packed x y input text r like h = record {
    stream = h.stream;
    group = h.group;
    offset = h.offset;
    split = h.split;
    due = folded_by x y _ text _ r like h.due;
  }
  messages_by forms.Bare x y input text (Ok a) like (short, (words, bare, step)) =
      (short, (words, bare, step_by x y input text (words ∷ []) like step))
  messages_by forms.Bare x y input text (Err g) like (ends, none, is) =
      (bare_by x input g like ends, none, ap by is)

-- ---- one message alone, by two services with the same options

module _ (p q : PartTexts) (like : IsLike p q) (at : Position) (frame : List ℕ) (m : List (List ℕ)) where
  pub serves_like : (t : List ℕ) (x : PartTexts) → serves p at frame m t x → serves q at frame m t q
  serves_like t x ((v, is, e), same) =
      ((v, subst (λ (l : Bounds). IsValueOf m l v) like.limits is, e ∙ same_text p q at m v like), refl)

  pub refuses_like : (r : Refusal) → refuses p at frame m r → refuses q at frame m r
  refuses_like r (stop, e, h) = (
    stop,
    e,
    subst (λ (l : Bounds). IsWalkRefused m l stop.fault stop.place stop.paid stop.visits) like.limits h,
  )

-- ---- two services with the same options show one text, and both runs end in one way

pub one_shown : (most : ℕ) (form : Form) (p q : PartTexts) → IsLike p q → (input t u : List ℕ) (r s : Ending)
    (y z : Run PartTexts) → AreMessages (part_fold most) (first_run p) form input t r y
    → AreMessages (part_fold most) (first_run q) form input u s z → (t ≡ u) × (r ≡ s)
one_shown most form p q like input t u r s y z a b =
    let moved = messages_by most q form (first_run p) y input t r like a in
    let same = one_serving (part_fold most) (part_one_way most) (first_run q) form input t u r s (by most q y) z moved b
    in (same.0, same.1.0)
