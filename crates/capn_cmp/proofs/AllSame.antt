-- Lemmas for `same_exactly`: a comparison that finds no difference.
use Rattle.std.proofs.Common.{◌≡◌, ◌≢◌, ◌⊎◌, inl, inr, ℕ, ◌+◌, ◌≤◌, List, [], ◌∷◌, ◌++◌, length, Bool, true, false}
use Rattle.std.proofs.Common.{None, Result, Ok, Err, refl, ap, sym, subst, ◌∙◌, append-nil, arith, nat_lt, cond}
use Rattle.std.proofs.lemmas.Bool.{le-ltb, ltb-false}
use Rattle.std.proofs.lemmas.List.{take_all}
use Rattle.capn_stream.specs.declared.fault.FrameFault.TheVariants as frame_faults
use Rattle.capn_canon.specs.declared.form.Form.TheVariants as forms
use Rattle.capn_walk.specs.Limits.{Bounds}
use Rattle.capn_serve.specs.Fold.{AreServed, EndsRefused, EndsUnframed, Fold, IsFolded, Part, after}
use Rattle.capn_serve.specs.Fold.{frames_of, texts_of}
use Rattle.capn_serve.specs.FormRun.{AreMessages, most_stream}
use Rattle.capn_serve.specs.StreamRun.{behind, has_more, start, taken_of}
use Rattle.capn_serve.specs.declared.fault.RunFault.{RunFault}
use Rattle.capn_serve.specs.declared.position.Position.{Position}
use Rattle.capn_serve.specs.declared.service.Run.{Run}
use Rattle.capn_serve.proofs.shared.OneServing.{one_serving}
use Rattle.capn_serve.proofs.shared.Until.{ends_open}
use Rattle.capn_cmp.specs.CmpMessages.{CmpState, IsForm}
use Rattle.capn_cmp.specs.CmpRun.{cmp_fold, first_run, found_by, outcome}
use Rattle.capn_cmp.specs.Laws.{AllHave, IsOfOneValue, SameExactly}
use Rattle.capn_cmp.specs.declared.cmp_order.CmpOrder.{CmpOrder}
use Rattle.capn_cmp.specs.declared.cmp_run.Comparison.{Comparison}
use Rattle.capn_cmp.specs.declared.cmp_run.Comparison.TheVariants as comparisons
use Rattle.capn_cmp.specs.declared.fault.CmpFault.{CmpFault}
use Rattle.capn_cmp.specs.declared.fault.CmpFault.TheVariants as faults
use Rattle.capn_cmp.proofs.OneComparison.{cmp_one_way}

abbrev pub Ending : Type 0
Ending = Result (Unit {0}) RunFault

abbrev done : Ending
done = Ok tt

abbrev stopped : RunFault → Ending
stopped fault = Err fault

abbrev pub Found : Type 0
Found = Result Comparison CmpFault

abbrev same : Found
same = Ok comparisons.Same

abbrev pub Comparing : Type 0
Comparing = Run CmpState

no_bytes : (xs : List ℕ) → length xs ≡ 0 → xs ≡ []
no_bytes [] e = refl
no_bytes (x ∷ xs) e = absurd (omega (arith, e))

pub both : (b : Bool) → b ≡ true → b ≡ false → ⊥
both b h k = let bad : true ≡ false = sym h ∙ k in cc

no_fault : (r : Ending) (fault : RunFault) → r ≡ Ok tt → r ≡ Err fault → ⊥
no_fault r fault fine e = let bad : done ≡ stopped fault = sym fine ∙ e in cc

-- ---- a result that is `Same`

few_or_same : (few : Bool) → cond few (Err faults.TooFew) same ≡ same → few ≡ false
few_or_same true e = absurd (cc)
few_or_same false e = refl

found_same : (differs : Bool) (n : ℕ) → found_by differs n ≡ same → (differs ≡ false) × (2 ≤ n)
found_same true n e = absurd (cc)
found_same false n e = (refl, ltb-false n 2 (few_or_same (nat_lt n 2) e))

same_found : (differs : Bool) (n : ℕ) → differs ≡ false → 2 ≤ n → found_by differs n ≡ same
same_found differs n stay many =
    ap (λ (b : Bool). found_by b n) stay
    ∙ ap (λ (b : Bool). cond b (Err faults.TooFew) same) (le-ltb n 2 many)

module _ (order : CmpOrder) where
  abbrev f : Fold Comparing
  f = cmp_fold order

  abbrev limits : Bounds
  limits = order.limits

  -- ---- messages that were served without a difference

  -- If `differs` is true in the state `x`, it is true in each state `y` that a run from `x` reaches.
  pub stays : (x y : Comparing) (ps : List Part) → x.service.differs ≡ true → AreServed f x ps y
      → y.service.differs ≡ false → ⊥
  stays x y [] move is stay = both x.service.differs move (ap (λ (w : Comparing). w.service.differs) is ∙ stay)
  stays x y (p ∷ ps) move (mid, part, step, more) stay = both x.service.differs move part.going

  later : (x y : Comparing) (ps : List Part) (bytes : List ℕ) → x.service.limits ≡ limits → x.service.first ≡ bytes
      → x.at.index ≢ 0 → AreServed f x ps y → y.service.differs ≡ false
      → AllHave order bytes ps × (y.at.index ≡ x.at.index + length ps)
  later x y [] bytes bounds first past is stay =
      (tt, let e = ap (λ (w : Comparing). w.at.index) is in omega (arith, e))
  later x y (p ∷ ps) bytes bounds first past (mid, part, ((own, form, inl (none, text, t)), at), more) stay =
      absurd (past none)
  later x y (p ∷ ps) bytes bounds first past (mid, part, ((own, form, inr (inl (late, alike, text, t))), at), more)
      stay =
      let index : mid.at.index ≡ x.at.index + 1 = ap (λ (q : Position). q.index) at in
      let rest = later mid y ps bytes (ap (λ (q : CmpState). q.limits) t ∙ bounds)
      (ap (λ (q : CmpState). q.first) t ∙ first) (λ e. absurd (omega (arith, e, index))) more stay in
      let last = rest.1 in (
        (
          part.frame,
          part.room,
          subst (λ (l : Bounds). IsForm p.message l bytes) bounds
              (subst (λ (b : List ℕ). IsForm p.message x.service.limits b) (alike ∙ first) form),
          text,
          rest.0,
        ),
        omega (arith, last, index),
      )
  later x y (p ∷ ps) bytes bounds first past (mid, part, ((own, form, inr (inr (late, other, told, t))), at), more)
      stay =
      absurd (stays mid y ps (ap (λ (q : CmpState). q.differs) t) more stay)

  from_first : (y : Comparing) (ps : List Part) → AreServed f (first_run order) ps y → y.service.differs ≡ false
      → 2 ≤ y.at.index → (bytes : List ℕ) × AllHave order bytes ps × (2 ≤ length ps)
  from_first y [] is stay many =
      let e : 0 ≡ y.at.index = ap (λ (w : Comparing). w.at.index) is in absurd (omega (arith, e, many))
  from_first y (p ∷ ps) (mid, part, ((own, form, inl (none, text, t)), at), more) stay many =
      let index : mid.at.index ≡ 1 = ap (λ (q : Position). q.index) at in
      let rest = later mid y ps own (ap (λ (q : CmpState). q.limits) t) (ap (λ (q : CmpState). q.first) t)
      (λ e. absurd (omega (arith, e, index))) more stay in
      let last = rest.1 in
      (own, (part.frame, part.room, form, text, rest.0), omega (arith, last, index, many))
  from_first y (p ∷ ps) (mid, part, ((own, form, inr (inl (late, alike, text, t))), at), more) stay many =
      absurd (late refl)
  from_first y (p ∷ ps) (mid, part, ((own, form, inr (inr (late, other, told, t))), at), more) stay many =
      absurd (late refl)

  -- ---- the end of the stream

  nothing_left : (y : Comparing) (rest : List ℕ) (r : Ending) → r ≡ Ok tt
      → EndsUnframed f y rest None r ⊎ EndsRefused f y rest r → rest ≡ []
  nothing_left y rest r fine (inl (frame_faults.Empty, other, refused, e)) = no_bytes rest refused
  nothing_left y rest r fine (inl (frame_faults.Cut, other, refused, e)) = absurd (no_fault r _ fine e)
  nothing_left y rest r fine (inl (frame_faults.TooManySegments n, other, refused, e)) = absurd (no_fault r _ fine e)
  nothing_left y rest r fine (inl (frame_faults.TooManyWords n, other, refused, e)) = absurd (no_fault r _ fine e)
  nothing_left y rest r fine (inl (frame_faults.Failed, other, refused, e)) = absurd (no_fault r _ fine e)
  nothing_left y rest r fine (inl (frame_faults.Memory, other, refused, e)) = absurd (other refl)
  nothing_left y rest r fine (inr (frame, more, m, why, is, framed, room, h, e)) = absurd (no_fault r _ fine e)

  is_same : (stream text : List ℕ) (r : Ending) (y : Comparing) → IsFolded f (first_run order) stream None text r y
      → outcome r y ≡ same → IsOfOneValue order stream
  is_same stream text (Err fault) y h e = absurd (cc)
  is_same stream text (Ok u) y h e =
      let found = found_same y.service.differs y.at.index e in
      let all = from_first y h.parts h.are.each found.0 found.1 in
      let none = nothing_left y h.rest (Ok u) refl
      (ends_open f y h.rest None (Ok u) found.0 h.ends) in record {
        parts = h.parts;
        bytes = all.0;
        each = all.1;
        is = h.are.is ∙ ap (λ (l : List ℕ). frames_of h.parts ++ l) none ∙ append-nil (frames_of h.parts);
        many = all.2;
      }

  -- ---- messages of one value

  -- The state of a run at the position `at`, after a first message with the canonical bytes `bytes` and no difference.
  abbrev keeping : List ℕ → Position → Comparing
  keeping bytes at = record { service = record { limits = limits; first = bytes; differs = false }; at = at }

  abbrev Served : List ℕ → Position → List Part → Type 0
  Served bytes at ps = (z : Position) × AreServed f (keeping bytes at) ps (keeping bytes z)
      × (z.index ≡ at.index + length ps) × (texts_of ps ≡ [])

  agree : (bytes : List ℕ) (at : Position) (ps : List Part) → at.index ≢ 0 → AllHave order bytes ps
      → Served bytes at ps
  agree bytes at [] past all = (at, refl, omega arith, refl)
  agree bytes at (p ∷ ps) past (framed, room, form, text, all) =
      let next = after at p.frame in
      let rest = agree bytes next ps (λ e. absurd (omega (arith, e))) all in
      let count = rest.2 in (
        rest.0,
        (
          keeping bytes next,
          record { frame = framed; room = room; going = refl },
          ((bytes, form, inr (inl (past, refl, text, refl))), refl),
          rest.1,
        ),
        omega (arith, count),
        ap (λ (l : List ℕ). l ++ texts_of ps) text ∙ rest.3,
      )

  -- All messages of `ps` are served from the first state on, and the last state is `keeping bytes z`.
  abbrev AllServed : List ℕ → List Part → Type 0
  AllServed bytes ps = (z : Position) × AreServed f (first_run order) ps (keeping bytes z)
      × (z.index ≡ length ps) × (texts_of ps ≡ [])

  agree_all : (bytes : List ℕ) (ps : List Part) → 2 ≤ length ps → AllHave order bytes ps → AllServed bytes ps
  agree_all bytes [] many all = absurd (omega (arith, many))
  agree_all bytes (p ∷ ps) many (framed, room, form, text, all) =
      let next = after start p.frame in
      let rest = agree bytes next ps (λ e. absurd (omega (arith, e))) all in
      let count = rest.2 in (
        rest.0,
        (
          keeping bytes next,
          record { frame = framed; room = room; going = refl },
          ((bytes, form, inl (refl, text, refl)), refl),
          rest.1,
        ),
        omega (arith, count),
        ap (λ (l : List ℕ). l ++ texts_of ps) text ∙ rest.3,
      )

  pub same_exactly : (stream text : List ℕ) (r : Ending) (y : Comparing) → length stream ≤ most_stream
      → AreMessages f (first_run order) forms.Stream stream text r y
      → (outcome r y ≡ same → IsOfOneValue order stream) × (IsOfOneValue order stream → outcome r y ≡ same)
  same_exactly stream text r y short due =
      let all : taken_of most_stream stream ≡ stream = take_all most_stream stream short in
      let no_more : has_more most_stream stream ≡ false = le-ltb most_stream (length stream) short in
      let folded = subst (λ (b : Bool). IsFolded f (first_run order) (taken_of most_stream stream) (behind b) text r y)
      no_more due in
      let whole = subst (λ (l : List ℕ). IsFolded f (first_run order) l None text r y) all folded in (
        λ e. is_same stream text r y whole e,
        λ h.
            let served = agree_all h.bytes h.parts h.many h.each in
            let z = keeping h.bytes served.0 in
            let last : IsFolded f (first_run order) stream None [] (Ok tt) z = record {
              parts = h.parts;
              rest = [];
              are = record { each = served.1; is = h.is ∙ sym (append-nil (frames_of h.parts)) };
              joined = sym served.3;
              ends = inl (frame_faults.Empty, λ e. cc, refl, refl);
            } in
            let taken = subst (λ (l : List ℕ). IsFolded f (first_run order) l None [] (Ok tt) z) (sym all) last in
            let also = subst (λ (b : Bool). IsFolded f (first_run order) (taken_of most_stream stream) (behind b) []
            (Ok tt) z) (sym no_more) taken in
            let one = one_serving f (cmp_one_way order) (first_run order) forms.Stream stream text [] r (Ok tt) y z due
            also in
            ap (λ (e : Ending). outcome e y) one.1.0 ∙ ap (λ (w : Comparing). outcome (Ok tt) w) one.1.1
            ∙ same_found false served.0.index refl (let n = served.2 in let m = h.many in omega (arith, n, m)),
      )

pub found_exactly : SameExactly
found_exactly order stream text r y short due = same_exactly order stream text r y short due
