-- Lemmas for `serve_pieces`: a run between two chunks of its input, and at the end of its input.
use Rattle.std.proofs.Common.{◌≡◌, ◌⊎◌, ◌↔◌, inl, inr, ℕ, ◌+◌, ◌-◌, ◌<◌, ◌≤◌, min, List, [], ◌++◌, length, take, Bool}
use Rattle.std.proofs.Common.{true, false, Option, Some, None, IfSome, Result, Ok, Err, refl, ap, sym, subst, ◌∙◌}
use Rattle.std.proofs.Common.{arith, append-nil, length-append, length-take-le}
use Rattle.std.proofs.Math.Seq.{take_all}
use Rattle.std.proofs.lemmas.List.{take-append-le}
use Rattle.std.specs.Io.KnownBytes.{Appends, Consumes, IsAtEnd, Keeps}
use Rattle.std.proofs.KnownBytes.{Appends-nil, Consumes-kept, Consumes-nil, Consumes-trans}
use Rattle.capn_serve.specs.declared.fault.RunFault.{RunFault}
use Rattle.capn_serve.specs.declared.fault.RunFault.TheVariants as faults
use Rattle.capn_serve.specs.Fold.{IfGoing}
use Rattle.capn_serve.specs.StreamRun.{IsAhead, IsNeeded, has_more, taken_of}
use Rattle.capn_serve.specs.inner.IntakeRun.{Ends, Feeds, Giving, IsTakenAhead, Over, Reads, Taking}
use Rattle.capn_serve.proofs.InputRead.{is_below, is_not_below, taken_front, taken_more}
use Rattle.capn_serve.proofs.shared.Until.{if_going, known as either}

abbrev Ending : Type 0
Ending = Result (Unit {0}) RunFault

-- `taken` bytes were read, and `Takes` holds for these bytes.
pub record HasTaken {I X : Type 0} (Takes : Taking I X) (s : I) (y : X) (a b c d : Option (List ℕ)) (taken : ℕ) : Type 0
  where
    pub bytes : List ℕ
    pub read : Consumes a b bytes
    pub size : length bytes ≡ taken
    pub takes : Takes s y bytes c d

not_failed : (r w : Bool) → r ≡ false → w ≡ false → (r ≡ true) ⊎ (w ≡ true) → ⊥
not_failed r w fine good (inl h) = let e : true ≡ false = sym h ∙ fine in cc
not_failed r w fine good (inr h) = let e : true ≡ false = sym h ∙ good in cc

unless_true : (b : Bool) → (b ≡ true → ⊥) → b ≡ false
unless_true b other = elim (either b) [ inl is ↦ absurd (other is) | inr is ↦ is ]

writer_only : (r w : Bool) → r ≡ false → (r ≡ true) ⊎ (w ≡ true) → w ≡ true
writer_only r w fine (inl h) = let e : true ≡ false = sym h ∙ fine in absurd (cc)
writer_only r w fine (inr h) = h

pub not_broken : {I X : Type 0} {takes : Taking I X} {gives : Giving I X} {done : X → Bool} {bytes : List ℕ}
    {c d e : Option (List ℕ)} {failed : Bool} {u : Unit {0}} {s : I} {y : X}
    → Feeds takes gives done bytes c d e failed (Ok u) s y → failed ≡ false
not_broken {failed = failed} fed = unless_true failed (λ is. (let bad = fed.broken.1 is in cc))

-- Case: the service is finished before the first read.
pub run_none : {I X : Type 0} (takes : Taking I X) (gives : Giving I X) (done : X → Bool) (limit : ℕ) (s : I) (x : X)
    (a c : Option (List ℕ)) (rf wf : Bool) → rf ≡ false → wf ≡ false → takes s x [] c c
    → Over (gives s x) [] c c (Ok tt) → Reads takes gives done limit s x a a c c rf wf (Ok tt)
run_none takes gives done limit s x a c rf wf fine good new over = record {
  bytes = [];
  read = Consumes-nil a;
  bounded = omega arith;
  ended = inr (λ more none. over (taken_of limit more) (has_more limit more));
  broken = (λ e. absurd (cc), λ e. absurd (not_failed rf wf fine good e));
  heard = λ e. absurd (not_failed rf wf fine good (inl e));
  ahead = ([], [], s, x, c, [], refl, omega arith, new, Appends-nil c, inl refl);
  memory = λ e. absurd (cc);
}

module _ {I X : Type 0} (takes : Taking I X) (gives : Giving I X) (done : X → Bool) (limit : ℕ) (s : I) (y : X)
    (a b c d : Option (List ℕ)) (taken : ℕ) (h : HasTaken takes s y a b c d taken) (short : taken ≤ limit)
    (going : done y ≡ false) where
  taken_ahead : IsTakenAhead takes done h.bytes c d
  taken_ahead =
      (h.bytes, [], s, y, d, [], sym (append-nil h.bytes), omega arith, h.takes, Appends-nil d, inr going)

  pub run_unread : (e : Option (List ℕ)) (rf wf : Bool) → rf ≡ true → Keeps b e
      → Reads takes gives done limit s y a e c d rf wf (Err faults.Io)
  run_unread e rf wf broken kept = record {
    bytes = h.bytes;
    read = Consumes-kept a b e h.bytes h.read kept;
    bounded = omega (arith, h.size, short);
    ended = inl broken;
    broken = (λ i. inl broken, λ i. refl);
    heard = λ i. (omega (arith, h.size, short), going, h.takes);
    ahead = taken_ahead;
    memory = λ i. absurd (cc);
  }

  pub run_ended : (last : I) (e : Option (List ℕ)) (buf : List ℕ) (n : ℕ) (rf wf : Bool) (r : Ending) → rf ≡ false
      → wf ≡ false → n ≡ 0 → Consumes b e (take n buf) × (n ≡ 0 → 0 < length buf → IsAtEnd e) → 0 < length buf
      → Ends (gives last y) h.bytes c d r → Reads takes gives done limit last y a e c d rf wf r
  run_ended last e buf n rf wf r fine good zero given some (gives_end, no_io, no_memory) =
      let all : taken_of limit h.bytes ≡ h.bytes = take_all limit h.bytes (omega (arith, h.size, short)) in
      let no_more = is_not_below limit (length h.bytes) (omega (arith, h.size, short)) in
      let nothing : Consumes b e [] = subst (λ (k : ℕ). Consumes b e (take k buf)) zero given.0 in
      record {
        bytes = h.bytes;
        read = subst (Consumes a e) (append-nil h.bytes) (Consumes-trans a b e h.bytes [] h.read nothing);
        bounded = omega (arith, h.size, short);
        ended = inr (λ more none. (let same : h.bytes ++ more ≡ h.bytes =
            ap (λ (l : List ℕ). h.bytes ++ l) (none (given.1 zero some)) ∙ append-nil h.bytes in
            subst (λ (l : List ℕ). gives last y (taken_of limit l) (has_more limit l) c d r) (sym same)
            (subst (λ (m : Bool). gives last y (taken_of limit h.bytes) m c d r) (sym no_more)
            (subst (λ (l : List ℕ). gives last y l false c d r) (sym all) gives_end))));
        broken = (λ i. absurd (no_io i), λ i. absurd (not_failed rf wf fine good i));
        heard = λ i. absurd (not_failed rf wf fine good (inl i));
        ahead = taken_ahead;
        memory = λ i. absurd (no_memory i);
      }

  -- Cases: a chunk was read and served.
  module _ (b2 e : Option (List ℕ)) (buf tail : List ℕ) (w k : ℕ) (rf wf : Bool) (last : I) (z : X) (fine : rf ≡ false)
      (least : w ≡ min k (limit - taken)) (bound : taken + k ≤ limit + 1) (few : k ≤ 65536) (some : 0 < k)
      (within : k ≤ length buf) (given : Consumes b b2 (take k buf)) where
    abbrev all : List ℕ
    all = h.bytes ++ take k buf

    abbrev Fed : Ending → Type 0
    Fed r = Feeds takes gives done (h.bytes ++ take w (buf ++ tail)) c d e wf r last z

    size : length all ≡ taken + k
    size = omega (arith, h.size, length-append h.bytes (take k buf), length-take-le k buf within)

    front : taken_of limit all ≡ h.bytes ++ take w buf
    front = taken_front limit h.bytes buf taken w k h.size short least within

    piece : take w (buf ++ tail) ≡ take w buf
    piece = take-append-le w buf tail (omega (arith, least, within))

    run_over : (r r2 : Ending) → Fed r → ((r2 ≡ Err faults.Io) ↔ (wf ≡ true))
        → ((more : List ℕ) → gives last z (taken_of limit (all ++ more)) (has_more limit (all ++ more)) c e r2)
        → Reads takes gives done limit last z a b2 c e rf wf r2
    run_over r r2 fed is over = record {
      bytes = all;
      read = Consumes-trans a b b2 h.bytes (take k buf) h.read given;
      bounded = omega (arith, size, bound);
      ended = inr (λ more none. over more);
      broken = (λ i. inr (is.0 i), λ i. is.1 (writer_only rf wf fine i));
      heard = λ i. absurd (let bad : true ≡ false = sym i ∙ fine in cc);
      ahead = (
        h.bytes,
        take k buf,
        s,
        y,
        d,
        fed.wrote.0,
        refl,
        omega (arith, few, length-take-le k buf within),
        h.takes,
        fed.wrote.1,
        inr going,
      );
      memory = λ i. omega (arith, size, some);
    }

    -- Case: the run ended with this chunk.
    run_closed : (r : Ending) → Fed r → Over (gives last z) (h.bytes ++ take w (buf ++ tail)) c e r
        → Reads takes gives done limit last z a b2 c e rf wf r
    run_closed r fed over = run_over r r fed fed.broken
        (λ more. (let rest = taken_more limit all more in
        let whole : taken_of limit (all ++ more) ≡ (h.bytes ++ take w (buf ++ tail)) ++ rest.0 =
        rest.1 ∙ ap (λ (p : List ℕ). p ++ rest.0) (front ∙ ap (λ (p : List ℕ). h.bytes ++ p) (sym piece)) in
        subst (λ (p : List ℕ). gives last z p (has_more limit (all ++ more)) c e r) (sym whole)
        (over rest.0 (has_more limit (all ++ more)))))

    pub run_stopped : (fault : RunFault) → Fed (Err fault)
        → Reads takes gives done limit last z a b2 c e rf wf (Err fault)
    run_stopped fault fed = run_closed (Err fault) fed fed.fed

    pub run_done : (u : Unit {0}) → done z ≡ true → Fed (Ok u)
        → Reads takes gives done limit last z a b2 c e rf wf (Ok u)
    run_done u is fed = run_closed (Ok u) fed (fed.fed.1 is)

    -- Case: the input has more bytes than `limit`.
    pub run_long : (u : Unit {0}) → done z ≡ false → w < k → Fed (Ok u)
        → Reads takes gives done limit last z a b2 c e rf wf (Err faults.InputTooLong)
    run_long u on past fed =
        run_over (Ok u) (Err faults.InputTooLong) fed (λ i. absurd (cc), λ i. absurd (let bad = fed.broken.1 i in cc))
        (λ more. (let whole : taken_of limit (all ++ more) ≡ h.bytes ++ take w (buf ++ tail) =
        take-append-le limit all more (omega (arith, size, past, least, short))
        ∙ front
        ∙ ap (λ (p : List ℕ). h.bytes ++ p) (sym piece) in
        let longer : has_more limit (all ++ more) ≡ true =
        is_below limit (length (all ++ more)) (omega (arith, size, past, least, short, length-append all more)) in
        subst (λ (p : List ℕ). gives last z p (has_more limit (all ++ more)) c e (Err faults.InputTooLong)) (sym whole)
        (subst (λ (m : Bool). gives last z (h.bytes ++ take w (buf ++ tail)) m c e (Err faults.InputTooLong))
        (sym longer) (fed.fed.0 on).1)))

    -- Case: all of the chunk was served, and the run continues.
    pub taken_on : (u : Unit {0}) → done z ≡ false → w ≡ k → Fed (Ok u)
        → HasTaken takes last z a b2 c e (taken + w)
    taken_on u on same fed = record {
      bytes = all;
      read = Consumes-trans a b b2 h.bytes (take k buf) h.read given;
      size = omega (arith, size, same);
      takes = subst (λ (p : List ℕ). takes last z (h.bytes ++ p) c e) (piece ∙ ap (λ (i : ℕ). take i buf) same)
          (fed.fed.0 on).0;
    }

-- ---- a fact about the input of a reader, if that input is known

known : (a b : Option (List ℕ)) (bytes : List ℕ) (P : List ℕ → Type 0) → Consumes a b bytes
    → ((more : List ℕ) → (IsAtEnd b → more ≡ []) → P (bytes ++ more)) → IfSome a P
known None b bytes P read h = tt
known (Some input) None bytes P read h = absurd read
known (Some input) (Some left) bytes P read h = subst P (sym read) (h left (λ none. none))

any_known : (a : Option (List ℕ)) (P : List ℕ → Type 0) → ((input : List ℕ) → P input) → IfSome a P
any_known None P h = tt
any_known (Some input) P h = h input

module _ {I X : Type 0} (takes : Taking I X) (gives : Giving I X) (done : X → Bool) (limit : ℕ) (s : I) (y : X)
    (a b c d : Option (List ℕ)) (rf wf : Bool) (r : Ending) (h : Reads takes gives done limit s y a b c d rf wf r) where
  pub exact_of : (P : List ℕ → Bool → Type 0) → (r ≡ Err faults.Io → (bytes : List ℕ) (longer : Bool) → P bytes longer)
      → ((bytes : List ℕ) (longer : Bool) → gives s y bytes longer c d r → P bytes longer)
      → IfSome a (λ input. P (taken_of limit input) (has_more limit input))
  exact_of P io so = elim h.ended [
    | inl failed ↦ any_known a (λ (l : List ℕ). P (taken_of limit l) (has_more limit l))
        (λ input. io (h.broken.1 (inl failed)) (taken_of limit input) (has_more limit input))
    | inr over ↦ known a b h.bytes (λ (l : List ℕ). P (taken_of limit l) (has_more limit l)) h.read
        (λ more none. so (taken_of limit (h.bytes ++ more)) (has_more limit (h.bytes ++ more)) (over more none))
  ]

  pub lazy_of : (WrittenAll : List ℕ → Option (List ℕ) → Option (List ℕ) → Type 0)
      → ((s : I) (y : X) (bytes : List ℕ) (e : Option (List ℕ)) → takes s y bytes c e → WrittenAll bytes c e)
      → IsAhead WrittenAll h.bytes c d
  lazy_of WrittenAll so = let (before, piece, t, z, mid, more, is, few, taken, wrote, need) = h.ahead in
      (before, piece, mid, more, is, few, so t z before mid taken, wrote)

  pub needed_of : (Short : List ℕ → Type 0)
      → ((s : I) (y : X) (bytes : List ℕ) (e : Option (List ℕ)) → takes s y bytes c e → done y ≡ false → Short bytes)
      → IsNeeded Short h.bytes
  needed_of Short so = let (before, piece, t, z, mid, more, is, few, taken, wrote, need) = h.ahead in elim need [
    | inl none ↦ inl none
    | inr going ↦ inr (before, piece, is, few, so t z before mid taken going)
  ]

  pub written_of : (Written : List ℕ → Type 0) → ((bytes : List ℕ) → takes s y bytes c d → Written bytes)
      → ((bytes : List ℕ) (longer : Bool) → gives s y bytes longer c d r → Written bytes)
      → Written (taken_of limit h.bytes)
  written_of Written taken so = elim h.ended [
    | inl failed ↦ (let heard = h.heard failed in
        subst Written (sym (take_all limit h.bytes heard.0)) (taken h.bytes heard.2))
    | inr over ↦ subst (λ (l : List ℕ). Written (taken_of limit l)) (append-nil h.bytes)
        (so (taken_of limit (h.bytes ++ [])) (has_more limit (h.bytes ++ [])) (over [] (λ none. refl)))
  ]

  pub heard_of : (Due : List ℕ → Bool → List ℕ → Ending → X → Type 0)
      → ((bytes : List ℕ) (longer : Bool) → takes s y bytes c d → done y ≡ false
      → (ending : Ending) × (text : List ℕ) × Due bytes longer text ending y × Appends c d text)
      → rf ≡ true → (bytes : List ℕ) × (text : List ℕ) × (ending : Ending) × (z : X) × Consumes a b bytes
      × IfGoing (done z) (Due (taken_of limit bytes) (has_more limit bytes) text ending z) × Appends c d text
  heard_of Due so failed =
      let (short, going, taken) = h.heard failed in
      let (ending, text, due, wrote) = so h.bytes (has_more limit h.bytes) taken going in (
        h.bytes,
        text,
        ending,
        y,
        h.read,
        if_going (done y) (Due (taken_of limit h.bytes) (has_more limit h.bytes) text ending y) going
            (subst (λ (l : List ℕ). Due l (has_more limit h.bytes) text ending y) (sym (take_all limit h.bytes short))
            due),
        wrote,
      )
