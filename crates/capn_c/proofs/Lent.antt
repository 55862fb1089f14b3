-- The contract of `capn_canonical_with_scratch` follows from the result of the inner call. (For `write_lent`.)
use Rattle.std.proofs.Common.{◌≡◌, ◌≢◌, inl, inr, ℕ, ◌+◌, ◌*◌, ◌<◌, ◌≤◌, IsTrue, List, length, take}
use Rattle.std.specs.Prelude.{MatchResult}
use Rattle.std.proofs.Common.{Result, Ok, Err, refl, ap, sym, subst, ◌∙◌, arith}
use Rattle.std.proofs.lemmas.Bool.{le-ltb}
use Rattle.capn_value.specs.Tree.{Tree}
use Rattle.capn_walk.specs.Accepted.{IsBounded}
use Rattle.capn_walk.specs.Limits.{AreLimits, Bounds}
use Rattle.capn_canon.specs.Canonicity.{IsCanonicalForm}
use Rattle.capn_canon.specs.Denotes.{Answers, Denotes}
use Rattle.capn_canon.specs.Laws.{DenotedHaveForms}
use Rattle.capn_canon.specs.Layout.{canon}
use Rattle.capn_canon.specs.Refusal.{IsRefused}
use Rattle.capn_canon.specs.declared.form.Form.{Form}
use Rattle.capn_canon.specs.declared.length.CanonicalLength.{CanonicalLength}
use Rattle.capn_canon.specs.declared.refusal.Refusal.{Refusal}
use Rattle.capn_canon.specs.declared.refusal.Refusal.TheVariants as refusals
use Rattle.capn_canon.proofs.shared.NotRefused.{not_refused}
use Rattle.capn_canon.proofs.shared.OneReading.{one_value}
use Rattle.capn_scratch.specs.FormRefusal.{IsFormPaidWithin, IsFormRefused}
use Rattle.capn_scratch.specs.Laws.{FormIsDecided, IsFormWrittenOrRefused, LackingIsNotHaving, ScratchIsBounded}
use Rattle.capn_scratch.specs.Theorem.{WrittenForm}
use Rattle.capn_scratch.specs.declared.refusal.FormRefusal.{FormRefusal}
use Rattle.capn_scratch.specs.declared.refusal.FormRefusal.TheVariants as told
use Rattle.capn_abi.specs.Calls.{Delivers, IsWritten}
use Rattle.capn_abi.specs.StatusCodes.{Reports, answered, at_number, code, is_status, report_of}
use Rattle.capn_abi.specs.declared.report.CapnReport.{CapnReport}
use Rattle.capn_c.specs.Lent.{LacksScratch, is_lent_status}
use Rattle.capn_c.specs.Agreement.{IsRefusalTold, IsResultTold}
use Rattle.capn_c.specs.inner.Lent.{IsLent}
use Rattle.capn_c.proofs.Delivered.{in_buffer}
use Rattle.capn_c.proofs.Listed.{above, refused_listed}
use Rattle.capn_c.proofs.OutOfMemory.{refused_memory}

-- ---- one call

lent_status : (n : ℕ) → 10 ≤ n → IsTrue (is_status n) → IsTrue (is_lent_status n)
lent_status n h listed = rw (le-ltb n 10 h) listed

module _ (decided : FormIsDecided) (most : ScratchIsBounded) (never : LackingIsNotHaving) (have : DenotedHaveForms)
    (form : Form) (bs : List ℕ) (limits : Bounds) (are : AreLimits limits.message_words limits.budget limits.depth)
    (scratch : ℕ) (old new : List ℕ) where
  at_told : (status n : ℕ) (report r : CapnReport) → status ≡ n → report ≡ r
      → IsLent form bs limits scratch old new n r → IsLent form bs limits scratch old new status report
  at_told status n report r e f h =
      subst (λ (x : CapnReport). IsLent form bs limits scratch old new status x) (sym f)
      (subst (λ (x : ℕ). IsLent form bs limits scratch old new x r) (sym e) h)

  only_lacking : (r : Result CanonicalLength FormRefusal) → IsFormWrittenOrRefused form bs limits scratch old new r
      → (n : ℕ) → LacksScratch form bs limits.message_words scratch n → r ≡ Err (told.NoScratch n)
  only_lacking r h n k =
      (decided form bs limits scratch old new old r (Err (told.NoScratch n)) h
      (record { written = tt; refused = k; unchanged = refl })).0

  -- ---- an answer

  denoted : (c : CanonicalLength) (w : WrittenForm form bs limits scratch old new c)
      → Denotes form bs limits w.written.value
  denoted c w = record { message = w.message; reads = w.reads; value = w.written.is.is }

  delivered : (c : CanonicalLength) → WrittenForm form bs limits scratch old new c → (v : Tree)
      → Denotes form bs limits v → Delivers (canon v) 0 c.length old new
  delivered c w v d =
      let same = one_value form bs limits w.written.value v (denoted c w) d in
      record {
        length_is = w.written.is.long ∙ ap (λ (x : Tree). length (canon x)) same;
        either = inl (refl, subst (λ (x : Tree). IsWritten (canon x) old new) same w.written.written);
      }

  answer : (c : CanonicalLength) (w : WrittenForm form bs limits scratch old new c)
      → Answers form bs limits (canon w.written.value) c.paid
  answer c w = record {
    message = w.message;
    reads = w.reads;
    answer = record {
      value = w.written.value;
      is = w.written.is.is;
      free = w.written.is.free;
      canonical = refl;
      priced = w.written.is.pays;
    };
  }

  is_short : (c : CanonicalLength) → WrittenForm form bs limits scratch old new c → c.length ≤ 8 * (c.paid + 1)
  is_short c w =
      let denotes : Denotes form bs limits w.written.value =
      record { message = w.message; reads = w.reads; value = w.written.is.is } in
      let f = have form bs limits w.written.value are denotes in
      omega (arith, f.short, w.written.is.long, w.written.is.pays)

  is_form : (c : CanonicalLength) → WrittenForm form bs limits scratch old new c → (v : Tree)
      → Denotes form bs limits v → IsCanonicalForm (take c.length new) limits v
  is_form c w v d =
      in_buffer (λ (xs : List ℕ). IsCanonicalForm xs limits v) (canon v) 0 c.length old new (delivered c w v d) refl
      (have form bs limits v are d).canonical

  written : (c : CanonicalLength) → WrittenForm form bs limits scratch old new c → c.paid ≤ limits.budget
      → IsLent form bs limits scratch old new 0 (answered c.length c.paid 0)
  written c w within = record {
    possible = inl (omega arith);
    found = (λ t. (canon w.written.value, answer c w, w.has, delivered c w w.written.value (denoted c w)));
    only = (λ v d n has. delivered c w v d);
    rest = (λ t. refl);
    listed = refl;
    lacking = (λ e. absurd (omega (arith, e)));
    lacked = (λ n k.
        let one : Ok c ≡ Err (told.NoScratch n) =
        only_lacking (Ok c) (record { written = w; refused = tt; unchanged = tt }) n k in
        absurd cc);
    enough = (λ e. absurd (omega (arith, e)));
    refused = (λ k. absurd (omega (arith, k)));
    bounded = record { within = within; few = omega arith };
    short = (λ t. is_short c w);
    kept = (λ n. absurd (n refl));
    canonical = (λ t. is_form c w);
  }

  -- ---- a refusal

  -- Case: the bytes are refused.
  of_bytes : (e : FormRefusal) → IsFormRefused form bs limits scratch (length old) e → new ≡ old
      → ((n : ℕ) → e ≢ told.NoScratch n) → (r : Refusal) → r ≢ refusals.Memory → IsRefused form bs limits r
      → IsBounded limits.budget (report_of r).paid (report_of r).visits
      → (status : ℕ) (report : CapnReport) → Reports status report r
      → IsLent form bs limits scratch old new status report
  of_bytes e h same other r plain is within status report t =
      let not_memory : code r ≢ 8 = λ k. plain (refused_memory form bs limits r is k) in
      let high : 16 ≤ status = omega (arith, above r not_memory, t.status_is) in
      record {
        possible = inr (omega (arith, high));
        found = (λ k. absurd (omega (arith, k, high)));
        only = (λ v d n has. absurd (plain (not_refused form bs limits v r d n is)));
        rest = (λ k. absurd (omega (arith, k, high)));
        listed = subst (λ (n : ℕ). IsTrue (is_lent_status n)) (sym t.status_is)
            (lent_status (code r) (omega (arith, above r not_memory)) (refused_listed form bs limits r is));
        lacking = (λ k. absurd (omega (arith, k, high)));
        lacked = (λ n k.
            let one : Err e ≡ Err (told.NoScratch n) =
            only_lacking (Err e) (record { written = tt; refused = h; unchanged = same }) n k in
            absurd (other n (cc)));
        enough = (λ k. absurd (omega (arith, k, high)));
        refused = (λ k. (r, t, is));
        bounded = subst (λ (x : CapnReport). IsBounded limits.budget x.paid x.visits) (sym t.report_is) within;
        short = (λ k. absurd (omega (arith, k, high)));
        kept = (λ k. same);
        canonical = (λ k. absurd (omega (arith, k, high)));
      }

  nothing_paid : IsBounded limits.budget 0 0
  nothing_paid = record { within = omega arith; few = omega arith }

  -- Case: the scratch has too few words.
  without_scratch : (n : ℕ) → IsFormRefused form bs limits scratch (length old) (told.NoScratch n) → new ≡ old
      → IsLent form bs limits scratch old new 9 (at_number n)
  without_scratch n h same = record {
    possible = inr (omega arith);
    found = (λ k. absurd (omega (arith, k)));
    only = (λ v d free has. absurd (never form bs limits scratch (length old) n h has));
    rest = (λ k. absurd (omega (arith, k)));
    listed = refl;
    lacking = (λ k. (refl, h));
    lacked = (λ m k.
        let one : Err (told.NoScratch n) ≡ Err (told.NoScratch m) =
        only_lacking (Err (told.NoScratch n)) (record { written = tt; refused = h; unchanged = same }) m k in
        let number : n ≡ m = cc in (refl, ap at_number number));
    enough = (λ k. (most form bs limits scratch (length old) n h).1);
    refused = (λ k. absurd (omega (arith, k)));
    bounded = nothing_paid;
    short = (λ k. absurd (omega (arith, k)));
    kept = (λ k. same);
    canonical = (λ k. absurd (omega (arith, k)));
  }

  no_room : (n : ℕ) (v : Tree) → Denotes form bs limits v → n ≡ length (canon v) → length old < n → new ≡ old
      → (w : Tree) → Denotes form bs limits w → Delivers (canon w) 1 n old new
  no_room n v denotes long less same w d =
      let one = ap (λ (x : Tree). length (canon x)) (one_value form bs limits v w denotes d) in
      record { length_is = long ∙ one; either = inr (refl, (omega (arith, less, long, one), same)) }

  -- Case: the buffer is too short.
  without_room : (n p : ℕ) → IsFormRefused form bs limits scratch (length old) (told.NoRoom n p) → new ≡ old
      → p ≤ limits.budget → IsLent form bs limits scratch old new 1 (answered n p 0)
  without_room n p (m, is, has, (v, at_root, free, long, less, pays)) same within =
      let denotes : Denotes form bs limits v = record { message = m; reads = is; value = at_root } in
      let f = have form bs limits v are denotes in
      record {
        possible = inl (omega arith);
        found = (λ k. (
          canon v,
          record {
            message = m;
            reads = is;
            answer = record { value = v; is = at_root; free = free; canonical = refl; priced = pays };
          },
          has,
          no_room n v denotes long less same v denotes,
        ));
        only = (λ w d k also. no_room n v denotes long less same w d);
        rest = (λ k. refl);
        listed = refl;
        lacking = (λ k. absurd (omega (arith, k)));
        lacked = (λ k l.
            let one : Err (told.NoRoom n p) ≡ Err (told.NoScratch k) =
            only_lacking (Err (told.NoRoom n p)) (record {
              written = tt;
              refused = (m, is, has, (v, at_root, free, long, less, pays));
              unchanged = same;
            }) k l in
            absurd cc);
        enough = (λ k. absurd (omega (arith, k)));
        refused = (λ k. absurd (omega (arith, k)));
        bounded = record { within = within; few = omega arith };
        short = (λ k. omega (arith, f.short, long, pays));
        kept = (λ k. same);
        canonical = (λ k. absurd (omega (arith, k)));
      }

  -- Case: the result is a refusal `e` of any kind.
  each : (e : FormRefusal) → IsFormRefused form bs limits scratch (length old) e → new ≡ old
      → IsFormPaidWithin limits.budget e → (status : ℕ) (report : CapnReport) → IsRefusalTold e status report
      → IsLent form bs limits scratch old new status report
  each (told.Bare e) h same within status report t =
      of_bytes (told.Bare e) h same (λ n x. absurd cc) (refusals.Bare e) (λ x. absurd cc) h nothing_paid status report t
  each (told.Packed e) h same within status report t =
      of_bytes (told.Packed e) h same (λ n x. absurd cc) (refusals.Packed e) (λ x. absurd cc) h nothing_paid status
      report t
  each (told.Frame e) h same within status report t =
      of_bytes (told.Frame e) h same (λ n x. absurd cc) (refusals.Frame e) (λ x. absurd cc) h.1 nothing_paid status
      report t
  each (told.Trailing at) h same within status report t =
      of_bytes (told.Trailing at) h same (λ n x. absurd cc) (refusals.Trailing at) (λ x. absurd cc) h.1 nothing_paid
      status report t
  each (told.Walk s) (m, is, has, r) same within status report t =
      of_bytes (told.Walk s) (m, is, has, r) same (λ n x. absurd cc) (refusals.Walk s) (λ x. absurd cc) (m, is, r)
      within status report t
  each (told.Capability k) (m, is, has, r) same within status report t =
      of_bytes (told.Capability k) (m, is, has, r) same (λ n x. absurd cc) (refusals.Capability k) (λ x. absurd cc)
      (m, is, r) nothing_paid status report t
  each (told.NoScratch n) h same within status report (is_9, is_n) =
      at_told status 9 report (at_number n) is_9 is_n (without_scratch n h same)
  each (told.NoRoom n p) h same within status report (is_1, is_n) =
      at_told status 1 report (answered n p 0) is_1 is_n (without_room n p h same within)

  -- The contract holds for each result `r` of the inner call.
  pub lent : (r : Result CanonicalLength FormRefusal) → IsFormWrittenOrRefused form bs limits scratch old new r
      → MatchResult r (λ c. IsBounded limits.budget c.paid c.visits) (λ e. IsFormPaidWithin limits.budget e)
      → (status : ℕ) (report : CapnReport) → IsResultTold r status report
      → IsLent form bs limits scratch old new status report
  lent (Ok c) h within status report (is_0, is_c) =
      at_told status 0 report (answered c.length c.paid 0) is_0 is_c (written c h.written within.within)
  lent (Err e) h within status report t = each e h.refused h.unchanged within status report t
