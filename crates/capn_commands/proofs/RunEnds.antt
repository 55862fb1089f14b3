-- Lemmas on the result of a run. (For `pack_stream` and `unpack_stream`.)
use Rattle.std.proofs.Common.{◌≡◌, ◌⊎◌, inl, inr, ℕ, ◌+◌, ◌-◌, ◌<◌, ◌≤◌, min, List, ◌++◌, length, take, Bool, true, []}
use Rattle.std.proofs.Common.{append-nil, false, Option, None, Some, IfSome, Err, refl, ap, sym, subst, ◌∙◌, arith}
use Rattle.std.proofs.Common.{length-append, length-take, length-take-le}
use Rattle.std.proofs.Math.Seq.{take-length, take_all}
use Rattle.std.specs.Io.KnownBytes.{Appends, Consumes, IsAtEnd, Keeps}
use Rattle.std.proofs.KnownBytes.{Appends-nil, Appends-trans, Consumes-trans, Consumes-kept}
use Rattle.capn_commands.specs.declared.flow_fault.FlowFault.{FlowFault}
use Rattle.capn_commands.specs.declared.flow_fault.FlowFault.TheVariants as faults
use Rattle.capn_commands.specs.Flow.{Begins, Ending, Ends, EndsAs, Flow, HasEnded, HasWritten, Consumed, IsAhead, Kept}
use Rattle.capn_commands.specs.Flow.{Runs, Stops, most, taken_of}
use Rattle.capn_commands.proofs.InputRead.{kept_all, read_end, read_past, taken_front}

abbrev stopped : FlowFault → Ending
stopped fault = Err fault

not_read : (r : Bool) → r ≡ false → r ≡ true → ⊥
not_read r fine bad = let e : true ≡ false = sym bad ∙ fine in cc

writer_only : (r w : Bool) → r ≡ false → (r ≡ true) ⊎ (w ≡ true) → w ≡ true
writer_only r w fine (inl h) = absurd (not_read r fine h)
writer_only r w fine (inr h) = h

-- Case: one more chunk was read, and `words` were written. `Q` holds for all bytes that were read and for all output.
pub heard_more : (P Q : List ℕ → List ℕ → Type 0) (a b b2 c d e : Option (List ℕ)) (taken w k : ℕ) (buf words : List ℕ)
    → w ≡ k → (h : Consumed P a b c d taken) → Consumes b b2 (take k buf) → k ≤ length buf → Appends d e words
    → Q (h.bytes ++ take k buf) (h.text ++ words) → Consumed Q a b2 c e (taken + w)
heard_more P Q a b b2 c d e taken w k buf words same h more within wrote holds = record {
  bytes = h.bytes ++ take k buf;
  text = h.text ++ words;
  read = Consumes-trans a b b2 h.bytes (take k buf) h.read more;
  count = omega (arith, h.count, same, length-append h.bytes (take k buf), length-take-le k buf within);
  wrote = Appends-trans c d e h.text words h.wrote wrote;
  holds = holds;
}

module _ (f : Flow) where
  all_written : (bytes text : List ℕ) (c d : Option (List ℕ)) → f.begins bytes text → Appends c d text
      → HasWritten f bytes c d
  all_written bytes text c d begun wrote =
      (text, length text, begun, subst (Appends c d) (sym (take-length text)) wrote)

  begins_with : (a b c d : Option (List ℕ)) (all s : List ℕ) → Consumes a b all → length all ≤ most + 1
      → IsAhead f all c d → taken_of all ≡ s → HasWritten f s c d → Begins f a b c d
  begins_with a b c d all s read bound lazy is written = record {
    bytes = all;
    read = read;
    bounded = bound;
    lazy = lazy;
    written = subst (λ (l : List ℕ). HasWritten f l c d) (sym is) written;
  }

  ends_unread : (a c d : Option (List ℕ)) (fault : FlowFault) → (fault ≡ faults.Memory) ⊎ (fault ≡ faults.Io)
      → IfSome a (EndsAs f c d (stopped fault))
  ends_unread None c d fault h = tt
  ends_unread (Some all) c d fault (inl m) = inl (ap stopped m)
  ends_unread (Some all) c d fault (inr e) = inr (inl (ap stopped e))

  ends_kept : (a b c d : Option (List ℕ)) (kept : List ℕ) (is_longer : Bool) (bytes : List ℕ) (r : Ending)
      → Kept a b kept is_longer bytes → HasEnded f kept is_longer c d r → IfSome a (EndsAs f c d r)
  ends_kept None b c d kept is_longer bytes r k h = tt
  ends_kept (Some all) b c d kept is_longer bytes r k h =
      let same = kept_all (Some all) b kept bytes is_longer k in
      subst (λ (m : Bool). HasEnded f (taken_of all) m c d r) (sym same.1)
      (subst (λ (xs : List ℕ). HasEnded f xs is_longer c d r) (sym same.0) h)

  -- Case: the run has read all bytes `kept` that it takes.
  run_kept : (a b c d : Option (List ℕ)) (kept bytes : List ℕ) (is_longer : Bool) (rf wf : Bool) (r : Ending)
      → rf ≡ false → Kept a b kept is_longer bytes → IsAhead f bytes c d → Ends f kept is_longer c d wf r
      → Runs f a b c d rf wf r
  run_kept a b c d kept bytes is_longer rf wf r fine k lazy ends = record {
    exact = ends_kept a b c d kept is_longer bytes r k ends.exact;
    io = (λ h. inr (ends.io.0 h), λ h. ends.io.1 (writer_only rf wf fine h));
    begun = begins_with a b c d bytes kept k.read k.bounded lazy k.are ends.written;
    heard = λ h. absurd (not_read rf fine h);
    memory = λ h. (bytes, k.read, omega (arith, ends.memory h, ap length k.are, length-take most bytes));
  }

  module _ (P : List ℕ → List ℕ → Type 0) (settles : (bytes text : List ℕ) → P bytes text → f.settles bytes text)
      (begins : (bytes text : List ℕ) → P bytes text → f.begins bytes text) where
    ahead : (a b c d e : Option (List ℕ)) (taken k : ℕ) (buf more : List ℕ) → (h : Consumed P a b c d taken)
        → k ≤ length buf → k ≤ 65536 → Appends d e more → IsAhead f (h.bytes ++ take k buf) c e
    ahead a b c d e taken k buf more h within small wrote = (
      h.bytes,
      take k buf,
      h.text,
      more,
      d,
      refl,
      omega (arith, small, length-take-le k buf within),
      settles h.bytes h.text h.holds,
      h.wrote,
      wrote,
    )

    ahead_all : (a b c d e : Option (List ℕ)) (taken : ℕ) (more : List ℕ) → (h : Consumed P a b c d taken)
        → Appends d e more → IsAhead f h.bytes c e
    ahead_all a b c d e taken more h wrote = (
      h.bytes,
      [],
      h.text,
      more,
      d,
      sym (append-nil h.bytes),
      omega arith,
      settles h.bytes h.text h.holds,
      h.wrote,
      wrote,
    )

    pub run_unread : (a b b2 c d : Option (List ℕ)) (taken : ℕ) (rf wf : Bool) → rf ≡ true → taken ≤ most
        → Consumed P a b c d taken → Keeps b b2 → Runs f a b2 c d rf wf (Err faults.Io)
    run_unread a b b2 c d taken rf wf broken short h kept =
        let here = Consumes-kept a b b2 h.bytes h.read kept in
        let all : taken_of h.bytes ≡ h.bytes = take_all most h.bytes (omega (arith, h.count, short)) in
        record {
          exact = ends_unread a c d faults.Io (inr refl);
          io = (λ e. inl broken, λ e. refl);
          begun = begins_with a b2 c d h.bytes h.bytes here (omega (arith, h.count, short))
              (ahead_all a b c d d taken [] h (Appends-nil d)) all
              (all_written h.bytes h.text c d (begins h.bytes h.text h.holds) h.wrote);
          heard = λ e. (h.bytes, h.text, here, settles h.bytes h.text h.holds, h.wrote);
          memory = λ e. absurd (cc);
        }

    pub run_ended : (a b b2 c d e : Option (List ℕ)) (taken : ℕ) (buf : List ℕ) (n : ℕ) (rf wf : Bool) (r : Ending)
        → rf ≡ false → taken ≤ most → (h : Consumed P a b c d taken) → n ≡ 0
        → Consumes b b2 (take n buf) × (n ≡ 0 → 0 < length buf → IsAtEnd b2) → 0 < length buf
        → (last : List ℕ) → Appends d e last → Ends f h.bytes false c e wf r → Runs f a b2 c e rf wf r
    run_ended a b b2 c d e taken buf n rf wf r fine short h zero more some last wrote ends =
        run_kept a b2 c e h.bytes h.bytes false rf wf r fine
        (read_end a b b2 h.bytes buf n zero h.read more some (omega (arith, h.count, short)))
        (ahead_all a b c d e taken last h wrote) ends

    -- Case: the last read returned more bytes than the run takes.
    pub run_long : (a b b2 c d e : Option (List ℕ)) (taken : ℕ) (buf : List ℕ) (w k : ℕ) (rf wf : Bool) (r : Ending)
        → rf ≡ false → taken + w ≡ most → w < k → taken + k ≤ most + 1 → k ≤ 65536 → (h : Consumed P a b c d taken)
        → Consumes b b2 (take k buf) → k ≤ length buf → (last : List ℕ) → Appends d e last
        → Ends f (h.bytes ++ take w buf) true c e wf r → Runs f a b2 c e rf wf r
    run_long a b b2 c d e taken buf w k rf wf r fine full past bound small h more within last wrote ends =
        run_kept a b2 c e (h.bytes ++ take w buf) (h.bytes ++ take k buf) true rf wf r fine
        (read_past a b b2 h.bytes buf k w h.read more within (omega (arith, h.count, full)) past
        (omega (arith, h.count, bound))) (ahead a b c d e taken k buf last h within small wrote) ends

    pub run_stopped : (a b b2 c d e : Option (List ℕ)) (taken : ℕ) (buf : List ℕ) (w k : ℕ) (rf wf : Bool)
        (fault : FlowFault) → rf ≡ false → taken ≤ most → w ≡ min k (most - taken) → taken + k ≤ most + 1
        → 0 < k → k ≤ 65536 → (h : Consumed P a b c d taken) → Consumes b b2 (take k buf) → k ≤ length buf
        → (last : List ℕ) → Appends d e last → Stops f (h.bytes ++ take w buf) c e wf fault
        → Runs f a b2 c e rf wf (Err fault)
    run_stopped a b b2 c d e taken buf w k rf wf fault fine short least bound some small h more within last wrote stop =
        let all = Consumes-trans a b b2 h.bytes (take k buf) h.read more in
        let front = taken_front h.bytes buf taken w k h.count short least within in
        record {
          exact = ends_unread a c e fault stop.kind;
          io = (
            λ e. inr (stop.io.0 (cc)),
            λ e. ap stopped (stop.io.1 (writer_only rf wf fine e)),
          );
          begun = begins_with a b2 c e (h.bytes ++ take k buf) (h.bytes ++ take w buf) all
              (omega (arith, h.count, bound, length-append h.bytes (take k buf), length-take-le k buf within))
              (ahead a b c d e taken k buf last h within small wrote) front stop.written;
          heard = λ e. absurd (not_read rf fine e);
          memory = λ e. (
            h.bytes ++ take k buf,
            all,
            omega (arith, some, length-append h.bytes (take k buf), length-take-le k buf within),
          );
        }
