-- Texts that are added to the output of a run one after the other.
use Rattle.std.proofs.Common.{◌≡◌, ℕ, ◌+◌, ◌≤◌, List, [], ◌++◌, length, take, Bool, true, false}
use Rattle.std.proofs.Common.{Result, Ok, Err}
use Rattle.std.proofs.Common.{refl, sym, subst, ◌∙◌, arith, nat_lt, IsErrAnd}
use Rattle.std.proofs.lemmas.Bool.Decides.{nat_tests}
use Rattle.std.proofs.Math.Seq.{take-append-add, take-append_seam}
use Rattle.std.proofs.lemmas.List.{take-append-le, take_all}
use Rattle.capn_serve.specs.declared.fault.ServeFault.{ServeFault}
use Rattle.capn_serve.specs.declared.fault.ServeFault.TheVariants as faults
use Rattle.capn_serve.specs.Outgoing.{Outgoing, Adds, AddsBytes}
use Rattle.capn_serve.proofs.shared.Adding.{added_none, added_both, broken_after, broken_before}
use Rattle.capn_annotate.specs.inner.Adding.{AddsText}

abbrev Ending : Type 0
Ending = Result (Unit {0}) ServeFault

abbrev done : Ending
done = Ok tt

abbrev stopped : ServeFault → Ending
stopped fault = Err fault

-- A text that was added by `add_bytes`.
pub by_bytes : (a b : Outgoing) (text : List ℕ) (failed : Bool) (r : Ending) → AddsBytes text a b failed r
    → AddsText text a b failed r
by_bytes a b text failed (Ok u) (adds, short, fine) = (adds, fine, λ h. short)
by_bytes a b text failed (Err faults.Memory) (none, short, fine) = ((0, none), fine)
by_bytes a b text failed (Err faults.Io) (breaks, broken) = (breaks, broken)
by_bytes a b text failed (Err (faults.Refused r)) none = absurd none

-- The same, of bytes that equal the text.
pub by_equal_bytes : (a b : Outgoing) (bytes text : List ℕ) → bytes ≡ text → (failed : Bool) (r : Ending)
    → AddsBytes bytes a b failed r → AddsText text a b failed r
by_equal_bytes a b bytes text is failed r adds =
    subst (λ (t : List ℕ). AddsText t a b failed r) is (by_bytes a b bytes failed r adds)

-- An allocation was refused before anything was added.
pub by_memory : (a : Outgoing) (text : List ℕ) (failed : Bool) → failed ≡ false → (r : Ending)
    → IsErrAnd r (λ (e : ServeFault). e ≡ faults.Memory) → AddsText text a a failed r
by_memory a text failed fine (Ok u) is = absurd is
by_memory a text failed fine (Err e) is =
    subst (λ (f : ServeFault). AddsText text a a failed (stopped f)) (sym is) ((0, added_none a), fine)

-- Nothing was to be added.
pub by_nothing : (a : Outgoing) (failed : Bool) → failed ≡ false → AddsText [] a a failed done
by_nothing a failed fine = (added_none a, fine, λ h. h)

-- A beginning of a text is a beginning of the text and more.
beginning-at : (t u : List ℕ) (n : ℕ) (b : Bool) → nat_lt (length t) n ≡ b → (k : ℕ) × (take n t ≡ take k (t ++ u))
beginning-at t u n true e =
    let h : length t ≤ n = grind (arith, nat_tests) in
    (length t, take_all n t h ∙ sym (take-append_seam t u))
beginning-at t u n false e =
    let h : n ≤ length t = grind (arith, nat_tests) in
    (n, sym (take-append-le n t u h))

beginning : (t u : List ℕ) (n : ℕ) → (k : ℕ) × (take n t ≡ take k (t ++ u))
beginning t u n = beginning-at t u n (nat_lt (length t) n) refl

-- If the first of two texts was added, and what was done then is known of the second, that is known of both together.
pub both : (a b c : Outgoing) (t u : List ℕ) (fine failed : Bool) (r : Ending) → AddsText t a b fine done
    → AddsText u b c failed r → AddsText (t ++ u) a c failed r
both a b c t u fine failed (Ok v) (first, f, short) (second, g, shorter) =
    (added_both a b c t u first second, g, λ h. shorter (short h))
both a b c t u fine failed (Err faults.Memory) (first, f, short) ((count, second), g) = (
  (
    length t + count,
    subst (Adds a c) (sym (take-append-add t u count))
        (added_both a b c t (take count u) first second),
  ),
  g,
)
both a b c t u fine failed (Err faults.Io) (first, f, short) ((count, second), g) =
    (broken_after a b c t u count first second, g)
both a b c t u fine failed (Err (faults.Refused e)) first second = absurd second

-- If the first of two texts broke off, both together did.
pub before : (a b : Outgoing) (t u : List ℕ) (failed : Bool) (fault : ServeFault)
    → AddsText t a b failed (stopped fault) → AddsText (t ++ u) a b failed (stopped fault)
before a b t u failed faults.Memory ((count, adds), g) =
    let k = beginning t u count in ((k.0, subst (Adds a b) k.1 adds), g)
before a b t u failed faults.Io ((count, breaks), g) = (broken_before a b t u count breaks, g)
before a b t u failed (faults.Refused e) none = absurd none

-- A fault that is passed on.
pub passed : (a b : Outgoing) (t : List ℕ) (failed : Bool) (r : Ending) (fault : ServeFault)
    → IsErrAnd r (λ (e : ServeFault). e ≡ fault) → AddsText t a b failed (stopped fault) → AddsText t a b failed r
passed a b t failed (Ok u) fault is adds = absurd is
passed a b t failed (Err e) fault is adds =
    subst (λ (f : ServeFault). AddsText t a b failed (stopped f)) (sym is) adds

pub other_text : (a b : Outgoing) (t u : List ℕ) (failed : Bool) (r : Ending) → t ≡ u
    → AddsText t a b failed r → AddsText u a b failed r
other_text a b t u failed r is adds = subst (λ (x : List ℕ). AddsText x a b failed r) is adds
