-- Lemmas on text that is added to an output or breaks off. (For `bits.rt`, `byte_digits.rt`, `bytes.rt`, capn_commands
-- and capn_marks.)
use Rattle.std.proofs.Common.{◌≡◌, ℕ, ◌+◌, List, IsErrAnd, [], ◌++◌, length, take, drop, refl, ◌∙◌, sym, ap, subst}
use Rattle.std.proofs.Common.{append_assoc}
use Rattle.std.specs.Prelude.{Option, Result, Ok, Err, IfErr}
use Rattle.std.specs.Io.KnownBytes.{Appends}
use Rattle.std.proofs.KnownBytes.{Appends-nil, Appends-trans}
use Rattle.std.proofs.Math.Seq.{take-append-add, take-append_seam}
use Rattle.std.proofs.lemmas.List.{append-nil, take-append-drop}
use Rattle.capn_show.specs.declared.fault.Broken.{Broken}
use Rattle.capn_show.specs.declared.fault.Broken.TheVariants as broken
use Rattle.capn_show.specs.Outgoing.{Outgoing, Adds, BreaksOff}

first-part : (n : ℕ) (x y : List ℕ) → take (length (take n x)) (x ++ y) ≡ take n x
first-part n x y =
    ap (λ (l : List ℕ). take (length (take n x)) l)
    (ap (λ (l : List ℕ). l ++ y) (sym (take-append-drop n x)) ∙ append_assoc (take n x) (drop n x) y)
    ∙ take-append_seam (take n x) (drop n x ++ y)

joined : (w k p t u : List ℕ) → w ++ k ≡ p ++ t → w ++ (k ++ u) ≡ p ++ (t ++ u)
joined w k p t u e = sym (append_assoc w k u) ∙ ap (λ (l : List ℕ). l ++ u) e ∙ append_assoc p t u

-- Case: nothing is written, and `x` is appended to the text that is not yet written.
pub kept-more : (p q : Outgoing) (x : List ℕ) → q.taken ≡ p.taken → q.failed ≡ p.failed → q.kept ≡ p.kept ++ x
    → Adds p q x
kept-more p q x h f k = record {
  written = [];
  taken = subst (λ (c : Option (List ℕ)). Appends p.taken c []) (sym h) (Appends-nil p.taken);
  kept = k;
  failed = f;
}

-- Case: an allocation is refused, and nothing is added.
pub refused : (p q : Outgoing) (t : List ℕ) (e : Broken) → e ≡ broken.Memory → q.taken ≡ p.taken → q.failed ≡ p.failed
    → q.kept ≡ p.kept → BreaksOff p q e t
refused p q t e is h f k =
    subst (λ (x : Broken). BreaksOff p q x t) (sym is) (0, kept-more p q [] h f (k ∙ sym (append-nil p.kept)))

pub same : (p : Outgoing) → Adds p p []
same p = kept-more p p [] refl refl (sym (append-nil p.kept))

pub otherwise : (p q : Outgoing) (x y : List ℕ) → x ≡ y → Adds p q x → Adds p q y
otherwise p q x y e h = subst (Adds p q) e h

pub otherwise-broken : (p q : Outgoing) (e : Broken) (x y : List ℕ) → x ≡ y → BreaksOff p q e x → BreaksOff p q e y
otherwise-broken p q e x y is h = subst (BreaksOff p q e) is h

-- If `x` is added from `p` to `q`, and `y` from `q` to `r`, `x ++ y` is added from `p` to `r`.
pub both : (p q r : Outgoing) (x y : List ℕ) → Adds p q x → Adds q r y → Adds p r (x ++ y)
both p q r x y h k = record {
  written = h.written ++ k.written;
  taken = Appends-trans p.taken q.taken r.taken h.written k.written h.taken k.taken;
  kept = append_assoc h.written k.written r.kept ∙ ap (λ (l : List ℕ). h.written ++ l) k.kept
      ∙ joined h.written q.kept p.kept x y h.kept;
  failed = k.failed ∙ h.failed;
}

-- If `x` is added from `p` to `q`, and `y` breaks off from `q` to `r`, `x ++ y` breaks off from `p` to `r`.
pub then-broken : (p q r : Outgoing) (e : Broken) (x y : List ℕ) → Adds p q x → BreaksOff q r e y
    → BreaksOff p r e (x ++ y)
then-broken p q r broken.Io x y h (n, k, f) =
    let front : h.written ++ take n (q.kept ++ y) ≡ take (length h.written + n) (p.kept ++ (x ++ y)) =
    sym (take-append-add h.written (q.kept ++ y) n)
    ∙ ap (λ (l : List ℕ). take (length h.written + n) l) (joined h.written q.kept p.kept x y h.kept) in (
      length h.written + n,
      subst (Appends p.taken r.taken) front
          (Appends-trans p.taken q.taken r.taken h.written (take n (q.kept ++ y)) h.taken k),
      f,
    )
then-broken p q r broken.Memory x y h (n, k) =
    (length x + n, otherwise p r (x ++ take n y) _ (sym (take-append-add x y n)) (both p q r x (take n y) h k))

-- If `x` breaks off from `p` to `q`, `x ++ y` also breaks off from `p` to `q`.
pub broken-before : (p q : Outgoing) (e : Broken) (x y : List ℕ) → BreaksOff p q e x → BreaksOff p q e (x ++ y)
broken-before p q broken.Io x y (n, k, f) =
    let front = take n (p.kept ++ x) in (
      length front,
      subst (Appends p.taken q.taken) (sym (first-part n (p.kept ++ x) y)
          ∙ ap (λ (l : List ℕ). take (length front) l) (append_assoc p.kept x y)) k,
      f,
    )
broken-before p q broken.Memory x y (n, k) =
    (length (take n x), otherwise p q (take n x) _ (sym (first-part n x y)) k)

pub settled-broken : (p q r : Outgoing) (e : Broken) (x : List ℕ) → Adds p q x → BreaksOff q r e [] → BreaksOff p r e x
settled-broken p q r e x h k = otherwise-broken p r e (x ++ []) x (append-nil x) (then-broken p q r e x [] h k)

-- If `r` fails with the error `e`, and `P` holds of `e`, `P` holds of the error of `r`.
pub passed : {T : Type 0} (r : Result T Broken) (e : Broken) (P : Broken → Type 0) → IsErrAnd r (λ y. y ≡ e) → P e
    → IfErr r P
passed (Ok x) e P is h = tt
passed (Err y) e P is h = subst P (sym is) h
