-- Lemmas for `run_messages` and for `Finishes`: text that follows the texts of the messages, and `ServesMessages` with
-- equal arguments.
use Rattle.std.proofs.Common.{◌≡◌, ℕ, ◌+◌, List, [], ◌++◌, length, take, Bool, Option, Result, inl, inr, sym, subst}
use Rattle.std.proofs.Common.{IfSome, append-nil}
use Rattle.std.proofs.Math.Seq.{take-append-add}
use Rattle.std.specs.Io.KnownBytes.{Appends}
use Rattle.std.proofs.KnownBytes.{Appends-trans}
use Rattle.capn_words.specs.Watched.{HasBegun}
use Rattle.capn_canon.specs.declared.form.Form.{Form}
use Rattle.capn_canon.specs.declared.form.Form.TheVariants as forms
use Rattle.capn_serve.specs.declared.fault.RunFault.{RunFault}
use Rattle.capn_serve.specs.Fold.{Fold, texts_of}
use Rattle.capn_serve.specs.StreamRun.{HasWrittenAll, IsAhead}
use Rattle.capn_serve.specs.PackedRun.{HasWrittenAllPacked}
use Rattle.capn_serve.specs.Finish.{TellsEnd}
use Rattle.capn_serve.specs.FormRun.{HasWritten, IsReadSoFar, ServesMessages, most_stream}
use Rattle.capn_serve.specs.WhatCame.{Came}

pub begun_text : {X : Type 0} (f : Fold X) (x : X) (form : Form) (bytes : List ℕ) (c d : Option (List ℕ))
    → HasWritten f x form bytes c d → (text : List ℕ) × Appends c d text
begun_text f x forms.Stream bytes c d (parts, rest, y, count, are, wrote) = (take count (texts_of parts), wrote)
begun_text f x forms.Packed bytes c d (stream, begins, parts, rest, y, count, are, wrote) =
    (take count (texts_of parts), wrote)
begun_text f x forms.Bare bytes c d (inl wrote) = ([], wrote)
begun_text f x forms.Bare bytes c d (inr (text, y, count, writes, wrote)) = (take count text, wrote)

-- `IsAhead` still holds after more text was written.
ahead_more : (P : List ℕ → Option (List ℕ) → Option (List ℕ) → Type 0) (bytes more : List ℕ)
    (c m d : Option (List ℕ)) → IsAhead P bytes c m → Appends m d more → IsAhead P bytes c d
ahead_more P bytes more c m d (before, piece, mid, first, is, small, written, wrote) after =
    (before, piece, mid, first ++ more, is, small, written, Appends-trans mid m d first more wrote after)

pub read_so_far : {X : Type 0} (f : Fold X) (x : X) (form : Form) (bytes more : List ℕ) (c m d : Option (List ℕ))
    → IsReadSoFar f x form bytes c m → Appends m d more → IsReadSoFar f x form bytes c d
read_so_far f x forms.Stream bytes more c m d (bound, ahead) wrote =
    (bound, ahead_more (HasWrittenAll f x most_stream) bytes more c m d ahead wrote)
read_so_far f x forms.Packed bytes more c m d (bound, ahead) wrote =
    (bound, ahead_more (HasWrittenAllPacked f x most_stream) bytes more c m d ahead wrote)
read_so_far f x forms.Bare bytes more c m d bound wrote = bound

pub append_none : (c m d : Option (List ℕ)) (text : List ℕ) → Appends c m text → Appends m d [] → Appends c d text
append_none c m d text wrote none = subst (Appends c d) (append-nil text) (Appends-trans c m d text [] wrote none)

-- `HasWritten` still holds after nothing more was written.
pub written_still : {X : Type 0} (f : Fold X) (x : X) (form : Form) (bytes : List ℕ) (c m d : Option (List ℕ))
    → HasWritten f x form bytes c m → Appends m d [] → HasWritten f x form bytes c d
written_still f x forms.Stream bytes c m d (parts, rest, y, count, are, wrote) none =
    (parts, rest, y, count, are, append_none c m d (take count (texts_of parts)) wrote none)
written_still f x forms.Packed bytes c m d (stream, begins, parts, rest, y, count, are, wrote) none =
    (stream, begins, parts, rest, y, count, are, append_none c m d (take count (texts_of parts)) wrote none)
written_still f x forms.Bare bytes c m d (inl wrote) none = inl (append_none c m d [] wrote none)
written_still f x forms.Bare bytes c m d (inr (text, y, count, writes, wrote)) none =
    inr (text, y, count, writes, append_none c m d (take count text) wrote none)

-- If `text` and then a prefix of `last` were written, a prefix of `text ++ last` was written.
pub begun_after : (c m d : Option (List ℕ)) (text last : List ℕ) (count : ℕ) → Appends c m text
    → Appends m d (take count last) → HasBegun c d (text ++ last)
begun_after c m d text last count before wrote = (
  length text + count,
  subst (Appends c d) (sym (take-append-add text last count))
      (Appends-trans c m d text (take count last) before wrote),
)

-- In `ServesMessages` the limit `most` and the first state `x` may be replaced by equal ones.
pub of_order : {X : Type 0} (fold : ℕ → Fold X) (form : Form) (words most : ℕ) (first x : X) → most ≡ words → x ≡ first
    → (a b c d : Option (List ℕ)) (reader writer : Bool) (r : Result (Unit {0}) RunFault) (y : X)
    → ServesMessages (fold most) x form a b c d reader writer r y
    → ServesMessages (fold words) first form a b c d reader writer r y
of_order {X = X} fold form words most first x same fresh a b c d reader writer r y ran =
    subst (λ (z : X). ServesMessages (fold words) z form a b c d reader writer r y) fresh
    (subst (λ (n : ℕ). ServesMessages (fold n) x form a b c d reader writer r y) same ran)

-- In `TellsEnd` the limit `most` and the first state `x` may be replaced by equal ones.
pub told_of_order : {X : Type 0} (fold : ℕ → Fold X) (form : Form) (words most : ℕ) (first x : X) → most ≡ words
    → x ≡ first → (a : Option (List ℕ)) (r : Result (Unit {0}) RunFault) (came : Came) (y : X)
    → IfSome a (λ input. TellsEnd (fold most) x form input r came y)
    → IfSome a (λ input. TellsEnd (fold words) first form input r came y)
told_of_order {X = X} fold form words most first x same fresh a r came y tells =
    subst (λ (z : X). IfSome a (λ input. TellsEnd (fold words) z form input r came y)) fresh
    (subst (λ (n : ℕ). IfSome a (λ input. TellsEnd (fold n) x form input r came y)) same tells)
