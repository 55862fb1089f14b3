-- Lemmas on the content of a writer after a flush or a write. (For `tell_said`.)
use Rattle.std.proofs.Common.{◌≡◌, ◌∙◌, ℕ, List, length, Bool, false, Option, Some, None, Result, Ok, Err, OnOk}
use Rattle.std.proofs.Common.{is_err, ◌||◌, sym, subst}
use Rattle.std.proofs.Math.Seq.{take-length}
use Rattle.std.specs.Io.KnownBytes.{Appends, Keeps}
use Rattle.capn_words.specs.Watched.{HasBegun}
use Rattle.capn_serve.specs.Line.{WritesLine}

pub kept : (c m d : Option (List ℕ)) (text : List ℕ) → Keeps m d → Appends c m text → Appends c d text
kept None m d text k a = tt
kept (Some x) None d text k a = absurd a
kept (Some x) (Some y) None text k a = absurd k
kept (Some x) (Some y) (Some z) text k a = k ∙ a

pub begun_all : (c d : Option (List ℕ)) (text : List ℕ) → Appends c d text → HasBegun c d text
begun_all c d text a = (length text, subst (λ (t : List ℕ). Appends c d t) (sym (take-length text)) a)

pub told : {T E : Type 0} (text : List ℕ) (c d : Option (List ℕ)) (old new : Bool) (r : Result T E) → old ≡ false
    → OnOk r (Appends c d text) → HasBegun c d text → new ≡ (old || is_err r) → WritesLine text c d new
told text c d old new (Ok u) fine ok begun is = rw (is, fine) ok
told text c d old new (Err e) fine ok begun is = rw (is, fine) begun
