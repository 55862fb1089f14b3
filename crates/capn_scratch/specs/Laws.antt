-- Laws about the clauses of `canonical_into_form`. (Our own.)
use Rattle.std.specs.Prelude.{◌≡◌, ℕ, ◌+◌, ◌-◌, ◌<◌, ◌≤◌, List, length, Result, IfOk, IfErr, OnErr}
use Rattle.capn_words.specs.Message.{most_segments}
use Rattle.capn_stream.specs.Frames.{most_table_words}
use Rattle.capn_walk.specs.Limits.{Bounds}
use Rattle.capn_canon.specs.declared.form.Form.{Form}
use Rattle.capn_canon.specs.declared.form.Form.TheVariants as forms
use Rattle.capn_canon.specs.declared.length.CanonicalLength.{CanonicalLength}
use Rattle.capn_scratch.specs.FormRefusal.{IsFormRefused}
use Rattle.capn_scratch.specs.Needs.{HasScratch}
use Rattle.capn_scratch.specs.Theorem.{WrittenForm}
use Rattle.capn_scratch.specs.declared.refusal.FormRefusal.{FormRefusal}
use Rattle.capn_scratch.specs.declared.refusal.FormRefusal.TheVariants as told

-- The clauses of `canonical_into_form` allow the result `r`. If `r` is `Ok`, the canonical bytes are written
-- (`WrittenForm`). Otherwise the refusal is true (`IsFormRefused`), and the buffer is as before.
pub record IsFormWrittenOrRefused (form : Form) (bs : List ℕ) (limits : Bounds) (scratch : ℕ) (old new : List ℕ)
    (r : Result CanonicalLength FormRefusal) : Type 0 where
  pub written : IfOk r (λ c. WrittenForm form bs limits scratch old new c)
  pub refused : IfErr r (λ e. IsFormRefused form bs limits scratch (length old) e)
  pub unchanged : OnErr r (new ≡ old)

-- For the same `form`, `bs`, `limits`, `scratch` and `old`, the clauses of `canonical_into_form` allow only one result
-- and only one content of the buffer.
abbrev pub FormIsDecided : Type 0
FormIsDecided = (form : Form) (bs : List ℕ) (limits : Bounds) (scratch : ℕ) (old p q : List ℕ)
    (r s : Result CanonicalLength FormRefusal) → IsFormWrittenOrRefused form bs limits scratch old p r
    → IsFormWrittenOrRefused form bs limits scratch old q s → (r ≡ s) × (p ≡ q)

-- The number of words of scratch that is enough for all bytes in the given form, if messages have at most `most` words.
abbrev pub most_scratch : Form → ℕ → ℕ
most_scratch forms.Bare most = 0
most_scratch forms.Stream most = most_segments - 1
most_scratch forms.Packed most = most + most_table_words + (most_segments - 1)

-- If `NoScratch` is true of `bs`, its number `n` is more than `scratch`, and at most `most_scratch`.
abbrev pub ScratchIsBounded : Type 0
ScratchIsBounded = (form : Form) (bs : List ℕ) (limits : Bounds) (scratch room n : ℕ)
    → IsFormRefused form bs limits scratch room (told.NoScratch n)
    → (scratch < n) × (n ≤ most_scratch form limits.message_words)

-- If `NoScratch` is true of `bs`, the scratch has fewer words than `bs` need.
abbrev pub LackingIsNotHaving : Type 0
LackingIsNotHaving = (form : Form) (bs : List ℕ) (limits : Bounds) (scratch room n : ℕ)
    → IsFormRefused form bs limits scratch room (told.NoScratch n) → HasScratch form bs scratch → ⊥
