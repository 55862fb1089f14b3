-- The result for two messages is also the result for the bytes that are read as those messages. (For `compared.rt` and
-- `compare`.)
use Rattle.std.proofs.Common.{◌≡◌, ◌↔◌, inl, inr, ℕ, List, Bool, IsTrue, subst}
use Rattle.std.proofs.Common.{Result, Ok, Err, IfOk, IfErr, IsErrOf}
use Rattle.capn_value.specs.Tree.{Tree}
use Rattle.capn_value.specs.Same.{Same}
use Rattle.capn_walk.specs.Limits.{AreLimits, Bounds}
use Rattle.capn_canon.specs.Answered.{IsAnswered, IsRefusedReading}
use Rattle.capn_canon.specs.Denotes.{Denotes}
use Rattle.capn_canon.specs.Laws.{DenotedHaveForms, EqualExactlySame}
use Rattle.capn_canon.specs.MemoryNeed.{MayNeedMemory}
use Rattle.capn_canon.specs.Refusal.{IsPaidWithin, IsRefused}
use Rattle.capn_canon.specs.declared.form.Form.{Form}
use Rattle.capn_canon.specs.declared.refusal.Refusal.{Refusal}
use Rattle.capn_canon.specs.declared.refusal.Refusal.TheVariants as refusals
use Rattle.capn_canon.proofs.shared.NotRefused.{refused_message}
use Rattle.capn_canon.proofs.shared.OneReading.{one_value}
use Rattle.capn_answers.proofs.shared.Reading.{reading_unaccepted, reading_wanted, reading_within}
use Rattle.capn_c.specs.Compared.{ComparesIn, DenoteBoth}
use Rattle.capn_c.specs.inner.Told.{IsCompared, IsComparedTo}
use Rattle.capn_c.proofs.OutOfMemory.{unaccepted_refused}

-- ---- a first message, in each form

module _ (form : Form) (bs ds : List ℕ) (limits : Bounds) where
  abbrev AreTold : Result (Result Bool Refusal) Refusal → Type 0
  AreTold r = IsAnswered form bs limits (λ m l x. IsComparedTo form ds m l x) r

  pub compared_found : (r : Result (Result Bool Refusal) Refusal) → AreTold r
      → IfOk r (λ s. IsCompared form bs ds limits s)
  compared_found (Ok s) (inl (m, is, h)) =
      record { message = m; reads = is; has = h.found.0; second = h.found.1 }
  compared_found (Ok s) (inr (e, is, h)) = absurd cc
  compared_found (Err e) told = tt

  pub compared_refused : (r : Result (Result Bool Refusal) Refusal) → AreTold r
      → IfErr r (λ e. IsRefused form bs limits e)
  compared_refused (Err e) (inl (m, is, h)) = refused_message form bs limits m e is h.refused
  compared_refused (Err e) (inr (f, is, h)) =
      let same : f ≡ e = cc in
      unaccepted_refused form bs limits e
      (reading_unaccepted form bs limits e (subst (λ (x : Refusal). IsRefusedReading form bs limits x) same h))
  compared_refused (Ok s) told = tt

  pub compared_wanted : (r : Result (Result Bool Refusal) Refusal) → AreTold r → IsErrOf r refusals.Memory
      → MayNeedMemory form bs limits
  compared_wanted (Err e) (inl (m, is, h)) w =
      let same : e ≡ refusals.Memory = cc in
      absurd (h.no_memory same)
  compared_wanted (Ok s) (inl (m, is, h)) w = absurd cc
  compared_wanted r (inr (e, is, h)) w = reading_wanted form bs limits r e is h w

  pub compared_bounded : (r : Result (Result Bool Refusal) Refusal) → AreTold r
      → IfErr r (λ e. IsPaidWithin limits.budget e)
  compared_bounded (Ok s) told = tt
  compared_bounded (Err e) (inl (m, is, h)) = h.bounded
  compared_bounded (Err e) (inr (f, is, h)) =
      let same : f ≡ e = cc in
      reading_within form bs limits e (subst (λ (x : Refusal). IsRefusedReading form bs limits x) same h)

  -- ---- both values

  pub compares_in : DenotedHaveForms → EqualExactlySame → AreLimits limits.message_words limits.budget limits.depth
      → (told : Bool) → IsCompared form bs ds limits (Ok told) → ComparesIn form bs ds limits told
  compares_in have law are told h =
      let (v, is, free) = h.has in
      let (m, reads, told_so) = h.second.found in
      let (w, also, none, same) = told_so in
      let one : Denotes form bs limits v = record { message = h.message; reads = h.reads; value = is } in
      let two : Denotes form ds limits w = record { message = m; reads = reads; value = also } in
      let f = have form bs limits v are one in
      let g = have form ds limits w are two in
      let s = same v is in
      let e = law v w f.fits f.in_range g.fits g.in_range in
      record {
        value = v;
        other = w;
        denoted = record { one = one; one_free = free; other = two; other_free = none };
        same = s;
        equal = ((λ t. e.1 (s.0 t)), (λ q. s.1 (e.0 q)));
      }

  pub told_in : DenotedHaveForms → EqualExactlySame → AreLimits limits.message_words limits.budget limits.depth
      → (r : Result Bool Refusal) (b told : Bool) → IsCompared form bs ds limits r → r ≡ Ok b → b ≡ told
      → ComparesIn form bs ds limits told
  told_in have law are r b told h is test =
      compares_in have law are told
      (subst (λ (x : Bool). IsCompared form bs ds limits (Ok x)) test
      (subst (λ (x : Result Bool Refusal). IsCompared form bs ds limits x) is h))

  pub same_only : (told : Bool) → ComparesIn form bs ds limits told → (v w : Tree) → DenoteBoth form bs ds limits v w
      → IsTrue told ↔ Same v w
  same_only told h v w b =
      let p = one_value form bs limits h.value v h.denoted.one b.one in
      let q = one_value form ds limits h.other w h.denoted.other b.other in
      subst (λ (x : Tree). IsTrue told ↔ Same x w) p (subst (λ (x : Tree). IsTrue told ↔ Same h.value x) q h.same)
