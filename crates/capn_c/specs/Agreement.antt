-- The statuses and the reports of the calls for C that make canonical bytes, beside the results of
-- `canonical_into_form`. (Our own.)
use Rattle.std.specs.Prelude.{◌≡◌, ◌≢◌, ℕ, ◌≤◌, List, take, Result, MatchResult}
use Rattle.sha2.specs.Sha256.{sha256}
use Rattle.capn_canon.specs.declared.length.CanonicalLength.{CanonicalLength}
use Rattle.capn_canon.specs.declared.refusal.Refusal.TheVariants as refusals
use Rattle.capn_scratch.specs.declared.refusal.FormRefusal.{FormRefusal}
use Rattle.capn_scratch.specs.declared.refusal.FormRefusal.TheVariants as told
use Rattle.capn_abi.specs.StatusCodes.{Reports, answered, at_number}
use Rattle.capn_abi.specs.declared.report.CapnReport.{CapnReport}

-- `status` and `report` describe the given refusal.
abbrev pub IsRefusalTold : FormRefusal → ℕ → CapnReport → Type 0
IsRefusalTold (told.Bare e) status report = Reports status report (refusals.Bare e)
IsRefusalTold (told.Packed e) status report = Reports status report (refusals.Packed e)
IsRefusalTold (told.Frame e) status report = Reports status report (refusals.Frame e)
IsRefusalTold (told.Trailing at) status report = Reports status report (refusals.Trailing at)
IsRefusalTold (told.NoScratch n) status report = (status ≡ 9) × (report ≡ at_number n)
IsRefusalTold (told.Walk s) status report = Reports status report (refusals.Walk s)
IsRefusalTold (told.Capability k) status report = Reports status report (refusals.Capability k)
IsRefusalTold (told.NoRoom n p) status report = (status ≡ 1) × (report ≡ answered n p 0)

-- `status` and `report` describe the result `r`.
abbrev pub IsResultTold : Result CanonicalLength FormRefusal → ℕ → CapnReport → Type 0
IsResultTold r status report = MatchResult r (λ c. (status ≡ 0) × (report ≡ answered c.length c.paid 0))
    (λ e. IsRefusalTold e status report)

-- `canonical_into_form` returns `r`, and its buffer is then `p`. `capn_canonical_with_scratch` returns `status` and
-- `report`, and its buffer is then `q`. `status` and `report` describe `r`, and the buffers are equal.
pub record TellsForm (r : Result CanonicalLength FormRefusal) (status : ℕ) (report : CapnReport) (p q : List ℕ)
    : Type 0 where
  pub is_told : IsResultTold r status report
  pub written : p ≡ q

-- `capn_canonical_segments` returns `s` and `r`, and its buffer is then `p`. `capn_canonical_with_scratch` returns `t`
-- and `o`, and its buffer is then `q`. Unless `t` is 9, the statuses, the reports and the buffers are equal.
abbrev pub AgreeHeld : (s t : ℕ) → (r o : CapnReport) → (p q : List ℕ) → Type 0
AgreeHeld s t r o p q = t ≢ 9 → (s ≡ t) × (r ≡ o) × (p ≡ q)

-- `capn_canonical` returns `s` and `r`, and its buffer is then `p`. `capn_canonical_with_scratch` returns `t` and `o`,
-- and its buffer is then `q`. Unless `s` is 8 or `t` is 9, the statuses, the reports and the buffers are equal.
abbrev pub AgreeLent : (s t : ℕ) → (r o : CapnReport) → (p q : List ℕ) → Type 0
AgreeLent s t r o p q = s ≢ 8 → AgreeHeld s t r o p q

-- A call for a digest returns `s` and `r`, and the digest is then `d`. `capn_canonical_with_scratch` returns `t` and
-- `o`, and its buffer is then `q`. If there are canonical bytes (`t` is 0 or 1), `s` is 0, and `r` has the price that
-- `o` has. If they fit the buffer (`t` is 0), `d` is the SHA-256 of the bytes written to `q`. If there are no canonical
-- bytes, the statuses and the reports are equal.
pub record HasDigestOf (s t : ℕ) (r o : CapnReport) (d q : List ℕ) : Type 0 where
  pub priced : t ≤ 1 → (s ≡ 0) × (r ≡ answered 0 o.paid 0)
  pub digest : t ≡ 0 → d ≡ sha256 (take o.length q)
  pub refused : 2 ≤ t → (s ≡ t) × (r ≡ o)

-- `HasDigestOf` holds unless `s` is 8 or `t` is 9.
abbrev pub AgreeDigest : (s t : ℕ) → (r o : CapnReport) → (d q : List ℕ) → Type 0
AgreeDigest s t r o d q = s ≢ 8 → t ≢ 9 → HasDigestOf s t r o d q
