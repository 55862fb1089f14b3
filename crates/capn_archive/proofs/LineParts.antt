-- Lemmas for `put_measured`, `write_count` and `write_limits`: a line is built from its end, part by part. A text that
-- has a line is not empty.
use Rattle.std.proofs.Common.{◌≡◌, ◌≢◌, ℕ, List, [], ◌∷◌, ◌++◌, length, codes, refl, ap, sym, ◌∙◌, arith}
use Rattle.std.proofs.Common.{append_assoc}
use Rattle.std.specs.Fmt.{decimal}
use Rattle.capn_archive.specs.Lines.{advice_text, limits_text, needs_text}
use Rattle.capn_archive.specs.UniqRun.{count_line}
use Rattle.capn_archive.specs.declared.limits_report.Needs.{Needs}

pub before : (part done rest line new : List ℕ) → line ≡ done ++ rest → new ≡ part ++ line
    → new ≡ (part ++ done) ++ rest
before part done rest line new was put =
    put ∙ ap (λ (l : List ℕ). part ++ l) was ∙ sym (append_assoc part done rest)

pub both_before : (name part done rest line new : List ℕ) → line ≡ done ++ rest → new ≡ name ++ (part ++ line)
    → new ≡ (name ++ (part ++ done)) ++ rest
both_before name part done rest line new was put =
    before name (part ++ done) rest (part ++ line) new (before part done rest line (part ++ line) was refl) put

some_after : (part rest : List ℕ) → rest ≢ [] → part ++ rest ≢ []
some_after [] rest some = some
some_after (x ∷ part) rest some = λ h. cc

pub count_some : (kept served : ℕ) → count_line kept served ≢ []
count_some kept served =
    some_after (decimal kept) (codes " of " ++ (decimal served ++ codes "\n"))
    (λ h. absurd (omega (arith, ap length h)))

pub limits_some : (needs : Needs) → limits_text needs ≢ []
limits_some needs =
    some_after (needs_text needs) (codes "\n" ++ (advice_text needs ++ codes "\n"))
    (λ h. absurd (omega (arith, ap length h)))
