-- The account of an accepted message. (Our own.)
use Rattle.std.specs.Prelude.{◌≡◌, ℕ, List, [], ◌∷◌, ◌++◌, None, Some, codes, refl}
use Rattle.std.specs.Fmt.{decimal, digits}
use Rattle.capn_walk.specs.Limits.{Bounds}
use Rattle.capn_canon.specs.Measure.{IsMeasure}
use Rattle.capn_canon.specs.declared.form.Form.{Form}
use Rattle.capn_canon.specs.declared.surveyed_bare.MeasuredBare.{MeasuredBare}
use Rattle.capn_serve.specs.Table.{table_words}
use Rattle.capn_serve.specs.declared.position.Position.{Position}
use Rattle.capn_diagnostics.specs.MessageTexts.{head_lines, segments_of}
use Rattle.capn_diagnostics.specs.declared.message_text.MessageHead.{MessageHead}
use Rattle.capn_mismatch.specs.CanonicalLines.{AreLinesOf, canonical_lines}
use Rattle.capn_mismatch.specs.declared.answer.Mismatch.TheVariants as mismatches
use Rattle.capn_mismatch.specs.declared.canonical_lines.CanonicalLines.{CanonicalLines}
use Rattle.capn_explain.specs.declared.account.Account.{Account}

-- The position `at` of `message`, and the segments of `message`.
abbrev pub head_of : Position → List (List ℕ) → MessageHead
head_of at message = record { index = at.index; offset = at.offset; segments = Some (segments_of message) }

module _ {A : Type 0} where
  -- The account of `message` at `at`, with the figures `m` and the `lines` about its canonical form.
  abbrev pub account_by : Position → List (List ℕ) → MeasuredBare → CanonicalLines A → Account A
  account_by at message m lines = record {
    head = head_of at message;
    paid = m.survey.paid;
    visits = m.survey.visits;
    depth = m.depth;
    lines = lines;
  }

  -- `message` at `at` is accepted within `limits`, and its figures are `m` (`IsMeasure`). `account` has these figures,
  -- the head of `message` (`head_of`), and the lines about the canonical form of `message` (`AreLinesOf`).
  abbrev pub IsAccount : Form → Position → List (List ℕ) → Bounds → Account A → Type 0
  IsAccount form at message limits account =
      (m : MeasuredBare) × IsMeasure message limits m
      × AreLinesOf message limits at.offset (table_words form message) account.lines
      × (account ≡ account_by at message m account.lines)

  -- The lines of the account `a`, as bytes.
  abbrev pub account_text : Account A → List ℕ
  account_text a =
      head_lines a.head ++ (codes "accepted: paid " ++ (decimal a.paid ++ (codes " visits " ++ (decimal a.visits
      ++ (codes " depth " ++ (decimal a.depth ++ (codes "\n" ++ canonical_lines a.lines)))))))

-- `text` is the lines of an `account` of `message` at `at`, within `limits`. The type of the allocator is `Unit`, since
-- the lines do not depend on it.
abbrev pub IsAccountText : Form → Position → List (List ℕ) → Bounds → List ℕ → Type 0
IsAccountText form at message limits text =
    (account : Account (Unit {0})) × IsAccount form at message limits account × (text ≡ account_text account)

-- Examples of the lines of an account.

second : account_text {A = Unit {0}} (record {
  head = head_of (record { index = 1; offset = 24 }) ((0 ∷ []) ∷ []);
  paid = 1;
  visits = 1;
  depth = 0;
  lines = record { mismatch = mismatches.Canonical; offset = 24; table = 1; lengths = None };
}) ≡ codes "message: 2 at 24\nsegments: 1 of 1 words\naccepted: paid 1 visits 1 depth 0\ncanonical: yes\n"
unfolding digits
second = refl

of_two_segments : canonical_lines {A = Unit {0}} (record {
  mismatch = mismatches.Segments 2;
  offset = 0;
  table = 2;
  lengths = None;
}) ≡ codes "canonical: no: 2 segments\n"
unfolding digits
of_two_segments = refl
