-- Two texts that begin with the same lines.
use Rattle.std.specs.Prelude.{◌≡◌, ℕ, List, ◌++◌}
use Rattle.capn_cmp.specs.LinesApart.{AreLines, joined}

-- `text` and `other` begin with the same lines. After these lines, `rest` remains of `text`, and `left` remains of
-- `other`.
pub record BeginAlike (text other rest left : List ℕ) : Type 0 where
  pub lines : List (List ℕ)
  pub each : AreLines lines
  pub text_is : text ≡ joined lines ++ rest
  pub other_is : other ≡ joined lines ++ left
