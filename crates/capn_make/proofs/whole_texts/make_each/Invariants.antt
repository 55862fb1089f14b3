use Rattle.std.proofs.Common.{ℕ, List, ◌++◌, length}
use Rattle.capn_make.specs.inner.RunParts.{HasMade, IsAfter}
use Rattle.capn_make.proofs.whole_texts.make_each.Given as goal

-- If `HasMade` held for `texts` and `made` when the call began, it holds for `texts` and `made` now.
abbrev pub invariant-texts : goal.invariant-texts
invariant-texts g l = record {
  after : IsAfter l.fn.texts l.texts;
  made : (input : List ℕ) (written : List ℕ) → HasMade l.form input l.fn.texts (written ++ l.fn.made.items)
      → HasMade l.form input l.texts (written ++ l.made.items);
}

abbrev pub decreases-texts : goal.decreases-texts
decreases-texts g l = length l.texts.rest
