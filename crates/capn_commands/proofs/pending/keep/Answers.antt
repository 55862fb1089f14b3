use Rattle.std.proofs.Math.Seq.{paste}
use Rattle.std.proofs.Common.{◌≤◌, ◌≡◌, ℕ, ◌+◌, ◌-◌, List, length, take, drop, arith, ap, sym, ◌∙◌, length-drop}
use Rattle.std.proofs.lemmas.List.{drop-take}
use Rattle.std.proofs.lemmas.List.Edits.{take-paste}
use Rattle.capn_commands.proofs.pending.keep.Goals as goal

front : (old new : List ℕ) (from to : ℕ) → from ≤ to → to ≤ length old → new ≡ paste old 0 (drop from old) (to - from)
    → take (to - from) new ≡ drop from (take to old)
front old new from to order within is =
    let sum : from + (to - from) ≡ to = omega (arith, order) in
    let none : to - from ≡ 0 + (to - from) = omega arith in
    ap (λ (xs : List ℕ). take (to - from) xs) is
    ∙ ap (λ (k : ℕ). take k (paste old 0 (drop from old) (to - from))) none
    ∙ take-paste old 0 (drop from old) (to - from) (omega arith) (omega (arith, length-drop from old, within, order))
    ∙ sym (drop-take from (to - from) old)
    ∙ ap (λ (k : ℕ). drop from (take k old)) sum

pub returns : goal.returns
returns c =
    front c.args.text.now _ c.args.from c.args.to c.requires.order c.requires.within c.copy_within.ensures.after
