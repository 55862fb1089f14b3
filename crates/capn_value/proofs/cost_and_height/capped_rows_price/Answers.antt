use Rattle.std.proofs.Common.{◌≡◌, ◌≢◌, ◌<◌, ℕ, min, arith, sym, ap, ◌∙◌}
use Rattle.capn_value.specs.Tree.{Bodies, count_rows, row_words}
use Rattle.capn_value.specs.TreeOf.{rows_of}
use Rattle.capn_value.specs.Views.{count_rows-rows_of}
use Rattle.capn_value.specs.Cost.{rows_price, dear}
use Rattle.capn_value.proofs.shared.Prices.{rows_price-none, rows_price-some}
use Rattle.capn_value.proofs.cost_and_height.capped_rows_price.Goals as goal

wordless : (bs : Bodies) (words n r cap : ℕ) → words ≡ min (row_words bs) cap → words ≡ 0 → 0 < cap → n ≡ count_rows bs
    → r ≡ min n cap → r ≡ min (rows_price bs) cap
wordless bs words n r cap e f g h p =
    p ∙ ap (λ (m : ℕ). min m cap) (h ∙ sym (rows_price-none bs (omega arith)))

wordy : (bs : Bodies) (words cap : ℕ) → words ≡ min (row_words bs) cap → words ≢ 0 → words ≡ min (rows_price bs) cap
wordy bs words cap e n =
    let some : row_words bs ≢ 0 = omega arith in
    e ∙ ap (λ (m : ℕ). min m cap) (sym (rows_price-some bs some))

pub returns-then-words-eq0 : goal.returns-then-words-eq0
returns-then-words-eq0 g c =
    wordless (rows_of c.args.bodies.now) _ _ _ dear c.requires c.if-words-eq0.true (omega arith)
    (sym (count_rows-rows_of c.args.bodies.now)) c.min.ensures

pub returns-else-words-eq0 : goal.returns-else-words-eq0
returns-else-words-eq0 g c = wordy (rows_of c.args.bodies.now) _ dear c.requires c.if-words-eq0.false
