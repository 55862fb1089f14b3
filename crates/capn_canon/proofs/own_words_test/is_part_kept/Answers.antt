use Rattle.std.proofs.Common.{◌≡◌, ◌≢◌, ℕ, suc, ◌+◌, ◌-◌, ◌*◌, ◌<◌, List, [], ◌∷◌, slice_index, drop, take}
use Rattle.std.proofs.Common.{ap, sym, subst, ◌∙◌, refl, arith}
use Rattle.capn_value.specs.Trim.{kept_words}
use Rattle.capn_layout.specs.RowWords.{kept_each}
use Rattle.capn_layout.proofs.shared.Cut.{all-kept, last-kept, part-le}
use Rattle.capn_layout.proofs.shared.EachRow.{kept_each-le}
use Rattle.capn_canon.proofs.own_words_test.is_part_kept.Goals as goal

module _ (all : List ℕ) (w size step n : ℕ) (some : 0 < size) where
  -- Case: in the first row, the last word of the section is not zero. Trimming then keeps all `size` words.
  row-whole : slice_index all (w + (size - 1)) ≢ 0 → kept_each (all ∷ []) 0 w size step (suc n) ≡ size
  row-whole ne =
      let k = all-kept all w size some ne in
      let l = kept_each-le (all ∷ []) 0 (w + step) size step n in
      omega arith

  -- Case: in the first row, the last word of the section is zero. Trimming then keeps all `size` words if and only if
  -- it keeps them for the later rows.
  row-less : slice_index all (w + (size - 1)) ≡ 0
      → (kept_each (all ∷ []) 0 w size step (suc n) ≡ size → kept_each (all ∷ []) 0 (w + step) size step n ≡ size)
      × (kept_each (all ∷ []) 0 (w + step) size step n ≡ size → kept_each (all ∷ []) 0 w size step (suc n) ≡ size)
  row-less z =
      let p = part-le size (drop w all) in
      let l = kept_each-le (all ∷ []) 0 (w + step) size step n in
      let ne : kept_words (take size (drop w all)) ≢ size = λ e. last-kept all w size some e z in
      ((λ e. omega arith), (λ e. omega arith))

pub returns-then-size-eq0-clause-same : goal.returns-then-size-eq0-clause-same
returns-then-size-eq0-clause-same g c =
    let l = kept_each-le (c.args.space.now ∷ []) 0 (c.args.start + c.args.inset) c.args.size c.args.step c.args.count in
    let z = c.if-size-eq0.true in
    ((λ t. omega arith), (λ e. refl))

pub returns-then-word_at-ne0-clause-same : goal.returns-then-word_at-ne0-clause-same
returns-then-word_at-ne0-clause-same g c =
    let all = c.args.space.now in
    let a = c.args in
    let i = c.loop-row._row in
    let lt = c.loop-row-test.true in
    let ne = c.if-size-eq0.false in
    let w = a.start + i * a.step + a.inset in
    let one : suc (a.count - (i + 1)) ≡ a.count - i = omega arith in
    let last : slice_index all (w + (a.size - 1)) ≢ 0 = λ z. c.if-word_at-ne0.true
    (c.word_at.ensures.word ∙ ap (slice_index all) c.loop-row.invariant.last ∙ z) in
    let whole = row-whole all w a.size a.step (a.count - (i + 1)) (omega arith) last in
    let here = subst (λ (n : ℕ). kept_each (all ∷ []) 0 w a.size a.step n ≡ a.size) one whole in
    ((λ t. c.loop-row.invariant.rest.1 here), (λ e. refl))

pub loop-row-preserved : goal.loop-row-preserved
loop-row-preserved g c =
    let all = c.args.space.now in
    let a = c.args in
    let i = c.loop-row._row in
    let v = c.loop-row.invariant in
    let lt = c.loop-row-test.true in
    let ne = c.if-size-eq0.false in
    let w = a.start + i * a.step + a.inset in
    let one : suc (a.count - (i + 1)) ≡ a.count - i = omega arith in
    let d : (i + 1) * a.step ≡ i * a.step + a.step = omega arith in
    let next : w + a.step ≡ a.start + (i + 1) * a.step + a.inset = omega arith in
    let less = row-less all w a.size a.step (a.count - (i + 1)) (omega arith)
    (sym (ap (slice_index all) v.last) ∙ sym c.word_at.ensures.word ∙ c.if-word_at-ne0.false) in
    let here = λ (n : ℕ). kept_each (all ∷ []) 0 w a.size a.step n ≡ a.size in
    let there = λ (x : ℕ). kept_each (all ∷ []) 0 x a.size a.step (a.count - (i + 1)) ≡ a.size in
    let is = v.last in
    let few = v.reads in
    let turn = c.tick.ensures in
    let read = c.word_at.ensures.reads in
    record {
      last = omega arith;
      rest = (
        (λ e. subst there next (less.0 (subst here (sym one) (v.rest.0 e)))),
        (λ e. v.rest.1 (subst here one (less.1 (subst there (sym next) e)))),
      );
      reads = omega arith;
    }
