-- Lemmas for `first_value`: the first wrong line of a text, and texts that go too deep.
use Rattle.std.proofs.Common.{◌≡◌, ◌≤◌, ◌+◌, ◌-◌, ℕ, List, [], ◌∷◌, ◌++◌, length, take, Some, None}
use Rattle.std.proofs.Common.{refl, sym, ap, subst, ◌∙◌, append_assoc, arith}
use Rattle.std.proofs.Math.Nat.{lt_of_not-le}
use Rattle.std.proofs.lemmas.List.{append-nil}
use Rattle.capn_value.specs.Tree.{Tree}
use Rattle.capn_value.specs.Cost.{height}
use Rattle.capn_value.specs.Text.{show_text}
use Rattle.capn_text.specs.inner.Tokens.{strip}
use Rattle.capn_text.specs.inner.Values.{head_at, tree_at}
use Rattle.capn_text.proofs.TokenText.{strip_again}
use Rattle.capn_text.proofs.PartStops.{tree_line_fails}
use Rattle.capn_text.specs.Showable.{IsShowable}
use Rattle.capn_text.specs.inner.Stops.{AreLines, Stops, Deepens}
use Rattle.capn_text.specs.Streams.{end_line, first_lines, ended_lines, IsFirstWrong, GoesTooDeep, ended_text}
use Rattle.capn_text.proofs.TreeOfText.{tree_again, apart}
use Rattle.capn_text.proofs.TextOfTree.{tree_takes}
use Rattle.capn_text.proofs.FittingText.{before}
use Rattle.capn_text.proofs.Heights.{tree_low}
use Rattle.capn_text.proofs.LineCounts.{lines_append}
use Rattle.capn_text.proofs.WholeLines.{same_front, first_front}
use Rattle.capn_text.proofs.TreeStops.{tree_by, tree_local}

exact_front : (front y : List ℕ) → AreLines front → first_lines (ended_lines front) (front ++ y) ≡ front
exact_front front y lines =
    let k : ended_lines front ≡ ended_lines front + 0 = omega arith in
    ap (λ n. first_lines n (front ++ y)) k ∙ lines 0 y ∙ append-nil front

-- If the value `v` is read from all of `front ++ y`, these bytes are the text of `v`, and `v` is showable.
pub completed : (room : ℕ) (front y : List ℕ) (v : Tree) → tree_at room 0 (front ++ y) ≡ Some (v, [])
    → (show_text v ≡ front ++ y) × IsShowable v
completed room front y v e =
    let p = tree_takes room 0 (front ++ y) v [] e in
    (sym (p.0 ∙ append-nil (show_text v)), p.1)

-- Let `spell` write the text of a value, followed by `tail`.
module _ (spell : Tree → List ℕ) (tail : List ℕ) (is : (v : Tree) → spell v ≡ show_text v ++ tail) where
  pub first_wrong : (t : List ℕ) (left : ℕ) → Stops (tree_by 0) 256 t left
      → IsFirstWrong spell (ended_lines (take (length t - left) t) + 1) t
  first_wrong t left h =
      let front = h.0 in
      let n : ended_lines (take (length t - left) t) ≡ ended_lines front =
      ap ended_lines (ap (λ m. take (length t - m) t) (sym h.3) ∙ before t front h.1 h.2) in
      let whole = h.4.3 256 (omega arith) in
      let done = completed 256 front h.4.1 h.4.2 whole in
      let low = tree_low 256 0 (front ++ h.4.1) h.4.2 [] whole in
      let begins : first_lines (ended_lines front) (spell h.4.2) ≡ first_lines (ended_lines front) t =
      ap (first_lines (ended_lines front)) (is h.4.2 ∙ ap (λ x. x ++ tail) done.0 ∙ append_assoc front h.4.1 tail)
      ∙ exact_front front (h.4.1 ++ tail) h.4.0
      ∙ sym (ap (first_lines (ended_lines front)) h.2 ∙ exact_front front h.1 h.4.0) in
      let none : (w : Tree) → IsShowable w → first_lines (ended_lines front + 1) (spell w)
      ≡ first_lines (ended_lines front + 1) t → ⊥ =
      (λ w s e.
      let q = same_front front h.1 (spell w) h.4.0 (e ∙ ap (first_lines (ended_lines front + 1)) h.2) in
      let r = 256 + height w in
      let read = sym (tree_again r 0 w tail (omega arith) s) ∙ ap (tree_at r 0) (sym (is w) ∙ q.1)
      ∙ h.5 r q.0 (omega arith) q.2 in
      absurd cc) in
      subst (λ m. IsFirstWrong spell (m + 1) t) (sym n) (ended_lines front, refl, h.4.2, done.1, low, begins, none)

-- ---- after the text of a value

nothing_first : (after : List ℕ) → (after ≡ [] → ⊥) → first_lines 1 [] ≡ first_lines 1 after → ⊥
nothing_first [] more e = more refl
nothing_first (c ∷ cs) more e = absurd cc

whole_text : (t : List ℕ) (v : Tree) (after : List ℕ) → tree_at 256 0 t ≡ Some (v, after) → AreLines (show_text v)
whole_text t v after e =
    let p = tree_local 256 0 t v after e in
    let q = completed 256 p.0 [] v (p.3 256 [] (omega arith)) in
    subst AreLines (sym (q.0 ∙ append-nil p.0)) p.2

module _ (t : List ℕ) (v : Tree) (after : List ℕ) (e : tree_at 256 0 t ≡ Some (v, after)) where
  next_wrong : (spell : Tree → List ℕ) (tail : List ℕ) → ((w : Tree) → spell w ≡ show_text w ++ tail)
      → (first_lines 1 tail ≡ first_lines 1 after → ⊥) → IsFirstWrong spell (ended_lines (show_text v) + 1) t
  next_wrong spell tail is other =
      let p = tree_takes 256 0 t v after e in
      let front = show_text v in
      let lines = whole_text t v after e in
      let k = ended_lines front in
      let begins : first_lines k (spell v) ≡ first_lines k t =
      ap (first_lines k) (is v) ∙ exact_front front tail lines
      ∙ sym (ap (first_lines k) p.0 ∙ exact_front front after lines) in (
        k,
        refl,
        v,
        p.1,
        tree_low 256 0 t v after e,
        begins,
        λ w s h.
            let q = same_front front after (spell w) lines (h ∙ ap (first_lines (k + 1)) p.0) in
            let r = apart 0 w v tail q.0 s p.1 (sym (is w) ∙ q.1) in
            other (ap (first_lines 1) r.1 ∙ q.2),
      )

  -- If bytes follow the text of `v`, the line after that text is the first wrong one, for texts without `end`.
  pub more_wrong : (after ≡ [] → ⊥) → IsFirstWrong show_text (ended_lines (show_text v) + 1) t
  more_wrong more = next_wrong show_text [] (λ w. sym (append-nil (show_text w))) (nothing_first after more)

  -- If the line `end` does not follow the text of `v`, the line after that text is the first wrong one, for texts with
  -- `end`.
  pub no_end_wrong : strip end_line after ≡ None → IsFirstWrong ended_text (ended_lines (show_text v) + 1) t
  no_end_wrong none = next_wrong ended_text end_line (λ w. refl) (λ same.
      let f = first_front 1 after in
      let h = sym none ∙ ap (strip end_line) (f.1 ∙ ap (λ s. s ++ f.0) (sym same)) ∙ strip_again end_line f.0 in
      absurd cc)

-- If `head_at` reads no first line from `t`, line 1 of `t` is the first wrong line.
pub first_line_wrong : (spell : Tree → List ℕ) (tail : List ℕ) → ((w : Tree) → spell w ≡ show_text w ++ tail)
    → (t : List ℕ)
    → head_at 0 t ≡ None → IsFirstWrong spell 1 t
first_line_wrong spell tail is t none =
    let k : length t - length t ≡ 0 = omega arith in
    subst (λ n. IsFirstWrong spell n t) (ap (λ m. ended_lines (take m t) + 1) k)
    (first_wrong spell tail is t (length t) (tree_line_fails 256 0 t none))

pub deepens : (t : List ℕ) → Deepens (tree_by 0) 256 t → GoesTooDeep t
deepens t h =
    let front = h.0 in
    let n = ended_lines front in
    let done = completed 257 front h.3.1 h.3.2 (h.3.3 257 (omega arith)) in
    let exact : first_lines n t ≡ front = ap (first_lines n) h.2 ∙ exact_front front h.1 h.3.0 in
    let begins : first_lines n (show_text h.3.2) ≡ first_lines n t =
    ap (first_lines n) done.0 ∙ exact_front front h.3.1 h.3.0 ∙ sym exact in
    let high : (w : Tree) → IsShowable w → first_lines n (show_text w) ≡ first_lines n t → (low : height w ≤ 256) → ⊥ =
    (λ w s e low.
    let f = first_front n (show_text w) in
    let whole : show_text w ≡ front ++ f.0 = f.1 ∙ ap (λ x. x ++ f.0) (e ∙ exact) in
    let read = sym (tree_again 256 0 w [] low s) ∙ ap (tree_at 256 0) (append-nil (show_text w) ∙ whole) ∙ h.4 f.0 in
    absurd cc) in
    let count : ended_lines t ≡ n + ended_lines h.1 = ap ended_lines h.2 ∙ lines_append front h.1 in
    (n, omega arith, h.3.2, done.1, begins, λ w s e. lt_of_not-le (high w s e))
