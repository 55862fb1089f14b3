-- Lemmas for `first_line` and `may_begin`: the first lines of values.
use Rattle.std.proofs.Common.{◌≡◌, ◌<◌, ◌+◌, ◌==◌, ℕ, Bool, true, false, cond, List, [], ◌∷◌, ◌++◌, Some, None}
use Rattle.std.proofs.Common.{sym, refl, ap, ◌∙◌, arith}
use Rattle.std.proofs.lemmas.List.{append-nil}
use Rattle.capn_value.specs.Tree.{Tree}
use Rattle.capn_value.specs.Text.{line, show_text}
use Rattle.capn_text.specs.inner.Tokens.{◌>>=◌}
use Rattle.capn_text.specs.inner.Values.{head_at, content_at, tree_at}
use Rattle.capn_text.specs.Streams.{first_lines, ended_lines, BeginsAs}
use Rattle.capn_text.specs.declared.heads.Head.{Head}
use Rattle.capn_text.proofs.HeadText.{head_text, head_again, head_takes}
use Rattle.capn_text.proofs.LineCounts.{lines_append}
use Rattle.capn_text.proofs.TextOfTree.{tree_takes}
use Rattle.capn_text.proofs.TreeStops.{content_full}
use Rattle.capn_text.proofs.FirstWrong.{first_line_wrong}

line_ends : (text : List ℕ) → 0 < ended_lines (line 0 text)
unfolding line
line_ends text =
    let k : ended_lines (text ++ 10 ∷ []) ≡ ended_lines text + 1 = lines_append text (10 ∷ []) in
    omega arith

read_on : (h : Head) (first : List ℕ) (w : List ℕ) (v : Tree) → head_at 0 (first ++ w) ≡ Some (h, w)
    → content_at (tree_at 0) 0 h w ≡ Some (v, []) → tree_at 1 0 (first ++ w) ≡ Some (v, [])
unfolding tree_at
read_on h first w v head below = ap (λ o. o >>= λ k. content_at (tree_at 0) 0 k.0 k.1) head ∙ below

-- If `head_at` reads a first line from `t`, `t` begins as some value `v` (`BeginsAs`).
pub begins : (t : List ℕ) (x : Head × List ℕ) → head_at 0 t ≡ Some x → (v : Tree) × BeginsAs t v
begins t x e =
    let p = head_takes 0 t x.0 x.1 e in
    let first = line 0 (head_text x.0) in
    let full = content_full 0 x.0 in
    let read = read_on x.0 first full.0 full.1 (head_again 0 x.0 full.0 p.1) (full.2 0) in
    let q = tree_takes 1 0 (first ++ full.0) full.1 [] read in
    (full.1, (q.1, first, x.1, full.0, p.0, sym (q.0 ∙ append-nil (show_text full.1)), line_ends (head_text x.0)))

first_or : (b : Bool) (n : ℕ) (x y : List ℕ) → 0 < cond b 1 0 + n → (0 < n → x ≡ y) → cond b [] x ≡ cond b [] y
first_or true n x y some same = refl
first_or false n x y some same = same (omega arith)

same_first : (front x y : List ℕ) → 0 < ended_lines front → first_lines 1 (front ++ x) ≡ first_lines 1 (front ++ y)
same_first [] x y some = absurd (omega arith)
same_first (c ∷ cs) x y some =
    ap (λ t. c ∷ t) (first_or (c == 10) (ended_lines cs) (first_lines 1 (cs ++ x)) (first_lines 1 (cs ++ y)) some
    (same_first cs x y))

-- If `head_at` reads no first line from `t`, `t` begins as no value `v` (`BeginsAs`).
pub begins_none : (t : List ℕ) → head_at 0 t ≡ None → (v : Tree) → BeginsAs t v → ⊥
begins_none t none v h =
    (first_line_wrong show_text [] (λ w. sym (append-nil (show_text w))) t none).6 v h.0
    (ap (first_lines 1) h.5 ∙ same_first h.1 h.3 h.2 h.6 ∙ ap (first_lines 1) (sym h.4))
