-- Lemmas for `first_value`, `read`, `read_next` and `streams`: the text at the front of an input, and its line `end`.
use Rattle.std.proofs.Common.{◌≡◌, ◌≤◌, ◌+◌, ◌-◌, ℕ, suc, List, [], ◌∷◌, ◌++◌, length, take, Some, None, refl, sym, ap}
use Rattle.std.proofs.Common.{ap₂, ◌∙◌, append_assoc, arith}
use Rattle.std.specs.List.{AllByRecursion}
use Rattle.std.proofs.lemmas.List.{length-append}
use Rattle.capn_value.specs.Tree.{Tree}
use Rattle.capn_value.specs.Text.{show_text}
use Rattle.capn_text.specs.inner.Tokens.{strip}
use Rattle.capn_text.specs.Showable.{IsShowable}
use Rattle.capn_text.specs.Streams.{end_line, stream_text, ended_lines}
use Rattle.capn_text.specs.inner.Values.{tree_at, head_at, named_at, name_at}
use Rattle.capn_value.specs.Cost.{height}
use Rattle.capn_text.specs.declared.fault.TextFault.TheVariants as faults
use Rattle.capn_text.proofs.Steps.{some_is}
use Rattle.capn_text.proofs.TokenText.{strip_takes, strip_again}
use Rattle.capn_text.proofs.FittingText.{before}
use Rattle.capn_text.proofs.TreeOfText.{tree_again, apart}
use Rattle.capn_text.proofs.LineCounts.{lines_append, lines_within}

pub line_number : (m n : ℕ) → faults.Line m ≡ faults.Line n → m ≡ n
line_number m n e = cc

one_end : (rest : List ℕ) → ended_lines (end_line ++ rest) ≡ 1 + ended_lines rest
one_end rest = lines_append end_line rest

-- Let `t` be the text of `w`, and then the bytes `after`.
module _ (t : List ℕ) (w : Tree) (after : List ℕ) (front : t ≡ show_text w ++ after) where
  pub lines_of_front : ended_lines t ≡ ended_lines (show_text w) + ended_lines after
  lines_of_front = ap ended_lines front ∙ lines_append (show_text w) after

  pub lines_counted : ended_lines (take (length t - length after) t) ≡ ended_lines (show_text w)
  lines_counted = ap ended_lines (before t (show_text w) after front)

  -- Let `after` be the line `end`, and then the bytes `rest`.
  module _ (rest : List ℕ) (end : strip end_line after ≡ Some rest) where
    pub lines_with_end : (line : ℕ) → line + ended_lines (show_text w) + 1 + ended_lines rest ≡ line + ended_lines t
    lines_with_end line =
        let a = lines_of_front in
        let b : ended_lines after ≡ 1 + ended_lines rest =
        ap ended_lines (strip_takes end_line after rest end) ∙ one_end rest in
        omega arith

    pub room_left : ended_lines (show_text w) + 4 + length rest ≤ length t
    room_left =
        let a = ap length front ∙ length-append (show_text w) after in
        let b = ap length (strip_takes end_line after rest end) ∙ length-append end_line rest in
        let c : length end_line ≡ 4 = refl in
        let few = lines_within (show_text w) in
        omega arith

-- Let `after` be the line `end`, and then the bytes `rest`.
module _ (after rest : List ℕ) (is : after ≡ end_line ++ rest) where
  pub rest_is : (left : List ℕ) → strip end_line after ≡ Some left → left ≡ rest
  rest_is left h = some_is left rest (sym h ∙ ap (strip end_line) is ∙ strip_again end_line rest)

  pub not_none : strip end_line after ≡ None → ⊥
  not_none h = let k = sym h ∙ ap (strip end_line) is ∙ strip_again end_line rest in absurd cc

-- ---- streams

pub stream_goes_on : (vs : List Tree) (v : Tree) (rest : List ℕ)
    → stream_text (vs ++ v ∷ []) ++ rest ≡ stream_text vs ++ (show_text v ++ (end_line ++ rest))
stream_goes_on [] v rest = append_assoc (show_text v) (end_line ++ []) rest
stream_goes_on (u ∷ us) v rest =
    append_assoc (show_text u) (end_line ++ stream_text (us ++ v ∷ [])) rest
    ∙ ap (λ x. show_text u ++ (end_line ++ x)) (stream_goes_on us v rest)
    ∙ sym (append_assoc (show_text u) (end_line ++ stream_text us) (show_text v ++ (end_line ++ rest)))

nothing_read : (room : ℕ) → tree_at (suc room) 0 [] ≡ None
unfolding tree_at head_at named_at name_at
nothing_read room = refl

not_nothing : (w : Tree) (y : List ℕ) → IsShowable w → [] ≡ show_text w ++ y → ⊥
not_nothing w y s e =
    let h = sym (tree_again (suc (height w)) 0 w y (omega arith) s) ∙ ap (tree_at (suc (height w)) 0) (sym e)
    ∙ nothing_read (height w) in
    absurd cc

past_end : (x y : List ℕ) → end_line ++ x ≡ end_line ++ y → x ≡ y
past_end x y e = cc

pub one_stream : (vs ws : List Tree) → AllByRecursion IsShowable vs → AllByRecursion IsShowable ws
    → stream_text vs ≡ stream_text ws → vs ≡ ws
one_stream [] [] sv sw e = refl
one_stream [] (w ∷ ws) sv sw e = absurd (not_nothing w (end_line ++ stream_text ws) sw.0 e)
one_stream (v ∷ vs) [] sv sw e = absurd (not_nothing v (end_line ++ stream_text vs) sv.0 (sym e))
one_stream (v ∷ vs) (w ∷ ws) sv sw e =
    let p = apart 0 v w (end_line ++ stream_text vs) (end_line ++ stream_text ws) sv.0 sw.0 e in
    ap₂ (λ x xs. x ∷ xs) p.0 (one_stream vs ws sv.1 sw.1 (past_end (stream_text vs) (stream_text ws) p.1))
