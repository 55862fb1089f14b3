-- Lemmas on the texts at the front of an input, and on one more text after them. (For `AfterTexts`, `FoundRefusal`,
-- `NextTexts` and others.)
use Rattle.std.proofs.Common.{◌≡◌, Bool, true, false, ℕ, ◌+◌, ◌^◌, ◌≤◌, ◌<◌, ◌==◌, List, [], ◌∷◌, ◌++◌, length, cond}
use Rattle.std.proofs.Common.{refl, sym, ap, ◌∙◌, append_assoc, arith}
use Rattle.std.proofs.lemmas.List.{append-nil, length-append}
use Rattle.std.specs.List.{AllByRecursion}
use Rattle.capn_value.specs.Tree.{Tree}
use Rattle.capn_value.specs.Text.{show_text}
use Rattle.capn_text.specs.Streams.{end_line, ended_lines, stream_text}
use Rattle.capn_canon.specs.declared.form.Form.{Form}
use Rattle.capn_make.specs.WrittenValue.{IsMakeable, IsWrittenValue, AreMade}
use Rattle.capn_make.specs.MadeInput.{AreFirst, line_after}
use Rattle.capn_make.specs.inner.RunParts.{HasRoom}

one_at_most : (b : Bool) → cond b 1 0 ≤ 1
one_at_most true = omega arith
one_at_most false = omega arith

pub lines_append : (x y : List ℕ) → ended_lines (x ++ y) ≡ ended_lines x + ended_lines y
lines_append [] y = omega arith
lines_append (c ∷ cs) y =
    let h = lines_append cs y in
    let k : cond (c == 10) 1 0 + ended_lines (cs ++ y) ≡ cond (c == 10) 1 0 + ended_lines cs + ended_lines y =
    omega arith in
    k

pub lines_within : (x : List ℕ) → ended_lines x ≤ length x
lines_within [] = omega arith
lines_within (c ∷ cs) =
    let h = lines_within cs in
    let k : cond (c == 10) 1 0 ≤ 1 = one_at_most (c == 10) in
    omega arith

pub room_after : (vs : List Tree) (input rest : List ℕ) → AreFirst vs input rest → length input < 2 ^ 64
    → length rest < 2 ^ 63 → HasRoom (line_after vs) rest
room_after [] input rest first all left = let none : ended_lines (stream_text []) ≡ 0 = refl in omega arith
room_after (v ∷ vs) input rest first all left =
    let size = ap length first.are ∙ length-append (stream_text (v ∷ vs)) rest in
    let a = lines_append (show_text v) (end_line ++ stream_text vs) in
    let b = lines_append end_line (stream_text vs) in
    let one : ended_lines end_line ≡ 1 = refl in
    let x = length-append (show_text v) (end_line ++ stream_text vs) in
    let y = length-append end_line (stream_text vs) in
    let four : length end_line ≡ 4 = refl in
    let s = lines_within (show_text v) in
    let t = lines_within (stream_text vs) in
    omega arith

all_more : (vs : List Tree) (v : Tree) → AllByRecursion IsMakeable vs → IsMakeable v
    → AllByRecursion IsMakeable (vs ++ v ∷ [])
all_more [] v each one = (one, tt)
all_more (u ∷ us) v each one = (each.0, all_more us v each.1 one)

stream_more : (vs : List Tree) (v : Tree) (rest : List ℕ)
    → stream_text vs ++ (show_text v ++ (end_line ++ rest)) ≡ stream_text (vs ++ v ∷ []) ++ rest
stream_more [] v rest = sym (append_assoc (show_text v) (end_line ++ []) rest)
stream_more (u ∷ us) v rest =
    append_assoc (show_text u) (end_line ++ stream_text us) (show_text v ++ (end_line ++ rest))
    ∙ ap (λ x. show_text u ++ (end_line ++ x)) (stream_more us v rest)
    ∙ sym (append_assoc (show_text u) (end_line ++ stream_text (us ++ v ∷ [])) rest)

pub first_more : (vs : List Tree) (v : Tree) (input rest more : List ℕ) → AreFirst vs input rest → IsMakeable v
    → rest ≡ show_text v ++ (end_line ++ more) → AreFirst (vs ++ v ∷ []) input more
first_more vs v input rest more first one is = record {
  each = all_more vs v first.each one;
  are = first.are ∙ ap (λ r. stream_text vs ++ r) is ∙ stream_more vs v more;
}

pub made_more : (form : Form) (vs : List Tree) (text : List ℕ) (v : Tree) (piece : List ℕ) → AreMade form vs text
    → IsWrittenValue form v piece → AreMade form (vs ++ v ∷ []) (text ++ piece)
made_more form [] text v piece made is = (piece, [], is, refl, ap (λ t. t ++ piece) made ∙ sym (append-nil piece))
made_more form (u ∷ us) text v piece made is = (
  made.0,
  made.1 ++ piece,
  made.2,
  made_more form us made.1 v piece made.3 is,
  ap (λ t. t ++ piece) made.4 ∙ append_assoc made.0 made.1 piece,
)
