-- Lemmas for `report_by` and `report_of`: the report on a message that differs, from its parts.
use Rattle.std.proofs.Common.{◌≡◌, ℕ, ◌+◌, List, [], ◌++◌, codes, sym, ap, subst, ◌∙◌}
use Rattle.std.proofs.lemmas.List.{append_assoc}
use Rattle.std.specs.Fmt.{decimal}
use Rattle.capn_serve.specs.declared.position.Position.{Position}
use Rattle.capn_cmp.specs.CmpMessages.{IsReport, report}
use Rattle.capn_cmp.specs.LinesApart.{AreApart}
use Rattle.capn_cmp.specs.ShownText.{IsShownFrom}
use Rattle.capn_cmp.proofs.Lines.{apart_longer}

pub in_parts : (at : Position) (line other head : List ℕ)
    → head ≡ codes "message " ++ (decimal (at.index + 1) ++ (codes " at " ++ (decimal at.offset
    ++ codes " differs from message 1\n< ")))
    → (((([] ++ head) ++ line) ++ codes "\n> ") ++ other) ++ codes "\n" ≡ report at line other
in_parts at line other head is =
    let tail = line ++ (codes "\n> " ++ (other ++ codes "\n")) in
    let said = codes " differs from message 1\n< " in
    append_assoc ((head ++ line) ++ codes "\n> ") other (codes "\n")
    ∙ append_assoc (head ++ line) (codes "\n> ") (other ++ codes "\n")
    ∙ append_assoc head line (codes "\n> " ++ (other ++ codes "\n"))
    ∙ ap (λ (h : List ℕ). h ++ tail) is
    ∙ ap (λ (x : List ℕ). codes "message " ++ x)
    (append_assoc (decimal (at.index + 1)) (codes " at " ++ (decimal at.offset ++ said)) tail
    ∙ ap (λ (x : List ℕ). decimal (at.index + 1) ++ (codes " at " ++ x)) (append_assoc (decimal at.offset) said tail)
    ∙ sym (append_assoc (decimal (at.index + 1)) (codes " at " ++ decimal at.offset) (said ++ tail)))

-- Prefixes of both texts are enough for the report if they have the first lines that differ.
pub report_from : (at : Position) (first bytes beginning other line other_line text : List ℕ)
    → IsShownFrom first beginning → IsShownFrom bytes other → AreApart beginning other line other_line
    → text ≡ report at line other_line → IsReport at first bytes text
report_from at first bytes beginning other line other_line text (shown, more, is, begins) (also, left, has, goes) apart
    told = (
      shown,
      also,
      line,
      other_line,
      is,
      has,
      subst (λ (x : List ℕ). AreApart x also line other_line) (sym begins)
          (subst (λ (x : List ℕ). AreApart (beginning ++ more) x line other_line) (sym goes)
          (apart_longer beginning other line other_line more left apart)),
      told,
    )
