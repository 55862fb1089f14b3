use Rattle.std.proofs.Common.{◌≡◌, ◌∙◌, suc, ◌-◌, ◌&&◌, Bool, true, not, length, ap, sym, arith}
use Rattle.std.proofs.lemmas.Bool.{eqb-false}
use Rattle.std.specs.Str.{is_utf8}
use Rattle.capn_quoted.specs.Texts.{before_last, has_control}
use Rattle.capn_quoted.proofs.ClearTexts.{no-zero, zero-then}
use Rattle.capn_quoted.proofs.texts.is_clear_text.Goals as goal

pub returns-then-bytes-last-ne0 : goal.returns-then-bytes-last-ne0
returns-then-bytes-last-ne0 c =
    let xs = c.args.bytes.now in
    let some = eqb-false (length xs) 0 (sym c.is_empty.ensures ∙ c.if-is_empty.false) in
    let last : suc (length xs - 1) ≡ length xs = omega arith in
    sym (no-zero xs (length xs - 1) last c.if-bytes-last-ne0.true)

pub returns-then-is_well_formed : goal.returns-then-is_well_formed
returns-then-is_well_formed c =
    let xs = c.args.bytes.now in
    let some = eqb-false (length xs) 0 (sym c.is_empty.ensures ∙ c.if-is_empty.false) in
    let last : suc (length xs - 1) ≡ length xs = omega arith in
    let good : is_utf8 (before_last xs) ≡ true = sym c.is_well_formed.ensures ∙ c.if-is_well_formed.true in
    ap not c.has_control.ensures
    ∙ sym (zero-then xs (length xs - 1) last c.if-bytes-last-ne0.false
    ∙ ap (λ (b : Bool). b && not (has_control (before_last xs))) good)
