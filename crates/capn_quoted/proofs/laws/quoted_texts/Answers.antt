use Rattle.std.proofs.Common.{◌∙◌, sym, ap, append-nil, []}
use Rattle.std.specs.Str.{encode_utf8_all}
use Rattle.capn_quoted.specs.Escapes.{escapes, all_written}
use Rattle.capn_quoted.proofs.CodePoints.{points_then}
use Rattle.capn_quoted.proofs.TextsRead.{text_again}
use Rattle.capn_quoted.proofs.Takes.{text_takes}
use Rattle.capn_quoted.proofs.laws.quoted_texts.Goals as goal

pub returns-clause-points : goal.returns-clause-points
returns-clause-points c cs s =
    sym (ap escapes (append-nil (encode_utf8_all cs))) ∙ points_then cs [] s ∙ append-nil (all_written cs)

pub returns-clause-back : goal.returns-clause-back
returns-clause-back c = text_again

pub returns-clause-only : goal.returns-clause-only
returns-clause-only c = text_takes
