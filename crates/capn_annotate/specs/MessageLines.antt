-- The text of the lines of a message. (Our own.)
use Rattle.std.specs.Prelude.{ℕ, List}
use Rattle.std.specs.List.{flat_map}
use Rattle.capn_cover.specs.declared.covered.Covered.{Covered}
use Rattle.capn_lines.specs.Lines.{lines_of}
use Rattle.capn_lines.specs.declared.line.Line.{Line}
use Rattle.capn_annotate.specs.LineTexts.{line_text}

module _ (message : List (List ℕ)) (words : List Covered) where
  -- The texts of lines, one after the other. The message's first word lies at the byte `start` of the stream, and no
  -- slot is more than `levels` objects deep.
  abbrev pub lines_text : (start levels : ℕ) → List Line → List ℕ
  lines_text start levels lines = flat_map (line_text message words start levels) lines

  -- The text of all lines of the message.
  abbrev pub message_lines_text : (start levels : ℕ) → List ℕ
  message_lines_text start levels = lines_text start levels (lines_of message words)
