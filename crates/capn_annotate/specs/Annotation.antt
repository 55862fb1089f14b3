-- The text that `annotate` writes for a message. (Our own.)
use Rattle.std.specs.Prelude.{◌≡◌, ℕ, ◌+◌, ◌*◌, ◌==◌, List, [], ◌++◌, Option, if◌then◌else◌}
use Rattle.capn_words.specs.Message.{total}
use Rattle.capn_walk.specs.Accepted.{IsWalkRefused}
use Rattle.capn_walk.specs.declared.walk_answer.Stopped.{Stopped}
use Rattle.capn_canon.specs.declared.refusal.Refusal.{Refusal}
use Rattle.capn_canon.specs.declared.refusal.Refusal.TheVariants as refusals
use Rattle.capn_cover.specs.Cover.{IsCover}
use Rattle.capn_cover.specs.declared.covered.Covered.{Covered}
use Rattle.capn_lines.specs.Counts.{IsCounts}
use Rattle.capn_lines.specs.declared.counts.Counts.{Counts}
use Rattle.capn_serve.specs.Table.{table_words}
use Rattle.capn_serve.specs.declared.position.Position.{Position}
use Rattle.capn_annotate.specs.declared.annotate_order.AnnotateOrder.{AnnotateOrder}
use Rattle.capn_annotate.specs.declared.summary.Summary.{Summary}
use Rattle.capn_annotate.specs.MessageLines.{message_lines_text}
use Rattle.capn_annotate.specs.Summary.{HasCanonicalWords, end_text, summary_text}
use Rattle.capn_annotate.specs.Table.{table_text}

-- The line of the table of a message that begins at the byte `offset` of the stream. In a bare input there is none: the
-- table has no words.
abbrev pub head_text : (message : List (List ℕ)) → (frame : List ℕ) → (offset table : ℕ) → List ℕ
head_text message frame offset table = if table == 0 then [] else table_text message frame offset table

-- The byte of the stream at which the first word of a message lies, whose table has `table` words and begins at the
-- byte `offset`.
abbrev pub first_byte : (offset table : ℕ) → ℕ
first_byte offset table = offset + 8 * table

-- The lines of the segments of a message, and the last line. The message's first word lies at the byte `start` of the
-- stream, and no slot is more than `levels` objects deep.
abbrev pub body_text : (message : List (List ℕ)) → (words : List Covered) → (start levels : ℕ) → Summary → List ℕ
body_text message words start levels summary =
    message_lines_text message words start levels ++ end_text (start + 8 * total message) summary

-- All lines of a message, whose table has `table` words: the table's, those of its segments, and the last line.
abbrev pub all_lines : (frame : List ℕ) → (message : List (List ℕ)) → (words : List Covered) → (table levels : ℕ)
    → Summary → List ℕ
all_lines frame message words table levels summary =
    head_text message frame summary.at.offset table
    ++ body_text message words (first_byte summary.at.offset table) levels summary

-- The text of a message: all lines, or only the summary. `words` has what the visits make of each of its words.
abbrev pub annotation : AnnotateOrder → (frame : List ℕ) → (message : List (List ℕ)) → (words : List Covered) → Summary
    → List ℕ
annotation order frame message words summary =
    if order.summary then summary_text summary
    else all_lines frame message words (table_words order.form message) order.limits.depth summary

-- `message` is accepted, and `text` is what is written for it. `words` has what the visits make of each of its words,
-- and `counts` how many words are of each kind. `canonical` is the number of words of its canonical bytes.
pub record IsAnnotation (order : AnnotateOrder) (at : Position) (frame : List ℕ) (message : List (List ℕ))
    (text : List ℕ) : Type 0 where
  pub words : List Covered
  pub counts : Counts
  pub canonical : Option ℕ
  pub cover : IsCover message order.limits words
  pub are_counts : IsCounts message words counts
  pub are_canonical : HasCanonicalWords message order.limits canonical
  pub is : text
      ≡ annotation order frame message words (record { at = at; counts = counts; canonical = canonical })

-- `message` is accepted, and `text` is written for it. The options stay as they are.
abbrev pub serves : AnnotateOrder → Position → List ℕ → List (List ℕ) → List ℕ → AnnotateOrder → Type 0
serves order at frame message text next = IsAnnotation order at frame message text × (next ≡ order)

-- The walk of `message` within the limits is refused, and `r` is that refusal.
abbrev pub refuses : AnnotateOrder → Position → List ℕ → List (List ℕ) → Refusal → Type 0
refuses order at frame message r = (stop : Stopped) × (r ≡ refusals.Walk stop)
    × IsWalkRefused message order.limits stop.fault stop.place stop.paid stop.visits
