-- The text that `show` writes for a message: the text of a value of the message, and the end of that text. (Our own.)
use Rattle.std.specs.Prelude.{◌≡◌, ℕ, ◌||◌, List, ◌++◌, if◌then◌else◌}
use Rattle.capn_words.specs.Message.{total}
use Rattle.capn_value.specs.Tree.{Tree}
use Rattle.capn_walk.specs.Accepted.{IsValueOf, IsWalkRefused}
use Rattle.capn_walk.specs.declared.walk_answer.Stopped.{Stopped}
use Rattle.capn_canon.specs.declared.refusal.Refusal.{Refusal}
use Rattle.capn_canon.specs.declared.refusal.Refusal.TheVariants as refusals
use Rattle.capn_marks.specs.MarkedPart.{marked_at}
use Rattle.capn_show.specs.Style.{end_of, styled}
use Rattle.capn_serve.specs.declared.position.Position.{Position}
use Rattle.capn_commands.specs.MessageMarks.{marked_end, marks_of}
use Rattle.capn_commands.specs.declared.part_texts.PartTexts.{PartTexts}

-- The text of the value at the path of `s` from the root `v`. If `s` asks for offsets or paths, the text has marks, and
-- otherwise it has the style of `s`.
abbrev pub part_of : PartTexts → Position → List (List ℕ) → Tree → List ℕ
part_of s at message v =
    if s.offsets || s.ways then marked_at message (marks_of s at message) s.path.now v
    else styled s.style s.path.now v

-- The end of the text of `message`: the line `end` with marks if `s` asks for offsets or paths, and otherwise the end
-- of the style.
abbrev pub part_end : PartTexts → Position → List (List ℕ) → List ℕ
part_end s at message =
    if s.offsets || s.ways then marked_end (marks_of s at message) (total message) else end_of s.style

-- `message` is accepted, and `text` is the text of the value at the path of `s`, and then the end of that text. The
-- state `t` is `s`.
abbrev pub serves : PartTexts → Position → List ℕ → List (List ℕ) → List ℕ → PartTexts → Type 0
serves s at frame message text t =
    ((v : Tree) × IsValueOf message s.limits v × (text ≡ part_of s at message v ++ part_end s at message)) × (t ≡ s)

-- The walk of `message` within the limits of `s` is refused, and `r` is that refusal, whatever is at the path.
abbrev pub refuses : PartTexts → Position → List ℕ → List (List ℕ) → Refusal → Type 0
refuses s at frame message r = (stop : Stopped) × (r ≡ refusals.Walk stop)
    × IsWalkRefused message s.limits stop.fault stop.place stop.paid stop.visits
