-- Laws of the definitions, without any function. (Our own.)
use Rattle.std.specs.Prelude.{◌≡◌, ◌≢◌, ℕ, ◌≤◌, List, [], ◌∷◌, length, false, Result, Ok, ⊤}
use Rattle.capn_words.specs.Message.{total}
use Rattle.capn_walk.specs.Limits.{Bounds}
use Rattle.capn_stream.specs.Frames.{Frames}
use Rattle.capn_canon.specs.declared.form.Form.TheVariants as forms
use Rattle.capn_serve.specs.Finish.{IsWholeText}
use Rattle.capn_serve.specs.Fold.{Part, frames_of}
use Rattle.capn_serve.specs.FormRun.{most_stream}
use Rattle.capn_archive.specs.ArchiveRun as archives
use Rattle.capn_archive.specs.UniqRun as uniqs
use Rattle.capn_archive.specs.FilterMessages.{Passes}
use Rattle.capn_archive.specs.FilterRun as filters
use Rattle.capn_archive.specs.declared.fault.ArchiveFault.{ArchiveFault}
use Rattle.capn_archive.specs.declared.filter_order.FilterOrder.{FilterOrder}
use Rattle.capn_archive.specs.declared.task.ArchiveOrder.{ArchiveOrder}
use Rattle.capn_archive.specs.declared.task.Task.TheVariants as tasks
use Rattle.capn_archive.specs.declared.uniq_order.UniqOrder.{UniqOrder}

-- The options and the input determine the text and the result of a run over an archive.
abbrev pub OneArchive : Type 0
OneArchive = (order : ArchiveOrder) (input t u : List ℕ) (r s : Result (Unit {0}) ArchiveFault)
    → IsWholeText (archives.archive_fold order) (archives.first_run order) archives.archive_finish order.form input t r
    → IsWholeText (archives.archive_fold order) (archives.first_run order) archives.archive_finish order.form input u s
    → (t ≡ u) × (r ≡ s)

-- The options and the input determine the text and the result of a run of `uniq`.
abbrev pub OneUniq : Type 0
OneUniq = (order : UniqOrder) (input t u : List ℕ) (r s : Result (Unit {0}) ArchiveFault)
    → IsWholeText (uniqs.uniq_fold order) (uniqs.first_run order) uniqs.uniq_finish order.form input t r
    → IsWholeText (uniqs.uniq_fold order) (uniqs.first_run order) uniqs.uniq_finish order.form input u s
    → (t ≡ u) × (r ≡ s)

-- The options and the input determine the text and the result of a run of `filter`.
abbrev pub OneFilter : Type 0
OneFilter = (order : FilterOrder) (input t u : List ℕ) (r s : Result (Unit {0}) ArchiveFault)
    → IsWholeText (filters.filter_fold order) (filters.first_run order) filters.filter_finish order.form input t r
    → IsWholeText (filters.filter_fold order) (filters.first_run order) filters.filter_finish order.form input u s
    → (t ≡ u) × (r ≡ s)

-- Each part has a frame, and the message of that frame has at most `order.limits.message_words` words. `filter` with
-- the options `order` lets that message through.
abbrev pub AreLetThrough : FilterOrder → List Part → Type 0
AreLetThrough order [] = ⊤
AreLetThrough order (p ∷ ps) = Frames p.frame p.message × (total p.message ≤ order.limits.message_words)
    × Passes order.canonical p.message order.limits × AreLetThrough order ps

-- `text` is frames of messages that `filter` with the options `order` lets through. `text` has at most `most_stream`
-- bytes.
pub record IsLetThrough (order : FilterOrder) (text : List ℕ) : Type 0 where
  pub parts : List Part
  pub each : AreLetThrough order parts
  pub is : text ≡ frames_of parts
  pub short : length text ≤ most_stream

-- The text that `filter` writes for a stream, packed or not, is frames of messages that `filter` lets through. The law
-- holds for every result `r`.
abbrev pub FiltersAccepted : Type 0
FiltersAccepted = (order : FilterOrder) (input text : List ℕ) (r : Result (Unit {0}) ArchiveFault)
    → order.form ≢ forms.Bare
    → IsWholeText (filters.filter_fold order) (filters.first_run order) filters.filter_finish order.form input text r
    → IsLetThrough order text

-- The options of `list` over a stream, with `limits`.
abbrev pub listing : Bounds → ArchiveOrder
listing limits = record { task = tasks.List; form = forms.Stream; limits = limits; keep_going = false }

-- If `filter` writes `text` for a stream, packed or not, then `list` with the same limits ends with `Ok` for the stream
-- `text`.
abbrev pub FilteredIsListed : Type 0
FilteredIsListed = (order : FilterOrder) (input text lines : List ℕ) (r s : Result (Unit {0}) ArchiveFault)
    → order.form ≢ forms.Bare
    → IsWholeText (filters.filter_fold order) (filters.first_run order) filters.filter_finish order.form input text r
    → IsWholeText (archives.archive_fold (listing order.limits)) (archives.first_run (listing order.limits))
    archives.archive_finish forms.Stream text lines s → s ≡ Ok tt
