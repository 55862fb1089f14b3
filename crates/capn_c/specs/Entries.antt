-- The index of a message, as C reads it. (Our own.)
use Rattle.std.specs.Prelude.{◌≡◌, ℕ, ◌+◌, ◌*◌, List, [], ◌∷◌, ◌++◌, length, drop, get_or, map}
use Rattle.capn_stream.specs.FrameRefusal.{head_length}
use Rattle.capn_walk.specs.Accepted.{IsAccepted}
use Rattle.capn_walk.specs.Index.{index_of}
use Rattle.capn_walk.specs.Limits.{Bounds}
use Rattle.capn_walk.specs.declared.entry.Entry.{Entry}
use Rattle.capn_walk.specs.declared.kind.Kind.{Kind}
use Rattle.capn_walk.specs.declared.kind.Kind.TheVariants as kinds
use Rattle.capn_canon.specs.Reads.{Reads}
use Rattle.capn_canon.specs.declared.form.Form.{Form}
use Rattle.capn_canon.specs.declared.form.Form.TheVariants as forms
use Rattle.capn_c.specs.declared.entries.CapnEntry.{CapnEntry}

-- The number that C has for the given kind of target.
abbrev pub kind_number : Kind → ℕ
kind_number kinds.Nil = 0
kind_number kinds.Node = 1
kind_number kinds.Voids = 2
kind_number kinds.Bits = 3
kind_number kinds.Bytes = 4
kind_number kinds.Pairs = 5
kind_number kinds.Quads = 6
kind_number kinds.Octs = 7
kind_number kinds.Links = 8
kind_number kinds.Rows = 9
kind_number kinds.Cap = 10

-- The word at which each segment begins, if the first begins at word `n`.
abbrev pub starts_from : ℕ → List (List ℕ) → List ℕ
starts_from n [] = []
starts_from n (ws ∷ message) = n ∷ starts_from (n + length ws) message

-- An entry in the layout that C reads. Its offset counts the bytes from the start of a segment table of `table` bytes.
-- `starts` has the word after the table at which each segment begins.
abbrev pub c_entry : ℕ → List ℕ → Entry → CapnEntry
c_entry table starts e = record {
  offset = table + 8 * (get_or starts e.segment 0 + e.start);
  count = e.count;
  span = e.span;
  words = e.words;
  slots = e.slots;
  kind = kind_number e.kind;
}

-- The index of a message in the layout that C reads, if the message comes after a table of `table` bytes.
abbrev pub c_index : ℕ → List (List ℕ) → Bounds → List CapnEntry
c_index table message limits = map (c_entry table (starts_from 0 message)) (index_of message limits)

-- The number of bytes before the words of a message: the length of the segment table for a stream, else 0.
abbrev pub table_length : Form → List (List ℕ) → ℕ
table_length forms.Stream message = head_length (length message)
table_length forms.Packed message = 0
table_length forms.Bare message = 0

-- `bs` are read as an accepted message. `new` begins with the index of that message. The entries after the index are
-- the same as in `old`.
pub record IndexedIn (form : Form) (bs : List ℕ) (limits : Bounds) (old new : List CapnEntry) : Type 0 where
  pub message : List (List ℕ)
  pub reads : Reads form bs limits.message_words message
  pub accepted : IsAccepted message limits
  pub entries : new ≡ c_index (table_length form message) message limits
      ++ drop (length (index_of message limits)) old

-- `bs` are read as an accepted message, whose index has `count` entries.
pub record HasEntries (form : Form) (bs : List ℕ) (limits : Bounds) (count : ℕ) : Type 0 where
  pub message : List (List ℕ)
  pub reads : Reads form bs limits.message_words message
  pub accepted : IsAccepted message limits
  pub each : count ≡ length (index_of message limits)
