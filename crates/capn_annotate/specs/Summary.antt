-- The last line of a message. (Our own.)
use Rattle.std.specs.Prelude.{◌≡◌, ℕ, ◌+◌, ◌/◌, List, ◌++◌, length, Option, Some, None, codes, refl}
use Rattle.std.specs.Fmt.{decimal}
use Rattle.capn_value.specs.Tree.{Tree}
use Rattle.capn_value.specs.FirstCap.{first_cap}
use Rattle.capn_walk.specs.Accepted.{IsValueOf}
use Rattle.capn_walk.specs.Limits.{Bounds}
use Rattle.capn_layout.specs.Layout.{canon}
use Rattle.capn_lines.specs.declared.counts.Counts.{Counts}
use Rattle.capn_annotate.specs.declared.summary.Summary.{Summary}

-- `words` is the number of words of the canonical bytes of `message`, or `None` if its value has a capability.
abbrev pub HasCanonicalWords : List (List ℕ) → Bounds → Option ℕ → Type 0
HasCanonicalWords message limits (Some words) =
    (v : Tree) × IsValueOf message limits v × (first_cap v ≡ None) × (words ≡ length (canon v) / 8)
HasCanonicalWords message limits None =
    (v : Tree) × IsValueOf message limits v × ((k : ℕ) × (first_cap v ≡ Some k))

-- The number of words of canonical bytes, or a dash if there are none.
abbrev pub canonical_text : Option ℕ → List ℕ
canonical_text (Some words) = decimal words
canonical_text None = codes "-"

-- The number of words of each kind, after its name.
abbrev pub kinds_text : Counts → List ℕ
kinds_text c =
    codes "pointer " ++ (decimal c.pointer ++ (codes " null " ++ (decimal c.null ++ (codes " pad " ++ (decimal c.pad
    ++ (codes " tag " ++ (decimal c.tag ++ (codes " data " ++ (decimal c.«data» ++ (codes " list " ++ (decimal c.list
    ++ (codes " slack " ++ (decimal c.slack ++ (codes " unreached " ++ decimal c.unreached))))))))))))))

-- The counts of a message, and the words of its canonical bytes, with a newline. Messages are numbered from 1.
abbrev pub summary_text : Summary → List ℕ
summary_text s =
    decimal (s.at.index + 1) ++ (codes " at " ++ (decimal s.at.offset ++ (codes " words " ++ (decimal s.counts.words
    ++ (codes " " ++ (kinds_text s.counts ++ (codes " shared " ++ (decimal s.counts.shared ++ (codes " overlap "
    ++ (decimal s.counts.overlap ++ (codes " hidden " ++ (decimal s.counts.hidden ++ (codes " cut "
    ++ (decimal s.counts.cut ++ (codes " canonical " ++ (canonical_text s.canonical ++ codes "\n"))))))))))))))))

-- The last line of a message, which ends before the byte `byte` of the stream.
abbrev pub end_text : (byte : ℕ) → Summary → List ℕ
end_text byte s = decimal byte ++ (codes "\tend\t" ++ summary_text s)

no_words : canonical_text None ≡ codes "-"
no_words = refl
