-- The counts of a message's words. (Our own.)
use Rattle.std.specs.Prelude.{◌≡◌, ℕ, ◌==◌, nat_lt, Bool, false, not, List}
use Rattle.capn_words.specs.Message.{total, word_at}
use Rattle.capn_words.specs.declared.space.Place.{Place}
use Rattle.capn_cover.specs.declared.covered.Covered.{Covered}
use Rattle.capn_lines.specs.Kinds.{is_kind}
use Rattle.capn_lines.specs.Sums.{count_at}
use Rattle.capn_lines.specs.Lines.{covered_at, kind_at}
use Rattle.capn_lines.specs.Lists.{hides_padding}
use Rattle.capn_lines.specs.declared.kind.Kind.{Kind}
use Rattle.capn_lines.specs.declared.kind.Kind.TheVariants as kinds
use Rattle.capn_lines.specs.declared.counts.Counts.{Counts}

-- a word hides something, by its kind: of slack and of what is unreached, a word that is not zero; of a list, the last
-- word if a bit behind the last element is 1
abbrev pub hides_in : Kind → (word : ℕ) → (padding : Bool) → Bool
hides_in kinds.List word padding = padding
hides_in kinds.Slack word padding = not (word == 0)
hides_in kinds.Unreached word padding = not (word == 0)
hides_in _ word padding = false

module _ (message : List (List ℕ)) (words : List Covered) where
  -- the word at a place is of the given kind
  abbrev pub is_of : Kind → Place → Bool
  is_of kind at = is_kind (kind_at message words at) kind

  -- the word at a place is covered twice or more
  abbrev pub is_shared : Place → Bool
  is_shared at = nat_lt 1 (covered_at message words at).times

  -- two that cover the word at a place differ
  abbrev pub is_overlap : Place → Bool
  is_overlap at = (covered_at message words at).overlap

  -- the word at a place hides something
  abbrev pub hides : Place → Bool
  hides at =
      hides_in (kind_at message words at) (word_at message at)
      (hides_padding message (covered_at message words at).slot at (word_at message at))

  -- canonical bytes leave out the word at a place
  abbrev pub is_cut : Place → Bool
  is_cut at = (covered_at message words at).cut

  -- each count is how many words of the message are so
  pub record IsCounts (counts : Counts) : Type 0 where
    pub all_words : counts.words ≡ total message
    pub pointer : counts.pointer ≡ count_at message (is_of kinds.Pointer)
    pub null : counts.null ≡ count_at message (is_of kinds.Null)
    pub pad : counts.pad ≡ count_at message (is_of kinds.Pad)
    pub tag : counts.tag ≡ count_at message (is_of kinds.Tag)
    pub data_words : counts.«data» ≡ count_at message (is_of kinds.Data)
    pub list : counts.list ≡ count_at message (is_of kinds.List)
    pub slack : counts.slack ≡ count_at message (is_of kinds.Slack)
    pub unreached : counts.unreached ≡ count_at message (is_of kinds.Unreached)
    pub shared : counts.shared ≡ count_at message is_shared
    pub overlap : counts.overlap ≡ count_at message is_overlap
    pub hidden : counts.hidden ≡ count_at message hides
    pub cut : counts.cut ≡ count_at message is_cut
