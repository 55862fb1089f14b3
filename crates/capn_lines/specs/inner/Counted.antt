-- Counts that grow word by word.
use Rattle.std.specs.Prelude.{ℕ, zero, suc, ◌+◌, ◌≤◌, nat_lt, Bool, List, length}
use Rattle.capn_words.specs.Message.{segment_at}
use Rattle.capn_words.specs.declared.space.Place.{Place}
use Rattle.capn_cover.specs.declared.covered.Covered.{Covered}
use Rattle.capn_lines.specs.Kinds.{is_kind}
use Rattle.capn_lines.specs.Sums.{one_if}
use Rattle.capn_lines.specs.Lines.{covered_at, kind_at}
use Rattle.capn_lines.specs.Counts.{hides}
use Rattle.capn_lines.specs.declared.kind.Kind.{Kind}
use Rattle.capn_lines.specs.declared.kind.Kind.TheVariants as kinds
use Rattle.capn_lines.specs.declared.counts.Counts.{Counts}

-- the counts of no words
abbrev pub none : Counts
none = record {
  words = 0;
  pointer = 0;
  null = 0;
  pad = 0;
  tag = 0;
  «data» = 0;
  list = 0;
  slack = 0;
  unreached = 0;
  shared = 0;
  overlap = 0;
  hidden = 0;
  cut = 0;
}

-- one word more of the given kind
abbrev pub with_kind : Kind → Counts → Counts
with_kind kind c = record c {
  words = c.words + 1;
  pointer = c.pointer + one_if (is_kind kind kinds.Pointer);
  null = c.null + one_if (is_kind kind kinds.Null);
  pad = c.pad + one_if (is_kind kind kinds.Pad);
  tag = c.tag + one_if (is_kind kind kinds.Tag);
  «data» = c.«data» + one_if (is_kind kind kinds.Data);
  list = c.list + one_if (is_kind kind kinds.List);
  slack = c.slack + one_if (is_kind kind kinds.Slack);
  unreached = c.unreached + one_if (is_kind kind kinds.Unreached);
}

-- what a word that is covered so adds beside its kind
abbrev pub with_tests : Covered → (hidden : Bool) → Counts → Counts
with_tests covered hidden c = record c {
  shared = c.shared + one_if (nat_lt 1 covered.times);
  overlap = c.overlap + one_if covered.overlap;
  hidden = c.hidden + one_if hidden;
  cut = c.cut + one_if covered.cut;
}

module _ (message : List (List ℕ)) (words : List Covered) where
  -- the word at a place more
  abbrev pub with_word : Place → Counts → Counts
  with_word at c =
      with_kind (kind_at message words at)
      (with_tests (covered_at message words at) (hides message words at) c)

  -- the first `n` words of segment `s` more
  abbrev pub with_words : (s n : ℕ) → Counts → Counts
  with_words s zero c = c
  with_words s (suc n) c = with_word (record { segment = s; word = n }) (with_words s n c)

  -- the counts of the first `n` segments
  abbrev pub counted : (n : ℕ) → Counts
  counted zero = none
  counted (suc s) = with_words s (length (segment_at message s)) (counted s)

-- no count is above `n`
pub record AreUpTo (n : ℕ) (c : Counts) : Type 0 where
  pub words : c.words ≤ n
  pub pointer : c.pointer ≤ n
  pub null : c.null ≤ n
  pub pad : c.pad ≤ n
  pub tag : c.tag ≤ n
  pub data_words : c.«data» ≤ n
  pub list : c.list ≤ n
  pub slack : c.slack ≤ n
  pub unreached : c.unreached ≤ n
  pub shared : c.shared ≤ n
  pub overlap : c.overlap ≤ n
  pub hidden : c.hidden ≤ n
  pub cut : c.cut ≤ n
