-- The kinds of words. (Our own.)
use Rattle.std.specs.Prelude.{ℕ, ◌==◌, Bool, true, false, if◌then◌else◌}
use Rattle.capn_cover.specs.declared.covered.Role.{Role}
use Rattle.capn_cover.specs.declared.covered.Role.TheVariants as roles
use Rattle.capn_lines.specs.declared.kind.Kind.{Kind}
use Rattle.capn_lines.specs.declared.kind.Kind.TheVariants as kinds

-- the kind of a slot with the given word
abbrev pub slot_kind : (word : ℕ) → Kind
slot_kind word = if word == 0 then kinds.Null else kinds.Pointer

-- the kind of a word, by what it is in the object to which it belongs
abbrev pub kind_in : (word : ℕ) → Role → Kind
kind_in word roles.Root = slot_kind word
kind_in word roles.Slot = slot_kind word
kind_in word roles.Pad = kinds.Pad
kind_in word roles.Tag = kinds.Tag
kind_in word roles.Data = kinds.Data
kind_in word roles.Numbers = kinds.List
kind_in word roles.Slack = kinds.Slack
kind_in word roles.Unreached = kinds.Unreached

-- a word of the first kind and a word of the second kind may stand in one line
abbrev pub may_join : Kind → Kind → Bool
may_join kinds.Null kinds.Null = true
may_join kinds.Data kinds.Data = true
may_join kinds.List kinds.List = true
may_join kinds.Slack kinds.Slack = true
may_join kinds.Unreached kinds.Unreached = true
may_join _ _ = false

-- a number for each kind
abbrev pub code_of : Kind → ℕ
code_of kinds.Pointer = 0
code_of kinds.Null = 1
code_of kinds.Pad = 2
code_of kinds.Tag = 3
code_of kinds.Data = 4
code_of kinds.List = 5
code_of kinds.Slack = 6
code_of kinds.Unreached = 7

-- two kinds are the same
abbrev pub is_kind : Kind → Kind → Bool
is_kind kind other = code_of kind == code_of other
