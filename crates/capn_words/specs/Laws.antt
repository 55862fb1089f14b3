-- The laws of bytes that are read as one segment.
use Rattle.std.specs.Prelude.{◌≡◌, ℕ, List, Err}
use Rattle.capn_words.specs.Message.{IsBare, ReadsBare}
use Rattle.capn_words.specs.declared.bare.BareFault.{BareFault}

-- at most one list of words has the bytes `bs`
abbrev pub OneBareReading : Type 0
OneBareReading = (bs vs ws : List ℕ) → IsBare bs vs → IsBare bs ws → vs ≡ ws

-- the bytes `bs` are refused for at most one reason
abbrev pub OneBareRefusal : Type 0
OneBareRefusal = (bs : List ℕ) (e f : BareFault) → ReadsBare bs (Err e) → ReadsBare bs (Err f) → e ≡ f

-- if `bs` are the bytes of the words `ws`, `bs` are not refused
abbrev pub BareAreNotRefused : Type 0
BareAreNotRefused = (bs ws : List ℕ) (e : BareFault) → IsBare bs ws → ReadsBare bs (Err e) → ⊥
