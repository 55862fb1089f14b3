-- The text that is written for one message, and the reason why no text is written. (Our own.)
use Rattle.std.specs.Prelude.{◌≡◌, ◌≢◌, ◌⊎◌, ℕ, List, [], ◌∷◌, ◌++◌, codes, None, Result, Ok, Err}
use Rattle.std.specs.Fmt.{decimal}
use Rattle.sha2.specs.Sha256.{sha256}
use Rattle.hex.specs.Hex.{encode_lower}
use Rattle.capn_value.specs.Tree.{Tree}
use Rattle.capn_words.specs.Message.{bytes}
use Rattle.capn_value.specs.Text.{show_text}
use Rattle.capn_value.specs.FirstCap.{first_cap}
use Rattle.capn_walk.specs.Limits.{Bounds}
use Rattle.capn_walk.specs.Accepted.{IsValueOf, paid, number_of_visits}
use Rattle.capn_walk.specs.Accepted as walks
use Rattle.capn_walk.specs.declared.walk_answer.Stopped.{Stopped}
use Rattle.capn_canon.specs.Layout.{canon}
use Rattle.capn_canon.specs.Denotes.{AnswersMessage}
use Rattle.capn_canon.specs.Refusal.{IsRefusedMessage}
use Rattle.capn_canon.specs.declared.refusal.Refusal.{Refusal}
use Rattle.capn_canon.specs.declared.refusal.Refusal.TheVariants as refusals
use Rattle.capn_commands.specs.declared.plan.MessageText.{MessageText}
use Rattle.capn_commands.specs.declared.plan.MessageText.TheVariants as kinds
use Rattle.capn_commands.specs.declared.fault.ToolFault.{ToolFault}
use Rattle.capn_commands.specs.declared.fault.ToolFault.TheVariants as faults

-- The text that shows `price` and `visits` in decimal digits, and then `behind`.
abbrev pub priced : ℕ → ℕ → List ℕ → List ℕ
priced price visits behind = codes "ok paid " ++ decimal price ++ codes " visits " ++ decimal visits ++ behind

-- The line that shows `price` and `visits`.
abbrev pub price_line : ℕ → ℕ → List ℕ
price_line price visits = priced price visits (10 ∷ [])

-- The line that shows the SHA-256 of `text` in 64 lower-case hexadecimal digits.
abbrev pub digest_line : List ℕ → List ℕ
digest_line text = encode_lower (sha256 text) ++ 10 ∷ []

-- `text` is the text of the given kind for `message`, which is accepted within `limits`. For `Text`, this is the text
-- of the value and a line `end`. For `Price`, it is the price line, and for `Digest`, the digest line.
abbrev pub IsMessageText : MessageText → List (List ℕ) → Bounds → List ℕ → Type 0
IsMessageText kinds.Text message limits text =
    (v : Tree) × IsValueOf message limits v × (text ≡ show_text v ++ (codes "end" ++ 10 ∷ []))
IsMessageText kinds.Price message limits text =
    (v : Tree) × IsValueOf message limits v
    × (text ≡ price_line (paid message limits) (number_of_visits message limits))
IsMessageText kinds.Digest message limits text =
    (answer : List ℕ) × (price : ℕ) × AnswersMessage message limits answer price × (text ≡ digest_line answer)

-- The walk of `message` within `limits` is refused, and `fault` is that refusal.
abbrev pub IsStopped : List (List ℕ) → Bounds → ToolFault → Type 0
IsStopped message limits fault =
    (s : Stopped) × (fault ≡ faults.Refused (refusals.Walk s))
    × walks.IsWalkRefused message limits s.fault s.place s.paid s.visits

-- `fault` is the refusal of a walk that stopped with `s`.
abbrev pub IsStopOf : Stopped → ToolFault → Type 0
IsStopOf s fault = fault ≡ faults.Refused (refusals.Walk s)

-- `fault` is the reason why `message` has no text of the given kind. For `Text` and `Price`, the walk of `message` is
-- refused. For `Digest`, `message` has no canonical bytes.
abbrev pub IsNoMessageText : MessageText → List (List ℕ) → Bounds → ToolFault → Type 0
IsNoMessageText kinds.Text message limits fault = IsStopped message limits fault
IsNoMessageText kinds.Price message limits fault = IsStopped message limits fault
IsNoMessageText kinds.Digest message limits fault =
    (r : Refusal) × (fault ≡ faults.Refused r) × (r ≢ refusals.Memory) × IsRefusedMessage message limits r

-- `words` are the canonical bytes of the value `v`, which has no capability.
abbrev pub AreCanonical : Tree → List ℕ → Type 0
AreCanonical v words = (first_cap v ≡ None) × (canon v ≡ bytes words)

-- `text` is written for the bare message with these `words`. The price line ends with `canonical` or `not-canonical`.
-- The texts of the other kinds are those of `IsMessageText`.
abbrev pub IsBareMessageText : MessageText → List ℕ → Bounds → List ℕ → Type 0
IsBareMessageText kinds.Text words limits text = IsMessageText kinds.Text (words ∷ []) limits text
IsBareMessageText kinds.Price words limits text =
    (v : Tree) × IsValueOf (words ∷ []) limits v
    × ((AreCanonical v words
    × (text ≡ priced (paid (words ∷ []) limits) (number_of_visits (words ∷ []) limits)
    (codes " canonical" ++ 10 ∷ [])))
    ⊎ ((AreCanonical v words → ⊥)
    × (text ≡ priced (paid (words ∷ []) limits) (number_of_visits (words ∷ []) limits)
    (codes " not-canonical" ++ 10 ∷ []))))
IsBareMessageText kinds.Digest words limits text = IsMessageText kinds.Digest (words ∷ []) limits text

-- After `Ok`, `new` is `old ++ text`, where `text` is written for `message` (`IsMessageText`). After `Err`, `new` is
-- `old`. If `fault` is `Memory`, `message` has a text. Any other `fault` is the reason why `message` has no text.
abbrev pub PutsMessageText : MessageText → List (List ℕ) → Bounds → List ℕ → List ℕ → Result (Unit {0}) ToolFault
    → Type 0
PutsMessageText piece message limits old new (Ok u) = (text : List ℕ) × IsMessageText piece message limits text
    × (new ≡ old ++ text)
PutsMessageText piece message limits old new (Err fault) =
    (((fault ≡ faults.Memory) × ((text : List ℕ) × IsMessageText piece message limits text))
    ⊎ IsNoMessageText piece message limits fault) × (new ≡ old)

-- After `Ok`, `new` is `old ++ text`, where `text` is written for the bare message with these `words`. After `Err`,
-- `new` is `old`. If `fault` is `Memory`, that message has a text. Any other `fault` is the reason why it has no text.
abbrev pub PutsBareMessageText : MessageText → List ℕ → Bounds → List ℕ → List ℕ → Result (Unit {0}) ToolFault → Type 0
PutsBareMessageText piece words limits old new (Ok u) = (text : List ℕ) × IsBareMessageText piece words limits text
    × (new ≡ old ++ text)
PutsBareMessageText piece words limits old new (Err fault) =
    (((fault ≡ faults.Memory) × ((text : List ℕ) × IsBareMessageText piece words limits text))
    ⊎ IsNoMessageText piece (words ∷ []) limits fault) × (new ≡ old)

-- After `Ok`, `new` is `old ++ line`. After `Err`, `fault` is `Memory`, and `new` is `old`.
abbrev pub PutsLine : List ℕ → List ℕ → List ℕ → Result (Unit {0}) ToolFault → Type 0
PutsLine line old new (Ok u) = new ≡ old ++ line
PutsLine line old new (Err fault) = (fault ≡ faults.Memory) × (new ≡ old)
