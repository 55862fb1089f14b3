-- The value that bytes denote within limits, the canonical bytes of that value, and the price of the walk.
use Rattle.std.specs.Prelude.{◌≡◌, ℕ, List, None}
use Rattle.capn_value.specs.Tree.{Tree}
use Rattle.capn_value.specs.FirstCap.{first_cap}
use Rattle.capn_walk.specs.Accepted.{IsValueOf, paid}
use Rattle.capn_walk.specs.Limits.{Bounds}
use Rattle.capn_canon.specs.declared.form.Form.{Form}
use Rattle.capn_layout.specs.Layout.{canon}
use Rattle.capn_canon.specs.Reads.{Reads}

-- In `form`, `bs` are read as a message, and that message is accepted with the value `v` at its root.
pub record Denotes (form : Form) (bs : List ℕ) (limits : Bounds) (v : Tree) : Type 0 where
  pub message : List (List ℕ)
  pub reads : Reads form bs limits.message_words message
  pub value : IsValueOf message limits v

-- `message` is accepted with a value without capabilities. `bytes` are the canonical bytes of that value, and the walk
-- of `message` pays `price` words.
pub record AnswersMessage (message : List (List ℕ)) (limits : Bounds) (bytes : List ℕ) (price : ℕ) : Type 0 where
  pub value : Tree
  pub is : IsValueOf message limits value
  pub free : first_cap value ≡ None
  pub canonical : bytes ≡ canon value
  pub priced : price ≡ paid message limits

-- In `form`, `bs` are read as a message. That message has the canonical bytes `bytes` and the price `price`.
pub record Answers (form : Form) (bs : List ℕ) (limits : Bounds) (bytes : List ℕ) (price : ℕ) : Type 0 where
  pub message : List (List ℕ)
  pub reads : Reads form bs limits.message_words message
  pub answer : AnswersMessage message limits bytes price
