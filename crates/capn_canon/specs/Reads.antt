-- The reading of bytes as a message, in each form. (Page: messages, serialization over a stream, packing; the limits
-- are our own.)
use Rattle.std.specs.Prelude.{◌≡◌, ℕ, ◌+◌, ◌*◌, ◌<◌, ◌≤◌, List, [], ◌∷◌, length}
use Rattle.capn_words.specs.Message.{total, IsBare}
use Rattle.capn_pack.specs.Packed.{Packs}
use Rattle.capn_stream.specs.Frames.{Frames, StandsFirst, most_table_words}
use Rattle.capn_canon.specs.declared.form.Form.{Form}
use Rattle.capn_canon.specs.declared.form.Form.TheVariants as forms

-- `bs` are exactly the frame of `message`, and `message` has at most `most` words.
pub record IsFramed (bs : List ℕ) (most : ℕ) (message : List (List ℕ)) : Type 0 where
  pub frame : Frames bs message
  pub room : total message ≤ most

-- `bs` are a packed text that unpacks to `text`, and `text` has at most `most + most_table_words` words.
pub record Unpacks (bs : List ℕ) (most : ℕ) (text : List ℕ) : Type 0 where
  pub packs : Packs bs text
  pub room : length text ≤ 8 * (most + most_table_words)

-- In the given form, `bs` are the bytes of `message`. In the forms `Stream` and `Packed`, `message` has at most `most`
-- words.
abbrev pub Reads : Form → List ℕ → (most : ℕ) → List (List ℕ) → Type 0
Reads forms.Bare bs most message = (ws : List ℕ) × IsBare bs ws × (message ≡ ws ∷ [])
Reads forms.Stream bs most message = IsFramed bs most message
Reads forms.Packed bs most message = (text : List ℕ) × Unpacks bs most text × IsFramed text most message

-- `bs` begin with the frame of a message of at most `most` words. The frame has `at` bytes, and more bytes follow the
-- frame.
abbrev pub Trails : List ℕ → (most at : ℕ) → Type 0
Trails bs most at = (message : List (List ℕ)) × StandsFirst bs most message at × (at < length bs)
