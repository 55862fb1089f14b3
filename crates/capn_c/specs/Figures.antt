-- The figures of a message, which a survey finds. (Our own.)
use Rattle.std.specs.Prelude.{◌≡◌, ◌↔◌, ◌≤◌, ℕ, zero, suc, List, length, Option, Some, None}
use Rattle.capn_words.specs.Message.{bytes, segment_at, total}
use Rattle.capn_value.specs.Tree.{Tree}
use Rattle.capn_value.specs.FirstCap.{first_cap}
use Rattle.capn_walk.specs.Accepted.{IsValueOf, number_of_visits, paid}
use Rattle.capn_walk.specs.Depth.{IsDepth}
use Rattle.capn_walk.specs.Limits.{Bounds}
use Rattle.capn_canon.specs.Layout.{canon}
use Rattle.capn_canon.specs.Reads.{Reads}
use Rattle.capn_canon.specs.declared.form.Form.{Form}
use Rattle.capn_c.specs.declared.figures.CapnFigures.{CapnFigures}

-- `message` is accepted within `limits` and has one segment, whose bytes are the canonical bytes of the value.
pub record IsCanonicalMessage (message : List (List ℕ)) (limits : Bounds) : Type 0 where
  pub one : length message ≡ 1
  pub value : Tree
  pub is : IsValueOf message limits value
  pub free : first_cap value ≡ None
  pub same : canon value ≡ bytes (segment_at message 0)

-- `None` if the first number is 0, else `Some k`, where `k` is the index of a capability.
abbrev pub reported_cap : ℕ → ℕ → Option ℕ
reported_cap zero k = None
reported_cap (suc n) k = Some k

-- `f` has the figures of `message`, which is accepted within `limits`. `depth` is the least depth limit under which
-- `message` is accepted. `has_capability` and `canonical` are 1 for yes and 0 for no.
pub record AreFigures (message : List (List ℕ)) (limits : Bounds) (f : CapnFigures) : Type 0 where
  pub value : Tree
  pub is : IsValueOf message limits value
  pub words : f.words ≡ total message
  pub segments : f.segments ≡ length message
  pub pays : f.paid ≡ paid message limits
  pub counts : f.visits ≡ number_of_visits message limits
  pub depth : IsDepth message limits f.depth
  pub capability : reported_cap f.has_capability f.capability ≡ first_cap value
  pub canonical : (f.canonical ≡ 1) ↔ IsCanonicalMessage message limits
  pub flags : (f.has_capability ≤ 1) × (f.canonical ≤ 1)

-- `bs` are read as a message with the figures `f`.
pub record FiguresIn (form : Form) (bs : List ℕ) (limits : Bounds) (f : CapnFigures) : Type 0 where
  pub message : List (List ℕ)
  pub reads : Reads form bs limits.message_words message
  pub are : AreFigures message limits f
