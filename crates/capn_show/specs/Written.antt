-- The outcome of a call that adds the text of a message's value. `text_of` gives the text of a value. The output is `p`
-- before the call and `q` after it. (Our own.)
use Rattle.std.specs.Prelude.{◌≡◌, ℕ, List}
use Rattle.capn_value.specs.Tree.{Tree}
use Rattle.capn_walk.specs.Accepted.{IsValueOf, IsWalkRefused}
use Rattle.capn_walk.specs.Limits.{Bounds}
use Rattle.capn_show.specs.Outgoing.{Outgoing, Adds, BreaksOff}
use Rattle.capn_show.specs.declared.fault.ShowFault.{ShowFault}
use Rattle.capn_show.specs.declared.fault.ShowFault.TheVariants as ends
use Rattle.capn_show.specs.declared.fault.Broken.{Broken}
use Rattle.capn_show.specs.declared.fault.Broken.TheVariants as broken

module _ (m : List (List ℕ)) (limits : Bounds) (text_of : Tree → List ℕ) where
  -- The message `m` is accepted within `limits`, and the text of its `value` was added to the output.
  pub record IsWritten (p q : Outgoing) : Type 0 where
    pub value : Tree
    pub is : IsValueOf m limits value
    pub text : Adds p q (text_of value)

  -- The message `m` is accepted within `limits`, and the text of its `value` breaks off for the reason `e`.
  pub record IsBegun (p q : Outgoing) (e : Broken) : Type 0 where
    pub value : Tree
    pub is : IsValueOf m limits value
    pub text : BreaksOff p q e (text_of value)

  -- For `Stopped s`, the message is refused, the walk over it stops as `s` says, and nothing was added. For `Io` and
  -- `Memory`, the message is accepted, and the text of its value breaks off.
  abbrev pub IsUnwritten : ShowFault → Outgoing → Outgoing → Type 0
  IsUnwritten (ends.Stopped s) p q = (q ≡ p) × IsWalkRefused m limits s.fault s.place s.paid s.visits
  IsUnwritten ends.Io p q = IsBegun p q broken.Io
  IsUnwritten ends.Memory p q = IsBegun p q broken.Memory
