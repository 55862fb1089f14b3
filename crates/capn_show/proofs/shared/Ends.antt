-- The result for a text that breaks off. (For `show_message`, `show_part` and capn_marks.)
use Rattle.std.proofs.Common.{◌≡◌, ℕ, List, subst, sym}
use Rattle.capn_value.specs.Tree.{Tree}
use Rattle.capn_walk.specs.Limits.{Bounds}
use Rattle.capn_show.specs.declared.fault.ShowFault.{ShowFault}
use Rattle.capn_show.specs.declared.fault.Broken.{Broken}
use Rattle.capn_show.specs.declared.fault.Broken.TheVariants as broken
use Rattle.capn_show.specs.Outgoing.{Outgoing}
use Rattle.capn_show.specs.Written.{IsBegun, IsUnwritten}
use Rattle.capn_show.specs.ReadyPlaces.{as_fault}

module _ (m : List (List ℕ)) (limits : Bounds) (text_of : Tree → List ℕ) (p q : Outgoing) where
  pub unwritten : (e : Broken) (fault : ShowFault) → fault ≡ as_fault e → IsBegun m limits text_of p q e
      → IsUnwritten m limits text_of fault p q
  unwritten broken.Io fault is h = subst (λ (f : ShowFault). IsUnwritten m limits text_of f p q) (sym is) h
  unwritten broken.Memory fault is h = subst (λ (f : ShowFault). IsUnwritten m limits text_of f p q) (sym is) h
