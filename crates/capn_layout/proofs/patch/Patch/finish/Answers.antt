use Rattle.std.proofs.Common.{◌∙◌, ap, sym, subst, List, Option, ℕ}
use Rattle.capn_words.specs.Message.{bytes}
use Rattle.capn_layout.specs.Patch.{IsWhole, filled}
use Rattle.capn_layout.proofs.writer.Patched.{patched-whole}
use Rattle.capn_layout.proofs.patch.Patch.finish.Goals as goal

pub returns-clause-ok : goal.returns-clause-ok
returns-clause-ok g c =
    patched-whole c.self.inside.holes.items c.self.inside.bytes.items c.self.invariant
    (subst IsWhole (sym c.self.view_is) c.requires)
    ∙ ap (λ (xs : List (Option ℕ)). bytes (filled xs)) c.self.view_is
