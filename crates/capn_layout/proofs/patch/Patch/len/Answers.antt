use Rattle.std.proofs.Common.{◌/◌, ◌∙◌, ap, sym, length, ℕ}
use Rattle.capn_layout.proofs.writer.Patched.{length-patched}
use Rattle.capn_layout.proofs.patch.Patch.len.Goals as goal

pub returns : goal.returns
returns g c =
    ap (λ (n : ℕ). n / 8) (c.len.ensures ∙ c.self.inside.bytes.ok.0)
    ∙ sym (length-patched c.self.inside.holes.items c.self.inside.bytes.items)
    ∙ ap length c.self.view_is
