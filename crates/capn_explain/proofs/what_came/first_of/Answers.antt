use Rattle.std.proofs.Common.{sym}
use Rattle.capn_explain.proofs.Zeros.{eight}
use Rattle.capn_explain.proofs.what_came.first_of.Goals as goal

pub returns : goal.returns
returns c =
    rw (
      c.entry_at.ensures,
      c.entry_at-2.ensures,
      c.entry_at-3.ensures,
      c.entry_at-4.ensures,
      c.entry_at-5.ensures,
      c.entry_at-6.ensures,
      c.entry_at-7.ensures,
      c.entry_at-8.ensures,
    ) (sym (eight c.args.sizes.now))
