use Rattle.std.proofs.Common.{◌≡◌, ◌++◌, sym, ap, ◌∙◌}
use Rattle.capn_text.proofs.PlainLines.{bytes_lines}
use Rattle.capn_text.proofs.plain_form.push_bytes.Goals as goal

pub returns : goal.returns
returns g c =
    rw (
      c.in_ok-push.ensures.items,
      c.in_ok-push_digits.ensures,
      c.in_ok-push_indent-2.ensures,
      c.in_ok-push_number.ensures,
      c.in_ok-extend_from_slice.ensures.items,
      c.in_ok-push_indent.ensures,
    ) (bytes_lines c.args.out.now.items c.args.level c.args.bytes.now c.requires.some)
