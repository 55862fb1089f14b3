-- The plan of each command: how the command reads its input, and what output it makes. (Our own.)
use Rattle.capn_walk.specs.Limits.{Bounds}
use Rattle.capn_canon.specs.declared.form.Form.{Form}
use Rattle.capn_canon.specs.declared.form.Form.TheVariants as forms
use Rattle.capn_serve.specs.declared.pick.StreamForm.{StreamForm}
use Rattle.capn_serve.specs.declared.pick.StreamForm.TheVariants as streams
use Rattle.capn_commands.specs.declared.command.Command.{Command}
use Rattle.capn_commands.specs.declared.command.Command.TheVariants as commands
use Rattle.capn_commands.specs.declared.plan.MessageText.{MessageText}
use Rattle.capn_commands.specs.declared.plan.MessageText.TheVariants as kinds
use Rattle.capn_commands.specs.declared.plan.Whole.TheVariants as wholes
use Rattle.capn_commands.specs.declared.plan.Plan.{Plan}
use Rattle.capn_commands.specs.declared.plan.Plan.TheVariants as plans

-- The plan that writes the text of the kind `piece` for each message of an input in the given form. A bare input is one
-- message.
abbrev pub pieces_of : MessageText → Form → Bounds → Plan
pieces_of piece forms.Bare limits = plans.Whole (wholes.Bare piece limits)
pieces_of piece forms.Stream limits = plans.Each piece limits
pieces_of piece forms.Packed limits = plans.Packed piece limits

-- The form of an input with the given encoding of a stream.
abbrev pub form_of : StreamForm → Form
form_of streams.Stream = forms.Stream
form_of streams.Packed = forms.Packed

-- The plan that writes the text of the kind `piece` for the one message of an input in the given form.
abbrev pub one_piece_of : MessageText → Form → Bounds → Plan
one_piece_of piece forms.Bare limits = plans.Whole (wholes.Bare piece limits)
one_piece_of piece forms.Stream limits = plans.Whole (wholes.One piece streams.Stream limits)
one_piece_of piece forms.Packed limits = plans.Whole (wholes.One piece streams.Packed limits)

-- The plan of a command.
abbrev pub plan_of : Command → Plan
plan_of (commands.Show form limits) = pieces_of kinds.Text form limits
plan_of (commands.Check form limits) = pieces_of kinds.Price form limits
plan_of (commands.Hash form limits) = pieces_of kinds.Digest form limits
plan_of commands.Pack = plans.Whole wholes.Packed
plan_of (commands.Unpack most) = plans.Whole (wholes.Unpacked most)
plan_of (commands.Canonical form limits) = plans.Whole (wholes.Canonical form limits)
plan_of (commands.One piece form limits) = one_piece_of piece form limits
