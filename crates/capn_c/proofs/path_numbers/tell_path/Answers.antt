-- Except for its length, the report describes the stopped walk.
use Rattle.std.proofs.Common.{◌*◌, length, refl}
use Rattle.capn_c.proofs.PathTold.{but_length}
use Rattle.capn_c.proofs.path_numbers.tell_path.Goals as goal

pub returns-clause-told : goal.returns-clause-told
returns-clause-told c = record {
  reports = but_length c.refuse-status.result (4 * length c.args.path.now) c.refuse-status.new.report c.args.stopped
      c.refuse-status.ensures;
  long = refl;
  placed = c.place_path.ensures;
}
