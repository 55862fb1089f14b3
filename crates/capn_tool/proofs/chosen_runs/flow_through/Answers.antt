use Rattle.capn_tool.proofs.chosen_runs.flow_through.Goals as goal

pub returns-in-Pack : goal.returns-in-Pack
returns-in-Pack g c = rw c.in-Pack.is c.pack_stream.ensures

pub returns-in-Unpack : goal.returns-in-Unpack
returns-in-Unpack g c = rw c.in-Unpack.is c.unpack_stream.ensures
