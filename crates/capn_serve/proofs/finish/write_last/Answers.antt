use Rattle.std.proofs.Common.{Err, sym, subst}
use Rattle.capn_words.specs.Watched.{inner_of, has_failed}
use Rattle.capn_serve.specs.Finish.{PutsLast, finish_of, last_text}
use Rattle.capn_serve.specs.declared.fault.RunFault.{RunFault}
use Rattle.capn_serve.specs.inner.Last.{IsFineIfLast}
use Rattle.capn_serve.proofs.shared.Finishes.{Ending}
use Rattle.capn_serve.proofs.finish.write_last.Goals as goal

pub write_closing-requires : goal.write_closing-requires
write_closing-requires g c = record {
  fine = subst (λ (r : Ending). IsFineIfLast r (has_failed c.args.writer.now)) c.in-Ok.is c.requires;
}

pub write_told-requires : goal.write_told-requires
write_told-requires g c = record {
  fine = subst (λ (e : RunFault). IsFineIfLast (Err e) (has_failed c.args.writer.now)) c.in-Refused.is
      (subst (λ (r : Ending). IsFineIfLast r (has_failed c.args.writer.now)) c.in-Err.is c.requires);
}

pub returns-in-Ok : goal.returns-in-Ok
returns-in-Ok g c =
    let f = g.S.Finish in
    subst (λ (r : Ending). PutsLast r (last_text (finish_of f.closing f.told f.outcome f.stops) r c.args.run.now
    c.args.begun.now) (g.W.Write.contents (inner_of c.args.writer.now))
    (g.W.Write.contents (inner_of c.write_closing.new.writer)) (has_failed c.args.writer.now)
    (has_failed c.write_closing.new.writer) c.write_closing.result) (sym c.in-Ok.is) c.write_closing.ensures

pub returns-in-Refused : goal.returns-in-Refused
returns-in-Refused g c =
    let f = g.S.Finish in
    subst (λ (r : Ending). PutsLast r (last_text (finish_of f.closing f.told f.outcome f.stops) r c.args.run.now
    c.args.begun.now) (g.W.Write.contents (inner_of c.args.writer.now))
    (g.W.Write.contents (inner_of c.write_told.new.writer)) (has_failed c.args.writer.now)
    (has_failed c.write_told.new.writer) c.write_told.result) (sym c.in-Err.is)
    (subst (λ (e : RunFault). PutsLast (Err e) (last_text (finish_of f.closing f.told f.outcome f.stops) (Err e)
    c.args.run.now c.args.begun.now) (g.W.Write.contents (inner_of c.args.writer.now))
    (g.W.Write.contents (inner_of c.write_told.new.writer)) (has_failed c.args.writer.now)
    (has_failed c.write_told.new.writer) c.write_told.result) (sym c.in-Refused.is) c.write_told.ensures)
