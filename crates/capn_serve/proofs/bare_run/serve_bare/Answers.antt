use Rattle.std.proofs.Common.{◌∷◌, inl, inr, ℕ, List, [], Bool, Result, Ok, Err, refl}
use Rattle.capn_words.specs.Message.{IsBare}
use Rattle.capn_words.specs.Watched.{inner_of, has_failed}
use Rattle.capn_serve.specs.BareRun.{ServesBare}
use Rattle.capn_serve.specs.ChunkRun.{AddsMessage}
use Rattle.capn_serve.specs.declared.fault.RunFault.{RunFault}
use Rattle.capn_serve.specs.Fold.{Fold, fold_until}
use Rattle.capn_serve.specs.Outgoing.{Outgoing, outgoing}
use Rattle.capn_serve.proofs.Sends.{adds_none}
use Rattle.capn_serve.proofs.bare_run.serve_bare.Goals as goal

added : {X : Type 0} (f : Fold X) (x y : X) (bytes words : List ℕ) (a b : Outgoing) (failed : Bool)
    (r : Result (Unit {0}) RunFault) → IsBare bytes words → AddsMessage f x bytes (words ∷ []) a b failed r y
    → ServesBare f x bytes a b failed r y
added f x y bytes words a b failed (Ok u) bare adds = (words, bare, adds)
added f x y bytes words a b failed (Err e) bare adds = inl (words, bare, adds)

pub returns-in-Ok : goal.returns-in-Ok
returns-in-Ok g c most =
    added (fold_until g.S.Service.serves g.S.Service.refuses g.S.Service.done most) c.args.run.now
    c.add_message.new.run c.args.bytes.now c.in-Ok.message
    (outgoing (g.W.Write.contents (inner_of c.args.writer.now)) c.args.text.now.items)
    (outgoing (g.W.Write.contents (inner_of c.add_message.new.writer)) c.add_message.new.text.items)
    (has_failed c.add_message.new.writer) c.add_message.result c.in-Ok.ensures.exact (c.add_message.ensures most)

pub returns-in-Err : goal.returns-in-Err
returns-in-Err g c most = inr ((c.in-Err.fault, refl, c.in-Err.ensures.exact), adds_none _, c.requires.fine, refl)
