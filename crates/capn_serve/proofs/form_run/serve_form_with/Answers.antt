use Rattle.std.proofs.Common.{IfErr, IfSome, sym, subst}
use Rattle.capn_words.specs.Watched.{inner_of, has_failed}
use Rattle.capn_canon.specs.declared.form.Form.{Form}
use Rattle.capn_serve.specs.Fold.{fold_until}
use Rattle.capn_serve.specs.FormRun.{ServesMessages}
use Rattle.capn_serve.specs.WhatCame.{TellsInput}
use Rattle.capn_serve.proofs.EachForm.{came_bare, serves_bare, serves_packed, serves_stream}
use Rattle.capn_serve.proofs.form_run.serve_form_with.Goals as goal

pub returns-in-Stream-clause-serves : goal.returns-in-Stream-clause-serves
returns-in-Stream-clause-serves g c =
    subst (λ (form : Form). ServesMessages (fold_until g.S.Service.serves g.S.Service.refuses g.S.Service.done
    c.args.most) c.args.run.now form (g.R.Read.remaining (inner_of c.args.reader.now))
    (g.R.Read.remaining (inner_of c.stream_into-served.new.reader)) (g.W.Write.contents (inner_of c.args.writer.now))
    (g.W.Write.contents (inner_of c.stream_into-served.new.writer))
    (has_failed c.stream_into-served.new.reader) (has_failed c.stream_into-served.new.writer)
    c.stream_into-served.result c.stream_into-served.new.run) (sym c.in-Stream.is)
    (serves_stream (fold_until g.S.Service.serves g.S.Service.refuses g.S.Service.done c.args.most) c.args.run.now
    (g.R.Read.remaining (inner_of c.args.reader.now)) (g.R.Read.remaining (inner_of c.stream_into-served.new.reader))
    (g.W.Write.contents (inner_of c.args.writer.now)) (g.W.Write.contents (inner_of c.stream_into-served.new.writer))
    (has_failed c.stream_into-served.new.reader) (has_failed c.stream_into-served.new.writer)
    c.stream_into-served.result c.stream_into-served.new.run c.stream_into-served.ensures.runs)

pub returns-in-Packed-clause-serves : goal.returns-in-Packed-clause-serves
returns-in-Packed-clause-serves g c =
    subst (λ (form : Form). ServesMessages (fold_until g.S.Service.serves g.S.Service.refuses g.S.Service.done
    c.args.most) c.args.run.now form (g.R.Read.remaining (inner_of c.args.reader.now))
    (g.R.Read.remaining (inner_of c.packed_into-served.new.reader)) (g.W.Write.contents (inner_of c.args.writer.now))
    (g.W.Write.contents (inner_of c.packed_into-served.new.writer))
    (has_failed c.packed_into-served.new.reader) (has_failed c.packed_into-served.new.writer)
    c.packed_into-served.result c.packed_into-served.new.run) (sym c.in-Packed.is)
    (serves_packed (fold_until g.S.Service.serves g.S.Service.refuses g.S.Service.done c.args.most) c.args.run.now
    (g.R.Read.remaining (inner_of c.args.reader.now)) (g.R.Read.remaining (inner_of c.packed_into-served.new.reader))
    (g.W.Write.contents (inner_of c.args.writer.now)) (g.W.Write.contents (inner_of c.packed_into-served.new.writer))
    (has_failed c.packed_into-served.new.reader) (has_failed c.packed_into-served.new.writer)
    c.packed_into-served.result c.packed_into-served.new.run c.packed_into-served.ensures.runs)

pub returns-in-Bare-clause-serves : goal.returns-in-Bare-clause-serves
returns-in-Bare-clause-serves g c =
    subst (λ (form : Form). ServesMessages (fold_until g.S.Service.serves g.S.Service.refuses g.S.Service.done
    c.args.most) c.args.run.now
    form (g.R.Read.remaining (inner_of c.args.reader.now)) (g.R.Read.remaining (inner_of c.run_bare.new.reader))
    (g.W.Write.contents (inner_of c.args.writer.now)) (g.W.Write.contents (inner_of c.run_bare.new.writer))
    (has_failed c.run_bare.new.reader) (has_failed c.run_bare.new.writer) c.run_bare.result c.run_bare.new.run)
    (sym c.in-Bare.is)
    (serves_bare (fold_until g.S.Service.serves g.S.Service.refuses g.S.Service.done c.args.most) c.args.run.now
    (g.R.Read.remaining (inner_of c.args.reader.now)) (g.R.Read.remaining (inner_of c.run_bare.new.reader))
    (g.W.Write.contents (inner_of c.args.writer.now)) (g.W.Write.contents (inner_of c.run_bare.new.writer))
    (has_failed c.run_bare.new.reader) (has_failed c.run_bare.new.writer) c.run_bare.result c.run_bare.new.run
    (c.run_bare.ensures c.args.most))

-- ---- the bytes that are held of the last message

pub returns-in-Stream-clause-came : goal.returns-in-Stream-clause-came
returns-in-Stream-clause-came g c =
    subst (λ (form : Form). IfSome (g.R.Read.remaining (inner_of c.args.reader.now)) (λ input.
    IfErr c.stream_into-served.result
    (λ e. TellsInput (fold_until g.S.Service.serves g.S.Service.refuses g.S.Service.done c.args.most) c.args.run.now
    form input e (record { rest = c.stream_into-served.new.framer.rest; group = c.new-unpacker.result.rest })
    c.stream_into-served.new.run))) (sym c.in-Stream.is) c.stream_into-served.ensures.came

pub returns-in-Packed-clause-came : goal.returns-in-Packed-clause-came
returns-in-Packed-clause-came g c =
    subst (λ (form : Form). IfSome (g.R.Read.remaining (inner_of c.args.reader.now)) (λ input.
    IfErr c.packed_into-served.result
    (λ e. TellsInput (fold_until g.S.Service.serves g.S.Service.refuses g.S.Service.done c.args.most) c.args.run.now
    form input e
    (record {
      rest = c.packed_into-served.new.packed.framer.rest;
      group = c.packed_into-served.new.packed.unpacker.rest;
    }) c.packed_into-served.new.run))) (sym c.in-Packed.is) c.packed_into-served.ensures.came

pub returns-in-Bare-clause-came : goal.returns-in-Bare-clause-came
returns-in-Bare-clause-came g c =
    subst (λ (form : Form). IfSome (g.R.Read.remaining (inner_of c.args.reader.now)) (λ input. IfErr c.run_bare.result
    (λ e. TellsInput (fold_until g.S.Service.serves g.S.Service.refuses g.S.Service.done c.args.most) c.args.run.now
    form input e c.args.begun.now c.run_bare.new.run))) (sym c.in-Bare.is)
    (came_bare (g.R.Read.remaining (inner_of c.args.reader.now)) c.run_bare.result)
