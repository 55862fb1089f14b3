use Rattle.std.proofs.Common.{ℕ}
use Rattle.capn_words.specs.Watched.{inner_of, has_failed}
use Rattle.capn_serve.specs.Fold.{fold_until}
use Rattle.capn_serve.specs.StreamRun.{first_run}
use Rattle.capn_serve.proofs.shared.AfterMessages.{of_order, told_of_order}
use Rattle.capn_serve.proofs.shared.Finishes.{fine_if_last}
use Rattle.capn_serve.proofs.finish.run_messages.Goals as goal

pub write_last-put-requires : goal.write_last-put-requires
write_last-put-requires g c =
    fine_if_last c.serve_form_with-served.result (has_failed c.serve_form_with-served.new.reader)
    (has_failed c.serve_form_with-served.new.writer) c.serve_form_with-served.ensures.serves.io

pub returns : goal.returns
returns g c =
    let served = c.serve_form_with-served in
    record {
      served = served.result;
      last = served.new.run;
      came = served.new.begun;
      middle = g.W.Write.contents (inner_of served.new.writer);
      failed = has_failed served.new.writer;
      loop = of_order (λ (n : ℕ). fold_until g.S.Service.serves g.S.Service.refuses g.S.Service.done n) c.args.form
          c.args.limits.message_words c.message_words-most.result (first_run c.args.service) c.new-run.result
          c.message_words-most.ensures.value c.new-run.ensures (g.R.Read.remaining (inner_of c.args.reader.now))
          (g.R.Read.remaining (inner_of served.new.reader)) (g.W.Write.contents (inner_of c.args.writer.now))
          (g.W.Write.contents (inner_of served.new.writer)) (has_failed served.new.reader)
          (has_failed served.new.writer) served.result served.new.run served.ensures.serves;
      tells = told_of_order (λ (n : ℕ). fold_until g.S.Service.serves g.S.Service.refuses g.S.Service.done n)
          c.args.form c.args.limits.message_words c.message_words-most.result (first_run c.args.service)
          c.new-run.result c.message_words-most.ensures.value c.new-run.ensures
          (g.R.Read.remaining (inner_of c.args.reader.now)) served.result served.new.begun served.new.run
          served.ensures.came;
      put = c.write_last-put.result;
      puts = c.write_last-put.ensures;
      is = c.answer_of.ensures;
    }
