use Rattle.std.proofs.Common.{◌∙◌, inr, Ok, Err, refl, sym}
use Rattle.std.proofs.lemmas.Result.{err_from_is_err_and}
use Rattle.capn_tool.proofs.part_run.show_parts.Goals as goal

pub returns-in-Some : goal.returns-in-Some
returns-in-Some g c path is =
    rw (sym c.one_frame.ensures ∙ c.in-Some.is)
    (inr (record {
      service = _;
      follows = record {
        numbers = c.deref.ensures.value ∙ c.in_ok-path.ensures.found path is;
        form = refl;
        limits = refl;
        style = refl;
        offsets = refl;
        ways = refl;
      };
      shown = rw c.message_words-most.ensures.value at c.serve_one.ensures;
    }))

pub returns-in_err-run_show-in-None : goal.returns-in_err-run_show-in-None
returns-in_err-run_show-in-None g c path is =
    let p = err_from_is_err_and c.from_residual-in_err-run_show-in-None.result
    c.from_residual-in_err-run_show-in-None.ensures.1 in
    rw (sym c.one_frame.ensures ∙ c.in-None.is, p.1, p.2)
    (inr (record {
      service = _;
      follows = record {
        numbers = c.deref.ensures.value ∙ c.in_ok-path.ensures.found path is;
        form = refl;
        limits = refl;
        style = refl;
        offsets = refl;
        ways = refl;
      };
      ending = Err c.in_err-run_show-in-None.field-0.0;
      shown = c.in_err-run_show-in-None.ensures;
      is = refl;
    }))

pub returns : goal.returns
returns g c path is =
    rw (sym c.one_frame.ensures ∙ c.in-None.is)
    (inr (record {
      service = _;
      follows = record {
        numbers = c.deref.ensures.value ∙ c.in_ok-path.ensures.found path is;
        form = refl;
        limits = refl;
        style = refl;
        offsets = refl;
        ways = refl;
      };
      ending = Ok tt;
      shown = c.in_ok-run_show-in-None.ensures;
      is = refl;
    }))
