use Rattle.std.proofs.Common.{codes}
use Rattle.std.specs.Fmt.{decimal}
use Rattle.capn_archive.specs.Lines.{capability_text}
use Rattle.capn_archive.proofs.LineParts.{before, both_before}
use Rattle.capn_archive.proofs.line.put_measured.Goals as goal

pub returns-clause-measured : goal.returns-clause-measured
returns-clause-measured g c =
    let f = c.args.measured.now in
    let old = c.args.line.now in
    let canonical = before (codes " canonical ") _ old _ c.put.new.self c.put_answer.ensures.answer c.put.ensures in
    let index = before (capability_text f.survey.capability) _ old _ c.put_capability.new.line canonical
    c.put_capability.ensures.capability in
    let capability = before (codes " capability ") _ old _ c.put-2.new.self index c.put-2.ensures in
    let depth = both_before (codes " depth ") (decimal f.depth) _ old _ c.put_named.new.self capability
    c.put_named.ensures.named in
    let visits = both_before (codes " visits ") (decimal f.survey.visits) _ old _ c.put_named-2.new.self depth
    c.put_named-2.ensures.named in
    both_before (codes "paid ") (decimal f.survey.paid) _ old _ c.put_named-3.new.self visits
    c.put_named-3.ensures.named
