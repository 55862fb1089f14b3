use Rattle.std.proofs.Common.{◌∙◌, sym}
use Rattle.capn_walk.proofs.Stepped.{numbers-paid, numbers-stop, numbers-fault}
use Rattle.capn_walk.proofs.survey_visit.visit_numbers.Goals as goal

pub returns-in-Ok-clause-visits : goal.returns-in-Ok-clause-visits
returns-in-Ok-clause-visits g c =
    let m = c.args.space.now in
    let n = sym c.near.ensures.near ∙ c.in-Ok.is in
    numbers-paid m c.args.base c.args.at c.args.depth c.args.left c.args.pointer c.in-Ok.target c.requires.numbers n
    c.requires.pointer c.price_within.result c.price_within.ensures.found c.price_within.ensures.price

pub returns-in-Ok-clause-refused : goal.returns-in-Ok-clause-refused
returns-in-Ok-clause-refused g c =
    let m = c.args.space.now in
    let n = sym c.near.ensures.near ∙ c.in-Ok.is in
    numbers-stop m c.args.base c.args.at c.args.depth c.args.left c.args.pointer c.in-Ok.target n c.requires.pointer
    c.price_within.result c.price_within.ensures.found

pub returns-in-Err-clause-refused : goal.returns-in-Err-clause-refused
returns-in-Err-clause-refused g c =
    let m = c.args.space.now in
    let n = sym c.near.ensures.near ∙ c.in-Err.is in
    numbers-fault m c.args.base c.args.at c.args.depth c.args.left c.args.pointer c.in-Err.fault n c.requires.pointer
