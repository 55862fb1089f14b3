use Rattle.std.proofs.Common.{◌+◌, Result, Ok, refl, ap, sym, ◌∙◌}
use Rattle.capn_target.specs.declared.target.Target.{Target}
use Rattle.capn_target.specs.declared.target.Fault.{Fault}
use Rattle.capn_cover.specs.Cuts.{is_cut_of}
use Rattle.capn_cover.proofs.Marks.{marked-rows, marked-none}
use Rattle.capn_cover.proofs.cut_words.cut_object.Goals as goal

pub returns-in-Node : goal.returns-in-Node
returns-in-Node g c =
    let m = g.S.Space.message c.args.space.now in
    let x = c.in-Content in
    let n = c.in-Node in
    let e = sym c.resolve.ensures.exact ∙ c.in-Ok.is ∙ ap Ok x.is in
    let f = rw n.is at e in
    marked-rows m c.args.at c.args.slot c.requires.slot c.args.cells.now _ c.requires.fresh x.segment x.start n.words
    n.slots 1 (λ role v. ap (λ (r : Result Target Fault). is_cut_of m r role v) f) c.cut_rows.ensures

pub returns-in-Rows : goal.returns-in-Rows
returns-in-Rows g c =
    let m = g.S.Space.message c.args.space.now in
    let x = c.in-Content in
    let n = c.in-Rows in
    let e = sym c.resolve.ensures.exact ∙ c.in-Ok.is ∙ ap Ok x.is in
    let f = rw n.is at e in
    marked-rows m c.args.at c.args.slot c.requires.slot c.args.cells.now _ c.requires.fresh x.segment (x.start + 1)
    n.words n.slots n.count (λ role v. ap (λ (r : Result Target Fault). is_cut_of m r role v) f)
    c.cut_rows-in-Rows.ensures

pub returns-in-Many : goal.returns-in-Many
returns-in-Many g c =
    let m = g.S.Space.message c.args.space.now in
    let e = sym c.resolve.ensures.exact ∙ c.in-Ok.is ∙ ap Ok c.in-Content.is in
    let f = rw c.in-Many.is at e in
    marked-none m c.args.at c.args.slot c.requires.slot c.args.cells.now _ c.requires.fresh
    (λ role v. ap (λ (r : Result Target Fault). is_cut_of m r role v) f) refl

pub returns-in-Nil : goal.returns-in-Nil
returns-in-Nil g c =
    let m = g.S.Space.message c.args.space.now in
    let e = sym c.resolve.ensures.exact ∙ c.in-Ok.is ∙ ap Ok c.in-Nil.is in
    marked-none m c.args.at c.args.slot c.requires.slot c.args.cells.now _ c.requires.fresh
    (λ role v. ap (λ (r : Result Target Fault). is_cut_of m r role v) e) refl

pub returns-in-Cap : goal.returns-in-Cap
returns-in-Cap g c =
    let m = g.S.Space.message c.args.space.now in
    let e = sym c.resolve.ensures.exact ∙ c.in-Ok.is ∙ ap Ok c.in-Cap.is in
    marked-none m c.args.at c.args.slot c.requires.slot c.args.cells.now _ c.requires.fresh
    (λ role v. ap (λ (r : Result Target Fault). is_cut_of m r role v) e) refl

pub returns-in-Err : goal.returns-in-Err
returns-in-Err g c =
    let m = g.S.Space.message c.args.space.now in
    let e = sym c.resolve.ensures.exact ∙ c.in-Err.is in
    marked-none m c.args.at c.args.slot c.requires.slot c.args.cells.now _ c.requires.fresh
    (λ role v. ap (λ (r : Result Target Fault). is_cut_of m r role v) e) refl
