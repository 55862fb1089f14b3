use Rattle.std.proofs.Common.{◌≡◌, ◌⊎◌, List, ℕ, take, refl, subst, sym}
use Rattle.std.proofs.lemmas.Result.{err_from_is_err_and}
use Rattle.capn_stream.specs.Frames.{StandsFirst}
use Rattle.capn_stream.specs.StreamPieces.{IsFrame, IsUnfinished}
use Rattle.capn_stream.specs.declared.fault.FrameFault.TheVariants as frame_faults
use Rattle.capn_words.specs.Watched.{inner_of, has_failed}
use Rattle.capn_serve.specs.Fold.{fold_until}
use Rattle.capn_serve.specs.Outgoing.{outgoing}
use Rattle.capn_serve.proofs.Next.{held_frame, held_passed, held_some, held_stop, held_whole}
use Rattle.capn_serve.proofs.Holding.{adds_fault, pass_fault}
use Rattle.capn_serve.proofs.stream.serve_held.Goals as goal

whole : (held rest : List ℕ) (most : ℕ) (message : List (List ℕ)) (taken : ℕ) → held ≡ rest
    → StandsFirst held most message taken → IsFrame rest most ⊎ IsUnfinished rest most
    → ((m : List (List ℕ)) (t : ℕ) → StandsFirst held most m t → (message ≡ m) × (taken ≡ t)) → take taken held ≡ rest
whole held rest most message taken same first is only =
    subst (λ (p : List ℕ). take taken held ≡ p) same
    (held_whole held most message taken first
    (subst (λ (p : List ℕ). IsFrame p most ⊎ IsUnfinished p most) (sym same) is) only)

pub returns-in_err-add_framed-in-Ok-clause-served : goal.returns-in_err-add_framed-in-Ok-clause-served
returns-in_err-add_framed-in-Ok-clause-served g c =
    let p = err_from_is_err_and c.from_residual.result c.from_residual.ensures.1 in
    let found = c.in-Ok.ensures.found in
    let all = whole _ c.args.framer.now.rest c.args.most _ c.in-Ok.taken c.held-held.ensures found c.requires.held
    c.in-Ok.ensures.only in
    rw (p.1, p.2)
    (held_stop (fold_until g.S.Service.serves g.S.Service.refuses g.S.Service.done c.args.most) c.args.run.now
    c.args.framer.now
    c.requires.good c.requires.same c.add_framed.new.run _ _ _ _ _ c.in_err-add_framed-in-Ok.field-0.0 all found.frame
    found.room c.requires.going (c.in_err-add_framed-in-Ok.ensures c.args.most))

pub returns-in-Err-clause-served : goal.returns-in-Err-clause-served
returns-in-Err-clause-served g c =
    held_passed (fold_until g.S.Service.serves g.S.Service.refuses g.S.Service.done c.args.most) c.args.run.now
    c.args.framer.now
    c.requires.good c.requires.same c.args.most _ _ c.in-Err.fault c.pass.result refl c.requires.can.fine
    c.requires.held
    (subst (λ (p : List ℕ). (m : List (List ℕ)) (t : ℕ) → StandsFirst p c.args.most m t
    → c.in-Err.fault ≡ frame_faults.Memory) c.held-held.ensures c.in-Err.ensures.only) c.pass.ensures

pub clear-requires-clause-whole : goal.clear-requires-clause-whole
clear-requires-clause-whole g c =
    let found = c.in-Ok.ensures.found in
    let all = whole _ c.args.framer.now.rest c.args.most _ c.in-Ok.taken c.held-held.ensures found c.requires.held
    c.in-Ok.ensures.only in
    let is : c.held-held.result.now ≡ c.args.framer.now.rest = c.held-held.ensures in
    let first = subst (λ (p : List ℕ). StandsFirst p c.args.most c.in-Ok.message c.in-Ok.taken) is found in
    held_frame c.args.framer.now.rest c.args.most c.args.framer.now.most c.in-Ok.message c.in-Ok.taken first
    (subst (λ (p : List ℕ). take c.in-Ok.taken p ≡ c.args.framer.now.rest) c.held-held.ensures all) c.requires.same

pub returns-clause-served : goal.returns-clause-served
returns-clause-served g c =
    let found = c.in-Ok.ensures.found in
    let all = whole _ c.args.framer.now.rest c.args.most _ c.in-Ok.taken c.held-held.ensures found c.requires.held
    c.in-Ok.ensures.only in
    held_some (fold_until g.S.Service.serves g.S.Service.refuses g.S.Service.done c.args.most) c.args.run.now
    c.args.framer.now c.requires.good c.requires.same c.add_framed.new.run c.clear.new.framer _ c.in-Ok.message _ _ _
    c.in_ok-add_framed-in-Ok.field-0 all found.frame found.room c.requires.going
    (c.in_ok-add_framed-in-Ok.ensures c.args.most) c.clear.ensures

pub returns-in_err-add_framed-in-Ok-clause-came : goal.returns-in_err-add_framed-in-Ok-clause-came
returns-in_err-add_framed-in-Ok-clause-came g c =
    let p = err_from_is_err_and c.from_residual.result c.from_residual.ensures.1 in
    rw (p.1, p.2)
    (adds_fault (fold_until g.S.Service.serves g.S.Service.refuses g.S.Service.done c.args.most) c.args.run.now
    (take c.in-Ok.taken c.held-held.result.now) c.in-Ok.message
    (outgoing (g.W.Write.contents (inner_of c.args.writer.now)) c.args.text.now.items)
    (outgoing (g.W.Write.contents (inner_of c.add_framed.new.writer)) c.add_framed.new.text.items)
    (has_failed c.add_framed.new.writer) c.in_err-add_framed-in-Ok.field-0.0 c.add_framed.new.run
    (c.in_err-add_framed-in-Ok.ensures c.args.most))

pub returns-in-Err-clause-came : goal.returns-in-Err-clause-came
returns-in-Err-clause-came g c =
    pass_fault (fold_until g.S.Service.serves g.S.Service.refuses g.S.Service.done c.args.most) c.in-Err.fault
    c.pass.result c.pass.ensures
