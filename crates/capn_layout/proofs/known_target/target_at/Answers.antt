use Rattle.std.proofs.Common.{rules, ◌≡◌, ℕ, Bool, Ok, ap, sym, ◌∙◌}
use Rattle.std.proofs.Common.{arith, w32}
use Rattle.std.proofs.lemmas.Int.{to_z-of_z}
use Rattle.std.specs.Int.RustNames.{FitsSigned}
use Rattle.capn_words.specs.Pointers.{pointer_of}
use Rattle.capn_words.specs.declared.pointer.Pointer.TheVariants.{Many, Far}
use Rattle.capn_words.specs.declared.pointer.Width.{Width}
use Rattle.capn_target.specs.Target.{content_start}
use Rattle.capn_target.specs.declared.target.Target.TheVariants as targets
use Rattle.capn_target.specs.declared.target.Shape.TheVariants as shapes
use Rattle.capn_target.proofs.shared.Segments.{segment-room}
use Rattle.capn_target.proofs.shared.Present.{present}
use Rattle.capn_layout.proofs.writer.FoundNear.{near-null, near-struct, near-list, near-rows, rows-start}
use Rattle.capn_layout.proofs.writer.FoundNear.{has-segment, not-composite, behind-one, behind-two}
use Rattle.capn_layout.proofs.writer.FoundNear.{named-cap, never-reserved}
use Rattle.capn_layout.proofs.known_target.target_at.Goals as goal

pub returns-in-Nil-clause-found : goal.returns-in-Nil-clause-found
returns-in-Nil-clause-found g c =
    near-null c.args.space.now c.args.at c.requires.found.0 c.requires.found.1
    (ap pointer_of (sym c.word.ensures.word) ∙ sym c.split.ensures.read ∙ c.in-Nil.is)

pub start_of-requires : goal.start_of-requires
start_of-requires g c =
    let m = c.args.space.now in
    let x = c.in-Node in
    let fits : FitsSigned w32 x.offset = search rules in
    let z = to_z-of_z w32 x.offset fits in
    let f = near-struct m c.args.at c.requires.found.0 c.requires.found.1 x.offset x.words x.slots
    (ap pointer_of (sym c.word.ensures.word) ∙ sym c.split.ensures.read ∙ x.is) in
    let i = f.inside in
    let r = segment-room m c.args.at.segment c.requires.message
    (present m c.args.at c.args.at.segment f.start 0 (shapes.Node x.words x.slots) c.requires.place f.is) in
    (f.start, ap (content_start c.args.at.word) z ∙ f.moved_to, omega arith)

pub returns-in-Node-clause-found : goal.returns-in-Node-clause-found
returns-in-Node-clause-found g c =
    let m = c.args.space.now in
    let x = c.in-Node in
    let fits : FitsSigned w32 x.offset = search rules in
    let z = to_z-of_z w32 x.offset fits in
    let f = near-struct m c.args.at c.requires.found.0 c.requires.found.1 x.offset x.words x.slots
    (ap pointer_of (sym c.word.ensures.word) ∙ sym c.split.ensures.read ∙ x.is) in
    let e = sym c.start_of.ensures ∙ ap (content_start c.args.at.word) z ∙ f.moved_to in
    let same : f.start ≡ c.start_of.result = cc in
    f.is ∙ ap (λ (s : ℕ). Ok (targets.Content c.args.at.segment s (shapes.Node x.words x.slots) 0)) same

pub start_of-requires-in_default : goal.start_of-requires-in_default
start_of-requires-in_default g c =
    let m = c.args.space.now in
    let x = c.in-Many in
    let fits : FitsSigned w32 x.offset = search rules in
    let z = to_z-of_z w32 x.offset fits in
    let f = near-list m c.args.at c.requires.found.0 c.requires.found.1 x.offset x.width x.count
    (not-composite x.width c.in_default.not-Rows) (ap pointer_of (sym c.word.ensures.word)
    ∙ sym c.split.ensures.read ∙ x.is) in
    let i = f.inside in
    let r = segment-room m c.args.at.segment c.requires.message
    (present m c.args.at c.args.at.segment f.start 0 (shapes.Many x.width x.count) c.requires.place f.is) in
    (f.start, ap (content_start c.args.at.word) z ∙ f.moved_to, omega arith)

pub returns-in_default-clause-found : goal.returns-in_default-clause-found
returns-in_default-clause-found g c =
    let m = c.args.space.now in
    let x = c.in-Many in
    let fits : FitsSigned w32 x.offset = search rules in
    let z = to_z-of_z w32 x.offset fits in
    let f = near-list m c.args.at c.requires.found.0 c.requires.found.1 x.offset x.width x.count
    (not-composite x.width c.in_default.not-Rows) (ap pointer_of (sym c.word.ensures.word)
    ∙ sym c.split.ensures.read ∙ x.is) in
    let e = sym c.start_of-in_default.ensures ∙ ap (content_start c.args.at.word) z ∙ f.moved_to in
    let same : f.start ≡ c.start_of-in_default.result = cc in
    f.is ∙ ap (λ (s : ℕ). Ok (targets.Content c.args.at.segment s (shapes.Many x.width x.count) 0)) same

pub start_of-requires-in-Rows : goal.start_of-requires-in-Rows
start_of-requires-in-Rows g c =
    let m = c.args.space.now in
    let x = c.in-Many in
    let fits : FitsSigned w32 x.offset = search rules in
    let z = to_z-of_z w32 x.offset fits in
    let f = rows-start m c.args.at c.requires.found.0 c.requires.found.1 x.offset x.count
    (ap pointer_of (sym c.word.ensures.word) ∙ sym c.split.ensures.read ∙ x.is
    ∙ ap (λ (k : Width). Many x.offset k x.count) c.in-Rows.is) in
    let i = f.2 in
    let r = segment-room m c.args.at.segment c.requires.message
    (has-segment m c.args.at.segment f.0 f.2) in
    (f.0, ap (content_start c.args.at.word) z ∙ f.1, omega arith)

pub rows_of-requires : goal.rows_of-requires
rows_of-requires g c =
    let m = c.args.space.now in
    let x = c.in-Many in
    let fits : FitsSigned w32 x.offset = search rules in
    let z = to_z-of_z w32 x.offset fits in
    let f = near-rows m c.args.at c.requires.found.0 c.requires.found.1 x.offset x.count c.start_of-in-Rows.result
    (ap pointer_of (sym c.word.ensures.word) ∙ sym c.split.ensures.read ∙ x.is
    ∙ ap (λ (k : Width). Many x.offset k x.count) c.in-Rows.is)
    (sym (ap (content_start c.args.at.word) z) ∙ c.start_of-in-Rows.ensures) in
    record { found = (c.requires.found.0, sym f ∙ c.requires.found.1) }

pub returns-in-Rows-clause-found : goal.returns-in-Rows-clause-found
returns-in-Rows-clause-found g c =
    let m = c.args.space.now in
    let x = c.in-Many in
    let fits : FitsSigned w32 x.offset = search rules in
    let z = to_z-of_z w32 x.offset fits in
    let f = near-rows m c.args.at c.requires.found.0 c.requires.found.1 x.offset x.count c.start_of-in-Rows.result
    (ap pointer_of (sym c.word.ensures.word) ∙ sym c.split.ensures.read ∙ x.is
    ∙ ap (λ (k : Width). Many x.offset k x.count) c.in-Rows.is)
    (sym (ap (content_start c.args.at.word) z) ∙ c.start_of-in-Rows.ensures) in
    f ∙ c.rows_of.ensures.found

pub behind_one-requires-clause-found : goal.behind_one-requires-clause-found
behind_one-requires-clause-found g c =
    let x = c.in-Far-false-default-default in
    let f = behind-one c.args.space.now c.args.at c.requires.found.0 c.requires.found.1 x.word x.segment
    (ap pointer_of (sym c.word.ensures.word) ∙ sym c.split.ensures.read ∙ x.is
    ∙ ap (λ (b : Bool). Far b x.word x.segment) x.double-test) in
    (c.requires.found.0, sym f ∙ c.requires.found.1)

pub returns-in-Far-false-default-default-clause-found : goal.returns-in-Far-false-default-default-clause-found
returns-in-Far-false-default-default-clause-found g c =
    let x = c.in-Far-false-default-default in
    let f = behind-one c.args.space.now c.args.at c.requires.found.0 c.requires.found.1 x.word x.segment
    (ap pointer_of (sym c.word.ensures.word) ∙ sym c.split.ensures.read ∙ x.is
    ∙ ap (λ (b : Bool). Far b x.word x.segment) x.double-test) in
    f ∙ c.behind_one.ensures.found

pub behind_two-requires : goal.behind_two-requires
behind_two-requires g c =
    let x = c.in-Far-true-default-default in
    let f = behind-two c.args.space.now c.args.at c.requires.found.0 c.requires.found.1 x.word x.segment
    (ap pointer_of (sym c.word.ensures.word) ∙ sym c.split.ensures.read ∙ x.is
    ∙ ap (λ (b : Bool). Far b x.word x.segment) x.double-test) in
    record { found = (c.requires.found.0, sym f ∙ c.requires.found.1) }

pub returns-in-Far-true-default-default-clause-found : goal.returns-in-Far-true-default-default-clause-found
returns-in-Far-true-default-default-clause-found g c =
    let x = c.in-Far-true-default-default in
    let f = behind-two c.args.space.now c.args.at c.requires.found.0 c.requires.found.1 x.word x.segment
    (ap pointer_of (sym c.word.ensures.word) ∙ sym c.split.ensures.read ∙ x.is
    ∙ ap (λ (b : Bool). Far b x.word x.segment) x.double-test) in
    f ∙ c.behind_two.ensures.found

pub returns-in-Cap-clause-found : goal.returns-in-Cap-clause-found
returns-in-Cap-clause-found g c =
    named-cap c.args.space.now c.args.at c.requires.found.0 c.requires.found.1 c.in-Cap.index
    (ap pointer_of (sym c.word.ensures.word) ∙ sym c.split.ensures.read ∙ c.in-Cap.is)

pub unreachable-requires : goal.unreachable-requires
unreachable-requires g c =
    absurd (never-reserved c.args.space.now c.args.at c.requires.found.0 c.requires.found.1 _
    (ap pointer_of (sym c.word.ensures.word) ∙ sym c.split.ensures.read ∙ c.in-Reserved.is))
