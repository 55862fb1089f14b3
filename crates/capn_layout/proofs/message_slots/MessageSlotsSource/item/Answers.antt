use Rattle.std.proofs.Common.{◌+◌, Ok, ap, ◌∙◌, arith}
use Rattle.capn_words.specs.declared.space.Place.{Place}
use Rattle.capn_target.proofs.shared.Inside.{inside}
use Rattle.capn_target.proofs.shared.Present.{present}
use Rattle.capn_target.proofs.shared.Ranges.{room-of}
use Rattle.capn_target.proofs.shared.Segments.{segment-room}
use Rattle.capn_layout.proofs.shared.Shaped.{found, null-of, cap-at, inside-of}
use Rattle.capn_layout.proofs.message_slots.MessageSlotsSource.item.Goals as goal

pub overflow_add-at : goal.overflow_add-at
overflow_add-at g c =
    let m = c.args.self.now.space in
    let h = c.requires.1 in
    let all = segment-room m c.args.self.now.start.segment h.message h.exists in
    let p = h.place in
    omega arith

pub target_at-requires-clause-message : goal.target_at-requires-clause-message
target_at-requires-clause-message g c = c.requires.1.message

pub target_at-requires-clause-place : goal.target_at-requires-clause-place
target_at-requires-clause-place g c = c.requires.1.place

pub target_at-requires-clause-found : goal.target_at-requires-clause-found
target_at-requires-clause-found g c =
    found c.args.self.now.space (record {
      segment = c.args.self.now.start.segment;
      word = c.args.self.now.start.word + c.args.slot;
    }) c.requires.0 c.requires.1.at

pub returns-in-Nil-clause-is : goal.returns-in-Nil-clause-is
returns-in-Nil-clause-is g c v h =
    null-of c.args.self.now.space (record {
      segment = c.args.self.now.start.segment;
      word = c.args.self.now.start.word + c.args.slot;
    }) v (c.target_at.ensures.found ∙ ap Ok c.in-Nil.is) h.at

pub returns-in-Cap-clause-is : goal.returns-in-Cap-clause-is
returns-in-Cap-clause-is g c v h =
    cap-at c.args.self.now.space (record {
      segment = c.args.self.now.start.segment;
      word = c.args.self.now.start.word + c.args.slot;
    }) v c.in-Cap.index (c.target_at.ensures.found ∙ ap Ok c.in-Cap.is) h.at

pub item_at-requires-clause-message : goal.item_at-requires-clause-message
item_at-requires-clause-message g c = c.requires.1.message

pub item_at-requires-clause-content : goal.item_at-requires-clause-content
item_at-requires-clause-content g c =
    let m = c.args.self.now.space in
    let at : Place =
    record { segment = c.args.self.now.start.segment; word = c.args.self.now.start.word + c.args.slot } in
    let x = c.in-Content in
    let e = c.target_at.ensures.found ∙ ap Ok x.is in
    record {
      exists = present m at x.segment x.start x.pads x.shape c.requires.1.place e;
      within = (inside m at x.segment x.start x.pads x.shape e).0;
    }

pub item_at-requires-clause-rows : goal.item_at-requires-clause-rows
item_at-requires-clause-rows g c =
    let x = c.in-Content in
    (inside c.args.self.now.space (record {
      segment = c.args.self.now.start.segment;
      word = c.args.self.now.start.word + c.args.slot;
    }) x.segment x.start x.pads x.shape (c.target_at.ensures.found ∙ ap Ok x.is)).1

pub item_at-requires-clause-room : goal.item_at-requires-clause-room
item_at-requires-clause-room g c =
    let x = c.in-Content in
    room-of c.args.self.now.space (record {
      segment = c.args.self.now.start.segment;
      word = c.args.self.now.start.word + c.args.slot;
    }) x.segment x.start x.pads x.shape (c.target_at.ensures.found ∙ ap Ok x.is)

pub item_at-requires-clause-some : goal.item_at-requires-clause-some
item_at-requires-clause-some g c =
    let x = c.in-Content in (
      c.requires.0,
      inside-of c.args.self.now.space (record {
        segment = c.args.self.now.start.segment;
        word = c.args.self.now.start.word + c.args.slot;
      }) x.segment x.start x.pads x.shape (c.target_at.ensures.found ∙ ap Ok x.is) c.requires.0 c.requires.1.at,
    )

pub returns-in-Content-clause-is : goal.returns-in-Content-clause-is
returns-in-Content-clause-is g c v h =
    let x = c.in-Content in
    c.item_at.ensures v (inside-of c.args.self.now.space (record {
      segment = c.args.self.now.start.segment;
      word = c.args.self.now.start.word + c.args.slot;
    }) x.segment x.start x.pads x.shape (c.target_at.ensures.found ∙ ap Ok x.is) v h.at)
