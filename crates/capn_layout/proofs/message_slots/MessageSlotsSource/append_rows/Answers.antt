use Rattle.std.proofs.Common.{ℕ, ◌+◌, ◌*◌, ap, arith}
use Rattle.capn_layout.specs.RowWords.{row_cells}
use Rattle.capn_layout.proofs.shared.EachRow.{cells-over, wide-part}
use Rattle.capn_layout.proofs.shared.Counted.{rows-words}
use Rattle.capn_layout.proofs.message_slots.MessageSlotsSource.append_rows.Goals as goal

pub push_rows-requires-clause-message : goal.push_rows-requires-clause-message
push_rows-requires-clause-message g c = c.requires.1.message

pub push_rows-requires-clause-content : goal.push_rows-requires-clause-content
push_rows-requires-clause-content g c = c.requires.1.content

pub push_rows-requires-clause-narrow : goal.push_rows-requires-clause-narrow
push_rows-requires-clause-narrow g c = c.requires.1.narrow

pub push_rows-requires-clause-part : goal.push_rows-requires-clause-part
push_rows-requires-clause-part g c lt =
    let r = c.args.rows.now in
    let h = c.requires.1 in
    let n = h.number in
    wide-part r.space c.requires.0 r.words r.slots r.start.segment r.start.word c.args.words
    c.args.slots h.rows (omega arith) c.requires.2

pub push_rows-requires-clause-short : goal.push_rows-requires-clause-short
push_rows-requires-clause-short g c = let a = c.requires.3 in let b = c.requires.4 in omega arith

pub push_rows-requires-clause-room : goal.push_rows-requires-clause-room
push_rows-requires-clause-room g c =
    let e = ap (λ (n : ℕ). n * (c.args.words + c.args.slots)) c.requires.1.number in
    let r = c.requires.5 in
    omega arith

pub returns-clause-grown : goal.returns-clause-grown
returns-clause-grown g c bs h wide =
    let r = c.args.rows.now in
    let m = r.space in
    record {
      cells = row_cells m r.start.segment r.start.word (r.words + r.slots) r.words c.args.words c.args.slots r.count;
      over = cells-over m bs r.words r.slots r.start.segment r.start.word r.count c.args.words c.args.slots h.rows
          h.number wide h.content.within;
      grown = c.push_rows.ensures.appends.words;
    }

pub returns-clause-kept : goal.returns-clause-kept
returns-clause-kept g c = c.push_rows.ensures.appends.kept

pub returns-clause-reads : goal.returns-clause-reads
returns-clause-reads g c bs h =
    let r = c.args.rows.now in
    let w = rows-words r.space bs r.words r.slots r.start.segment r.start.word h.rows in
    let e = ap (λ (n : ℕ). n * (r.words + r.slots)) h.number in
    let k = c.push_rows.ensures.reads in
    omega arith
