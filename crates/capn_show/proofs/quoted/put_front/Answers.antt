use Rattle.std.proofs.Common.{◌≡◌, ◌∙◌, List, ℕ, ◌∷◌, ◌++◌, ap, sym, append_assoc}
use Rattle.capn_quoted.specs.Escapes.{escapes, first_written}
use Rattle.capn_show.specs.Outgoing.{outgoing}
use Rattle.capn_show.proofs.shared.Appended.{passed, both, otherwise-broken, then-broken, broken-before}
use Rattle.capn_show.proofs.quoted.put_front.Goals as goal

-- The run `bare`, the bytes `here` after it, and the bytes `more` after these are what is written of `bytes`.
module _ (bytes bare left here next : List ℕ) (b : ℕ) (bs : List ℕ) (e : escapes bytes ≡ bare ++ escapes left)
    (f : left ≡ b ∷ bs) (g : escapes (b ∷ bs) ≡ here ++ escapes next) where
  whole : escapes bytes ≡ bare ++ (here ++ escapes next)
  whole = e ∙ ap (λ (l : List ℕ). bare ++ l) (ap escapes f ∙ g)

pub returns-in_err-put-clause-cut : goal.returns-in_err-put-clause-cut
returns-in_err-put-clause-cut g c =
    let p = outgoing g.W.Write.contents c.args.writer.now c.args.text.now.items in
    let q = outgoing g.W.Write.contents c.put.new.writer c.put.new.text.items in
    passed c.from_residual.result c.in_err-put.field-0.0 _ c.from_residual.ensures.1 (otherwise-broken p q _ _ _
    (sym c.split_bare.ensures.written) (broken-before p q _ c.split_bare.result.0.now
    (escapes c.split_bare.result.1.now) c.in_err-put.ensures.cut))

pub returns-in_err-put_first-clause-cut : goal.returns-in_err-put_first-clause-cut
returns-in_err-put_first-clause-cut g c =
    let p = outgoing g.W.Write.contents c.args.writer.now c.args.text.now.items in
    let q = outgoing g.W.Write.contents c.put.new.writer c.put.new.text.items in
    let r = outgoing g.W.Write.contents c.put_first.new.writer c.put_first.new.text.items in
    let bare = c.split_bare.result.0.now in
    let here = first_written c.in-Some.first.now c.in-Some.rest.now in
    let next = c.after_first-next.result.now in
    passed c.from_residual-in_err-put_first.result c.in_err-put_first.field-0.0 _
    c.from_residual-in_err-put_first.ensures.1 (otherwise-broken p r _ _ _ (sym (whole c.args.bytes.now bare
    c.split_bare.result.1.now here next c.in-Some.first.now c.in-Some.rest.now c.split_bare.ensures.written
    c.in-Some.ensures.cases.0 c.after_first-next.ensures.written)) (then-broken p q r _ bare (here ++ escapes next)
    c.in_ok-put.ensures.shown (broken-before q r _ here (escapes next) c.in_err-put_first.ensures.cut)))

pub returns-clause-shown : goal.returns-clause-shown
returns-clause-shown g c =
    let p = outgoing g.W.Write.contents c.args.writer.now c.args.text.now.items in
    let q = outgoing g.W.Write.contents c.put.new.writer c.put.new.text.items in
    let r = outgoing g.W.Write.contents c.put_first.new.writer c.put_first.new.text.items in
    let bare = c.split_bare.result.0.now in
    let here = first_written c.in-Some.first.now c.in-Some.rest.now in
    let next = c.after_first-next.result.now in (
      bare ++ here,
      both p q r bare here c.in_ok-put.ensures.shown c.in_ok-put_first.ensures.shown,
      whole c.args.bytes.now bare c.split_bare.result.1.now here next c.in-Some.first.now c.in-Some.rest.now
          c.split_bare.ensures.written c.in-Some.ensures.cases.0 c.after_first-next.ensures.written
          ∙ sym (append_assoc bare here (escapes next)),
    )
