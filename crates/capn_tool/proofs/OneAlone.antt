-- Lemmas for `one_alone`: the text that `show` writes for an input of exactly one message is unique.
use Rattle.std.proofs.Common.{◌≡◌, inl, inr, ℕ, List, Bool, true, false, Result, Ok, Err}
use Rattle.capn_walk.specs.Limits.{Bounds}
use Rattle.capn_serve.specs.declared.pick.StreamForm.{StreamForm}
use Rattle.capn_serve.specs.StreamRun.{start}
use Rattle.capn_commands.specs.PartTexts.{refuses, serves}
use Rattle.capn_commands.specs.declared.part_texts.PartTexts.{PartTexts}
use Rattle.capn_commands.proofs.shared.OneShown.{IsLike, not_both, one_part, one_refusal, refuses_like, serves_like}
use Rattle.capn_commands.specs.OneMessage.{RefusesOne, WritesOne}
use Rattle.capn_commands.specs.declared.fault.ToolFault.{ToolFault}
use Rattle.capn_commands.proofs.shared.OneMessageLaws.{DoesOneThing, one_due_of}
use Rattle.capn_tool.specs.Laws.{IsShownAlone}

one_thing : (q : PartTexts) → DoesOneThing serves refuses q
one_thing q = record {
  texts = λ frame m t u x y h k. (one_part q start frame m t u x y h k).0;
  refusals = λ frame m r s h k. one_refusal q start frame m r s h k;
  never_both = λ frame m t x r h k. not_both q start frame m t x r h k;
}

module _ (limits : Bounds) (p q : PartTexts) (like : IsLike p q) (frame : StreamForm) (input : List ℕ) where
  writes_like : (text : List ℕ) → WritesOne serves refuses p limits.message_words frame input text
      → WritesOne serves refuses q limits.message_words frame input text
  writes_like text (f, m, holds, framed, (x, is)) =
      (f, m, holds, framed, (q, serves_like p q like start f m text x is))

  fails_like : (e : ToolFault) → RefusesOne serves refuses p limits.message_words frame input e
      → RefusesOne serves refuses q limits.message_words frame input e
  fails_like e (r, is, inl misread) = (r, is, inl misread)
  fails_like e (r, is, inr (f, m, holds, framed, why)) =
      (r, is, inr (f, m, holds, framed, refuses_like p q like start f m r why))

  due_like : (is_longer : Bool) (t : List ℕ) (r : Result (Unit {0}) ToolFault)
      → IsShownAlone p limits.message_words frame input is_longer t r
      → IsShownAlone q limits.message_words frame input is_longer t r
  due_like true t r h = h
  due_like false t (Ok u) h = writes_like t h
  due_like false t (Err e) (none, why) = (none, fails_like e why)

-- Two services with the same options show the same text of one message, and both runs end in the same way.
pub shown_alone : (limits : Bounds) (p q : PartTexts) → IsLike p q → (frame : StreamForm) (input : List ℕ)
    (is_longer : Bool) (t u : List ℕ) (r s : Result (Unit {0}) ToolFault)
    → IsShownAlone p limits.message_words frame input is_longer t r
    → IsShownAlone q limits.message_words frame input is_longer u s → (t ≡ u) × (r ≡ s)
shown_alone limits p q like frame input is_longer t u r s a b =
    one_due_of serves refuses q (one_thing q) limits frame input is_longer t u r s
    (due_like limits p q like frame input is_longer t r a) b
