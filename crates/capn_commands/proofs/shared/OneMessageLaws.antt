-- Lemmas for capn_tool: a run over exactly one message has one text and one result, if the service does one thing with
-- each message (`DoesOneThing`).
use Rattle.std.proofs.Common.{◌≡◌, inl, inr, ℕ, List, Bool, true, false, Result, Ok, Err, refl, ap, sym, subst, ◌∙◌}
use Rattle.capn_pack.proofs.shared.GroupLaws.{one_reading}
use Rattle.capn_walk.specs.Limits.{Bounds}
use Rattle.capn_canon.specs.declared.refusal.Refusal.{Refusal}
use Rattle.capn_canon.proofs.shared.NotRefused.{read-not_misread}
use Rattle.capn_canon.proofs.shared.OneReading.{one_message}
use Rattle.capn_canon.proofs.shared.OneRefusal.{one_refusal}
use Rattle.capn_canon.specs.Reads.{IsFramed}
use Rattle.capn_serve.specs.declared.pick.StreamForm.{StreamForm}
use Rattle.capn_serve.specs.declared.pick.StreamForm.TheVariants as streams
use Rattle.capn_serve.specs.declared.position.Position.{Position}
use Rattle.capn_serve.specs.StreamRun.{start}
use Rattle.capn_commands.specs.OneMessage.{IsFrameOf, RefusesOne, WritesOne}
use Rattle.capn_commands.specs.Plan.{form_of}
use Rattle.capn_commands.specs.Text.{IsDueOf}
use Rattle.capn_commands.specs.declared.plan.MessageText.TheVariants as kinds
use Rattle.capn_commands.specs.declared.fault.ToolFault.{ToolFault}
use Rattle.capn_commands.specs.declared.fault.ToolFault.TheVariants as faults
use Rattle.capn_commands.proofs.OnePiece.{misread_known, reads_of}

-- In the state `s` the service writes at most one text for the first message of an input, refuses that message for at
-- most one reason, and never does both.
pub record DoesOneThing {S : Type 0} (serves : S → Position → List ℕ → List (List ℕ) → List ℕ → S → Type 0)
    (refuses : S → Position → List ℕ → List (List ℕ) → Refusal → Type 0) (s : S) : Type 0 where
  pub texts : (frame : List ℕ) (m : List (List ℕ)) (t u : List ℕ) (x y : S) → serves s start frame m t x
      → serves s start frame m u y → t ≡ u
  pub refusals : (frame : List ℕ) (m : List (List ℕ)) (r q : Refusal) → refuses s start frame m r
      → refuses s start frame m q → r ≡ q
  pub never_both : (frame : List ℕ) (m : List (List ℕ)) (t : List ℕ) (x : S) (r : Refusal)
      → serves s start frame m t x → refuses s start frame m r → ⊥

one_frame_of : (form : StreamForm) (most : ℕ) (bytes f g : List ℕ) → IsFrameOf form most bytes f
    → IsFrameOf form most bytes g → f ≡ g
one_frame_of streams.Stream most bytes f g a b = sym a ∙ b
one_frame_of streams.Packed most bytes f g a b = one_reading bytes f g a.packs b.packs

module _ {S : Type 0} (serves : S → Position → List ℕ → List (List ℕ) → List ℕ → S → Type 0)
    (refuses : S → Position → List ℕ → List (List ℕ) → Refusal → Type 0) (s : S)
    (one : DoesOneThing serves refuses s) (limits : Bounds) (form : StreamForm) (bytes : List ℕ) where
  abbrev W : List ℕ → List ℕ → Type 0
  W b t = WritesOne serves refuses s limits.message_words form b t

  abbrev R : List ℕ → ToolFault → Type 0
  R b e = RefusesOne serves refuses s limits.message_words form b e

  one_message_of : (f g : List ℕ) (m n : List (List ℕ)) → IsFrameOf form limits.message_words bytes f
      → IsFramed f limits.message_words m → IsFrameOf form limits.message_words bytes g
      → IsFramed g limits.message_words n → m ≡ n
  one_message_of f g m n a h b k =
      one_message (form_of form) bytes limits.message_words m n (reads_of form limits.message_words bytes f m a h)
      (reads_of form limits.message_words bytes g n b k)

  one_written : (t u : List ℕ) → W bytes t → W bytes u → t ≡ u
  one_written t u (f, m, a, h, (x, is)) (g, n, b, k, (y, also)) =
      let here = subst (λ (l : List ℕ). serves s start l m t x)
      (one_frame_of form limits.message_words bytes f g a b) is in
      one.texts g n t u x y
      (subst (λ (l : List (List ℕ)). serves s start g l t x) (one_message_of f g m n a h b k) here) also

  one_why : (r q : Refusal) (e i : ToolFault) → e ≡ faults.Refused r → i ≡ faults.Refused q → r ≡ q → e ≡ i
  one_why r q e i a b same = a ∙ ap (λ (x : Refusal). faults.Refused x) same ∙ sym b

  one_unwritten : (e i : ToolFault) → R bytes e → R bytes i → e ≡ i
  one_unwritten e i (r, a, inl h) (q, b, inl k) =
      let here = misread_known bytes limits (form_of form) r h kinds.Digest in
      let there = misread_known bytes limits (form_of form) q k kinds.Digest in
      one_why r q e i a b (one_refusal (form_of form) bytes limits r q here.0 there.0 here.1 there.1)
  one_unwritten e i (r, a, inl h) (q, b, inr (g, n, holds, k, why)) =
      absurd (read-not_misread (form_of form) bytes limits.message_words n r
      (reads_of form limits.message_words bytes g n holds k) h)
  one_unwritten e i (r, a, inr (f, m, holds, h, why)) (q, b, inl k) =
      absurd (read-not_misread (form_of form) bytes limits.message_words m q
      (reads_of form limits.message_words bytes f m holds h) k)
  one_unwritten e i (r, a, inr (f, m, holds, h, why)) (q, b, inr (g, n, also, k, ought)) =
      let here = subst (λ (l : List ℕ). refuses s start l m r)
      (one_frame_of form limits.message_words bytes f g holds also) why in
      one_why r q e i a b
      (one.refusals g n r q
      (subst (λ (l : List (List ℕ)). refuses s start g l r) (one_message_of f g m n holds h also k) here) ought)

  not_both_of : (t : List ℕ) (e : ToolFault) → W bytes t → R bytes e → ⊥
  not_both_of t e (f, m, a, h, (x, is)) (q, b, inl k) =
      read-not_misread (form_of form) bytes limits.message_words m q
      (reads_of form limits.message_words bytes f m a h) k
  not_both_of t e (f, m, a, h, (x, is)) (q, b, inr (g, n, holds, k, why)) =
      let here = subst (λ (l : List ℕ). serves s start l m t x)
      (one_frame_of form limits.message_words bytes f g a holds) is in
      one.never_both g n t x q
      (subst (λ (l : List (List ℕ)). serves s start g l t x) (one_message_of f g m n a h holds k) here) why

  pub one_due_of : (is_longer : Bool) (t u : List ℕ) (r q : Result (Unit {0}) ToolFault)
      → IsDueOf W R bytes is_longer t r → IsDueOf W R bytes is_longer u q → (t ≡ u) × (r ≡ q)
  one_due_of true t u r q h k = (h.0 ∙ sym k.0, h.1 ∙ sym k.1)
  one_due_of false t u (Ok x) (Ok y) h k = (one_written t u h k, refl)
  one_due_of false t u (Ok x) (Err i) h k = absurd (not_both_of t i h k.1)
  one_due_of false t u (Err e) (Ok y) h k = absurd (not_both_of u e k h.1)
  one_due_of false t u (Err e) (Err i) h k =
      (h.0 ∙ sym k.0, ap (λ (x : ToolFault). Err x) (one_unwritten e i h.1 k.1))
