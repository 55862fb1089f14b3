-- Lemmas on an answer: canonical bytes and the price of the walk. (For `are_canonical`.)
use Rattle.std.proofs.Common.{◌≡◌, ℕ, ◌*◌, ◌+◌, ◌^◌, ◌≤◌, List, length, ap, subst, ◌∙◌, arith}
use Rattle.capn_words.specs.Message.{IsMessage}
use Rattle.capn_value.specs.Tree.{Tree}
use Rattle.capn_walk.specs.Accepted.{root, IsValueOf}
use Rattle.capn_walk.specs.Limits.{Bounds}
use Rattle.capn_walk.proofs.shared.Unique.{unique}
use Rattle.capn_canon.specs.declared.form.Form.{Form}
use Rattle.capn_layout.specs.Layout.{canon}
use Rattle.capn_canon.specs.Denotes.{Denotes, AnswersMessage, Answers}
use Rattle.capn_canon.specs.Reads.{Reads}
use Rattle.capn_canon.specs.Canonicity.{IsCanonicalForm}
use Rattle.capn_canon.proofs.theorem.Headline.{denoted_length, form_of_any}
use Rattle.capn_canon.proofs.shared.OneReading.{is_message, one_message}

-- In this block the bytes `bs` and the price `n` are an answer for the message `m` (`AnswersMessage`).
module _ (m : List (List ℕ)) (limits : Bounds) (bs : List ℕ) (n : ℕ) (h : AnswersMessage m limits bs n) where
  pub answer_only : (v : Tree) → IsValueOf m limits v → bs ≡ canon v
  answer_only v k = h.canonical ∙ ap canon (unique m h.value v root h.is.is k.is)

  module _ (is : IsMessage m) (small : limits.budget ≤ 2 ^ 28) (shallow : limits.depth ≤ 256) where
    pub answer_length : length bs ≤ 8 * (n + 1)
    answer_length =
        let l = denoted_length m limits h.value is small shallow h.is in
        let e = h.priced in
        let f = ap length h.canonical in
        omega arith

    pub answer_form : (v : Tree) → IsValueOf m limits v → IsCanonicalForm bs limits v
    answer_form v k = form_of_any m limits h.value is small shallow h.is bs v h.canonical k

pub denoted_here : (form : Form) (bs : List ℕ) (limits : Bounds) (m : List (List ℕ)) (v : Tree)
    → Reads form bs limits.message_words m → Denotes form bs limits v →
    IsValueOf m limits v
denoted_here form bs limits m v r h =
    subst (λ (x : List (List ℕ)). IsValueOf x limits v) (one_message form bs limits.message_words h.message m h.reads r)
    h.value

-- In this block the bytes `out` and the price `n` are an answer for the bytes `bs` in `form` (`Answers`).
module _ (form : Form) (bs : List ℕ) (limits : Bounds) (out : List ℕ) (n : ℕ) (h : Answers form bs limits out n) where
  pub answers_only : (v : Tree) → Denotes form bs limits v → out ≡ canon v
  answers_only v k = answer_only h.message limits out n h.answer v (denoted_here form bs limits h.message v h.reads k)

  module _ (few : limits.message_words ≤ 2 ^ 28) (small : limits.budget ≤ 2 ^ 28) (shallow : limits.depth ≤ 256) where
    pub answers_length : length out ≤ 8 * (n + 1)
    answers_length =
        answer_length h.message limits out n h.answer (is_message form bs limits.message_words h.message few h.reads)
        small shallow

    pub answers_form : (v : Tree) → Denotes form bs limits v → IsCanonicalForm out limits v
    answers_form v k =
        answer_form h.message limits out n h.answer (is_message form bs limits.message_words h.message few h.reads)
        small shallow v (denoted_here form bs limits h.message v h.reads k)
