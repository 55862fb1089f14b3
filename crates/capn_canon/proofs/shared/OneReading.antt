-- Bytes in a form are read as at most one message. That message is within the bounds of messages. (For `denotation`,
-- capn_answers, capn_c and capn_commands.)
use Rattle.std.proofs.Common.{◌≡◌, ℕ, ◌≤◌, List, [], ◌∷◌, length, ap, sym, subst, ◌∙◌, arith}
use Rattle.capn_words.specs.Message.{most_message_words, IsMessage}
use Rattle.capn_words.proofs.shared.OneSegment.{bare_only, bare_message}
use Rattle.capn_pack.proofs.shared.GroupLaws.{one_reading}
use Rattle.capn_stream.proofs.shared.FrameLaws.{one_frame, stands_alone}
use Rattle.capn_value.specs.Tree.{Tree}
use Rattle.capn_walk.specs.Accepted.{root}
use Rattle.capn_walk.specs.ValueAt.{IsAt}
use Rattle.capn_walk.specs.Limits.{Bounds}
use Rattle.capn_walk.proofs.shared.Unique.{unique}
use Rattle.capn_canon.specs.declared.form.Form.{Form}
use Rattle.capn_canon.specs.declared.form.Form.TheVariants as forms
use Rattle.capn_canon.specs.Reads.{IsFramed, Reads}
use Rattle.capn_canon.specs.Denotes.{Denotes, Answers}
use Rattle.capn_layout.specs.Layout.{canon}

one-framed : (bs : List ℕ) (most : ℕ) (m n : List (List ℕ)) → IsFramed bs most m → IsFramed bs most n → m ≡ n
one-framed bs most m n h k =
    (one_frame bs most most m n (length bs) (length bs) (stands_alone bs most m h.frame h.room)
    (stands_alone bs most n k.frame k.room)).0

-- In one form, `bs` are read as at most one message.
pub one_message : (form : Form) (bs : List ℕ) (most : ℕ) (m n : List (List ℕ)) → Reads form bs most m
    → Reads form bs most n → m ≡ n
one_message forms.Bare bs most m n (ws, h, e) (vs, k, f) =
    let g : ws ≡ vs = sym (bare_only bs ws h) ∙ bare_only bs vs k in
    e ∙ ap (λ (us : List ℕ). us ∷ []) g ∙ sym f
one_message forms.Stream bs most m n h k = one-framed bs most m n h k
one_message forms.Packed bs most m n (t, h, k) (u, i, j) =
    let same : u ≡ t = one_reading bs u t i.packs h.packs in
    one-framed t most m n k (subst (λ (x : List ℕ). IsFramed x most n) same j)

framed-message : (bs : List ℕ) (most : ℕ) (m : List (List ℕ)) → most ≤ most_message_words → IsFramed bs most m
    → IsMessage m
framed-message bs most m l h =
    let f = h.frame.fits in
    let r = h.room in
    record { some = f.some; few = f.few; room = omega arith; each = f.each }

-- If `most` is a valid limit and `bs` are read as `m`, then `m` is within the bounds of messages (`IsMessage`).
pub is_message : (form : Form) (bs : List ℕ) (most : ℕ) (m : List (List ℕ)) → most ≤ most_message_words
    → Reads form bs most m → IsMessage m
is_message forms.Bare bs most m l (ws, h, e) = subst IsMessage (sym e) (bare_message ws h.each h.room)
is_message forms.Stream bs most m l h = framed-message bs most m l h
is_message forms.Packed bs most m l (t, h, k) = framed-message t most m l k

-- In one form and within the same limits, `bs` denote at most one value.
pub one_value : (form : Form) (bs : List ℕ) (limits : Bounds) (v w : Tree) → Denotes form bs limits v
    → Denotes form bs limits w → v ≡ w
one_value form bs limits v w h k =
    let e = one_message form bs limits.message_words k.message h.message k.reads h.reads in
    unique h.message v w root h.value.is (subst (λ (m : List (List ℕ)). IsAt m root w) e k.value.is)

-- If `out` is an answer for `bs` and `bs` denote `v`, `out` are the canonical bytes of `v`.
pub answers_only : (form : Form) (bs : List ℕ) (limits : Bounds) (out : List ℕ) (n : ℕ) → Answers form bs limits out n
    → (v : Tree) → Denotes form bs limits v → out ≡ canon v
answers_only form bs limits out n h v k =
    h.answer.canonical
    ∙ ap canon (one_value form bs limits h.answer.value v
    (record { message = h.message; reads = h.reads; value = h.answer.is }) k)
