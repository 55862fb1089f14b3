-- Lemmas for `run`: the text and the result of a run over an input are unique.
use Rattle.std.proofs.Common.{◌≡◌, ◌⊎◌, inl, inr, ℕ, List, [], ◌∷◌, ◌++◌, length, take, codes, Bool, true, false}
use Rattle.std.proofs.Common.{Option, Some, None, IfSome, Result, Ok, Err, refl, ap, sym, subst, ◌∙◌, append_assoc}
use Rattle.std.proofs.Common.{arith, length-append}
use Rattle.std.proofs.Math.Seq.{take-length, take-append-le}
use Rattle.std.specs.List.{AllByRecursion}
use Rattle.std.specs.Io.KnownBytes.{Appends}
use Rattle.capn_words.specs.declared.bare.BareFault.{BareFault}
use Rattle.capn_words.proofs.shared.OneSegment.{bare_not_refused, one_bare, one_bare_fault}
use Rattle.capn_pack.proofs.shared.FirstParts.{append_same}
use Rattle.capn_pack.proofs.shared.GroupLaws.{one_reading, refused_only}
use Rattle.capn_pack.proofs.shared.RefusalLaws.{one_unpack_fault}
use Rattle.capn_pack.proofs.shared.ChosenLaws.{chosen_whole}
use Rattle.capn_pack.proofs.shared.ChosenLaws as chosen
use Rattle.capn_pack.specs.declared.fault.UnpackFault.{UnpackFault}
use Rattle.capn_stream.specs.Frames.{Frames, StandsFirst}
use Rattle.capn_stream.specs.declared.fault.FrameFault.{FrameFault}
use Rattle.capn_stream.proofs.shared.FrameLaws.{one_frame, whole_of, refused_whole}
use Rattle.capn_stream.proofs.shared.FrameLaws as frame_laws
use Rattle.capn_value.specs.Text.{show_text}
use Rattle.capn_value.specs.Tree.{Tree}
use Rattle.capn_value.specs.FirstCap.{first_cap}
use Rattle.capn_walk.specs.Accepted.{root, IsValueOf}
use Rattle.capn_walk.specs.declared.walk_answer.Stopped.{Stopped}
use Rattle.capn_walk.specs.Limits.{Bounds}
use Rattle.capn_walk.proofs.shared.Unique.{unique}
use Rattle.capn_canon.specs.Layout.{canon}
use Rattle.capn_canon.specs.Denotes.{Answers, Denotes}
use Rattle.capn_canon.specs.declared.form.Form.{Form}
use Rattle.capn_canon.specs.declared.refusal.Refusal.{Refusal}
use Rattle.capn_canon.specs.declared.refusal.Refusal.TheVariants as refusals
use Rattle.capn_canon.proofs.shared.OneReading.{answers_only, one_message}
use Rattle.capn_canon.proofs.shared.NotRefused.{accepted-not_refused, not_refused}
use Rattle.capn_canon.proofs.shared.NotUnaccepted.{not_unaccepted}
use Rattle.capn_canon.specs.Reads.{Reads}
use Rattle.capn_canon.specs.Refusal.{IsRefused, IsUnacceptedIn}
use Rattle.capn_commands.specs.MessageText.{AreCanonical, IsMessageText, IsBareMessageText, IsNoMessageText, IsStopped}
use Rattle.capn_commands.specs.MessageText.{digest_line}
use Rattle.capn_commands.specs.WholeInput.{IsOneRefused, Makes, MakesNothing}
use Rattle.capn_commands.specs.Streams.{Part, IsPart, frames_of, texts_of, end_of, EndsUnframed, EndsRefused, IsDueEach}
use Rattle.capn_commands.specs.Streams.{behind_packed, behind_stream}
use Rattle.capn_pack.proofs.shared.SplitLaws.{one_split}
use Rattle.capn_commands.specs.Plan.{form_of, plan_of}
use Rattle.capn_commands.specs.Text.{taken_of, has_more, IsDueWhole, IsDue, IsText, EndsAs, EndsBy}
use Rattle.capn_commands.specs.declared.command.Command.{Command}
use Rattle.capn_commands.specs.declared.plan.MessageText.{MessageText}
use Rattle.capn_commands.specs.declared.plan.MessageText.TheVariants as kinds
use Rattle.capn_commands.specs.declared.plan.Whole.{Whole}
use Rattle.capn_commands.specs.declared.plan.Whole.TheVariants as wholes
use Rattle.capn_commands.specs.declared.plan.Plan.{Plan}
use Rattle.capn_commands.specs.declared.plan.Plan.TheVariants as plans
use Rattle.capn_commands.specs.declared.fault.ToolFault.{ToolFault}
use Rattle.capn_commands.specs.declared.fault.ToolFault.TheVariants as faults
use Rattle.capn_canon.proofs.shared.OneRefusal.{message_part, one_message_refusal, one_refusal, one_stop}

-- ---- a message has one text, or none for one reason

module _ (message : List (List ℕ)) (limits : Bounds) where
  pub one_piece : (piece : MessageText) (t u : List ℕ) → IsMessageText piece message limits t
      → IsMessageText piece message limits u
      → t ≡ u
  one_piece kinds.Text t u (v, is, e) (w, also, f) =
      let same : v ≡ w = unique message v w root is.is also.is in
      e ∙ ap (λ (x : Tree). show_text x ++ (codes "end" ++ 10 ∷ [])) same ∙ sym f
  one_piece kinds.Price t u (v, is, e) (w, also, f) = e ∙ sym f
  one_piece kinds.Digest t u (bytes, price, a, e) (other, cost, b, f) =
      let same : bytes ≡ other = a.canonical ∙ ap canon (unique message a.value b.value root a.is.is b.is.is)
      ∙ sym b.canonical in
      e ∙ ap digest_line same ∙ sym f

  no_stop : (v : Tree) (fault : ToolFault) → IsValueOf message limits v → IsStopped message limits fault → ⊥
  no_stop v fault is (s, e, h) = accepted-not_refused message limits s is.accepted h

  pub piece_or_none : (piece : MessageText) (t : List ℕ) (fault : ToolFault) → IsMessageText piece message limits t
      → IsNoMessageText piece message limits fault → ⊥
  piece_or_none kinds.Text t fault (v, is, e) h = no_stop v fault is h
  piece_or_none kinds.Price t fault (v, is, e) h = no_stop v fault is h
  piece_or_none kinds.Digest t fault (bytes, price, a, e) (r, f, n, h) =
      elim (message_part message limits r n h) [
        | inl p ↦ accepted-not_refused message limits p.0 a.is.accepted p.2
        | inr p ↦
            let bad : Some p.0 ≡ None = sym p.2.2 ∙ ap first_cap (unique message p.2.0 a.value root p.2.1.is a.is.is)
            ∙ a.free in
            absurd (cc)
      ]

  stops_same : (f g : ToolFault) → IsStopped message limits f → IsStopped message limits g → f ≡ g
  stops_same f g (s, e, h) (t, i, k) = e
      ∙ ap (λ (x : Stopped). faults.Refused (refusals.Walk x)) (one_stop message limits s t h k) ∙ sym i

  pub one_no_piece : (piece : MessageText) (f g : ToolFault) → IsNoMessageText piece message limits f
      → IsNoMessageText piece message limits g → f ≡ g
  one_no_piece kinds.Text f g h k = stops_same f g h k
  one_no_piece kinds.Price f g h k = stops_same f g h k
  one_no_piece kinds.Digest f g (r, e, n, h) (s, i, o, k) = e
      ∙ ap (λ (x : Refusal). faults.Refused x) (one_message_refusal message limits r s n o h k) ∙ sym i

module _ (words : List ℕ) (limits : Bounds) where
  one_bare_piece : (piece : MessageText) (t u : List ℕ) → IsBareMessageText piece words limits t
      → IsBareMessageText piece words limits u
      → t ≡ u
  one_bare_piece kinds.Text t u h k = one_piece (words ∷ []) limits kinds.Text t u h k
  one_bare_piece kinds.Price t u (v, is, inl (so, e)) (w, also, inl (also_so, f)) = e ∙ sym f
  one_bare_piece kinds.Price t u (v, is, inl (so, e)) (w, also, inr (never, f)) =
      absurd (never (subst (λ (x : Tree). AreCanonical x words) (unique (words ∷ []) v w root is.is also.is) so))
  one_bare_piece kinds.Price t u (v, is, inr (never, e)) (w, also, inl (so, f)) =
      absurd (never (subst (λ (x : Tree). AreCanonical x words) (unique (words ∷ []) w v root also.is is.is) so))
  one_bare_piece kinds.Price t u (v, is, inr (never, e)) (w, also, inr (neither, f)) = e ∙ sym f
  one_bare_piece kinds.Digest t u h k = one_piece (words ∷ []) limits kinds.Digest t u h k

  bare_or_none : (piece : MessageText) (t : List ℕ) (fault : ToolFault) → IsBareMessageText piece words limits t
      → IsNoMessageText piece (words ∷ []) limits fault → ⊥
  bare_or_none kinds.Text t fault h k = piece_or_none (words ∷ []) limits kinds.Text t fault h k
  bare_or_none kinds.Price t fault (v, is, line) k = no_stop (words ∷ []) limits v fault is k
  bare_or_none kinds.Digest t fault h k = piece_or_none (words ∷ []) limits kinds.Digest t fault h k

-- ---- an input that is read completely before anything is written

denoted : (form : Form) (bytes : List ℕ) (limits : Bounds) (t : List ℕ) (price : ℕ)
    (a : Answers form bytes limits t price) → Denotes form bytes limits a.answer.value
denoted form bytes limits t price a = record { message = a.message; reads = a.reads; value = a.answer.is }

one_made : (whole : Whole) (bytes t u : List ℕ) → Makes whole bytes t → Makes whole bytes u → t ≡ u
one_made wholes.Packed bytes t u h k = chosen.one_text t u bytes h k
one_made (wholes.Unpacked most) bytes t u h k = one_reading bytes t u h.0 k.0
one_made (wholes.Canonical form limits) bytes t u (p, a) (q, b) =
    answers_only form bytes limits t p a b.answer.value (denoted form bytes limits u q b) ∙ sym b.answer.canonical
one_made (wholes.Bare piece limits) bytes t u (ws, h, i) (vs, k, j) =
    one_bare_piece vs limits piece t u
    (subst (λ (x : List ℕ). IsBareMessageText piece x limits t) (one_bare bytes ws vs h k) i) j
one_made (wholes.One piece form limits) bytes t u (m, h, i) (n, k, j) =
    one_piece n limits piece t u
    (subst (λ (x : List (List ℕ)). IsMessageText piece x limits t)
    (one_message (form_of form) bytes limits.message_words m n h k) i) j

module _ (form : Form) (bytes : List ℕ) (limits : Bounds) where
  one_or_none : (piece : MessageText) (m : List (List ℕ)) (t : List ℕ) (r : Refusal)
      → Reads form bytes limits.message_words m → IsMessageText piece m limits t
      → IsOneRefused piece form bytes limits r → r ≡ refusals.Memory
  one_or_none kinds.Text m t r reads (v, is, e) h =
      not_unaccepted form bytes limits v r (record { message = m; reads = reads; value = is }) h
  one_or_none kinds.Price m t r reads (v, is, e) h =
      not_unaccepted form bytes limits v r (record { message = m; reads = reads; value = is }) h
  one_or_none kinds.Digest m t r reads (answer, price, a, e) h =
      not_refused form bytes limits a.value r (record { message = m; reads = reads; value = a.is }) a.free h

  unaccepted : (r : Refusal) → IsUnacceptedIn form bytes limits r → IsRefused form bytes limits r
  unaccepted (refusals.Walk s) h = h
  unaccepted (refusals.Capability k) h = absurd h
  unaccepted refusals.Memory h = h
  unaccepted (refusals.Bare e) h = h
  unaccepted (refusals.Packed e) h = h
  unaccepted (refusals.Frame e) h = h
  unaccepted (refusals.Trailing at) h = h

  refused_one : (piece : MessageText) (r : Refusal) → IsOneRefused piece form bytes limits r
      → IsRefused form bytes limits r
  refused_one kinds.Text r h = unaccepted r h
  refused_one kinds.Price r h = unaccepted r h
  refused_one kinds.Digest r h = h

made_or_none : (whole : Whole) (bytes t : List ℕ) (fault : ToolFault) → Makes whole bytes t
    → MakesNothing whole bytes fault → ⊥
made_or_none wholes.Packed bytes t fault h k = k.0 (chosen_whole t bytes h)
made_or_none (wholes.Unpacked most) bytes t fault h (e, f, n, k) = n (refused_only e bytes t most k h.0 h.1)
made_or_none (wholes.Canonical form limits) bytes t fault (p, a) (r, f, n, k) =
    n (not_refused form bytes limits a.answer.value r (denoted form bytes limits t p a) a.answer.free k)
made_or_none (wholes.Bare piece limits) bytes t fault (ws, h, i) (inl (e, f, k)) = bare_not_refused bytes ws e h k
made_or_none (wholes.Bare piece limits) bytes t fault (ws, h, i) (inr (vs, k, j)) =
    bare_or_none vs limits piece t fault
    (subst (λ (x : List ℕ). IsBareMessageText piece x limits t) (one_bare bytes ws vs h k) i) j
made_or_none (wholes.One piece form limits) bytes t fault (m, h, i) (r, f, n, k) =
    n (one_or_none (form_of form) bytes limits piece m t r h i k)

one_nothing : (whole : Whole) (bytes : List ℕ) (f g : ToolFault) → MakesNothing whole bytes f
    → MakesNothing whole bytes g → f ≡ g
one_nothing wholes.Packed bytes f g h k = h.1 ∙ sym k.1
one_nothing (wholes.Unpacked most) bytes f g (e, a, n, h) (d, b, o, k) =
    a ∙ ap (λ (x : UnpackFault). faults.Refused (refusals.Packed x)) (one_unpack_fault bytes most e d h k n o) ∙ sym b
one_nothing (wholes.Canonical form limits) bytes f g (r, a, n, h) (s, b, o, k) =
    a ∙ ap (λ (x : Refusal). faults.Refused x) (one_refusal form bytes limits r s n o h k) ∙ sym b
one_nothing (wholes.Bare piece limits) bytes f g (inl (e, a, h)) (inl (d, b, k)) =
    a ∙ ap (λ (x : BareFault). faults.Refused (refusals.Bare x)) (one_bare_fault bytes e d h k) ∙ sym b
one_nothing (wholes.Bare piece limits) bytes f g (inl (e, a, h)) (inr (vs, k, j)) =
    absurd (bare_not_refused bytes vs e k h)
one_nothing (wholes.Bare piece limits) bytes f g (inr (ws, h, i)) (inl (e, b, k)) =
    absurd (bare_not_refused bytes ws e h k)
one_nothing (wholes.Bare piece limits) bytes f g (inr (ws, h, i)) (inr (vs, k, j)) =
    one_no_piece (vs ∷ []) limits piece f g
    (subst (λ (x : List ℕ). IsNoMessageText piece (x ∷ []) limits f) (one_bare bytes ws vs h k) i) j
one_nothing (wholes.One piece form limits) bytes f g (r, a, n, h) (s, b, o, k) =
    a
    ∙ ap (λ (x : Refusal). faults.Refused x)
    (one_refusal (form_of form) bytes limits r s n o (refused_one (form_of form) bytes limits piece r h)
    (refused_one (form_of form) bytes limits piece s k))
    ∙ sym b

one_due_whole : (whole : Whole) (bytes : List ℕ) (is_longer : Bool) (t u : List ℕ) (r s : Result (Unit {0}) ToolFault)
    → IsDueWhole whole bytes is_longer t r → IsDueWhole whole bytes is_longer u s → (t ≡ u) × (r ≡ s)
one_due_whole whole bytes true t u r s h k = (h.0 ∙ sym k.0, h.1 ∙ sym k.1)
one_due_whole whole bytes false t u (Ok x) (Ok y) h k = (one_made whole bytes t u h k, refl)
one_due_whole whole bytes false t u (Ok x) (Err g) h k = absurd (made_or_none whole bytes t g h k.1)
one_due_whole whole bytes false t u (Err f) (Ok y) h k = absurd (made_or_none whole bytes u f k h.1)
one_due_whole whole bytes false t u (Err f) (Err g) h k =
    (h.0 ∙ sym k.0, ap (λ (x : ToolFault). Err x) (one_nothing whole bytes f g h.1 k.1))

-- ---- a stream

module _ (piece : MessageText) (limits : Bounds) (last : Option ToolFault) where
  -- `ending` is the result of a run that has `rest` left after the messages at the front of its input.
  abbrev Behind : List ℕ → Result (Unit {0}) ToolFault → Type 0
  Behind rest ending = EndsUnframed limits rest last ending ⊎ EndsRefused piece limits rest ending

  one_behind : (rest : List ℕ) (r s : Result (Unit {0}) ToolFault) → Behind rest r → Behind rest s → r ≡ s
  one_behind rest r s (inl (e, n, h, a)) (inl (d, o, k, b)) =
      a ∙ ap (λ (x : FrameFault). end_of x last) (frame_laws.one_refusal rest limits.message_words e d h k n o) ∙ sym b
  one_behind rest r s (inl (e, n, h, a)) (inr (m, taken, fault, stands, why, b)) =
      absurd (n (refused_whole rest limits.message_words e (whole_of rest limits.message_words m taken stands) h))
  one_behind rest r s (inr (m, taken, fault, stands, why, b)) (inl (e, n, h, a)) =
      absurd (n (refused_whole rest limits.message_words e (whole_of rest limits.message_words m taken stands) h))
  one_behind rest r s (inr (m, taken, f, stands, why, a)) (inr (n, to, g, also, ought, b)) =
      let same = (one_frame rest limits.message_words limits.message_words m n taken to stands also).0 in
      let fault = one_no_piece n limits piece f g
      (subst (λ (x : List (List ℕ)). IsNoMessageText piece x limits f) same why) ought in
      a ∙ ap (λ (x : ToolFault). Err x) fault ∙ sym b

  part_first : (part : Part) (more : List ℕ) → IsPart piece limits part
      → StandsFirst (part.frame ++ more) limits.message_words part.message (length part.frame)
  part_first part more h =
      let front : take (length part.frame) (part.frame ++ more) ≡ part.frame =
      take-append-le (length part.frame) part.frame more (omega arith) ∙ take-length part.frame in
      record {
        inside = omega (arith, length-append part.frame more);
        frame = subst (λ (xs : List ℕ). Frames xs part.message) (sym front) h.frame;
        room = h.room;
      }

  no_end : (rest more : List ℕ) (part : Part) (r : Result (Unit {0}) ToolFault) → IsPart piece limits part
      → rest ≡ part.frame ++ more → Behind rest r → ⊥
  no_end rest more part r h is ends =
      elim (subst (λ (xs : List ℕ). Behind xs r) is ends) [
        | inl (e, n, k, a) ↦ n
            (refused_whole (part.frame ++ more) limits.message_words e
            (whole_of (part.frame ++ more) limits.message_words part.message (length part.frame)
            (part_first part more h)) k)
        | inr (m, taken, fault, stands, why, a) ↦
            let same = (one_frame (part.frame ++ more) limits.message_words limits.message_words m part.message taken
            (length part.frame) stands (part_first part more h)).0 in
            piece_or_none part.message limits piece part.text fault h.text
            (subst (λ (x : List (List ℕ)). IsNoMessageText piece x limits fault) same why)
      ]

  one_row : (ps qs : List Part) (rest other : List ℕ) (r s : Result (Unit {0}) ToolFault)
      → AllByRecursion (IsPart piece limits) ps → AllByRecursion (IsPart piece limits) qs
      → frames_of ps ++ rest ≡ frames_of qs ++ other → Behind rest r → Behind other s → (texts_of ps ≡ texts_of qs)
      × (r ≡ s)
  one_row [] [] rest other r s h k e a b = (refl, one_behind other r s (subst (λ (xs : List ℕ). Behind xs r) e a) b)
  one_row [] (q ∷ qs) rest other r s h k e a b =
      absurd (no_end rest (frames_of qs ++ other) q r k.0 (e ∙ append_assoc q.frame (frames_of qs) other) a)
  one_row (p ∷ ps) [] rest other r s h k e a b =
      absurd (no_end other (frames_of ps ++ rest) p s h.0 (sym e ∙ append_assoc p.frame (frames_of ps) rest) b)
  one_row (p ∷ ps) (q ∷ qs) rest other r s h k e a b =
      let joined : p.frame ++ (frames_of ps ++ rest) ≡ q.frame ++ (frames_of qs ++ other) =
      sym (append_assoc p.frame (frames_of ps) rest) ∙ e ∙ append_assoc q.frame (frames_of qs) other in
      let here = part_first p (frames_of ps ++ rest) h.0 in
      let there = subst (λ (xs : List ℕ). StandsFirst xs limits.message_words q.message (length q.frame)) (sym joined)
      (part_first q (frames_of qs ++ other) k.0) in
      let same = one_frame (p.frame ++ (frames_of ps ++ rest)) limits.message_words limits.message_words p.message
      q.message (length p.frame) (length q.frame) here there in
      let text = one_piece q.message limits piece p.text q.text
      (subst (λ (x : List (List ℕ)). IsMessageText piece x limits p.text) same.0 h.0.text) k.0.text in
      let behind = (append_same p.frame q.frame (frames_of ps ++ rest) (frames_of qs ++ other) same.1 joined).1 in
      let more = one_row ps qs rest other r s h.1 k.1 behind a b in
      (λ i. text i ++ more.0 i, more.1)

  one_due_each : (bytes t u : List ℕ) (r s : Result (Unit {0}) ToolFault) → IsDueEach piece limits bytes last t r
      → IsDueEach piece limits bytes last u s → (t ≡ u) × (r ≡ s)
  one_due_each bytes t u r s h k =
      let same = one_row h.parts k.parts h.rest k.rest r s h.are.each k.are.each (sym h.are.is
      ∙ k.are.is) h.ends k.ends in
      (h.joined ∙ same.0 ∙ sym k.joined, same.1)

-- ---- a run

one_due : (plan : Plan) (bytes : List ℕ) (is_longer : Bool) (t u : List ℕ) (r s : Result (Unit {0}) ToolFault)
    → IsDue plan bytes is_longer t r → IsDue plan bytes is_longer u s → (t ≡ u) × (r ≡ s)
one_due (plans.Whole whole) bytes is_longer t u r s h k = one_due_whole whole bytes is_longer t u r s h k
one_due (plans.Each piece limits) bytes is_longer t u r s h k =
    one_due_each piece limits (behind_stream is_longer) bytes t u r s h k
one_due (plans.Packed piece limits) bytes is_longer t u r s h k =
    let same = one_split bytes h.group k.group [] h.words k.words h.at k.at h.split k.split in
    let first = subst (λ (ws : List ℕ). IsDueEach piece limits ws (behind_packed is_longer h.group h.at) t r) same.1.0
    h.due in
    let second = subst (λ (xs : List ℕ). IsDueEach piece limits k.words (behind_packed is_longer xs h.at) t r) same.0
    first in
    let third = subst (λ (n : ℕ). IsDueEach piece limits k.words (behind_packed is_longer k.group n) t r) same.1.1
    second in
    one_due_each piece limits (behind_packed is_longer k.group k.at) k.words t u r s third k.due

ends_by : (command : Command) (old new : Option (List ℕ)) (r : Result (Unit {0}) ToolFault) (input t : List ℕ)
    (s : Result (Unit {0}) ToolFault) → EndsAs command old new r input → IsText command input t s → EndsBy t s old new r
ends_by command old new r input t s (inl m) k = inl m
ends_by command old new r input t s (inr (inl i)) k = inr (inl i)
ends_by command old new r input t s (inr (inr (u, h, wrote))) k =
    let same = one_due (plan_of command) (taken_of input) (has_more input) u t r s h k in
    inr (inr (same.1, subst (Appends old new) same.0 wrote))

pub run_only : (command : Command) (known old new : Option (List ℕ)) (r : Result (Unit {0}) ToolFault)
    → IfSome known (EndsAs command old new r)
    → IfSome known (λ input. (t : List ℕ) (s : Result (Unit {0}) ToolFault) → IsText command input t s
    → EndsBy t s old new r)
run_only command None old new r h = tt
run_only command (Some input) old new r h = λ t s k. ends_by command old new r input t s h k
