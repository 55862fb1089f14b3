-- The bytes of a message of one segment are read as that message, and may be canonical. (For `only_bytes`,
-- `own_canonical` and `own_words`.)
use Rattle.std.proofs.Common.{◌≡◌, ℕ, ◌*◌, ◌^◌, ◌<◌, List, [], ◌∷◌, length, true, refl, ap, sym, ◌∙◌, subst, arith}
use Rattle.std.proofs.Common.{Result, Ok}
use Rattle.std.proofs.lemmas.List.{take_all}
use Rattle.capn_words.specs.Message.{IsMessage, segment_at, bytes_at, bytes, IsBare}
use Rattle.capn_words.specs.declared.bare.BareFault.{BareFault}
use Rattle.capn_words.proofs.shared.Words.{length-bytes}
use Rattle.capn_walk.specs.Limits.{Bounds}
use Rattle.capn_walk.specs.Accepted.{root}
use Rattle.capn_target.proofs.shared.Segments.{segment-room}
use Rattle.capn_canon.specs.BareVerdict.{IsBareSurvey}
use Rattle.capn_canon.specs.Denotes.{AnswersMessage}
use Rattle.capn_canon.specs.declared.surveyed_bare.SurveyedBare.{SurveyedBare}
use Rattle.capn_canon.specs.inner.OneSegment.{IsOnlySegment}

-- The result `Ok` of reading bytes as the words `ws`.
abbrev ok : List ℕ → Result (List ℕ) BareFault
ok ws = Ok ws

all_bytes : (m : List (List ℕ)) (bs : List ℕ) → bs ≡ bytes_at m root (8 * length (segment_at m 0))
    → bs ≡ bytes (segment_at m 0)
all_bytes m bs is =
    let seg = segment_at m 0 in
    let l = length-bytes seg in
    is ∙ take_all (8 * length seg) (bytes seg) (omega arith)

-- If `m` has one segment, the bytes at its root are the bytes of that segment.
pub one_segment : (m : List (List ℕ)) (bs : List ℕ) → IsMessage m → length m ≡ 1
    → bs ≡ bytes_at m root (8 * length (segment_at m 0)) → IsOnlySegment m bs
one_segment [] bs is e eb = absurd (omega arith)
one_segment (ws ∷ []) bs is e eb = (
  ws,
  refl,
  record {
    same = all_bytes (ws ∷ []) bs eb;
    each = is.each 0;
    room = segment-room (ws ∷ []) 0 is (omega arith);
  },
)
one_segment (ws ∷ (vs ∷ m)) bs is e eb = absurd (omega arith)

-- If the survey `c` says that the words `ws` of `bs` are canonical, `bs` are the canonical bytes of the message of
-- these words.
pub own_answer : (bs ws vs : List ℕ) → IsBare bs ws → ok vs ≡ ok ws → (limits : Bounds) (c : SurveyedBare)
    → IsBareSurvey vs limits c → c.is_canonical ≡ true → AnswersMessage (ws ∷ []) limits bs c.paid
own_answer bs ws vs bare same limits c told so =
    let is : vs ≡ ws = cc in
    let here = subst (λ (l : List ℕ). IsBareSurvey l limits c) is told in
    let are = here.answer.0 so in
    record {
      value = here.value;
      is = here.is;
      free = are.0;
      canonical = bare.same ∙ sym are.1;
      priced = here.pays;
    }

pub own_short : (bs ws : List ℕ) → IsBare bs ws → length bs < 2 ^ 34
own_short bs ws bare =
    let l = length-bytes ws in let e = ap length bare.same in let r = bare.room in omega arith
