-- The measure of a message of one segment, and of a message that is not canonical. (For `counted_measure.rt` and
-- `message_digest.rt`.)
use Rattle.std.proofs.Common.{◌≡◌, ◌∙◌, ℕ, ◌*◌, List, [], ◌∷◌, length, true, false, Option, None, is_some, ap, sym}
use Rattle.std.proofs.Common.{arith, subst}
use Rattle.std.specs.Option.{unwrap_or}
use Rattle.std.proofs.lemmas.List.{take_all}
use Rattle.capn_words.specs.Message.{bytes, bytes_at, segment_at, words_of}
use Rattle.capn_words.proofs.shared.Words.{length-bytes}
use Rattle.capn_value.specs.Tree.{Tree}
use Rattle.capn_value.specs.FirstCap.{first_cap}
use Rattle.capn_walk.specs.Limits.{Bounds}
use Rattle.capn_walk.specs.Accepted.{IsValueOf, number_of_visits, paid, root}
use Rattle.capn_walk.specs.Depth.{IsDepth}
use Rattle.capn_walk.specs.Surveyed.{IsSurvey}
use Rattle.capn_walk.specs.declared.survey_answer.Surveyed.{Surveyed}
use Rattle.capn_target.proofs.shared.OneBare.{first-words, only-segment, start}
use Rattle.capn_walk.proofs.shared.Unique.{unique}
use Rattle.capn_canon.specs.BareVerdict.{IsBareSurvey}
use Rattle.capn_canon.specs.Denotes.{AnswersMessage}
use Rattle.capn_canon.specs.Layout.{canon}
use Rattle.capn_canon.specs.Measure.{IsCanonicalOf, IsChecked, IsMeasure}
use Rattle.capn_canon.specs.declared.surveyed_bare.SurveyedBare.{SurveyedBare}

-- A message is not canonical if its number of segments is not 1.
pub not_one : (message : List (List ℕ)) (v : Tree) → (length message ≡ 1 → ⊥) → IsCanonicalOf message v → ⊥
not_one message v not is = not (ap length is.1)

same_bytes : (message : List (List ℕ)) (words : List ℕ) → message ≡ words ∷ []
    → bytes words ≡ bytes (segment_at message 0)
same_bytes message words is = ap (λ (m : List (List ℕ)). bytes (segment_at m 0)) (sym is)

-- The survey `c` of the only segment of `message` is also the survey of `message`.
pub one_checked : (message : List (List ℕ)) (limits : Bounds) (c : SurveyedBare) → length message ≡ 1
    → IsBareSurvey (segment_at message 0) limits c → IsChecked message limits c
one_checked message limits c one told =
    let whole = only-segment message one in
    record {
      value = told.value;
      is = subst (λ (m : List (List ℕ)). IsValueOf m limits told.value) (sym whole) told.is;
      pays = told.pays ∙ ap (λ (m : List (List ℕ)). paid m limits) (sym whole);
      counts = told.counts ∙ ap (λ (m : List (List ℕ)). number_of_visits m limits) (sym whole);
      capability = told.capability;
      answer = (
        (λ so. let are = told.answer.0 so in (segment_at message 0, whole, are.0, are.1)),
        (λ is. told.answer.1 (is.2, is.3 ∙ same_bytes message is.0 is.1)),
      );
    }

-- The result `None` of the one pass.
abbrev none : (T : Type 0) → Option T
none T = None

not_none : (T : Type 0) → is_some (none T) ≡ true → ⊥
not_none T is = absurd (cc)

-- A message of one segment is not canonical if the one pass returns `None` for it.
pub not_told : (T : Type 0) (message : List (List ℕ)) (limits : Bounds)
    → ((v : Tree) → IsValueOf message limits v → first_cap v ≡ None → canon v ≡ bytes (segment_at message 0)
    → is_some (none T) ≡ true) → (v : Tree) → IsValueOf message limits v → IsCanonicalOf message v → ⊥
not_told T message limits only v told is = not_none T (only v told is.2 (is.3 ∙ same_bytes message is.0 is.1))

-- If `message` is not canonical, its survey `s` and its `depth` make up its measure.
pub not_checked : (message : List (List ℕ)) (limits : Bounds) (s : Surveyed) (depth : ℕ) → IsSurvey message limits s
    → IsDepth message limits depth → ((v : Tree) → IsValueOf message limits v → IsCanonicalOf message v → ⊥)
    → IsMeasure message limits (record {
      survey = record {
        paid = s.paid;
        visits = s.visits;
        capability = s.capability;
        is_canonical = false;
      };
      depth = depth;
    })
not_checked message limits s depth told deep not = record {
  checked = record {
    value = told.value;
    is = told.is;
    pays = told.pays;
    counts = told.counts;
    capability = told.capability;
    answer = ((λ so. absurd cc), (λ is. absurd (not told.value told.is is)));
  };
  depth = deep;
}

module _ (message : List (List ℕ)) (limits : Bounds) (c : SurveyedBare) (one : length message ≡ 1)
    (told : IsBareSurvey (segment_at message 0) limits c) where
  -- If the survey says that the only segment of `message` is canonical, its bytes are the canonical bytes of `message`.
  pub one_answer : c.is_canonical ≡ true → AnswersMessage message limits (bytes (segment_at message 0)) c.paid
  one_answer so =
      let are = told.answer.0 so in
      let whole = only-segment message one in
      record {
        value = told.value;
        is = subst (λ (m : List (List ℕ)). IsValueOf m limits told.value) (sym whole) told.is;
        free = are.0;
        canonical = sym are.1;
        priced = told.pays ∙ ap (λ (m : List (List ℕ)). paid m limits) (sym whole);
      }

  -- If the survey says that the only segment of `message` is not canonical, `message` is not canonical.
  pub one_other : c.is_canonical ≡ false → (v : Tree) → IsValueOf message limits v → IsCanonicalOf message v → ⊥
  one_other isnt v is here =
      let k = one_checked message limits c one told in
      let same = unique message v k.value root is.is k.is.is in
      let yes = k.answer.1 (subst (λ (t : Tree). IsCanonicalOf message t) same here) in
      absurd (cc)

-- If `n` is the number that `words_of` gives for segment 0, the first `8 * n` bytes are the bytes of that segment.
pub segment_bytes : (message : List (List ℕ)) (r : Option ℕ) (n : ℕ) (bs : List ℕ) → r ≡ words_of message 0
    → n ≡ unwrap_or r 0 → bs ≡ bytes_at message start (8 * n) → bs ≡ bytes (segment_at message 0)
segment_bytes message r n bs words or is =
    let seg = segment_at message 0 in
    let l = length-bytes seg in
    is ∙ (ap (λ (j : ℕ). bytes_at message start (8 * j)) (first-words message r n words or)
    ∙ take_all (8 * length seg) (bytes seg) (omega arith))
