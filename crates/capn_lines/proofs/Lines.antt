-- The laws of lines.
use Rattle.std.proofs.Common.{◌≡◌, ℕ, zero, suc, ◌+◌, ◌-◌, ◌==◌, ◌&&◌, ◌<◌, Bool, true, false, not, List, ◌∷◌}
use Rattle.std.proofs.Common.{◌++◌, length, refl, ap, sym, ◌∙◌, arith}
use Rattle.std.specs.List.{flat_map}
use Rattle.capn_words.specs.Message.{segment_at}
use Rattle.capn_words.specs.declared.space.Place.{Place}
use Rattle.capn_walk.specs.Visits.{places}
use Rattle.capn_cover.specs.declared.covered.Covered.{Covered}
use Rattle.capn_lines.specs.Kinds.{may_join}
use Rattle.capn_lines.specs.Laws.{line_places, IsWordOf}
use Rattle.capn_lines.specs.Lines.{are_alike, begins, behind, covered_at, followers, is_alike, kind_at, line_at}
use Rattle.capn_lines.specs.Lines.{lines_from, segment_lines}
use Rattle.capn_lines.specs.declared.kind.Kind.{Kind}
use Rattle.capn_lines.specs.declared.kind.Kind.TheVariants as kinds
use Rattle.capn_lines.proofs.SameObjects.{both-true, same-numbers}
use Rattle.capn_lines.proofs.shared.Lines.{begins-behind, followers-few, followers-more, followers-none}

places-add : (s w a b : ℕ) → places s w (a + b) ≡ places s w a ++ places s (w + a) b
places-add s w zero b =
    let x : 0 + b ≡ b = omega arith in
    let y : w + 0 ≡ w = omega arith in
    rw (x, y) refl
places-add s w (suc a) b =
    let x : suc a + b ≡ suc (a + b) = omega arith in
    let y : w + suc a ≡ w + 1 + a = omega arith in
    rw (x, y) (ap (λ (ps : List Place). (record { segment = s; word = w }) ∷ ps) (places-add s (w + 1) a b))

-- ---- two words that stand in one line

join-same : (one other : Kind) → may_join one other ≡ true → one ≡ other
join-same kinds.Null kinds.Null e = refl
join-same kinds.Data kinds.Data e = refl
join-same kinds.List kinds.List e = refl
join-same kinds.Slack kinds.Slack e = refl
join-same kinds.Unreached kinds.Unreached e = refl
join-same _ _ e = absurd cc

pub record AreSame (one : Kind) (c : Covered) (other : Kind) (d : Covered) : Type 0 where
  pub joins : may_join one other ≡ true
  pub kind : one ≡ other
  pub slot : c.slot ≡ d.slot
  pub times : c.times ≡ d.times

alike-same : (one other : Kind) (c d : Covered) → is_alike one c other d ≡ true → AreSame one c other d
alike-same one other c d e =
    let x = both-true (may_join one other && (c.slot == d.slot)) (c.times == d.times) e in
    let y = both-true (may_join one other) (c.slot == d.slot) x.0 in
    record {
      joins = y.0;
      kind = join-same one other y.0;
      slot = same-numbers c.slot d.slot y.1;
      times = same-numbers c.times d.times x.1;
    }

not-true : (b : Bool) → not b ≡ false → b ≡ true
not-true true e = refl
not-true false e = absurd cc

module _ (m : List (List ℕ)) (ws : List Covered) where
  -- the words before the next line begin none
  begins-not-at : (s w n k : ℕ) (b : Bool) → begins m ws s w ≡ b
      → ((i : ℕ) → i < followers m ws s (suc w) n → begins m ws s (suc w + i) ≡ false)
      → k < followers m ws s w (suc n) → begins m ws s (w + k) ≡ false
  begins-not-at s w n k true e h l =
      let a = followers-none m ws s w (suc n) e in
      absurd (omega arith)
  begins-not-at s w n zero false e h l = let x : w + 0 ≡ w = omega arith in rw x e
  begins-not-at s w n (suc k) false e h l =
      let a = followers-more m ws s w (suc n) (omega arith) e in
      let x : w + 1 ≡ suc w = omega arith in
      let y : suc n - 1 ≡ n = omega arith in
      let c = rw (x, y) at a in
      let z : w + suc k ≡ suc w + k = omega arith in
      rw z (h k (omega arith))

  begins-not : (s w n k : ℕ) → k < followers m ws s w n → begins m ws s (w + k) ≡ false
  begins-not s w zero k h = absurd (omega arith)
  begins-not s w (suc n) k h =
      begins-not-at s w n k (begins m ws s w) refl (λ i. begins-not s (suc w) n i) h

  module _ (at : Place) where
    -- word `k + 1` of a line and the word before it
    pub next-alike : (k : ℕ)
        → k < followers m ws at.segment (at.word + 1) (length (segment_at m at.segment) - (at.word + 1))
        → AreSame (kind_at m ws (behind at k)) (covered_at m ws (behind at k))
        (kind_at m ws (behind at (suc k))) (covered_at m ws (behind at (suc k)))
    next-alike k h =
        let n = length (segment_at m at.segment) - (at.word + 1) in
        let e = begins-not at.segment (at.word + 1) n k h in
        let x : at.word + 1 + k ≡ at.word + suc k = omega arith in
        let y : at.word + suc k - 1 ≡ at.word + k = omega arith in
        let a = rw x at e in
        let b = begins-behind m ws at.segment (at.word + suc k) (omega arith) in
        let c = rw y at b in
        alike-same (kind_at m ws (behind at k)) (kind_at m ws (behind at (suc k))) (covered_at m ws (behind at k))
        (covered_at m ws (behind at (suc k)))
        (not-true (are_alike m ws (behind at k) (behind at (suc k))) (sym c ∙ a))

    pub agree : (k : ℕ) → k < (line_at m ws at).words → IsWordOf m ws (line_at m ws at) (behind at k)
    agree zero h =
        let x : at.word + 0 ≡ at.word = omega arith in
        rw x (record { kind = refl; slot = refl; times = refl })
    agree (suc k) h =
        let a = agree k (omega arith) in
        let b = next-alike k (omega arith) in
        record {
          kind = sym b.kind ∙ a.kind;
          slot = sym b.slot ∙ a.slot;
          times = sym b.times ∙ a.times;
        }

    pub long : 1 < (line_at m ws at).words
        → may_join (line_at m ws at).kind (line_at m ws at).kind ≡ true
    long h =
        let a = next-alike 0 (omega arith) in
        let x : at.word + 0 ≡ at.word = omega arith in
        let j = rw (← a.kind) at a.joins in
        rw x at j

  -- the words of the lines from a word on
  words-at : (s w n : ℕ) (b : Bool) → begins m ws s w ≡ b → w + suc n ≡ length (segment_at m s)
      → flat_map line_places (lines_from m ws s (suc w) n)
      ≡ places s (suc w + followers m ws s (suc w) n) (n - followers m ws s (suc w) n)
      → flat_map line_places (lines_from m ws s w (suc n))
      ≡ places s (w + followers m ws s w (suc n)) (suc n - followers m ws s w (suc n))
  words-at s w n true e l h =
      let k = followers m ws s (suc w) n in
      let few = followers-few m ws s (suc w) n in
      let a = followers-none m ws s w (suc n) e in
      let x : w + 0 ≡ w = omega arith in
      let y : suc n - 0 ≡ suc n = omega arith in
      let b : w + 1 ≡ suc w = omega arith in
      let c : length (segment_at m s) - suc w ≡ n = omega arith in
      let z : w + (1 + k) ≡ suc w + k = omega arith in
      let v : 1 + k + (n - k) ≡ suc n = omega arith in
      let own : flat_map line_places (lines_from m ws s w (suc n))
      ≡ places s w (1 + k) ++ flat_map line_places (lines_from m ws s (suc w) n) = rw (e, b, c) refl in
      let all : places s (w + followers m ws s w (suc n)) (suc n - followers m ws s w (suc n)) ≡ places s w (suc n) =
      rw (a, x, y) refl in
      let parts : places s w (suc n) ≡ places s w (1 + k) ++ places s (suc w + k) (n - k) =
      ap (places s w) (sym v) ∙ places-add s w (1 + k) (n - k)
      ∙ ap (λ (i : ℕ). places s w (1 + k) ++ places s i (n - k)) z in
      own ∙ ap (λ (ps : List Place). places s w (1 + k) ++ ps) h ∙ sym parts ∙ sym all
  words-at s w n false e l h =
      let k = followers m ws s (suc w) n in
      let a = followers-more m ws s w (suc n) (omega arith) e in
      let x : w + 1 ≡ suc w = omega arith in
      let y : suc n - 1 ≡ n = omega arith in
      let c = rw (x, y) at a in
      let z : w + (1 + k) ≡ suc w + k = omega arith in
      let v : suc n - (1 + k) ≡ n - k = omega arith in
      rw (c, z, v, e) h

  words-from : (s w n : ℕ) → w + n ≡ length (segment_at m s)
      → flat_map line_places (lines_from m ws s w n)
      ≡ places s (w + followers m ws s w n) (n - followers m ws s w n)
  words-from s w zero l = refl
  words-from s w (suc n) l =
      words-at s w n (begins m ws s w) refl l (words-from s (suc w) n (omega arith))

  pub all-words : (s : ℕ) → flat_map line_places (segment_lines m ws s) ≡ places s 0 (length (segment_at m s))
  all-words s =
      let n = length (segment_at m s) in
      let l : 0 + n ≡ n = omega arith in
      let a = followers-none m ws s 0 n refl in
      let x : n - 0 ≡ n = omega arith in
      let b = words-from s 0 n l in
      let c = rw a at b in
      rw x at c
