-- Lemmas for `bytes.rt` and `lines.rt`: a line is an indent, other bytes, and a newline.
use Rattle.std.proofs.Common.{◌≡◌, ℕ, ◌+◌, ◌*◌, ◌≤◌, ◌-◌, List, [], ◌∷◌, ◌++◌, take, replicate}
use Rattle.std.proofs.Common.{refl, ◌∙◌, sym, ap, arith, append_assoc, codes}
use Rattle.std.specs.Fmt.{decimal}
use Rattle.std.proofs.lemmas.List.{replicate-append-replicate, take-replicate}
use Rattle.capn_value.specs.Text.{line, named, body_line, hex16}
use Rattle.capn_show.specs.ReadyPlaces.{quoted_front}
use Rattle.capn_show.specs.declared.fault.Broken.{Broken}
use Rattle.capn_show.specs.Outgoing.{Outgoing, Adds, BreaksOff}
use Rattle.capn_show.proofs.shared.Appended.{both, otherwise, otherwise-broken, then-broken, broken-before}

-- A list of `n` spaces.
abbrev blanks : ℕ → List ℕ
blanks n = replicate n 32

spaces : (a b c : ℕ) → a + b ≡ c → blanks (2 * a) ++ blanks (2 * b) ≡ blanks (2 * c)
spaces a b c e =
    let all : 2 * a + 2 * b ≡ 2 * c = omega arith in
    replicate-append-replicate (2 * a) (2 * b) 32 ∙ ap blanks all

module _ (p q r : Outgoing) (done : ℕ) where
  pub spaces-more : Adds p q (blanks (2 * done)) → Adds q r (blanks 64)
      → Adds p r (blanks (2 * (done + 32)))
  spaces-more h k =
      otherwise p r _ _ (spaces done 32 (done + 32) refl) (both p q r (blanks (2 * done)) (blanks 64) h k)

  pub spaces-all : (level : ℕ) → done ≤ level → level - done ≤ 32 → Adds p q (blanks (2 * done))
      → Adds q r (take (2 * (level - done)) (blanks 64)) → Adds p r (blanks (2 * level))
  spaces-all level low last h k =
      otherwise p r _ _ (ap (λ (l : List ℕ). blanks (2 * done) ++ l)
      (take-replicate (2 * (level - done)) 64 32 (omega arith)) ∙ spaces done (level - done) level (omega arith))
      (both p q r (blanks (2 * done)) (take (2 * (level - done)) (blanks 64)) h k)

  pub spaces-cut : (e : Broken) (level : ℕ) → done + 32 ≤ level → Adds p q (blanks (2 * done))
      → BreaksOff q r e (blanks 64) → BreaksOff p r e (blanks (2 * level))
  spaces-cut e level low h k =
      otherwise-broken p r e _ _ (ap (λ (l : List ℕ). l ++ blanks (2 * (level - (done + 32))))
      (spaces done 32 (done + 32) refl)
      ∙ spaces (done + 32) (level - (done + 32)) level (omega arith))
      (broken-before p r e (blanks (2 * done) ++ blanks 64) (blanks (2 * (level - (done + 32))))
      (then-broken p q r e (blanks (2 * done)) (blanks 64) h k))

  pub spaces-cut-last : (e : Broken) (level : ℕ) → done ≤ level → level - done ≤ 32 → Adds p q (blanks (2 * done))
      → BreaksOff q r e (take (2 * (level - done)) (blanks 64)) → BreaksOff p r e (blanks (2 * level))
  spaces-cut-last e level low last h k =
      otherwise-broken p r e _ _ (ap (λ (l : List ℕ). blanks (2 * done) ++ l)
      (take-replicate (2 * (level - done)) 64 32 (omega arith)) ∙ spaces done (level - done) level (omega arith))
      (then-broken p q r e (blanks (2 * done)) (take (2 * (level - done)) (blanks 64)) h k)

-- An indent of `level`, the bytes `x` and a newline are `line level x`.
pub lined : (level : ℕ) (x : List ℕ) → replicate (2 * level) 32 ++ (x ++ 10 ∷ []) ≡ line level x
unfolding line
lined level x = refl

pub named-lined : (level : ℕ) (name : List ℕ) (n : ℕ)
    → replicate (2 * level) 32 ++ (name ++ (32 ∷ [] ++ (decimal n ++ 10 ∷ []))) ≡ line level (named name n)
named-lined level name n =
    ap (λ (l : List ℕ). replicate (2 * level) 32 ++ l) (sym (append_assoc name (32 ∷ decimal n) (10 ∷ [])))
    ∙ lined level (named name n)

pub body-lined : (level w s : ℕ)
    → replicate (2 * level) 32 ++ (codes "struct " ++ ((decimal w ++ 32 ∷ []) ++ (decimal s ++ 10 ∷ [])))
    ≡ body_line level w s
body-lined level w s =
    ap (λ (l : List ℕ). replicate (2 * level) 32 ++ l)
    (ap (λ (l : List ℕ). codes "struct " ++ l)
    (append_assoc (decimal w) (32 ∷ []) (decimal s ++ 10 ∷ [])
    ∙ sym (append_assoc (decimal w) (32 ∷ decimal s) (10 ∷ [])))
    ∙ sym (append_assoc (codes "struct ") (decimal w ++ 32 ∷ decimal s) (10 ∷ [])))
    ∙ lined level (codes "struct " ++ (decimal w ++ 32 ∷ decimal s))

pub quoted-lined : (level n : ℕ) (text : List ℕ) → quoted_front level n ++ (text ++ 34 ∷ 10 ∷ [])
    ≡ line level (named (codes "bytes") n ++ 32 ∷ 34 ∷ (text ++ 34 ∷ []))
quoted-lined level n text =
    let all = text ++ 34 ∷ 10 ∷ [] in
    let said = 32 ∷ 34 ∷ (text ++ 34 ∷ []) in
    append_assoc (replicate (2 * level) 32) (codes "bytes " ++ ((decimal n ++ 32 ∷ []) ++ 34 ∷ [])) all
    ∙ ap (λ (l : List ℕ). replicate (2 * level) 32 ++ (codes "bytes " ++ l))
    (append_assoc (decimal n ++ 32 ∷ []) (34 ∷ []) all
    ∙ append_assoc (decimal n) (32 ∷ []) (34 ∷ all)
    ∙ ap (λ (l : List ℕ). decimal n ++ 32 ∷ 34 ∷ l) (sym (append_assoc text (34 ∷ []) (10 ∷ [])))
    ∙ sym (append_assoc (decimal n) said (10 ∷ [])))
    ∙ lined level (named (codes "bytes") n ++ said)

pub word-lined : (level w : ℕ)
    → replicate (2 * level) 32 ++ (codes "word " ++ (hex16 w ++ 10 ∷ [])) ≡ line level (codes "word " ++ hex16 w)
word-lined level w =
    ap (λ (l : List ℕ). replicate (2 * level) 32 ++ l) (sym (append_assoc (codes "word ") (hex16 w) (10 ∷ [])))
    ∙ lined level (codes "word " ++ hex16 w)
