-- Lemmas on the bytes of a line that are written now or later, step by step. (For `put`, `send` and `tell`.)
use Rattle.std.proofs.Common.{◌≡◌, ◌∙◌, ℕ, zero, suc, ◌+◌, List, [], ◌∷◌, ◌++◌, length, take, Bool, true, false, Option}
use Rattle.std.proofs.Common.{Some, None, refl, ap, sym, subst, append_assoc, append-nil}
use Rattle.std.proofs.Math.Seq.{take-append-add}
use Rattle.std.specs.Io.KnownBytes.{Appends}
use Rattle.std.proofs.KnownBytes.{Appends-trans}
use Rattle.capn_words.specs.Watched.{HasBegun}
use Rattle.capn_serve.specs.Line.{Goes, Says, WritesLine, way}

pub begun_behind : (start now new : Option (List ℕ)) (front part : List ℕ) → Appends start now front
    → HasBegun now new part → HasBegun start new (front ++ part)
begun_behind start now new front part before (count, wrote) = (
  length front + count,
  rw (take-append-add front part count)
      (Appends-trans start now new front (take count part) before wrote),
)

none_appended : (c : Option (List ℕ)) → Appends c c []
none_appended None = tt
none_appended (Some xs) = sym (append-nil xs)

same_beginning : (n : ℕ) (said part : List ℕ) → (k : ℕ) × (take k (said ++ part) ≡ take n said)
same_beginning zero said part = (0, refl)
same_beginning (suc n) [] part = (0, refl)
same_beginning (suc n) (x ∷ said) part =
    let (k, same) = same_beginning n said part in (suc k, ap (λ (xs : List ℕ). x ∷ xs) same)

pub begun_longer : (start new : Option (List ℕ)) (said part : List ℕ) → HasBegun start new said
    → HasBegun start new (said ++ part)
begun_longer start new said part (count, wrote) =
    let (k, same) = same_beginning count said part in
    (k, subst (λ (text : List ℕ). Appends start new text) (sym same) wrote)

pub written : (part : List ℕ) (now new : Option (List ℕ)) (old failed : Bool) → Goes part now old new failed
    → Says part (way [] now old) (way [] new failed)
written part now new false true went = record {
  goes_on = λ start said is.
      let (front, before, all) = is in
      subst (λ (text : List ℕ). HasBegun start new (text ++ part)) (sym (all ∙ append-nil front))
      (begun_behind start now new front part before went);
}
written part now new false false went = record {
  goes_on = λ start said is.
      let (front, before, all) = is in (
        front ++ part,
        Appends-trans start now new front part before went,
        ap (λ (text : List ℕ). text ++ part) (all ∙ append-nil front) ∙ sym (append-nil (front ++ part)),
      );
}
written part now new true failed went = record {
  goes_on = λ start said is. rw (went.0, went.1) (begun_longer start now said part is);
}

pub sent : (held : List ℕ) (now new : Option (List ℕ)) (old failed : Bool) → Goes held now old new failed
    → Says [] (way held now old) (way [] new failed)
sent held now new false true went = record {
  goes_on = λ start said is.
      let (front, before, all) = is in
      subst (λ (text : List ℕ). HasBegun start new text) (sym all ∙ sym (append-nil said))
      (begun_behind start now new front held before went);
}
sent held now new false false went = record {
  goes_on = λ start said is.
      let (front, before, all) = is in (
        front ++ held,
        Appends-trans start now new front held before went,
        append-nil said ∙ all ∙ sym (append-nil (front ++ held)),
      );
}
sent held now new true failed went = record {
  goes_on = λ start said is.
      rw (went.0, went.1) (subst (λ (text : List ℕ). HasBegun start now text) (sym (append-nil said)) is);
}

pub kept_back : (held part : List ℕ) (now : Option (List ℕ)) (failed : Bool)
    → Says part (way held now failed) (way (held ++ part) now failed)
kept_back held part now true = record { goes_on = λ start said is. begun_longer start now said part is }
kept_back held part now false = record {
  goes_on = λ start said is.
      let (front, before, all) = is in
      (front, before, ap (λ (text : List ℕ). text ++ part) all ∙ append_assoc front held part);
}

written_line : (start new : Option (List ℕ)) (line : List ℕ) (failed : Bool)
    → Says line (way [] start false) (way [] new failed) → WritesLine line start new failed
written_line start new line true said = said.goes_on start [] ([], none_appended start, refl)
written_line start new line false said =
    let (front, before, all) = said.goes_on start [] ([], none_appended start, refl) in
    subst (λ (text : List ℕ). Appends start new text) (sym (all ∙ append-nil front)) before

pub ended : (first last line : List ℕ) (start new : Option (List ℕ)) (old failed : Bool) → first ≡ [] → last ≡ []
    → old ≡ false → Says line (way first start old) (way last new failed) → WritesLine line start new failed
ended first last line start new old failed none empty fine said =
    let at_once = subst (λ (held : List ℕ). Says line (way held start old) (way last new failed)) none said in
    let all = subst (λ (held : List ℕ). Says line (way [] start old) (way held new failed)) empty at_once in
    written_line start new line failed (subst (λ (f : Bool). Says line (way [] start f) (way [] new failed)) fine all)
