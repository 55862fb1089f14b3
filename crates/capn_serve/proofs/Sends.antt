-- Lemmas on text that is added to the output of a run, and is written at once or later.
use Rattle.std.proofs.Common.{◌≡◌, inl, inr, ℕ, ◌+◌, List, [], ◌++◌, length, take, Option, ap, sym, subst, ◌∙◌}
use Rattle.std.proofs.Common.{append-nil, append_assoc, arith, length-take}
use Rattle.std.proofs.Math.Seq.{take-append-add, take-append_seam, take_all}
use Rattle.std.proofs.lemmas.List.{take-take}
use Rattle.std.proofs.lemmas.Bool.{cases_lt}
use Rattle.std.specs.Io.KnownBytes.{Appends}
use Rattle.std.proofs.KnownBytes.{Appends-nil, Appends-trans}
use Rattle.capn_words.specs.Watched.{HasBegun}
use Rattle.capn_serve.specs.Outgoing.{Outgoing, Adds, Breaks, outgoing, sent}

pub adds_none : (a : Outgoing) → Adds a a []
adds_none a = ([], Appends-nil a.taken, sym (append-nil a.kept))

both_kept : (a b : Outgoing) (w t u : List ℕ) → w ++ b.kept ≡ a.kept ++ t → w ++ (b.kept ++ u) ≡ a.kept ++ (t ++ u)
both_kept a b w t u e = sym (append_assoc w b.kept u) ∙ ap (λ (p : List ℕ). p ++ u) e ∙ append_assoc a.kept t u

pub adds_more : (a b c : Outgoing) (t u : List ℕ) → Adds a b t → Adds b c u → Adds a c (t ++ u)
adds_more a b c t u (w, f, e) (v, g, d) = (
  w ++ v,
  Appends-trans a.taken b.taken c.taken w v f g,
  append_assoc w v c.kept ∙ ap (λ (p : List ℕ). w ++ p) d ∙ both_kept a b w t u e,
)

pub breaks_behind : (a b c : Outgoing) (t u : List ℕ) (count : ℕ) → Adds a b t → Breaks b c count u → (n : ℕ)
    × Breaks a c n (t ++ u)
breaks_behind a b c t u count (w, f, e) broken =
    let front : w ++ take count (b.kept ++ u) ≡ take (length w + count) (a.kept ++ (t ++ u)) =
    sym (take-append-add w (b.kept ++ u) count)
    ∙ ap (λ (p : List ℕ). take (length w + count) p) (both_kept a b w t u e) in (
      length w + count,
      subst (Appends a.taken c.taken) front
          (Appends-trans a.taken b.taken c.taken w (take count (b.kept ++ u)) f broken),
    )

pub adds_sent : (c d : Option (List ℕ)) (text : List ℕ) → Adds (sent c) (sent d) text → Appends c d text
adds_sent c d text (w, f, e) = subst (Appends c d) (sym (append-nil w) ∙ e) f

pub adds_all : (a : Outgoing) (d e : Option (List ℕ)) (kept text : List ℕ) → Adds a (outgoing d kept) text
    → Appends d e kept → Adds a (sent e) text
adds_all a d e kept text (w, f, is) wrote =
    (w ++ kept, Appends-trans a.taken d e w kept f wrote, append-nil (w ++ kept) ∙ is)

pub breaks_rest : (a : Outgoing) (d e : Option (List ℕ)) (kept text : List ℕ) (count : ℕ)
    → Adds a (outgoing d kept) text → Appends d e (take count kept) → (n : ℕ) × Breaks a (sent e) n text
breaks_rest a d e kept text count (w, f, is) wrote =
    let front : w ++ take count kept ≡ take (length w + count) (a.kept ++ text) =
    sym (take-append-add w kept count) ∙ ap (λ (p : List ℕ). take (length w + count) p) is in
    (length w + count, subst (Appends a.taken e) front (Appends-trans a.taken d e w (take count kept) f wrote))

-- ---- a prefix of a prefix

take_less : (m n : ℕ) (l : List ℕ) → (k : ℕ) × (take m (take n l) ≡ take k l)
take_less m n l = elim (cases_lt n m) [
  | inl less ↦ (n, take_all m (take n l) (omega (arith, less, length-take n l)))
  | inr more ↦ (m, take-take m n l more)
]

pub breaks_less : (a b : Outgoing) (n count : ℕ) (text : List ℕ) → Breaks a b n (take count text) → (k : ℕ)
    × Breaks a b k text
breaks_less a b n count text broken =
    let front : a.kept ++ take count text ≡ take (length a.kept + count) (a.kept ++ text) =
    sym (take-append-add a.kept text count) in
    let less = take_less n (length a.kept + count) (a.kept ++ text) in
    (less.0, subst (Appends a.taken b.taken) (ap (λ (p : List ℕ). take n p) front ∙ less.1) broken)

pub begun_less : (c d : Option (List ℕ)) (count : ℕ) (text : List ℕ) → HasBegun c d (take count text)
    → HasBegun c d text
begun_less c d count text (n, wrote) =
    let less = take_less n count text in (less.0, subst (Appends c d) less.1 wrote)

pub adds_begun : (c : Option (List ℕ)) (b : Outgoing) (text : List ℕ) → Adds (sent c) b text → HasBegun c b.taken text
adds_begun c b text (w, f, is) =
    let front : w ≡ take (length w) text =
    sym (take-append_seam w b.kept) ∙ ap (λ (p : List ℕ). take (length w) p) is in
    (length w, subst (Appends c b.taken) front f)
