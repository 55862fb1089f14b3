-- Lemmas for `next_text.rt`, `progress.rt` and `whole_texts.rt`: the texts of an input are parsed one after the other.
use Rattle.std.specs.Prelude.{IfErr}
use Rattle.std.proofs.Common.{◌≡◌, ◌≢◌, ◌⊎◌, Bool, true, false, inl, inr, ℕ, ◌+◌, ◌≤◌, List, [], ◌∷◌, ◌++◌, length}
use Rattle.std.proofs.Common.{drop, Some, Result, Ok, Err, refl, sym, ap, ap₂, subst, ◌∙◌, append_assoc, arith, Vec}
use Rattle.std.proofs.lemmas.List.{length-append}
use Rattle.capn_value.specs.Tree.{Tree}
use Rattle.capn_value.specs.Text.{show_text}
use Rattle.capn_value.specs.Cost.{height, most_height}
use Rattle.capn_value.specs.Fits.{misfit}
use Rattle.capn_value.specs.InRange.{InRange}
use Rattle.capn_value.specs.declared.misfit.Misfit.{Misfit}
use Rattle.capn_value.specs.declared.misfit.Misfit.TheVariants.{Tall}
use Rattle.capn_text.specs.Showable.{IsShowable}
use Rattle.capn_text.specs.Streams.{Place, end_line, ended_lines, ended_text, stream_text, IsFirstWrong, GoesTooDeep}
use Rattle.capn_text.specs.Streams.{IsWrongAt, Names}
use Rattle.capn_text.specs.declared.fault.TextFault.{TextFault}
use Rattle.capn_text.specs.declared.fault.TextFault.TheVariants as texts
use Rattle.capn_canon.specs.declared.form.Form.{Form}
use Rattle.capn_canon.specs.declared.form.Form.TheVariants as forms
use Rattle.capn_make.specs.MadeInput.{IsTextRefused, IsWrong, MakesEach}
use Rattle.capn_make.specs.inner.RunParts.{HasMade, IsMadeSo, GoesOn, IsAfter, MakesNext, HasCapability, TellsCut}
use Rattle.capn_make.specs.inner.RunParts.{TellsEnd, is_cut, unread}
use Rattle.capn_make.specs.declared.fault.MakeFault.{MakeFault}
use Rattle.capn_make.specs.declared.fault.MakeFault.TheVariants as faults
use Rattle.capn_make.proofs.FirstTexts.{lines_append, first_more, made_more}
use Rattle.capn_make.proofs.OneRefusal.{nil_front}

-- ---- places

pub place_after : (a b c : Place) → IsAfter a b → IsAfter b c → IsAfter a c
place_after a b c h k = (h.0 ++ k.0, h.1 ∙ ap (λ x. h.0 ++ x) k.1 ∙ sym (append_assoc h.0 k.0 c.rest))

pub after_text : (v : Tree) (old new : Place) → old.rest ≡ show_text v ++ (end_line ++ new.rest) → IsAfter old new
after_text v old new is = (show_text v ++ end_line, is ∙ sym (append_assoc (show_text v) end_line new.rest))

drop_append : (x y : List ℕ) → drop (length x) (x ++ y) ≡ y
drop_append [] y = refl
drop_append (c ∷ cs) y = drop_append cs y

pub place_is : (place : Place) (rest : List ℕ) (line : ℕ) → place.rest ≡ rest → place.line ≡ line
    → place ≡ record { rest = rest; line = line }
place_is place rest line r l = ap₂ (λ (x : List ℕ) (n : ℕ). record { rest = x; line = n }) r l

pub left_after : (old new : Place) → IsAfter old new → (length new.rest ≤ length old.rest)
left_after old new h = let e = ap length h.1 ∙ length-append h.0 new.rest in omega arith

pub none_left : (xs : List ℕ) → length xs ≤ 0 → xs ≡ []
none_left [] le = refl
none_left (x ∷ xs) le = absurd (omega arith)

pub left_before : (old new : Place) → IsAfter old new → new.rest ≢ [] → old.rest ≢ []
left_before old new h some none =
    let less = left_after old new h in
    let empty = ap length none in
    some (none_left new.rest (omega arith))

pub text_left : (v : Tree) (old rest : List ℕ) → old ≡ show_text v ++ (end_line ++ rest) → old ≢ []
text_left v old rest is none =
    let all = length-append (show_text v) (end_line ++ rest) in
    let end = length-append end_line rest in
    let four : length end_line ≡ 4 = refl in
    let empty : length (show_text v ++ (end_line ++ rest)) ≡ 0 = ap length (sym is ∙ none) in
    omega arith

pub dropped_after : (old new : Place) (count : ℕ) → IsAfter old new → count + length new.rest ≡ length old.rest
    → drop count old.rest ≡ new.rest
dropped_after old new count h size =
    let e = ap length h.1 ∙ length-append h.0 new.rest in
    let same : count ≡ length h.0 = omega arith in
    ap (λ n. drop n old.rest) same ∙ ap (drop (length h.0)) h.1 ∙ drop_append h.0 new.rest

-- ---- texts

made_so : (form : Form) (input made : List ℕ) (r : Result (Unit {0}) MakeFault) → (form ≡ forms.Bare → ⊥)
    → MakesEach form input made r → IsMadeSo form input made r
made_so forms.Stream input made r framed h = h
made_so forms.Packed input made r framed h = h
made_so forms.Bare input made r framed h = absurd (framed refl)

module _ (form : Form) (input : List ℕ) where
  pub none_made : HasMade form input (record { rest = input; line = 1 }) []
  none_made = record {
    values = [];
    first = record { each = tt; are = refl };
    are = refl;
    line = refl;
    few = λ e. omega arith;
  }

  pub one_more : (A : Type 0) (old new : Place) (made : List ℕ) (piece : Vec ℕ A) (h : HasMade form input old made)
      → MakesNext {A = A} form old new (Ok (Some piece)) → (form ≡ forms.Bare → h.values ≡ [])
      → HasMade form input new (made ++ piece.items)
  one_more A old new made piece h next few =
      let vs = h.values ++ next.0 ∷ [] in
      let first = first_more h.values next.0 input old.rest new.rest h.first next.1 next.2 in
      let before = ap ended_lines h.first.are ∙ lines_append (stream_text h.values) old.rest in
      let after = ap ended_lines first.are ∙ lines_append (stream_text vs) new.rest in
      let counted = next.4 in
      let was = h.line in
      record {
        values = vs;
        first = first;
        are = made_more form h.values made next.0 piece.items h.are next.3;
        line = omega arith;
        few = λ e.
            let size = ap length (ap (λ us. us ++ next.0 ∷ []) (few e)) in
            let one : length (next.0 ∷ []) ≡ 1 = refl in
            omega arith;
      }

  pub all_made : (place : Place) (made : List ℕ) (u : Unit {0}) → (form ≡ forms.Bare → ⊥)
      → HasMade form input place made → place.rest ≡ [] → GoesOn form input place made (Ok u)
  all_made place made u framed h over =
      (h, made_so form input made (Ok u) framed (h.values, place.rest, h.first, h.are, over), over)

  pub next_refused : (A : Type 0) (old new : Place) (made : List ℕ) (fault : MakeFault) → (form ≡ forms.Bare → ⊥)
      → HasMade form input old made → MakesNext {A = A} form old new (Err fault)
      → GoesOn form input new made (Err fault)
  next_refused A old new made fault framed h (inl memory) = inl memory
  next_refused A old new made fault framed h (inr (at, refused)) = inr (
    elim at [
      | inl capability ↦ inl capability
      | inr same ↦ inr (subst (λ p. HasMade form input p made) (sym same) h)
    ],
    made_so form input made (Err fault) framed (
      h.values,
      old.rest,
      h.first,
      h.are,
      subst (λ n. IsTextRefused n old.rest fault) h.line refused,
    ),
  )

-- ---- the reason why the next text is refused

pub wrong_on : (line : ℕ) (rest more : List ℕ) (n : ℕ) → rest ≢ [] → IsWrongAt line (rest ++ more) n
    → IsWrong line (rest ++ more) n
wrong_on line rest more n some h =
    record { some = λ e. some (nil_front rest more (sym e)); none = h.0; first = (h.1, h.2, h.3) }

-- If `e` is the fault of parsing the next text, `unread line e` is `Memory`, or `rest` is refused with `unread line e`.
pub refused_text : (line : ℕ) (rest : List ℕ) (e : TextFault) → rest ≢ []
    → ((n : ℕ) → Names e n → (v : Tree) (more : List ℕ) → IsShowable v → height v ≤ most_height
    → rest ≢ show_text v ++ (end_line ++ more))
    → ((n : ℕ) → Names e n → (k : ℕ) × (n + 1 ≡ line + k) × IsFirstWrong ended_text k rest)
    → ((m : Misfit) → e ≡ texts.Misfit m → ((m ≡ Tall) × GoesTooDeep rest) ⊎ ((v : Tree) × (more : List ℕ)
    × InRange v × IsShowable v × (height v ≤ most_height) × (rest ≡ show_text v ++ (end_line ++ more))
    × (misfit v ≡ Some m)))
    → (unread line e ≡ faults.Memory) ⊎ IsTextRefused line rest (unread line e)
refused_text line rest texts.Memory some none first mis = inl refl
refused_text line rest (texts.Line n) some none first mis =
    inr (record { some = some; none = none n (inl refl); first = first n (inl refl) })
refused_text line rest (texts.Cut n) some none first mis =
    inr (record { some = some; none = none n (inr refl); first = first n (inr refl) })
refused_text line rest (texts.Misfit m) some none first mis = inr (refl, mis m refl)

pub named_line : (line : ℕ) (e : TextFault) (n : ℕ) → unread line e ≡ faults.NotText n
    → (is_cut e ≡ true → e ≡ texts.Cut n) × (is_cut e ≡ false → e ≡ texts.Line n)
named_line line texts.Memory n is = absurd cc
named_line line (texts.Line k) n is = (λ b. absurd cc, λ b. cc)
named_line line (texts.Cut k) n is = (λ b. cc, λ b. absurd cc)
named_line line (texts.Misfit m) n is = absurd cc

pub refused_next : (old new : Place) (fault : MakeFault) → new ≡ old
    → (fault ≡ faults.Memory) ⊎ IsTextRefused old.line old.rest fault
    → (fault ≡ faults.Memory) ⊎ ((HasCapability fault ⊎ (new ≡ old)) × IsTextRefused old.line old.rest fault)
refused_next old new fault kept (inl memory) = inl memory
refused_next old new fault kept (inr refused) = inr (inr kept, refused)

pub kept_for : (A : Type 0) (form : Form) (old new : Place) (fault : MakeFault) (n : ℕ)
    → MakesNext {A = A} form old new (Err fault) → fault ≡ faults.NotText n → new ≡ old
kept_for A form old new fault n (inl memory) is = let same = sym memory ∙ is in absurd cc
kept_for A form old new fault n (inr (inl c, refused)) is = let same = sym c.2 ∙ is in absurd cc
kept_for A form old new fault n (inr (inr same, refused)) is = same

pub end_tells : (place : Place) (cut : Bool) (r : Result (Unit {0}) MakeFault) → (place.line ≡ 1 → ⊥)
    → IfErr r (λ e. TellsEnd place cut e) → IfErr r (λ e. TellsCut forms.Bare place cut e)
end_tells place cut (Ok u) later h = tt
end_tells place cut (Err e) later h =
    λ n is. (
      λ b. let t = (h n is).0 b in (inr (refl, later, t.0), t.1),
      λ b. inr (refl, later, (h n is).1 b),
    )

pub not_text_is : (m n : ℕ) → faults.NotText m ≡ faults.NotText n → m ≡ n
not_text_is m n e = cc
