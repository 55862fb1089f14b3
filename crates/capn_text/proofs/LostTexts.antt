-- Lemmas for `one_text.rt` and `texts.rt`: texts that no bytes can complete, and texts that some bytes can complete.
use Rattle.std.proofs.Common.{◌≡◌, ◌≢◌, ◌≤◌, ◌+◌, ◌-◌, ℕ, List, [], ◌++◌, length, take, Option, Some, None, inl, inr}
use Rattle.std.proofs.Common.{refl, sym, ap, subst, ◌∙◌, append_assoc, arith}
use Rattle.std.proofs.Common.{Bool, true, false, cond}
use Rattle.std.specs.Prelude.{nat_lt}
use Rattle.std.proofs.lemmas.Bool.{cases_lt, ltb-true}
use Rattle.std.proofs.lemmas.List.{length-append}
use Rattle.capn_value.specs.Tree.{Tree, nil}
use Rattle.capn_value.specs.Cost.{height, most_height}
use Rattle.capn_value.specs.Text.{show_text}
use Rattle.capn_text.specs.Showable.{IsShowable}
use Rattle.capn_text.specs.Streams.{end_line, ended_lines, ended_text, IsFirstWrong, MayGoOn, Names, few}
use Rattle.capn_text.specs.inner.Stops.{Stops, IsLost, IsOpen, IsLineLost, LineFails, stop_in}
use Rattle.capn_text.specs.declared.fault.Stop.{Stop}
use Rattle.capn_text.specs.declared.fault.Stop.TheVariants as stops
use Rattle.capn_text.specs.declared.fault.TextFault.{TextFault}
use Rattle.capn_text.specs.inner.Tokens.{strip}
use Rattle.capn_text.specs.inner.Values.{head_at, tree_at}
use Rattle.capn_text.specs.declared.fault.TextFault.TheVariants as faults
use Rattle.capn_text.proofs.TokenText.{strip_takes, strip_again}
use Rattle.capn_text.proofs.TreeOfText.{apart}
use Rattle.capn_text.proofs.ShowableValues.{in_range}
use Rattle.capn_text.proofs.FittingText.{before, no_first}
use Rattle.capn_text.proofs.Heights.{tree_low}
use Rattle.capn_text.proofs.ValueOfParts.{no_head}
use Rattle.capn_text.proofs.WholeLines.{first_front}
use Rattle.capn_text.proofs.TreeStops.{tree_by, tree_local}
use Rattle.capn_text.proofs.FirstWrong.{completed, first_wrong, first_line_wrong, no_end_wrong}
use Rattle.capn_text.proofs.WrongOrDeep.{within, beyond}
use Rattle.capn_text.proofs.LostLines.{split}

-- ---- the line of a fault

pub line_named : (m n : ℕ) → Names (faults.Line m) n → m ≡ n
line_named m n (inl e) = cc
line_named m n (inr e) = absurd cc

pub cut_named : (m n : ℕ) → Names (faults.Cut m) n → m ≡ n
cut_named m n (inl e) = absurd cc
cut_named m n (inr e) = cc

pub same_named : (e : TextFault) (m n : ℕ) → Names e m → Names e n → m ≡ n
same_named e m n (inl h) (inl k) = let same = sym h ∙ k in cc
same_named e m n (inl h) (inr k) = let same = sym h ∙ k in absurd cc
same_named e m n (inr h) (inl k) = let same = sym h ∙ k in absurd cc
same_named e m n (inr h) (inr k) = let same = sym h ∙ k in cc

pub names_no_memory : (e : TextFault) (n : ℕ) → Names e n → e ≡ faults.Memory → ⊥
names_no_memory e n (inl h) m = let same = sym h ∙ m in absurd cc
names_no_memory e n (inr h) m = let same = sym h ∙ m in absurd cc

-- ---- a line by its length

module _ {X : Type 0} (read : List ℕ → Option (X × List ℕ)) (t : List ℕ) (e : Stop) (is : e ≡ stop_in t)
    (h : LineFails e read t) where
  by_length : (b : Bool) → nat_lt (length t) few ≡ b
      → LineFails (cond b (stops.Cut (length t)) (stops.Left (length t))) read t
  by_length b same =
      subst (λ s. LineFails s read t) (is ∙ ap (λ k. cond k (stops.Cut (length t)) (stops.Left (length t))) same) h

  pub fails_short : true ≡ nat_lt (length t) few → LineFails (stops.Cut (length t)) read t
  fails_short short = by_length true (sym short)

  pub fails_long : false ≡ nat_lt (length t) few → LineFails (stops.Left (length t)) read t
  fails_long long = by_length false (sym long)

pub is_few : (t : List ℕ) → true ≡ nat_lt (length t) few → length t ≤ few
is_few t short = let low = ltb-true (length t) few (sym short) in omega arith

-- ---- refused whatever follows

stops_on : (t : List ℕ) (n : ℕ) → Stops (tree_by 0) 256 t n → IsLost (tree_by 0) 256 t → (more : List ℕ)
    → Stops (tree_by 0) 256 (t ++ more) (n + length more)
stops_on t n h lost more = (
  h.0,
  h.1 ++ more,
  ap (λ x. x ++ more) h.2 ∙ append_assoc h.0 h.1 more,
  length-append h.1 more ∙ ap (λ k. k + length more) h.3,
  h.4,
  λ r z low same. elim (cases_lt (ended_lines h.1) 1) [
    | inl none ↦
        (let b = beyond 1 h.1 more none in
        let f = first_front 1 z in
        let is : z ≡ h.1 ++ (b.0 ++ f.0) =
        f.1 ∙ ap (λ x. x ++ f.0) (same ∙ b.1) ∙ append_assoc h.1 b.0 f.0 in
        ap (λ x. tree_at r 0 (h.0 ++ x)) is
        ∙ ap (tree_at r 0) (sym (append_assoc h.0 h.1 (b.0 ++ f.0)) ∙ ap (λ x. x ++ (b.0 ++ f.0)) (sym h.2))
        ∙ lost r (b.0 ++ f.0) low)
    | inr some ↦ h.5 r z low (same ∙ within 1 h.1 more (omega arith))
  ],
)

stop_line : (t : List ℕ) (n : ℕ) → (h : Stops (tree_by 0) 256 t n)
    → ended_lines (take (length t - n) t) ≡ ended_lines h.0
stop_line t n h = ap ended_lines (ap (λ m. take (length t - m) t) (sym h.3) ∙ before t h.0 h.1 h.2)

pub lost_wrong : (t : List ℕ) (n : ℕ) → Stops (tree_by 0) 256 t n → IsLost (tree_by 0) 256 t → (more : List ℕ)
    → IsFirstWrong ended_text (ended_lines (take (length t - n) t) + 1) (t ++ more)
unfolding stops_on
lost_wrong t n h lost more =
    let s = stops_on t n h lost more in
    let line = stop_line (t ++ more) (n + length more) s ∙ sym (stop_line t n h) in
    subst (λ m. IsFirstWrong ended_text (m + 1) (t ++ more)) line
    (first_wrong ended_text end_line (λ v. refl) (t ++ more) (n + length more) s)

pub lost_none : (t : List ℕ) → IsLost (tree_by 0) 256 t → (more : List ℕ) (v : Tree) (rest : List ℕ)
    → IsShowable v → height v ≤ most_height → t ++ more ≢ show_text v ++ rest
lost_none t lost more v rest s low e = no_first (t ++ more) v rest (lost 256 more (omega arith)) s low e

-- If no first line is read from `t ++ z`, for any bytes `z`, line 1 of `t ++ more` is the first wrong line.
pub head_wrong : (t : List ℕ) → IsLineLost (head_at 0) t → (more : List ℕ) → IsFirstWrong ended_text 1 (t ++ more)
head_wrong t lost more = first_line_wrong ended_text end_line (λ v. refl) (t ++ more) (lost more)

pub head_none : (t : List ℕ) → IsLineLost (head_at 0) t → (more : List ℕ) (v : Tree) (rest : List ℕ)
    → IsShowable v → height v ≤ most_height → t ++ more ≢ show_text v ++ rest
head_none t lost more v rest s low e = no_first (t ++ more) v rest (no_head 256 0 (t ++ more) (lost more)) s low e

-- If the line after the text of `v` is not `end`, that line is the first wrong line of `t ++ more`.
pub end_wrong : (t : List ℕ) (v : Tree) (after more : List ℕ) → tree_at 256 0 t ≡ Some (v, after)
    → strip end_line (after ++ more) ≡ None → IsFirstWrong ended_text (ended_lines (show_text v) + 1) (t ++ more)
end_wrong t v after more e none =
    let p = tree_local 256 0 t v after e in
    let read = ap (tree_at 256 0) (ap (λ x. x ++ more) p.1 ∙ append_assoc p.0 after more)
    ∙ p.3 256 (after ++ more) (omega arith) in
    no_end_wrong (t ++ more) v (after ++ more) read none

no_end_by : (after more : List ℕ) → strip end_line after ≡ None → 4 ≤ length after → (o : Option (List ℕ))
    → strip end_line (after ++ more) ≡ o → strip end_line (after ++ more) ≡ None
no_end_by after more none long (Some r) e =
    let u = split after end_line r more (strip_takes end_line (after ++ more) r e) long in
    let some = sym none ∙ ap (strip end_line) u.1 ∙ strip_again end_line u.0 in
    absurd cc
no_end_by after more none long None e = e

-- If `after` has at least four bytes and does not begin with the line `end`, `after ++ more` does not begin with it
-- either.
pub no_end_on : (after more : List ℕ) → strip end_line after ≡ None → 4 ≤ length after
    → strip end_line (after ++ more) ≡ None
no_end_on after more none long = no_end_by after more none long (strip end_line (after ++ more)) refl

pub end_none : (t : List ℕ) (v : Tree) (after more : List ℕ) → t ≡ show_text v ++ after → IsShowable v
    → strip end_line (after ++ more) ≡ None → (w : Tree) (rest : List ℕ) → IsShowable w
    → t ++ more ≢ show_text w ++ (end_line ++ rest)
end_none t v after more is s none w rest sw e =
    let both = sym (ap (λ x. x ++ more) is ∙ append_assoc (show_text v) after more) ∙ e in
    let p = apart 0 v w (after ++ more) (end_line ++ rest) s sw both in
    let some = sym none ∙ ap (strip end_line) p.1 ∙ strip_again end_line rest in
    absurd cc

-- ---- texts that can still be completed

pub open_text : (t : List ℕ) → IsOpen (tree_by 0) 256 t → MayGoOn t
open_text t o =
    let whole = o.6 256 (omega arith) in
    let c = completed 256 o.0 o.4 o.5 whole in (
      o.0,
      o.1,
      o.2,
      o.3,
      o.5,
      o.4 ++ end_line,
      c.1,
      in_range o.5 c.1,
      tree_low 256 0 (o.0 ++ o.4) o.5 [] whole,
      sym (append_assoc o.0 o.4 end_line) ∙ ap (λ x. x ++ end_line) (sym c.0),
    )

pub open_head : (t : List ℕ) → length t ≤ few → MayGoOn t
open_head t short = ([], t, refl, short, nil, ended_text nil, tt, in_range nil tt, omega arith, refl)

pub open_end : (t : List ℕ) (v : Tree) (after : List ℕ) → t ≡ show_text v ++ after → IsShowable v
    → height v ≤ most_height → length after ≤ 4 → MayGoOn t
open_end t v after is s low short =
    (show_text v, after, is, omega arith, v, end_line, s, in_range v s, low, refl)
