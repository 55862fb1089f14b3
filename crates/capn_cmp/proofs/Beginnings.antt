-- Lemmas for `begin_text` and `end_text`: the prefix of a text that the writer has stored.
use Rattle.std.proofs.Common.{◌≡◌, ℕ, List, [], ◌∷◌, ◌++◌, Bool, Some, take, drop, refl, sym, ap, subst, ◌∙◌}
use Rattle.std.proofs.lemmas.List.{append_assoc, take-append-drop}
use Rattle.capn_words.specs.Message.{IsBare}
use Rattle.capn_words.specs.Watched.{HasBegun}
use Rattle.capn_value.specs.Tree.{Tree}
use Rattle.capn_walk.specs.Accepted.{root}
use Rattle.capn_walk.specs.ValueAt.{IsAt}
use Rattle.capn_marks.specs.MarkedPart.{marked_at}
use Rattle.capn_walk.specs.Limits.{Bounds}
use Rattle.capn_show.specs.Outgoing.{Outgoing, Adds, BreaksOff}
use Rattle.capn_show.specs.Written.{IsBegun, IsUnwritten}
use Rattle.capn_show.specs.declared.fault.ShowFault.{ShowFault}
use Rattle.capn_show.specs.declared.fault.ShowFault.TheVariants as ends
use Rattle.capn_show.specs.declared.fault.Broken.{Broken}
use Rattle.capn_show.specs.declared.fault.Broken.TheVariants as broken
use Rattle.capn_cmp.specs.ShownText.{IsShownFrom, end_line, shown_with_ways, ways_alone}
use Rattle.capn_cmp.specs.inner.Ended.{IsEnded}

-- The `Outgoing` with the fields `taken`, `kept` and `failed`.
abbrev pub out : List ℕ → List ℕ → Bool → Outgoing
out taken kept failed = record { taken = Some taken; kept = kept; failed = failed }

module _ (a k b l : List ℕ) (f g : Bool) where
  -- Case: `e` ended the call before all of the line `end` was added.
  pub ended_broken : (e : Broken) → BreaksOff (out a k f) (out b l g) e end_line → IsEnded a k b
  ended_broken broken.Io (n, wrote, failed) = (
    drop n (k ++ end_line),
    ap (λ (x : List ℕ). a ++ x) (sym (take-append-drop n (k ++ end_line)))
        ∙ sym (append_assoc a (take n (k ++ end_line)) (drop n (k ++ end_line)))
        ∙ ap (λ (x : List ℕ). x ++ drop n (k ++ end_line)) (sym wrote),
  )
  ended_broken broken.Memory (n, h) =
      let back : k ++ end_line ≡ h.written ++ (l ++ drop n end_line) =
      ap (λ (x : List ℕ). k ++ x) (sym (take-append-drop n end_line))
      ∙ sym (append_assoc k (take n end_line) (drop n end_line))
      ∙ ap (λ (x : List ℕ). x ++ drop n end_line) (sym h.kept)
      ∙ append_assoc h.written l (drop n end_line) in (
        l ++ drop n end_line,
        ap (λ (x : List ℕ). a ++ x) back ∙ sym (append_assoc a h.written (l ++ drop n end_line))
            ∙ ap (λ (x : List ℕ). x ++ (l ++ drop n end_line)) (sym h.taken),
      )

  -- Case: the line `end` was added, and then all or a prefix of the unwritten bytes `l` was written.
  pub ended_written : (c : List ℕ) → Adds (out a k f) (out b l g) end_line → HasBegun (Some b) (Some c) l
      → IsEnded a k c
  ended_written c h (n, wrote) = (
    drop n l,
    ap (λ (x : List ℕ). a ++ x) (sym h.kept) ∙ sym (append_assoc a h.written l)
        ∙ ap (λ (x : List ℕ). x ++ l) (sym h.taken)
        ∙ ap (λ (x : List ℕ). b ++ x) (sym (take-append-drop n l))
        ∙ sym (append_assoc b (take n l) (drop n l)) ∙ ap (λ (x : List ℕ). x ++ drop n l) (sym wrote),
  )

pub begun_of : (m : List (List ℕ)) (limits : Bounds) (of : Tree → List ℕ) (fault : ShowFault) (p q : Outgoing)
    → fault ≡ ends.Io → IsUnwritten m limits of fault p q → IsBegun m limits of p q broken.Io
begun_of m limits of fault p q is h = subst (λ (f : ShowFault). IsUnwritten m limits of f p q) is h

-- ---- the text of canonical bytes

module _ (bytes words : List ℕ) (v : Tree) (bare : IsBare bytes words) (is : IsAt (words ∷ []) root v) where
  abbrev text : List ℕ
  text = marked_at (words ∷ []) ways_alone [] v

  from : (beginning more : List ℕ) → text ++ end_line ≡ beginning ++ more → IsShownFrom bytes beginning
  from beginning more same = (
    shown_with_ways words v,
    more,
    record { words = words; value = v; bare = bare; is = is; shown = refl },
    same,
  )

  module _ (a k : List ℕ) (none : a ≡ []) (nothing : k ≡ []) where
    pub whole_from : (b l c : List ℕ) (f g : Bool) → Adds (out a k f) (out b l g) text → IsEnded b l c
        → IsShownFrom bytes c
    whole_from b l c f g h (more, same) =
        let first : b ≡ h.written = h.taken ∙ ap (λ (x : List ℕ). x ++ h.written) none in
        let shown : b ++ l ≡ text = ap (λ (x : List ℕ). x ++ l) first ∙ h.kept
        ∙ ap (λ (x : List ℕ). x ++ text) nothing in
        from c more (ap (λ (x : List ℕ). x ++ end_line) (sym shown) ∙ append_assoc b l end_line ∙ same)

    pub part_from : (b l : List ℕ) (f g : Bool) → BreaksOff (out a k f) (out b l g) broken.Io text
        → IsShownFrom bytes b
    part_from b l f g (n, wrote, failed) =
        let first : b ≡ take n text = wrote ∙ ap (λ (x : List ℕ). x ++ take n (k ++ text)) none
        ∙ ap (λ (x : List ℕ). take n (x ++ text)) nothing in
        from b (drop n text ++ end_line)
        (ap (λ (x : List ℕ). x ++ end_line) (sym (take-append-drop n text))
        ∙ append_assoc (take n text) (drop n text) end_line
        ∙ ap (λ (x : List ℕ). x ++ (drop n text ++ end_line)) (sym first))
