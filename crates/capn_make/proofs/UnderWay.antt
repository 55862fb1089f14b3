-- Lemmas for `feed`, `finish` and `make`: the state of a run between two chunks.
use Rattle.std.proofs.Common.{◌≡◌, ◌≢◌, inl, inr, ℕ, ◌^◌, ◌≤◌, List, [], ◌++◌, length, Bool, false, Option}
use Rattle.std.proofs.Common.{Result, Err, refl, sym, ap, subst, ◌∙◌, append_assoc, arith}
use Rattle.std.proofs.lemmas.List.{append-nil, length-append}
use Rattle.std.proofs.Math.Seq.{take_all}
use Rattle.std.specs.Io.KnownBytes.{Appends}
use Rattle.std.proofs.KnownBytes.{Appends-nil}
use Rattle.capn_value.specs.Tree.{Tree}
use Rattle.capn_words.specs.Watched.{HasBegun}
use Rattle.capn_canon.specs.declared.form.Form.{Form}
use Rattle.capn_canon.specs.declared.form.Form.TheVariants as forms
use Rattle.capn_make.specs.WrittenValue.{AreMade}
use Rattle.capn_make.specs.Laws.{RefusalStays, OneEnding}
use Rattle.capn_make.specs.MakeRun.{AreInTime, HasBegunText, HasServed, IsServed}
use Rattle.capn_make.specs.inner.RunParts.{GivesMade, HasCome, IsFresh, IsKept, IsUnderWay}
use Rattle.capn_make.specs.inner.SinkRun.{Writes}
use Rattle.capn_make.specs.declared.fault.MakeFault.{MakeFault}
use Rattle.capn_make.specs.declared.fault.MakeFault.TheVariants as faults
use Rattle.capn_make.proofs.NextTexts.{none_made}
use Rattle.capn_make.proofs.TestedInput.{in_time, made_on, more_tested, none_tested, some_after}
use Rattle.capn_make.proofs.Unended.{nothing_unended, unended_on}
use Rattle.capn_make.proofs.WhateverFollows.{first_on}

-- ---- what was written

pub no_writes : (d : Option (List ℕ)) (failed : Bool) (r : Result (Unit {0}) MakeFault) → failed ≡ false
    → (r ≡ Err faults.Io → ⊥) → Writes faults.Io d d failed r
no_writes d failed r fine other = (([], Appends-nil d), (λ e. absurd (other e), λ f. absurd cc))

pub all_begun : (a b : Option (List ℕ)) (text : List ℕ) → Appends a b text → HasBegun a b text
all_begun a b text written =
    (length text, subst (Appends a b) (sym (take_all (length text) text (omega arith))) written)

pub served_by : (form : Form) (c d : Option (List ℕ)) (written made : List ℕ) (vs : List Tree)
    → IsKept form written made → AreMade form vs (written ++ made) → (form ≡ forms.Bare → length vs ≤ 1)
    → Appends c d written → IsServed form vs c d
served_by forms.Stream c d written made vs kept are few wrote =
    (written, subst (AreMade forms.Stream vs) (ap (λ t. written ++ t) kept ∙ append-nil written) are, wrote)
served_by forms.Packed c d written made vs kept are few wrote =
    (written, subst (AreMade forms.Packed vs) (ap (λ t. written ++ t) kept ∙ append-nil written) are, wrote)
served_by forms.Bare c d written made vs kept are few wrote = (few refl, subst (Appends c d) kept wrote)

pub begun_by : (form : Form) (before piece : List ℕ) (c d : Option (List ℕ)) → HasServed form before c d
    → HasBegunText form (before ++ piece) c d
begun_by forms.Stream before piece c d h =
    (h.0, h.1 ++ piece, h.4.0, first_on h.0 before h.1 piece h.2, h.4.1, all_begun c d h.4.0 h.4.2)
begun_by forms.Packed before piece c d h =
    (h.0, h.1 ++ piece, h.4.0, first_on h.0 before h.1 piece h.2, h.4.1, all_begun c d h.4.0 h.4.2)
begun_by forms.Bare before piece c d h = inl h.4.1

-- ---- between two chunks

nothing_kept : (form : Form) → IsKept form [] []
nothing_kept forms.Stream = refl
nothing_kept forms.Packed = refl
nothing_kept forms.Bare = refl

pub begins : OneEnding → (form : Form) (c : Option (List ℕ)) (made rest : List ℕ) (line tested : ℕ)
    → IsFresh made rest line tested → IsUnderWay form [] c c made rest line tested
begins one form c made rest line tested (none, empty, at, nothing) =
    rw (none, empty, at, nothing) record {
      written = [];
      wrote = Appends-nil c;
      kept = nothing_kept form;
      made_so_far = none_made form [];
      tested_so_far = none_tested one form;
      short = omega arith;
      unended = nothing_unended;
    }

module _ (form : Form) (input : List ℕ) (c d : Option (List ℕ)) (made rest : List ℕ) (line tested : ℕ)
    (u : IsUnderWay form input c d made rest line tested) where
  pub served : HasServed form input c d
  served =
      let m = u.made_so_far in (
        m.values,
        rest,
        m.first,
        u.unended,
        served_by form c d u.written made m.values u.kept m.are m.few u.wrote,
      )

  pub timely : RefusalStays → (piece : List ℕ) → length piece ≤ 65536 → AreInTime form (input ++ piece)
  timely stays piece small =
      in_time stays form tested input (u.written ++ made) rest line u.made_so_far u.tested_so_far u.short piece small

  pub unheld : (piece : List ℕ) → piece ≢ [] → (more : List ℕ)
      → GivesMade form (input ++ piece) more c d (Err faults.Memory)
  unheld piece some more = (
    inl refl,
    subst (λ t. HasBegunText form t c d) (sym (append_assoc input piece more))
        (begun_by form input (piece ++ more) c d served),
    λ e. some_after input piece some,
  )

  pub come_at : (piece new : List ℕ) (before : ℕ) → new ≡ rest ++ piece → before ≡ length rest
      → HasCome form (input ++ piece) c d made new line tested before
  come_at piece new before grown size = rw (grown, size) record {
    written = u.written;
    wrote = u.wrote;
    kept = u.kept;
    made_so_far = made_on form input (u.written ++ made) rest piece line u.made_so_far;
    tested_so_far = more_tested form tested input rest piece u.tested_so_far;
    unended = unended_on rest piece u.unended;
    begun = λ more. subst (λ t. HasBegunText form t c d) (sym (append_assoc input piece more))
        (begun_by form input (piece ++ more) c d served);
  }

  pub come_last : HasCome form input c d made rest line tested (length rest)
  come_last = record {
    written = u.written;
    wrote = u.wrote;
    kept = u.kept;
    made_so_far = u.made_so_far;
    tested_so_far = u.tested_so_far;
    unended = λ none. u.unended;
    begun = λ more. begun_by form input more c d served;
  }

  pub longer : (piece more : List ℕ) → 2 ^ 64 ≤ length (input ++ piece)
      → GivesMade form (input ++ piece) more c d (Err faults.InputTooLong)
  longer piece more long =
      let all = length-append (input ++ piece) more in (
        inr (inr (inl (refl, omega arith))),
        subst (λ t. HasBegunText form t c d) (sym (append_assoc input piece more))
            (begun_by form input (piece ++ more) c d served),
        λ e. absurd cc,
      )
