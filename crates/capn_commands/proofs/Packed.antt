-- Lemmas on the progress of packing. (For `pack_chunk`, `pack_last` and `pack_stream`.)
use Rattle.std.proofs.Common.{◌≡◌, inl, inr, ℕ, ◌+◌, ◌<◌, ◌≤◌, List, [], ◌++◌, length, take, Bool, true, false, Option}
use Rattle.std.proofs.Common.{Err, refl, sym, subst, ◌∙◌, append-nil, append_assoc, arith}
use Rattle.std.proofs.Math.Seq.{take-append-add}
use Rattle.std.proofs.lemmas.List.{take-append-le}
use Rattle.std.specs.Io.KnownBytes.{Appends}
use Rattle.std.proofs.KnownBytes.{Appends-nil, Appends-trans}
use Rattle.capn_pack.specs.Chosen.{Chosen}
use Rattle.capn_commands.specs.declared.flow_fault.FlowFault.{FlowFault}
use Rattle.capn_commands.specs.declared.flow_fault.FlowFault.TheVariants as faults
use Rattle.capn_commands.specs.Flow.{Ending, Ends, HasEnded, HasWritten, Stops}
use Rattle.capn_commands.specs.PackRun.{IsFront, MayGoOn, Settles, most_held, ending_of, packing, packing_last}
use Rattle.capn_commands.specs.PackRun.{whole_of}

pub settles_none : (bytes : List ℕ) → Settles bytes [] bytes
settles_none bytes = record { settled = λ more t c. c }

-- ---- more bytes

module _ (bytes text rest more : List ℕ) (s : Settles bytes text rest) where
  pub settles_more : (next after : List ℕ) → Settles (rest ++ more) next after
      → Settles (bytes ++ more) (text ++ next) after
  settles_more next after n = record {
    settled = λ end t c.
        let inner = n.settled end t c in
        let outer = s.settled (more ++ end) (next ++ t)
        (subst (λ (l : List ℕ). Chosen (next ++ t) (whole_of l)) (append_assoc rest more end) inner) in
        subst (λ (l : List ℕ). Chosen l (whole_of ((bytes ++ more) ++ end))) (sym (append_assoc text next t))
        (subst (λ (l : List ℕ). Chosen (text ++ (next ++ t)) (whole_of l)) (sym (append_assoc bytes more end)) outer);
  }

  pub front_more : (next : List ℕ) → IsFront (rest ++ more) next → IsFront (bytes ++ more) (text ++ next)
  front_more next (inl (after, n)) = inl (after, settles_more next after n)
  front_more next (inr c) = inr (s.settled more next c)

  pub written_more : (c d e : Option (List ℕ)) → Appends c d text → HasWritten packing (rest ++ more) d e
      → HasWritten packing (bytes ++ more) c e
  written_more c d e done (v, count, front, part) = (
    text ++ v,
    length text + count,
    front_more v front,
    subst (Appends c e) (sym (take-append-add text v count)) (Appends-trans c d e text (take count v) done part),
  )

  pub packs_stop : (c d e : Option (List ℕ)) (failed : Bool) (fault : FlowFault) → Appends c d text
      → Stops packing (rest ++ more) d e failed fault → Stops packing (bytes ++ more) c e failed fault
  packs_stop c d e failed fault done stop =
      record { kind = stop.kind; io = stop.io; written = written_more c d e done stop.written }

pub front_stop : (rest buf tail : List ℕ) (w : ℕ) (c d : Option (List ℕ)) (failed : Bool) (fault : FlowFault)
    → w ≤ length buf → Stops packing (rest ++ take w (buf ++ tail)) c d failed fault
    → Stops packing (rest ++ take w buf) c d failed fault
front_stop rest buf tail w c d failed fault within stop =
    subst (λ (l : List ℕ). Stops packing (rest ++ l) c d failed fault) (take-append-le w buf tail within) stop

-- ---- the end of the input

-- Cases: the bytes `held` are packed at the end of the input.
module _ (bytes text held : List ℕ) (s : Settles bytes text held) (count : ℕ) (size : length bytes ≡ count)
    (c d e : Option (List ℕ)) (done : Appends c d text) where
  last_ended : (is_longer : Bool) (r : Ending) → HasEnded (packing_last count) held is_longer d e r
      → HasEnded packing bytes is_longer c e r
  last_ended is_longer r (inl memory) = inl memory
  last_ended is_longer r (inr (inl io)) = inr (inl io)
  last_ended is_longer r (inr (inr (t, packed, rest))) = inr (inr (
    text ++ t,
    record {
      chosen =
          let all = s.settled [] t (subst (λ (l : List ℕ). Chosen t (whole_of l)) (sym (append-nil held)) packed.chosen)
          in
          subst (λ (l : List ℕ). Chosen (text ++ t) (whole_of l)) (append-nil bytes) all;
      ends = subst (λ (k : ℕ). r ≡ ending_of is_longer k) (sym size) packed.ends;
    },
    Appends-trans c d e text t done rest,
  ))

  last_written : HasWritten (packing_last count) held d e → HasWritten packing bytes c e
  last_written (v, n, front, part) =
      subst (λ (l : List ℕ). HasWritten packing l c e) (append-nil bytes)
      (written_more bytes text held [] s c d e done
      (v, n, subst (λ (l : List ℕ). IsFront l v) (sym (append-nil held)) front, part))

  pub packing_ends : length held ≤ count → (is_longer failed : Bool) (r : Ending)
      → Ends (packing_last count) held is_longer d e failed r → Ends packing bytes is_longer c e failed r
  packing_ends few is_longer failed r ends = record {
    exact = last_ended is_longer r ends.exact;
    io = ends.io;
    written = last_written ends.written;
    memory = λ h. omega (arith, few, size, ends.memory h);
  }

-- ---- the complete stream

abbrev pub Holds : List ℕ → List ℕ → List ℕ → Type 0
Holds held bytes text = Settles bytes text held × (length held < most_held) × MayGoOn held

pub holds_settles : (held bytes text : List ℕ) → Holds held bytes text → packing.settles bytes text
holds_settles held bytes text h = (held, h.0, h.1, h.2)

pub holds_begins : (held bytes text : List ℕ) → Holds held bytes text → packing.begins bytes text
holds_begins held bytes text h = inl (held, h.0)

-- ---- a chunk

-- Case: memory was refused before anything was written.
pub packs_memory : (bytes : List ℕ) (c : Option (List ℕ)) (failed : Bool) → failed ≡ false
    → Stops packing bytes c c failed faults.Memory
packs_memory bytes c failed fine = record {
  kind = inl refl;
  io = (λ h. cc, λ h. absurd (let bad : true ≡ false = sym h ∙ fine in cc));
  written = ([], 0, inl (bytes, settles_none bytes), Appends-nil c);
}

-- ---- the last words

-- Case: memory was refused for the packed text of `held`.
pub last_memory : (held : List ℕ) (count : ℕ) (is_longer : Bool) (c : Option (List ℕ)) (failed : Bool)
    → failed ≡ false → 0 < length held → Ends (packing_last count) held is_longer c c failed (Err faults.Memory)
last_memory held count is_longer c failed fine some = record {
  exact = inl refl;
  io = (λ h. absurd (cc), λ h. absurd (let bad : true ≡ false = sym h ∙ fine in cc));
  written = ([], 0, inl (held, settles_none held), Appends-nil c);
  memory = λ h. some;
}
