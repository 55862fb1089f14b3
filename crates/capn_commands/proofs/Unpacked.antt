-- Lemmas on the progress of unpacking. (For `unpack_stream`, `write_groups` and `write_some`.)
use Rattle.std.proofs.Common.{◌≡◌, ◌⊎◌, ◌||◌, inl, inr, ℕ, zero, suc, ◌+◌, ◌^◌, ◌<◌, ◌≤◌, List, [], ◌∷◌, ◌++◌, length}
use Rattle.std.proofs.Common.{take, drop, get_or, Bool, true, false, Option, Err, refl, ap, sym, subst, ◌∙◌, arith}
use Rattle.std.proofs.Common.{append_assoc, length-append, length-drop, drop-drop, take-append-drop}
use Rattle.std.proofs.Math.Seq.{take-add, take-append-add, take-length}
use Rattle.std.proofs.lemmas.Bool.Decides.{nat_tests}
use Rattle.std.proofs.lemmas.Grind.{flat_map-append}
use Rattle.std.specs.Io.KnownBytes.{Appends}
use Rattle.std.proofs.KnownBytes.{Appends-nil, Appends-trans}
use Rattle.capn_words.specs.Watched.{HasBegun}
use Rattle.capn_pack.specs.Packed.{Group, group_text, group_bytes, texts, contents, word_count}
use Rattle.capn_pack.specs.PackedPieces as packing
use Rattle.capn_pack.specs.PackedPieces.{NoGroupFirst, Splits}
use Rattle.capn_pack.specs.UnpackRefusal.{words_at}
use Rattle.capn_pack.specs.WholeGroups.{StandsNext, UnpacksSome, most_group}
use Rattle.capn_pack.specs.declared.whole_groups.Next.{Next}
use Rattle.capn_pack.specs.declared.whole_groups.Next.TheVariants as nexts
use Rattle.capn_pack.specs.inner.Steps.{TakesRow}
use Rattle.capn_pack.proofs.shared.GroupLaws.{no_group}
use Rattle.capn_pack.proofs.shared.GroupLemmas.{each_append, text_some}
use Rattle.capn_pack.proofs.shared.StreamLemmas.{begins_then, nothing_first, splits, splits_open, splits_then}
use Rattle.capn_serve.proofs.shared.Wrote.{has_failed_now}
use Rattle.capn_commands.specs.declared.flow_fault.FlowFault.{FlowFault}
use Rattle.capn_commands.specs.declared.flow_fault.FlowFault.TheVariants as faults
use Rattle.capn_commands.specs.Flow.{Ending, Ends, Stops}
use Rattle.capn_commands.specs.UnpackRun.{ending_of, unpacking}

-- ---- the first groups of some bytes

row_some : (bytes words : List ℕ) (max taken count : ℕ) (next : Next)
    → UnpacksSome bytes max [] words taken count next → TakesRow bytes taken [] words
row_some bytes words max taken count next u =
    record { groups = u.groups; each = u.each; within = u.inside; text = u.text; content = u.content }

row_then : (bytes words more : List ℕ) (at taken : ℕ) → TakesRow bytes at [] words
    → TakesRow (drop at bytes) taken [] more → TakesRow bytes (at + taken) [] (words ++ more)
row_then bytes words more at taken s t = record {
  groups = s.groups ++ t.groups;
  each = each_append s.groups t.groups s.each t.each;
  within = omega (arith, s.within, t.within, length-drop at bytes);
  text = take-add at taken bytes
      ∙ (λ i. s.text i ++ t.text i)
      ∙ sym (flat_map-append group_text s.groups t.groups);
  content = (λ i. s.content i ++ t.content i) ∙ sym (flat_map-append group_bytes s.groups t.groups);
}

pub row_more : (bytes words more : List ℕ) (at max taken count : ℕ) (next : Next) → TakesRow bytes at [] words
    → UnpacksSome (drop at bytes) max [] more taken count next → TakesRow bytes (at + taken) [] (words ++ more)
row_more bytes words more at max taken count next s u =
    row_then bytes words more at taken s (row_some (drop at bytes) more max taken count next u)

-- ---- the bytes that follow

none_next : (next : Next) (room : ℕ) (rest : List ℕ) → StandsNext next room rest → (next ≡ nexts.TooLong → ⊥)
    → NoGroupFirst rest × (length rest < most_group)
none_next nexts.End room rest is other =
    (subst NoGroupFirst (sym is) nothing_first, omega (arith, ap length is))
none_next nexts.Cut room rest is other = (no_group room rest is.0, is.1)
none_next nexts.TooLong room rest is other = absurd (other refl)

not_long : (next : Next) → (next ≡ nexts.End) ⊎ (next ≡ nexts.Cut) → next ≡ nexts.TooLong → ⊥
not_long next (inl a) e = let bad : nexts.End ≡ nexts.TooLong = sym a ∙ e in cc
not_long next (inr a) e = let bad : nexts.Cut ≡ nexts.TooLong = sym a ∙ e in cc

-- Case: the call stopped at the end or in an unfinished group. All complete groups were unpacked.
pub row_last : (bytes words more : List ℕ) (at max taken count : ℕ) (next : Next) → TakesRow bytes at [] words
    → UnpacksSome (drop at bytes) max [] more taken count next → (next ≡ nexts.End) ⊎ (next ≡ nexts.Cut)
    → Splits bytes (drop (at + taken) bytes) [] (words ++ more) (at + taken)
    × (length bytes < (at + taken) + most_group)
row_last bytes words more at max taken count next s u is =
    let behind : drop taken (drop at bytes) ≡ drop (at + taken) bytes = drop-drop taken at bytes in
    let none = subst (λ (l : List ℕ). NoGroupFirst l × (length l < most_group)) behind
    (none_next next u.left (drop taken (drop at bytes)) u.stops (not_long next is)) in (
      splits bytes (at + taken) [] (words ++ more) (row_more bytes words more at max taken count next s u) none.0,
      omega (arith, none.1, length-drop (at + taken) bytes),
    )

few_words : (rest : List ℕ) → ((k : ℕ) → get_or rest k 0 < 2 ^ 8) → words_at rest ≤ 256
few_words rest fits = grind (arith, nat_tests, fits 1, fits 9)

no_words : (gs : List Group) → [] ≡ texts gs → word_count gs ≡ 0
no_words [] e = refl
no_words (g ∷ gs) e = absurd (omega (arith, text_some g, ap length e, length-append (group_text g) (texts gs)))

grows : (bytes words : List ℕ) (max taken count : ℕ) → ((k : ℕ) → get_or bytes k 0 < 2 ^ 8) → 256 ≤ max
    → UnpacksSome bytes max [] words taken count nexts.TooLong → 0 < taken
grows bytes words max zero count fits room u =
    let none = no_words u.groups u.text in
    absurd (omega (arith, room, none, u.counted, u.fits, u.stops.2, few_words bytes fits))
grows bytes words max (suc n) count fits room u = omega arith

pub row_grows : (bytes words : List ℕ) (max taken count : ℕ) (next : Next) → ((k : ℕ) → get_or bytes k 0 < 2 ^ 8)
    → 256 ≤ max → next ≡ nexts.TooLong → UnpacksSome bytes max [] words taken count next → 0 < taken
row_grows bytes words max taken count next fits room is u =
    grows bytes words max taken count fits room (subst (UnpacksSome bytes max [] words taken count) is u)

-- ---- a run that stops

-- Case: memory was refused before anything was written.
pub some_refused : (bytes : List ℕ) (c : Option (List ℕ)) (failed : Bool) → failed ≡ false
    → Stops unpacking bytes c c failed faults.Memory
some_refused bytes c failed fine = record {
  kind = inl refl;
  io = (λ h. cc, λ h. absurd (let bad : true ≡ false = sym h ∙ fine in cc));
  written = ([], 0, record { groups = []; rest = bytes; each = tt; text = refl; content = refl }, Appends-nil c);
}

-- Case: the writer failed after a prefix of `words`, the words of some groups.
pub some_unwritten : (bytes old words : List ℕ) (max taken count : ℕ) (next : Next) (c d : Option (List ℕ))
    (before after : Bool) → old ≡ [] → UnpacksSome bytes max old words taken count next → HasBegun c d words
    → before ≡ false → after ≡ (before || true) → Stops unpacking bytes c d after faults.Io
some_unwritten bytes old words max taken count next c d before after none u begun fine failed = record {
  kind = inr refl;
  io = (λ e. has_failed_now before after fine failed, λ h. refl);
  written = (
    words,
    begun.0,
    record {
      groups = u.groups;
      rest = drop taken bytes;
      each = u.each;
      text = sym (take-append-drop taken bytes) ∙ ap (λ (l : List ℕ). l ++ drop taken bytes) u.text;
      content = u.content ∙ ap (λ (l : List ℕ). l ++ contents u.groups) none;
    },
    begun.1,
  );
}

begins_row : (bytes words next : List ℕ) (at : ℕ) → TakesRow bytes at [] words
    → packing.Begins (drop at bytes) [] next → packing.Begins bytes [] (words ++ next)
begins_row bytes words next at s b = record {
  groups = s.groups ++ b.groups;
  rest = b.rest;
  each = each_append s.groups b.groups s.each b.each;
  text =
      sym (take-append-drop at bytes)
      ∙ (λ i. s.text i ++ b.text i)
      ∙ sym (append_assoc (texts s.groups) (texts b.groups) b.rest)
      ∙ ap (λ (l : List ℕ). l ++ b.rest) (sym (flat_map-append group_text s.groups b.groups));
  content = (λ i. s.content i ++ b.content i) ∙ sym (flat_map-append group_bytes s.groups b.groups);
}

-- Case: `words` were written, and then the run stopped.
stops_then : (bytes rest words : List ℕ) (c d e : Option (List ℕ)) (failed : Bool) (fault : FlowFault)
    → ((next : List ℕ) → packing.Begins rest [] next → packing.Begins bytes [] (words ++ next)) → Appends c d words
    → Stops unpacking rest d e failed fault → Stops unpacking bytes c e failed fault
stops_then bytes rest words c d e failed fault begins wrote stop =
    let (v, count, begun, more) = stop.written in
    record {
      kind = stop.kind;
      io = stop.io;
      written = (
        words ++ v,
        length words + count,
        begins v begun,
        subst (Appends c e) (sym (take-append-add words v count))
            (Appends-trans c d e words (take count v) wrote more),
      );
    }

pub row_stop : (bytes words : List ℕ) (at : ℕ) (c d e : Option (List ℕ)) (failed : Bool) (fault : FlowFault)
    → TakesRow bytes at [] words → Appends c d words → Stops unpacking (drop at bytes) d e failed fault
    → Stops unpacking bytes c e failed fault
row_stop bytes words at c d e failed fault s =
    stops_then bytes (drop at bytes) words c d e failed fault (λ next. begins_row bytes words next at s)

-- ---- the complete stream

-- `text` is the words of the complete groups of `bytes`, and `rest` is the bytes after these groups.
abbrev pub FromStart : List ℕ → List ℕ → List ℕ → Type 0
FromStart rest bytes text = (len : ℕ) × Splits bytes rest [] text len

pub start_none : FromStart [] [] []
start_none = (0, splits_open [] [] [] nothing_first refl)

pub start_settles : (rest bytes text : List ℕ) → FromStart rest bytes text → unpacking.settles bytes text
start_settles rest bytes text told = (rest, told.0, told.1)

pub start_begins : (rest bytes text : List ℕ) → FromStart rest bytes text → unpacking.begins bytes text
start_begins rest bytes text told =
    let s = told.1 in
    record { groups = s.groups; rest = rest; each = s.each; text = s.text; content = s.content }

shifted : (stream rest words old : List ℕ) (len : ℕ) → Splits stream rest [] words len
    → Splits stream rest old (old ++ words) len
shifted stream rest words old len s = record {
  groups = s.groups;
  each = s.each;
  text = s.text;
  content = ap (λ (l : List ℕ). old ++ l) s.content;
  size = s.size;
  open_rest = s.open_rest;
}

module _ (rest bytes text piece : List ℕ) (told : FromStart rest bytes text) where
  -- Case: one more chunk `piece` was read, and `words` were written.
  pub start_more : (after words : List ℕ) (at : ℕ) → Splits (rest ++ piece) after [] words at
      → FromStart after (bytes ++ piece) (text ++ words)
  start_more after words at more = (
    told.0 + at,
    splits_then bytes rest piece after [] text (text ++ words) told.0 at told.1
        (shifted (rest ++ piece) after words text at more),
  )

  -- Case: the run stopped in the chunk `piece`.
  pub start_stop : (c d e : Option (List ℕ)) (failed : Bool) (fault : FlowFault) → Appends c d text
      → Stops unpacking (rest ++ piece) d e failed fault → Stops unpacking (bytes ++ piece) c e failed fault
  start_stop c d e failed fault =
      stops_then (bytes ++ piece) (rest ++ piece) text c d e failed fault
      (λ next. begins_then bytes rest piece text next told.0 told.1)

pub start_at : (rest bytes text : List ℕ) (told : FromStart rest bytes text) → told.0 + length rest ≡ length bytes
start_at rest bytes text told =
    let s = told.1 in
    omega (arith, s.size, ap length s.text, length-append (texts s.groups) rest)

not_io : (is_longer : Bool) (rest : List ℕ) (offset : ℕ) → ending_of is_longer rest offset ≡ Err faults.Io → ⊥
not_io true rest offset e = cc
not_io false [] offset e = cc
not_io false (b ∷ rest) offset e = cc

not_memory : (is_longer : Bool) (rest : List ℕ) (offset : ℕ) → ending_of is_longer rest offset ≡ Err faults.Memory → ⊥
not_memory true rest offset e = cc
not_memory false [] offset e = cc
not_memory false (b ∷ rest) offset e = cc

-- Case: all `bytes` that the run takes were read.
pub unpacking_ends : (rest bytes text : List ℕ) (is_longer : Bool) (c d : Option (List ℕ)) (wf : Bool) (offset : ℕ)
    (r : Ending) → wf ≡ false → FromStart rest bytes text → Appends c d text → offset + length rest ≡ length bytes
    → r ≡ ending_of is_longer rest offset → Ends unpacking bytes is_longer c d wf r
unpacking_ends rest bytes text is_longer c d wf offset r fine told wrote size is =
    let at : offset ≡ told.0 = omega (arith, size, start_at rest bytes text told) in
    record {
      exact = inr (inr (
        text,
        record {
          group = rest;
          offset = told.0;
          split = told.1;
          ends = is ∙ ap (λ (k : ℕ). ending_of is_longer rest k) at;
        },
        wrote,
      ));
      io = (
        λ h. absurd (not_io is_longer rest offset (sym is ∙ h)),
        λ h. absurd (let bad : true ≡ false = sym h ∙ fine in cc),
      );
      written = (
        text,
        length text,
        start_begins rest bytes text told,
        subst (Appends c d) (sym (take-length text)) wrote,
      );
      memory = λ h. absurd (not_memory is_longer rest offset (sym is ∙ h));
    }
