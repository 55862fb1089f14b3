-- Lemmas for `unpack_stream`: a chunk is read into a buffer, after the bytes of an unfinished group.
use Rattle.std.proofs.Common.{◌≡◌, ℕ, ◌+◌, ◌-◌, ◌≤◌, List, [], ◌++◌, length, take, drop, Bool, false, Option, ap, sym}
use Rattle.std.proofs.Common.{subst, ◌∙◌, arith, length-append, length-drop, length-take, length-take-le}
use Rattle.std.proofs.Math.Seq.{paste, take-append-add, take_all}
use Rattle.std.proofs.lemmas.List.{drop-take, take-append-le}
use Rattle.std.proofs.lemmas.List.Edits.{take-paste}
use Rattle.capn_pack.specs.Packed.{texts}
use Rattle.capn_pack.specs.PackedPieces.{Splits}
use Rattle.capn_commands.specs.declared.flow_fault.FlowFault.{FlowFault}
use Rattle.capn_commands.specs.Flow.{Ending, Stops}
use Rattle.capn_commands.specs.UnpackRun.{ending_of, unpacking}

left_first : (buf new tail : List ℕ) (held : ℕ) → held ≤ length buf
    → take held (take held buf ++ (new ++ tail)) ≡ take held buf
left_first buf new tail held fits =
    let size = length-take-le held buf fits in
    take-append-le held (take held buf) (new ++ tail) (omega (arith, size))
    ∙ take_all held (take held buf) (omega (arith, size))

pub ending_left : (buf new tail : List ℕ) (held offset : ℕ) (r : Ending) → held ≤ length buf
    → r ≡ ending_of false (take held (take held buf ++ (new ++ tail))) offset
    → r ≡ ending_of false (take held buf) offset
ending_left buf new tail held offset r fits is =
    is ∙ ap (λ (l : List ℕ). ending_of false l offset) (left_first buf new tail held fits)

moved_first : (whole : List ℕ) (at end : ℕ) → at ≤ end → end ≤ length whole
    → take (end - at) (paste whole 0 (drop at whole) (end - at)) ≡ drop at (take end whole)
moved_first whole at end forward within =
    let size : end - at ≡ 0 + (end - at) = omega arith in
    let all : at + (end - at) ≡ end = omega (arith, forward) in
    ap (λ (k : ℕ). take k (paste whole 0 (drop at whole) (end - at))) size
    ∙ take-paste whole 0 (drop at whole) (end - at) (omega arith) (omega (arith, within, length-drop at whole))
    ∙ sym (drop-take at (end - at) whole)
    ∙ ap (λ (k : ℕ). drop at (take k whole)) all

module _ (buf new tail : List ℕ) (held within end : ℕ) (fits : held ≤ length buf) (less : within ≤ length new)
    (is : end ≡ held + within) where
  abbrev whole : List ℕ
  whole = take held buf ++ (new ++ tail)

  chunk_is : take end whole ≡ take held buf ++ take within new
  chunk_is =
      let at : end ≡ length (take held buf) + within = omega (arith, is, length-take-le held buf fits) in
      ap (λ (k : ℕ). take k whole) at
      ∙ take-append-add (take held buf) (new ++ tail) within
      ∙ ap (λ (l : List ℕ). take held buf ++ l) (take-append-le within new tail less)

  pub chunk_size : length (take end whole) ≡ end
  chunk_size = omega (
    arith,
    is,
    ap length chunk_is,
    length-append (take held buf) (take within new),
    length-take-le held buf fits,
    length-take-le within new less,
  )

  pub chunk_stop : (c d : Option (List ℕ)) (failed : Bool) (fault : FlowFault)
      → Stops unpacking (take end whole) c d failed fault
      → Stops unpacking (take held buf ++ take within new) c d failed fault
  chunk_stop c d failed fault = subst (λ (l : List ℕ). Stops unpacking l c d failed fault) chunk_is

  pub chunk_split : (after words : List ℕ) (at : ℕ) → Splits (take end whole) after [] words at
      → Splits (take held buf ++ take within new) after [] words at
  chunk_split after words at = subst (λ (l : List ℕ). Splits l after [] words at) chunk_is

  pub chunk_left : (moved words : List ℕ) (at : ℕ) → moved ≡ paste whole 0 (drop at whole) (end - at)
      → Splits (take end whole) (drop at (take end whole)) [] words at
      → Splits (take held buf ++ take within new) (take (end - at) moved) [] words at
  chunk_left moved words at to s =
      let forward : at ≤ end = omega (
        arith,
        s.size,
        ap length s.text,
        length-append (texts s.groups) (drop at (take end whole)),
        chunk_size,
      ) in
      let inside : end ≤ length whole = omega (arith, chunk_size, length-take end whole) in
      let front : drop at (take end whole) ≡ take (end - at) moved =
      sym (moved_first whole at end forward inside) ∙ ap (λ (l : List ℕ). take (end - at) l) (sym to) in
      chunk_split (take (end - at) moved) words at
      (subst (λ (l : List ℕ). Splits (take end whole) l [] words at) front s)
