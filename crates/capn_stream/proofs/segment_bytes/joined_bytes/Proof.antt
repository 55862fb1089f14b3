-- The proof of `joined_bytes`: a borrow of 8-byte arrays is a borrow of their joined bytes. The proof follows the MIR
-- by hand, since the function uses a raw pointer.
use Rattle.std.proofs.Common.{◌≡◌, ℕ, ◌+◌, ◌*◌, ◌^◌, ◌<◌, List, [], ◌∷◌, ◌++◌, length, refl, subst}
use Rattle.std.proofs.Common.{arith, w64, Bor}
use Rattle.capn_stream.specs.Segments.{joined}
use seplogic.Ra.Ura.{Ura}
use mir.Syntax.{Body, named, w64, seq, assign, place, rv_opd, copy, return}
use mir.Val.{Val, vint}
use base.Logic.{SProp, ent}
use base.Fml.{Fml, Lft, Share, ftrue, feq, flft}
use prog.Memory.{Memory}
use prog.Routine.{Routine}
use prog.Wp.{Env, Calls, Loops, WpFn, Tables}
use types.Logic.{Logic, sem}
use contract.Monad.{Fun}
use contract.Running.{tables, tables_of}
use sound.WpLaws.{WpFn-mono}
use types.Kit.{‵, ◌⊛◌, at_ret, ◌$◌, ◌∵◌, !, qed, move, keep, drop, use1, rewrite, fsplit, fjoin, feq_l, feq_i}
use types.Kit.{flt_i, suffices, frame, done}
use types.Part.{whole, sub, agg}
use types.Run.{stop, fld, hop, from, addr, of_opd, and_then, no_more, first, blocks, exec, returns, enter}
use types.ByLocal.{alloc_all, pass_all, free_all, look_at, look_in_at, get, sets, sets_last, env}
use denote.Array.{Array}
use denote.Builtin.{u8, usize}
use denote.Exit.{yes}
use denote.Memory.{each_shared, shared_of}
use denote.Opens.{unhide, hide}
use denote.Plain.{uint_vals, uint_Tells}
use denote.RattleType.{owns}
use denote.Sharing.{said, beside}
use denote.Signature.{plain, shr_slice_of}
use denote.Slice.{ShrSlice, Room, slice_val, shr_slice_vals, shr_slice_Tells}
use denote.Steps.{nothing}
use denote.Triple.Clauses.{Clauses}
use denote.Triple.Entry.{on_entry}
use denote.Triple.Spec.{Meets, triple_of}
use denote.Triple.Table.{entered}
use denote.Triple.Walked.{says, needs, Stays, stay_dropped, walk_of, ends_at, walked, Goes-dropped, walk_Meets}
use borrow.Table.Elements.{at, at_mul}
use Rattle.capn_stream.specs.contracts.segment_bytes.joined_bytes.Key.{name as key}
use Rattle.capn_stream.specs.contracts.segment_bytes.joined_bytes as F
use Rattle.capn_stream.proofs.segment_bytes.joined_bytes.Statement as stated
use Rattle.capn_stream.proofs.segment_bytes.joined_bytes.Code as code

-- the items of some lists, joined
abbrev flat : {X : Type 0} → List (List X) → List X
flat [] = []
flat (w ∷ ws) = w ++ flat ws

-- ---- a borrow of arrays is a borrow of all their elements

module _ {M : Type 1} {𝓤 : Ura M} (𝓛 : Logic 𝓤) {D : Type 0} (c : D → ℕ → ℕ → Lft → Fml) (n : ℕ) (κ : Lft)
    (b : ℕ) where
  -- the formula of a borrow of the `n` elements `ys`, each of size 1
  abbrev run_of : List D → ℕ → ℕ → Lft → Fml
  run_of ys b' o = beside (said (feq ℕ (length ys) n)) (each_shared ys c 1 b' o)

  -- a borrow of `xs`, and a borrow of `ys` right after `xs`, are a borrow of `xs ++ ys`
  after : (xs ys : List D) (o : ℕ)
      → ent 𝓤 (sem 𝓛 (beside (each_shared xs c 1 b o) (each_shared ys c 1 b (at o 1 (length xs))) κ))
      (sem 𝓛 (each_shared (xs ++ ys) c 1 b o κ))
  after [] ys o =
      qed 𝓛 (‵ (beside (each_shared [] c 1 b o) (each_shared ys c 1 b o) κ) ∷ []) ∵ fsplit ! $ drop ! $ done !
  after (x ∷ xs) ys o =
      qed 𝓛 (‵ (beside (each_shared (x ∷ xs) c 1 b o) (each_shared ys c 1 b (at (o + 1) 1 (length xs))) κ) ∷ []) ∵
      fsplit ! $ fsplit ! $ move ! (1 ∷ 2 ∷ []) $ fjoin ! $
      use1 𝓛 (‵ (each_shared (xs ++ ys) c 1 b (o + 1) κ)) (after xs ys (o + 1)) $ move ! (1 ∷ []) $ fjoin ! $ done !

  joins : (words : List (List D)) (o : ℕ) → ent 𝓤 (sem 𝓛 (each_shared words run_of n b o κ))
      (sem 𝓛 (each_shared (flat words) c 1 b o κ))
  joins [] o = qed 𝓛 (‵ (each_shared [] run_of n b o κ) ∷ []) ∵ done !
  joins (w ∷ words) o =
      qed 𝓛 (‵ (each_shared (w ∷ words) run_of n b o κ) ∷ []) ∵
      fsplit ! $ fsplit ! $ feq_l ! (λ long.
      let past : o + n ≡ at o 1 (length w) = omega (arith, at_mul o 1 (length w), long) in
      move ! (1 ∷ []) $ use1 𝓛 (‵ (each_shared (flat words) c 1 b (o + n) κ)) (joins words (o + n)) $
      rewrite ! 0 (λ (p : ℕ). ‵ (each_shared (flat words) c 1 b p κ)) past refl $ move ! (1 ∷ 0 ∷ []) $ fjoin ! $
      use1 𝓛 (‵ (each_shared (w ++ flat words) c 1 b o κ)) (after w (flat words) o) $ done !)

abbrev stayed : Stays (F.ended).signature.params (F.ended).kept
stayed = (
  stay_dropped (shr_slice_of (0 ∷ []) tt (plain (λ _. Array u8 8))) yes,
  (stay_dropped (plain (λ _. usize)) yes, tt),
)

abbrev rest : Body
rest = seq (assign (place 0 []) (rv_opd (copy (place 3 [])))) return

module _ {M : Type 1} {𝓤 : Ura M} (𝓛 : Logic 𝓤) (at_mem : Memory → SProp 𝓤) (run : Routine → Fun 𝓤) where
  open 𝓛 use {H}

  abbrev clauses : Clauses 𝓤 F.ended
  clauses = F.clauses 𝓛 at_mem run

  -- each lemma of this block is about words that are borrowed for `κ` and begin at offset `o` of the block `b`
  module _ (C : Calls 𝓤 H) (Λ : Loops 𝓤 H) (κ : Lft) (q : Share) (b o : ℕ) (xs : List (List ℕ)) (m : ℕ) where
    abbrev words : Bor (List (List ℕ))
    words = record { ref_ptr = (b, o); now = xs }

    abbrev ys : List ℕ
    ys = joined xs

    abbrev bound : (walk_of 𝓛 F.ended stayed clauses).Ghost
    bound = (((κ, tt), (q, tt), tt, (words, (m, tt)), (shr_slice_vals words, (vint w64 m ∷ [], tt))), tt)

    abbrev Post : Val → SProp 𝓤
    Post = (walk_of 𝓛 F.ended stayed clauses).post bound

    walk : m < 2 ^ 64 → Room (Array u8 8) (length xs) → (m ≡ length ys) × (m < 2 ^ 63)
        → ent 𝓤 (on_entry 𝓛 F.signature (κ, tt) (q, tt) (words, (m, tt)) (shr_slice_vals words, (vint w64 m ∷ [], tt)))
        (WpFn 𝓤 H C Λ code.function (slice_val (b, o) (length xs) ∷ vint w64 m ∷ []) Post)
    walk fm rm needed =
        let many : m ≡ length ys = needed.0 in
        let small : m * 1 < 2 ^ 63 = omega (arith, needed.1) in
        qed 𝓛 ((‵ (flft κ q) ⊛ ‵ ftrue)
        ∷ ‵ (owns (ShrSlice (named 0) κ (Array u8 8) ∷ usize ∷ []) (words, (m, tt))
        (shr_slice_vals words, (vint w64 m ∷ [], tt))) ∷ []) ∵
        enter ! C Λ code.function (slice_val (b, o) (length xs) ∷ vint w64 m ∷ []) _ $
        alloc_all ! (λ l. pass_all ! refl ((tt, (tt, (record { fits = rm.0 }, tt))), ((tt, record { fits = fm }), tt)) $
        let En : Env 𝓤 H = env (code.function).locals l in
        first ! $ blocks ! $
        sets ! (addr ! (from ! (fld ! refl (hop ! (look_in_at ! 1 (sub ! 0 refl (whole !))) (stop !))))) refl (tt, tt) $
        sets_last ! (agg ! (and_then ! (get ! refl) (and_then ! (get ! refl) (no_more !)))) refl
        (tt, (tt, (record { fits = fm }, tt))) $ exec ! C Λ En rest (at_ret En Post) $
        sets ! (of_opd ! (get ! refl)) refl (tt, (tt, (record { fits = fm }, tt))) $
        move ! (1 ∷ []) $ fsplit ! $ fsplit ! $ drop ! $ unhide ! $
        use1 𝓛 (‵ (each_shared (flat xs) (shared_of u8) 1 b o κ)) (joins 𝓛 (shared_of u8) 8 κ b xs o) $ hide ! $
        returns ! (look_at ! 0 refl) $ free_all ! refl $ keep ! (2 ∷ 0 ∷ []) $
        suffices ! _ (ends_at 𝓛 F.ended stayed clauses bound (slice_val (b, o) m)
        (record { ref_ptr = (b, o); now = ys }) (tt, (tt, tt)) (tt, (tt, tt))) $
        says ! refl $ frame ! $ nothing ! $ nothing ! $ fjoin ! $ nothing ! $ fjoin ! $ frame ! $
        flt_i ! (length ys * 1) (2 ^ 63) (subst (λ (k : ℕ). k * 1 < 2 ^ 63) many small) $
        flt_i ! (length ys) (2 ^ 64) (subst (λ (k : ℕ). k < 2 ^ 64) many fm) $ fjoin ! $
        feq_i ! (List Val) (slice_val (b, o) m ∷ []) (slice_val (b, o) (length ys) ∷ [])
        (λ i. slice_val (b, o) (many i) ∷ []) $ fjoin ! $ fjoin ! $ done !)

  meets : (𝓣 : Tables 𝓤 H) → Meets 𝓛 F.signature (WpFn 𝓤 H 𝓣.C 𝓣.Λ code.function) (F.spec 𝓛 at_mem run)
  meets 𝓣 =
      walk_Meets 𝓛 F.ended stayed (
        Goes-dropped 𝓛 1 (shr_slice_of (0 ∷ []) tt (plain (λ _. Array u8 8))) yes (λ κs x f. refl),
        (Goes-dropped 𝓛 1 (plain (λ _. usize)) yes (λ κs x f. refl), tt),
      ) clauses (WpFn 𝓤 H 𝓣.C 𝓣.Λ code.function) (WpFn-mono 𝓤 H 𝓛.laws 𝓣 code.function)
      (walked 𝓛 F.ended stayed clauses (WpFn 𝓤 H 𝓣.C 𝓣.Λ code.function) (λ κs. (shr_slice_vals, (uint_vals w64, tt)))
      (λ κs. (shr_slice_Tells (named 0) κs.0 (Array u8 8), (uint_Tells w64, tt)))
      (λ κs qs bounds a g are. needs 𝓤 ((a.1.0 ≡ length (joined a.0.now)) × (a.1.0 < 2 ^ 63)) _
      (walk 𝓣.C 𝓣.Λ κs.0 qs.0 a.0.ref_ptr.0 a.0.ref_ptr.1 a.0.now a.1.0 are.1.0.1 are.0.0.1)))

pub joined_bytes_spec : {M : Type 1} → stated.statement M
unfolding tables_of
joined_bytes_spec 𝓤 𝓛 𝓜 𝓡 wired =
    entered 𝓤 𝓛.H (triple_of 𝓛 F.signature (F.spec 𝓛 𝓜.mem 𝓡.returns))
    (tables 𝓤 𝓛.H 𝓜 𝓡 𝓡.env).C (tables 𝓤 𝓛.H 𝓜 𝓡 𝓡.env).Λ key code.function (code.unfolded 𝓤 𝓛.H 𝓜 𝓡 wired)
    (meets 𝓛 𝓜.mem 𝓡.returns (tables_of 𝓤 𝓛.H 𝓜 (tables 𝓤 𝓛.H 𝓜 𝓡 𝓡.env)))
