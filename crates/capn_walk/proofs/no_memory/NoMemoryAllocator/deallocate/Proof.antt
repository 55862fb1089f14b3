-- The proof of `NoMemory::deallocate`, which assumes `Logic`. A call does nothing, since `allocate` returns no block.
use Rattle.std.proofs.Common.{ℕ, ◌^◌, ◌<◌, T, List, [], ◌∷◌, refl, lit<, w64, Bor}
use seplogic.Ra.Ura.{Ura}
use mir.Syntax.{Ty, ty_ptr}
use mir.Val.{Val, vunit, vint, vptr, has_ty, WT}
use base.Logic.{SProp, ent}
use base.Fml.{Lft, Share, ftrue, flft}
use prog.Memory.{Memory}
use prog.Routine.{Routine}
use prog.Wp.{WpFn, Tables}
use types.Logic.{Logic}
use types.Kit.{‵, raw, ◌⊛◌, ◌$◌, ◌∵◌, !, qed, move, keep, split, join, fjoin, feq_i, suffices, done}
use types.Run.{unit_lit, of_opd, returns, enter}
use types.ByLocal.{alloc_all, pass_all, free_all, look_at, sets}
use contract.Monad.{Fun}
use contract.Running.{tables, tables_of}
use sound.WpLaws.{WpFn-mono}
use denote.RattleType.{owns}
use denote.Exit.{yes}
use denote.Ref.{shr_vals}
use denote.Builtin.{usize, RefOf}
use denote.Plain.{uint_vals, uint_Tells}
use denote.RawPtr.{Ptr, RawPtr, block_ptr, null_ptr, ptr_val, rawptr_vals, rawptr_Tells}
use denote.Signature.{Slot, plain, types_at}
use denote.Steps.{nothing}
use denote.Triple.Clauses.{Clauses}
use denote.Triple.Spec.{triple_of}
use denote.Triple.Table.{entered}
use denote.Triple.Walked.{Stays, stay_dropped, walk_of, ends_at, walked, Goes-dropped, walk_Meets}
use Rattle.capn_walk.specs.declared.no_memory.NoMemory.{NoMemory}
use Rattle.capn_walk.specs.contracts.no_memory.NoMemory as none
use Rattle.capn_walk.specs.contracts.no_memory.NoMemoryAllocator.deallocate as F
use Rattle.capn_walk.specs.contracts.no_memory.NoMemoryAllocator.deallocate.Key as key
use Rattle.capn_walk.proofs.no_memory.NoMemoryAllocator.deallocate.Statement as stated
use Rattle.capn_walk.proofs.no_memory.NoMemoryAllocator.deallocate.Code as code

abbrev self : Slot 1
self = RefOf (0 ∷ []) tt (plain (λ _. none.the_row)) (λ _. tt)

abbrev stayed : Stays (F.ended).signature.params (F.ended).kept
stayed = (
  stay_dropped self yes,
  (
    stay_dropped (plain (λ _. RawPtr)) yes,
    (stay_dropped (plain (λ _. usize)) yes, (stay_dropped (plain (λ _. usize)) yes, tt)),
  ),
)

passes : (p : Ptr) → T (has_ty ty_ptr (ptr_val p)) × WT (ptr_val p)
passes (block_ptr b o) = (tt, tt)
passes null_ptr = (tt, record { fits = lit< tt })

module _ {M : Type 1} {𝓤 : Ura M} (𝓛 : Logic 𝓤) (at_mem : Memory → SProp 𝓤) (run : Routine
    → Fun 𝓤) (𝓣 : Tables 𝓤 𝓛.H) where
  open 𝓛 use {H}

  abbrev held : Clauses 𝓤 F.ended
  held = F.clauses 𝓛 at_mem run

  module _ (κ : Lft) (q : Share) (r : Bor NoMemory) (p : Ptr) (n a : ℕ) (τ : Ty) where
    abbrev bound : (walk_of 𝓛 F.ended stayed held).Ghost
    bound = (
      (
        (κ, tt),
        (q, tt),
        tt,
        (r, (p, (n, (a, tt)))),
        (shr_vals r, (ptr_val p ∷ [], (vint w64 n ∷ [], (vint w64 a ∷ [], tt)))),
      ),
      τ,
    )

    abbrev vs : List Val
    vs = vptr r.ref_ptr.0 r.ref_ptr.1 ∷ ptr_val p ∷ vint w64 n ∷ vint w64 a ∷ []

    abbrev Post : Val → SProp 𝓤
    Post = (walk_of 𝓛 F.ended stayed held).post bound

    walk : n < 2 ^ 64 → a < 2 ^ 64
        → ent 𝓤 ((walk_of 𝓛 F.ended stayed held).pre bound) (WpFn 𝓤 H 𝓣.C 𝓣.Λ code.function vs Post)
    walk fn fa =
        qed 𝓛 (((‵ (flft κ q) ⊛ ‵ ftrue) ⊛ ‵ (owns (types_at (F.signature).params (κ, tt)) bound.0.3 bound.0.4))
        ∷ raw ((held (κ, tt) bound.0.3).requires τ) ∷ []) ∵
        split ! $ keep ! (0 ∷ []) $ enter ! 𝓣.C 𝓣.Λ code.function vs _ $ alloc_all !
        (λ l. pass_all ! refl ((tt, tt), (passes p, ((tt, record { fits = fn }), ((tt, record { fits = fa }), tt)))) $
        sets ! (of_opd ! (unit_lit !)) refl (tt, tt) $ returns ! (look_at ! 0 refl) $ free_all ! refl $
        suffices ! _ (ends_at 𝓛 F.ended stayed held bound vunit tt (tt, (tt, (tt, (tt, tt))))
        (tt, (tt, (tt, (tt, tt))))) $
        nothing ! $ feq_i ! (List Val) (vunit ∷ []) (vunit ∷ []) refl $ nothing ! $ nothing ! $ fjoin ! $ nothing ! $
        fjoin ! $ nothing ! $ fjoin ! $ nothing ! $ fjoin ! $ join ! $ move ! (2 ∷ 0 ∷ []) $ join ! $ done !)

pub deallocate_spec : {M : Type 1} → stated.statement M
unfolding tables_of
deallocate_spec 𝓤 𝓛 𝓜 𝓡 wired =
    let 𝓣 : Tables 𝓤 𝓛.H = tables_of 𝓤 𝓛.H 𝓜 (tables 𝓤 𝓛.H 𝓜 𝓡 𝓡.env) in
    let c = F.clauses 𝓛 𝓜.mem 𝓡.returns in
    entered 𝓤 𝓛.H (triple_of 𝓛 F.signature (F.spec 𝓛 𝓜.mem 𝓡.returns)) 𝓣.C 𝓣.Λ key.name code.function
    (code.unfolded 𝓤 𝓛.H 𝓜 𝓡 wired)
    (walk_Meets 𝓛 F.ended stayed (
      Goes-dropped 𝓛 1 self yes (λ κs x f. refl),
      (
        Goes-dropped 𝓛 1 (plain (λ _. RawPtr)) yes (λ κs x f. refl),
        (
          Goes-dropped 𝓛 1 (plain (λ _. usize)) yes (λ κs x f. refl),
          (Goes-dropped 𝓛 1 (plain (λ _. usize)) yes (λ κs x f. refl), tt),
        ),
      ),
    ) c (WpFn 𝓤 𝓛.H 𝓣.C 𝓣.Λ code.function) (WpFn-mono 𝓤 𝓛.H 𝓛.laws 𝓣 code.function)
    (walked 𝓛 F.ended stayed c (WpFn 𝓤 𝓛.H 𝓣.C 𝓣.Λ code.function)
    (λ κs. (shr_vals, (rawptr_vals, (uint_vals w64, (uint_vals w64, tt)))))
    (λ κs. ((λ r vs s. s.0), (rawptr_Tells, (uint_Tells w64, (uint_Tells w64, tt)))))
    (λ κs qs bounds a τ are. walk 𝓛 𝓜.mem 𝓡.returns 𝓣 κs.0 qs.0 a.0 a.1.0 a.1.1.0 a.1.1.1.0 τ are.1.1.0.1
    are.1.1.1.0.1)))
