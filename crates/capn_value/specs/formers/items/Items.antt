-- The storage of the elements in `Items`, which allows a `Value` to have `Items` of values. It is the storage of the
-- wrapped `Vec`, seen as the list of its elements.
use mathlib.Core.Path.{◌≡◌, refl, sym}
use mathlib.Core.List.{List, []}
use mathlib.Core.Former.{Former, this, list, via, children}
use base.Stored.{code_map}
use denote.RattleType.{RattleType}
use denote.HoleLaws.{Alike}
use denote.HolePlaces.{Recodes, struct_places, laid}
use denote.Hole.Carrier.{listed, list-listed}
use denote.Hole.Fix.{over}
use denote.Param.Weighed.{Weighed, w_list}
use denote.Model.Placed.{view_places}
use Rattle.std.specs.declared.alloc.Allocator.{Ghosts}
use Rattle.std.specs.formers.vec.Vec as vec
use Rattle.capn_value.specs.declared.items.Items.TheInside.{Inside}
use Rattle.capn_value.specs.declared.items.Items.TheView.{view, invariant}
use Rattle.capn_value.specs.contracts.items.Items as stored
use Rattle.capn_value.specs.contracts.items.Items.TheInside as fields

-- the value of an `Items` is the list of its elements, whatever the allocator
abbrev pub the_former : Former {0} → Type 0 → Former {0}
the_former elements A = list elements

-- if the elements have weights, a list of them has a weight
abbrev pub the_weighed : {elements : Former {0}} → Weighed elements → (A : Type 0) → Weighed (the_former elements A)
the_weighed weights A = w_list weights

pub the_empty : (A : Type 0) → A → List ⊥
the_empty A alloc = []

-- the elements of the value of an `Items` are the value itself
abbrev pub the_items : (A T : Type 0) → List T → List T
the_items A T elements = elements

pub the_items_listed : (A T : Type 0) (elements : List T)
    → listed _ (children (the_former this A) T elements) ≡ the_items A T elements
the_items_listed A T elements = list-listed T elements

-- the storage of the only field, a `Vec`
abbrev inside : Type 0 → Former {0}
inside A = via (vec.the_former this A) (λ T. Inside T A) (λ T it. it.items) (λ T v. record { items = v }) (λ T it. refl)
    (λ T v. refl)

module _ (A : RattleType) (G : Ghosts A.Denot) (R S : RattleType) (h : R.Denot → S.Denot) where
  pub the_places : Alike R S h
      → Alike (stored.the_row R A G) (stored.the_row S A G) ((the_former this A.Denot).map R.Denot S.Denot h)
  the_places alike =
      view_places (inside A.Denot) (list this) (λ T. view T A.Denot G) (λ T U k it. refl) (λ T it. refl) R.Denot S.Denot
      h
      (stored.the_row R A G).coded (stored.the_row S A G).coded
      (invariant R.Denot A.Denot G) (invariant S.Denot A.Denot G) (λ it p q. refl) (λ it p q. refl) (λ it e. tt)
      (λ it e. tt)
      (over (fields.the_row R A G)) (over (fields.the_row S A G))
      (struct_places (fields.the_type R A G) (fields.the_type S A G) (vec.mapped h, tt) _ (λ d. refl) refl
      (laid _ _ _ (vec.the_places A G R S h alike), tt))

  pub the_codes_placed : Recodes R S h
      → Recodes (stored.the_row R A G) (stored.the_row S A G) ((the_former this A.Denot).map R.Denot S.Denot h)
  the_codes_placed recodes elements = sym (code_map R.coded.code S.coded.code h (λ x. sym (recodes x)) elements)
