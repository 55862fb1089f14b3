-- Lemmas for `command`, `meaning` and the subcommands: a name and its options mean at most one thing.
use Rattle.std.proofs.Common.{◌≡◌, ◌⊎◌, inl, inr, List, [], ◌∷◌, Bool, true, false, cond, bytes_eq, refl, sym, ◌∙◌}
use Rattle.std.proofs.lemmas.Slice.Eq.{bytes_eq-Decides}
use Rattle.clap.specs.Words.{Row, Text}

-- A kind of meaning. `Is rows o` states that the options `rows` mean `o`. `one` states that they mean at most one
-- thing, up to `Same`.
pub record Kind {O : Type 0} (Same : O → O → Type 0) : Type 1 where
  pub Is : List Row → O → Type 0
  pub one : (rows : List Row) (o p : O) → Is rows o → Is rows p → Same o p

-- The kind of a name that means nothing.
abbrev pub nothing : {O : Type 0} {Same : O → O → Type 0} → Text → Kind Same
nothing name = record { Is = λ rows o. ⊥; one = λ rows o p is also. absurd is }

-- `rows` mean `o` by the kind that the list has for `name`, or by `rest name` if the list has none.
abbrev pub Named : {O : Type 0} {Same : O → O → Type 0} → List (Text × Kind Same) → (Text → Kind Same) → Text → List Row
    → O → Type 0
Named [] rest name rows o = (rest name).Is rows o
Named (kind ∷ kinds) rest name rows o = cond (bytes_eq name kind.0) (kind.1.Is rows o) (Named kinds rest name rows o)

by_test : {A B C D R : Type 0} (b : Bool) → (A → B → R) → (C → D → R) → cond b A C → cond b B D → R
by_test true both rest = both
by_test false both rest = rest

-- A name and its options mean at most one thing, up to `Same`.
pub named_one : {O : Type 0} {Same : O → O → Type 0} (kinds : List (Text × Kind Same)) (rest : Text → Kind Same)
    (name : Text) (rows : List Row) (o p : O) → Named kinds rest name rows o → Named kinds rest name rows p → Same o p
named_one [] rest name rows o p m n = (rest name).one rows o p m n
named_one (kind ∷ kinds) rest name rows o p m n =
    by_test (bytes_eq name kind.0) (kind.1.one rows o p) (named_one kinds rest name rows o p) m n

-- `name` is the name of one of `kinds`.
abbrev pub IsName : {O : Type 0} {Same : O → O → Type 0} → List (Text × Kind Same) → Text → Type 0
IsName [] name = ⊥
IsName (kind ∷ kinds) name = (name ≡ kind.0) ⊎ IsName kinds name

found : (A : Type 0) {B M N R : Type 0} (b : Bool) → (b ≡ true → N) → (B → M ⊎ R) → cond b A B → (N ⊎ M) ⊎ R
found A true is rest m = inl (inl (is refl))
found A false is rest m = elim (rest m) [ inl listed ↦ inl (inr listed) | inr other ↦ inr other ]

-- If `name` and `rows` mean `o`, `name` is the name of one of `kinds`, or `rest name` gives this meaning.
pub named : {O : Type 0} {Same : O → O → Type 0} (kinds : List (Text × Kind Same)) (rest : Text → Kind Same)
    (name : Text) (rows : List Row) (o : O) → Named kinds rest name rows o
    → IsName kinds name ⊎ (rest name).Is rows o
named [] rest name rows o m = inr m
named (kind ∷ kinds) rest name rows o m =
    found (kind.1.Is rows o) (bytes_eq name kind.0) (bytes_eq-Decides name kind.0).0 (named kinds rest name rows o) m

pub differ : {a b : Text} → a ≡ b → bytes_eq a b ≡ false → ⊥
differ {a} {b} is other = let bad : true ≡ false = sym ((bytes_eq-Decides a b).1 is) ∙ other in absurd cc
