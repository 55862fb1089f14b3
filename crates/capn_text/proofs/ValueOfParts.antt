-- Lemmas for `contents.rt` and `one_text.rt`: the value that each step of the parser makes.
use Rattle.std.proofs.Common.{◌≡◌, ℕ, zero, suc, None, ◌+◌, ◌-◌, ◌<◌, List, [], ◌∷◌, map, Option, Some, refl, sym, ap}
use Rattle.std.proofs.Common.{ap₂, ◌∙◌}
use Rattle.std.proofs.Common.{arith}
use Rattle.capn_value.specs.Tree.{Tree, tree, body, node, links, rows}
use Rattle.capn_value.specs.TreeOf.{trees, rows_from, tree_of, body_of, trees_of, rows_of}
use Rattle.std.proofs.lemmas.Grind.{common_steps}
use Rattle.capn_value.specs.Views.{views, tree_of-Node, tree_of-Links, tree_of-Rows}
use Rattle.capn_value.specs.declared.value.Value.{Value, Node, Links, Rows}
use Rattle.capn_value.specs.declared.value.Body.{Body}
use Rattle.capn_text.specs.inner.Tokens.{◌>>=◌, many}
use Rattle.capn_text.specs.inner.Values.{head_at, body_at, row_at, content_at, low_at, tree_at}
use Rattle.capn_text.specs.declared.heads.Name.TheVariants as names
use Rattle.capn_text.specs.declared.heads.Head.{Head}
use Rattle.capn_text.specs.declared.heads.Head.TheVariants as heads

-- The rules `common_steps` and `views`, in one ruleset.
pub ruleset steps_and_views = (common_steps, views)

-- Let the first line `h` be read from `t`, and let `after` be the bytes after that line.
module _ (room level : ℕ) (t after : List ℕ) (h : Head) (e : head_at level t ≡ Some (h, after)) where
  pub by_low_head : room ≡ 0 → tree_at room level t ≡ low_at h after
  unfolding tree_at
  by_low_head is =
      ap (λ n. tree_at n level t) is ∙ ap (λ (o : Option (Head × List ℕ)). o >>= λ q. low_at q.0 q.1) e

  pub by_head : 0 < room → tree_at room level t ≡ content_at (tree_at (room - 1)) level h after
  unfolding tree_at
  by_head low =
      let r : room ≡ suc (room - 1) = omega arith in
      ap (λ n. tree_at n level t) r
      ∙ ap (λ (o : Option (Head × List ℕ)). o >>= λ q. content_at (tree_at (room - 1)) level q.0 q.1) e

pub no_head : (room level : ℕ) (t : List ℕ) → head_at level t ≡ None → tree_at room level t ≡ None
unfolding tree_at
no_head zero level t e = ap (λ (o : Option (Head × List ℕ)). o >>= λ q. low_at q.0 q.1) e
no_head (suc room) level t e =
    ap (λ (o : Option (Head × List ℕ)). o >>= λ q. content_at (tree_at room) level q.0 q.1) e

module _ {A : Type 0} where
  trees-map : (vs : List (Value A)) → trees (map tree_of vs) ≡ trees_of vs
  trees-map [] = refl
  trees-map (v ∷ vs) = ap (tree (tree_of v)) (trees-map vs)

  rows-map : (bs : List (Body A)) → rows_from (map body_of bs) ≡ rows_of bs
  rows-map [] = refl
  rows-map (b ∷ bs) = ap₂ (body b.words) (trees-map b.slots) (rows-map bs)

  module _ (below : ℕ → List ℕ → Option (Tree × List ℕ)) (level : ℕ) (after rest : List ℕ) (h : Head) where
    pub node_read : (w s : ℕ) (b : Body A) → h ≡ heads.Struct w s
        → body_at below level w s after ≡ Some (body_of b, rest)
        → content_at below level h after ≡ Some (tree_of (Node b), rest)
    node_read w s b is f =
        ap (λ k. content_at below level k after) is ∙ ap (λ o. o >>= λ q. Some (node q.0.0 q.0.1, q.1)) f
        ∙ ap (λ u. Some (u, rest)) (ap (node b.words) (trees-map b.slots) ∙ sym (tree_of-Node b))

    pub links_read : (n : ℕ) (vs : List (Value A)) → h ≡ heads.Named names.Links n
        → many (below (level + 1)) n after ≡ Some (map tree_of vs, rest)
        → content_at below level h after ≡ Some (tree_of (Links vs), rest)
    links_read n vs is f =
        ap (λ k. content_at below level k after) is ∙ ap (λ o. o >>= λ q. Some (links (trees q.0), q.1)) f
        ∙ ap (λ u. Some (u, rest)) (ap links (trees-map vs) ∙ sym (tree_of-Links vs))

    pub rows_read : (n : ℕ) (bs : List (Body A)) → h ≡ heads.Named names.Rows n
        → many (row_at below (level + 1)) n after ≡ Some (map body_of bs, rest)
        → content_at below level h after ≡ Some (tree_of (Rows bs), rest)
    rows_read n bs is f =
        ap (λ k. content_at below level k after) is ∙ ap (λ o. o >>= λ q. Some (rows (rows_from q.0), q.1)) f
        ∙ ap (λ u. Some (u, rest)) (ap rows (rows-map bs) ∙ sym (tree_of-Rows bs))
