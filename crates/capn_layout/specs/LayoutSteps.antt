-- The steps by which a buffer of words grows to a layout.
use Rattle.std.specs.Prelude.{◌≡◌, ℕ, zero, suc, ◌+◌, List, [], ◌++◌, length, take, set, replicate}
use Rattle.capn_value.specs.Tree.{Tree, Trees, no_trees, tree, Bodies, no_bodies, body}
use Rattle.capn_layout.specs.Layout.{point, lay}

-- The buffer `p` after the content of `t` and all contents below it are appended. (Our own.)
unfoldable pub laid : Tree → List ℕ → List ℕ
laid t p = p ++ lay t (length p)

-- The buffer `p` after the first `n` values of `ts` are laid out one by one. Their pointers are written over the words
-- from `first` on. The content of each value and all contents below it are appended. (Our own.)
unfoldable pub laid_slots : ℕ → Trees → ℕ → List ℕ → List ℕ
laid_slots zero ts first p = p
laid_slots (suc n) no_trees first p = p
laid_slots (suc n) (tree t ts) first p = laid_slots n ts (suc first) (laid t (set p first (point t first (length p))))

-- The buffer `p` after the first `b` slots of each row of `bs` are laid out. The rows start at word `at`, and each has
-- `a` words and `b` slots. (Our own.)
unfoldable pub laid_rows : ℕ → ℕ → Bodies → ℕ → List ℕ → List ℕ
laid_rows a b no_bodies at p = p
laid_rows a b (body ws ss bs) at p = laid_rows a b bs (at + a + b) (laid_slots b ss (at + a) p)

-- The words `cs` are, for each row of `bs`, the first `a` words of the row and then any `b` words. (Our own.)
abbrev pub AreRowsOver : ℕ → ℕ → Bodies → List ℕ → Type 0
AreRowsOver a b no_bodies cs = cs ≡ []
AreRowsOver a b (body ws ss bs) cs = (hs : List ℕ) × (rest : List ℕ) × (cs ≡ take a ws ++ (hs ++ rest))
    × (length hs ≡ b) × AreRowsOver a b bs rest

-- For each row of `bs`, the first `a` words of the row and then `b` words of zeros. (Our own.)
abbrev pub zero_rows : ℕ → ℕ → Bodies → List ℕ
zero_rows a b no_bodies = []
zero_rows a b (body ws ss bs) = take a ws ++ (replicate b 0 ++ zero_rows a b bs)

-- The slots of `ts` after the first `n`. (Our own.)
abbrev pub past : ℕ → Trees → Trees
past zero ts = ts
past (suc n) no_trees = no_trees
past (suc n) (tree t ts) = past n ts

-- The rows of `bs` after the first `n`. (Our own.)
abbrev pub rows_past : ℕ → Bodies → Bodies
rows_past zero bs = bs
rows_past (suc n) no_bodies = no_bodies
rows_past (suc n) (body ws ss bs) = rows_past n bs

-- The slots of row `i`. The result is `no_trees` if there is no row `i`. (Our own.)
abbrev pub slots_at : Bodies → ℕ → Trees
slots_at no_bodies i = no_trees
slots_at (body ws ss bs) zero = ss
slots_at (body ws ss bs) (suc i) = slots_at bs i
