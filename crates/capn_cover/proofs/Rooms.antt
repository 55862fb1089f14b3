-- Room for coverings that are laid in part after part.
use Rattle.std.proofs.Common.{◌≡◌, ℕ, ◌+◌, ◌*◌, ◌<◌, ◌≤◌, List, ◌++◌, length, refl, ap, sym, ◌∙◌, arith}
use Rattle.std.proofs.Common.{length-append}
use Rattle.capn_walk.proofs.shared.RowWalks.{one-more}
use Rattle.capn_cover.specs.declared.covered.Covered.{Covered}
use Rattle.capn_cover.specs.declared.covered.Role.{Role}
use Rattle.capn_cover.specs.Covers.{Covering, run, rows_run}
use Rattle.capn_cover.specs.inner.Laid.{laid, HasRoom}
use Rattle.capn_cover.proofs.LaidItems.{laid-append, room-laid, room-less}
use Rattle.capn_cover.proofs.Runs.{run-length, rows-length}

-- the coverings `xs` are laid in, and then the coverings `ys`
pub laid-next : (m : List (List ℕ)) (next xs ys : List Covering) (start cells new : List Covered) → next ≡ xs ++ ys
    → cells ≡ laid m xs start → new ≡ laid m ys cells → new ≡ laid m next start
laid-next m next xs ys start cells new e f g =
    g ∙ ap (laid m ys) f ∙ sym (laid-append m xs ys start) ∙ ap (λ (cs : List Covering). laid m cs start) (sym e)

-- room for coverings in two parts
pub room-first : (all xs ys : List Covering) (cells : List Covered) → all ≡ xs ++ ys → HasRoom (length all) cells
    → HasRoom (length xs) cells
room-first all xs ys cells e h =
    let a = ap (λ (cs : List Covering). length cs) e in
    let b = length-append xs ys in
    room-less (length xs) (length all) cells (omega arith) h

pub room-second : (m : List (List ℕ)) (all xs ys : List Covering) (start cells : List Covered) → all ≡ xs ++ ys
    → cells ≡ laid m xs start
    → HasRoom (length all) start → HasRoom (length ys) cells
room-second m all xs ys start cells e f h =
    let a = ap (λ (cs : List Covering). length cs) e in
    let b = length-append xs ys in
    rw f (room-laid m xs (length ys) (length all) start (omega arith) h)

-- of coverings in three parts, of which the first are laid in, there is room for the second
pub room-part : (m : List (List ℕ)) (all xs ys zs : List Covering) (start cells : List Covered)
    → all ≡ xs ++ (ys ++ zs)
    → cells ≡ laid m xs start → HasRoom (length all) start → HasRoom (length ys) cells
room-part m all xs ys zs start cells e f h =
    let k = room-second m all xs (ys ++ zs) start cells e f h in
    room-first (ys ++ zs) ys zs cells refl k

-- after the first `i` of the `n` words of a run there is room for one more
pub run-room : (m : List (List ℕ)) (slot : ℕ) (role : Role) (first i n : ℕ) (start cells : List Covered) → i < n
    → cells ≡ laid m (run slot role first i) start → HasRoom n start → HasRoom 1 cells
run-room m slot role first i n start cells l e h =
    let k = run-length slot role first i in
    rw e (room-laid m (run slot role first i) 1 n start (omega arith) h)

-- after a run of `n` words there is room for `k` more, if there was for both
pub after-run : (m : List (List ℕ)) (slot : ℕ) (role : Role) (first n k all : ℕ) (start cells : List Covered)
    → n + k ≤ all
    → cells ≡ laid m (run slot role first n) start → HasRoom all start → HasRoom k cells
after-run m slot role first n k all start cells l e h =
    let i = run-length slot role first n in
    rw e (room-laid m (run slot role first n) k all start (omega arith) h)

-- after the first `i` of `n` rows there is room for one more
pub rows-room : (m : List (List ℕ)) (slot first a b i n : ℕ) (start cells : List Covered) → i < n
    → cells ≡ laid m (rows_run slot first a b i) start → HasRoom (n * (a + b)) start → HasRoom (a + b) cells
rows-room m slot first a b i n start cells l e h =
    let k = rows-length slot a b first i in
    let more = one-more i n (a + b) l in
    rw e (room-laid m (rows_run slot first a b i) (a + b) (n * (a + b)) start (omega arith) h)

-- after `n` rows there is room for `k` more, if there was for both
pub after-rows : (m : List (List ℕ)) (slot first a b n k all : ℕ) (start cells : List Covered) → n * (a + b) + k ≤ all
    → cells ≡ laid m (rows_run slot first a b n) start → HasRoom all start → HasRoom k cells
after-rows m slot first a b n k all start cells l e h =
    let i = rows-length slot a b first n in
    rw e (room-laid m (rows_run slot first a b n) k all start (omega arith) h)
