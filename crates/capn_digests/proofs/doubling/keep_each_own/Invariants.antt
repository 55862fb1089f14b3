use Rattle.std.proofs.Common.{ℕ, ◌≤◌, List, get_or}
use Rattle.capn_digests.specs.Buckets.{IsFound, no_head}
use Rattle.capn_digests.proofs.doubling.keep_each_own.Given as goal

abbrev pub invariant-loop-at : goal.invariant-loop-at
invariant-loop-at l =
    record {
      fewer : (i : ℕ) → (get_or l.heads i no_head).count ≤ (get_or l.initial.heads i no_head).count;
      found : (list rest : List (List ℕ)) → IsFound list l.initial.heads l.initial.table rest
          → IsFound list l.heads l.table rest;
    }
