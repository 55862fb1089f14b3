use Rattle.std.proofs.Common.{◌≡◌, ℕ, ◌+◌, ◌<◌, ◌≤◌, List, get_or, length-append, ◌++◌, length}
use Rattle.std.proofs.Common.{take, drop, ap, sym, ◌∙◌, subst}
use Rattle.capn_digests.specs.declared.slot.Slot.{Slot}
use Rattle.capn_digests.specs.declared.slot.Head.{Head}
use Rattle.capn_digests.specs.Buckets.{IsFound, no_head}
use Rattle.capn_digests.specs.Digests.{count_of}
use Rattle.capn_digests.proofs.Found.{found_twice, some_of}
use Rattle.capn_digests.proofs.Grown.{fewer_twice}
use Rattle.capn_digests.proofs.Kept.{written, all_of}
use Rattle.capn_digests.proofs.doubling.double.Goals as goal

pub returns-clause-found : goal.returns-clause-found
returns-clause-found g c list rest f =
    let heads = c.args.heads.now.items in
    let table = c.args.table.now.items in
    let h : c.extend_from_within.new.self.items ≡ heads ++ heads = c.in_ok-extend_from_within.ensures.items
    ∙ (ap (λ (xs : List Head). c.try_reserve_exact.new.self.items ++ xs)
    (all_of c.try_reserve_exact.new.self.items c.try_reserve_exact.new.self.len c.try_reserve_exact.new.self.ok.0)
    ∙ ap (λ (xs : List Head). xs ++ xs) c.try_reserve_exact.ensures.items) in
    let t : c.extend_from_within-2.new.self.items ≡ table ++ table = c.in_ok-extend_from_within-2.ensures.items
    ∙ (ap (λ (xs : List (List Slot)). c.try_reserve_exact-2.new.self.items ++ xs)
    (all_of c.try_reserve_exact-2.new.self.items c.try_reserve_exact-2.new.self.len c.try_reserve_exact-2.new.self.ok.0)
    ∙ ap (λ (xs : List (List Slot)). xs ++ xs) c.try_reserve_exact-2.ensures.items) in
    let own : IsFound list c.keep_each_own.new.heads c.keep_each_own.new.table rest =
    c.keep_each_own.ensures.found list rest
    (subst (λ (xs : List Head). IsFound list xs c.deref_mut-2.result.now rest) (sym (c.deref_mut.ensures.value ∙ h))
    (subst (λ (xs : List (List Slot)). IsFound list (heads ++ heads) xs rest)
    (sym (c.deref_mut-2.ensures.value ∙ t)) (found_twice list heads table rest f))) in
    subst (λ (xs : List Head). IsFound list xs (take c.extend_from_within-2.new.self.len
    (c.keep_each_own.new.table ++ drop (length c.keep_each_own.new.table) c.extend_from_within-2.new.self.items)) rest)
    (sym (written c.keep_each_own.new.heads c.extend_from_within.new.self.items c.extend_from_within.new.self.len
    c.extend_from_within.new.self.ok.0
    (c.keep_each_own.auto.heads ∙ ap (λ (xs : List Head). length xs) c.deref_mut.ensures.value)))
    (subst (λ (xs : List (List Slot)). IsFound list c.keep_each_own.new.heads xs rest)
    (sym (written c.keep_each_own.new.table c.extend_from_within-2.new.self.items c.extend_from_within-2.new.self.len
    c.extend_from_within-2.new.self.ok.0
    (c.keep_each_own.auto.table ∙ ap (λ (xs : List (List Slot)). length xs) c.deref_mut-2.ensures.value))) own)

pub returns-clause-fewer : goal.returns-clause-fewer
returns-clause-fewer g c =
    let heads = c.args.heads.now.items in
    let h : c.extend_from_within.new.self.items ≡ heads ++ heads = c.in_ok-extend_from_within.ensures.items
    ∙ (ap (λ (xs : List Head). c.try_reserve_exact.new.self.items ++ xs)
    (all_of c.try_reserve_exact.new.self.items c.try_reserve_exact.new.self.len c.try_reserve_exact.new.self.ok.0)
    ∙ ap (λ (xs : List Head). xs ++ xs) c.try_reserve_exact.ensures.items) in
    let long : length c.keep_each_own.new.heads ≡ length heads + length heads = c.keep_each_own.auto.heads
    ∙ (ap (λ (xs : List Head). length xs) (c.deref_mut.ensures.value ∙ h) ∙ length-append heads heads) in
    let count : c.try_reserve_exact.new.self.len ≡ length heads = c.try_reserve_exact.new.self.ok.0
    ∙ ap (λ (xs : List Head). length xs) c.try_reserve_exact.ensures.items in
    let some : 0 < length heads = subst (λ (n : ℕ). 0 < n) count
    (some_of c.try_reserve_exact.new.self.len c.if-is_empty.ensures) in
    subst (λ (xs : List Head). (t : ℕ) → count_of xs t ≤ count_of heads t)
    (sym (written c.keep_each_own.new.heads c.extend_from_within.new.self.items c.extend_from_within.new.self.len
    c.extend_from_within.new.self.ok.0
    (c.keep_each_own.auto.heads ∙ ap (λ (xs : List Head). length xs) c.deref_mut.ensures.value)))
    (fewer_twice heads c.keep_each_own.new.heads some long (λ i. subst (λ (xs : List Head).
    (get_or c.keep_each_own.new.heads i no_head).count ≤ (get_or xs i no_head).count) (c.deref_mut.ensures.value ∙ h)
    (c.keep_each_own.ensures.fewer i)))
