use Rattle.std.proofs.Common.{◌≡◌, ◌+◌, ◌<◌, ◌≤◌, ◌%◌, ℕ, List, length, get_or, set, true, false, [], ◌∷◌, ◌++◌}
use Rattle.std.proofs.Common.{arith, ap, sym, ◌∙◌, subst, refl}
use Rattle.std.specs.FinSet as sets
use Rattle.std.proofs.Math.Nat.{mod-lt}
use Rattle.std.proofs.Common.{length-append}
use Rattle.std.proofs.lemmas.List.{length-map, length-set}
use Rattle.capn_digests.specs.declared.slot.Slot.{Slot}
use Rattle.capn_digests.specs.declared.slot.Head.{Head}
use Rattle.capn_digests.specs.Tag.{tag}
use Rattle.capn_digests.specs.Digests.{Digests, count_of, taken_for}
use Rattle.capn_digests.specs.Buckets.{no_head, digests_of, IsFound, IsIndexed}
use Rattle.capn_digests.proofs.Found.{found_added, found_in_tree, read_at_home}
use Rattle.capn_digests.proofs.Grown.{grown, taken_is}
use Rattle.capn_digests.proofs.Sets.{indexed_listed, indexed_other, listed_set, other_set, one_more}
use Rattle.capn_digests.proofs.digest_set.DigestSet.add.Goals as goal
use Rattle.capn_digests.proofs.digest_set.DigestSet.add.Goals.{else-head-lt-SLOTS-via-then-head-lt-SLOTS+else-at}
use Rattle.capn_digests.proofs.digest_set.DigestSet.add.Goals.{else-head-lt-SLOTS-via-else-head-lt-SLOTS}

pub index_mut-requires : goal.index_mut-requires
index_mut-requires g c =
    let s = c.self.inside in
    let heads = c.make_room.new.heads.items in
    let table = c.make_room.new.table.items in
    let f : IsFound s.list.items heads table s.rest.keys =
    c.make_room.ensures.found s.list.items s.rest.keys c.self.invariant.found in
    let even : length table ≡ length heads = f.tabled ∙ sym f.headed in
    let some : 0 < length heads = c.in_ok-make_room.ensures.some in
    let count : c.len.result ≡ length heads = c.len.ensures ∙ c.make_room.new.heads.ok.0 in
    let long : c.make_room.new.table.len ≡ length table = c.make_room.new.table.ok.0 in
    let less : c.home_of-home.result < c.len.result =
    subst (λ (k : ℕ). k < c.len.result) (sym c.home_of-home.ensures)
    (mod-lt c.tag_of-tag.result {m = c.len.result} (omega arith)) in
    omega arith

pub invariant_of-self-then-at : goal.invariant_of-self-then-at
invariant_of-self-then-at g c =
    let s = c.self.inside in
    let d = c.args.digest in
    let heads = c.make_room.new.heads.items in
    let table = c.make_room.new.table.items in
    let f : IsFound s.list.items heads table s.rest.keys =
    c.make_room.ensures.found s.list.items s.rest.keys c.self.invariant.found in
    let some : 0 < length heads = c.in_ok-make_room.ensures.some in
    let count : c.len.result ≡ length heads = c.len.ensures ∙ c.make_room.new.heads.ok.0 in
    let few = c.if-head-lt-SLOTS.true in
    let last : c.len-at.result ≡ length s.list.items = c.len-at.ensures ∙ (c.make_room.new.list.ok.0
    ∙ ap (λ (xs : List (List ℕ)). length xs) c.make_room.ensures.same) in
    let items : c.push.new.self.items ≡ s.list.items ++ d ∷ [] = c.in_ok-push.ensures.items
    ∙ ap (λ (xs : List (List ℕ)). xs ++ d ∷ []) c.make_room.ensures.same in
    let lacks : sets.contains (digests_of s.list.items s.rest.keys) d ≡ false =
    ap (λ (v : Digests). sets.contains v.seen d) c.self.view_is ∙ c.requires in
    let new_heads : List Head = set heads (c.tag_of-tag.result % c.len.result) c.and_one.result in
    let bucket : List Slot = set c.index_mut.result.now c.index-head.result.now.count
    (record { tag = c.tag_of-tag.result; at = c.len-at.result }) in
    let new_table : List (List Slot) = set table (c.tag_of-tag.result % c.len.result) bucket in
    let whole : length c.index_mut.result.now ≡ 16 = c.put.ensures.whole in
    let head : c.index-head.result.now ≡ get_or heads (c.tag_of-tag.result % c.len.result) c.index-head.result.now =
    c.index-head.ensures ∙ ap (λ (k : ℕ). get_or heads k c.index-head.result.now) c.home_of-home.ensures in
    let own : c.index_mut.result.now ≡ get_or table (c.tag_of-tag.result % c.len.result) c.index_mut.result.now =
    c.index_mut.ensures.value ∙ ap (λ (k : ℕ). get_or table k c.index_mut.result.now) c.home_of-home.ensures in
    subst (λ (k : ℕ). IsIndexed c.push.new.self.items (set heads k c.and_one.result)
    (set table k c.put.new.bucket) s.rest.keys) (sym c.home_of-home.ensures)
    (subst (λ (b : List Slot). IsIndexed c.push.new.self.items new_heads
    (set table (c.tag_of-tag.result % c.len.result) b) s.rest.keys) (sym c.put.ensures.set)
    (subst (λ (xs : List (List ℕ)). IsIndexed xs new_heads new_table s.rest.keys) (sym items)
    (indexed_listed s.list.items s.heads.items s.table.items s.rest.keys d c.self.invariant lacks new_heads new_table
    (found_added s.list.items heads table s.rest.keys d f c.tag_of-tag.result c.len.result c.tag_of-tag.ensures count
    (omega arith) c.index-head.result.now head c.and_one.result
    (record { count = c.and_one.ensures.count; kept = c.and_one.ensures.kept }) c.and_one.ensures.marked
    c.and_one.ensures.overflowed c.index_mut.result.now own (omega arith) c.len-at.result last))))

pub invariant_of-self-in_err-insert : goal.invariant_of-self-in_err-insert
invariant_of-self-in_err-insert g c =
    let s = c.self.inside in
    let heads = c.make_room.new.heads.items in
    let table = c.make_room.new.table.items in
    let f : IsFound s.list.items heads table s.rest.keys =
    c.make_room.ensures.found s.list.items s.rest.keys c.self.invariant.found in
    let same = c.in_err-insert.ensures.err in
    subst (λ (xs : List (List ℕ)). IsIndexed xs heads table c.insert.new.self.keys) (sym c.make_room.ensures.same)
    (subst (λ (ks : List (List ℕ)). IsIndexed s.list.items heads table ks) (sym same)
    (record { found = f; counted = c.self.invariant.counted }))

pub invariant_of-self-else-head-lt-SLOTS : goal.invariant_of-self-else-head-lt-SLOTS
invariant_of-self-else-head-lt-SLOTS g c =
    let s = c.self.inside in
    let d = c.args.digest in
    let heads = c.make_room.new.heads.items in
    let table = c.make_room.new.table.items in
    let f : IsFound s.list.items heads table s.rest.keys =
    c.make_room.ensures.found s.list.items s.rest.keys c.self.invariant.found in
    let some : 0 < length heads = c.in_ok-make_room.ensures.some in
    let count : c.len.result ≡ length heads = c.len.ensures ∙ c.make_room.new.heads.ok.0 in
    let lacks : sets.contains (digests_of s.list.items s.rest.keys) d ≡ false =
    ap (λ (v : Digests). sets.contains v.seen d) c.self.view_is ∙ c.requires in
    let flag : Head = record {
      marks = c.index-head.result.now.marks;
      more = c.index-head.result.now.more;
      count = c.index-head.result.now.count;
      overflowed = true;
    } in
    let new_heads : List Head = set heads (c.tag_of-tag.result % c.len.result) flag in
    let more : length c.insert.new.self.keys ≡ length s.rest.keys + 1 =
    one_more s.list.items s.rest.keys d lacks c.in_ok-insert.field-0 c.in_ok-insert.ensures.added
    (length c.insert.new.self.keys) c.in_ok-insert.ensures.len in
    let head : c.index-head.result.now ≡ get_or heads (c.tag_of-tag.result % c.len.result) c.index-head.result.now =
    c.index-head.ensures ∙ ap (λ (k : ℕ). get_or heads k c.index-head.result.now) c.home_of-home.ensures in
    subst (λ (k : ℕ). IsIndexed c.make_room.new.list.items (set heads k flag) table c.insert.new.self.keys)
    (sym c.home_of-home.ensures)
    (subst (λ (xs : List (List ℕ)). IsIndexed xs new_heads table c.insert.new.self.keys) (sym c.make_room.ensures.same)
    (indexed_other s.list.items s.heads.items s.table.items s.rest.keys d c.self.invariant lacks new_heads table
    c.insert.new.self.keys c.in_ok-insert.ensures.keys more
    (found_in_tree s.list.items heads table s.rest.keys d f c.tag_of-tag.result c.len.result c.tag_of-tag.ensures count
    (omega arith) c.index-head.result.now head)))

pub returns-in_ok-push-clause-added : goal.returns-in_ok-push-clause-added
returns-in_ok-push-clause-added g c =
    let s = c.self.inside in
    let d = c.args.digest in
    let items : c.push.new.self.items ≡ s.list.items ++ d ∷ [] = c.in_ok-push.ensures.items
    ∙ ap (λ (xs : List (List ℕ)). xs ++ d ∷ []) c.make_room.ensures.same in
    ap (λ (xs : List (List ℕ)). digests_of xs s.rest.keys) items ∙ (listed_set s.list.items s.rest.keys d
    ∙ ap (λ (v : Digests). sets.insert v.seen d) c.self.view_is)

pub returns-in_ok-insert-clause-added : goal.returns-in_ok-insert-clause-added
returns-in_ok-insert-clause-added g c =
    let s = c.self.inside in
    let d = c.args.digest in
    ap (λ (xs : List (List ℕ)). digests_of xs c.insert.new.self.keys) c.make_room.ensures.same
    ∙ (ap (λ (ks : List (List ℕ)). digests_of s.list.items ks) c.in_ok-insert.ensures.keys
    ∙ (other_set s.list.items s.rest.keys d
    ∙ ap (λ (v : Digests). sets.insert v.seen d) c.self.view_is))

pub returns-in_ok-push-clause-grown : goal.returns-in_ok-push-clause-grown
returns-in_ok-push-clause-grown g c =
    let s = c.self.inside in
    let d = c.args.digest in
    let heads = c.make_room.new.heads.items in
    let was : length s.list.items ≡ c.args.self.now.listed = ap (λ (v : Digests). v.listed) c.self.view_is in
    let items : c.push.new.self.items ≡ s.list.items ++ d ∷ [] = c.in_ok-push.ensures.items
    ∙ ap (λ (xs : List (List ℕ)). xs ++ d ∷ []) c.make_room.ensures.same in
    let wide = c.make_room.ensures.room in
    let wider = c.push.ensures.capacity in
    grown _ _ _ s.heads.items heads (length s.list.items) s.list.cap was (ap (λ (v : Digests). v.room) c.self.view_is)
    (ap (λ (v : Digests). v.taken) c.self.view_is)
    (length-map (set heads _ c.and_one.result) (λ (h : Head). h.count) ∙ length-set heads _ c.and_one.result)
    (omega arith) (λ full. let more = c.in_ok-make_room.ensures.eighth full in omega arith) c.make_room.ensures.still
    c.in_ok-make_room.ensures.twice c.in_ok-make_room.ensures.some
    (λ slot short. ap (λ (xs : List (List ℕ)). length xs) items ∙ (length-append s.list.items (d ∷ [])
    ∙ ap (λ (n : ℕ). n + 1) was))

pub returns-in_ok-insert-clause-grown : goal.returns-in_ok-insert-clause-grown
returns-in_ok-insert-clause-grown g c =
    let s = c.self.inside in
    let d = c.args.digest in
    let heads = c.make_room.new.heads.items in
    let was : length s.list.items ≡ c.args.self.now.listed = ap (λ (v : Digests). v.listed) c.self.view_is in
    let had = ap (λ (v : Digests). v.taken) c.self.view_is in
    let wide = c.make_room.ensures.room in
    grown _ _ _ s.heads.items heads (length s.list.items) s.list.cap was (ap (λ (v : Digests). v.room) c.self.view_is)
    had (length-map (set heads _ _) (λ (h : Head). h.count) ∙ length-set heads _ _) wide
    c.in_ok-make_room.ensures.eighth c.make_room.ensures.still c.in_ok-make_room.ensures.twice
    c.in_ok-make_room.ensures.some
    (λ slot short.
    let free : taken_for c.args.self.now d < 16 = slot in
    let less : c.args.self.now.listed < 4294967295 = short in
    let same : taken_for c.args.self.now d ≡ count_of s.heads.items (tag d) =
    taken_is s.heads.items c.args.self.now had d in
    let fewer : count_of heads (tag d) ≤ count_of s.heads.items (tag d) = c.in_ok-make_room.ensures.fewer (tag d) in
    let last : c.len-at.result ≡ length s.list.items = c.len-at.ensures ∙ (c.make_room.new.list.ok.0
    ∙ ap (λ (xs : List (List ℕ)). length xs) c.make_room.ensures.same) in
    let count : c.len.result ≡ length heads = c.len.ensures ∙ c.make_room.new.heads.ok.0 in
    let some : 0 < length heads = c.in_ok-make_room.ensures.some in
    let home : c.index-head.result.now ≡ get_or heads (tag d % length heads) no_head =
    read_at_home heads no_head d (length heads) c.tag_of-tag.result c.len.result c.index-head.result.now
    c.tag_of-tag.ensures count (omega arith) refl
    (c.index-head.ensures ∙ ap (λ (k : ℕ). get_or heads k c.index-head.result.now) c.home_of-home.ensures) in
    let own : c.index-head.result.now.count ≡ count_of heads (tag d) = ap (λ (h : Head). h.count) home in
    elim c.else-head-lt-SLOTS.branch [
      | else-head-lt-SLOTS-via-then-head-lt-SLOTS+else-at w ↦ let no = w.if-at.false in absurd (omega arith)
      | else-head-lt-SLOTS-via-else-head-lt-SLOTS w ↦ let no = w.if-head-lt-SLOTS.false in absurd (omega arith)
    ])
