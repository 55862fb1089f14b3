use Rattle.std.proofs.Common.{◌≡◌, ◌<◌, ◌%◌, ℕ, List, length, get_or, [], ap, sym, ◌∙◌, subst, refl}
use Rattle.std.specs.FinSet as set
use Rattle.std.proofs.lemmas.Bool.{false≢true}
use Rattle.capn_digests.specs.Tag.{tag}
use Rattle.capn_digests.specs.Digests.{Digests}
use Rattle.capn_digests.specs.Buckets.{IsMarked, no_head, no_slot}
use Rattle.capn_digests.proofs.Found.{none_listed, none_other, unmarked_listed, unmarked_other, unled}
use Rattle.capn_digests.proofs.Found.{zero_of, some_of, read_at_home}
use Rattle.capn_digests.proofs.Sets.{absent, present, asked}
use Rattle.capn_digests.proofs.digest_set.DigestSet.contains.Goals as goal

pub returns-then-is_empty : goal.returns-then-is_empty
returns-then-is_empty g c =
    let s = c.self.inside in
    let q = c.args.digest.now in
    let f = c.self.invariant.found in
    let zero : length s.heads.items ≡ 0 = sym s.heads.ok.0 ∙ zero_of s.heads.len c.if-is_empty.ensures in
    sym (sym (ap (λ (v : Digests). set.contains v.seen q) c.self.view_is)
    ∙ absent s.list.items s.rest.keys q (none_listed s.list.items s.heads.items s.table.items s.rest.keys q f zero)
    (none_other s.list.items s.heads.items s.table.items s.rest.keys q f zero))

pub returns-then-not-may_be_in : goal.returns-then-not-may_be_in
returns-then-not-may_be_in g c =
    let s = c.self.inside in
    let q = c.args.digest.now in
    let f = c.self.invariant.found in
    let n : ℕ = c.len.result in
    let count : n ≡ length s.heads.items = c.len.ensures ∙ s.heads.ok.0 in
    let some : 0 < n = subst (λ (m : ℕ). 0 < m) (sym c.len.ensures) (some_of s.heads.len c.if-is_empty.ensures) in
    let head : c.index.result.now ≡ get_or s.heads.items (tag q % length s.heads.items) no_head =
    read_at_home s.heads.items no_head q (length s.heads.items) c.tag_of-tag.result n c.index.result.now
    c.tag_of-tag.ensures count some refl
    (c.index.ensures ∙ ap (λ (k : ℕ). get_or s.heads.items k c.index.result.now) c.home_of-at.ensures) in
    let marked : IsMarked c.index.result.now (tag q) → ⊥ = λ m. false≢true (sym c.if-not-may_be_in.true
    ∙ c.may_be_in.ensures.marked (subst (λ (t : ℕ). IsMarked c.index.result.now t) (sym c.tag_of-tag.ensures) m)) in
    sym (sym (ap (λ (v : Digests). set.contains v.seen q) c.self.view_is)
    ∙ absent s.list.items s.rest.keys q
    (unmarked_listed s.list.items s.heads.items s.table.items s.rest.keys q f c.index.result.now head marked)
    (unmarked_other s.list.items s.heads.items s.table.items s.rest.keys q f c.index.result.now head
    (λ over. false≢true (sym c.if-not-may_be_in.true ∙ c.may_be_in.ensures.overflowed over))))

pub returns-then-is_among : goal.returns-then-is_among
returns-then-is_among g c =
    let s = c.self.inside in
    let q = c.args.digest.now in
    c.if-is_among.true
    ∙ sym (sym (ap (λ (v : Digests). set.contains v.seen q) c.self.view_is)
    ∙ present s.list.items s.rest.keys q
    (subst (λ (xs : List (List ℕ)). (at : ℕ) × (at < length xs) × (get_or xs at [] ≡ q)) c.deref.ensures.value
    (c.is_among.ensures.found c.if-is_among.true)))

pub returns-else-is_among : goal.returns-else-is_among
returns-else-is_among g c =
    let s = c.self.inside in
    let q = c.args.digest.now in
    let f = c.self.invariant.found in
    let n : ℕ = c.len.result in
    let count : n ≡ length s.heads.items = c.len.ensures ∙ s.heads.ok.0 in
    let some : 0 < n = subst (λ (m : ℕ). 0 < m) (sym c.len.ensures) (some_of s.heads.len c.if-is_empty.ensures) in
    let bucket : c.index-3.result.now ≡ get_or s.table.items (tag q % length s.heads.items) [] =
    read_at_home s.table.items [] q (length s.heads.items) c.tag_of-tag.result n c.index-3.result.now
    c.tag_of-tag.ensures count some (f.tabled ∙ sym f.headed)
    (c.index-3.ensures ∙ ap (λ (k : ℕ). get_or s.table.items k c.index-3.result.now) c.home_of-at.ensures) in
    let missing = c.is_among.ensures.missing c.if-is_among.false in
    c.contains.ensures
    ∙ sym (sym (ap (λ (v : Digests). set.contains v.seen q) c.self.view_is)
    ∙ asked s.list.items s.rest.keys q
    (unled s.list.items s.heads.items s.table.items s.rest.keys q f c.index-3.result.now bucket
    (λ k below same inside. subst (λ (xs : List (List ℕ)).
    get_or xs ((get_or c.index-3.result.now k no_slot).at) [] ≡ q → ⊥) c.deref.ensures.value
    (missing k below (same ∙ sym c.tag_of-tag.ensures)
    (subst (λ (xs : List (List ℕ)). (get_or c.index-3.result.now k no_slot).at < length xs)
    (sym c.deref.ensures.value) inside)))))
