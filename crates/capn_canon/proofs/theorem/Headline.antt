-- The canonical bytes of a value are its canonical form, also for the value that bytes denote within limits. (For
-- `canonical.rt`, `laws.rt`, `length.rt` and `written_bytes.rt`.)
use Rattle.std.proofs.Common.{◌≡◌, ℕ, ◌*◌, ◌+◌, ◌^◌, ◌≤◌, List, length, sym, subst, arith}
use Rattle.capn_words.specs.Message.{IsMessage}
use Rattle.capn_value.specs.Tree.{Tree}
use Rattle.capn_value.specs.InRange.{InRange}
use Rattle.capn_value.specs.Fits.{Fits}
use Rattle.capn_value.specs.Cost.{base, cost, height}
use Rattle.capn_walk.specs.Accepted.{root, IsValueOf, paid}
use Rattle.capn_walk.specs.Limits.{Bounds, AreLimits}
use Rattle.capn_walk.proofs.shared.Fitting.{fits-root, root-costs}
use Rattle.capn_walk.proofs.shared.Unique.{unique}
use Rattle.capn_layout.specs.Layout.{canon}
use Rattle.capn_canon.specs.Canonicity.{IsFormExactlyOf, IsCanonicalForm}
use Rattle.capn_canon.specs.declared.form.Form.{Form}
use Rattle.capn_canon.specs.Denotes.{Denotes}
use Rattle.capn_canon.specs.Laws.{HasCanonicalForm}
use Rattle.capn_canon.proofs.shared.OneReading.{is_message}
use Rattle.capn_walk.proofs.shared.InRangeAt.{in_range-at}
use Rattle.capn_canon.proofs.shared.BareCanon.{canon_length}
use Rattle.capn_canon.proofs.theorem.EqualExactlySame.{canon-trimmed, equal_exactly_same, trimmed_is_same}
use Rattle.capn_canon.proofs.reading.ReadBare.{pays_its_cost, read_bare}

-- If two values fit and are in range, their canonical bytes are equal if and only if the values are the same (`Same`).
pub form_exactly_of : (v : Tree) → Fits v → InRange v → IsFormExactlyOf (canon v) v
form_exactly_of v f r w g s =
    let e = equal_exactly_same v w f r g s in
    ((λ p. e.0 (sym p)), (λ p. sym (e.1 p)))

-- Suppose that `v` fits and is in range, and that `limits` allow its cost and its height. Then `canon v` is the
-- canonical form of `v`.
pub canonical_form : (v : Tree) (limits : Bounds) → Fits v → InRange v → cost (base limits.tariff) v ≤ limits.budget
    → height v ≤ limits.depth → IsCanonicalForm (canon v) limits v
canonical_form v limits f r c l = record {
  reads_back = record { denotes = read_bare v limits f r l c; same = trimmed_is_same v f r };
  pays = pays_its_cost v limits f r l;
  own = canon-trimmed v;
  exactly = form_exactly_of v f r;
}

-- In this block `v` is the value at the root of the message `m`, which is accepted within `limits`.
module _ (m : List (List ℕ)) (limits : Bounds) (v : Tree) (is : IsMessage m) (small : limits.budget ≤ 2 ^ 28)
    (shallow : limits.depth ≤ 256) (h : IsValueOf m limits v) where
  pub denoted_fits : Fits v
  denoted_fits = fits-root m (base limits.tariff) limits.budget limits.depth v small shallow h.accepted.within h.is

  pub denoted_in_range : InRange v
  denoted_in_range = in_range-at m is.each v root h.is

  -- The cost of `v` is at most the number of words paid, which is at most the budget. The height of `v` is at most the
  -- depth limit.
  pub denoted_cost : (cost (base limits.tariff) v ≤ paid m limits) × (paid m limits ≤ limits.budget)
      × (height v ≤ limits.depth)
  denoted_cost = let c = root-costs m (base limits.tariff) limits.depth v h.is h.accepted.within.all in
      (c.0, h.accepted.within.paid, c.1)

  pub denoted_form : IsCanonicalForm (canon v) limits v
  denoted_form =
      let c = denoted_cost in
      let x = c.0 in
      let y = c.1 in
      canonical_form v limits denoted_fits denoted_in_range (omega arith) c.2

  -- `v` has at most 8 canonical bytes for each word paid, and 8 more.
  pub denoted_length : length (canon v) ≤ 8 * (paid m limits + 1)
  denoted_length =
      let c = denoted_cost.0 in
      let l = (canon_length v (base limits.tariff) denoted_fits denoted_in_range).1 in
      omega arith

  -- If `bs` are the canonical bytes of `v`, they are the canonical form of any value `w` of `m`.
  pub form_of_any : (bs : List ℕ) (w : Tree) → bs ≡ canon v → IsValueOf m limits w → IsCanonicalForm bs limits w
  form_of_any bs w e k =
      let s = unique m v w root h.is k.is in
      subst (λ (b : List ℕ). IsCanonicalForm b limits w) (sym e)
      (subst (λ (u : Tree). IsCanonicalForm (canon v) limits u) s denoted_form)

-- The value that bytes denote within valid limits has a canonical form (`HasCanonicalForm`).
pub denoted_has_form : (form : Form) (bs : List ℕ) (limits : Bounds) (v : Tree)
    → AreLimits limits.message_words limits.budget limits.depth →
    (h : Denotes form bs limits v) → HasCanonicalForm form bs limits v h
denoted_has_form form bs limits v are h =
    let m = is_message form bs limits.message_words h.message are.few_words h.reads in
    let c = denoted_cost h.message limits v m are.small_budget are.small_depth h.value in
    record {
      fits = denoted_fits h.message limits v m are.small_budget are.small_depth h.value;
      in_range = denoted_in_range h.message limits v m are.small_budget are.small_depth h.value;
      cheap = c.0;
      within = c.1;
      low = c.2;
      short = denoted_length h.message limits v m are.small_budget are.small_depth h.value;
      canonical = denoted_form h.message limits v m are.small_budget are.small_depth h.value;
    }
