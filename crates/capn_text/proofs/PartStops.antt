-- Lemmas for the cycle `value_at`, `first_value` and `leaf_at`: the stops of the code that reads structs, lists and
-- rows.
use Rattle.std.proofs.Common.{◌≡◌, ◌+◌, ◌-◌, ◌^◌, ◌<◌, ◌≤◌, ℕ, zero, suc, List, [], ◌++◌, length, Option}
use Rattle.std.proofs.Common.{Some, None, Bool, true, false, cond, append_assoc}
use Rattle.std.specs.Prelude.{nat_lt}
use Rattle.std.proofs.lemmas.Bool.{ltb-true}
use Rattle.std.proofs.Common.{map, refl, sym, ap, subst, ◌∙◌, arith}
use Rattle.std.specs.Prelude.{Result, Ok, Err, IfErr}
use Rattle.std.specs.Int.{from_bool}
use Rattle.capn_value.specs.NumberWidth.{bit, byte, pair, quad, oct}
use Rattle.capn_value.specs.Tree.{Tree, node, numbers, links, rows, Trees}
use Rattle.capn_value.specs.TreeOf.{trees, rows_from}
use Rattle.capn_text.specs.Streams.{first_lines, ended_lines, few}
use Rattle.capn_text.specs.inner.Stops.{Stops, Deepens, FailsAt, GivesAt, IsLineLost, LineFails, stop_in}
use Rattle.capn_text.specs.inner.Tokens.{◌>>=◌, Gives, Fails, byte_at, bit_at, many, word_line_at}
use Rattle.capn_text.specs.inner.Tokens.{row_line_at}
use Rattle.capn_text.specs.inner.Values.{Holds, head_at, leaf_at, body_at, row_of, row_at, content_at, low_at, tree_at}
use Rattle.capn_text.specs.declared.fault.Stop.{Stop}
use Rattle.capn_text.specs.declared.fault.Stop.TheVariants as stops
use Rattle.capn_text.specs.declared.heads.Leaf.{Leaf}
use Rattle.capn_text.specs.declared.heads.Leaf.TheVariants as leaves
use Rattle.capn_text.specs.declared.heads.Name.TheVariants as names
use Rattle.capn_text.specs.declared.heads.Head.{Head}
use Rattle.capn_text.specs.declared.heads.Head.TheVariants as heads
use Rattle.capn_value.specs.Text.{line}
use Rattle.capn_text.proofs.ValueOfParts.{by_low_head, by_head, no_head}
use Rattle.capn_text.proofs.HeadText.{head_text, head_again, head_takes}
use Rattle.capn_text.proofs.LineBytes.{head_is_line}
use Rattle.capn_text.proofs.WholeLines.{are_none, first_front}
use Rattle.std.proofs.lemmas.List.{append-nil}
use Rattle.capn_text.proofs.LineStops.{word_local, number_local, bits_local, bits_fail, bytes_local, bytes_fail}
use Rattle.capn_text.proofs.LineStops.{head_local}
use Rattle.capn_text.proofs.StopLaws.{Reads, given, both, all, full_given, local_all, first_fails, second_fails}
use Rattle.capn_text.proofs.StopLaws.{any_room}
use Rattle.capn_text.proofs.StopLaws.{not_read}
use Rattle.capn_text.proofs.TreeStops.{tree_by, body_by, row_by, content_by, words_by, numbers_by, slots_by}
use Rattle.capn_text.proofs.TreeStops.{tree_local, tree_full, slots_full, body_local, row_local}
use Rattle.capn_text.proofs.TreeStops.{row_full, content_full}

module _ (level n : ℕ) (e : Stop) (t : List ℕ) where
  pub bits_fail_here : LineFails e (row_line_at bit_at (level + 1) n) t
      → FailsAt (λ r. leaf_at level leaves.Bits n) 0 e t
  unfolding leaf_at
  bits_fail_here h =
      first_fails (λ r. row_line_at bit_at (level + 1) n)
      (λ xs. given (numbers bit (map from_bool xs))) 0 (bits_local (level + 1) n)
      (λ xs. full_given (numbers bit (map from_bool xs))) e t (bits_fail (level + 1) n 0 e t h)

  pub bytes_fail_here : LineFails e (row_line_at byte_at (level + 1) n) t
      → FailsAt (λ r. leaf_at level leaves.Bytes n) 0 e t
  unfolding leaf_at
  bytes_fail_here h =
      first_fails (λ r. row_line_at byte_at (level + 1) n) (λ xs. given (numbers byte xs)) 0 (bytes_local (level + 1) n)
      (λ xs. full_given (numbers byte xs)) e t (bytes_fail (level + 1) n 0 e t h)

  numbers_fail : (greatest : ℕ) (make : List ℕ → Tree) → greatest < 2 ^ 64
      → FailsAt (all (numbers_by greatest (level + 1)) n) 0 e t
      → FailsAt (both (all (numbers_by greatest (level + 1)) n) (λ xs. given (make xs))) 0 e t
  numbers_fail greatest make top h =
      first_fails (all (numbers_by greatest (level + 1)) n) (λ xs. given (make xs)) 0
      (λ r. local_all (numbers_by greatest (level + 1)) r (number_local (level + 1) greatest top r) n)
      (λ xs. full_given (make xs)) e t h

  pub pairs_fail : FailsAt (all (numbers_by 65535 (level + 1)) n) 0 e t
      → FailsAt (λ r. leaf_at level leaves.Pairs n) 0 e t
  unfolding leaf_at
  pairs_fail = numbers_fail 65535 (numbers pair) (omega arith)

  pub quads_fail : FailsAt (all (numbers_by 4294967295 (level + 1)) n) 0 e t
      → FailsAt (λ r. leaf_at level leaves.Quads n) 0 e t
  unfolding leaf_at
  quads_fail = numbers_fail 4294967295 (numbers quad) (omega arith)

  pub octs_fail : FailsAt (all (numbers_by 18446744073709551615 (level + 1)) n) 0 e t
      → FailsAt (λ r. leaf_at level leaves.Octs n) 0 e t
  unfolding leaf_at
  octs_fail = numbers_fail 18446744073709551615 (numbers oct) (omega arith)

module _ (room level : ℕ) (e : Stop) (t : List ℕ) where
  pub words_fail : (w s : ℕ) → FailsAt (all (words_by (level + 1)) w) 0 e t → FailsAt (body_by level w s) room e t
  unfolding body_at
  words_fail w s h =
      first_fails (all (words_by (level + 1)) w) (slots_by level s) room
      (λ r. local_all (words_by (level + 1)) r (word_local (level + 1) r) w) (slots_full level s) e t
      (any_room (many (word_line_at (level + 1)) w) room e t h)

  pub slots_fail : (w s : ℕ) (ws : List ℕ) (after : List ℕ) → many (word_line_at (level + 1)) w t ≡ Some (ws, after)
      → FailsAt (all (tree_by (level + 1)) s) room e after → FailsAt (body_by level w s) room e t
  unfolding body_at
  slots_fail w s ws after is h =
      second_fails (all (words_by (level + 1)) w) (slots_by level s) room
      (local_all (words_by (level + 1)) room (word_local (level + 1) room) w) t ws after is e
      (first_fails (all (tree_by (level + 1)) s) (λ ss. given (ws, trees ss)) room
      (λ r. local_all (tree_by (level + 1)) r (tree_local r (level + 1)) s) (λ ss. full_given (ws, trees ss)) e after h)

  pub struct_fails : (h : Head) (w s : ℕ) → h ≡ heads.Struct w s → FailsAt (body_by level w s) room e t
      → FailsAt (content_by level h) room e t
  struct_fails h w s is f =
      subst (λ k. FailsAt (content_by level k) room e t) (sym is)
      (first_fails (body_by level w s) (λ b. given (node b.0 b.1)) room (λ r. body_local r (tree_local r) level w s)
      (λ b. full_given (node b.0 b.1)) e t f)

  pub links_fail : (h : Head) (n : ℕ) → h ≡ heads.Named names.Links n → FailsAt (all (tree_by (level + 1)) n) room e t
      → FailsAt (content_by level h) room e t
  links_fail h n is f =
      subst (λ k. FailsAt (content_by level k) room e t) (sym is)
      (first_fails (all (tree_by (level + 1)) n) (λ ts. given (links (trees ts))) room
      (λ r. local_all (tree_by (level + 1)) r (tree_local r (level + 1)) n) (λ ts. full_given (links (trees ts))) e t f)

  pub rows_fail : (h : Head) (n : ℕ) → h ≡ heads.Named names.Rows n → FailsAt (all (row_by (level + 1)) n) room e t
      → FailsAt (content_by level h) room e t
  rows_fail h n is f =
      subst (λ k. FailsAt (content_by level k) room e t) (sym is)
      (first_fails (all (row_by (level + 1)) n) (λ bs. given (rows (rows_from bs))) room
      (λ r. local_all (row_by (level + 1)) r (row_local r (tree_local r) (level + 1)) n)
      (λ bs. full_given (rows (rows_from bs))) e t f)

pub leaf_gives : {X : Type 0} (view : X → Tree × List ℕ) (result : Result X Stop) (room level : ℕ) (h : Head)
    (leaf : Leaf)
    (n : ℕ) (t : List ℕ) → h ≡ heads.Named (names.Leaf leaf) n → GivesAt view result (λ r. leaf_at level leaf n) 0 t
    → GivesAt view result (content_by level h) room t
leaf_gives view (Ok x) room level h leaf n t is g = ap (λ k. content_at (tree_at room) level k t) is ∙ g
leaf_gives view (Err e) room level h leaf n t is g =
    subst (λ k. FailsAt (content_by level k) room e t) (sym is) (any_room (leaf_at level leaf n) room e t g)

-- ---- a value

not_low : (h : Head) (t z : List ℕ) → low_at h t ≡ None → low_at h z ≡ None
not_low heads.Null t z e = absurd cc
not_low (heads.Struct w s) t z e = refl
not_low (heads.Named names.Links n) t z e = refl
not_low (heads.Named names.Rows n) t z e = refl
not_low (heads.Named names.Cap n) t z e = absurd cc
not_low (heads.Named (names.Leaf leaf) n) t z e = refl

module _ (level : ℕ) where
  abbrev headed : Reads Tree
  headed = both (λ r. head_at level) (content_by level)

  from : (m : ℕ) (s : List ℕ) (v : Option (Tree × List ℕ)) → ((r : ℕ) → m ≤ r → headed r s ≡ v)
      → (r : ℕ) → suc m ≤ r → tree_at r level s ≡ v
  unfolding tree_at
  from m s v h zero low = absurd (omega arith)
  from m s v h (suc r) low = h r (omega arith)

  stops_higher : (m n : ℕ) (t : List ℕ) → Stops headed m t n → Stops (tree_by level) (suc m) t n
  stops_higher m n t h = (
    h.0,
    h.1,
    h.2,
    h.3,
    (h.4.0, h.4.1, h.4.2, from m (h.0 ++ h.4.1) (Some (h.4.2, [])) h.4.3),
    λ r z low same. from m (h.0 ++ z) None (λ k least. h.5 k z least same) r low,
  )

  one_higher : (m : ℕ) (e : Stop) (t : List ℕ) → FailsAt headed m e t → FailsAt (tree_by level) (suc m) e t
  unfolding tree_at
  one_higher m stops.Memory t h = tt
  one_higher m (stops.Left n) t h =
      (stops_higher m n t h.0, λ r z low. from m (t ++ z) None (λ k least. h.1 k z least) r low)
  one_higher m (stops.Cut n) t h =
      let o = h.1 in
      (stops_higher m n t h.0, (o.0, o.1, o.2, o.3, o.4, o.5, from m (o.0 ++ o.4) (Some (o.5, [])) o.6))
  one_higher m stops.Deep t h =
      (h.0, h.1, h.2, (h.3.0, h.3.1, h.3.2, from (suc m) (h.0 ++ h.3.1) (Some (h.3.2, [])) h.3.3), h.4)

  too_deep : (t after : List ℕ) (h : Head) → head_at level t ≡ Some (h, after) → low_at h after ≡ None
      → Deepens (tree_by level) 0 t
  unfolding tree_at
  too_deep t after h e none =
      let p = head_local level 0 t h after e in
      let full = content_full level h in (
        p.0,
        after,
        p.1,
        (
          p.2,
          full.0,
          full.1,
          from 0 (p.0 ++ full.0) (Some (full.1, []))
              (λ r low. ap (λ o. o >>= λ k. content_by level k.0 r k.1) (p.3 r full.0 (omega arith)) ∙ full.2 r),
        ),
        λ z. ap (λ o. o >>= λ k. low_at k.0 k.1) (p.3 0 z (omega arith)) ∙ not_low h after z none,
      )

  head_same : (t z : List ℕ) → head_at level t ≡ None → first_lines 1 z ≡ first_lines 1 t → head_at level z ≡ None
  head_same t z none same =
      not_read (head_at level) (λ h. line level (head_text h)) Holds (head_takes level) (head_again level) t z
      (head_is_line level) none same (head_at level z) refl

-- If no first line is read from `t`, reading a value from `t` stops at the first line of `t`.
pub tree_line_fails : (room level : ℕ) (t : List ℕ) → head_at level t ≡ None → Stops (tree_by level) room t (length t)
tree_line_fails room level t none =
    let w = tree_full level in (
      [],
      t,
      refl,
      refl,
      (are_none, w.0, w.1, λ r low. w.2 r),
      λ r z low same. no_head r level z (head_same level t z none same),
    )

of_stop : (b : Bool) (n : ℕ) (P : Stop → Type 0) → (b ≡ true → P (stops.Cut n)) → P (stops.Left n)
    → P (cond b (stops.Cut n) (stops.Left n))
of_stop true n P cut left = cut refl
of_stop false n P cut left = left

short_or_lost : {X : Type 0} (read : List ℕ → Option (X × List ℕ)) (t : List ℕ) (e : Stop) → e ≡ stop_in t
    → LineFails e read t → (P : Stop → Type 0) → (length t ≤ few → P (stops.Cut (length t)))
    → (IsLineLost read t → P (stops.Left (length t))) → P e
short_or_lost read t stops.Memory is h P cut left =
    absurd (of_stop (nat_lt (length t) few) (length t) (λ s. stops.Memory ≡ s → ⊥) (λ b e. cc) (λ e. cc) is)
short_or_lost read t (stops.Left n) is h P cut left = subst (λ m. P (stops.Left m)) (sym h.1) (left h.2)
short_or_lost read t (stops.Cut n) is h P cut left =
    subst (λ m. P (stops.Cut m)) (sym h.1) (cut (of_stop (nat_lt (length t) few) (length t)
    (λ s. stops.Cut n ≡ s → length t ≤ few) (λ b e. let low = ltb-true (length t) few b in omega arith)
    (λ e. absurd cc) is))
short_or_lost read t stops.Deep is h P cut left = absurd h

line_none : {X : Type 0} (read : List ℕ → Option (X × List ℕ)) (t : List ℕ) (e : Stop) → e ≡ stop_in t
    → LineFails e read t → read t ≡ None
line_none read t stops.Memory is h =
    absurd (of_stop (nat_lt (length t) few) (length t) (λ s. stops.Memory ≡ s → ⊥) (λ b e. cc) (λ e. cc) is)
line_none read t (stops.Left n) is h = h.0
line_none read t (stops.Cut n) is h = h.0
line_none read t stops.Deep is h = absurd h

pub tree_line_stops : (room level : ℕ) (e : Stop) (t : List ℕ) → e ≡ stop_in t → LineFails e (head_at level) t
    → FailsAt (tree_by level) room e t
tree_line_stops room level e t is h =
    let w = tree_full level in
    let stop = tree_line_fails room level t (line_none (head_at level) t e is h) in
    short_or_lost (head_at level) t e is h (λ s. FailsAt (tree_by level) room s t)
    (λ short. (stop, ([], t, refl, short, w.0, w.1, λ r low. w.2 r)))
    (λ lost. (stop, λ r z low. no_head r level (t ++ z) (lost z)))

-- Case: `room` is 0, and `h` is the first line of the value.
pub low_gives : {X : Type 0} (view : X → Tree × List ℕ) (result : Result X Stop) (room level : ℕ) (t after : List ℕ)
    (h : Head)
    → room ≡ 0 → head_at level t ≡ Some (h, after) → Gives view result (low_at h after)
    → IfErr result (λ e. e ≡ stops.Deep)
    → GivesAt view result (tree_by level) room t
low_gives view (Ok x) room level t after h is e g deep = by_low_head room level t after h e is ∙ g
low_gives view (Err stop) room level t after h is e g deep =
    subst (λ s. FailsAt (tree_by level) room s t) (sym deep)
    (subst (λ n. Deepens (tree_by level) n t) (sym is)
    (too_deep level t after h e (subst (λ s. Fails s (low_at h after)) deep g)))

-- Case: `room` is not 0, and `h` is the first line of the value.
pub content_gives : {X : Type 0} (view : X → Tree × List ℕ) (result : Result X Stop) (room level : ℕ)
    (t after : List ℕ) (h : Head)
    → 0 < room → head_at level t ≡ Some (h, after) → GivesAt view result (content_by level h) (room - 1) after
    → GivesAt view result (tree_by level) room t
content_gives view (Ok x) room level t after h low e g = by_head room level t after h e low ∙ g
content_gives view (Err stop) room level t after h low e g =
    let r : suc (room - 1) ≡ room = omega arith in
    subst (λ n. FailsAt (tree_by level) n stop t) r
    (one_higher level (room - 1) stop t (second_fails (λ r. head_at level) (content_by level) (room - 1)
    (head_local level (room - 1)) t h after e stop g))

-- ---- a row

module _ (level : ℕ) where
  -- If `head_at` reads `h` from `t`, it also reads `h` from any `z` that has the same first line as `t`.
  head_again_same : (t z after : List ℕ) (h : Head) → head_at level t ≡ Some (h, after)
      → first_lines 1 z ≡ first_lines 1 t
      → (rest : List ℕ) × (head_at level z ≡ Some (h, rest))
  head_again_same t z after h e same =
      let p = head_takes level t h after e in
      let l = head_is_line level h p.1 in
      let n : ended_lines (line level (head_text h)) + 0 ≡ 1 = omega (arith, l.1) in
      let first : first_lines 1 z ≡ line level (head_text h) =
      same ∙ ap (first_lines 1) p.0 ∙ ap (λ k. first_lines k (line level (head_text h) ++ after)) (sym n) ∙ l.0 0 after
      ∙ append-nil (line level (head_text h)) in
      let f = first_front 1 z in
      (f.0, ap (head_at level) (f.1 ∙ ap (λ s. s ++ f.0) first) ∙ head_again level h f.0 p.1)

  row_stops : (room : ℕ) (t : List ℕ) → ((r : ℕ) (z : List ℕ) → first_lines 1 z ≡ first_lines 1 t
      → row_by level r z ≡ None)
      → Stops (row_by level) room t (length t)
  row_stops room t none =
      let w = row_full level in
      ([], t, refl, refl, (are_none, w.0, w.1, λ r low. w.2 r), λ r z low same. none r z same)

  pub row_line_fails : (room : ℕ) (t : List ℕ) → head_at level t ≡ None → Stops (row_by level) room t (length t)
  unfolding row_at
  row_line_fails room t e =
      row_stops room t (λ r z same. ap (λ o. o >>= λ k. row_of (tree_at r) level k.0 k.1) (head_same level t z e same))

  pub row_line_stops : (room : ℕ) (e : Stop) (t : List ℕ) → e ≡ stop_in t → LineFails e (head_at level) t
      → FailsAt (row_by level) room e t
  unfolding row_at
  row_line_stops room e t is h =
      let w = row_full level in
      let stop = row_line_fails room t (line_none (head_at level) t e is h) in
      short_or_lost (head_at level) t e is h (λ s. FailsAt (row_by level) room s t)
      (λ short. (stop, ([], t, refl, short, w.0, w.1, λ r low. w.2 r)))
      (λ lost. (stop, λ r z low. ap (λ o. o >>= λ k. row_of (tree_at r) level k.0 k.1) (lost z)))

  -- If no row has the first line `h`, reading a row from `t` stops at that line.
  pub row_kind_fails : (room : ℕ) (t after : List ℕ) (h : Head) → head_at level t ≡ Some (h, after)
      → ((r : ℕ) (y : List ℕ) → row_of (tree_at r) level h y ≡ None)
      → FailsAt (row_by level) room (stops.Left (length t)) t
  unfolding row_at
  row_kind_fails room t after h e other = (
    row_stops room t (λ r z same.
        let p = head_again_same t z after h e same in
        ap (λ o. o >>= λ k. row_of (tree_at r) level k.0 k.1) p.1 ∙ other r p.0),
    λ r z low.
        let p = head_local level 0 t h after e in
        ap (λ s. row_at (tree_at r) level s) (ap (λ s. s ++ z) p.1 ∙ append_assoc p.0 after z)
        ∙ ap (λ o. o >>= λ k. row_of (tree_at r) level k.0 k.1) (p.3 0 (after ++ z) (omega arith))
        ∙ other r (after ++ z),
  )

  row_body_fails : (room : ℕ) (t after : List ℕ) (h : Head) (w s : ℕ) → h ≡ heads.Struct w s
      → head_at level t ≡ Some (h, after) → (e : Stop) → FailsAt (body_by level w s) room e after
      → FailsAt (row_by level) room e t
  unfolding row_at
  row_body_fails room t after h w s is e stop f =
      second_fails (λ r. head_at level) (λ k r. row_of (tree_at r) level k) room
      (head_local level room) t h after e stop
      (subst (λ k. FailsAt (λ r. row_of (tree_at r) level k) room stop after) (sym is) f)

pub row_gives : {X : Type 0} (view : X → (List ℕ × Trees) × List ℕ) (result : Result X Stop) (room level : ℕ)
    (t after : List ℕ) (h : Head) (w s : ℕ) → h ≡ heads.Struct w s → head_at level t ≡ Some (h, after)
    → GivesAt view result (body_by level w s) room after → GivesAt view result (row_by level) room t
unfolding row_at
row_gives view (Ok x) room level t after h w s is e g =
    ap (λ o. o >>= λ k. row_of (tree_at room) level k.0 k.1) e ∙ ap (λ k. row_of (tree_at room) level k after) is ∙ g
row_gives view (Err stop) room level t after h w s is e g = row_body_fails level room t after h w s is e stop g

-- ---- nothing is read

pub stops_none : (room level : ℕ) (t : List ℕ) (n : ℕ) → Stops (tree_by level) room t n → tree_at room level t ≡ None
stops_none room level t n h = ap (tree_at room level) h.2 ∙ h.5 room h.1 (omega arith) refl

pub deepens_none : (room level : ℕ) (t : List ℕ) → Deepens (tree_by level) room t → tree_at room level t ≡ None
deepens_none room level t h = ap (tree_at room level) h.2 ∙ h.4 h.1
