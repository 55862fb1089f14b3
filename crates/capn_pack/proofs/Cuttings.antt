-- Lemmas for the law `cutting`: calls for pieces do what one call for all their bytes does.
use Rattle.std.proofs.Common.{◌≡◌, ℕ, ◌+◌, List, [], ◌∷◌, ◌++◌, refl, sym, ap, ◌∙◌, subst, arith, append_assoc}
use Rattle.std.proofs.lemmas.List.{append-nil}
use Rattle.std.specs.Prelude.{Option, Some, None}
use Rattle.capn_pack.specs.PackedPieces.{Held, Splits, advanced}
use Rattle.capn_pack.specs.Calls.{Lead, joined, Finishes, IsReached}
use Rattle.capn_pack.specs.Laws.{HoweverCut, NewIsReached, FedIsReached}
use Rattle.capn_pack.specs.declared.fault.UnpackFault.{UnpackFault}
use Rattle.capn_pack.proofs.shared.SplitLaws.{one_split}
use Rattle.capn_pack.proofs.shared.StreamLemmas.{nothing_first, splits_open, splits_then}

pub new_reached : NewIsReached
new_reached = (nothing_first, omega arith)

pub fed_reached : FedIsReached
fed_reached before after piece old new f = (f.split.open_rest, omega (arith, f.offset))

-- an unpacker comes from the state `start` to `last` by the bytes `text`, in whatever pieces
record Comes (start : Held) (text old new : List ℕ) (last : Held) : Type 0 where
  len : ℕ
  splits : Splits (start.rest ++ text) last.rest old new len
  offset : last.offset ≡ advanced start.offset len
  failed : last.failed ≡ start.failed

comes : (pieces : List (List ℕ)) (start : Held) (old : List ℕ) (last : Held) (new : List ℕ) → IsReached start
    → Lead pieces start old last new
    → Comes start (joined pieces) old new last
comes [] start old last new reached l =
    let rest : last.rest ≡ start.rest = ap (λ (h : Held). h.rest) l.0 in
    let none : Splits start.rest start.rest old new 0 = splits_open start.rest old new reached.0 l.1 in
    record {
      len = 0;
      splits =
          subst (λ s. Splits s last.rest old new 0) (sym (append-nil start.rest))
          (subst (λ r. Splits start.rest r old new 0) (sym rest) none);
      offset = omega (arith, ap (λ (h : Held). h.offset) l.0, reached.1);
      failed = ap (λ (h : Held). h.failed) l.0;
    }
comes (piece ∷ pieces) start old last new reached l =
    let next = l.0 in
    let f = l.2 in
    let more = comes pieces next l.1 last new (fed_reached start next piece old l.1 f) l.3 in
    record {
      len = f.len + more.len;
      splits =
          subst (λ s. Splits s last.rest old new (f.len + more.len)) (append_assoc start.rest piece (joined pieces))
          (splits_then (start.rest ++ piece) next.rest (joined pieces) last.rest old l.1 new f.len more.len f.split
          more.splits);
      offset = omega (arith, f.offset, more.offset);
      failed = more.failed ∙ f.is_good ∙ sym f.was_good;
    }

one_end : (at : Held) (e f : Option UnpackFault) → Finishes at e → Finishes at f → e ≡ f
one_end at None None p q = refl
one_end at None (Some f) p q = absurd (q.0 p)
one_end at (Some e) None p q = absurd (p.0 q)
one_end at (Some e) (Some f) p q = ap Some (p.1 ∙ sym q.1)

pub however_cut : HoweverCut
however_cut start old text pieces others last other new also e f reached run more =
    let a = subst (λ t. Comes start t old new last) (sym run.all) (comes pieces start old last new reached run.leads) in
    let b = subst (λ t. Comes start t old also other) (sym more.all)
    (comes others start old other also reached more.leads) in
    let same = one_split (start.rest ++ text) last.rest other.rest old new also a.len b.len a.splits b.splits in
    let offset : last.offset ≡ other.offset = a.offset ∙ ap (advanced start.offset) same.1.1 ∙ sym b.offset in
    let failed : last.failed ≡ other.failed = a.failed ∙ sym b.failed in
    let state : last ≡ other = λ i. record { rest = same.0 i; offset = offset i; failed = failed i } in (
      same.1.0,
      state,
      one_end last e f run.ends (subst (λ h. Finishes h f) (sym state) more.ends),
    )
