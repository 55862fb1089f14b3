use Rattle.std.proofs.Common.{◌++◌, ◌^◌, ◌<◌, List, ℕ, [], get_or, subst, arith}
use Rattle.std.proofs.KnownBytes.{Appends-trans}
use Rattle.std.proofs.lemmas.Result.{err_from_is_err_and}
use Rattle.capn_pack.specs.WholeGroups.{UnpacksSome}
use Rattle.capn_pack.proofs.shared.GroupLemmas.{byte_of_rest, length_rest, rest_is}
use Rattle.capn_commands.specs.UnpackRun.{most_words}
use Rattle.capn_commands.proofs.Unpacked.{row_grows, row_last, row_more, row_stop}
use Rattle.capn_commands.proofs.unpack_run.write_groups.Goals as goal

pub returns-in_err-progress : goal.returns-in_err-progress
returns-in_err-progress g c =
    let i = c.parts.invariant in
    let p = err_from_is_err_and c.from_residual.result c.from_residual.ensures.1 in
    let stop = rw (rest_is c.args.bytes.now c.parts.at) at c.in_err-progress.ensures in
    rw (p.1, p.2) (row_stop c.args.bytes.now i.words c.parts.at _ _ _ _ c.in_err-progress.field-0.0 i.told i.wrote stop)

pub returns-in-End : goal.returns-in-End
returns-in-End g c =
    let i = c.parts.invariant in
    let bytes = c.args.bytes.now in
    let p = c.in_ok-progress.progress in
    let done = c.in_ok-progress.ensures in
    let some = subst (λ (l : List ℕ). UnpacksSome l most_words [] done.0 p.bytes p.words p.next)
    (rest_is bytes c.parts.at) done.1 in
    let all = row_last bytes i.words done.0 c.parts.at most_words p.bytes p.words p.next i.told some c.in-End.is in
    (i.words ++ done.0, all.0, all.1, Appends-trans _ _ _ i.words done.0 i.wrote done.2, done.3)

pub parts-preserved : goal.parts-preserved
parts-preserved g c =
    let i = c.parts.invariant in
    let bytes = c.args.bytes.now in
    let p = c.in_ok-progress.progress in
    let done = c.in_ok-progress.ensures in
    let some = subst (λ (l : List ℕ). UnpacksSome l most_words [] done.0 p.bytes p.words p.next)
    (rest_is bytes c.parts.at) done.1 in
    let row = row_more bytes i.words done.0 c.parts.at most_words p.bytes p.words p.next i.told some in
    record {
      fine = done.3;
      within = row.within;
      words = i.words ++ done.0;
      told = row;
      wrote = Appends-trans _ _ _ i.words done.0 i.wrote done.2;
    }

pub parts-smaller : goal.parts-smaller
parts-smaller g c =
    let i = c.parts.invariant in
    let bytes = c.args.bytes.now in
    let at = c.parts.at in
    let p = c.in_ok-progress.progress in
    let done = c.in_ok-progress.ensures in
    let inside = done.1.inside in
    let fits : (k : ℕ) → get_or bytes k 0 < 2 ^ 8 = λ k. omega (arith, c.type_inv.bytes k) in
    let some = row_grows _ done.0 most_words p.bytes p.words p.next (λ k. byte_of_rest bytes at k fits) (omega arith)
    c.in-TooLong.is done.1 in
    omega (arith, some, inside, length_rest bytes at)
