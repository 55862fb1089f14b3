-- Lemmas for `canonical`: the length of the canonical bytes of a value.
use Rattle.std.proofs.Common.{◌≡◌, ℕ, ◌*◌, ◌%◌, ◌^◌, ◌<◌, List, length, arith, ap}
use Rattle.capn_words.specs.Message.{IsBare}
use Rattle.capn_words.proofs.shared.Words.{length-bytes}
use Rattle.capn_value.specs.Tree.{Tree}
use Rattle.capn_value.specs.Fits.{Fits}
use Rattle.capn_value.specs.InRange.{InRange}
use Rattle.capn_value.specs.Cost.{cost, height}
use Rattle.capn_value.specs.declared.tariff.Tariff.TheVariants.{Plain}
use Rattle.capn_walk.specs.Limits.{Bounds}
use Rattle.capn_canon.specs.Layout.{canon}
use Rattle.capn_canon.specs.Laws.{CanonIsForm}

limits_of : Tree → Bounds
limits_of v = record { message_words = 1; budget = cost 0 v; depth = height v; tariff = Plain }

module _ (law : CanonIsForm) (v : Tree) (fits : Fits v) (range : InRange v) where
  -- If `v` fits and is in range, its canonical bytes are the bytes of some words `ws`, as `IsBare` states.
  pub canon_bare : (ws : List ℕ) × IsBare (canon v) ws
  unfolding limits_of
  canon_bare =
      let form = law v (limits_of v) fits range (omega arith) (omega arith) in
      let reads = form.reads_back.denotes.reads in
      (reads.0, reads.1)

  canon_length : length (canon v) ≡ 8 * length canon_bare.0
  canon_length = let e = ap length canon_bare.1.same in let k = length-bytes canon_bare.0 in omega arith

  pub canon_short : length (canon v) < 2 ^ 35
  canon_short = let e = canon_length in let room = canon_bare.1.room in omega arith

  pub canon_whole : length (canon v) % 8 ≡ 0
  canon_whole = let e = canon_length in omega arith
