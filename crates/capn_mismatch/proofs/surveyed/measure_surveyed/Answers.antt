use Rattle.capn_mismatch.proofs.surveyed.measure_surveyed.Goals as goal

pub returns : goal.returns
returns g c =
    let s = c.requires.survey in
    record {
      checked = record {
        value = s.value;
        is = s.is;
        pays = s.pays;
        counts = s.counts;
        capability = s.capability;
        answer = c.is_canonical-is_canonical.ensures s.value s.is;
      };
      depth = c.requires.depth;
    }
