-- Lemmas on texts that are appended to a line one after the other. (For `put`, `put_between`, `put_named`, `tell`,
-- capn_archive, capn_make and capn_serve.)
use Rattle.std.proofs.Common.{List, ℕ, ◌++◌, subst, append_assoc}
use Rattle.capn_serve.specs.Line.{IsOnItsWay, Says, Way}

pub both : (a b : List ℕ) (x y z : Way) → Says a x y → Says b y z → Says (a ++ b) x z
both a b x y z first second = record {
  goes_on = λ start said is.
      subst (λ (all : List ℕ). IsOnItsWay start all z.held z.written z.failed) (append_assoc said a b)
      (second.goes_on start (said ++ a) (first.goes_on start said is));
}
