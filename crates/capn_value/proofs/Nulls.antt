-- Lemma for `copy_value` and `trim_value`: the only null value is `nil`.
use Rattle.std.proofs.Common.{◌≡◌, true, refl}
use Rattle.capn_value.specs.Tree.{Tree, nil, is_null}

pub null-is : (t : Tree) → is_null t ≡ true → t ≡ nil
null-is nil e = refl
null-is _ e = absurd cc
