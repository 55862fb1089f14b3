use Rattle.std.proofs.Common.{◌≡◌, ℕ, List, Bor, Option, Some, Result, Vec, IfOk, sym, subst}
use Rattle.clap.specs.Words.{Text}
use Rattle.capn_args.specs.Path.{numbers_of, path_of}
use Rattle.capn_args.proofs.path.numbers_of.Goals as goal

given : {A E : Type 0} (path : Option (Bor Text)) (text : Bor Text) (r : Result (Vec ℕ A) E) → path ≡ Some text
    → IfOk r (λ numbers. (are : List ℕ) → path_of text.now ≡ Some are → numbers.items ≡ are)
    → IfOk r (λ numbers. (are : List ℕ) → numbers_of path ≡ Some are → numbers.items ≡ are)
given path text r is h =
    subst (λ (w : Option (Bor Text)). IfOk r (λ numbers. (are : List ℕ) → numbers_of w ≡ Some are
    → numbers.items ≡ are)) (sym is) h

pub returns-in-Some-clause-found : goal.returns-in-Some-clause-found
returns-in-Some-clause-found g c =
    given c.args.path c.in-Some.text c.numbers_in.result c.in-Some.is c.numbers_in.ensures
