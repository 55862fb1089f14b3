use Rattle.std.proofs.Common.{◌≡◌, ◌∙◌, ℕ, List, Bool, true, false, [], ◌∷◌, length, take, refl, ap, arith}
use Rattle.std.proofs.lemmas.Result.{on_ok_weaker}
use Rattle.std.proofs.lemmas.List.{take_all}
use Rattle.std.proofs.Math.Seq.{take-append_seam}
use Rattle.capn_marks.specs.Annotation.{stepped}
use Rattle.capn_marks.specs.Marked.{below}
use Rattle.capn_marks.proofs.annotated.AnnotatedEmitter.step_below.Goals as goal

above : (path : List ℕ) (i : ℕ) → take (length path) (below path i) ≡ path
above [] i = refl
above (c ∷ path) i = take-append_seam (c ∷ path) _

back : (ways : Bool) (path : List ℕ) (i : ℕ) → take (length path) (stepped ways path i) ≡ path
back true path i = above path i
back false path i = take_all (length path) path (omega arith)

pub returns-clause-back : goal.returns-clause-back
returns-clause-back g c =
    on_ok_weaker c.step_below.result
    (λ h. ap (take (length c.args.self.now.path.items)) h
    ∙ back c.args.self.now.marks.ways c.args.self.now.path.items c.args.number)
    c.step_below.ensures.below
