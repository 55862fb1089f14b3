-- Lemmas for `invocation_of`: the subcommand that a parse entered, by its name and its rows.
use Rattle.std.proofs.Common.{◌≡◌, Option, Some, None, option_map, refl, sym, ap, ap₂, ◌∙◌}

pub entered : {A B N R : Type 0} (f : A → N) (g : A → R) (h : B → N) (k : B → R) (r : Option A) (s : Option B) (a : A)
    → r ≡ Some a
    → option_map f r ≡ option_map h s
    → option_map g r ≡ option_map (λ (p : N × R). p.1) (option_map {U = N × R} (λ (b : B). (h b, k b)) s)
    → option_map {U = N × R} (λ (b : B). (h b, k b)) s ≡ Some (f a, g a)
entered f g h k None s a is e i = absurd cc
entered f g h k (Some x) None a is e i = absurd cc
entered {A} {B} {N} {R} f g h k (Some x) (Some y) a is e i =
    let u : f x ≡ h y = cc in
    let v : g x ≡ k y = cc in
    let w : x ≡ a = cc in
    let both : N → R → Option (N × R) = λ n m. Some (n, m) in
    ap₂ both (sym u ∙ ap f w) (sym v ∙ ap g w)

pub not_entered : {A B N R : Type 0} (g : A → R) (h : B → N) (k : B → R) (r : Option A) (s : Option B) → r ≡ None
    → option_map g r ≡ option_map (λ (p : N × R). p.1) (option_map {U = N × R} (λ (b : B). (h b, k b)) s)
    → option_map {U = N × R} (λ (b : B). (h b, k b)) s ≡ None
not_entered g h k None None is e = refl
not_entered g h k None (Some y) is e = absurd cc
not_entered g h k (Some x) s is e = absurd cc
