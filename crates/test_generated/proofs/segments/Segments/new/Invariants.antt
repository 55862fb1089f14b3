use Rattle.std.proofs.Common.{◌≡◌, [], map, replicate}
use Rattle.test_generated.proofs.segments.Segments.new.Given as goal

-- the segments so far have no words
abbrev pub invariant-loop : goal.invariant-loop
invariant-loop l = map (λ words. words.items) l.segments.items ≡ replicate l.counter []
