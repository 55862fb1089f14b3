-- The reads that a walk makes of an object's own words.
use Rattle.std.specs.Prelude.{ℕ, ◌+◌, ◌*◌}
use Rattle.capn_words.specs.declared.pointer.Width.TheVariants.{Link}
use Rattle.capn_target.specs.declared.target.Shape.{Shape}
use Rattle.capn_target.specs.declared.target.Shape.TheVariants as shapes
use Rattle.capn_target.specs.Target.{content_words}

-- the number of words of an object that have data or numbers, plus one turn of a loop for each row
abbrev pub own_reads : Shape → ℕ
own_reads (shapes.Node a b) = a
own_reads (shapes.Many Link n) = 0
own_reads (shapes.Many width n) = content_words width n
own_reads (shapes.Rows n a b span) = n * (1 + a)
