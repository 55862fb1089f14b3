-- The styles of a message's text, which a caller names by numbers. (Our own.)
use Rattle.std.specs.Prelude.{ℕ, zero, suc, ◌≤◌}
use Rattle.capn_show.specs.declared.style.Style.{Style}
use Rattle.capn_show.specs.declared.style.Style.TheVariants as styles

-- The style that a number names, or `JsonText` if the number names no style.
abbrev pub style_named : ℕ → Style
style_named zero = styles.Lines
style_named (suc zero) = styles.Quoted
style_named (suc (suc zero)) = styles.Json
style_named (suc (suc (suc n))) = styles.JsonText

-- `n` names a style: 0, 1, 2 or 3.
abbrev pub IsStyle : ℕ → Type 0
IsStyle n = n ≤ 3
