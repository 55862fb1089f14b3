-- The plain form of a text that arrives in chunks. (Our own.)
use Rattle.std.specs.Prelude.{◌≡◌, ◌≤◌, ℕ, ◌+◌, ◌-◌, List, [], ◌∷◌, ◌++◌, length, ⊤, cond, Bool, true, false}
use Rattle.capn_text.specs.PlainForm.{plain_after, plain_through, digits_after, digits_through, count_to}

-- The state of a converter to the plain form: the `front` of the unfinished line, and the number `line` of that line in
-- the plain form. `digits` has the numbers of the added lines of digits that are not forgotten, and `passed` counts the
-- forgotten lines. `through` is true if the arrived bytes of the unfinished line are already in the output.
pub record Unquoting : Type 0 where
  pub front : List ℕ
  pub line : ℕ
  pub digits : List ℕ
  pub passed : ℕ
  pub through : Bool

-- The state before the first chunk.
abbrev pub first_unquoting : Unquoting
first_unquoting = record { front = []; line = 1; digits = []; passed = 0; through = false }

-- The plain form of the bytes `more`, which arrive in the state `u`.
abbrev pub plain_on : Unquoting → List ℕ → List ℕ
plain_on u more = cond u.through (plain_through more) (plain_after u.front more)

-- The numbers of the lines of digits that the plain form adds for the bytes `more`, which arrive in the state `u`.
abbrev pub digits_on : Unquoting → List ℕ → List ℕ
digits_on u more = cond u.through (digits_through u.line more) (digits_after u.line u.front more)

-- A converter reads `bytes`, adds `added` to the output, and goes from the state `u` to the state `v`. Any later bytes
-- `more` are converted as if `bytes ++ more` had arrived at once.
pub record Unquotes (u v : Unquoting) (bytes added : List ℕ) : Type 0 where
  pub plain : (more : List ℕ) → plain_on u (bytes ++ more) ≡ added ++ plain_on v more
  pub digits : (more : List ℕ) → u.digits ++ digits_on u (bytes ++ more) ≡ v.digits ++ digits_on v more
  pub passed : v.passed ≡ u.passed

-- The number of the line of the text to which line `n` of the plain form belongs, in the state `u`.
abbrev pub own_at : Unquoting → ℕ → ℕ
own_at u n = n - (u.passed + count_to n u.digits)

-- The first number `q` of the list, if there is one, is at least `line`.
abbrev pub StartFrom : ℕ → List ℕ → Type 0
StartFrom line [] = ⊤
StartFrom line (q ∷ qs) = line ≤ q

-- The state `v` is the state `u`, but the numbers `gone`, which are at most `line`, are dropped from `digits`. Their
-- count is added to `passed`.
pub record Forgets (line : ℕ) (u v : Unquoting) : Type 0 where
  pub gone : List ℕ
  pub are : u.digits ≡ gone ++ v.digits
  pub passed : v.passed ≡ u.passed + length gone
  pub before : (n : ℕ) → line ≤ n → count_to n gone ≡ length gone
  pub next : StartFrom line v.digits
  pub front : v.front ≡ u.front
  pub at : v.line ≡ u.line
  pub through : v.through ≡ u.through
