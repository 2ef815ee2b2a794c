-- Comparisons: how many a search in an ordered tree may make (no rule of the kernel's: the bound is this project's).
use Rattle.std.specs.Prelude.{ℕ, ◌+◌, ◌*◌, length}
use Rattle.std.specs.Int.Digits.{digits_of}

-- how many binary digits a number has, none for 0
unfoldable pub digits : ℕ → ℕ
digits n = length (digits_of 2 n)

-- the most comparisons that a call may make among this number of keys
abbrev pub most_comparisons : ℕ → ℕ
most_comparisons n = 2 * digits n + 2
