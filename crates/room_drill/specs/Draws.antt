-- Draws: the generator, and what is made of its draws one after the other (this project's).
use Rattle.std.specs.Prelude.{ℕ, zero, suc, ◌+◌, ◌*◌, ◌/◌, ◌%◌, ◌^◌, Bool, ◌&&◌, not, nat_lt, if◌then◌else◌, List, [], ◌∷◌}

-- What is drawn is a value and the generator's word after it, both by the word before.
abbrev pub Draws : Type 0 → Type 0
Draws X = ℕ → X × ℕ

-- the generator's word after one draw, which has 64 bits (Knuth's linear congruence, by the constants of MMIX)
abbrev pub next_word : ℕ → ℕ
next_word word = (word * 6364136223846793005 + 1442695040888963407) % 2 ^ 64

-- a number below m: the upper 31 bits of the next word, modulo m
unfoldable pub draw : ℕ → Draws ℕ
draw m word = (next_word word / 2 ^ 33 % m, next_word word)

-- one value is drawn, and then what it says
abbrev pub and_then : {X Y : Type 0} → Draws X → (X → Draws Y) → Draws Y
and_then draws next word = next (draws word).0 (draws word).1

-- a value that nothing is drawn for
abbrev pub given : {X : Type 0} → X → Draws X
given value word = (value, word)

-- what a function makes of a drawn value
abbrev pub made : {X Y : Type 0} → (X → Y) → Draws X → Draws Y
made make draws = and_then draws (λ value. given (make value))

-- what a function makes of two, the first of which is drawn first
abbrev pub made_of_two : {X Y Z : Type 0} → (X → Y → Z) → Draws X → Draws Y → Draws Z
made_of_two make first second = and_then first (λ value. made (make value) second)

-- as many values as the count says, each by its number, which rises from the first on
unfoldable pub in_turn : {X : Type 0} → ℕ → ℕ → (ℕ → Draws X) → Draws (List X)
in_turn first zero draws = given []
in_turn first (suc count) draws = made_of_two (λ value values. value ∷ values) (draws first) (in_turn (first + 1) count draws)

-- ---- tables

-- a row: what is drawn at the numbers from one to another
pub record Row (X : Type 0) : Type 0 where
  pub from : ℕ
  pub to : ℕ
  pub draws : Draws X

-- the row of these numbers
abbrev pub row : {X : Type 0} → ℕ → ℕ → Draws X → Row X
row from to draws = record { from = from; to = to; draws = draws }

-- whether a row has a number
abbrev pub has : {X : Type 0} → Row X → ℕ → Bool
has at number = not (nat_lt number at.from) && not (nat_lt at.to number)

-- rows, the last of them apart
pub record Table (X : Type 0) : Type 0 where
  pub rows : List (Row X)
  pub last : Row X

-- by the first of these rows that has the number, and if none has it, by the last row
abbrev pub by_one_of : {X : Type 0} → List (Row X) → Row X → ℕ → Draws X
by_one_of [] last number = last.draws
by_one_of (one ∷ rows) last number = if has one number then one.draws else by_one_of rows last number

-- what a table draws at a number
abbrev pub by_row : {X : Type 0} → Table X → ℕ → Draws X
by_row table number = by_one_of table.rows table.last number
