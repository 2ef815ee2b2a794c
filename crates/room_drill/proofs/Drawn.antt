-- Drawn: what draws give, one after the other.
use Rattle.std.proofs.Common.{◌≡◌, ℕ, zero, suc, ◌+◌, ◌*◌, ◌/◌, ◌%◌, ◌^◌, ◌<◌, ◌≤◌, Bool, true, false, List, [], ◌∷◌, ◌++◌, length, drop, refl, sym, ap, ◌∙◌, append_assoc, arith}
use Rattle.std.specs.Prelude.{All, not, nat_lt, ◌&&◌, if◌then◌else◌}
use Rattle.std.specs.List.{AllByRecursion}
use Rattle.std.proofs.Math.Nat.{mod-add-mod, mod-lt}
use Rattle.std.proofs.lemmas.List.{append-nil}
use Rattle.std.proofs.lemmas.List.Elements.{All-nil, All-cons}
use Rattle.room_drill.specs.Draws.{Draws, next_word, draw, and_then, made, made_of_two, in_turn, Row, row, has, Table, by_one_of, by_row}
use Rattle.room_drill.specs.Drill.{drawn_cpu, drawn_pid, event_table}
use Rattle.cs_types.specs.declared.event.Event.TheVariants.{Turn, Resched, Tick, Block, Wake}

-- a draw multiplies and adds in two steps
pub draw_is : (m word : ℕ) → (next_word word / 2 ^ 33 % m, next_word word) ≡ draw m word
unfolding draw
draw_is m word = refl

pub word_is : (word : ℕ) → (word * 6364136223846793005 % 2 ^ 64 + 1442695040888963407) % 2 ^ 64 ≡ next_word word
word_is word = mod-add-mod (word * 6364136223846793005) (2 ^ 64) 1442695040888963407

-- what is drawn is below the number
pub draw_below : (m word : ℕ) → 0 < m → (draw m word).0 < m
unfolding draw
draw_below m word some = mod-lt (next_word word / 2 ^ 33) some

-- ---- in turn

-- Of the values that are drawn in turn some are drawn, and the others are drawn next.
pub record SoFar {X : Type 0} (draws : ℕ → Draws X) (first count word : ℕ) (done : List X) (number left now : ℕ) : Type 0 where
  pub is : in_turn first count draws word ≡ (done ++ (in_turn number left draws now).0, (in_turn number left draws now).1)

more_of : {X : Type 0} (draws : ℕ → Draws X) (done : List X) (number left now : ℕ) (value : X) (next : ℕ) → (value, next) ≡ draws number now →
    (let all : List X × ℕ = (done ++ (in_turn number (suc left) draws now).0, (in_turn number (suc left) draws now).1) in all)
    ≡ ((done ++ value ∷ []) ++ (in_turn (number + 1) left draws next).0, (in_turn (number + 1) left draws next).1)
unfolding in_turn
more_of {X = X} draws done number left now value next is =
    ap (λ (one : X × ℕ). (done ++ one.0 ∷ (in_turn (number + 1) left draws one.1).0, (in_turn (number + 1) left draws one.1).1)) (sym is)
    ∙ ap (λ (values : List X). (values, (in_turn (number + 1) left draws next).1)) (sym (append_assoc done (value ∷ []) (in_turn (number + 1) left draws next).0))

-- the next one is drawn
pub one_drawn : {X : Type 0} (draws : ℕ → Draws X) (first count word : ℕ) (done all : List X) (number left more now : ℕ) (value : X) (next : ℕ) →
    SoFar draws first count word done number left now → left ≡ suc more → (let drawn : X × ℕ = (value, next) in drawn) ≡ draws number now →
    all ≡ done ++ value ∷ [] → SoFar draws first count word all (number + 1) more next
one_drawn {X = X} draws first count word done all number left more now value next so_far is drawn added = record {
  is =
      so_far.is
      ∙ ap (λ (k : ℕ). let drawn : List X × ℕ = (done ++ (in_turn number k draws now).0, (in_turn number k draws now).1) in drawn) is
      ∙ more_of draws done number more now value next drawn
      ∙ ap (λ (values : List X). let drawn : List X × ℕ = (values ++ (in_turn (number + 1) more draws next).0, (in_turn (number + 1) more draws next).1) in drawn) (sym added);
}

none_left : {X : Type 0} (draws : ℕ → Draws X) (done : List X) (number now : ℕ) →
    (let drawn : List X × ℕ = (done, now) in drawn) ≡ (done ++ (in_turn number 0 draws now).0, (in_turn number 0 draws now).1)
unfolding in_turn
none_left {X = X} draws done number now = ap (λ (values : List X). let drawn : List X × ℕ = (values, now) in drawn) (sym (append-nil done))

-- none is left
pub all_drawn : {X : Type 0} (draws : ℕ → Draws X) (first count word : ℕ) (done : List X) (number left now : ℕ) →
    SoFar draws first count word done number left now → left ≡ 0 → (let drawn : List X × ℕ = (done, now) in drawn) ≡ in_turn first count draws word
all_drawn {X = X} draws first count word done number left now so_far none =
    none_left draws done number now
    ∙ ap (λ (k : ℕ). let drawn : List X × ℕ = (done ++ (in_turn number k draws now).0, (in_turn number k draws now).1) in drawn) (sym none)
    ∙ sym so_far.is

-- what holds of each value that may be drawn holds of all
pub each_in_turn : {X : Type 0} (P : X → Type 0) (draws : ℕ → Draws X) (first count : ℕ) →
    ((number word : ℕ) → first ≤ number → number < first + count → P (draws number word).0) → (word : ℕ) → All P (in_turn first count draws word).0
unfolding in_turn
each_in_turn P draws first zero each word = All-nil P
each_in_turn P draws first (suc count) each word =
    All-cons P (draws first word).0 (in_turn (first + 1) count draws (draws first word).1).0 (each first word (omega arith) (omega arith))
    (each_in_turn P draws (first + 1) count (λ number word from below. each number word (omega arith) (omega arith)) (draws first word).1)

pub length-in_turn : {X : Type 0} (draws : ℕ → Draws X) (first count word : ℕ) → length (in_turn first count draws word).0 ≡ count
unfolding in_turn
length-in_turn draws first zero word = refl
length-in_turn draws first (suc count) word = ap suc (length-in_turn draws (first + 1) count (draws first word).1)

-- ---- tables

-- what each row draws
abbrev pub EachRow : {X : Type 0} → (X → Type 0) → List (Row X) → Type 0
EachRow P rows = AllByRecursion (λ one. (word : ℕ) → P (one.draws word).0) rows

either : {X : Type 0} (P : X → Type 0) (this that : Draws X) (word : ℕ) (test : Bool) → P (this word).0 → P (that word).0 →
    P ((if test then this else that) word).0
either P this that word true = λ here there. here
either P this that word false = λ here there. there

-- what holds of each row's values holds of what is drawn at a number
each_by_one_of : {X : Type 0} (P : X → Type 0) (rows : List (Row X)) (last : Row X) (number word : ℕ) → EachRow P rows → P (last.draws word).0 →
    P (by_one_of rows last number word).0
each_by_one_of P [] last number word each at_last = at_last
each_by_one_of P (one ∷ rows) last number word each at_last =
    either P one.draws (by_one_of rows last number) word (has one number) (each.0 word) (each_by_one_of P rows last number word each.1 at_last)

-- what holds of each row's values holds of what is drawn at a number
pub each_by_row : {X : Type 0} (P : X → Type 0) (table : Table X) (number word : ℕ) → EachRow P table.rows → P (table.last.draws word).0 →
    P (by_row table number word).0
each_by_row P table number word each at_last = each_by_one_of P table.rows table.last number word each at_last

takes : (number first last : ℕ) → first ≤ number → number ≤ last → not (nat_lt number first) && not (nat_lt last number) ≡ true
takes number first last from to = grind arith

passes : (number first last : ℕ) → last < number → not (nat_lt number first) && not (nat_lt last number) ≡ false
passes number first last past = grind arith

-- the row that has the number draws
pub row_takes : {X : Type 0} (one : Row X) (rows : List (Row X)) (last : Row X) (number : ℕ) → one.from ≤ number → number ≤ one.to →
    by_one_of (one ∷ rows) last number ≡ one.draws
row_takes one rows last number from to =
    ap (λ (test : Bool). if test then one.draws else by_one_of rows last number) (takes number one.from one.to from to)

-- a row that ends before the number does not
pub row_passes : {X : Type 0} (one : Row X) (rows : List (Row X)) (last : Row X) (number : ℕ) → one.to < number →
    by_one_of (one ∷ rows) last number ≡ by_one_of rows last number
row_passes one rows last number past =
    ap (λ (test : Bool). if test then one.draws else by_one_of rows last number) (passes number one.from one.to past)

-- ---- values made of draws

-- a number is drawn, and then what a table has there
pub then_drawn : {X : Type 0} (table : ℕ → Draws X) (m word number now : ℕ) (value : X) (next : ℕ) →
    (let drawn : ℕ × ℕ = (number, now) in drawn) ≡ draw m word → (let drawn : X × ℕ = (value, next) in drawn) ≡ table number now →
    (let drawn : X × ℕ = (value, next) in drawn) ≡ and_then (draw m) table word
then_drawn table m word number now value next first at = at ∙ ap (λ (one : ℕ × ℕ). table one.0 one.1) first

-- the same, at a number that is known
pub then_drawn_at : {X : Type 0} (table : ℕ → Draws X) (m word number now known : ℕ) (value : X) (next : ℕ) →
    (let drawn : ℕ × ℕ = (number, now) in drawn) ≡ draw m word → number ≡ known → (let drawn : X × ℕ = (value, next) in drawn) ≡ table known now →
    (let drawn : X × ℕ = (value, next) in drawn) ≡ and_then (draw m) table word
then_drawn_at table m word number now known value next first is at =
    then_drawn table m word number now value next first (at ∙ ap (λ n. table n now) (sym is))

pub made_drawn : {X Y : Type 0} (make : X → Y) (draws : Draws X) (word : ℕ) (value : X) (next : ℕ) →
    (let drawn : X × ℕ = (value, next) in drawn) ≡ draws word → (let drawn : Y × ℕ = (make value, next) in drawn) ≡ made make draws word
made_drawn {X = X} {Y = Y} make draws word value next is = ap (λ (one : X × ℕ). let drawn : Y × ℕ = (make one.0, one.1) in drawn) is

pub two_drawn : {X Y Z : Type 0} (make : X → Y → Z) (first : Draws X) (second : Draws Y) (word : ℕ) (one : X) (mid : ℕ) (other : Y) (next : ℕ) →
    (let drawn : X × ℕ = (one, mid) in drawn) ≡ first word → (let drawn : Y × ℕ = (other, next) in drawn) ≡ second mid →
    (let drawn : Z × ℕ = (make one other, next) in drawn) ≡ made_of_two make first second word
two_drawn {X = X} {Y = Y} {Z = Z} make first second word one mid other next is at =
    ap (λ (two : Y × ℕ). let drawn : Z × ℕ = (make one two.0, two.1) in drawn) at
    ∙ ap (λ (one : X × ℕ). made (make one.0) second one.1) is

-- ---- rows that have several numbers

pub turn_row : (number : ℕ) → number ≤ 5 → by_row event_table number ≡ made Turn drawn_cpu
turn_row number to = row_takes (row 0 5 (made Turn drawn_cpu)) (drop 1 event_table.rows) event_table.last number (omega arith) to

pub wake_row : (number : ℕ) → 9 ≤ number → number ≤ 11 → by_row event_table number ≡ made Wake drawn_pid
wake_row number from to =
    row_passes (row 0 5 (made Turn drawn_cpu)) (drop 1 event_table.rows) event_table.last number (omega arith)
    ∙ row_passes (row 6 6 (made Resched drawn_cpu)) (drop 2 event_table.rows) event_table.last number (omega arith)
    ∙ row_passes (row 7 7 (made Tick drawn_cpu)) (drop 3 event_table.rows) event_table.last number (omega arith)
    ∙ row_passes (row 8 8 (made Block drawn_cpu)) (drop 4 event_table.rows) event_table.last number (omega arith)
    ∙ row_takes (row 9 11 (made Wake drawn_pid)) (drop 5 event_table.rows) event_table.last number from to
