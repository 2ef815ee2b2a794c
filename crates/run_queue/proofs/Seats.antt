-- The tasks of the classes, joined by rising seat: that they rise, and what a look-up, an edit of one class and a
-- reading of the first make of the map that they are.
use Rattle.std.proofs.Common.{◌≡◌, ℕ, ◌+◌, ◌<◌, Bool, true, false, cond, eqb, List, [], ◌∷◌, ◌++◌, map, length, refl, sym, ap, ◌∙◌, subst, Option, Some, None, arith, length-append}
use Rattle.std.specs.Prelude.{◌&&◌, slice_get}
use lib.Dec.{T}
use Rattle.std.specs.Option.{option_map}
use Rattle.std.specs.Cmp.{tied_itself, nat_cmp_total, nat_cmp_is, unsigned_tied}
use Rattle.std.specs.List.{AllByRecursion}
use Rattle.std.specs.Ordering.{ordering_then, nat_cmp, is_lt, is_eq, eq_by_cmp}
use Rattle.std.specs.declared.cmp.Ordering.{Ordering}
use Rattle.std.specs.declared.cmp.Ordering.TheVariants.{Less, Equal, Greater}
use Rattle.std.specs.FinMap as fin
use Rattle.std.specs.FinMap.{FinMap, get, from_sorted, entries, entries_sorted, entries-from_sorted, find, is_sorted, get-from_sorted, get-entries, get-insert, get-remove, same_map, len, len-entries}
use Rattle.std.specs.FinMap.Entries.{below_all}
use Rattle.std.proofs.lemmas.Bool.{and_parts, and_from, eqb-true}
use Rattle.std.specs.List.Sorted.{IsPermutation}
use Rattle.std.proofs.lemmas.List.{length-map, append_assoc, append-nil}
use Rattle.std.proofs.lemmas.List.Sorted.{IsPermutation-trans, IsPermutation-append_left, length_permutation}
use Rattle.cs_types.specs.Queue.{top_of, Key, key_cmp, Members, Seat, seat_cmp, Seats}
use Rattle.cs_types.proofs.Queues.{said, seat_total, seat_cmp-IsAntisymmetric, top_of-from_sorted, len-from_sorted}
use Rattle.order_tree.specs.Rank.{stamped as ranked_stamp}
use Rattle.run_queue.specs.Classes.{stamped, seats_in, joined}

-- ---- comparisons of seats

-- two seats of one class compare as their keys
pub seat_cmp-same : (class : ℕ) (a b : Key) → seat_cmp (class, a) (class, b) ≡ key_cmp a b
seat_cmp-same class a b = ap (λ r. ordering_then r (key_cmp a b)) (tied_itself nat_cmp_total class)

-- a seat of a higher class is less
seat_cmp-less : (a b : Seat) → a.0 < b.0 → seat_cmp a b ≡ Less
seat_cmp-less a b lt = ap (λ r. ordering_then r (key_cmp a.1 b.1)) (sym (nat_cmp_is a.0 b.0 Less lt))

is_eq-then : (r s : Ordering) → is_eq (ordering_then r s) ≡ (is_eq r && is_eq s)
is_eq-then Less s = refl
is_eq-then Equal s = refl
is_eq-then Greater s = refl

-- two seats tie where their classes are equal and their keys tie
is_eq-seat_cmp : (a b : Seat) → is_eq (seat_cmp a b) ≡ (eqb a.0 b.0 && is_eq (key_cmp a.1 b.1))
is_eq-seat_cmp a b = is_eq-then (nat_cmp a.0 b.0) (key_cmp a.1 b.1) ∙ ap (λ t. t && is_eq (key_cmp a.1 b.1)) (unsigned_tied a.0 b.0)

-- ---- one more class in front

-- these tasks, each at its seat in the class
abbrev pub seated : ℕ → List (Key × ℕ) → List (Seat × ℕ)
seated class es = map (λ entry. ((class, entry.0), entry.1)) es

-- all of these are in lower classes
abbrev pub AllBelow : ℕ → List (Seat × ℕ) → Type 0
AllBelow class later = AllByRecursion (λ entry. class < entry.0.0) later

below_all-seated : (class : ℕ) (key : Key) (es : List (Key × ℕ)) (later : List (Seat × ℕ)) → below_all key_cmp key es ≡ true → AllBelow class later →
    below_all seat_cmp (class, key) (seated class es ++ later) ≡ true
below_all-seated class key [] [] below lower = refl
below_all-seated class key [] (y ∷ later) below lower =
    and_from _ _ (ap is_lt (seat_cmp-less (class, key) y.0 lower.0)) (below_all-seated class key [] later refl lower.1)
below_all-seated class key (e ∷ es) later below lower =
    and_from _ _ (ap is_lt (seat_cmp-same class key e.0) ∙ (and_parts _ _ below).0) (below_all-seated class key es later (and_parts _ _ below).1 lower)

is_sorted-seated : (class : ℕ) (es : List (Key × ℕ)) (later : List (Seat × ℕ)) → is_sorted key_cmp es ≡ true → is_sorted seat_cmp later ≡ true → AllBelow class later →
    is_sorted seat_cmp (seated class es ++ later) ≡ true
is_sorted-seated class [] later rising rest lower = rest
is_sorted-seated class (e ∷ es) later rising rest lower =
    and_from _ _ (below_all-seated class e.0 es later (and_parts _ _ rising).0 lower) (is_sorted-seated class es later (and_parts _ _ rising).1 rest lower)

AllBelow-seated : (class lower : ℕ) (es : List (Key × ℕ)) (later : List (Seat × ℕ)) → class < lower → AllBelow class later → AllBelow class (seated lower es ++ later)
AllBelow-seated class lower [] later lt rest = rest
AllBelow-seated class lower (e ∷ es) later lt rest = (lt, AllBelow-seated class lower es later lt rest)

find-lower : (seat : Seat) (later : List (Seat × ℕ)) → AllBelow seat.0 later → find seat_cmp seat later ≡ None
find-lower seat [] lower = refl
find-lower seat (y ∷ later) lower =
    ap (λ r. cond (is_eq r) (Some y.1) (find seat_cmp seat later)) (seat_cmp-less seat y.0 lower.0) ∙ find-lower seat later lower.1

picked : {A : Type 0} (here there : Bool) (x y z : A) → cond (here && there) x (cond here y z) ≡ cond here (cond there x y) z
picked true there x y z = refl
picked false there x y z = refl

find-seated : (seat : Seat) (class : ℕ) (es : List (Key × ℕ)) (later : List (Seat × ℕ)) → AllBelow class later →
    find seat_cmp seat (seated class es ++ later) ≡ cond (eqb seat.0 class) (find key_cmp seat.1 es) (find seat_cmp seat later)
find-seated seat class [] later lower = by_class (eqb seat.0 class) refl where
  by_class : (b : Bool) → eqb seat.0 class ≡ b → find seat_cmp seat later ≡ cond b None (find seat_cmp seat later)
  by_class true same = find-lower seat later (subst (λ c. AllBelow c later) (sym (eqb-true seat.0 class same)) lower)
  by_class false other = refl
find-seated seat class (e ∷ es) later lower =
    ap (λ b. cond b (Some e.1) (find seat_cmp seat (seated class es ++ later))) (is_eq-seat_cmp seat (class, e.0))
    ∙ ap (cond (eqb seat.0 class && is_eq (key_cmp seat.1 e.0)) (Some e.1)) (find-seated seat class es later lower)
    ∙ picked (eqb seat.0 class) (is_eq (key_cmp seat.1 e.0)) (Some e.1) (find key_cmp seat.1 es) (find seat_cmp seat later)

-- the tasks of a class are told by their stamps and pids
told-seated : (class : ℕ) (es : List (Key × ℕ)) (later : List (Seat × ℕ)) → map stamped (seated class es ++ later) ≡ map ranked_stamp es ++ map stamped later
told-seated class [] later = refl
told-seated class (e ∷ es) later = ap (λ (rest : List (ℕ × ℕ)). ranked_stamp e ∷ rest) (told-seated class es later)

-- What was told in any order is told in any order with more behind it.
pub told-next : (old mid new xs ys : List (ℕ × ℕ)) → IsPermutation (old ++ xs) mid → IsPermutation (mid ++ ys) new → IsPermutation (old ++ (xs ++ ys)) new
told-next old mid new xs ys first next =
    subst (λ (told : List (ℕ × ℕ)). IsPermutation told new) (append_assoc old xs ys)
    (IsPermutation-trans ((old ++ xs) ++ ys) (mid ++ ys) new (IsPermutation-append_left ys (old ++ xs) mid first) next)

pub length-told : (members : Members) (old new : List (ℕ × ℕ)) → IsPermutation (old ++ map ranked_stamp (entries members)) new → length new ≡ length old + len members
length-told members old new told =
    length_permutation (old ++ map ranked_stamp (entries members)) new told
    ∙ length-append old (map ranked_stamp (entries members))
    ∙ ap (λ n. length old + n) (length-map (entries members) ranked_stamp ∙ sym (len-entries members))

true_by : (b : Bool) → T b → b ≡ true
true_by true h = refl
true_by false h = absurd h

module _ (class : ℕ) (members : Members) (later : List (Seat × ℕ)) where
  length-seats_in : length (seats_in class members ++ later) ≡ len members + length later
  length-seats_in =
      length-append (seats_in class members) later
      ∙ ap (λ n. n + length later) (length-map (entries members) (λ entry. ((class, entry.0), entry.1)) ∙ sym (len-entries members))

  -- the first of all is that of the class, where it has one
  first-seats_in : (pid : ℕ) → top_of members ≡ Some pid → option_map (λ (entry : Seat × ℕ). entry.1) (slice_get (seats_in class members ++ later) 0) ≡ Some pid
  first-seats_in pid = by_entries (entries members) where
    by_entries : (es : List (Key × ℕ)) → slice_get (map (λ (entry : Key × ℕ). entry.1) es) 0 ≡ Some pid →
        option_map (λ (entry : Seat × ℕ). entry.1) (slice_get (seated class es ++ later) 0) ≡ Some pid
    by_entries [] is = absurd cc
    by_entries (e ∷ es) is = is

  -- and else that of the others
  first_later-seats_in : top_of members ≡ None → slice_get (seats_in class members ++ later) 0 ≡ slice_get later 0
  first_later-seats_in = by_entries (entries members) where
    by_entries : (es : List (Key × ℕ)) → slice_get (map (λ (entry : Key × ℕ). entry.1) es) 0 ≡ None → slice_get (seated class es ++ later) 0 ≡ slice_get later 0
    by_entries [] is = refl
    by_entries (e ∷ es) is = absurd cc

-- ---- all classes

-- the pid at a seat, by its class
abbrev pub pid_in : Members → Members → Members → Members → Seat → Option ℕ
pid_in stop deadline real_time fair seat =
    cond (eqb seat.0 0) (get stop seat.1) (cond (eqb seat.0 1) (get deadline seat.1)
    (cond (eqb seat.0 2) (get real_time seat.1) (cond (eqb seat.0 3) (get fair seat.1) None)))

module _ (stop deadline real_time fair : Members) where
  abbrev from_fair : List (Seat × ℕ)
  from_fair = seats_in 3 fair ++ []

  abbrev from_real_time : List (Seat × ℕ)
  from_real_time = seats_in 2 real_time ++ from_fair

  abbrev from_deadline : List (Seat × ℕ)
  from_deadline = seats_in 1 deadline ++ from_real_time

  lower_than_real_time : AllBelow 2 from_fair
  lower_than_real_time = AllBelow-seated 2 3 (entries fair) [] (omega arith) tt

  lower_than_deadline : AllBelow 1 from_real_time
  lower_than_deadline = AllBelow-seated 1 2 (entries real_time) from_fair (omega arith) (AllBelow-seated 1 3 (entries fair) [] (omega arith) tt)

  lower_than_stop : AllBelow 0 from_deadline
  lower_than_stop =
      AllBelow-seated 0 1 (entries deadline) from_real_time (omega arith)
      (AllBelow-seated 0 2 (entries real_time) from_fair (omega arith) (AllBelow-seated 0 3 (entries fair) [] (omega arith) tt))

  pub joined_rise : is_sorted seat_cmp (joined stop deadline real_time fair) ≡ true
  joined_rise =
      is_sorted-seated 0 (entries stop) from_deadline (true_by _ (entries_sorted stop))
      (is_sorted-seated 1 (entries deadline) from_real_time (true_by _ (entries_sorted deadline))
      (is_sorted-seated 2 (entries real_time) from_fair (true_by _ (entries_sorted real_time))
      (is_sorted-seated 3 (entries fair) [] (true_by _ (entries_sorted fair)) refl tt)
      lower_than_real_time) lower_than_deadline) lower_than_stop

  -- the pid at a seat of all
  pub get-joined : (seat : Seat) → get (from_sorted {R = seat_cmp} (joined stop deadline real_time fair)) seat ≡ pid_in stop deadline real_time fair seat
  get-joined seat =
      get-from_sorted seat_cmp (joined stop deadline real_time fair) seat (said joined_rise)
      ∙ find-seated seat 0 (entries stop) from_deadline lower_than_stop
      ∙ ap (cond (eqb seat.0 0) (find key_cmp seat.1 (entries stop)))
      (find-seated seat 1 (entries deadline) from_real_time lower_than_deadline
      ∙ ap (cond (eqb seat.0 1) (find key_cmp seat.1 (entries deadline)))
      (find-seated seat 2 (entries real_time) from_fair lower_than_real_time
      ∙ ap (cond (eqb seat.0 2) (find key_cmp seat.1 (entries real_time))) (find-seated seat 3 (entries fair) [] tt)))
      ∙ sym by_find where
        by_find : pid_in stop deadline real_time fair seat
            ≡ cond (eqb seat.0 0) (find key_cmp seat.1 (entries stop)) (cond (eqb seat.0 1) (find key_cmp seat.1 (entries deadline))
            (cond (eqb seat.0 2) (find key_cmp seat.1 (entries real_time)) (cond (eqb seat.0 3) (find key_cmp seat.1 (entries fair)) None)))
        by_find = rw (get-entries stop seat.1, get-entries deadline seat.1, get-entries real_time seat.1, get-entries fair seat.1)

  -- how many there are
  pub len-joined : len (from_sorted {R = seat_cmp} (joined stop deadline real_time fair)) ≡ len stop + len deadline + len real_time + len fair
  len-joined =
      let all = len-from_sorted seat_cmp (joined stop deadline real_time fair) joined_rise in
      let one = length-seats_in 0 stop from_deadline in
      let two = length-seats_in 1 deadline from_real_time in
      let three = length-seats_in 2 real_time from_fair in
      let four = length-seats_in 3 fair [] in
      omega arith

  -- they are told class by class where all leave
  pub told-joined : map stamped (entries (from_sorted {R = seat_cmp} (joined stop deadline real_time fair)))
      ≡ map ranked_stamp (entries stop) ++ (map ranked_stamp (entries deadline) ++ (map ranked_stamp (entries real_time) ++ map ranked_stamp (entries fair)))
  told-joined =
      ap (map stamped) (entries-from_sorted seat_cmp (joined stop deadline real_time fair) (said joined_rise))
      ∙ told-seated 0 (entries stop) from_deadline
      ∙ ap (λ (rest : List (ℕ × ℕ)). map ranked_stamp (entries stop) ++ rest)
      (told-seated 1 (entries deadline) from_real_time
      ∙ ap (λ (rest : List (ℕ × ℕ)). map ranked_stamp (entries deadline) ++ rest)
      (told-seated 2 (entries real_time) from_fair
      ∙ ap (λ (rest : List (ℕ × ℕ)). map ranked_stamp (entries real_time) ++ rest) (told-seated 3 (entries fair) [] ∙ append-nil (map ranked_stamp (entries fair)))))

  -- the first of all
  abbrev first_of_all : Option ℕ
  first_of_all = top_of (from_sorted {R = seat_cmp} (joined stop deadline real_time fair))

  pub top_of-stop : (pid : ℕ) → top_of stop ≡ Some pid → first_of_all ≡ Some pid
  top_of-stop pid is = top_of-from_sorted seat_cmp _ joined_rise ∙ first-seats_in 0 stop from_deadline pid is

  pub top_of-deadline : (pid : ℕ) → top_of stop ≡ None → top_of deadline ≡ Some pid → first_of_all ≡ Some pid
  top_of-deadline pid no_stop is =
      top_of-from_sorted seat_cmp _ joined_rise
      ∙ ap (option_map (λ (entry : Seat × ℕ). entry.1)) (first_later-seats_in 0 stop from_deadline no_stop)
      ∙ first-seats_in 1 deadline from_real_time pid is

  pub top_of-real_time : (pid : ℕ) → top_of stop ≡ None → top_of deadline ≡ None → top_of real_time ≡ Some pid → first_of_all ≡ Some pid
  top_of-real_time pid no_stop no_deadline is =
      top_of-from_sorted seat_cmp _ joined_rise
      ∙ ap (option_map (λ (entry : Seat × ℕ). entry.1))
      (first_later-seats_in 0 stop from_deadline no_stop ∙ first_later-seats_in 1 deadline from_real_time no_deadline)
      ∙ first-seats_in 2 real_time from_fair pid is

  pub top_of-fair : (first : Option ℕ) → top_of stop ≡ None → top_of deadline ≡ None → top_of real_time ≡ None → top_of fair ≡ first → first_of_all ≡ first
  top_of-fair first no_stop no_deadline no_real_time is =
      top_of-from_sorted seat_cmp _ joined_rise
      ∙ ap (option_map (λ (entry : Seat × ℕ). entry.1))
      (first_later-seats_in 0 stop from_deadline no_stop ∙ first_later-seats_in 1 deadline from_real_time no_deadline
      ∙ first_later-seats_in 2 real_time from_fair no_real_time)
      ∙ last first is where
        last : (o : Option ℕ) → top_of fair ≡ o → option_map (λ (entry : Seat × ℕ). entry.1) (slice_get from_fair 0) ≡ o
        last None none = ap (option_map (λ (entry : Seat × ℕ). entry.1)) (first_later-seats_in 3 fair [] none)
        last (Some pid) some = first-seats_in 3 fair [] pid some

-- ---- an edit of one class

-- the one map is the other, with this for what stands at a key
abbrev pub SetsTo : {K : Type 0} {R : K → K → Ordering} → FinMap R ℕ → FinMap R ℕ → K → Option ℕ → Type 0
SetsTo {K} {R} before after key value = (other : K) → get after other ≡ cond (eq_by_cmp R other key) value (get before other)

pub insert-SetsTo : (before after : Seats) (seat : Seat) (pid : ℕ) → SetsTo before after seat (Some pid) → after ≡ fin.insert before seat pid
insert-SetsTo before after seat pid sets =
    same_map seat_total seat_cmp-IsAntisymmetric after (fin.insert before seat pid) (λ other. sets other ∙ sym (get-insert seat_total before seat pid other))

pub remove-SetsTo : (before after : Seats) (seat : Seat) → SetsTo before after seat None → after ≡ fin.remove before seat
remove-SetsTo before after seat sets =
    same_map seat_total seat_cmp-IsAntisymmetric after (fin.remove before seat) (λ other. sets other ∙ sym (get-remove seat_total before seat other))

-- a class before the one that is edited answers first, and is another
passed : {A : Type 0} (first here there : Bool) (x y z : A) → (first ≡ true → here ≡ false) → cond first x (cond (here && there) y z) ≡ cond (here && there) y (cond first x z)
passed true true there x y z other = absurd (let bad = other refl in cc)
passed true false there x y z other = refl
passed false here there x y z other = refl

other_class : (class first here : ℕ) → eqb first here ≡ false → eqb class first ≡ true → eqb class here ≡ false
other_class class first here differ same = ap (λ n. eqb n here) (eqb-true class first same) ∙ differ

module _ (stop deadline real_time fair : Members) where
  abbrev pub map_of : Members → Members → Members → Members → Seats
  map_of a b c d = from_sorted (joined a b c d)

  -- from a look-up by classes
  SetsTo-joined : (a b c d : Members) (seat : Seat) (value : Option ℕ) →
      ((other : Seat) → pid_in a b c d other ≡ cond (eqb other.0 seat.0 && is_eq (key_cmp other.1 seat.1)) value (pid_in stop deadline real_time fair other)) →
      SetsTo (map_of stop deadline real_time fair) (map_of a b c d) seat value
  SetsTo-joined a b c d seat value sets other =
      get-joined a b c d other ∙ sets other
      ∙ ap (λ t. cond t value (pid_in stop deadline real_time fair other)) (sym (is_eq-seat_cmp other seat))
      ∙ ap (cond (is_eq (seat_cmp other seat)) value) (sym (get-joined stop deadline real_time fair other))

  module _ (key : Key) (value : Option ℕ) where
    -- one class edited, before those that follow it
    edited : (before after : Members) → SetsTo before after key value → (class : ℕ) (seat : Seat) (later : Option ℕ) →
        cond (eqb seat.0 class) (get after seat.1) later ≡ cond (eqb seat.0 class && is_eq (key_cmp seat.1 key)) value (cond (eqb seat.0 class) (get before seat.1) later)
    edited before after sets class seat later =
        ap (λ o. cond (eqb seat.0 class) o later) (sets seat.1)
        ∙ sym (picked (eqb seat.0 class) (is_eq (key_cmp seat.1 key)) value (get before seat.1) later)

    pub SetsTo-stop : (after : Members) → SetsTo stop after key value →
        SetsTo (map_of stop deadline real_time fair) (map_of after deadline real_time fair) (0, key) value
    SetsTo-stop after sets = SetsTo-joined after deadline real_time fair (0, key) value (λ seat. edited stop after sets 0 seat _)

    pub SetsTo-deadline : (after : Members) → SetsTo deadline after key value →
        SetsTo (map_of stop deadline real_time fair) (map_of stop after real_time fair) (1, key) value
    SetsTo-deadline after sets = SetsTo-joined stop after real_time fair (1, key) value (λ seat.
        ap (cond (eqb seat.0 0) (get stop seat.1)) (edited deadline after sets 1 seat _)
        ∙ passed (eqb seat.0 0) (eqb seat.0 1) (is_eq (key_cmp seat.1 key)) (get stop seat.1) value _ (other_class seat.0 0 1 refl))

    pub SetsTo-real_time : (after : Members) → SetsTo real_time after key value →
        SetsTo (map_of stop deadline real_time fair) (map_of stop deadline after fair) (2, key) value
    SetsTo-real_time after sets = SetsTo-joined stop deadline after fair (2, key) value (λ seat.
        ap (cond (eqb seat.0 0) (get stop seat.1))
        (ap (cond (eqb seat.0 1) (get deadline seat.1)) (edited real_time after sets 2 seat _)
        ∙ passed (eqb seat.0 1) (eqb seat.0 2) (is_eq (key_cmp seat.1 key)) (get deadline seat.1) value _ (other_class seat.0 1 2 refl))
        ∙ passed (eqb seat.0 0) (eqb seat.0 2) (is_eq (key_cmp seat.1 key)) (get stop seat.1) value _ (other_class seat.0 0 2 refl))

    pub SetsTo-fair : (after : Members) → SetsTo fair after key value →
        SetsTo (map_of stop deadline real_time fair) (map_of stop deadline real_time after) (3, key) value
    SetsTo-fair after sets = SetsTo-joined stop deadline real_time after (3, key) value (λ seat.
        ap (cond (eqb seat.0 0) (get stop seat.1))
        (ap (cond (eqb seat.0 1) (get deadline seat.1))
        (ap (cond (eqb seat.0 2) (get real_time seat.1)) (edited fair after sets 3 seat _)
        ∙ passed (eqb seat.0 2) (eqb seat.0 3) (is_eq (key_cmp seat.1 key)) (get real_time seat.1) value _ (other_class seat.0 2 3 refl))
        ∙ passed (eqb seat.0 1) (eqb seat.0 3) (is_eq (key_cmp seat.1 key)) (get deadline seat.1) value _ (other_class seat.0 1 3 refl))
        ∙ passed (eqb seat.0 0) (eqb seat.0 3) (is_eq (key_cmp seat.1 key)) (get stop seat.1) value _ (other_class seat.0 0 3 refl))
