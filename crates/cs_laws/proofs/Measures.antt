-- Measures: how far the end of a run is from where nobody is pending, and that each schedule that it makes comes nearer.
use Rattle.std.proofs.Common.{◌≡◌, ℕ, zero, suc, ◌+◌, ◌*◌, ◌<◌, ◌≤◌, Bool, true, false, cond, List, [], ◌∷◌, length, refl, sym, ap, ◌∙◌, subst, inl, inr, Option, Some, None, is_some, arith, le_refl}
use Rattle.std.specs.Prelude.{◌==◌, ◌&&◌, ◌||◌, ◌⊎◌, not, filter, count_by, Contains, slice_index_or, slice_set}
use Rattle.std.specs.List.{list_any, range_with_len}
use Rattle.std.proofs.lemmas.Bool.{cases_eq, cond_both, cond-true, and_parts, and_from, and_right, both_ways, false_from_ne_true}
use Rattle.std.proofs.lemmas.Nat.{mul-le}
use Rattle.std.proofs.lemmas.List.{get_or-set_same, get_or-set_other}
use Rattle.std.proofs.lemmas.List.Sums.{sum_by-cons, count_by-le-length}
use Rattle.std.proofs.lemmas.List.FromFn.{length-range_with_len}
use Rattle.cs_types.specs.declared.event.Actor.TheVariants.{End}
use Rattle.cs_types.specs.declared.event.Event.TheVariants.{Resched}
use Rattle.cs_types.specs.declared.reply.Reply.TheVariants.{Picked}
use Rattle.cs_types.specs.Room.{RoomState, SiblingState, Waiting, absent, sibling_of, is_online, online}
use Rattle.cs_types.specs.Touches.{is_selection, LedgerEntry, Ledger, ledger_entry, is_fresh}
use Rattle.cs_types.specs.Selection.{cookie_of, pid_of, lead_from, choice, is_run, select, Scheduled, adopt, is_plain, pick_plain, pick_anew, adopt_or_pick_anew, balance, schedule, sibling_after_selection}
use Rattle.cs_types.specs.Accounting.{charge}
use Rattle.cs_types.specs.Step.{Stepped, picked}
use Rattle.cs_types.specs.History.{Moment, step_at, next}
use Rattle.cs_types.specs.Drain.{pending, is_ready, next_to_schedule, entry_by_end}
use Rattle.cs_laws.proofs.Siblings.{length-step}
use Rattle.cs_types.proofs.Filtered.{Contains-filter, Contains-filter_parts, Contains-range}
use Rattle.cs_laws.proofs.Selections.{online_parts, sibling_of-select_for, selected_keeps_law}
use Rattle.cs_types.proofs.Lists.{get_or-set_alike}
use Rattle.cs_laws.proofs.Numbers.{untouched, untouched-cons}
use Rattle.cs_laws.proofs.Drains.{next_is_pending}

-- ---- counts of a range

-- what one element adds to a count
abbrev one_if : Bool → ℕ
one_if b = cond b 1 0

-- a test that passes where another does counts no less
counts_no_less : (b c : Bool) → (c ≡ true → b ≡ true) → cond c 1 0 ≤ cond b 1 0
counts_no_less true c within = cond_both c 1 0 (λ n. n ≤ 1) (λ _. omega arith) (λ _. omega arith)
counts_no_less false true within = let bad : false ≡ true = within refl in absurd cc
counts_no_less false false within = omega arith

count-le : (p q : ℕ → Bool) (a n : ℕ) → ((x : ℕ) → x < a + n → q x ≡ true → p x ≡ true) →
    count_by q (range_with_len a n) ≤ count_by p (range_with_len a n)
count-le p q a zero within = omega arith
count-le p q a (suc n) within =
    let rest = range_with_len (a + 1) n in
    omega (
      arith,
      sum_by-cons (λ x. cond (q x) 1 0) a rest,
      sum_by-cons (λ x. cond (p x) 1 0) a rest,
      counts_no_less (p a) (q a) (within a (omega arith)),
      count-le p q (a + 1) n (λ x high. within x (omega arith)),
    )

-- and more where one element passes it and not the other
count-lt : (p q : ℕ → Bool) (a n c : ℕ) → ((x : ℕ) → x < a + n → q x ≡ true → p x ≡ true) → a ≤ c → c < a + n → q c ≡ false → p c ≡ true →
    count_by q (range_with_len a n) < count_by p (range_with_len a n)
count-lt p q a zero c within low high fails passes = absurd (omega arith)
count-lt p q a (suc n) c within low high fails passes =
    let rest = range_with_len (a + 1) n in
    elim (cases_eq a c) [
      | inl same ↦
          omega (
            arith,
            sum_by-cons (λ x. cond (q x) 1 0) a rest,
            sum_by-cons (λ x. cond (p x) 1 0) a rest,
            ap one_if (ap q same ∙ fails),
            ap one_if (ap p same ∙ passes),
            count-le p q (a + 1) n (λ x high. within x (omega arith)),
          )
      | inr other ↦
          omega (
            arith,
            sum_by-cons (λ x. cond (q x) 1 0) a rest,
            sum_by-cons (λ x. cond (p x) 1 0) a rest,
            counts_no_less (p a) (q a) (within a (omega arith)),
            count-lt p q (a + 1) n c (λ x high. within x (omega arith)) (omega (arith, other)) (omega arith) fails passes,
          )
    ]

-- two tests that no element passes both count at most as many as there are
one_of_two : (a b : Bool) → (a ≡ true → b ≡ false) → cond a 1 0 + cond b 1 0 ≤ 1
one_of_two true true apart = let bad : true ≡ false = apart refl in absurd cc
one_of_two true false apart = omega arith
one_of_two false b apart = cond_both b 1 0 (λ n. 0 + n ≤ 1) (λ _. omega arith) (λ _. omega arith)

counts_apart : (p q : ℕ → Bool) (xs : List ℕ) → ((x : ℕ) → p x ≡ true → q x ≡ false) → count_by p xs + count_by q xs ≤ length xs
counts_apart p q [] apart = omega arith
counts_apart p q (x ∷ xs) apart =
    omega (arith, sum_by-cons (λ x. cond (p x) 1 0) x xs, sum_by-cons (λ x. cond (q x) 1 0) x xs, one_of_two (p x) (q x) (apart x), counts_apart p q xs apart)

-- ---- the measure

-- whether a sibling is online and pending
abbrev pub is_pending : RoomState → ℕ → Bool
is_pending room cpu = is_online room cpu && (sibling_of room cpu).pending

-- whether it is ready too, so that its schedule would be an adoption
abbrev pub would_adopt : Moment → ℕ → Bool
would_adopt moment cpu = is_pending moment.room cpu && is_ready moment cpu

-- and whether it is not
abbrev pub is_stuck : Moment → ℕ → Bool
is_stuck moment cpu = is_pending moment.room cpu && not (is_ready moment cpu)

-- how many siblings pass a test
abbrev pub how_many : Moment → (ℕ → Bool) → ℕ
how_many moment test = count_by test (range_with_len 0 (length moment.room.siblings))

-- how far the end is from where nobody is pending: one for each that would adopt, and one for each sibling for each that is stuck
abbrev pub measure : Moment → ℕ
measure moment = length moment.room.siblings * how_many moment (is_stuck moment) + how_many moment (would_adopt moment)

within_square : (n stuck ready : ℕ) → stuck + ready ≤ n → n * stuck + ready ≤ n * n
within_square zero stuck ready few = omega arith
within_square (suc n) stuck ready few = omega (arith, mul-le (suc n) (stuck + ready) (suc n) (suc n) (le_refl (suc n)) few)

not_both : (due ready : Bool) → (due && not ready) ≡ true → (due && ready) ≡ false
not_both true true h = absurd cc
not_both true false h = refl
not_both false ready h = refl

-- It is at most the square of the siblings.
pub measure-le : (moment : Moment) → measure moment ≤ length moment.room.siblings * length moment.room.siblings
measure-le moment =
    let n = length moment.room.siblings in
    within_square n (how_many moment (is_stuck moment)) (how_many moment (would_adopt moment))
    (omega (
      arith,
      length-range_with_len 0 n,
      counts_apart (is_stuck moment) (would_adopt moment) (range_with_len 0 n) (λ cpu. not_both (is_pending moment.room cpu) (is_ready moment cpu)),
    ))

-- it falls where one that would adopt is gone and nobody is new
fewer_ready : (n stuck ready stuck_then ready_then : ℕ) → stuck_then ≤ stuck → ready_then < ready → n * stuck_then + ready_then < n * stuck + ready
fewer_ready n stuck ready stuck_then ready_then few less = omega (arith, mul-le n stuck_then n stuck (le_refl n) few)

falls_by_adopting : (moment now : Moment) (cpu : ℕ) → length now.room.siblings ≡ length moment.room.siblings → cpu < length moment.room.siblings →
    ((other : ℕ) → other < length moment.room.siblings → is_stuck now other ≡ true → is_stuck moment other ≡ true) →
    ((other : ℕ) → other < length moment.room.siblings → would_adopt now other ≡ true → would_adopt moment other ≡ true) →
    would_adopt now cpu ≡ false → would_adopt moment cpu ≡ true → measure now < measure moment
falls_by_adopting moment now cpu same below stuck ready gone was =
    let n = length moment.room.siblings in
    subst (λ n. n * count_by (is_stuck now) (range_with_len 0 n) + count_by (would_adopt now) (range_with_len 0 n) < measure moment) (sym same)
    (fewer_ready n (how_many moment (is_stuck moment)) (how_many moment (would_adopt moment)) _ _
    (count-le (is_stuck moment) (is_stuck now) 0 n (λ other high. stuck other (omega arith)))
    (count-lt (would_adopt moment) (would_adopt now) 0 n cpu (λ other high. ready other (omega arith)) (omega arith) (omega arith) gone was))

-- and where one that was stuck is gone, nobody else is stuck that was not, and it would not adopt
fewer_stuck : (n stuck ready stuck_then ready_then : ℕ) → stuck_then < stuck → ready_then < n → n * stuck_then + ready_then < n * stuck + ready
fewer_stuck n stuck ready stuck_then ready_then less few = omega (arith, mul-le n (stuck_then + 1) n stuck (le_refl n) (omega arith))

falls_by_touching : (moment now : Moment) (cpu : ℕ) → length now.room.siblings ≡ length moment.room.siblings → cpu < length moment.room.siblings →
    ((other : ℕ) → other < length moment.room.siblings → is_stuck now other ≡ true → is_stuck moment other ≡ true) →
    is_stuck now cpu ≡ false → is_stuck moment cpu ≡ true → would_adopt now cpu ≡ false → measure now < measure moment
falls_by_touching moment now cpu same below stuck gone was idle =
    let n = length moment.room.siblings in
    let all : ℕ → Bool = λ other. true in
    let few : count_by (would_adopt now) (range_with_len 0 n) < n =
    omega (
      arith,
      length-range_with_len 0 n,
      count_by-le-length all (range_with_len 0 n),
      count-lt all (would_adopt now) 0 n cpu (λ other high ready. refl) (omega arith) (omega arith) idle refl,
    ) in
    subst (λ n. n * count_by (is_stuck now) (range_with_len 0 n) + count_by (would_adopt now) (range_with_len 0 n) < measure moment) (sym same)
    (fewer_stuck n (how_many moment (is_stuck moment)) (how_many moment (would_adopt moment)) _ _
    (count-lt (is_stuck moment) (is_stuck now) 0 n cpu (λ other high. stuck other (omega arith)) (omega arith) (omega arith) gone was) few)

-- ---- what a schedule leaves

-- of a sibling, whether it is online and pending, and whether something waits for it
abbrev looks : SiblingState → Bool × Bool × Bool
looks sibling = (sibling.online, sibling.pending, is_some sibling.waiting)

-- whether a sibling that looks so is stuck, and whether it would adopt, where the test says whether the selection is fresh
abbrev stuck_by : Bool → Bool × Bool × Bool → Bool
stuck_by fresh look = (look.0 && look.1) && not (fresh && look.2)

abbrev adopts_by : Bool → Bool × Bool × Bool → Bool
adopts_by fresh look = (look.0 && look.1) && (fresh && look.2)

-- one that is not pending is neither
not_stuck : (fresh : Bool) (look : Bool × Bool × Bool) → look.1 ≡ false → stuck_by fresh look ≡ false
not_stuck fresh look idle = ap (λ b. b && not (fresh && look.2)) (and_right look.0 look.1 idle)

not_adopting : (fresh : Bool) (look : Bool × Bool × Bool) → look.1 ≡ false → adopts_by fresh look ≡ false
not_adopting fresh look idle = ap (λ b. b && (fresh && look.2)) (and_right look.0 look.1 idle)

-- one that is pending and would not adopt is stuck
stuck_else : (due ready : Bool) → due ≡ true → (due && ready) ≡ false → (due && not ready) ≡ true
stuck_else true true due other = absurd cc
stuck_else true false due other = refl
stuck_else false ready due other = absurd cc

-- the moment after a step in which the end makes a sibling schedule
abbrev moment_after : Moment → ℕ → Stepped → Moment
moment_after moment cpu made =
    record {
      room = made.room;
      ledger = ledger_entry moment.room (record { actor = End; event = Resched cpu; reply = made.reply }) ∷ moment.ledger;
    }

-- the place of the next try to steal makes no difference
looks-balance : (cpu : ℕ) (made : Scheduled) (other : ℕ) → looks (sibling_of (balance cpu made).room other) ≡ looks (sibling_of made.room other)
looks-balance cpu made other = get_or-set_alike looks made.room.siblings cpu _ other absent refl

-- ---- the selection after an entry

fresh_cons : (note : LedgerEntry) (ledger : Ledger) →
    is_fresh (note ∷ ledger)
    ≡ ((is_selection note.entry || list_any (λ n. is_selection n.entry) ledger) && cond (is_selection note.entry) true ((note.touches == 0) && untouched ledger))
unfolding is_fresh
fresh_cons note ledger =
    ap (λ b. (is_selection note.entry || list_any (λ (n : LedgerEntry). is_selection n.entry) ledger) && b) (untouched-cons note ledger)

-- After a selection it is fresh.
fresh_selected : (note : LedgerEntry) (ledger : Ledger) → is_selection note.entry ≡ true → is_fresh (note ∷ ledger) ≡ true
fresh_selected note ledger selects =
    fresh_cons note ledger
    ∙ ap (λ b. (b || list_any (λ (n : LedgerEntry). is_selection n.entry) ledger) && cond b true ((note.touches == 0) && untouched ledger)) selects

-- After an entry that did not touch it is fresh where it was.
fresh_untouched : (note : LedgerEntry) (ledger : Ledger) → is_selection note.entry ≡ false → note.touches ≡ 0 → is_fresh (note ∷ ledger) ≡ is_fresh ledger
unfolding is_fresh
fresh_untouched note ledger other none =
    fresh_cons note ledger
    ∙ (λ i. (other i || list_any (λ (n : LedgerEntry). is_selection n.entry) ledger) && cond (other i) true ((none i == 0) && untouched ledger))

-- ---- an adopted schedule

-- a sibling is set: it looks so, and the others look as they did
looks_there : (room : RoomState) (cpu : ℕ) (sibling : SiblingState) → cpu < length room.siblings → looks (slice_index_or (slice_set room.siblings cpu sibling) cpu absent) ≡ looks sibling
looks_there room cpu sibling below = ap looks (get_or-set_same room.siblings cpu sibling absent below)

looks_elsewhere : (room : RoomState) (cpu : ℕ) (sibling : SiblingState) (other : ℕ) → (other ≡ cpu → ⊥) →
    looks (slice_index_or (slice_set room.siblings cpu sibling) other absent) ≡ looks (sibling_of room other)
looks_elsewhere room cpu sibling other apart = ap looks (get_or-set_other room.siblings cpu other sibling absent apart)

-- what passes after a sibling was set and passes not itself passed before
passed_before : (room now : RoomState) (cpu : ℕ) (test was : Bool × Bool × Bool → Bool) → test (looks (sibling_of now cpu)) ≡ false →
    ((other : ℕ) → (other ≡ cpu → ⊥) → looks (sibling_of now other) ≡ looks (sibling_of room other)) →
    (other : ℕ) → (test (looks (sibling_of room other)) ≡ true → was (looks (sibling_of room other)) ≡ true) →
    test (looks (sibling_of now other)) ≡ true → was (looks (sibling_of room other)) ≡ true
passed_before room now cpu test was gone alike other weaker passes =
    elim (cases_eq other cpu) [
      | inl same ↦ absurd (both_ways (test (looks (sibling_of now cpu))) gone (ap (λ x. test (looks (sibling_of now x))) (sym same) ∙ passes))
      | inr apart ↦ weaker (ap test (sym (alike other apart)) ∙ passes)
    ]

adopted_falls : (moment : Moment) (cpu : ℕ) (run : Option ℕ) → cpu < length moment.room.siblings → is_fresh moment.ledger ≡ true → would_adopt moment cpu ≡ true →
    let now = moment_after moment cpu (picked Picked (balance cpu (adopt moment.room cpu run))) in
    length now.room.siblings ≡ length moment.room.siblings → measure now < measure moment
adopted_falls moment cpu run below fresh adopts same =
    let made = adopt moment.room cpu run in
    let now = moment_after moment cpu (picked Picked (balance cpu made)) in
    let as_before = fresh_untouched (ledger_entry moment.room (record { actor = End; event = Resched cpu; reply = Picked made.pick })) moment.ledger refl refl in
    let gone : (looks (sibling_of now.room cpu)).1 ≡ false =
    ap (λ (look : Bool × Bool × Bool). look.1) (looks-balance cpu made cpu ∙ looks_there moment.room cpu _ below) in
    let alike = λ (other : ℕ) (apart : other ≡ cpu → ⊥). looks-balance cpu made other ∙ looks_elsewhere moment.room cpu _ other apart in
    falls_by_adopting moment now cpu same below
    (λ other high. passed_before moment.room now.room cpu (stuck_by (is_fresh now.ledger)) (stuck_by (is_fresh moment.ledger))
    (not_stuck (is_fresh now.ledger) (looks (sibling_of now.room cpu)) gone) alike other
    (λ passes. ap (λ fresh. stuck_by fresh (looks (sibling_of moment.room other))) (sym as_before) ∙ passes))
    (λ other high. passed_before moment.room now.room cpu (adopts_by (is_fresh now.ledger)) (adopts_by (is_fresh moment.ledger))
    (not_adopting (is_fresh now.ledger) (looks (sibling_of now.room cpu)) gone) alike other
    (λ passes. ap (λ fresh. adopts_by fresh (looks (sibling_of moment.room other))) (sym as_before) ∙ passes))
    (not_adopting (is_fresh now.ledger) (looks (sibling_of now.room cpu)) gone) adopts

-- ---- a schedule where nobody would adopt

plain_falls : (moment : Moment) (cpu : ℕ) → cpu < length moment.room.siblings → is_pending moment.room cpu ≡ true →
    ((other : ℕ) → other < length moment.room.siblings → would_adopt moment other ≡ false) →
    let now = moment_after moment cpu (picked Picked (balance cpu (pick_plain moment.room cpu))) in
    length now.room.siblings ≡ length moment.room.siblings → measure now < measure moment
plain_falls moment cpu below due none same =
    let made = pick_plain moment.room cpu in
    let now = moment_after moment cpu (picked Picked (balance cpu made)) in
    let gone : (looks (sibling_of now.room cpu)).1 ≡ false =
    ap (λ (look : Bool × Bool × Bool). look.1) (looks-balance cpu made cpu ∙ looks_there moment.room cpu _ below) in
    let alike = λ (other : ℕ) (apart : other ≡ cpu → ⊥). looks-balance cpu made other ∙ looks_elsewhere moment.room cpu _ other apart in
    falls_by_touching moment now cpu same below
    (λ other high. passed_before moment.room now.room cpu (stuck_by (is_fresh now.ledger)) (stuck_by (is_fresh moment.ledger))
    (not_stuck (is_fresh now.ledger) (looks (sibling_of now.room cpu)) gone) alike other
    (λ passes. stuck_else (is_pending moment.room other) (is_ready moment other) (and_parts (is_pending moment.room other) _ passes).0 (none other high)))
    (not_stuck (is_fresh now.ledger) (looks (sibling_of now.room cpu)) gone)
    (stuck_else (is_pending moment.room cpu) (is_ready moment cpu) due (none cpu below))
    (not_adopting (is_fresh now.ledger) (looks (sibling_of now.room cpu)) gone)

-- a sibling is stuck after a selection only where it was pending before
stuck_after_selection : (room : RoomState) (core selector cpu : ℕ) (sibling : SiblingState) →
    stuck_by true (looks (cond sibling.online (sibling_after_selection room core selector cpu sibling) sibling)) ≡ true → (sibling.online && sibling.pending) ≡ true
stuck_after_selection room core selector cpu sibling =
    cond_both sibling.online _ sibling (λ (s : SiblingState). stuck_by true (looks s) ≡ true → (sibling.online && sibling.pending) ≡ true)
    (λ _. by_tests sibling.online sibling.pending (cpu == selector) (is_run sibling.run (pid_of (choice room core cpu))))
    (λ _ stuck. (and_parts (sibling.online && sibling.pending) _ stuck).0) where
      by_tests : (online pending selects runs_it : Bool) →
          stuck_by true (online, not selects && (not runs_it || pending), is_some (cond (selects || runs_it) None (Some (pid_of (choice room core cpu))))) ≡ true →
          (online && pending) ≡ true
      by_tests true pending true runs_it stuck = absurd cc
      by_tests true true false true stuck = refl
      by_tests true false false true stuck = absurd cc
      by_tests true pending false false stuck = absurd cc
      by_tests false pending selects runs_it stuck = absurd cc

selected_falls : (moment : Moment) (cpu : ℕ) → cpu < length moment.room.siblings → is_pending moment.room cpu ≡ true →
    ((other : ℕ) → other < length moment.room.siblings → would_adopt moment other ≡ false) →
    let now = moment_after moment cpu (picked Picked (balance cpu (select moment.room cpu))) in
    length now.room.siblings ≡ length moment.room.siblings → measure now < measure moment
selected_falls moment cpu below due none same =
    let made = select moment.room cpu in
    let core = cookie_of (lead_from moment.room cpu) in
    let now = moment_after moment cpu (picked Picked (balance cpu made)) in
    let is_new = fresh_selected (ledger_entry moment.room (record { actor = End; event = Resched cpu; reply = Picked made.pick })) moment.ledger refl in
    let up = (and_parts (is_online moment.room cpu) _ due).0 in
    let gone : (looks (sibling_of now.room cpu)).1 ≡ false =
    ap (λ (look : Bool × Bool × Bool). look.1) (looks-balance cpu made cpu) ∙ (selected_keeps_law moment.room cpu below up).selector.not_pending in
    falls_by_touching moment now cpu same below
    (λ other high passes.
    stuck_else (is_pending moment.room other) (is_ready moment other)
    (stuck_after_selection moment.room core cpu other (sibling_of moment.room other)
    (sym (λ i. stuck_by (is_new i) ((looks-balance cpu made other ∙ ap looks (sibling_of-select_for moment.room cpu core other high)) i)) ∙ passes))
    (none other high))
    (not_stuck (is_fresh now.ledger) (looks (sibling_of now.room cpu)) gone)
    (stuck_else (is_pending moment.room cpu) (is_ready moment cpu) due (none cpu below))
    (not_adopting (is_fresh now.ledger) (looks (sibling_of now.room cpu)) gone)

-- ---- every schedule that the end makes

rescheduled_falls : (moment : Moment) (cpu : ℕ) → cpu < length moment.room.siblings → is_pending moment.room cpu ≡ true →
    ((other : ℕ) → other < length moment.room.siblings → would_adopt moment other ≡ false) →
    let now = moment_after moment cpu (picked Picked (balance cpu (pick_anew (charge moment.room) cpu))) in
    length now.room.siblings ≡ length moment.room.siblings → measure now < measure moment
rescheduled_falls moment cpu below due none =
    let paid : Moment = record moment { room = charge moment.room } in
    cond_both (is_plain paid.room cpu) (pick_plain paid.room cpu) (select paid.room cpu)
    (λ made. length (balance cpu made).room.siblings ≡ length moment.room.siblings →
    measure (moment_after moment cpu (picked Picked (balance cpu made))) < measure moment)
    (λ _. plain_falls paid cpu below due none) (λ _. selected_falls paid cpu below due none)

-- where no pending sibling is ready, none would adopt
none_would_adopt : (moment : Moment) → filter (is_ready moment) (pending moment.room) ≡ [] → (other : ℕ) → other < length moment.room.siblings → would_adopt moment other ≡ false
none_would_adopt moment none other below =
    false_from_ne_true (would_adopt moment other) (λ adopts.
    let parts = and_parts (is_pending moment.room other) (is_ready moment other) adopts in
    let due = and_parts (is_online moment.room other) (sibling_of moment.room other).pending parts.0 in
    let up = Contains-filter (is_online moment.room) (range_with_len 0 (length moment.room.siblings)) other
    (Contains-range 0 (length moment.room.siblings) other (omega arith) (omega arith)) due.0 in
    let waits = Contains-filter (λ cpu. (sibling_of moment.room cpu).pending) (online moment.room) other up due.1 in
    let held = Contains-filter (is_ready moment) (pending moment.room) other waits parts.1 in
    omega (arith, held.1, ap length none))

-- a pending sibling is one of the core's, and is online and pending
pub pending_parts : (room : RoomState) (cpu : ℕ) → Contains (pending room) cpu → (cpu < length room.siblings) × (is_pending room cpu ≡ true)
pending_parts room cpu held =
    let parts = Contains-filter_parts (λ other. (sibling_of room other).pending) (online room) cpu held in
    let up = online_parts room cpu parts.0 in
    (up.0, and_from (is_online room cpu) (sibling_of room cpu).pending up.1 parts.1)

scheduled_falls : (moment : Moment) (cpu : ℕ) (fresh : Bool) (waiting : Waiting) → is_fresh moment.ledger ≡ fresh → (sibling_of moment.room cpu).waiting ≡ waiting →
    Contains (pending moment.room) cpu → (is_ready moment cpu ≡ true) ⊎ (filter (is_ready moment) (pending moment.room) ≡ []) →
    let now = moment_after moment cpu (picked Picked (balance cpu (adopt_or_pick_anew moment.room fresh cpu waiting))) in
    length now.room.siblings ≡ length moment.room.siblings → measure now < measure moment
scheduled_falls moment cpu fresh None is_new waits held (inl ready) same =
    absurd (both_ways (is_some (sibling_of moment.room cpu).waiting) (ap is_some waits) (and_parts (is_fresh moment.ledger) _ ready).1)
scheduled_falls moment cpu fresh None is_new waits held (inr none) same =
    let parts = pending_parts moment.room cpu held in
    rescheduled_falls moment cpu parts.0 parts.1 (none_would_adopt moment none) same
scheduled_falls moment cpu true (Some run) is_new waits held who same =
    let parts = pending_parts moment.room cpu held in
    adopted_falls moment cpu run parts.0 is_new
    (and_from (is_pending moment.room cpu) (is_ready moment cpu) parts.1 (and_from (is_fresh moment.ledger) _ is_new (ap is_some waits))) same
scheduled_falls moment cpu false (Some run) is_new waits held (inl ready) same =
    absurd (both_ways (is_fresh moment.ledger) is_new (and_parts (is_fresh moment.ledger) _ ready).0)
scheduled_falls moment cpu false (Some run) is_new waits held (inr none) same =
    let parts = pending_parts moment.room cpu held in
    rescheduled_falls moment cpu parts.0 parts.1 (none_would_adopt moment none) same

-- Each entry that the end makes comes nearer to where nobody is pending.
pub measure-next : (moment : Moment) (cpu : ℕ) → next_to_schedule moment ≡ Some cpu → measure (next moment (entry_by_end moment cpu)) < measure moment
measure-next moment cpu found =
    let who = next_is_pending moment cpu found in
    let fresh = is_fresh moment.ledger in
    let made = picked Picked (schedule moment.room fresh cpu) in
    let up = (and_parts (is_online moment.room cpu) _ (pending_parts moment.room cpu who.0).1).0 in
    let is_made : step_at moment (Resched cpu) ≡ made = cond-true (is_online moment.room cpu) made _ up in
    subst (λ (stepped : Stepped). length stepped.room.siblings ≡ length moment.room.siblings → measure (moment_after moment cpu stepped) < measure moment) (sym is_made)
    (scheduled_falls moment cpu fresh (sibling_of moment.room cpu).waiting refl refl who.0 who.1)
    (length-step moment.room fresh (Resched cpu))
