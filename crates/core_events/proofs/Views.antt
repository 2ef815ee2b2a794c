-- Views: what the machine shows of its state is what the fold of its entries shows.
use Rattle.std.proofs.Common.{◌+◌, zero, suc, [], ◌∷◌, map, ◌≡◌, ℕ, ◌<◌, true, false, List, refl, length, get_or, ltb, sym, ap, ◌∙◌, subst, arith, Option, Some, None, Bor, is_some}
use Rattle.std.specs.Prelude.{All, find, IfSome, IsSomeAnd, unwrap_or, option_copied, slice_get}
use Rattle.std.specs.Option.{option_map}
use Rattle.std.proofs.lemmas.List.Elements.{All-head, All-tail, All-weaker}
use Rattle.cs_types.specs.declared.view.EndView.{EndView}
use Rattle.task_table.specs.Table.{total_among, total_in}
use Rattle.core_tasks.proofs.Lives.{unused, total-living}
use Rattle.std.proofs.lemmas.List.{length-map, get_or-map}
use Rattle.std.proofs.lemmas.List.FromFn.{get_or-map-range_with_len}
use Rattle.std.proofs.lemmas.Option.{slice_get_past, slice_get_read}
use Rattle.std.proofs.lemmas.Bool.{cond-true, cond-false, ltb-true, ltb-false}
use Rattle.cs_types.specs.declared.view.CpuView.{CpuView}
use Rattle.cs_types.specs.Scenario.{IsPlayable}
use Rattle.cs_types.specs.Room.{Opening, RoomState, SiblingState, Waiting, has_pid, task_of, sibling_of}
use Rattle.cs_types.specs.Touches.{own_number, pick_number}
use Rattle.cs_types.specs.View.{cpu_view, end_view, task_after, task_view, forced_of}
use Rattle.cs_types.specs.History.{History, AreEvents, IsLegal, moment_of, fold_of, ledger_of}
use Rattle.cs_laws.proofs.Spots.{spot_of, spot_at}
use Rattle.cs_laws.proofs.Fits.{IsAt}
use Rattle.cs_laws.proofs.Trust.{holds-moment_of}
use Rattle.core_lanes.specs.declared.queue.SiblingQueue.{Ghosts}
use Rattle.core_lanes.specs.declared.lane.Lane.{Lane}
use Rattle.core_lanes.specs.Lanes.{lane_state, lane_view, RunTheirOwn}
use Rattle.core_lanes.specs.Numbers.{Numbers}
use Rattle.core_pick.specs.Schedules.{own_of}
use Rattle.core_lanes.proofs.Stays.{lane_at}
use Rattle.core_tasks.specs.State.{both, room_with, state_numbers, IsSound, IsGone}
use Rattle.core_tasks.specs.declared.state.State.{State}
use Rattle.cs_types.specs.declared.task.Task.{Task}
use Rattle.core_events.proofs.Machines.{Folds}

-- an item that is looked up is the one at its place
pub looked_up : {X : Type 0} (xs : List X) (place : ℕ) (found : Option (Bor X)) →
    is_some found ≡ ltb place (length xs) → IfSome found (λ x. x.now ≡ get_or xs place x.now) → option_copied found ≡ slice_get xs place
looked_up xs place None past is = sym (slice_get_past xs place (ltb-false place (length xs) (sym past)))
looked_up xs place (Some x) within is = sym (slice_get_read xs (length xs) place x.now refl (ltb-true place (length xs) (sym within)) is)

-- ---- a task

-- a task that is found in the state is shown as the fold shows it
pub task_shown : {Q G : Type 0} {g : Ghosts Q} (opening : Opening) (state : State Q G g) (entries : History) (pid : ℕ) (task : Option Task) → Folds opening state entries →
    task ≡ task_after (room_with (fold_of opening entries).intervals state) pid →
    option_map (task_view (fold_of opening entries)) task ≡ option_map (task_view (fold_of opening entries)) (task_after (fold_of opening entries) pid)
task_shown opening state entries pid task folds found =
    ap (option_map (task_view (fold_of opening entries))) (found ∙ ap (λ (room : RoomState). task_after room pid) folds.fold)

-- what a task was charged is kept as the history has it, in the table or among those that ended
pub total_kept : {Q G : Type 0} {g : Ghosts Q} (opening : Opening) (state : State Q G g) (entries : History) (pid : ℕ) → Folds opening state entries →
    total_in state.tasks pid + total_among state.ended.items pid ≡ forced_of (fold_of opening entries) pid
total_kept opening state entries pid folds = ap (λ (numbers : Numbers). numbers.totals pid) folds.numbers

-- a living task's in the table
pub living_total : {Q G : Type 0} {g : Ghosts Q} (opening : Opening) (state : State Q G g) (entries : History) (pid : ℕ) (task : Task) → Folds opening state entries → IsSound state →
    find (has_pid pid) state.tasks.tasks ≡ Some task → total_in state.tasks pid ≡ forced_of (fold_of opening entries) pid
living_total opening state entries pid task folds sound there =
    omega (arith, total_kept opening state entries pid folds, total-living state.next_pid pid state.tasks.tasks task state.ended.items state.ended.items there sound.ended)

-- and that of each that ended among those
ended_total : {Q G : Type 0} {g : Ghosts Q} (opening : Opening) (state : State Q G g) (entries : History) (one : ℕ × ℕ) → Folds opening state entries → IsSound state →
    IsGone state.next_pid state.tasks.tasks state.ended.items one → one.1 ≡ forced_of (fold_of opening entries) one.0
ended_total opening state entries one folds sound gone =
    omega (arith, total_kept opening state entries one.0 folds, sound.agree.table.known one.0 (unused one.0 state.tasks.tasks gone.absent), gone.alone)

-- ---- the tasks that ended

-- what the machine shows of one
abbrev pub shown_end : ℕ × ℕ → EndView
shown_end one = record { pid = one.0; forced = one.1 }

shown_at : (room : RoomState) (ended : List (ℕ × ℕ)) (place : ℕ) → All (λ one. shown_end one ≡ end_view room one.0) ended →
    option_map shown_end (slice_get ended place) ≡ option_map (end_view room) (slice_get (map (λ one. one.0) ended) place)
shown_at room [] place same = refl
shown_at room (one ∷ ended) zero same = ap Some (All-head (λ one. shown_end one ≡ end_view room one.0) one ended same)
shown_at room (one ∷ ended) (suc place) same = shown_at room ended place (All-tail (λ one. shown_end one ≡ end_view room one.0) one ended same)

-- one that is at a place of the state is shown as the fold shows it
pub ended_shown : {Q G : Type 0} {g : Ghosts Q} (opening : Opening) (state : State Q G g) (entries : History) (place : ℕ) → Folds opening state entries → IsSound state →
    option_map shown_end (slice_get state.ended.items place) ≡ option_map (end_view (fold_of opening entries)) (slice_get (fold_of opening entries).ended place)
ended_shown opening state entries place folds sound =
    let room = fold_of opening entries in
    shown_at room state.ended.items place
    (All-weaker (IsGone state.next_pid state.tasks.tasks state.ended.items) (λ one. shown_end one ≡ end_view room one.0)
    (λ one gone i. record { pid = one.0; forced = ended_total opening state entries one folds sound gone i }) state.ended.items sound.ended)
    ∙ ap (λ (r : RoomState). option_map (end_view room) (slice_get r.ended place)) folds.fold

-- ---- a sibling

length_siblings : {Q G : Type 0} {g : Ghosts Q} (opening : Opening) (state : State Q G g) (entries : History) → Folds opening state entries →
    length (fold_of opening entries).siblings ≡ length state.core.lanes.items
length_siblings opening state entries folds =
    ap (λ (room : RoomState). length room.siblings) (sym folds.fold) ∙ length-map state.core.lanes.items lane_state

none_shown : {Q G : Type 0} {g : Ghosts Q} (opening : Opening) (state : State Q G g) (entries : History) (cpu : ℕ) → Folds opening state entries →
    ltb cpu (length state.core.lanes.items) ≡ false → None ≡ cpu_view (moment_of opening entries) cpu
none_shown opening state entries cpu folds past =
    sym (cond-false (ltb cpu (length (fold_of opening entries).siblings)) _ None (ap (ltb cpu) (length_siblings opening state entries folds) ∙ past))

-- the own number of a sibling is that of the ledger
number_at : {Q G : Type 0} {g : Ghosts Q} (opening : Opening) (state : State Q G g) (entries : History) (cpu : ℕ) (x : Lane Q) → Folds opening state entries →
    length state.core.lanes.items ≡ opening.scenario.siblings → cpu < length state.core.lanes.items → x ≡ get_or state.core.lanes.items cpu x →
    x.number ≡ own_number cpu (ledger_of opening entries)
number_at {Q} opening state entries cpu x folds as_many below is =
    ap (λ (s : Lane Q). s.number) is
    ∙ sym (get_or-map (λ (s : Lane Q). s.number) state.core.lanes.items cpu x 0 below)
    ∙ ap (λ (numbers : Numbers). get_or numbers.own cpu 0) folds.numbers
    ∙ get_or-map-range_with_len (λ other. own_number other (ledger_of opening entries)) 0 opening.scenario.siblings cpu cpu 0 (omega (arith, as_many)) (omega arith)

-- while something waits for a sibling, its own number is below the pick number
pub behind_of : {Q G : Type 0} {g : Ghosts Q} (opening : Opening) (state : State Q G g) (entries : History) → Folds opening state entries →
    length state.core.lanes.items ≡ opening.scenario.siblings → IsPlayable opening.scenario → AreEvents opening entries → IsLegal opening entries →
    (cpu : ℕ) → cpu < length state.core.lanes.items →
    IfSome (sibling_of (room_with [] state) cpu).waiting (λ run. own_of cpu (state_numbers state) < (state_numbers state).pick)
behind_of opening state entries folds as_many playable events legal cpu below =
    let moment = moment_of opening entries in
    let own : own_of cpu (state_numbers state) ≡ own_number cpu moment.ledger =
    ap (λ (numbers : Numbers). get_or numbers.own cpu 0) folds.numbers
    ∙ get_or-map-range_with_len (λ other. own_number other moment.ledger) 0 opening.scenario.siblings cpu cpu 0 (omega (arith, as_many, below)) (omega arith) in
    let pick : (state_numbers state).pick ≡ pick_number moment.ledger = ap (λ (numbers : Numbers). numbers.pick) folds.numbers in
    below_by (sibling_of (room_with [] state) cpu).waiting _ _ _ _ own pick
    (subst (λ (room : RoomState). IfSome (sibling_of room cpu).waiting (λ run. own_number cpu moment.ledger < pick_number moment.ledger)) (sym folds.fold)
    ((holds-moment_of opening entries playable events legal).behind cpu)) where
      below_by : (waiting : Waiting) (own other pick last : ℕ) → own ≡ other → pick ≡ last → IfSome waiting (λ run. other < last) → IfSome waiting (λ run. own < pick)
      below_by None own other pick last same too low = tt
      below_by (Some run) own other pick last same too low = omega (arith, same, too, low)

-- each sibling runs idle or a living task that is at home there
pub own_run : {Q G : Type 0} {g : Ghosts Q} (opening : Opening) (state : State Q G g) (entries : History) → Folds opening state entries →
    IsPlayable opening.scenario → AreEvents opening entries → IsLegal opening entries → RunTheirOwn (both state)
own_run opening state entries folds playable events legal beside cpu =
    subst (λ (room : RoomState). IfSome (sibling_of room cpu).run (λ pid. IsSomeAnd (task_of room pid) (λ task. task.home ≡ cpu))) (sym folds.fold)
    (by_run (sibling_of room cpu).run ((holds-moment_of opening entries playable events legal).fits cpu).runs) where
      room : RoomState
      room = fold_of opening entries

      by_task : (found : Option Task) → IsAt cpu (option_map spot_of found) → IsSomeAnd found (λ task. task.home ≡ cpu)
      by_task None here = absurd here
      by_task (Some task) here = here.1

      by_run : (run : Option ℕ) → IfSome run (λ pid. IsAt cpu (spot_at room pid)) → IfSome run (λ pid. IsSomeAnd (task_of room pid) (λ task. task.home ≡ cpu))
      by_run None here = tt
      by_run (Some pid) here = by_task (task_of room pid) here

some_shown : {Q G : Type 0} {g : Ghosts Q} (opening : Opening) (state : State Q G g) (entries : History) (cpu : ℕ) (x : Lane Q) → Folds opening state entries →
    length state.core.lanes.items ≡ opening.scenario.siblings → ltb cpu (length state.core.lanes.items) ≡ true → x ≡ get_or state.core.lanes.items cpu x →
    Some (lane_view x) ≡ cpu_view (moment_of opening entries) cpu
some_shown {Q} opening state entries cpu x folds as_many within is =
    let below : cpu < length state.core.lanes.items = ltb-true _ _ within in
    let here : lane_state x ≡ sibling_of (fold_of opening entries) cpu =
    sym (ap (λ (room : RoomState). sibling_of room cpu) (sym folds.fold) ∙ lane_at state.core.lanes.items cpu x below is) in
    let number = number_at opening state entries cpu x folds as_many below is in
    let view = λ (s : SiblingState) (n : ℕ). let shown : CpuView = record { online = s.online; run = unwrap_or s.run 0; number = n; pending = s.pending } in shown in
    (λ i. Some (view (here i) (number i)))
    ∙ sym (cond-true (ltb cpu (length (fold_of opening entries).siblings)) _ None (ap (ltb cpu) (length_siblings opening state entries folds) ∙ within))

-- a sibling that is looked up in the state is shown as the fold shows it
pub sibling_shown : {Q G : Type 0} {g : Ghosts Q} (opening : Opening) (state : State Q G g) (entries : History) (cpu : ℕ) (found : Option (Bor (Lane Q))) →
    Folds opening state entries → length state.core.lanes.items ≡ opening.scenario.siblings →
    is_some found ≡ ltb cpu (length state.core.lanes.items) → IfSome found (λ x. x.now ≡ get_or state.core.lanes.items cpu x.now) →
    option_map (λ (x : Bor (Lane Q)). lane_view x.now) found ≡ cpu_view (moment_of opening entries) cpu
sibling_shown opening state entries cpu None folds as_many within is = none_shown opening state entries cpu folds (sym within)
sibling_shown opening state entries cpu (Some x) folds as_many within is = some_shown opening state entries cpu x.now folds as_many (sym within) is
