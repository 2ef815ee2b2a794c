use Rattle.std.proofs.Common.{Some, List, ℕ, refl, ◌≡◌, ◌<◌, ◌≤◌, ◌*◌, ◌++◌, Fits, w8, w64, subst, ◌∙◌, ap, sym, map, take, drop, length, get_or, arith}
use Rattle.std.specs.List.{enumerate_from}
use Rattle.std.specs.Prelude.{◌&&◌}
use Rattle.std.proofs.lemmas.Bool.{cond-true, cond-false}
use Rattle.std.proofs.lemmas.List.{append-nil, map-set, length-map, get_or-map}
use Rattle.std.proofs.Math.Seq.{take-length, drop-length, map-set_same}
use Rattle.cs_types.specs.Room.{RoomState, SiblingState, idle, absent}
use Rattle.cs_types.specs.Selection.{choice, pid_of, is_run, sibling_after_selection, select_for}
use Rattle.cs_laws.proofs.Selections.{numbered_after_selection}
use Rattle.cs_types.specs.declared.task.Task.{Task}
use Rattle.task_table.specs.Table.{Table, IsSound as IsTable}
use Rattle.core_lanes.specs.Lanes.{lane_state}
use Rattle.core_pick.specs.declared.choice.Choice.{Choice}
use Rattle.core_pick.specs.Choice.{IsPlan, choice_of, run_of, kept_in_selection, task_after_choice}
use Rattle.core_pick.proofs.Remembered.{hits, remembering, map-remembering_none, map-remembering_more, map-remembering_same, map-remembering_all}
use Rattle.core_lanes.proofs.Lists.{placed_at, placed_more}
use Rattle.core_pick.proofs.Choices.{at_number, run_of-choice_of}
use Rattle.core_pick.proofs.choice.update.Goals.{then-lane, else-lane}
use Rattle.core_pick.proofs.choice.update.Goals as goal

-- the number of a sibling fits a byte, and its choice the memory
number_fits : (cpu count : ℕ) → cpu < count → count ≤ 16 → Fits w8 cpu
number_fits cpu count below few = omega arith

choice_fits : (cpu count : ℕ) → cpu < count → count ≤ 16 → Fits w64 (cpu * 16)
choice_fits cpu count below few = omega arith

-- what a read past the last choice would give
abbrev no_choice : Choice
no_choice = record { cookie = 0; pid = 0; class = 0 }

pub overflow_cast-cpu : goal.overflow_cast-cpu
overflow_cast-cpu g c = number_fits c.loop-cpu.cpu (length c.args.lanes.now) c.loop-cpu-test.true c.requires.few

pub offset_bounds-choices-cpu : goal.offset_bounds-choices-cpu
offset_bounds-choices-cpu g c = choice_fits c.loop-cpu.cpu (length c.args.lanes.now) c.loop-cpu-test.true c.requires.few

pub bounds-choices-cpu : goal.bounds-choices-cpu
bounds-choices-cpu g c = subst (λ n. c.loop-cpu.cpu < n) (sym c.requires.each) c.loop-cpu-test.true

pub loop-cpu-init : goal.loop-cpu-init
loop-cpu-init g c = record {
  states = λ room core is plan. refl;
  own = refl;
  sound = record { rising = c.requires.table.rising; known = c.requires.table.known; few = c.requires.table.few; limit = c.requires.table.limit };
  so_far = λ room core is plan.
      ap (λ (tasks : List Task). let table : Table = record c.args.tasks.now { tasks = tasks } in table) (map-remembering_none (hits room core) c.args.occupation c.args.tasks.now.tasks);
}

pub loop-cpu-preserved : goal.loop-cpu-preserved
loop-cpu-preserved g c =
    let states = map lane_state c.args.lanes.now in
    let cpu = c.loop-cpu.cpu in
    let lane = c.index-lanes-cpu.result in
    let old = get_or c.loop-cpu.lanes cpu lane in
    let within : cpu < length states = omega (arith, length-map c.args.lanes.now lane_state, c.loop-cpu-test.true) in
    let inside : cpu < length c.loop-cpu.lanes = omega arith in
    let more = λ (room : RoomState) (core : ℕ) (is : room.siblings ≡ states) (plan : IsPlan room core c.args.choices.now c.args.occupation c.args.renews) (now : SiblingState)
    (same : now ≡ numbered_after_selection room core c.args.selector (cpu, lane_state old)).
    placed_more (numbered_after_selection room core c.args.selector) states (map lane_state c.loop-cpu.lanes) cpu now idle within
    (c.loop-cpu.invariant.states room core is plan)
    (same ∙ ap (λ (state : SiblingState). numbered_after_selection room core c.args.selector (cpu, state)) (sym (get_or-map lane_state c.loop-cpu.lanes cpu lane idle inside))) in
    let stood = λ (room : RoomState) (core : ℕ) (is : room.siblings ≡ states) (plan : IsPlan room core c.args.choices.now c.args.occupation c.args.renews).
    ap (λ (siblings : List SiblingState). (get_or siblings cpu absent).online) is
    ∙ ap (λ (sibling : SiblingState). sibling.online)
    (sym (placed_at (numbered_after_selection room core c.args.selector) 0 states cpu absent within)
    ∙ ap (λ (siblings : List SiblingState). get_or siblings cpu absent) (sym (c.loop-cpu.invariant.states room core is plan))
    ∙ get_or-map lane_state c.loop-cpu.lanes cpu lane absent inside) in
    let choices = c.args.choices.now in
    let tasks = c.args.tasks.now.tasks in
    let occupation = c.args.occupation in
    let table = λ (tasks : List Task). let table : Table = record c.args.tasks.now { tasks = tasks } in table in
    let given = λ (room : RoomState) (core : ℕ) (is : room.siblings ≡ states) (plan : IsPlan room core choices occupation c.args.renews).
    ap (λ choices. get_or choices cpu no_choice) plan.each ∙ at_number (λ cpu. choice_of (choice room core cpu)) (length room.siblings) cpu no_choice (omega (arith, within, ap length is)) in
    elim c.if-lane.branch [
      | then-lane w ↦ record {
        states = λ room core is plan.
            ap (map lane_state) w.lanes-is ∙ map-set lane_state c.loop-cpu.lanes cpu w.hand.new.lane
            ∙ more room core is plan (lane_state w.hand.new.lane)
            (w.hand.ensures.state room core c.args.selector cpu
            (given room core is plan) (record { itself = refl; occupied = plan.occupied; renewed = plan.renewed })
            ∙ sym (cond-true old.online (sibling_after_selection room core c.args.selector cpu (lane_state old)) (lane_state old) w.if-lane.true));
        own = ap (map kept_in_selection) w.lanes-is
            ∙ map-set_same kept_in_selection c.loop-cpu.lanes cpu w.hand.new.lane lane w.hand.ensures.own ∙ c.loop-cpu.invariant.own;
        sound = subst IsTable (sym w.tasks-is) w.update_task.ensures.sound;
        so_far = λ room core is plan.
            w.tasks-is ∙ w.update_task.ensures.tasks
            ∙ ap (λ (all : Table). let now : Table = record all { tasks = map (task_after_choice (get_or choices cpu no_choice) occupation) all.tasks } in now) (c.loop-cpu.invariant.so_far room core is plan)
            ∙ ap table (map-remembering_more (hits room core) occupation cpu (get_or choices cpu no_choice)
            (λ pid. ap (λ run. is_run run (Some pid)) (ap run_of (given room core is plan) ∙ run_of-choice_of (choice room core cpu))
            ∙ sym (ap (λ b. b && is_run (pid_of (choice room core cpu)) (Some pid)) (stood room core is plan ∙ w.if-lane.true))) tasks);
      }
      | else-lane w ↦ record {
        states = λ room core is plan.
            ap (map lane_state) w.lanes-is ∙ map-set lane_state c.loop-cpu.lanes cpu old
            ∙ more room core is plan (lane_state old)
            (sym (cond-false old.online (sibling_after_selection room core c.args.selector cpu (lane_state old)) (lane_state old) w.if-lane.false));
        own = ap (map kept_in_selection) w.lanes-is ∙ map-set_same kept_in_selection c.loop-cpu.lanes cpu old lane refl ∙ c.loop-cpu.invariant.own;
        sound = subst IsTable (sym w.tasks-is) c.loop-cpu.invariant.sound;
        so_far = λ room core is plan.
            w.tasks-is ∙ c.loop-cpu.invariant.so_far room core is plan
            ∙ ap table (map-remembering_same (hits room core) occupation cpu
            (λ pid. ap (λ b. b && is_run (pid_of (choice room core cpu)) (Some pid)) (stood room core is plan ∙ w.if-lane.false)) tasks);
      }
    ]

pub returns-clause-hands : goal.returns-clause-hands
unfolding select_for
returns-clause-hands g c room core is plan =
    let states = map lane_state c.args.lanes.now in
    let all : c.loop-cpu.cpu ≡ length states = omega (arith, length-map c.args.lanes.now lane_state, c.loop-cpu-test.false, c.loop-cpu.auto.cpu-end) in
    let after = numbered_after_selection room core c.args.selector in
    let tasks = c.args.tasks.now.tasks in
    record {
      states = c.loop-cpu.invariant.states room core is plan
          ∙ ap (λ n. map after (enumerate_from 0 (take n states)) ++ drop n states) all
          ∙ (λ i. map after (enumerate_from 0 (take-length states i)) ++ drop-length states i)
          ∙ append-nil (map after (enumerate_from 0 states)) ∙ ap (λ siblings. map after (enumerate_from 0 siblings)) (sym is);
      tasks = c.loop-cpu.invariant.so_far room core is plan
          ∙ ap (λ (tasks : List Task). let table : Table = record c.args.tasks.now { tasks = tasks } in table)
          (ap (λ n. map (remembering (hits room core) c.args.occupation n) tasks) (all ∙ ap length (sym is)) ∙ map-remembering_all room core c.args.occupation tasks plan.occupied);
    }
