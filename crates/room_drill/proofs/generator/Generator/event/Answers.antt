use Rattle.std.proofs.Common.{◌∙◌, ap, sym, ℕ, ◌+◌, false, arith}
use Rattle.cs_types.specs.declared.event.Event.{Event}
use Rattle.cs_types.specs.declared.event.Event.TheVariants.{Turn, Resched, Block, Exit, Tick, Wake, Advance, Fork, SetSched, Offline, Online}
use Rattle.room_drill.specs.Draws.{Draws, draw, by_row}
use Rattle.room_drill.specs.Drill.{event_table, drawn_event, drawn_cpu, drawn_pid, drawn_policy}
use Rattle.room_drill.proofs.Drawn.{then_drawn, then_drawn_at, made_drawn, two_drawn, turn_row, wake_row}
use Rattle.room_drill.proofs.generator.Generator.event.Goals as goal

pub returns-in-6 : goal.returns-in-6
unfolding drawn_event
returns-in-6 c =
    then_drawn_at (by_row event_table) 20 _ _ _ 6 _ _ c.below.ensures.drawn c.in-6.is (made_drawn Resched drawn_cpu _ _ _ c.cpu.ensures)

pub returns-in-7 : goal.returns-in-7
unfolding drawn_event
returns-in-7 c =
    then_drawn_at (by_row event_table) 20 _ _ _ 7 _ _ c.below.ensures.drawn c.in-7.is (made_drawn Tick drawn_cpu _ _ _ c.cpu-in-7.ensures)

pub returns-in-8 : goal.returns-in-8
unfolding drawn_event
returns-in-8 c =
    then_drawn_at (by_row event_table) 20 _ _ _ 8 _ _ c.below.ensures.drawn c.in-8.is (made_drawn Block drawn_cpu _ _ _ c.cpu-in-8.ensures)

pub returns-in-12 : goal.returns-in-12
unfolding drawn_event
returns-in-12 c =
    then_drawn_at (by_row event_table) 20 _ _ _ 12 _ _ c.below.ensures.drawn c.in-12.is
    (ap (λ (n : ℕ). let drawn : Event × ℕ = (Advance n, c.below-in-12.new.self) in drawn) c.from.ensures
    ∙ made_drawn (λ n. Advance (1 + n)) (draw 5000000) _ _ _ c.below-in-12.ensures.drawn)

pub returns-in-13 : goal.returns-in-13
unfolding drawn_event
returns-in-13 c = then_drawn_at (by_row event_table) 20 _ _ _ 13 _ _ c.below.ensures.drawn c.in-13.is c.prctl.ensures

pub returns-in-14 : goal.returns-in-14
unfolding drawn_event
returns-in-14 c = then_drawn_at (by_row event_table) 20 _ _ _ 14 _ _ c.below.ensures.drawn c.in-14.is c.prctl-in-14.ensures

pub returns-in-15 : goal.returns-in-15
unfolding drawn_event
returns-in-15 c =
    then_drawn_at (by_row event_table) 20 _ _ _ 15 _ _ c.below.ensures.drawn c.in-15.is
    (two_drawn SetSched drawn_pid drawn_policy _ _ _ _ _ c.pid.ensures.drawn c.policy.ensures)

pub returns-in-16 : goal.returns-in-16
unfolding drawn_event
returns-in-16 c =
    then_drawn_at (by_row event_table) 20 _ _ _ 16 _ _ c.below.ensures.drawn c.in-16.is
    (made_drawn (λ pid. Fork pid false) drawn_pid _ _ _ c.pid-in-16.ensures.drawn)

pub returns-in-17 : goal.returns-in-17
unfolding drawn_event
returns-in-17 c =
    then_drawn_at (by_row event_table) 20 _ _ _ 17 _ _ c.below.ensures.drawn c.in-17.is (made_drawn Exit drawn_cpu _ _ _ c.cpu-in-17.ensures)

pub returns-in-18 : goal.returns-in-18
unfolding drawn_event
returns-in-18 c =
    then_drawn_at (by_row event_table) 20 _ _ _ 18 _ _ c.below.ensures.drawn c.in-18.is (made_drawn Offline drawn_cpu _ _ _ c.cpu-in-18.ensures)

pub returns-in-0-to-5 : goal.returns-in-0-to-5
unfolding drawn_event
returns-in-0-to-5 c = then_drawn (by_row event_table) 20 _ _ _ _ _ c.below.ensures.drawn (made_drawn Turn drawn_cpu _ _ _ c.cpu-in-0-to-5.ensures
    ∙ ap (λ (draws : Draws Event). draws c.below.new.self) (sym (turn_row c.below.result (omega arith))))

pub returns-in-9-to-11 : goal.returns-in-9-to-11
unfolding drawn_event
returns-in-9-to-11 c = then_drawn (by_row event_table) 20 _ _ _ _ _ c.below.ensures.drawn (made_drawn Wake drawn_pid _ _ _ c.pid-in-9-to-11.ensures.drawn
    ∙ ap (λ (draws : Draws Event). draws c.below.new.self) (sym (wake_row c.below.result (omega arith) (omega arith))))

pub returns-in_default : goal.returns-in_default
unfolding drawn_event
returns-in_default c = then_drawn_at (by_row event_table) 20 _ _ _ 19 _ _ c.below.ensures.drawn (omega arith) (made_drawn Online drawn_cpu _ _ _ c.cpu-in_default.ensures)
