use Rattle.std.proofs.Common.{◌≡◌, ◌∙◌, cond, ap, sym, set, map, refl}
use Rattle.std.proofs.lemmas.List.{map-set}
use Rattle.cs_types.specs.declared.reply.Kind.TheVariants.{Plain}
use Rattle.cs_types.specs.declared.reply.Pick.{Pick}
use Rattle.std.specs.Prelude.{◌==◌}
use Rattle.cs_types.specs.Room.{sibling_of}
use Rattle.cs_types.specs.Order.{fair_class}
use Rattle.cs_types.specs.Selection.{pid_of, first_on, is_fair_task, running}
use Rattle.core_lanes.specs.Lanes.{at, lane_state, room_of}
use Rattle.core_lanes.specs.Numbers.{Numbers, numbers_of, touched}
use Rattle.core_lanes.proofs.Stays.{lane_at, numbers_kept, queues_kept, alike_stays, both_stay, number_of, queue_of}
use Rattle.core_pick.specs.declared.lead.First.{First}
use Rattle.core_pick.specs.Choice.{run_of}
use Rattle.core_pick.proofs.Choices.{run_of-choice_of, is_fair-choice_of}
use Rattle.core_pick.proofs.pick.pick_plain.Goals as goal

pub returns : goal.returns
returns g c now table is_first =
    let old = c.args.core.now in
    let cpu = c.args.cpu in
    let lanes = old.lanes.items in
    let lane = c.index_mut.result.now in
    let after = c.run_first.new.lane in
    let is = c.index_mut.ensures.value in
    let touch = c.touch.ensures table in
    let own = numbers_kept lanes cpu lane after is (ap number_of c.run_first.ensures) in
    record {
      pick = λ beside.
          let run = ap (λ (kept : First). kept.choice.pid) (is_first (at now beside)) in
          λ i. let pick : Pick = record { kind = Plain; run = run i; core = 0; forced = 0 } in pick;
      room = λ beside.
          let room = room_of (at now beside) (old, table) in
          let first = is_first (at now beside) in
          let run = c.run.ensures ∙ ap (λ (kept : First). run_of kept.choice) first ∙ run_of-choice_of (first_on room cpu) in
          let fair = c.is_fair.ensures ∙ ap (λ (kept : First). kept.choice.class == fair_class) first ∙ is_fair-choice_of (first_on room cpu) in
          let was = sym (lane_at lanes cpu lane c.requires.cpu is) in
          let state : lane_state after ≡ record (running (sibling_of room cpu) (pid_of (first_on room cpu))) { snapshot = cond (is_fair_task (first_on room cpu)) (sibling_of room cpu).least (sibling_of room cpu).snapshot } =
          ap lane_state c.run_first.ensures ∙ (λ i. record (running (was i) (run i)) { snapshot = cond (fair i) (was i).least (was i).snapshot }) in
          let siblings = map-set lane_state lanes cpu after ∙ ap (set (map lane_state lanes) cpu) state in
          touch.room (at now beside)
          ∙ (λ i. record room { siblings = siblings i; forced = c.close.ensures.count i; occupation = c.close.ensures.occupation i; started = c.close.ensures.started i });
      numbers = touch.numbers
          ∙ ap (touched 1) (λ i. let numbers : Numbers = record (numbers_of (old, table)) { own = own i; intervals = c.close.ensures.intervals i } in numbers);
      stays = both_stay (alike_stays _ _ (queues_kept lanes cpu lane after is (ap queue_of c.run_first.ensures)) refl refl) touch.stays;
    }
