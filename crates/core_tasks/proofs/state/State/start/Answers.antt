use Rattle.std.proofs.Common.{◌≡◌, ℕ, arith, ◌+◌, ◌∙◌, [], sym, ap, length}
use Rattle.std.proofs.lemmas.List.{length-map, length-replicate}
use Rattle.cs_types.specs.Room.{first_pid, asleep_tasks, idle}
use Rattle.cs_types.specs.Accounting.{total_of}
use Rattle.cs_laws.proofs.Accounts.{total_of-none}
use Rattle.cookie_refs.proofs.Agreements.{Agree-none}
use Rattle.task_table.specs.Table.{Table, total_among, total_in}
use Rattle.core_lanes.specs.Lanes.{BareCore, lane_state, room_by}
use Rattle.core_lanes.specs.Numbers.{numbers_by}
use Rattle.core_tasks.proofs.Starts.{own_number-start, given-asleep, cookieless-asleep}
use Rattle.core_tasks.proofs.state.State.start.Goals as goal

pub first_pid-requires : goal.first_pid-requires
first_pid-requires g c = rw c.items.ensures (λ k d lt. (c.requires.playable.tasks k d lt).pid.1)

pub returns : goal.returns
returns g c = record {
  room =
      let pid = c.first_pid.ensures ∙ ap first_pid c.items.ensures in
      λ i. room_by (record {
        cookie_limit = c.in_ok-refs.ensures.limit i;
        user_top = c.args.scenario.now.user_top;
        clock = 0;
        ended = c.in_ok-ended.ensures.items i;
        next_pid = pid i;
        next_cookie = c.in_ok-refs.ensures.next i;
        intervals = [];
        guards = c.requires.on_bench i;
      }) (c.in_ok-core.ensures.core i) (c.in_ok-core.ensures.tasks i);
  sound =
      let specs = c.args.scenario.now.tasks in
      let playable = c.requires.playable in
      let table = c.in_ok-core.ensures.tasks in
      let tasks = ap (λ (t : Table). t.tasks) table in
      let pid = c.first_pid.ensures ∙ ap first_pid c.items.ensures in
      let given = given-asleep c.args.scenario.now.siblings specs playable.tasks in
      record {
        agree = c.in_ok-core.ensures.agree;
        limit = ap (λ (t : Table). t.limit) table;
        user_top = playable.user_top;
        pids = rw (tasks, pid) given;
        ended = rw c.in_ok-ended.ensures.items (λ k d lt. absurd (omega arith));
        refs = rw tasks (Agree-none c.in_ok-refs.refs (asleep_tasks specs) c.in_ok-refs.ensures.counts (cookieless-asleep specs));
      };
  siblings =
      sym (length-map c.in_ok-core.core.lanes.items lane_state) ∙ ap (λ (core : BareCore). length core.siblings) c.in_ok-core.ensures.core
      ∙ length-replicate c.args.scenario.now.siblings idle;
  numbers =
      let totals : (pid : ℕ) → total_in c.in_ok-core.tasks pid + total_among c.in_ok-ended.ended.items pid ≡ total_of pid [] =
      λ pid. omega (arith, c.in_ok-core.ensures.totals pid, ap (λ ended. total_among ended pid) c.in_ok-ended.ensures.items, total_of-none pid) in
      (λ i. record (numbers_by (c.in_ok-core.ensures.core i) c.in_ok-core.tasks) { totals = λ pid. totals pid i })
      ∙ (λ i. record {
        task = 0;
        pick = 0;
        own = own_number-start 0 c.args.scenario.now.siblings i;
        intervals = 0;
        totals = λ pid. total_of pid [];
      });
  ends = c.in_ok-ended.ensures.room;
}
