use Rattle.std.proofs.Common.{◌≢◌, ◌≡◌, ◌≤◌, ◌∙◌, ◌+◌, refl, sym, ap, subst, map, length, arith}
use Rattle.std.specs.Prelude.{All}
use Rattle.bounded_list.specs.Bounded.{with_items}
use Rattle.bounded_list.proofs.Items.{with_items_is}
use Rattle.cs_types.specs.declared.task.Task.{Task}
use Rattle.cookie_refs.specs.Refs.{AgreeBut}
use Rattle.cookie_refs.proofs.Agreements.{AgreeBut-with_cookie, held_cookie_is_live, own_cookie_is_live, count_of-le}
use Rattle.task_table.specs.Table.{Table}
use Rattle.task_table.proofs.Tables.{rising_pairs}
use Rattle.core_lanes.specs.Lanes.{BareCore, bare, lane_state}
use Rattle.core_lanes.specs.Numbers.{numbers_by, touched, with_ended}
use Rattle.core_lanes.specs.Changes.{Kept}
use Rattle.core_lanes.proofs.Replaced.{All-replaced}
use Rattle.core_lanes.proofs.Stays.{alike_stays, as_many_bare, found_in, number_of, queue_of}
use Rattle.core_tasks.specs.State.{both, beside_of, IsGiven, state_numbers, IsGone}
use Rattle.core_tasks.specs.Cookies.{flagged_for, RunsAtMostAt}
use Rattle.core_tasks.proofs.Known.{fits_found}
use Rattle.core_tasks.proofs.Runners.{runs_at_home}
use Rattle.core_tasks.proofs.Settings.{flagged_core, sets_one, touches_alone}
use Rattle.cs_laws.proofs.Spots.{replaced_by}
use Rattle.std.proofs.lemmas.List.Elements.{All-weaker}
use Rattle.core_tasks.proofs.state.State.set_cookie.Goals as goal

pub exchange-requires-clause-few : goal.exchange-requires-clause-few
exchange-requires-clause-few g c =
    let sound = c.requires.may.sound in
    omega (arith, sound.agree.table.few, sound.agree.few_tasks, count_of-le c.args.self.now.refs c.args.self.now.tasks.tasks c.args.cookie sound.refs c.args.cookie)

pub exchange-requires-clause-own : goal.exchange-requires-clause-own
exchange-requires-clause-own g c own =
    own_cookie_is_live c.args.self.now.refs c.args.self.now.tasks.tasks c.args.cookie c.args.task.now.spec.pid c.args.task.now c.requires.there c.requires.may.sound.refs own

pub returns-clause-sets : goal.returns-clause-sets
returns-clause-sets g c =
    let old = c.args.self.now in
    let pid = c.args.task.now.spec.pid in
    let tasks = old.tasks.tasks in
    let there = c.requires.there in
    let mid = c.set_cookie.new.self in
    let same : bare mid ≡ bare old.core = c.set_cookie.ensures.replaces.bare in
    let table = c.set_cookie.ensures.replaces.table in
    let raised = c.flag_home.new.lanes in
    let as_many = c.flag_home.auto.lanes ∙ ap length c.deref_mut.ensures.value in
    let after = (with_items mid.lanes raised).items in
    let kept : after ≡ raised = with_items_is mid.lanes raised as_many in
    let flags : map lane_state after ≡ map (flagged_for pid) (map lane_state mid.lanes.items) =
    ap (map lane_state) kept ∙ c.flag_home.ensures.states ∙ ap (λ lanes. map (flagged_for pid) (map lane_state lanes)) c.deref_mut.ensures.value in
    let own : map number_of after ≡ map number_of mid.lanes.items =
    ap (map number_of) kept ∙ c.flag_home.ensures.numbers ∙ ap (map number_of) c.deref_mut.ensures.value in
    let queues : map queue_of after ≡ map queue_of mid.lanes.items =
    ap (map queue_of) kept ∙ c.flag_home.ensures.queues ∙ ap (map queue_of) c.deref_mut.ensures.value in
    let touches = c.touches.result in
    let core : BareCore = record (bare mid) { task_number = mid.task_number + touches; siblings = map lane_state after; own = map number_of after } in
    let is : core ≡ flagged_core touches pid (bare old.core) =
    (λ i. let one : BareCore = record (bare mid) { task_number = mid.task_number + touches; siblings = flags i; own = own i } in one)
    ∙ ap (flagged_core touches pid) same in
    let stays = alike_stays (mid, c.set_cookie.new.table) _ queues refl refl in
    record {
      room = λ intervals.
          sets_one (beside_of intervals old) c.exchange.new.self.limit c.exchange.new.self.next touches (bare old.core) core old.tasks c.set_cookie.new.table c.args.task.now c.args.cookie
          c.requires.may.sound.agree.table.rising there table c.exchange.ensures.limit c.exchange.ensures.next is;
      numbers = (λ i. with_ended old.ended.items (numbers_by (is i) (table i))) ∙ ap (λ n. touched n (state_numbers old)) (touches_alone c.args.task.now c.args.cookie touches c.touches.ensures.touches);
      stays = record {
        sound = λ sound. record {
          agree = stays.agree c.set_cookie.ensures.replaces.agree;
          limit = ap (λ (t : Table). t.limit) table ∙ sound.limit;
          user_top = sound.user_top;
          pids = subst (λ (t : Table). All (λ (task : Task). IsGiven old.next_pid task.spec.pid) t.tasks) (sym table)
              (All-replaced (λ (task : Task). IsGiven old.next_pid task.spec.pid) (record c.args.task.now { cookie = c.args.cookie }) tasks
              (found_in (λ (task : Task). IsGiven old.next_pid task.spec.pid) pid tasks c.args.task.now sound.pids there) sound.pids);
          ended = subst (λ (t : Table). All (IsGone old.next_pid t.tasks old.ended.items) old.ended.items) (sym table)
              (All-weaker (IsGone old.next_pid tasks old.ended.items) (IsGone old.next_pid (map (replaced_by (record c.args.task.now { cookie = c.args.cookie })) tasks) old.ended.items)
              (λ one gone. record {
                given = gone.given;
                absent = All-replaced (λ (task : Task). task.spec.pid ≢ one.0) (record c.args.task.now { cookie = c.args.cookie }) tasks
                    (found_in (λ (task : Task). task.spec.pid ≢ one.0) pid tasks c.args.task.now gone.absent there) gone.absent;
                alone = gone.alone;
              }) old.ended.items sound.ended);
          refs = subst (λ (t : Table). AgreeBut c.exchange.new.self t.tasks c.args.cookie) (sym table)
              (AgreeBut-with_cookie old.refs c.exchange.new.self tasks c.args.cookie pid c.args.cookie c.args.task.now
              (rising_pairs 0 tasks sound.agree.table.rising) there c.exchange.ensures.counts sound.refs);
        };
        siblings = ap (λ (k : Kept). k.siblings) stays.kept ∙ as_many_bare old.core mid same;
        ends = refl;
      };
    }

pub set_cookie-requires-clause-agree : goal.set_cookie-requires-clause-agree
set_cookie-requires-clause-agree g c = c.requires.may.sound.agree

pub exchange-requires-clause-live : goal.exchange-requires-clause-live
exchange-requires-clause-live g c = held_cookie_is_live c.args.self.now.refs c.args.self.now.tasks.tasks c.args.cookie c.requires.may.sound.refs

pub overflow_add-self : goal.overflow_add-self
overflow_add-self g c = omega (arith, ap (λ (b : BareCore). b.task_number) c.set_cookie.ensures.replaces.bare, c.requires.may.touches, c.touches.ensures.few)

pub invariant_of-self : goal.invariant_of-self
invariant_of-self g c = record { few = c.set_cookie.new.self.few }

pub flag_home-requires-clause-home : goal.flag_home-requires-clause-home
flag_home-requires-clause-home g c =
    let old = c.args.self.now in
    omega (
      arith,
      (fits_found (both old) c.args.task.now.spec.pid c.args.task.now c.requires.may.sound.agree c.requires.there).home,
      as_many_bare old.core c.set_cookie.new.self c.set_cookie.ensures.replaces.bare,
      ap length c.deref_mut.ensures.value,
    )

pub flag_home-requires-clause-alone : goal.flag_home-requires-clause-alone
flag_home-requires-clause-alone g c =
    let same = ap (map lane_state) c.deref_mut.ensures.value ∙ ap (λ (core : BareCore). core.siblings) c.set_cookie.ensures.replaces.bare in
    subst (RunsAtMostAt c.args.task.now.home c.args.task.now.spec.pid) (sym same)
    (runs_at_home (both c.args.self.now) c.args.task.now c.requires.may.own c.requires.there)

pub set_cookie-requires-clause-there : goal.set_cookie-requires-clause-there
set_cookie-requires-clause-there g c = c.requires.there

pub invariant_of-self-2 : goal.invariant_of-self-2
invariant_of-self-2 g c =
    let mid = c.set_cookie.new.self in
    let as_many = c.flag_home.auto.lanes ∙ ap length c.deref_mut.ensures.value in
    record { few = subst (λ n. n ≤ 16) (sym (ap length (with_items_is mid.lanes c.flag_home.new.lanes as_many) ∙ as_many)) mid.few }

pub returns-clause-counted : goal.returns-clause-counted
returns-clause-counted g c = c.set_cookie.ensures.counted
