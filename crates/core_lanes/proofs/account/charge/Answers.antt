use Rattle.std.proofs.Common.{◌≡◌, ℕ, ◌+◌, ◌∙◌, [], ◌∷◌, ◌++◌, cond, ap, sym, subst, arith, refl, length, Option, Some, None}
use Rattle.std.specs.Prelude.{unwrap_or, List, ◌==◌, IsNone, IfNone}
use Rattle.std.specs.List.{list_any}
use Rattle.std.specs.Option.{option_map, option_to_list}
use Rattle.std.proofs.lemmas.List.{length-append}
use Rattle.cs_types.specs.Room.{RoomState, Interval}
use Rattle.cs_types.specs.Accounting.{share, total_of, charged, open_interval, charge}
use Rattle.cs_laws.proofs.Accounts.{owed, total_of-more, open_share-le, charge-again}
use Rattle.task_table.specs.Table.{Table, total_among, total_in}
use Rattle.core_lanes.specs.Lanes.{Beside, at, room_of, bare}
use Rattle.core_lanes.specs.Numbers.{Numbers, numbers_in, numbers_by, booked, with_ended}
use Rattle.core_lanes.proofs.Stays.{some_beside, kept_stays, alike_stays}
use Rattle.core_lanes.specs.Account.{Owes}
use Rattle.core_lanes.proofs.Accounts.{charged_in, charged_alive}
use Rattle.core_lanes.proofs.account.charge.Given.{Over}
use Rattle.core_lanes.proofs.account.charge.Goals as goal

pub charge_tasks-requires-clause-low : goal.charge_tasks-requires-clause-low
charge_tasks-requires-clause-low g c pid =
    let room = room_of (at c.args.now some_beside) (c.args.core.now, c.args.table.now) in
    let is : Some c.in-Some.share ≡ option_map share (open_interval room) = c.in-Some.ensures.share room (record { count = refl; occupation = refl; started = refl }) refl in
    let low = open_share-le 255 c.in-Some.share room (omega arith) c.in-Some.ensures.few is in
    omega (arith, low, c.requires.paid.totals pid, c.requires.paid.started, c.requires.paid.clock)

pub charge_tasks-requires-clause-sound : goal.charge_tasks-requires-clause-sound
charge_tasks-requires-clause-sound g c = c.requires.agree.table

-- the share of the open interval, which is charged to each task that it charges
owed_is : (room : RoomState) (n pid : ℕ) (one : Option Interval) → open_interval room ≡ one → Some n ≡ option_map share one →
    cond (list_any (λ other. other == pid) (charged room)) n 0 ≡ owed pid one
owed_is room n pid None opened some = absurd cc
owed_is room n pid (Some interval) opened some =
    let same : n ≡ share interval = ap (λ one. unwrap_or one n) some in
    let who : charged room ≡ interval.charged = sym (charged_in room interval opened) in
    λ i. cond (list_any (λ other. other == pid) (who i)) (same i) 0

-- one interval more is recorded
length_is : (intervals : List Interval) (n : ℕ) (one : Option Interval) → Some n ≡ option_map share one → length intervals + 1 ≡ length (intervals ++ option_to_list one)
length_is intervals n None some = absurd cc
length_is intervals n (Some interval) some = omega (arith, length-append intervals (interval ∷ []))

-- what is owed does not depend on the account
owes : (g : Over) (c : goal.After-charge_tasks g) (beside : Beside) →
    Owes (charged (room_of (at c.args.now beside) (c.args.core.now, c.args.table.now))) c.in-Some.share c.args.table.now c.charge_tasks.new.table
unfolding charged
owes g c beside = c.charge_tasks.ensures (at c.args.now beside)

pub returns-in-Some : goal.returns-in-Some
returns-in-Some g c = record {
  charges = record {
    room = λ beside. rw (c.charge.ensures.count, c.charge.ensures.occupation, c.charge.ensures.started, (c.charge_tasks.ensures some_beside).rest) refl;
    numbers = λ beside kept.
        let room = room_of (at c.args.now beside) (c.args.core.now, c.args.table.now) in
        let is : Some c.in-Some.share ≡ option_map share (open_interval room) = c.in-Some.ensures.share room (record { count = refl; occupation = refl; started = refl }) refl in
        let count : c.charge.new.self.intervals ≡ length (charge room).intervals =
        c.in-Some.ensures.intervals ∙ ap (λ (numbers : Numbers). numbers.intervals + 1) kept ∙ length_is beside.intervals c.in-Some.share (open_interval room) is in
        let total : (pid : ℕ) → total_in c.charge_tasks.new.table pid + total_among beside.ended pid ≡ total_of pid (charge room).intervals =
        λ pid. omega (
          arith,
          (owes g c beside).totals pid ∙ ap (λ b. total_in c.args.table.now pid + cond b c.in-Some.share 0) (charged_alive room pid),
          owed_is room c.in-Some.share pid (open_interval room) refl is,
          ap (λ (numbers : Numbers). numbers.totals pid) kept,
          total_of-more pid beside.intervals (open_interval room),
        ) in
        λ i. record (numbers_in beside (c.args.core.now, c.args.table.now)) {
          intervals = count i;
          totals = λ pid. total pid i;
        };
    stays =
        kept_stays _ _ refl (ap (λ (t : Table). t.tasks) (c.charge_tasks.ensures some_beside).rest) (ap (λ (t : Table). t.limit) (c.charge_tasks.ensures some_beside).rest) (λ sound. (c.charge_tasks.ensures some_beside).sound) refl;
  };
  core = refl;
  queues = refl;
  table = (c.charge_tasks.ensures some_beside).rest;
}

pub returns-in_default : goal.returns-in_default
returns-in_default g c = record {
  charges = record {
    room = λ beside. rw (c.charge.ensures.count, c.charge.ensures.occupation, c.charge.ensures.started) refl;
    numbers = λ beside kept.
        let room = room_of (at c.args.now beside) (c.args.core.now, c.args.table.now) in
        let same : c.charge.new.self ≡ c.args.core.now.account = subst (λ r. IfNone r (c.charge.new.self ≡ c.args.core.now.account)) c.in_default.is c.charge.ensures.unchanged in
        let now : unwrap_or c.args.core.now.account.started c.args.now ≡ c.args.now = c.charge.ensures.none.0 (subst IsNone (sym c.in_default.is) refl) in
        (λ i. with_ended beside.ended (numbers_by (record (bare c.args.core.now) { account = same i }) c.args.table.now)) ∙ kept
        ∙ ap (λ (r : RoomState). booked r (numbers_in beside (c.args.core.now, c.args.table.now))) (sym (charge-again room now));
    stays = alike_stays _ _ refl refl refl;
  };
  core = refl;
  queues = refl;
  table = refl;
}
