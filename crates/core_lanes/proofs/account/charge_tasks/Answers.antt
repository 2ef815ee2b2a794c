use Rattle.std.proofs.Common.{◌≡◌, ◌<◌, ◌≤◌, ◌+◌, ◌∙◌, ℕ, suc, Bool, false, cond, List, [], ◌∷◌, ◌++◌, take, length, get_or, refl, ap, sym, arith, Option, Some, None}
use Rattle.std.specs.Prelude.{◌==◌, ◌&&◌, ◌||◌, find, is_some}
use Rattle.std.specs.List.{list_any, filter_map, cons_option}
use Rattle.std.specs.Option.{option_to_list}
use Rattle.std.proofs.Math.Seq.{take-suc}
use Rattle.std.proofs.lemmas.List.{append-nil, take_all}
use Rattle.std.proofs.lemmas.List.Elements.{filter_map-append}
use Rattle.std.proofs.lemmas.List.Folds.{list_any-append}
use Rattle.cs_types.specs.Room.{has_pid}
use Rattle.cs_types.specs.Accounting.{charged}
use Rattle.task_table.specs.Table.{total_in}
use Rattle.core_lanes.specs.declared.lane.Lane.{Lane}
use Rattle.core_lanes.specs.Lanes.{lane_state, room_of}
use Rattle.core_lanes.specs.Account.{charged_for}
use Rattle.core_lanes.proofs.Accounts.{charged_among, charged_alive, filter_map-map}
use Rattle.core_lanes.proofs.account.charge_tasks.Given.{Over}
use Rattle.core_lanes.proofs.account.charge_tasks.Goals.{in-Some, in_default}
use Rattle.core_lanes.proofs.account.charge_tasks.Goals as goal

-- ---- room in the list, and in the totals

pub charge_once-requires-clause-few : goal.charge_once-requires-clause-few
charge_once-requires-clause-few g c =
    omega (arith, c.loop-lane.invariant.few, c.loop-lane-test.true, ap length c.deref-lane-items.ensures.value, c.args.core.now.few)

-- a pid that was not charged has the total that it had
uncharged : (total share : ℕ) (among alive : Bool) → among ≡ false → total + cond (among && alive) share 0 ≡ total
uncharged total share among alive not = ap (λ b. total + cond (b && alive) share 0) not ∙ (omega arith)

pub charge_once-requires-clause-low : goal.charge_once-requires-clause-low
charge_once-requires-clause-low g c not =
    let pid = c.in-Some.pid in
    omega (
      arith,
      c.requires.low pid,
      c.loop-lane.invariant.owes.totals pid,
      uncharged (total_in c.args.table.now pid) c.args.share _ (is_some (find (has_pid pid) c.args.table.now.tasks)) not,
    )

-- ---- one sibling more

-- the pids that are charged for the siblings before one
abbrev before : {Q : Type 0} → List (Lane Q) → ℕ → List ℕ
before lanes i = filter_map (λ lane. charged_for (lane_state lane)) (take i lanes)

before_more : {Q : Type 0} (lanes : List (Lane Q)) (i : ℕ) (lane : Lane Q) → i < length lanes → lane ≡ get_or lanes i lane →
    before lanes (i + 1) ≡ before lanes i ++ option_to_list (charged_for (lane_state lane))
before_more {Q} lanes i lane within is =
    let next : i + 1 ≡ suc i = omega arith in
    ap (λ n. before lanes n) next ∙ ap (filter_map of) (take-suc lanes i lane within)
    ∙ filter_map-append of (take i lanes) (get_or lanes i lane ∷ [])
    ∙ ap (λ (pids : List ℕ). before lanes i ++ pids) (alone (of (get_or lanes i lane)) ∙ ap (λ (one : Lane Q). option_to_list (of one)) (sym is)) where
      of : Lane Q → Option ℕ
      of lane = charged_for (lane_state lane)

      alone : (one : Option ℕ) → cons_option one [] ≡ option_to_list one
      alone None = refl
      alone (Some pid) = refl

-- so many are among the pids if one was put behind them
among_more : (pid : ℕ) (charged so_far all more : List ℕ) → list_any (λ one. one == pid) charged ≡ list_any (λ one. one == pid) so_far → all ≡ so_far ++ more →
    list_any (λ one. one == pid) (charged ++ more) ≡ list_any (λ one. one == pid) all
among_more pid charged so_far all more same is =
    let passes : ℕ → Bool = λ one. one == pid in
    list_any-append passes charged more ∙ ap (λ b. b || list_any passes more) same ∙ sym (list_any-append passes so_far more) ∙ ap (list_any passes) (sym is)

pub loop-lane-init : goal.loop-lane-init
loop-lane-init g c = record {
  few = omega (arith, ap length c.new-charged.ensures);
  among = λ pid. ap (list_any (λ one. one == pid)) c.new-charged.ensures;
  owes = record {
    rest = refl;
    totals = λ pid. sym (uncharged (total_in c.args.table.now pid) c.args.share _ (is_some (find (has_pid pid) c.args.table.now.tasks)) (ap (list_any (λ one. one == pid)) c.new-charged.ensures));
    sound = c.requires.sound;
  };
}

-- the pids of the siblings up to this one
up_to : (g : Over) (c : goal.Joined-charged g) → before c.args.core.now.lanes.items (c.loop-lane.lane-index + 1) ≡ before c.args.core.now.lanes.items c.loop-lane.lane-index ++ option_to_list c.charged.result
up_to g c =
    let lanes = c.args.core.now.lanes.items in
    before_more lanes c.loop-lane.lane-index c.lane-item.result (omega (arith, c.loop-lane-test.true, ap length c.deref-lane-items.ensures.value))
    (c.lane-item.is ∙ ap (λ (ls : List (Lane g.row.Q.Denot)). get_or ls c.loop-lane.lane-index c.lane-item.result) c.deref-lane-items.ensures.value)
    ∙ ap (λ (one : Option ℕ). before lanes c.loop-lane.lane-index ++ option_to_list one) (sym c.charged.ensures)

pub loop-lane-preserved : goal.loop-lane-preserved
loop-lane-preserved g c =
    let so_far = c.loop-lane.invariant in
    let lanes = c.args.core.now.lanes.items in
    elim c.match-charged.branch [
      | in-Some w ↦ rw (w.table-is, w.charged-is) (record {
        few = omega (arith, w.charge_once.ensures.few, so_far.few);
        among = λ pid.
            w.charge_once.ensures.among pid
            ∙ among_more pid c.loop-lane.charged.items (before lanes c.loop-lane.lane-index) (before lanes (c.loop-lane.lane-index + 1)) (w.in-Some.pid ∷ []) (so_far.among pid)
            (up_to g c ∙ ap (λ (one : Option ℕ). before lanes c.loop-lane.lane-index ++ option_to_list one) w.in-Some.is);
        owes = w.charge_once.ensures.owes c.args.table.now so_far.owes;
      })
      | in_default w ↦ rw (w.table-is, w.charged-is) (record {
        few = omega (arith, so_far.few);
        among = λ pid.
            so_far.among pid
            ∙ ap (list_any (λ one. one == pid)) (sym (append-nil (before lanes c.loop-lane.lane-index)))
            ∙ ap (list_any (λ one. one == pid)) (sym (up_to g c ∙ ap (λ (one : Option ℕ). before lanes c.loop-lane.lane-index ++ option_to_list one) w.in_default.is));
        owes = so_far.owes;
      })
    ]

-- ---- all siblings

pub returns : goal.returns
returns g c beside =
    let lanes = c.args.core.now.lanes.items in
    let room = room_of beside (c.args.core.now, c.args.table.now) in
    let owes = c.loop-lane.invariant.owes in
    let past : length lanes ≤ c.loop-lane.lane-index = omega (arith, c.loop-lane-test.false, ap length c.deref-lane-items.ensures.value) in
    let all : before lanes c.loop-lane.lane-index ≡ filter_map charged_for room.siblings =
    ap (filter_map (λ (lane : Lane g.row.Q.Denot). charged_for (lane_state lane))) (take_all c.loop-lane.lane-index lanes past)
    ∙ sym (filter_map-map charged_for lane_state lanes) in
    record {
      rest = owes.rest;
      totals = λ pid.
          let alive = is_some (find (has_pid pid) c.args.table.now.tasks) in
          owes.totals pid
          ∙ ap (λ b. total_in c.args.table.now pid + cond b c.args.share 0)
          (ap (λ b. b && alive) (c.loop-lane.invariant.among pid ∙ ap (list_any (λ one. one == pid)) all)
          ∙ sym (charged_among room pid) ∙ sym (charged_alive room pid));
      sound = owes.sound;
    }
