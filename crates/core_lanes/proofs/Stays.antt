-- Stays: what a change of a core and its table keeps.
use Rattle.std.proofs.Common.{◌≡◌, inl, inr, ℕ, ◌<◌, ◌≤◌, List, [], map, refl, subst, sym, ap, ◌∙◌, length, set, get_or, Option, Some, ◌+◌, arith}
use Rattle.std.specs.Prelude.{All, IfSome, IsTrue, find, slice_get, ◌==◌}
use Rattle.std.proofs.lemmas.Bool.{cases_Bool, cond-true, cond-false, eqb-true}
use Rattle.std.proofs.lemmas.List.Elements.{All-weaker}
use Rattle.std.proofs.lemmas.List.{get_or-map, length-map, map-set}
use Rattle.std.proofs.lemmas.Option.{slice_get-get_or}
use Rattle.std.proofs.Math.Seq.{map-set_same}
use Rattle.cs_types.specs.declared.task.Task.{Task}
use Rattle.cs_types.specs.Room.{absent, has_pid, SiblingState, sibling_of, with_sibling, RoomState}
use Rattle.task_table.specs.Table.{Table, IsSound as IsTable}
use Rattle.core_lanes.proofs.Lists.{All-find}
use Rattle.cs_types.specs.Scenario.{IsPolicy}
use Rattle.core_lanes.specs.Queued.{queued_at, AreStamped, HavePolicies}
use Rattle.core_lanes.specs.Lanes.{Beside, BareCore, bare, lane_state, IsFit, Agree, AgreeAway, queues_of, MayStamp, room_by, room_of, beside_after}
use Rattle.core_lanes.specs.Changes.{Stays, identity_of, Changes}
use Rattle.core_lanes.specs.declared.queue.SiblingQueue.{Ghosts}
use Rattle.core_lanes.specs.declared.lane.Lane.{Lane}
use Rattle.core_lanes.specs.declared.lanes.Core.{Core}
use Rattle.core_lanes.specs.Numbers.{numbers_by}

-- something beside a core: what is said of it with anything beside it is said with this
pub some_beside : Beside
some_beside = record { cookie_limit = 0; user_top = 0; clock = 0; ended = []; next_pid = 0; next_cookie = 0; intervals = []; guards = record { all = []; active = [] } }

-- a core and a table stand for a room of which they have all but what is beside them
pub stands : {Q : Type 0} {g : Ghosts Q} (beside : Beside) (both : Core Q g × Table) (room : RoomState) → room_of beside both ≡ room →
    room_of (beside_after beside room) both ≡ room
stands beside both room is = subst (λ (r : RoomState). room_of (beside_after beside r) both ≡ r) is refl

-- what stays through two changes stays through both
pub both_stay : {Q : Type 0} {g : Ghosts Q} {old mid new : Core Q g × Table} → Stays old mid → Stays mid new → Stays old new
both_stay first second = record { agree = λ agree. second.agree (first.agree agree); kept = second.kept ∙ first.kept }

-- and where nothing changes
pub same_stays : {Q : Type 0} {g : Ghosts Q} {both : Core Q g × Table} → Stays both both
same_stays = record { agree = λ agree. agree; kept = refl }

-- as many queues are as many siblings
as_many : {Q : Type 0} {g : Ghosts Q} (old new : Core Q g) → queues_of new ≡ queues_of old → length new.lanes.items ≡ length old.lanes.items
as_many {Q} old new queues =
    sym (length-map new.lanes.items (λ (lane : Lane Q). lane.queue)) ∙ ap length queues ∙ length-map old.lanes.items (λ (lane : Lane Q). lane.queue)

-- So it stays where the queues, the tasks and the next stamp do.
pub kept_stays : {Q : Type 0} {g : Ghosts Q} (old new : Core Q g × Table) → queues_of new.0 ≡ queues_of old.0 → new.1.tasks ≡ old.1.tasks →
    new.1.limit ≡ old.1.limit → (IsTable old.1 → IsTable new.1) → new.0.next_stamp ≡ old.0.next_stamp → Stays old new
kept_stays {Q} {g} old new queues tasks limit sound stamp =
    let many = as_many old.0 new.0 queues in
    record {
      agree = λ agree. record {
        table = sound agree.table;
        few_tasks = omega (arith, limit, agree.few_tasks);
        tasks = subst (λ ts. All (IsFit (length new.0.lanes.items)) ts) (sym tasks) (subst (λ n. All (IsFit n) old.1.tasks) (sym many) agree.tasks);
        stamped = subst (λ ts. AreStamped new.0.next_stamp ts) (sym tasks) (subst (λ n. AreStamped n old.1.tasks) (sym stamp) agree.stamped);
        held = λ cpu queue at.
            subst (λ ts. g.holds queue new.1.limit (queued_at ts cpu)) (sym tasks)
            (subst (λ n. g.holds queue n (queued_at old.1.tasks cpu)) (sym limit)
            (agree.held cpu queue (ap (λ (qs : List Q). slice_get qs cpu) (sym queues) ∙ at)));
      };
      kept = λ i. record { siblings = many i; limit = limit i; identities = map identity_of (tasks i) };
    }

-- also where the table is the same
pub alike_stays : {Q : Type 0} {g : Ghosts Q} (old new : Core Q g × Table) → queues_of new.0 ≡ queues_of old.0 → new.1 ≡ old.1 →
    new.0.next_stamp ≡ old.0.next_stamp → Stays old new
alike_stays old new queues table stamp =
    kept_stays old new queues (ap (λ (t : Table). t.tasks) table) (ap (λ (t : Table). t.limit) table) (subst IsTable (sym table)) stamp

-- where no task is left on the sibling whose tasks leave, they agree as before
pub agree_again : {Q : Type 0} {g : Ghosts Q} (leaving : ℕ) (both : Core Q g × Table) → AgreeAway leaving both → queued_at both.1.tasks leaving ≡ [] → Agree both
agree_again {Q} {g} leaving both away none = record {
  table = away.table;
  few_tasks = away.few_tasks;
  tasks = away.tasks;
  stamped = away.stamped;
  held = λ cpu queue at.
      subst (λ qs. g.holds queue both.1.limit qs)
      (elim (cases_Bool (cpu == leaving)) [
        | inl here ↦
            cond-true (cpu == leaving) [] (queued_at both.1.tasks cpu) here
            ∙ sym (ap (queued_at both.1.tasks) (eqb-true cpu leaving here) ∙ none)
        | inr other ↦ cond-false (cpu == leaving) [] (queued_at both.1.tasks cpu) other
      ]) (away.held cpu queue at);
}

-- ---- a sibling

-- what a sibling at a place stands for
pub lane_at : {Q : Type 0} (lanes : List (Lane Q)) (cpu : ℕ) (x : Lane Q) → cpu < length lanes → x ≡ get_or lanes cpu x →
    get_or (map lane_state lanes) cpu absent ≡ lane_state x
lane_at lanes cpu x below is = get_or-map lane_state lanes cpu x absent below ∙ ap lane_state (sym is)

-- its own number
abbrev pub number_of : {Q : Type 0} → Lane Q → ℕ
number_of lane = lane.number

-- and its queue
abbrev pub queue_of : {Q : Type 0} → Lane Q → Q
queue_of lane = lane.queue

-- a sibling that keeps its own number, and its queue
pub numbers_kept : {Q : Type 0} (lanes : List (Lane Q)) (cpu : ℕ) (x y : Lane Q) → x ≡ get_or lanes cpu x → y.number ≡ x.number →
    map number_of (set lanes cpu y) ≡ map number_of lanes
numbers_kept lanes cpu x y is same = map-set_same number_of lanes cpu y x (same ∙ ap number_of is)

pub queues_kept : {Q : Type 0} (lanes : List (Lane Q)) (cpu : ℕ) (x y : Lane Q) → x ≡ get_or lanes cpu x → y.queue ≡ x.queue →
    map queue_of (set lanes cpu y) ≡ map queue_of lanes
queues_kept lanes cpu x y is same = map-set_same queue_of lanes cpu y x (same ∙ ap queue_of is)

-- where one keeps both, and no other changes, it alone is another in the room
pub changes_sibling : {Q : Type 0} {g : Ghosts Q} (core new : Core Q g) (table : Table) (cpu : ℕ) (x y : Lane Q) (change : SiblingState → SiblingState) → cpu < length core.lanes.items →
    x ≡ get_or core.lanes.items cpu x → y.number ≡ x.number → y.queue ≡ x.queue → lane_state y ≡ change (lane_state x) → new.lanes.items ≡ set core.lanes.items cpu y →
    bare new ≡ record (bare core) { siblings = map lane_state new.lanes.items; own = map number_of new.lanes.items } →
    Changes (core, table) (new, table) (λ room. with_sibling room cpu (change (sibling_of room cpu)))
changes_sibling core new table cpu x y change below is number queue state items rest =
    let lanes = core.lanes.items in
    let states = ap (map lane_state) items ∙ map-set lane_state lanes cpu y ∙ ap (set (map lane_state lanes) cpu) (state ∙ ap change (sym (lane_at lanes cpu x below is))) in
    let own = ap (map number_of) items ∙ numbers_kept lanes cpu x y is number in
    let same = rest ∙ (λ i. let now : BareCore = record (bare core) { siblings = states i; own = own i } in now) in
    record {
      room = λ beside i. room_by beside (same i) table;
      numbers = λ i. numbers_by (same i) table;
      stays = alike_stays (core, table) (new, table) (ap (map queue_of) items ∙ queues_kept lanes cpu x y is queue) refl (ap (λ (b : BareCore). b.next_stamp) rest);
    }

-- the queue of the sibling at a place
pub queue_at : {Q : Type 0} (lanes : List (Lane Q)) (cpu : ℕ) (x : Lane Q) → cpu < length lanes → x ≡ get_or lanes cpu x →
    slice_get (map queue_of lanes) cpu ≡ Some x.queue
queue_at lanes cpu x below is =
    slice_get-get_or (map queue_of lanes) cpu x.queue (omega (arith, length-map lanes queue_of))
    ∙ ap Some (get_or-map queue_of lanes cpu x x.queue below ∙ ap queue_of (sym is))

-- cores that are alike but for their queues have as many siblings
pub as_many_bare : {Q : Type 0} {g : Ghosts Q} (old new : Core Q g) → bare new ≡ bare old → length new.lanes.items ≡ length old.lanes.items
as_many_bare old new same =
    sym (length-map new.lanes.items lane_state) ∙ ap (λ (core : BareCore). length core.siblings) same ∙ length-map old.lanes.items lane_state

-- what holds of each task of a list holds of one that was found
pub found_in : (P : Task → Type 0) (pid : ℕ) (tasks : List Task) (task : Task) → All P tasks → find (has_pid pid) tasks ≡ Some task → P task
found_in P pid tasks task all found = subst (λ (one : Option Task). IfSome one P) found (All-find P (has_pid pid) tasks all)

-- the policies of a table that agrees with a core keep their limits
pub policies_of : {Q : Type 0} {g : Ghosts Q} (both : Core Q g × Table) → Agree both → HavePolicies both.1.tasks
policies_of both agree =
    All-weaker (IsFit (length both.0.lanes.items)) (λ (t : Task). IsPolicy t.spec.policy) (λ t fit. fit.policy) both.1.tasks agree.tasks

-- ---- stamps

-- stamps below the next one are below each later one
pub stamped-later : {next later : ℕ} {tasks : List Task} → next ≤ later → AreStamped next tasks → AreStamped later tasks
stamped-later {next} {later} {tasks} above stamped = record {
  below = All-weaker (λ (t : Task). IsTrue t.queued → t.stamp < next) (λ (t : Task). IsTrue t.queued → t.stamp < later)
      (λ t below queued. omega (arith, below queued, above)) tasks stamped.below;
  distinct = stamped.distinct;
}

-- The next stamp is nobody's.
pub stamp_next : (next : ℕ) (tasks : List Task) (task : Task) → task.stamp ≡ next → AreStamped next tasks → MayStamp (next + 1) tasks task
stamp_next next tasks task is stamped = record {
  below = omega (arith, is);
  own = λ other there queued same.
      let low = found_in (λ (t : Task). IsTrue t.queued → t.stamp < next) other.spec.pid tasks other stamped.below there queued in
      absurd (omega (arith, low, same, is));
}

-- a core whose next stamp is a later one
pub stamped_later : {Q : Type 0} {g : Ghosts Q} (old new : Core Q g) (table : Table) → queues_of new ≡ queues_of old →
    old.next_stamp ≤ new.next_stamp → Stays (old, table) (new, table)
stamped_later {Q} {g} old new table queues later =
    let many = as_many old new queues in
    record {
      agree = λ agree. record {
        table = agree.table;
        few_tasks = agree.few_tasks;
        tasks = subst (λ n. All (IsFit n) table.tasks) (sym many) agree.tasks;
        stamped = stamped-later later agree.stamped;
        held = λ cpu queue at. agree.held cpu queue (ap (λ (qs : List Q). slice_get qs cpu) (sym queues) ∙ at);
      };
      kept = λ i. record { siblings = many i; limit = table.limit; identities = map identity_of table.tasks };
    }
