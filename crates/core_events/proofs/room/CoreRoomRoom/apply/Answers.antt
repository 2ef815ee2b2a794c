use Rattle.std.proofs.Common.{◌≡◌, ℕ, ◌≤◌, ◌*◌, ◌++◌, ◌∷◌, [], length, length-append, get_or, set, ap, sym, subst, ◌∙◌, arith}
use Rattle.std.specs.Prelude.{IfSome, All, ◌+◌, ◌<◌, ◌^◌}
use Rattle.std.proofs.Math.Seq.{get_or-append_seam, set-append_seam}
use Rattle.std.proofs.lemmas.List.{length-map}
use Rattle.std.proofs.lemmas.List.Elements.{All-push, All-weaker}
use Rattle.core_events.specs.Inside.{opening_of, IsFold}
use Rattle.core_events.specs.Ready.{IsReady}
use Rattle.core_events.specs.declared.room.CoreRoom.TheInside.{Inside}
use Rattle.core_lanes.specs.declared.queue.SiblingQueue.{Ghosts}
use Rattle.cs_types.specs.Guards.{GuardState}
use Rattle.cs_types.specs.declared.reply.Entry.{Entry}
use Rattle.cs_types.specs.declared.reply.Reply.{Reply}
use Rattle.cs_types.specs.declared.reply.Reply.TheVariants.{Nothing}
use Rattle.cs_types.specs.Scenario.{IsEvent}
use Rattle.cs_types.specs.Room.{RoomState, SiblingState}
use Rattle.cs_types.specs.Touches.{selection_of}
use Rattle.cs_types.specs.History.{History, fold_of, reply_to, history_of, IsLegal}
use Rattle.cs_types.specs.Laws.{SelectsCoreWide, scheduling_room, cpu_of, LeavesTheRoom}
use Rattle.cs_laws.proofs.Numbers.{asked-fold_of, task_number-ledger_of, next_stamp-fold_of, next_cookie-fold_of, next_pid-fold_of, ended-fold_of}
use Rattle.cs_laws.proofs.Tasks.{few-fold_of}
use Rattle.cs_laws.proofs.Histories.{IsLegal-history_of}
use Rattle.cs_laws.proofs.Selections.{selects}
use Rattle.cs_laws.proofs.Refusals.{refused_leaves}
use Rattle.cs_laws.proofs.BalancePlaces.{places-fold_of}
use Rattle.cs_laws.proofs.Times.{timely-fold_of, clock-step}
use Rattle.cs_laws.proofs.Accounts.{IsAccounted, accounted-fold_of, account_of, charged_up_to}
use Rattle.core_events.proofs.Views.{total_kept, behind_of, own_run}
use Rattle.cs_laws.proofs.Timely.{IsTimely}
use Rattle.core_lanes.specs.declared.lane.Lane.{Lane}
use Rattle.core_lanes.specs.Numbers.{Numbers, is_fresh_by}
use Rattle.core_tasks.specs.State.{room_with, state_numbers}
use Rattle.core_events.specs.Machine.{Machine}
use Rattle.core_events.proofs.Playable.{most_entries-le, first_pid-low}
use Rattle.core_events.proofs.Machines.{folds_of, timely_with, of_states, history_more, reply_more, folds_more}
use Rattle.task_table.specs.Table.{total_in}
use Rattle.core_events.proofs.room.CoreRoomRoom.apply.Goals as goal

-- a machine that has a place left may take any event
ready_of : {Q G : Type 0} {g : Ghosts Q} (a : Inside Q G g) → IsFold a → length a.entries.items < a.entries.room → IsReady a.state
ready_of {Q} a is spare =
    let opening = opening_of a in
    let past = a.entries.items in
    let tasks = is.playable.few_tasks in
    let most = is.playable.task_limit.1 in
    let few : length past ≤ 100256 = omega (arith, is.few_entries, most_entries-le a.scenario.value is.playable) in
    let living : length a.state.tasks.tasks ≤ 256 = omega (arith, ap (λ (room : RoomState). length room.tasks) is.fold, few-fold_of opening past tasks, most) in
    let clock : a.state.clock ≤ 100256 * 1000000000 = omega (arith, is.slow, few) in
    let legal = subst (IsLegal opening) (sym is.history) (IsLegal-history_of opening _) in
    let folds = folds_of a is in
    let accounted : IsAccounted 255 (length past) (account_of (fold_of opening past)) = accounted-fold_of 255 opening past (omega arith) (omega (arith, is.playable.siblings.1)) is.events in
    record {
      sound = is.sound;
      time = record {
        entries = length past;
        few = omega (arith, few);
        timely = λ intervals. subst (λ (room : RoomState). IsTimely (length past) room)
            (sym (ap (λ (room : RoomState). let other : RoomState = record room { intervals = intervals } in other) is.fold))
            (timely_with intervals (length past) (fold_of opening past) (timely-fold_of opening past));
        clock = omega (arith, clock);
      };
      paid = record {
        clock = omega (arith, clock);
        started = subst (λ (r : RoomState). charged_up_to (account_of r) ≤ r.clock) (sym is.fold) accounted.started;
        intervals = omega (arith, accounted.intervals, ap (λ (numbers : Numbers). numbers.intervals) is.numbers, few);
        totals = λ pid. subst (λ (r : RoomState). total_in a.state.tasks pid ≤ 255 * charged_up_to (account_of r)) (sym is.fold)
            (omega (arith, total_kept opening a.state past pid folds, accounted.totals pid));
      };
      own = own_run opening a.state past folds is.playable is.events legal;
      behind = behind_of opening a.state past folds is.siblings is.playable is.events legal;
      spares = record {
        touches = omega (arith, task_number-ledger_of opening past tasks most, ap (λ (numbers : Numbers). numbers.task) is.numbers, few, living, most);
        stamps = omega (arith, next_stamp-fold_of opening past tasks most, ap (λ (room : RoomState). room.next_stamp) is.fold, few, living, most);
        serial = omega (arith, next_cookie-fold_of opening past tasks most, ap (λ (room : RoomState). room.next_cookie) is.fold);
        pid = omega (arith, next_pid-fold_of opening past tasks most, ap (λ (room : RoomState). room.next_pid) is.fold, first_pid-low a.scenario.value is.playable, few);
        ended = omega (
          arith,
          ended-fold_of opening past tasks most,
          ap (λ (room : RoomState). length room.ended) is.fold,
          length-map a.state.ended.items (λ (one : ℕ × ℕ). one.0),
          spare,
          is.ends,
          is.few_entries,
        );
        places = All-weaker (λ (lane : Lane Q). lane.place ≤ length past) (λ (lane : Lane Q). lane.place + 1 < 2 ^ 32)
            (λ lane low. omega (arith, low, few)) a.state.core.lanes.items
            (of_states (λ (sibling : SiblingState). sibling.place ≤ length past) a.state.core.lanes.items
            (subst (λ (room : RoomState). All (λ (sibling : SiblingState). sibling.place ≤ length past) room.siblings) (sym is.fold) (places-fold_of opening past)));
        asked = All-weaker (λ (guard : GuardState). guard.asked < 2 ^ 43) (λ (guard : GuardState). guard.asked < 2 ^ 62) (λ guard low. omega (arith, low)) a.state.guards.guards.all
            (subst (λ (room : RoomState). All (λ (guard : GuardState). guard.asked < 2 ^ 43) room.guards.all) (sym is.fold) (asked-fold_of opening past tasks most (omega (arith, few))));
      };
    }

pub counted-reply-requires-clause-may : goal.counted-reply-requires-clause-may
counted-reply-requires-clause-may g c =
    let a = c.self.inside in
    let is = c.self.invariant in
    record {
      event = subst (λ count. IsEvent count c.args.event) (sym is.siblings) (subst (λ (m : Machine). IsEvent m.opening.scenario.siblings c.args.event) (sym c.self.view_is) c.requires.event);
      ready = ready_of a is (omega (arith, c.requires.spare, ap (λ (m : Machine). m.spare) c.self.view_is));
    }

-- the entries once the last of them has its reply
noted : (past items : History) (place : ℕ) (first here : Entry) (reply : Reply) → items ≡ past ++ first ∷ [] → place ≡ length past → here ≡ get_or items place here →
    set items place (record here { reply = reply }) ≡ past ++ record first { reply = reply } ∷ []
noted past items place first here reply pushed last is =
    let same : here ≡ first = is ∙ (λ i. get_or (pushed i) (last i) here) ∙ get_or-append_seam past first [] here in
    (λ i. set (pushed i) (last i) (record (same i) { reply = reply })) ∙ set-append_seam past first [] (record first { reply = reply })

pub invariant_of-self : goal.invariant_of-self
invariant_of-self g c =
    let a = c.self.inside in
    let spare : length a.entries.items < a.entries.room = omega (arith, c.requires.spare, ap (λ (m : Machine). m.spare) c.self.view_is) in
    let entry : Entry = record { actor = c.args.actor; event = c.args.event; reply = c.counted-reply.result } in
    let so_far = folds_of a c.self.invariant in
    let limits = subst (λ (m : Machine). IsEvent m.opening.scenario.siblings c.args.event) (sym c.self.view_is) c.requires.event in
    let reply = reply_more (opening_of a) a.state c.counted-reply.new.state a.entries.items c.args.event c.counted-reply.result so_far (c.counted-reply.ensures.step (fold_of (opening_of a) a.entries.items).intervals) in
    let folds = folds_more (opening_of a) a.state c.counted-reply.new.state a.entries.items entry limits so_far (c.counted-reply.ensures.step (fold_of (opening_of a) a.entries.items).intervals) in
    let items = noted a.entries.items c.push.new.self.items c.len-place.result (record { actor = c.args.actor; event = c.args.event; reply = Nothing }) c.index_mut.result.now c.counted-reply.result
    c.push.ensures.items (omega (arith, c.len-place.ensures)) c.index_mut.ensures.value in
    record {
      playable = c.self.invariant.playable;
      events = rw items (All-push (λ (e : Entry). IsEvent a.scenario.value.siblings e.event) a.entries.items entry c.self.invariant.events limits);
      history = rw items (history_more (opening_of a) a.entries.items entry c.self.invariant.history reply);
      fold = rw items folds.fold;
      numbers = rw items folds.numbers;
      sound = c.counted-reply.ensures.stays.sound c.self.invariant.sound;
      count = c.self.invariant.count;
      siblings = c.counted-reply.ensures.stays.siblings ∙ c.self.invariant.siblings;
      slow = omega (
        arith,
        ap length items,
        length-append a.entries.items (entry ∷ []),
        c.self.invariant.slow,
        ap (λ (room : RoomState). room.clock) (c.counted-reply.ensures.step (fold_of (opening_of a) a.entries.items).intervals).room,
        clock-step (room_with (fold_of (opening_of a) a.entries.items).intervals a.state) (is_fresh_by (state_numbers a.state)) c.args.event a.scenario.value.siblings limits,
      );
      fits = omega (arith, ap length items, length-append a.entries.items (entry ∷ []), c.push.ensures.room, spare);
      few_entries = omega (arith, c.push.ensures.room, c.self.invariant.few_entries);
      ends = c.counted-reply.ensures.stays.ends ∙ c.self.invariant.ends;
    }

pub returns-clause-reply : goal.returns-clause-reply
returns-clause-reply g c =
    let a = c.self.inside in
    let so_far = folds_of a c.self.invariant in
    reply_more (opening_of a) a.state c.counted-reply.new.state a.entries.items c.args.event c.counted-reply.result so_far (c.counted-reply.ensures.step (fold_of (opening_of a) a.entries.items).intervals)
    ∙ ap (λ h. reply_to (opening_of a) h c.args.event) c.self.invariant.history
    ∙ ap (λ (m : Machine). reply_to m.opening (history_of m.opening m.steps) c.args.event) c.self.view_is

pub returns-clause-entry : goal.returns-clause-entry
returns-clause-entry g c =
    let a = c.self.inside in
    let entry : Entry = record { actor = c.args.actor; event = c.args.event; reply = c.counted-reply.result } in
    let so_far = folds_of a c.self.invariant in
    let reply = reply_more (opening_of a) a.state c.counted-reply.new.state a.entries.items c.args.event c.counted-reply.result so_far (c.counted-reply.ensures.step (fold_of (opening_of a) a.entries.items).intervals) in
    let items = noted a.entries.items c.push.new.self.items c.len-place.result (record { actor = c.args.actor; event = c.args.event; reply = Nothing }) c.index_mut.result.now c.counted-reply.result
    c.push.ensures.items (omega (arith, c.len-place.ensures)) c.index_mut.ensures.value in
    rw items
    (sym (history_more (opening_of a) a.entries.items entry c.self.invariant.history reply)
    ∙ ap (λ h. h ++ entry ∷ []) (c.self.invariant.history ∙ ap (λ (m : Machine). history_of m.opening m.steps) c.self.view_is))

pub returns-clause-selection : goal.returns-clause-selection
returns-clause-selection g c =
    let m = c.args.self.now in
    let past = history_of m.opening m.steps in
    let entry : Entry = record { actor = c.args.actor; event = c.args.event; reply = c.counted-reply.result } in
    subst (λ (room : RoomState). IfSome (selection_of entry.reply) (λ pick. SelectsCoreWide (scheduling_room (fold_of m.opening past) entry.event) (cpu_of entry.event) pick room))
    (λ i. fold_of (sym c.self.view_is i).opening (sym (returns-clause-entry g c) i))
    (selects m.opening past entry c.requires.event (returns-clause-reply g c))

pub returns-clause-refused : goal.returns-clause-refused
returns-clause-refused g c refused =
    let m = c.args.self.now in
    let past = history_of m.opening m.steps in
    let entry : Entry = record { actor = c.args.actor; event = c.args.event; reply = c.counted-reply.result } in
    subst (LeavesTheRoom (fold_of m.opening past) entry.event) (λ i. fold_of (sym c.self.view_is i).opening (sym (returns-clause-entry g c) i))
    (refused_leaves m.opening past entry (returns-clause-reply g c) refused)
