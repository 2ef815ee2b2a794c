use Rattle.std.proofs.Common.{arith, ◌≡◌, ◌∙◌, ◌+◌, ℕ, Bool, true, false, cond, refl, ap, sym, List, Option, Some, None}
use Rattle.std.specs.Prelude.{◌==◌, ◌||◌, is_none}
use Rattle.std.proofs.lemmas.Bool.{eq-eqb, ne_eqb}
use Rattle.std.specs.Option.{option_map}
use Rattle.cs_types.specs.declared.task.Task.{Task}
use Rattle.cs_types.specs.declared.queue.Queued.{Queued}
use Rattle.cs_types.specs.Room.{RoomState, SiblingState, sibling_of}
use Rattle.cs_types.specs.Order.{idle_class, first_of}
use Rattle.cs_types.specs.Queue.{queued_of}
use Rattle.cs_types.specs.Selection.{first_on, cookie_of, choice}
use Rattle.core_lanes.specs.Queued.{queued_among, with_cookie}
use Rattle.core_lanes.proofs.Queues.{none_of}
use Rattle.core_pick.specs.declared.choice.Choice.{Choice}
use Rattle.core_pick.specs.declared.choice.Counts.{Counts}
use Rattle.core_pick.specs.Choice.{choice_of}
use Rattle.core_pick.proofs.Choices.{is_idle, is_kept, choice_kept, choice_searched, nothing_there, counted_nothing, counted_forced, counted_task}
use Rattle.core_pick.proofs.selection.settle.Given.{Over}
use Rattle.core_pick.proofs.selection.settle.Goals.{After-search_on}
use Rattle.core_pick.proofs.selection.settle.Goals as goal

-- the test of a choice is that of its task
tested : (task : Option Task) (given : Choice) (test b : Bool) → given ≡ choice_of task → test ≡ (given.class == idle_class) → test ≡ b → is_none task ≡ b
tested task given test b is same now = sym (is_idle task) ∙ ap (λ (given : Choice). given.class == idle_class) (sym is) ∙ sym same ∙ now

-- so a first that is not idle is kept where it has the cookie
kept_by_cookie : (room : RoomState) (core cpu : ℕ) (given : Choice) (b : Bool) → given ≡ choice_of (first_on room cpu) → is_none (first_on room cpu) ≡ false →
    (given.cookie == core) ≡ b → is_kept room core cpu ≡ b
kept_by_cookie room core cpu given b is some same =
    ap (λ b. b || (cookie_of (first_on room cpu) == core)) some ∙ ap (λ (given : Choice). given.cookie == core) (sym is) ∙ same

-- the counts by the test of the sibling
forced_by : (counts : Counts) (b c : Bool) → b ≡ c → (record counts { forced = counts.forced + cond b 1 0 }) ≡ (record counts { forced = counts.forced + cond c 1 0 })
forced_by counts b c = ap (λ b. let now : Counts = record counts { forced = counts.forced + cond b 1 0 } in now)

occupied_by : (counts : Counts) (b c : Bool) → b ≡ c → (record counts { occupation = counts.occupation + cond b 1 0 }) ≡ (record counts { occupation = counts.occupation + cond c 1 0 })
occupied_by counts b c = ap (λ b. let now : Counts = record counts { occupation = counts.occupation + cond b 1 0 } in now)

pub returns-then-is_idle : goal.returns-then-is_idle
returns-then-is_idle g c = record {
  answer = λ room tasks at is.
      let none = tested (first_on room c.args.cpu) c.args.given.now c.is_idle.result true is c.is_idle.ensures c.if-is_idle.true in
      record {
        gets = is ∙ ap choice_of (sym (nothing_there room c.args.cookie c.args.cpu none));
        counts = counted_nothing room c.args.cookie c.args.cpu c.args.counts c.args.counts none;
      };
  counted = omega arith;
}

pub returns-then-given-cookie : goal.returns-then-given-cookie
returns-then-given-cookie g c = record {
  answer = λ room tasks at is.
      let online = ap (λ (sibling : SiblingState). sibling.online) (sym at) in
      let some = tested (first_on room c.args.cpu) c.args.given.now c.is_idle.result false is c.is_idle.ensures c.if-is_idle.false in
      let first = choice_kept room c.args.cookie c.args.cpu
      (kept_by_cookie room c.args.cookie c.args.cpu c.args.given.now true is some (eq-eqb c.args.given.now.cookie c.args.cookie c.if-given-cookie.true)) in
      record {
        gets = is ∙ ap choice_of (sym first);
        counts = counted_task room c.args.cookie c.args.cpu c.args.counts c.with_task.result (ap is_none first ∙ some)
            (c.with_task.ensures ∙ occupied_by c.args.counts c.args.lane.now.online (sibling_of room c.args.cpu).online online);
      };
  counted = omega arith;
}

-- what the search finds is the choice, as its queue has it
found : (g : Over) (c : After-search_on g) (room : RoomState) → room.tasks ≡ c.args.table.now.tasks → c.args.given.now ≡ choice_of (first_on room c.args.cpu) →
    is_none (first_on room c.args.cpu) ≡ false → option_map queued_of (choice room c.args.cookie c.args.cpu) ≡ c.search_on.result
found g c room tasks is some =
    ap (option_map queued_of)
    (choice_searched room c.args.cookie c.args.cpu
    (kept_by_cookie room c.args.cookie c.args.cpu c.args.given.now false is some (ne_eqb c.args.given.now.cookie c.args.cookie c.if-given-cookie.false))
    ∙ ap (λ (tasks : List Task). cond (c.args.cookie == 0) None (first_of (with_cookie c.args.cookie (queued_among tasks c.args.cpu)))) tasks)
    ∙ sym c.search_on.ensures.answer

-- what is given of a task, as its queue has it, is the choice of that
given_of : (task : Option Task) (queued : Queued) → option_map queued_of task ≡ Some queued →
    (record { cookie = queued.cookie; pid = queued.pid; class = queued.class } ≡ choice_of task) × (is_none task ≡ false)
given_of None queued is = absurd cc
given_of (Some task) queued is =
    let same : queued_of task ≡ queued = cc in
    (ap (λ (q : Queued). let one : Choice = record { cookie = q.cookie; pid = q.pid; class = q.class } in one) (sym same), refl)

pub returns-in-Some : goal.returns-in-Some
returns-in-Some g c = record {
  answer = λ room tasks at is.
      let online = ap (λ (sibling : SiblingState). sibling.online) (sym at) in
      let some = tested (first_on room c.args.cpu) c.args.given.now c.is_idle.result false is c.is_idle.ensures c.if-is_idle.false in
      let given = given_of (choice room c.args.cookie c.args.cpu) c.in-Some.queued (found g (goal.at.returns-in-Some g c).After-search_on room tasks is some ∙ c.in-Some.is) in
      record {
        gets = c.of.ensures ∙ given.0;
        counts = counted_task room c.args.cookie c.args.cpu c.args.counts c.with_task-in-Some.result given.1
            (c.with_task-in-Some.ensures ∙ occupied_by c.args.counts c.args.lane.now.online (sibling_of room c.args.cpu).online online);
      };
  counted = c.search_on.ensures.counted;
}

pub returns-in-None : goal.returns-in-None
returns-in-None g c = record {
  answer = λ room tasks at is.
      let online = ap (λ (sibling : SiblingState). sibling.online) (sym at) in
      let some = tested (first_on room c.args.cpu) c.args.given.now c.is_idle.result false is c.is_idle.ensures c.if-is_idle.false in
      let none = sym (none_of queued_of (choice room c.args.cookie c.args.cpu) (sym (found g (goal.at.returns-in-None g c).After-search_on room tasks is some ∙ c.in-None.is))) in
      record {
        gets = c.idle.ensures ∙ ap choice_of (sym none);
        counts = counted_forced room c.args.cookie c.args.cpu c.args.counts c.with_forced.result some (ap is_none none)
            (c.with_forced.ensures ∙ forced_by c.args.counts c.args.lane.now.online (sibling_of room c.args.cpu).online online);
      };
  counted = c.search_on.ensures.counted;
}
