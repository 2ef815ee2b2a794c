use Rattle.std.proofs.Common.{◌≡◌, sym, subst, length, ℕ}
use Rattle.std.proofs.Math.Nat.{le-add_right}
use Rattle.cs_types.specs.declared.event.Event.{Event}
use Rattle.cs_types.specs.declared.reply.Reply.{Reply}
use Rattle.core_lanes.specs.declared.queue.SiblingQueue.{Ghosts}
use Rattle.core_tasks.specs.declared.state.State.{State}
use Rattle.core_tasks.specs.Steps.{Makes}
use Rattle.cs_types.specs.Scenario.{IsEvent}
use Rattle.core_events.specs.Comparisons.{ComparesForEvent}
use Rattle.core_events.proofs.events.apply.Goals as goal

-- what was made by an event was made by the one that it is
by_event : {Q G : Type 0} {g : Ghosts Q} {old new : State Q G g} {event other : Event} {answer : Reply} → event ≡ other → Makes old new other answer → Makes old new event answer
by_event {old = old} {new = new} {answer = answer} is made = subst (λ (e : Event). Makes old new e answer) (sym is) made

-- and so are its comparisons
counts : {Q G : Type 0} {g : Ghosts Q} (old : State Q G g) (from to : ℕ) {event other : Event} → event ≡ other → ComparesForEvent old other from to → ComparesForEvent old event from to
counts old from to is counted = subst (λ (e : Event). ComparesForEvent old e from to) (sym is) counted

pub returns-in-Turn : goal.returns-in-Turn
returns-in-Turn g c = record { makes = by_event c.in-Turn.is c.turn.ensures.makes; counted = counts c.args.state.now c.args.comparisons.now c.turn.new.comparisons c.in-Turn.is c.turn.ensures.counted }

pub returns-in-Resched : goal.returns-in-Resched
returns-in-Resched g c = record { makes = by_event c.in-Resched.is c.resched.ensures.makes; counted = counts c.args.state.now c.args.comparisons.now c.resched.new.comparisons c.in-Resched.is c.resched.ensures.counted }

pub returns-in-Block : goal.returns-in-Block
returns-in-Block g c = record { makes = by_event c.in-Block.is c.block.ensures.makes; counted = counts c.args.state.now c.args.comparisons.now c.block.new.comparisons c.in-Block.is c.block.ensures.counted }

pub returns-in-Exit : goal.returns-in-Exit
returns-in-Exit g c = record { makes = by_event c.in-Exit.is c.exit.ensures.makes; counted = counts c.args.state.now c.args.comparisons.now c.exit.new.comparisons c.in-Exit.is c.exit.ensures.counted }

pub returns-in-Tick : goal.returns-in-Tick
returns-in-Tick g c = record { makes = by_event c.in-Tick.is c.tick.ensures.makes; counted = counts c.args.state.now c.args.comparisons.now c.tick.new.comparisons c.in-Tick.is c.tick.ensures.counted }

pub returns-in-Wake : goal.returns-in-Wake
returns-in-Wake g c = record { makes = by_event c.in-Wake.is c.wake.ensures.makes; counted = counts c.args.state.now c.args.comparisons.now c.wake.new.comparisons c.in-Wake.is c.wake.ensures.counted }

pub returns-in-Advance : goal.returns-in-Advance
returns-in-Advance g c = record { makes = by_event c.in-Advance.is c.advance.ensures.makes; counted = counts c.args.state.now c.args.comparisons.now c.advance.new.comparisons c.in-Advance.is c.advance.ensures.counted }

pub returns-in-Fork : goal.returns-in-Fork
returns-in-Fork g c = record { makes = by_event c.in-Fork.is c.fork.ensures.makes; counted = counts c.args.state.now c.args.comparisons.now c.fork.new.comparisons c.in-Fork.is c.fork.ensures.counted }

pub returns-in-Prctl : goal.returns-in-Prctl
returns-in-Prctl g c = record { makes = by_event c.in-Prctl.is c.prctl.ensures.makes; counted = counts c.args.state.now c.args.comparisons.now c.prctl.new.comparisons c.in-Prctl.is c.prctl.ensures.counted }

pub returns-in-SetSched : goal.returns-in-SetSched
returns-in-SetSched g c = record { makes = by_event c.in-SetSched.is c.set_policy.ensures.makes; counted = counts c.args.state.now c.args.comparisons.now c.set_policy.new.comparisons c.in-SetSched.is c.set_policy.ensures.counted }

pub returns-in-Offline : goal.returns-in-Offline
returns-in-Offline g c = record { makes = by_event c.in-Offline.is c.take_offline.ensures.makes; counted = counts c.args.state.now c.args.comparisons.now c.take_offline.new.comparisons c.in-Offline.is c.take_offline.ensures.counted }

pub returns-in-Online-clause-makes : goal.returns-in-Online-clause-makes
returns-in-Online-clause-makes g c = by_event c.in-Online.is c.bring_online.ensures

pub turn-requires : goal.turn-requires
turn-requires g c = record { cpu = subst (IsEvent (length c.args.state.now.core.lanes.items)) c.in-Turn.is c.requires.event; ready = c.requires.ready }

pub resched-requires : goal.resched-requires
resched-requires g c = record { cpu = subst (IsEvent (length c.args.state.now.core.lanes.items)) c.in-Resched.is c.requires.event; ready = c.requires.ready }

pub block-requires : goal.block-requires
block-requires g c = record { cpu = subst (IsEvent (length c.args.state.now.core.lanes.items)) c.in-Block.is c.requires.event; ready = c.requires.ready }

pub exit-requires : goal.exit-requires
exit-requires g c = record { cpu = subst (IsEvent (length c.args.state.now.core.lanes.items)) c.in-Exit.is c.requires.event; ready = c.requires.ready }

pub tick-requires : goal.tick-requires
tick-requires g c = record { cpu = subst (IsEvent (length c.args.state.now.core.lanes.items)) c.in-Tick.is c.requires.event; ready = c.requires.ready }

pub take_offline-requires : goal.take_offline-requires
take_offline-requires g c = record { cpu = subst (IsEvent (length c.args.state.now.core.lanes.items)) c.in-Offline.is c.requires.event; ready = c.requires.ready }

pub bring_online-requires : goal.bring_online-requires
bring_online-requires g c = record { cpu = subst (IsEvent (length c.args.state.now.core.lanes.items)) c.in-Online.is c.requires.event }

pub advance-requires : goal.advance-requires
advance-requires g c = record { event = subst (IsEvent (length c.args.state.now.core.lanes.items)) c.in-Advance.is c.requires.event; ready = c.requires.ready }

pub set_policy-requires : goal.set_policy-requires
set_policy-requires g c = record { event = subst (IsEvent (length c.args.state.now.core.lanes.items)) c.in-SetSched.is c.requires.event; ready = c.requires.ready }

pub returns-in-Load-clause-makes : goal.returns-in-Load-clause-makes
returns-in-Load-clause-makes g c = by_event c.in-Load.is c.load.ensures

pub returns-in-Unload-clause-makes : goal.returns-in-Unload-clause-makes
returns-in-Unload-clause-makes g c = by_event c.in-Unload.is c.unload.ensures

pub returns-in-Online-clause-counted : goal.returns-in-Online-clause-counted
returns-in-Online-clause-counted g c = le-add_right c.args.comparisons.now _

pub returns-in-Load-clause-counted : goal.returns-in-Load-clause-counted
returns-in-Load-clause-counted g c = le-add_right c.args.comparisons.now _

pub returns-in-Unload-clause-counted : goal.returns-in-Unload-clause-counted
returns-in-Unload-clause-counted g c = le-add_right c.args.comparisons.now _
