-- Clock: all time of a history is what the clock shows after it.
use Rattle.std.proofs.Common.{◌≡◌, ◌+◌, List, [], ◌∷◌, refl, zero-add, arith}
use Rattle.std.proofs.lemmas.List.Sums.{sum_by-append}
use Rattle.cs_types.specs.declared.event.Event.{Event}
use Rattle.cs_types.specs.declared.event.Event.TheVariants.{Turn, Resched, Block, Exit, Tick, Wake, Advance, Fork, Prctl, SetSched, Offline, Online, Load, Unload}
use Rattle.cs_types.specs.declared.reply.Entry.{Entry}
use Rattle.cs_types.specs.Room.{Opening, RoomState}
use Rattle.cs_types.specs.Touches.{is_fresh}
use Rattle.cs_types.specs.History.{History, Moment, beginning, next, after, fold_of}
use Rattle.cs_laws.proofs.Times.{lapse, clock-step_by}
use Rattle.run_times.specs.Times.{Span, span_of, spans_from, spans_of, total_time}

-- the span of an event takes as long as the clock goes on at it
span_lapse : (room : RoomState) (event : Event) → total_time (span_of room event) ≡ lapse event
span_lapse room (Turn cpu) = refl
span_lapse room (Resched cpu) = refl
span_lapse room (Block cpu) = refl
span_lapse room (Exit cpu) = refl
span_lapse room (Tick cpu) = refl
span_lapse room (Wake pid) = refl
span_lapse room (Advance delta) = zero-add delta
span_lapse room (Fork caller thread) = refl
span_lapse room (Prctl caller ask) = refl
span_lapse room (SetSched pid policy) = refl
span_lapse room (Offline cpu) = refl
span_lapse room (Online cpu) = refl
span_lapse room (Load index) = refl
span_lapse room (Unload index) = refl

clock_after : (moment : Moment) (entries : List Entry) → (after moment entries).room.clock ≡ moment.room.clock + total_time (spans_from moment entries)
clock_after moment [] = omega arith
clock_after moment (entry ∷ entries) =
    omega (
      arith,
      clock_after (next moment entry) entries,
      clock-step_by moment.room (is_fresh moment.ledger) entry.event,
      span_lapse moment.room entry.event,
      sum_by-append (λ (span : Span). span.time) (span_of moment.room entry.event) (spans_from (next moment entry) entries),
    )

-- All time of a history is what the clock shows after it.
pub total_time-clock : (opening : Opening) (history : History) → total_time (spans_of opening history) ≡ (fold_of opening history).clock
total_time-clock opening history = omega (arith, clock_after (beginning opening) history)
