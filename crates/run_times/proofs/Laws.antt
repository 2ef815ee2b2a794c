-- Laws: what the times of every legal history keep.
use Rattle.std.proofs.Common.{◌≡◌, ℕ, ◌<◌, ◌≤◌, Bool, true, false, cond, List, [], ◌∷◌, ◌++◌, map, length, refl, sym, ap, ◌∙◌, subst, append_assoc, inl, inr, arith, Option, Some, None}
use Rattle.std.specs.Prelude.{is_some, All, Contains, IsSomeAnd}
use Rattle.std.specs.List.{AllByRecursion, range_with_len}
use Rattle.std.specs.Option.{option_map, option_to_list}
use Rattle.std.proofs.lemmas.Bool.{cases_Bool, both_ways, and_from, and_parts, false_from_ne_true}
use Rattle.std.proofs.lemmas.List.{append-nil}
use Rattle.std.proofs.lemmas.List.Elements.{All-map, All-from_recursion, recursion_from_All}
use Rattle.cs_types.specs.declared.task.Task.{Task}
use Rattle.cs_types.specs.declared.reply.Entry.{Entry}
use Rattle.cs_types.specs.Scenario.{IsEvent, IsPlayable}
use Rattle.cs_types.specs.Room.{Opening, RoomState, sibling_of, running_on, is_online, online}
use Rattle.cs_types.specs.History.{History, Moment, next, moment_of, fold_of, AreEvents, IsLegal}
use Rattle.cs_types.specs.Drain.{IsEndFrom, IsDrained}
use Rattle.cs_types.specs.Laws.{IsSettled}
use Rattle.cs_types.proofs.Filtered.{Contains-filter, Contains-range}
use Rattle.cs_laws.proofs.Histories.{moment_of-push}
use Rattle.cs_laws.proofs.Trust.{settled-moment_of}
use Rattle.run_times.specs.declared.siblings.SiblingTimes.{SiblingTimes}
use Rattle.run_times.specs.declared.by.By.TheVariants.{Cookie}
use Rattle.run_times.specs.Doing.{is_busy, is_pending, some_pending, is_exposed}
use Rattle.run_times.specs.Times.{Span, advance_of, span_of, spans_from, spans_of, total_time}
use Rattle.run_times.specs.Sums.{sibling_times, did, times_in, times_of}
use Rattle.run_times.proofs.Below.{some_below}
use Rattle.run_times.proofs.Exposed.{RunsShared, none_apart}
use Rattle.run_times.proofs.Spans.{spans_from-append, time_in-le, did-sibling_times}

-- ---- what each sibling did adds up to all time

pub each_adds_up : (siblings : ℕ) (spans : List Span) → All (λ (times : SiblingTimes). did times ≡ total_time spans) (map (sibling_times spans) (range_with_len 0 siblings))
each_adds_up siblings spans =
    All-map (λ (times : SiblingTimes). did times ≡ total_time spans) (sibling_times spans) (range_with_len 0 siblings) (λ k d few. did-sibling_times spans _)

-- ---- the final drain takes no time

no_spans : (moment : Moment) (entries : List Entry) → IsEndFrom moment entries → spans_from moment entries ≡ []
no_spans moment [] ends = refl
no_spans moment (entry ∷ entries) ends =
    let still : advance_of entry.event ≡ None = ap (λ (e : Entry). advance_of e.event) ends.2 in
    ap (λ (o : Option ℕ). option_to_list (option_map (λ n. record { room = moment.room; time = n }) o) ++ spans_from (next moment entry) entries) still
    ∙ no_spans (next moment entry) entries ends.3

pub spans_of-drained : (opening : Opening) (past now : History) → IsDrained opening past now → spans_of opening past ≡ spans_of opening now
spans_of-drained opening past now drained =
    sym (ap (spans_of opening) drained.added
    ∙ spans_from-append _ past drained.made
    ∙ ap (λ (spans : List Span). spans_of opening past ++ spans) (no_spans (moment_of opening past) drained.made drained.ends)
    ∙ append-nil (spans_of opening past))

pub times_of-drained : (opening : Opening) (past now : History) → IsDrained opening past now → times_of opening past ≡ times_of opening now
times_of-drained opening past now drained = ap (times_in opening.scenario.siblings) (spans_of-drained opening past now drained)

-- ---- exposure

-- if the trust rule holds, a sibling that is neither idle nor pending runs a task with the core cookie
runs_core_cookie : (room : RoomState) (k : ℕ) → IsSettled room → k < length room.siblings → is_pending room k ≡ false → is_busy room k ≡ true →
    RunsShared Cookie room (Some room.core_cookie) k
runs_core_cookie room k settled below calm busy = by_online (and_parts (is_online room k) (is_some (sibling_of room k).run) busy) where
  its : (on : Bool) (found : Option Task) → on ≡ true → IsSomeAnd found (λ task. task.cookie ≡ room.core_cookie) →
      (cookie : ℕ) × (cond on (option_map (λ (task : Task). task.cookie) found) None ≡ Some cookie) × (Some room.core_cookie ≡ Some cookie)
  its false found up same = absurd cc
  its true None up same = absurd same
  its true (Some task) up same = (task.cookie, refl, ap Some (sym same))

  by_online : (is_online room k ≡ true) × (is_some (sibling_of room k).run ≡ true) → RunsShared Cookie room (Some room.core_cookie) k
  by_online parts =
      let up = parts.0 in
      let quiet : (sibling_of room k).pending ≡ false =
      false_from_ne_true (sibling_of room k).pending (λ raised. both_ways (is_pending room k) calm (and_from (is_online room k) (sibling_of room k).pending up raised)) in
      let held : Contains (online room) k = Contains-filter (is_online room) (range_with_len 0 (length room.siblings)) k (Contains-range 0 (length room.siblings) k (omega arith) (omega (arith, below))) up in
      elim (settled k held quiet) [
        | inl none ↦ absurd (let wrong : false ≡ true = sym (ap is_some none) ∙ parts.1 in cc)
        | inr same ↦ its (is_online room k) (running_on room k) up same
      ]

-- so if tasks with distinct cookies run side by side, some sibling is pending
pub exposed_is_pending : (room : RoomState) → IsSettled room → is_exposed room ≡ true → some_pending room ≡ true
exposed_is_pending room settled exposed =
    elim (cases_Bool (some_pending room)) [
      | inl some ↦ some
      | inr none ↦
          let each_calm : (k : ℕ) → k < length room.siblings → is_pending room k ≡ false =
          λ k below. false_from_ne_true (is_pending room k) (λ is. both_ways (some_pending room) none (some_below (is_pending room) (length room.siblings) k below is)) in
          absurd (both_ways (is_exposed room) (none_apart Cookie room (Some room.core_cookie) (λ k below busy. runs_core_cookie room k settled below (each_calm k below) busy)) exposed)
    ]

abbrev IsCovered : Span → Type 0
IsCovered span = is_exposed span.room ≡ true → some_pending span.room ≡ true

both_parts : (xs ys : List Span) → AllByRecursion IsCovered xs → AllByRecursion IsCovered ys → AllByRecursion IsCovered (xs ++ ys)
both_parts [] ys here there = there
both_parts (x ∷ xs) ys here there = (here.0, both_parts xs ys here.1 there)

covered_here : (room : RoomState) (advance : Option ℕ) → IsSettled room → AllByRecursion IsCovered (option_to_list (option_map (λ n. record { room = room; time = n }) advance))
covered_here room None settled = tt
covered_here room (Some time) settled = (exposed_is_pending room settled, tt)

covered_from : (opening : Opening) (whole past entries : History) → whole ≡ past ++ entries →
    ((before rest : History) → whole ≡ before ++ rest → IsSettled (fold_of opening before)) → AllByRecursion IsCovered (spans_from (moment_of opening past) entries)
covered_from opening whole past [] is settled = tt
covered_from opening whole past (entry ∷ entries) is settled =
    both_parts (span_of (fold_of opening past) entry.event) (spans_from (next (moment_of opening past) entry) entries)
    (covered_here (fold_of opening past) (advance_of entry.event) (settled past (entry ∷ entries) is))
    (subst (λ (moment : Moment). AllByRecursion IsCovered (spans_from moment entries)) (moment_of-push opening past entry)
    (covered_from opening whole (past ++ entry ∷ []) entries (is ∙ sym (append_assoc past (entry ∷ []) entries)) settled))

-- each part of a legal history keeps the trust rule
first_entries : (P : Entry → Type 0) (past rest : History) → AllByRecursion P (past ++ rest) → AllByRecursion P past
first_entries P [] rest all = tt
first_entries P (entry ∷ past) rest all = (all.0, first_entries P past rest all.1)

settled_so_far : (opening : Opening) (history : History) → IsPlayable opening.scenario → AreEvents opening history → IsLegal opening history →
    (past rest : History) → history ≡ past ++ rest → IsSettled (fold_of opening past)
settled_so_far opening history playable events legal past rest is =
    let P : Entry → Type 0 = λ entry. IsEvent opening.scenario.siblings entry.event in
    settled-moment_of opening past playable
    (All-from_recursion P past (first_entries P past rest (recursion_from_All P (past ++ rest) (subst (All P) is events))))
    (λ before entry after e. legal before entry (after ++ rest) (is ∙ ap (λ (h : History). h ++ rest) e ∙ append_assoc before (entry ∷ after) rest))

-- In every legal history tasks with distinct cookies run side by side for no longer than some sibling is pending.
pub exposed-le : (opening : Opening) (history : History) → IsPlayable opening.scenario → AreEvents opening history → IsLegal opening history →
    (times_of opening history).exposed.all ≤ (times_of opening history).pending
exposed-le opening history playable events legal =
    time_in-le is_exposed some_pending (spans_of opening history) (covered_from opening history [] history refl (settled_so_far opening history playable events legal))
