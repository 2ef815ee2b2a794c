-- Recorded: how what is kept of a history goes on by one entry.
use Rattle.std.proofs.Common.{◌≡◌, ℕ, ◌+◌, ◌<◌, ◌^◌, Bool, true, false, cond, ltb, List, [], ◌∷◌, ◌++◌, map, length, refl, sym, ap, ◌∙◌, subst, arith, None}
use Rattle.std.specs.Prelude.{filter, replicate}
use Rattle.std.proofs.lemmas.Bool.{cond_both}
use Rattle.std.proofs.lemmas.List.{length-replicate}
use Rattle.cs_types.specs.declared.event.Event.{Event}
use Rattle.cs_types.specs.declared.event.Event.TheVariants.{Advance}
use Rattle.cs_types.specs.declared.reply.Entry.{Entry}
use Rattle.cs_types.specs.declared.task.Task.{Task}
use Rattle.cs_types.specs.declared.task.Policy.{Policy}
use Rattle.cs_types.specs.declared.task.Policy.TheVariants.{Stop, Deadline, Fifo, Rr, Fair}
use Rattle.cs_types.specs.Room.{Opening, RoomState}
use Rattle.cs_types.specs.Time.{is_running, grown_by, grown, advanced}
use Rattle.cs_types.specs.History.{History, Moment, step_at, moment_of, fold_of}
use Rattle.cs_types.specs.Drain.{IsDrained}
use Rattle.cs_laws.proofs.Histories.{moment_of-push}
use Rattle.run_times.specs.Doing.{has_queued}
use Rattle.run_times.specs.Times.{Span, advance_of, spans_of, total_time}
use Rattle.run_times.proofs.Clock.{total_time-clock}
use Rattle.run_times.proofs.Laws.{spans_of-drained}
use Rattle.run_times.proofs.Spans.{spans_of-advance, spans_of-still, total_time-push}
use Rattle.run_times.proofs.Shown.{is_on}
use Rattle.run_segments.specs.Segments.{segment_in, segments_of, IsGapless, segments_on}
use Rattle.run_segments.specs.Kept.{Kept, Marks, AreMarksOf, AreKept, HasSegmentsOf, IsRecordOf}
use Rattle.run_segments.proofs.Gapless.{gapless_in}
use Rattle.run_segments.proofs.Placed.{none_goes_on}

-- ---- an advance changes no queue

on-grown : (room : RoomState) (delta cpu : ℕ) (task : Task) → is_on cpu (grown room delta task) ≡ is_on cpu task
on-grown room delta cpu task =
    cond_both (is_running room task) (grown_by delta task.spec.policy task) task (λ (t : Task). is_on cpu t ≡ is_on cpu task) (λ _. kept task.spec.policy) (λ _. refl) where
      kept : (policy : Policy) → is_on cpu (grown_by delta policy task) ≡ is_on cpu task
      kept Stop = refl
      kept (Deadline relative) = refl
      kept (Fifo priority) = refl
      kept (Rr priority) = refl
      kept (Fair nice) = refl

queued-grown : (room : RoomState) (delta cpu : ℕ) (tasks : List Task) → length (filter (is_on cpu) (map (grown room delta) tasks)) ≡ length (filter (is_on cpu) tasks)
queued-grown room delta cpu [] = refl
queued-grown room delta cpu (task ∷ tasks) =
    ap (λ (b : Bool). length (cond b (grown room delta task ∷ filter (is_on cpu) (map (grown room delta) tasks)) (filter (is_on cpu) (map (grown room delta) tasks)))) (on-grown room delta cpu task)
    ∙ by_test (is_on cpu task) (queued-grown room delta cpu tasks) where
      by_test : (on : Bool) → length (filter (is_on cpu) (map (grown room delta) tasks)) ≡ length (filter (is_on cpu) tasks) →
          length (cond on (grown room delta task ∷ filter (is_on cpu) (map (grown room delta) tasks)) (filter (is_on cpu) (map (grown room delta) tasks))) ≡ length (cond on (task ∷ filter (is_on cpu) tasks) (filter (is_on cpu) tasks))
      by_test true rest = omega (arith, rest)
      by_test false rest = rest

has_queued-advanced : (room : RoomState) (delta cpu : ℕ) → has_queued (advanced room delta) cpu ≡ has_queued room cpu
unfolding advanced
has_queued-advanced room delta cpu = ap (ltb 0) (queued-grown room delta cpu room.tasks)

has_queued-more : (opening : Opening) (history : History) (entry : Entry) (time cpu : ℕ) → entry.event ≡ Advance time →
    has_queued (fold_of opening (history ++ entry ∷ [])) cpu ≡ has_queued (fold_of opening history) cpu
has_queued-more opening history entry time cpu is =
    ap (λ (m : Moment). has_queued m.room cpu) (moment_of-push opening history entry)
    ∙ ap (λ (event : Event). has_queued (step_at (moment_of opening history) event).room cpu) is
    ∙ has_queued-advanced (fold_of opening history) time cpu

-- ---- what is kept

-- nothing is kept of no entries
pub none_kept : (opening : Opening) (siblings : ℕ) (kept : Kept) (marks : Marks) → opening.scenario.siblings ≡ siblings → kept ≡ record { segments = []; places = replicate siblings 0 } →
    AreMarksOf siblings (fold_of opening []) marks → IsRecordOf opening [] kept marks
none_kept opening siblings kept marks same none right =
    let each : length kept.places ≡ opening.scenario.siblings = ap (λ (k : Kept). length k.places) none ∙ length-replicate siblings 0 ∙ sym same in
    record {
      each = each;
      segments = λ fits.
          subst (AreKept opening.scenario.siblings []) (sym none)
          (record {
            follow = tt;
            segments = refl;
            placed = record {
              each = length-replicate siblings 0 ∙ sym same;
              last = λ place d few. absurd (omega arith);
              goes_on = λ cpu next below now. none_goes_on (record { segments = []; places = replicate siblings 0 }) (segment_in next cpu) (omega arith);
            };
          });
      marks = subst (λ n. AreMarksOf n (fold_of opening []) marks) (sym same) right;
    }

-- with an advance
pub kept_more : (opening : Opening) (history : History) (entry : Entry) (time from to : ℕ) (before after : Kept) (marks marks_after : Marks) →
    entry.event ≡ Advance time → 0 < time → from ≡ (fold_of opening history).clock → (from + time < 2 ^ 64 → from + time ≡ to) →
    IsRecordOf opening history before marks → length after.places ≡ opening.scenario.siblings → AreMarksOf opening.scenario.siblings (fold_of opening history) marks_after →
    ((spans : List Span) (span : Span) → span.room ≡ fold_of opening history → span.room.clock ≡ from → from + span.time ≡ to → 0 < span.time → total_time spans ≡ from →
    AreKept opening.scenario.siblings spans before → AreKept opening.scenario.siblings (spans ++ span ∷ []) after) →
    IsRecordOf opening (history ++ entry ∷ []) after marks_after
kept_more opening history entry time from to before after marks marks_after is lasts now ends was each right goes =
    let spans = spans_of opening history in
    let span : Span = record { room = fold_of opening history; time = time } in
    let so_far : total_time spans ≡ from = total_time-clock opening history ∙ sym now in
    let more : spans_of opening (history ++ entry ∷ []) ≡ spans ++ span ∷ [] = spans_of-advance opening history entry time (ap advance_of is) in
    let total : total_time (spans_of opening (history ++ entry ∷ [])) ≡ from + time =
    ap total_time more ∙ total_time-push spans (fold_of opening history) time ∙ ap (λ n. n + time) so_far in
    record {
      each = each;
      segments = λ fits.
          let fit : from + time < 2 ^ 64 = omega (arith, fits, total) in
          subst (λ (ss : List Span). AreKept opening.scenario.siblings ss after) (sym more)
          (goes spans span refl (sym now) (ends fit) lasts so_far (was.segments (omega (arith, so_far, fit))));
      marks = record {
        each = right.each;
        right = λ known cpu none few. right.right known cpu none few ∙ sym (has_queued-more opening history entry time cpu is);
      };
    }

-- what takes no time leaves the segments as they are
segments_still : (opening : Opening) (past now : History) (kept : Kept) → spans_of opening past ≡ spans_of opening now → HasSegmentsOf opening past kept → HasSegmentsOf opening now kept
segments_still opening past now kept same were fits =
    subst (λ (spans : List Span). AreKept opening.scenario.siblings spans kept) same (were (omega (arith, fits, ap total_time same)))

-- any other entry
pub kept_still : (opening : Opening) (history : History) (entry : Entry) (before after : Kept) (marks marks_after : Marks) → advance_of entry.event ≡ None → after ≡ before →
    AreMarksOf opening.scenario.siblings (fold_of opening (history ++ entry ∷ [])) marks_after → IsRecordOf opening history before marks →
    IsRecordOf opening (history ++ entry ∷ []) after marks_after
kept_still opening history entry before after marks marks_after still same right was =
    record {
      each = ap (λ (k : Kept). length k.places) same ∙ was.each;
      segments = subst (HasSegmentsOf opening (history ++ entry ∷ [])) (sym same)
          (segments_still opening history (history ++ entry ∷ []) before (sym (spans_of-still opening history entry still)) was.segments);
      marks = right;
    }

-- the entries of the end
pub kept_drained : (opening same : Opening) (past now : History) (before after : Kept) → same ≡ opening → IsDrained opening past now → after ≡ before →
    HasSegmentsOf opening past before → HasSegmentsOf same now after
kept_drained opening same past now before after alike drained still were =
    subst (λ (o : Opening). HasSegmentsOf o now after) (sym alike)
    (subst (HasSegmentsOf opening now) (sym still) (segments_still opening past now before (spans_of-drained opening past now drained) were))

-- in whichever way the opening and the history are written
pub kept_alike : (opening same : Opening) (past now : History) (entry : Entry) (kept : Kept) (marks : Marks) → same ≡ opening → now ≡ past ++ entry ∷ [] →
    ((other : Entry) → other.event ≡ entry.event → IsRecordOf opening (past ++ other ∷ []) kept marks) → IsRecordOf same now kept marks
kept_alike opening same past now entry kept marks alike one_more told =
    subst (λ (o : Opening). IsRecordOf o now kept marks) (sym alike) (subst (λ (h : History). IsRecordOf opening h kept marks) (sym one_more) (told entry refl))

-- the clock of a room fits, so they are kept
pub all_kept : (opening : Opening) (history : History) (clock : ℕ) (kept : Kept) → clock ≡ (fold_of opening history).clock → clock < 2 ^ 64 →
    HasSegmentsOf opening history kept → AreKept opening.scenario.siblings (spans_of opening history) kept
all_kept opening history clock kept now fits are = are (omega (arith, fits, now, total_time-clock opening history))

-- without a gap
pub gapless_of : (opening : Opening) (history : History) (kept : Kept) (cpu : ℕ) → cpu < opening.scenario.siblings → AreKept opening.scenario.siblings (spans_of opening history) kept →
    IsGapless 0 (segments_on cpu (segments_of opening history)) (fold_of opening history).clock
gapless_of opening history kept cpu below are =
    subst (IsGapless 0 (segments_on cpu (segments_of opening history))) (total_time-clock opening history)
    (gapless_in opening.scenario.siblings cpu below (spans_of opening history) are.follow)
