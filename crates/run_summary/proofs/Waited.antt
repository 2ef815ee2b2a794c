-- Waited: that the waits of a task from a wake to its run are part of the time that it waited.
use Rattle.std.proofs.Common.{◌≡◌, ℕ, ◌<◌, ◌≤◌, map, length, get_or, ap, ◌∙◌, arith}
use Rattle.std.specs.List.{range_with_len}
use Rattle.std.proofs.lemmas.List.FromFn.{length-map-range_with_len}
use Rattle.cs_types.specs.Room.{Opening}
use Rattle.cs_types.specs.History.{History, fold_of}
use Rattle.run_times.specs.Times.{spans_of, time_in}
use Rattle.task_times.specs.declared.times.TaskTimes.{TaskTimes}
use Rattle.task_times.specs.Living.{charged_in, cookie_at, waits}
use Rattle.task_times.specs.TaskSums.{TaskSums, does_so, task_times, pids_for, sums_of}
use Rattle.task_times.proofs.Summed.{row_at}
use Rattle.wait_times.specs.declared.rows.TaskWaits.{TaskWaits}
use Rattle.wait_times.specs.Rows.{Waits, row_of, waits_of}
use Rattle.wait_times.specs.Waits.{waits_at}

pub part_of_waited : (opening : Opening) (history : History) (entries kept : ℕ) (sums : TaskSums) (all : Waits) → sums ≡ sums_of entries opening history → all ≡ waits_of kept opening history → kept ≡ entries →
    ((pid : ℕ) (none : TaskWaits) → pid < length all.rows → (get_or all.rows pid none).sum ≤ time_in (does_so waits pid) (spans_of opening history)) →
    (pid : ℕ) (row : TaskWaits) (times : TaskTimes) → pid < length all.rows → (get_or all.rows pid row).sum ≤ (get_or sums.tasks pid times).by_doing.waited
part_of_waited opening history entries kept sums all are told same bounded pid row times few =
    let of : ℕ → TaskTimes = λ p. task_times (charged_in (fold_of opening history) p) (cookie_at opening history p) (spans_of opening history) p in
    let is : sums.tasks ≡ map of (range_with_len 0 (pids_for entries)) = ap (λ (s : TaskSums). s.tasks) are in
    let many : length sums.tasks ≡ pids_for entries = ap length is ∙ length-map-range_with_len of 0 (pids_for entries) in
    let rows : length all.rows ≡ pids_for kept =
    ap (λ (w : Waits). length w.rows) told ∙ length-map-range_with_len (λ p. row_of (waits_at opening history p)) 0 (pids_for kept) in
    let at = ap (λ (t : TaskTimes). t.by_doing.waited) (row_at of (pids_for entries) sums.tasks is pid times (omega (arith, many, rows, same, few))) in
    omega (arith, bounded pid row few, at)
