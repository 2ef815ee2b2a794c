-- Drained: that the final drain, which takes no time, leaves the parts as they are, and what the summary keeps then.
use Rattle.std.proofs.Common.{◌≡◌, ℕ, ◌≤◌, List, ap, ◌∙◌, subst, arith}
use Rattle.std.specs.Prelude.{All}
use Rattle.cs_types.specs.Room.{Opening}
use Rattle.cs_types.specs.History.{History}
use Rattle.cs_types.specs.Drain.{IsDrained}
use Rattle.run_times.specs.declared.by.By.{By}
use Rattle.run_times.specs.declared.by.By.TheVariants.{Cookie, Group}
use Rattle.run_times.specs.Doing.{some_apart}
use Rattle.run_times.specs.Times.{Span, spans_of, time_in}
use Rattle.run_times.specs.Sums.{Times}
use Rattle.run_times.proofs.Laws.{spans_of-drained, times_of-drained}
use Rattle.pair_times.specs.declared.rows.PairTime.{PairTime}
use Rattle.pair_times.specs.Pairs.{Pairs, ArePairsIn, ArePairsOf}
use Rattle.pair_times.proofs.Laws.{rows-le}
use Rattle.task_times.proofs.Summed.{sums_so_far-drained}
use Rattle.run_summary.specs.Summaries.{Summary, ArePartsOf, IsSummaryOf}

pub parts_of-drained : (opening : Opening) (past now : History) (summary : Summary) → IsDrained opening past now → ArePartsOf opening past summary → ArePartsOf opening now summary
parts_of-drained opening past now summary drained parts =
    record {
      times = parts.times ∙ times_of-drained opening past now drained;
      pairs = record {
        by_cookie = parts.pairs.by_cookie;
        by_group = parts.pairs.by_group;
        cookie_pairs = subst (λ (spans : List Span). ArePairsIn summary.cookie_pairs.by spans summary.cookie_pairs.rows) (spans_of-drained opening past now drained) parts.pairs.cookie_pairs;
        group_pairs = subst (λ (spans : List Span). ArePairsIn summary.group_pairs.by spans summary.group_pairs.rows) (spans_of-drained opening past now drained) parts.pairs.group_pairs;
      };
      tasks = parts.tasks ∙ sums_so_far-drained summary.tasks.entries opening past now drained;
    }

-- No pair ran side by side for longer than any did.
pairs-le : (by : By) (opening : Opening) (history : History) (pairs : Pairs) (most : ℕ) → pairs.by ≡ by → ArePairsOf opening history pairs → most ≡ time_in (some_apart by) (spans_of opening history) →
    All (λ (row : PairTime). row.time ≤ most) pairs.rows
pairs-le by opening history pairs most is are all k d few =
    omega (
      arith,
      rows-le pairs.by (spans_of opening history) pairs.rows are k d few,
      ap (λ (b : By). time_in (some_apart b) (spans_of opening history)) is,
      all,
    )

pub cookie_pairs-le : (opening : Opening) (history : History) (summary : Summary) → IsSummaryOf opening history summary →
    All (λ (row : PairTime). row.time ≤ summary.times.exposed.all) summary.cookie_pairs.rows
cookie_pairs-le opening history summary parts =
    pairs-le Cookie opening history summary.cookie_pairs summary.times.exposed.all parts.pairs.by_cookie parts.pairs.cookie_pairs (ap (λ (times : Times). times.exposed.all) parts.times)

pub group_pairs-le : (opening : Opening) (history : History) (summary : Summary) → IsSummaryOf opening history summary →
    All (λ (row : PairTime). row.time ≤ summary.times.mixed.all) summary.group_pairs.rows
group_pairs-le opening history summary parts =
    pairs-le Group opening history summary.group_pairs summary.times.mixed.all parts.pairs.by_group parts.pairs.group_pairs (ap (λ (times : Times). times.mixed.all) parts.times)
