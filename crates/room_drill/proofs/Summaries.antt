-- Summaries: which lines of a summary are left at its start.
use Rattle.std.proofs.Common.{◌≡◌, ℕ, List, [], ◌++◌, sym, ap, ◌∙◌, Option}
use Rattle.std.proofs.lemmas.List.{append-nil}
use Rattle.std.proofs.lemmas.List.Concat.{flat_map-append}
use Rattle.cs_types.specs.Room.{Opening}
use Rattle.cs_types.specs.History.{History, Moment, moment_of}
use Rattle.cs_outside.specs.Device.{appended}
use Rattle.scenario_text.specs.Words.{Word}
use Rattle.scenario_text.specs.Text.{line}
use Rattle.cs_outside.proofs.Reached.{AreLeft, reached_start, none_left, part_more}
use Rattle.room_report.specs.Report.{lines_text, report_lines, report_text}
use Rattle.room_drill.specs.Summary.{summary_lines, summary_text}

-- at the start the lines before the report are left, and then those of the report
pub summary_left : (before : Option (List ℕ)) (seed : ℕ) (opening : Opening) (history : History) →
    AreLeft line before (summary_text seed opening history) (summary_lines seed history ++ (report_lines (moment_of opening history) ++ [])) before
summary_left before seed opening history =
    let report : List (List Word) = report_lines (moment_of opening history) in
    let first : List (List Word) = summary_lines seed history in
    record {
      reached =
          reached_start before (summary_text seed opening history) (lines_text (first ++ (report ++ [])))
          (ap (λ (lines : List (List Word)). lines_text first ++ lines_text lines) (sym (append-nil report)) ∙ sym (flat_map-append line first (report ++ [])));
    }

-- where the report alone is left and goes out, all is written
pub report_sent : (before : Option (List ℕ)) (whole : List ℕ) (moment : Moment) (mid now : Option (List ℕ)) →
    AreLeft line before whole (report_lines moment ++ []) mid → now ≡ appended mid (report_text moment) → now ≡ appended before whole
report_sent before whole moment mid now so_far sent =
    none_left before whole now (part_more before whole (report_lines moment) [] mid now so_far sent)
