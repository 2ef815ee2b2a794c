-- Summary: what is written of a drill's run: how many entries there are, how many picks of each kind and how many tries
-- to steal, and then the report.
use Rattle.std.specs.Prelude.{ℕ, ◌+◌, Bool, true, false, if◌then◌else◌, List, [], ◌∷◌, ◌++◌, length, codes, decimal}
use Rattle.std.specs.List.{count_by}
use Rattle.std.specs.Option.{option_map_or}
use Rattle.cs_types.specs.declared.reply.Kind.{Kind}
use Rattle.cs_types.specs.declared.reply.Kind.TheVariants.{Selected, Adopted, Plain}
use Rattle.cs_types.specs.declared.reply.Reply.{Reply}
use Rattle.cs_types.specs.declared.reply.Reply.TheVariants.{Stole, Missed}
use Rattle.cs_types.specs.Room.{Opening}
use Rattle.cs_types.specs.Touches.{pick_of, is_selected, is_adopted}
use Rattle.cs_types.specs.History.{History, moment_of}
use Rattle.scenario_text.specs.Words.{Word}
use Rattle.room_report.specs.Report.{lines_text, report_text}
use Rattle.room_drill.specs.Drill.{drill_steps}
use Rattle.room_drill.specs.declared.tally.Tally.{Tally}

-- ---- what is counted

-- whether a sibling chose for itself alone
abbrev pub is_plain : Kind → Bool
is_plain Selected = false
is_plain Adopted = false
is_plain Plain = true

-- whether a reply has a pick of such a kind, even if a task went to sleep or ended before it
abbrev pub tells : (Kind → Bool) → Reply → Bool
tells is_kind reply = option_map_or (λ pick. is_kind pick.kind) (pick_of reply) false

-- whether a reply says that a task was stolen
abbrev pub is_steal : Reply → Bool
is_steal (Stole pid from) = true
is_steal reply = false

-- whether a reply says that a try to steal found nothing
abbrev pub is_miss : Reply → Bool
is_miss (Missed cpu) = true
is_miss reply = false

-- how many entries have such a reply
abbrev pub count_of : (Reply → Bool) → History → ℕ
count_of is_counted history = count_by (λ entry. is_counted entry.reply) history

-- the picks of each kind and the tries to steal of a history
abbrev pub tally_of : History → Tally
tally_of history =
    record {
      selected = count_of (tells is_selected) history;
      adopted = count_of (tells is_adopted) history;
      plain = count_of (tells is_plain) history;
      stole = count_of is_steal history;
      missed = count_of is_miss history;
    }

-- 1 if it is so, else 0
abbrev pub one_where : Bool → ℕ
one_where is_so = if is_so then 1 else 0

-- the tally of one more entry, by its reply
abbrev pub with_reply : Reply → Tally → Tally
with_reply reply tally =
    record {
      selected = tally.selected + one_where (tells is_selected reply);
      adopted = tally.adopted + one_where (tells is_adopted reply);
      plain = tally.plain + one_where (tells is_plain reply);
      stole = tally.stole + one_where (is_steal reply);
      missed = tally.missed + one_where (is_miss reply);
    }

-- how many picks and tries to steal these are
abbrev pub total : Tally → ℕ
total tally = tally.selected + tally.adopted + tally.plain + tally.stole + tally.missed

-- ---- the lines

-- `drill` SEED `steps` 20000 `entries` N
abbrev pub drill_words : ℕ → ℕ → List Word
drill_words seed entries =
    codes "drill" ∷ decimal seed ∷ codes "steps" ∷ decimal drill_steps ∷ codes "entries" ∷ decimal entries ∷ []

-- `picks` SELECTED ADOPTED PLAIN
abbrev pub picks_words : Tally → List Word
picks_words tally =
    codes "picks" ∷ decimal tally.selected ∷ decimal tally.adopted ∷ decimal tally.plain ∷ []

-- `steals` STOLE MISSED
abbrev pub steals_words : Tally → List Word
steals_words tally = codes "steals" ∷ decimal tally.stole ∷ decimal tally.missed ∷ []

-- the lines before the report
abbrev pub summary_lines : ℕ → History → List (List Word)
summary_lines seed history =
    drill_words seed (length history) ∷ picks_words (tally_of history) ∷ steals_words (tally_of history) ∷ []

-- the drill's output: these lines, and the report of the moment after the history
abbrev pub summary_text : ℕ → Opening → History → List ℕ
summary_text seed opening history =
    lines_text (summary_lines seed history) ++ report_text (moment_of opening history)
