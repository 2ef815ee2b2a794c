use Rattle.std.proofs.Common.{All, inl, inr, refl, ◌∙◌, sym, ap, subst, arith, rules, take_all}
use Rattle.std.specs.List.{flat_map}
use Rattle.std.proofs.lemmas.List.{drop_all}
use Rattle.std.proofs.lemmas.Option.{slice_get_cases}
use Rattle.cs_types.specs.declared.reply.Entry.{Entry}
use Rattle.scenario_text.specs.Text.{entry_text}
use Rattle.scenario_text.specs.Entry.{FitsReply}
use Rattle.cs_outside.proofs.Reached.{reached_more, reached_prefix, whole_prefix, reached_end}
use Rattle.room_report.proofs.Left.{entries_next, fits_more, all_taken}
use Rattle.room_report.proofs.parts.write_entries.Goals as goal
use Rattle.room_report.proofs.parts.write_entries.Goals.{in-Some+in_ok-entry_text, in_default}

pub returns-in_err-entry_text-clause-prefix : goal.returns-in_err-entry_text-clause-prefix
returns-in_err-entry_text-clause-prefix g c =
    reached_prefix _ _ _ _ _ _ _ _ c.loop-index.invariant.reached
    (entries_next (g.R.Room.history c.args.room.now) c.loop-index.index c.in-Some.entry (sym c.entry.ensures ∙ c.in-Some.is))
    refl c.entry_text.ensures.prefix

pub loop-index-preserved : goal.loop-index-preserved
loop-index-preserved g c =
    elim c.match-entry.branch [
      | in-Some+in_ok-entry_text w ↦ rw w.sink-is (record {
        reached = reached_more _ _ _ _ _ _ _ _ c.loop-index.invariant.reached
            (entries_next (g.R.Room.history c.args.room.now) c.loop-index.index w.in-Some.entry (sym c.entry.ensures ∙ w.in-Some.is))
            refl w.in_ok-entry_text.ensures.ok;
        faultless = w.in_ok-entry_text.ensures.faultless ∙ c.loop-index.invariant.faultless;
        numbers =
            fits_more (g.R.Room.history c.args.room.now) c.args.from c.loop-index.index w.in-Some.entry c.loop-index.auto.index (sym c.entry.ensures ∙ w.in-Some.is)
            c.loop-index.invariant.numbers (search rules);
      })
      | in_default w ↦ elim (slice_get_cases (g.R.Room.history c.args.room.now) c.loop-index.index).1 [
        | inl here ↦ absurd (w.in_default.not-Some here.0 (c.entry.ensures ∙ here.2))
        | inr past ↦ absurd (omega (arith, past.0, c.length-index-end.ensures.length, c.loop-index-test.true))
      ]
    ]

pub returns-clause-prefix : goal.returns-clause-prefix
returns-clause-prefix g c =
    whole_prefix _ _ _ (reached_end _ _ _ _ c.loop-index.invariant.reached
    (ap (flat_map entry_text) (drop_all c.loop-index.index (g.R.Room.history c.args.room.now) (omega (arith, c.length-index-end.ensures.length, c.loop-index-test.false)))))

pub returns-clause-numbers : goal.returns-clause-numbers
returns-clause-numbers g c =
    all_taken (g.R.Room.history c.args.room.now) c.args.from c.loop-index.index (omega (arith, c.length-index-end.ensures.length, c.loop-index-test.false))
    c.loop-index.invariant.numbers
