-- Cases: which case a schedule is, and what is a schedule by one change is one by another that does the same.
use Rattle.std.proofs.Common.{◌≡◌, ℕ, Bool, true, false, cond, refl, subst, sym, ap, ◌∙◌}
use Rattle.std.specs.Prelude.{Option, Some, None}
use Rattle.cs_types.specs.declared.reply.Pick.{Pick}
use Rattle.cs_types.specs.Room.{RoomState, sibling_of}
use Rattle.cs_types.specs.Selection.{Scheduled, adopt, pick_anew, adopt_or_pick_anew}
use Rattle.cs_types.specs.Accounting.{charge}
use Rattle.task_table.specs.Table.{Table}
use Rattle.core_lanes.specs.declared.queue.SiblingQueue.{Ghosts}
use Rattle.core_lanes.specs.declared.lanes.Core.{Core}
use Rattle.core_lanes.specs.Lanes.{Beside, at, beside_after, room_of}
use Rattle.core_lanes.specs.Numbers.{numbers_in, booked, took}
use Rattle.core_pick.specs.Schedules.{Schedules, ChargesAndSchedules}

-- ---- which case a schedule is

-- nothing may be adopted, or this may
pub is_not_adopted : (room : RoomState) (fresh : Bool) (cpu : ℕ) → None ≡ cond fresh (sibling_of room cpu).waiting None →
    adopt_or_pick_anew room fresh cpu (sibling_of room cpu).waiting ≡ pick_anew (charge room) cpu
is_not_adopted room fresh cpu none = go fresh (sibling_of room cpu).waiting none where
  go : (b : Bool) (waiting : Option (Option ℕ)) → None ≡ cond b waiting None → adopt_or_pick_anew room b cpu waiting ≡ pick_anew (charge room) cpu
  go b None e = refl
  go false (Some run) e = refl
  go true (Some run) e = absurd cc

pub is_adopted : (room : RoomState) (fresh : Bool) (cpu : ℕ) (run : Option ℕ) → Some run ≡ cond fresh (sibling_of room cpu).waiting None →
    adopt_or_pick_anew room fresh cpu (sibling_of room cpu).waiting ≡ adopt room cpu run
is_adopted room fresh cpu run some = go fresh (sibling_of room cpu).waiting some where
  go : (b : Bool) (waiting : Option (Option ℕ)) → Some run ≡ cond b waiting None → adopt_or_pick_anew room b cpu waiting ≡ adopt room cpu run
  go true None e = absurd cc
  go false None e = absurd cc
  go false (Some other) e = absurd cc
  go true (Some other) e = let same : other ≡ run = cc in ap (adopt room cpu) same

-- ---- one change by another

module _ {Q : Type 0} {g : Ghosts Q} (now : ℕ) (old new : Core Q g × Table) (cpu : ℕ) (chosen : Pick) (change other : RoomState → Scheduled)
    (same : (beside : Beside) → other (room_of (at now beside) old) ≡ change (room_of (at now beside) old)) where
  pub Schedules-same : Schedules now old new cpu chosen change → Schedules now old new cpu chosen other
  Schedules-same schedules =
      record {
        pick = λ beside. schedules.pick beside ∙ ap (λ (made : Scheduled). made.pick) (sym (same beside));
        room = λ beside. schedules.room beside ∙ ap (λ (made : Scheduled). made.room) (sym (same beside));
        numbers = schedules.numbers;
        stays = schedules.stays;
      }

  pub ChargesAndSchedules-same : ChargesAndSchedules now old new cpu chosen change → ChargesAndSchedules now old new cpu chosen other
  ChargesAndSchedules-same schedules =
      record {
        pick = λ beside. schedules.pick beside ∙ ap (λ (made : Scheduled). made.pick) (sym (same beside));
        room = λ beside. subst (λ (made : Scheduled). room_of (beside_after (at now beside) made.room) new ≡ made.room) (sym (same beside)) (schedules.room beside);
        numbers = λ beside kept. schedules.numbers beside kept
            ∙ ap (λ (made : Scheduled). took cpu chosen (booked made.room (numbers_in beside old))) (sym (same beside));
        stays = schedules.stays;
      }
