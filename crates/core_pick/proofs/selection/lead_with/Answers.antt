use Rattle.std.proofs.Common.{◌≡◌, ◌∙◌, [], ◌∷◌, Bool, true, false, Option, Some, None, refl, ap, sym, cond, map}
use Rattle.std.specs.Prelude.{◌==◌}
use Rattle.std.proofs.lemmas.Bool.{cond-true, cond-false}
use Rattle.cs_types.specs.declared.task.Task.{Task}
use Rattle.cs_types.specs.Room.{is_online}
use Rattle.cs_types.specs.Order.{outranks, idle_class}
use Rattle.cs_types.specs.Selection.{first_on, pid_of, snapshot_of}
use Rattle.core_lanes.specs.Lanes.{lane_state, room_of}
use Rattle.core_lanes.proofs.Stays.{policies_of}
use Rattle.sibling_priority.specs.Offers.{IsFirst}
use Rattle.core_pick.specs.declared.lead.First.{First}
use Rattle.core_pick.specs.Choice.{kept_in, is_above, offered, lead_of, choice_of, run_of}
use Rattle.core_pick.proofs.Leads.{higher-kept_in, is_first, lead_of-append, lead_of-one, of_offered, of_lead}
use Rattle.core_pick.proofs.Choices.{run_of-choice_of}
use Rattle.core_pick.proofs.Ranges.{low_snapshots}
use Rattle.core_pick.proofs.selection.lead_with.Goals as goal

pub returns-then-is_online : goal.returns-then-is_online
returns-then-is_online g c table may is beside order before =
    let cpu = c.args.cpu in
    let room = room_of beside (c.args.core.now, table) in
    let on : is_online room cpu ≡ true = sym (c.is_online.ensures beside table) ∙ c.if-is_online.true in
    let first : c.args.first ≡ kept_in room (offered room cpu) = is beside ∙ ap (kept_in room) (sym (cond-true (is_online room cpu) (first_on room cpu) None on)) in
    let each = is_first room (policies_of (c.args.core.now, table) may.at.agree) in
    let low = low_snapshots (map lane_state c.args.core.now.lanes.items) may.low.snapshots in
    c.or_higher.ensures
    ∙ (λ i. let lead : First = before i in let other : First = first i in cond (is_above other lead) other lead)
    ∙ higher-kept_in room low (lead_of room order) (offered room cpu) (of_lead room IsFirst tt each order) (of_offered room IsFirst tt each cpu)
    ∙ ap (kept_in room) ((λ i. let other : Option Task = sym (lead_of-one room cpu) i in cond (outranks (snapshot_of room) other (lead_of room order)) other (lead_of room order)) ∙ sym (lead_of-append room order (cpu ∷ [])))

pub returns-else-is_online : goal.returns-else-is_online
returns-else-is_online g c table may is beside order before =
    let cpu = c.args.cpu in
    let room = room_of beside (c.args.core.now, table) in
    let off : is_online room cpu ≡ false = sym (c.is_online.ensures beside table) ∙ c.if-is_online.false in
    let none : lead_of room (cpu ∷ []) ≡ None = lead_of-one room cpu ∙ cond-false (is_online room cpu) (first_on room cpu) None off in
    before
    ∙ ap (kept_in room) (sym (lead_of-append room order (cpu ∷ [])
    ∙ (λ i. let other : Option Task = none i in cond (outranks (snapshot_of room) other (lead_of room order)) other (lead_of room order))))

-- what has no pid is idle
no_task : (task : Option Task) → pid_of task ≡ None → task ≡ None
no_task None none = refl
no_task (Some task) none = absurd cc

offered_none : (online : Bool) → ◌≡◌ {A = Option Task} (cond online None None) None
offered_none true = refl
offered_none false = refl

pub returns-then-is_idle : goal.returns-then-is_idle
returns-then-is_idle g c table may is beside order before =
    let cpu = c.args.cpu in
    let room = room_of beside (c.args.core.now, table) in
    let first : c.args.first.choice ≡ choice_of (first_on room cpu) = ap (λ (kept : First). kept.choice) (is beside) in
    let run : run_of c.args.first.choice ≡ None = cond-true (c.args.first.choice.class == idle_class) None (Some c.args.first.choice.pid) (sym c.is_idle.ensures ∙ c.if-is_idle.true) in
    let idle : first_on room cpu ≡ None = no_task (first_on room cpu) (sym (run_of-choice_of (first_on room cpu)) ∙ ap run_of (sym first) ∙ run) in
    let none : lead_of room (cpu ∷ []) ≡ None = lead_of-one room cpu ∙ ap (λ (task : Option Task). cond (is_online room cpu) task None) idle ∙ offered_none (is_online room cpu) in
    before
    ∙ ap (kept_in room) (sym (lead_of-append room order (cpu ∷ [])
    ∙ (λ i. let other : Option Task = none i in cond (outranks (snapshot_of room) other (lead_of room order)) other (lead_of room order))))
