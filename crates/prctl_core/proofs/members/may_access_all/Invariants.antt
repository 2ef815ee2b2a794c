use Rattle.std.proofs.Common.{◌≡◌, ◌+◌, ◌*◌, ◌<◌, ◌≤◌, ◌^◌, filter, length}
use Rattle.std.specs.Prelude.{All}
use Rattle.std.specs.List.{list_all}
use Rattle.cs_types.specs.declared.task.TaskSpec.{TaskSpec}
use Rattle.cs_types.specs.Guards.{GuardState, asked_each}
use Rattle.cs_types.specs.Access.{may_access, asked_about}
use Rattle.task_table.specs.Group.{is_in_group}
use Rattle.prctl_core.specs.Plan.{asked_about_all}
use Rattle.prctl_core.proofs.members.may_access_all.Given as goal

abbrev pub invariant-loop-member : goal.invariant-loop-member
invariant-loop-member g l =
    let members = filter (is_in_group l.fn.group) l.table.tasks in
    record {
      caps : l.guards.caps ≡ l.initial.guards.caps;
      alike : (caller target : TaskSpec) → may_access l.guards.guards caller target ≡ may_access l.initial.guards.guards caller target;
      about : (caller target : TaskSpec) → asked_about l.guards.guards caller target ≡ asked_about l.initial.guards.guards caller target;
      rest : list_all (λ member. may_access l.initial.guards.guards l.caller member.spec) members
          ≡ list_all (λ member. may_access l.initial.guards.guards l.caller member.spec) l.member-iterator;
      asked : asked_each l.initial.guards.guards (asked_about_all l.initial.guards.guards l.caller members)
          ≡ asked_each l.guards.guards (asked_about_all l.initial.guards.guards l.caller l.member-iterator);
      left : length l.member-iterator ≤ length members;
      counts : All (λ (guard : GuardState). guard.asked + 16 * length l.member-iterator < 2 ^ 62 + 16 + 16 * length members) l.guards.guards.all;
    }
