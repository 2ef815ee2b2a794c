use Rattle.std.proofs.Common.{◌≡◌, ℕ, ◌∙◌, ◌∷◌, ap, sym, subst, true, arith, length, List}
use Rattle.std.specs.Prelude.{filter, All, ◌+◌, ◌*◌, ◌<◌, ◌^◌}
use Rattle.std.proofs.lemmas.List.Elements.{All-weaker}
use Rattle.std.proofs.lemmas.List.Sums.{length-filter, count_by-le-length}
use Rattle.cs_types.specs.declared.task.Task.{Task}
use Rattle.cs_types.specs.Guards.{GuardState, GuardList, asked_each}
use Rattle.cs_types.specs.Access.{may_access, asked_about}
use Rattle.cs_laws.proofs.Accesses.{may_access-asked_each, asked_about-asked_each}
use Rattle.cs_laws.proofs.Askings.{asked-access}
use Rattle.std.specs.List.{list_all}
use Rattle.task_table.specs.Group.{is_in_group}
use Rattle.prctl_core.specs.Plan.{asked_about_all}
use Rattle.prctl_core.proofs.Asking.{asked-passes, all-goes}
use Rattle.prctl_core.proofs.members.may_access_all.Goals as goal

pub loop-member-preserved : goal.loop-member-preserved
loop-member-preserved g c =
    let first = c.args.guards.now.guards in
    let now = c.loop-member.guards.guards in
    let caller = c.args.caller.now in
    let member = c.in-Some.member.now in
    let others = c.next.new.self in
    let steps : c.loop-member.member-iterator ≡ member ∷ others = c.in-Some.ensures.steps in
    let most = 2 ^ 62 + 16 + 16 * length (filter (is_in_group c.args.group) c.args.table.now.tasks) in
    let asked = asked_about now caller member.spec in
    let passed = sym c.may_access.ensures.decision ∙ c.if-not-may_access.false in
    record {
      caps = c.may_access.ensures.caps ∙ c.loop-member.invariant.caps;
      alike = λ caller target.
          ap (λ (guards : GuardList). may_access guards caller target) c.may_access.ensures.asked
          ∙ may_access-asked_each now asked caller target ∙ c.loop-member.invariant.alike caller target;
      about = λ caller target.
          ap (λ (guards : GuardList). asked_about guards caller target) c.may_access.ensures.asked
          ∙ asked_about-asked_each now asked caller target ∙ c.loop-member.invariant.about caller target;
      rest = c.loop-member.invariant.rest
          ∙ ap (list_all (λ (task : Task). may_access first caller task.spec)) steps
          ∙ all-goes first now caller member others c.loop-member.invariant.alike c.loop-member.invariant.about true passed;
      asked = c.loop-member.invariant.asked
          ∙ ap (λ (tasks : List Task). asked_each now (asked_about_all first caller tasks)) steps
          ∙ asked-passes first now caller member others c.loop-member.invariant.alike c.loop-member.invariant.about passed
          ∙ ap (λ (guards : GuardList). asked_each guards (asked_about_all first caller others)) (sym c.may_access.ensures.asked);
      left = omega (arith, c.loop-member.invariant.left, ap (λ (tasks : List Task). length tasks) steps);
      counts = subst (λ (guards : GuardList). All (λ (guard : GuardState). guard.asked + 16 * length others < most) guards.all) (sym c.may_access.ensures.asked)
          (asked-access most (length others) now caller member.spec
          (omega (arith, c.loop-member.invariant.left, ap (λ (tasks : List Task). length tasks) steps)) c.may_access.ensures.few
          (subst (λ (n : ℕ). All (λ (guard : GuardState). guard.asked + 16 * n < most) now.all)
          (omega (arith, ap (λ (tasks : List Task). length tasks) steps)) c.loop-member.invariant.counts));
    }

pub may_access-requires : goal.may_access-requires
may_access-requires g c =
    let tasks = c.args.table.now.tasks in
    let members = filter (is_in_group c.args.group) tasks in
    let few : length members < 2 ^ 16 = omega (arith, length-filter (is_in_group c.args.group) tasks, count_by-le-length (is_in_group c.args.group) tasks, c.requires.few) in
    record {
      asked = All-weaker (λ (guard : GuardState). guard.asked + 16 * length c.loop-member.member-iterator < 2 ^ 62 + 16 + 16 * length members)
          (λ (guard : GuardState). guard.asked < 2 ^ 63)
          (λ guard is. omega (arith, is, few)) c.loop-member.guards.guards.all c.loop-member.invariant.counts;
    }
