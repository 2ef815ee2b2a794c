-- Asking: how the walk over the members goes on by one, where asking changed neither who may be accessed nor who is asked.
use Rattle.std.proofs.Common.{◌≡◌, ℕ, Bool, true, cond, List, [], ◌∷◌, ◌++◌, sym, ap, ◌∙◌}
use Rattle.std.specs.Prelude.{◌&&◌, not}
use Rattle.std.specs.List.{list_all}
use Rattle.cs_types.specs.declared.task.Task.{Task}
use Rattle.cs_types.specs.declared.task.TaskSpec.{TaskSpec}
use Rattle.cs_types.specs.Guards.{GuardList, asked_each}
use Rattle.cs_types.specs.Access.{may_access, asked_about}
use Rattle.cs_laws.proofs.Accesses.{asked_each-append}
use Rattle.prctl_core.specs.Plan.{asked_about_all}

module _ (first now : GuardList) (caller : TaskSpec) (task : Task) (rest : List Task)
    (may : (caller target : TaskSpec) → may_access now caller target ≡ may_access first caller target)
    (about : (caller target : TaskSpec) → asked_about now caller target ≡ asked_about first caller target) where
  -- the guards that are asked about the others
  abbrev others : List ℕ
  others = asked_about_all first caller rest

  -- it may be accessed, so the others come next
  pub asked-passes : may_access now caller task.spec ≡ true →
      asked_each now (asked_about_all first caller (task ∷ rest)) ≡ asked_each (asked_each now (asked_about now caller task.spec)) others
  asked-passes passes =
      ap (λ b. asked_each now (asked_about first caller task.spec ++ cond (not b) [] others)) (sym (may caller task.spec) ∙ passes)
      ∙ asked_each-append now (asked_about first caller task.spec) others
      ∙ ap (λ (asked : List ℕ). asked_each (asked_each now asked) others) (sym (about caller task.spec))

  -- whether all may goes by the others, or is settled
  pub all-goes : (passes : Bool) → may_access now caller task.spec ≡ passes →
      list_all (λ (member : Task). may_access first caller member.spec) (task ∷ rest)
      ≡ (passes && list_all (λ (member : Task). may_access first caller member.spec) rest)
  all-goes passes is = ap (λ b. b && list_all (λ (member : Task). may_access first caller member.spec) rest) (sym (may caller task.spec) ∙ is)
