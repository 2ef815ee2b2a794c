-- Access: whether a task may access another (`__ptrace_may_access`, kernel/ptrace.c, and
-- `cap_ptrace_access_check`, security/commoncap.c).
use Rattle.std.specs.Prelude.{ℕ, Bool, true, false, ◌==◌, ◌&&◌, not, if◌then◌else◌, List, [], ◌∷◌, ◌++◌, map}
use Rattle.cs_types.specs.declared.task.Creds.{Creds}
use Rattle.cs_types.specs.declared.task.TaskSpec.{TaskSpec}
use Rattle.cs_types.specs.Guards.{GuardList, guard_of, refuses, asked_until}

-- whether the caller's real user is the target's real, effective and saved user, and so for the groups
abbrev pub is_same_user : Creds → Creds → Bool
is_same_user caller target =
    (target.ruid == caller.ruid) && (target.euid == caller.ruid) && (target.suid == caller.ruid)
    && (target.rgid == caller.rgid) && (target.egid == caller.rgid) && (target.sgid == caller.rgid)

-- whether the target has a memory image that may not be dumped
abbrev pub is_undumpable : Creds → Bool
is_undumpable target = target.mm && not target.dumpable

-- a rule of access: whether it decides, whether it then allows, and the numbers of the guards that are asked for it
pub record Rule : Type 0 where
  pub decides : Bool
  pub allows : Bool
  pub asks : List ℕ

-- the decision of the first rule that decides, and yes if none does
abbrev pub first_decision : List Rule → Bool
first_decision [] = true
first_decision (rule ∷ rules) = if rule.decides then rule.allows else first_decision rules

-- the rules of the kernel itself, in their order, for which no guard is asked
abbrev pub kernel_rules : TaskSpec → TaskSpec → List Rule
kernel_rules caller target =
    -- a task of the same thread group
    record { decides = caller.tgid == target.tgid; allows = true; asks = [] }
    -- another user's task, and the caller has no CAP_SYS_PTRACE
    ∷ record { decides = not (is_same_user caller.creds target.creds) && not caller.creds.cap; allows = false; asks = [] }
    -- a task that may not be dumped, and the caller has no CAP_SYS_PTRACE
    ∷ record { decides = is_undumpable target.creds && not caller.creds.cap; allows = false; asks = [] }
    -- a task that has CAP_SYS_PTRACE, and the caller does not
    ∷ record { decides = target.creds.cap && not caller.creds.cap; allows = false; asks = [] }
    ∷ []

-- the rule of a guard, which is asked about the two real users (`security_ptrace_access_check`)
abbrev pub guard_rule : GuardList → TaskSpec → TaskSpec → ℕ → Rule
guard_rule guards caller target index =
    record { decides = refuses (guard_of guards index) (caller.creds.ruid, target.creds.ruid); allows = false; asks = index ∷ [] }

-- all rules: those of the kernel, and then those of the active guards, in the order in which they were loaded
abbrev pub access_rules : GuardList → TaskSpec → TaskSpec → List Rule
access_rules guards caller target = kernel_rules caller target ++ map (guard_rule guards caller target) guards.active

-- whether a task may access another
unfoldable pub may_access : GuardList → TaskSpec → TaskSpec → Bool
may_access guards caller target = first_decision (access_rules guards caller target)

-- the guards that are asked about it, in the order of asking
unfoldable pub asked_about : GuardList → TaskSpec → TaskSpec → List ℕ
asked_about guards caller target =
    asked_until (map (λ rule. (rule.decides, rule.asks)) (access_rules guards caller target))
