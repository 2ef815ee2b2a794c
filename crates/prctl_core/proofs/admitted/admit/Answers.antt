use Rattle.std.proofs.Common.{rules, ◌≡◌, ◌∙◌, ℕ, List, [], sym, ap, Some, None}
use Rattle.std.specs.Prelude.{find, Option, All, ◌+◌, ◌*◌, ◌^◌, ◌<◌, ◌≤◌, length}
use Rattle.std.proofs.Common.{arith, subst}
use Rattle.std.proofs.lemmas.List.Elements.{All-weaker}
use Rattle.cs_types.specs.declared.task.TaskSpec.{TaskSpec}
use Rattle.cs_laws.proofs.Askings.{asked-access}
use Rattle.std.specs.Option.{option_and_then}
use mir.Syntax.{w32}
use mir.Val.{SFits}
use Rattle.std.proofs.lemmas.Int.{to_z-of_z}
use Rattle.std.proofs.lemmas.Bool.{lt-ltb, le-ltb}
use Rattle.cs_types.specs.declared.task.Task.{Task}
use Rattle.cs_types.specs.Guards.{GuardState, GuardList, asked_each}
use Rattle.cs_types.specs.Access.{may_access, asked_about}
use Rattle.cs_laws.proofs.Accesses.{asked_each-append}
use Rattle.cs_types.specs.declared.event.Ask.{Ask}
use Rattle.cs_types.specs.Room.{RoomState, has_pid, task_of}
use Rattle.cs_types.specs.Prctl.{named_by, target_of}
use Rattle.cs_laws.proofs.Tasks.{found_again}
use Rattle.prctl_core.proofs.Rows.{as_asked, no_caller, few_online, invalid, no_target, no_access}
use Rattle.prctl_core.proofs.admitted.admit.Goals as goal

-- what a room has of the caller and of the target
caller_in : (room : RoomState) (tasks : _) (pid : ℕ) (caller : Option Task) → room.tasks ≡ tasks → caller ≡ find (has_pid pid) tasks → task_of room pid ≡ caller
caller_in room tasks pid caller same found = ap (find (has_pid pid)) same ∙ sym found

target_in : (room : RoomState) (pid : ℕ) (ask : Ask) (caller : Task) (target : Option Task) → task_of room pid ≡ Some caller →
    target ≡ named_by room caller ask.pid → target_of room pid ask ≡ target
target_in room pid ask caller target by named =
    ap (λ (task : Option Task). option_and_then (λ t. named_by room t ask.pid) task) by ∙ sym named

-- nobody is asked
nobody_asked : (room : RoomState) (guards : GuardList) (asked : List ℕ) → room.guards ≡ guards → asked ≡ [] → guards ≡ asked_each room.guards asked
nobody_asked room guards asked same none = sym same ∙ sym (ap (asked_each room.guards) none)

pub returns-in_default-clause-admits : goal.returns-in_default-clause-admits
returns-in_default-clause-admits g c room same there guarded =
    as_asked (no_caller room c.args.caller c.args.ask.now (caller_in room _ c.args.caller None same c.in_default.ensures.task))

pub returns-in_default-clause-asked : goal.returns-in_default-clause-asked
returns-in_default-clause-asked g c room same there guarded =
    nobody_asked room _ _ guarded (no_caller room c.args.caller c.args.ask.now (caller_in room _ c.args.caller None same c.in_default.ensures.task)).asks

pub returns-then-online-lt2-clause-admits : goal.returns-then-online-lt2-clause-admits
returns-then-online-lt2-clause-admits g c room same there guarded =
    as_asked (few_online room c.args.caller c.args.ask.now c.in-Some.by.now
    (caller_in room _ c.args.caller _ same c.in-Some.ensures.task)
    (there ∙ lt-ltb _ _ c.if-online-lt2.true))

pub returns-then-online-lt2-clause-asked : goal.returns-then-online-lt2-clause-asked
returns-then-online-lt2-clause-asked g c room same there guarded =
    nobody_asked room _ _ guarded (few_online room c.args.caller c.args.ask.now c.in-Some.by.now
    (caller_in room _ c.args.caller _ same c.in-Some.ensures.task)
    (there ∙ lt-ltb _ _ c.if-online-lt2.true)).asks

pub returns-in_default-arguments-clause-admits : goal.returns-in_default-arguments-clause-admits
returns-in_default-arguments-clause-admits g c room same there guarded =
    as_asked (invalid room c.args.caller c.args.ask.now c.in-Some.by.now
    (caller_in room _ c.args.caller _ same c.in-Some.ensures.task)
    (there ∙ le-ltb _ _ c.if-online-lt2.false)
    (sym c.in_default-arguments.ensures.invalid))

pub returns-in_default-arguments-clause-asked : goal.returns-in_default-arguments-clause-asked
returns-in_default-arguments-clause-asked g c room same there guarded =
    nobody_asked room _ _ guarded (invalid room c.args.caller c.args.ask.now c.in-Some.by.now
    (caller_in room _ c.args.caller _ same c.in-Some.ensures.task)
    (there ∙ le-ltb _ _ c.if-online-lt2.false)
    (sym c.in_default-arguments.ensures.invalid)).asks

pub named_by-requires : goal.named_by-requires
named_by-requires g c = record { there = found_again c.args.caller c.args.table.now.tasks c.in-Some.by.now (sym c.in-Some.ensures.task) }

pub returns-in_default-named_by-clause-admits : goal.returns-in_default-named_by-clause-admits
returns-in_default-named_by-clause-admits g c room same there guarded =
    let fits : SFits w32 c.args.ask.now.pid = search rules in
    let by = caller_in room _ c.args.caller _ same c.in-Some.ensures.task in
    as_asked (no_target room c.args.caller c.args.ask.now c.in-Some.by.now by
    (there ∙ le-ltb _ _ c.if-online-lt2.false)
    (sym c.in-Some-arguments.ensures.invalid)
    (target_in room c.args.caller c.args.ask.now c.in-Some.by.now None by (simp to_z-of_z at c.in_default-named_by.ensures.named room same)))

pub returns-in_default-named_by-clause-asked : goal.returns-in_default-named_by-clause-asked
returns-in_default-named_by-clause-asked g c room same there guarded =
    let fits : SFits w32 c.args.ask.now.pid = search rules in
    let by = caller_in room _ c.args.caller _ same c.in-Some.ensures.task in
    nobody_asked room _ _ guarded (no_target room c.args.caller c.args.ask.now c.in-Some.by.now by
    (there ∙ le-ltb _ _ c.if-online-lt2.false)
    (sym c.in-Some-arguments.ensures.invalid)
    (target_in room c.args.caller c.args.ask.now c.in-Some.by.now None by (simp to_z-of_z at c.in_default-named_by.ensures.named room same))).asks

pub returns-then-not-may_access-clause-admits : goal.returns-then-not-may_access-clause-admits
returns-then-not-may_access-clause-admits g c room same there guarded =
    let fits : SFits w32 c.args.ask.now.pid = search rules in
    let by = caller_in room _ c.args.caller _ same c.in-Some.ensures.task in
    as_asked (no_access room c.args.caller c.args.ask.now c.in-Some.by.now c.in-Some-named_by.target.now by
    (there ∙ le-ltb _ _ c.if-online-lt2.false)
    (sym c.in-Some-arguments.ensures.invalid)
    (target_in room c.args.caller c.args.ask.now c.in-Some.by.now _ by (simp to_z-of_z at c.in-Some-named_by.ensures.named room same))
    (ap (λ (guards : GuardList). may_access guards c.in-Some.by.now.spec c.in-Some-named_by.target.now.spec) guarded ∙ sym c.may_access.ensures.decision ∙ c.if-not-may_access.true))

pub returns-then-not-may_access-clause-asked : goal.returns-then-not-may_access-clause-asked
returns-then-not-may_access-clause-asked g c room same there guarded =
    let fits : SFits w32 c.args.ask.now.pid = search rules in
    let by = caller_in room _ c.args.caller _ same c.in-Some.ensures.task in
    let settles = no_access room c.args.caller c.args.ask.now c.in-Some.by.now c.in-Some-named_by.target.now by
    (there ∙ le-ltb _ _ c.if-online-lt2.false)
    (sym c.in-Some-arguments.ensures.invalid)
    (target_in room c.args.caller c.args.ask.now c.in-Some.by.now _ by (simp to_z-of_z at c.in-Some-named_by.ensures.named room same))
    (ap (λ (guards : GuardList). may_access guards c.in-Some.by.now.spec c.in-Some-named_by.target.now.spec) guarded ∙ sym c.may_access.ensures.decision ∙ c.if-not-may_access.true) in
    c.may_access.ensures.asked
    ∙ ap (λ (guards : GuardList). asked_each guards (asked_about guards c.in-Some.by.now.spec c.in-Some-named_by.target.now.spec)) (sym guarded)
    ∙ sym (asked_each-append room.guards (asked_about room.guards c.in-Some.by.now.spec c.in-Some-named_by.target.now.spec) [])
    ∙ sym (ap (asked_each room.guards) settles.asks)

pub returns-clause-asked : goal.returns-clause-asked
returns-clause-asked g c room same there guarded =
    c.may_access.ensures.asked
    ∙ ap (λ (guards : GuardList). asked_each guards (asked_about guards c.in-Some.by.now.spec c.in-Some-named_by.target.now.spec)) (sym guarded)

pub returns-clause-there : goal.returns-clause-there
returns-clause-there g c = record {
  sound = c.find.ensures.sound;
  caller = found_again c.args.caller c.args.table.now.tasks c.in-Some.by.now (sym c.in-Some.ensures.task);
  target = c.in-Some-named_by.ensures.there;
}

-- the counts leave enough for the members
counts_left : (guards after : GuardList) (caller target : TaskSpec) → after ≡ asked_each guards (asked_about guards caller target) → length guards.active ≤ 16 →
    All (λ (guard : GuardState). guard.asked < 2 ^ 62) guards.all → All (λ (guard : GuardState). guard.asked < 2 ^ 62 + 16) after.all
counts_left guards after caller target asked few low =
    All-weaker (λ (guard : GuardState). guard.asked + 16 * 0 < 2 ^ 62 + 16) (λ (guard : GuardState). guard.asked < 2 ^ 62 + 16) (λ guard is. omega (arith, is)) after.all
    (subst (λ (guards : GuardList). All (λ (guard : GuardState). guard.asked + 16 * 0 < 2 ^ 62 + 16) guards.all) (sym asked)
    (asked-access (2 ^ 62 + 16) 0 guards caller target (omega arith) few
    (All-weaker (λ (guard : GuardState). guard.asked < 2 ^ 62) (λ (guard : GuardState). guard.asked + 16 * (0 + 1) < 2 ^ 62 + 16) (λ guard is. omega (arith, is)) guards.all low)))

pub returns-then-not-may_access-clause-counts : goal.returns-then-not-may_access-clause-counts
returns-then-not-may_access-clause-counts g c =
    counts_left _ _ c.in-Some.by.now.spec c.in-Some-named_by.target.now.spec c.may_access.ensures.asked c.may_access.ensures.few c.requires.asked

pub returns-clause-counts : goal.returns-clause-counts
returns-clause-counts g c =
    counts_left _ _ c.in-Some.by.now.spec c.in-Some-named_by.target.now.spec c.may_access.ensures.asked c.may_access.ensures.few c.requires.asked
