-- Usable lines: what is spelled has words enough, and none is empty.
use Rattle.std.proofs.Common.{◌≡◌, ℕ, suc, ◌<◌, ◌≤◌, ◌^◌, Bool, true, false, eqb, List, ◌∷◌, ◌++◌, length, refl, arith}
use Rattle.std.specs.Prelude.{decimal, codes, ℤ, pos, negsuc}
use Rattle.std.specs.Fmt.{signed_decimal}
use Rattle.std.proofs.lemmas.Bool.{ne_eqb}
use Rattle.std.proofs.lemmas.Fmt.{decimal_nonempty}
use Rattle.cs_types.specs.declared.task.Policy.{Policy}
use Rattle.cs_types.specs.declared.task.Policy.TheVariants.{Stop, Deadline, Fifo, Rr, Fair}
use Rattle.cs_types.specs.declared.event.Actor.{Actor}
use Rattle.cs_types.specs.declared.event.Actor.TheVariants.{Sibling, Caller, End}
use Rattle.cs_types.specs.declared.event.Event.{Event}
use Rattle.cs_types.specs.declared.event.Event.TheVariants.{Turn, Resched, Block, Exit, Tick, Wake, Advance, Fork, Prctl, SetSched, Offline, Online, Load, Unload}
use Rattle.cs_types.specs.declared.task.Creds.{Creds}
use Rattle.cs_types.specs.Scenario.{IsWithin, IsPid, AreCreds, IsTask, IsEvent, IsStep}
use Rattle.scenario_text.specs.declared.head.Head.{Head}
use Rattle.scenario_text.specs.declared.task.TaskLine.{TaskLine}
use Rattle.scenario_text.specs.declared.line.Place.{Place}
use Rattle.scenario_text.specs.declared.line.ScenarioLine.{ScenarioLine}
use Rattle.scenario_text.specs.declared.line.ScenarioLine.TheVariants as forms
use Rattle.scenario_text.specs.Words.{Word, flag_word, policy_word, user_words, child_word, event_words}
use Rattle.scenario_text.specs.Text.{version_words, step_words}
use Rattle.scenario_text.specs.Reading.{usable, IsHead, count_words, head_words}
use Rattle.scenario_text.proofs.Tasks.{task_line_words}
use Rattle.scenario_text.proofs.Forms.{line_words, IsLine}

-- no word is empty

some_number : (n : ℕ) → n < 2 ^ 64 → eqb (length (decimal n)) 0 ≡ false
some_number n small = let some = decimal_nonempty n small in ne_eqb (length (decimal n)) 0 (λ e. omega arith)

some_pid : (z : ℤ) → IsPid z → eqb (length (signed_decimal z)) 0 ≡ false
some_pid (pos n) is = some_number n (omega arith)
some_pid (negsuc n) is = ne_eqb (suc (length (decimal (suc n)))) 0 (λ e. omega arith)

some_flag : (flag : Bool) → eqb (length (flag_word flag)) 0 ≡ false
some_flag true = refl
some_flag false = refl

some_child : (thread : Bool) → eqb (length (child_word thread)) 0 ≡ false
some_child true = refl
some_child false = refl

some_policy : (policy : Policy) → eqb (length (policy_word policy)) 0 ≡ false
some_policy Stop = refl
some_policy (Deadline relative) = ne_eqb _ 0 (λ e. omega arith)
some_policy (Fifo priority) = ne_eqb _ 0 (λ e. omega arith)
some_policy (Rr priority) = ne_eqb _ 0 (λ e. omega arith)
some_policy (Fair nice) = ne_eqb _ 0 (λ e. omega arith)

-- a line of an actor's event

usable_event : (siblings : ℕ) → siblings < 256 → (actor : Word) (event : Event) → IsEvent siblings event → eqb (length actor) 0 ≡ false → usable (codes "step" ∷ actor ∷ event_words event) ≡ true
usable_event siblings few actor (Turn cpu) is some = rw some refl
usable_event siblings few actor (Resched cpu) is some = rw some refl
usable_event siblings few actor (Block cpu) is some = rw some refl
usable_event siblings few actor (Exit cpu) is some = rw some refl
usable_event siblings few actor (Tick cpu) is some = rw some refl
usable_event siblings few actor (Wake pid) is some = rw (some, some_number pid (omega (arith, is))) refl
usable_event siblings few actor (Advance delta) is some = rw (some, some_number delta (omega (arith, is))) refl
usable_event siblings few actor (Fork caller thread) is some = rw (some, some_number caller (omega (arith, is)), some_child thread) refl
usable_event siblings few actor (Prctl caller ask) is some = rw (
  some,
  some_number caller (omega (arith, is.0)),
  some_number ask.cmd (omega (arith, is.1.cmd)),
  some_pid ask.pid is.1.pid,
  some_number ask.scope (omega (arith, is.1.scope)),
  some_number ask.addr is.1.addr,
) refl
usable_event siblings few actor (SetSched pid policy) is some = rw (some, some_number pid (omega (arith, is.0)), some_policy policy) refl
usable_event siblings few actor (Offline cpu) is some = rw (some, some_number cpu (omega arith)) refl
usable_event siblings few actor (Online cpu) is some = rw (some, some_number cpu (omega arith)) refl
usable_event siblings few actor (Load index) is some = rw (some, some_number index (omega arith)) refl
usable_event siblings few actor (Unload index) is some = rw (some, some_number index (omega arith)) refl

pub usable_step : (siblings : ℕ) → siblings < 256 → (actor : Actor) (event : Event) → IsStep siblings (record { actor = actor; event = event }) → usable (step_words (record { actor = actor; event = event })) ≡ true
usable_step siblings few (Sibling i) event is = usable_event siblings few (codes "s" ++ decimal i) event is.event (ne_eqb _ 0 (λ e. omega arith))
usable_step siblings few (Caller j) event is = usable_event siblings few (codes "c" ++ decimal j) event is.event (ne_eqb _ 0 (λ e. omega arith))
usable_step siblings few End event is = absurd is.actor

usable_user : (number : ℕ) (creds : Creds) → number ≤ 255 → AreCreds creds → usable (user_words number creds) ≡ true
usable_user number creds few is =
    rw (
      some_number number (omega arith),
      some_number creds.ruid (omega (arith, is.ruid)),
      some_number creds.euid (omega (arith, is.euid)),
      some_number creds.suid (omega (arith, is.suid)),
      some_number creds.rgid (omega (arith, is.rgid)),
      some_number creds.egid (omega (arith, is.egid)),
      some_number creds.sgid (omega (arith, is.sgid)),
      some_flag creds.cap,
      some_flag creds.mm,
      some_flag creds.dumpable,
    ) refl

module _ (siblings : ℕ) (few : siblings < 256) (task : TaskLine) (is : IsTask siblings task.spec) where
  usable_task : (version : ℕ) (second : Bool) → eqb version 2 ≡ second → task.user ≤ 255 → usable (task_line_words version task) ≡ true
  usable_task version true two small =
      let spec = task.spec in
      rw (
        two,
        some_number spec.pid (omega (arith, is.pid)),
        some_number spec.tgid (omega (arith, is.tgid)),
        some_number spec.pgid (omega (arith, is.pgid)),
        some_number spec.cpu (omega (arith, is.cpu)),
        some_policy spec.policy,
        some_number task.user (omega arith),
      ) refl
  usable_task version false one small =
      let spec = task.spec in
      let creds = spec.creds in
      rw (
        one,
        some_number spec.pid (omega (arith, is.pid)),
        some_number spec.tgid (omega (arith, is.tgid)),
        some_number spec.pgid (omega (arith, is.pgid)),
        some_number spec.cpu (omega (arith, is.cpu)),
        some_policy spec.policy,
        some_number creds.ruid (omega (arith, is.creds.ruid)),
        some_number creds.euid (omega (arith, is.creds.euid)),
        some_number creds.suid (omega (arith, is.creds.suid)),
        some_number creds.rgid (omega (arith, is.creds.rgid)),
        some_number creds.egid (omega (arith, is.creds.egid)),
        some_number creds.sgid (omega (arith, is.creds.sgid)),
        some_flag creds.cap,
        some_flag creds.mm,
        some_flag creds.dumpable,
      ) refl

pub usable_line : (version siblings : ℕ) (users : List Creds) → siblings < 256 → (place : Place) (line : ScenarioLine) → IsLine version siblings users place line → usable (line_words version line) ≡ true
usable_line version siblings users few place (forms.User user) is = usable_user user.number user.creds is.0 is.1
usable_line version siblings users few place (forms.Task task) is = usable_task siblings few task is.0 version (eqb version 2) refl is.1.few
usable_line version siblings users few place (forms.Teach teach) is =
    rw (
      some_number teach.guard (omega (arith, is.0.guard)),
      some_number teach.from (omega (arith, is.0.from)),
      some_number teach.to (omega (arith, is.0.to)),
    ) refl
usable_line version siblings users few place (forms.Step step) is = usable_step siblings few step.actor step.event is
usable_line version siblings users few place forms.End is = refl

-- the lines of a head

pub usable_version : (version : ℕ) → IsWithin 1 2 version → usable (version_words version) ≡ true
usable_version version is = rw (some_number version (omega (arith, is))) refl

pub usable_count : (siblings : ℕ) → siblings < 256 → usable (count_words siblings) ≡ true
usable_count siblings few = rw (some_number siblings (omega arith)) refl

pub usable_limits : (head : Head) → IsHead head → usable (head_words head) ≡ true
usable_limits head is =
    rw (
      some_number head.task_limit (omega (arith, is.task_limit)),
      some_number head.cookie_limit (omega (arith, is.cookie_limit)),
      some_number head.user_top (omega (arith, is.user_top)),
    ) refl
