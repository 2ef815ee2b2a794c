-- Plain scenarios: no word that a scenario spells has a space or a line feed in it.
use Rattle.std.proofs.Common.{ℕ, ◌+◌, ◌<◌, ◌≤◌, ◌^◌, Bool, true, false, eqb, List, [], ◌∷◌, ◌++◌, length, map, refl, arith}
use Rattle.std.specs.Prelude.{decimal, codes, not, All}
use Rattle.std.specs.Fmt.{signed_decimal}
use Rattle.std.specs.List.{AllByRecursion, enumerate_from}
use Rattle.std.proofs.lemmas.Bool.{cond_both}
use Rattle.std.proofs.lemmas.List.Sums.{prefix_len-le-length}
use Rattle.cs_types.specs.declared.task.Creds.{Creds}
use Rattle.std.proofs.lemmas.List.Elements.{recursion_from_All}
use Rattle.cs_types.specs.declared.task.Policy.{Policy}
use Rattle.cs_types.specs.declared.task.Policy.TheVariants.{Stop, Deadline, Fifo, Rr, Fair}
use Rattle.cs_types.specs.declared.task.TaskSpec.{TaskSpec}
use Rattle.cs_types.specs.declared.event.Actor.{Actor}
use Rattle.cs_types.specs.declared.event.Actor.TheVariants.{Sibling, Caller, End}
use Rattle.cs_types.specs.declared.event.Ask.{Ask}
use Rattle.cs_types.specs.declared.event.Event.{Event}
use Rattle.cs_types.specs.declared.event.Event.TheVariants.{Turn, Resched, Block, Exit, Tick, Wake, Advance, Fork, Prctl, SetSched, Offline, Online, Load, Unload}
use Rattle.cs_types.specs.declared.event.Step.{Step}
use Rattle.cs_types.specs.declared.scenario.Scenario.{Scenario}
use Rattle.cs_types.specs.declared.scenario.Teach.{Teach}
use Rattle.cs_types.specs.Scenario.{IsPolicy, AreCreds, is_user, users_of, IsTask, IsTeach, IsAsk, IsEvent, IsStep, IsValid}
use Rattle.scenario_text.specs.Words.{flag_word, policy_word, creds_words, user_words, user_task_words, task_words, teach_words, actor_word, ask_words, child_word, event_words, made_words}
use Rattle.scenario_text.specs.Text.{users_words, number_of, task_words_in, users_in, version_words, siblings_words, limits_words, step_words, end_words, scenario_lines}
use Rattle.scenario_text.proofs.Users.{different_kept, users_few}
use Rattle.scenario_text.proofs.Fields.{nice_is}
use Rattle.scenario_text.proofs.Steps.{by, pid_is, sibling_within, caller_within}
use Rattle.scenario_text.proofs.Texts.{IsPlain, ArePlain, plain_word, plain_decimal, plain_signed, pick_plain-append, ArePlain-append}

plain_flag : (flag : Bool) → IsPlain (flag_word flag)
plain_flag true = plain_word _ refl refl
plain_flag false = plain_word _ refl refl

plain_policy : (policy : Policy) → IsPolicy policy → IsPlain (policy_word policy)
plain_policy Stop is = plain_word _ refl refl
plain_policy (Deadline relative) is =
    pick_plain-append (codes "dl:") (decimal relative) (plain_word _ refl refl) (plain_decimal relative (omega arith))
plain_policy (Fifo priority) is =
    pick_plain-append (codes "fifo:") (decimal priority) (plain_word _ refl refl) (plain_decimal priority (omega arith))
plain_policy (Rr priority) is =
    pick_plain-append (codes "rr:") (decimal priority) (plain_word _ refl refl) (plain_decimal priority (omega arith))
plain_policy (Fair nice) is =
    pick_plain-append (codes "fair:") (signed_decimal nice) (plain_word _ refl refl) (plain_signed 20 19 nice (omega arith) (omega arith) ((nice_is nice).1 is))

plain_creds : (creds : Creds) → AreCreds creds → AllByRecursion IsPlain (creds_words creds)
plain_creds creds ids =
    (plain_decimal creds.ruid (omega (arith, ids.ruid)), (plain_decimal creds.euid (omega (arith, ids.euid)), (plain_decimal creds.suid (omega (arith, ids.suid)), (plain_decimal creds.rgid (omega (arith, ids.rgid)), (plain_decimal creds.egid (omega (arith, ids.egid)), (plain_decimal creds.sgid (omega (arith, ids.sgid)), (plain_flag creds.cap, (plain_flag creds.mm, (plain_flag creds.dumpable, tt)))))))))

plain_user : (number : ℕ) (creds : Creds) → number < 2 ^ 64 → AreCreds creds → AllByRecursion IsPlain (user_words number creds)
plain_user number creds small ids = (plain_word _ refl refl, (plain_decimal number small, plain_creds creds ids))

plain_users : (users : List Creds) (start : ℕ) → start + length users < 2 ^ 64 → AllByRecursion AreCreds users → ArePlain (map (λ (numbered : ℕ × Creds). user_words numbered.0 numbered.1) (enumerate_from start users))
plain_users [] start small are = tt
plain_users (user ∷ users) start small are = (plain_user start user (omega arith) are.0, plain_users users (start + 1) (omega arith) are.1)

module _ (version siblings : ℕ) (users : List Creds) (few : siblings < 256) (short : length users < 2 ^ 64) where
  -- the line of a task in version 2 and in version 1
  plain_second : (task : TaskSpec) → IsTask siblings task → AllByRecursion IsPlain (user_task_words (number_of users task.creds) task)
  plain_second task is =
      let cpu = is.cpu in
      let number : number_of users task.creds < 2 ^ 64 = omega (arith, prefix_len-le-length (λ other. not (is_user task.creds other)) users) in
      (plain_word _ refl refl, (plain_decimal task.pid (omega (arith, is.pid)), (plain_decimal task.tgid (omega (arith, is.tgid)), (plain_decimal task.pgid (omega (arith, is.pgid)), (plain_decimal task.cpu (omega arith), (plain_policy task.policy is.policy, (plain_decimal (number_of users task.creds) number, tt)))))))

  plain_first : (task : TaskSpec) → IsTask siblings task → AllByRecursion IsPlain (task_words task)
  plain_first task is =
      let cpu = is.cpu in
      (plain_word _ refl refl, (plain_decimal task.pid (omega (arith, is.pid)), (plain_decimal task.tgid (omega (arith, is.tgid)), (plain_decimal task.pgid (omega (arith, is.pgid)), (plain_decimal task.cpu (omega arith), (plain_policy task.policy is.policy, plain_creds task.creds is.creds))))))

  plain_tasks : (tasks : List TaskSpec) → AllByRecursion (IsTask siblings) tasks → ArePlain (map (task_words_in version users) tasks)
  plain_tasks [] is = tt
  plain_tasks (task ∷ tasks) is =
      cond_both (eqb version 2) (user_task_words (number_of users task.creds) task) (task_words task) (λ ws. ArePlain (ws ∷ map (task_words_in version users) tasks))
      (λ _. (plain_second task is.0, plain_tasks tasks is.1)) (λ _. (plain_first task is.0, plain_tasks tasks is.1))

plain_actor : (siblings : ℕ) (actor : Actor) (event : Event) → siblings < 256 → IsStep siblings (by actor event) → IsPlain (actor_word actor)
plain_actor siblings (Sibling i) event few is =
    let within = sibling_within siblings i event is in
    pick_plain-append (codes "s") (decimal i) (plain_word _ refl refl) (plain_decimal i (omega arith))
plain_actor siblings (Caller j) event few is =
    let within = caller_within siblings j event is in
    pick_plain-append (codes "c") (decimal j) (plain_word _ refl refl) (plain_decimal j (omega arith))
plain_actor siblings End event few is = absurd is.actor

plain_ask : (ask : Ask) → IsAsk ask → AllByRecursion IsPlain (ask_words ask)
plain_ask ask is =
    (plain_decimal ask.cmd (omega (arith, is.cmd)), (plain_signed 2147483648 2147483647 ask.pid (omega arith) (omega arith) ((pid_is ask.pid).1 is.pid), (plain_decimal ask.scope (omega (arith, is.scope)), (plain_decimal ask.addr is.addr, tt))))

plain_child : (thread : Bool) → IsPlain (child_word thread)
plain_child true = plain_word _ refl refl
plain_child false = plain_word _ refl refl

plain_event : (siblings : ℕ) (event : Event) → siblings < 256 → IsEvent siblings event → AllByRecursion IsPlain (event_words event)
plain_event siblings (Turn cpu) few is = (plain_word _ refl refl, tt)
plain_event siblings (Resched cpu) few is = (plain_word _ refl refl, tt)
plain_event siblings (Block cpu) few is = (plain_word _ refl refl, tt)
plain_event siblings (Exit cpu) few is = (plain_word _ refl refl, tt)
plain_event siblings (Tick cpu) few is = (plain_word _ refl refl, tt)
plain_event siblings (Wake pid) few is = (plain_word _ refl refl, (plain_decimal pid (omega arith), tt))
plain_event siblings (Advance delta) few is = (plain_word _ refl refl, (plain_decimal delta (omega arith), tt))
plain_event siblings (Fork caller thread) few is =
    (plain_word _ refl refl, (plain_decimal caller (omega arith), (plain_child thread, tt)))
plain_event siblings (Prctl caller ask) few is =
    (plain_word _ refl refl, (plain_decimal caller (omega (arith, is.0)), plain_ask ask is.1))
plain_event siblings (SetSched pid policy) few is =
    (plain_word _ refl refl, (plain_decimal pid (omega (arith, is.0)), (plain_policy policy is.1, tt)))
plain_event siblings (Offline cpu) few is = (plain_word _ refl refl, (plain_decimal cpu (omega arith), tt))
plain_event siblings (Online cpu) few is = (plain_word _ refl refl, (plain_decimal cpu (omega arith), tt))
plain_event siblings (Load index) few is = (plain_word _ refl refl, (plain_decimal index (omega arith), tt))
plain_event siblings (Unload index) few is = (plain_word _ refl refl, (plain_decimal index (omega arith), tt))

pub plain_made : (siblings : ℕ) (actor : Actor) (event : Event) → siblings < 256 → IsStep siblings (by actor event) → AllByRecursion IsPlain (made_words actor event)
plain_made siblings (Sibling i) event few is =
    (plain_actor siblings (Sibling i) event few is, plain_event siblings event few is.event)
plain_made siblings (Caller j) event few is =
    (plain_actor siblings (Caller j) event few is, plain_event siblings event few is.event)
plain_made siblings End event few is = absurd is.actor

pub plain_step : (siblings : ℕ) (step : Step) → siblings < 256 → IsStep siblings step → AllByRecursion IsPlain (step_words step)
plain_step siblings step few is = (plain_word _ refl refl, plain_made siblings step.actor step.event few is)

plain_teaches : (teaches : List Teach) → AllByRecursion IsTeach teaches → ArePlain (map teach_words teaches)
plain_teaches [] is = tt
plain_teaches (teach ∷ teaches) is =
    let words : AllByRecursion IsPlain (teach_words teach) = (plain_word _ refl refl, (plain_decimal teach.guard (omega (arith, is.0.guard)), (plain_decimal teach.from (omega (arith, is.0.from)), (plain_decimal teach.to (omega (arith, is.0.to)), tt)))) in
    (words, plain_teaches teaches is.1)

plain_steps : (siblings : ℕ) (steps : List Step) → siblings < 256 → AllByRecursion (IsStep siblings) steps → ArePlain (map step_words steps)
plain_steps siblings [] few is = tt
plain_steps siblings (step ∷ steps) few is = (plain_step siblings step few is.0, plain_steps siblings steps few is.1)

-- the users of tasks have credentials
pub users_kept : (tasks : List TaskSpec) (siblings : ℕ) → All (IsTask siblings) tasks → AllByRecursion AreCreds (users_of tasks)
users_kept tasks siblings are = different_kept AreCreds (map (λ task. task.creds) tasks) (creds_kept tasks (recursion_from_All (IsTask siblings) tasks are)) where
  creds_kept : (tasks : List TaskSpec) → AllByRecursion (IsTask siblings) tasks → AllByRecursion AreCreds (map (λ task. task.creds) tasks)
  creds_kept [] are = tt
  creds_kept (task ∷ tasks) are = (are.0.creds, creds_kept tasks are.1)

pub plain_scenario : (scenario : Scenario) → IsValid scenario → ArePlain (scenario_lines scenario)
plain_scenario s valid =
    let few : s.siblings < 256 = cond_both (eqb s.version 2) 16 8 (λ most. s.siblings ≤ most → s.siblings < 256) (λ le. omega arith) (λ le. omega arith) valid.siblings.1 in
    let word : IsPlain (codes "end") = plain_word _ refl refl in
    let given = users_in s.version s.tasks in
    let are : AllByRecursion AreCreds given = cond_both (eqb s.version 2) (users_of s.tasks) [] (AllByRecursion AreCreds) (λ _. users_kept s.tasks s.siblings valid.tasks) (λ _. tt) in
    let short : length given < 2 ^ 64 = omega (arith, users_few s.version s.tasks, valid.few_tasks, valid.task_limit) in
    let users = plain_users given 0 (omega arith) are in
    let tasks = plain_tasks s.version s.siblings given few short s.tasks (recursion_from_All (IsTask s.siblings) s.tasks valid.tasks) in
    let teaches = plain_teaches s.teaches (recursion_from_All IsTeach s.teaches valid.teaches) in
    let steps = plain_steps s.siblings s.steps few (recursion_from_All (IsStep s.siblings) s.steps valid.steps) in
    let version : AllByRecursion IsPlain (version_words s.version) = (plain_word _ refl refl, (plain_decimal s.version (omega (arith, valid.version)), tt)) in
    let siblings : AllByRecursion IsPlain (siblings_words s) = (plain_word _ refl refl, (plain_decimal s.siblings (omega arith), tt)) in
    let limits : AllByRecursion IsPlain (limits_words s) = (
      plain_word _ refl refl,
      (
        plain_decimal s.task_limit (omega (arith, valid.task_limit)),
        (
          plain_decimal s.cookie_limit (omega (arith, valid.cookie_limit)),
          (plain_decimal s.user_top (omega (arith, valid.user_top)), tt),
        ),
      ),
    ) in
    let head = version_words s.version ∷ siblings_words s ∷ limits_words s ∷ [] in
    let one = ArePlain-append head (users_words given) (version, (siblings, (limits, tt))) users in
    let two = ArePlain-append (head ++ users_words given) (map (task_words_in s.version given) s.tasks) one tasks in
    let three = ArePlain-append (head ++ users_words given ++ map (task_words_in s.version given) s.tasks) (map teach_words s.teaches) two teaches in
    let four = ArePlain-append (head ++ users_words given ++ map (task_words_in s.version given) s.tasks ++ map teach_words s.teaches) (map step_words s.steps) three steps in
    ArePlain-append (head ++ users_words given ++ map (task_words_in s.version given) s.tasks ++ map teach_words s.teaches ++ map step_words s.steps) (end_words ∷ []) four ((word, tt), tt)
