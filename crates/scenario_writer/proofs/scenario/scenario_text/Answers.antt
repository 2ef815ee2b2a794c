use Rattle.std.proofs.Common.{◌≡◌, ℕ, List, [], ◌∷◌, ◌++◌, map, refl, ap, ◌∙◌, subst, append_assoc, Option}
use Rattle.std.specs.List.{flat_map}
use Rattle.std.proofs.lemmas.Result.{on_ok_weaker}
use Rattle.cs_types.specs.declared.task.TaskSpec.{TaskSpec}
use Rattle.cs_types.specs.declared.scenario.Scenario.{Scenario}
use Rattle.cs_outside.specs.Device.{appended, WritesPrefix}
use Rattle.scenario_text.specs.Words.{Word, teach_words}
use Rattle.scenario_text.specs.Text.{line, version_words, siblings_words, limits_words, users_words, users_in, task_words_in, step_words, end_words, scenario_lines, scenario_text}
use Rattle.cs_outside.proofs.Reached.{AreLeft, all_left, none_left, line_more, line_prefix, part_more, part_prefix}
use Rattle.scenario_writer.proofs.Own.{text_is_its_own}
use Rattle.scenario_writer.proofs.scenario.scenario_text.Goals as goal

abbrev head : Scenario → List (List Word)
head s = version_words s.version ∷ siblings_words s ∷ limits_words s ∷ []

abbrev users : ℕ → List TaskSpec → List (List Word)
users version specs = users_words (users_in version specs)

abbrev tasks : ℕ → List TaskSpec → List (List Word)
tasks version specs = map (task_words_in version (users_in version specs)) specs

abbrev last : List (List Word)
last = end_words ∷ []

abbrev after_teaches : Scenario → List (List Word)
after_teaches s = map step_words s.steps ++ last

abbrev after_tasks : Scenario → List (List Word)
after_tasks s = map teach_words s.teaches ++ after_teaches s

abbrev after_users : Scenario → List (List Word)
after_users s = tasks s.version s.tasks ++ after_tasks s

abbrev after_head : Scenario → List (List Word)
after_head s = users s.version s.tasks ++ after_users s

in_turn : (head users tasks teaches steps last : List (List Word)) → head ++ users ++ tasks ++ teaches ++ steps ++ last ≡ head ++ (users ++ (tasks ++ (teaches ++ (steps ++ last))))
in_turn head users tasks teaches steps last = simp append_assoc

start : (before : Option (List ℕ)) (s : Scenario) → AreLeft line before (scenario_text s) (head s ++ after_head s) before
start before s =
    subst (λ (lines : List (List Word)). AreLeft line before (scenario_text s) lines before)
    (in_turn (head s) (users s.version s.tasks) (tasks s.version s.tasks) (map teach_words s.teaches) (map step_words s.steps) last) (all_left line before (scenario_lines s))

-- the lines that were made from these tasks go out, or a prefix of them
tasks_more : (lines_of : List TaskSpec → List (List Word)) (items lent : List TaskSpec) (lines : List (List Word)) (before : Option (List ℕ)) (whole : List ℕ) (mid now : Option (List ℕ)) →
    AreLeft line before whole (lines_of items ++ lines) mid → lent ≡ items → now ≡ appended mid (flat_map line (lines_of lent)) → AreLeft line before whole lines now
tasks_more lines_of items lent lines before whole mid now so_far is sent =
    part_more before whole (lines_of items) lines mid now so_far (sent ∙ ap (λ xs. appended mid (flat_map line (lines_of xs))) is)

tasks_prefix : (lines_of : List TaskSpec → List (List Word)) (items lent : List TaskSpec) (lines : List (List Word)) (before : Option (List ℕ)) (whole : List ℕ) (mid now : Option (List ℕ)) →
    AreLeft line before whole (lines_of items ++ lines) mid → lent ≡ items → WritesPrefix mid (flat_map line (lines_of lent)) now → WritesPrefix before whole now
tasks_prefix lines_of items lent lines before whole mid now so_far is sent =
    part_prefix before whole (lines_of items) lines mid now so_far (subst (λ xs. WritesPrefix mid (flat_map line (lines_of xs)) now) is sent)

-- the lines of the lent items go out, or a prefix of them
items_more : {T : Type 0} (words : T → List Word) (items lent : List T) (lines : List (List Word)) (before : Option (List ℕ)) (whole : List ℕ) (mid now : Option (List ℕ)) →
    AreLeft line before whole (map words items ++ lines) mid → lent ≡ items → now ≡ appended mid (flat_map line (map words lent)) → AreLeft line before whole lines now
items_more words items lent lines before whole mid now so_far is sent =
    part_more before whole (map words items) lines mid now so_far (sent ∙ ap (λ xs. appended mid (flat_map line (map words xs))) is)

items_prefix : {T : Type 0} (words : T → List Word) (items lent : List T) (lines : List (List Word)) (before : Option (List ℕ)) (whole : List ℕ) (mid now : Option (List ℕ)) →
    AreLeft line before whole (map words items ++ lines) mid → lent ≡ items → WritesPrefix mid (flat_map line (map words lent)) now → WritesPrefix before whole now
items_prefix words items lent lines before whole mid now so_far is sent =
    part_prefix before whole (map words items) lines mid now so_far (subst (λ xs. WritesPrefix mid (flat_map line (map words xs)) now) is sent)

pub returns-in_err-write_head-clause-prefix : goal.returns-in_err-write_head-clause-prefix
returns-in_err-write_head-clause-prefix g c =
    let s = c.args.scenario.now in
    part_prefix _ _ (head s) (after_head s) _ _ (start (g.K.Sink.written c.args.sink.now) s) c.write_head.ensures.prefix

pub returns-in_err-write_users-clause-prefix : goal.returns-in_err-write_users-clause-prefix
returns-in_err-write_users-clause-prefix g c =
    let s = c.args.scenario.now in
    let users_left = part_more _ _ (head s) (after_head s) _ _ (start (g.K.Sink.written c.args.sink.now) s) c.in_ok-write_head.ensures.ok in
    tasks_prefix (users s.version) s.tasks _ (after_users s) _ _ _ _ users_left c.items-tasks.ensures c.write_users.ensures.prefix

pub returns-in_err-write_tasks-clause-prefix : goal.returns-in_err-write_tasks-clause-prefix
returns-in_err-write_tasks-clause-prefix g c =
    let s = c.args.scenario.now in
    let users_left = part_more _ _ (head s) (after_head s) _ _ (start (g.K.Sink.written c.args.sink.now) s) c.in_ok-write_head.ensures.ok in
    let tasks_left = tasks_more (users s.version) s.tasks _ (after_users s) _ _ _ _ users_left c.items-tasks.ensures c.in_ok-write_users.ensures.ok in
    tasks_prefix (tasks s.version) s.tasks _ (after_tasks s) _ _ _ _ tasks_left c.items-tasks.ensures c.write_tasks.ensures.prefix

pub returns-in_err-write_lines-clause-prefix : goal.returns-in_err-write_lines-clause-prefix
returns-in_err-write_lines-clause-prefix g c =
    let s = c.args.scenario.now in
    let users_left = part_more _ _ (head s) (after_head s) _ _ (start (g.K.Sink.written c.args.sink.now) s) c.in_ok-write_head.ensures.ok in
    let tasks_left = tasks_more (users s.version) s.tasks _ (after_users s) _ _ _ _ users_left c.items-tasks.ensures c.in_ok-write_users.ensures.ok in
    let teaches_left = tasks_more (tasks s.version) s.tasks _ (after_tasks s) _ _ _ _ tasks_left c.items-tasks.ensures c.in_ok-write_tasks.ensures.ok in
    items_prefix teach_words s.teaches _ (after_teaches s) _ _ _ _ teaches_left c.items.ensures c.write_lines.ensures.prefix

pub returns-in_err-write_lines-2-clause-prefix : goal.returns-in_err-write_lines-2-clause-prefix
returns-in_err-write_lines-2-clause-prefix g c =
    let s = c.args.scenario.now in
    let users_left = part_more _ _ (head s) (after_head s) _ _ (start (g.K.Sink.written c.args.sink.now) s) c.in_ok-write_head.ensures.ok in
    let tasks_left = tasks_more (users s.version) s.tasks _ (after_users s) _ _ _ _ users_left c.items-tasks.ensures c.in_ok-write_users.ensures.ok in
    let teaches_left = tasks_more (tasks s.version) s.tasks _ (after_tasks s) _ _ _ _ tasks_left c.items-tasks.ensures c.in_ok-write_tasks.ensures.ok in
    let steps_left = items_more teach_words s.teaches _ (after_teaches s) _ _ _ _ teaches_left c.items.ensures c.in_ok-write_lines.ensures.ok in
    items_prefix step_words s.steps _ last _ _ _ _ steps_left c.items-2.ensures c.write_lines-2.ensures.prefix

pub returns-clause-ok : goal.returns-clause-ok
returns-clause-ok g c =
    let s = c.args.scenario.now in
    let users_left = part_more _ _ (head s) (after_head s) _ _ (start (g.K.Sink.written c.args.sink.now) s) c.in_ok-write_head.ensures.ok in
    let tasks_left = tasks_more (users s.version) s.tasks _ (after_users s) _ _ _ _ users_left c.items-tasks.ensures c.in_ok-write_users.ensures.ok in
    let teaches_left = tasks_more (tasks s.version) s.tasks _ (after_tasks s) _ _ _ _ tasks_left c.items-tasks.ensures c.in_ok-write_tasks.ensures.ok in
    let steps_left = items_more teach_words s.teaches _ (after_teaches s) _ _ _ _ teaches_left c.items.ensures c.in_ok-write_lines.ensures.ok in
    let end_left = items_more step_words s.steps _ last _ _ _ _ steps_left c.items-2.ensures c.in_ok-write_lines-2.ensures.ok in
    on_ok_weaker c.write_all.result (λ sent. none_left _ _ _ (line_more _ _ end_words [] _ _ _ end_left refl sent)) c.write_all.ensures.ok

pub returns-clause-prefix : goal.returns-clause-prefix
returns-clause-prefix g c =
    let s = c.args.scenario.now in
    let users_left = part_more _ _ (head s) (after_head s) _ _ (start (g.K.Sink.written c.args.sink.now) s) c.in_ok-write_head.ensures.ok in
    let tasks_left = tasks_more (users s.version) s.tasks _ (after_users s) _ _ _ _ users_left c.items-tasks.ensures c.in_ok-write_users.ensures.ok in
    let teaches_left = tasks_more (tasks s.version) s.tasks _ (after_tasks s) _ _ _ _ tasks_left c.items-tasks.ensures c.in_ok-write_tasks.ensures.ok in
    let steps_left = items_more teach_words s.teaches _ (after_teaches s) _ _ _ _ teaches_left c.items.ensures c.in_ok-write_lines.ensures.ok in
    let end_left = items_more step_words s.steps _ last _ _ _ _ steps_left c.items-2.ensures c.in_ok-write_lines-2.ensures.ok in
    line_prefix _ _ end_words [] _ _ _ end_left refl c.write_all.ensures.prefix

pub returns-in_err-write_head-clause-read_back : goal.returns-in_err-write_head-clause-read_back
returns-in_err-write_head-clause-read_back g c = text_is_its_own c.args.scenario.now

pub returns-in_err-write_users-clause-read_back : goal.returns-in_err-write_users-clause-read_back
returns-in_err-write_users-clause-read_back g c = text_is_its_own c.args.scenario.now

pub returns-in_err-write_tasks-clause-read_back : goal.returns-in_err-write_tasks-clause-read_back
returns-in_err-write_tasks-clause-read_back g c = text_is_its_own c.args.scenario.now

pub returns-in_err-write_lines-clause-read_back : goal.returns-in_err-write_lines-clause-read_back
returns-in_err-write_lines-clause-read_back g c = text_is_its_own c.args.scenario.now

pub returns-in_err-write_lines-2-clause-read_back : goal.returns-in_err-write_lines-2-clause-read_back
returns-in_err-write_lines-2-clause-read_back g c = text_is_its_own c.args.scenario.now

pub returns-clause-read_back : goal.returns-clause-read_back
returns-clause-read_back g c = text_is_its_own c.args.scenario.now
