-- What is told of a line after the head: what is read from it, beside the kinds of fault of the grammar.
use Rattle.std.proofs.Common.{◌≡◌, ℕ, Bool, true, false, cond, eqb, List, [], ◌∷◌, ◌++◌, length, map, Ok, Err, refl, sym, subst, ◌∙◌, arith, inl, inr}
use Rattle.std.specs.Prelude.{codes, ◌&&◌, ◌||◌, ◌-◌, not}
use Rattle.std.proofs.lemmas.Bool.{cases_Bool, le-leb, ne_eqb, and_right}
use Rattle.cs_types.specs.declared.task.Creds.{Creds}
use Rattle.cs_types.specs.declared.event.Step.{Step}
use Rattle.scenario_text.specs.declared.fault.BadKind.TheVariants.{After, Cut, Shape, Number, Twice, Leader, Full, User}
use Rattle.scenario_text.specs.declared.line.Place.{Place}
use Rattle.scenario_text.specs.declared.line.ScenarioLine.{ScenarioLine}
use Rattle.scenario_text.specs.declared.line.ScenarioLine.TheVariants as forms
use Rattle.scenario_text.specs.Words.{Word}
use Rattle.scenario_text.specs.Grammar.{is_word, begins, behind, is_number, Field, Form, number, marked, sibling, sibling_events, caller_events, step_form, user_form, task_form, teach_form, end_form, step_forms, has_shape, is_right}
use Rattle.scenario_text.specs.Faults.{is_right_in}
use Rattle.scenario_text.specs.Reading.{◌>>=◌, Parts, parts, Read, read_in, joined, sibling_readings, caller_readings, sibling_step, caller_step, user_value, task_value, teach_value, user_line, task_line, teach_line, step_line, line_of}
use Rattle.scenario_text.proofs.Fields.{word_is, mark_is}
use Rattle.scenario_text.proofs.Judging.{any_shape, Judged, judged, judged_after, judged_before, skipped}
use Rattle.scenario_text.proofs.Steps.{after_is, marked_step}

-- ---- forms of steps

module _ (actor : Field) (word : Word) (event : List Word) where
  -- no event has the shape, where the actor has not
  pub no_actor : (events : List Form) → actor.has_shape word ≡ false → any_shape (map (step_form actor) events) (codes "step" ∷ word ∷ event) ≡ false
  unfolding has_shape
  no_actor [] h = refl
  no_actor (form ∷ events) h = rw (h, no_actor events h) refl

  -- behind an actor events are told as they are alone
  told : (events : List Form) → actor.has_shape word ≡ true →
      (any_shape (map (step_form actor) events) (codes "step" ∷ word ∷ event) ≡ any_shape events event)
      × (any_shape events event ≡ true → is_right_in (map (step_form actor) events) (codes "step" ∷ word ∷ event) ≡ (actor.is_right word && is_right_in events event))
  unfolding has_shape is_right is_right_in
  told [] h = (refl, λ e. absurd cc)
  told (form ∷ events) h =
      let more = told events h in
      elim (cases_Bool (has_shape form event)) [
        | inl is ↦ (rw (h, is) refl, λ e. rw (h, is) refl)
        | inr differs ↦ (rw (h, differs) more.0, λ e. rw (h, differs) (more.1 (rw differs at e)))
      ]

  pub judged_step : {A B : Type 0} (r : Read A) (right : Bool) (f : A → B) (events : List Form) → actor.has_shape word ≡ true → actor.is_right word ≡ right → Judged r events event →
      Judged (joined r right f) (map (step_form actor) events) (codes "step" ∷ word ∷ event)
  judged_step (Ok x) true f events h k j = let t = told events h in (t.0 ∙ j.0, t.1 j.0 ∙ rw (k, j.1) refl)
  judged_step (Ok x) false f events h k j = let t = told events h in (t.0 ∙ j.0, t.1 j.0 ∙ rw k refl)
  judged_step (Err Shape) right f events h k j = (told events h).0 ∙ j
  judged_step (Err Number) right f events h k j = let t = told events h in (t.0 ∙ j.0, t.1 j.0 ∙ rw j.1 (and_right (actor.is_right word) false refl))
  judged_step (Err After) right f events h k j = absurd j
  judged_step (Err Cut) right f events h k j = absurd j
  judged_step (Err Twice) right f events h k j = absurd j
  judged_step (Err Leader) right f events h k j = absurd j
  judged_step (Err Full) right f events h k j = absurd j
  judged_step (Err User) right f events h k j = absurd j

-- a line of one word is no step
no_event : (actor : Field) (events : List Form) → any_shape (map (step_form actor) events) (codes "step" ∷ []) ≡ false
unfolding has_shape
no_event actor [] = refl
no_event actor (form ∷ events) = no_event actor events

-- a line with another first word is none
no_step : (actor : Field) (events : List Form) (name : Word) (rest : List Word) → is_word name (codes "step") ≡ false → any_shape (map (step_form actor) events) (name ∷ rest) ≡ false
unfolding has_shape
no_step actor [] name rest h = refl
no_step actor (form ∷ events) name rest h = rw (h, no_step actor events name rest h) refl

abbrev pub sibling_actor : ℕ → Field
sibling_actor siblings = marked (codes "s") (sibling siblings)

abbrev pub caller_actor : Field
caller_actor = marked (codes "c") (number 0 7)

no_steps : (siblings : ℕ) (name : Word) (rest : List Word) → is_word name (codes "step") ≡ false → any_shape (step_forms siblings) (name ∷ rest) ≡ false
no_steps siblings name rest h =
    (skipped (map (step_form (sibling_actor siblings)) sibling_events) (map (step_form caller_actor) (caller_events siblings)) (name ∷ rest) (no_step (sibling_actor siblings) sibling_events name rest h)).0
    ∙ no_step caller_actor (caller_events siblings) name rest h

-- a word that begins with one mark does not begin with the other
not_both : (word : Word) → begins word (codes "s") ≡ true → begins word (codes "c") ≡ false
not_both word h = subst (λ (w : Word). begins w (codes "c") ≡ false) (sym (mark_is word (codes "s") h)) refl

marked_judged : (siblings : ℕ) (actor : Word) (event : List Word) (is_sibling is_caller : Bool) → begins actor (codes "s") ≡ is_sibling → begins actor (codes "c") ≡ is_caller →
    Judged (cond is_sibling (sibling_step siblings (behind (codes "s") actor) (parts event)) (cond is_caller (caller_step siblings (behind (codes "c") actor) (parts event)) (Err Shape))) (step_forms siblings) (codes "step" ∷ actor ∷ event)
marked_judged siblings actor event true is_caller h k =
    judged_before (codes "step" ∷ actor ∷ event) (map (step_form (sibling_actor siblings)) sibling_events) (map (step_form caller_actor) (caller_events siblings)) (sibling_step siblings (behind (codes "s") actor) (parts event))
    (no_actor caller_actor actor event (caller_events siblings) (rw (not_both actor h) refl))
    (judged_step (sibling_actor siblings) actor event (read_in sibling_readings (parts event)) (is_number 0 (siblings - 1) (behind (codes "s") actor)) _ sibling_events (rw h refl) (rw h refl) (judged event sibling_readings))
marked_judged siblings actor event false true h k =
    judged_after (codes "step" ∷ actor ∷ event) (map (step_form (sibling_actor siblings)) sibling_events) (map (step_form caller_actor) (caller_events siblings)) (caller_step siblings (behind (codes "c") actor) (parts event))
    (no_actor (sibling_actor siblings) actor event sibling_events (rw h refl))
    (judged_step caller_actor actor event (read_in (caller_readings siblings) (parts event)) (is_number 0 7 (behind (codes "c") actor)) _ (caller_events siblings) (rw k refl) (rw k refl) (judged event (caller_readings siblings)))
marked_judged siblings actor event false false h k =
    judged_after {A = Step} (codes "step" ∷ actor ∷ event) (map (step_form (sibling_actor siblings)) sibling_events) (map (step_form caller_actor) (caller_events siblings)) (Err Shape)
    (no_actor (sibling_actor siblings) actor event sibling_events (rw h refl))
    (no_actor caller_actor actor event (caller_events siblings) (rw k refl))

step_judged : (siblings : ℕ) (rest : List Word) → Judged (step_line siblings (parts (codes "step" ∷ rest))) (step_forms siblings) (codes "step" ∷ rest)
step_judged siblings [] =
    (skipped (map (step_form (sibling_actor siblings)) sibling_events) (map (step_form caller_actor) (caller_events siblings)) (codes "step" ∷ []) (no_event (sibling_actor siblings) sibling_events)).0
    ∙ no_event caller_actor (caller_events siblings)
step_judged siblings (actor ∷ event) =
    let words = codes "step" ∷ actor ∷ event in
    rw (le-leb 2 (length words) (omega arith))
    (subst (λ (p : Parts). Judged (marked_step siblings actor p) (step_forms siblings) words) (sym (after_is 2 words))
    (marked_judged siblings actor event (begins actor (codes "s")) (begins actor (codes "c")) refl refl))

-- ---- lines after the head

-- the forms of a line at this place
abbrev pub forms_at : ℕ → ℕ → Place → List Form
forms_at version siblings place =
    cond (not (eqb version 2) || place.is_after_task || place.is_after_teach || place.is_after_step) [] (user_form ∷ [])
    ++ cond (place.is_after_teach || place.is_after_step) [] (task_form version siblings ∷ [])
    ++ cond place.is_after_step [] (teach_form ∷ [])
    ++ end_form ∷ step_forms siblings

then_judged : {A B : Type 0} (f : A → B) (r : Read A) (forms : List Form) (words : List Word) → Judged r forms words → Judged (r >>= λ x. Ok (f x)) forms words
then_judged f (Ok x) forms words h = h
then_judged f (Err Shape) forms words h = h
then_judged f (Err Number) forms words h = h
then_judged f (Err After) forms words h = absurd h
then_judged f (Err Cut) forms words h = absurd h
then_judged f (Err Twice) forms words h = absurd h
then_judged f (Err Leader) forms words h = absurd h
then_judged f (Err Full) forms words h = absurd h
then_judged f (Err User) forms words h = absurd h

module _ (version siblings : ℕ) (given : List Creds) (place : Place) where
  abbrev late_user : Bool
  late_user = not (eqb version 2) || place.is_after_task || place.is_after_teach || place.is_after_step

  users : List Form
  users = cond late_user [] (user_form ∷ [])

  tasks : List Form
  tasks = cond (place.is_after_teach || place.is_after_step) [] (task_form version siblings ∷ [])

  teaches : List Form
  teaches = cond place.is_after_step [] (teach_form ∷ [])

  others : List Form
  others = end_form ∷ step_forms siblings

  abbrev Judges : List Word → Type 0
  Judges words = Judged (line_of version siblings given place (parts words)) (forms_at version siblings place) words

  no_users : (name : Word) (rest : List Word) → is_word name (codes "user") ≡ false → any_shape users (name ∷ rest) ≡ false
  unfolding users has_shape
  no_users name rest h =
      elim late_user as (λ b. any_shape (cond b [] (user_form ∷ [])) (name ∷ rest) ≡ false) [
        | true ↦ refl
        | false ↦ rw h refl
      ]

  no_tasks : (name : Word) (rest : List Word) → is_word name (codes "task") ≡ false → any_shape tasks (name ∷ rest) ≡ false
  unfolding tasks has_shape
  no_tasks name rest h =
      elim (place.is_after_teach || place.is_after_step) as (λ b. any_shape (cond b [] (task_form version siblings ∷ [])) (name ∷ rest) ≡ false) [
        | true ↦ refl
        | false ↦ rw h refl
      ]

  no_teaches : (name : Word) (rest : List Word) → is_word name (codes "teach") ≡ false → any_shape teaches (name ∷ rest) ≡ false
  unfolding teaches has_shape
  no_teaches name rest h =
      elim place.is_after_step as (λ b. any_shape (cond b [] (teach_form ∷ [])) (name ∷ rest) ≡ false) [
        | true ↦ refl
        | false ↦ rw h refl
      ]

  no_others : (name : Word) (rest : List Word) → is_word name (codes "end") ≡ false → is_word name (codes "step") ≡ false → any_shape others (name ∷ rest) ≡ false
  unfolding others has_shape
  no_others name rest h k = rw (h, no_steps siblings name rest k) refl

  user_judged : (rest : List Word) → Judged (user_line version place (parts (codes "user" ∷ rest))) users (codes "user" ∷ rest)
  unfolding users
  user_judged rest =
      let words = codes "user" ∷ rest in
      let readings = (user_form, user_value) ∷ [] in
      elim late_user as (λ b. Judged (cond b (Err Shape) (read_in readings (parts words) >>= λ user. Ok (forms.User user))) (cond b [] (user_form ∷ [])) words) [
        | true ↦ refl
        | false ↦ then_judged forms.User (read_in readings (parts words)) (user_form ∷ []) words (judged words readings)
      ]

  task_judged : (rest : List Word) → Judged (task_line version siblings given place (parts (codes "task" ∷ rest))) tasks (codes "task" ∷ rest)
  unfolding tasks
  task_judged rest =
      let words = codes "task" ∷ rest in
      let readings = (task_form version siblings, task_value version given) ∷ [] in
      elim (place.is_after_teach || place.is_after_step) as (λ b. Judged (cond b (Err Shape) (read_in readings (parts words) >>= λ task. Ok (forms.Task task))) (cond b [] (task_form version siblings ∷ [])) words) [
        | true ↦ refl
        | false ↦ then_judged forms.Task (read_in readings (parts words)) (task_form version siblings ∷ []) words (judged words readings)
      ]

  teach_judged : (rest : List Word) → Judged (teach_line place (parts (codes "teach" ∷ rest))) teaches (codes "teach" ∷ rest)
  unfolding teaches
  teach_judged rest =
      let words = codes "teach" ∷ rest in
      let readings = (teach_form, teach_value place.number) ∷ [] in
      elim place.is_after_step as (λ b. Judged (cond b (Err Shape) (read_in readings (parts words) >>= λ teach. Ok (forms.Teach teach))) (cond b [] (teach_form ∷ [])) words) [
        | true ↦ refl
        | false ↦ then_judged forms.Teach (read_in readings (parts words)) (teach_form ∷ []) words (judged words readings)
      ]

  for_user : (rest : List Word) → Judges (codes "user" ∷ rest)
  unfolding users tasks teaches others line_of
  for_user rest =
      let words = codes "user" ∷ rest in
      let read = user_line version place (parts words) in
      judged_before words (users ++ tasks ++ teaches) others read (no_others (codes "user") rest refl refl)
      (judged_before words (users ++ tasks) teaches read (no_teaches (codes "user") rest refl)
      (judged_before words users tasks read (no_tasks (codes "user") rest refl) (user_judged rest)))

  for_task : (rest : List Word) → Judges (codes "task" ∷ rest)
  unfolding users tasks teaches others line_of
  for_task rest =
      let words = codes "task" ∷ rest in
      let read = task_line version siblings given place (parts words) in
      judged_before words (users ++ tasks ++ teaches) others read (no_others (codes "task") rest refl refl)
      (judged_before words (users ++ tasks) teaches read (no_teaches (codes "task") rest refl)
      (judged_after words users tasks read (no_users (codes "task") rest refl) (task_judged rest)))

  settled_skipped : (name : Word) (rest : List Word) → is_word name (codes "user") ≡ false → is_word name (codes "task") ≡ false → any_shape (users ++ tasks) (name ∷ rest) ≡ false
  settled_skipped name rest h k = (skipped users tasks (name ∷ rest) (no_users name rest h)).0 ∙ no_tasks name rest k

  for_teach : (rest : List Word) → Judges (codes "teach" ∷ rest)
  unfolding users tasks teaches others line_of
  for_teach rest =
      let words = codes "teach" ∷ rest in
      judged_before words (users ++ tasks ++ teaches) others (teach_line place (parts words)) (no_others (codes "teach") rest refl refl)
      (judged_after words (users ++ tasks) teaches (teach_line place (parts words)) (settled_skipped (codes "teach") rest refl refl) (teach_judged rest))

  settings_skipped : (name : Word) (rest : List Word) → is_word name (codes "user") ≡ false → is_word name (codes "task") ≡ false → is_word name (codes "teach") ≡ false → any_shape (users ++ tasks ++ teaches) (name ∷ rest) ≡ false
  settings_skipped name rest h k l =
      (skipped (users ++ tasks) teaches (name ∷ rest) (settled_skipped name rest h k)).0 ∙ no_teaches name rest l

  for_step : (rest : List Word) → Judges (codes "step" ∷ rest)
  unfolding users tasks teaches others has_shape line_of
  for_step rest =
      let words = codes "step" ∷ rest in
      let read = step_line siblings (parts words) >>= λ step. Ok (forms.Step step) in
      judged_after words (users ++ tasks ++ teaches) others read (settings_skipped (codes "step") rest refl refl refl)
      (judged_after words (end_form ∷ []) (step_forms siblings) read refl
      (then_judged forms.Step (step_line siblings (parts words)) (step_forms siblings) words (step_judged siblings rest)))

  for_end : (rest : List Word) → Judges (codes "end" ∷ rest)
  unfolding users tasks teaches others has_shape is_right_in is_right line_of
  for_end [] =
      judged_after (codes "end" ∷ []) (users ++ tasks ++ teaches) others (Ok forms.End) (settings_skipped (codes "end") [] refl refl refl) (refl, refl)
  for_end (word ∷ rest) =
      let words = codes "end" ∷ word ∷ rest in
      rw (ne_eqb (length words) 1 (λ e. omega arith))
      (judged_after {A = ScenarioLine} words (users ++ tasks ++ teaches) others (Err Shape) (settings_skipped (codes "end") (word ∷ rest) refl refl refl) (no_steps siblings (codes "end") (word ∷ rest) refl))

  for_none : (name : Word) (rest : List Word) → is_word name (codes "task") ≡ false → is_word name (codes "teach") ≡ false → is_word name (codes "step") ≡ false → is_word name (codes "user") ≡ false → is_word name (codes "end") ≡ false → Judges (name ∷ rest)
  unfolding users tasks teaches others line_of
  for_none name rest h0 h1 h2 h3 h4 =
      rw (h0, h1, h2, h3, h4)
      (judged_after {A = ScenarioLine} (name ∷ rest) (users ++ tasks ++ teaches) others (Err Shape) (settings_skipped name rest h3 h0 h1) (no_others name rest h4 h2))

  by_name : (name : Word) (rest : List Word) (is0 is1 is2 is3 is4 : Bool) → is_word name (codes "task") ≡ is0 → is_word name (codes "teach") ≡ is1 → is_word name (codes "step") ≡ is2 → is_word name (codes "user") ≡ is3 → is_word name (codes "end") ≡ is4 → Judges (name ∷ rest)
  by_name name rest true is1 is2 is3 is4 h0 h1 h2 h3 h4 =
      subst (λ (w : Word). Judges (w ∷ rest)) (sym (word_is name (codes "task") h0)) (for_task rest)
  by_name name rest false true is2 is3 is4 h0 h1 h2 h3 h4 =
      subst (λ (w : Word). Judges (w ∷ rest)) (sym (word_is name (codes "teach") h1)) (for_teach rest)
  by_name name rest false false true is3 is4 h0 h1 h2 h3 h4 =
      subst (λ (w : Word). Judges (w ∷ rest)) (sym (word_is name (codes "step") h2)) (for_step rest)
  by_name name rest false false false true is4 h0 h1 h2 h3 h4 =
      subst (λ (w : Word). Judges (w ∷ rest)) (sym (word_is name (codes "user") h3)) (for_user rest)
  by_name name rest false false false false true h0 h1 h2 h3 h4 =
      subst (λ (w : Word). Judges (w ∷ rest)) (sym (word_is name (codes "end") h4)) (for_end rest)
  by_name name rest false false false false false h0 h1 h2 h3 h4 = for_none name rest h0 h1 h2 h3 h4

  empty_users : any_shape users [] ≡ false
  unfolding users has_shape
  empty_users = elim late_user as (λ b. any_shape (cond b [] (user_form ∷ [])) [] ≡ false) [ true ↦ refl | false ↦ refl ]

  empty_tasks : any_shape tasks [] ≡ false
  unfolding tasks has_shape
  empty_tasks =
      elim (place.is_after_teach || place.is_after_step) as (λ b. any_shape (cond b [] (task_form version siblings ∷ [])) [] ≡ false) [ true ↦ refl | false ↦ refl ]

  empty_teaches : any_shape teaches [] ≡ false
  unfolding teaches has_shape
  empty_teaches =
      elim place.is_after_step as (λ b. any_shape (cond b [] (teach_form ∷ [])) [] ≡ false) [ true ↦ refl | false ↦ refl ]

  empty_others : any_shape others [] ≡ false
  unfolding others has_shape
  empty_others = refl

  pub line_judged : (words : List Word) → Judges words
  unfolding users tasks teaches others line_of
  line_judged [] =
      (skipped (users ++ tasks ++ teaches) others []
      ((skipped (users ++ tasks) teaches [] ((skipped users tasks [] empty_users).0 ∙ empty_tasks)).0 ∙ empty_teaches)).0
      ∙ empty_others
  line_judged (name ∷ rest) =
      by_name name rest (is_word name (codes "task")) (is_word name (codes "teach")) (is_word name (codes "step")) (is_word name (codes "user")) (is_word name (codes "end")) refl refl refl refl refl
