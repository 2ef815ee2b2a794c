-- Steps: what is read from a step line is spelled by its words, and what is spelled so is read.
use Rattle.std.proofs.Common.{◌≡◌, ℕ, ◌≤◌, ◌<◌, ◌^◌, ◌↔◌, Bool, true, false, cond, List, [], ◌∷◌, ◌++◌, length, drop, Ok, Err, refl, sym, ap, subst, ◌∙◌, arith, zero-le}
use Rattle.std.specs.Prelude.{decimal, codes, ℤ, pos, negsuc, ◌-◌}
use Rattle.std.proofs.lemmas.Bool.{le-leb}
use Rattle.std.proofs.lemmas.List.{length-drop, get_or-drop}
use Rattle.cs_types.specs.declared.event.Actor.{Actor}
use Rattle.cs_types.specs.declared.event.Actor.TheVariants.{Sibling, Caller, End}
use Rattle.cs_types.specs.declared.event.Event.{Event}
use Rattle.cs_types.specs.declared.event.Event.TheVariants.{Turn, Resched, Block, Exit, Tick, Wake, Advance, Fork, Prctl, SetSched, Offline, Online, Load, Unload}
use Rattle.cs_types.specs.declared.event.Step.{Step}
use Rattle.cs_types.specs.Scenario.{IsWithin, IsPid, IsAsk, IsStep}
use Rattle.scenario_text.specs.declared.fault.BadKind.TheVariants.{Shape}
use Rattle.scenario_text.specs.Words.{Word, child_word, event_words}
use Rattle.scenario_text.specs.Text.{step_words}
use Rattle.scenario_text.specs.Grammar.{is_word, begins, behind, value, is_number, Form, keyword, number, signed, sibling, named_pid, child, policy}
use Rattle.scenario_text.specs.Reading.{Parts, parts, after, Read, read_in, joined, policy_value, ask_value, sibling_readings, caller_readings, sibling_step, caller_step, step_line}
use Rattle.scenario_text.proofs.Numbers.{IsSignedWithin, number_is, number_again}
use Rattle.scenario_text.proofs.Fields.{word_is, mark_is, signed_is, signed_again, child_is, policy_is, policy_again, righted_at}
use Rattle.scenario_text.proofs.Said.{IsLineOf, each_reading, then}
use Rattle.scenario_text.proofs.Tasks.{cpu_is, cpu_again}

pub pid_is : (z : ℤ) → IsSignedWithin 2147483648 2147483647 z ↔ IsPid z
pid_is (pos n) = (λ is. omega arith, λ is. omega arith)
pid_is (negsuc n) = (λ is. omega arith, λ is. omega arith)

-- the words after the first so many
pub after_is : (n : ℕ) (words : List Word) → after n (parts words) ≡ parts (drop n words)
after_is n words = λ i. record {
  count = sym (length-drop n words) i;
  at = λ k. sym (get_or-drop n words k []) i;
}

-- ---- events

abbrev pub by : Actor → Event → Step
by actor event = record { actor = actor; event = event }

-- an event that a sibling of the core can make
abbrev pub IsSiblings : ℕ → ℕ → Event → Type 0
IsSiblings siblings i event = IsStep siblings (by (Sibling i) event)

-- an event that each caller can make
abbrev IsCallers : ℕ → Event → Type 0
IsCallers siblings event = (j : ℕ) → j < 8 → IsStep siblings (by (Caller j) event)

-- what a sibling does, by the words that spell it
abbrev SaysSibling : ℕ → ℕ → List Word → (ℕ → Event) → Type 0
SaysSibling siblings i words make = (words ≡ event_words (make i)) × IsSiblings siblings i (make i)

module _ (siblings i : ℕ) (words : List Word) (below : i < siblings) where
  named : (name : Word) (event : ℕ → Event) → event_words (event i) ≡ name ∷ [] → IsSiblings siblings i (event i) →
      (make : ℕ → Event) → IsLineOf (keyword name ∷ []) (λ words. event) words make → SaysSibling siblings i words make
  named name event spelled is make line =
      let w0 = word_is _ name (righted_at (keyword name ∷ []) (parts words) line.right 0 (omega arith)) in
      rw (← line.says_it) (line.words_are ∙ then w0 refl ∙ sym spelled, is)

  pub sibling_event_is : (make : ℕ → Event) → read_in sibling_readings (parts words) ≡ Ok make → SaysSibling siblings i words make
  sibling_event_is =
      each_reading (SaysSibling siblings i words) words sibling_readings (
        named (codes "turn") Turn refl (record { event = below; actor = refl }),
        (
          named (codes "resched") Resched refl (record { event = below; actor = refl }),
          (
            named (codes "block") Block refl (record { event = below; actor = refl }),
            (
              named (codes "exit") Exit refl (record { event = below; actor = refl }),
              (named (codes "tick") Tick refl (record { event = below; actor = refl }), tt),
            ),
          ),
        ),
      )

-- what a caller does, by the words that spell it
abbrev SaysCaller : ℕ → List Word → Event → Type 0
SaysCaller siblings words event = (words ≡ event_words event) × IsCallers siblings event

module _ (siblings : ℕ) (some : 1 ≤ siblings) (few : siblings < 256) (words : List Word) where
  Each : Form → (Parts → Event) → Type 0
  Each form says = (event : Event) → IsLineOf form says words event → SaysCaller siblings words event

  -- a keyword and a number
  one_number : (name : Word) (low high : ℕ) (event : ℕ → Event) → high < 2 ^ 64 → ((n : ℕ) → event_words (event n) ≡ name ∷ decimal n ∷ []) → ((n : ℕ) → IsWithin low high n → IsCallers siblings (event n)) →
      Each (keyword name ∷ number low high ∷ []) (λ words. event (value (words.at 1)))
  unfolding Each
  one_number name low high event small spelled is made line =
      let right = righted_at (keyword name ∷ number low high ∷ []) (parts words) line.right in
      let w0 = word_is _ name (right 0 (omega arith)) in
      let w1 = number_is low high _ small (right 1 (omega arith)) in
      rw (← line.says_it) (line.words_are ∙ then w0 (then w1.0 refl) ∙ sym (spelled _), is _ w1.1)

  -- a keyword and a sibling
  one_cpu : (name : Word) (event : ℕ → Event) → ((n : ℕ) → event_words (event n) ≡ name ∷ decimal n ∷ []) → ((n : ℕ) → n < siblings → IsCallers siblings (event n)) →
      Each (keyword name ∷ sibling siblings ∷ []) (λ words. event (value (words.at 1)))
  unfolding Each
  one_cpu name event spelled is =
      one_number name 0 (siblings - 1) event (omega arith) spelled (λ n within. is n (omega arith))

  fork_is : Each (keyword (codes "fork") ∷ named_pid ∷ child ∷ []) (λ words. Fork (value (words.at 1)) (is_word (words.at 2) (codes "thread")))
  unfolding Each
  fork_is event line =
      let right = righted_at (keyword (codes "fork") ∷ named_pid ∷ child ∷ []) (parts words) line.right in
      let w0 = word_is _ (codes "fork") (right 0 (omega arith)) in
      let w1 = number_is 1 999999 _ (omega arith) (right 1 (omega arith)) in
      let w2 = child_is _ (right 2 (omega arith)) in
      rw (← line.says_it) (line.words_are ∙ then w0 (then w1.0 (then w2 refl)), λ j below. record { event = w1.1; actor = below })

  prctl_is : Each (keyword (codes "prctl") ∷ named_pid ∷ number 0 4294967295 ∷ signed 2147483648 2147483647 ∷ number 0 4294967295 ∷ number 0 18446744073709551615 ∷ []) (λ words. Prctl (value (words.at 1)) (ask_value words))
  unfolding Each
  prctl_is event line =
      let right = righted_at (keyword (codes "prctl") ∷ named_pid ∷ number 0 4294967295 ∷ signed 2147483648 2147483647 ∷ number 0 4294967295 ∷ number 0 18446744073709551615 ∷ []) (parts words) line.right in
      let w0 = word_is _ (codes "prctl") (right 0 (omega arith)) in
      let w1 = number_is 1 999999 _ (omega arith) (right 1 (omega arith)) in
      let w2 = number_is 0 4294967295 _ (omega arith) (right 2 (omega arith)) in
      let w3 = signed_is 2147483648 2147483647 (omega arith, omega arith) _ (right 3 (omega arith)) in
      let w4 = number_is 0 4294967295 _ (omega arith) (right 4 (omega arith)) in
      let w5 = number_is 0 18446744073709551615 _ (omega arith) (right 5 (omega arith)) in
      let ask : IsAsk (ask_value (parts words)) = record { cmd = omega (arith, w2.1); pid = (pid_is _).0 w3.1; scope = omega (arith, w4.1); addr = omega (arith, w5.1) } in
      rw (← line.says_it) (
        line.words_are ∙ then w0 (then w1.0 (then w2.0 (then w3.0 (then w4.0 (then w5.0 refl))))),
        λ j below. record { event = (w1.1, ask); actor = below },
      )

  setsched_is : Each (keyword (codes "setsched") ∷ named_pid ∷ policy ∷ []) (λ words. SetSched (value (words.at 1)) (policy_value (words.at 2)))
  unfolding Each
  setsched_is event line =
      let right = righted_at (keyword (codes "setsched") ∷ named_pid ∷ policy ∷ []) (parts words) line.right in
      let w0 = word_is _ (codes "setsched") (right 0 (omega arith)) in
      let w1 = number_is 1 999999 _ (omega arith) (right 1 (omega arith)) in
      let w2 = policy_is _ (right 2 (omega arith)) in
      rw (← line.says_it) (line.words_are ∙ then w0 (then w1.0 (then w2.0 refl)), λ j below. record { event = (w1.1, w2.1); actor = below })

  pub caller_event_is : (event : Event) → read_in (caller_readings siblings) (parts words) ≡ Ok event → SaysCaller siblings words event
  unfolding Each
  caller_event_is =
      each_reading (SaysCaller siblings words) words (caller_readings siblings) (
        one_number (codes "wake") 1 999999 Wake (omega arith) (λ n. refl) (λ n within j below. record { event = within; actor = below }),
        (
          one_number (codes "advance") 1 1000000000 Advance (omega arith) (λ n. refl) (λ n within j below. record { event = within; actor = below }),
          (
            fork_is,
            (
              prctl_is,
              (
                setsched_is,
                (
                  one_cpu (codes "offline") Offline (λ n. refl) (λ n within j below. record { event = within; actor = below }),
                  (
                    one_cpu (codes "online") Online (λ n. refl) (λ n within j below. record { event = within; actor = below }),
                    (
                      one_number (codes "load") 0 15 Load (omega arith) (λ n. refl) (λ n within j below. record { event = within.1; actor = below }),
                      (one_number (codes "unload") 0 15 Unload (omega arith) (λ n. refl) (λ n within j below. record { event = within.1; actor = below }), tt),
                    ),
                  ),
                ),
              ),
            ),
          ),
        ),
      )

-- the number of an actor

pub sibling_within : (siblings i : ℕ) (event : Event) → IsSiblings siblings i event → i < siblings
sibling_within siblings i (Turn cpu) is = subst (λ (n : ℕ). n < siblings) is.actor is.event
sibling_within siblings i (Resched cpu) is = subst (λ (n : ℕ). n < siblings) is.actor is.event
sibling_within siblings i (Block cpu) is = subst (λ (n : ℕ). n < siblings) is.actor is.event
sibling_within siblings i (Exit cpu) is = subst (λ (n : ℕ). n < siblings) is.actor is.event
sibling_within siblings i (Tick cpu) is = subst (λ (n : ℕ). n < siblings) is.actor is.event
sibling_within siblings i event is = absurd is.actor

pub caller_within : (siblings j : ℕ) (event : Event) → IsStep siblings (by (Caller j) event) → j < 8
caller_within siblings j (Wake pid) is = is.actor
caller_within siblings j (Advance delta) is = is.actor
caller_within siblings j (Fork caller thread) is = is.actor
caller_within siblings j (Prctl caller ask) is = is.actor
caller_within siblings j (SetSched pid _) is = is.actor
caller_within siblings j (Offline cpu) is = is.actor
caller_within siblings j (Online cpu) is = is.actor
caller_within siblings j (Load index) is = is.actor
caller_within siblings j (Unload index) is = is.actor
caller_within siblings j event is = absurd is.actor

-- ---- an event is read again

child_again : (thread : Bool) → (child.has_shape (child_word thread) ≡ true) × (child.is_right (child_word thread) ≡ true) × (is_word (child_word thread) (codes "thread") ≡ thread)
child_again true = (refl, refl, refl)
child_again false = (refl, refl, refl)

caller_event_again : (siblings j : ℕ) (event : Event) → siblings < 256 → IsStep siblings (by (Caller j) event) → read_in (caller_readings siblings) (parts (event_words event)) ≡ Ok event
caller_event_again siblings j (Wake pid) few is =
    let again = number_again 1 999999 pid (omega arith) is.event in rw (again.right, again.same) refl
caller_event_again siblings j (Advance delta) few is =
    let again = number_again 1 1000000000 delta (omega arith) is.event in rw (again.right, again.same) refl
caller_event_again siblings j (Fork caller thread) few is =
    let again = number_again 1 999999 caller (omega arith) is.event in
    let kind = child_again thread in
    rw (kind.0, again.right, kind.1, again.same, kind.2) refl
caller_event_again siblings j (Prctl caller ask) few is =
    let again = number_again 1 999999 caller (omega arith) is.event.0 in
    let cmd = number_again 0 4294967295 ask.cmd (omega arith) (zero-le, omega (arith, is.event.1.cmd)) in
    let target = signed_again 2147483648 2147483647 (omega arith, omega arith) ask.pid ((pid_is ask.pid).1 is.event.1.pid) in
    let scope = number_again 0 4294967295 ask.scope (omega arith) (zero-le, omega (arith, is.event.1.scope)) in
    let addr = number_again 0 18446744073709551615 ask.addr (omega arith) (zero-le, omega (arith, is.event.1.addr)) in
    rw (again.right, cmd.right, target.right, scope.right, addr.right, again.same, cmd.same, target.same, scope.same, addr.same) refl
caller_event_again siblings j (SetSched pid said) few is =
    let again = number_again 1 999999 pid (omega arith) is.event.0 in
    let spelled = policy_again said is.event.1 in
    rw (spelled.shape, again.right, spelled.right, again.same, spelled.same) refl
caller_event_again siblings j (Offline cpu) few is =
    let again = cpu_again siblings cpu few is.event in rw (again.right, again.same) refl
caller_event_again siblings j (Online cpu) few is =
    let again = cpu_again siblings cpu few is.event in rw (again.right, again.same) refl
caller_event_again siblings j (Load index) few is =
    let again = number_again 0 15 index (omega arith) (zero-le, is.event) in rw (again.right, again.same) refl
caller_event_again siblings j (Unload index) few is =
    let again = number_again 0 15 index (omega arith) (zero-le, is.event) in rw (again.right, again.same) refl
caller_event_again siblings j event few is = absurd is.actor

-- ---- steps

-- what is read where a number besides is right
joined_is : {A B : Type 0} (r : Read A) (right : Bool) (f : A → B) (y : B) → joined r right f ≡ Ok y → (x : A) × (r ≡ Ok x) × (right ≡ true) × (f x ≡ y)
joined_is (Ok x) true f y e = (x, refl, refl, cc)
joined_is (Ok x) false f y e = absurd cc
joined_is (Err kind) right f y e = absurd cc

abbrev SaysStep : ℕ → List Word → Step → Type 0
SaysStep siblings words step = (words ≡ step_words step) × IsStep siblings step

pub sibling_step_is : (siblings : ℕ) (digits : Word) (event : List Word) (step : Step) → 1 ≤ siblings → siblings < 256 → sibling_step siblings digits (parts event) ≡ Ok step → SaysStep siblings (codes "step" ∷ (codes "s" ++ digits) ∷ event) step
sibling_step_is siblings digits event step some few e =
    let both = joined_is (read_in sibling_readings (parts event)) (is_number 0 (siblings - 1) digits) (λ make. by (Sibling (value digits)) (make (value digits))) step e in
    let w = cpu_is siblings digits some few both.2 in
    let is = sibling_event_is siblings (value digits) event w.1 both.0 both.1 in
    rw (← both.3) (then refl (then (ap (λ (d : Word). codes "s" ++ d) w.0) is.0), is.1)

caller_step_is : (siblings : ℕ) (digits : Word) (event : List Word) (step : Step) → 1 ≤ siblings → siblings < 256 → caller_step siblings digits (parts event) ≡ Ok step → SaysStep siblings (codes "step" ∷ (codes "c" ++ digits) ∷ event) step
caller_step_is siblings digits event step some few e =
    let both = joined_is (read_in (caller_readings siblings) (parts event)) (is_number 0 7 digits) (by (Caller (value digits))) step e in
    let w = number_is 0 7 digits (omega arith) both.2 in
    let is = caller_event_is siblings some few event both.0 both.1 in
    rw (← both.3) (then refl (then (ap (λ (d : Word). codes "c" ++ d) w.0) is.0), is.1 (value digits) (omega (arith, w.1)))

sibling_step_again : (siblings i : ℕ) (event : Event) → siblings < 256 → IsSiblings siblings i event → sibling_step siblings (decimal i) (parts (event_words event)) ≡ Ok (by (Sibling i) event)
sibling_step_again siblings i (Turn cpu) few is =
    let again = cpu_again siblings i few (sibling_within siblings i (Turn cpu) is) in
    rw (again.right, again.same) (ap (λ (n : ℕ). Ok (by (Sibling i) (Turn n))) (sym is.actor))
sibling_step_again siblings i (Resched cpu) few is =
    let again = cpu_again siblings i few (sibling_within siblings i (Resched cpu) is) in
    rw (again.right, again.same) (ap (λ (n : ℕ). Ok (by (Sibling i) (Resched n))) (sym is.actor))
sibling_step_again siblings i (Block cpu) few is =
    let again = cpu_again siblings i few (sibling_within siblings i (Block cpu) is) in
    rw (again.right, again.same) (ap (λ (n : ℕ). Ok (by (Sibling i) (Block n))) (sym is.actor))
sibling_step_again siblings i (Exit cpu) few is =
    let again = cpu_again siblings i few (sibling_within siblings i (Exit cpu) is) in
    rw (again.right, again.same) (ap (λ (n : ℕ). Ok (by (Sibling i) (Exit n))) (sym is.actor))
sibling_step_again siblings i (Tick cpu) few is =
    let again = cpu_again siblings i few (sibling_within siblings i (Tick cpu) is) in
    rw (again.right, again.same) (ap (λ (n : ℕ). Ok (by (Sibling i) (Tick n))) (sym is.actor))
sibling_step_again siblings i event few is = absurd is.actor

pub step_again : (siblings : ℕ) (actor : Actor) (event : Event) → siblings < 256 → IsStep siblings (by actor event) → step_line siblings (parts (step_words (by actor event))) ≡ Ok (by actor event)
step_again siblings (Sibling i) event few is =
    let words = step_words (by (Sibling i) event) in
    rw (le-leb 2 (length words) (omega arith)) (ap (sibling_step siblings (decimal i)) (after_is 2 words) ∙ sibling_step_again siblings i event few is)
step_again siblings (Caller j) event few is =
    let words = step_words (by (Caller j) event) in
    let again = number_again 0 7 j (omega arith) (zero-le, let within = caller_within siblings j event is in omega arith) in
    let said : caller_step siblings (decimal j) (parts (event_words event)) ≡ Ok (by (Caller j) event) = rw (caller_event_again siblings j event few is, again.right, again.same) refl in
    rw (le-leb 2 (length words) (omega arith)) (ap (caller_step siblings (decimal j)) (after_is 2 words) ∙ said)
step_again siblings End event few is = absurd is.actor

-- ---- a step line

-- what the actor's mark makes of the words after it
abbrev pub marked_step : ℕ → Word → Parts → Read Step
marked_step siblings actor event =
    cond (begins actor (codes "s")) (sibling_step siblings (behind (codes "s") actor) event)
    (cond (begins actor (codes "c")) (caller_step siblings (behind (codes "c") actor) event) (Err Shape))

by_mark : (siblings : ℕ) (actor : Word) (event : List Word) (step : Step) → 1 ≤ siblings → siblings < 256 → (is_sibling is_caller : Bool) → begins actor (codes "s") ≡ is_sibling → begins actor (codes "c") ≡ is_caller →
    cond is_sibling (sibling_step siblings (behind (codes "s") actor) (parts event)) (cond is_caller (caller_step siblings (behind (codes "c") actor) (parts event)) (Err Shape)) ≡ Ok step →
    SaysStep siblings (codes "step" ∷ actor ∷ event) step
by_mark siblings actor event step some few true is_caller h k e =
    subst (λ (a : Word). SaysStep siblings (codes "step" ∷ a ∷ event) step) (sym (mark_is actor (codes "s") h)) (sibling_step_is siblings (behind (codes "s") actor) event step some few e)
by_mark siblings actor event step some few false true h k e =
    subst (λ (a : Word). SaysStep siblings (codes "step" ∷ a ∷ event) step) (sym (mark_is actor (codes "c") k)) (caller_step_is siblings (behind (codes "c") actor) event step some few e)
by_mark siblings actor event step some few false false h k e = absurd cc

-- what stands after the word `step`
pub step_is : (siblings : ℕ) (rest : List Word) (step : Step) → 1 ≤ siblings → siblings < 256 → step_line siblings (parts (codes "step" ∷ rest)) ≡ Ok step → SaysStep siblings (codes "step" ∷ rest) step
step_is siblings [] step some few e = absurd cc
step_is siblings (actor ∷ event) step some few e =
    let words = codes "step" ∷ actor ∷ event in
    let line = rw (le-leb 2 (length words) (omega arith)) at e in
    by_mark siblings actor event step some few (begins actor (codes "s")) (begins actor (codes "c")) refl refl (ap (marked_step siblings actor) (sym (after_is 2 words)) ∙ line)
