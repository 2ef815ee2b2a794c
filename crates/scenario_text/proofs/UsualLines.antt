-- UsualLines: a text that begins with the line of a step, put together from what was found at its front.
use Rattle.std.proofs.Common.{w32, ℤ, zero, suc, ◌≡◌, ℕ, ◌≤◌, ◌<◌, ◌+◌, ◌-◌, ◌^◌, ◌/◌, ◌%◌, true, eqb, List, [], ◌∷◌, ◌++◌, length, take, drop, get_or, Some, Ok, Err, false, refl, sym, ap, subst, ◌∙◌, append_assoc, take_all, zero-le, arith}
use mir.Val.{to_z}
use Rattle.std.specs.Borrow.{Bor}
use Rattle.std.specs.Prelude.{◌&&◌, ◌||◌, not, codes, decimal, MatchResult}
use Rattle.std.specs.Char.{is_ascii_digit}
use Rattle.std.specs.Fmt.{signed_decimal}
use Rattle.std.specs.List.{AllByRecursion, join_with_byte}
use Rattle.std.specs.Str.{all_ascii_digits}
use Rattle.std.specs.Result.{result_ok}
use Rattle.std.proofs.lemmas.Fmt.{decimal_digit, decimal_step}
use Rattle.std.proofs.lemmas.Int.{to_z_pos}
use Rattle.std.proofs.lemmas.List.{length-drop}
use Rattle.std.proofs.lemmas.Bool.Decides.{nat_tests}
use Rattle.std.proofs.lemmas.List.Splits.{slice_split_at, join_with_byte-slice_split}
use Rattle.cs_types.specs.declared.event.Actor.{Actor}
use Rattle.cs_types.specs.declared.event.Actor.TheVariants.{Sibling, Caller, End}
use Rattle.cs_types.specs.declared.task.Policy.{Policy}
use Rattle.cs_types.specs.declared.event.Event.{Event}
use Rattle.cs_types.specs.declared.event.Event.TheVariants.{Turn, Resched, Block, Exit, Tick, Wake, Advance, Fork, Prctl, SetSched, Offline, Online, Load, Unload}
use Rattle.cs_types.specs.declared.event.Step.{Step}
use Rattle.cs_types.specs.Scenario.{IsWithin, IsPolicy, IsStep}
use Rattle.scenario_text.specs.declared.fault.BadKind.{BadKind}
use Rattle.scenario_text.specs.declared.fault.BadKind.TheVariants.{Number}
use Rattle.scenario_text.specs.declared.head.Head.{Head}
use Rattle.scenario_text.specs.declared.line.Place.{Place}
use Rattle.scenario_text.specs.declared.line.ScenarioLine.{ScenarioLine}
use Rattle.scenario_text.specs.declared.line.ScenarioLine.TheVariants as forms
use Rattle.scenario_text.specs.Words.{Word, policy_word, actor_word, made_words, event_words}
use Rattle.scenario_text.specs.Text.{spaced, line, step_words}
use Rattle.scenario_text.specs.Grammar.{value, is_canonical, policy}
use Rattle.scenario_text.specs.Faults.{pieces, lines_in}
use Rattle.scenario_text.specs.Reading.{◌>>=◌, Contents, place_after, Read, line_at, line_check, next_of, usable, IsHead, BeginsStep, BeginsActor, BeginsEvent, BeginsAsk, BeginsPolicy, BeginsNumber, BeginsTarget, policy_value, lent, texts, line_of}
use Rattle.scenario_text.proofs.Numbers.{digits_are}
use Rattle.scenario_text.proofs.Fields.{behind_first, policy_is}
use Rattle.scenario_text.proofs.Cuts.{has_piece, line_at-lines_in, lent_is}
use Rattle.scenario_text.proofs.Texts.{IsPlain, words_in-spaced, spaced_lacks, all_lack}
use Rattle.scenario_text.proofs.Forms.{line_again}
use Rattle.scenario_text.proofs.Drafts.{siblings_within}
use Rattle.scenario_text.proofs.Steps.{by}
use Rattle.scenario_text.proofs.Usable.{usable_step}
use Rattle.scenario_text.proofs.Plain.{plain_step}

-- ---- a line that was found

-- the first line of a text
first_line : (text : List ℕ) (word : Word) (words : List Word) (rest : List ℕ) → text ≡ spaced (word ∷ words) ++ 10 ∷ rest → AllByRecursion IsPlain (word ∷ words) → usable (word ∷ words) ≡ true →
    line_at (lines_in text) ≡ Ok (word ∷ words, lines_in rest)
unfolding pieces
first_line text word words rest is plain can =
    let line = spaced (word ∷ words) in
    let cut : pieces 10 text ≡ line ∷ pieces 10 rest = ap (pieces 10) is ∙ slice_split_at (λ b. eqb b 10) line 10 rest (all_lack 10 line (spaced_lacks word words plain)) refl in
    line_at-lines_in text line rest cut ∙ rw (words_in-spaced word words plain, can) refl

-- which a step spells
pub step_line_is : (siblings : ℕ) (text rest : List ℕ) (step : Step) → siblings < 256 → BeginsStep siblings text step rest → line_at (lines_in text) ≡ Ok (step_words step, lines_in rest)
step_line_is siblings text rest step few found =
    let words = made_words step.actor step.event in
    let whole : text ≡ spaced (codes "step" ∷ words) ++ 10 ∷ rest = found.spelled ∙ append_assoc (spaced (codes "step" ∷ words)) (10 ∷ []) rest in
    first_line text (codes "step") words rest whole (plain_step siblings step few found.is) (usable_step siblings few step.actor step.event found.is)

-- is checked like any line
pub next_checked : (head : Head) → IsHead head → (plan : Contents) (lines rest : List (List Word)) (step : Step) → IsStep head.siblings step → line_at lines ≡ Ok (step_words step, rest) →
    (checked : Read (Unit {0})) → checked ≡ line_check head.version head.task_limit (forms.Step step) plan → next_of head plan lines ≡ (checked >>= λ follows. Ok (forms.Step step, rest))
unfolding next_of
next_checked head is plan lines rest step fits taken checked by =
    rw (taken, line_again head.version head.siblings plan.users (place_after plan) (let most = siblings_within head is in omega arith) (forms.Step step) fits, by) refl

-- a line that is not usual: it is none, it has no form, or it is checked
module _ (head : Head) (plan : Contents) (lines rest : List (List Word)) where
  pub untaken : (kind : BadKind) → line_at lines ≡ Err kind → next_of head plan lines ≡ Err kind
  unfolding next_of
  untaken kind e = rw e refl

  module _ (words : List (Bor Word)) (taken : line_at lines ≡ Ok (texts words, rest)) (place : Place) (there : place ≡ place_after plan) where
    pub formless : (kind : BadKind) → Err kind ≡ line_of head.version head.siblings plan.users place (lent words) → next_of head plan lines ≡ Err kind
    unfolding next_of
    formless kind e = rw (taken, sym there, sym (e ∙ ap (line_of head.version head.siblings plan.users place) (lent_is words))) refl

    pub line_checked : (line : ScenarioLine) → Ok line ≡ line_of head.version head.siblings plan.users place (lent words) →
        (checked : Read (Unit {0})) → checked ≡ line_check head.version head.task_limit line plan → next_of head plan lines ≡ (checked >>= λ follows. Ok (line, rest))
    unfolding next_of
    line_checked line e checked by = rw (taken, sym there, sym (e ∙ ap (line_of head.version head.siblings plan.users place) (lent_is words)), by) refl

-- ---- as the code finds it

-- the front of a text is canonical where its first byte is a digit from 1 on
nonzero_first : (byte len : ℕ) → 49 ≤ byte → byte ≤ 57 → (is_ascii_digit byte && (eqb len 1 || not (eqb byte 48))) ≡ true
nonzero_first byte len low high = grind (arith, nat_tests)

pub front_canonical : (text : List ℕ) (count : ℕ) → 1 ≤ count → 1 ≤ length text → 49 ≤ get_or text 0 0 → get_or text 0 0 ≤ 57 → is_canonical (take count text) ≡ true
front_canonical (byte ∷ rest) (suc count) some long low high = nonzero_first byte (suc (length (take count rest))) low high
front_canonical text zero some long low high = absurd (omega arith)
front_canonical [] count some long low high = absurd (omega arith)

-- bytes that are cut at a separator
cut_is : (separator : ℕ) (bytes first rest : List ℕ) → pieces separator bytes ≡ first ∷ pieces separator rest → bytes ≡ first ++ separator ∷ rest
unfolding pieces
cut_is separator bytes first rest cut =
    let some = has_piece separator rest in
    let there : join_with_byte separator (some.first ∷ some.more) ≡ rest = ap (join_with_byte separator) (sym some.is) ∙ join_with_byte-slice_split separator rest in
    sym (join_with_byte-slice_split separator bytes)
    ∙ ap (join_with_byte separator) (cut ∙ ap (λ (ps : List (List ℕ)). first ∷ ps) some.is)
    ∙ ap (λ (bytes : List ℕ). first ++ separator ∷ bytes) there

-- a number before a separator
pub number_before_is : (low high : ℕ) (text word behind rest : List ℕ) (n end : ℕ) → high < 2 ^ 64 → text ≡ word ++ behind → behind ≡ end ∷ rest → is_canonical word ≡ true → all_ascii_digits word ≡ true →
    n ≡ value word → IsWithin low high n → BeginsNumber low high text n end rest
number_before_is low high text word behind rest n end small cut ends first digits same within =
    record {
      within = within;
      spelled = cut
          ∙ ap (λ (bytes : List ℕ). word ++ bytes) ends
          ∙ ap (λ (w : List ℕ). w ++ end ∷ rest) (digits_are low high word small first digits (subst (IsWithin low high) same within) ∙ ap decimal (sym same));
    }

-- a policy at the end of the line
pub last_policy_is : (text word rest : List ℕ) (r : Read Policy) (said : Policy) → pieces 10 text ≡ word ∷ pieces 10 rest →
    MatchResult r (λ said. (policy.is_right word ≡ true) × (said ≡ policy_value word)) (λ kind. (policy.is_right word ≡ false) × (kind ≡ Number)) → result_ok r ≡ Some said → BeginsPolicy text said rest
last_policy_is text word rest (Err kind) said cut spelled is = absurd cc
last_policy_is text word rest (Ok p) said cut spelled is =
    let says = policy_is word spelled.0 in
    let same : policy_value word ≡ said = cc in
    record {
      is = subst IsPolicy same says.1;
      spelled = cut_is 10 text word rest cut ∙ ap (λ (w : List ℕ). w ++ 10 ∷ rest) (says.0 ∙ ap policy_word same) ∙ sym (append_assoc (policy_word said) (10 ∷ []) rest);
    }

-- a digit before a byte
pub digit_before_is : (high n end : ℕ) (text rest : List ℕ) → n < 10 → n ≤ high → text ≡ (48 + n) ∷ end ∷ rest → BeginsNumber 0 high text n end rest
digit_before_is high n end text rest small most is =
    record { within = (zero-le, most); spelled = is ∙ ap (λ (w : List ℕ). w ++ end ∷ rest) (sym (decimal_digit n small)) }

-- the two digits of a number from 10 to 19
ten_and : (unit : ℕ) → unit < 10 → decimal (10 + unit) ≡ 49 ∷ (48 + unit) ∷ []
ten_and unit small =
    let tens : (10 + unit) / 10 ≡ 1 = omega (arith, small) in
    let units : (10 + unit) % 10 ≡ unit = omega (arith, small) in
    decimal_step (10 + unit) (omega arith) (omega arith)
    ∙ (λ i. decimal (tens i) ++ (48 + units i) ∷ [])
    ∙ ap (λ (w : List ℕ). w ++ (48 + unit) ∷ []) (decimal_digit 1 (omega arith))

-- two digits before a byte, the first of which is 1
pub two_digits_before : (high unit end : ℕ) (text units rest : List ℕ) → text ≡ 49 ∷ units → BeginsNumber 0 9 units unit end rest → 10 + unit ≤ high → BeginsNumber 0 high text (10 + unit) end rest
two_digits_before high unit end text units rest is found most =
    let small : unit < 10 = omega (arith, found.within.1) in
    record {
      within = (zero-le, most);
      spelled = is ∙ ap (λ (w : List ℕ). 49 ∷ w) (found.spelled ∙ ap (λ (w : List ℕ). w ++ end ∷ rest) (decimal_digit unit small)) ∙ ap (λ (w : List ℕ). w ++ end ∷ rest) (sym (ten_and unit small));
    }

-- what stands behind the first bytes of a text is all of it
whole : (n : ℕ) (text : List ℕ) → drop n text ≡ behind_first n text
whole n text = sym (take_all (length text - n) (drop n text) (omega (arith, length-drop n text)))

-- the first byte of a text
pub one_is : (text : List ℕ) (a : ℕ) → 1 ≤ length text → get_or text 0 0 ≡ a → text ≡ a ∷ behind_first 1 text
one_is (first ∷ rest) a long is = ap (λ (byte : ℕ). byte ∷ rest) is ∙ ap (λ (bytes : List ℕ). a ∷ bytes) (whole 1 (first ∷ rest))
one_is [] a long is = absurd (omega arith)

-- the first two bytes of a text
two_are : (text : List ℕ) (a b : ℕ) → 2 ≤ length text → get_or text 0 0 ≡ a → get_or text 1 0 ≡ b → text ≡ a ∷ b ∷ drop 2 text
two_are (first ∷ second ∷ rest) a b long e0 e1 = cc
two_are text a b long e0 e1 = absurd (omega arith)

pub two_is : (text : List ℕ) (a b : ℕ) → 2 ≤ length text → get_or text 0 0 ≡ a → get_or text 1 0 ≡ b → text ≡ a ∷ b ∷ behind_first 2 text
two_is text a b long e0 e1 = two_are text a b long e0 e1 ∙ ap (λ (bytes : List ℕ). a ∷ b ∷ bytes) (whole 2 text)

-- the first three bytes of a text
three_are : (text : List ℕ) (a b c : ℕ) → 3 ≤ length text → get_or text 0 0 ≡ a → get_or text 1 0 ≡ b → get_or text 2 0 ≡ c → text ≡ a ∷ b ∷ c ∷ drop 3 text
three_are (first ∷ second ∷ third ∷ rest) a b c long e0 e1 e2 = cc
three_are text a b c long e0 e1 e2 = absurd (omega arith)

pub three_is : (text : List ℕ) (a b c : ℕ) → 3 ≤ length text → get_or text 0 0 ≡ a → get_or text 1 0 ≡ b → get_or text 2 0 ≡ c → text ≡ a ∷ b ∷ c ∷ behind_first 3 text
three_is text a b c long e0 e1 e2 = three_are text a b c long e0 e1 e2 ∙ ap (λ (bytes : List ℕ). a ∷ b ∷ c ∷ bytes) (whole 3 text)

-- a letter, a digit and a space
pub actor_is : (letter n : ℕ) (text rest : List ℕ) → n < 10 → text ≡ letter ∷ (48 + n) ∷ 32 ∷ rest → text ≡ (letter ∷ decimal n) ++ 32 ∷ rest
actor_is letter n text rest small is = is ∙ ap (λ (w : Word). letter ∷ (w ++ 32 ∷ rest)) (sym (decimal_digit n small))

-- an event has a word at least
event_some : (event : Event) → (first : Word) × (more : List Word) × (event_words event ≡ first ∷ more)
event_some (Turn cpu) = (_, _, refl)
event_some (Resched cpu) = (_, _, refl)
event_some (Block cpu) = (_, _, refl)
event_some (Exit cpu) = (_, _, refl)
event_some (Tick cpu) = (_, _, refl)
event_some (Wake pid) = (_, _, refl)
event_some (Advance delta) = (_, _, refl)
event_some (Fork caller thread) = (_, _, refl)
event_some (Prctl caller ask) = (_, _, refl)
event_some (SetSched pid said) = (_, _, refl)
event_some (Offline cpu) = (_, _, refl)
event_some (Online cpu) = (_, _, refl)
event_some (Load index) = (_, _, refl)
event_some (Unload index) = (_, _, refl)

-- the line of a step, whose words stand behind one another
step_text : (word : Word) (words : List Word) (first : Word) (more : List Word) (text front behind rest : List ℕ) → words ≡ first ∷ more → text ≡ codes "step " ++ front → front ≡ word ++ 32 ∷ behind → behind ≡ line words ++ rest →
    text ≡ line (codes "step" ∷ word ∷ words) ++ rest
step_text word words first more text front behind rest some begins acts is =
    let tail = spaced (first ∷ more) in
    let ends : behind ≡ tail ++ 10 ∷ rest = is ∙ ap (λ (words : List Word). line words ++ rest) some ∙ append_assoc tail (10 ∷ []) rest in
    begins
    ∙ ap (λ (bytes : List ℕ). codes "step " ++ bytes) (acts ∙ ap (λ (bytes : List ℕ). word ++ 32 ∷ bytes) ends ∙ sym (append_assoc (word ++ 32 ∷ tail) (10 ∷ []) rest ∙ append_assoc word (32 ∷ tail) (10 ∷ rest)))
    ∙ ap (λ (words : List Word). line (codes "step" ∷ word ∷ words) ++ rest) (sym some)

pub step_is : (siblings : ℕ) (actor : Actor) (event : Event) (text front behind rest : List ℕ) → text ≡ codes "step " ++ front → BeginsActor siblings front actor behind → BeginsEvent siblings actor behind event rest →
    BeginsStep siblings text (by actor event) rest
step_is siblings (Sibling i) event text front behind rest begins acts found =
    let some = event_some event in
    record { is = found.is; spelled = step_text (actor_word (Sibling i)) (event_words event) some.0 some.1 text front behind rest some.2 begins acts.spelled found.spelled }
step_is siblings (Caller j) event text front behind rest begins acts found =
    let some = event_some event in
    record { is = found.is; spelled = step_text (actor_word (Caller j)) (event_words event) some.0 some.1 text front behind rest some.2 begins acts.spelled found.spelled }
step_is siblings End event text front behind rest begins acts found = absurd acts.is

-- ---- what a caller does

-- a word before words that end the line
word_before : (word tail text behind rest : List ℕ) → text ≡ word ++ 32 ∷ behind → behind ≡ tail ++ 10 ∷ rest → text ≡ (word ++ 32 ∷ tail) ++ 10 ∷ rest
word_before word tail text behind rest is ends =
    is ∙ ap (λ (bytes : List ℕ). word ++ 32 ∷ bytes) ends ∙ sym (append_assoc word (32 ∷ tail) (10 ∷ rest))

-- a target from 0 on, before a space
pub above_is : (text rest : List ℕ) (n : ℕ) → BeginsNumber 0 2147483647 text n 32 rest → BeginsTarget text (to_z w32 n) rest
above_is text rest n found =
    let small : n < 2 ^ 31 = omega (arith, found.within.1) in
    rw (to_z_pos w32 n small) (record { is = small; spelled = found.spelled })

-- the arguments of a call, which end the line
pub ask_is : (cmd scope addr : ℕ) (target : ℤ) (text asked aimed scoped rest : List ℕ) → BeginsNumber 0 4294967295 text cmd 32 asked → BeginsTarget asked target aimed → BeginsNumber 0 4294967295 aimed scope 32 scoped →
    BeginsNumber 0 18446744073709551615 scoped addr 10 rest → BeginsAsk text (record { cmd = cmd; pid = target; scope = scope; addr = addr }) rest
ask_is cmd scope addr target text asked aimed scoped rest first second third fourth =
    let last = decimal scope ++ 32 ∷ decimal addr in
    let later = signed_decimal target ++ 32 ∷ last in
    let ends = word_before (decimal cmd) later text asked rest first.spelled (word_before (signed_decimal target) last asked aimed rest second.spelled (word_before (decimal scope) (decimal addr) aimed scoped rest third.spelled fourth.spelled)) in
    record {
      is = record { cmd = omega (arith, first.within.1); pid = second.is; scope = omega (arith, third.within.1); addr = omega (arith, fourth.within.1) };
      spelled = ends ∙ sym (append_assoc (decimal cmd ++ 32 ∷ later) (10 ∷ []) rest);
    }

-- a number that ends the line behind a word
pub behind_word : (word text front rest : List ℕ) (n : ℕ) → text ≡ word ++ 32 ∷ front → front ≡ decimal n ++ 10 ∷ rest → text ≡ line (word ∷ decimal n ∷ []) ++ rest
behind_word word text front rest n is ends =
    word_before word (decimal n) text front rest is ends ∙ sym (append_assoc (word ++ 32 ∷ decimal n) (10 ∷ []) rest)
