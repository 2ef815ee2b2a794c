-- Parses: which words the parser takes, and what it makes of them.
use Rattle.std.proofs.Common.{◌≡◌, ◌∙◌, sym, ap, ap₂, refl, inl, inr, ◌||◌, ◌&&◌, Bool, true, false, List, [], ◌∷◌, ◌++◌, Option, Some, None, map, option_map, if◌then◌else◌, is_some, codes}
use Rattle.std.specs.Prelude.{◌≢◌, fold, find}
use Rattle.std.specs.Bool.{then_some}
use Rattle.std.specs.List.{list_all, list_any}
use Rattle.std.specs.Option.{option_map_or}
use Rattle.std.specs.Str.{bytes_eq}
use Rattle.std.proofs.lemmas.Bool.{or_parts}
use Rattle.std.proofs.lemmas.Slice.Eq.{bytes_eq-Decides}
use Rattle.std.proofs.lemmas.List.{append-nil, append_assoc}
use Rattle.clap.specs.Walk.{Held, Names, Row, Text, Walk, after_step, answers_to, finished, first_of, idle, nothing_held, settled, subcommand_met, subcommand_or_other, walk, walked}
use Rattle.clap.specs.Kinds.{HasKind, Kinds, check_kinds, or_else}
use Rattle.clap.specs.Faults.{built_fault, check_fault, defaults_fault, entered_fault, fault_of, has_free_rules, is_free_app, is_simple_and_free, level_fault, other_fault, settle_fault, step_fault, stray_fault, turn_fault, walk_fault}
use Rattle.clap.specs.Simple.{App, HasMatchesOf, Shape, built, built_leaf, entered, inherited, is_buildable, is_ready, is_ready_leaf, is_simple_leaf, label_of, names_of, new_rule, new_shape, rows_at, subcommand_of, subcommand_rows_of}
use Rattle.clap.specs.Values.{kind_of}
use Rattle.clap.specs.declared.parser.matches.ArgMatches.{ArgMatches}
use Rattle.clap.specs.declared.error.Error.{Error}
use Rattle.clap.specs.declared.error.kind.ErrorKind.TheVariants.{OutOfMemory}
use Rattle.clap.proofs.SimpleLemmas.{label_first}
use Rattle.clap.proofs.WalkLemmas.{both}
use Rattle.clap.proofs.OnLiterals.{clap_on_literals}
use Rattle.command_words.specs.declared.forms.CommandForm.{CommandForm}
use Rattle.command_words.specs.declared.forms.Value.{Value}
use Rattle.command_words.specs.declared.forms.Value.TheVariants.{Absent, Required, Optional}
use Rattle.command_words.specs.Forms.{fits, form_named, is_command, is_option, words_by}
use Rattle.command_words.specs.Program.{command_of, program, strict, words_met}
use Rattle.command_words.proofs.Plain.{ready, turn_of_plain, walk_of_plain}

-- ---- the grammar as it is built

-- the program alone
abbrev top : Bool → Text → Shape
top is_leaf name = record (strict (new_shape name)) { is_leaf = is_leaf; is_built = true }

-- a command, with what it takes from the program above it
abbrev leaf : Text → Value → Shape
leaf name value = built_leaf (inherited (top true []) (command_of name value))

abbrev leaf_of : CommandForm → Shape
leaf_of form = leaf form.name.now form.value

-- the program with its commands
abbrev whole : Bool → Text → List CommandForm → App
whole is_leaf name forms = record { top = top is_leaf name; subs = map leaf_of forms }

leaves : (name : Text) (forms : List CommandForm) →
    map built_leaf (map (inherited (top true name)) (map (λ (form : CommandForm). command_of form.name.now form.value) forms)) ≡ map leaf_of forms
leaves name [] = refl
leaves name (form ∷ forms) = ap (λ subs. leaf_of form ∷ subs) (leaves name forms)

built_is : (is_leaf : Bool) (name : Text) (forms : List CommandForm) → built (program is_leaf name forms) ≡ whole is_leaf name forms
built_is true name forms = ap (λ (subs : List Shape). record { top = top true name; subs = subs }) (leaves name forms)
built_is false name forms = ap (λ (subs : List Shape). record { top = top false name; subs = subs }) (leaves name forms)

abbrev names : List CommandForm → Names
names forms = map label_of (map leaf_of forms)

abbrev start : Walk
start = ready nothing_held 1

-- ---- the first word

-- the subcommand of a name is that of its form
sub_named : (word : Text) (forms : List CommandForm) → find (λ sub. answers_to word (label_of sub)) (map leaf_of forms) ≡ option_map leaf_of (form_named word forms)
sub_named word [] = refl
sub_named word (form ∷ forms) = by_test (bytes_eq form.name.now word) (sub_named word forms) where
  by_test : (same : Bool) → find (λ sub. answers_to word (label_of sub)) (map leaf_of forms) ≡ option_map leaf_of (form_named word forms) →
      (if same || false then Some (leaf_of form) else find (λ sub. answers_to word (label_of sub)) (map leaf_of forms)) ≡ option_map leaf_of (if same then Some form else form_named word forms)
  by_test true below = refl
  by_test false below = below

-- a form that is found has the name
name_is : (word : Text) (forms : List CommandForm) (form : CommandForm) → form_named word forms ≡ Some form → form.name.now ≡ word
name_is word [] form is = absurd cc
name_is word (one ∷ forms) form is = by_test (bytes_eq one.name.now word) refl is (name_is word forms form) where
  by_test : (same : Bool) → bytes_eq one.name.now word ≡ same → (if same then Some one else form_named word forms) ≡ Some form → (form_named word forms ≡ Some form → form.name.now ≡ word) →
      form.name.now ≡ word
  by_test true e is below = let found : one ≡ form = cc in ap (λ (f : CommandForm). f.name.now) (sym found) ∙ (bytes_eq-Decides one.name.now word).0 e
  by_test false e is below = below is

-- a subcommand is met by its name alone
meets : (word : Text) (forms : List CommandForm) → subcommand_met (names forms) idle word ≡ option_map (λ (form : CommandForm). form.name.now) (form_named word forms)
meets word forms = sym (label_first word (map leaf_of forms)) ∙ ap (option_map (λ (sub : Shape). sub.name)) (sub_named word forms) ∙ named (form_named word forms) where
  named : (found : Option CommandForm) → option_map (λ (sub : Shape). sub.name) (option_map leaf_of found) ≡ option_map (λ (form : CommandForm). form.name.now) found
  named None = refl
  named (Some form) = refl

-- whether there is no kind of fault
abbrev none : Kinds → Bool
none [] = true
none (kind ∷ kinds) = false

-- a kind is there where one is in the first or in the second
by_first : (one other : Kinds) → none one ≡ false → none (or_else one other) ≡ false
by_first [] other is = absurd cc
by_first (kind ∷ kinds) other is = refl

by_second : (one other : Kinds) → none other ≡ false → none (or_else one other) ≡ false
by_second [] other is = is
by_second (kind ∷ kinds) other is = refl

-- all that is wrong, where the walk over the words met these faults and ends here
abbrev faults : App → Kinds → Walk → Kinds
faults app turns at =
    or_else turns
    (or_else (entered_fault app at.stopped)
    (or_else (settle_fault app.top.rules app.top.args_override_self at.held)
    (or_else (defaults_fault (settled app.top.rules at.held).rows app.top.rules)
    (check_fault app.top (finished app.top.rules at.held) (is_some (entered app at.stopped))))))

-- the subcommand that is met
abbrev subcommand_of_built : App → List Text → Option (Text × List Row)
subcommand_of_built app words = entered app (walk app.top.rules (names_of app) nothing_held words).stopped

module _ (is_leaf : Bool) (name : Text) (forms : List CommandForm) where
  abbrev given : App
  given = program is_leaf name forms

  abbrev full : App
  full = whole is_leaf name forms

  faults_are : (words : List Text) → fault_of given words ≡ faults full (walk_fault full.top (names forms) start words) (walk [] (names forms) nothing_held words)
  faults_are words = ap (λ app. built_fault app nothing_held words) (built_is is_leaf name forms)

  -- no word is refused
  no_word : none (fault_of given []) ≡ false
  unfolding walk_fault defaults_fault
  no_word = ap none (faults_are [])

  -- another word is refused
  no_name : (word : Text) (rest : List Text) → is_option word ≡ false → form_named word forms ≡ None → none (fault_of given (word ∷ rest)) ≡ false
  unfolding walk_fault
  no_name word rest plain is =
      let met = meets word forms ∙ ap (option_map (λ (form : CommandForm). form.name.now)) is in
      let turn = ap none (turn_of_plain full.top (names forms) 1 nothing_held word plain met) ∙ stray is_leaf in
      ap none (faults_are (word ∷ rest))
      ∙ by_first (walk_fault full.top (names forms) start (word ∷ rest)) _ (by_first (turn_fault full.top (names forms) start word) _ turn)
    where
      stray : (is_leaf : Bool) → none (stray_fault (top is_leaf name)) ≡ false
      stray true = refl
      stray false = refl

  -- ---- the words after a name

  -- they are the subcommand's own, and no fault of the program's
  passes : (stop : Text × List Text) (words : List Text) → walk_fault full.top (names forms) (record start { stopped = Some stop }) words ≡ []
  unfolding walk_fault walked
  passes stop [] = refl
  passes stop (word ∷ words) = passes (stop.0, stop.1 ++ word ∷ []) words

  stops : (word : Text) (before words : List Text) →
      fold (walked [] (names forms)) (record start { stopped = Some (word, before) }) words ≡ record start { stopped = Some (word, before ++ words) }
  unfolding walked
  stops word before [] = ap (λ (all : List Text). record start { stopped = Some (word, all) }) (sym (append-nil before))
  stops word before (next ∷ words) =
      stops word (before ++ next ∷ []) words ∙ ap (λ (all : List Text). record start { stopped = Some (word, all) }) (append_assoc before (next ∷ []) words)

  -- and no name is a call for help
  no_help : (same : Bool) (kinds : Kinds) → or_else (if same && false then kinds else []) [] ≡ []
  no_help true kinds = refl
  no_help false kinds = refl

  module _ (word : Text) (rest : List Text) (form : CommandForm) (is : form_named word forms ≡ Some form) where
    met : subcommand_met (names forms) idle word ≡ Some word
    met = meets word forms ∙ ap (option_map (λ (form : CommandForm). form.name.now)) is ∙ ap Some (name_is word forms form is)

    first : walked [] (names forms) start word ≡ record start { stopped = Some (word, []) }
    unfolding walked
    first = ap (λ (met : Option Text). after_step [] word start (subcommand_or_other [] met idle 1 word nothing_held).0 (subcommand_or_other [] met idle 1 word nothing_held).1) met

    walk_is : walk [] (names forms) nothing_held (word ∷ rest) ≡ record start { stopped = Some (word, rest) }
    walk_is = ap (λ (at : Walk). fold (walked [] (names forms)) at rest) first ∙ stops word [] rest

    no_turn : turn_fault full.top (names forms) start word ≡ []
    no_turn =
        ap (λ (met : Option Text). or_else (other_fault full.top met word nothing_held)
        (step_fault full.top 1 (subcommand_or_other [] met idle 1 word nothing_held).0 (subcommand_or_other [] met idle 1 word nothing_held).1)) met
        ∙ no_help (bytes_eq word (codes "help")) _

    turns_are : walk_fault full.top (names forms) start (word ∷ rest) ≡ []
    unfolding walk_fault
    turns_are = ap₂ or_else no_turn (ap (λ (at : Walk). walk_fault full.top (names forms) at rest) first ∙ passes (word, []) rest)

    sub_is : find (λ sub. answers_to word (label_of sub)) (map leaf_of forms) ≡ Some (leaf_of form)
    sub_is = sub_named word forms ∙ ap (option_map leaf_of) is

    -- what is wrong is wrong with them
    faults_of_rest : fault_of given (word ∷ rest) ≡ or_else (level_fault (leaf_of form) [] nothing_held rest false []) []
    unfolding defaults_fault
    faults_of_rest =
        faults_are (word ∷ rest) ∙ ap₂ (faults full) turns_are walk_is
        ∙ ap (λ (sub : Option Shape). or_else (option_map_or (λ (s : Shape). level_fault s [] nothing_held rest false []) sub [])
        (check_fault full.top [] (is_some (option_map (λ (s : Shape). rows_at s rest) sub)))) sub_is

    -- and what is met has them
    met_of_rest : subcommand_of given (word ∷ rest) ≡ Some (rows_at (leaf_of form) rest)
    met_of_rest =
        ap (λ (app : App). subcommand_of_built app (word ∷ rest)) (built_is is_leaf name forms) ∙ ap (λ (at : Walk). entered full at.stopped) walk_is
        ∙ ap (option_map (λ (s : Shape). rows_at s rest)) sub_is

-- ---- the words of a command

-- what is held after a value
abbrev holding : Text → Held
holding value = record { rows = []; pending = Some (codes "value", value ∷ []); skip = 0 }

-- no word is taken after a command that has no value
word_refused : (name word : Text) (more : List Text) → list_any is_option (word ∷ more) ≡ false →
    none (or_else (level_fault (leaf name Absent) [] nothing_held (word ∷ more) false []) []) ≡ false
unfolding clap_on_literals
word_refused name word more plain =
    by_first (level_fault (leaf name Absent) [] nothing_held (word ∷ more) false []) _
    (by_first (walk_fault (leaf name Absent) [] start (word ∷ more)) _
    (by_first (turn_fault (leaf name Absent) [] start word) _ (ap none (turn_of_plain (leaf name Absent) [] 1 nothing_held word (or_parts _ _ plain).0 refl))))

-- a command whose value is required, or is not
module _ (required : Bool) (name : Text) where
  abbrev valued : Shape
  valued = built_leaf (inherited (top true []) (record (new_shape name) { rules = record (new_rule (codes "value")) { required = required } ∷ [] }))

  first_walked : (value : Text) → is_option value ≡ false → walked valued.rules [] start value ≡ ready (holding value) 2
  unfolding clap_on_literals
  first_walked value plain = walk_of_plain valued.rules [] 1 nothing_held value plain refl ∙ refl

  -- one word is taken after it
  word_taken : (value : Text) → list_any is_option (value ∷ []) ≡ false → none (or_else (level_fault valued [] nothing_held (value ∷ []) false []) []) ≡ true
  unfolding clap_on_literals
  word_taken value plain =
      (λ i. none (or_else (level_by (turn_of_plain valued [] 1 nothing_held value (or_parts _ _ plain).0 refl i) (first_walked value (or_parts _ _ plain).0 i)) []))
      ∙ given required
    where
      level_by : Kinds → Walk → Kinds
      level_by turn at =
          or_else (or_else turn [])
          (or_else [] (or_else (settle_fault valued.rules valued.args_override_self at.held)
          (or_else (defaults_fault (settled valued.rules at.held).rows valued.rules)
          (check_fault valued (finished valued.rules at.held) false))))

      -- a value that is there may be required or not
      given : (required : Bool) → none (or_else (check_kinds false false ((required && false) || false)) []) ≡ true
      given true = refl
      given false = refl

  -- and no second one
  second_refused : (value next : Text) (more : List Text) → list_any is_option (value ∷ next ∷ more) ≡ false →
      none (or_else (level_fault valued [] nothing_held (value ∷ next ∷ more) false []) []) ≡ false
  unfolding clap_on_literals
  second_refused value next more plain =
      let two = or_parts _ _ plain in
      by_first (level_fault valued [] nothing_held (value ∷ next ∷ more) false []) _
      (by_first (walk_fault valued [] start (value ∷ next ∷ more)) _
      (by_second (turn_fault valued [] start value) _
      (ap (λ (at : Walk). none (walk_fault valued [] at (next ∷ more))) (first_walked value two.0)
      ∙ by_first (turn_fault valued [] (ready (holding value) 2) next) _ (ap none (turn_of_plain valued [] 2 (holding value) next (or_parts _ _ two.1).0 refl)))))

  -- the value that is met is the word
  value_met : (value : Text) → list_any is_option (value ∷ []) ≡ false → words_met (rows_at valued (value ∷ [])) ≡ name ∷ value ∷ []
  unfolding clap_on_literals
  value_met value plain = ap (λ (at : Walk). words_by name (first_of (codes "value") (finished valued.rules at.held))) (first_walked value (or_parts _ _ plain).0)

-- nothing is wrong with what fits the command, and something with all else
leaf_fault : (name : Text) (value : Value) (words : List Text) → list_any is_option words ≡ false →
    none (or_else (level_fault (leaf name value) [] nothing_held words false []) []) ≡ fits value words
unfolding clap_on_literals
leaf_fault name Absent [] plain = refl
leaf_fault name Required [] plain = refl
leaf_fault name Optional [] plain = refl
leaf_fault name Absent (word ∷ more) plain = word_refused name word more plain
leaf_fault name Required (word ∷ []) plain = word_taken true name word plain
leaf_fault name Optional (word ∷ []) plain = word_taken false name word plain
leaf_fault name Required (word ∷ next ∷ more) plain = second_refused true name word next more plain
leaf_fault name Optional (word ∷ next ∷ more) plain = second_refused false name word next more plain

-- what it is given are its words
leaf_words : (name : Text) (value : Value) (words : List Text) → list_any is_option words ≡ false → fits value words ≡ true →
    words_met (rows_at (leaf name value) words) ≡ name ∷ words
unfolding clap_on_literals
leaf_words name Absent [] plain fit = refl
leaf_words name Required [] plain fit = absurd cc
leaf_words name Optional [] plain fit = refl
leaf_words name Absent (word ∷ more) plain fit = absurd cc
leaf_words name Required (word ∷ []) plain fit = value_met true name word plain
leaf_words name Optional (word ∷ []) plain fit = value_met false name word plain
leaf_words name Required (word ∷ next ∷ more) plain fit = absurd cc
leaf_words name Optional (word ∷ next ∷ more) plain fit = absurd cc

-- ---- what is taken, and what it is

module _ (is_leaf : Bool) (name : Text) (forms : List CommandForm) where
  -- Nothing is wrong with the words of a command, and something with all others.
  takes : (words : List Text) → list_any is_option words ≡ false → none (fault_of (program is_leaf name forms) words) ≡ is_command forms words
  takes [] plain = no_word is_leaf name forms
  takes (word ∷ rest) plain = by_form (form_named word forms) refl where
    by_form : (found : Option CommandForm) → form_named word forms ≡ found →
        none (fault_of (program is_leaf name forms) (word ∷ rest)) ≡ option_map_or (λ form. fits form.value rest) found false
    by_form None is = no_name is_leaf name forms word rest (or_parts _ _ plain).0 is
    by_form (Some form) is = ap none (faults_of_rest is_leaf name forms word rest form is) ∙ leaf_fault form.name.now form.value rest (or_parts _ _ plain).1

  -- The words of what it meets are the words that it was given.
  met_words : (words : List Text) → list_any is_option words ≡ false → is_command forms words ≡ true → option_map words_met (subcommand_of (program is_leaf name forms) words) ≡ Some words
  met_words [] plain is = absurd cc
  met_words (word ∷ rest) plain taken = by_form (form_named word forms) refl taken where
    by_form : (found : Option CommandForm) → form_named word forms ≡ found → option_map_or (λ form. fits form.value rest) found false ≡ true →
        option_map words_met (subcommand_of (program is_leaf name forms) (word ∷ rest)) ≡ Some (word ∷ rest)
    by_form None is fit = absurd cc
    by_form (Some form) is fit =
        ap (option_map words_met) (met_of_rest is_leaf name forms word rest form is)
        ∙ ap Some (leaf_words form.name.now form.value rest (or_parts _ _ plain).1 fit ∙ ap (λ (name : Text). name ∷ rest) (name_is word forms form is))

  -- ---- the answers of a parse

  -- the grammar is one of those of which the parser says what it makes of all words
  is_free : is_simple_and_free (program is_leaf name forms) ≡ true
  is_free =
      ap (λ (app : App). (is_buildable (program is_leaf name forms) && (is_ready app.top && list_all is_ready_leaf app.subs)) && is_free_app app) (built_is is_leaf name forms)
      ∙ (λ i. ((each is_simple_leaf command_of simple i) && (each is_ready_leaf leaf ready_leaf i)) && (each has_free_rules leaf free i))
    where
      each : (p : Shape → Bool) (of : Text → Value → Shape) → ((name : Text) (value : Value) → p (of name value) ≡ true) →
          list_all p (map (λ (form : CommandForm). of form.name.now form.value) forms) ≡ true
      each p of holds = go forms where
        go : (forms : List CommandForm) → list_all p (map (λ (form : CommandForm). of form.name.now form.value) forms) ≡ true
        go [] = refl
        go (form ∷ forms) = (λ i. holds form.name.now form.value i && go forms i)

      simple : (name : Text) (value : Value) → is_simple_leaf (command_of name value) ≡ true
      simple name Absent = refl
      simple name Required = refl
      simple name Optional = refl

      ready_leaf : (name : Text) (value : Value) → is_ready_leaf (leaf name value) ≡ true
      ready_leaf name Absent = refl
      ready_leaf name Required = refl
      ready_leaf name Optional = refl

      free : (name : Text) (value : Value) → has_free_rules (leaf name value) ≡ true
      free name Absent = refl
      free name Required = refl
      free name Optional = refl

  module _ (app : App) (words : List Text) (is : app ≡ program is_leaf name forms) (plain : list_any is_option words ≡ false) where
    free_app : is_simple_and_free app ≡ true
    free_app = ap is_simple_and_free is ∙ is_free

    taken : none (fault_of app words) ≡ is_command forms words
    taken = ap (λ (a : App). none (fault_of a words)) is ∙ takes words plain

    -- Where it answers matches, they are met in the words of a command.
    pub said : (matches : ArgMatches) → HasMatchesOf app words matches → (is_simple_and_free app ≡ true → fault_of app words ≡ []) →
        option_map words_met (subcommand_rows_of matches) ≡ then_some (is_command forms words) words
    said matches has kinds =
        let command : is_command forms words ≡ true = sym taken ∙ ap none (kinds free_app) in
        ap (option_map words_met) ((has (both _ _ free_app).0).1 ∙ ap (λ (a : App). subcommand_of a words) is) ∙ met_words words plain command
        ∙ ap (λ (b : Bool). then_some b words) (sym command)

    -- Where it fails but for memory, the words are no command's.
    pub unsaid : (error : Error) → kind_of error ≢ OutOfMemory → (is_simple_and_free app ≡ true → HasKind (fault_of app words) error) → None ≡ then_some (is_command forms words) words
    unsaid error other kinds = ap (λ (b : Bool). then_some b words) (sym (of_kinds (fault_of app words) (kinds free_app)) ∙ taken) where
      of_kinds : (kinds : Kinds) → HasKind kinds error → none kinds ≡ false
      of_kinds [] (inl memory) = absurd (other memory)
      of_kinds [] (inr among) = elim among [ ]
      of_kinds (kind ∷ kinds) has = refl
