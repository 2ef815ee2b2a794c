-- Commands: what a call that is admitted comes to, and what it sets.
use Rattle.std.proofs.Common.{◌≡◌, ℕ, ◌+◌, Bool, true, false, cond, List, [], ◌∷◌, ◌++◌, map, length, refl, sym, ap, ◌∙◌, subst, Some, inl, inr}
use Rattle.std.specs.Prelude.{◌==◌, ◌&&◌, ◌||◌, ◌%◌, ◌-◌, not, nat_lt, ◌≢◌, filter, Result, Ok, Err}
use Rattle.std.specs.List.{list_all}
use Rattle.std.proofs.lemmas.Bool.{cases_Bool, eqb-true, eq-eqb, ne_eqb}
use Rattle.cs_types.specs.declared.task.Task.{Task}
use Rattle.cs_types.specs.declared.event.Ask.{Ask}
use Rattle.cs_types.specs.declared.reply.Errno.{Errno}
use Rattle.cs_types.specs.declared.reply.Errno.TheVariants.{Enomem}
use Rattle.cs_types.specs.declared.reply.Reply.TheVariants.{Refused}
use Rattle.cs_types.specs.declared.task.TaskSpec.{TaskSpec}
use Rattle.cs_types.specs.Guards.{GuardList, asked_each, asked_until}
use Rattle.cs_types.specs.Access.{may_access, asked_about}
use Rattle.cs_laws.proofs.Accesses.{asked_each-append, may_access-asked_each, asked_about-asked_each}
use Rattle.cs_types.specs.Room.{RoomState}
use Rattle.cs_types.specs.Prctl.{is_thread, is_in_scope, live_cookies, may_access_members, setting_by, setting_of, prctl_answer, makes_cookie, with_used, asked_by_call, asked_about_members}
use Rattle.task_table.specs.Table.{Table}
use Rattle.task_table.proofs.Tables.{found_alone}
use Rattle.prctl_core.specs.declared.admitted.Called.{Called}
use Rattle.prctl_core.specs.declared.arguments.Command.TheVariants.{Get, Create, ShareTo, ShareFrom}
use Rattle.cookie_refs.specs.Refs.{Refs}
use Rattle.prctl_core.specs.declared.decision.Planned.{Planned}
use Rattle.prctl_core.specs.declared.decision.Target.{Target}
use Rattle.prctl_core.specs.declared.decision.Target.TheVariants.{One}
use Rattle.prctl_core.specs.Plan.{command_number, named, IsCall, AreThere, Settles, members_of, may_access_all, asked_about_all, asked_about_members_of, is_alone, NamesMembers, NamesCaller, IsRoomOf, reply_of, SetsIn, IsPlanned, get_plan, gift, IsFull, IsMade}
use Rattle.prctl_core.proofs.Rows.{about_target, about_all, get_misplaced, get_outside, got, full, from_many, from_one, create_refused, created, share_refused, shared}

-- what a GET comes to is a plan
pub get_planned : (called : Called) (addr top : ℕ) → IsPlanned (get_plan called addr top)
get_planned called addr top =
    by_place (not (is_alone called) || not (addr % 8 == 0)) (nat_lt addr 4096 || nat_lt (top - 8) addr) refl refl where
      by_place : (a b : Bool) → (not (is_alone called) || not (addr % 8 == 0)) ≡ a → (nat_lt addr 4096 || nat_lt (top - 8) addr) ≡ b →
          IsPlanned (get_plan called addr top)
      by_place true b at to = rw at tt
      by_place false true at to = rw (at, to) tt
      by_place false false at to = rw (at, to) (refl, refl)

-- and sets nothing
pub get_sets : (room : RoomState) (pid : ℕ) (ask : Ask) (called : Called) (addr top : ℕ) → SetsIn room pid ask (get_plan called addr top)
get_sets room pid ask called addr top =
    by_place (not (is_alone called) || not (addr % 8 == 0)) (nat_lt addr 4096 || nat_lt (top - 8) addr) refl refl where
      by_place : (a b : Bool) → (not (is_alone called) || not (addr % 8 == 0)) ≡ a → (nat_lt addr 4096 || nat_lt (top - 8) addr) ≡ b →
          SetsIn room pid ask (get_plan called addr top)
      by_place true b at to = rw at tt
      by_place false true at to = rw (at, to) tt
      by_place false false at to = rw (at, to) (λ zero. absurd cc)

-- What a gift comes to is a plan, and what a CREATE comes to
pub gift_planned : (cookie : ℕ) (to : Result Target Errno) → IsPlanned (gift cookie to)
gift_planned cookie (Ok to) = tt
gift_planned cookie (Err errno) = tt

pub create_planned : (tasks : List Task) (old new : Refs) (guards after : GuardList) (called : Called) (planned : Planned) →
    (length (live_cookies tasks) ≡ old.limit → IsFull old new guards after planned) →
    (length (live_cookies tasks) ≢ old.limit → IsMade old new guards after tasks called planned) → IsPlanned planned
create_planned tasks old new guards after called planned at_limit below =
    elim (cases_Bool (length (live_cookies tasks) == old.limit)) [
      | inl same ↦ subst IsPlanned (sym (at_limit (eqb-true (length (live_cookies tasks)) old.limit same)).refused) tt
      | inr other ↦
          let room_left : length (live_cookies tasks) ≢ old.limit = λ e. let is_full = eq-eqb _ _ e in absurd cc in
          let made = below room_left in
          subst IsPlanned (sym made.plan) (gift_planned old.next made.to)
    ]

-- asking changes neither who may be accessed nor who is asked
pub may_access_all-asked_each : (guards : GuardList) (asked : List ℕ) (tasks : List Task) (called : Called) →
    may_access_all (asked_each guards asked) tasks called ≡ may_access_all guards tasks called
may_access_all-asked_each guards asked tasks called =
    λ i. list_all (λ (member : Task). may_access-asked_each guards asked called.caller.now.spec member.spec i) (members_of tasks called)

pub asked_about_all-asked_each : (guards : GuardList) (asked : List ℕ) (caller : TaskSpec) (tasks : List Task) →
    asked_about_all (asked_each guards asked) caller tasks ≡ asked_about_all guards caller tasks
asked_about_all-asked_each guards asked caller tasks =
    λ i. asked_until (map (λ (member : Task). (not (may_access-asked_each guards asked caller member.spec i), asked_about-asked_each guards asked caller member.spec i)) tasks)

-- a plan in a room
pub record IsPlanOf (room : RoomState) (pid : ℕ) (ask : Ask) (planned : Planned) (refs : Refs) (guards : GuardList) : Type 0 where
  pub answer : prctl_answer room pid ask ≡ reply_of planned
  pub sets : SetsIn room pid ask planned
  pub serial : refs.next ≡ (with_used room (makes_cookie room pid ask) (asked_by_call room pid ask)).next_cookie
  pub asked : guards ≡ asked_each room.guards (asked_by_call room pid ask)

-- ---- what the room says of a call's members

module _ (room : RoomState) (pid : ℕ) (ask : Ask) (called : Called) (is : IsCall room pid ask called) where
  -- the scope is the target alone
  alone : is_thread ask ≡ is_alone called
  alone = ap (λ n. n == 0) (sym is.scope)

  -- the caller may access the members
  allowed : (tasks : List Task) → room.tasks ≡ tasks → may_access_members room ask.scope (Some called.caller.now) (Some called.target.now) ≡ may_access_all room.guards tasks called
  allowed tasks same =
      let scope = sym is.scope in
      λ i. list_all (λ member. may_access room.guards called.caller.now.spec member.spec) (filter (λ task. is_in_scope (scope i) called.target.now.spec task.spec) (same i))

  -- ---- the guards that are asked

  -- the guards once they were asked about the target
  abbrev pub asked_first : GuardList
  asked_first = asked_each room.guards (asked_about room.guards called.caller.now.spec called.target.now.spec)

  -- what is asked about the members is the same after that
  about_members : (tasks : List Task) → room.tasks ≡ tasks →
      cond (is_thread ask) [] (asked_about_members room ask.scope (Some called.caller.now) (Some called.target.now)) ≡ asked_about_members_of asked_first tasks called
  about_members tasks same =
      let scope = sym is.scope in
      (λ i. cond (alone i) [] (asked_about_all room.guards called.caller.now.spec (filter (λ task. is_in_scope (scope i) called.target.now.spec task.spec) (same i))))
      ∙ ap (λ (asked : List ℕ). cond (is_alone called) [] asked)
      (sym (asked_about_all-asked_each room.guards (asked_about room.guards called.caller.now.spec called.target.now.spec) called.caller.now.spec (members_of tasks called)))

  -- where nobody is asked but about the target
  pub after_target : asked_by_call room pid ask ≡ about_target room called.caller.now called.target.now → asked_first ≡ asked_each room.guards (asked_by_call room pid ask)
  after_target asks =
      sym (asked_each-append room.guards (asked_about room.guards called.caller.now.spec called.target.now.spec) [])
      ∙ sym (ap (asked_each room.guards) asks)

  -- where some are asked about the members too
  pub after_all : (tasks : List Task) → room.tasks ≡ tasks → asked_by_call room pid ask ≡ about_all room ask called.caller.now called.target.now →
      asked_each asked_first (asked_about_members_of asked_first tasks called) ≡ asked_each room.guards (asked_by_call room pid ask)
  after_all tasks same asks =
      ap (asked_each asked_first) (sym (about_members tasks same))
      ∙ sym (asked_each-append asked_first (cond (is_thread ask) [] (asked_about_members room ask.scope (Some called.caller.now) (Some called.target.now))) [])
      ∙ sym (asked_each-append room.guards (asked_about room.guards called.caller.now.spec called.target.now.spec) (cond (is_thread ask) [] (asked_about_members room ask.scope (Some called.caller.now) (Some called.target.now)) ++ []))
      ∙ sym (ap (asked_each room.guards) asks)

  -- the members are named in the room as they are after it
  pub names_alike : (tasks : List Task) (to : Result Target Errno) → NamesMembers asked_first tasks called to → NamesMembers room.guards tasks called to
  names_alike tasks (Ok to) names =
      (names.0, ap (λ b. not (is_alone called) && not b) (sym (may_access_all-asked_each room.guards (asked_about room.guards called.caller.now.spec called.target.now.spec) tasks called)) ∙ names.1)
  names_alike tasks (Err errno) names =
      (names.0, names.1, sym (may_access_all-asked_each room.guards (asked_about room.guards called.caller.now.spec called.target.now.spec) tasks called) ∙ names.2)

  -- ---- the answer of each command

  pub get_settles : (top : ℕ) → room.user_top ≡ top → called.command ≡ Get → Settles room pid ask (reply_of (get_plan called ask.addr top)) false (about_target room called.caller.now called.target.now)
  get_settles top same command =
      let cmd : ask.cmd ≡ 0 = sym is.command ∙ ap command_number command in
      let misplaced : (not (is_thread ask) || not (ask.addr % 8 == 0)) ≡ (not (is_alone called) || not (ask.addr % 8 == 0)) =
      ap (λ b. not b || not (ask.addr % 8 == 0)) alone in
      let outside : (nat_lt ask.addr 4096 || nat_lt (room.user_top - 8) ask.addr) ≡ (nat_lt ask.addr 4096 || nat_lt (top - 8) ask.addr) =
      ap (λ n. nat_lt ask.addr 4096 || nat_lt (n - 8) ask.addr) same in
      by_place (not (is_alone called) || not (ask.addr % 8 == 0)) (nat_lt ask.addr 4096 || nat_lt (top - 8) ask.addr) refl refl cmd misplaced outside where
        by_place : (a b : Bool) → (not (is_alone called) || not (ask.addr % 8 == 0)) ≡ a → (nat_lt ask.addr 4096 || nat_lt (top - 8) ask.addr) ≡ b →
            ask.cmd ≡ 0 →
            (not (is_thread ask) || not (ask.addr % 8 == 0)) ≡ (not (is_alone called) || not (ask.addr % 8 == 0)) →
            (nat_lt ask.addr 4096 || nat_lt (room.user_top - 8) ask.addr) ≡ (nat_lt ask.addr 4096 || nat_lt (top - 8) ask.addr) →
            Settles room pid ask (reply_of (get_plan called ask.addr top)) false (about_target room called.caller.now called.target.now)
        by_place true b at to cmd misplaced outside =
            rw at (get_misplaced room pid ask called.caller.now called.target.now is.admitted cmd (misplaced ∙ at))
        by_place false true at to cmd misplaced outside =
            rw (at, to) (get_outside room pid ask called.caller.now called.target.now is.admitted cmd (misplaced ∙ at) (outside ∙ to))
        by_place false false at to cmd misplaced outside =
            rw (at, to) (got room pid ask called.caller.now called.target.now is.admitted cmd (misplaced ∙ at) (outside ∙ to))

  -- whether there is room for one more cookie
  room_test : (limit : ℕ) (test : Bool) (tasks : List Task) → room.tasks ≡ tasks → room.cookie_limit ≡ limit →
      (length (live_cookies tasks) == limit) ≡ test → (length (live_cookies room.tasks) == room.cookie_limit) ≡ test
  room_test limit test tasks same there is_test = (λ i. length (live_cookies (same i)) == there i) ∙ is_test

  create_full : (tasks : List Task) (limit : ℕ) → room.tasks ≡ tasks → room.cookie_limit ≡ limit → called.command ≡ Create →
      length (live_cookies tasks) ≡ limit → Settles room pid ask (Refused Enomem) false (about_target room called.caller.now called.target.now)
  create_full tasks limit same there command is_full =
      full room pid ask called.caller.now called.target.now is.admitted (sym is.command ∙ ap command_number command)
      (room_test limit true tasks same there (eq-eqb _ _ is_full))

  -- what is given where the caller may access all
  may_give : (tasks : List Task) → room.tasks ≡ tasks → (not (is_alone called) && not (may_access_all room.guards tasks called)) ≡ false →
      (not (is_thread ask) && not (may_access_members room ask.scope (Some called.caller.now) (Some called.target.now))) ≡ false
  may_give tasks same may = (λ i. not (alone i) && not (allowed tasks same i)) ∙ may

  create_settles : (tasks : List Task) (limit cookie : ℕ) (to : Result Target Errno) → room.tasks ≡ tasks → room.cookie_limit ≡ limit → called.command ≡ Create →
      length (live_cookies tasks) ≢ limit → NamesMembers room.guards tasks called to → Settles room pid ask (reply_of (gift cookie to)) true (about_all room ask called.caller.now called.target.now)
  create_settles tasks limit cookie (Ok to) same there command room_left names =
      created room pid ask called.caller.now called.target.now is.admitted (sym is.command ∙ ap command_number command)
      (room_test limit false tasks same there (ne_eqb _ _ room_left)) (may_give tasks same names.1)
  create_settles tasks limit cookie (Err errno) same there command room_left names =
      subst (λ e. Settles room pid ask (Refused e) true (about_all room ask called.caller.now called.target.now)) (sym names.0)
      (create_refused room pid ask called.caller.now called.target.now is.admitted (sym is.command ∙ ap command_number command)
      (room_test limit false tasks same there (ne_eqb _ _ room_left)) (alone ∙ names.1) (allowed tasks same ∙ names.2))

  pub share_settles : (tasks : List Task) (cookie : ℕ) (to : Result Target Errno) → room.tasks ≡ tasks → called.command ≡ ShareTo →
      NamesMembers room.guards tasks called to → Settles room pid ask (reply_of (gift cookie to)) false (about_all room ask called.caller.now called.target.now)
  share_settles tasks cookie (Ok to) same command names =
      shared room pid ask called.caller.now called.target.now is.admitted (sym is.command ∙ ap command_number command) (may_give tasks same names.1)
  share_settles tasks cookie (Err errno) same command names =
      subst (λ e. Settles room pid ask (Refused e) false (about_all room ask called.caller.now called.target.now)) (sym names.0)
      (share_refused room pid ask called.caller.now called.target.now is.admitted (sym is.command ∙ ap command_number command)
      (alone ∙ names.1) (allowed tasks same ∙ names.2))

  pub from_settles : (cookie : ℕ) (to : Result Target Errno) → called.command ≡ ShareFrom → NamesCaller called to → Settles room pid ask (reply_of (gift cookie to)) false (about_target room called.caller.now called.target.now)
  from_settles cookie (Ok to) command names =
      from_one room pid ask called.caller.now called.target.now is.admitted (sym is.command ∙ ap command_number command) (alone ∙ names.1)
  from_settles cookie (Err errno) command names =
      subst (λ e. Settles room pid ask (Refused e) false (about_target room called.caller.now called.target.now)) (sym names.0)
      (from_many room pid ask called.caller.now called.target.now is.admitted (sym is.command ∙ ap command_number command) (alone ∙ names.1))

  -- ---- what each command sets

  setting_is : setting_of room pid ask ≡ setting_by room called.caller.now called.target.now ask
  setting_is = rw (is.admitted.target, is.admitted.caller) refl

  -- the members get a cookie
  members_set : (tasks : List Task) (cookie : ℕ) (to : Result Target Errno) → room.tasks ≡ tasks → NamesMembers room.guards tasks called to →
      setting_by room called.caller.now called.target.now ask ≡ record { tasks = filter (λ task. is_in_scope ask.scope called.target.now.spec task.spec) room.tasks; cookie = cookie } →
      SetsIn room pid ask (gift cookie to)
  members_set tasks cookie (Err errno) same names gives = tt
  members_set tasks cookie (Ok to) same names gives =
      let scope = sym is.scope in
      let there = ap (named to) same ∙ names.0 ∙ sym (λ j. filter (λ task. is_in_scope (scope j) called.target.now.spec task.spec) (same j)) in
      λ zero. (λ i. record { tasks = there i; cookie = cookie }) ∙ sym (setting_is ∙ gives)

  create_sets : (tasks : List Task) (cookie : ℕ) (to : Result Target Errno) → room.tasks ≡ tasks → room.next_cookie ≡ cookie → called.command ≡ Create →
      NamesMembers room.guards tasks called to → SetsIn room pid ask (gift cookie to)
  create_sets tasks cookie to same next command names =
      members_set tasks cookie to same names (rw (sym is.command ∙ ap command_number command) (rw next refl))

  pub share_sets : (tasks : List Task) (to : Result Target Errno) → room.tasks ≡ tasks → called.command ≡ ShareTo →
      NamesMembers room.guards tasks called to → SetsIn room pid ask (gift called.caller.now.cookie to)
  share_sets tasks to same command names =
      members_set tasks called.caller.now.cookie to same names (rw (sym is.command ∙ ap command_number command) refl)

  pub from_sets : (table : Table) (to : Result Target Errno) → room.tasks ≡ table.tasks → AreThere table called → called.command ≡ ShareFrom →
      NamesCaller called to → SetsIn room pid ask (gift called.target.now.cookie to)
  from_sets table (Err errno) same there command names = tt
  from_sets table (Ok to) same there command names =
      let alone_caller : named to room.tasks ≡ called.caller.now ∷ [] =
      ap (λ t. named t room.tasks) names.0 ∙ ap (named (One called.caller.now.spec.pid)) same
      ∙ found_alone 0 called.caller.now.spec.pid table.tasks called.caller.now there.sound.rising there.caller in
      λ zero. (λ i. record { tasks = alone_caller i; cookie = called.target.now.cookie })
      ∙ sym (setting_is ∙ (rw (sym is.command ∙ ap command_number command) refl))

  -- ---- a CREATE, at the limit and below it

  pub create_plan : (table : Table) (old new : Refs) (guards : GuardList) (count top : ℕ) (planned : Planned) → IsRoomOf room table old guards count top →
      called.command ≡ Create → (first now : GuardList) → first ≡ asked_first →
      (length (live_cookies table.tasks) ≡ old.limit → IsFull old new first now planned) →
      (length (live_cookies table.tasks) ≢ old.limit → IsMade old new first now table.tasks called planned) → IsPlanOf room pid ask planned new now
  create_plan table old new guards online top planned of command first now is_first at_limit below =
      elim (cases_Bool (length (live_cookies table.tasks) == old.limit)) [
        | inl same ↦
            let is_full = eqb-true (length (live_cookies table.tasks)) old.limit same in
            let made = at_limit is_full in
            let settles = create_full table.tasks old.limit of.tasks of.cookie_limit command is_full in
            subst (λ p. IsPlanOf room pid ask p new now) (sym made.refused) (record {
              answer = settles.answer;
              sets = tt;
              serial = made.next ∙ sym of.next_cookie ∙ ap (λ b. (with_used room b (asked_by_call room pid ask)).next_cookie) (sym settles.makes);
              asked = made.asked ∙ is_first ∙ after_target settles.asks;
            })
        | inr other ↦
            let room_left : length (live_cookies table.tasks) ≢ old.limit = λ e. let is_full = eq-eqb _ _ e in absurd cc in
            let made = below room_left in
            let names = names_alike table.tasks made.to (subst (λ (g : GuardList). NamesMembers g table.tasks called made.to) is_first made.members) in
            let settles = create_settles table.tasks old.limit old.next made.to of.tasks of.cookie_limit command room_left names in
            subst (λ p. IsPlanOf room pid ask p new now) (sym made.plan) (record {
              answer = settles.answer;
              sets = create_sets table.tasks old.next made.to of.tasks of.next_cookie command names;
              serial = made.next ∙ ap (λ n. n + 1) (sym of.next_cookie) ∙ ap (λ b. (with_used room b (asked_by_call room pid ask)).next_cookie) (sym settles.makes);
              asked = made.asked ∙ ap (λ (g : GuardList). asked_each g (asked_about_members_of g table.tasks called)) is_first ∙ after_all table.tasks of.tasks settles.asks;
            })
      ]
