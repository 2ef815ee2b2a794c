-- Openings: what is so of an input once a room was to be opened for it.
use Rattle.std.proofs.Common.{◌≡◌, ◌≢◌, ◌∙◌, ap, sym, subst, inl, inr, ℕ, ◌+◌, ◌<◌, ◌≤◌, List, length}
use Rattle.std.specs.Prelude.{◌⊎◌, ◌↔◌, Some, IfSome, IfOk, Result, Ok, Err}
use Rattle.std.proofs.lemmas.List.FromFn.{length-map-range_with_len}
use Rattle.cs_types.specs.declared.scenario.Scenario.{Scenario}
use Rattle.cs_types.specs.declared.scenario.Teach.{Teach}
use Rattle.cs_types.specs.Guards.{GuardList, on_bench, guards_on_bench}
use Rattle.cs_types.specs.Opened.{opened}
use Rattle.cs_types.specs.Room.{Opening}
use Rattle.cs_outside.specs.Device.{Rose}
use Rattle.scenario_text.specs.declared.fault.BadKind.{BadKind}
use Rattle.scenario_text.specs.Faults.{lines_in, IsFirstBad}
use Rattle.scenario_input.specs.declared.stop.Stop.{Stop}
use Rattle.scenario_input.specs.declared.stop.Stop.TheVariants.{ReadFault, TooLong, BadScenario, BadGuard, OutOfMemory}
use Rattle.scenario_input.specs.declared.stop.GuardKind.{GuardKind}
use Rattle.scenario_input.specs.Input.{Reads, IsBad, input_limit, count_read}
use Rattle.scenario_input.specs.Teaching.{first_bad, IsTeachStop}
use Rattle.scenario_runner.specs.Outcomes.{opened_with}
use Rattle.scenario_runner.specs.Ends.{Used, IsFaultless, IsBadGuard}
use Rattle.scenario_runner.proofs.Endings.{not_both, same_error, same_where_told}

-- ---- the guards that a machine begins with

-- as many guards are on the bench as were put there
count_on_bench : (guards : GuardList) (teaches : List Teach) (count : ℕ) → guards ≡ guards_on_bench teaches count → length guards.all ≡ count
count_on_bench guards teaches count is = ap (λ (g : GuardList). length g.all) is ∙ length-map-range_with_len (on_bench teaches) 0 count

pub bench_is : (guards : GuardList) (teaches others : List Teach) (count : ℕ) → guards ≡ guards_on_bench teaches count → teaches ≡ others → guards ≡ guards_on_bench others (length guards.all)
bench_is guards teaches others count taught same = taught ∙ (λ i. guards_on_bench (same i) (sym (count_on_bench guards teaches count taught) i))

abbrev opening_with : Scenario → ℕ → Opening
opening_with scenario guards = record { scenario = scenario; guards = guards }

pub opening_is : (scenario : Scenario) (guards : GuardList) (teaches : List Teach) (count : ℕ) (caps : List ℕ) → guards ≡ guards_on_bench teaches count → count ≡ length caps →
    opened scenario guards ≡ opened_with caps scenario
opening_is scenario guards teaches count caps taught is = ap (opening_with scenario) (count_on_bench guards teaches count taught ∙ is)

-- ---- what is told of the input, whatever comes of it

pub record IsTold {S T : Type 0} (source : Used S) (made : Result T Stop) : Type 0 where
  pub too_long : IfSome (source.bytes source.before) (λ _.
      (made ≡ Err TooLong) ↔ (input_limit < count_read (source.bytes source.before) (source.bytes source.after)))
  pub most : IfSome (source.bytes source.before) (λ _.
      count_read (source.bytes source.before) (source.bytes source.after) ≤ input_limit + 1)
  pub bad : (line : ℕ) (kind : BadKind) → made ≡ Err (BadScenario line kind) →
      IsBad line kind (source.bytes source.before) (source.bytes source.after)
  pub first : (bytes : List ℕ) (line : ℕ) (kind : BadKind) → source.bytes source.before ≡ Some bytes → length bytes ≤ input_limit →
      IsFirstBad (lines_in bytes) line kind → made ≢ Err ReadFault → (made ≡ Err (BadScenario line kind)) ⊎ (made ≡ Err OutOfMemory)
  pub faultless : made ≢ Err ReadFault → IsFaultless source
  pub failed : made ≡ Err ReadFault → Rose (source.faults source.before) (source.faults source.after)

-- and of its guards
pub record IsOpening {S T : Type 0} (caps : List ℕ) (source : Used S) (made : Result T Stop) : Type 0 where
  pub told : IsTold source made
  pub bad_guard : (line : ℕ) (kind : GuardKind) → made ≡ Err (BadGuard line kind) →
      IsBadGuard caps line kind (source.bytes source.before) (source.bytes source.after)

same_fault : {T U : Type 0} (read : Result T Stop) (made : Result U Stop) (stop other : Stop) → read ≡ Err stop → made ≡ Err stop → read ≡ Err other → made ≡ Err other
same_fault read made stop other is too was = cc

-- nothing holds of what is not there
pub none_made : {T : Type 0} (made : Result T Stop) (stop : Stop) (P : T → Type 0) → made ≡ Err stop → IfOk made P
none_made made stop P is = rw is tt

-- no scenario was read
pub unread : {S T U : Type 0} (caps : List ℕ) (source : Used S) (read : Result T Stop) (made : Result U Stop) (stop : Stop) → IsTold source read →
    ((line : ℕ) (kind : GuardKind) → read ≢ Err (BadGuard line kind)) → read ≡ Err stop → made ≡ Err stop → IsOpening caps source made
unread caps source read made stop told guards is too =
    record {
      told = record {
        too_long = same_where_told (source.bytes source.before) _ (on TooLong) (back TooLong) told.too_long;
        most = told.most;
        bad = λ line kind e. told.bad line kind (back (BadScenario line kind) e);
        first = λ bytes line kind is fits bad calm. elim (told.first bytes line kind is fits bad (λ e. calm (on ReadFault e))) [
          | inl found ↦ inl (on (BadScenario line kind) found)
          | inr memory ↦ inr (on OutOfMemory memory)
        ];
        faultless = λ calm. told.faultless (λ e. calm (on ReadFault e));
        failed = λ e. told.failed (back ReadFault e);
      };
      bad_guard = λ line kind e. absurd (guards line kind (back (BadGuard line kind) e));
    } where
      on : (other : Stop) → read ≡ Err other → made ≡ Err other
      on other = same_fault read made stop other is too

      back : (other : Stop) → made ≡ Err other → read ≡ Err other
      back other = same_fault made read stop other too is

-- one was read, and what came of it is no fault of the reading
was_read : {S T U : Type 0} (source : Used S) (read : Result T Stop) (made : Result U Stop) (value : T) → IsTold source read → read ≡ Ok value →
    (made ≡ Err TooLong → ⊥) → ((line : ℕ) (kind : BadKind) → made ≡ Err (BadScenario line kind) → ⊥) → (made ≡ Err ReadFault → ⊥) → IsTold source made
was_read source read made value told is long bad fault =
    record {
      too_long = same_where_told (source.bytes source.before) _ (λ e. absurd (never TooLong e)) (λ e. absurd (long e)) told.too_long;
      most = told.most;
      bad = λ line kind e. absurd (bad line kind e);
      first = λ bytes line kind was fits bad calm. elim (told.first bytes line kind was fits bad (never ReadFault)) [
        | inl found ↦ absurd (never (BadScenario line kind) found)
        | inr memory ↦ absurd (never OutOfMemory memory)
      ];
      faultless = λ _. told.faultless (never ReadFault);
      failed = λ e. absurd (fault e);
    } where
      never : (stop : Stop) → read ≡ Err stop → ⊥
      never stop e = not_both read value stop is e

-- its guards were not taught, or there was no memory for its room
pub untaught : {S U : Type 0} (caps : List ℕ) (source : Used S) (read : Result Scenario Stop) (made : Result U Stop) (scenario : Scenario) (stop : Stop) → IsTold source read →
    Reads scenario (source.bytes source.before) (source.bytes source.after) → read ≡ Ok scenario → IsTeachStop (first_bad caps scenario.teaches) stop → made ≡ Err stop →
    IsOpening caps source made
untaught caps source read made scenario stop told reads is why too =
    record {
      told = was_read source read made scenario told is (because TooLong) (λ line kind. because (BadScenario line kind)) (because ReadFault);
      bad_guard = λ line kind e. record { scenario = scenario; reads = reads; first = because (BadGuard line kind) e };
    } where
      because : (other : Stop) → made ≡ Err other → IsTeachStop (first_bad caps scenario.teaches) other
      because other e = subst (IsTeachStop (first_bad caps scenario.teaches)) (same_error made stop other too e) why

-- a room was opened for it
pub is_opened : {S T U : Type 0} (caps : List ℕ) (source : Used S) (read : Result T Stop) (made : Result U Stop) (value : T) (room : U) → IsTold source read → read ≡ Ok value → made ≡ Ok room →
    IsOpening caps source made
is_opened caps source read made value room told is opened =
    record {
      told = was_read source read made value told is (never TooLong) (λ line kind. never (BadScenario line kind)) (never ReadFault);
      bad_guard = λ line kind e. absurd (never (BadGuard line kind) e);
    } where
      never : (stop : Stop) → made ≡ Err stop → ⊥
      never stop e = not_both made room stop opened e
