-- A run queue in which the queue of one class has changed: by a task more, or by one less.
use Rattle.std.proofs.Common.{◌≡◌, ℕ, zero, suc, ◌+◌, ◌-◌, ◌<◌, ◌≤◌, Bool, true, false, cond, List, [], ◌∷◌, length, refl, sym, ap, ◌∙◌, Option, Some, None, arith}
use Rattle.std.specs.Prelude.{is_some}
use Rattle.std.specs.FinMap as fin
use Rattle.std.specs.FinMap.{get, entries, find, get-entries, get-insert, get-remove, contains_key, len, len-entries, len-insert, len-remove}
use Rattle.cs_types.specs.Queue.{Key, key_cmp, Members, Ranked, Seat, Seats}
use Rattle.cs_types.specs.Comparisons.{most_comparisons}
use Rattle.cs_types.proofs.Comparisons.{most_comparisons-le}
use Rattle.cs_types.proofs.Queues.{key_total}
use Rattle.run_queue.specs.declared.classes.Classes.TheInside.{Inside}
use Rattle.run_queue.specs.Classes.{count, seated_of, Holds, IsSound}
use Rattle.run_queue.proofs.Seats.{len-joined, get-joined, SetsTo, insert-SetsTo, remove-SetsTo, SetsTo-stop, SetsTo-deadline, SetsTo-real_time, SetsTo-fair}

-- ---- the queue of a class

abbrev pub ranked_in : {A : Type 0} → Inside A → ℕ → Ranked
ranked_in run zero = run.stop
ranked_in run (suc zero) = run.deadline
ranked_in run (suc (suc zero)) = run.real_time
ranked_in run (suc (suc (suc class))) = run.fair

-- a run queue with this for it
abbrev pub with_ranked : {A : Type 0} → Inside A → ℕ → Ranked → Inside A
with_ranked run zero ranked = record run { stop = ranked }
with_ranked run (suc zero) ranked = record run { deadline = ranked }
with_ranked run (suc (suc zero)) ranked = record run { real_time = ranked }
with_ranked run (suc (suc (suc class))) ranked = record run { fair = ranked }

holds_in : {A : Type 0} (run : Inside A) → IsSound run → (class : ℕ) → Holds run.limit (ranked_in run class)
holds_in run sound zero = sound.stop
holds_in run sound (suc zero) = sound.deadline
holds_in run sound (suc (suc zero)) = sound.real_time
holds_in run sound (suc (suc (suc class))) = sound.fair

-- the pid at a key of a class is that at the seat
pub get-ranked_in : {A : Type 0} (run : Inside A) (class : ℕ) → class ≤ 3 → (key : Key) →
    get (seated_of run).tasks (class, key) ≡ get (ranked_in run class).members key
get-ranked_in run zero low key = get-joined run.stop.members run.deadline.members run.real_time.members run.fair.members (0, key)
get-ranked_in run (suc zero) low key = get-joined run.stop.members run.deadline.members run.real_time.members run.fair.members (1, key)
get-ranked_in run (suc (suc zero)) low key = get-joined run.stop.members run.deadline.members run.real_time.members run.fair.members (2, key)
get-ranked_in run (suc (suc (suc zero))) low key = get-joined run.stop.members run.deadline.members run.real_time.members run.fair.members (3, key)
get-ranked_in run (suc (suc (suc (suc class)))) low key = absurd (omega arith)

-- a class has no more tasks than there are, and so no higher bound on comparisons
pub most_comparisons-ranked_in : {A : Type 0} (run : Inside A) (class : ℕ) → most_comparisons (len (ranked_in run class).members) ≤ most_comparisons (len (seated_of run).tasks)
most_comparisons-ranked_in run class = most_comparisons-le _ _ (by_class class) where
  by_class : (class : ℕ) → len (ranked_in run class).members ≤ len (seated_of run).tasks
  by_class zero = let all = len-joined run.stop.members run.deadline.members run.real_time.members run.fair.members in omega arith
  by_class (suc zero) = let all = len-joined run.stop.members run.deadline.members run.real_time.members run.fair.members in omega arith
  by_class (suc (suc zero)) = let all = len-joined run.stop.members run.deadline.members run.real_time.members run.fair.members in omega arith
  by_class (suc (suc (suc class))) = let all = len-joined run.stop.members run.deadline.members run.real_time.members run.fair.members in omega arith

-- ---- a change of it

-- a class's queue with this for what stands at a key, with this number of tasks more and that number fewer, in the limit that it had
record IsEdit (limit : ℕ) (before after : Ranked) (key : Key) (value : Option ℕ) (more fewer : ℕ) : Type 0 where
  count : len after.members + fewer ≡ len before.members + more
  holds : Holds limit after
  sets : SetsTo before.members after.members key value

-- the same of a run queue, with the places for it
record Edits {A : Type 0} (before after : Inside A) (seat : Seat) (value : Option ℕ) (more fewer : ℕ) : Type 0 where
  sound : IsSound after
  sets : SetsTo (seated_of before).tasks (seated_of after).tasks seat value
  spare : (seated_of after).spare + more ≡ (seated_of before).spare + fewer

Edits-from : {A : Type 0} (run : Inside A) → IsSound run → (class : ℕ) → class ≤ 3 → (after : Ranked) (key : Key) (value : Option ℕ) (more fewer : ℕ) →
    count run + more ≤ run.limit + fewer → IsEdit run.limit (ranked_in run class) after key value more fewer →
    Edits run (with_ranked run class after) (class, key) value more fewer
Edits-from run sound zero low after key value more fewer fits one = record {
  sound = record { few = omega arith; limit_fits = sound.limit_fits; stop = one.holds; deadline = sound.deadline; real_time = sound.real_time; fair = sound.fair };
  sets = SetsTo-stop run.stop.members run.deadline.members run.real_time.members run.fair.members key value after.members one.sets;
  spare = omega arith;
}
Edits-from run sound (suc zero) low after key value more fewer fits one = record {
  sound = record { few = omega arith; limit_fits = sound.limit_fits; stop = sound.stop; deadline = one.holds; real_time = sound.real_time; fair = sound.fair };
  sets = SetsTo-deadline run.stop.members run.deadline.members run.real_time.members run.fair.members key value after.members one.sets;
  spare = omega arith;
}
Edits-from run sound (suc (suc zero)) low after key value more fewer fits one = record {
  sound = record { few = omega arith; limit_fits = sound.limit_fits; stop = sound.stop; deadline = sound.deadline; real_time = one.holds; fair = sound.fair };
  sets = SetsTo-real_time run.stop.members run.deadline.members run.real_time.members run.fair.members key value after.members one.sets;
  spare = omega arith;
}
Edits-from run sound (suc (suc (suc zero))) low after key value more fewer fits one = record {
  sound = record { few = omega arith; limit_fits = sound.limit_fits; stop = sound.stop; deadline = sound.deadline; real_time = sound.real_time; fair = one.holds };
  sets = SetsTo-fair run.stop.members run.deadline.members run.real_time.members run.fair.members key value after.members one.sets;
  spare = omega arith;
}
Edits-from run sound (suc (suc (suc (suc class)))) low after key value more fewer fits one = absurd (omega arith)

-- ---- a task more

-- a run queue with one task more at a seat
pub record Enters {A : Type 0} (before after : Inside A) (seat : Seat) (pid : ℕ) : Type 0 where
  pub sound : IsSound after
  pub tasks : (seated_of after).tasks ≡ fin.insert (seated_of before).tasks seat pid
  pub spare : (seated_of after).spare + 1 ≡ (seated_of before).spare

pub entered : {A : Type 0} (run : Inside A) → IsSound run → (class : ℕ) → class ≤ 3 → (key : Key) (pid : ℕ) →
    0 < (seated_of run).spare → get (seated_of run).tasks (class, key) ≡ None →
    (after : Ranked) → after.members ≡ fin.insert (ranked_in run class).members key pid → after.spare + 1 ≡ (ranked_in run class).spare →
    Enters run (with_ranked run class after) (class, key) pid
entered run sound class low key pid fits free after is spare =
    let before = ranked_in run class in
    let holds = holds_in run sound class in
    let longer : len after.members ≡ len before.members + 1 =
    ap len is ∙ len-insert key_total before.members key pid
    ∙ ap (λ o. cond (is_some o) (len before.members) (len before.members + 1)) (sym (get-ranked_in run class low key) ∙ free) in
    let edits = Edits-from run sound class low after key (Some pid) 1 0 (omega arith) (record {
      count = omega arith;
      holds = omega arith;
      sets = rw is (get-insert key_total before.members key pid);
    }) in record {
      sound = edits.sound;
      tasks = insert-SetsTo _ _ (class, key) pid edits.sets;
      spare = (let kept = edits.spare in omega arith);
    }

-- ---- a task less

has_some : (members : Members) (key : Key) → contains_key members key ≡ true → 0 < len members
has_some members key found =
    rw len-entries (by_entries (entries members) (ap is_some (sym (get-entries members key)) ∙ found)) where
      by_entries : (es : List (Key × ℕ)) → is_some (find key_cmp key es) ≡ true → 0 < length es
      by_entries [] is = absurd cc
      by_entries (e ∷ es) is = omega arith

-- as many fewer as are found at the key
shorter : (before after : Members) (key : Key) (found : Bool) → found ≡ contains_key before key →
    len after ≡ cond (contains_key before key) (len before - 1) (len before) → len after + cond found 1 0 ≡ len before
shorter before after key true is_there is = let some = has_some before key (sym is_there) in let now = rw (← is_there) at is in omega arith
shorter before after key false is_absent is = let now = rw (← is_absent) at is in omega arith

-- a run queue without what was at a seat
pub record Leaves {A : Type 0} (before after : Inside A) (seat : Seat) (is_found : Bool) : Type 0 where
  pub sound : IsSound after
  pub found : is_found ≡ contains_key (seated_of before).tasks seat
  pub tasks : (seated_of after).tasks ≡ fin.remove (seated_of before).tasks seat
  pub spare : (seated_of after).spare ≡ (seated_of before).spare + cond is_found 1 0

pub left : {A : Type 0} (run : Inside A) → IsSound run → (class : ℕ) → class ≤ 3 → (key : Key) (found : Bool) (after : Ranked) →
    found ≡ contains_key (ranked_in run class).members key → after.members ≡ fin.remove (ranked_in run class).members key →
    after.spare ≡ (ranked_in run class).spare + cond found 1 0 →
    Leaves run (with_ranked run class after) (class, key) found
left run sound class low key found after says is spare =
    let before = ranked_in run class in
    let holds = holds_in run sound class in
    let fewer = shorter before.members after.members key found says (ap len is ∙ len-remove key_total before.members key) in
    let few = sound.few in
    let edits = Edits-from run sound class low after key None 0 (cond found 1 0) (omega arith) (record {
      count = omega arith;
      holds = omega arith;
      sets = rw is (get-remove key_total before.members key);
    }) in record {
      sound = edits.sound;
      found = says ∙ ap is_some (sym (get-ranked_in run class low key));
      tasks = remove-SetsTo _ _ (class, key) edits.sets;
      spare = (let kept = edits.spare in omega arith);
    }

-- ---- a fair task that has another rank

-- a run queue in which what was at a seat is at another
pub record Moves {A : Type 0} (before after : Inside A) (seat place : Seat) (pid : ℕ) : Type 0 where
  pub sound : IsSound after
  pub tasks : (seated_of after).tasks ≡ fin.insert (fin.remove (seated_of before).tasks seat) place pid
  pub spare : (seated_of after).spare ≡ (seated_of before).spare

module _ {A : Type 0} (run : Inside A) (sound : IsSound run) (key place : Key) (there : contains_key (seated_of run).tasks (3, key) ≡ true) where
  -- while it is out
  abbrev mid : Ranked
  mid = record { members = fin.remove run.fair.members key; spare = run.fair.spare + 1 }

  pub fair_there : contains_key run.fair.members key ≡ true
  fair_there = ap is_some (sym (get-ranked_in run 3 (omega arith) key)) ∙ there

  out : Leaves run (with_ranked run 3 mid) (3, key) true
  out = left run sound 3 (omega arith) key true mid (sym fair_there) refl refl

  module _ (free : get (fin.remove (seated_of run).tasks (3, key)) (3, place) ≡ None) where
    free_mid : get (seated_of (with_ranked run 3 mid)).tasks (3, place) ≡ None
    free_mid = ap (λ (tasks : Seats). get tasks (3, place)) out.tasks ∙ free

    pub fair_free : get (fin.remove run.fair.members key) place ≡ None
    fair_free = sym (get-ranked_in (with_ranked run 3 mid) 3 (omega arith) place) ∙ free_mid

    pub moved : (after : Ranked) (pid : ℕ) → after.members ≡ fin.insert (fin.remove run.fair.members key) place pid → after.spare ≡ run.fair.spare →
        Moves run (with_ranked run 3 after) (3, key) (3, place) pid
    moved after pid is spare =
        let enters = entered (with_ranked run 3 mid) out.sound 3 (omega arith) place pid (omega (arith, out.spare)) free_mid after is (ap (λ n. n + 1) spare) in
        record {
          sound = enters.sound;
          tasks = enters.tasks ∙ ap (λ (tasks : Seats). fin.insert tasks (3, place) pid) out.tasks;
          spare = omega (arith, enters.spare, out.spare);
        }

  -- a search in it then
  pub most_comparisons-out : most_comparisons (len (fin.remove run.fair.members key)) ≤ most_comparisons (len (fin.remove (seated_of run).tasks (3, key)))
  most_comparisons-out =
      let same = ap (λ (tasks : Seats). most_comparisons (len tasks)) out.tasks in
      omega (arith, same, most_comparisons-ranked_in (with_ranked run 3 mid) 3)
