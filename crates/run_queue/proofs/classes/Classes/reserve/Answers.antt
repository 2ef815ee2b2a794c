use Rattle.std.proofs.Common.{◌≡◌, ℕ, ◌+◌, ◌-◌, max, Ok, Err, refl, ap, ◌∙◌, arith}
use Rattle.std.specs.Prelude.{Result, OnErr}
use Rattle.std.proofs.lemmas.Result.{IfOk-from_err}
use Rattle.std.specs.FinMap.{from_sorted, len}
use Rattle.cs_types.specs.Queue.{Members, Ranked, Seated, seat_cmp}
use Rattle.run_queue.specs.Classes.{Holds, joined}
use Rattle.run_queue.proofs.Seats.{len-joined}
use Rattle.run_queue.proofs.classes.Classes.reserve.Goals as goal

-- the same tasks of each class are the same tasks in all
tasks_alike : {stop stops deadline deadlines real_time real_times fair fairs : Members} → stops ≡ stop → deadlines ≡ deadline → real_times ≡ real_time → fairs ≡ fair →
    from_sorted {R = seat_cmp} (joined stops deadlines real_times fairs) ≡ from_sorted {R = seat_cmp} (joined stop deadline real_time fair)
tasks_alike a b c d = λ i. from_sorted {R = seat_cmp} (joined (a i) (b i) (c i) (d i))

-- and so is what can still come
spare_alike : (limit : ℕ) {stop stops deadline deadlines real_time real_times fair fairs : Members} → stops ≡ stop → deadlines ≡ deadline → real_times ≡ real_time → fairs ≡ fair →
    limit - (len stops + len deadlines + len real_times + len fairs) ≡ limit - (len stop + len deadline + len real_time + len fair)
spare_alike limit a b c d = λ i. limit - (len (a i) + len (b i) + len (c i) + len (d i))

on_err : {A E : Type 0} (r : Result A E) {P : Type 0} → P → OnErr r P
on_err (Ok x) p = tt
on_err (Err e) p = p

-- a class takes as many tasks as before, where its spare is as before or more
holds_alike : {limit : ℕ} (old new : Ranked) → Holds limit old → new.members ≡ old.members → new.spare ≡ old.spare → Holds limit new
holds_alike old new holds members spare = let many = ap len members in omega arith

holds_more : {limit : ℕ} (old new : Ranked) (n : ℕ) → Holds limit old → new.members ≡ old.members → new.spare ≡ max n old.spare → Holds limit new
holds_more old new n holds members spare = let many = ap len members in omega arith

-- no class has more tasks than there are in all

pub overflow_sub-limit : goal.overflow_sub-limit
overflow_sub-limit c =
    let all = len-joined c.self.inside.stop.members c.self.inside.deadline.members c.self.inside.real_time.members c.self.inside.fair.members in
    let counted = rw (← c.self.view_is) at c.count.ensures in
    omega (arith, c.in-Some.ensures)

pub overflow_sub-limit-2 : goal.overflow_sub-limit-2
overflow_sub-limit-2 c =
    let all = len-joined c.self.inside.stop.members c.self.inside.deadline.members c.self.inside.real_time.members c.self.inside.fair.members in
    let counted = rw (← c.self.view_is) at c.count.ensures in
    omega (arith, c.in-Some.ensures)

pub overflow_sub-limit-3 : goal.overflow_sub-limit-3
overflow_sub-limit-3 c =
    let all = len-joined c.self.inside.stop.members c.self.inside.deadline.members c.self.inside.real_time.members c.self.inside.fair.members in
    let counted = rw (← c.self.view_is) at c.count.ensures in
    omega (arith, c.in-Some.ensures)

pub overflow_sub-limit-4 : goal.overflow_sub-limit-4
overflow_sub-limit-4 c =
    let all = len-joined c.self.inside.stop.members c.self.inside.deadline.members c.self.inside.real_time.members c.self.inside.fair.members in
    let counted = rw (← c.self.view_is) at c.count.ensures in
    omega (arith, c.in-Some.ensures)

pub returns-clause-spare : goal.returns-clause-spare
returns-clause-spare c =
    let all = len-joined c.self.inside.stop.members c.self.inside.deadline.members c.self.inside.real_time.members c.self.inside.fair.members in
    let counted = rw (← c.self.view_is) at c.count.ensures in
    let stop = ap len c.in_ok-reserve.ensures.members in
    let deadline = ap len c.in_ok-reserve-2.ensures.members in
    let real_time = ap len c.in_ok-reserve-3.ensures.members in
    let fair = ap len c.in_ok-reserve-4.ensures.members in
    rw (← c.self.view_is) (omega (arith, c.in-Some.ensures))

-- ---- where there is no memory, nothing changes

pub returns-in_err-reserve-clause-tasks : goal.returns-in_err-reserve-clause-tasks
returns-in_err-reserve-clause-tasks c =
    tasks_alike c.in_err-reserve.ensures.members refl refl refl
    ∙ ap (λ (q : Seated). q.tasks) c.self.view_is

pub returns-in_err-reserve-clause-err : goal.returns-in_err-reserve-clause-err
returns-in_err-reserve-clause-err c =
    on_err c.from_residual.result
    (spare_alike c.self.inside.limit c.in_err-reserve.ensures.members refl refl refl ∙ ap (λ (q : Seated). q.spare) c.self.view_is)

pub invariant_of-self : goal.invariant_of-self
invariant_of-self c =
    let sound = c.self.invariant in
    let stop = ap len c.in_err-reserve.ensures.members in
    record {
      few = omega (arith, sound.few);
      limit_fits = sound.limit_fits;
      stop = holds_alike c.self.inside.stop c.reserve.new.self sound.stop c.in_err-reserve.ensures.members c.in_err-reserve.ensures.err;
      deadline = sound.deadline;
      real_time = sound.real_time;
      fair = sound.fair;
    }

pub returns-in_err-reserve-2-clause-tasks : goal.returns-in_err-reserve-2-clause-tasks
returns-in_err-reserve-2-clause-tasks c =
    tasks_alike c.in_ok-reserve.ensures.members c.in_err-reserve-2.ensures.members refl refl
    ∙ ap (λ (q : Seated). q.tasks) c.self.view_is

pub returns-in_err-reserve-2-clause-err : goal.returns-in_err-reserve-2-clause-err
returns-in_err-reserve-2-clause-err c =
    on_err c.from_residual-in_err-reserve-2.result
    (spare_alike c.self.inside.limit c.in_ok-reserve.ensures.members c.in_err-reserve-2.ensures.members refl refl ∙ ap (λ (q : Seated). q.spare) c.self.view_is)

pub invariant_of-self-in_err-reserve-2 : goal.invariant_of-self-in_err-reserve-2
invariant_of-self-in_err-reserve-2 c =
    let sound = c.self.invariant in
    let stop = ap len c.in_ok-reserve.ensures.members in
    let deadline = ap len c.in_err-reserve-2.ensures.members in
    record {
      few = omega (arith, sound.few);
      limit_fits = sound.limit_fits;
      stop = holds_more c.self.inside.stop c.reserve.new.self _ sound.stop c.in_ok-reserve.ensures.members c.in_ok-reserve.ensures.spare;
      deadline = holds_alike c.self.inside.deadline c.reserve-2.new.self sound.deadline c.in_err-reserve-2.ensures.members c.in_err-reserve-2.ensures.err;
      real_time = sound.real_time;
      fair = sound.fair;
    }

pub returns-in_err-reserve-3-clause-tasks : goal.returns-in_err-reserve-3-clause-tasks
returns-in_err-reserve-3-clause-tasks c =
    tasks_alike c.in_ok-reserve.ensures.members c.in_ok-reserve-2.ensures.members c.in_err-reserve-3.ensures.members refl
    ∙ ap (λ (q : Seated). q.tasks) c.self.view_is

pub returns-in_err-reserve-3-clause-err : goal.returns-in_err-reserve-3-clause-err
returns-in_err-reserve-3-clause-err c =
    on_err c.from_residual-in_err-reserve-3.result
    (spare_alike c.self.inside.limit c.in_ok-reserve.ensures.members c.in_ok-reserve-2.ensures.members c.in_err-reserve-3.ensures.members refl ∙ ap (λ (q : Seated). q.spare) c.self.view_is)

pub invariant_of-self-in_err-reserve-3 : goal.invariant_of-self-in_err-reserve-3
invariant_of-self-in_err-reserve-3 c =
    let sound = c.self.invariant in
    let stop = ap len c.in_ok-reserve.ensures.members in
    let deadline = ap len c.in_ok-reserve-2.ensures.members in
    let real_time = ap len c.in_err-reserve-3.ensures.members in
    record {
      few = omega (arith, sound.few);
      limit_fits = sound.limit_fits;
      stop = holds_more c.self.inside.stop c.reserve.new.self _ sound.stop c.in_ok-reserve.ensures.members c.in_ok-reserve.ensures.spare;
      deadline = holds_more c.self.inside.deadline c.reserve-2.new.self _ sound.deadline c.in_ok-reserve-2.ensures.members c.in_ok-reserve-2.ensures.spare;
      real_time = holds_alike c.self.inside.real_time c.reserve-3.new.self sound.real_time c.in_err-reserve-3.ensures.members c.in_err-reserve-3.ensures.err;
      fair = sound.fair;
    }

pub returns-in_err-reserve-4-clause-tasks : goal.returns-in_err-reserve-4-clause-tasks
returns-in_err-reserve-4-clause-tasks c =
    tasks_alike c.in_ok-reserve.ensures.members c.in_ok-reserve-2.ensures.members c.in_ok-reserve-3.ensures.members c.in_err-reserve-4.ensures.members
    ∙ ap (λ (q : Seated). q.tasks) c.self.view_is

pub returns-in_err-reserve-4-clause-err : goal.returns-in_err-reserve-4-clause-err
returns-in_err-reserve-4-clause-err c =
    on_err c.from_residual-in_err-reserve-4.result
    (spare_alike c.self.inside.limit c.in_ok-reserve.ensures.members c.in_ok-reserve-2.ensures.members c.in_ok-reserve-3.ensures.members c.in_err-reserve-4.ensures.members ∙ ap (λ (q : Seated). q.spare) c.self.view_is)

pub invariant_of-self-in_err-reserve-4 : goal.invariant_of-self-in_err-reserve-4
invariant_of-self-in_err-reserve-4 c =
    let sound = c.self.invariant in
    let stop = ap len c.in_ok-reserve.ensures.members in
    let deadline = ap len c.in_ok-reserve-2.ensures.members in
    let real_time = ap len c.in_ok-reserve-3.ensures.members in
    let fair = ap len c.in_err-reserve-4.ensures.members in
    record {
      few = omega (arith, sound.few);
      limit_fits = sound.limit_fits;
      stop = holds_more c.self.inside.stop c.reserve.new.self _ sound.stop c.in_ok-reserve.ensures.members c.in_ok-reserve.ensures.spare;
      deadline = holds_more c.self.inside.deadline c.reserve-2.new.self _ sound.deadline c.in_ok-reserve-2.ensures.members c.in_ok-reserve-2.ensures.spare;
      real_time = holds_more c.self.inside.real_time c.reserve-3.new.self _ sound.real_time c.in_ok-reserve-3.ensures.members c.in_ok-reserve-3.ensures.spare;
      fair = holds_alike c.self.inside.fair c.reserve-4.new.self sound.fair c.in_err-reserve-4.ensures.members c.in_err-reserve-4.ensures.err;
    }

pub returns-clause-tasks : goal.returns-clause-tasks
returns-clause-tasks c =
    tasks_alike c.in_ok-reserve.ensures.members c.in_ok-reserve-2.ensures.members c.in_ok-reserve-3.ensures.members c.in_ok-reserve-4.ensures.members
    ∙ ap (λ (q : Seated). q.tasks) c.self.view_is

pub returns-in_err-reserve-clause-spare : goal.returns-in_err-reserve-clause-spare
returns-in_err-reserve-clause-spare c = IfOk-from_err _ _ c.from_residual.ensures.0

pub returns-in_err-reserve-2-clause-spare : goal.returns-in_err-reserve-2-clause-spare
returns-in_err-reserve-2-clause-spare c = IfOk-from_err _ _ c.from_residual-in_err-reserve-2.ensures.0

pub returns-in_err-reserve-3-clause-spare : goal.returns-in_err-reserve-3-clause-spare
returns-in_err-reserve-3-clause-spare c = IfOk-from_err _ _ c.from_residual-in_err-reserve-3.ensures.0

pub returns-in_err-reserve-4-clause-spare : goal.returns-in_err-reserve-4-clause-spare
returns-in_err-reserve-4-clause-spare c = IfOk-from_err _ _ c.from_residual-in_err-reserve-4.ensures.0
