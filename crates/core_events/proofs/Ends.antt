-- Ends: a machine makes the entries of the final drain one by one.
use Rattle.std.proofs.Common.{◌≡◌, ℕ, ◌*◌, ◌-◌, ◌<◌, ◌≤◌, List, [], ◌∷◌, ◌++◌, refl, sym, ap, ◌∙◌, subst, arith, Some, None}
use Rattle.std.proofs.lemmas.List.{append_assoc, append-nil}
use Rattle.cs_types.specs.Room.{Opening}
use Rattle.cs_types.specs.declared.event.Actor.TheVariants.{End}
use Rattle.cs_types.specs.declared.event.Event.TheVariants.{Resched}
use Rattle.cs_types.specs.declared.reply.Entry.{Entry}
use Rattle.cs_types.specs.Scenario.{IsPlayable}
use Rattle.cs_types.specs.History.{History, Moment, next, AreEvents, IsLegal, moment_of, fold_of, reply_to}
use Rattle.cs_types.specs.Drain.{pending, next_to_schedule, entry_by_end, IsEndFrom, IsDrained}
use Rattle.cs_types.specs.Laws.{IsSettled, RunOneCookie}
use Rattle.cs_laws.proofs.Histories.{moment_of-push}
use Rattle.cs_laws.proofs.Siblings.{length-fold_of}
use Rattle.cs_laws.proofs.Drains.{next_is_pending, next_is_none, nobody_pending, AreEvents-drained, IsLegal-drained}
use Rattle.cs_laws.proofs.Measures.{measure, pending_parts}
use Rattle.cs_laws.proofs.Drained.{measure-moment_of, measure-push, none_at_zero}
use Rattle.cs_laws.proofs.Trust.{settled-moment_of, one_cookie}

-- ---- one entry

-- the sibling that schedules is one of the core
pub next_below : (opening : Opening) (history : History) (cpu : ℕ) → Some cpu ≡ next_to_schedule (moment_of opening history) → cpu < opening.scenario.siblings
next_below opening history cpu next =
    let held = (next_is_pending (moment_of opening history) cpu (sym next)).0 in
    omega (arith, (pending_parts (fold_of opening history) cpu held).0, length-fold_of opening history)

-- What the end comes to from the history now on is what it comes to from the past, within as many entries as are left.
pub record IsAhead (opening : Opening) (past now : History) (left : ℕ) : Type 0 where
  pub ends : (rest : List Entry) → IsEndFrom (moment_of opening now) rest → IsDrained opening past (now ++ rest)
  pub near : measure (moment_of opening now) ≤ left

-- so at the beginning
pub ahead_first : (opening : Opening) (past : History) → IsAhead opening past past (opening.scenario.siblings * opening.scenario.siblings)
ahead_first opening past =
    record { ends = λ rest ends. record { made = rest; added = refl; ends = ends }; near = measure-moment_of opening past }

-- and once the entry of that sibling is made
pub ahead_after : (opening : Opening) (past now : History) (left cpu : ℕ) (entry : Entry) → IsAhead opening past now left →
    Some cpu ≡ next_to_schedule (moment_of opening now) → entry.actor ≡ End → entry.event ≡ Resched cpu → entry.reply ≡ reply_to opening now (Resched cpu) →
    IsAhead opening past (now ++ entry ∷ []) (left - 1)
ahead_after opening past now left cpu entry ahead next_is actor event reply =
    let moment = moment_of opening now in
    let same : entry ≡ entry_by_end moment cpu = λ i. record { actor = actor i; event = event i; reply = reply i } in
    let nearer : measure (moment_of opening (now ++ entry ∷ [])) < measure moment =
    subst (λ (e : Entry). measure (moment_of opening (now ++ e ∷ [])) < measure moment) (sym same) (measure-push opening now cpu (sym next_is)) in
    record {
      ends = λ rest ends.
          subst (IsDrained opening past) (sym (append_assoc now (entry ∷ []) rest))
          (ahead.ends (entry ∷ rest) (cpu, sym next_is, same, subst (λ (m : Moment). IsEndFrom m rest) (moment_of-push opening now entry) ends));
      near = omega (arith, ahead.near, nearer);
    }

-- Nothing is left where nobody is pending, which is so where no entry is left to make.
pub none_left : (opening : Opening) (past now : History) (left : ℕ) → IsAhead opening past now left → None ≡ next_to_schedule (moment_of opening now) →
    IsDrained opening past now
none_left opening past now left ahead next_is =
    subst (IsDrained opening past) (append-nil now) (ahead.ends [] (next_is_none (moment_of opening now) (sym next_is)))

pub all_made : (opening : Opening) (past now : History) → IsAhead opening past now 0 → IsDrained opening past now
all_made opening past now ahead = none_left opening past now 0 ahead (sym (none_at_zero (moment_of opening now) ahead.near))

-- ---- the end

-- nobody is pending after it
pub nobody_pending_at_end : {opening other : Opening} {past now : History} → other ≡ opening → IsDrained opening past now → pending (fold_of other now) ≡ []
nobody_pending_at_end {opening} {other} {past} {now} same drained =
    ap (λ (s : Opening). pending (fold_of s now)) same ∙ nobody_pending opening past now drained

-- and all that run a task run tasks with one cookie
pub one_cookie_at_end : {opening other : Opening} {past now : History} → other ≡ opening → IsDrained opening past now →
    IsPlayable opening.scenario → AreEvents opening past → IsLegal opening past → RunOneCookie (fold_of other now)
one_cookie_at_end {opening} {other} {past} {now} same drained playable events legal =
    one_cookie (fold_of other now)
    (subst (λ (s : Opening). IsSettled (fold_of s now)) (sym same)
    (settled-moment_of opening now playable (AreEvents-drained opening past now events drained) (IsLegal-drained opening past now legal drained)))
    (nobody_pending_at_end same drained)
