-- Drained: after a history the end comes within as many entries as the square of the siblings, one by one.
use Rattle.std.proofs.Common.{◌≡◌, ℕ, ◌*◌, ◌≤◌, ◌<◌, [], ◌∷◌, ◌++◌, refl, sym, subst, Option, Some, None, arith}
use Rattle.cs_types.specs.Room.{Opening}
use Rattle.cs_types.specs.History.{History, Moment, moment_of}
use Rattle.cs_types.specs.Drain.{next_to_schedule, entry_by_end}
use Rattle.cs_laws.proofs.Histories.{moment_of-push}
use Rattle.cs_laws.proofs.Siblings.{length-fold_of}
use Rattle.cs_laws.proofs.Measures.{measure, measure-le, measure-next}

-- After a history the measure is at most the square of the siblings.
pub measure-moment_of : (opening : Opening) (history : History) → measure (moment_of opening history) ≤ opening.scenario.siblings * opening.scenario.siblings
measure-moment_of opening history =
    subst (λ n. measure (moment_of opening history) ≤ n * n) (length-fold_of opening history) (measure-le (moment_of opening history))

-- With one entry of the end it is smaller.
pub measure-push : (opening : Opening) (history : History) (cpu : ℕ) → next_to_schedule (moment_of opening history) ≡ Some cpu →
    measure (moment_of opening (history ++ entry_by_end (moment_of opening history) cpu ∷ [])) < measure (moment_of opening history)
measure-push opening history cpu found =
    let moment = moment_of opening history in
    subst (λ (now : Moment). measure now < measure moment) (sym (moment_of-push opening history (entry_by_end moment cpu))) (measure-next moment cpu found)

-- Where it is 0, nobody schedules next.
pub none_at_zero : (moment : Moment) → measure moment ≤ 0 → next_to_schedule moment ≡ None
none_at_zero moment low = go (next_to_schedule moment) refl where
  go : (who : Option ℕ) → next_to_schedule moment ≡ who → next_to_schedule moment ≡ None
  go None none = none
  go (Some cpu) found = absurd (omega (arith, measure-next moment cpu found, low))
