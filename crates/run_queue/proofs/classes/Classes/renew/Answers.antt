use Rattle.std.proofs.Common.{◌≡◌, map, sym, ap, ◌∙◌, arith}
use Rattle.std.specs.FinMap.{entries, is_sorted, len}
use Rattle.cs_types.specs.Queue.{Seated, seat_cmp}
use Rattle.cs_types.proofs.Comparisons.{most_comparisons-le}
use Rattle.order_tree.specs.Anew.{reranked}
use Rattle.run_queue.specs.Anew.{reseated}
use Rattle.run_queue.specs.Classes.{joined}
use Rattle.run_queue.proofs.Seats.{len-joined}
use Rattle.run_queue.proofs.Anew.{len-anew, entries-joined, rising-stop, rising-deadline, rising-real_time, rising-fair, joined-anew}
use Rattle.run_queue.proofs.classes.Classes.renew.Goals as goal

pub renew-requires : goal.renew-requires
renew-requires g c =
    let at = g.R.Renewal.at c.args.renewal.now in
    let was = c.self.inside in
    let are : entries c.args.self.now.tasks ≡ joined was.stop.members was.deadline.members was.real_time.members was.fair.members =
    ap (λ (q : Seated). entries q.tasks) (sym c.self.view_is) ∙ entries-joined at was.stop.members was.deadline.members was.real_time.members was.fair.members in
    record {
      rising = rising-stop at was.stop.members was.deadline.members was.real_time.members was.fair.members
          (ap (λ es. is_sorted seat_cmp (map (reseated at) es)) (sym are) ∙ c.requires.rising);
    }

pub renew-requires-2 : goal.renew-requires-2
renew-requires-2 g c =
    let at = g.R.Renewal.at c.args.renewal.now in
    let was = c.self.inside in
    let are : entries c.args.self.now.tasks ≡ joined was.stop.members was.deadline.members was.real_time.members was.fair.members =
    ap (λ (q : Seated). entries q.tasks) (sym c.self.view_is) ∙ entries-joined at was.stop.members was.deadline.members was.real_time.members was.fair.members in
    record {
      rising = rising-deadline at was.stop.members was.deadline.members was.real_time.members was.fair.members
          (ap (λ es. is_sorted seat_cmp (map (reseated at) es)) (sym are) ∙ c.requires.rising);
    }

pub renew-requires-3 : goal.renew-requires-3
renew-requires-3 g c =
    let at = g.R.Renewal.at c.args.renewal.now in
    let was = c.self.inside in
    let are : entries c.args.self.now.tasks ≡ joined was.stop.members was.deadline.members was.real_time.members was.fair.members =
    ap (λ (q : Seated). entries q.tasks) (sym c.self.view_is) ∙ entries-joined at was.stop.members was.deadline.members was.real_time.members was.fair.members in
    record {
      rising = rising-real_time at was.stop.members was.deadline.members was.real_time.members was.fair.members
          (ap (λ es. is_sorted seat_cmp (map (reseated at) es)) (sym are) ∙ c.requires.rising);
    }

pub renew-requires-4 : goal.renew-requires-4
renew-requires-4 g c =
    let at = g.R.Renewal.at c.args.renewal.now in
    let was = c.self.inside in
    let are : entries c.args.self.now.tasks ≡ joined was.stop.members was.deadline.members was.real_time.members was.fair.members =
    ap (λ (q : Seated). entries q.tasks) (sym c.self.view_is) ∙ entries-joined at was.stop.members was.deadline.members was.real_time.members was.fair.members in
    record {
      rising = rising-fair at was.stop.members was.deadline.members was.real_time.members was.fair.members
          (ap (λ es. is_sorted seat_cmp (map (reseated at) es)) (sym are) ∙ c.requires.rising);
    }

pub invariant_of-self : goal.invariant_of-self
invariant_of-self g c =
    let at = g.R.Renewal.at c.args.renewal.now in
    let was = c.self.inside in
    let sound = c.self.invariant in
    let stop = len-anew (reranked at) was.stop.members c.renew.new.self.members c.renew.ensures.entries in
    let deadline = len-anew (reranked at) was.deadline.members c.renew-2.new.self.members c.renew-2.ensures.entries in
    let real_time = len-anew (reranked at) was.real_time.members c.renew-3.new.self.members c.renew-3.ensures.entries in
    let fair = len-anew (reranked at) was.fair.members c.renew-4.new.self.members c.renew-4.ensures.entries in
    record {
      few = omega (arith, sound.few);
      limit_fits = sound.limit_fits;
      stop = omega (arith, sound.stop, c.renew.ensures.spare);
      deadline = omega (arith, sound.deadline, c.renew-2.ensures.spare);
      real_time = omega (arith, sound.real_time, c.renew-3.ensures.spare);
      fair = omega (arith, sound.fair, c.renew-4.ensures.spare);
    }

pub returns-clause-entries : goal.returns-clause-entries
returns-clause-entries g c =
    let at = g.R.Renewal.at c.args.renewal.now in
    let was = c.self.inside in
    let are : entries c.args.self.now.tasks ≡ joined was.stop.members was.deadline.members was.real_time.members was.fair.members =
    ap (λ (q : Seated). entries q.tasks) (sym c.self.view_is) ∙ entries-joined at was.stop.members was.deadline.members was.real_time.members was.fair.members in
    entries-joined at c.renew.new.self.members c.renew-2.new.self.members c.renew-3.new.self.members c.renew-4.new.self.members
    ∙ joined-anew at was.stop.members was.deadline.members was.real_time.members was.fair.members
    c.renew.new.self.members c.renew-2.new.self.members c.renew-3.new.self.members c.renew-4.new.self.members
    c.renew.ensures.entries c.renew-2.ensures.entries c.renew-3.ensures.entries c.renew-4.ensures.entries
    ∙ ap (map (reseated at)) (sym are)

pub returns-clause-spare : goal.returns-clause-spare
returns-clause-spare g c =
    let at = g.R.Renewal.at c.args.renewal.now in
    let was = c.self.inside in
    let stop = len-anew (reranked at) was.stop.members c.renew.new.self.members c.renew.ensures.entries in
    let deadline = len-anew (reranked at) was.deadline.members c.renew-2.new.self.members c.renew-2.ensures.entries in
    let real_time = len-anew (reranked at) was.real_time.members c.renew-3.new.self.members c.renew-3.ensures.entries in
    let fair = len-anew (reranked at) was.fair.members c.renew-4.new.self.members c.renew-4.ensures.entries in
    let seen = ap (λ (q : Seated). q.spare) c.self.view_is in
    omega (arith, seen, stop, deadline, real_time, fair)

pub returns-clause-counted : goal.returns-clause-counted
returns-clause-counted g c =
    let was = c.self.inside in
    let all = len-joined was.stop.members was.deadline.members was.real_time.members was.fair.members in
    let seen = ap (λ (q : Seated). len q.tasks) c.self.view_is in
    let many = len c.args.self.now.tasks in
    let stop = most_comparisons-le (len was.stop.members) many (omega (arith, all, seen)) in
    let deadline = most_comparisons-le (len was.deadline.members) many (omega (arith, all, seen)) in
    let real_time = most_comparisons-le (len was.real_time.members) many (omega (arith, all, seen)) in
    let fair = most_comparisons-le (len was.fair.members) many (omega (arith, all, seen)) in
    omega (arith, stop, deadline, real_time, fair, c.renew.ensures.counted, c.renew-2.ensures.counted, c.renew-3.ensures.counted, c.renew-4.ensures.counted)
