use Rattle.std.proofs.Common.{◌≡◌, true, false, sym, ap, ◌∙◌}
use Rattle.std.specs.Prelude.{IsTrue, is_some}
use Rattle.std.specs.FinMap.{empty, get, contains_key, get-empty}
use Rattle.cs_types.specs.Queue.{Spot, Spots, spot_cmp, spot_of}
use Rattle.queue_rows.proofs.queues.expect_first.Goals as goal

-- no task has a cookie
nothing : (cookies : Spots) → cookies ≡ empty → (spot : Spot) → IsTrue (contains_key cookies spot) → ⊥
nothing cookies is spot there =
    let bad : true ≡ false = sym there ∙ ap (λ (m : Spots). is_some (get m spot)) is ∙ ap is_some (get-empty spot_cmp spot) in
    absurd cc

pub dequeue-requires-clause-same : goal.dequeue-requires-clause-same
dequeue-requires-clause-same g c = rw (c.requires.cookies, get-empty spot_cmp (spot_of c.queued-task.result)) tt

pub dequeue-requires-clause-cookie : goal.dequeue-requires-clause-cookie
dequeue-requires-clause-cookie g c = λ cookie there. absurd (nothing _ c.requires.cookies _ there)

pub dequeue-requires-2-clause-same : goal.dequeue-requires-2-clause-same
dequeue-requires-2-clause-same g c =
    let none : c.dequeue.new.self.cookies ≡ empty = (rw c.queued-task.ensures.is at c.dequeue.ensures.cookies) ∙ c.requires.cookies in
    rw (none, get-empty spot_cmp (spot_of c.queued-task.result)) tt

pub dequeue-requires-2-clause-cookie : goal.dequeue-requires-2-clause-cookie
dequeue-requires-2-clause-cookie g c =
    let none : c.dequeue.new.self.cookies ≡ empty = (rw c.queued-task.ensures.is at c.dequeue.ensures.cookies) ∙ c.requires.cookies in
    λ cookie there. absurd (nothing _ none _ there)
