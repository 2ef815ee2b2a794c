use Rattle.std.proofs.Common.{◌≡◌, ℕ, true, false, inl, inr, refl, sym, ap, ◌∙◌}
use Rattle.std.specs.Prelude.{IsTrue, is_some}
use Rattle.std.specs.FinMap.{empty, insert, contains_key, get-empty, get-insert}
use Rattle.cs_types.specs.Queue.{Spot, seat_cmp, spot_cmp}
use Rattle.cs_types.proofs.Queues.{seat_total, spot_total, spot_cmp-IsAntisymmetric}
use Rattle.run_queue.proofs.Ties.{had-insert}
use Rattle.queue_rows.proofs.queues.expect_cookies.Goals as goal

-- the cookie of a spot, where the two spots that there are have one
cookie_of : (spot low high : Spot) → low.0 ≡ high.0 → IsTrue (contains_key (insert (insert (empty {X = ℕ} {R = spot_cmp}) low 1) high 2) spot) → spot.0 ≡ high.0
cookie_of spot low high one there =
    elim (had-insert spot_total spot_cmp-IsAntisymmetric (insert empty low 1) high 2 spot there) [
      | inl last ↦ ap (λ (s : Spot). s.0) last
      | inr before ↦
          elim (had-insert spot_total spot_cmp-IsAntisymmetric empty low 1 spot before) [
            | inl first ↦ ap (λ (s : Spot). s.0) first ∙ one
            | inr none ↦ let bad : true ≡ false = sym none ∙ ap is_some (get-empty spot_cmp spot) in absurd cc
          ]
    ]

pub enqueue-requires-clause-free : goal.enqueue-requires-clause-free
enqueue-requires-clause-free g c = rw (c.reserve.ensures.tasks, c.empty-queue.ensures.tasks) (get-empty seat_cmp _)

-- another seat than the first task's
pub enqueue-requires-2-clause-free : goal.enqueue-requires-2-clause-free
enqueue-requires-2-clause-free g c =
    rw (
      c.enqueue.ensures.tasks,
      c.queued-low.ensures.is,
      c.queued-high.ensures.is,
      c.reserve.ensures.tasks,
      c.empty-queue.ensures.tasks,
      get-insert seat_total,
    )
    (get-empty seat_cmp _)

pub dequeue-requires-clause-same : goal.dequeue-requires-clause-same
dequeue-requires-clause-same g c = rw (c.enqueue-2.ensures.cookies, c.queued-high.ensures.is, get-insert spot_total) refl

pub dequeue-requires-clause-cookie : goal.dequeue-requires-clause-cookie
dequeue-requires-clause-cookie g c =
    let one = rw (c.queued-low.ensures.is, c.reserve.ensures.cookies, c.empty-queue.ensures.cookies) at c.enqueue.ensures.cookies in
    let two = rw (c.queued-high.ensures.is, one) at c.enqueue-2.ensures.cookies in
    rw (c.queued-high.ensures.is, two) (λ cookie there. cookie_of (cookie, _) _ _ refl there)
