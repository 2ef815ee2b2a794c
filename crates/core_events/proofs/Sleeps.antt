-- The numbers of a sibling that schedules, and of one whose task went to sleep or ended.
use Rattle.std.proofs.Common.{◌≡◌, ℕ, ap, arith, refl, set}
use Rattle.cs_types.specs.declared.event.Event.TheVariants.{Resched, Block}
use Rattle.cs_types.specs.declared.reply.Kind.{Kind}
use Rattle.cs_types.specs.declared.reply.Kind.TheVariants.{Selected, Adopted, Plain}
use Rattle.cs_types.specs.declared.reply.Pick.{Pick}
use Rattle.cs_types.specs.declared.reply.Reply.TheVariants.{Picked, Slept}
use Rattle.cs_types.specs.Room.{RoomState}
use Rattle.core_lanes.specs.Numbers.{Numbers, touched, took}
use Rattle.core_tasks.specs.Steps.{numbers_after}

-- a dequeue touched once, and then a pick was taken, as where the task ended
pub took-touched : (room : RoomState) (cpu pid : ℕ) (pick : Pick) (numbers : Numbers) →
    took cpu pick (touched 1 numbers) ≡ numbers_after room (Block cpu) (Slept pid pick) numbers
took-touched room cpu pid pick numbers = by_kind pick.kind pick.run pick.core pick.forced where
  by_kind : (kind : Kind) (run core forced : ℕ) →
      took cpu (record { kind = kind; run = run; core = core; forced = forced }) (touched 1 numbers)
      ≡ numbers_after room (Block cpu) (Slept pid (record { kind = kind; run = run; core = core; forced = forced })) numbers
  by_kind Selected run core forced = ap (λ (n : ℕ). record numbers { task = n; pick = n; own = set numbers.own cpu n }) (omega arith)
  by_kind Adopted run core forced = ap (λ (n : ℕ). record numbers { task = n; pick = numbers.pick; own = set numbers.own cpu numbers.pick }) (omega arith)
  by_kind Plain run core forced = ap (λ (n : ℕ). record numbers { task = n; pick = numbers.pick; own = numbers.own }) (omega arith)

-- a sibling that schedules takes a pick
pub took-resched : (room : RoomState) (cpu : ℕ) (pick : Pick) (numbers : Numbers) →
    took cpu pick numbers ≡ numbers_after room (Resched cpu) (Picked pick) numbers
took-resched room cpu pick numbers = by_kind pick.kind pick.run pick.core pick.forced where
  by_kind : (kind : Kind) (run core forced : ℕ) →
      let taken : Pick = record { kind = kind; run = run; core = core; forced = forced } in
      took cpu taken numbers ≡ numbers_after room (Resched cpu) (Picked taken) numbers
  by_kind Selected run core forced = refl
  by_kind kind run core forced = refl
