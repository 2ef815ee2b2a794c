-- Runs: the pid that a sibling runs.
use Rattle.std.proofs.Common.{◌≡◌, ℕ, Bool, true, false, cond, refl, sym, ap, ◌∙◌, Option, Some, None}
use Rattle.std.specs.Prelude.{unwrap_or}
use Rattle.std.proofs.lemmas.Bool.{cond-true}
use Rattle.cs_types.specs.declared.view.CpuView.{CpuView}
use Rattle.cs_types.specs.Room.{RoomState, sibling_of, is_online}
use Rattle.cs_types.specs.History.{Moment}
use Rattle.cs_types.specs.View.{cpu_view}
use Rattle.run_times.proofs.Shown.{shown_cpu}
use Rattle.run_segments.specs.Segments.{pid_run}

-- the pid that an online sibling shows is the one that it runs
pub pid_shown : (moment : Moment) (cpu : ℕ) (view : CpuView) → Some view ≡ cpu_view moment cpu → view.online ≡ true → view.run ≡ pid_run moment.room cpu
pid_shown moment cpu view shown online =
    let its = shown_cpu moment cpu view shown in
    its.1 ∙ sym (cond-true (is_online moment.room cpu) (unwrap_or (sibling_of moment.room cpu).run 0) 0 (sym its.0 ∙ online))

-- one that runs idle runs none
pub pid_idle : (room : RoomState) (cpu : ℕ) → (sibling_of room cpu).run ≡ None → pid_run room cpu ≡ 0
pid_idle room cpu idle =
    ap (λ (run : Option ℕ). cond (is_online room cpu) (unwrap_or run 0) 0) idle ∙ same (is_online room cpu) 0 where
      same : (online : Bool) (n : ℕ) → cond online n n ≡ n
      same true n = refl
      same false n = refl
