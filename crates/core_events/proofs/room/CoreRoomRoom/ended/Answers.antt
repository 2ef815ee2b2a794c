use Rattle.std.proofs.Common.{◌≡◌, ℕ, List, ap, ◌∙◌, sym, Option, Bor, is_some, ltb, length, get_or}
use Rattle.std.specs.Prelude.{slice_get, option_copied, IfSome}
use Rattle.std.specs.Option.{option_map}
use Rattle.cs_types.specs.Room.{Opening}
use Rattle.cs_types.specs.declared.view.EndView.{EndView}
use Rattle.cs_types.specs.View.{end_view}
use Rattle.cs_types.specs.History.{History, fold_of, history_of}
use Rattle.core_lanes.specs.declared.queue.SiblingQueue.{Ghosts}
use Rattle.core_events.specs.declared.room.CoreRoom.TheInside.{Inside}
use Rattle.core_events.specs.Inside.{opening_of, machine_of, IsFold}
use Rattle.core_events.specs.Machine.{Machine}
use Rattle.core_events.proofs.Machines.{folds_of}
use Rattle.core_events.proofs.Views.{looked_up, shown_end, ended_shown}
use Rattle.core_events.proofs.room.CoreRoomRoom.ended.Goals as goal

abbrev end_at : Opening → History → ℕ → Option EndView
end_at opening history place = option_map (end_view (fold_of opening history)) (slice_get (fold_of opening history).ended place)

-- what is looked up at a place of the ended is shown as the machine's history has it
end_shown : {Q G : Type 0} {g : Ghosts Q} (a : Inside Q G g) (m : Machine) (ended : List (ℕ × ℕ)) (place : ℕ) (found : Option (Bor (ℕ × ℕ))) → IsFold a → machine_of a ≡ m →
    ended ≡ a.state.ended.items → is_some found ≡ ltb place (length ended) → IfSome found (λ x. x.now ≡ get_or ended place x.now) →
    option_map shown_end (option_copied found) ≡ end_at m.opening (history_of m.opening m.steps) place
end_shown a m ended place found invariant view_is same within is =
    ap (option_map shown_end) (looked_up ended place found within is ∙ ap (λ (ended : List (ℕ × ℕ)). slice_get ended place) same)
    ∙ ended_shown (opening_of a) a.state a.entries.items place (folds_of a invariant) invariant.sound
    ∙ ap (λ h. end_at (opening_of a) h place) invariant.history
    ∙ ap (λ (m : Machine). end_at m.opening (history_of m.opening m.steps) place) view_is

pub returns-in_err-pid : goal.returns-in_err-pid
returns-in_err-pid g c =
    let lookup = c.get.ensures.lookup in
    c.from_residual.ensures ∙ ap (λ found. option_map shown_end (option_copied found)) (sym c.in_err-pid.was)
    ∙ end_shown c.self.inside c.args.self.now c.deref.result.now c.args.place c.get.result c.self.invariant c.self.view_is c.deref.ensures.value lookup.0 lookup.1

pub returns : goal.returns
returns g c =
    let lookup = c.get.ensures.lookup in
    ap (λ found. option_map shown_end (option_copied found)) (sym c.in_ok-pid.was)
    ∙ end_shown c.self.inside c.args.self.now c.deref.result.now c.args.place c.get.result c.self.invariant c.self.view_is c.deref.ensures.value lookup.0 lookup.1
