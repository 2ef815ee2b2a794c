use Rattle.std.proofs.Common.{◌≡◌, List, ap, subst, sym, ◌∙◌, rules, Bor, get_or, length, ltb}
use Rattle.std.specs.Prelude.{IfSome}
use Rattle.std.specs.Option.{option_map}
use Rattle.core_events.specs.Inside.{opening_of}
use Rattle.cs_types.specs.View.{core_view, cpu_view, task_view_after, IsTrusted, AdoptsByNumbers}
use Rattle.cs_types.specs.Touches.{task_number, pick_number}
use Rattle.cs_types.specs.History.{moment_of, history_of}
use Rattle.cs_laws.proofs.Histories.{IsLegal-history_of}
use Rattle.cs_laws.proofs.Shown.{trusted-cpu_view, adopts-cpu_view}
use Rattle.core_lanes.specs.declared.lane.Lane.{Lane}
use Rattle.core_lanes.specs.Lanes.{lane_view}
use Rattle.core_events.specs.Machine.{Machine}
use Rattle.core_events.proofs.Machines.{folds_of}
use Rattle.core_events.proofs.Playable.{playable_of, events_of}
use Rattle.core_events.proofs.Views.{sibling_shown}
use Rattle.core_events.proofs.room.CoreRoomRoom.cpu.Goals as goal

pub returns-clause-view : goal.returns-clause-view
returns-clause-view g c =
    let a = c.self.inside in
    let cpu = c.args.cpu in
    let found : c.map.result ≡ option_map (λ (x : Bor (Lane g.row.Q.Denot)). lane_view x.now) c.get.result = search rules in
    let same = c.deref.ensures.value in
    found
    ∙ sibling_shown (opening_of a) a.state a.entries.items cpu c.get.result (folds_of a c.self.invariant) c.self.invariant.siblings
    (c.get.ensures.lookup.0 ∙ ap (λ (lanes : List (Lane g.row.Q.Denot)). ltb cpu (length lanes)) same)
    (subst (λ (lanes : List (Lane g.row.Q.Denot)). IfSome c.get.result (λ x. x.now ≡ get_or lanes cpu x.now)) same c.get.ensures.lookup.1)
    ∙ ap (λ h. cpu_view (moment_of (opening_of a) h) cpu) c.self.invariant.history
    ∙ ap (λ (m : Machine). cpu_view (moment_of m.opening (history_of m.opening m.steps)) cpu) c.self.view_is

pub returns-clause-trust : goal.returns-clause-trust
returns-clause-trust g c =
    let m = c.args.self.now in
    let moment = moment_of m.opening (history_of m.opening m.steps) in
    subst (λ shown. IfSome shown (IsTrusted (core_view moment) (task_view_after moment))) (sym (returns-clause-view g c))
    (trusted-cpu_view m.opening (history_of m.opening m.steps) (playable_of c.self.inside c.self.invariant m c.self.view_is)
    (events_of c.self.inside c.self.invariant m c.self.view_is) (IsLegal-history_of m.opening m.steps) c.args.cpu)

pub returns-clause-adoption : goal.returns-clause-adoption
returns-clause-adoption g c =
    let m = c.args.self.now in
    let moment = moment_of m.opening (history_of m.opening m.steps) in
    subst (λ shown. IfSome shown (AdoptsByNumbers moment c.args.cpu (task_number moment.ledger, pick_number moment.ledger))) (sym (returns-clause-view g c))
    (adopts-cpu_view m.opening (history_of m.opening m.steps) (playable_of c.self.inside c.self.invariant m c.self.view_is)
    (events_of c.self.inside c.self.invariant m c.self.view_is) (IsLegal-history_of m.opening m.steps) c.args.cpu)
