use Rattle.std.proofs.Common.{◌∙◌, ap, List}
use Rattle.std.specs.Prelude.{slice_get}
use Rattle.cs_types.specs.declared.reply.Entry.{Entry}
use Rattle.cs_types.specs.History.{history_of}
use Rattle.core_events.specs.Machine.{Machine}
use Rattle.core_events.proofs.Views.{looked_up}
use Rattle.core_events.proofs.room.CoreRoomRoom.entry.Goals as goal

pub returns : goal.returns
returns g c =
    c.copied.ensures ∙ looked_up c.deref.result.now c.args.place c.get.result c.get.ensures.lookup.0 c.get.ensures.lookup.1
    ∙ ap (λ (entries : List Entry). slice_get entries c.args.place)
    (c.deref.ensures.value ∙ c.self.invariant.history ∙ ap (λ (m : Machine). history_of m.opening m.steps) c.self.view_is)
