-- Events: what the events of a history name keeps its limits as it goes on.
use Rattle.std.proofs.Common.{◌≡◌, [], ◌∷◌, ◌++◌, sym, subst}
use Rattle.std.proofs.lemmas.List.Elements.{All-push}
use Rattle.cs_types.specs.declared.event.Event.{Event}
use Rattle.cs_types.specs.declared.reply.Entry.{Entry}
use Rattle.cs_types.specs.Scenario.{IsEvent}
use Rattle.cs_types.specs.Room.{Opening}
use Rattle.cs_types.specs.History.{History, AreEvents}

-- of one entry more
pub events_more : (opening same : Opening) (past now : History) (entry : Entry) → same ≡ opening → now ≡ past ++ entry ∷ [] →
    AreEvents opening past → IsEvent opening.scenario.siblings entry.event → AreEvents same now
events_more opening same past now entry alike one_more events limits =
    subst (λ (o : Opening). AreEvents o now) (sym alike)
    (subst (AreEvents opening) (sym one_more) (All-push (λ (e : Entry). IsEvent opening.scenario.siblings e.event) past entry events limits))

-- of an event, in an opening that is the same
pub event_in : (opening same : Opening) (event : Event) → same ≡ opening → IsEvent opening.scenario.siblings event → IsEvent same.scenario.siblings event
event_in opening same event alike limits = subst (λ (o : Opening). IsEvent o.scenario.siblings event) (sym alike) limits
