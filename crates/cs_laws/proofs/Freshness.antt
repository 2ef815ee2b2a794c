-- Freshness: whether a selection is fresh after one more entry.
use Rattle.std.proofs.Common.{◌≡◌, ℕ, ◌+◌, Bool, cond, true, false, ◌∷◌, refl, ap, ◌∙◌, Option, Some, None, is_some}
use Rattle.std.specs.Prelude.{◌==◌, ◌&&◌, ◌||◌}
use Rattle.std.specs.List.{list_any}
use Rattle.std.proofs.lemmas.Bool.{and_parts, eqb-true}
use Rattle.cs_types.specs.declared.event.Event.{Event}
use Rattle.cs_types.specs.declared.reply.Kind.{Kind}
use Rattle.cs_types.specs.declared.reply.Kind.TheVariants.{Selected, Adopted, Plain}
use Rattle.cs_types.specs.declared.reply.Pick.{Pick}
use Rattle.cs_types.specs.declared.reply.Reply.{Reply}
use Rattle.cs_types.specs.declared.reply.Reply.TheVariants.{Picked, Slept, Ended}
use Rattle.cs_types.specs.declared.reply.Entry.{Entry}
use Rattle.cs_types.specs.Room.{RoomState}
use Rattle.cs_types.specs.Touches.{is_selected, is_adopted, selection_of, is_selection, touches_by, Ledger, ledger_entry, is_fresh}
use Rattle.cs_laws.proofs.Numbers.{untouched, untouched-cons}

-- whether a selection is fresh after an event with this reply, where the test says whether one was before it
abbrev pub fresh_after : RoomState → Bool → Event → Reply → Bool
fresh_after room fresh event reply = is_some (selection_of reply) || ((touches_by room event reply == 0) && fresh)

by_parts : (selects any rest none : Bool) → ((selects || any) && cond selects true (none && rest)) ≡ (selects || (none && (any && rest)))
by_parts true any rest none = refl
by_parts false true rest none = refl
by_parts false false rest true = refl
by_parts false false rest false = refl

-- It is fresh after a selection, and after another entry where it was and that did not touch.
pub is_fresh-ledger_entry : (room : RoomState) (entry : Entry) (ledger : Ledger) →
    is_fresh (ledger_entry room entry ∷ ledger) ≡ fresh_after room (is_fresh ledger) entry.event entry.reply
unfolding is_fresh
is_fresh-ledger_entry room entry ledger =
    let any = list_any (λ note. is_selection note.entry) ledger in
    ap (λ b. (is_selection entry || any) && b) (untouched-cons (ledger_entry room entry) ledger)
    ∙ by_parts (is_selection entry) any (untouched ledger) (touches_by room entry.event entry.reply == 0)

-- ---- after a reply that tells no selection

by_none : (selection : Option Pick) (none fresh : Bool) → selection ≡ None → (is_some selection || (none && fresh)) ≡ true → (none ≡ true) × (fresh ≡ true)
by_none None none fresh is later = and_parts none fresh later
by_none (Some pick) none fresh is later = absurd cc

pub fresh_before : (room : RoomState) (fresh : Bool) (event : Event) (reply : Reply) → selection_of reply ≡ None → fresh_after room fresh event reply ≡ true →
    (touches_by room event reply ≡ 0) × (fresh ≡ true)
fresh_before room fresh event reply none later =
    let parts = by_none (selection_of reply) (touches_by room event reply == 0) fresh none later in
    (eqb-true (touches_by room event reply) 0 parts.0, parts.1)

-- ---- after a pick

-- after a selection it is fresh, and after an adoption where it was
abbrev pub freshened : Kind → Bool → Bool
freshened kind fresh = is_selected kind || (is_adopted kind && fresh)

picked_kind : (kind : Kind) (pick : Pick) (fresh : Bool) →
    (is_some (cond (is_selected kind) (Some pick) None) || ((cond (is_adopted kind) 0 1 == 0) && fresh)) ≡ true → freshened kind fresh ≡ true
picked_kind Selected pick fresh later = refl
picked_kind Adopted pick fresh later = later
picked_kind Plain pick fresh later = later

pub picked_fresh : (room : RoomState) (fresh : Bool) (event : Event) (pick : Pick) → fresh_after room fresh event (Picked pick) ≡ true → freshened pick.kind fresh ≡ true
picked_fresh room fresh event pick later = picked_kind pick.kind pick fresh later

left_kind : (kind : Kind) (pick : Pick) (fresh : Bool) →
    (is_some (cond (is_selected kind) (Some pick) None) || (((1 + cond (is_adopted kind) 0 1) == 0) && fresh)) ≡ true → freshened kind false ≡ true
left_kind Selected pick fresh later = refl
left_kind Adopted pick fresh later = later
left_kind Plain pick fresh later = later

-- where a task went to sleep or ended before it
pub slept_fresh : (room : RoomState) (fresh : Bool) (event : Event) (pid : ℕ) (pick : Pick) → fresh_after room fresh event (Slept pid pick) ≡ true → freshened pick.kind false ≡ true
slept_fresh room fresh event pid pick later = left_kind pick.kind pick fresh later

pub ended_fresh : (room : RoomState) (fresh : Bool) (event : Event) (pid : ℕ) (pick : Pick) → fresh_after room fresh event (Ended pid pick) ≡ true → freshened pick.kind false ≡ true
ended_fresh room fresh event pid pick later = left_kind pick.kind pick fresh later
