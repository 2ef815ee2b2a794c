use Rattle.std.proofs.Common.{rules, refl, ◌≡◌, ◌+◌, ◌%◌, ◌^◌, ◌<◌, [], ◌∷◌, ◌++◌, sym, ap, subst, ◌∙◌, Some, None}
use mathlib.Core.Option.{none}
use Rattle.atomic_table.specs.Table.{Me, Allows, step, rest}
use Rattle.std.specs.Option.{IsSome}
use Rattle.cs_types.specs.Room.{Opening}
use Rattle.cs_types.specs.Scenario.{IsEvent}
use Rattle.cs_types.specs.History.{History, IsLegal}
use Rattle.core_lock.specs.declared.view.View.TheVariants.{Idle}
use Rattle.core_lock.specs.Lists.{HasFirstSteps}
use Rattle.core_lock.specs.Board.{IsKept, passed, entry_with}
use Rattle.core_lock.proofs.Passing.{passes_on}
use Rattle.core_lock.proofs.Hands.{takes_room, same_room, put_room, after_turn}
use Rattle.core_lock.proofs.turns.make_step.Goals as goal

pub exchange-requires : goal.exchange-requires
exchange-requires g c =
    let t = c.requires.turn in (
      c.requires.table.0,
      (Some t.3, ap (λ (m : Me _ _). m.1) t.4.me ∙ ap (λ (m : Me _ _). (0, Some t.3) ∷ rest m.1) (sym t.4.me)),
    )

pub unwrap-room-requires : goal.unwrap-room-requires
unwrap-room-requires g c =
    let t = c.requires.turn in
    subst IsSome (sym (takes_room c.args.seat.now.me _ t.3 c.exchange.result t.4.me c.exchange.ensures.2)) refl

pub apply-reply-requires-clause-spare : goal.apply-reply-requires-clause-spare
apply-reply-requires-clause-spare g c =
    let t = c.requires.turn in
    let same = same_room c.exchange.result t.3 c.unwrap-room.result (takes_room c.args.seat.now.me _ t.3 c.exchange.result t.4.me c.exchange.ensures.2) c.unwrap-room.ensures in
    subst (λ room. 0 < g.R.Room.spare room) (sym same) t.4.more

pub apply-reply-requires-clause-event : goal.apply-reply-requires-clause-event
apply-reply-requires-clause-event g c =
    let t = c.requires.turn in
    let same = same_room c.exchange.result t.3 c.unwrap-room.result (takes_room c.args.seat.now.me _ t.3 c.exchange.result t.4.me c.exchange.ensures.2) c.unwrap-room.ensures in
    subst (λ (o : Opening). IsEvent o.scenario.siblings c.args.step.event) (sym (ap g.R.Room.opening same ∙ t.4.opens)) t.6

pub exchange-requires-2 : goal.exchange-requires-2
exchange-requires-2 g c =
    let t = c.requires.turn in
    let now = put_room c.args.seat.now.me c.exchange.new.seat.me _ (Some t.3) None t.4.me c.exchange.ensures.3 in (
      c.exchange.ensures.0 ∙ c.requires.table.0,
      (None, ap (λ (m : Me _ _). m.1) now ∙ ap (λ (m : Me _ _). (0, None) ∷ rest m.1) (sym now)),
    )

pub fetch_add-requires : goal.fetch_add-requires
fetch_add-requires g c =
    let top = c.args.top.now in
    let t = c.requires.turn in
    let same = same_room c.exchange.result t.3 c.unwrap-room.result (takes_room c.args.seat.now.me _ t.3 c.exchange.result t.4.me c.exchange.ensures.2) c.unwrap-room.ensures in
    let empty = put_room c.args.seat.now.me c.exchange.new.seat.me _ (Some t.3) None t.4.me c.exchange.ensures.3 in
    let now = put_room c.exchange.new.seat.me c.exchange-2.new.seat.me _ None (Some c.apply-reply.new.self) empty c.exchange-2.ensures.3 in
    let made = c.apply-reply.ensures in
    let after = after_turn g.R.Room.opening g.R.Room.history g.R.Room.spare t.0 t.1 t.2 t.3 c.unwrap-room.result c.apply-reply.new.self c.args.seat.now.me c.args.step c.apply-reply.result
    t.4 same t.5 made.entry made.opening made.spare
    in (
      c.exchange-2.ensures.0 ∙ (c.exchange.ensures.0 ∙ c.requires.table.0),
      search rules,
      subst (λ (m : Me _ _). Allows (IsKept g.R.Room.opening g.R.Room.history g.R.Room.spare top.key.value) top.table_id.slots c.exchange-2.new.seat.id m 1 (λ n. (n + 1) % 2 ^ 64)
          (passed g.R.Room.history (step top.table_id.slots 1 1 0 none) m)) (sym now)
          (passes_on g.R.Room.opening g.R.Room.history g.R.Room.spare top.key.value top.table_id.slots c.exchange-2.new.seat.id t.0 (record t.1 { seen = g.R.Room.history t.3 }) t.2 c.apply-reply.new.self
          c.args.step c.apply-reply.result after),
    )

pub returns-clause-made : goal.returns-clause-made
returns-clause-made g c begun has ticket room turn =
    let took = takes_room c.args.seat.now.me _ room c.exchange.result turn.me c.exchange.ensures.2 in
    let same = same_room c.exchange.result room c.unwrap-room.result took c.unwrap-room.ensures in
    let empty = put_room c.args.seat.now.me c.exchange.new.seat.me _ (Some room) None turn.me c.exchange.ensures.3 in
    let now = put_room c.exchange.new.seat.me c.exchange-2.new.seat.me _ None (Some c.apply-reply.new.self) empty c.exchange-2.ensures.3 in
    let made = c.apply-reply.ensures in
    let entry = entry_with c.args.step c.apply-reply.result in
    let told : g.R.Room.history c.apply-reply.new.self ≡ g.R.Room.history room ++ entry ∷ [] = made.entry ∙ ap (λ r. g.R.Room.history r ++ entry ∷ []) same in
    let opens = made.opening ∙ (ap g.R.Room.opening same ∙ turn.opens) in
    record {
      me =
          (c.fetch_add.ensures.2 begun (record has { seen = g.R.Room.history room }) ticket c.apply-reply.new.self now).0
          ∙ ap (λ (h : History). let m : Me _ _ = (Idle begun (record has { made = has.made + 1; seen = h } ∷ []), []) in m) told;
      legal = subst (λ (z : Opening × History). IsLegal z.0 z.1) (λ i. (opens i, told i)) (g.met.R.Room.legal c.apply-reply.new.self);
      first_steps = subst (HasFirstSteps begun.lists) told (c.fetch_add.ensures.2 begun (record has { seen = g.R.Room.history room }) ticket c.apply-reply.new.self now).1;
    }
