use Rattle.std.proofs.Common.{refl, ◌≡◌, ◌+◌, [], ◌∷◌, ◌++◌, sym, ap, subst, ◌∙◌, Some}
use Rattle.std.specs.Prelude.{slice_get}
use Rattle.core_lock.specs.Lists.{list_at}
use Rattle.core_lock.specs.Board.{entry_with}
use Rattle.core_lock.specs.Passes.{PassState, list_of, lock_of, pass_of}
use Rattle.core_lock.proofs.Going.{state_is, same_table, goes_on, tells_next, own_is, legal_is, first_steps_is, is_event, one_more_fits}
use Rattle.std.proofs.lemmas.Option.{slice_get_within}
use Rattle.core_lock.proofs.shared.Shared.call.Goals as goal

pub draw-ticket-requires-clause-table : goal.draw-ticket-requires-clause-table
draw-ticket-requires-clause-table g c =
    let top = c.self.inside.board.shared in
    let seat = c.pass.inside.seat in
    let p = c.pass.invariant in
    let is = state_is g.R.Room.opening g.R.Room.spare seat.table_id seat.me p.begun p.has c.args.pass.now p.idle c.pass.view_is in
    let next : slice_get (list_at p.begun.lists p.has.number) p.has.made ≡ Some c.in-Some.step =
    subst (λ (s : PassState). slice_get (list_of s) s.progress.made ≡ Some c.in-Some.step) is (sym c.next_step.ensures ∙ c.in-Some.is)
    in
    let same = same_table g.R.Room.opening g.R.Room.spare seat.table_id top.table_id p.begun top.key.value p.has c.args.pass.now c.args.self.now is c.self.view_is c.requires.lock in
    (same, ap (λ t. t.words) same ∙ c.self.invariant.0, ap (λ t. t.slots) same ∙ c.self.invariant.1)

pub draw-ticket-requires-clause-ready : goal.draw-ticket-requires-clause-ready
draw-ticket-requires-clause-ready g c =
    let seat = c.pass.inside.seat in
    let p = c.pass.invariant in
    let is = state_is g.R.Room.opening g.R.Room.spare seat.table_id seat.me p.begun p.has c.args.pass.now p.idle c.pass.view_is in
    let next : slice_get (list_at p.begun.lists p.has.number) p.has.made ≡ Some c.in-Some.step =
    subst (λ (s : PassState). slice_get (list_of s) s.progress.made ≡ Some c.in-Some.step) is (sym c.next_step.ensures ∙ c.in-Some.is)
    in
    (p.begun, p.has, p.idle, slice_get_within (list_at p.begun.lists p.has.number) p.has.made c.in-Some.step next)

pub take_turn-requires-clause-waits : goal.take_turn-requires-clause-waits
take_turn-requires-clause-waits g c =
    let p = c.pass.invariant in
    (p.begun, p.has, c.draw-ticket.ensures.drawn p.begun p.has p.idle)

pub make_step-reply-requires-clause-turn : goal.make_step-reply-requires-clause-turn
make_step-reply-requires-clause-turn g c =
    let seat = c.pass.inside.seat in
    let p = c.pass.invariant in
    let is = state_is g.R.Room.opening g.R.Room.spare seat.table_id seat.me p.begun p.has c.args.pass.now p.idle c.pass.view_is in
    let next : slice_get (list_at p.begun.lists p.has.number) p.has.made ≡ Some c.in-Some.step =
    subst (λ (s : PassState). slice_get (list_of s) s.progress.made ≡ Some c.in-Some.step) is (sym c.next_step.ensures ∙ c.in-Some.is)
    in
    let drawn = c.draw-ticket.ensures.drawn p.begun p.has p.idle in
    let turn = c.take_turn.ensures.turn p.begun p.has drawn in
    (p.begun, p.has, c.draw-ticket.result, turn.0, turn.1, next, is_event g.R.Room.opening g.R.Room.spare seat.me c.pass.inside.steps c.pass.inside.made p c.in-Some.step next)

pub overflow_add-pass : goal.overflow_add-pass
overflow_add-pass g c =
    let seat = c.pass.inside.seat in
    let p = c.pass.invariant in
    let is = state_is g.R.Room.opening g.R.Room.spare seat.table_id seat.me p.begun p.has c.args.pass.now p.idle c.pass.view_is in
    let next : slice_get (list_at p.begun.lists p.has.number) p.has.made ≡ Some c.in-Some.step =
    subst (λ (s : PassState). slice_get (list_of s) s.progress.made ≡ Some c.in-Some.step) is (sym c.next_step.ensures ∙ c.in-Some.is)
    in
    record { fits = one_more_fits g.R.Room.opening g.R.Room.spare seat.me c.pass.inside.steps c.pass.inside.made p c.in-Some.step next }

pub invariant_of-pass : goal.invariant_of-pass
invariant_of-pass g c =
    let seat = c.pass.inside.seat in
    let p = c.pass.invariant in
    let is = state_is g.R.Room.opening g.R.Room.spare seat.table_id seat.me p.begun p.has c.args.pass.now p.idle c.pass.view_is in
    let next : slice_get (list_at p.begun.lists p.has.number) p.has.made ≡ Some c.in-Some.step =
    subst (λ (s : PassState). slice_get (list_of s) s.progress.made ≡ Some c.in-Some.step) is (sym c.next_step.ensures ∙ c.in-Some.is)
    in
    let drawn = c.draw-ticket.ensures.drawn p.begun p.has p.idle in
    let turn = c.take_turn.ensures.turn p.begun p.has drawn in
    let made = c.make_step-reply.ensures.made p.begun p.has c.draw-ticket.result turn.0 turn.1 in
    let after = goes_on g.R.Room.opening g.R.Room.history g.R.Room.spare seat.me c.take_turn.new.seat.me c.make_step-reply.new.seat.me c.pass.inside.steps c.pass.inside.made
    c.draw-ticket.result turn.0 c.in-Some.step c.make_step-reply.result p turn.1 next made
    in
    after

pub returns-clause-made : goal.returns-clause-made
returns-clause-made g c =
    let seat = c.pass.inside.seat in
    let p = c.pass.invariant in
    let is = state_is g.R.Room.opening g.R.Room.spare seat.table_id seat.me p.begun p.has c.args.pass.now p.idle c.pass.view_is in
    let next : slice_get (list_at p.begun.lists p.has.number) p.has.made ≡ Some c.in-Some.step =
    subst (λ (s : PassState). slice_get (list_of s) s.progress.made ≡ Some c.in-Some.step) is (sym c.next_step.ensures ∙ c.in-Some.is)
    in
    let drawn = c.draw-ticket.ensures.drawn p.begun p.has p.idle in
    let turn = c.take_turn.ensures.turn p.begun p.has drawn in
    let made = c.make_step-reply.ensures.made p.begun p.has c.draw-ticket.result turn.0 turn.1 in
    let after = goes_on g.R.Room.opening g.R.Room.history g.R.Room.spare seat.me c.take_turn.new.seat.me c.make_step-reply.new.seat.me c.pass.inside.steps c.pass.inside.made
    c.draw-ticket.result turn.0 c.in-Some.step c.make_step-reply.result p turn.1 next made
    in
    let tables = c.make_step-reply.ensures.table ∙ (c.take_turn.ensures.table ∙ c.draw-ticket.ensures.table) in
    let now = pass_of g.R.Room.opening g.R.Room.spare c.make_step-reply.new.seat.table_id c.make_step-reply.new.seat.me.0 in
    let now_is = state_is g.R.Room.opening g.R.Room.spare c.make_step-reply.new.seat.table_id c.make_step-reply.new.seat.me after.begun after.has now after.idle refl in
    tells_next g.R.Room.opening g.R.Room.history g.R.Room.spare seat.table_id p.begun p.has c.args.pass.now now c.take_turn.new.seat.me c.make_step-reply.new.seat.me c.draw-ticket.result turn.0
    c.in-Some.step c.make_step-reply.result is turn.1 next made
    (ap (λ table. pass_of g.R.Room.opening g.R.Room.spare table c.make_step-reply.new.seat.me.0) (sym tables))

pub returns-clause-legal : goal.returns-clause-legal
returns-clause-legal g c =
    let seat = c.pass.inside.seat in
    let p = c.pass.invariant in
    let is = state_is g.R.Room.opening g.R.Room.spare seat.table_id seat.me p.begun p.has c.args.pass.now p.idle c.pass.view_is in
    let next : slice_get (list_at p.begun.lists p.has.number) p.has.made ≡ Some c.in-Some.step =
    subst (λ (s : PassState). slice_get (list_of s) s.progress.made ≡ Some c.in-Some.step) is (sym c.next_step.ensures ∙ c.in-Some.is)
    in
    let drawn = c.draw-ticket.ensures.drawn p.begun p.has p.idle in
    let turn = c.take_turn.ensures.turn p.begun p.has drawn in
    let made = c.make_step-reply.ensures.made p.begun p.has c.draw-ticket.result turn.0 turn.1 in
    let after = goes_on g.R.Room.opening g.R.Room.history g.R.Room.spare seat.me c.take_turn.new.seat.me c.make_step-reply.new.seat.me c.pass.inside.steps c.pass.inside.made
    c.draw-ticket.result turn.0 c.in-Some.step c.make_step-reply.result p turn.1 next made
    in
    let tables = c.make_step-reply.ensures.table ∙ (c.take_turn.ensures.table ∙ c.draw-ticket.ensures.table) in
    let now = pass_of g.R.Room.opening g.R.Room.spare c.make_step-reply.new.seat.table_id c.make_step-reply.new.seat.me.0 in
    let now_is = state_is g.R.Room.opening g.R.Room.spare c.make_step-reply.new.seat.table_id c.make_step-reply.new.seat.me after.begun after.has now after.idle refl in
    legal_is g.R.Room.opening g.R.Room.spare c.make_step-reply.new.seat.table_id c.make_step-reply.new.seat.me c.pass.inside.steps (c.pass.inside.made + 1) after now now_is

pub returns-clause-own : goal.returns-clause-own
returns-clause-own g c =
    let seat = c.pass.inside.seat in
    let p = c.pass.invariant in
    let is = state_is g.R.Room.opening g.R.Room.spare seat.table_id seat.me p.begun p.has c.args.pass.now p.idle c.pass.view_is in
    let next : slice_get (list_at p.begun.lists p.has.number) p.has.made ≡ Some c.in-Some.step =
    subst (λ (s : PassState). slice_get (list_of s) s.progress.made ≡ Some c.in-Some.step) is (sym c.next_step.ensures ∙ c.in-Some.is)
    in
    let drawn = c.draw-ticket.ensures.drawn p.begun p.has p.idle in
    let turn = c.take_turn.ensures.turn p.begun p.has drawn in
    let made = c.make_step-reply.ensures.made p.begun p.has c.draw-ticket.result turn.0 turn.1 in
    let after = goes_on g.R.Room.opening g.R.Room.history g.R.Room.spare seat.me c.take_turn.new.seat.me c.make_step-reply.new.seat.me c.pass.inside.steps c.pass.inside.made
    c.draw-ticket.result turn.0 c.in-Some.step c.make_step-reply.result p turn.1 next made
    in
    let tables = c.make_step-reply.ensures.table ∙ (c.take_turn.ensures.table ∙ c.draw-ticket.ensures.table) in
    let now = pass_of g.R.Room.opening g.R.Room.spare c.make_step-reply.new.seat.table_id c.make_step-reply.new.seat.me.0 in
    let now_is = state_is g.R.Room.opening g.R.Room.spare c.make_step-reply.new.seat.table_id c.make_step-reply.new.seat.me after.begun after.has now after.idle refl in
    own_is g.R.Room.opening g.R.Room.spare c.make_step-reply.new.seat.table_id c.make_step-reply.new.seat.me c.pass.inside.steps (c.pass.inside.made + 1) after now now_is

pub returns-clause-first_steps : goal.returns-clause-first_steps
returns-clause-first_steps g c =
    let seat = c.pass.inside.seat in
    let p = c.pass.invariant in
    let is = state_is g.R.Room.opening g.R.Room.spare seat.table_id seat.me p.begun p.has c.args.pass.now p.idle c.pass.view_is in
    let next : slice_get (list_at p.begun.lists p.has.number) p.has.made ≡ Some c.in-Some.step =
    subst (λ (s : PassState). slice_get (list_of s) s.progress.made ≡ Some c.in-Some.step) is (sym c.next_step.ensures ∙ c.in-Some.is)
    in
    let drawn = c.draw-ticket.ensures.drawn p.begun p.has p.idle in
    let turn = c.take_turn.ensures.turn p.begun p.has drawn in
    let made = c.make_step-reply.ensures.made p.begun p.has c.draw-ticket.result turn.0 turn.1 in
    let after = goes_on g.R.Room.opening g.R.Room.history g.R.Room.spare seat.me c.take_turn.new.seat.me c.make_step-reply.new.seat.me c.pass.inside.steps c.pass.inside.made
    c.draw-ticket.result turn.0 c.in-Some.step c.make_step-reply.result p turn.1 next made
    in
    let tables = c.make_step-reply.ensures.table ∙ (c.take_turn.ensures.table ∙ c.draw-ticket.ensures.table) in
    let now = pass_of g.R.Room.opening g.R.Room.spare c.make_step-reply.new.seat.table_id c.make_step-reply.new.seat.me.0 in
    let now_is = state_is g.R.Room.opening g.R.Room.spare c.make_step-reply.new.seat.table_id c.make_step-reply.new.seat.me after.begun after.has now after.idle refl in
    first_steps_is g.R.Room.opening g.R.Room.spare c.make_step-reply.new.seat.table_id c.make_step-reply.new.seat.me c.pass.inside.steps (c.pass.inside.made + 1) after now now_is

pub returns-clause-lock : goal.returns-clause-lock
returns-clause-lock g c =
    let seat = c.pass.inside.seat in
    let p = c.pass.invariant in
    let is = state_is g.R.Room.opening g.R.Room.spare seat.table_id seat.me p.begun p.has c.args.pass.now p.idle c.pass.view_is in
    let next : slice_get (list_at p.begun.lists p.has.number) p.has.made ≡ Some c.in-Some.step =
    subst (λ (s : PassState). slice_get (list_of s) s.progress.made ≡ Some c.in-Some.step) is (sym c.next_step.ensures ∙ c.in-Some.is)
    in
    let drawn = c.draw-ticket.ensures.drawn p.begun p.has p.idle in
    let turn = c.take_turn.ensures.turn p.begun p.has drawn in
    let made = c.make_step-reply.ensures.made p.begun p.has c.draw-ticket.result turn.0 turn.1 in
    let tables = c.make_step-reply.ensures.table ∙ (c.take_turn.ensures.table ∙ c.draw-ticket.ensures.table) in
    let now = pass_of g.R.Room.opening g.R.Room.spare c.make_step-reply.new.seat.table_id c.make_step-reply.new.seat.me.0 in
    let now_is = state_is g.R.Room.opening g.R.Room.spare c.make_step-reply.new.seat.table_id c.make_step-reply.new.seat.me p.begun
    (record p.has { made = p.has.made + 1; seen = g.R.Room.history turn.0 ++ entry_with c.in-Some.step c.make_step-reply.result ∷ [] }) now made.me refl
    in
    ap (λ (s : PassState). s.lock) now_is
    ∙ (ap (λ table. lock_of g.R.Room.opening g.R.Room.spare table p.begun) tables
    ∙ sym (ap (λ (s : PassState). s.lock) is))

pub returns-clause-number : goal.returns-clause-number
returns-clause-number g c =
    let seat = c.pass.inside.seat in
    let p = c.pass.invariant in
    let is = state_is g.R.Room.opening g.R.Room.spare seat.table_id seat.me p.begun p.has c.args.pass.now p.idle c.pass.view_is in
    let next : slice_get (list_at p.begun.lists p.has.number) p.has.made ≡ Some c.in-Some.step =
    subst (λ (s : PassState). slice_get (list_of s) s.progress.made ≡ Some c.in-Some.step) is (sym c.next_step.ensures ∙ c.in-Some.is)
    in
    let drawn = c.draw-ticket.ensures.drawn p.begun p.has p.idle in
    let turn = c.take_turn.ensures.turn p.begun p.has drawn in
    let made = c.make_step-reply.ensures.made p.begun p.has c.draw-ticket.result turn.0 turn.1 in
    let tables = c.make_step-reply.ensures.table ∙ (c.take_turn.ensures.table ∙ c.draw-ticket.ensures.table) in
    let now = pass_of g.R.Room.opening g.R.Room.spare c.make_step-reply.new.seat.table_id c.make_step-reply.new.seat.me.0 in
    let now_is = state_is g.R.Room.opening g.R.Room.spare c.make_step-reply.new.seat.table_id c.make_step-reply.new.seat.me p.begun
    (record p.has { made = p.has.made + 1; seen = g.R.Room.history turn.0 ++ entry_with c.in-Some.step c.make_step-reply.result ∷ [] }) now made.me refl
    in
    ap (λ (s : PassState). s.progress.number) now_is ∙ sym (ap (λ (s : PassState). s.progress.number) is)

pub returns-in_default-clause-legal : goal.returns-in_default-clause-legal
returns-in_default-clause-legal g c =
    let seat = c.pass.inside.seat in
    let p = c.pass.invariant in
    let is = state_is g.R.Room.opening g.R.Room.spare seat.table_id seat.me p.begun p.has c.args.pass.now p.idle c.pass.view_is in
    legal_is g.R.Room.opening g.R.Room.spare seat.table_id seat.me c.pass.inside.steps c.pass.inside.made p c.args.pass.now is

pub returns-in_default-clause-own : goal.returns-in_default-clause-own
returns-in_default-clause-own g c =
    let seat = c.pass.inside.seat in
    let p = c.pass.invariant in
    let is = state_is g.R.Room.opening g.R.Room.spare seat.table_id seat.me p.begun p.has c.args.pass.now p.idle c.pass.view_is in
    own_is g.R.Room.opening g.R.Room.spare seat.table_id seat.me c.pass.inside.steps c.pass.inside.made p c.args.pass.now is

pub returns-in_default-clause-first_steps : goal.returns-in_default-clause-first_steps
returns-in_default-clause-first_steps g c =
    let seat = c.pass.inside.seat in
    let p = c.pass.invariant in
    let is = state_is g.R.Room.opening g.R.Room.spare seat.table_id seat.me p.begun p.has c.args.pass.now p.idle c.pass.view_is in
    first_steps_is g.R.Room.opening g.R.Room.spare seat.table_id seat.me c.pass.inside.steps c.pass.inside.made p c.args.pass.now is
