use Rattle.std.proofs.Common.{refl, ◌≡◌, ◌+◌, ◌<◌, ◌≤◌, [], length, sym, ap, subst, ◌∙◌, arith}
use Rattle.std.specs.Prelude.{All}
use Rattle.std.specs.Option.{IsSome}
use mathlib.Core.List.{IsPrefix}
use lib.ListN.{length-map}
use Rattle.cs_types.specs.History.{events_by}
use Rattle.core_lock.specs.Passes.{Lock, PassState, HasOwn}
use Rattle.core_lock.proofs.Hands.{same_room}
use Rattle.core_lock.proofs.Ending.{comes_out, left_opening, left_spare, left_seen, left_own, left_note, left_no_other}
use Rattle.core_lock.proofs.shared.Shared.finish.Goals as goal

pub joined-seat-requires-clause-some : goal.joined-seat-requires-clause-some
joined-seat-requires-clause-some g c =
    let there = c.requires.numbers 0 (subst (λ (l : Lock). 0 < length l.lists) c.self.view_is c.self.invariant.2) in
    omega (arith, there.1, length-map c.args.passes (λ (pass : PassState). pass.progress.number))

pub joined-seat-requires-clause-words : goal.joined-seat-requires-clause-words
joined-seat-requires-clause-words g c = c.self.invariant.0

pub joined-seat-requires-clause-table : goal.joined-seat-requires-clause-table
joined-seat-requires-clause-table g c k d within = ap (λ (lock : Lock). lock.table) (c.requires.lock k d within ∙ sym c.self.view_is)

pub close_with-closed-requires : goal.close_with-closed-requires
close_with-closed-requires g c = c.joined-seat.ensures.table

pub unwrap-room-requires : goal.unwrap-room-requires
unwrap-room-requires g c =
    let key = c.self.inside.board.shared.key.value in
    let table = c.self.inside.board.shared.table_id in
    let joined = c.joined-seat.ensures.all in
    let closed = c.close_with-closed in
    let out = comes_out g.R.Room.opening g.R.Room.history g.R.Room.spare key c.args.self table c.joined-seat.result.id c.joined-seat.result.me joined.0 joined.1 c.args.passes
    _ _ c.take.result c.self.view_is joined.2 joined.3 c.requires.numbers closed.ensures.values.2 c.take.ensures.value
    in
    subst IsSome (sym out.1) refl

pub returns-clause-opening : goal.returns-clause-opening
returns-clause-opening g c =
    let key = c.self.inside.board.shared.key.value in
    let table = c.self.inside.board.shared.table_id in
    let joined = c.joined-seat.ensures.all in
    let closed = c.close_with-closed in
    let out = comes_out g.R.Room.opening g.R.Room.history g.R.Room.spare key c.args.self table c.joined-seat.result.id c.joined-seat.result.me joined.0 joined.1 c.args.passes
    _ _ c.take.result c.self.view_is joined.2 joined.3 c.requires.numbers closed.ensures.values.2 c.take.ensures.value
    in
    let same = same_room c.take.result out.0 c.unwrap-room.result out.1 c.unwrap-room.ensures in
    ap g.R.Room.opening same ∙ left_opening g.R.Room.opening g.R.Room.history g.R.Room.spare key c.args.self table c.self.view_is joined.1 c.args.passes c.requires.lock joined.3 out.0 out.2

pub returns-clause-spare : goal.returns-clause-spare
returns-clause-spare g c =
    let key = c.self.inside.board.shared.key.value in
    let table = c.self.inside.board.shared.table_id in
    let joined = c.joined-seat.ensures.all in
    let closed = c.close_with-closed in
    let out = comes_out g.R.Room.opening g.R.Room.history g.R.Room.spare key c.args.self table c.joined-seat.result.id c.joined-seat.result.me joined.0 joined.1 c.args.passes
    _ _ c.take.result c.self.view_is joined.2 joined.3 c.requires.numbers closed.ensures.values.2 c.take.ensures.value
    in
    let same = same_room c.take.result out.0 c.unwrap-room.result out.1 c.unwrap-room.ensures in
    subst (λ room. g.R.Room.spare room + length (g.R.Room.history room) ≡ c.args.self.spare) (sym same) (left_spare g.R.Room.opening g.R.Room.history g.R.Room.spare key c.args.self table c.self.view_is joined.1 c.args.passes c.requires.lock joined.3 out.0 out.2)

pub returns-clause-seen : goal.returns-clause-seen
returns-clause-seen g c =
    let key = c.self.inside.board.shared.key.value in
    let table = c.self.inside.board.shared.table_id in
    let joined = c.joined-seat.ensures.all in
    let closed = c.close_with-closed in
    let out = comes_out g.R.Room.opening g.R.Room.history g.R.Room.spare key c.args.self table c.joined-seat.result.id c.joined-seat.result.me joined.0 joined.1 c.args.passes
    _ _ c.take.result c.self.view_is joined.2 joined.3 c.requires.numbers closed.ensures.values.2 c.take.ensures.value
    in
    let same = same_room c.take.result out.0 c.unwrap-room.result out.1 c.unwrap-room.ensures in
    subst (λ room. All (λ (pass : PassState). IsPrefix pass.progress.seen (g.R.Room.history room)) c.args.passes) (sym same) (left_seen g.R.Room.opening g.R.Room.history g.R.Room.spare key c.args.self table c.self.view_is joined.1 c.args.passes c.requires.lock joined.3 out.0 out.2)

pub returns-clause-own : goal.returns-clause-own
returns-clause-own g c =
    let key = c.self.inside.board.shared.key.value in
    let table = c.self.inside.board.shared.table_id in
    let joined = c.joined-seat.ensures.all in
    let closed = c.close_with-closed in
    let out = comes_out g.R.Room.opening g.R.Room.history g.R.Room.spare key c.args.self table c.joined-seat.result.id c.joined-seat.result.me joined.0 joined.1 c.args.passes
    _ _ c.take.result c.self.view_is joined.2 joined.3 c.requires.numbers closed.ensures.values.2 c.take.ensures.value
    in
    let same = same_room c.take.result out.0 c.unwrap-room.result out.1 c.unwrap-room.ensures in
    subst (λ room. All (λ (pass : PassState). HasOwn pass (g.R.Room.history room)) c.args.passes) (sym same) (left_own g.R.Room.opening g.R.Room.history g.R.Room.spare key c.args.self table c.self.view_is joined.1 c.args.passes c.requires.lock joined.3 out.0 out.2)

pub returns-clause-noted : goal.returns-clause-noted
returns-clause-noted g c =
    let key = c.self.inside.board.shared.key.value in
    let table = c.self.inside.board.shared.table_id in
    let joined = c.joined-seat.ensures.all in
    let closed = c.close_with-closed in
    let out = comes_out g.R.Room.opening g.R.Room.history g.R.Room.spare key c.args.self table c.joined-seat.result.id c.joined-seat.result.me joined.0 joined.1 c.args.passes
    _ _ c.take.result c.self.view_is joined.2 joined.3 c.requires.numbers closed.ensures.values.2 c.take.ensures.value
    in
    let same = same_room c.take.result out.0 c.unwrap-room.result out.1 c.unwrap-room.ensures in
    subst (λ room. All (λ (pass : PassState). pass.progress.note ≤ length (g.R.Room.history room)) c.args.passes) (sym same) (left_note g.R.Room.opening g.R.Room.history g.R.Room.spare key c.args.self table c.self.view_is joined.1 c.args.passes c.requires.lock joined.3 out.0 out.2)

pub returns-clause-no_other : goal.returns-clause-no_other
returns-clause-no_other g c actor other =
    let key = c.self.inside.board.shared.key.value in
    let table = c.self.inside.board.shared.table_id in
    let joined = c.joined-seat.ensures.all in
    let closed = c.close_with-closed in
    let out = comes_out g.R.Room.opening g.R.Room.history g.R.Room.spare key c.args.self table c.joined-seat.result.id c.joined-seat.result.me joined.0 joined.1 c.args.passes
    _ _ c.take.result c.self.view_is joined.2 joined.3 c.requires.numbers closed.ensures.values.2 c.take.ensures.value
    in
    let same = same_room c.take.result out.0 c.unwrap-room.result out.1 c.unwrap-room.ensures in
    subst (λ room. events_by actor (g.R.Room.history room) ≡ []) (sym same) (left_no_other g.R.Room.opening g.R.Room.history g.R.Room.spare key c.args.self table c.self.view_is joined.1 c.args.passes c.requires.lock joined.3 out.0 out.2 actor other)

pub returns-clause-legal : goal.returns-clause-legal
returns-clause-legal g c = g.met.R.Room.legal c.unwrap-room.result
