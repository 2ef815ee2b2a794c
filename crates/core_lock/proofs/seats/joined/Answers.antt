use Rattle.std.proofs.Common.{rules, ◌≡◌, [], ◌∷◌, ◌++◌, sym, ap, ◌∙◌, arith}
use Rattle.std.proofs.lemmas.List.Elements.{All-contains}
use Rattle.atomic_table.specs.Table.{Me}
use Rattle.core_lock.specs.Passes.{PassState}
use Rattle.core_lock.proofs.Going.{state_is}
use Rattle.core_lock.proofs.Coming.{joined_one, joined_more, is_one, joins_at, joined_view, all_joined}
use Rattle.core_lock.proofs.seats.joined.Goals as goal

pub loop-pass-init : goal.loop-pass-init
loop-pass-init g c =
    let seat = c.last.inside.seat in
    let p = c.last.invariant in
    let is = state_is g.R.Room.opening g.R.Room.spare seat.table_id seat.me p.begun p.has c.in-Some.last p.idle c.last.view_is in
    let split : c.args.passes ≡ c.pop.new.self.items ++ c.in-Some.last ∷ [] = sym c.into_vec-rest.ensures ∙ c.in-Some.ensures.items in
    let one = is_one c.args.passes c.args.passes c.pop.new.self.items [] c.in-Some.last (sym (Rattle.std.proofs.Common.append-nil c.args.passes)) split in
    let of = All-contains (λ (pass : PassState). pass.lock.table ≡ c.args.top.now.table_id) c.args.passes c.in-Some.last c.requires.table one in
    joined_one seat.table_id c.args.top.now.table_id seat.me c.args.passes c.pop.new.self.items c.in-Some.last p.begun p.has (sym (ap (λ (s : PassState). s.lock.table) is) ∙ of) p.idle split (ap (λ (s : PassState). s.progress) is)

pub join_seat-requires : goal.join_seat-requires
join_seat-requires g c =
    let top = c.args.top.now in
    let was = c.loop-pass.invariant in
    let seat = c.pass.inside.seat in
    let p = c.pass.invariant in
    let pass = c.in-Some-pop.pass in
    let is = state_is g.R.Room.opening g.R.Room.spare seat.table_id seat.me p.begun p.has pass p.idle c.pass.view_is in
    let one = is_one c.args.passes c.loop-pass.rest.items c.pop-in-loop-pass.new.self.items was.done pass was.split c.in-Some-pop.ensures.items in
    let of = All-contains (λ (s : PassState). s.lock.table ≡ top.table_id) c.args.passes pass c.requires.table one in (
      was.at,
      sym (ap (λ (s : PassState). s.lock.table) is) ∙ of,
      ap (λ (m : Me _ _). m.1) p.idle,
      omega (arith, c.requires.words),
      joins_at g.row.R.Denot g.R.Room.opening g.R.Room.history g.R.Room.spare top.key.value c.loop-pass.seat.id seat.id c.loop-pass.seat.me seat.me was.begun p.begun was.all p.has was.idle p.idle,
    )

pub loop-pass-preserved : goal.loop-pass-preserved
loop-pass-preserved g c =
    let top = c.args.top.now in
    let was = c.loop-pass.invariant in
    let seat = c.pass.inside.seat in
    let p = c.pass.invariant in
    let pass = c.in-Some-pop.pass in
    let is = state_is g.R.Room.opening g.R.Room.spare seat.table_id seat.me p.begun p.has pass p.idle c.pass.view_is in
    let now = joined_view c.loop-pass.seat.me seat.me c.join_seat.new.seat.me was.begun p.begun was.all p.has was.idle p.idle c.join_seat.ensures.2 in
    joined_more c.loop-pass.seat.table_id c.join_seat.new.seat.table_id top.table_id c.loop-pass.seat.me c.join_seat.new.seat.me c.args.passes c.loop-pass.rest.items c.pop-in-loop-pass.new.self.items pass p.has was
    c.join_seat.ensures.0 now c.in-Some-pop.ensures.items (ap (λ (s : PassState). s.progress) is)

pub returns-clause-all : goal.returns-clause-all
returns-clause-all g c =
    all_joined c.loop-pass.seat.table_id c.args.top.now.table_id c.loop-pass.seat.me c.args.passes c.loop-pass.rest.items c.loop-pass.invariant (search rules)
