use Rattle.std.proofs.Common.{◌≡◌, ◌+◌, ◌<◌, ℕ, Bool, cond, List, length, get_or, sym, ap, ◌∙◌, subst, arith}
use Rattle.std.proofs.lemmas.List.{with_items_is}
use Rattle.std.proofs.lemmas.List.FromFn.{length-map-range_with_len}
use Rattle.cs_types.specs.History.{fold_of}
use Rattle.run_times.specs.declared.siblings.SiblingTimes.{SiblingTimes}
use Rattle.run_times.specs.declared.by.By.TheVariants.{Cookie, Group}
use Rattle.run_times.specs.Doing.{doing_of, is_pending, some_apart, some_pending}
use Rattle.run_times.specs.Times.{spans_of}
use Rattle.run_times.specs.Sums.{sibling_times, with_span, with_stretch, Times}
use Rattle.run_times.proofs.Summed.{room_for_did, room_for_pending, times_of-advance}
use Rattle.run_times.proofs.Spans.{time_in-most, lasting-most}
use Rattle.run_times.proofs.times.RunTimes.advance.Goals as goal

pub add_to_each-requires-clause-each : goal.add_to_each-requires-clause-each
add_to_each-requires-clause-each g c =
    let opening = g.R.Room.opening c.args.room.now in
    let history = g.R.Room.history c.args.room.now in
    ap length (c.as_mut_slice.ensures.value ∙ ap (λ (t : Times). t.siblings) (c.self.view_is ∙ c.requires.times))
    ∙ length-map-range_with_len (sibling_times (spans_of opening history)) 0 opening.scenario.siblings

pub add_to_each-requires-clause-did : goal.add_to_each-requires-clause-did
add_to_each-requires-clause-did g c =
    let opening = g.R.Room.opening c.args.room.now in
    let history = g.R.Room.history c.args.room.now in
    let total = ap (λ (t : Times). t.total) c.requires.times in
    room_for_did opening.scenario.siblings (spans_of opening history) c.as_mut_slice.result.now c.args.time _
    (c.as_mut_slice.ensures.value ∙ ap (λ (t : Times). t.siblings) (c.self.view_is ∙ c.requires.times)) (omega (arith, total, c.requires.fits))

pub add_to_each-requires-clause-pending : goal.add_to_each-requires-clause-pending
add_to_each-requires-clause-pending g c =
    let opening = g.R.Room.opening c.args.room.now in
    let history = g.R.Room.history c.args.room.now in
    let total = ap (λ (t : Times). t.total) c.requires.times in
    room_for_pending opening.scenario.siblings (spans_of opening history) c.as_mut_slice.result.now c.args.time _
    (c.as_mut_slice.ensures.value ∙ ap (λ (t : Times). t.siblings) (c.self.view_is ∙ c.requires.times)) (omega (arith, total, c.requires.fits))

pub add-requires-clause-all : goal.add-requires-clause-all
add-requires-clause-all g c =
    let spans = spans_of (g.R.Room.opening c.args.room.now) (g.R.Room.history c.args.room.now) in
    let total = ap (λ (t : Times). t.total) c.requires.times in
    let exposed = ap (λ (t : Times). t.exposed.all) (c.self.view_is ∙ c.requires.times) in
    omega (arith, total, exposed, time_in-most (some_apart Cookie) spans, c.requires.fits)

pub add-requires-clause-lasting : goal.add-requires-clause-lasting
add-requires-clause-lasting g c =
    let spans = spans_of (g.R.Room.opening c.args.room.now) (g.R.Room.history c.args.room.now) in
    let total = ap (λ (t : Times). t.total) c.requires.times in
    let lasting = ap (λ (t : Times). t.exposed.lasting) (c.self.view_is ∙ c.requires.times) in
    omega (arith, total, lasting, lasting-most (some_apart Cookie) spans, c.requires.fits)

pub add-requires-2-clause-all : goal.add-requires-2-clause-all
add-requires-2-clause-all g c =
    let spans = spans_of (g.R.Room.opening c.args.room.now) (g.R.Room.history c.args.room.now) in
    let total = ap (λ (t : Times). t.total) c.requires.times in
    let mixed = ap (λ (t : Times). t.mixed.all) (c.self.view_is ∙ c.requires.times) in
    omega (arith, total, mixed, time_in-most (some_apart Group) spans, c.requires.fits)

pub add-requires-2-clause-lasting : goal.add-requires-2-clause-lasting
add-requires-2-clause-lasting g c =
    let spans = spans_of (g.R.Room.opening c.args.room.now) (g.R.Room.history c.args.room.now) in
    let total = ap (λ (t : Times). t.total) c.requires.times in
    let lasting = ap (λ (t : Times). t.mixed.lasting) (c.self.view_is ∙ c.requires.times) in
    omega (arith, total, lasting, lasting-most (some_apart Group) spans, c.requires.fits)

pub add_if-requires : goal.add_if-requires
add_if-requires g c =
    let spans = spans_of (g.R.Room.opening c.args.room.now) (g.R.Room.history c.args.room.now) in
    let total = ap (λ (t : Times). t.total) c.requires.times in
    let pending = ap (λ (t : Times). t.pending) (c.self.view_is ∙ c.requires.times) in
    omega (arith, total, pending, time_in-most some_pending spans, c.requires.fits)

pub returns : goal.returns
returns g c = λ entry is.
    let opening = g.R.Room.opening c.args.room.now in
    let history = g.R.Room.history c.args.room.now in
    let room = fold_of opening history in
    let inside = c.self.inside in
    let old : Times = record { siblings = inside.siblings.items; exposed = inside.exposed; mixed = inside.mixed; pending = inside.pending; total = inside.total } in
    let long : length c.add_to_each.new.siblings ≡ length inside.siblings.items = omega (arith, ap length c.as_mut_slice.ensures.value, c.add_to_each.auto.siblings) in
    let kept = with_items_is inside.siblings c.add_to_each.new.siblings (long ∙ sym inside.siblings.ok.0) in
    let with : List SiblingTimes → Times =
    λ siblings. record { siblings = siblings; exposed = c.add.new.self; mixed = c.add-2.new.self; pending = c.add_if.new.sum; total = inside.total + c.args.time } in
    ap with kept
    ∙ times_of-advance opening history c.args.time old c.add_to_each.new.siblings c.add.new.self c.add-2.new.self c.add_if.new.sum entry is
    (c.self.view_is ∙ c.requires.times) long
    (subst
    (λ (xs : List SiblingTimes). (cpu : ℕ) (none : SiblingTimes) → cpu < length xs →
    get_or c.add_to_each.new.siblings cpu none ≡ with_span (doing_of room cpu) (is_pending room cpu) c.args.time (get_or xs cpu none))
    c.as_mut_slice.ensures.value c.add_to_each.ensures)
    (c.add.ensures ∙ ap (λ (b : Bool). with_stretch b c.args.time inside.exposed) c.some_apart.ensures)
    (c.add-2.ensures ∙ ap (λ (b : Bool). with_stretch b c.args.time inside.mixed) c.some_apart-2.ensures)
    (c.add_if.ensures ∙ ap (λ (b : Bool). cond b (inside.pending + c.args.time) inside.pending) c.some_pending.ensures)
