-- Summed: the times of a history, with one advance more.
use Rattle.std.proofs.Common.{◌≡◌, ℕ, ◌+◌, ◌<◌, ◌≤◌, cond, List, [], ◌∷◌, ◌++◌, map, length, get_or, sym, ap, ◌∙◌, zero-add, arith}
use Rattle.std.specs.Prelude.{max, replicate, Some, None}
use Rattle.std.specs.List.{range_with_len}
use Rattle.std.proofs.lemmas.List.{length-replicate, get_or-replicate}
use Rattle.std.proofs.lemmas.List.FromFn.{fill_by_all, get_or-map-range_with_len, length-map-range_with_len}
use Rattle.cs_types.specs.declared.reply.Entry.{Entry}
use Rattle.cs_types.specs.Room.{Opening, RoomState}
use Rattle.cs_types.specs.History.{History, fold_of}
use Rattle.run_times.specs.declared.siblings.SiblingTimes.{SiblingTimes}
use Rattle.run_times.specs.declared.by.By.{By}
use Rattle.run_times.specs.declared.by.By.TheVariants.{Cookie, Group}
use Rattle.run_times.specs.declared.side_by_side.SideBySide.{SideBySide}
use Rattle.run_times.specs.Doing.{doing_of, is_pending, some_pending, some_apart}
use Rattle.run_times.specs.Times.{Span, advance_of, spans_of, total_time, time_in, longest}
use Rattle.run_times.specs.Sums.{sibling_times, did, with_span, side_by_side, with_stretch, Times, times_in, times_of}
use Rattle.run_times.proofs.Spans.{one_span, spans_of-advance, spans_of-still, total_time-push, time_in-push, lasting-push, longest-push, time_in-most, sibling_times-push, did-sibling_times}

siblings-push : (n : ℕ) (spans : List Span) (room : RoomState) (time : ℕ) (old new : List SiblingTimes) → old ≡ map (sibling_times spans) (range_with_len 0 n) →
    length new ≡ length old →
    ((cpu : ℕ) (none : SiblingTimes) → cpu < length old → get_or new cpu none ≡ with_span (doing_of room cpu) (is_pending room cpu) time (get_or old cpu none)) →
    new ≡ map (sibling_times (spans ++ one_span room time)) (range_with_len 0 n)
siblings-push n spans room time old new was long each =
    let many : length old ≡ n = ap length was ∙ length-map-range_with_len (sibling_times spans) 0 n in
    let none = sibling_times [] 0 in
    fill_by_all (sibling_times (spans ++ one_span room time)) new n none (long ∙ many)
    (λ k below.
    each k none (omega (arith, many, below))
    ∙ ap (with_span (doing_of room k) (is_pending room k) time)
    (ap (λ (xs : List SiblingTimes). get_or xs k none) was ∙ get_or-map-range_with_len (sibling_times spans) 0 n k k none below (zero-add k))
    ∙ sym (sibling_times-push spans room time k))

-- the times of one of them
sibling_at : (n : ℕ) (spans : List Span) (old : List SiblingTimes) → old ≡ map (sibling_times spans) (range_with_len 0 n) →
    (k : ℕ) (none : SiblingTimes) → k < length old → get_or old k none ≡ sibling_times spans k
sibling_at n spans old was k none few =
    let many : length old ≡ n = ap length was ∙ length-map-range_with_len (sibling_times spans) 0 n in
    ap (λ (xs : List SiblingTimes). get_or xs k none) was
    ∙ get_or-map-range_with_len (sibling_times spans) 0 n k k none (omega (arith, many, few)) (zero-add k)

-- where all time has room for more, so has what each did, and how long it was pending
pub room_for_did : (n : ℕ) (spans : List Span) (old : List SiblingTimes) (time most : ℕ) → old ≡ map (sibling_times spans) (range_with_len 0 n) →
    total_time spans + time ≤ most → (k : ℕ) (none : SiblingTimes) → k < length old → did (get_or old k none) + time ≤ most
room_for_did n spans old time most was fits k none few =
    let same : did (get_or old k none) ≡ did (sibling_times spans k) = ap did (sibling_at n spans old was k none few) in
    omega (arith, same, did-sibling_times spans k, fits)

pub room_for_pending : (n : ℕ) (spans : List Span) (old : List SiblingTimes) (time most : ℕ) → old ≡ map (sibling_times spans) (range_with_len 0 n) →
    total_time spans + time ≤ most → (k : ℕ) (none : SiblingTimes) → k < length old → (get_or old k none).pending + time ≤ most
room_for_pending n spans old time most was fits k none few =
    let same : (get_or old k none).pending ≡ time_in (λ room. is_pending room k) spans = ap (λ (t : SiblingTimes). t.pending) (sibling_at n spans old was k none few) in
    omega (arith, same, time_in-most (λ room. is_pending room k) spans, fits)

-- the times before the first advance
pub times_in-none : (n : ℕ) (none : SiblingTimes) (exposed mixed : SideBySide) (items : List SiblingTimes) → ((cpu : ℕ) → none ≡ sibling_times [] cpu) →
    ((by : By) → exposed ≡ side_by_side by []) → ((by : By) → mixed ≡ side_by_side by []) → items ≡ replicate n none →
    record { siblings = items; exposed = exposed; mixed = mixed; pending = 0; total = 0 } ≡ times_in n []
times_in-none n none exposed mixed items zero unexposed unmixed is =
    let siblings = is ∙ fill_by_all (sibling_times []) (replicate n none) n none (length-replicate n none) (λ k below. get_or-replicate n k none none below ∙ zero k) in
    (λ i. record { siblings = siblings i; exposed = unexposed Cookie i; mixed = unmixed Group i; pending = 0; total = 0 })

-- what runs side by side, with an advance more
pub side_by_side-push : (by : By) (spans : List Span) (room : RoomState) (time : ℕ) →
    with_stretch (some_apart by room) time (side_by_side by spans) ≡ side_by_side by (spans ++ one_span room time)
side_by_side-push by spans room time =
    let all = sym (time_in-push (some_apart by) spans room time) in
    let lasts = sym (lasting-push (some_apart by) spans room time) in
    let most = ap (λ (n : ℕ). max (longest (some_apart by) spans) n) lasts ∙ sym (longest-push (some_apart by) spans room time) in
    (λ i. record { all = all i; lasting = lasts i; longest = most i })

-- the times with an advance more
pub times_of-advance : (opening : Opening) (history : History) (time : ℕ) (old : Times) (siblings : List SiblingTimes) (exposed mixed : SideBySide) (pending : ℕ) (entry : Entry) →
    advance_of entry.event ≡ Some time →
    let room = fold_of opening history in
    old ≡ times_of opening history → length siblings ≡ length old.siblings →
    ((cpu : ℕ) (none : SiblingTimes) → cpu < length old.siblings → get_or siblings cpu none ≡ with_span (doing_of room cpu) (is_pending room cpu) time (get_or old.siblings cpu none)) →
    exposed ≡ with_stretch (some_apart Cookie room) time old.exposed → mixed ≡ with_stretch (some_apart Group room) time old.mixed →
    pending ≡ cond (some_pending room) (old.pending + time) old.pending →
    record { siblings = siblings; exposed = exposed; mixed = mixed; pending = pending; total = old.total + time } ≡ times_of opening (history ++ entry ∷ [])
times_of-advance opening history time old siblings exposed mixed pending entry is was long each exposes mixes pends =
    let room = fold_of opening history in
    let spans = spans_of opening history in
    let sibs = siblings-push opening.scenario.siblings spans room time old.siblings siblings (ap (λ (t : Times). t.siblings) was) long each in
    let by_cookie = exposes ∙ ap (with_stretch (some_apart Cookie room) time) (ap (λ (t : Times). t.exposed) was) ∙ side_by_side-push Cookie spans room time in
    let by_group = mixes ∙ ap (with_stretch (some_apart Group room) time) (ap (λ (t : Times). t.mixed) was) ∙ side_by_side-push Group spans room time in
    let waited = pends ∙ ap (λ (n : ℕ). cond (some_pending room) (n + time) n) (ap (λ (t : Times). t.pending) was) ∙ sym (time_in-push some_pending spans room time) in
    let all = ap (λ (n : ℕ). n + time) (ap (λ (t : Times). t.total) was) ∙ sym (total_time-push spans room time) in
    (λ i. record { siblings = sibs i; exposed = by_cookie i; mixed = by_group i; pending = waited i; total = all i })
    ∙ ap (times_in opening.scenario.siblings) (sym (spans_of-advance opening history entry time is))

-- and with any other entry more
pub times_of-still : (opening : Opening) (history : History) (entry : Entry) → advance_of entry.event ≡ None →
    times_of opening history ≡ times_of opening (history ++ entry ∷ [])
times_of-still opening history entry is = ap (times_in opening.scenario.siblings) (sym (spans_of-still opening history entry is))
