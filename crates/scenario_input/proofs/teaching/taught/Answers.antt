use Rattle.std.proofs.Common.{◌≡◌, ℕ, suc, ◌+◌, ◌<◌, List, [], ◌∷◌, ◌++◌, take, drop, map, length, get_or, sym, ap, ◌∙◌, subst, Option, arith}
use Rattle.std.proofs.Math.Seq.{take-suc, drop-cons}
use Rattle.std.proofs.lemmas.List.{take_all, drop_all, length-map}
use Rattle.cs_types.specs.declared.scenario.Teach.{Teach}
use Rattle.cs_types.specs.Guards.{GuardList, guards_on_bench}
use Rattle.scenario_input.specs.declared.stop.Stop.{Stop}
use Rattle.scenario_input.specs.declared.stop.Stop.TheVariants.{BadGuard, OutOfMemory, ReadFault, TooLong, BadScenario}
use Rattle.scenario_input.specs.declared.stop.GuardKind.{GuardKind}
use Rattle.std.specs.Option.{option_map, option_or}
use Rattle.scenario_input.specs.Teaching.{BadTeach, bad_line, first_bad, Teaches, IsTeachStop}
use Rattle.scenario_input.proofs.FirstBad.{first_bad_after, first_bad_is}
use Rattle.scenario_input.proofs.teaching.taught.Goals as goal

-- a line with which something is wrong is the first such one, whatever follows
stops_first : (bad rest : Option BadTeach) (stop : Stop) → IsTeachStop bad stop → IsTeachStop (option_or bad rest) stop
stops_first bad rest (BadGuard at kind) is = ap (λ (one : Option BadTeach). option_or one rest) is
stops_first bad rest OutOfMemory is = tt
stops_first bad rest ReadFault is = absurd is
stops_first bad rest TooLong is = absurd is
stops_first bad rest (BadScenario at kind) is = absurd is

-- what is left of the lines, by the first of them
rest_is : (caps : List ℕ) (teaches : List Teach) (index : ℕ) (d : Teach) → index < length teaches →
    first_bad_after caps (take index teaches) (drop index teaches)
    ≡ option_or (bad_line caps (take index teaches) (get_or teaches index d))
    (first_bad_after caps (take index teaches ++ get_or teaches index d ∷ []) (drop (index + 1) teaches))
rest_is caps teaches index d below =
    let next : suc index ≡ index + 1 = omega arith in
    ap (first_bad_after caps (take index teaches)) (drop-cons teaches index d below ∙ ap (λ n. get_or teaches index d ∷ drop n teaches) next)

took : (teaches : List Teach) (index : ℕ) (d : Teach) → index < length teaches → take (index + 1) teaches ≡ take index teaches ++ get_or teaches index d ∷ []
took teaches index d below =
    let next : index + 1 ≡ suc index = omega arith in
    ap (λ n. take n teaches) next ∙ take-suc teaches index d below

-- The first line that stops is the first bad one.
stop_first : (caps each : List ℕ) (guards : GuardList) (teaches : List Teach) (index : ℕ) (d : Teach) (stop : Stop) → index < length teaches → each ≡ caps →
    guards ≡ guards_on_bench (take index teaches) (length caps) → first_bad_after caps [] teaches ≡ first_bad_after caps (take index teaches) (drop index teaches) →
    ((earlier : List Teach) → guards ≡ guards_on_bench earlier (length each) → IsTeachStop (bad_line each earlier (get_or teaches index d)) stop) →
    IsTeachStop (first_bad caps teaches) stop
stop_first caps each guards teaches index d stop below same known rest stops =
    subst (λ (bad : Option BadTeach). IsTeachStop bad stop) (sym (first_bad_is caps teaches ∙ rest ∙ rest_is caps teaches index d below))
    (stops_first (bad_line caps (take index teaches) (get_or teaches index d)) _ stop
    (subst (λ (each : List ℕ). IsTeachStop (bad_line each (take index teaches) (get_or teaches index d)) stop) same
    (stops (take index teaches) (known ∙ ap (λ (each : List ℕ). guards_on_bench (take index teaches) (length each)) (sym same)))))

-- A line that is taught leads to the next.
record GoesOn (caps : List ℕ) (guards : GuardList) (teaches : List Teach) (index : ℕ) : Type 0 where
  known : guards ≡ guards_on_bench (take index teaches) (length caps)
  rest : first_bad_after caps [] teaches ≡ first_bad_after caps (take index teaches) (drop index teaches)

goes_on : (caps each : List ℕ) (guards now : GuardList) (teaches : List Teach) (index : ℕ) (d : Teach) → index < length teaches → each ≡ caps →
    GoesOn caps guards teaches index →
    ((earlier : List Teach) → guards ≡ guards_on_bench earlier (length each) → Teaches each earlier (get_or teaches index d) now) → GoesOn caps now teaches (index + 1)
goes_on caps each guards now teaches index d below same so_far teach =
    let made = teach (take index teaches) (so_far.known ∙ ap (λ (each : List ℕ). guards_on_bench (take index teaches) (length each)) (sym same)) in
    let line = get_or teaches index d in
    record {
      known = made.guards ∙ (λ i. guards_on_bench (sym (took teaches index d below) i) (length (same i)));
      rest = so_far.rest ∙ rest_is caps teaches index d below
          ∙ ap (λ (bad : Option BadTeach). option_or bad (first_bad_after caps (take index teaches ++ line ∷ []) (drop (index + 1) teaches)))
          (ap (λ (each : List ℕ). bad_line each (take index teaches) line) (sym same)
          ∙ ap (option_map (λ (kind : GuardKind). let bad : BadTeach = record { line = line.line; kind = kind } in bad)) made.fits)
          ∙ ap (λ (earlier : List Teach). first_bad_after caps earlier (drop (index + 1) teaches)) (sym (took teaches index d below));
    }

pub returns-in-Err-clause-stop : goal.returns-in-Err-clause-stop
returns-in-Err-clause-stop g c =
    stop_first (map g.G.Guard.cap c.args.list.items) c.loop-line.guards.caps c.loop-line.guards.guards c.args.teaches.now c.loop-line.line-index _ c.in-Err.stop
    c.loop-line-test.true c.loop-line.invariant.caps c.loop-line.invariant.guards c.loop-line.invariant.rest c.in-Err.ensures.stop

pub loop-line-preserved : goal.loop-line-preserved
loop-line-preserved g c =
    let on = goes_on (map g.G.Guard.cap c.args.list.items) c.loop-line.guards.caps c.loop-line.guards.guards c.teach.new.guards.guards c.args.teaches.now c.loop-line.line-index _
    c.loop-line-test.true c.loop-line.invariant.caps (record { known = c.loop-line.invariant.guards; rest = c.loop-line.invariant.rest }) c.in_default.ensures.taught in
    record { caps = c.teach.ensures.caps ∙ c.loop-line.invariant.caps; guards = on.known; rest = on.rest }

pub returns-clause-taught : goal.returns-clause-taught
returns-clause-taught g c =
    c.loop-line.invariant.guards
    ∙ (λ i. guards_on_bench (take_all c.loop-line.line-index c.args.teaches.now c.loop-line-test.false i) ((length-map c.args.list.items g.G.Guard.cap ∙ sym c.args.list.ok.0) i))

pub returns-clause-all : goal.returns-clause-all
returns-clause-all g c =
    first_bad_is (map g.G.Guard.cap c.args.list.items) c.args.teaches.now ∙ c.loop-line.invariant.rest
    ∙ ap (first_bad_after (map g.G.Guard.cap c.args.list.items) (take c.loop-line.line-index c.args.teaches.now)) (drop_all c.loop-line.line-index c.args.teaches.now c.loop-line-test.false)
