use Rattle.std.proofs.Common.{rules, ◌≡◌, ◌↔◌, ◌∙◌, ◌+◌, ℕ, List, Err, sym, ap, subst, map, length, arith}
use Rattle.std.proofs.lemmas.List.{length-map}
use Rattle.std.proofs.lemmas.Result.{err_from_is_err_and}
use Rattle.cs_types.specs.declared.scenario.Teach.{Teach}
use Rattle.cs_types.specs.Room.{Opening}
use Rattle.scenario_input.specs.Teaching.{first_bad, IsTeachStop}
use Rattle.scenario_text.specs.Text.{scenario_text}
use Rattle.trace_check.specs.declared.verdict.Verdict.TheVariants.{Yes}
use Rattle.trace_check.specs.Lines.{lines_of}
use Rattle.trace_check.specs.Verdicts.{IsPrinted, IsVerdict}
use Rattle.scenario_runner.specs.Outcomes.{opened_with}
use Rattle.scenario_runner.proofs.Checking.{parted, part_few, untaught_run}
use Rattle.scenario_runner.proofs.Openings.{bench_is, opening_is}
use Rattle.scenario_runner.proofs.checked.judged.Goals as goal

-- A teach line could not be carried out.
pub returns-in_err-guards : goal.returns-in_err-guards
returns-in_err-guards g c =
    let caps = map g.G.Guard.cap c.args.guards.items in
    let stop = err_from_is_err_and c.from_residual-in_err-guards.result c.from_residual-in_err-guards.ensures.1 in
    let why = subst (λ (teaches : List Teach). IsTeachStop (first_bad caps teaches) c.in_err-guards.field-0.0) c.items.ensures c.in_err-guards.ensures.stop in
    let parts = parted c.in_ok-scenario.scenario _ _ _ c.in_ok-scenario.ensures.found c.in_ok-scenario.ensures.one c.split_input.ensures.scenario c.split_input.ensures.run in
    rw (stop.1 ∙ ap Err stop.2) (untaught_run caps c.in_ok-scenario.scenario _ c.args.input.now c.in_err-guards.field-0.0 parts why)

pub overflow_cast-first : goal.overflow_cast-first
overflow_cast-first g c =
    let few = c.requires.few in
    let parts = part_few _ _ _ c.split_input.ensures.scenario c.split_input.ensures.run in
    let count = c.line_count.ensures in
    omega (arith, few, parts, count)

pub overflow_add-first : goal.overflow_add-first
overflow_add-first g c =
    let few = c.requires.few in
    let parts = part_few _ _ _ c.split_input.ensures.scenario c.split_input.ensures.run in
    let count = c.line_count.ensures in
    omega (arith, few, parts, count)

pub judge-requires-clause-start : goal.judge-requires-clause-start
judge-requires-clause-start g c =
    record { playable = search rules; on_bench = bench_is _ _ _ _ c.in_ok-guards.ensures.taught c.items.ensures }

pub judge-requires-clause-lines : goal.judge-requires-clause-lines
judge-requires-clause-lines g c =
    let few = c.requires.few in
    let parts = part_few _ _ _ c.split_input.ensures.scenario c.split_input.ensures.run in
    let count = c.line_count.ensures in
    omega (arith, few, parts, count)

-- It was judged.
pub returns : goal.returns
returns g c =
    let caps = map g.G.Guard.cap c.args.guards.items in
    let scenario = c.in_ok-scenario.scenario in
    let run = c.split_input.result.1.now in
    let found = c.in_ok-scenario.ensures.found in
    let verdict = c.in_ok-verdict.verdict in
    let len : c.args.guards.len ≡ length c.args.guards.items = omega (arith, c.args.guards.ok.0) in
    let begun = opening_is scenario c.in_ok-guards.guards.guards c.items.result.now c.args.guards.len caps c.in_ok-guards.ensures.taught (len ∙ sym (length-map c.args.guards.items g.G.Guard.cap)) in
    let first : c.line_count.result + 1 ≡ length (lines_of (scenario_text scenario)) + 1 = ap (λ n. n + 1) (c.line_count.ensures ∙ ap (λ (t : List ℕ). length (lines_of t)) found.text) in
    record {
      scenario = scenario;
      run = run;
      parted = parted scenario _ run c.args.input.now found c.in_ok-scenario.ensures.one c.split_input.ensures.scenario c.split_input.ensures.run;
      taught = ap (first_bad caps) (sym c.items.ensures) ∙ c.in_ok-guards.ensures.all;
      verdict = verdict;
      judged = subst (λ (n : ℕ). IsVerdict (opened_with caps scenario) n run verdict) first (subst (λ (o : Opening). IsVerdict o (c.line_count.result + 1) run verdict) begun c.in_ok-verdict.ensures.verdict);
      exact = subst (λ (o : Opening). (verdict ≡ Yes) ↔ IsPrinted o run) begun c.in_ok-verdict.ensures.exact;
      spelled = c.in_ok-output.ensures;
    }
