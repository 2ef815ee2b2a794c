use Rattle.std.proofs.Common.{◌≡◌, [], ◌++◌, take, refl, sym, ap, subst, ◌∙◌}
use Rattle.std.specs.Prelude.{IfSome}
use Rattle.std.proofs.lemmas.Result.{err_from_is_err_and}
use Rattle.cs_outside.specs.Device.{prepended}
use Rattle.scenario_input.proofs.Inputs.{read_more, read_none, few_most, few_told, many_most, many_told, few_more, one_more, next_is, shorter, not_long}
use Rattle.scenario_input.proofs.input.read_to_end.Goals as goal

-- Reading failed, and took nothing.
pub returns-in_default-clause-too_long : goal.returns-in_default-clause-too_long
returns-in_default-clause-too_long g c =
    let items = c.loop-count.bytes.items in
    let so_far = c.loop-count.invariant in
    few_told c.args.limit _ _ items (so_far.taken ∙ ap (prepended items) (sym c.in_default.ensures.untaken)) so_far.few _ (not_long _ tt)

pub returns-in_default-clause-most : goal.returns-in_default-clause-most
returns-in_default-clause-most g c =
    let items = c.loop-count.bytes.items in
    let so_far = c.loop-count.invariant in
    few_most c.args.limit _ _ items (so_far.taken ∙ ap (prepended items) (sym c.in_default.ensures.untaken)) so_far.few

-- The end was reached.
pub returns-then-count-eq0-clause-whole : goal.returns-then-count-eq0-clause-whole
returns-then-count-eq0-clause-whole g c =
    let items = c.loop-count.bytes.items in
    let none = read_none _ _ c.read.new.buf _ c.if-count-eq0.true c.in-Ok.ensures.taken in
    (c.loop-count.invariant.taken ∙ ap (prepended items) none, subst (λ left. IfSome left (λ bytes. bytes ≡ [])) none (c.in-Ok.ensures.end c.if-count-eq0.true))

pub returns-then-count-eq0-clause-too_long : goal.returns-then-count-eq0-clause-too_long
returns-then-count-eq0-clause-too_long g c =
    let items = c.loop-count.bytes.items in
    let so_far = c.loop-count.invariant in
    let none = read_none _ _ c.read.new.buf _ c.if-count-eq0.true c.in-Ok.ensures.taken in
    few_told c.args.limit _ _ items (so_far.taken ∙ ap (prepended items) none) so_far.few _ (not_long _ tt)

pub returns-then-count-eq0-clause-most : goal.returns-then-count-eq0-clause-most
returns-then-count-eq0-clause-most g c =
    let items = c.loop-count.bytes.items in
    let so_far = c.loop-count.invariant in
    let none = read_none _ _ c.read.new.buf _ c.if-count-eq0.true c.in-Ok.ensures.taken in
    few_most c.args.limit _ _ items (so_far.taken ∙ ap (prepended items) none) so_far.few

-- There were too many bytes.
pub returns-then-left-count-clause-too_long : goal.returns-then-left-count-clause-too_long
returns-then-left-count-clause-too_long g c =
    let items = c.loop-count.bytes.items in
    let so_far = c.loop-count.invariant in
    let more = take c.in-Ok.count c.read.new.buf in
    let many = one_more c.args.limit items c.read.new.buf c.loop-count.buffer c.in-Ok.count _ _ (c.len.ensures ∙ c.loop-count.bytes.ok.0) so_far.few c.min-most.ensures c.read.auto.buf c.in-Ok.ensures.within c.if-left-count.true in
    many_told c.args.limit _ _ (items ++ more) (read_more _ _ _ items more so_far.taken c.in-Ok.ensures.taken) many _ refl

pub returns-then-left-count-clause-most : goal.returns-then-left-count-clause-most
returns-then-left-count-clause-most g c =
    let items = c.loop-count.bytes.items in
    let so_far = c.loop-count.invariant in
    let more = take c.in-Ok.count c.read.new.buf in
    let many = one_more c.args.limit items c.read.new.buf c.loop-count.buffer c.in-Ok.count _ _ (c.len.ensures ∙ c.loop-count.bytes.ok.0) so_far.few c.min-most.ensures c.read.auto.buf c.in-Ok.ensures.within c.if-left-count.true in
    many_most c.args.limit _ _ (items ++ more) (read_more _ _ _ items more so_far.taken c.in-Ok.ensures.taken) many

-- There was no memory for them.
pub returns-in_err-extend_from_slice-clause-too_long : goal.returns-in_err-extend_from_slice-clause-too_long
returns-in_err-extend_from_slice-clause-too_long g c =
    let items = c.loop-count.bytes.items in
    let so_far = c.loop-count.invariant in
    let more = take c.in-Ok.count c.read.new.buf in
    let fault = err_from_is_err_and c.from_residual.result c.from_residual.ensures.1 in
    let few = few_more c.args.limit items c.read.new.buf c.in-Ok.count _ (c.len.ensures ∙ c.loop-count.bytes.ok.0) so_far.few c.if-left-count.false in
    few_told c.args.limit _ _ (items ++ more) (read_more _ _ _ items more so_far.taken c.in-Ok.ensures.taken) few _ (not_long _ (rw (fault.1, fault.2) tt))

pub returns-in_err-extend_from_slice-clause-most : goal.returns-in_err-extend_from_slice-clause-most
returns-in_err-extend_from_slice-clause-most g c =
    let items = c.loop-count.bytes.items in
    let so_far = c.loop-count.invariant in
    let more = take c.in-Ok.count c.read.new.buf in
    let few = few_more c.args.limit items c.read.new.buf c.in-Ok.count _ (c.len.ensures ∙ c.loop-count.bytes.ok.0) so_far.few c.if-left-count.false in
    few_most c.args.limit _ _ (items ++ more) (read_more _ _ _ items more so_far.taken c.in-Ok.ensures.taken) few

-- There were some, and there is room for them.
pub loop-count-smaller : goal.loop-count-smaller
loop-count-smaller g c =
    shorter c.loop-count.bytes.items _ c.read.new.buf _ _ c.in-Ok.count c.in_ok-extend_from_slice.ensures.items c.read.auto.buf c.in-Ok.ensures.within c.args.limit c.if-count-eq0.false c.loop-count.invariant.few

pub loop-count-preserved : goal.loop-count-preserved
loop-count-preserved g c =
    let items = c.loop-count.bytes.items in
    let so_far = c.loop-count.invariant in
    let more = take c.in-Ok.count c.read.new.buf in
    let next = next_is items _ c.read.new.buf _ _ c.in-Ok.count c.in_ok-extend_from_slice.ensures.items c.read.auto.buf c.in-Ok.ensures.within in
    record {
      taken = rw next (read_more _ _ _ items more so_far.taken c.in-Ok.ensures.taken);
      few = rw next (few_more c.args.limit items c.read.new.buf c.in-Ok.count _ (c.len.ensures ∙ c.loop-count.bytes.ok.0) so_far.few c.if-left-count.false);
      faultless = c.in-Ok.ensures.faultless ∙ so_far.faultless;
    }
