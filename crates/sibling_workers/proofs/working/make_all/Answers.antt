use Rattle.std.proofs.Common.{◌∙◌, ◌-◌, ◌<◌, length, sym, ap, subst, arith}
use Rattle.std.proofs.lemmas.Option.{slice_get_within}
use Rattle.cs_types.specs.declared.reply.Reply.{Reply}
use Rattle.core_lock.specs.Passes.{PassState, IsSpent, MakesNext, list_of}
use Rattle.sibling_workers.proofs.working.make_all.Goals as goal

-- after its next step a pass has fewer steps left
fewer_left : (before now : PassState) (reply : Reply) → MakesNext before reply now →
    length (list_of now) - now.progress.made < length (list_of before) - before.progress.made
fewer_left before now reply next =
    omega (arith, slice_get_within (list_of before) before.progress.made next.made next.is_next, ap (λ (pass : PassState). length (list_of pass) - pass.progress.made) next.ends)

pub loop-turn-smaller : goal.loop-turn-smaller
loop-turn-smaller g c = fewer_left c.loop-turn.pass c.call.new.pass _ c.in_default.ensures.made

pub returns-in-Err : goal.returns-in-Err
returns-in-Err g c =
    let made = c.in-Err.ensures in
    record {
      worked = record {
        lock = made.lock ∙ c.loop-turn.invariant.0;
        number = made.number ∙ c.loop-turn.invariant.1;
        spent = subst IsSpent (sym made.spent.1) made.spent.0;
      };
    }
