use Rattle.std.proofs.Common.{subst, arith}
use Rattle.std.specs.Prelude.{remove}
use Rattle.std.proofs.lemmas.List.Edits.{length-remove}
use Rattle.task_table.specs.Grouping.{place_of, AreSpans}
use Rattle.task_table.proofs.Grouping.{some_of, few_of, instead}
use Rattle.task_table.proofs.spans.Spans.move_between.Goals as goal

pub remove-requires : goal.remove-requires
remove-requires c = record { some = some_of c.args.self.now.all.items c.requires.members c.requires.position (c.args.from, c.args.pid) c.requires.are c.requires.has }

pub add-requires : goal.add-requires
add-requires c =
    let members = c.requires.members in
    let position = c.requires.position in
    let left = c.remove.ensures members position c.args.pid c.requires.has c.requires.are in
    record {
      few = omega (
        arith,
        few_of c.remove.new.self.all.items (remove members position) (place_of c.args.to) left,
        length-remove members position c.requires.has.within,
        c.requires.few,
      );
    }

pub returns : goal.returns
returns c members position has spans =
    subst (AreSpans c.add.new.self.all.items) (instead members position (c.args.to, c.args.pid) has.within)
    (c.add.ensures (remove members position) position (c.remove.ensures members position c.args.pid has spans))
