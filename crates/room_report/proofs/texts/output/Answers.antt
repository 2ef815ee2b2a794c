use Rattle.room_report.proofs.Spelled.{one_history}
use Rattle.room_report.proofs.texts.output.Goals as goal

pub returns-clause-one : goal.returns-clause-one
returns-clause-one g c = λ opening history is made same. one_history opening (g.R.Room.opening c.args.room.now) history (g.R.Room.history c.args.room.now) is made same
