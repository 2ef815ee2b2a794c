-- What an edit makes of a task. No public clause cites this module.
use Rattle.std.specs.Prelude.{true, false}
use Rattle.cs_types.specs.declared.task.Task.{Task}
use Rattle.task_table.specs.declared.edit.Edit.{Edit as SomeEdit}
use Rattle.task_table.specs.Moves.{moved_by}
use Rattle.task_table.specs.declared.edit.Edit.TheVariants.{Occupation, Cookie, Home, Vtime, Used, Asleep, Queued}

-- the task after the edit
abbrev pub edited : SomeEdit → Task → Task
edited (Occupation occupation) task = record task { occupation = occupation }
edited (Cookie cookie) task = record task { cookie = cookie }
edited (Home home from to stamp) task = moved_by home from to stamp task
edited (Vtime vtime) task = record task { vtime = vtime }
edited (Used used) task = record task { used = used }
edited Asleep task = record task { queued = false }
edited (Queued cpu vtime deadline stamp) task = record task { home = cpu; queued = true; vtime = vtime; deadline = deadline; stamp = stamp }
