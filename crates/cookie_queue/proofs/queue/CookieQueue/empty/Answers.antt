use Rattle.cookie_queue.proofs.Cookies.{no_tasks}
use Rattle.cookie_queue.proofs.queue.CookieQueue.empty.Goals as goal

pub returns-clause-tasks : goal.returns-clause-tasks
returns-clause-tasks c = no_tasks c.empty.result.members c.empty.ensures.members
