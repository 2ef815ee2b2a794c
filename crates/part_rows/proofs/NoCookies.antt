-- Tasks without a cookie.
use Rattle.std.proofs.Common.{◌≡◌, List}
use Rattle.std.specs.Prelude.{All}
use Rattle.cs_types.specs.declared.task.Task.{Task}

abbrev pub HaveNoCookie : List Task → Type 0
HaveNoCookie tasks = All (λ task. task.cookie ≡ 0) tasks
