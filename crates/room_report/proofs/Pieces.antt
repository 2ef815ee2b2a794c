-- Pieces: the longer lines, put together from their pieces.
use Rattle.std.proofs.Common.{◌≡◌, [], ◌∷◌, ◌++◌, append_assoc}
use Rattle.std.specs.Prelude.{codes}
use Rattle.scenario_text.specs.Words.{Word}
use Rattle.scenario_text.specs.Text.{line}

pub core_text : (cookie forced occupation : Word) →
    (((((codes "core " ++ cookie) ++ codes " forced ") ++ forced) ++ codes " occupation ") ++ occupation) ++ codes "\n"
    ≡ line (codes "core" ∷ cookie ∷ codes "forced" ∷ forced ∷ codes "occupation" ∷ occupation ∷ [])
core_text cookie forced occupation = simp append_assoc

pub task_text : (pid cpu queued cookie forced vtime : Word) →
    (((((((((((codes "task " ++ pid) ++ codes " cpu ") ++ cpu) ++ codes " ") ++ queued) ++ codes " cookie ") ++ cookie)
    ++ codes " forced ") ++ forced) ++ codes " vtime ") ++ vtime) ++ codes "\n"
    ≡ line (codes "task" ∷ pid ∷ codes "cpu" ∷ cpu ∷ queued ∷ codes "cookie" ∷ cookie ∷ codes "forced" ∷ forced ∷ codes "vtime" ∷ vtime ∷ [])
task_text pid cpu queued cookie forced vtime = simp append_assoc

pub cpu_text : (cpu online run number : Word) →
    (((((((codes "cpu " ++ cpu) ++ codes " ") ++ online) ++ codes " runs ") ++ run) ++ codes " number ") ++ number) ++ codes "\n"
    ≡ line (codes "cpu" ∷ cpu ∷ online ∷ codes "runs" ∷ run ∷ codes "number" ∷ number ∷ [])
cpu_text cpu online run number = simp append_assoc
