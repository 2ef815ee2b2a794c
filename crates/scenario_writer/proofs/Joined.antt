-- Joined: the lines of a scenario, put together from their pieces.
use Rattle.std.proofs.Common.{◌≡◌, Bool, true, false, cond, List, [], ◌∷◌, ◌++◌, append_assoc}
use Rattle.std.specs.Prelude.{codes}
use Rattle.scenario_text.specs.Words.{Word}
use Rattle.scenario_text.specs.Text.{spaced, line}

-- a word that names a number, and two more numbers
pub three_text : (name first second third : Word) →
    ((spaced (name ∷ first ∷ []) ++ (32 ∷ second)) ++ (32 ∷ third)) ++ 10 ∷ []
    ≡ line (name ∷ first ∷ second ∷ third ∷ [])
three_text name first second third = simp append_assoc

pub creds_text : (before ruid euid suid rgid egid sgid able mm dumpable : Word) →
    ((((((((before ++ ruid) ++ (codes " " ++ euid)) ++ (codes " " ++ suid)) ++ (codes " " ++ rgid)) ++ (codes " " ++ egid))
    ++ (codes " " ++ sgid)) ++ (codes " " ++ able)) ++ (codes " " ++ mm)) ++ (codes " " ++ dumpable)
    ≡ before ++ spaced (ruid ∷ euid ∷ suid ∷ rgid ∷ egid ∷ sgid ∷ able ∷ mm ∷ dumpable ∷ [])
creds_text before ruid euid suid rgid egid sgid able mm dumpable = simp append_assoc

task_text : (pid tgid pgid cpu policy ruid : Word) (creds : List Word) →
    (((((((spaced (codes "task" ∷ pid ∷ []) ++ (32 ∷ tgid)) ++ (32 ∷ pgid)) ++ (32 ∷ cpu))
    ++ 32 ∷ []) ++ policy) ++ 32 ∷ []) ++ spaced (ruid ∷ creds)) ++ 10 ∷ []
    ≡ line (codes "task" ∷ pid ∷ tgid ∷ pgid ∷ cpu ∷ policy ∷ ruid ∷ creds)
task_text pid tgid pgid cpu policy ruid creds = simp append_assoc

-- a task, with the number of its user or with credentials
pub owned_text : (second : Bool) (pid tgid pgid cpu policy number ruid : Word) (creds : List Word) →
    (((((((spaced (codes "task" ∷ pid ∷ []) ++ (32 ∷ tgid)) ++ (32 ∷ pgid)) ++ (32 ∷ cpu))
    ++ 32 ∷ []) ++ policy) ++ 32 ∷ []) ++ spaced (cond second (number ∷ []) (ruid ∷ creds))) ++ 10 ∷ []
    ≡ line (cond second (codes "task" ∷ pid ∷ tgid ∷ pgid ∷ cpu ∷ policy ∷ number ∷ []) (codes "task" ∷ pid ∷ tgid ∷ pgid ∷ cpu ∷ policy ∷ ruid ∷ creds))
owned_text true pid tgid pgid cpu policy number ruid creds = task_text pid tgid pgid cpu policy number []
owned_text false pid tgid pgid cpu policy number ruid creds = task_text pid tgid pgid cpu policy ruid creds

-- a user
pub user_text : (number ruid : Word) (creds : List Word) →
    ((spaced (codes "user" ∷ number ∷ []) ++ 32 ∷ []) ++ spaced (ruid ∷ creds)) ++ 10 ∷ [] ≡ line (codes "user" ∷ number ∷ ruid ∷ creds)
user_text number ruid creds = simp append_assoc
