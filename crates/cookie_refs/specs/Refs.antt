-- Refs: the references of the live cookies, and their agreement with the tasks that have them
-- (`sched_core_get_cookie` and `sched_core_put_cookie`, kernel/sched/core_sched.c).
use Rattle.std.specs.Prelude.{◌≡◌, ℕ, ◌+◌, ◌==◌, ◌&&◌, not, if◌then◌else◌, List, sum_by, unwrap_or, refl}
use Rattle.std.specs.Ordering.{nat_cmp}
use Rattle.std.specs.FinMap.{FinMap, code, get, len}
use Rattle.std.specs.Coded.{Coded, code_by, coded×, coded_ℕ}
use Rattle.cs_types.specs.declared.task.Task.{Task}

-- how many references each live cookie has (`refcnt`), the serial of the next, and how many may be live at once
pub record Refs : Type 0 where
  pub counts : FinMap nat_cmp ℕ
  pub next : ℕ
  pub limit : ℕ

-- they are stored as the pair of the counts and of the two numbers
abbrev pub refs_code : Coded Refs
refs_code =
    code_by (FinMap nat_cmp ℕ × (ℕ × ℕ)) (coded× (code coded_ℕ coded_ℕ) (coded× coded_ℕ coded_ℕ)) (λ refs. (refs.counts, (refs.next, refs.limit)))
    (λ parts. record { counts = parts.0; next = parts.1.0; limit = parts.1.1 }) (λ _. refl)

-- how many references a cookie has, 0 if it is not live
abbrev pub count_of : Refs → ℕ → ℕ
count_of refs cookie = unwrap_or (get refs.counts cookie) 0

-- how many cookies are live
abbrev pub live_count : Refs → ℕ
live_count refs = len refs.counts

-- how many references to a cookie come of having the cookie `own`: one to that, and none to 0, which is no cookie
abbrev pub references : ℕ → ℕ → ℕ
references own cookie = if cookie == own && not (cookie == 0) then 1 else 0

-- Each cookie's count is the number of the tasks that have it, and one more if it is held beside them. If 0 is held,
-- none is.
abbrev pub AgreeBut : Refs → List Task → ℕ → Type 0
AgreeBut refs tasks held =
    (cookie : ℕ) → count_of refs cookie ≡ sum_by (λ task. references task.cookie cookie) tasks + references held cookie

-- Each cookie's count is the number of the tasks that have it.
abbrev pub Agree : Refs → List Task → Type 0
Agree refs tasks = AgreeBut refs tasks 0
