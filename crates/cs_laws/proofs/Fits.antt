-- Fits: what a sibling has, by the spots of the tasks, and which changes keep it so.
use Rattle.std.proofs.Common.{◌≡◌, ℕ, Bool, cond, true, false, refl, sym, ap, ◌∙◌, subst, inl, inr, Option, Some, None}
use Rattle.std.specs.Prelude.{◌⊎◌, ◌==◌, ◌||◌}
use Rattle.std.specs.Option.{IfSome}
use Rattle.std.proofs.lemmas.Bool.{cond_both, or_parts, eqb-true, true_from_ne_false, both_ways}
use Rattle.std.proofs.lemmas.Option.{IfSome_then}
use Rattle.cs_types.specs.Room.{RoomState, SiblingState, Waiting, absent, sibling_of, is_online, flag}
use Rattle.cs_types.specs.Selection.{is_run}
use Rattle.cs_types.specs.Steal.{set_place}
use Rattle.cs_laws.proofs.Spots.{Spot, spot_at}
use Rattle.cs_laws.proofs.Places.{with_sibling_either}

-- ---- what a sibling has

-- whether a task with this spot is queued on the sibling
abbrev pub IsAt : ℕ → Option Spot → Type 0
IsAt cpu None = ⊥
IsAt cpu (Some spot) = (spot.queued ≡ true) × (spot.home ≡ cpu)

-- its cookie, 0 where there is no such task
abbrev pub cookie_at : Option Spot → ℕ
cookie_at None = 0
cookie_at (Some spot) = spot.cookie

-- What a sibling runs and what waits for it is queued on it. One with a waiting pick is pending, and does not run that
-- already; while the selection is fresh, that has the core cookie. An offline sibling has nothing. One that is online and
-- not pending runs a task with the core cookie, or idle.
pub record Fits (at : ℕ → Option Spot) (core : ℕ) (fresh : Bool) (cpu : ℕ) (up : Bool) (run : Option ℕ) (pending : Bool) (waiting : Waiting) (place : ℕ) : Type 0 where
  pub runs : IfSome run (λ pid. IsAt cpu (at pid))
  pub waits : IfSome waiting (λ chosen. IfSome chosen (λ pid. IsAt cpu (at pid)))
  pub flags : IfSome waiting (λ chosen. pending ≡ true)
  pub other : IfSome waiting (λ chosen. is_run run chosen ≡ false)
  pub agrees : fresh ≡ true → IfSome waiting (λ chosen. IfSome chosen (λ pid. cookie_at (at pid) ≡ core))
  pub away : up ≡ false → (run ≡ None) × (pending ≡ false) × (waiting ≡ None) × (place ≡ 0)
  pub trusted : up ≡ true → pending ≡ false → IfSome run (λ pid. cookie_at (at pid) ≡ core)

abbrev pub SiblingFits : (ℕ → Option Spot) → ℕ → Bool → ℕ → SiblingState → Type 0
SiblingFits at core fresh cpu sibling = Fits at core fresh cpu sibling.online sibling.run sibling.pending sibling.waiting sibling.place

-- every sibling of the room does
abbrev pub AllFit : RoomState → Bool → Type 0
AllFit room fresh = (cpu : ℕ) → SiblingFits (spot_at room) room.core_cookie fresh cpu (sibling_of room cpu)

-- whether a sibling runs a task or has it waiting
abbrev pub Has : Option ℕ → Waiting → ℕ → Type 0
Has run waiting pid = (run ≡ Some pid) ⊎ (waiting ≡ Some (Some pid))

-- ---- of an optional pid

run_then : (run : Option ℕ) (P Q R : ℕ → Type 0) → ((pid : ℕ) → run ≡ Some pid → P pid → Q pid → R pid) → IfSome run P → IfSome run Q → IfSome run R
run_then None P Q R step ps qs = tt
run_then (Some pid) P Q R step ps qs = step pid refl ps qs

pub waiting_then : (waiting : Waiting) (P Q R : ℕ → Type 0) → ((pid : ℕ) → waiting ≡ Some (Some pid) → P pid → Q pid → R pid) →
    IfSome waiting (λ chosen. IfSome chosen P) → IfSome waiting (λ chosen. IfSome chosen Q) → IfSome waiting (λ chosen. IfSome chosen R)
waiting_then None P Q R step ps qs = tt
waiting_then (Some None) P Q R step ps qs = tt
waiting_then (Some (Some pid)) P Q R step ps qs = step pid refl ps qs

-- ---- a sibling that keeps what it has

-- The tasks that it has stay on it, with their cookies where that matters; and it becomes pending, or not.
pub fits_where : (at now : ℕ → Option Spot) (core : ℕ) (fresh later : Bool) (cpu : ℕ) (up : Bool) (run : Option ℕ) (pending flag : Bool) (waiting : Waiting) (place : ℕ) →
    ((pid : ℕ) → Has run waiting pid → IsAt cpu (at pid) → IsAt cpu (now pid)) →
    (later ≡ true → (fresh ≡ true) × ((pid : ℕ) → waiting ≡ Some (Some pid) → IsAt cpu (at pid) → cookie_at (now pid) ≡ cookie_at (at pid))) →
    (flag ≡ false → (pending ≡ false) × ((pid : ℕ) → run ≡ Some pid → IsAt cpu (at pid) → cookie_at (now pid) ≡ cookie_at (at pid))) →
    (up ≡ false → flag ≡ false) →
    Fits at core fresh cpu up run pending waiting place → Fits now core later cpu up run flag waiting place
fits_where at now core fresh later cpu up run pending flag waiting place stays old calm low fits =
    record {
      runs = run_then run (λ pid. IsAt cpu (at pid)) (λ pid. IsAt cpu (at pid)) (λ pid. IsAt cpu (now pid)) (λ pid is here _. stays pid (inl is) here) fits.runs fits.runs;
      waits = waiting_then waiting (λ pid. IsAt cpu (at pid)) (λ pid. IsAt cpu (at pid)) (λ pid. IsAt cpu (now pid)) (λ pid is here _. stays pid (inr is) here) fits.waits fits.waits;
      flags = IfSome_then waiting fits.flags (λ chosen raised. true_from_ne_false flag (λ lowered. both_ways pending (calm lowered).0 raised));
      other = fits.other;
      agrees = λ is. waiting_then waiting (λ pid. IsAt cpu (at pid)) (λ pid. cookie_at (at pid) ≡ core) (λ pid. cookie_at (now pid) ≡ core)
          (λ pid waits here same. (old is).1 pid waits here ∙ same) fits.waits (fits.agrees (old is).0);
      away = λ off. let gone = fits.away off in (gone.0, low off, gone.2, gone.3);
      trusted = λ on lowered. run_then run (λ pid. IsAt cpu (at pid)) (λ pid. cookie_at (at pid) ≡ core) (λ pid. cookie_at (now pid) ≡ core)
          (λ pid runs here same. (calm lowered).1 pid runs here ∙ same) fits.runs (fits.trusted on (calm lowered).0);
    }

-- so where the spots of the tasks that it has are the same
pub fits_same : (at now : ℕ → Option Spot) (core : ℕ) (fresh later : Bool) (cpu : ℕ) (up : Bool) (run : Option ℕ) (pending : Bool) (waiting : Waiting) (place : ℕ) →
    ((pid : ℕ) → Has run waiting pid → IsAt cpu (at pid) → now pid ≡ at pid) → (later ≡ true → fresh ≡ true) →
    Fits at core fresh cpu up run pending waiting place → Fits now core later cpu up run pending waiting place
fits_same at now core fresh later cpu up run pending waiting place same old fits =
    fits_where at now core fresh later cpu up run pending pending waiting place
    (λ pid has here. subst (IsAt cpu) (sym (same pid has here)) here)
    (λ is. (old is, λ pid waits here. ap cookie_at (same pid (inr waits) here)))
    (λ calm. (calm, λ pid runs here. ap cookie_at (same pid (inl runs) here)))
    (λ off. (fits.away off).1) fits

-- where one task moves that it does not have
pub fits_moved : (at now : ℕ → Option Spot) (core : ℕ) (fresh later : Bool) (cpu : ℕ) (up : Bool) (run : Option ℕ) (pending : Bool) (waiting : Waiting) (place : ℕ)
    (moves : ℕ) (spot : Option Spot) → ((pid : ℕ) → now pid ≡ cond (pid == moves) spot (at pid)) → (Has run waiting moves → IsAt cpu (at moves) → ⊥) →
    (later ≡ true → fresh ≡ true) → Fits at core fresh cpu up run pending waiting place → Fits now core later cpu up run pending waiting place
fits_moved at now core fresh later cpu up run pending waiting place moves spot moved hasnt old fits =
    fits_same at now core fresh later cpu up run pending waiting place
    (λ pid has here. moved pid
    ∙ cond_both (pid == moves) spot (at pid) (λ one. one ≡ at pid)
    (λ same. let e = eqb-true pid moves same in absurd (hasnt (subst (Has run waiting) e has) (subst (λ n. IsAt cpu (at n)) e here))) (λ _. refl)) old fits

-- where it becomes pending while it is online
pub fits_flagged : (at : ℕ → Option Spot) (core : ℕ) (fresh : Bool) (cpu : ℕ) (up : Bool) (run : Option ℕ) (pending : Bool) (waiting : Waiting) (place : ℕ) (test : Bool) →
    up ≡ true → Fits at core fresh cpu up run pending waiting place → Fits at core fresh cpu up run (pending || test) waiting place
fits_flagged at core fresh cpu up run pending waiting place test on fits =
    fits_where at at core fresh fresh cpu up run pending (pending || test) waiting place (λ pid has here. here) (λ is. (is, λ pid waits here. refl))
    (λ calm. ((or_parts pending test calm).0, λ pid runs here. refl)) (λ off. absurd (both_ways up off on)) fits

pub fits_placed : (at : ℕ → Option Spot) (core : ℕ) (fresh : Bool) (cpu : ℕ) (up : Bool) (run : Option ℕ) (pending : Bool) (waiting : Waiting) (place other : ℕ) →
    up ≡ true → Fits at core fresh cpu up run pending waiting place → Fits at core fresh cpu up run pending waiting other
fits_placed at core fresh cpu up run pending waiting place other on fits =
    record {
      runs = fits.runs;
      waits = fits.waits;
      flags = fits.flags;
      other = fits.other;
      agrees = fits.agrees;
      away = λ off. absurd (both_ways up off on);
      trusted = fits.trusted;
    }

-- ---- a sibling that is given what it has

-- It runs this, and nothing waits.
pub fits_running : (at : ℕ → Option Spot) (core : ℕ) (fresh : Bool) (cpu : ℕ) (up : Bool) (run : Option ℕ) (pending : Bool) (place : ℕ) →
    up ≡ true → IfSome run (λ pid. IsAt cpu (at pid)) → IfSome run (λ pid. cookie_at (at pid) ≡ core) → Fits at core fresh cpu up run pending None place
fits_running at core fresh cpu up run pending place on here same =
    record { runs = here; waits = tt; flags = tt; other = tt; agrees = λ _. tt; away = λ off. absurd (both_ways up off on); trusted = λ _ _. same }

-- This waits for it.
pub fits_waiting : (at : ℕ → Option Spot) (core : ℕ) (fresh : Bool) (cpu : ℕ) (up : Bool) (run chosen : Option ℕ) (place : ℕ) →
    up ≡ true → IfSome run (λ pid. IsAt cpu (at pid)) → IfSome chosen (λ pid. IsAt cpu (at pid)) → IfSome chosen (λ pid. cookie_at (at pid) ≡ core) →
    is_run run chosen ≡ false → Fits at core fresh cpu up run true (Some chosen) place
fits_waiting at core fresh cpu up run chosen place on runs here same other =
    record {
      runs = runs;
      waits = here;
      flags = refl;
      other = other;
      agrees = λ _. same;
      away = λ off. absurd (both_ways up off on);
      trusted = λ _ calm. absurd cc;
    }

-- It is offline, and has nothing.
pub fits_away : (at : ℕ → Option Spot) (core : ℕ) (fresh : Bool) (cpu : ℕ) (up : Bool) (run : Option ℕ) (pending : Bool) (waiting : Waiting) (place : ℕ) →
    up ≡ false → (run ≡ None) × (pending ≡ false) × (waiting ≡ None) × (place ≡ 0) → Fits at core fresh cpu up run pending waiting place
fits_away at core fresh cpu up run pending waiting place off gone =
    record {
      runs = subst (λ r. IfSome r (λ pid. IsAt cpu (at pid))) (sym gone.0) tt;
      waits = subst (λ w. IfSome w (λ chosen. IfSome chosen (λ pid. IsAt cpu (at pid)))) (sym gone.2) tt;
      flags = subst (λ w. IfSome w (λ chosen. pending ≡ true)) (sym gone.2) tt;
      other = subst (λ w. IfSome w (λ chosen. is_run run chosen ≡ false)) (sym gone.2) tt;
      agrees = λ _. subst (λ w. IfSome w (λ chosen. IfSome chosen (λ pid. cookie_at (at pid) ≡ core))) (sym gone.2) tt;
      away = λ _. gone;
      trusted = λ on _. absurd (both_ways up off on);
    }

pub fits_absent : (at : ℕ → Option Spot) (core : ℕ) (fresh : Bool) (cpu : ℕ) → SiblingFits at core fresh cpu absent
fits_absent at core fresh cpu = fits_away at core fresh cpu false None false None 0 refl (refl, refl, refl, refl)

-- ---- of every sibling

-- the spots are the same
pub all_same : (at now : ℕ → Option Spot) (core : ℕ) (fresh : Bool) (siblings : ℕ → SiblingState) → ((pid : ℕ) → now pid ≡ at pid) →
    ((cpu : ℕ) → SiblingFits at core fresh cpu (siblings cpu)) → (cpu : ℕ) → SiblingFits now core fresh cpu (siblings cpu)
all_same at now core fresh siblings same fits cpu = subst (λ spots. SiblingFits spots core fresh cpu (siblings cpu)) (λ i pid. sym (same pid) i) (fits cpu)

-- what was fresh may be so no more
pub all_later : (room : RoomState) (fresh later : Bool) → (later ≡ true → fresh ≡ true) → AllFit room fresh → AllFit room later
all_later room fresh later old fits cpu =
    let sibling = sibling_of room cpu in
    fits_same (spot_at room) (spot_at room) room.core_cookie fresh later cpu sibling.online sibling.run sibling.pending sibling.waiting sibling.place (λ pid has here. refl) old (fits cpu)

-- one that is online becomes pending
pub all_flagged : (room : RoomState) (fresh : Bool) (cpu : ℕ) (test : Bool) → is_online room cpu ≡ true → AllFit room fresh → AllFit (flag room cpu test) fresh
all_flagged room fresh cpu test on fits =
    let sibling = sibling_of room cpu in
    with_sibling_either (SiblingFits (spot_at room) room.core_cookie fresh) room cpu (record sibling { pending = sibling.pending || test })
    (fits_flagged (spot_at room) room.core_cookie fresh cpu sibling.online sibling.run sibling.pending sibling.waiting sibling.place test on (fits cpu)) fits

-- or gets another place
pub all_placed : (room : RoomState) (fresh : Bool) (cpu place : ℕ) → is_online room cpu ≡ true → AllFit room fresh → AllFit (set_place room cpu place) fresh
all_placed room fresh cpu place on fits =
    let sibling = sibling_of room cpu in
    with_sibling_either (SiblingFits (spot_at room) room.core_cookie fresh) room cpu (record sibling { place = place })
    (fits_placed (spot_at room) room.core_cookie fresh cpu sibling.online sibling.run sibling.pending sibling.waiting sibling.place place on (fits cpu)) fits
