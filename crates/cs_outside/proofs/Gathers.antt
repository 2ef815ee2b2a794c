-- What a sink over standard output has gathered, and the count of its faults.
use Rattle.std.proofs.Common.{◌≡◌, ℕ, List, ap, ◌∙◌, Result, Ok, Err}
use Rattle.std.specs.Prelude.{OnOk}
use Rattle.cs_outside.specs.Stream.{OutputState}

-- the two parts, each of which is known
pub output_state : (gathered bytes : List ℕ) (faults count : ℕ) → gathered ≡ bytes → faults ≡ count →
    ◌≡◌ {A = OutputState} (record { gathered = gathered; faults = faults }) (record { gathered = bytes; faults = count })
output_state gathered bytes faults count is counted =
    let with_faults : ℕ → OutputState = λ count. record { gathered = gathered; faults = count } in
    let with_bytes : List ℕ → OutputState = λ bytes. record { gathered = bytes; faults = count } in
    ap with_faults counted ∙ ap with_bytes is

-- two facts of an `Ok`
pub on_ok_both : {T E : Type 0} (P Q : Type 0) (result : Result T E) → OnOk result P → OnOk result Q → OnOk result (P × Q)
on_ok_both P Q (Ok x) p q = (p, q)
on_ok_both P Q (Err e) p q = tt
