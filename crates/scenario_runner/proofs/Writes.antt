-- Writes: a text was written, or its sink failed.
use Rattle.std.proofs.Common.{◌≡◌, ◌∙◌, ◌⊎◌, ℕ, List, inl, inr, sym}
use Rattle.std.specs.Prelude.{Result, Ok, Err, OnOk, OnErr}
use Rattle.cs_outside.specs.Device.{Rose, appended, WritesPrefix}
use Rattle.scenario_input.specs.declared.status.Status.{Status}
use Rattle.scenario_input.specs.declared.status.Status.TheVariants.{Done, WriteFault}
use Rattle.scenario_runner.specs.Ends.{Used, IsFaultless}
use Rattle.scenario_runner.specs.Written.{IsWritten}

module _ {T E : Type 0} where
  -- what is so once all was written is so where the command is done
  pub at_done : {P : Type 0} (written : Result T E) (ended : Status) → OnErr written (ended ≡ WriteFault) → OnOk written P → ended ≡ Done → P
  at_done (Ok value) ended fault holds done = holds
  at_done (Err error) ended fault holds done = let wrong : WriteFault ≡ Done = sym fault ∙ done in absurd cc

  at_fault : {P : Type 0} (written : Result T E) (ended : Status) → OnOk written (ended ≡ Done) → OnErr written P → ended ≡ WriteFault → P
  at_fault (Ok value) ended done holds fault = let wrong : Done ≡ WriteFault = sym done ∙ fault in absurd cc
  at_fault (Err error) ended done holds fault = holds

  done_or_fault : (written : Result T E) (ended : Status) → OnOk written (ended ≡ Done) → OnErr written (ended ≡ WriteFault) → (ended ≡ Done) ⊎ (ended ≡ WriteFault)
  done_or_fault (Ok value) ended done fault = inl done
  done_or_fault (Err error) ended done fault = inr fault

  pub is_written : {K : Type 0} (sink : Used K) (text : List ℕ) (written : Result T E) (ended : Status) → OnOk written (ended ≡ Done) → OnErr written (ended ≡ WriteFault) → OnOk written (sink.bytes sink.after ≡ appended (sink.bytes sink.before) text) → WritesPrefix (sink.bytes sink.before) text (sink.bytes sink.after) → OnOk written (IsFaultless sink) → OnErr written (Rose (sink.faults sink.before) (sink.faults sink.after)) → IsWritten sink text ended
  is_written sink text written ended done fault whole prefix calm rose =
      record {
        either = done_or_fault written ended done fault;
        whole = at_done written ended fault whole;
        prefix = prefix;
        faultless = at_done written ended fault calm;
        failed = at_fault written ended done rose;
      }
