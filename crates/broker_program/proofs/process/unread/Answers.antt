use Rattle.std.{specs.{declared.io.ErrorKind.{ErrorKind}, declared.io.ErrorKind.TheVariants.{InvalidData}}, proofs.Common.{◌≡◌, ◌≢◌, refl}}
use Rattle.program_io.specs.Faults.{fault_text}
use Rattle.broker_program.specs.Running.{unread_text}
use Rattle.program_io.specs.declared.fault.RunFault.TheVariants as run_fault

-- an error other than InvalidData is reported as one of memory
else_memory : (kind : ErrorKind) → kind ≢ InvalidData → unread_text kind ≡ fault_text run_fault.Memory
else_memory InvalidData other = absurd (other refl)
else_memory _ other = refl
