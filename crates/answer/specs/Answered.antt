-- What is answered to a broken job.
use Rattle.std.specs.Prelude.{◌≡◌, ℕ, List, Err, Result}
use Rattle.faults.specs.Record.{fault_record}
use Rattle.faults.specs.declared.job.JobFault.{JobFault}
use Rattle.faults.specs.declared.fault.Fault.TheVariants.{Job}
use Rattle.job.specs.Parse.{parse}
use Rattle.answer.specs.declared.stop.Stop.{Stop}
use Rattle.answer.specs.declared.stop.Stop.TheVariants.{Faulty}

-- A job that cannot be read stops at its first fault.
abbrev pub StopsAtFault : {X : Type 0} → List ℕ → Result X Stop → Type 0
StopsAtFault job r = (f : JobFault) → parse job ≡ Err f → r ≡ Err (Faulty (Job f))

-- The answer to such a job is the record of that fault.
abbrev pub TellsFault : List ℕ → List ℕ → Type 0
TellsFault job bytes = (f : JobFault) → parse job ≡ Err f → bytes ≡ fault_record (Job f)
