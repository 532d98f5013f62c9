-- A job that was read, as its parts.
use Rattle.std.specs.Prelude.{Ok, Err, Result}
use Rattle.faults.specs.declared.job.JobFault.{JobFault}
use Rattle.job.specs.Parse.{Parts}
use Rattle.job.specs.WellFormed.{parts}
use Rattle.job.specs.declared.parts.Job.{Job}

abbrev pub parts_of : Job → Parts
parts_of j = parts j.states j.start j.route j.table j.actions j.formulas j.mailbox j.hiding

abbrev pub shown : Result Job JobFault → Result Parts JobFault
shown (Ok j) = Ok (parts_of j)
shown (Err f) = Err f
