use Rattle.std.proofs.Common.{◌-◌}
use Rattle.job.specs.Shown.{parts_of}
use Rattle.job.proofs.Turns.{Stands}
use Rattle.job.proofs.read_job.Given as goal

abbrev pub invariant-loop-field : goal.invariant-loop-field
invariant-loop-field l = Stands l.job l.reader.job.now l.reader.last l.reader.at (parts_of l.parts.job)

abbrev pub decreases-loop-field : goal.decreases-loop-field
decreases-loop-field l = 6 - l.reader.last
