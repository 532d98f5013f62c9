use Rattle.std.proofs.Common.{◌≡◌, ◌+◌, ◌≤◌, drop}
use Rattle.sheet.specs.Report.{yes_count}
use Rattle.sheet.proofs.report.count_yes.Given as goal

abbrev pub invariant-loop-byte : goal.invariant-loop-byte
invariant-loop-byte l = (l.yes + yes_count (drop l.byte-index l.column) ≡ yes_count l.column) × (l.yes ≤ l.byte-index)
