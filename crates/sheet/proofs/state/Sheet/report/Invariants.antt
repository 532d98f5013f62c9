use Rattle.std.proofs.Common.{◌≡◌, ◌+◌, ◌*◌, ◌++◌, take, drop, vec_len}
use Rattle.sheet.specs.Book.{shown, rounds_of}
use Rattle.sheet.specs.Report.{head_field, fields_of}
use Rattle.sheet.proofs.state.Sheet.report.Given as goal

abbrev pub invariant-loop-row : goal.invariant-loop-row
invariant-loop-row l =
    (take (6 + 10 * l.row) l.output
    ≡ head_field l.self.n (vec_len l.self.finished) ++ fields_of (shown l.self) (rounds_of l.self) l.columns l.start l.row)
    × (drop (6 + 10 * l.row) l.output ≡ drop (6 + 10 * l.row) l.fn.output)
