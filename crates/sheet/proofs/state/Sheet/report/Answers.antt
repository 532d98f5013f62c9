use Rattle.std.proofs.Common.{◌≡◌, ◌+◌, ◌-◌, ◌*◌, ◌<◌, ◌≤◌, length, vec_len, ◌∙◌, add-mul, one-mul, arith}
use Rattle.sheet.specs.Book.{shown, rounds_of}
use Rattle.sheet.specs.Report.{head_field, field_of}
use Rattle.std.proofs.lemmas.Grind.{common_steps}
use Rattle.sheet.proofs.Fields.{field_is, more_front, more_back}
use Rattle.sheet.proofs.state.Sheet.report.Goals as goal

pub loop-row-preserved : goal.loop-row-preserved
loop-row-preserved c =
    let x = c.args.self.now in
    let columns = c.args.columns.now in
    let r = c.loop-row.row in
    let s : c.args.start < x.n = grind (arith, common_steps) in
    let h : 6 + 10 * (r + 1) ≤ length c.loop-row.output = grind (arith, common_steps) in
    let n : (r + 1) * x.n - r * x.n ≡ x.n = omega (arith, add-mul r 1 x.n, one-mul x.n) in
    let is : c.field-field.result ≡ field_of (shown x) (rounds_of x) columns c.args.start r =
    rw (c.field-field.ensures, c.deref-finish-items.ensures.value, n) (field_is x columns c.args.start r _ (omega arith) s) in
    let field : c.copy_from_slice-in-loop-row.new.self ≡ field_of (shown x) (rounds_of x) columns c.args.start r =
    c.copy_from_slice-in-loop-row.ensures.after ∙ is in (
      more_front (shown x) (rounds_of x) columns c.args.start r _ c.loop-row.output _ field (omega arith) h (head_field x.n (vec_len x.finished)) c.loop-row.invariant.0,
      more_back (shown x) (rounds_of x) columns c.args.start r _ c.loop-row.output _ field (omega arith) h c.args.output.now c.loop-row.invariant.1,
    )
