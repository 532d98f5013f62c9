use Rattle.std.proofs.Common.{◌≡◌, ◌+◌, ◌*◌, ◌≤◌, length, arith}
use Rattle.std.proofs.lemmas.Grind.{common_steps}
use Rattle.sheet.specs.Book.{shown}
use Rattle.sheet.proofs.Filled.{filled}
use Rattle.sheet.proofs.state.Sheet.fill_column.Goals as goal

pub returns : goal.returns
returns g c =
    let x = c.args.self.now in
    let b = shown x in
    let number : c.len.result ≡ length b.finished = grind (arith, common_steps) in
    let wide : length c.label_row.new.column ≡ x.n = grind (arith, common_steps) in
    let room : (length b.finished + 1) * x.n ≤ length c.args.columns.now = grind (arith, common_steps) in
    filled _ b c.args.columns.now _ c.label_row.new.column _ _ _ _ c.requires.first number c.split_at_mut-earlier.ensures.front c.split_at_mut-earlier.ensures.back
    wide room c.label_row.ensures
