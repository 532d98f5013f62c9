-- When a call on a sheet is refused: the first fault whose condition is met, with its place.
use Rattle.std.specs.Prelude.{ℕ, ◌+◌, ◌*◌, Bool, false, not, ◌&&◌, ◌||◌, List, [], ◌∷◌, length, is_some, Some, None, Option, ◌==◌, nat_le, nat_lt}
use Rattle.faults.specs.Refusal.{first_met}
use Rattle.faults.specs.declared.sheet.SheetFault.{SheetFault}
use Rattle.faults.specs.declared.sheet.SheetFault.TheVariants.{
  States,
  Full,
  Kind,
  NotEarlier,
  NotNoted,
  Finished,
  StateCount,
  Columns,
  Scratch,
  NoVerdict,
  Output,
}
use Rattle.systems.specs.Machine.{Machine}
use Rattle.rows.specs.Rows.{action_row, formula_row, action_names, row_names, test_names, beyond}
use Rattle.sheet.specs.Limits.{most_states, most_rows}
use Rattle.sheet.specs.Book.{Book}

-- Some row that this one names, if there is a row, is not below the limit.
abbrev pub astray : {X : Type 0} → (X → List ℕ) → ℕ → Option X → Bool
astray names limit None = false
astray names limit (Some x) = beyond limit (names x)

abbrev pub refusal_begin : ℕ → Option SheetFault
refusal_begin n = first_met ((nat_lt n 1 || nat_lt most_states n, States) ∷ [])

abbrev pub refusal_note : Book → ℕ → ℕ → ℕ → Option SheetFault
refusal_note b kind x y =
    let row = action_row kind x y in
    let k = length b.actions in
    first_met
    ((nat_le most_rows k, Full k)
    ∷ (not (is_some row) || (kind == 1 && x == 0), Kind k)
    ∷ (astray action_names k row, NotEarlier k)
    ∷ [])

abbrev pub refusal_enter : Book → ℕ → ℕ → ℕ → ℕ → ℕ → Option SheetFault
refusal_enter b kind r1 by last r2 =
    let row = formula_row kind r1 by last r2 in
    let k = length b.rows in
    first_met
    ((nat_le most_rows k, Full k)
    ∷ (not (is_some row), Kind k)
    ∷ (astray row_names k row, NotEarlier k)
    ∷ (astray test_names (length b.actions) row, NotNoted k)
    ∷ [])

-- The numbers are the lengths of the columns and of the scratch.
abbrev pub refusal_direct : Machine → Book → (columns scratch : ℕ) → Option SheetFault
refusal_direct m b columns scratch =
    let r = length b.finished in
    first_met
    ((nat_le (length b.rows) r, Finished r)
    ∷ (not (m.count == b.n), StateCount r)
    ∷ (nat_lt columns ((r + 1) * b.n), Columns r)
    ∷ (nat_lt scratch b.n, Scratch r)
    ∷ [])

-- The first number is the length of the columns.
abbrev pub refusal_read : Book → (columns row state : ℕ) → Option SheetFault
refusal_read b columns row state =
    first_met
    ((nat_le (length b.finished) row || nat_le b.n state, NoVerdict row)
    ∷ (nat_lt columns ((row + 1) * b.n), Columns row)
    ∷ [])

-- A report has 6 bytes and 10 for each finished row.
abbrev pub report_length : Book → ℕ
report_length b = 6 + 10 * length b.finished

-- The numbers are the lengths of the columns and of the output, and the start state.
abbrev pub refusal_report : Book → (columns start output : ℕ) → Option SheetFault
refusal_report b columns start output =
    first_met
    ((nat_le b.n start, NoVerdict 0)
    ∷ (nat_lt columns (length b.finished * b.n), Columns 0)
    ∷ (nat_lt output (report_length b), Output)
    ∷ [])
