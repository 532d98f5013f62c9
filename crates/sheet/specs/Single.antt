-- What a single call does.
use Rattle.std.specs.Prelude.{◌≡◌, ℕ, ◌*◌, Bool, List, [], length, take, drop, Some, Option}
use Rattle.std.specs.List.{slice_get}
use Rattle.rows.specs.declared.rows.ActionRow.{ActionRow}
use Rattle.rows.specs.declared.rows.FormulaRow.{FormulaRow}
use Rattle.columns.specs.Marks.{yes}
use Rattle.sheet.specs.declared.state.Sheet.{Sheet}
use Rattle.sheet.specs.Book.{Book, shown, rounds_of, blank, noting, entering}

-- The sheet has n states and no rows.
abbrev pub Begun : Sheet → ℕ → Type 0
Begun y n = (shown y ≡ blank n) × (rounds_of y ≡ [])

-- From the sheet x to y an action row came to the end; its number is k.
abbrev pub Noted : (x y : Sheet) → Option ActionRow → ℕ → Type 0
Noted x y row k = (k ≡ length (shown x).actions) × (shown y ≡ noting row (shown x)) × (rounds_of y ≡ rounds_of x)

-- From the sheet x to y a formula row came to the end; its number is k.
abbrev pub Entered : (x y : Sheet) → Option FormulaRow → ℕ → Type 0
Entered x y row k = (k ≡ length (shown x).rows) × (shown y ≡ entering row (shown x)) × (rounds_of y ≡ rounds_of x)

-- The column of row r: the byte of state s is byte r * n + s of the columns.
abbrev pub column_of : Book → List ℕ → ℕ → List ℕ
column_of b cs r = take b.n (drop (r * b.n) cs)

-- Whether row r says yes at state s, in the columns of a sheet with this book.
abbrev pub marked : Book → List ℕ → ℕ → ℕ → Bool
marked b cs r s = yes cs b.n r s

-- The answer of a read: the verdict on a row at a state, and the row's rounds.
abbrev pub Verdict : Sheet → List ℕ → (row state : ℕ) → (Bool × ℕ) → Type 0
Verdict x cs row state v = (v.0 ≡ marked (shown x) cs row state) × (slice_get (rounds_of x) row ≡ Some v.1)
