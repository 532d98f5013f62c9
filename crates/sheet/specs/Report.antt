-- The bytes of a report.
use Rattle.std.specs.Prelude.{◌≡◌, ℕ, zero, suc, ◌+◌, cond, List, [], ◌∷◌, ◌++◌, length, drop, ◌==◌, slice_index, slice_index_or}
use Rattle.faults.specs.Bytes.{two_bytes}
use Rattle.rows.specs.declared.route.Route.TheVariants.{Direct}
use Rattle.rows.specs.RouteNumber.{route_number}
use Rattle.sheet.specs.declared.state.Sheet.{Sheet}
use Rattle.sheet.specs.Book.{Book, shown, rounds_of}
use Rattle.sheet.specs.Refusals.{report_length}
use Rattle.sheet.specs.Single.{column_of, marked}

-- How many bytes of a column say yes.
abbrev pub yes_count : List ℕ → ℕ
yes_count [] = 0
yes_count (x ∷ xs) = cond (x == 1) 1 0 + yes_count xs

-- The first field: the tag 81, the length 3, the number of states and the number of finished rows.
abbrev pub head_field : (states rows : ℕ) → List ℕ
head_field states rows = 0x81 ∷ 0 ∷ 3 ∷ two_bytes states ++ rows ∷ []

-- The field of a row: the tag 82, the length 7, the row's number, its route, its rounds, the verdict at the start and the tally.
abbrev pub row_field : (row route rounds verdict marks : ℕ) → List ℕ
row_field row route rounds verdict marks = 0x82 ∷ 0 ∷ 7 ∷ row ∷ route ∷ two_bytes rounds ++ verdict ∷ two_bytes marks

-- The field of finished row r.
abbrev pub field_of : Book → (rounds columns : List ℕ) (start r : ℕ) → List ℕ
field_of b rounds columns start r =
    row_field r (route_number (slice_index_or b.finished r Direct)) (slice_index rounds r) (cond (marked b columns r start) 1 0) (yes_count (column_of b columns r))

-- The fields of the first k finished rows.
abbrev pub fields_of : Book → (rounds columns : List ℕ) (start k : ℕ) → List ℕ
fields_of b rounds columns start zero = []
fields_of b rounds columns start (suc k) = fields_of b rounds columns start k ++ field_of b rounds columns start k

-- The whole report.
abbrev pub report_bytes : Book → (rounds columns : List ℕ) (start : ℕ) → List ℕ
report_bytes b rounds columns start = head_field b.n (length b.finished) ++ fields_of b rounds columns start (length b.finished)

-- The report of the sheet x stands at the front of the output, has length k, and the output past it is as it was.
abbrev pub Reported : Sheet → (columns : List ℕ) (start : ℕ) (output output' : List ℕ) → ℕ → Type 0
Reported x columns start output output' k =
    (k ≡ report_length (shown x)) × (output' ≡ report_bytes (shown x) (rounds_of x) columns start ++ drop k output)
