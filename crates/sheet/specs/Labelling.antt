-- What the labelling of the first unfinished row does.
use Rattle.std.specs.Prelude.{◌≡◌, ℕ, ◌+◌, ◌*◌, List, [], ◌∷◌, ◌++◌, length, take, drop, slice_index_or}
use Rattle.systems.specs.Machine.{Machine}
use Rattle.rows.specs.declared.rows.FormulaRow.TheVariants.{True}
use Rattle.rows.specs.declared.route.Route.{Route}
use Rattle.direct.specs.Labelled.{Labels}
use Rattle.sheet.specs.declared.state.Sheet.{Sheet}
use Rattle.sheet.specs.Book.{Book, shown, rounds_of, finishing}
use Rattle.sheet.specs.Single.{column_of}

-- From the columns cs to ds: the column of the first unfinished row r says what the row's operator says over the columns of the
-- rows before it, in k rounds, and no other byte has changed.
pub record Fills (m : Machine) (b : Book) (cs ds : List ℕ) (k : ℕ) : Type 0 where
  pub labels :
      let r = length b.finished in
      Labels m b.actions (slice_index_or b.rows r True) (take (r * b.n) cs) (column_of b ds r) k
  pub before : take (length b.finished * b.n) ds ≡ take (length b.finished * b.n) cs
  pub after : drop ((length b.finished + 1) * b.n) ds ≡ drop ((length b.finished + 1) * b.n) cs

-- So it is, and from the sheet x to y the row is finished by the route in these rounds.
pub record Finishes (m : Machine) (route : Route) (x y : Sheet) (cs ds : List ℕ) (k : ℕ) : Type 0 where
  pub fills : Fills m (shown x) cs ds k
  pub book : shown y ≡ finishing route (shown x)
  pub rounds : rounds_of y ≡ rounds_of x ++ k ∷ []
