-- What a sheet shows.
use Rattle.std.specs.Prelude.{ℕ, List, [], ◌∷◌, ◌++◌, map, Some, None, vec_items, Option}
use Rattle.rows.specs.declared.rows.ActionRow.{ActionRow}
use Rattle.rows.specs.declared.rows.FormulaRow.{FormulaRow}
use Rattle.rows.specs.declared.route.Route.{Route}
use Rattle.sheet.specs.declared.state.Finish.{Finish}
use Rattle.sheet.specs.declared.state.Sheet.{Sheet}

-- The state count, the rows, and the routes of the finished rows, which are the first ones.
pub record Book : Type 0 where
  pub n : ℕ
  pub actions : List ActionRow
  pub rows : List FormulaRow
  pub finished : List Route

-- The routes of some finished rows, and their rounds.
abbrev pub routes_of : List Finish → List Route
routes_of fs = map (λ (f : Finish). f.route) fs

abbrev pub counts_of : List Finish → List ℕ
counts_of fs = map (λ (f : Finish). f.rounds) fs

-- The book of a sheet, and the rounds of its finished rows.
abbrev pub shown : Sheet → Book
shown s = record { n = s.n; actions = vec_items s.actions; rows = vec_items s.rows; finished = routes_of (vec_items s.finished) }

abbrev pub rounds_of : Sheet → List ℕ
rounds_of s = counts_of (vec_items s.finished)

-- A book without rows.
abbrev pub blank : ℕ → Book
blank n = record { n = n; actions = []; rows = []; finished = [] }

-- A list with one more at its end; nothing adds nothing.
abbrev pub added : {X : Type 0} → List X → Option X → List X
added xs None = xs
added xs (Some x) = xs ++ x ∷ []

-- The book with one more action row; with one more formula row.
abbrev pub noting : Option ActionRow → Book → Book
noting row b = record { n = b.n; actions = added b.actions row; rows = b.rows; finished = b.finished }

abbrev pub entering : Option FormulaRow → Book → Book
entering row b = record { n = b.n; actions = b.actions; rows = added b.rows row; finished = b.finished }

-- The book with its first unfinished row finished by a route.
abbrev pub finishing : Route → Book → Book
finishing route b = record { n = b.n; actions = b.actions; rows = b.rows; finished = b.finished ++ route ∷ [] }
