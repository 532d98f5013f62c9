-- The bytes of a row's fields, and the row that they make.
use Rattle.std.specs.Prelude.{◌≡◌, ℕ, List, [], ◌∷◌, Some, None, Option, Result, MatchResult}
use Rattle.rows.specs.declared.fields.ActionFields.{ActionFields}
use Rattle.rows.specs.declared.fields.FormulaFields.{FormulaFields}
use Rattle.rows.specs.declared.fields.UnknownKind.{UnknownKind}

-- The bytes, in order.
abbrev pub bytes_of_action : ActionFields → List ℕ
bytes_of_action f = f.kind ∷ f.x ∷ f.y ∷ []

abbrev pub bytes_of_formula : FormulaFields → List ℕ
bytes_of_formula f = f.kind ∷ f.r1 ∷ f.by ∷ f.last ∷ f.r2 ∷ []

-- The result is the row, if there is one of that kind; else the error names the kind.
abbrev pub Makes : {R : Type 0} → ℕ → Option R → Result R UnknownKind → Type 0
Makes kind row r = MatchResult r (λ x. row ≡ Some x) (λ e. (row ≡ None) × (e.0 ≡ kind))
