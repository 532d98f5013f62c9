-- The rows of the kinds, and the rows that a row names.
use Rattle.std.specs.Prelude.{ℕ, Bool, false, ◌||◌, List, [], ◌∷◌, ◌++◌, Option, nat_le}
use Rattle.std.specs.List.{slice_get}
use Rattle.rows.specs.declared.rows.ActionRow.{ActionRow}
use Rattle.rows.specs.declared.rows.ActionRow.TheVariants as act
use Rattle.rows.specs.declared.rows.FormulaRow.{FormulaRow}
use Rattle.rows.specs.declared.rows.FormulaRow.TheVariants as row

-- The action row of a kind and its fields x and y, if there is such a kind; a kind's number is its place in this list.
abbrev pub action_row : ℕ → ℕ → ℕ → Option ActionRow
action_row kind x y = slice_get (act.Any ∷ act.Is x ∷ act.Not x ∷ act.And x y ∷ []) kind

-- The formula row of a kind and its fields, likewise; in their order p, c, d and q are r1, χ, χ' and r2.
abbrev pub formula_row : ℕ → ℕ → ℕ → ℕ → ℕ → Option FormulaRow
formula_row kind p c d q =
    slice_get
    (row.True ∷ row.Not p ∷ row.And p q
    ∷ row.ExistsNext c p ∷ row.ExistsSilent p ∷ row.AllNext c p ∷ row.AllSilent p
    ∷ row.ExistsUntil p c q ∷ row.ExistsUntilBy p c d q ∷ row.AllUntil p c q ∷ row.AllUntilBy p c d q ∷ [])
    kind

-- The action rows that an action row names.
abbrev pub action_names : ActionRow → List ℕ
action_names act.Any = []
action_names (act.Is x) = []
action_names (act.Not p) = p ∷ []
action_names (act.And p q) = p ∷ q ∷ []

-- The formula rows that a formula row names.
abbrev pub row_names : FormulaRow → List ℕ
row_names row.True = []
row_names (row.Not p) = p ∷ []
row_names (row.And p q) = p ∷ q ∷ []
row_names (row.ExistsNext c p) = p ∷ []
row_names (row.ExistsSilent p) = p ∷ []
row_names (row.AllNext c p) = p ∷ []
row_names (row.AllSilent p) = p ∷ []
row_names (row.ExistsUntil p c q) = p ∷ q ∷ []
row_names (row.ExistsUntilBy p c d q) = p ∷ q ∷ []
row_names (row.AllUntil p c q) = p ∷ q ∷ []
row_names (row.AllUntilBy p c d q) = p ∷ q ∷ []

-- The action rows that a formula row names.
abbrev pub test_names : FormulaRow → List ℕ
test_names row.True = []
test_names (row.Not p) = []
test_names (row.And p q) = []
test_names (row.ExistsNext c p) = c ∷ []
test_names (row.ExistsSilent p) = []
test_names (row.AllNext c p) = c ∷ []
test_names (row.AllSilent p) = []
test_names (row.ExistsUntil p c q) = c ∷ []
test_names (row.ExistsUntilBy p c d q) = c ∷ d ∷ []
test_names (row.AllUntil p c q) = c ∷ []
test_names (row.AllUntilBy p c d q) = c ∷ d ∷ []

-- Some of the numbers is not below the limit.
abbrev pub beyond : ℕ → List ℕ → Bool
beyond limit [] = false
beyond limit (x ∷ xs) = nat_le limit x || beyond limit xs

-- The values of rows, in order, after those of earlier rows: each is made from the values before it and its row.
abbrev pub in_turn : {R V : Type 0} → (List V → R → V) → List V → List R → List V
in_turn make before [] = before
in_turn make before (row ∷ rows) = in_turn make (before ++ make before row ∷ []) rows
