-- What the action rows say of actions.
use Rattle.std.specs.Prelude.{◌≡◌, ℕ, Bool, true, false, not, ◌&&◌, ◌||◌, List, [], length, get_or, Some, None, Option, ◌==◌, slice_index_or}
use Rattle.rows.specs.declared.rows.ActionRow.{ActionRow}
use Rattle.rows.specs.declared.rows.ActionRow.TheVariants.{Any, Is, Not, And}
use Rattle.rows.specs.Rows.{action_names, beyond, in_turn}

-- Action 0 is silent; each other action is visible.
abbrev pub silent : ℕ → Bool
silent a = a == 0

abbrev pub visible : ℕ → Bool
visible a = not (silent a)

-- The action is visible and the test accepts it.
abbrev pub seen : (ℕ → Bool) → ℕ → Bool
seen c a = visible a && c a

-- The action is silent or the test accepts it.
abbrev pub passes : (ℕ → Bool) → ℕ → Bool
passes c a = silent a || c a

-- What a row says of a visible action a, where `before p` is what row p says of it.
abbrev pub says : ActionRow → (ℕ → Bool) → ℕ → Bool
says Any before a = true
says (Is x) before a = a == x
says (Not p) before a = not (before p)
says (And p q) before a = before p && before q

-- What it says as row number n: no, if it names a row that is not earlier.
abbrev pub verdict : ActionRow → ℕ → (ℕ → Bool) → ℕ → Bool
verdict row n before a = not (beyond n (action_names row)) && says row before a

-- The verdicts of the rows on the action, in order.
abbrev pub verdicts : List ActionRow → ℕ → List Bool
verdicts rows a = in_turn (λ earlier row. verdict row (length earlier) (λ p. get_or earlier p false) a) [] rows

-- The verdict of row number `row` on a visible action; a row that is not there says no.
abbrev pub row_says : List ActionRow → ℕ → ℕ → Bool
row_says rows row a = slice_index_or (verdicts rows a) row false

-- Whether an action meets the row of that number: it is visible, and the row says yes.
abbrev pub meets : List ActionRow → ℕ → ℕ → Bool
meets rows row a = visible a && row_says rows row a

-- Each answer that is known, at a row's number, is what that row says of the action.
unfoldable pub Remembers : List ActionRow → ℕ → List (Option Bool) → Type 0
Remembers rows a known = (p : ℕ) (b : Bool) → slice_index_or known p None ≡ Some b → b ≡ row_says rows p a
