-- What a tester accepts.
use Rattle.std.specs.Prelude.{◌≡◌, ℕ, Bool, List}
use Rattle.rows.specs.declared.rows.ActionRow.{ActionRow}
use Rattle.rows.specs.declared.tester.Tester.{Tester}
use Rattle.rows.specs.Tests.{meets}

-- The tester is that of the row.
abbrev pub TesterOf : List ActionRow → ℕ → Tester → Type 0
TesterOf rows row t = (t.rows.now ≡ rows) × (t.row ≡ row)

-- Whether the action meets the tester's row.
abbrev pub accepted : Tester → ℕ → Bool
accepted t a = meets t.rows.now t.row a
