-- The parts of a formula row.
use Rattle.std.specs.Prelude.{◌≡◌, List}
use Rattle.rows.specs.declared.rows.ActionRow.{ActionRow}
use Rattle.rows.specs.declared.rows.FormulaRow.{FormulaRow}
use Rattle.rows.specs.Tests.{meets}
use Rattle.logic.specs.Operator.{operator, first_of, second_of}
use Rattle.columns.specs.declared.parts.Parts.{Parts}
use Rattle.columns.specs.Aim.{kind_of, operator_of}

-- They give the row's operator, over any action rows, and the formula rows that it names.
pub record Parted (row : FormulaRow) (p : Parts) : Type 0 where
  pub stands : (acts : List ActionRow) → operator_of (kind_of p.quantifier) p.connective (meets acts p.by) (meets acts p.closing) ≡ operator acts row
  pub first : p.first ≡ first_of row
  pub last : p.last ≡ second_of row
