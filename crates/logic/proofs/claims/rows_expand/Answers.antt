use Rattle.logic.proofs.claims.rows_expand.Goals as goal
use Rattle.logic.proofs.Stands.{rows_expand_lem}

pub returns : goal.returns
returns c = rows_expand_lem
