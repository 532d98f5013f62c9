use Rattle.std.proofs.Common.{◌∙◌, rules}
use Rattle.job.proofs.Routes.{unknown_route}
use Rattle.job.proofs.field.Field.has_no_route.Goals as goal

pub returns-in-Head-len5 : goal.returns-in-Head-len5
returns-in-Head-len5 c =
    let e = c.is_err.ensures.value ∙ unknown_route _ _ c.try_from.ensures in search rules
