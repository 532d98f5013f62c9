use Rattle.std.proofs.Common.{rules}
use Rattle.job.proofs.Routes.{known_route}
use Rattle.job.proofs.parts.SoundJob.keep_head.Goals as goal

pub unwrap-self-requires : goal.unwrap-self-requires
unwrap-self-requires c = known_route _ _ c.try_from-2.ensures (search rules)
