use Rattle.rows.proofs.Verdicts.{remembers_none}
use Rattle.rows.proofs.meeting.action_meets.Goals as goal

pub row_says-requires : goal.row_says-requires
row_says-requires c = remembers_none c.args.rows.now c.args.action 256
