use Rattle.rows.proofs.meeting.+row_says.Given as goal

abbrev pub decreases-row_says : goal.decreases-row_says
decreases-row_says l = l.row
