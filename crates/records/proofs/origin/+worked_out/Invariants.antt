use Rattle.records.proofs.origin.+worked_out.Given as goal

abbrev pub decreases-worked_out : goal.decreases-worked_out
decreases-worked_out l = l.left
