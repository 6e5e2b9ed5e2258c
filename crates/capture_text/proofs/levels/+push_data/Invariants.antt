use Rattle.capture_text.proofs.levels.+push_data.Given as goal

abbrev pub decreases-push_data : goal.decreases-push_data
decreases-push_data l = l.count
