use Rattle.fib_follow_looked.proofs.shorts.+longest_beside.Given as goal

abbrev pub decreases-longest_beside : goal.decreases-longest_beside
decreases-longest_beside l = l.limit
