use Rattle.std.proofs.Common.{◌≡◌, ◌++◌, length}
use Rattle.std.specs.List.{filter}
use Rattle.net_rules.specs.Flights.{is_ready, ticked}
use Rattle.follower_run.specs.Posts.{is_late}
use Rattle.follower_run.proofs.rounds.release.Given as goal

-- what is left still comes nearer
abbrev pub invariant-posts : goal.invariant-posts
invariant-posts l =
    (l.held.items ++ filter is_late (ticked l.left.items) ≡ filter is_late (ticked l.fn.held.items))
    × (l.coming.items ++ filter is_ready (ticked l.left.items) ≡ l.fn.coming.items ++ filter is_ready (ticked l.fn.held.items))

abbrev pub decreases-posts : goal.decreases-posts
decreases-posts l = length l.left.items
