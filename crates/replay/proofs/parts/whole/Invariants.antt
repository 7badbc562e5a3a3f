-- Each turn moves on in the answers. Assumes nothing.
use Rattle.std.proofs.Common.{length}
use Rattle.replay.proofs.parts.whole.Given as goal

abbrev pub decreases-loop-behind : goal.decreases-loop-behind
decreases-loop-behind l = length l.rest
