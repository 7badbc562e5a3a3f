-- Each turn moves on in the answers. Assumes nothing.
use Rattle.std.proofs.Common.{length}
use Rattle.replay.proofs.parts.hand_in.Given as goal

abbrev pub decreases-loop-first : goal.decreases-loop-first
decreases-loop-first l = length l.rest
