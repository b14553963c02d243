use Rattle.std.proofs.Common.{length}
use Rattle.data_trials.proofs.segment_graph_calls.leaving.Given as goal

abbrev pub decreases-loop-by : goal.decreases-loop-by
decreases-loop-by l = length l.around
