use Rattle.summary_laws.proofs.SummariesOfRuns.{four_landmarks, one_summary, sixteen_routes}
use Rattle.summary_laws.proofs.laws.sizes_have_one_summary.Goals as goal

pub returns-clause-summary : goal.returns-clause-summary
returns-clause-summary c = one_summary

pub returns-clause-landmarks : goal.returns-clause-landmarks
returns-clause-landmarks c = four_landmarks

pub returns-clause-routes : goal.returns-clause-routes
returns-clause-routes c = sixteen_routes
