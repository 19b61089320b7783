use Rattle.mm_sides.proofs.SideIssues.{sides_issue_names}
use Rattle.mm_sides.proofs.laws.sides_issue_names.Goals as goal

pub returns : goal.returns
returns c = sides_issue_names
