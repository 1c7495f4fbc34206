use Rattle.images.proofs.PointLaws as laws
use Rattle.images.proofs.point.planned_points_settle.Goals as goal

pub returns : goal.returns
returns c = laws.point_stands
