-- The limits of an image are such as a file system can have.
use Rattle.std.proofs.Common.{ℕ, ◌≤◌, arith}
use Rattle.model.specs.Limits.{AreLimits}
use Rattle.layout.specs.Limits.{Sizes}
use Rattle.model.specs.declared.costs.Costs.{Costs}
use Rattle.layout.specs.StateLimits.{costs_of, limits_of}
use Rattle.layout.specs.Trees.{greatest_size}
use Rattle.layout.specs.declared.limits.TheConstants.{FILE_COST, GREAT_FILE_COST, HEADROOM_BLOCKS, MODE_COST, NAMES_COST}
use Rattle.layout.specs.declared.trees.Layout.{Layout}
use Rattle.layout.specs.declared.trees.Layout.TheVariants.{Plain, Summed}

pub greatest_most : (l : Layout) → greatest_size l ≤ 8796093022208
greatest_most Plain = omega arith
greatest_most Summed = omega arith

pub limits_can_be : (s : Sizes) → AreLimits (limits_of s)
limits_can_be s = record {
  files = let most = greatest_most s.layout in omega (arith, most);
  named = omega arith;
}

-- what records cost is no less than where objects have no times
pub record CostsAtLeast (costs : Costs) : Type 0 where
  pub adds_name : NAMES_COST ≤ costs.adds_name
  pub removes_name : NAMES_COST ≤ costs.removes_name
  pub file : FILE_COST ≤ costs.file
  pub great_file : GREAT_FILE_COST ≤ costs.great_file
  pub mode : MODE_COST ≤ costs.mode
  pub headroom : HEADROOM_BLOCKS ≤ costs.headroom

pub costs_at_least : (layout : Layout) (blocks : ℕ) → CostsAtLeast (costs_of layout blocks)
costs_at_least Plain blocks = record { adds_name = omega arith; removes_name = omega arith; file = omega arith; great_file = omega arith; mode = omega arith; headroom = omega arith }
costs_at_least Summed blocks = record { adds_name = omega arith; removes_name = omega arith; file = omega arith; great_file = omega arith; mode = omega arith; headroom = omega arith }
