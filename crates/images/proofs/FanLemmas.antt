-- Pointers of an indirect block, at each fan-out.
use Rattle.std.proofs.Common.{◌≡◌, ◌/◌, ◌%◌, refl}
use Rattle.layout.specs.Trees.{fan_out}
use Rattle.layout.specs.declared.trees.Layout.{Layout}
use Rattle.layout.specs.declared.trees.Layout.TheVariants.{Plain, Summed}

pub zero_up : (l : Layout) → 0 / fan_out l ≡ 0
zero_up Plain = refl
zero_up Summed = refl

pub zero_pointer : (l : Layout) → 0 % fan_out l ≡ 0
zero_pointer Plain = refl
zero_pointer Summed = refl
