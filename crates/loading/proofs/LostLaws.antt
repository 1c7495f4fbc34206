-- Slots that can't be read.
use Rattle.std.proofs.Common.{◌≡◌, ℕ, List, [], None, sym, ap, ◌∙◌, arith}
use Rattle.std.specs.Prelude.{slice_index}
use Rattle.layout.specs.Root.{head_bytes}
use Rattle.layout.specs.declared.root.Root.{Root}
use Rattle.layout.specs.Opens.{HoldsRoot}
use Rattle.loading.specs.Slots.{TellsRoot}

-- a slot without bytes holds no root: a root begins with a letter
holds_none : (bytes : List ℕ) (r : Root) → bytes ≡ [] → HoldsRoot bytes r → {X : Type 0} → X
unfolding head_bytes
holds_none bytes r none it = let first : 0 ≡ 87 = ap (λ (l : List ℕ). slice_index l 0) (sym none ∙ it.spelled) in absurd (omega (arith, first))

pub lost_tells : (bytes : List ℕ) → bytes ≡ [] → TellsRoot bytes None
lost_tells bytes none r = (λ it. holds_none bytes r none it, λ same. absurd (cc))
