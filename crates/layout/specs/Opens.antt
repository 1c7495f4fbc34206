-- Which root of two slots is the newest.
use Rattle.std.specs.Prelude.{ℕ, ◌≡◌, ◌⊎◌, ◌<◌, List}
use Rattle.layout.specs.Root.{IsRoot, root_bytes}
use Rattle.layout.specs.declared.root.Root.{Root}

-- a slot holds this root
pub record HoldsRoot (bytes : List ℕ) (r : Root) : Type 0 where
  pub root : IsRoot r
  pub spelled : bytes ≡ root_bytes r

-- any root that a slot holds is older than this one, and of the same sizes
abbrev pub HoldsOlder : List ℕ → Root → Type 0
HoldsOlder bytes r = (other : Root) → HoldsRoot bytes other → (other.generation < r.generation) × (other.geometry ≡ r.geometry)

-- the newest root of two slots
abbrev pub IsNewest : Root → List ℕ → List ℕ → Type 0
IsNewest r a b = (HoldsRoot a r × HoldsOlder b r) ⊎ (HoldsRoot b r × HoldsOlder a r)
