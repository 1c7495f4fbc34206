-- Links that are followed.
use Rattle.std.proofs.Common.{◌≡◌, ◌∙◌, ℕ, zero, suc, Bool, List, [], ◌++◌, Option, cond, refl, sym, ap, subst}
use Rattle.model.specs.Finding.{halts, halts_at_link, Place, IsPlaceOf, find_along, find_on, find_within}
use Rattle.model.specs.declared.limits.Limits.{Limits}
use Rattle.model.specs.Laws.{ResolvesByNumbers}
use Rattle.model.specs.Paths.{Name, parts, starts_with_slash}
use Rattle.model.specs.Resolution.{resolve}
use Rattle.model.specs.Trees.{Description}
use Rattle.model.specs.Volumes.{Volume, IsVolume, tree_of}
use Rattle.paths.specs.Following.{find_left}

module _ (v : Volume) (follow : Bool) (trail : List ℕ) (names : List Name) where
  -- a walk, and then those that are left
  one_walk : (left : ℕ) → find_left (suc left) v follow trail names ≡ find_on (find_left left v follow) (find_along v follow trail names)
  one_walk zero = refl
  one_walk (suc left) = refl

  -- a walk that ends
  pub ends : (left : ℕ) (place : Place) → halts place ≡ find_along v follow trail names → find_left (suc left) v follow trail names ≡ place
  ends left place halt = one_walk left ∙ ap (find_on (find_left left v follow)) (sym halt)

  -- a walk to a link: its parts come before the rest
  pub follows_link : (left : ℕ) (directory text : List ℕ) (rest : List Name) → halts_at_link directory text rest ≡ find_along v follow trail names
      → find_left (suc left) v follow trail names ≡ find_left left v follow (cond (starts_with_slash text) [] directory) (parts text ++ rest)
  follows_link left directory text rest halt = one_walk left ∙ ap (find_on (find_left left v follow)) (sym halt)

-- where the parts of a text lead, in the words of paths
pub leads : ResolvesByNumbers → (limits : Limits) (v : Volume) (table : ℕ → Option Description) (follow : Bool) (text : List ℕ) (path : List Name) (place : Place)
    → IsVolume limits v → path ≡ parts text → place ≡ find_within 8 v follow [] path → IsPlaceOf v place (resolve (tree_of v table) follow text)
leads law limits v table follow text path place volume are is =
    subst (λ p. IsPlaceOf v p (resolve (tree_of v table) follow text)) (sym (is ∙ ap (find_within 8 v follow []) are)) (law limits v table follow text volume)
