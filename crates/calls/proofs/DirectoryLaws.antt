-- The names in a directory of a volume, as the tree shows them.
use Rattle.std.proofs.Common.{◌≡◌, ◌↔◌, ℕ, List, [], ◌∷◌, ◌++◌, length, Option, Some, None, IsSome, refl, sym, ap, subst, ◌∙◌}
use Rattle.std.proofs.lemmas.Cmp.{nat_list_eq_equiv}
use Rattle.std.proofs.lemmas.Map.Views.{list_any-from_Contains, Contains-from_any}
use Rattle.std.proofs.lemmas.Slice.Eq.{bytes_eq-Decides}
use Rattle.model.specs.declared.limits.Limits.{Limits}
use Rattle.model.specs.Counting.{Counts}
use Rattle.model.specs.Outcomes.{IsListing}
use Rattle.model.specs.Paths.{Name, Path}
use Rattle.model.specs.Trees.{IsTree, Object, Description, Tree}
use Rattle.model.specs.Volumes.{Volume, entries, number_at, object_at, enter, tree_of, IsMounted, IsVolume}
use Rattle.calls.proofs.CountedLists.{counted_list}
use Rattle.model.proofs.ObjectLaws.{node_object}
use Rattle.model.proofs.WalkLemmas.{number_at-push}

module _ (limits : Limits) (v : Volume) (table : ℕ → Option Description) (volume : IsVolume limits v) where
  -- a name stands in a directory where it leads to an object
  named_object : (d : ℕ) (x : Name) (o : Option ℕ) → entries v d x ≡ o → IsSome (object_at v o) ↔ IsSome o
  named_object d x None is = (λ some. some, λ some. some)
  named_object d x (Some n) is = (λ some. refl, λ some. node_object n (v n) (volume.graph.naming.used d n x is))

  module _ (p : Path) (d : ℕ) (at : number_at (entries v) p ≡ Some d) where
    pub child : (x : Name) → (tree_of v table).objects (p ++ x ∷ []) ≡ object_at v (entries v d x)
    child x = ap (object_at v) (number_at-push (entries v) p x ∙ ap (λ (o : Option ℕ). enter (entries v) o x) at)

    pub child_some : (x : Name) → IsSome ((tree_of v table).objects (p ++ x ∷ [])) ↔ IsSome (entries v d x)
    child_some x =
        let both = named_object d x (entries v d x) refl in
        (λ some. both.0 (subst (λ (o : Option Object). IsSome o) (child x) some), λ some. subst (λ (o : Option Object). IsSome o) (sym (child x)) (both.1 some))

module _ (limits : Limits) (v : Volume) (table : ℕ → Option Description) (volume : IsVolume limits v) (mounted : IsMounted v table) (tree : IsTree limits (tree_of v table)) where
  abbrev t : Tree
  t = tree_of v table

  module _ (p : Path) (d : ℕ) (at : number_at (entries v) p ≡ Some d) where
    -- a directory with so many names has a listing of that length
    pub listing : (count : ℕ) → Counts (λ x. IsSome (entries v d x)) count → (names : List Name) × IsListing t p names × (length names ≡ count)
    listing count counts =
        let (names, are) = counted_list count (λ x. IsSome (entries v d x)) counts in (
          names,
          record {
            sorted = are.sorted;
            whole = λ x. (
              λ in_list. (child_some limits v table volume p d at x).1 ((are.whole x).0 (list_any-from_Contains nat_list_eq_equiv x names in_list)),
              λ there. Contains-from_any (λ a b. (bytes_eq-Decides a b).0) x names ((are.whole x).1 ((child_some limits v table volume p d at x).0 there)),
            );
          },
          are.many,
        )
