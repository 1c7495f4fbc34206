-- A file's count of names is its count of paths.
use Rattle.std.proofs.Common.{◌≡◌, ◌≢◌, ◌⊎◌, inl, inr, ℕ, [], ◌∷◌, ◌++◌, length, true, false, Option, Some, None, refl, sym, ap, ◌∙◌, length-append, arith}
use Rattle.std.specs.Prelude.{unwrap_or}
use Rattle.std.proofs.lemmas.Bool.{cases_Bool, false≢true}
use Rattle.std.proofs.lemmas.List.{same_from_push}
use Rattle.model.specs.Paths.{Name, Path}
use Rattle.model.specs.Trees.{Tree, file, Description}
use Rattle.model.specs.Outcomes.{HasLinks}
use Rattle.model.specs.Volumes.{Node, directory_node, file_node, link_node, Volume, entries, enter, number_at, object_of, object_at, tree_of, is_file_node, is_directory_node, IsGraph, HasNames}
use Rattle.model.specs.Laws.{VolumesTellLinks}
use Rattle.model.proofs.WalkLemmas.{number_at-push}
use Rattle.model.proofs.VolumeLemmas.{ends, directory_some, alone, enters_directory, directory_no_file, last_step}
use Rattle.model.proofs.CountLemmas.{count_along}

number_by : (k n : ℕ) (o : Option Node) → object_of k o ≡ Some (file n) → Some k ≡ Some n
number_by k n None e = cc
number_by k n (Some (directory_node attributes names)) e = cc
number_by k n (Some (file_node attributes links bytes)) e = cc
number_by k n (Some (link_node attributes text)) e = cc

object_number : (v : Volume) (o : Option ℕ) (n : ℕ) → object_at v o ≡ Some (file n) → o ≡ Some n
object_number v None n e = cc
object_number v (Some k) n e = number_by k n (v k) e

file_object : (o : Option Node) (n : ℕ) → is_file_node o ≡ true → object_of n o ≡ Some (file n)
file_object None n e = cc
file_object (Some (directory_node attributes names)) n e = cc
file_object (Some (file_node attributes links bytes)) n e = refl
file_object (Some (link_node attributes text)) n e = cc

no_file_object : (o : Option Node) (k n : ℕ) → is_directory_node o ≡ true → object_of k o ≢ Some (file n)
no_file_object None k n e = cc
no_file_object (Some (directory_node attributes names)) k n e = λ is. cc
no_file_object (Some (file_node attributes links bytes)) k n e = cc
no_file_object (Some (link_node attributes text)) k n e = cc

module _ (v : Volume) (volume : IsGraph v) (table : ℕ → Option Description) (n : ℕ) (a_file : is_file_node (v n) ≡ true) where
  abbrev t : Tree
  t = tree_of v table

  reached : (d : ℕ) → is_directory_node (v d) ≡ true → (p : Path) × (number_at (entries v) p ≡ Some d)
  reached d is = volume.naming.reached d (directory_some (v d) is) (directory_no_file (v d) is)

  abbrev path_by : (d : ℕ) → (is_directory_node (v d) ≡ true) ⊎ (is_directory_node (v d) ≡ false) → Path
  path_by d (inl is) = (reached d is).0
  path_by d (inr other) = []

  abbrev path_of : ℕ × Name → Path
  path_of (d, x) = path_by d (cases_Bool (is_directory_node (v d))) ++ x ∷ []

  abbrev place_by : (p : Path) → (p ≡ []) ⊎ ((u : Path) × (x : Name) × (p ≡ u ++ x ∷ [])) → ℕ × Name
  place_by p (inl e) = (0, [])
  place_by p (inr (u, x, e)) = (unwrap_or (number_at (entries v) u) 0, x)

  abbrev place_of : Path → ℕ × Name
  place_of p = place_by p (ends p)

  path-is : (d : ℕ) (c : (is_directory_node (v d) ≡ true) ⊎ (is_directory_node (v d) ≡ false)) → is_directory_node (v d) ≡ true → number_at (entries v) (path_by d c) ≡ Some d
  path-is d (inl is) a_directory = (reached d is).1
  path-is d (inr other) a_directory = absurd (false≢true (sym other ∙ a_directory))

  place-push : (p : Path) (c : (p ≡ []) ⊎ ((u : Path) × (x : Name) × (p ≡ u ++ x ∷ []))) (u : Path) (x : Name) (d : ℕ) → p ≡ u ++ x ∷ [] → number_at (entries v) u ≡ Some d → place_by p c ≡ (d, x)
  place-push p (inl e) u x d is at_u = let size : 0 ≡ length (u ++ x ∷ []) = ap length (sym e ∙ is) in absurd (omega (arith, length-append u (x ∷ []), size))
  place-push p (inr (w, y, e)) u x d is at_u =
      let back = same_from_push w u y x (sym e ∙ is) in
      let found : unwrap_or (number_at (entries v) w) 0 ≡ d = ap (λ q. unwrap_or (number_at (entries v) q) 0) back.0 ∙ ap (λ o. unwrap_or o 0) at_u in
      let last : y ≡ x = back.1 in cc

  at_path : (d : ℕ) (x : Name) → entries v d x ≡ Some n → (c : (is_directory_node (v d) ≡ true) ⊎ (is_directory_node (v d) ≡ false)) → number_at (entries v) (path_by d c) ≡ Some d
  at_path d x is c = path-is d c (enters_directory (v d) x n is)

  pub links_are : (count : ℕ) → HasNames (entries v) n count → HasLinks t (file n) count
  links_are count names =
      count_along (λ (place : ℕ × Name). entries v place.0 place.1 ≡ Some n) (λ p. t.objects p ≡ Some (file n)) path_of place_of count
      (λ (d, x) is.
      let at_d = at_path d x is (cases_Bool (is_directory_node (v d))) in (
        ap (object_at v) (number_at-push (entries v) (path_by d (cases_Bool (is_directory_node (v d)))) x ∙ ap (λ o. enter (entries v) o x) at_d ∙ is) ∙ file_object (v n) n a_file,
        place-push (path_of (d, x)) (ends (path_of (d, x))) (path_by d (cases_Bool (is_directory_node (v d)))) x d refl at_d,
      ))
      (λ p is. back_to p is)
      names
    where
      back_to : (p : Path) → t.objects p ≡ Some (file n) → (entries v (place_of p).0 (place_of p).1 ≡ Some n) × (path_of (place_of p) ≡ p)
      back_to p is = elim (ends p) [
        | inl e ↦ absurd (no_file_object (v 3) 3 n volume.naming.root (ap t.objects (sym e) ∙ is))
        | inr (u, x, e) ↦
            let last = last_step (entries v) u x n (ap (number_at (entries v)) (sym e) ∙ object_number v (number_at (entries v) p) n is) in
            let place : place_of p ≡ (last.0, x) = place-push p (ends p) u x last.0 e last.1 in
            let is_one = enters_directory (v last.0) x n last.2 in
            let path : path_of (last.0, x) ≡ p = ap (λ q. q ++ x ∷ []) (alone v volume (path_by last.0 (cases_Bool (is_directory_node (v last.0)))) u last.0 (at_path last.0 x last.2 (cases_Bool (is_directory_node (v last.0)))) last.1 (directory_no_file (v last.0) is_one)) ∙ sym e in
            (ap (λ (q : ℕ × Name). entries v q.0 q.1) place ∙ last.2, ap path_of place ∙ path)
      ]

pub volumes_tell_links : VolumesTellLinks
volumes_tell_links limits v table n attributes links bytes volume is =
    links_are v volume.graph table n (ap is_file_node is) links (volume.graph.counts n attributes links bytes is)
