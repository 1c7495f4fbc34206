-- The numbers that stand at paths.
use Rattle.std.proofs.Common.{◌≡◌, inl, inr, ℕ, zero, suc, [], ◌∷◌, ◌++◌, true, false, Option, Some, None, is_some, IsSome, refl, sym, ap, ◌∙◌}
use Rattle.std.proofs.lemmas.Bool.{false≢true}
use Rattle.model.specs.declared.limits.Limits.{Limits}
use Rattle.model.specs.declared.limits.TheConstants.{ROOT_NUMBER}
use Rattle.model.specs.Laws.{VolumesTellNumbers}
use Rattle.model.specs.Paths.{Name, Path}
use Rattle.model.specs.Trees.{Description, HasPath, IsNumbered, Object, directory, file, number_of_object, symlink}
use Rattle.model.specs.Volumes.{IsVolume, Node, Volume, directory_node, entries, enter, file_node, is_directory_node, is_file_node, is_placed_node, link_node, names_in, number_at, object_at, object_of, tree_of}
use Rattle.model.proofs.ObjectLaws.{object_number}
use Rattle.model.proofs.OptionLaws.{none_some, some_same}
use Rattle.model.proofs.SweepLemmas.{count_some, found_number}
use Rattle.model.proofs.VolumeLemmas.{ends, last_step}
use Rattle.model.proofs.WalkLemmas.{number_at-push}

-- a directory alone has names
named_in : (o : Option Node) (x : Name) (n : ℕ) → names_in o x ≡ Some n → IsSome o × (is_file_node o ≡ false)
named_in None x n is = none_some is
named_in (Some (directory_node attributes names)) x n is = (refl, refl)
named_in (Some (file_node attributes links bytes)) x n is = none_some is
named_in (Some (link_node attributes text)) x n is = none_some is

module _ (limits : Limits) (v : Volume) (table : ℕ → Option Description) (n : ℕ) (volume : IsVolume limits v) where
  -- the number at a path is that of what stands there
  at_path : (p : Path) (o : Object) → object_at v (number_at (entries v) p) ≡ Some o → number_of_object o ≡ n → (number_at (entries v) p ≡ Some n) × (object_of n (v n) ≡ Some o)
  at_path p o is number =
      let at = found_number v (number_at (entries v) p) o n is number in
      (at, ap (object_at v) (sym at) ∙ is)

  placed : (p : Path) (o : Object) → number_at (entries v) p ≡ Some n → object_of n (v n) ≡ Some o → IsNumbered (tree_of v table) n o
  placed p o at object = record {
    has = (p, ap (object_at v) at ∙ object, object_number n (v n) o object);
    only = λ r (q, is, number). some_same (sym (at_path q r is number).1 ∙ object);
  }

  -- a file with a name stands at a path
  file_path : (d : ℕ) (x : Name) → entries v d x ≡ Some n → (p : Path) × (number_at (entries v) p ≡ Some n)
  file_path d x edge =
      let parent = named_in (v d) x n edge in
      let reached = volume.graph.naming.reached d parent.0 parent.1 in
      (reached.0 ++ x ∷ [], number_at-push (entries v) reached.0 x ∙ ap (λ o. enter (entries v) o x) reached.1 ∙ edge)

  -- what isn't the root and has a path has a name
  path_name : (p : Path) → number_at (entries v) p ≡ Some n → is_directory_node (v n) ≡ false → (d : ℕ) × (x : Name) × (entries v d x ≡ Some n)
  path_name p at other =
      elim (ends p) [
        | inl e ↦
            let root : ROOT_NUMBER ≡ n = some_same (sym (ap (number_at (entries v)) e) ∙ at) in
            absurd (false≢true (sym other ∙ ap (λ k. is_directory_node (v k)) (sym root) ∙ volume.graph.naming.root))
        | inr (u, x, e) ↦ let last = last_step (entries v) u x n (sym (ap (number_at (entries v)) e) ∙ at) in (last.0, x, last.2)
      ]

  tells : (o : Option Node) → v n ≡ o
      → (is_placed_node o ≡ true → (x : Object) × (object_of n o ≡ Some x) × IsNumbered (tree_of v table) n x) × (is_placed_node o ≡ false → ¬ HasPath (tree_of v table) n)
  tells None is = (λ placed. absurd (false≢true placed), λ none (p, o, there, number). none_some (sym (ap (object_of n) is) ∙ (at_path p o there number).1))
  tells (Some (directory_node attributes names)) is =
      let reached = volume.graph.naming.reached n (ap is_some is) (ap is_file_node is) in
      (λ placed_is. (directory n, refl, placed reached.0 (directory n) reached.1 (ap (object_of n) is)), λ none. absurd (false≢true (sym none)))
  tells (Some (link_node attributes text)) is =
      let reached = volume.graph.naming.reached n (ap is_some is) (ap is_file_node is) in
      (λ placed_is. (symlink n text, refl, placed reached.0 (symlink n text) reached.1 (ap (object_of n) is)), λ none. absurd (false≢true (sym none)))
  tells (Some (file_node attributes zero bytes)) is = (
    λ placed. absurd (false≢true placed),
    λ none (p, o, there, number).
        let name = path_name p (at_path p o there number).0 (ap is_directory_node is) in
        volume.graph.counts n attributes 0 bytes is (name.0, name.1) name.2,
  )
  tells (Some (file_node attributes (suc links) bytes)) is =
      let name = count_some (entries v) n links (volume.graph.counts n attributes (suc links) bytes is) in
      let path = file_path name.0 name.1 name.2 in
      (λ placed_is. (file n, refl, placed path.0 (file n) path.1 (ap (object_of n) is)), λ none. absurd (false≢true (sym none)))

pub volumes_tell_numbers : VolumesTellNumbers
volumes_tell_numbers limits v table n volume = tells limits v table n volume (v n) refl
