-- The numbers that an object has are used, and the least other one is the number of a new object.
use Rattle.std.proofs.Common.{◌≡◌, inl, inr, ℕ, ◌≤◌, ◌<◌, true, Option, Some, None, is_some, IsSome, refl, sym, ap, ◌∙◌}
use Rattle.std.proofs.lemmas.Bool.{false≢true}
use Rattle.model.specs.declared.limits.Limits.{Limits}
use Rattle.model.specs.declared.limits.TheConstants.{OPEN_FILES}
use Rattle.model.specs.Trees.{Object, Description, IsUsed}
use Rattle.model.specs.Outcomes.{IsFresh}
use Rattle.model.specs.Volumes.{Node, Volume, entries, number_at, object_of, object_at, tree_of, is_file_node, IsGraph, is_open, swept_node}
use Rattle.model.specs.Laws.{VolumesTellFresh, VolumesTellUsed}
use Rattle.model.proofs.SweepLemmas.{found_number, not_unused}

module _ (v : Volume) (volume : IsGraph v) (table : ℕ → Option Description) (bounded : (d : ℕ) → OPEN_FILES ≤ d → table d ≡ None) (files : (d : ℕ) (f : Description) → table d ≡ Some f → is_file_node (v f.number) ≡ true) (is_swept : (n : ℕ) → swept_node (is_open table OPEN_FILES n) (v n) ≡ v n) where
  file_some : (o : Option Node) → is_file_node o ≡ true → IsSome o
  file_some None e = absurd (false≢true e)
  file_some (Some o) e = refl

  object_some : (n : ℕ) (o : Option Node) (r : Object) → object_of n o ≡ Some r → IsSome o
  object_some n None r e = cc
  object_some n (Some o) r e = refl

  pub used_some : (n : ℕ) → IsUsed (tree_of v table) n → IsSome (v n)
  used_some n (inl (p, r, is, same)) =
      let at = found_number v (number_at (entries v) p) r n is same in
      object_some n (v n) r (sym (ap (object_at v) at) ∙ is)
  used_some n (inr (d, f, is, same)) = ap (λ k. is_some (v k)) (sym same) ∙ file_some (v f.number) (files d f is)

  pub some_used : (n : ℕ) → IsSome (v n) → IsUsed (tree_of v table) n
  some_used n some = not_unused v volume table bounded n (λ none. false≢true (sym (ap is_some (sym (is_swept n) ∙ none)) ∙ some))

  pub fresh_from : (limits : Limits) (n : ℕ) → 4 ≤ n → n < limits.inodes → v n ≡ None → ((k : ℕ) → 4 ≤ k → k < n → IsSome (v k)) → IsFresh limits (tree_of v table) n
  fresh_from limits n low high free least = record {
    low = low;
    high = high;
    free = λ used. false≢true (sym (ap is_some free) ∙ used_some n used);
    least = λ k low below. some_used k (least k low below);
  }

pub volumes_tell_fresh : VolumesTellFresh
volumes_tell_fresh limits v table n volume mounted low high free least =
    fresh_from v volume.graph table mounted.bounded mounted.files mounted.is_swept limits n low high free least

pub volumes_tell_used : VolumesTellUsed
volumes_tell_used limits v table n volume mounted =
    let used_some_here = used_some v volume.graph table mounted.bounded mounted.files mounted.is_swept n in
    let some_used_here = some_used v volume.graph table mounted.bounded mounted.files mounted.is_swept n in
    (used_some_here, some_used_here)
