-- How many numbers are taken.
use Rattle.std.proofs.Common.{◌≡◌, ◌≢◌, ◌↔◌, inl, inr, ℕ, ◌+◌, ◌≤◌, ◌<◌, true, List, Option, Some, None, IsSome, refl, sym, subst, arith, add-one}
use Rattle.std.proofs.lemmas.Bool.{false≢true}
use Rattle.layout.specs.Maps.{IsTaken}
use Rattle.model.specs.Counting.{Counts}
use Rattle.model.specs.declared.limits.Limits.{Limits}
use Rattle.model.specs.Volumes.{Node, Volume, IsVolume, is_directory_node}
use Rattle.model.proofs.CountLemmas.{one_more, same_count}
use Rattle.inofile.specs.Volumes.{MapsVolume}

module _ (bytes : List ℕ) where
  -- an object's number below this one, but for the root's, is taken
  abbrev pub TakenBelow : ℕ → ℕ → Type 0
  TakenBelow to n = (4 ≤ n) × (n < to) × IsTaken bytes n

  -- with the next number, which is taken
  pub one_taken : (k count : ℕ) → 4 ≤ k → IsTaken bytes k → Counts (TakenBelow k) count → Counts (TakenBelow (k + 1)) (count + 1)
  one_taken k count low taken counts =
      subst (Counts (TakenBelow (k + 1))) (sym (add-one count))
      (one_more (TakenBelow k) (TakenBelow (k + 1)) k count (low, omega arith, taken) others counts)
    where
      others : (n : ℕ) → TakenBelow k n ↔ (TakenBelow (k + 1) n × (n ≢ k))
      others n = (
        (λ is. ((is.0, omega (arith, is.1), is.2), λ e. omega (arith, is.1, e))),
        (λ is. (is.0.0, omega (arith, is.0.1, is.1), is.0.2)),
      )

  -- and with one that isn't
  pub none_taken : (k count : ℕ) → (IsTaken bytes k → ⊥) → Counts (TakenBelow k) count → Counts (TakenBelow (k + 1)) count
  none_taken k count free counts = same_count (TakenBelow k) (TakenBelow (k + 1)) count same counts
    where
      other : (n : ℕ) → TakenBelow (k + 1) n → n ≢ k
      other n is e = free (subst (IsTaken bytes) e is.2)

      same : (n : ℕ) → TakenBelow k n ↔ TakenBelow (k + 1) n
      same n = (
        (λ is. (is.0, omega (arith, is.1), is.2)),
        (λ is. (is.0, (let apart : n ≢ k = other n is in omega (arith, is.1, apart)), is.2)),
      )

  -- those and the root's have the objects of a volume
  pub objects_counted : (v : Volume) (limits : Limits) (count : ℕ) → MapsVolume bytes v → IsVolume limits v → Counts (TakenBelow limits.inodes) count → Counts (λ n. IsSome (v n)) (count + 1)
  objects_counted v limits count maps volume counts =
      subst (Counts (λ n. IsSome (v n))) (sym (add-one count))
      (one_more (TakenBelow limits.inodes) (λ n. IsSome (v n)) 3 count (directory_some (v 3) volume.graph.naming.root) others counts)
    where
      directory_some : (o : Option Node) → is_directory_node o ≡ true → IsSome o
      directory_some None is = absurd (false≢true is)
      directory_some (Some o) is = refl

      ordinary : (n : ℕ) → IsSome (v n) → n ≢ 3 → (4 ≤ n) × (n < limits.inodes)
      ordinary n some apart = elim (volume.keeps.numbers n some) [ inl root ↦ absurd (apart root) | inr is ↦ is ]

      there : (n : ℕ) → TakenBelow limits.inodes n → IsSome (v n)
      there n is = elim ((maps n).0 is.2) [ inl own ↦ absurd (omega (arith, own, is.0)) | inr some ↦ some ]

      others : (n : ℕ) → TakenBelow limits.inodes n ↔ (IsSome (v n) × (n ≢ 3))
      others n = (
        (λ is. (there n is, λ e. omega (arith, is.0, e))),
        (λ is. let within = ordinary n is.0 is.1 in (within.0, within.1, (maps n).1 (inr is.0))),
      )
