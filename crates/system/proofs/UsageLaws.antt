-- How much room there is, and for how many objects.
use Rattle.std.proofs.Common.{◌≡◌, ◌↔◌, ◌-◌, ◌≤◌, ◌<◌, ◌∙◌, ℕ, inl, inr, Option, Some, None, IsSome, ap, sym, subst, arith}
use Rattle.std.specs.Prelude.{IfNone, IfSome, MatchOption}
use Rattle.layout.specs.StateLimits.{limits_of}
use Rattle.station.specs.Moments.{Meaning}
use Rattle.station.specs.declared.station.Station.{Ghosts}
use Rattle.layout.specs.Limits.{Sizes}
use Rattle.layout.specs.Maps.{IsTaken}
use Rattle.layout.specs.Places.{blocks_of}
use Rattle.model.specs.Counting.{Counts}
use Rattle.model.specs.Laws.{VolumesTellUsed}
use Rattle.model.specs.Outcomes.{HasNoFresh, IsFresh}
use Rattle.model.specs.Room.{Room, reserved_of}
use Rattle.model.specs.Records.{pledged_for}
use Rattle.model.specs.States.{State}
use Rattle.model.specs.Steps.{usage_of}
use Rattle.model.specs.Trees.{Description, IsUsed, Tree}
use Rattle.model.specs.Volumes.{IsVolume, tree_of}
use Rattle.model.specs.declared.limits.TheConstants.{FIRST_NUMBER}
use Rattle.model.specs.declared.reply.Usage.{Usage}
use Rattle.model.proofs.CountLemmas.{same_count}
use Rattle.images.specs.Roots.{whole}
use Rattle.inofile.specs.Volumes.{IsVolumeOf}
use Rattle.loading.specs.Images.{inodes_of}
use Rattle.system.specs.Systems.{HasState, IsServing, Parts, disk_of}
use Rattle.system.specs.declared.system.System.{System}
use Rattle.system.proofs.RoomLaws.{free_of}

module _ {S : Type 0} {G : Ghosts S} (f : System S G) (table : ℕ → Option Description) (s : State) (serves : HasState f table s) where
  -- as many numbers are used as memory counts objects
  pub used_counted : VolumesTellUsed → (count : ℕ)
      → (IsVolumeOf f.root.geometry.blocks (blocks_of (disk_of f)) (inodes_of (whole (blocks_of (disk_of f)) f.root).active) f.inodes serves.running
      → IsVolume (limits_of f.inodes.geometry) serves.running → Counts (λ n. IsSome (serves.running n)) count)
      → Counts (IsUsed s.tree) count
  used_counted law count counted =
      let limits = limits_of f.root.geometry in
      let running = serves.running in
      let volume = subst (λ (g : Sizes). IsVolume (limits_of g) running) (sym f.sizes) serves.memory.volume in
      subst (λ (t : Tree). Counts (IsUsed t) count) (sym (ap (λ (u : State). u.tree) serves.state))
      (same_count (λ n. IsSome (running n)) (IsUsed (tree_of running table)) count
      (λ n. let told = law limits running table n serves.memory.volume serves.mounted in (told.1, told.0))
      (counted serves.memory.stands volume))

  -- what is pledged is free
  pub pledged_free : (pledged : ℕ) → pledged ≡ pledged_for (limits_of serves.settled.root.geometry) serves.settled.volume serves.lasts.replayed.changes → pledged ≤ free_of serves.settled
  pledged_free pledged is = omega (arith, is, serves.lasts.reserved)

-- what is told of a room and a state
pub usage_is : (room : Room) (s : State) (given : Usage) → given.blocks ≡ room.blocks → given.free ≡ room.free → given.reserved ≡ reserved_of room → given.inodes ≡ s.limits.inodes - 3
    → given ≡ usage_of room s given.taken
usage_is room s given blocks free reserved inodes = λ i. record { blocks = blocks i; free = free i; reserved = reserved i; inodes = inodes i; taken = given.taken }

-- ---- which numbers are used

module _ {m : Meaning} {k : Parts} {table : ℕ → Option Description} {s : State} (serves : IsServing m k table s) (same : k.inodes.geometry ≡ k.root.geometry) (law : VolumesTellUsed) where
  used_some : (n : ℕ) → IsUsed s.tree n ↔ IsSome (serves.running n)
  used_some n =
      subst (λ (t : Tree). IsUsed t n ↔ IsSome (serves.running n)) (sym (ap (λ (u : State). u.tree) serves.state))
      (law (limits_of k.root.geometry) serves.running table n serves.memory.volume serves.mounted)

  -- those that the map has as taken
  pub taken_used : (n : ℕ) → FIRST_NUMBER ≤ n → IsTaken k.inodes.numbers.bytes.items n → IsUsed s.tree n
  taken_used n low taken = elim ((serves.memory.stands.mapped n).0 taken) [
    | inl own ↦ absurd (omega (arith, low, own))
    | inr some ↦ (used_some n).1 some
  ]

  pub used_taken : (n : ℕ) → IsUsed s.tree n → IsTaken k.inodes.numbers.bytes.items n
  used_taken n used = (serves.memory.stands.mapped n).1 (inr ((used_some n).0 used))

  pub its_inodes : k.inodes.geometry.inodes ≡ s.limits.inodes
  its_inodes = ap (λ (sizes : Sizes). sizes.inodes) same ∙ sym (ap (λ (u : State). u.limits.inodes) serves.state)

  -- from the number of inodes on there is none
  pub none_past : (n : ℕ) → FIRST_NUMBER ≤ n → k.inodes.geometry.inodes ≤ n → IsUsed s.tree n → ⊥
  none_past n low past used = elim (serves.memory.volume.keeps.numbers n ((used_some n).0 used)) [
    | inl root ↦ omega (arith, low, root)
    | inr within ↦ omega (arith, within.1, past, ap (λ (sizes : Sizes). sizes.inodes) same)
  ]

  -- the least one that isn't taken is that of a new object
  pub fresh_found : (found : Option ℕ) → IfSome found (λ n. (FIRST_NUMBER ≤ n) × (n < k.inodes.geometry.inodes)) → IfSome found (λ n. IsTaken k.inodes.numbers.bytes.items n → ⊥)
      → IfSome found (λ n. (j : ℕ) → FIRST_NUMBER ≤ j → j < n → IsTaken k.inodes.numbers.bytes.items j)
      → IfNone found ((j : ℕ) → FIRST_NUMBER ≤ j → j < k.inodes.geometry.inodes → IsTaken k.inodes.numbers.bytes.items j)
      → MatchOption found (HasNoFresh s.limits s.tree) (IsFresh s.limits s.tree)
  fresh_found (Some n) within free least none = record {
    low = within.0;
    high = omega (arith, within.1, its_inodes);
    free = λ used. free (used_taken n used);
    least = λ j low high. taken_used j low (least j low high);
  }
  fresh_found None within free least none = λ n low high. taken_used n low (none n low (omega (arith, high, its_inodes)))
