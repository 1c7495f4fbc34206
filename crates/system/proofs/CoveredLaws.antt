-- A system that has nothing beside its root.
use Rattle.std.proofs.Common.{◌≡◌, ℕ, ◌+◌, ◌≤◌, ◌^◌, List, [], ◌∷◌, Option, None, refl, ap, sym, subst, ◌∙◌, arith, inl, inr}
use Rattle.std.specs.Prelude.{map}
use Rattle.station.specs.declared.station.Station.{Ghosts}
use Rattle.station.specs.Moments.{Meaning, MayLeave}
use Rattle.layout.specs.Limits.{Sizes}
use Rattle.layout.specs.Log.{half_of}
use Rattle.layout.specs.Places.{blocks_of}
use Rattle.layout.specs.Record.{Change, change_bytes}
use Rattle.layout.specs.declared.inode.Inode.{Inode}
use Rattle.layout.specs.declared.log.TheConstants.{FIRST_GATE}
use Rattle.model.specs.Records.{CoversAll}
use Rattle.model.specs.States.{State}
use Rattle.model.specs.Trees.{Description}
use Rattle.model.specs.Volumes.{Volume}
use Rattle.images.specs.Contents.{HoldsVolume}
use Rattle.images.specs.Roots.{whole}
use Rattle.inofile.specs.Inodes.{HasNoChange}
use Rattle.inofile.specs.Settled.{held_content}
use Rattle.inofile.specs.Volumes.{IsVolumeOf}
use Rattle.inofile.specs.declared.inode_file.InodeFile.{InodeFile}
use Rattle.loading.specs.Images.{inodes_of}
use Rattle.oplog.specs.LogEnd.{EndsBehind, all_bodies, next_of, no_bodies}
use Rattle.oplog.specs.declared.log.End.{End}
use Rattle.oplog.specs.declared.log.End.TheVariants.{Unopened, At}
use Rattle.system.specs.Images.{Base}
use Rattle.system.specs.Laws.{RootLaws}
use Rattle.system.specs.Systems.{Parts, IsCovered, IsServing, disk_over}
use Rattle.system.specs.declared.system.System.{System}
use Rattle.system.proofs.SystemLaws.{at_rest}

-- no body spells no record
none_spelled : (changes : List Change) → [] ≡ map change_bytes changes → changes ≡ []
none_spelled [] is = refl
none_spelled (c ∷ changes) is = absurd (cc)

-- a log that ends at its first gate has no record of its epoch
none_newest : (end : End) (epoch : ℕ) (bytes : List ℕ) (bodies : List (List ℕ)) → next_of end ≡ FIRST_GATE → EndsBehind end epoch bytes bodies → bodies ≡ []
none_newest Unopened epoch bytes bodies first ends = ends.1
none_newest (At next) epoch bytes [] first ends = refl
none_newest (At next) epoch bytes (body ∷ bodies) first ends = absurd (omega (arith, first, ends.3))

module _ {m : Meaning} {k : Parts} {table : ℕ → Option Description} {s : State}
    (serves : IsServing m k table s) where
  -- no record stands in an empty log
  pub no_record : k.pending ≡ None → MayLeave m m.seen → k.log.epoch ≡ k.root.generation + 1 → next_of k.log.end ≡ FIRST_GATE → serves.lasts.bodies ≡ no_bodies
  no_record none seen next first =
      let bodies = serves.lasts.bodies in
      let stands = (serves.left serves.honest m.seen seen).log_stands in
      let newest = none_newest k.log.end k.log.epoch (half_of k.log.half k.log.epoch m.seen.nvram) bodies.newest first stands.ends in
      let older : bodies.older ≡ [] = elim stands.other [
        | inl other ↦ other.2
        | inr second ↦ let after = second.0 in absurd (omega (arith, after, next, ap (λ (b : Base). b.root.generation) (at_rest serves none).base))
      ] in
      λ i. record { older = older i; newest = newest i }

  pub no_change : serves.lasts.bodies ≡ no_bodies → serves.lasts.replayed.changes ≡ []
  no_change none = none_spelled serves.lasts.replayed.changes (sym (ap all_bodies none) ∙ serves.lasts.replayed.spelled)

  -- what memory stands for is settled
  pub settled : RootLaws → k.inodes.geometry ≡ k.root.geometry
      → ((count : ℕ) (disk : ℕ → List ℕ) (settled : ℕ → Inode) (s : InodeFile) (v w : Volume) → s.geometry.inodes ≤ 2 ^ 32 → IsVolumeOf count disk settled s v → HasNoChange s
      → HoldsVolume s.geometry.inodes (λ n. held_content disk (settled n)) w → w ≡ v)
      → HasNoChange k.inodes → serves.first ≡ serves.running
  settled laws sizes only none =
      let d = blocks_of (disk_over k m.seen.disk) in
      let is = serves.under.newest.there.root in
      let ready = laws.readable d k.root serves.first serves.snapshots serves.under.holds in
      let most = is.head.sizes.most_inodes in
      let few : k.root.geometry.inodes ≤ 2 ^ 32 = omega (arith, most) in
      only k.root.geometry.blocks d (inodes_of (whole d k.root).active) k.inodes serves.running serves.first
      (subst (λ (g : Sizes). g.inodes ≤ 2 ^ 32) (sym sizes) few) serves.memory.stands none
      (subst (λ (g : Sizes). HoldsVolume g.inodes (λ n. held_content d (inodes_of (whole d k.root).active n)) serves.first) (sym sizes)
      (laws.held d k.root serves.first is ready serves.under.holds.holds))

-- all that is done is in the root of a covered system
pub all_covered : {S : Type 0} {G : Ghosts S} (f : System S G) (table : ℕ → Option Description) (s : State) → (covered : IsCovered f table s)
    → CoversAll covered.serves.settled.volume covered.serves.running covered.serves.lasts.replayed.changes
all_covered f table s covered =
    (ap (λ (b : Base). b.volume) (at_rest covered.serves covered.rests).base ∙ covered.held, no_change covered.serves covered.no_record)

-- a covered system is so at the same state
pub covered_at : {S : Type 0} {G : Ghosts S} (f : System S G) (table : ℕ → Option Description) (s t : State) → t ≡ s → IsCovered f table s → IsCovered f table t
covered_at f table s t is covered = subst (λ (u : State). IsCovered f table u) (sym is) covered
