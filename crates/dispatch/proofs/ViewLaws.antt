-- What a call on the tree of a snapshot comes to.
use Rattle.std.proofs.Common.{◌≡◌, ◌∙◌, ℕ, List, [], ◌∷◌, Bool, not, Option, Some, None, Result, ap, refl, sym, subst}
use Rattle.std.specs.Prelude.{IsTrue}
use Rattle.model.specs.declared.limits.Limits.{Limits}
use Rattle.layout.specs.StateLimits.{limits_of}
use Rattle.model.specs.Laws.{MountsForget}
use Rattle.model.specs.Paths.{Name}
use Rattle.model.specs.Records.{without_orphans}
use Rattle.model.specs.Room.{nothing}
use Rattle.model.specs.Sessions.{new_session}
use Rattle.model.specs.States.{State}
use Rattle.model.specs.Steps.{Step, calls, frozen, is_reading_call, passing, says, views}
use Rattle.model.specs.Trees.{Description, Tree}
use Rattle.model.specs.Volumes.{Volume, IsVolume, tree_of}
use Rattle.model.specs.declared.command.PathCall.{PathCall}
use Rattle.model.specs.declared.errno.Errno.TheVariants.{EROFS, NOSNAP}
use Rattle.model.specs.declared.reply.Reply.{Reply}
use Rattle.model.specs.declared.reply.Reply.TheVariants.{Refused, Snaps}
use Rattle.calls.specs.Seeing.{ReadingForgets}
use Rattle.station.specs.Moments.{Meaning}
use Rattle.layout.specs.Limits.{Sizes}
use Rattle.layout.specs.Places.{Blocks}
use Rattle.buffers.specs.declared.blocks.Blocks as blocks
use Rattle.buffers.specs.Errors.{IsFault}
use Rattle.buffers.specs.declared.error.BlockError.{BlockError}
use Rattle.inofile.specs.Volumes.{IsVolumeOf}
use Rattle.inofile.specs.declared.inode_file.InodeFile.{InodeFile}
use Rattle.paths.specs.Standing.{Looks, Stands}
use Rattle.dispatch.specs.Serving.{TellsNoFault}
use Rattle.dispatch.specs.Showing.{IsShowing}
use Rattle.system.specs.Systems.{Parts}
use Rattle.system.specs.Views.{StandsForSnapshot}
use Rattle.system.proofs.SystemLaws.{extends_itself}
use Rattle.system.proofs.ViewLaws.{closed}

-- what is answered on a volume is answered on the tree that a snapshot of it has
pub frozen_told : MountsForget → ReadingForgets → (limits : Limits) (v : Volume) (c : PathCall) (reply : Reply) → IsVolume limits v → IsTrue (is_reading_call c)
    → calls limits new_session (tree_of v closed) c reply (tree_of v closed) nothing → calls limits new_session (tree_of (without_orphans v) closed) c reply (tree_of (without_orphans v) closed) nothing
frozen_told forgets reads limits v c reply volume reading told =
    reads limits new_session (tree_of v closed) (tree_of (without_orphans v) closed) c reply (forgets limits v v closed volume (extends_itself v)) reading told

module _ (s : State) (name : Name) (c : PathCall) where
  abbrev viewed : Bool → Option (Name × Tree) → Reply → Type 0
  viewed reading found answer = (elim found as (λ _. Step) [
    | None ↦ says s (Refused NOSNAP)
    | Some pair ↦ passing s ((not reading, EROFS) ∷ []) (λ reply new need. calls s.limits s.session pair.1 c reply pair.1 need × (new ≡ s))
  ]) answer s nothing

  pub reading_viewed : (pair : Name × Tree) (reply : Reply) → frozen s name ≡ Some pair → IsTrue (is_reading_call c) → calls s.limits s.session pair.1 c reply pair.1 nothing
      → views s name c reply s nothing
  reading_viewed pair reply is reading told =
      subst (λ (o : Option (Name × Tree)). viewed (is_reading_call c) o reply) (sym is)
      (subst (λ (b : Bool). viewed b (Some pair) reply) (sym reading) (told, refl))

-- a view stands for its volume over blocks that show the disk
module _ {B : Type 0} {G : blocks.Ghosts B} {disk : Blocks} {sizes : Sizes} {pairs : List (Name × Tree)} {name : Name} {before : B} {inodes : InodeFile} (shows : G.Shows before disk)
    (count : G.count before ≡ sizes.blocks) (is : StandsForSnapshot disk sizes pairs name inodes) where
  pub view_stands : Stands G disk is.settled is.volume before inodes
  view_stands = record { shows = shows; volume = subst (λ (k : ℕ). IsVolumeOf k disk is.settled inodes is.volume) (sym count) is.stands }

  -- and does so where objects came into memory
  pub view_looked : {T : Type 0} (after : B) (now_inodes : InodeFile) (r : Result T BlockError) → Looks G IsFault before after inodes now_inodes r → StandsForSnapshot disk sizes pairs name now_inodes
  view_looked after now_inodes r looks = record {
    volume = is.volume;
    geometry = looks.geometry ∙ is.geometry;
    is = subst (λ (g : Sizes). IsVolume (limits_of g) is.volume) (sym looks.geometry) is.is;
    listed = is.listed;
    settled = is.settled;
    stands = subst (λ (k : ℕ). IsVolumeOf k disk is.settled now_inodes is.volume) (looks.reads.count ∙ count) (looks.kept disk is.settled is.volume view_stands).volume;
  }

pub snaps_no_fault : (names : List Name) → TellsNoFault (Snaps names)
snaps_no_fault names = (λ is. cc, λ is. cc)

-- the snapshots of the state that a system shows
pub snapshots_shown : {m : Meaning} {k : Parts} {table : ℕ → Option Description} {s : State} (shown : IsShowing m k table s) → s.snapshots ≡ shown.snapshots
snapshots_shown shown = ap (λ (u : State). u.snapshots) shown.state

-- and its limits
pub limits_shown : {m : Meaning} {k : Parts} {table : ℕ → Option Description} {s : State} (shown : IsShowing m k table s) → s.limits ≡ limits_of k.root.geometry
limits_shown shown = ap (λ (u : State). u.limits) shown.state
