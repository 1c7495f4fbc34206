-- What a snapshot's tree is in memory, and the state with it.
use Rattle.std.proofs.Common.{◌≡◌, ◌⊎◌, inl, inr, ℕ, zero, suc, ◌+◌, ◌*◌, ◌<◌, ◌≤◌, [], ◌∷◌, Bool, false, Option, Some, None, Result, Ok, Err, refl, ap, sym, subst, ◌∙◌, arith}
use Rattle.std.specs.Prelude.{IsErrAnd, MatchResult, is_none}
use Rattle.std.specs.Option.{option_map}
use Rattle.std.proofs.lemmas.Bool.{cases_lt}
use Rattle.model.specs.declared.costs.Costs.{Costs}
use Rattle.layout.specs.StateLimits.{limits_of, fixed_of}
use Rattle.layout.specs.Limits.{Sizes}
use Rattle.layout.specs.Places.{Blocks, blocks_of}
use Rattle.layout.specs.declared.root.Root.{Root}
use Rattle.model.specs.Laws.{MountsFind}
use Rattle.model.specs.Paths.{Name, first_refusal}
use Rattle.model.specs.Records.{count_orphans, without_orphans}
use Rattle.model.specs.Room.{IsShort, Room, a_restore}
use Rattle.model.specs.States.{State, with_tree}
use Rattle.model.specs.Steps.{frozen, has_open_below, restores}
use Rattle.model.specs.Trees.{Description, Tree}
use Rattle.model.specs.Volumes.{IsMounted, IsVolume, Volume, tree_of}
use Rattle.model.specs.declared.errno.Errno.TheVariants.{EBUSY, NOSNAP}
use Rattle.model.specs.declared.limits.TheConstants.{OPEN_FILES}
use Rattle.model.specs.declared.reply.Reply.TheVariants.{Done}
use Rattle.buffers.specs.declared.error.BlockError.{BlockError}
use Rattle.buffers.specs.declared.error.BlockError.TheVariants as read_errors
use Rattle.images.specs.Contents.{HoldsVolume, tree_contents}
use Rattle.images.specs.Roots.{whole}
use Rattle.images.specs.Snapshots.{HasSnapshot}
use Rattle.inofile.specs.Room.{memory_room}
use Rattle.inofile.specs.Volumes.{IsVolumeOf}
use Rattle.inofile.specs.declared.inode_file.InodeFile.{InodeFile}
use Rattle.inofile.proofs.RoomLaws.{clean_room}
use Rattle.loading.specs.Images.{AreInodesOf, inodes_of}
use Rattle.replay.specs.Volumes.{HasVolume}
use Rattle.snapshots.specs.Found.{IsNamedSnapshot, snapshot_found}
use Rattle.snapshots.specs.declared.finding.FoundSnapshot.{FoundSnapshot}
use Rattle.snapshots.proofs.PreparedLaws.{passed}
use Rattle.station.specs.Moments.{Meaning}
use Rattle.station.specs.declared.station.Station.{Ghosts}
use Rattle.descriptors.specs.Files.{description_of}
use Rattle.descriptors.specs.Tables.{open_at}
use Rattle.descriptors.specs.declared.open_file.OpenFile.{OpenFile}
use Rattle.planning.specs.declared.change.SnapshotChange.TheVariants.{Restore}
use Rattle.system.specs.Points.{MayCheckpointOver}
use Rattle.system.specs.Restoring.{CountsKept, KeepsOrphans, KeepsOrphansOn, RestoresSlot, RestoresVolume, tree_in_slot}
use Rattle.system.specs.Room.{HasRoomBesides, costs_on}
use Rattle.system.specs.CheckpointCommands.{IsRoomOf}
use Rattle.system.specs.Systems.{IsServing, Parts, disk_over, state_with}
use Rattle.system.specs.declared.system.System.{System}
use Rattle.system.proofs.SnapshotLaws.{finds, is_frozen}

-- ---- a snapshot's tree in memory

-- an error of a read that says nothing against the image is passed on as such
pub passed_read : {T : Type 0} (P : T → Type 0) (r : Result T BlockError) (e : BlockError) → IsErrAnd r (λ f. f ≡ e) → (e ≡ read_errors.NoMemory) ⊎ (e ≡ read_errors.Device)
    → MatchResult r P (λ f. (f ≡ read_errors.NoMemory) ⊎ (f ≡ read_errors.Device))
passed_read P (Ok x) e is why = absurd is
passed_read P (Err f) e is why = subst (λ (x : BlockError). (x ≡ read_errors.NoMemory) ⊎ (x ≡ read_errors.Device)) (sym is) why

module _ (disk : Blocks) (r : Root) (k count : ℕ) (inodes : InodeFile) (are : AreInodesOf disk r.version r.geometry (tree_in_slot disk r k) inodes) (sized : count ≡ r.geometry.blocks) where
  -- memory stands for the volume that it holds
  pub has_kept : (v : Volume) → HoldsVolume r.geometry.inodes (tree_contents (tree_in_slot disk r k)) v → IsVolume (limits_of r.geometry) v → HasVolume count disk (inodes_of (tree_in_slot disk r k)) inodes v
  has_kept v holds is = record {
    memory = subst (λ (n : ℕ). IsVolumeOf n disk (inodes_of (tree_in_slot disk r k)) inodes v) (sym sized) (are.volume v holds);
    volume = subst (λ (g : Sizes). IsVolume (limits_of g) v) (sym are.geometry) is;
  }

  -- with the files that have no name dropped, a point needs no more than is kept for those
  pub restores_volume : (v : Volume) (now : InodeFile) → HasVolume count disk (inodes_of (tree_in_slot disk r k)) now (without_orphans v) → memory_room v now (without_orphans v) ≤ memory_room v inodes v
      → RestoresVolume disk r k v now
  restores_volume v now has few = record {
    stands = subst (λ (n : ℕ). IsVolumeOf n disk (inodes_of (tree_in_slot disk r k)) now (without_orphans v)) sized has.memory;
    few = omega (arith, few, clean_room inodes v are.unchanged inodes.geometry.inodes, ap (λ (g : Sizes). count_orphans g.inodes v) are.geometry);
  }

-- ---- what is done

-- no file is open, as the tests ask
none_open : (t : Tree) → t.descriptors ≡ (λ fd. None) → (n : ℕ) → has_open_below t n ≡ false
none_open t none zero = refl
none_open t none (suc fd) = rw (none_open t none fd, ap (λ (table : ℕ → Option Description). table fd) none) refl

pub restore_done : (s : State) (name : Name) (room : Room) (pair : Name × Tree) → frozen s name ≡ Some pair → s.tree.descriptors ≡ (λ fd. None) → (new : State) → new ≡ with_tree pair.1 s
    → restores room s name Done new (a_restore (room.orphans_of name))
restore_done s name room pair is none new same =
    let first = λ (o : Option (Name × Tree)) (b : Bool). first_refusal ((is_none o, NOSNAP) ∷ (b, EBUSY) ∷ []) in
    passed s ((is_none (frozen s name), NOSNAP) ∷ (has_open_below s.tree OPEN_FILES, EBUSY) ∷ []) _ Done new (a_restore (room.orphans_of name))
    (ap (λ (o : Option (Name × Tree)). first o (has_open_below s.tree OPEN_FILES)) is ∙ ap (first (Some pair)) (none_open s.tree none OPEN_FILES)) (refl, (pair, is, same), refl)

-- an open file is described
none_there : (o : Option OpenFile) → option_map description_of o ≡ None → o ≡ None
none_there None is = refl
none_there (Some file) is = absurd (cc)

-- ---- what was found

pub isnt_damaged : (e : BlockError) → (e ≡ read_errors.NoMemory) ⊎ (e ≡ read_errors.Device) → e ≡ read_errors.Damaged → ⊥
isnt_damaged e (inl memory) damaged = cc
isnt_damaged e (inr device) damaged = cc

-- a system at a state with a snapshot in its slot, where no file is open
module _ {m : Meaning} {k : Parts} {s : State} (served : IsServing m k s.tree.descriptors s) (name : Name) (found : FoundSnapshot)
    (has : HasSnapshot k.root (whole (blocks_of (disk_over k m.seen.disk)) k.root) found.slot (snapshot_found name found)) (none : s.tree.descriptors ≡ (λ fd. None)) where
  abbrev disk : Blocks
  disk = blocks_of (disk_over k m.seen.disk)

  abbrev frozen_there : IsNamedSnapshot k.root disk name served.snapshots found.slot
  frozen_there = (finds served name found has).1

  abbrev pub kept_volume : Volume
  kept_volume = frozen_there.frozen.0

  -- so many orphans are kept under it
  pub keeps : KeepsOrphansOn disk k.root name (count_orphans k.root.geometry.inodes kept_volume)
  keeps = record {
    slot = found.slot;
    head = snapshot_found name found;
    has = has;
    named = refl;
    volume = kept_volume;
    holds = frozen_there.frozen.1;
    is = frozen_there.frozen.2;
    counted = refl;
  }

  -- as were counted
  counts_kept : (counted : ℕ) → CountsKept disk k.root found.slot counted → counted ≡ count_orphans k.root.geometry.inodes kept_volume
  counts_kept counted counts = counts kept_volume frozen_there.frozen.1 frozen_there.frozen.2

  -- the state with its tree
  abbrev pub restored_state : State
  restored_state = state_with (limits_of k.root.geometry) k.session (without_orphans kept_volume) s.tree.descriptors served.snapshots

  state_is : restored_state ≡ with_tree frozen_there.tree s
  state_is =
      sym (ap (with_tree (tree_of (without_orphans kept_volume) s.tree.descriptors)) served.state)
      ∙ ap (λ (t : Tree). with_tree t s) (ap (tree_of (without_orphans kept_volume)) none ∙ sym frozen_there.frozen.3)

  pub restore_step : (room : Room) → restores room s name Done restored_state (a_restore (room.orphans_of name))
  restore_step room = restore_done s name room (name, frozen_there.tree) (is_frozen served name found has) none restored_state state_is

  -- and it is short for that where the disk has no room
  pub short_to_restore : {S : Type 0} {G : Ghosts S} (f : System S G) → KeepsOrphans f name (count_orphans k.root.geometry.inodes kept_volume) → (counted : ℕ) → CountsKept disk k.root found.slot counted
      → (HasRoomBesides f counted → ⊥) → (room : Room) → IsRoomOf f room → IsShort room (a_restore (room.orphans_of name))
  short_to_restore f kept counted counts lacks room is = (
    is.covered,
    elim (cases_lt f.free (f.pledged + 2 * (costs_on f).point + 1 + 4 * counted)) [
      | inl lt ↦ subst (λ (c : Costs). room.free < room.pledged + 2 * c.point + 1 + c.orphan * room.orphans_of name) (sym is.costs)
          (omega (arith, lt, is.free, is.pledged, is.orphans name _ kept, counts_kept counted counts))
      | inr ge ↦ absurd (lacks ge)
    ],
  )

  closed : (fd : ℕ) → open_at k.files fd ≡ None
  closed fd = none_there (open_at k.files fd) (ap (λ (table : ℕ → Option Description). table fd) (sym served.opened ∙ none))

  -- memory that stands for it may be settled
  module _ (finding : MountsFind) (memory : InodeFile) (slots : RestoresSlot disk k.root found.slot memory) where
    volumes : RestoresVolume disk k.root found.slot kept_volume memory
    volumes = slots kept_volume frozen_there.frozen.1 frozen_there.frozen.2

    finding_it : IsVolume (limits_of k.root.geometry) (without_orphans kept_volume) × IsMounted (without_orphans kept_volume) (λ d. None)
    finding_it = finding (limits_of k.root.geometry) kept_volume frozen_there.frozen.2

    not_there : {file : OpenFile} → None ≡ Some file → ⊥
    not_there is = cc

    pub may_restore : MayCheckpointOver (Restore found.slot found.inode_file) disk k.root k.files memory s.tree.descriptors kept_volume (without_orphans kept_volume)
    may_restore = record {
      restored = (snapshot_found name found, has, refl);
      base_held = frozen_there.frozen.1;
      base_volume = frozen_there.frozen.2;
      stands = volumes.stands;
      volume = finding_it.0;
      mounted = subst (λ (t : ℕ → Option Description). IsMounted (without_orphans kept_volume) t) (sym none) finding_it.1;
      fits = record { files = λ fd file is. absurd (not_there (sym (closed fd) ∙ is)) };
    }

    -- and the disk has room for that
    pub room_for : (free counted : ℕ) → CountsKept disk k.root found.slot counted → k.pledged + 2 * fixed_of k.root.geometry.blocks + 1 + 4 * counted ≤ free
        → memory_room kept_volume memory (without_orphans kept_volume) + 2 * fixed_of k.root.geometry.blocks ≤ free
    room_for free counted counts room = omega (arith, room, counts_kept counted counts, volumes.few)
