-- Memory that stands for a volume, from one moment to the next.
use Rattle.std.proofs.Common.{◌≡◌, ◌∙◌, ◌<◌, ◌≤◌, ℕ, List, Option, Some, None, Result, Ok, Err, refl, sym, subst}
use Rattle.std.specs.Ordering.{nat_cmp}
use Rattle.std.specs.BTreeMap.{BTreeMap, get}
use Rattle.std.specs.Result.{IsErrAnd}
use Rattle.layout.specs.Limits.{Sizes}
use Rattle.layout.specs.declared.inode.Inode.{Inode}
use Rattle.model.specs.Volumes.{Volume}
use Rattle.buffers.specs.Reads.{ReadsBlocks}
use Rattle.buffers.specs.declared.blocks.Blocks.{Ghosts}
use Rattle.inofile.specs.Inodes.{HasRoomFor, IsKnown}
use Rattle.inofile.specs.Room.{NeedsNoMore, slot_room}
use Rattle.images.specs.Soundness.{Detail}
use Rattle.inofile.specs.Volumes.{IsVolumeIn}
use Rattle.inofile.proofs.ObjectLaws.{held_inode}
use Rattle.inofile.specs.declared.inode_file.ObjectSlot.{ObjectSlot}
use Rattle.inofile.specs.declared.inode_file.InodeFile.{InodeFile}
use Rattle.paths.specs.Standing.{Looks, StandsIn}
use Rattle.records.specs.Steps.{IsAtHand, IsSomeAtHand}
use Rattle.records.specs.declared.steps.ObjectUpdate.{ObjectUpdate}

-- memory stands for all volumes that it stood for before
abbrev pub StaysVolume : InodeFile → InodeFile → Type 0
StaysVolume s t =
    (detail : Detail) (count : ℕ) (disk : ℕ → List ℕ) (settled : ℕ → Inode) (v : Volume) → IsVolumeIn detail count disk settled s v → IsVolumeIn detail count disk settled t v

module _ {B : Type 0} {detail : Detail} {G : Ghosts B} {disk : ℕ → List ℕ} {settled : ℕ → Inode} {v : Volume} where
  pub stands_with : (blocks : B) (s t : InodeFile) → StaysVolume s t → StandsIn detail G disk settled v blocks s → StandsIn detail G disk settled v blocks t
  stands_with blocks s t stays stands = record {
    shows = stands.shows;
    volume = stays detail (G.count blocks) disk settled v stands.volume;
  }

  pub stands_over : (blocks after : B) (t : InodeFile) → G.count after ≡ G.count blocks → G.Shows after disk → IsVolumeIn detail (G.count blocks) disk settled t v → StandsIn detail G disk settled v after t
  stands_over blocks after t same shows volume = record {
    shows = shows;
    volume = subst (λ (n : ℕ). IsVolumeIn detail n disk settled t v) (sym same) volume;
  }

-- each settled inode has the layout of the image
pub settled_layout : {B : Type 0} {detail : Detail} {G : Ghosts B} {disk : ℕ → List ℕ} {settled : ℕ → Inode} {v : Volume} (blocks : B) (s : InodeFile) (n : ℕ)
    → StandsIn detail G disk settled v blocks s → (settled n).layout ≡ s.geometry.layout
settled_layout {disk = disk} {settled = settled} blocks s n stands = (held_inode s.geometry disk (settled n) (stands.volume.inodes.sound n)).layout

-- blocks that were read before something failed
pub reads_err : {B T U E : Type 0} {G : Ghosts B} {F : E → Type 0} {a b : B} {e : E} (q : Result U E) → IsErrAnd q (λ f. f ≡ e) → ReadsBlocks {T = T} G F a b (Err e) → ReadsBlocks G F a b q
reads_err (Ok y) is reads = absurd is
reads_err {F = F} (Err f) is reads =
    record { count = reads.count; counted = tt; device = λ fault. reads.device (subst F is fault); reads = reads.reads; same = reads.same }

-- blocks that were read, and another value that comes of it
pub reads_ok : {B T U E : Type 0} {G : Ghosts B} {F : E → Type 0} {a b : B} {x : T} {y : U} → ReadsBlocks {E = E} G F a b (Ok x) → ReadsBlocks {E = E} G F a b (Ok y)
reads_ok reads = record { count = reads.count; counted = reads.counted; device = tt; reads = reads.reads; same = reads.same }

-- memory that has the same of each number needs no more
same_needs : (s t : InodeFile) → t.slots ≡ s.slots → NeedsNoMore s t
same_needs s t same n k le = subst (λ (x : BTreeMap ℕ ObjectSlot). slot_room (get nat_cmp x n) ≤ k) (sym same) le

-- a look at nothing
pub no_look : {B E : Type 0} {G : Ghosts B} {F : E → Type 0} {a : B} {s : InodeFile} → Looks {T = ℕ} G F a a s s (Ok 0)
no_look = record {
  reads = record { count = refl; counted = refl; device = tt; reads = λ start so. so; same = λ disk shows. shows };
  geometry = refl;
  needs = λ n k le. le;
  kept = λ disk settled v stands. stands;
}

module _ {B T E : Type 0} {G : Ghosts B} {F : E → Type 0} where
  -- blocks that are read are a look
  pub looks_of_reads : {a b : B} {s : InodeFile} {r : Result T E} → ReadsBlocks G F a b r → Looks G F a b s s r
  looks_of_reads {a = a} {b = b} {s = s} read = record {
    reads = read;
    geometry = refl;
    needs = λ n k le. le;
    kept = λ disk settled v stands. stands_over a b s read.count (read.same disk stands.shows) stands.volume;
  }

  -- a look behind which memory changes, and what it stands for stays
  pub looks_stays : {a b : B} {s t u : InodeFile} {r : Result T E} → Looks G F a b s t r → u.geometry ≡ t.geometry → NeedsNoMore t u → StaysVolume t u → Looks G F a b s u r
  looks_stays {b = b} {t = t} {u = u} look same needs stays = record {
    reads = look.reads;
    geometry = same ∙ look.geometry;
    needs = λ n k le. needs n k (look.needs n k le);
    kept = λ disk settled v stands. stands_with b t u stays (look.kept disk settled v stands);
  }

  -- blocks are read, and memory has the same of each number then
  pub looks_beside : {a b : B} {s u : InodeFile} {r : Result T E} → ReadsBlocks G F a b r → u.geometry ≡ s.geometry → u.slots ≡ s.slots → StaysVolume s u → Looks G F a b s u r
  looks_beside {s = s} {u = u} read same slots stays = looks_stays (looks_of_reads read) same (same_needs s u slots) stays

-- what is at hand stays so
module _ (s t : InodeFile) (same : t.geometry ≡ s.geometry) (keeps : (k : ℕ) → HasRoomFor s k → HasRoomFor t k) (stays : (k : ℕ) → IsKnown s k → IsKnown t k) where
  pub stays_at_hand : (n : ℕ) → IsAtHand s n → IsAtHand t n
  stays_at_hand n is = record {
    low = is.low;
    high = subst (λ (g : Sizes). n < g.inodes) (sym same) is.high;
    room = keeps n is.room;
    known = stays n is.known;
  }

  pub some_stays_at_hand : (step : Option ObjectUpdate) → IsSomeAtHand s step → IsSomeAtHand t step
  some_stays_at_hand None is = tt
  some_stays_at_hand (Some step) is = stays_at_hand step.number is
