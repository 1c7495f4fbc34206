-- The files of all numbers, in memory and settled.
use Rattle.std.proofs.Common.{◌≡◌, ◌⊎◌, ℕ, zero, suc, ◌<◌, List, refl, sym, ap, subst, ◌∙◌, arith, inl, inr, Option, Some, None}
use Rattle.std.specs.Ordering.{nat_cmp}
use Rattle.std.specs.BTreeMap.{BTreeMap, get, IsEmpty, is_at}
use Rattle.std.specs.Map.{lookup}
use Rattle.layout.specs.Inode.{IsInode}
use Rattle.layout.specs.Limits.{Sizes}
use Rattle.layout.specs.declared.inode.Inode.{Inode}
use Rattle.layout.specs.declared.kind.Kind.{Kind}
use Rattle.layout.specs.declared.kind.Kind.TheVariants as kinds
use Rattle.layout.specs.declared.trees.Layout.{Layout}
use Rattle.model.specs.Volumes.{Node, Volume}
use Rattle.images.specs.Contents.{Content, HoldsVolume}
use Rattle.images.specs.Nodes.{held}
use Rattle.images.specs.Roots.{free_inode}
use Rattle.images.specs.Sizes.{HoldsVolumeIn, StandsForIn}
use Rattle.images.specs.Soundness.{Detail, by_bytes, FitsNumber}
use Rattle.inode.specs.declared.object.Object.{Object}
use Rattle.inofile.specs.Inodes.{or_free_content, slot_content, files_of, IsChangedSlot}
use Rattle.inofile.specs.Objects.{IsAsSettled, IsObjectOrNone}
use Rattle.inofile.specs.Settled.{held_content, settled_content}
use Rattle.inofile.specs.Volumes.{SlotStandsFor, IsVolumeOf, HasNoOwn}
use Rattle.inofile.specs.declared.inode_file.InodeFile.{InodeFile}
use Rattle.inofile.specs.declared.inode_file.ObjectSlot.{ObjectSlot}
use Rattle.inofile.specs.declared.inode_file.ObjectSlot.TheVariants.{AsSettled, Loaded, Changed}
use Rattle.inofile.proofs.DetailLaws.{HasSizeOf, by_size}
use Rattle.inofile.proofs.ObjectLaws.{free_is, free_content, held_inode, unless}

free_or_not : (k : Kind) → (k ≡ kinds.Free) ⊎ (k ≡ kinds.Free → ⊥)
free_or_not kinds.Free = inl refl
free_or_not kinds.File = inr (λ e. (cc))
free_or_not kinds.Directory = inr (λ e. (cc))
free_or_not kinds.Link = inr (λ e. (cc))
free_or_not kinds.InodeFile = inr (λ e. (cc))
free_or_not kinds.InodeMap = inr (λ e. (cc))
free_or_not kinds.BlockMap = inr (λ e. (cc))

settled_file : (disk : ℕ → List ℕ) (s : Sizes) (i : Inode) → IsInode s i → or_free_content s.layout disk (settled_content disk i) ≡ held_content disk i
settled_file disk s i is = elim (free_or_not i.kind) [
  | inl free ↦ ap (or_free_content s.layout disk) (free_content disk i free) ∙ ap (held_content disk) (sym (free_is s i is free))
  | inr used ↦ ap (or_free_content s.layout disk) (unless i.kind (held_content disk i) used)
]

none_stands : (layout : Layout) (disk : ℕ → List ℕ) (inodes : ℕ) (found : Option Node) → found ≡ None → StandsForIn by_bytes inodes (held_content disk (free_inode layout)) found
unfolding held
none_stands layout disk inodes found none = none

object_stands : (layout : Layout) (disk : ℕ → List ℕ) (inodes : ℕ) (settled : Inode) (object : Option Object) (below : Option Content) (found : Option Node) → IsObjectOrNone by_bytes disk inodes settled object found
    → StandsForIn by_bytes inodes (or_free_content layout disk (slot_content disk (Some (Changed object)) below)) found
object_stands layout disk inodes settled (Some o) below found is = is.stands
object_stands layout disk inodes settled None below found is = none_stands layout disk inodes found is

slot_stands : (disk : ℕ → List ℕ) (s : Sizes) (inodes : ℕ) (settled : Inode) (slot : Option ObjectSlot) (found : Option Node) → IsInode s settled
    → SlotStandsFor by_bytes disk inodes settled slot found → StandsForIn by_bytes inodes (or_free_content s.layout disk (slot_content disk slot (settled_content disk settled))) found
slot_stands disk s inodes settled (Some AsSettled) found is stands = subst (λ (c : Content). StandsForIn by_bytes inodes c found) (sym (settled_file disk s settled is)) stands
slot_stands disk s inodes settled (Some (Loaded object)) found is stands = object_stands s.layout disk inodes settled object (settled_content disk settled) found stands.1
slot_stands disk s inodes settled (Some (Changed object)) found is stands = object_stands s.layout disk inodes settled object (settled_content disk settled) found stands
slot_stands disk s inodes settled None found is stands = subst (λ (c : Content). StandsForIn by_bytes inodes c found) (sym (settled_file disk s settled is)) stands

loaded_file : (disk : ℕ → List ℕ) (settled : Inode) (object : Option Object) (below : Option Content) → IsAsSettled disk settled object
    → or_free_content settled.layout disk (slot_content disk (Some (Loaded object)) below) ≡ held_content disk settled
loaded_file disk settled (Some o) below is = is.0
loaded_file disk settled None below is = ap (held_content disk) (sym is)

slot_file : (disk : ℕ → List ℕ) (s : Sizes) (inodes : ℕ) (settled : Inode) (slot : Option ObjectSlot) (found : Option Node) → IsInode s settled → (IsChangedSlot slot → ⊥)
    → SlotStandsFor by_bytes disk inodes settled slot found → or_free_content s.layout disk (slot_content disk slot (settled_content disk settled)) ≡ held_content disk settled
slot_file disk s inodes settled (Some AsSettled) found is not stands = settled_file disk s settled is
slot_file disk s inodes settled (Some (Loaded object)) found is not stands =
    ap (λ (l : Layout). or_free_content l disk (slot_content disk (Some (Loaded object)) (settled_content disk settled))) (sym is.layout) ∙ loaded_file disk settled object (settled_content disk settled) stands.0
slot_file disk s inodes settled (Some (Changed object)) found is not stands = absurd (not tt)
slot_file disk s inodes settled None found is not stands = settled_file disk s settled is

module _ (count : ℕ) (disk : ℕ → List ℕ) (settled : ℕ → Inode) (s : InodeFile) (v : Volume) (is : IsVolumeOf count disk settled s v) where
  is_inode : (n : ℕ) → IsInode s.geometry (settled n)
  is_inode n = held_inode s.geometry disk (settled n) (is.inodes.sound n)

  pub files_hold : HoldsVolume s.geometry.inodes (files_of disk settled s) v
  files_hold n = slot_stands disk s.geometry s.geometry.inodes (settled n) (get nat_cmp s.slots n) (v n) (is_inode n) (is.objects n)

  pub files_unchanged : (n : ℕ) → (IsChangedSlot (get nat_cmp s.slots n) → ⊥) → files_of disk settled s n ≡ held_content disk (settled n)
  files_unchanged n not = slot_file disk s.geometry s.geometry.inodes (settled n) (get nat_cmp s.slots n) (v n) (is_inode n) not (is.objects n)

-- ---- the file system's own numbers

own_kind : (n : ℕ) (k : Kind) (inodes : ℕ) (c : Content) (found : Option Node) → n < 3 → FitsNumber n k → HasSizeOf k inodes c found → found ≡ None
own_kind zero k inodes c found lt is stands = subst (λ (x : Kind). HasSizeOf x inodes c found) is stands
own_kind (suc zero) k inodes c found lt is stands = subst (λ (x : Kind). HasSizeOf x inodes c found) is stands
own_kind (suc (suc zero)) k inodes c found lt is stands = subst (λ (x : Kind). HasSizeOf x inodes c found) is stands
own_kind (suc (suc (suc n))) k inodes c found lt is stands = absurd (omega arith)

pub holds_no_own : (detail : Detail) (disk : ℕ → List ℕ) (inodes : ℕ) (settled : ℕ → Inode) (v : Volume) → ((n : ℕ) → FitsNumber n (settled n).kind)
    → HoldsVolumeIn detail inodes (λ n. held_content disk (settled n)) v → HasNoOwn v
unfolding held
holds_no_own detail disk inodes settled v fits holds n lt =
    own_kind n (settled n).kind inodes (held_content disk (settled n)) (v n) lt (fits n) (by_size detail (settled n).kind inodes (held_content disk (settled n)) (v n) (holds n))

-- ---- all settled

pub none_in : (m : BTreeMap ℕ ObjectSlot) → IsEmpty m → (n : ℕ) → get nat_cmp m n ≡ None
none_in m empty n = ap (λ es. lookup (is_at (nat_cmp n)) es) empty

-- nothing is in memory, and the settled inodes hold the volume
pub held_stand : (detail : Detail) (disk : ℕ → List ℕ) (inodes : ℕ) (settled : ℕ → Inode) (m : BTreeMap ℕ ObjectSlot) (v : Volume) → IsEmpty m → HoldsVolumeIn detail inodes (λ n. held_content disk (settled n)) v
    → (n : ℕ) → SlotStandsFor detail disk inodes (settled n) (get nat_cmp m n) (v n)
unfolding held
held_stand detail disk inodes settled m v empty holds n =
    subst (λ (x : Option ObjectSlot). SlotStandsFor detail disk inodes (settled n) x (v n)) (sym (none_in m empty n)) (holds n)
