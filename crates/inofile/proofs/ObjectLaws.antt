-- Objects that are loaded, or put in place of others.
use Rattle.std.proofs.Common.{◌≡◌, ◌↔◌, ℕ, ◌-◌, ◌≤◌, List, drop, refl, sym, ap, subst, ◌∙◌, arith, Option, Some, None, IsSome, is_some, IsTrue}
use Rattle.layout.specs.Bytes.{zeros}
use Rattle.layout.specs.FileBytes.{byte_in, EndsAt}
use Rattle.layout.specs.Inode.{IsInode, FitsKind, FitsBody}
use Rattle.layout.specs.Limits.{Sizes}
use Rattle.layout.specs.declared.inode.Body.{Body}
use Rattle.layout.specs.declared.inode.Body.TheVariants.{Inline, Pointers}
use Rattle.layout.specs.declared.inode.Inode.{Inode}
use Rattle.layout.specs.declared.kind.Kind.{Kind}
use Rattle.layout.specs.declared.kind.Kind.TheVariants as kinds
use Rattle.layout.specs.Trees.{has_attributes, level_of}
use Rattle.layout.specs.declared.trees.Layout.{Layout}
use Rattle.model.specs.declared.attributes.Attributes.{Attributes}
use Rattle.model.specs.Attributes.{FitAttributes}
use Rattle.model.specs.Volumes.{Node}
use Rattle.blocktree.specs.Places.{block_count, depth_of}
use Rattle.images.specs.Contents.{Content}
use Rattle.images.specs.Nodes.{held}
use Rattle.images.specs.Roots.{free_inode}
use Rattle.images.specs.Sizes.{StandsForIn}
use Rattle.images.specs.Soundness.{Detail, IsHeldFile, IsOrdinary, by_bytes, by_sizes}
use Rattle.entries.specs.Known.{Knows}
use Rattle.inode.specs.Bases.{IsBased, StartsFrom, StartsUnchanged}
use Rattle.inode.specs.Files.{file_block, IsAsHeld, IsFile, IsSameFile}
use Rattle.inode.specs.declared.file.File.{File}
use Rattle.inode.specs.declared.object.Status.{Status}
use Rattle.inode.specs.declared.object.Object.{Object}
use Rattle.inofile.specs.Objects.{EndsIn, IsAsSettled, IsObjectIn, IsObjectKind, IsObjectOrNone, IsSameObject, IsSameOrNone, IsUntouched, StaysKnown}
use Rattle.inofile.specs.Settled.{content_of_object, held_content, unless_free, settled_content}
use Rattle.inofile.proofs.DetailLaws.{HasSizeOf, by_size}
use Rattle.std.proofs.lemmas.Bool.{false≢true}
use Rattle.std.proofs.Math.Path.{fun_ext}
use Rattle.layout.proofs.SizeLaws.{level_none}

-- ---- free inodes

free_body : (layout : Layout) (body : Body) (blocks size : ℕ) → size ≡ 0 → FitsBody layout body blocks size → body ≡ Inline (zeros 128)
free_body layout (Inline bytes) blocks size none fits =
    ap Inline (subst (λ (n : ℕ). drop n bytes ≡ zeros (128 - n)) none fits.2)
free_body layout (Pointers pointers) blocks size none fits = absurd (omega (arith, none, fits.0))

pub free_is : (s : Sizes) (i : Inode) → IsInode s i → i.kind ≡ kinds.Free → i ≡ free_inode s.layout
free_is s i is free =
    let fits = subst (λ (k : Kind). FitsKind k s i.attributes i.links i.size) free is.kind in
    let body = free_body i.layout i.body s.blocks i.size fits.2 is.body in
    λ j. record { layout = is.layout j; kind = free j; attributes = fits.0 j; links = fits.1 j; size = fits.2 j; body = body j }

-- in its own layout
pub free_own : (s : Sizes) (i : Inode) → IsInode s i → i.kind ≡ kinds.Free → i ≡ free_inode i.layout
free_own s i is free = free_is s i is free ∙ ap free_inode (sym is.layout)

pub held_inode : {detail : Detail} (s : Sizes) (disk : ℕ → List ℕ) (i : Inode) → IsHeldFile detail s (held disk i) → IsInode s i
unfolding held
held_inode s disk i sound = sound.inode

pub free_stands : (detail : Detail) (disk : ℕ → List ℕ) (inodes : ℕ) (i : Inode) (found : Option Node) → i.kind ≡ kinds.Free → StandsForIn detail inodes (held_content disk i) found → found ≡ None
unfolding held
free_stands detail disk inodes i found free stands =
    subst (λ (k : Kind). HasSizeOf k inodes (held_content disk i) found) free (by_size detail i.kind inodes (held_content disk i) found stands)

pub free_content : (disk : ℕ → List ℕ) (i : Inode) → i.kind ≡ kinds.Free → settled_content disk i ≡ None
free_content disk i free = ap (λ (k : Kind). unless_free k (held_content disk i)) free

-- ---- objects that are loaded

pub unless : (k : Kind) (c : Content) → (k ≡ kinds.Free → ⊥) → unless_free k c ≡ Some c
unless kinds.Free c used = absurd (used refl)
unless kinds.File c used = refl
unless kinds.Directory c used = refl
unless kinds.Link c used = refl
unless kinds.InodeFile c used = refl
unless kinds.InodeMap c used = refl
unless kinds.BlockMap c used = refl

object_kind : (k : Kind) → (k ≡ kinds.Free → ⊥) → IsOrdinary k → IsObjectKind k
object_kind kinds.Free used is = absurd (used refl)
object_kind kinds.File used is = tt
object_kind kinds.Directory used is = tt
object_kind kinds.Link used is = tt
object_kind kinds.InodeFile used is = is
object_kind kinds.InodeMap used is = is
object_kind kinds.BlockMap used is = is

-- the sizes of the image are no matter to an object's kind
fits_any : (k : Kind) (s t : Sizes) (attributes : Attributes) (links size : ℕ) → IsObjectKind k → FitsKind k s attributes links size → FitsKind k t attributes links size
fits_any kinds.Free s t attributes links size is fits = absurd is
fits_any kinds.File s t attributes links size is fits = fits
fits_any kinds.Directory s t attributes links size is fits = fits
fits_any kinds.Link s t attributes links size is fits = fits
fits_any kinds.InodeFile s t attributes links size is fits = absurd is
fits_any kinds.InodeMap s t attributes links size is fits = absurd is
fits_any kinds.BlockMap s t attributes links size is fits = absurd is

-- an object that was loaded from an inode
pub record IsLoaded (i : Inode) (o : Object) : Type 0 where
  pub status : o.status ≡ record { kind = i.kind; attributes = i.attributes; links = i.links }
  pub size : o.file.size ≡ i.size
  pub base : IsBased i o.file.tree
  pub used : i.kind ≡ kinds.Free → ⊥
  pub known : (inodes : ℕ) (block : ℕ → List ℕ) → Knows inodes block o.known

pub loaded_content : (disk : ℕ → List ℕ) (i : Inode) (o : Object) → IsLoaded i o → IsAsHeld disk i o.file → content_of_object disk o ≡ held_content disk i
unfolding held
loaded_content disk i o is same =
    λ j. record { kind = (is.status j).kind; attributes = (is.status j).attributes; links = (is.status j).links; size = is.size j; block = λ n. same n j }

pub loaded_settled : (disk : ℕ → List ℕ) (i : Inode) (o : Object) → IsLoaded i o → IsAsHeld disk i o.file → Some (content_of_object disk o) ≡ settled_content disk i
loaded_settled disk i o is same = ap Some (loaded_content disk i o is same) ∙ sym (unless i.kind (held_content disk i) is.used)

pub loaded_object : (detail : Detail) (disk : ℕ → List ℕ) (inodes : ℕ) (s : Sizes) (i : Inode) (o : Object) (found : Option Node) → IsInode s i → IsLoaded i o → IsAsHeld disk i o.file
    → EndsIn detail disk o.file → IsOrdinary i.kind → StandsForIn detail inodes (held_content disk i) found → IsObjectIn detail disk inodes i o found
loaded_object detail disk inodes s i o found inode is same ends ordinary stands = record {
  kind = subst (λ (a : Status). IsObjectKind a.kind) (sym is.status) (object_kind i.kind is.used ordinary);
  attributes = subst (λ (a : Status). FitAttributes (has_attributes i.layout) a.attributes) (sym is.status) inode.attributes;
  fits = λ t.
      subst (λ (a : Status). FitsKind a.kind t a.attributes a.links o.file.size) (sym is.status)
      (subst (FitsKind i.kind t i.attributes i.links) (sym is.size) (fits_any i.kind s t i.attributes i.links i.size (object_kind i.kind is.used ordinary) inode.kind));
  stands = subst (λ (c : Content). StandsForIn detail inodes c found) (sym (loaded_content disk i o is same)) stands;
  ends = ends;
  base = is.base;
  known = λ directory. is.known inodes (file_block disk o.file);
}

-- ---- objects in place of others

pub same_content : (disk : ℕ → List ℕ) (old new : Object) → IsSameObject old new → content_of_object disk new ≡ content_of_object disk old
same_content disk old new same =
    λ j. record { kind = (same.status j).kind; attributes = (same.status j).attributes; links = (same.status j).links; size = same.file.size j; block = λ n. same.file.blocks disk n j }

same_file_ends : (disk : ℕ → List ℕ) (old new : File) → IsSameFile old new → IsFile disk old → IsFile disk new
same_file_ends disk old new same ends =
    let blocks : file_block disk old ≡ file_block disk new = fun_ext (λ n. sym (same.blocks disk n)) in
    subst (λ (n : ℕ). EndsAt n (byte_in (file_block disk new))) (sym same.size)
    (subst (λ (f : ℕ → List ℕ). EndsAt old.size (byte_in f)) blocks ends)

same_ends : (detail : Detail) (disk : ℕ → List ℕ) (old new : File) → IsSameFile old new → EndsIn detail disk old → EndsIn detail disk new
same_ends by_bytes disk old new same ends = same_file_ends disk old new same ends
same_ends by_sizes disk old new same ends = tt

pub same_object : (detail : Detail) (disk : ℕ → List ℕ) (inodes : ℕ) (settled : Inode) (was now : Option Object) (found : Option Node) → IsSameOrNone was now
    → StaysKnown inodes disk was now → IsObjectOrNone detail disk inodes settled was found → IsObjectOrNone detail disk inodes settled now found
same_object detail disk inodes settled None None found same stays is = is
same_object detail disk inodes settled None (Some o) found same stays is = absurd same
same_object detail disk inodes settled (Some o) None found same stays is = absurd same
same_object detail disk inodes settled (Some old) (Some new) found same stays is = record {
  kind = subst (λ (a : Status). IsObjectKind a.kind) (sym same.status) is.kind;
  attributes = subst (λ (a : Status). FitAttributes (has_attributes settled.layout) a.attributes) (sym same.status) is.attributes;
  fits = λ s.
      subst (λ (a : Status). FitsKind a.kind s a.attributes a.links new.file.size) (sym same.status)
      (subst (FitsKind old.status.kind s old.status.attributes old.status.links) (sym same.file.size) (is.fits s));
  stands = subst (λ (c : Content). StandsForIn detail inodes c found) (sym (same_content disk old new same)) is.stands;
  ends = same_ends detail disk old.file new.file same.file is.ends;
  base = same.file.base settled is.base;
  known = λ directory. stays (is.known (subst (λ (a : Status). a.kind ≡ kinds.Directory) same.status directory));
}

same_untouched : (old new : Object) → IsSameObject old new → IsUntouched old → IsUntouched new
same_untouched old new same is =
    let level : level_of new.file.tree.layout new.file.size ≡ level_of old.file.tree.layout old.file.size = cc (same.file.size, same.file.changes.settled.layout) in
    let deep : 1 ≤ level_of new.file.tree.layout new.file.size → 1 ≤ level_of old.file.tree.layout old.file.size = subst (λ (n : ℕ). 1 ≤ n) level in
    record {
      kept = λ high. same.file.changes.kept ∙ is.kept (deep high) ∙ sym same.file.changes.settled.count;
      count = λ high. same.file.changes.settled.count ∙ is.count (deep high) ∙ ap block_count (sym same.file.size);
      depth = λ high. same.file.changes.settled.depth ∙ is.depth (deep high) ∙ ap (λ (n : ℕ). n - 1) (sym level);
      none = λ high i changed. is.none (deep high) i (same.file.changes.only i changed);
      few = λ low i changed. is.few (subst (λ (n : ℕ). n ≡ 0) level low) i (same.file.changes.only i changed);
    }

pub same_settled : (disk : ℕ → List ℕ) (settled : Inode) (was now : Option Object) → IsSameOrNone was now → IsAsSettled disk settled was → IsAsSettled disk settled now
same_settled disk settled None None same is = is
same_settled disk settled None (Some o) same is = absurd same
same_settled disk settled (Some o) None same is = absurd same
same_settled disk settled (Some old) (Some new) same is = (same_content disk old new same ∙ is.0, same_untouched old new same is.1)

-- an object is some object of the volume
kind_some : (k : Kind) (inodes : ℕ) (c : Content) (found : Option Node) → IsObjectKind k → HasSizeOf k inodes c found → IsSome found
kind_some kinds.Free inodes c found is stands = absurd is
kind_some kinds.File inodes c found is stands = subst IsSome (sym stands.2) refl
kind_some kinds.Directory inodes c found is stands = subst IsSome (sym stands.2) refl
kind_some kinds.Link inodes c found is stands = subst IsSome (sym stands.2) refl
kind_some kinds.InodeFile inodes c found is stands = absurd is
kind_some kinds.InodeMap inodes c found is stands = absurd is
kind_some kinds.BlockMap inodes c found is stands = absurd is

pub object_some : (detail : Detail) (disk : ℕ → List ℕ) (inodes : ℕ) (settled : Inode) (object : Option Object) (found : Option Node) → IsObjectOrNone detail disk inodes settled object found
    → IsTrue (is_some object) ↔ IsSome found
object_some detail disk inodes settled (Some o) found is = ((λ yes. kind_some o.status.kind inodes (content_of_object disk o) found is.kind (by_size detail o.status.kind inodes (content_of_object disk o) found is.stands)), (λ some. refl))
object_some detail disk inodes settled None found is = ((λ yes. absurd (false≢true yes)), (λ some. absurd (false≢true (subst IsSome is some))))

-- ---- objects as they are loaded

untouched_body : (l : Layout) (b : Body) (blocks size : ℕ) (o : Object) → FitsBody l b blocks size → o.file.size ≡ size → StartsFrom l b size o.file.tree → StartsUnchanged b o.file.tree → IsUntouched o
untouched_body l (Inline bytes) blocks size o fits same starts unchanged =
    let flat = level_none o.file.tree.layout o.file.size (omega (arith, same, fits.0)) in
    record {
      kept = λ deep. absurd (omega (arith, deep, flat));
      count = λ deep. absurd (omega (arith, deep, flat));
      depth = λ deep. absurd (omega (arith, deep, flat));
      none = λ deep i is. absurd (omega (arith, deep, flat));
      few = λ low. unchanged;
    }
untouched_body l (Pointers pointers) blocks size o fits same starts unchanged = record {
  kept = λ deep. starts.1;
  count = λ deep. starts.0.count ∙ ap block_count (sym same);
  depth = λ deep. starts.0.depth ∙ ap (depth_of l) (sym same) ∙ ap (λ (m : Layout). depth_of m o.file.size) (sym starts.0.layout_is);
  none = λ deep i is. unchanged i is;
  few = λ low i is. absurd (unchanged i is);
}

pub loaded_untouched : (s : Sizes) (i : Inode) (o : Object) → IsInode s i → o.file.size ≡ i.size → StartsFrom i.layout i.body i.size o.file.tree → StartsUnchanged i.body o.file.tree → IsUntouched o
loaded_untouched s i o is same starts unchanged = untouched_body i.layout i.body s.blocks i.size o is.body same starts unchanged
