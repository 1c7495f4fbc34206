-- Objects in memory, as those of the volume that they stand for.
use Rattle.std.proofs.Common.{◌≡◌, ◌≢◌, ◌∙◌, ℕ, zero, suc, ◌/◌, List, [], All, IfOk, Result, Ok, Err, Option, Some, None, IfNone, IfSome, IsSome, true, false, refl, sym, ap, subst, arith}
use Rattle.std.specs.Prelude.{◌==◌, if◌then◌else◌}
use Rattle.std.proofs.lemmas.Bool.Decides.{nat_tests}
use Rattle.std.proofs.lemmas.List.Elements.{All-nil, All-weaker}
use Rattle.std.specs.Global.{Vec}
use Rattle.std.specs.List.Sorted.{IsStrictlySortedBy}
use Rattle.dirs.specs.Directory.{AreDirectoryBlocks}
use Rattle.dirs.specs.Listings.{AreInOrder, IsListingOfNames, IsNumberedListing}
use Rattle.dirs.specs.declared.directory.NumberedName.{NumberedName}
use Rattle.buffers.specs.declared.error.BlockError.{BlockError}
use Rattle.entries.specs.Entries.{IsObjectNumber}
use Rattle.layout.specs.DirectoryNames.{NameMap, HoldNames}
use Rattle.layout.specs.declared.kind.Kind.{Kind}
use Rattle.layout.specs.declared.kind.Kind.TheVariants as kinds
use Rattle.layout.specs.declared.inode.Inode.{Inode}
use Rattle.images.specs.Contents.{Content, StandsAs, content_bytes}
use Rattle.inode.specs.Files.{file_block}
use Rattle.inode.specs.declared.object.Object.{Object}
use Rattle.inode.proofs.BaseLaws.{same_itself}
use Rattle.inofile.specs.Objects.{IsObject, IsObjectIn, IsObjectKind, IsObjectOrNone, IsSameOrNone, StaysKnown}
use Rattle.images.specs.Sizes.{CanReadBlock}
use Rattle.images.specs.Soundness.{Detail}
use Rattle.inofile.specs.Settled.{content_of_object}
use Rattle.inofile.proofs.DetailLaws.{HasSizeOf, by_size, directory_readable}
use Rattle.model.specs.Paths.{Name}
use Rattle.model.specs.declared.attributes.Attributes.{Attributes}
use Rattle.model.specs.Volumes.{Node, directory_node, file_node, names_in}
use Rattle.paths.specs.Listed.{IsListedWithin}
use Rattle.paths.specs.Numbers.{IsInodeNumber}
use Rattle.paths.specs.Steps.{found_as, found_in, placed_in, text_in}
use Rattle.paths.specs.declared.lookup.Found.TheVariants as found

module _ {detail : Detail} (disk : ℕ → List ℕ) (inodes : ℕ) (settled : Inode) (o : Object) (node : Option Node) (object : IsObjectIn detail disk inodes settled o node) where
  -- it stands for what its kind says
  sized : HasSizeOf o.status.kind inodes (content_of_object disk o) node
  sized = by_size detail o.status.kind inodes (content_of_object disk o) node object.stands

  stands : (kind : Kind) → o.status.kind ≡ kind → HasSizeOf kind inodes (content_of_object disk o) node
  stands kind is = subst (λ k. HasSizeOf k inodes (content_of_object disk o) node) is sized

  -- a directory's names
  pub names_of : o.status.kind ≡ kinds.Directory → (names : NameMap) × HoldNames inodes (o.file.size / 4096) (file_block disk o.file) names × (node ≡ Some (directory_node o.status.attributes names))
  names_of is = stands kinds.Directory is

  -- its blocks
  pub blocks_of : o.status.kind ≡ kinds.Directory → AreDirectoryBlocks inodes (o.file.size / 4096) (file_block disk o.file)
  blocks_of is = λ i below. let d = names_of is in (d.1.entries i, d.1.holds i below)

  -- they can be read
  pub can_read : o.status.kind ≡ kinds.Directory → (i : ℕ) → CanReadBlock detail (file_block disk o.file) i
  can_read is i = directory_readable detail o.status.kind inodes (content_of_object disk o) node object.stands is i

  -- what is told of its names, is told of the object's
  pub of_names : (P : NameMap → Type 0) → o.status.kind ≡ kinds.Directory → ((names : NameMap) → HoldNames inodes (o.file.size / 4096) (file_block disk o.file) names → P names)
      → P (names_in node)
  of_names P is told = let d = names_of is in subst (λ n. P (names_in n)) (sym d.2) (told d.0 d.1)

  -- what is no directory has no names
  no_names : (kind : Kind) → (kind ≢ kinds.Directory) → IsObjectKind kind → HasSizeOf kind inodes (content_of_object disk o) node → (x : Name) → names_in node x ≡ None
  no_names kinds.Free other kind is x = absurd kind
  no_names kinds.File other kind is x = ap (λ n. names_in n x) is.2
  no_names kinds.Directory other kind is x = absurd (other refl)
  no_names kinds.Link other kind is x = ap (λ n. names_in n x) is.2
  no_names kinds.InodeFile other kind is x = absurd kind
  no_names kinds.InodeMap other kind is x = absurd kind
  no_names kinds.BlockMap other kind is x = absurd kind

  pub without_names : (o.status.kind ≢ kinds.Directory) → (x : Name) → names_in node x ≡ None
  without_names other x = no_names o.status.kind other object.kind sized x

  -- what is no link has no text
  no_text : (kind : Kind) → (kind ≢ kinds.Link) → IsObjectKind kind → HasSizeOf kind inodes (content_of_object disk o) node → text_in node ≡ []
  no_text kinds.Free other kind is = absurd kind
  no_text kinds.File other kind is = ap text_in is.2
  no_text kinds.Directory other kind is = ap text_in is.2
  no_text kinds.Link other kind is = absurd (other refl)
  no_text kinds.InodeFile other kind is = absurd kind
  no_text kinds.InodeMap other kind is = absurd kind
  no_text kinds.BlockMap other kind is = absurd kind

  pub without_text : (o.status.kind ≢ kinds.Link) → text_in node ≡ []
  without_text other = no_text o.status.kind other object.kind sized

-- a link's text
pub link_text : (disk : ℕ → List ℕ) (inodes : ℕ) (settled : Inode) (o : Object) (node : Option Node) → IsObject disk inodes settled o node
    → o.status.kind ≡ kinds.Link → content_bytes (content_of_object disk o) ≡ text_in node
link_text disk inodes settled o node object is = sym (ap text_in (subst (λ k. StandsAs k inodes (content_of_object disk o) node) is object.stands))

-- an object is what its kind says
pub found_is : (kind : Kind) (inodes : ℕ) (c : Content) (node : Option Node) → HasSizeOf kind inodes c node → found_as kind ≡ found_in node
found_is kinds.Free inodes c node is = sym (ap found_in is)
found_is kinds.File inodes c node is = sym (ap found_in is.2)
found_is kinds.Directory inodes c node is = sym (ap found_in is.2)
found_is kinds.Link inodes c node is = sym (ap found_in is.2)
found_is kinds.InodeFile inodes c node is = sym (ap found_in is)
found_is kinds.InodeMap inodes c node is = sym (ap found_in is)
found_is kinds.BlockMap inodes c node is = sym (ap found_in is)

-- what isn't touched is the same
pub same_object : (x : Option Object) → IsSameOrNone x x
same_object (Some o) = record { status = refl; file = same_itself o.file }
same_object None = tt

pub same_known : (inodes : ℕ) (disk : ℕ → List ℕ) (x : Option Object) → StaysKnown inodes disk x x
same_known inodes disk (Some o) = λ known. known
same_known inodes disk None = tt

-- an object that was taken out, or none
pub object_or_none : (detail : Detail) (disk : ℕ → List ℕ) (inodes : ℕ) (settled : Inode) (o : Option Object) (found : Option Node)
    → IfSome o (λ x. IsObjectIn detail disk inodes settled x found) → IfNone o (found ≡ None) → IsObjectOrNone detail disk inodes settled o found
object_or_none detail disk inodes settled (Some x) found stands none = stands
object_or_none detail disk inodes settled None found stands none = none

-- what has no names
pub nothing_listed : (names : NameMap) → ((x : Name) → names x ≡ None) → IsListingOfNames names []
unfolding IsStrictlySortedBy
nothing_listed names none = record {
  sorted = tt;
  whole = λ x. (λ is. absurd (omega (arith, is.1)), λ is. let some : false ≡ true = subst IsSome (none x) is in absurd cc);
}

pub none_numbered : (names : NameMap) → ((x : Name) → names x ≡ None) → IsNumberedListing names []
none_numbered names none = record {
  listing = nothing_listed names none;
  numbers = All-nil (λ (n : NumberedName). names n.name.items ≡ Some n.number);
}

-- what is listed with numbers, whatever memory stands for
pub none_within : (inodes : ℕ) → IsListedWithin inodes []
unfolding IsStrictlySortedBy
none_within inodes = record { ordered = tt; numbers = All-nil (λ (n : NumberedName). IsInodeNumber inodes n.number) }

pub listed_within : (inodes : ℕ) (r : Result (Vec NumberedName) BlockError) → IfOk r (λ l. AreInOrder l.items) → IfOk r (λ l. All (λ n. IsObjectNumber inodes n.number) l.items)
    → IfOk r (λ l. IsListedWithin inodes l.items)
listed_within inodes (Ok listed) ordered ordinary = record {
  ordered = ordered;
  numbers = All-weaker (λ (n : NumberedName). IsObjectNumber inodes n.number) (λ (n : NumberedName). IsInodeNumber inodes n.number) (λ n is. (omega (arith, is.0), is.1)) listed.items ordinary;
}
listed_within inodes (Err e) ordered ordinary = tt

-- a file without names doesn't stand at a path
named_file : (attributes : Attributes) (links : ℕ) (bytes : List ℕ) → placed_in (Some (file_node attributes links bytes)) ≡ (if links == 0 then found.Nothing else found.File)
named_file attributes zero bytes = grind (arith, nat_tests)
named_file attributes (suc links) bytes = grind (arith, nat_tests)

pub placed_file : (inodes : ℕ) (c : Content) (node : Option Node) → HasSizeOf kinds.File inodes c node → placed_in node ≡ (if c.links == 0 then found.Nothing else found.File)
placed_file inodes c node is = ap placed_in is.2 ∙ named_file c.attributes c.links _

-- and what is no file does
pub placed_other : (kind : Kind) (inodes : ℕ) (c : Content) (node : Option Node) → kind ≢ kinds.File → IsObjectKind kind → HasSizeOf kind inodes c node → found_as kind ≡ placed_in node
placed_other kinds.Free inodes c node other kind is = absurd kind
placed_other kinds.File inodes c node other kind is = absurd (other refl)
placed_other kinds.Directory inodes c node other kind is = sym (ap placed_in is.2)
placed_other kinds.Link inodes c node other kind is = sym (ap placed_in is.2)
placed_other kinds.InodeFile inodes c node other kind is = absurd kind
placed_other kinds.InodeMap inodes c node other kind is = absurd kind
placed_other kinds.BlockMap inodes c node other kind is = absurd kind
