-- Names that directories of a volume get and lose.
use Rattle.std.proofs.Common.{◌≡◌, ◌≢◌, inl, inr, ℕ, zero, suc, ◌==◌, ◌≤◌, List, Option, Some, None, IsTrue, IsSome, is_some, false, refl, sym, ap, subst, ◌∙◌, arith}
use Rattle.std.proofs.Math.Path.{fun_ext}
use Rattle.std.proofs.lemmas.Bool.{cases_Bool, cases_eq, false≢true}
use Rattle.std.proofs.lemmas.Bool.Decides.{nat_tests}
use Rattle.std.specs.Prelude.{unwrap_or}
use Rattle.std.specs.Ordering.{nat_cmp}
use Rattle.std.specs.BTreeMap.{BTreeMap, btree_map_len, get}
use Rattle.model.specs.declared.limits.Limits.{Limits}
use Rattle.layout.specs.DirectoryNames.{HoldNames, NameMap}
use Rattle.inode.specs.Files.{file_block}
use Rattle.entries.specs.Known.{Knows}
use Rattle.entries.specs.declared.known.Known.{Known}
use Rattle.dirs.specs.Edits.{edited_block}
use Rattle.layout.specs.declared.inode.Inode.{Inode}
use Rattle.layout.specs.declared.kind.Kind.{Kind}
use Rattle.layout.specs.declared.kind.Kind.TheVariants as kinds
use Rattle.model.specs.declared.attributes.Attributes.{Attributes}
use Rattle.model.specs.Counting.{Counts}
use Rattle.model.specs.Paths.{Name, IsName}
use Rattle.model.specs.Records.{TakesName, is_vacant}
use Rattle.model.specs.Volumes.{Node, directory_node, file_node, link_node, Volume, names_in, is_directory_node, with_node, set_name, with_entry}
use Rattle.model.proofs.CountLemmas.{counts_once}
use Rattle.images.specs.Contents.{Content, IsDirectoryOf}
use Rattle.inode.specs.declared.object.Object.{Object}
use Rattle.inofile.specs.Objects.{IsObjectKind, IsObjectOrNone}
use Rattle.images.specs.Soundness.{Detail}
use Rattle.inofile.specs.Settled.{content_of_object}
use Rattle.layout.specs.declared.entry.Entry.{Entry}
use Rattle.dirs.specs.Directory.{HasCount, with_name}
use Rattle.dirs.specs.Room.{piece_count}
use Rattle.dirs.specs.declared.edit.Edit.{Edit}
use Rattle.records.specs.declared.naming.NameEdit.{NameEdit}
use Rattle.records.specs.declared.naming.NameEdit.TheVariants as edits
use Rattle.records.specs.Entering.{Accepts, HasPlace, IsDirectoryObject, PreparesEdit, TakesEdit, TakesEntry, names_after, pieces_of, with_node_names}
use Rattle.records.specs.Naming.{EditsNames}
use Rattle.model.proofs.ObjectLaws.{node_here, node_other}
use Rattle.model.proofs.ListingLemmas.{names_apart}
use Rattle.inofile.proofs.DetailLaws.{HasSizeOf, by_size}
use Rattle.records.proofs.KindLaws.{directory_kind}

-- ---- a directory of a volume and one in memory

module _ (limits : Limits) (v : Volume) (d : ℕ) (x : Name) (attributes : Attributes) (names : NameMap) (is : v d ≡ Some (directory_node attributes names)) where
  pub takes_name : IsName x → TakesEntry limits names x → TakesName limits v d x
  takes_name name takes = record {
    directory = subst (λ (o : Option Node). IsTrue (is_directory_node o)) (sym is) refl;
    missing = subst (λ (o : Option Node). names_in o x ≡ None) (sym is) takes.missing;
    name = name;
    count = takes.place.count;
    counts = subst (λ (o : Option Node). Counts (λ y. IsSome (names_in o y)) takes.place.count) (sym is) takes.place.counts;
    room = takes.place.room;
  }

  pub takes_entry : TakesName limits v d x → TakesEntry limits names x
  takes_entry takes = record {
    missing = subst (λ (o : Option Node). names_in o x ≡ None) is takes.missing;
    place = record {
      count = takes.count;
      counts = subst (λ (o : Option Node). Counts (λ y. IsSome (names_in o y)) takes.count) is takes.counts;
      room = takes.room;
    };
  }

-- a directory, with its mode and its names
pub directory_is : (o : Option Node) → IsTrue (is_directory_node o) → (attributes : Attributes) × (names : NameMap) × (o ≡ Some (directory_node attributes names))
directory_is None is = absurd (false≢true is)
directory_is (Some (directory_node attributes names)) is = (attributes, names, refl)
directory_is (Some (file_node attributes links bytes)) is = absurd (false≢true is)
directory_is (Some (link_node attributes text)) is = absurd (false≢true is)

pub found_directory : (o : Option Node) (attributes : Attributes) (names : NameMap) → o ≡ Some (directory_node attributes names) → IsTrue (is_directory_node o)
found_directory o attributes names is = ap is_directory_node is

-- an object has its names once
pub same_names : (attributes old : Attributes) (names others : NameMap) → Some (directory_node attributes names) ≡ Some (directory_node old others) → names ≡ others
same_names attributes old names others e = cc

-- what an edit of a directory's file makes of the directory
module _ (disk : ℕ → List ℕ) (limits : Limits) (found : Option Node) (o : Object) (known : Known) (wanted : NameEdit) (names : NameMap)
    (kind : o.status.kind ≡ kinds.Directory) (is : found ≡ Some (directory_node o.status.attributes names)) where
  -- it keeps what is known of the blocks
  pub edits_directory : (edit kept : Edit) → EditsNames limits disk o.file known wanted names (Some edit) → piece_count edit ≤ pieces_of wanted → kept.changed ≡ edit.changed → kept.count ≡ edit.count → kept.known ≡ known
      → PreparesEdit disk limits wanted found (Some o) (Some kept)
  edits_directory edit kept edited few changed count knows = (
    record {
      names = names;
      stands = is;
      kind = kind;
      edited = subst (λ (n : ℕ). HoldNames limits.inodes n (edited_block disk o.file kept) (names_after wanted names)) (sym count)
          (subst (λ (m : BTreeMap ℕ (List ℕ)). HoldNames limits.inodes edit.count (λ i. unwrap_or (get nat_cmp m i) (file_block disk o.file i)) (names_after wanted names)) (sym changed) edited.1);
      known = subst (Knows limits.inodes (edited_block disk o.file kept)) (sym knows) (subst (λ (m : BTreeMap ℕ (List ℕ)). Knows limits.inodes (λ i. unwrap_or (get nat_cmp m i) (file_block disk o.file i)) known) (sym changed) edited.2);
    },
    record { attributes = o.status.attributes; names = names; is = is; takes = edited.0 },
    subst (λ (m : BTreeMap ℕ (List ℕ)). btree_map_len m ≤ pieces_of wanted) (sym changed) few,
  )

  -- where there is none, the directory can't be edited so
  pub no_edit : EditsNames limits disk o.file known wanted names None → PreparesEdit disk limits wanted found (Some o) None
  no_edit never = λ accepts. never (subst (TakesEdit limits wanted) (same_names accepts.attributes o.status.attributes accepts.names names (sym accepts.is ∙ is)) accepts.takes)

-- a directory that takes a name has place for its entry
pub accepts_entry : (limits : Limits) (v : Volume) (d : ℕ) (entry : Entry) → TakesName limits v d entry.name.now → Accepts limits (edits.Add entry) (v d)
accepts_entry limits v d entry takes =
    let there = directory_is (v d) takes.directory in
    record { attributes = there.0; names = there.1; is = there.2; takes = takes_entry limits v d entry.name.now there.0 there.1 there.2 takes }

-- and the other way round
pub takes_accepted : (limits : Limits) (v : Volume) (d : ℕ) (entry : Entry) → IsName entry.name.now → Accepts limits (edits.Add entry) (v d) → TakesName limits v d entry.name.now
takes_accepted limits v d entry name accepts = takes_name limits v d entry.name.now accepts.attributes accepts.names accepts.is name accepts.takes

-- a full directory has no place for a name
pub full_has_no_place : (limits : Limits) (names : NameMap) (n : ℕ) → HasCount names n → limits.directory_names ≤ n → HasPlace limits names → ⊥
full_has_no_place limits names n count many place =
    let same : n ≡ place.count = counts_once (λ (y : Name). IsSome (names y)) names_apart n place.count count place.counts in
    let room = place.room in
    omega (arith, same, room, many)

-- ---- kinds

none_directory : (o : Option Node) → o ≡ None → IsTrue (is_directory_node o) → ⊥
none_directory o none is = false≢true (subst (λ (x : Option Node). IsTrue (is_directory_node x)) none is)

-- a directory in memory, with its names
pub directory_stands : (k : Kind) (inodes : ℕ) (c : Content) (o : Option Node) → k ≡ kinds.Directory → HasSizeOf k inodes c o
    → (names : NameMap) × IsDirectoryOf inodes c names × (o ≡ Some (directory_node c.attributes names))
directory_stands k inodes c o is stands = subst (λ (x : Kind). HasSizeOf x inodes c o) is stands

pub not_directory : (k : Kind) (inodes : ℕ) (c : Content) (o : Option Node) → HasSizeOf k inodes c o → (k ≡ kinds.Directory → ⊥) → false ≡ is_directory_node o
not_directory k inodes c o stands other =
    elim (cases_Bool (is_directory_node o)) [ inl is ↦ absurd (other (directory_kind k inodes c o stands is)) | inr isnt ↦ sym isnt ]

-- what stands for a directory is one in memory
pub is_directory_object : (detail : Detail) (disk : ℕ → List ℕ) (inodes : ℕ) (settled : Inode) (x : Option Object) (found : Option Node) → IsObjectOrNone detail disk inodes settled x found
    → IsTrue (is_directory_node found) → IsDirectoryObject x
is_directory_object detail disk inodes settled (Some o) found stands is = directory_kind o.status.kind inodes (content_of_object disk o) found (by_size detail o.status.kind inodes (content_of_object disk o) found stands.stands) is
is_directory_object detail disk inodes settled None found stands is = absurd (none_directory found stands is)

orphan_file : (attributes : Attributes) (links : ℕ) (bytes : List ℕ) → (links == 0) ≡ is_vacant (Some (file_node attributes links bytes))
orphan_file attributes zero bytes = refl
orphan_file attributes (suc links) bytes = grind (arith, nat_tests)

-- a file without links is vacant, and nothing else that stands there is
pub file_vacancy : (inodes : ℕ) (c : Content) (o : Option Node) → HasSizeOf kinds.File inodes c o → (c.links == 0) ≡ is_vacant o
file_vacancy inodes c o stands = orphan_file c.attributes c.links _ ∙ ap is_vacant (sym stands.2)

pub other_vacancy : (k : Kind) (inodes : ℕ) (c : Content) (o : Option Node) → (k ≡ kinds.File → ⊥) → IsObjectKind k → HasSizeOf k inodes c o → false ≡ is_vacant o
other_vacancy kinds.Free inodes c o other kind stands = absurd kind
other_vacancy kinds.File inodes c o other kind stands = absurd (other refl)
other_vacancy kinds.Directory inodes c o other kind stands = ap is_vacant (sym stands.2)
other_vacancy kinds.Link inodes c o other kind stands = ap is_vacant (sym stands.2)
other_vacancy kinds.InodeFile inodes c o other kind stands = absurd kind
other_vacancy kinds.InodeMap inodes c o other kind stands = absurd kind
other_vacancy kinds.BlockMap inodes c o other kind stands = absurd kind

-- a directory's number isn't vacant
pub vacant_apart : (v : Volume) (n d : ℕ) → IsTrue (is_vacant (v n)) → IsTrue (is_directory_node (v d)) → n ≢ d
vacant_apart v n d vacant directory same = apart (v d) (subst (λ k. IsTrue (is_vacant (v k))) same vacant) directory
  where
    apart : (o : Option Node) → IsTrue (is_vacant o) → IsTrue (is_directory_node o) → ⊥
    apart None vacant directory = false≢true directory
    apart (Some (directory_node attributes names)) vacant directory = false≢true vacant
    apart (Some (file_node attributes links bytes)) vacant directory = false≢true directory
    apart (Some (link_node attributes text)) vacant directory = false≢true directory

-- ---- answers

pub not_some : {A : Type 0} (o : Option A) → is_some o ≡ false → o ≡ None
not_some None is = refl
not_some (Some a) is = absurd (false≢true (sym is))

-- ---- the volume

-- a name and its object, the name first, make what both make at once
module _ (n d : ℕ) (x : Name) (to : Option ℕ) (node : Option Node) (v : Volume) (apart : n ≢ d) where
  abbrev object_put : Volume
  object_put = with_node n node v

  abbrev name_put : Volume
  name_put = with_node d (set_name x to (v d)) v

  at_parent : object_put d ≡ v d
  at_parent = node_other n d node v (λ e. apart (sym e))

  put_each : (k : ℕ) → with_node n node name_put k ≡ with_entry d x to object_put k
  put_each k = elim (cases_eq k n) [
    | inl is_n ↦
        node_here n k node name_put is_n
        ∙ sym (node_here n k node v is_n)
        ∙ sym (node_other d k (set_name x to (object_put d)) object_put (λ e. apart (sym is_n ∙ e)))
    | inr other ↦
        node_other n k node name_put other
        ∙ elim (cases_eq k d) [
          | inl is_d ↦
              node_here d k (set_name x to (v d)) v is_d
              ∙ ap (set_name x to) (sym at_parent)
              ∙ sym (node_here d k (set_name x to (object_put d)) object_put is_d)
          | inr ne ↦
              node_other d k (set_name x to (v d)) v ne
              ∙ sym (node_other n k node v other)
              ∙ sym (node_other d k (set_name x to (object_put d)) object_put ne)
        ]
  ]

  pub put_volume : with_node n node (with_node d (set_name x to (v d)) v) ≡ with_entry d x to (with_node n node v)
  put_volume = fun_ext {f = with_node n node name_put} {g = with_entry d x to object_put} put_each

-- one name of a directory changed
pub names_set : (x : Name) (to : Option ℕ) (o : Option Node) → with_node_names (with_name x to) o ≡ set_name x to o
names_set x to None = refl
names_set x to (Some (directory_node attributes names)) = refl
names_set x to (Some (file_node attributes links bytes)) = refl
names_set x to (Some (link_node attributes text)) = refl
