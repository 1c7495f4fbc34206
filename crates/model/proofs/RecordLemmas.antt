-- What a record does to a volume is what it says of the tree.
use Rattle.std.proofs.Common.{◌≡◌, ◌≢◌, ◌⊎◌, inl, inr, ℕ, zero, suc, ◌+◌, ◌≤◌, ◌<◌, ◌==◌, arith, List, [], ◌∷◌, ◌++◌, Bool, true, false, Option, Some, None, is_some, refl, sym, ap, subst, ◌∙◌}
use Rattle.std.specs.Prelude.{if◌then◌else◌, unwrap_or}
use Rattle.std.proofs.Math.Path.{fun_ext}
use Rattle.std.proofs.lemmas.Bool.{cases_eq, cases_lt, cond_both, eqb-true, false≢true}
use Rattle.model.specs.declared.limits.Limits.{Limits}
use Rattle.model.specs.declared.attributes.Attributes.{Attributes}
use Rattle.model.specs.declared.limits.TheConstants.{OPEN_FILES}
use Rattle.model.specs.Attributes.{no_attributes, set_given, set_mode}
use Rattle.model.specs.Paths.{Name, Path}
use Rattle.model.specs.declared.attributes.Touch.TheVariants.{Data, Status}
use Rattle.model.specs.declared.time.Time.{Time}
use Rattle.model.specs.Touches.{Touches, touches_entry, touches_move, touches_object}
use Rattle.model.specs.Trees as trees
use Rattle.model.specs.Trees.{Tree, Description}
use Rattle.model.specs.Edits.{changing_attributes, contents, resized, written, put_at, without_object, with_mode, with_bytes, marked, moved, IsSwept}
use Rattle.model.specs.Volumes.{Node, directory_node, file_node, link_node, Volume, names_in, entries, number_at, object_of, object_at, attributes_of, bytes_of_node, tree_of, with_node, set_name, with_entry, is_file_node, is_directory_node, is_orphan, IsGraph, IsVolume, with_name_more, released, created, linked, unnamed, is_open, swept_node, swept, IsMounted}
use Rattle.model.specs.Records.{Made, file, directory, symbolic_link, Edit, create, link, remove_name, rename, write, truncate, change_attributes, set_file, node_of, with_file_bytes, with_node_attributes, with_size, with_bits, edited, touches_of, applied, CanCreate, CanLink, CanEdit}
use Rattle.model.specs.Changes.{IsAt, with_made, ChangesBy, ChangesTree, TakesFree}
use Rattle.model.specs.Laws.{RecordsChangeTrees, VolumesAreTrees}
use Rattle.model.proofs.VolumeLemmas.{enters_directory}
use Rattle.model.proofs.KeptLemmas.{Kept, kept_through, entry_keeps, released_keeps, keeps, node-here}
use Rattle.model.proofs.PutLemmas.{objects-created, objects-linked, objects-unnamed, entries-node}
use Rattle.model.proofs.RemoveNameLemmas.{volume-unnamed, unnamed_used}
use Rattle.model.proofs.SweepLemmas.{swept_from, stays_open, found_open}
use Rattle.model.proofs.RenameLemmas.{renamed_swept}
use Rattle.model.proofs.OnceLemmas.{trees_same}
use Rattle.model.proofs.AddLemmas.{more_kept, vacant_unnamed}
use Rattle.model.proofs.MoveLemmas.{edits_keep_volumes, path_to, from_path, to_path, is_move, made_bare, bytes_names, bytes_by, attributes_names, attributes_file, takes_there}
use Rattle.model.proofs.MarkLemmas.{attributes_bytes, attributes_object, attributes_orphan, is_swept-marked, marked_file, number_by_name, swept_tree-marked}
use Rattle.model.proofs.MountedLemmas.{tree_of_is_tree, node_file}
use Rattle.model.proofs.ObjectLaws.{directory_object, node_other}

-- what stays swept

swept_as : (b : Bool) (o r : Option Node) → is_orphan r ≡ is_orphan o → swept_node b o ≡ o → swept_node b r ≡ r
swept_as b o None same is = refl
swept_as b o (Some (directory_node attributes names)) same is = refl
swept_as true o (Some (file_node attributes zero bytes)) same is = refl
swept_as false o (Some (file_node attributes zero bytes)) same is = absurd (gone o (sym same) is)
  where
    gone : (o : Option Node) → is_orphan o ≡ true → swept_node false o ≡ o → ⊥
    gone None orphans is = false≢true orphans
    gone (Some (directory_node attributes names)) orphans is = false≢true orphans
    gone (Some (file_node attributes zero bytes)) orphans is = cc
    gone (Some (file_node attributes (suc links) bytes)) orphans is = false≢true orphans
    gone (Some (link_node attributes text)) orphans is = false≢true orphans
swept_as b o (Some (file_node attributes (suc links) bytes)) same is = refl
swept_as b o (Some (link_node attributes text)) same is = refl

stays_named : (b : Bool) (o : Option Node) → is_orphan o ≡ false → swept_node b o ≡ o
stays_named b o named = swept_as b None o named refl

pub swept_twice : (b : Bool) (o : Option Node) → swept_node b (swept_node b o) ≡ swept_node b o
swept_twice b None = refl
swept_twice b (Some (directory_node attributes names)) = refl
swept_twice true (Some (file_node attributes zero bytes)) = refl
swept_twice false (Some (file_node attributes zero bytes)) = refl
swept_twice b (Some (file_node attributes (suc links) bytes)) = refl
swept_twice b (Some (link_node attributes text)) = refl

-- where each object is swept, so is the volume
same_volume : (v w : Volume) → ((n : ℕ) → v n ≡ w n) → v ≡ w
same_volume v w same = fun_ext {f = v} {g = w} same

set_orphan : (x : Name) (to : Option ℕ) (o : Option Node) → is_orphan (set_name x to o) ≡ is_orphan o
set_orphan x to None = refl
set_orphan x to (Some (directory_node attributes names)) = refl
set_orphan x to (Some (file_node attributes zero bytes)) = refl
set_orphan x to (Some (file_node attributes (suc links) bytes)) = refl
set_orphan x to (Some (link_node attributes text)) = refl

entry_orphan : (v : Volume) (d : ℕ) (x : Name) (to : Option ℕ) (m : ℕ) → is_orphan (with_entry d x to v m) ≡ is_orphan (v m)
entry_orphan v d x to m =
    elim (cases_eq m d) [
      | inl is ↦ ap (λ k. is_orphan (with_entry d x to v k)) is ∙ ap is_orphan (node-here d (set_name x to (v d)) v) ∙ set_orphan x to (v d) ∙ ap (λ k. is_orphan (v k)) (sym is)
      | inr other ↦ ap is_orphan (node_other d m (set_name x to (v d)) v other)
    ]

more_named : (o : Option Node) → is_orphan (with_name_more o) ≡ false
more_named None = refl
more_named (Some (directory_node attributes names)) = refl
more_named (Some (file_node attributes links bytes)) = named (links + 1) (omega arith)
  where
    named : (n : ℕ) → 1 ≤ n → is_orphan (Some (file_node attributes n bytes)) ≡ false
    named zero low = absurd (omega (arith, low))
    named (suc n) low = refl
more_named (Some (link_node attributes text)) = refl

made_named : (made : Made) → is_orphan (Some (node_of made)) ≡ false
made_named (file permissions) = refl
made_named (directory permissions) = refl
made_named (symbolic_link permissions text) = refl

bytes_orphan : (f : List ℕ → List ℕ) (o : Option Node) → is_orphan (with_file_bytes f o) ≡ is_orphan o
bytes_orphan f None = refl
bytes_orphan f (Some (directory_node attributes names)) = refl
bytes_orphan f (Some (file_node attributes zero bytes)) = refl
bytes_orphan f (Some (file_node attributes (suc links) bytes)) = refl
bytes_orphan f (Some (link_node attributes text)) = refl

-- a choice by a test, through a function
chosen : {X Y : Type 0} (f : X → Y) (b : Bool) (x y : X) → f (if b then x else y) ≡ (if b then f x else f y)
chosen f true x y = refl
chosen f false x y = refl

-- what is open is a file still
module _ (v new : Volume) (table : ℕ → Option Description) (mounted : IsMounted v table) (files : (n : ℕ) → is_file_node (v n) ≡ true → is_file_node (new n) ≡ true) where
  open_stays : (n : ℕ) → is_open table OPEN_FILES n ≡ true → swept table new n ≡ new n
  open_stays n is = ap (λ b. swept_node b (new n)) is ∙ stays_open (new n)

  pub still_mounted : IsMounted (swept table new) table
  still_mounted = record {
    files = λ d f is.
        let low : d < OPEN_FILES = elim (cases_lt d OPEN_FILES) [ inl below ↦ below | inr past ↦ let none : None ≡ Some f = sym (mounted.bounded d past) ∙ is in cc ] in
        ap is_file_node (open_stays f.number (found_open table OPEN_FILES d f.number f low is refl)) ∙ files f.number (mounted.files d f is);
    is_swept = λ n. swept_twice (is_open table OPEN_FILES n) (new n);
    bounded = mounted.bounded;
    offsets = mounted.offsets;
  }

-- nothing is dropped where nothing became an orphan
unswept : (v new : Volume) (table : ℕ → Option Description) → IsMounted v table → ((n : ℕ) → (is_orphan (new n) ≡ false) ⊎ (is_orphan (new n) ≡ is_orphan (v n))) → swept table new ≡ new
unswept v new table mounted named =
    same_volume (swept table new) new (λ n.
    elim (named n) [
      | inl is ↦ stays_named (is_open table OPEN_FILES n) (new n) is
      | inr same ↦ swept_as (is_open table OPEN_FILES n) (v n) (new n) same (mounted.is_swept n)
    ])

-- what one object's change shows of a tree
module _ (limits : Limits) (v : Volume) (volume : IsVolume limits v) (table : ℕ → Option Description) (mounted : IsMounted v table) where
  abbrev before : Tree
  before = tree_of v table

  -- one object changes but for its kind, its names and its links
  module _ (n : ℕ) (o : Option Node) (names : (x : Name) → names_in o x ≡ names_in (v n) x) (object : (m : ℕ) → object_of m o ≡ object_of m (v n)) (orphans : is_orphan o ≡ is_orphan (v n)) where
    abbrev altered : Volume
    altered = with_node n o v

    by_node : {X : Type 0} (f : Option Node → X) → f o ≡ f (v n) → (m : ℕ) → f (altered m) ≡ f (v m)
    by_node f same m =
        elim (cases_eq m n) [
          | inl is ↦ ap (λ k. f (altered k)) is ∙ ap f (node-here n o v) ∙ same ∙ ap (λ k. f (v k)) (sym is)
          | inr other ↦ ap f (node_other n m o v other)
        ]

    altered_at : (r : Option ℕ) → object_at altered r ≡ object_at v r
    altered_at None = refl
    altered_at (Some m) = by_node (object_of m) (object m) m

    altered_objects : (tree_of altered table).objects ≡ before.objects
    altered_objects = fun_ext (λ r. ap (λ e. object_at altered (number_at e r)) (entries-node n o v names) ∙ altered_at (number_at (entries v) r))

    altered_swept : swept table altered ≡ altered
    altered_swept = unswept v altered table mounted (λ m. inr (by_node is_orphan orphans m))

  bytes_object : (f : List ℕ → List ℕ) (o : Option Node) (m : ℕ) → object_of m (with_file_bytes f o) ≡ object_of m o
  bytes_object f o m = bytes_by (object_of m) (λ attributes links a b. refl) f o

  bytes_here : (f : List ℕ → List ℕ) (o : Option Node) → is_file_node o ≡ true → bytes_of_node (with_file_bytes f o) ≡ Some (f (unwrap_or (bytes_of_node o) []))
  bytes_here f None is = absurd (false≢true is)
  bytes_here f (Some (directory_node attributes names)) is = absurd (false≢true is)
  bytes_here f (Some (file_node attributes links bytes)) is = refl
  bytes_here f (Some (link_node attributes text)) is = absurd (false≢true is)

  bytes_attributes : (f : List ℕ → List ℕ) (o : Option Node) → attributes_of (with_file_bytes f o) ≡ attributes_of o
  bytes_attributes f o = bytes_by attributes_of (λ attributes links a b. refl) f o

  -- a file's bytes change
  module _ (n : ℕ) (f : List ℕ → List ℕ) (is : is_file_node (v n) ≡ true) where
    bytes_swept : swept table (with_node n (with_file_bytes f (v n)) v) ≡ with_node n (with_file_bytes f (v n)) v
    bytes_swept = altered_swept n (with_file_bytes f (v n)) (bytes_names f (v n)) (bytes_object f (v n)) (bytes_orphan f (v n))

    bytes_tree : tree_of (with_node n (with_file_bytes f (v n)) v) table ≡ record before { bytes = λ k. if k == n then Some (f (contents before n)) else before.bytes k }
    bytes_tree =
        trees_same (tree_of (with_node n (with_file_bytes f (v n)) v) table) (record before { bytes = λ k. if k == n then Some (f (contents before n)) else before.bytes k })
        (altered_objects n (with_file_bytes f (v n)) (bytes_names f (v n)) (bytes_object f (v n)) (bytes_orphan f (v n)))
        (fun_ext (λ k. chosen bytes_of_node (k == n) (with_file_bytes f (v n)) (v k) ∙ ap (λ b. if k == n then b else before.bytes k) (bytes_here f (v n) is)))
        (fun_ext (λ k. by_node n (with_file_bytes f (v n)) (bytes_names f (v n)) (bytes_object f (v n)) (bytes_orphan f (v n)) attributes_of (bytes_attributes f (v n)) k)) refl

  attributes_here : (f : Attributes → Attributes) (o : Option Node) → is_some o ≡ true → attributes_of (with_node_attributes f o) ≡ Some (f (unwrap_or (attributes_of o) no_attributes))
  attributes_here f None is = absurd (false≢true is)
  attributes_here f (Some (directory_node attributes names)) is = refl
  attributes_here f (Some (file_node attributes links bytes)) is = refl
  attributes_here f (Some (link_node attributes text)) is = refl

  -- an object's attributes change
  module _ (n : ℕ) (f : Attributes → Attributes) (is : is_some (v n) ≡ true) where
    changed_swept : swept table (with_node n (with_node_attributes f (v n)) v) ≡ with_node n (with_node_attributes f (v n)) v
    changed_swept = altered_swept n (with_node_attributes f (v n)) (attributes_names f (v n)) (attributes_object f (v n)) (attributes_orphan f (v n))

    changed_tree : tree_of (with_node n (with_node_attributes f (v n)) v) table ≡ changing_attributes n f before
    changed_tree =
        trees_same (tree_of (with_node n (with_node_attributes f (v n)) v) table) (changing_attributes n f before)
        (altered_objects n (with_node_attributes f (v n)) (attributes_names f (v n)) (attributes_object f (v n)) (attributes_orphan f (v n)))
        (fun_ext (λ k. by_node n (with_node_attributes f (v n)) (attributes_names f (v n)) (attributes_object f (v n)) (attributes_orphan f (v n)) bytes_of_node (attributes_bytes f (v n)) k))
        (fun_ext (λ k. chosen attributes_of (k == n) (with_node_attributes f (v n)) (v k) ∙ ap (λ b. if k == n then b else before.attributes k) (attributes_here f (v n) is))) refl

-- a file is there
file_there : (o : Option Node) → is_file_node o ≡ true → is_some o ≡ true
file_there None is = is
file_there (Some o) is = refl

-- a size changes, and then a mode
module _ (limits : Limits) (v : Volume) (volume : IsVolume limits v) (table : ℕ → Option Description) (mounted : IsMounted v table) (n mode size : ℕ) (can : CanEdit limits v (set_file n mode size)) where
  abbrev sized : Volume
  sized = with_size n size v

  sized_file : (k : ℕ) → is_file_node (v k) ≡ true → is_file_node (sized k) ≡ true
  sized_file k is =
      by_node limits v volume table mounted n (with_file_bytes (resized size) (v n)) (bytes_names (resized size) (v n)) (bytes_object limits v volume table mounted (resized size) (v n)) (bytes_orphan (resized size) (v n)) is_file_node (bytes_by is_file_node (λ attributes links a b. refl) (resized size) (v n)) k ∙ is

  sized_swept : swept table sized ≡ sized
  sized_swept = bytes_swept limits v volume table mounted n (resized size) can.0

  sized_mounted : IsMounted sized table
  sized_mounted = subst (λ (w : Volume). IsMounted w table) sized_swept (still_mounted v sized table mounted sized_file)

  sized_volume : IsVolume limits sized
  sized_volume = edits_keep_volumes limits v (truncate n size) volume (can.0, can.2)

  sized_has : is_some (sized n) ≡ true
  sized_has = file_there (sized n) (sized_file n can.0)

  set_tree : tree_of (swept table (with_bits n mode sized)) table
      ≡ with_mode n mode (with_bytes n (resized size (contents (tree_of v table) n)) (tree_of v table))
  set_tree =
      ap (λ w. tree_of w table) (changed_swept limits sized sized_volume table sized_mounted n (set_mode mode) sized_has)
      ∙ changed_tree limits sized sized_volume table sized_mounted n (set_mode mode) sized_has
      ∙ ap (λ u. with_mode n mode u) (bytes_tree limits v volume table mounted n (resized size) can.0)

  set_files : (k : ℕ) → is_file_node (v k) ≡ true → is_file_node (with_bits n mode sized k) ≡ true
  set_files k is =
      by_node limits sized sized_volume table sized_mounted n (with_node_attributes (set_mode mode) (sized n)) (attributes_names (set_mode mode) (sized n)) (attributes_object (set_mode mode) (sized n)) (attributes_orphan (set_mode mode) (sized n)) is_file_node (attributes_file (set_mode mode) (sized n)) k
      ∙ sized_file k is

module _ (limits : Limits) (v : Volume) (volume : IsVolume limits v) (table : ℕ → Option Description) (mounted : IsMounted v table) where
  abbrev graph : IsGraph v
  graph = volume.graph

  abbrev t : Tree
  t = tree_of v table

  -- a directory stands at its path
  is_at : (p : Path) (d : ℕ) → number_at (entries v) p ≡ Some d → is_directory_node (v d) ≡ true → IsAt t p d
  is_at p d at_d d_is = ap (object_at v) at_d ∙ directory_object d (v d) d_is

  -- a new object
  module _ (number parent : ℕ) (made : Made) (name : Name) (can : CanCreate limits v number parent made name) (free : v number ≡ None) where
    abbrev new : Volume
    new = created number parent name (node_of made) v

    abbrev more : Volume
    more = with_node number (Some (node_of made)) v

    abbrev place : (p : Path) × (number_at (entries v) p ≡ Some parent)
    place = path_to v graph parent can.takes.directory

    abbrev q : Path
    q = place.0 ++ name ∷ []

    other_than_parent : number ≢ parent
    other_than_parent e = false≢true (sym (ap is_directory_node free) ∙ ap (λ n. is_directory_node (v n)) e ∙ can.takes.directory)

    not_root : number ≢ 3
    not_root e = false≢true (sym (ap is_directory_node free) ∙ ap (λ n. is_directory_node (v n)) e ∙ graph.naming.root)

    objects : (tree_of new table).objects ≡ put_at q (object_of number (Some (node_of made))) t.objects
    objects =
        objects-created v graph place.0 name parent table place.1 can.takes.directory number (node_of made) can.takes.missing other_than_parent (λ x. ap (λ o. names_in o x) free) (made_bare made)
        (vacant_unnamed v graph number can.vacant) not_root

    -- what the nodes show: of the new one, and of the others as before
    shown : {X : Type 0} (f : Option Node → X) → ((m : ℕ) → f (new m) ≡ f (more m)) → (m : ℕ) → f (new m) ≡ (if m == number then f (Some (node_of made)) else f (v m))
    shown f same m = same m ∙ chosen f (m == number) (Some (node_of made)) (v m)

    bytes : (m : ℕ) → bytes_of_node (new m) ≡ (if m == number then bytes_of_node (Some (node_of made)) else bytes_of_node (v m))
    bytes = shown bytes_of_node (λ m. (entry_keeps parent name (Some number) more m).bytes)

    attributes : (m : ℕ) → attributes_of (new m) ≡ (if m == number then attributes_of (Some (node_of made)) else attributes_of (v m))
    attributes = shown attributes_of (λ m. (entry_keeps parent name (Some number) more m).attributes)

    as_before : {X : Type 0} (f : Option Node → Option X) → f None ≡ None → f (Some (node_of made)) ≡ None → (m : ℕ) → (if m == number then f (Some (node_of made)) else f (v m)) ≡ f (v m)
    as_before f none same m =
        cond_both (m == number) (f (Some (node_of made))) (f (v m)) (λ o. o ≡ f (v m)) (λ e. same ∙ sym none ∙ ap f (sym free) ∙ ap (λ n. f (v n)) (sym (eqb-true m number e))) (λ e. refl)

    created_named : (m : ℕ) → (is_orphan (new m) ≡ false) ⊎ (is_orphan (new m) ≡ is_orphan (v m))
    created_named m =
        elim (cases_eq m number) [
          | inl is ↦ inl (entry_orphan more parent name (Some number) m ∙ ap (λ k. is_orphan (more k)) is ∙ ap is_orphan (node-here number (Some (node_of made)) v) ∙ made_named made)
          | inr other ↦ inr (entry_orphan more parent name (Some number) m ∙ ap is_orphan (node_other number m (Some (node_of made)) v other))
        ]

    pub created_swept : swept table new ≡ new
    created_swept = unswept v new table mounted created_named

    pub created_files : (n : ℕ) → is_file_node (v n) ≡ true → is_file_node (new n) ≡ true
    created_files n is =
        (entry_keeps parent name (Some number) more n).file
        ∙ ap is_file_node (node_other number n (Some (node_of made)) v (λ e. false≢true (sym (ap is_file_node free) ∙ ap (λ k. is_file_node (v k)) (sym e) ∙ is))) ∙ is

  makes_tree : (number parent : ℕ) (made : Made) (name : Name) (can : CanCreate limits v number parent made name) (free : v number ≡ None) → tree_of (created number parent name (node_of made) v) table ≡ with_made made (q number parent made name can free) number t
  makes_tree number parent (file permissions) name can free =
      trees_same (tree_of (created number parent name (node_of (file permissions)) v) table) (with_made (file permissions) (q number parent (file permissions) name can free) number t)
      (objects number parent (file permissions) name can free) (fun_ext (bytes number parent (file permissions) name can free)) (fun_ext (attributes number parent (file permissions) name can free)) refl
  makes_tree number parent (directory permissions) name can free =
      trees_same (tree_of (created number parent name (node_of (directory permissions)) v) table) (with_made (directory permissions) (q number parent (directory permissions) name can free) number t)
      (objects number parent (directory permissions) name can free) (fun_ext (λ m. bytes number parent (directory permissions) name can free m ∙ as_before number parent (directory permissions) name can free bytes_of_node refl refl m)) (fun_ext (attributes number parent (directory permissions) name can free)) refl
  makes_tree number parent (symbolic_link permissions text) name can free =
      trees_same (tree_of (created number parent name (node_of (symbolic_link permissions text)) v) table) (with_made (symbolic_link permissions text) (q number parent (symbolic_link permissions text) name can free) number t)
      (objects number parent (symbolic_link permissions text) name can free) (fun_ext (λ m. bytes number parent (symbolic_link permissions text) name can free m ∙ as_before number parent (symbolic_link permissions text) name can free bytes_of_node refl refl m))
      (fun_ext (attributes number parent (symbolic_link permissions text) name can free)) refl

  -- one more name
  module _ (number parent : ℕ) (name : Name) (can : CanLink limits v number parent name) where
    abbrev linked_now : Volume
    linked_now = linked number parent name v

    link_place : (p : Path) × (number_at (entries v) p ≡ Some parent)
    link_place = path_to v graph parent can.takes.directory

    link_kept : (m : ℕ) → Kept (v m) (linked_now m)
    link_kept m = kept_through (v m) (with_node number (with_name_more (v number)) v m) (linked_now m) (more_kept v number m) (entry_keeps parent name (Some number) (with_node number (with_name_more (v number)) v) m)

    links_tree : (p : Path) × IsAt t p parent × (tree_of linked_now table ≡ record t { objects = put_at (p ++ name ∷ []) (Some (trees.file number)) t.objects })
    links_tree = (
      link_place.0,
      is_at link_place.0 parent link_place.1 can.takes.directory,
      trees_same (tree_of linked_now table) (record t { objects = put_at (link_place.0 ++ name ∷ []) (Some (trees.file number)) t.objects })
          (objects-linked v graph link_place.0 name parent table link_place.1 can.takes.directory number can.takes.missing (ap is_file_node can.file)
          ∙ ap (λ o. put_at (link_place.0 ++ name ∷ []) o t.objects) (node_file number (v number) (ap is_file_node can.file)))
          (fun_ext (λ m. (link_kept m).bytes)) (fun_ext (λ m. (link_kept m).attributes)) refl,
    )

    linked_named : (m : ℕ) → (is_orphan (linked_now m) ≡ false) ⊎ (is_orphan (linked_now m) ≡ is_orphan (v m))
    linked_named m =
        elim (cases_eq m number) [
          | inl is ↦ inl (entry_orphan (with_node number (with_name_more (v number)) v) parent name (Some number) m ∙ ap (λ k. is_orphan (with_node number (with_name_more (v number)) v k)) is ∙ ap is_orphan (node-here number (with_name_more (v number)) v) ∙ more_named (v number))
          | inr other ↦ inr (entry_orphan (with_node number (with_name_more (v number)) v) parent name (Some number) m ∙ ap is_orphan (node_other number m (with_name_more (v number)) v other))
        ]

    linked_swept : swept table linked_now ≡ linked_now
    linked_swept = unswept v linked_now table mounted linked_named

  -- what a record does to the tree, but for the times
  changes_tree : (edit : Edit) → CanEdit limits v edit → TakesFree v edit → ChangesBy None edit t (tree_of (swept table (edited edit v)) table)
  changes_tree (create number parent made name) can free =
      let place = path_to v graph parent can.takes.directory in
      (place.0, is_at place.0 parent place.1 can.takes.directory, ap (λ w. tree_of w table) (created_swept number parent made name can free) ∙ makes_tree number parent made name can free)
  changes_tree (link number parent name) can free =
      let one = links_tree number parent name can in
      (one.0, one.1, ap (λ w. tree_of w table) (linked_swept number parent name can) ∙ one.2)
  changes_tree (remove_name parent name) can free =
      let is = enters_directory (v parent) name can.number can.there in
      let place = path_to v graph parent is in (
        place.0,
        is_at place.0 parent place.1 is,
        swept_from (unnamed parent name v) (volume-unnamed v graph place.0 name parent can.number place.1 is can.there can.empty) table mounted.bounded (without_object (place.0 ++ name ∷ []) t)
            (objects-unnamed v graph place.0 name parent table place.1 is can.number can.there can.empty) refl
            (λ m used. let same = unnamed_used v graph place.0 name parent can.number place.1 is can.there can.empty table mounted.files m used in (same.bytes, same.attributes)),
      )
  changes_tree (rename parent name new_parent new_name) can free =
      let from = from_path v graph parent name new_parent new_name can in
      let to = to_path v graph parent name new_parent new_name can in
      let m = is_move v graph parent name new_parent new_name can in (
        from.0,
        to.0,
        is_at from.0 parent from.1 m.d_is,
        is_at to.0 new_parent to.1 m.k_is,
        renamed_swept v graph table mounted.bounded mounted.files from.0 to.0 name new_name parent new_parent can.number m.at_d m.at_k m.there m.d_is m.k_is m.empty m.outside m.other m.distinct m.name,
      )
  changes_tree (write number offset bytes) can free = ap (λ w. tree_of w table) (bytes_swept limits v volume table mounted number (written offset bytes) can.0) ∙ bytes_tree limits v volume table mounted number (written offset bytes) can.0
  changes_tree (truncate number size) can free = ap (λ w. tree_of w table) (bytes_swept limits v volume table mounted number (resized size) can.0) ∙ bytes_tree limits v volume table mounted number (resized size) can.0
  changes_tree (change_attributes number permissions modified) can free =
      let f = set_given permissions modified in
      let there = takes_there limits.has_attributes (v number) permissions.mode can.0 in
      ap (λ w. tree_of w table) (changed_swept limits v volume table mounted number f there) ∙ changed_tree limits v volume table mounted number f there
  changes_tree (set_file number mode size) can free = set_tree limits v volume table mounted number mode size can

  -- what was a file is one still
  files_stay : (edit : Edit) → CanEdit limits v edit → TakesFree v edit → (n : ℕ) → is_file_node (v n) ≡ true → is_file_node (edited edit v n) ≡ true
  files_stay (create number parent made name) can free n is = created_files number parent made name can free n is
  files_stay (link number parent name) can free n is = (link_kept number parent name can n).file ∙ is
  files_stay (remove_name parent name) can free n is =
      (kept_through (v n) (released (entries v parent name) v n) (unnamed parent name v n) (released_keeps (entries v parent name) v n (λ there. is)) (entry_keeps parent name None (released (entries v parent name) v) n)).file ∙ is
  files_stay (rename parent name new_parent new_name) can free n is =
      let from = from_path v graph parent name new_parent new_name can in
      let to = to_path v graph parent name new_parent new_name can in
      let m = is_move v graph parent name new_parent new_name can in
      (keeps v graph from.0 to.0 name new_name parent new_parent can.number m.at_d m.at_k m.there m.d_is m.k_is m.empty m.outside m.other n (λ there. is)).file ∙ is
  files_stay (write number offset bytes) can free n is =
      by_node limits v volume table mounted number (with_file_bytes (written offset bytes) (v number)) (bytes_names (written offset bytes) (v number)) (bytes_object limits v volume table mounted (written offset bytes) (v number)) (bytes_orphan (written offset bytes) (v number)) is_file_node (bytes_by is_file_node (λ attributes links a b. refl) (written offset bytes) (v number)) n ∙ is
  files_stay (truncate number size) can free n is =
      by_node limits v volume table mounted number (with_file_bytes (resized size) (v number)) (bytes_names (resized size) (v number)) (bytes_object limits v volume table mounted (resized size) (v number)) (bytes_orphan (resized size) (v number)) is_file_node (bytes_by is_file_node (λ attributes links a b. refl) (resized size) (v number)) n ∙ is
  files_stay (change_attributes number permissions modified) can free n is =
      let f = set_given permissions modified in
      by_node limits v volume table mounted number (with_node_attributes f (v number)) (attributes_names f (v number)) (attributes_object f (v number)) (attributes_orphan f (v number)) is_file_node (attributes_file f (v number)) n ∙ is
  files_stay (set_file number mode size) can free n is = set_files limits v volume table mounted number mode size can n is

  -- and with the times
  changes_marked : (time : Option Time) (edit : Edit) (after : Tree) → ChangesBy None edit t after → ChangesBy time edit t (marked time (touches_of edit v) after)
  changes_marked time (create number parent made name) after (p, stands, is) = (p, stands, ap (marked time (touches_entry Data (Some number) (Some parent))) is)
  changes_marked time (link number parent name) after (p, stands, is) = (p, stands, ap (marked time (touches_entry Status (Some number) (Some parent))) is)
  changes_marked time (remove_name parent name) after (p, stands, is) = (
    p,
    stands,
    subst (λ o. IsSwept (marked time (touches_entry Status o (Some parent)) (without_object (p ++ name ∷ []) t)) (marked time (touches_of (remove_name parent name) v) after))
        (sym (number_by_name v graph.naming table p parent name stands))
        (is_swept-marked time (touches_of (remove_name parent name) v) (without_object (p ++ name ∷ []) t) after is),
  )
  changes_marked time (rename parent name new_parent new_name) after (p, q, stands, stands_too, is) = (
    p,
    q,
    stands,
    stands_too,
    subst (λ (touches : Touches). IsSwept (marked time touches (moved (p ++ name ∷ []) (q ++ new_name ∷ []) t)) (marked time (touches_of (rename parent name new_parent new_name) v) after))
        (λ i. touches_move (sym (number_by_name v graph.naming table p parent name stands) i) (sym (number_by_name v graph.naming table q new_parent new_name stands_too) i) (Some parent) (Some new_parent))
        (is_swept-marked time (touches_of (rename parent name new_parent new_name) v) (moved (p ++ name ∷ []) (q ++ new_name ∷ []) t) after is),
  )
  changes_marked time (write number offset bytes) after is = ap (marked time (touches_object Data number)) is
  changes_marked time (truncate number size) after is = ap (marked time (touches_object Data number)) is
  changes_marked time (change_attributes number permissions modified) after is = ap (marked time (touches_object Status number)) is
  changes_marked time (set_file number mode size) after is = ap (marked time (touches_object Data number)) is

pub records_change_trees : RecordsChangeTrees
records_change_trees limits v table change volume mounted can free =
    let after = edited change.edit v in
    let touches = touches_of change.edit v in (
      still_mounted v (applied change v) table mounted (λ n is. marked_file change.time touches after n ∙ files_stay limits v volume table mounted change.edit can.edit free n is),
      subst (λ (new : Tree). ChangesTree change (tree_of v table) new) (sym (swept_tree-marked change.time touches after table))
          (changes_marked limits v volume table mounted change.time change.edit (tree_of (swept table after) table) (changes_tree limits v volume table mounted change.edit can.edit free)),
    )

pub volumes_are_trees : VolumesAreTrees
volumes_are_trees limits v table volume mounted = tree_of_is_tree limits v volume table mounted
