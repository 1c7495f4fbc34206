-- A move, as changes of one object after another.
use Rattle.std.proofs.Common.{◌≡◌, ◌≢◌, ◌≤◌, ◌⊎◌, inl, inr, ℕ, Bool, true, false, List, Option, Some, None, IsTrue, refl, sym, ap, subst, ◌∙◌, arith}
use mathlib.Core.Bool.{beq, not}
use Rattle.std.proofs.Math.Path.{fun_ext}
use Rattle.std.proofs.lemmas.Bool.{cases_eq, false≢true}
use Rattle.model.specs.declared.limits.Limits.{Limits}
use Rattle.layout.specs.Directory.{IsEntry}
use Rattle.layout.specs.DirectoryNames.{NameMap}
use Rattle.layout.specs.declared.entry.Entry.{Entry}
use Rattle.layout.specs.declared.inode.Inode.{Inode}
use Rattle.model.specs.Paths.{IsName, Name}
use Rattle.model.specs.Records.{CanRename, CanReplace, IsBelow, IsEmpty, TakesName as TakesNewName, rename}
use Rattle.model.specs.Volumes.{Node, Volume, directory_node, entries, file_node, is_directory_node, link_node, names_in, released, set_name, with_entry, with_name_less, with_node}
use Rattle.dirs.specs.Directory.{with_name}
use Rattle.inofile.specs.Inodes.{loaded}
use Rattle.inofile.specs.declared.inode_file.InodeFile.{InodeFile}
use Rattle.paths.specs.Steps.{found_in}
use Rattle.paths.specs.declared.lookup.Found.TheVariants as found
use Rattle.images.specs.Soundness.{Detail}
use Rattle.records.specs.Planning.{IsKnownVolume, IsVolumeForEdit}
use Rattle.records.proofs.DetailLaws.{graph_of, numbers_of}
use Rattle.records.specs.Entering.{Accepts, HasPlace, names_after, pieces_of, with_node_names}
use Rattle.records.specs.Moving.{Moves, Replaces, edit_for}
use Rattle.records.specs.Room.{SomeRoom}
use Rattle.records.specs.Steps.{IsBeside, StepsSome, Updates}
use Rattle.records.specs.declared.naming.NameEdit.TheVariants as edits
use Rattle.records.specs.declared.steps.ObjectUpdate.{ObjectUpdate}
use Rattle.records.proofs.EnterLaws.{accepts_entry, directory_is, names_set}
use Rattle.records.proofs.FileLaws.{same_some}
use Rattle.records.proofs.PlaceLaws.{place_across, place_inside}
use Rattle.model.proofs.OptionLaws.{none_some}
use Rattle.model.proofs.ObjectLaws.{node_here, node_other}
use Rattle.model.proofs.VolumeLemmas.{enters_directory}

-- objects of two numbers are changed in either order
pub nodes_apart : (a b : ℕ) (o p : Option Node) (v : Volume) → a ≢ b → with_node a o (with_node b p v) ≡ with_node b p (with_node a o v)
nodes_apart a b o p v apart = fun_ext {f = with_node a o (with_node b p v)} {g = with_node b p (with_node a o v)} each
  where
    each : (k : ℕ) → with_node a o (with_node b p v) k ≡ with_node b p (with_node a o v) k
    each k = elim (cases_eq k a) [
      | inl is_a ↦ node_here a k o (with_node b p v) is_a ∙ sym (node_here a k o v is_a) ∙ sym (node_other b k p (with_node a o v) (λ e. apart (sym is_a ∙ e)))
      | inr other ↦
          node_other a k o (with_node b p v) other
          ∙ elim (cases_eq k b) [
            | inl is_b ↦ node_here b k p v is_b ∙ sym (node_here b k p (with_node a o v) is_b)
            | inr ne ↦ node_other b k p v ne ∙ sym (node_other a k o v other) ∙ sym (node_other b k p (with_node a o v) ne)
          ]
    ]

-- an object that is changed twice is as it was changed last
pub node_twice : (a : ℕ) (o p : Option Node) (v : Volume) → with_node a o (with_node a p v) ≡ with_node a o v
node_twice a o p v = fun_ext {f = with_node a o (with_node a p v)} {g = with_node a o v} each
  where
    each : (k : ℕ) → with_node a o (with_node a p v) k ≡ with_node a o v k
    each k = elim (cases_eq k a) [
      | inl is ↦ node_here a k o (with_node a p v) is ∙ sym (node_here a k o v is)
      | inr ne ↦ node_other a k o (with_node a p v) ne ∙ node_other a k p v ne ∙ sym (node_other a k o v ne)
    ]

-- two names of a directory changed
pub names_set_twice : (x y : Name) (to : Option ℕ) (o : Option Node) → with_node_names (λ (names : NameMap). with_name y to (with_name x None names)) o ≡ set_name y to (set_name x None o)
names_set_twice x y to None = refl
names_set_twice x y to (Some (directory_node attributes names)) = refl
names_set_twice x y to (Some (file_node attributes links bytes)) = refl
names_set_twice x y to (Some (link_node attributes text)) = refl

-- both names of a move within one directory
pub moved_within : (d : ℕ) (x y : Name) (to : Option ℕ) (v : Volume)
    → with_entry d y to (with_entry d x None v) ≡ with_node d (with_node_names (λ (names : NameMap). with_name y to (with_name x None names)) (v d)) v
moved_within d x y to v =
    node_twice d (set_name y to (with_entry d x None v d)) (set_name x None (v d)) v
    ∙ ap (λ (o : Option Node). with_node d (set_name y to o) v) (node_here d d (set_name x None (v d)) v refl)
    ∙ ap (λ (o : Option Node). with_node d o v) (sym (names_set_twice x y to (v d)))

-- ---- what had the new name

-- what has the new name isn't this object
abbrev IsAside : ℕ → Option ℕ → Type 0
IsAside a None = Unit {0}
IsAside a (Some m) = m ≢ a

aside_at : (a : ℕ) (target : Option ℕ) → IsAside a target → (m : ℕ) → target ≡ Some m → m ≢ a
aside_at a None aside m is = none_some is
aside_at a (Some j) aside m is = λ same. aside (same_some is ∙ same)

released_same : (target : Option ℕ) (a : ℕ) (v : Volume) → IsAside a target → released target v a ≡ v a
released_same None a v aside = refl
released_same (Some m) a v aside = node_other m a (with_name_less (v m)) v (λ same. aside (sym same))

released_after : (target : Option ℕ) (a : ℕ) (to : Option Node) (v : Volume) → IsAside a target → released target (with_node a to v) ≡ with_node a to (released target v)
released_after None a to v aside = refl
released_after (Some m) a to v aside =
    ap (λ (o : Option Node). with_node m (with_name_less o) (with_node a to v)) (node_other a m to v aside) ∙ nodes_apart m a (with_name_less (v m)) to v aside

-- a move within one directory, and what had the new name behind it
pub moved_inside : (d k : ℕ) (x y : Name) (to target : Option ℕ) (v : Volume) → d ≡ k → IsAside k target
    → with_entry k y to (with_entry d x None (released target v)) ≡ released target (with_node k (with_node_names (λ (names : NameMap). with_name y to (with_name x None names)) (v k)) v)
moved_inside d k x y to target v same aside =
    let w = released target v in
    let both = λ (o : Option Node). with_node_names (λ (names : NameMap). with_name y to (with_name x None names)) o in
    ap (λ (j : ℕ). with_entry k y to (with_entry j x None w)) same
    ∙ moved_within k x y to w
    ∙ ap (λ (o : Option Node). with_node k (both o) w) (released_same target k v aside)
    ∙ sym (released_after target k (both (v k)) v aside)

-- a move from one directory to another, and what had the new name behind it
pub moved_across : (d k : ℕ) (x y : Name) (to target : Option ℕ) (v : Volume) → d ≢ k → IsAside k target → IsAside d target
    → with_entry k y to (with_entry d x None (released target v))
    ≡ released target (with_node d (with_node_names (with_name x None) (with_node k (with_node_names (with_name y to) (v k)) v d)) (with_node k (with_node_names (with_name y to) (v k)) v))
moved_across d k x y to target v other aside aside_old =
    let w = released target v in
    let added = with_node_names (with_name y to) (v k) in
    let less = with_node_names (with_name x None) (v d) in
    let between = with_node k added v in
    let first : set_name x None (w d) ≡ less = ap (set_name x None) (released_same target d v aside_old) ∙ sym (names_set x None (v d)) in
    let there : with_entry d x None w k ≡ v k = node_other d k (set_name x None (w d)) w (λ same. other (sym same)) ∙ released_same target k v aside in
    let then : set_name y to (with_entry d x None w k) ≡ added = ap (set_name y to) there ∙ sym (names_set y to (v k)) in
    ap (λ (o : Option Node). with_node k o (with_entry d x None w)) then
    ∙ ap (λ (o : Option Node). with_node k added (with_node d o w)) first
    ∙ nodes_apart k d added less w (λ same. other (sym same))
    ∙ ap (λ (u : Volume). with_node d less u) (sym (released_after target k added v aside))
    ∙ sym (released_after target d less between aside_old)
    ∙ ap (λ (o : Option Node). released target (with_node d (with_node_names (with_name x None) o) between)) (sym (node_other k d added v other))

-- ---- a step on what had the new name

module _ (detail : Detail) (disk : ℕ → List ℕ) (settled : ℕ → Inode) (v : Volume) (n : ℕ) where
  -- it isn't the directory of a name
  pub replaced_aside : (target : Option ℕ) (step : Option ObjectUpdate) → Replaces detail disk settled v n target step → (d : ℕ) (x : Name) (j : ℕ) → entries v d x ≡ Some j → IsAside d target
  replaced_aside None step replaces d x j at = tt
  replaced_aside (Some m) None replaces d x j at = absurd replaces
  replaced_aside (Some m) (Some step) (number, may, takes) d x j at = λ same. none_some (sym (subst (λ (k : ℕ). IsEmpty v k) same may.2 x) ∙ at)

  pub replaced_beside : (target : Option ℕ) (step : Option ObjectUpdate) → Replaces detail disk settled v n target step → (a : ℕ) → IsAside a target → IsBeside a step
  replaced_beside None None replaces a aside = tt
  replaced_beside None (Some step) replaces a aside = absurd replaces
  replaced_beside (Some m) None replaces a aside = absurd replaces
  replaced_beside (Some m) (Some step) (number, may, takes) a aside = λ same. aside (sym number ∙ same)

  pub replaced_steps : (s : InodeFile) (w : Volume) (target : Option ℕ) (step : Option ObjectUpdate) → Replaces detail disk settled v n target step
      → ((m : ℕ) → target ≡ Some m → w m ≡ v m) → StepsSome detail disk settled s w step (released target w)
  replaced_steps s w None None replaces same = refl
  replaced_steps s w None (Some step) replaces same = absurd replaces
  replaced_steps s w (Some m) None replaces same = absurd replaces
  replaced_steps s w (Some m) (Some step) (number, may, takes) same =
      let to = with_name_less (w m) in
      let o = loaded s step.number in (
        to,
        subst (λ (k : ℕ). Updates detail disk s.geometry.inodes (settled k) (w k) o step.update to) (sym number)
            (subst (λ (x : Option Node). Updates detail disk s.geometry.inodes (settled m) x o step.update (with_name_less x)) (sym (same m refl)) (takes s.geometry.inodes o).0),
        ap (λ (k : ℕ). with_node k to w) (sym number),
      )

  pub replaced_room : (s : InodeFile) (target : Option ℕ) (step : Option ObjectUpdate) → Replaces detail disk settled v n target step → SomeRoom s step 6
  replaced_room s target None replaces = tt
  replaced_room s None (Some step) replaces = absurd replaces
  replaced_room s (Some m) (Some step) (number, may, takes) = (takes s.geometry.inodes (loaded s step.number)).1

-- ---- what a move does

-- a name from another directory changes two blocks at the most
pub few_pieces : (entry : Entry) (step : Option ObjectUpdate) → pieces_of (edit_for entry step) ≤ 2
few_pieces entry None = omega arith
few_pieces entry (Some step) = omega arith

module _ (detail : Detail) (disk : ℕ → List ℕ) (settled : ℕ → Inode) (v : Volume) (d : ℕ) (x : Name) (n k : ℕ) (y : Name) (step : Option ObjectUpdate) (moves : Moves detail disk settled v d x n k y step) where
  abbrev target : Option ℕ
  target = entries v k y

  pub aside_old : IsAside d target
  aside_old = replaced_aside detail disk settled v n target step moves.replaces d x n moves.there

  pub aside_new : IsAside k target
  aside_new = by target refl
    where
      by : (o : Option ℕ) → target ≡ o → IsAside k o
      by None none = tt
      by (Some m) is = subst (IsAside k) is (replaced_aside detail disk settled v n target step moves.replaces k y m is)

  -- the target is as it was where only the directories have changed
  pub same_target : (w : Volume) → ((m : ℕ) → m ≢ d → m ≢ k → w m ≡ v m) → (m : ℕ) → target ≡ Some m → w m ≡ v m
  same_target w same m is = same m (aside_at d target aside_old m is) (aside_at k target aside_new m is)

  pub beside_old : IsBeside d step
  beside_old = replaced_beside detail disk settled v n target step moves.replaces d aside_old

  pub beside_new : IsBeside k step
  beside_new = replaced_beside detail disk settled v n target step moves.replaces k aside_new

  pub steps_on : (s : InodeFile) (w : Volume) → ((m : ℕ) → m ≢ d → m ≢ k → w m ≡ v m) → StepsSome detail disk settled s w step (released target w)
  steps_on s w same = replaced_steps detail disk settled v n s w target step moves.replaces (same_target w same)

  pub room_on : (s : InodeFile) → SomeRoom s step 6
  room_on s = replaced_room detail disk settled v n s target step moves.replaces

  -- ---- when it applies

  pub can_rename : (limits : Limits) → IsTrue (is_directory_node (v k)) → IsName y → (IsBelow (entries v) n k → ⊥) → (step ≡ None → (d ≡ k) ⊎ TakesNewName limits v k y) → CanRename limits v d x k y
  can_rename limits directory name outside takes = record {
    number = n;
    there = moves.there;
    directory = directory;
    name = name;
    outside = outside;
    replaces = by target step refl moves.replaces;
  }
    where
      by : (o : Option ℕ) (s : Option ObjectUpdate) → step ≡ s → Replaces detail disk settled v n o s → CanReplace limits v d k y n o
      by None None is replaces = takes is
      by None (Some s) is replaces = absurd replaces
      by (Some m) None is replaces = absurd replaces
      by (Some m) (Some s) is replaces = replaces.1

  -- the object has one name alone here
  names_differ : d ≡ k → x ≢ y
  names_differ same equal = by target step (ap (λ (j : ℕ). entries v j y) (sym same) ∙ ap (entries v d) (sym equal) ∙ moves.there) moves.replaces
    where
      by : (o : Option ℕ) (s : Option ObjectUpdate) → o ≡ Some n → Replaces detail disk settled v n o s → ⊥
      by None s is replaces = none_some is
      by (Some m) None is replaces = replaces
      by (Some m) (Some s) is replaces = replaces.1.0 (same_some is)

  -- a directory within its limit takes another name for one that it has
  pub accepts_move : (limits : Limits) (old : Entry) (entry : Entry) → old.name.now ≡ x → entry.name.now ≡ y → IsVolumeForEdit detail limits (rename d x k y) v → d ≡ k → Accepts limits (edits.Move old.name entry) (v k)
  accepts_move limits old entry is_old is_new volume same =
      let there : entries v k x ≡ Some n = ap (λ (j : ℕ). entries v j x) (sym same) ∙ moves.there in
      let is = directory_is (v k) (enters_directory (v k) x n there) in
      record {
        attributes = is.0;
        names = is.1;
        is = is.2;
        takes =
            subst (λ (a : Name). HasPlace limits (with_name a None (with_name entry.name.now None is.1))) (sym is_old)
            (subst (λ (b : Name). HasPlace limits (with_name x None (with_name b None is.1))) (sym is_new)
            (place_inside detail limits v d x n k y is.0 is.1 is.2 (sym (ap (λ (o : Option Node). names_in o x) is.2) ∙ there) same (names_differ same) volume));
      }

  -- and another directory takes a name for what had it, or one more
  pub accepts_other : (limits : Limits) (entry : Entry) → entry.name.now ≡ y → IsVolumeForEdit detail limits (rename d x k y) v → d ≢ k → CanRename limits v d x k y → Accepts limits (edit_for entry step) (v k)
  accepts_other limits entry is_new volume other can = by target step refl moves.replaces can.replaces
    where
      by : (o : Option ℕ) (s : Option ObjectUpdate) → target ≡ o → Replaces detail disk settled v n o s → CanReplace limits v d k y can.number o → Accepts limits (edit_for entry s) (v k)
      by None None none replaces (inl same) = absurd (other same)
      by None None none replaces (inr takes) = accepts_entry limits v k entry (subst (λ (b : Name). TakesNewName limits v k b) (sym is_new) takes)
      by None (Some s) none replaces may = absurd replaces
      by (Some m) None is replaces may = absurd replaces
      by (Some m) (Some s) is replaces may =
          let there = directory_is (v k) can.directory in
          record {
            attributes = there.0;
            names = there.1;
            is = there.2;
            takes =
                subst (λ (b : Name). HasPlace limits (with_name b None there.1)) (sym is_new)
                (place_across detail limits v d x m k y there.0 there.1 there.2 (sym (ap (λ (o : Option Node). names_in o y) there.2) ∙ is) other volume);
          }

-- ---- kinds

pub directory_found : (o : Option Node) → found_in o ≡ found.Directory → true ≡ is_directory_node o
directory_found None is = cc
directory_found (Some (directory_node attributes names)) is = refl
directory_found (Some (file_node attributes links bytes)) is = cc
directory_found (Some (link_node attributes text)) is = cc

pub other_found : (o : Option Node) → (found_in o ≡ found.Directory → ⊥) → false ≡ is_directory_node o
other_found None other = refl
other_found (Some (directory_node attributes names)) other = absurd (other refl)
other_found (Some (file_node attributes links bytes)) other = refl
other_found (Some (link_node attributes text)) other = refl

pub same_kind : (a b : Bool) → not (beq a b) ≡ false → a ≡ b
same_kind true true is = refl
same_kind true false is = absurd (false≢true (sym is))
same_kind false true is = absurd (false≢true (sym is))
same_kind false false is = refl

-- only one is true
pub true_alone : (a b : Bool) → not (beq a b) ≡ true → a ≡ true → b ≡ false
true_alone true true is one = absurd (false≢true is)
true_alone true false is one = refl
true_alone false b is one = absurd (false≢true one)

pub other_alone : (a b : Bool) → not (beq a b) ≡ true → a ≡ false → b ≡ true
other_alone true b is one = absurd (false≢true (sym one))
other_alone false true is one = refl
other_alone false false is one = absurd (false≢true is)

-- ---- edits

pub names_for : (entry : Entry) (step : Option ObjectUpdate) → names_after (edit_for entry step) ≡ with_name entry.name.now (Some entry.number)
names_for entry None = refl
names_for entry (Some step) = refl

-- what has a name has an ordinary number, and may have another name
pub entry_named : (detail : Detail) (limits : Limits) (v : Volume) (d : ℕ) (x : Name) (n : ℕ) (y : Name) → IsKnownVolume detail limits v → entries v d x ≡ Some n → IsName y → IsEntry limits.inodes (record { number = n; name = y })
entry_named detail limits v d x n y volume there name =
    let graph = graph_of detail limits v volume in
    elim (numbers_of detail limits v volume n (graph.naming.used d n x there)) [
      | inl root ↦ absurd (graph.naming.not_root d x (there ∙ ap (λ k. Some k) root))
      | inr within ↦ record { ordinary = within.0; below = within.1; name = name }
    ]
