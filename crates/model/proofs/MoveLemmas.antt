-- A record that applies, by the paths of its directories; and that what it does keeps a volume.
use Rattle.std.proofs.Common.{◌≡◌, ◌≢◌, inl, inr, ℕ, ◌≤◌, ◌<◌, List, [], ◌∷◌, ◌++◌, fold, length, Bool, true, Option, Some, None, is_some, IsSome, IfSome, refl, sym, ap, subst, ◌∙◌, arith}
use Rattle.std.proofs.lemmas.Bool.{cases_eq}
use Rattle.std.proofs.lemmas.List.{same_from_push}
use Rattle.std.proofs.lemmas.List.Sums.{fold-append}
use Rattle.model.specs.declared.limits.Limits.{Limits}
use Rattle.model.specs.declared.attributes.Attributes.{Attributes}
use Rattle.model.specs.declared.limits.TheConstants.{MODE_BITS, ROOT_NUMBER}
use Rattle.model.specs.Attributes.{FitAttributes, set_given, set_mode}
use Rattle.model.specs.Counting.{Counts}
use Rattle.model.specs.Limits.{AreLimits}
use Rattle.model.specs.Paths.{Name, Path, IsName, behind}
use Rattle.model.specs.Trees.{Description}
use Rattle.model.specs.Edits.{written, resized}
use Rattle.model.specs.Volumes.{Node, directory_node, file_node, link_node, Volume, Entries, names_in, entries, enter, number_at, with_node, with_edge, with_entry, is_file_node, is_directory_node, IsGraph, IsNode, IsVolume, with_name_more, released, created, linked, unnamed, renamed, swept}
use Rattle.model.specs.Records.{Made, file, directory, symbolic_link, Edit, create, link, remove_name, rename, write, truncate, change_attributes, set_file, node_of, with_file_bytes, with_node_attributes, with_size, with_bits, edited, IsMade, TakesMode, CanReplace, CanRename, CanEdit}
use Rattle.model.specs.Laws.{SweepsKeepVolumes}
use Rattle.model.proofs.AttributeLaws.{given_fit, set_fit}
use Rattle.model.proofs.WalkLemmas.{behind-is, edge_other}
use Rattle.model.proofs.VolumeLemmas.{directory_some, directory_no_file, enters_directory}
use Rattle.model.proofs.KeptLemmas.{volume-renamed, entries-renamed}
use Rattle.model.proofs.PutLemmas.{entries-node}
use Rattle.model.proofs.RemoveNameLemmas.{edges-unnamed, volume-unnamed}
use Rattle.model.proofs.AddLemmas.{edges-linked, edges-created, graph-linked, graph-created, graph-altered, graph-swept, same_swept, SameLinks}
use Rattle.model.proofs.LimitLemmas.{HasFew, good_node, good_entry, good_released, numbers_node, numbers_entry, numbers_released, few_more, few_same, few_less, one_removed, same_in_other, limits_swept}
use Rattle.model.proofs.EditLaws.{written_short, length-resized}

-- the path of a directory
pub path_to : (v : Volume) → IsGraph v → (d : ℕ) → is_directory_node (v d) ≡ true → (p : Path) × (number_at (entries v) p ≡ Some d)
path_to v graph d is = graph.naming.reached d (directory_some (v d) is) (directory_no_file (v d) is)

-- An object n goes from the name a in the directory d at u to the name b in the directory k at w.
pub record IsMove (v : Volume) (u w : Path) (a b : Name) (d k n : ℕ) : Type 0 where
  pub at_d : number_at (entries v) u ≡ Some d
  pub at_k : number_at (entries v) w ≡ Some k
  pub there : entries v d a ≡ Some n
  pub d_is : is_directory_node (v d) ≡ true
  pub k_is : is_directory_node (v k) ≡ true
  pub empty : (m : ℕ) (x : Name) → entries v k b ≡ Some m → entries v m x ≡ None
  pub outside : behind (u ++ a ∷ []) w ≡ None
  pub other : u ++ a ∷ [] ≢ w ++ b ∷ []
  pub distinct : entries v k b ≢ Some n
  pub name : IsName b

module _ {limits : Limits} (v : Volume) (graph : IsGraph v) (d : ℕ) (a : Name) (k : ℕ) (b : Name) (can : CanRename limits v d a k b) where
  abbrev n : ℕ
  n = can.number

  moved_from : is_directory_node (v d) ≡ true
  moved_from = enters_directory (v d) a n can.there

  pub from_path : (p : Path) × (number_at (entries v) p ≡ Some d)
  from_path = path_to v graph d moved_from

  pub to_path : (p : Path) × (number_at (entries v) p ≡ Some k)
  to_path = path_to v graph k can.directory

  replaced_empty : (o : Option ℕ) → CanReplace limits v d k b n o → (m : ℕ) (x : Name) → o ≡ Some m → entries v m x ≡ None
  replaced_empty None replaces m x is = cc
  replaced_empty (Some t) replaces m x is = let same : t ≡ m = cc in subst (λ j. entries v j x ≡ None) same (replaces.2 x)

  replaced_other : (o : Option ℕ) → CanReplace limits v d k b n o → o ≢ Some n
  replaced_other None replaces is = cc
  replaced_other (Some t) replaces is = replaces.0 (cc)

  not_behind : (u w : Path) → number_at (entries v) u ≡ Some d → number_at (entries v) w ≡ Some k → (o : Option Path) → behind (u ++ a ∷ []) w ≡ o → o ≡ None
  not_behind u w at_d at_k None is = refl
  not_behind u w at_d at_k (Some s) is =
      absurd (can.outside (s, ap (λ o. fold (enter (entries v)) o s) (sym at_n) ∙ sym (fold-append (enter (entries v)) (Some ROOT_NUMBER) (u ++ a ∷ []) s) ∙ ap (number_at (entries v)) (sym (behind-is (u ++ a ∷ []) w s is)) ∙ at_k))
    where
      at_n : number_at (entries v) (u ++ a ∷ []) ≡ Some n
      at_n = fold-append (enter (entries v)) (Some ROOT_NUMBER) u (a ∷ []) ∙ ap (λ o. enter (entries v) o a) at_d ∙ can.there

  two_names : (u w : Path) → number_at (entries v) u ≡ Some d → number_at (entries v) w ≡ Some k → u ++ a ∷ [] ≢ w ++ b ∷ []
  two_names u w at_d at_k is =
      let back = same_from_push u w a b is in
      let same : Some d ≡ Some k = sym at_d ∙ ap (number_at (entries v)) back.0 ∙ at_k in
      let one : d ≡ k = cc in
      replaced_other (entries v k b) can.replaces (ap (λ j. entries v j b) (sym one) ∙ ap (entries v d) (sym back.1) ∙ can.there)

  -- what its record asks is what the move by paths needs
  pub is_move : IsMove v from_path.0 to_path.0 a b d k n
  is_move = record {
    at_d = from_path.1;
    at_k = to_path.1;
    there = can.there;
    d_is = moved_from;
    k_is = can.directory;
    empty = λ m x is. replaced_empty (entries v k b) can.replaces m x is;
    outside = not_behind from_path.0 to_path.0 from_path.1 to_path.1 (behind (from_path.0 ++ a ∷ []) to_path.0) refl;
    other = two_names from_path.0 to_path.0 from_path.1 to_path.1;
    distinct = replaced_other (entries v k b) can.replaces;
    name = can.name;
  }

  pub graph-moved : IsGraph (renamed d a k b v)
  graph-moved =
      let m = is_move in
      volume-renamed v graph from_path.0 to_path.0 a b d k n m.at_d m.at_k m.there m.d_is m.k_is m.empty m.outside m.other m.distinct m.name

  edges-moved : entries (renamed d a k b v) ≡ with_edge k b (Some n) (with_edge d a None (entries v))
  edges-moved =
      let m = is_move in
      entries-renamed v graph from_path.0 to_path.0 a b d k n m.at_d m.at_k m.there m.d_is m.k_is m.empty m.outside m.other

  module _ (few : HasFew limits (entries v)) where
    abbrev without : Entries
    without = with_edge d a None (entries v)

    few_without : HasFew limits without
    few_without = few_less (entries v) d a None limits few refl

    -- the place of the new name, once the old one is gone
    still_target : (m : ℕ) → entries v k b ≡ Some m → without k b ≡ Some m
    still_target m is =
        edge_other d k a b None (entries v) (λ same name. is_move.distinct (ap (λ j. entries v j b) same ∙ ap (entries v d) name ∙ can.there)) ∙ is

    still_free : entries v k b ≡ None → without k b ≡ None
    still_free is =
        edge_other d k a b None (entries v) (λ in_d name. let there : None ≡ Some n = sym is ∙ ap (λ i. entries v i b) in_d ∙ ap (entries v d) name ∙ can.there in cc) ∙ is

    room_for : (o : Option ℕ) → entries v k b ≡ o → CanReplace limits v d k b n o → HasFew limits (with_edge k b (Some n) without)
    room_for (Some m) is replaces = few_same without k b (Some n) limits few_without (sym (ap is_some (still_target m is)))
    room_for None is (inl same) =
        let counts = few d in
        let less = one_removed (entries v) d a None counts.0 refl (ap is_some can.there) counts.1 in
        few_more without k b (Some n) limits few_without refl (still_free is) less.0 (subst (λ j. Counts (λ x. IsSome (without j x)) less.0) same less.2) (omega (arith, counts.2, less.1))
    room_for None is (inr takes) =
        let free : without k b ≡ None = still_free is in
        elim (cases_eq d k) [
          | inl same ↦
              let less = one_removed (entries v) d a None takes.count refl (ap is_some can.there) (subst (λ j. Counts (λ x. IsSome (entries v j x)) takes.count) (sym same) takes.counts) in
              few_more without k b (Some n) limits few_without refl free less.0 (subst (λ j. Counts (λ x. IsSome (without j x)) less.0) same less.2) (omega (arith, takes.room, less.1))
          | inr apart ↦
              few_more without k b (Some n) limits few_without refl free takes.count
              (same_in_other (entries v) d a None k takes.count (λ same. apart (sym same)) takes.counts) takes.room
        ]

    pub few-moved : HasFew limits (entries (renamed d a k b v))
    few-moved = subst (HasFew limits) (sym edges-moved) (room_for (entries v k b) refl can.replaces)

-- the limits of what is made and of what changes
made_good : (limits : Limits) → AreLimits limits → (made : Made) → IsMade limits made → IsNode limits (node_of made)
made_good limits can_be (file permissions) good = (good, can_be.named, omega arith)
made_good limits can_be (directory permissions) good = good
made_good limits can_be (symbolic_link permissions text) good = (good.0, good.2)

pub made_bare : (made : Made) (x : Name) → names_in (Some (node_of made)) x ≡ None
made_bare (file permissions) x = refl
made_bare (directory permissions) x = refl
made_bare (symbolic_link permissions text) x = refl

pub made_links : (made : Made) (attributes : Attributes) (links : ℕ) (bytes : List ℕ) → Some (node_of made) ≡ Some (file_node attributes links bytes) → links ≡ 1
made_links (file permissions) attributes links bytes is = cc
made_links (directory permissions) attributes links bytes is = cc
made_links (symbolic_link permissions text) attributes links bytes is = cc

more_good : (limits : Limits) (o : Option Node) (attributes : Attributes) (links : ℕ) (bytes : List ℕ) → o ≡ Some (file_node attributes links bytes) → links < limits.file_names → IfSome o (IsNode limits) → IfSome (with_name_more o) (IsNode limits)
more_good limits None attributes links bytes is few good = tt
more_good limits (Some (directory_node m names)) attributes links bytes is few good = good
more_good limits (Some (file_node m l b)) attributes links bytes is few good = let same : l ≡ links = cc in (good.0, omega (arith, few, same), good.2)
more_good limits (Some (link_node a text)) attributes links bytes is few good = good

-- one object changes but for its kind, its names and its links
module _ (limits : Limits) (v : Volume) (volume : IsVolume limits v) (n : ℕ) (o : Option Node) (names : (x : Name) → names_in o x ≡ names_in (v n) x) (file : is_file_node o ≡ is_file_node (v n)) (directory : is_directory_node o ≡ is_directory_node (v n)) (some : is_some o ≡ is_some (v n)) (same_links : SameLinks (v n) o) (good : IfSome o (IsNode limits)) where
  pub volume-altered : IsVolume limits (with_node n o v)
  volume-altered = record {
    can_be = volume.can_be;
    graph = graph-altered v volume.graph n o names file directory some same_links;
    keeps = record {
      nodes = good_node limits v n o volume.keeps.nodes good;
      numbers = numbers_node limits v n o volume.keeps.numbers (λ is. volume.keeps.numbers n (sym some ∙ is));
      children = subst (HasFew limits) (sym (entries-node n o v names)) volume.keeps.children;
    };
  }

pub bytes_names : (f : List ℕ → List ℕ) (o : Option Node) (x : Name) → names_in (with_file_bytes f o) x ≡ names_in o x
bytes_names f None x = refl
bytes_names f (Some (directory_node attributes names)) x = refl
bytes_names f (Some (file_node attributes links bytes)) x = refl
bytes_names f (Some (link_node attributes text)) x = refl

pub bytes_by : {X : Type 0} (test : Option Node → X) → ((attributes : Attributes) (links : ℕ) (a b : List ℕ) → test (Some (file_node attributes links a)) ≡ test (Some (file_node attributes links b))) → (f : List ℕ → List ℕ) (o : Option Node) → test (with_file_bytes f o) ≡ test o
bytes_by test alike f None = refl
bytes_by test alike f (Some (directory_node attributes names)) = refl
bytes_by test alike f (Some (file_node attributes links bytes)) = alike attributes links (f bytes) bytes
bytes_by test alike f (Some (link_node attributes text)) = refl

pub bytes_links : (f : List ℕ → List ℕ) (o : Option Node) → SameLinks o (with_file_bytes f o)
bytes_links f None attributes links bytes is = cc
bytes_links f (Some (directory_node m names)) attributes links bytes is = cc
bytes_links f (Some (file_node m l b)) attributes links bytes is = let same : l ≡ links = cc in (m, b, ap (λ c. Some (file_node m c b)) same)
bytes_links f (Some (link_node a text)) attributes links bytes is = cc

bytes_good : (limits : Limits) (f : List ℕ → List ℕ) (o : Option Node) → ((bytes : List ℕ) → length bytes ≤ limits.file_bytes → length (f bytes) ≤ limits.file_bytes) → IfSome o (IsNode limits) → IfSome (with_file_bytes f o) (IsNode limits)
bytes_good limits f None short good = tt
bytes_good limits f (Some (directory_node attributes names)) short good = good
bytes_good limits f (Some (file_node attributes links bytes)) short good = (good.0, good.1, short bytes good.2)
bytes_good limits f (Some (link_node attributes text)) short good = good

volume-bytes : (limits : Limits) (v : Volume) → IsVolume limits v → (n : ℕ) (f : List ℕ → List ℕ) → ((bytes : List ℕ) → length bytes ≤ limits.file_bytes → length (f bytes) ≤ limits.file_bytes) → IsVolume limits (with_node n (with_file_bytes f (v n)) v)
volume-bytes limits v volume n f short =
    volume-altered limits v volume n (with_file_bytes f (v n)) (bytes_names f (v n)) (bytes_by is_file_node (λ attributes links a b. refl) f (v n)) (bytes_by is_directory_node (λ attributes links a b. refl) f (v n)) (bytes_by is_some (λ attributes links a b. refl) f (v n)) (bytes_links f (v n)) (bytes_good limits f (v n) short (volume.keeps.nodes n))

pub attributes_names : (f : Attributes → Attributes) (o : Option Node) (x : Name) → names_in (with_node_attributes f o) x ≡ names_in o x
attributes_names f None x = refl
attributes_names f (Some (directory_node attributes names)) x = refl
attributes_names f (Some (file_node attributes links bytes)) x = refl
attributes_names f (Some (link_node attributes text)) x = refl

pub attributes_file : (f : Attributes → Attributes) (o : Option Node) → is_file_node (with_node_attributes f o) ≡ is_file_node o
attributes_file f None = refl
attributes_file f (Some (directory_node attributes names)) = refl
attributes_file f (Some (file_node attributes links bytes)) = refl
attributes_file f (Some (link_node attributes text)) = refl

pub attributes_directory : (f : Attributes → Attributes) (o : Option Node) → is_directory_node (with_node_attributes f o) ≡ is_directory_node o
attributes_directory f None = refl
attributes_directory f (Some (directory_node attributes names)) = refl
attributes_directory f (Some (file_node attributes links bytes)) = refl
attributes_directory f (Some (link_node attributes text)) = refl

pub attributes_is_some : (f : Attributes → Attributes) (o : Option Node) → is_some (with_node_attributes f o) ≡ is_some o
attributes_is_some f None = refl
attributes_is_some f (Some (directory_node attributes names)) = refl
attributes_is_some f (Some (file_node attributes links bytes)) = refl
attributes_is_some f (Some (link_node attributes text)) = refl

pub attributes_links : (f : Attributes → Attributes) (o : Option Node) → SameLinks o (with_node_attributes f o)
attributes_links f None attributes links bytes is = cc
attributes_links f (Some (directory_node a names)) attributes links bytes is = cc
attributes_links f (Some (file_node a l b)) attributes links bytes is = let same : l ≡ links = cc in (a, b, ap (λ c. Some (file_node a c b)) same)
attributes_links f (Some (link_node a text)) attributes links bytes is = cc

pub attributes_good : (limits : Limits) (f : Attributes → Attributes) (o : Option Node) → ((a : Attributes) → FitAttributes limits.has_attributes a → FitAttributes limits.has_attributes (f a)) → IfSome o (IsNode limits) → IfSome (with_node_attributes f o) (IsNode limits)
attributes_good limits f None fits good = tt
attributes_good limits f (Some (directory_node attributes names)) fits good = fits attributes good
attributes_good limits f (Some (file_node attributes links bytes)) fits good = (fits attributes good.0, good.1, good.2)
attributes_good limits f (Some (link_node attributes text)) fits good = (fits attributes good.0, good.1)

resized_short : (limits : Limits) (size : ℕ) (bytes : List ℕ) → size ≤ limits.file_bytes → length bytes ≤ limits.file_bytes → length (resized size bytes) ≤ limits.file_bytes
resized_short limits size bytes fits short = subst (λ k. k ≤ limits.file_bytes) (sym (length-resized size bytes)) fits

-- a file's size changes, or an object's attributes
volume-size : (limits : Limits) (v : Volume) → IsVolume limits v → (number size : ℕ) → size ≤ limits.file_bytes → IsVolume limits (with_size number size v)
volume-size limits v volume number size fits = volume-bytes limits v volume number (resized size) (λ old short. resized_short limits size old fits short)

volume-attributes : (limits : Limits) (v : Volume) → IsVolume limits v → (number : ℕ) (f : Attributes → Attributes) → ((a : Attributes) → FitAttributes limits.has_attributes a → FitAttributes limits.has_attributes (f a)) → IsVolume limits (with_node number (with_node_attributes f (v number)) v)
volume-attributes limits v volume number f fits =
    volume-altered limits v volume number (with_node_attributes f (v number)) (attributes_names f (v number)) (attributes_file f (v number)) (attributes_directory f (v number)) (attributes_is_some f (v number)) (attributes_links f (v number))
    (attributes_good limits f (v number) fits (volume.keeps.nodes number))

volume-bits : (limits : Limits) (v : Volume) → IsVolume limits v → (number mode : ℕ) → mode ≤ MODE_BITS → IsVolume limits (with_bits number mode v)
volume-bits limits v volume number mode few = volume-attributes limits v volume number (set_mode mode) (λ a fit. set_fit limits.has_attributes mode a few fit)

-- what may get a mode is there
pub takes_there : (has_attributes : Bool) (o : Option Node) (mode : ℕ) → TakesMode has_attributes o mode → is_some o ≡ true
takes_there has_attributes None mode takes = absurd takes
takes_there has_attributes (Some o) mode takes = refl

-- what a record does keeps a volume
pub edits_keep_volumes : (limits : Limits) (v : Volume) (edit : Edit) → IsVolume limits v → CanEdit limits v edit → IsVolume limits (edited edit v)
edits_keep_volumes limits v (create number parent made name) volume can =
    let path = path_to v volume.graph parent can.takes.directory in
    let kept = volume.keeps in
    let edges : entries (created number parent name (node_of made) v) ≡ with_edge parent name (Some number) (entries v) =
    edges-created v volume.graph parent name number (node_of made) can.takes.directory can.vacant (made_bare made) in
    record {
      can_be = volume.can_be;
      graph = graph-created v volume.graph path.0 name parent number (node_of made) path.1 can.takes.directory can.takes.missing can.takes.name can.vacant (made_bare made) (made_links made);
      keeps = record {
        nodes = good_entry limits (with_node number (Some (node_of made)) v) parent name (Some number) (good_node limits v number (Some (node_of made)) kept.nodes (made_good limits volume.can_be made can.good));
        numbers = numbers_entry limits (with_node number (Some (node_of made)) v) parent name (Some number) (numbers_node limits v number (Some (node_of made)) kept.numbers (λ some. inr (can.low, can.high)));
        children = subst (HasFew limits) (sym edges) (few_more (entries v) parent name (Some number) limits kept.children refl can.takes.missing can.takes.count can.takes.counts can.takes.room);
      };
    }
edits_keep_volumes limits v (link number parent name) volume can =
    let path = path_to v volume.graph parent can.takes.directory in
    let kept = volume.keeps in
    let edges : entries (linked number parent name v) ≡ with_edge parent name (Some number) (entries v) =
    edges-linked v parent name number can.takes.directory in
    record {
      can_be = volume.can_be;
      graph = graph-linked v volume.graph path.0 name parent number can.attributes can.links can.bytes path.1 can.takes.directory can.takes.missing can.takes.name can.file;
      keeps = record {
        nodes = good_entry limits (with_node number (with_name_more (v number)) v) parent name (Some number) (good_node limits v number (with_name_more (v number)) kept.nodes (more_good limits (v number) can.attributes can.links can.bytes can.file can.few (kept.nodes number)));
        numbers = numbers_entry limits (with_node number (with_name_more (v number)) v) parent name (Some number) (numbers_node limits v number (with_name_more (v number)) kept.numbers (λ some. kept.numbers number (ap is_some can.file)));
        children = subst (HasFew limits) (sym edges) (few_more (entries v) parent name (Some number) limits kept.children refl can.takes.missing can.takes.count can.takes.counts can.takes.room);
      };
    }
edits_keep_volumes limits v (remove_name parent name) volume can =
    let is = enters_directory (v parent) name can.number can.there in
    let path = path_to v volume.graph parent is in
    let kept = volume.keeps in
    let edges : entries (unnamed parent name v) ≡ with_edge parent name None (entries v) = edges-unnamed v parent name can.number is can.there can.empty in
    record {
      can_be = volume.can_be;
      graph = volume-unnamed v volume.graph path.0 name parent can.number path.1 is can.there can.empty;
      keeps = record {
        nodes = good_entry limits (released (entries v parent name) v) parent name None (good_released limits (entries v parent name) v kept.nodes);
        numbers = numbers_entry limits (released (entries v parent name) v) parent name None (numbers_released limits (entries v parent name) v kept.numbers);
        children = subst (HasFew limits) (sym edges) (few_less (entries v) parent name None limits kept.children refl);
      };
    }
edits_keep_volumes limits v (rename parent name new_parent new_name) volume can =
    let kept = volume.keeps in
    let target : Option ℕ = entries v new_parent new_name in
    record {
      can_be = volume.can_be;
      graph = graph-moved v volume.graph parent name new_parent new_name can;
      keeps = record {
        nodes = good_entry limits (with_entry parent name None (released target v)) new_parent new_name (entries v parent name) (good_entry limits (released target v) parent name None (good_released limits target v kept.nodes));
        numbers = numbers_entry limits (with_entry parent name None (released target v)) new_parent new_name (entries v parent name) (numbers_entry limits (released target v) parent name None (numbers_released limits target v kept.numbers));
        children = few-moved v volume.graph parent name new_parent new_name can kept.children;
      };
    }
edits_keep_volumes limits v (write number offset bytes) volume can = volume-bytes limits v volume number (written offset bytes) (λ old short. written_short offset bytes old can.3 short)
edits_keep_volumes limits v (truncate number size) volume can = volume-size limits v volume number size can.1
edits_keep_volumes limits v (change_attributes number permissions modified) volume can =
    volume-attributes limits v volume number (set_given permissions modified) (λ a fit. given_fit limits.has_attributes permissions modified a can.1 fit)
edits_keep_volumes limits v (set_file number mode size) volume can =
    volume-bits limits (with_size number size v) (volume-size limits v volume number size can.2) number mode can.1

-- and so does a sweep
pub volume-swept : (limits : Limits) (v : Volume) (table : ℕ → Option Description) → IsVolume limits v → IsVolume limits (swept table v)
volume-swept limits v table volume = record {
  can_be = volume.can_be;
  graph = graph-swept v volume.graph table;
  keeps = limits_swept limits v table (same_swept v volume.graph table) volume.keeps;
}

pub sweeps_keep_volumes : SweepsKeepVolumes
sweeps_keep_volumes = volume-swept
