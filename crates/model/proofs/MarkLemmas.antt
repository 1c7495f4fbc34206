-- What a record touches: marks change attributes alone, on a volume as on its tree. One touched object is what
-- `touches_entry touch found None` marks, where there is a time.
use Rattle.std.proofs.Common.{◌≡◌, inl, inr, ℕ, zero, suc, ◌+◌, ◌==◌, [], ◌∷◌, ◌++◌, Bool, true, false, Option, Some, None, is_some, IsSome, IfSome, refl, sym, ap, subst, ◌∙◌}
use Rattle.std.specs.Prelude.{if◌then◌else◌, length, unwrap_or}
use Rattle.std.specs.Option.{option_map}
use Rattle.std.proofs.Math.Path.{fun_ext}
use Rattle.std.proofs.lemmas.Bool.{eqb-true, false≢true}
use Rattle.model.specs.declared.limits.Limits.{Limits}
use Rattle.model.specs.declared.limits.TheConstants.{OPEN_FILES, ROOT_NUMBER}
use Rattle.model.specs.declared.attributes.Attributes.{Attributes}
use Rattle.model.specs.declared.attributes.Touch.{Touch}
use Rattle.model.specs.declared.attributes.Touch.TheVariants.{Data, Status}
use Rattle.model.specs.declared.time.Time.{Time}
use Rattle.model.specs.Attributes.{FitAttributes, KeepsTime}
use Rattle.model.specs.Counting.{CountsUpTo}
use Rattle.model.specs.Paths.{Name, Path}
use Rattle.model.specs.Touches.{Touches, touched_at}
use Rattle.model.specs.Trees as trees
use Rattle.model.specs.Trees.{Tree, number_of_object, Description, IsUsed}
use Rattle.model.specs.Edits.{touching, marked, number_at_path, IsSwept}
use Rattle.model.specs.Volumes.{Node, directory_node, file_node, link_node, Volume, Entries, names_in, entries, enter, number_at, object_of, object_at, bytes_of_node, attributes_of, tree_of, is_file_node, is_directory_node, is_orphan, IsNaming, CountsNames, IsGraph, HasNames, IsNode, KeepsNodeLimits, IsVolume, is_open, swept_node, swept, IsMounted}
use Rattle.model.specs.Records.{with_node_attributes, edited, touches_of, touching_node, marked_nodes, is_vacant, without_orphans, Extends, size_before, count_orphans}
use Rattle.model.specs.Laws.{RecordsKeepVolumes}
pub use Rattle.model.proofs.AttributeLaws.{touched_fit}
pub use Rattle.model.proofs.TreeMarkLemmas.{marked_objects, marked_descriptors}
use Rattle.model.proofs.WalkLemmas.{number_at-push}
use Rattle.model.proofs.VolumeLemmas.{ends, last_step, directory_some}
use Rattle.model.proofs.SweepLemmas.{found_number}
use Rattle.model.proofs.OnceLemmas.{trees_same}
use Rattle.model.proofs.MoveLemmas.{edits_keep_volumes, attributes_names, attributes_file, attributes_directory, attributes_is_some, attributes_links, attributes_good}
use Rattle.model.proofs.OptionLaws.{some_or_none}

-- what touching makes of the attributes of the object with the number n
abbrev pub touch_at : Time → Touch → Option ℕ → ℕ → Attributes → Attributes
touch_at time touch None n a = a
touch_at time touch (Some k) n a = if n == k then touched_at time touch a else a

-- what a mark makes of them
abbrev pub mark_at : Option Time → Touches → ℕ → Attributes → Attributes
mark_at None touches n a = a
mark_at (Some time) touches n a =
    touch_at time Data touches.new_parent n (touch_at time Data touches.parent n
    (touch_at time Status touches.replaced n (touch_at time touches.touch touches.object n a)))

-- ---- attributes that fit still do

pub touch_fits : (has_attributes : Bool) (time : Time) (touch : Touch) (found : Option ℕ) (n : ℕ) (a : Attributes) → KeepsTime has_attributes (Some time) → FitAttributes has_attributes a → FitAttributes has_attributes (touch_at time touch found n a)
touch_fits has_attributes time touch None n a keeps fit = fit
touch_fits has_attributes time touch (Some k) n a keeps fit =
    elim (n == k) as (λ b. FitAttributes has_attributes (if b then touched_at time touch a else a)) [
      | true ↦ touched_fit has_attributes time touch a keeps fit
      | false ↦ fit
    ]

pub mark_fits : (has_attributes : Bool) (time : Option Time) (touches : Touches) (n : ℕ) (a : Attributes) → KeepsTime has_attributes time → FitAttributes has_attributes a → FitAttributes has_attributes (mark_at time touches n a)
mark_fits has_attributes None touches n a keeps fit = fit
mark_fits has_attributes (Some time) touches n a keeps fit =
    touch_fits has_attributes time Data touches.new_parent n (touch_at time Data touches.parent n (touch_at time Status touches.replaced n (touch_at time touches.touch touches.object n a))) keeps
    (touch_fits has_attributes time Data touches.parent n (touch_at time Status touches.replaced n (touch_at time touches.touch touches.object n a)) keeps
    (touch_fits has_attributes time Status touches.replaced n (touch_at time touches.touch touches.object n a) keeps
    (touch_fits has_attributes time touches.touch touches.object n a keeps fit)))

-- ---- one object with other attributes

attributes_same : (o : Option Node) → with_node_attributes (λ a. a) o ≡ o
attributes_same None = refl
attributes_same (Some (directory_node attributes names)) = refl
attributes_same (Some (file_node attributes links bytes)) = refl
attributes_same (Some (link_node attributes text)) = refl

attributes_twice : (f g : Attributes → Attributes) (o : Option Node) → with_node_attributes f (with_node_attributes g o) ≡ with_node_attributes (λ a. f (g a)) o
attributes_twice f g None = refl
attributes_twice f g (Some (directory_node attributes names)) = refl
attributes_twice f g (Some (file_node attributes links bytes)) = refl
attributes_twice f g (Some (link_node attributes text)) = refl

pub attributes_object : (f : Attributes → Attributes) (o : Option Node) (m : ℕ) → object_of m (with_node_attributes f o) ≡ object_of m o
attributes_object f None m = refl
attributes_object f (Some (directory_node attributes names)) m = refl
attributes_object f (Some (file_node attributes links bytes)) m = refl
attributes_object f (Some (link_node attributes text)) m = refl

pub attributes_bytes : (f : Attributes → Attributes) (o : Option Node) → bytes_of_node (with_node_attributes f o) ≡ bytes_of_node o
attributes_bytes f None = refl
attributes_bytes f (Some (directory_node attributes names)) = refl
attributes_bytes f (Some (file_node attributes links bytes)) = refl
attributes_bytes f (Some (link_node attributes text)) = refl

pub attributes_orphan : (f : Attributes → Attributes) (o : Option Node) → is_orphan (with_node_attributes f o) ≡ is_orphan o
attributes_orphan f None = refl
attributes_orphan f (Some (directory_node attributes names)) = refl
attributes_orphan f (Some (file_node attributes zero bytes)) = refl
attributes_orphan f (Some (file_node attributes (suc links) bytes)) = refl
attributes_orphan f (Some (link_node attributes text)) = refl

pub attributes_vacant : (f : Attributes → Attributes) (o : Option Node) → is_vacant (with_node_attributes f o) ≡ is_vacant o
attributes_vacant f None = refl
attributes_vacant f (Some (directory_node attributes names)) = refl
attributes_vacant f (Some (file_node attributes zero bytes)) = refl
attributes_vacant f (Some (file_node attributes (suc links) bytes)) = refl
attributes_vacant f (Some (link_node attributes text)) = refl

pub attributes_mapped : (f : Attributes → Attributes) (o : Option Node) → attributes_of (with_node_attributes f o) ≡ option_map f (attributes_of o)
attributes_mapped f None = refl
attributes_mapped f (Some (directory_node attributes names)) = refl
attributes_mapped f (Some (file_node attributes links bytes)) = refl
attributes_mapped f (Some (link_node attributes text)) = refl

pub attributes_swept : (b : Bool) (f : Attributes → Attributes) (o : Option Node) → swept_node b (with_node_attributes f o) ≡ with_node_attributes f (swept_node b o)
attributes_swept b f None = refl
attributes_swept b f (Some (directory_node attributes names)) = refl
attributes_swept true f (Some (file_node attributes zero bytes)) = refl
attributes_swept false f (Some (file_node attributes zero bytes)) = refl
attributes_swept b f (Some (file_node attributes (suc links) bytes)) = refl
attributes_swept b f (Some (link_node attributes text)) = refl

-- ---- what a mark does to each object, and to each attribute of a tree

touching_on : (time : Time) (touch : Touch) (found : Option ℕ) (v w : Volume) (n : ℕ) (g : Attributes → Attributes) → w n ≡ with_node_attributes g (v n) → touching_node time touch found w n ≡ with_node_attributes (λ a. touch_at time touch found n (g a)) (v n)
touching_on time touch None v w n g is = is
touching_on time touch (Some k) v w n g is =
    elim (n == k) as (λ b. (n == k) ≡ b → (if b then with_node_attributes (touched_at time touch) (w k) else w n) ≡ with_node_attributes (λ a. if b then touched_at time touch (g a) else g a) (v n)) [
      | true ↦ λ same. ap (λ j. with_node_attributes (touched_at time touch) (w j)) (sym (eqb-true n k same)) ∙ ap (with_node_attributes (touched_at time touch)) is ∙ attributes_twice (touched_at time touch) g (v n)
      | false ↦ λ other. is
    ] refl

pub touching_is : (time : Time) (touch : Touch) (found : Option ℕ) (v : Volume) (n : ℕ) → touching_node time touch found v n ≡ with_node_attributes (touch_at time touch found n) (v n)
touching_is time touch found v n = touching_on time touch found v v n (λ a. a) (sym (attributes_same (v n)))

mapped_same : {X : Type 0} (o : Option X) → option_map (λ x. x) o ≡ o
mapped_same None = refl
mapped_same (Some x) = refl

mapped_touch : (time : Time) (touch : Touch) (found : Option ℕ) (n : ℕ) (g : Attributes → Attributes) (o : Option Attributes) → option_map (touch_at time touch found n) (option_map g o) ≡ option_map (λ a. touch_at time touch found n (g a)) o
mapped_touch time touch found n g None = refl
mapped_touch time touch found n g (Some a) = refl

pub touching_tree : (time : Time) (touch : Touch) (found : Option ℕ) (t : Tree) → touching time touch found t ≡ record t { attributes = λ n. option_map (touch_at time touch found n) (t.attributes n) }
touching_tree time touch None t = λ i. record t { attributes = fun_ext {f = t.attributes} {g = λ n. option_map (λ a. a) (t.attributes n)} (λ n. sym (mapped_same (t.attributes n))) i }
touching_tree time touch (Some k) t = λ i. record t {
  attributes = fun_ext {f = λ n. if n == k then option_map (touched_at time touch) (t.attributes n) else t.attributes n} {g = λ n. option_map (touch_at time touch (Some k) n) (t.attributes n)} (λ n.
      elim (n == k) as (λ b. (if b then option_map (touched_at time touch) (t.attributes n) else t.attributes n) ≡ option_map (λ a. if b then touched_at time touch a else a) (t.attributes n)) [
        | true ↦ refl
        | false ↦ sym (mapped_same (t.attributes n))
      ]) i;
}

touching_tree_on : (time : Time) (touch : Touch) (found : Option ℕ) (t u : Tree) (g : ℕ → Attributes → Attributes) → u ≡ record t { attributes = λ n. option_map (g n) (t.attributes n) } → touching time touch found u ≡ record t { attributes = λ n. option_map (λ a. touch_at time touch found n (g n a)) (t.attributes n) }
touching_tree_on time touch found t u g is =
    ap (touching time touch found) is
    ∙ touching_tree time touch found (record t { attributes = λ n. option_map (g n) (t.attributes n) })
    ∙ (λ i. record t { attributes = fun_ext {f = λ n. option_map (touch_at time touch found n) (option_map (g n) (t.attributes n))} {g = λ n. option_map (λ a. touch_at time touch found n (g n a)) (t.attributes n)} (λ n. mapped_touch time touch found n (g n) (t.attributes n)) i })

-- the object of each number has its attributes marked, and nothing else
pub marked_is : (time : Option Time) (touches : Touches) (v : Volume) (n : ℕ) → marked_nodes time touches v n ≡ with_node_attributes (mark_at time touches n) (v n)
marked_is None touches v n = sym (attributes_same (v n))
marked_is (Some time) touches v n =
    touching_on time Data touches.new_parent v _ n _ (touching_on time Data touches.parent v _ n _ (touching_on time Status touches.replaced v _ n _
    (touching_is time touches.touch touches.object v n)))

-- and so has a tree
pub marked_tree : (time : Option Time) (touches : Touches) (t : Tree) → marked time touches t ≡ record t { attributes = λ n. option_map (mark_at time touches n) (t.attributes n) }
marked_tree None touches t = λ i. record t { attributes = fun_ext {f = t.attributes} {g = λ n. option_map (λ a. a) (t.attributes n)} (λ n. sym (mapped_same (t.attributes n))) i }
marked_tree (Some time) touches t =
    touching_tree_on time Data touches.new_parent t _ _ (touching_tree_on time Data touches.parent t _ _ (touching_tree_on time Status touches.replaced t _ _
    (touching_tree time touches.touch touches.object t)))

module _ (time : Option Time) (touches : Touches) where
  -- ---- a marked volume

  module _ (v : Volume) where
    abbrev now : Volume
    now = marked_nodes time touches v

    -- an object of the volume, marked
    pub marked_from : (n : ℕ) (o : Option Node) → v n ≡ o → now n ≡ with_node_attributes (mark_at time touches n) o
    marked_from n o is = marked_is time touches v n ∙ ap (with_node_attributes (mark_at time touches n)) is

    -- what attributes don't tell
    pub marked_by : {X : Type 0} (test : Option Node → X) → ((f : Attributes → Attributes) (o : Option Node) → test (with_node_attributes f o) ≡ test o) → (n : ℕ) → test (now n) ≡ test (v n)
    marked_by test alike n = ap test (marked_is time touches v n) ∙ alike (mark_at time touches n) (v n)

    pub marked_entries : entries now ≡ entries v
    marked_entries = fun_ext {f = entries now} {g = entries v} (λ n. fun_ext (λ x. ap (λ o. names_in o x) (marked_is time touches v n) ∙ attributes_names (mark_at time touches n) (v n) x))

    pub marked_file : (n : ℕ) → is_file_node (now n) ≡ is_file_node (v n)
    marked_file = marked_by is_file_node attributes_file

    pub marked_directory : (n : ℕ) → is_directory_node (now n) ≡ is_directory_node (v n)
    marked_directory = marked_by is_directory_node attributes_directory

    pub marked_some : (n : ℕ) → is_some (now n) ≡ is_some (v n)
    marked_some = marked_by is_some attributes_is_some

    pub marked_orphan : (n : ℕ) → is_orphan (now n) ≡ is_orphan (v n)
    marked_orphan = marked_by is_orphan attributes_orphan

    pub marked_vacant : (n : ℕ) → is_vacant (now n) ≡ is_vacant (v n)
    marked_vacant = marked_by is_vacant attributes_vacant

    pub marked_bytes : (n : ℕ) → bytes_of_node (now n) ≡ bytes_of_node (v n)
    marked_bytes = marked_by bytes_of_node attributes_bytes

    pub marked_size : (n : ℕ) → size_before now n ≡ size_before v n
    marked_size n = ap (λ bytes. length (unwrap_or bytes [])) (marked_bytes n)

    pub marked_object : (m n : ℕ) → object_of m (now n) ≡ object_of m (v n)
    marked_object m = marked_by (object_of m) (λ f o. attributes_object f o m)

    pub marked_attributes : (n : ℕ) → attributes_of (now n) ≡ option_map (mark_at time touches n) (attributes_of (v n))
    marked_attributes n = ap attributes_of (marked_is time touches v n) ∙ attributes_mapped (mark_at time touches n) (v n)

    -- a mark of nothing
    pub marked_none : (n : ℕ) → v n ≡ None → now n ≡ None
    marked_none n none = marked_from n None none

    pub none_marked : (n : ℕ) → now n ≡ None → v n ≡ None
    none_marked n none =
        elim (some_or_none (v n)) [
          | inl some ↦ absurd (false≢true (sym (ap is_some none) ∙ marked_some n ∙ some))
          | inr gone ↦ gone
        ]

    pub marked_orphans : (n : ℕ) → count_orphans n now ≡ count_orphans n v
    marked_orphans zero = refl
    marked_orphans (suc n) = ap (λ k. k + (if is_orphan (now n) then 1 else 0)) (marked_orphans n) ∙ ap (λ b. count_orphans n v + (if b then 1 else 0)) (marked_orphan n)

    -- it is a volume still

    pub naming-marked : IsNaming v → IsNaming now
    naming-marked naming = record {
      root = marked_directory ROOT_NUMBER ∙ naming.root;
      not_root = λ d x is. naming.not_root d x (was d x is);
      used = λ d n x is. marked_some n ∙ naming.used d n x (was d x is);
      once = λ d k n x y at_x at_y no_file. naming.once d k n x y (was d x at_x) (was k y at_y) (sym (marked_file n) ∙ no_file);
      names = λ d x is. naming.names d x (ap (λ e. is_some (e d x)) (sym marked_entries) ∙ is);
      reached = λ n is no_file. let old = naming.reached n (sym (marked_some n) ∙ is) (sym (marked_file n) ∙ no_file) in (old.0, ap (λ e. number_at e old.0) marked_entries ∙ old.1);
    }
      where
        was : {o : Option ℕ} (d : ℕ) (x : Name) → entries now d x ≡ o → entries v d x ≡ o
        was d x is = ap (λ e. e d x) (sym marked_entries) ∙ is

    pub counts-marked : CountsNames v → CountsNames now
    counts-marked counts n attributes links bytes is =
        let old = attributes_links (mark_at time touches n) (v n) attributes links bytes (sym (marked_is time touches v n) ∙ is) in
        subst (λ e. HasNames e n links) (sym marked_entries) (counts n old.0 links old.1 old.2)

    pub graph-marked : IsGraph v → IsGraph now
    graph-marked graph = record { naming = naming-marked graph.naming; counts = counts-marked graph.counts }

    pub limits-marked : (limits : Limits) → KeepsTime limits.has_attributes time → KeepsNodeLimits limits v → KeepsNodeLimits limits now
    limits-marked limits keeps good = record {
      nodes = λ n. subst (λ (o : Option Node). IfSome o (IsNode limits)) (sym (marked_is time touches v n))
          (attributes_good limits (mark_at time touches n) (v n) (λ a fit. mark_fits limits.has_attributes time touches n a keeps fit) (good.nodes n));
      numbers = λ n some. good.numbers n (sym (marked_some n) ∙ some);
      children = subst (λ (e : Entries). (d : ℕ) → CountsUpTo limits.directory_names (λ x. IsSome (e d x))) (sym marked_entries) good.children;
    }

    pub volume-marked : (limits : Limits) → KeepsTime limits.has_attributes time → IsVolume limits v → IsVolume limits now
    volume-marked limits keeps volume = record { can_be = volume.can_be; graph = graph-marked volume.graph; keeps = limits-marked limits keeps volume.keeps }

    -- the tree that it stands for has the same marks

    object_marked : (found : Option ℕ) → object_at now found ≡ object_at v found
    object_marked None = refl
    object_marked (Some n) = marked_object n n

    pub tree-marked : (table : ℕ → Option Description) → tree_of now table ≡ marked time touches (tree_of v table)
    tree-marked table =
        trees_same (tree_of now table) (record (tree_of v table) { attributes = λ n. option_map (mark_at time touches n) (attributes_of (v n)) })
        (fun_ext (λ p. ap (λ e. object_at now (number_at e p)) marked_entries ∙ object_marked (number_at (entries v) p)))
        (fun_ext marked_bytes) (fun_ext marked_attributes) refl
        ∙ sym (marked_tree time touches (tree_of v table))

    -- a sweep and a mark, in either order

    pub swept-marked : (table : ℕ → Option Description) → swept table now ≡ marked_nodes time touches (swept table v)
    swept-marked table =
        fun_ext {f = swept table now} {g = marked_nodes time touches (swept table v)} (λ n.
        ap (swept_node (is_open table OPEN_FILES n)) (marked_is time touches v n) ∙ attributes_swept (is_open table OPEN_FILES n) (mark_at time touches n) (v n) ∙ sym (marked_is time touches (swept table v) n))

    pub without-orphans-marked : without_orphans now ≡ marked_nodes time touches (without_orphans v)
    without-orphans-marked =
        fun_ext {f = without_orphans now} {g = marked_nodes time touches (without_orphans v)} (λ n.
        ap (swept_node false) (marked_is time touches v n) ∙ attributes_swept false (mark_at time touches n) (v n) ∙ sym (marked_is time touches (without_orphans v) n))

    pub mounted-marked : (table : ℕ → Option Description) → IsMounted v table → IsMounted now table
    mounted-marked table mounted = record {
      files = λ d f is. marked_file f.number ∙ mounted.files d f is;
      is_swept = λ n. ap (λ (w : Volume). w n) (swept-marked table) ∙ marked_is time touches (swept table v) n ∙ ap (with_node_attributes (mark_at time touches n)) (mounted.is_swept n) ∙ sym (marked_is time touches v n);
      bounded = mounted.bounded;
      offsets = mounted.offsets;
    }

  pub swept_tree-marked : (v : Volume) (table : ℕ → Option Description) → tree_of (swept table (marked_nodes time touches v)) table ≡ marked time touches (tree_of (swept table v) table)
  swept_tree-marked v table = ap (λ w. tree_of w table) (swept-marked v table) ∙ tree-marked (swept table v) table

  -- the replayed volume follows the running one
  pub extends-marked : (v w : Volume) → Extends v w → Extends (marked_nodes time touches v) (marked_nodes time touches w)
  extends-marked v w extends = record {
    kept = λ n some. marked_is time touches w n ∙ ap (with_node_attributes (mark_at time touches n)) (extends.kept n (sym (marked_some v n) ∙ some)) ∙ sym (marked_is time touches v n);
    rest = λ n none. marked_vacant w n ∙ extends.rest n (none_marked v n none);
  }

  -- ---- a marked tree

  pub marked_contents : (t : Tree) → (marked time touches t).bytes ≡ t.bytes
  marked_contents t = ap (λ (u : Tree). u.bytes) (marked_tree time touches t)

  -- what is used
  pub used_marked : (t : Tree) (n : ℕ) → IsUsed t n → IsUsed (marked time touches t) n
  used_marked t n used = subst (λ (u : Tree). IsUsed u n) (sym (marked_tree time touches t)) used

  pub marked_used : (t : Tree) (n : ℕ) → IsUsed (marked time touches t) n → IsUsed t n
  marked_used t n used = subst (λ (u : Tree). IsUsed u n) (marked_tree time touches t) used

  pub is_swept-marked : (old new : Tree) → IsSwept old new → IsSwept (marked time touches old) (marked time touches new)
  is_swept-marked old new is =
      subst (λ (t : Tree). IsSwept t (marked time touches new)) (sym (marked_tree time touches old))
      (subst (λ (u : Tree). IsSwept (record old { attributes = λ n. option_map (mark_at time touches n) (old.attributes n) }) u) (sym (marked_tree time touches new))
      record {
        objects = is.objects;
        descriptors = is.descriptors;
        kept = λ n used. ((is.kept n used).0, ap (option_map (mark_at time touches n)) (is.kept n used).1);
        gone = λ n unused. ((is.gone n unused).0, ap (option_map (mark_at time touches n)) (is.gone n unused).1);
      })

-- ---- the numbers that a tree has at paths

object_number_is : (n : ℕ) (o : Option Node) → IsSome o → option_map number_of_object (object_of n o) ≡ Some n
object_number_is n None some = absurd (false≢true some)
object_number_is n (Some (directory_node attributes names)) some = refl
object_number_is n (Some (file_node attributes links bytes)) some = refl
object_number_is n (Some (link_node attributes text)) some = refl

module _ (v : Volume) (naming : IsNaming v) (table : ℕ → Option Description) where
  -- what a path leads to is there
  found_some : (p : Path) (n : ℕ) → number_at (entries v) p ≡ Some n → IsSome (v n)
  found_some p n at =
      elim (ends p) [
        | inl root ↦ let three : Some ROOT_NUMBER ≡ Some n = sym (ap (number_at (entries v)) root) ∙ at in let same : ROOT_NUMBER ≡ n = cc in ap (λ k. is_some (v k)) (sym same) ∙ directory_some (v ROOT_NUMBER) naming.root
        | inr (u, x, push) ↦ let last = last_step (entries v) u x n (sym (ap (number_at (entries v)) push) ∙ at) in naming.used last.0 n x last.2
      ]

  number_found : (found : Option ℕ) → ((n : ℕ) → found ≡ Some n → IsSome (v n)) → option_map number_of_object (object_at v found) ≡ found
  number_found None some = refl
  number_found (Some n) some = object_number_is n (v n) (some n refl)

  pub number_of_path : (p : Path) → number_at_path (tree_of v table) p ≡ number_at (entries v) p
  number_of_path p = number_found (number_at (entries v) p) (found_some p)

  -- where the directory of this number stands, its names lead to the numbers that the tree has
  pub number_of_name : (p : Path) (d : ℕ) (x : Name) → number_at (entries v) p ≡ Some d → number_at_path (tree_of v table) (p ++ x ∷ []) ≡ entries v d x
  number_of_name p d x at = number_of_path (p ++ x ∷ []) ∙ number_at-push (entries v) p x ∙ ap (λ o. enter (entries v) o x) at

  pub number_by_name : (p : Path) (d : ℕ) (x : Name) → (tree_of v table).objects p ≡ Some (trees.directory d) → number_at_path (tree_of v table) (p ++ x ∷ []) ≡ entries v d x
  number_by_name p d x stands = number_of_name p d x (found_number v (number_at (entries v) p) (trees.directory d) d stands refl)

-- ---- records

-- a record that applies keeps a volume
pub records_keep_volumes : RecordsKeepVolumes
records_keep_volumes limits v change volume can =
    volume-marked change.time (touches_of change.edit v) (edited change.edit v) limits can.time (edits_keep_volumes limits v change.edit volume can.edit)
