-- The volume of the lowest bytes: that of the same objects, where each number in a file is its lowest byte. Records of bytes do the same to
-- both, and each block of a file can be read in it.
use Rattle.std.proofs.Common.{◌≡◌, inl, inr, ℕ, zero, suc, ◌+◌, ◌-◌, ◌*◌, ◌/◌, ◌%◌, ◌<◌, ◌≢◌, List, [], ◌∷◌, ◌++◌, length, map, take, drop, replicate, slice_index, Option, Some, None, Bool, true, false, IsSome, ◌==◌, if◌then◌else◌, refl, ap, sym, subst, ◌∙◌, arith}
use Rattle.std.proofs.Math.Path.{fun_ext}
use Rattle.std.proofs.lemmas.List.{map-append, take-map, drop-map, length-map}
use Rattle.model.specs.declared.limits.Limits.{Limits}
use Rattle.layout.specs.Bytes.{IsBytes}
use Rattle.layout.specs.Record.{FitsEditFields, FitsFields}
use Rattle.model.specs.declared.attributes.Attributes.{Attributes}
use Rattle.model.specs.Attributes.{set_given, set_mode}
use Rattle.model.specs.Counting.{Counts}
use Rattle.model.specs.Edits.{resized, written}
use Rattle.model.specs.Paths.{Name}
use Rattle.model.specs.Records.{Applies, CanEdit, CanReplace, Change, Edit, IsBelow, IsEmpty, Made, TakesMode, TakesName, applied, edited, marked_nodes, touches_of, change_attributes, create, truncate, directory, file, is_vacant, link, node_of, rename, set_file, symbolic_link, remove_name, with_bits, with_file_bytes, with_node_attributes, with_size, write}
use Rattle.model.specs.Volumes.{Entries, Node, Volume, directory_node, entries, file_node, is_directory_node, is_file_node, link_node, released, set_name, with_entry, with_name_less, with_name_more, with_node}
use Rattle.model.specs.Touches.{Touches, touches_entry, touches_move}
use Rattle.model.specs.declared.attributes.Touch.TheVariants.{Status}
use Rattle.model.specs.declared.time.Time.{Time}
use Rattle.model.proofs.MarkLemmas.{mark_at, marked_is}
use Rattle.model.proofs.MoveLemmas.{bytes_by, bytes_names}
use Rattle.images.specs.Replaying.{LeavesPlace, ReadsParts, bytes_of_node}

unfoldable pub low_bytes : List ℕ → List ℕ
low_bytes bytes = map (λ b. b % 256) bytes

abbrev pub low_node : Option Node → Option Node
low_node o = with_file_bytes low_bytes o

abbrev pub low : Volume → Volume
low v n = low_node (v n)

-- ---- bytes

pub length-low : (bytes : List ℕ) → length (low_bytes bytes) ≡ length bytes
unfolding low_bytes
length-low bytes = length-map bytes (λ b. b % 256)

pub low_byte : (bytes : List ℕ) (k : ℕ) → slice_index (low_bytes bytes) k < 256
unfolding low_bytes
low_byte [] k = omega arith
low_byte (b ∷ bytes) zero = omega arith
low_byte (b ∷ bytes) (suc k) = low_byte bytes k

low_same : (bytes : List ℕ) → IsBytes bytes → low_bytes bytes ≡ bytes
unfolding low_bytes
low_same [] are = refl
low_same (b ∷ bytes) are =
    let first : b % 256 ≡ b = let small : b < 256 = are 0 in omega (arith, small) in
    let rest = low_same bytes (λ i. are (suc i)) in
    λ i. first i ∷ rest i

low_zeros : (n : ℕ) → low_bytes (replicate n 0) ≡ replicate n 0
unfolding low_bytes
low_zeros zero = refl
low_zeros (suc n) = ap (λ (xs : List ℕ). 0 ∷ xs) (low_zeros n)

low_resized : (size : ℕ) (bytes : List ℕ) → low_bytes (resized size bytes) ≡ resized size (low_bytes bytes)
unfolding low_bytes
low_resized size bytes =
    map-append (λ b. b % 256) (take size bytes) (replicate (size - length bytes) 0)
    ∙ ap (λ (xs : List ℕ). xs ++ low_bytes (replicate (size - length bytes) 0)) (sym (take-map (λ b. b % 256) size bytes))
    ∙ ap (λ (xs : List ℕ). take size (low_bytes bytes) ++ xs) (low_zeros (size - length bytes))
    ∙ ap (λ (n : ℕ). take size (low_bytes bytes) ++ replicate (size - n) 0) (sym (length-low bytes))

low_written : (offset : ℕ) (given bytes : List ℕ) → IsBytes given → low_bytes (written offset given bytes) ≡ written offset given (low_bytes bytes)
unfolding low_bytes
low_written offset given bytes are =
    let behind = drop (offset + length given) bytes in
    map-append (λ b. b % 256) (resized offset bytes ++ given) behind
    ∙ ap (λ (xs : List ℕ). xs ++ low_bytes behind) (map-append (λ b. b % 256) (resized offset bytes) given
    ∙ ap (λ (xs : List ℕ). xs ++ low_bytes given) (low_resized offset bytes)
    ∙ ap (λ (xs : List ℕ). resized offset (low_bytes bytes) ++ xs) (low_same given are))
    ∙ ap (λ (xs : List ℕ). (resized offset (low_bytes bytes) ++ given) ++ xs) (sym (drop-map (λ b. b % 256) (offset + length given) bytes))

-- ---- what a record makes of both

-- a function of objects does the same before and behind
Commutes : (Option Node → Option Node) → Type 0
Commutes f = (o : Option Node) → low_node (f o) ≡ f (low_node o)

named : (x : Name) (to : Option ℕ) → Commutes (set_name x to)
unfolding Commutes
named x to None = refl
named x to (Some (directory_node attributes names)) = refl
named x to (Some (file_node attributes links bytes)) = refl
named x to (Some (link_node attributes text)) = refl

more : Commutes with_name_more
unfolding Commutes
more None = refl
more (Some (directory_node attributes names)) = refl
more (Some (file_node attributes links bytes)) = refl
more (Some (link_node attributes text)) = refl

less : Commutes with_name_less
unfolding Commutes
less None = refl
less (Some (directory_node attributes names)) = refl
less (Some (file_node attributes links bytes)) = refl
less (Some (link_node attributes text)) = refl

changed : (f : Attributes → Attributes) → Commutes (with_node_attributes f)
unfolding Commutes
changed f None = refl
changed f (Some (directory_node attributes names)) = refl
changed f (Some (file_node attributes links bytes)) = refl
changed f (Some (link_node attributes text)) = refl

with_bytes : (f : List ℕ → List ℕ) → ((bytes : List ℕ) → low_bytes (f bytes) ≡ f (low_bytes bytes)) → Commutes (with_file_bytes f)
unfolding Commutes
with_bytes f same None = refl
with_bytes f same (Some (directory_node attributes names)) = refl
with_bytes f same (Some (file_node attributes links bytes)) = ap (λ (b : List ℕ). Some (file_node attributes links b)) (same bytes)
with_bytes f same (Some (link_node attributes text)) = refl

made_low : (made : Made) → low_node (Some (node_of made)) ≡ Some (node_of made)
unfolding low_bytes
made_low (file permissions) = refl
made_low (directory permissions) = refl
made_low (symbolic_link permissions text) = refl

pub low_entries : (v : Volume) → entries (low v) ≡ entries v
low_entries v = fun_ext (λ n. fun_ext (λ x. bytes_names low_bytes (v n) x))

node_low : (n : ℕ) (o : Option Node) (v : Volume) → low (with_node n o v) ≡ with_node n (low_node o) (low v)
node_low n o v = fun_ext (λ k. chosen (k == n) o (v k))
  where
    chosen : (b : Bool) (x y : Option Node) → low_node (if b then x else y) ≡ (if b then low_node x else low_node y)
    chosen true x y = refl
    chosen false x y = refl

change_low : (f : Option Node → Option Node) → Commutes f → (n : ℕ) (v : Volume) → low (with_node n (f (v n)) v) ≡ with_node n (f (low v n)) (low v)
unfolding Commutes
change_low f same n v = node_low n (f (v n)) v ∙ ap (λ (o : Option Node). with_node n o (low v)) (same (v n))

released_low : (o : Option ℕ) (v : Volume) → low (released o v) ≡ released o (low v)
released_low None v = refl
released_low (Some n) v = change_low with_name_less less n v

entry_low : (d : ℕ) (x : Name) (to : Option ℕ) (v w : Volume) → low v ≡ w → low (with_entry d x to v) ≡ with_entry d x to w
entry_low d x to v w same = change_low (set_name x to) (named x to) d v ∙ ap (λ (u : Volume). with_entry d x to u) same

low_edited : (edit : Edit) (v : Volume) → FitsEditFields edit → low (edited edit v) ≡ edited edit (low v)
low_edited (create number parent made name) v fits =
    entry_low parent name (Some number) _ _ (node_low number (Some (node_of made)) v ∙ ap (λ (o : Option Node). with_node number o (low v)) (made_low made))
low_edited (link number parent name) v fits = entry_low parent name (Some number) _ _ (change_low with_name_more more number v)
low_edited (remove_name parent name) v fits =
    entry_low parent name None _ _ (released_low (entries v parent name) v ∙ ap (λ (e : Entries). released (e parent name) (low v)) (sym (low_entries v)))
low_edited (rename d x k y) v fits =
    entry_low k y (entries v d x) _ _ (entry_low d x None _ _ (released_low (entries v k y) v ∙ ap (λ (e : Entries). released (e k y) (low v)) (sym (low_entries v))))
    ∙ ap (λ (e : Entries). with_entry k y (e d x) (with_entry d x None (released (entries (low v) k y) (low v)))) (sym (low_entries v))
low_edited (write number offset bytes) v fits = change_low (with_file_bytes (written offset bytes)) (with_bytes (written offset bytes) (λ b. low_written offset bytes b fits.1)) number v
low_edited (truncate number size) v fits = change_low (with_file_bytes (resized size)) (with_bytes (resized size) (low_resized size)) number v
low_edited (change_attributes number permissions modified) v fits =
    let f = set_given permissions modified in
    change_low (with_node_attributes f) (changed f) number v
low_edited (set_file number mode size) v fits =
    change_low (with_node_attributes (set_mode mode)) (changed (set_mode mode)) number (with_size number size v)
    ∙ ap (with_bits number mode) (change_low (with_file_bytes (resized size)) (with_bytes (resized size) (low_resized size)) number v)

-- and touches the same, at the same time
low_marked : (time : Option Time) (touches : Touches) (v : Volume) → low (marked_nodes time touches v) ≡ marked_nodes time touches (low v)
unfolding Commutes
low_marked time touches v =
    fun_ext {f = low (marked_nodes time touches v)} {g = marked_nodes time touches (low v)} (λ n.
    ap low_node (marked_is time touches v n) ∙ changed (mark_at time touches n) (v n) ∙ sym (marked_is time touches (low v) n))

low_touches : (edit : Edit) (v : Volume) → touches_of edit v ≡ touches_of edit (low v)
low_touches (create number parent made name) v = refl
low_touches (link number parent name) v = refl
low_touches (remove_name parent name) v = ap (λ (e : Entries). touches_entry Status (e parent name) (Some parent)) (sym (low_entries v))
low_touches (rename d x k y) v = ap (λ (e : Entries). touches_move (e d x) (e k y) (Some d) (Some k)) (sym (low_entries v))
low_touches (write number offset bytes) v = refl
low_touches (truncate number size) v = refl
low_touches (change_attributes number permissions modified) v = refl
low_touches (set_file number mode size) v = refl

pub low_applied : (change : Change) (v : Volume) → FitsFields change → low (applied change v) ≡ applied change (low v)
low_applied change v fits =
    low_marked change.time (touches_of change.edit v) (edited change.edit v)
    ∙ (λ i. marked_nodes change.time (low_touches change.edit v i) (low_edited change.edit v fits i))

-- ---- a record that applies to the one applies to the other

vacant_alike : (attributes : Attributes) (links : ℕ) (a b : List ℕ) → is_vacant (Some (file_node attributes links a)) ≡ is_vacant (Some (file_node attributes links b))
vacant_alike attributes zero a b = refl
vacant_alike attributes (suc links) a b = refl

mode_low : (has_attributes : Bool) (o : Option Node) (mode : ℕ) → TakesMode has_attributes o mode → TakesMode has_attributes (low_node o) mode
mode_low has_attributes None mode takes = takes
mode_low has_attributes (Some (directory_node attributes names)) mode takes = takes
mode_low has_attributes (Some (file_node attributes links bytes)) mode takes = takes
mode_low has_attributes (Some (link_node attributes text)) mode takes = takes

module _ (v : Volume) where
  abbrev Low : (Entries → Type 0) → Type 0
  Low P = P (entries v) → P (entries (low v))

  by_entries : (P : Entries → Type 0) → Low P
  by_entries P = subst P (sym (low_entries v))

  is_directory : (n : ℕ) → is_directory_node (low v n) ≡ is_directory_node (v n)
  is_directory n = bytes_by is_directory_node (λ attributes links a b. refl) low_bytes (v n)

  is_file : (n : ℕ) → is_file_node (low v n) ≡ is_file_node (v n)
  is_file n = bytes_by is_file_node (λ attributes links a b. refl) low_bytes (v n)

  takes : (limits : Limits) (d : ℕ) (x : Name) → TakesName limits v d x → TakesName limits (low v) d x
  takes limits d x t = record {
    directory = is_directory d ∙ t.directory;
    missing = by_entries (λ e. e d x ≡ None) t.missing;
    name = t.name;
    count = t.count;
    counts = by_entries (λ e. Counts (λ (y : Name). IsSome (e d y)) t.count) t.counts;
    room = t.room;
  }

  empty : (n : ℕ) → IsEmpty v n → IsEmpty (low v) n
  empty n = by_entries (λ e. (x : Name) → e n x ≡ None)

  replaces : (limits : Limits) (d k : ℕ) (y : Name) (n : ℕ) (o : Option ℕ) → CanReplace limits v d k y n o → CanReplace limits (low v) d k y n o
  replaces limits d k y n None (inl same) = inl same
  replaces limits d k y n None (inr t) = inr (takes limits k y t)
  replaces limits d k y n (Some m) (other, kinds, none) = (other, is_directory m ∙ kinds ∙ sym (is_directory n), empty m none)

  low_can : (limits : Limits) (edit : Edit) → CanEdit limits v edit → CanEdit limits (low v) edit
  low_can limits (create number parent made name) c =
      record { low = c.low; high = c.high; vacant = bytes_by is_vacant vacant_alike low_bytes (v number) ∙ c.vacant; takes = takes limits parent name c.takes; good = c.good }
  low_can limits (link number parent name) c =
      record { attributes = c.attributes; links = c.links; bytes = low_bytes c.bytes; file = ap low_node c.file; few = c.few; takes = takes limits parent name c.takes }
  low_can limits (remove_name parent name) c =
      record { number = c.number; there = by_entries (λ e. e parent name ≡ Some c.number) c.there; empty = empty c.number c.empty }
  low_can limits (rename d x k y) c = record {
    number = c.number;
    there = by_entries (λ e. e d x ≡ Some c.number) c.there;
    directory = is_directory k ∙ c.directory;
    name = c.name;
    outside = by_entries (λ e. ¬ IsBelow e c.number k) c.outside;
    replaces = by_entries (λ e. CanReplace limits (low v) d k y c.number (e k y)) (replaces limits d k y c.number (entries v k y) c.replaces);
  }
  low_can limits (write number offset bytes) can = (is_file number ∙ can.0, can.1, can.2, can.3)
  low_can limits (truncate number size) can = (is_file number ∙ can.0, can.1)
  low_can limits (set_file number mode size) can = (is_file number ∙ can.0, can.1, can.2)
  low_can limits (change_attributes number permissions modified) can =
      (mode_low limits.has_attributes (v number) permissions.mode can.0, can.1)

  pub low_applies : (limits : Limits) (change : Change) → Applies limits v change → Applies limits (low v) change
  low_applies limits change can = record { time = can.time; edit = low_can limits change.edit can.edit }

  pub low_place : (limits : Limits) (edit : Edit) → LeavesPlace limits v edit → LeavesPlace limits (low v) edit
  low_place limits (create number parent made name) place = tt
  low_place limits (link number parent name) place = tt
  low_place limits (remove_name parent name) place = tt
  low_place limits (rename d x k y) place = by_entries
      (λ e. (count : ℕ) × Counts (λ (z : Name). IsSome (e k z) × (z ≢ y) × (d ≡ k → z ≢ x)) count × (count < limits.directory_names)) place
  low_place limits (write number offset bytes) place = tt
  low_place limits (truncate number size) place = tt
  low_place limits (change_attributes number permissions modified) place = tt
  low_place limits (set_file number mode size) place = tt

  read : (o : Option Node) (k : ℕ) → slice_index (bytes_of_node (low_node o)) k < 256
  read None k = omega arith
  read (Some (directory_node attributes names)) k = omega arith
  read (Some (file_node attributes links bytes)) k = low_byte bytes k
  read (Some (link_node attributes text)) k = omega arith

  pub low_reads : (edit : Edit) → ReadsParts (low v) edit
  low_reads (create number parent made name) = tt
  low_reads (link number parent name) = tt
  low_reads (remove_name parent name) = tt
  low_reads (rename d x k y) = tt
  low_reads (write number offset bytes) = λ i part. read (v number) (4096 * i)
  low_reads (truncate number size) = λ cuts. read (v number) (4096 * (size / 4096))
  low_reads (change_attributes number permissions modified) = tt
  low_reads (set_file number mode size) = λ cuts. read (v number) (4096 * (size / 4096))
