-- What names and numbers keep, where the limits of objects aren't known.
use Rattle.std.proofs.Common.{◌∙◌, ◌≡◌, inr, ℕ, List, Option, Some, None, IsSome, false, is_some, ap, sym, refl, [], ◌∷◌}
use Rattle.model.specs.declared.limits.Limits.{Limits}
use Rattle.model.specs.Records.{Applies, CanEdit, Change, Edit, applied, change_attributes, create, edited, marked_nodes, set_file, touches_of, truncate, link, node_of, rename, remove_name, with_file_bytes, with_node_attributes, with_size, without_orphans, write}
use Rattle.model.specs.declared.attributes.Attributes.{Attributes}
use Rattle.model.specs.Attributes.{set_given, set_mode}
use Rattle.model.specs.Touches.{Touches}
use Rattle.model.specs.declared.time.Time.{Time}
use Rattle.model.specs.Edits.{resized, written}
use Rattle.model.specs.Volumes.{IsGraph, IsVolume, Node, Volume, entries, is_directory_node, is_file_node, released, swept_node, with_entry, with_name_more, with_node}
use Rattle.model.proofs.AddLemmas.{graph-altered, graph-created, graph-linked, graph-swept}
use Rattle.model.proofs.LimitLemmas.{numbers_entry, numbers_node, numbers_released}
use Rattle.model.proofs.MarkLemmas.{graph-marked, marked_some}
use Rattle.model.proofs.MoveLemmas.{bytes_by, bytes_links, bytes_names, graph-moved, made_bare, made_links, attributes_directory, attributes_file, attributes_is_some, attributes_links, attributes_names, path_to}
use Rattle.model.proofs.RemoveNameLemmas.{volume-unnamed}
use Rattle.model.proofs.VolumeLemmas.{enters_directory}
use Rattle.images.specs.Soundness.{Detail, by_bytes, by_sizes}
use Rattle.images.specs.Replaying.{LeavesPlace, ReadsIn}
use Rattle.records.specs.Preparing.{HasGraph, IsKnownVolume, IsVolumeFor}
use Rattle.replay.specs.Volumes.{AppliesIn, ReplaysFor, ReplaysIn}

module _ (limits : Limits) (v : Volume) (has : HasGraph limits.inodes v) where
  -- one object changes but for its kind, its names and its links
  altered : (n : ℕ) (o : Option Node) → IsGraph (with_node n o v) → is_some o ≡ is_some (v n) → HasGraph limits.inodes (with_node n o v)
  altered n o graph some = record { graph = graph; numbers = numbers_node limits v n o has.numbers (λ is. has.numbers n (sym some ∙ is)) }

  bytes_changed : (n : ℕ) (f : List ℕ → List ℕ) → HasGraph limits.inodes (with_node n (with_file_bytes f (v n)) v)
  bytes_changed n f =
      altered n (with_file_bytes f (v n))
      (graph-altered v has.graph n (with_file_bytes f (v n)) (bytes_names f (v n)) (bytes_by is_file_node (λ attributes links a b. refl) f (v n)) (bytes_by is_directory_node (λ attributes links a b. refl) f (v n))
      (bytes_by is_some (λ attributes links a b. refl) f (v n)) (bytes_links f (v n)))
      (bytes_by is_some (λ attributes links a b. refl) f (v n))

  attributes_changed : (n : ℕ) (f : Attributes → Attributes) → HasGraph limits.inodes (with_node n (with_node_attributes f (v n)) v)
  attributes_changed n f =
      altered n (with_node_attributes f (v n))
      (graph-altered v has.graph n (with_node_attributes f (v n)) (attributes_names f (v n)) (attributes_file f (v n)) (attributes_directory f (v n)) (attributes_is_some f (v n)) (attributes_links f (v n)))
      (attributes_is_some f (v n))

module _ (limits : Limits) (v : Volume) (has : HasGraph limits.inodes v) where
  -- what a record does keeps it
  edit_kept : (edit : Edit) → CanEdit limits v edit → HasGraph limits.inodes (edited edit v)
  edit_kept (create n d made x) can =
      let path = path_to v has.graph d can.takes.directory in
      record {
        graph = graph-created v has.graph path.0 x d n (node_of made) path.1 can.takes.directory can.takes.missing can.takes.name can.vacant (made_bare made) (made_links made);
        numbers = numbers_entry limits (with_node n (Some (node_of made)) v) d x (Some n) (numbers_node limits v n (Some (node_of made)) has.numbers (λ some. inr (can.low, can.high)));
      }
  edit_kept (link n d x) can =
      let path = path_to v has.graph d can.takes.directory in
      record {
        graph = graph-linked v has.graph path.0 x d n can.attributes can.links can.bytes path.1 can.takes.directory can.takes.missing can.takes.name can.file;
        numbers = numbers_entry limits (with_node n (with_name_more (v n)) v) d x (Some n) (numbers_node limits v n (with_name_more (v n)) has.numbers (λ some. has.numbers n (ap is_some can.file)));
      }
  edit_kept (remove_name d x) can =
      let is = enters_directory (v d) x can.number can.there in
      let path = path_to v has.graph d is in
      record {
        graph = volume-unnamed v has.graph path.0 x d can.number path.1 is can.there can.empty;
        numbers = numbers_entry limits (released (entries v d x) v) d x None (numbers_released limits (entries v d x) v has.numbers);
      }
  edit_kept (rename d x k y) can = record {
    graph = graph-moved v has.graph d x k y can;
    numbers = numbers_entry limits (with_entry d x None (released (entries v k y) v)) k y (entries v d x)
        (numbers_entry limits (released (entries v k y) v) d x None (numbers_released limits (entries v k y) v has.numbers));
  }
  edit_kept (write n offset bytes) can = bytes_changed limits v has n (written offset bytes)
  edit_kept (truncate n size) can = bytes_changed limits v has n (resized size)
  edit_kept (change_attributes n permissions modified) can = attributes_changed limits v has n (set_given permissions modified)
  edit_kept (set_file n mode size) can = attributes_changed limits (with_size n size v) (bytes_changed limits v has n (resized size)) n (set_mode mode)

-- so does what it touches
marked_kept : (inodes : ℕ) (time : Option Time) (touches : Touches) (v : Volume) → HasGraph inodes v → HasGraph inodes (marked_nodes time touches v)
marked_kept inodes time touches v has = record { graph = graph-marked time touches v has.graph; numbers = λ n some. has.numbers n (sym (marked_some time touches v n) ∙ some) }

-- a record that applies keeps it
pub record_kept : (limits : Limits) (v : Volume) → HasGraph limits.inodes v → (change : Change) → Applies limits v change → HasGraph limits.inodes (applied change v)
record_kept limits v has change can = marked_kept limits.inodes change.time (touches_of change.edit v) (edited change.edit v) (edit_kept limits v has change.edit can.edit)

swept_some : (o : Option Node) → IsSome (swept_node false o) → IsSome o
swept_some None some = some
swept_some (Some o) some = refl

-- and so does a sweep of the orphans
sweep_kept : (inodes : ℕ) (v : Volume) → HasGraph inodes v → HasGraph inodes (without_orphans v)
sweep_kept inodes v has = record { graph = graph-swept v has.graph (λ d. None); numbers = λ n some. has.numbers n (swept_some (v n) some) }

-- ---- in so much detail

pub known_graph : (detail : Detail) (limits : Limits) (v : Volume) → IsKnownVolume detail limits v → HasGraph limits.inodes v
known_graph by_bytes limits v volume = record { graph = volume.graph; numbers = volume.keeps.numbers }
known_graph by_sizes limits v volume = volume

pub known_after : (detail : Detail) (limits : Limits) (v : Volume) (change : Change) → (IsVolume limits v → IsVolume limits (applied change v)) → IsKnownVolume detail limits v → Applies limits v change
    → IsKnownVolume detail limits (applied change v)
known_after by_bytes limits v change keeps volume can = keeps volume
known_after by_sizes limits v change keeps volume can = record_kept limits v volume change can

pub known_swept : (detail : Detail) (limits : Limits) (v : Volume) → (IsVolume limits v → IsVolume limits (without_orphans v)) → IsKnownVolume detail limits v → IsKnownVolume detail limits (without_orphans v)
known_swept by_bytes limits v keeps volume = keeps volume
known_swept by_sizes limits v keeps volume = sweep_kept limits.inodes v volume

-- a record applies to a volume that has what is known of it
pub volume_for : (detail : Detail) (limits : Limits) (change : Change) (v : Volume) → IsKnownVolume detail limits v → AppliesIn detail limits v change → IsVolumeFor detail limits change v
volume_for by_bytes limits change v volume can = volume
volume_for by_sizes limits change v volume can = (volume, can.place)

pub applies_so : (detail : Detail) (limits : Limits) (v : Volume) (change : Change) → AppliesIn detail limits v change → Applies limits v change
applies_so by_bytes limits v change can = can
applies_so by_sizes limits v change can = can.can

pub applies_within : (detail : Detail) (limits : Limits) (v : Volume) (change : Change) → Applies limits v change → LeavesPlace limits v change.edit → ReadsIn detail v change.edit → AppliesIn detail limits v change
applies_within by_bytes limits v change can place reads = can
applies_within by_sizes limits v change can place reads = record { can = can; place = place; reads = reads }

pub reads_in : (detail : Detail) (limits : Limits) (v : Volume) (change : Change) → AppliesIn detail limits v change → ReadsIn detail v change.edit
reads_in by_bytes limits v change can = tt
reads_in by_sizes limits v change can = can.reads

-- record by record
pub replays_by_one : (detail : Detail) (limits : Limits) (changes : List Change) (v w : Volume) → ReplaysFor detail limits v changes w → ReplaysIn detail limits v changes w
replays_by_one by_bytes limits [] v w replays = replays
replays_by_one by_bytes limits (change ∷ changes) v w replays = (replays.0, replays_by_one by_bytes limits changes (applied change v) w replays.1)
replays_by_one by_sizes limits [] v w replays = replays
replays_by_one by_sizes limits (change ∷ changes) v w replays = (replays.0, replays_by_one by_sizes limits changes (applied change v) w replays.1)
