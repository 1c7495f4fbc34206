-- What the server knows beside the file system, and how it changes.
use Rattle.std.specs.Prelude.{ℕ, nat_eq, ◌≡◌, ◌≢◌, ◌+◌, ◌==◌, ◌&&◌, not, nat_lt, if◌then◌else◌, List, [], ◌∷◌, ◌++◌, filter, length, map, slice_index_or, Option, Some, None, option_map, Contains}
use Rattle.std.specs.BTreeMap as tree
use Rattle.std.specs.Cmp.Lexicographic.{pointwise}
use Rattle.std.specs.Ordering.{nat_cmp}
use Rattle.file_system.specs.declared.handle.Handle.{Handle}
use Rattle.served.specs.declared.marks.Marks.{Marks}
use Rattle.served.specs.declared.memory.Marked.{Marked}
use Rattle.served.specs.declared.memory.Memory.{Memory}
use Rattle.served.specs.declared.memory.Removed.{Removed}
use Rattle.served.specs.declared.memory.Snapshot.{Snapshot}

-- a snapshot, and its id
pub record Seen : Type 0 where
  pub id : ℕ
  pub name : List ℕ

pub record Known : Type 0 where
  -- the marks of what wasn't touched since the mount
  pub first : Marks
  -- how many numbers have marks of their own, and those, with the generation that they are of
  pub numbers : ℕ
  pub marked : ℕ → Marked
  -- what was removed while the kernel knew it, by its node, and the texts of the links among it
  pub removed : ℕ → Option Removed
  pub texts : ℕ → Option (List ℕ)
  -- the snapshots, in the order of their ids, and the next id
  pub snapshots : List Seen
  pub next_id : ℕ

abbrev pub seen_of : Snapshot → Seen
seen_of s = record { id = s.id; name = s.name.items }

abbrev pub untouched : Marks → Marked
untouched first = record { generation = 0; marks = first }

abbrev pub known_of : Memory → Known
known_of m = record {
  first = m.first;
  numbers = length m.marked.items;
  marked = λ n. slice_index_or m.marked.items n (untouched m.first);
  removed = λ node. tree.get nat_cmp m.removed node;
  texts = λ node. tree.get nat_cmp m.texts node;
  snapshots = map seen_of m.snapshots.items;
  next_id = m.next_id;
}

-- the marks of an object: those of its number, if they are of its generation
abbrev pub marks_at : Known → Handle → Marks
marks_at k handle = if (k.marked handle.number).generation == handle.generation then (k.marked handle.number).marks else k.first

-- an object gets these marks
abbrev pub with_marks : Handle → Marks → Known → Known
with_marks handle marks k = record k {
  marked = λ n.
      if n == handle.number && nat_lt n k.numbers
      then (record { generation = handle.generation; marks = marks })
      else k.marked n;
}

-- what is known of removed nodes is this
abbrev pub with_all_removed : (ℕ → Option Removed) → (ℕ → Option (List ℕ)) → Known → Known
with_all_removed removed texts k = record k { removed = removed; texts = texts }

-- what is known of a removed object is now this
abbrev pub with_removed : ℕ → Removed → Known → Known
with_removed node removed k =
    with_all_removed (λ n. if n == node then option_map (λ before. removed) (k.removed n) else k.removed n) k.texts k

-- the object of a node is removed, and was this, with its text if it is a link
abbrev pub with_gone : ℕ → Removed → Option (List ℕ) → Known → Known
with_gone node removed text k =
    with_all_removed (λ n. if n == node then Some removed else k.removed n) (λ n. if n == node then text else k.texts n) k

-- the kernel doesn't know a node any more
abbrev pub without_removed : ℕ → Known → Known
without_removed node k =
    with_all_removed (λ n. if n == node then None else k.removed n) (λ n. if n == node then None else k.texts n) k

-- these are the snapshots, and the next id
abbrev pub with_snapshots : List Seen → ℕ → Known → Known
with_snapshots snapshots next_id k = record k { snapshots = snapshots; next_id = next_id }

-- there is a snapshot more
abbrev pub with_snapshot : List ℕ → Known → Known
with_snapshot name k =
    with_snapshots (k.snapshots ++ (record { id = k.next_id; name = name }) ∷ []) (k.next_id + 1) k

-- there is no snapshot of this name any more
abbrev pub without_snapshot : List ℕ → Known → Known
without_snapshot name k =
    with_snapshots (filter (λ s. not (pointwise nat_eq s.name name)) k.snapshots) k.next_id k

-- the snapshot with an id, or a name, if there is one
abbrev pub FindsId : Known → ℕ → Option Seen → Type 0
FindsId k id (Some s) = Contains k.snapshots s × (s.id ≡ id)
FindsId k id None = (s : Seen) → Contains k.snapshots s → s.id ≢ id

abbrev pub FindsName : Known → List ℕ → Option Seen → Type 0
FindsName k name (Some s) = Contains k.snapshots s × (s.name ≡ name)
FindsName k name None = (s : Seen) → Contains k.snapshots s → s.name ≢ name

-- what a server knows at first
abbrev pub nothing_known : ℕ → Marks → Known
nothing_known numbers first = record {
  first = first;
  numbers = numbers;
  marked = λ n. untouched first;
  removed = λ node. None;
  texts = λ node. None;
  snapshots = [];
  next_id = 0;
}
