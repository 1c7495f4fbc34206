-- What taking, deleting and finding a snapshot comes to, by the slots under a root.
use Rattle.std.proofs.Common.{◌≡◌, ◌≢◌, ◌⊎◌, inl, inr, ℕ, zero, suc, ◌+◌, ◌*◌, ◌≤◌, ◌<◌, ◌^◌, List, [], ◌∷◌, ◌++◌, Bool, false, not, Option, Some, None, Result, Ok, Err, refl, ap, sym, subst, ◌∙◌, arith}
use Rattle.std.specs.Prelude.{IsErrOf, OnOk, bytes_eq, filter, is_none, slice_index_or}
use Rattle.std.proofs.lemmas.Bool.{cases_lt}
use Rattle.model.specs.declared.costs.Costs.{Costs}
use Rattle.layout.specs.StateLimits.{limits_of}
use Rattle.station.specs.Moments.{HasGrown, LeavesOnly, Meaning}
use Rattle.station.specs.declared.station.Station.{Ghosts}
use Rattle.station.proofs.Moments.{goes_on_unchanged, joined, leaves_unchanged, weaker}
use Rattle.layout.specs.Limits.{Sizes}
use Rattle.layout.specs.Places.{Blocks, blocks_of}
use Rattle.layout.specs.Root.{IsRoot}
use Rattle.layout.specs.SnapRoot.{Snapshot, snapshot_in}
use Rattle.layout.specs.declared.pointer.Pointer.{Pointer}
use Rattle.layout.specs.declared.pointer.Pointer.TheVariants.{Block, Hole}
use Rattle.layout.specs.declared.root.Root.{Root}
use Rattle.model.specs.Laws.{MountsForget}
use Rattle.model.specs.Paths.{Name, first_refusal}
use Rattle.model.specs.Records.{without_orphans}
use Rattle.model.specs.Room.{IsShort, Need, Room, Work, a_snapshot, logs, nothing}
use Rattle.model.specs.States.{State, ForgetsOpenFiles, with_snapshots}
use Rattle.model.specs.Steps.{deletes, frozen, take_tests, takes}
use Rattle.model.specs.Trees.{Description, Tree}
use Rattle.model.specs.Volumes.{Volume, tree_of}
use Rattle.model.specs.declared.command.Command.{Command}
use Rattle.model.specs.declared.errno.Errno.TheVariants.{NOSNAP}
use Rattle.model.specs.declared.reply.Reply.TheVariants.{Done}
use Rattle.buffers.specs.Disks.{ReadsOn}
use Rattle.buffers.specs.declared.error.BlockError.{BlockError}
use Rattle.buffers.specs.declared.error.BlockError.TheVariants as read_errors
use Rattle.images.specs.Roots.{slot, whole}
use Rattle.images.specs.Snapshots.{HasSnapshot}
use Rattle.images.specs.SnapshotSteps.{CanTake, HasNamed, IsSlotNumber}
use Rattle.oplog.specs.LogEnd.{LogEnd}
use Rattle.conspoint.specs.Errors.{plan_error}
use Rattle.conspoint.specs.declared.error.PlanError.{PlanError}
use Rattle.conspoint.specs.declared.error.PlanError.TheVariants as plan
use Rattle.snapshots.specs.Found.{FindsSnapshot, SpellsSnapshot, named, snapshot_found}
use Rattle.snapshots.specs.Taken.{MayTake}
use Rattle.snapshots.specs.declared.finding.FoundSnapshot.{FoundSnapshot}
use Rattle.snapshots.specs.declared.taking.Taking.{Taking}
use Rattle.snapshots.proofs.NamedLaws.{one_named}
use Rattle.snapshots.proofs.PreparedLaws.{passed}
use Rattle.snapshots.proofs.SlotLaws as slots
use Rattle.system.specs.Counting.{AgesBy, Counted, Failed, IsNoGeneration, LogsNothing, a_read, no_call, perhaps_reads, point_error_failed}
use Rattle.system.specs.Errors.{IsNotWritten, call_error}
use Rattle.system.specs.Images.{OpensTo}
use Rattle.system.specs.Points.{KeepsSlotsOn, MakesPointFrom}
use Rattle.system.specs.Room.{HasRoomToTake, costs_on}
use Rattle.system.specs.Serving.{LeavesEither, ServesAsBefore, ServesState, WouldDo}
use Rattle.system.specs.CheckpointCommands.{Glances, IsRoomOf, LacksOrder, MakesCovered, Checkpoints, made_of}
use Rattle.system.specs.Slicing.{Finishes}
use Rattle.system.specs.Systems.{HasState, IsCovered, IsServing, Parts, disk_over, meaning_of}
use Rattle.system.specs.declared.error.CallError.{CallError}
use Rattle.system.specs.declared.error.PointError.{PointError}
use Rattle.system.specs.declared.error.PointError.TheVariants as point
use Rattle.system.specs.declared.system.System.{System}
use Rattle.system.proofs.CountingLaws.{all_read, all_written, counted_after, logged_twice, not_read, nothing_logged, perhaps_read, same_age, told_beside_reads}
use Rattle.system.proofs.CoveringLaws.{aged}
use Rattle.system.proofs.SystemLaws.{opens_same}
use Rattle.system.proofs.SystemLaws.{AllOpen}
use Rattle.system.proofs.SystemLaws.{extends_itself}
use Rattle.system.proofs.ViewLaws.{closed, snapshots_of}

-- ---- the slots

-- what stood in a slot stands there still, and nothing else
module _ {r new : Root} {disk after : Blocks} (keeps : KeepsSlotsOn r disk new after) where
  same_slot : (k : ℕ) → slot new k ≡ slot r k
  same_slot zero = refl
  same_slot (suc j) = ap (λ (l : List Pointer). slice_index_or l j Hole) keeps.slots

  pub still_has : (k : ℕ) (s : Snapshot) → HasSnapshot r (whole disk r) k s → HasSnapshot new (whole after new) k s
  still_has k s has =
      let same : new.geometry.layout ≡ r.geometry.layout = ap (λ (z : Sizes). z.layout) keeps.geometry in
      slots.has after new k (Block has.block) s (same_slot k ∙ has.there)
      ((λ i. snapshot_in (same i) (keeps.heads k has.block has.there i)) ∙ subst (λ (p : Pointer). SpellsSnapshot r.geometry.layout disk p s) has.there (slots.spells disk r k s has))

  had : (k : ℕ) (s : Snapshot) → HasSnapshot new (whole after new) k s → HasSnapshot r (whole disk r) k s
  had k s has =
      let there = sym (same_slot k) ∙ has.there in
      let same : r.geometry.layout ≡ new.geometry.layout = ap (λ (z : Sizes). z.layout) (sym keeps.geometry) in
      slots.has disk r k (Block has.block) s there
      ((λ i. snapshot_in (same i) (sym (keeps.heads k has.block there) i)) ∙ subst (λ (p : Pointer). SpellsSnapshot new.geometry.layout after p s) has.there (slots.spells after new k s has))

  -- so one that might be taken may be taken
  pub can_take : (name : Name) (t : Taking) → IsRoot new → MayTake disk r name t → t.order < 2 ^ 62
      → CanTake new (whole after new) t.slot (record { order = t.order; name = name; inode_file = new.inode_file })
  can_take name t root may low = record {
    number = may.slot_is;
    free = same_slot t.slot ∙ may.free;
    is = record {
      first = may.first;
      last = low;
      some = may.some;
      short = may.short;
      kind = root.kind;
      inode_file = record { sizes = new.geometry; are_sizes = root.head.sizes; fits = root.inode_file };
    };
    tree = refl;
    name = λ k s has. may.names k s (had k s has);
    newest = λ k s has. may.orders k s (had k s has);
    order = omega (arith, may.order, keeps.later);
  }

  -- an order number past the last one is past the next generation
  pub late_order : (name : Name) (t : Taking) (next : ℕ) → MayTake disk r name t → 2 ^ 62 ≤ t.order → next ≡ new.generation + 1 → 2 ^ 62 ≤ next
  late_order name t next may high is = omega (arith, may.order, keeps.later, high, is)

-- ---- taking and deleting

-- the tree of the state that a system serves, without its open files
pub forgets_running : {S : Type 0} {G : Ghosts S} (f : System S G) (s : State) → MountsForget → (served : ServesState f s) → ForgetsOpenFiles s.tree (tree_of (without_orphans served.running) closed)
forgets_running f s forgets served =
    let tree : s.tree ≡ tree_of served.running s.tree.descriptors = ap (λ (u : State). u.tree) served.state in
    subst (λ (t : Tree). ForgetsOpenFiles t (tree_of (without_orphans served.running) closed)) (sym tree)
    (forgets (limits_of f.root.geometry) served.running served.running s.tree.descriptors served.memory.volume (extends_itself served.running))

module _ (s : State) (name : Name) where
  pub take_done : (t : Tree) → first_refusal (take_tests s name) ≡ None → ForgetsOpenFiles s.tree t → takes s name Done (with_snapshots (s.snapshots ++ (name, t) ∷ []) s) a_snapshot
  take_done t is forgets = passed s (take_tests s name) _ Done _ a_snapshot is (refl, (t, forgets, refl), refl)

  pub delete_done : (pair : Name × Tree) → frozen s name ≡ Some pair → deletes s name Done (with_snapshots (filter (λ pair. not (bytes_eq pair.0 name)) s.snapshots) s) nothing
  delete_done pair is = passed s ((is_none (frozen s name), NOSNAP) ∷ []) _ Done _ nothing (ap (λ (o : Option (Name × Tree)). first_refusal ((is_none o, NOSNAP) ∷ [])) is) (refl, refl, refl)

-- it is short for a snapshot where the disk has no room
pub short_to_take : {S : Type 0} {G : Ghosts S} (f : System S G) → (HasRoomToTake f → ⊥) → (room : Room) → IsRoomOf f room → IsShort room a_snapshot
short_to_take f lacks room is = (
  is.covered,
  elim (cases_lt f.free (f.pledged + 2 * (costs_on f).point + 1)) [
    | inl lt ↦ omega (arith, lt, is.free, is.pledged, ap (λ (c : Costs). c.point) is.costs)
    | inr ge ↦ absurd (lacks ge)
  ],
)

-- the tree that the root of a covered system holds is the one that a snapshot of it has
pub take_step : {S : Type 0} {G : Ghosts S} (f : System S G) (s : State) → MountsForget → (name : Name) → (served : ServesState f s) → served.first ≡ served.running → first_refusal (take_tests s name) ≡ None
    → takes s name Done (with_snapshots (served.snapshots ++ (name, tree_of (without_orphans served.first) closed) ∷ []) s) a_snapshot
take_step {S} {G} f s forgets name served held is =
    subst (λ (u : State). takes s name Done u a_snapshot)
    (ap (λ (pairs : List (Name × Tree)). with_snapshots (pairs ++ (name, tree_of (without_orphans served.running) closed) ∷ []) s) (snapshots_of {G = G} f s served)
    ∙ ap (λ (v : Volume). with_snapshots (served.snapshots ++ (name, tree_of (without_orphans v) closed) ∷ []) s) (sym held))
    (take_done s name (tree_of (without_orphans served.running) closed) is (forgets_running {G = G} f s forgets served))

module _ {m : Meaning} {k : Parts} {s : State} (served : IsServing m k s.tree.descriptors s) (name : Name) (found : FoundSnapshot)
    (has : HasSnapshot k.root (whole (blocks_of (disk_over k m.seen.disk)) k.root) found.slot (snapshot_found name found)) where
  -- a snapshot that stands in its slot is found by its name
  abbrev pub finds : FindsSnapshot k.root (blocks_of (disk_over k m.seen.disk)) name served.snapshots (Some found)
  finds = (has, one_named (blocks_of (disk_over k m.seen.disk)) k.root name served.first served.snapshots served.under.holds found.slot (snapshot_found name found) has refl)

  -- it is frozen in the state
  pub is_frozen : frozen s name ≡ Some (name, finds.1.tree)
  is_frozen = ap (λ (u : State). named name u.snapshots) served.state ∙ finds.1.listed

  pub has_named : IsSlotNumber found.slot → HasNamed k.root (whole (blocks_of (disk_over k m.seen.disk)) k.root) found.slot name
  has_named number = record { number = number; snapshot = snapshot_found name found; has = has; named = refl }

  -- the state without it
  abbrev pub without : State
  without = with_snapshots (filter (λ pair. not (bytes_eq pair.0 name)) served.snapshots) s

  pub delete_step : deletes s name Done without nothing
  delete_step =
      subst (λ (u : State). deletes s name Done (with_snapshots (filter (λ pair. not (bytes_eq pair.0 name)) u.snapshots) s) nothing) served.state (delete_done s name _ is_frozen)
