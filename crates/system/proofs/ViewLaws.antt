-- The view of a snapshot that a system keeps.
use Rattle.std.proofs.Common.{◌≡◌, ℕ, List, ap, Bool, Option, Some, None, refl, subst}
use Rattle.std.specs.Prelude.{IsTrue}
use Rattle.model.specs.Paths.{Name}
use Rattle.model.specs.States.{State}
use Rattle.model.specs.Trees.{Description, Tree}
use Rattle.station.specs.Moments.{Meaning}
use Rattle.station.specs.declared.station.Station.{Ghosts}
use Rattle.layout.specs.Limits.{Sizes}
use Rattle.layout.specs.Places.{Blocks, blocks_of}
use Rattle.buffers.specs.declared.blocks.Blocks as blocks
use Rattle.overlay.specs.Overlays.{ReadsOver, ShowsOver}
use Rattle.overlay.specs.declared.overlay.Overlay.{Overlay}
use Rattle.system.specs.Serving.{ServesState}
use Rattle.system.specs.Systems.{IsServing, Parts, disk_of, disk_over, meaning_of, system_parts}
use Rattle.system.specs.Views.{KeepsView, ShowsSnapshot, StandsForSnapshot}
use Rattle.system.specs.declared.snapshot_view.View.{View}
use Rattle.system.specs.declared.system.System.{System}
use Rattle.system.proofs.LookedLaws.{ServesOver}
use Rattle.system.proofs.SystemLaws.{read_into}

abbrev pub closed : ℕ → Option Description
closed d = None

-- what is kept is the view of that name
pub kept_view : (disk : Blocks) (sizes : Sizes) (pairs : List (Name × Tree)) (name : Name) (kept : Option View) (there : Bool) (view : View) → kept ≡ Some view → IsTrue there
    → KeepsView disk sizes pairs name kept there → StandsForSnapshot disk sizes pairs name view.inodes
kept_view disk sizes pairs name kept there view is found keeps =
    subst (KeepsView disk sizes pairs name (Some view)) found (subst (λ (o : Option View). KeepsView disk sizes pairs name o there) is keeps)

-- a system of which blocks were read serves on
abbrev pub stays_read : {S : Type 0} {G : Ghosts S} (f : System S G) (blocks : Overlay S G) (s : State) → ReadsOver (meaning_of f) (G.meaning blocks.buffers.station) f.blocks.pending blocks.pending
    → ((disk : ℕ → List ℕ) → ShowsOver (meaning_of f) f.blocks.buffers.kept f.blocks.pending disk → ShowsOver (G.meaning blocks.buffers.station) blocks.buffers.kept blocks.pending disk) → ServesState f s
    → ServesOver f blocks f.inodes s
stays_read {S} {G} f blocks s reads shows served =
    read_into served (G.meaning blocks.buffers.station) blocks.buffers.kept blocks.pending f.inodes f.map reads shows (λ v over. over) refl (λ n k least. least) (λ b. refl) (λ coming b. refl)

-- with another view of a snapshot, it serves on
abbrev pub with_view : {m : Meaning} {k : Parts} {table : ℕ → Option Description} {s : State} (serves : IsServing m k table s) (view : Option View)
    → ShowsSnapshot (blocks_of (disk_over k m.seen.disk)) k.root.geometry serves.snapshots view → IsServing m (record k { view = view }) table s
with_view serves view shown = record {
  honest = serves.honest;
  shows = serves.shows;
  first = serves.first;
  snapshots = serves.snapshots;
  under = serves.under;
  running = serves.running;
  mounted = serves.mounted;
  memory = serves.memory;
  view = shown;
  settled = serves.settled;
  lasts = serves.lasts;
  left = serves.left;
  entries = serves.entries;
  bridge = serves.bridge;
  goes = serves.goes;
  stored = serves.stored;
  opened = serves.opened;
  fits = serves.fits;
  state = serves.state;
}

-- so does one that keeps another view once blocks were read
abbrev pub stays_viewed : {S : Type 0} {G : Ghosts S} (f : System S G) (blocks : Overlay S G) (view : Option View) (s : State)
    → ReadsOver (meaning_of f) (G.meaning blocks.buffers.station) f.blocks.pending blocks.pending
    → ((disk : ℕ → List ℕ) → ShowsOver (meaning_of f) f.blocks.buffers.kept f.blocks.pending disk → ShowsOver (G.meaning blocks.buffers.station) blocks.buffers.kept blocks.pending disk)
    → (served : ServesState f s) → ShowsSnapshot (blocks_of (disk_of f)) f.root.geometry served.snapshots view
    → IsServing (G.meaning blocks.buffers.station) (record (system_parts f) { kept = blocks.buffers.kept; pending = blocks.pending; view = view }) s.tree.descriptors s
stays_viewed {S} {G} f blocks view s reads shows served shown =
    read_into (with_view served view shown) (G.meaning blocks.buffers.station) blocks.buffers.kept blocks.pending f.inodes f.map reads shows (λ v over. over) refl (λ n k least. least) (λ b. refl) (λ coming b. refl)

-- the snapshots of the state that a system serves
pub snapshots_of : {S : Type 0} {G : Ghosts S} (f : System S G) (s : State) → (served : ServesState f s) → s.snapshots ≡ served.snapshots
snapshots_of f s served = ap (λ (u : State). u.snapshots) served.state
