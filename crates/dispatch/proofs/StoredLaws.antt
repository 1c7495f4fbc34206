-- What a system's memory says of the stored blocks of files.
use Rattle.std.proofs.Common.{◌≡◌, ◌/◌, ◌∙◌, ℕ, Option, ap}
use Rattle.std.specs.Prelude.{IsFalse, slice_index}
use Rattle.station.specs.declared.station.Station.{Ghosts}
use Rattle.layout.specs.Places.{blocks_of}
use Rattle.model.specs.Edits.{contents}
use Rattle.model.specs.States.{State}
use Rattle.model.specs.Trees.{Description}
use Rattle.records.proofs.ExtentLaws.{holes_zeros, tells_settled, tells_stored}
use Rattle.records.specs.Reading as reading
use Rattle.system.specs.Serving.{ServesState}
use Rattle.system.specs.Ahead.{HasStateAhead}
use Rattle.system.specs.Systems.{disk_of, meaning_of, system_parts}
use Rattle.system.specs.Waits.{Waits}
use Rattle.system.specs.declared.system.System.{System}
use Rattle.dispatch.specs.Serving.{stored_of}
use Rattle.dispatch.specs.Showing.{IsShowing}
use Rattle.dispatch.proofs.LookedLaws.{ahead_shows, disk_under, inodes_under, served_shows}

module _ {S : Type 0} {G : Ghosts S} (f : System S G) where
  -- it tells what is stored
  pub stored_tells : reading.TellsStored (blocks_of (disk_of f)) f.inodes (stored_of f)
  stored_tells = tells_stored (disk_under f) (inodes_under f) f.inodes

  pub settled_tells : reading.TellsSettled (disk_under f) (inodes_under f) f.inodes (stored_of f)
  settled_tells = tells_settled (disk_under f) (inodes_under f) f.inodes

  -- a byte of a file in a block that isn't stored is 0
  pub holes_shown : {table : ℕ → Option Description} {s : State} → IsShowing (meaning_of f) (system_parts f) table s → (n p : ℕ) → IsFalse (stored_of f n (p / 4096)) → slice_index (contents s.tree n) p ≡ 0
  holes_shown shown n p hole =
      ap (λ (u : State). slice_index (contents u.tree n) p) shown.state
      ∙ holes_zeros f.root.geometry.blocks (disk_under f) (inodes_under f) f.inodes shown.running n p shown.memory.stands hole

  pub holes_read : (s : State) → ServesState f s → (n p : ℕ) → IsFalse (stored_of f n (p / 4096)) → slice_index (contents s.tree n) p ≡ 0
  holes_read s served = holes_shown (served_shows served)

  pub holes_ahead : {waits : Waits} {s kept : State} → HasStateAhead f waits s.tree.descriptors s kept → (n p : ℕ) → IsFalse (stored_of f n (p / 4096)) → slice_index (contents s.tree n) p ≡ 0
  holes_ahead ahead = holes_shown (ahead_shows ahead)
