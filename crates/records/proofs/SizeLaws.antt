-- How many bytes an object in memory has.
use Rattle.std.proofs.Common.{◌≡◌, ◌+◌, ◌≤◌, ℕ, List, [], Bool, true, false, length, Option, Some, None, IfSome, IsTrue, refl, ap, sym, ◌∙◌, arith}
use Rattle.std.specs.Prelude.{unwrap_or, max, nat_lt, if◌then◌else◌}
use Rattle.layout.specs.declared.inode.Inode.{Inode}
use Rattle.layout.specs.declared.kind.Kind.TheVariants as kinds
use Rattle.layout.specs.declared.TheConstants.{SINGLE_BYTES}
use Rattle.model.specs.Room.{cost, puts_bytes}
use Rattle.model.specs.Volumes.{Node, directory_node, file_node, link_node, bytes_of_node, is_file_node}
use Rattle.images.specs.Soundness.{Detail}
use Rattle.inode.specs.Room.{write_room}
use Rattle.inode.specs.declared.object.Object.{Object}
use Rattle.inofile.specs.Inodes.{slot_object}
use Rattle.inofile.specs.Objects.{IsObjectIn}
use Rattle.inofile.specs.Settled.{content_of_object}
use Rattle.inofile.specs.Volumes.{SlotStandsFor}
use Rattle.inofile.specs.declared.inode_file.ObjectSlot.{ObjectSlot}
use Rattle.inofile.specs.declared.inode_file.ObjectSlot.TheVariants.{AsSettled, Loaded, Changed}
use Rattle.records.specs.Room.{step_costs}
use Rattle.records.proofs.KindLaws.{is_kind, not_file, sized_file}

no_bytes : (o : Option Node) → is_file_node o ≡ false → 0 ≡ length (unwrap_or (bytes_of_node o) [])
no_bytes None not = refl
no_bytes (Some (directory_node attributes names)) not = refl
no_bytes (Some (link_node attributes text)) not = refl
no_bytes (Some (file_node attributes links bytes)) not = cc

module _ (detail : Detail) (disk : ℕ → List ℕ) (inodes : ℕ) (settled : Inode) (found : Option Node) where
  pub file_bytes : (o : Object) → IsObjectIn detail disk inodes settled o found → o.status.kind ≡ kinds.File → o.file.size ≡ length (unwrap_or (bytes_of_node found) [])
  file_bytes o is file =
      let held = sized_file detail o.status.kind inodes (content_of_object disk o) found is.stands file in
      sym (ap (λ (x : Option Node). length (unwrap_or (bytes_of_node x) [])) held.2 ∙ held.1)

  pub other_bytes : (o : Object) → IsObjectIn detail disk inodes settled o found → (o.status.kind ≡ kinds.File → ⊥) → 0 ≡ length (unwrap_or (bytes_of_node found) [])
  other_bytes o is other = no_bytes found (not_file detail o.status.kind inodes (content_of_object disk o) found is.stands other)

  -- an object that memory has of a file's number has as many bytes as the file
  pub loaded_bytes : (slot : Option ObjectSlot) → SlotStandsFor detail disk inodes settled slot found → IsTrue (is_file_node found)
      → IfSome (slot_object slot) (λ o. o.file.size ≡ length (unwrap_or (bytes_of_node found) []))
  loaded_bytes None stands file = tt
  loaded_bytes (Some AsSettled) stands file = tt
  loaded_bytes (Some (Loaded None)) stands file = tt
  loaded_bytes (Some (Loaded (Some o))) stands file = file_bytes o stands.1 (is_kind detail o.status.kind inodes (content_of_object disk o) found stands.1.stands file)
  loaded_bytes (Some (Changed None)) stands file = tt
  loaded_bytes (Some (Changed (Some o))) stands file = file_bytes o stands (is_kind detail o.status.kind inodes (content_of_object disk o) found stands.stands file)

-- what a write may store of its file, and two for the inode, is within what its steps cost
pub write_costs : (size offset count : ℕ) → write_room size offset count + 2 ≤ cost step_costs (puts_bytes size offset count)
write_costs size offset count = let more = beside_it (nat_lt SINGLE_BYTES (max size (offset + count))) in omega (arith, more)
  where
    beside_it : (past : Bool) → (if past then 6 else 3) + 2 ≤ (if past then 8 else 6)
    beside_it true = omega arith
    beside_it false = omega arith
