use Rattle.std.proofs.Common.{ℕ, ◌/◌, ◌%◌, Some, List, [], length, slice_index, ap, subst, sym, arith, ◌∙◌}
use Rattle.layout.proofs.ZeroLaws.{length-zeros}
use Rattle.model.specs.Attributes.{FitAttributes, new_attributes}
use Rattle.model.specs.Volumes.{file_node}
use Rattle.layout.specs.Trees.{has_attributes}
use Rattle.layout.specs.declared.trees.Layout.{Layout}
use Rattle.layout.specs.declared.kind.Kind.TheVariants as kinds
use Rattle.inode.specs.Files.{file_block}
use Rattle.inode.proofs.BytePositions.{slice_index-zeros}
use Rattle.inode.proofs.RoomLaws.{empty_room}
use Rattle.records.proofs.NewLaws.{new_object}
use Rattle.records.proofs.DetailLaws.{ends_of, file_in}
use Rattle.records.proofs.new_objects.new_file.Goals as goal

pub returns-clause-object : goal.returns-clause-object
returns-clause-object c =
    let made = new_object kinds.File c.args.permissions c.new-attributes.result c.new-status.result c.empty.result c.new.result (Some (file_node (new_attributes c.args.permissions) 1 [])) c.new-attributes.ensures c.new-status.ensures in
    λ detail disk inodes settled same. made detail disk inodes settled (record {
      kind = tt;
      attributes = subst (λ (l : Layout). FitAttributes (has_attributes l) (new_attributes c.args.permissions)) (sym same) c.requires;
      fits = λ s. omega arith;
      stands = file_in detail inodes (record { kind = kinds.File; attributes = new_attributes c.args.permissions; links = 1; size = c.empty.result.size; block = file_block disk c.empty.result }) c.empty.ensures.size (λ i. ap length (c.empty.ensures.blocks disk i) ∙ length-zeros 4096);
      ends = ends_of detail disk c.empty.result (λ p beyond. ap (λ (b : List ℕ). slice_index b (p % 4096)) (c.empty.ensures.blocks disk (p / 4096)) ∙ slice_index-zeros 4096 (p % 4096));
      base = c.empty.ensures.base settled same;
      known = λ is. c.new.ensures inodes (file_block disk c.empty.result);
    })

pub returns-clause-room : goal.returns-clause-room
returns-clause-room c = empty_room c.empty.result c.empty.ensures.size c.empty.ensures.unchanged
