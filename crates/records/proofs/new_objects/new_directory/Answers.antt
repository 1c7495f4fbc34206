use Rattle.std.proofs.Common.{◌≡◌, ℕ, ◌/◌, ◌%◌, List, [], None, Some, length, slice_index, refl, ap, subst, sym, arith, ◌∙◌}
use Rattle.inode.proofs.BytePositions.{slice_index-zeros}
use Rattle.inode.proofs.RoomLaws.{empty_room}
use Rattle.layout.proofs.ZeroLaws.{length-zeros}
use Rattle.inode.specs.Files.{file_block}
use Rattle.model.specs.Attributes.{FitAttributes, new_attributes}
use Rattle.layout.specs.declared.kind.Kind.TheVariants as kinds
use Rattle.model.specs.Volumes.{directory_node}
use Rattle.layout.specs.Trees.{has_attributes}
use Rattle.layout.specs.declared.trees.Layout.{Layout}
use Rattle.records.proofs.NewLaws.{new_object}
use Rattle.records.proofs.DetailLaws.{can_read, directory_in, ends_of}
use Rattle.records.proofs.new_objects.new_directory.Goals as goal

none_some : {X : Type 0} {n : ℕ} → None ≡ Some n → X
none_some e = cc

pub returns-clause-object : goal.returns-clause-object
returns-clause-object c =
    let found = Some (directory_node (new_attributes c.args.permissions) (λ name. None)) in
    let made = new_object kinds.Directory c.args.permissions c.new-attributes.result c.new-status.result c.empty.result c.new.result found c.new-attributes.ensures c.new-status.ensures in
    let none : c.empty.result.size / 4096 ≡ 0 = ap (λ s. s / 4096) c.empty.ensures.size in
    λ detail disk inodes settled same. made detail disk inodes settled (record {
      kind = tt;
      attributes = subst (λ (l : Layout). FitAttributes (has_attributes l) (new_attributes c.args.permissions)) (sym same) c.requires;
      fits = λ s. (refl, ap (λ (n : ℕ). n % 4096) c.empty.ensures.size);
      stands = directory_in detail inodes (record { kind = kinds.Directory; attributes = new_attributes c.args.permissions; links = 1; size = c.empty.result.size; block = file_block disk c.empty.result }) found (can_read detail (file_block disk c.empty.result) (λ i. ap length (c.empty.ensures.blocks disk i) ∙ length-zeros 4096)) (
        λ name. None,
        record {
          entries = λ i. [];
          holds = λ i below. absurd (omega (arith, below, none));
          past = λ i beyond. refl;
          are = record {
            each = λ i. tt;
            once = λ i j name m n a b. none_some a;
            found = λ i name n is. none_some is;
            only = λ name absent. refl;
          };
        },
        refl,
      );
      ends = ends_of detail disk c.empty.result (λ p beyond. ap (λ (b : List ℕ). slice_index b (p % 4096)) (c.empty.ensures.blocks disk (p / 4096)) ∙ slice_index-zeros 4096 (p % 4096));
      base = c.empty.ensures.base settled same;
      known = λ is. c.new.ensures inodes (file_block disk c.empty.result);
    })

pub returns-clause-room : goal.returns-clause-room
returns-clause-room c = empty_room c.empty.result c.empty.ensures.size c.empty.ensures.unchanged
