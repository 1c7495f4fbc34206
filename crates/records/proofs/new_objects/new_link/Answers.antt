use Rattle.std.proofs.Common.{rules, ◌≡◌, ◌+◌, ◌*◌, ◌≤◌, ℕ, ◌/◌, ◌%◌, Some, Bool, false, List, length, max, slice_index, refl, ap, sym, subst, ◌∙◌, arith}
use Rattle.std.specs.Prelude.{nat_lt, if◌then◌else◌}
use Rattle.std.proofs.lemmas.Bool.Decides.{nat_tests}
use Rattle.layout.specs.FileBytes.{EndsAt, first_bytes}
use Rattle.layout.specs.declared.TheConstants.{SINGLE_BYTES}
use Rattle.layout.specs.declared.trees.Layout.{Layout}
use Rattle.model.specs.Attributes.{FitAttributes, new_attributes}
use Rattle.model.specs.Volumes.{link_node}
use Rattle.model.specs.Room.{touched}
use Rattle.layout.specs.Trees.{has_attributes}
use Rattle.buffers.specs.Positions.{with_bytes_at}
use Rattle.inode.specs.Edges.{written_list}
use Rattle.inode.specs.Files.{byte_at, file_block}
use Rattle.inode.specs.Room.{file_room}
use Rattle.inode.proofs.BytePositions.{slice_index-zeros}
use Rattle.inode.proofs.ComposingLaws.{committed_byte, written_ends}
use Rattle.inode.proofs.EdgeLaws.{list_of_write}
use Rattle.inode.proofs.FanLemmas.{greatest_least}
use Rattle.inode.proofs.RoomLaws.{empty_room, same_room}
use Rattle.records.proofs.NewLaws.{new_object}
use Rattle.records.proofs.FileLaws.{written_first}
use Rattle.blocktree.specs.declared.tree.BlockTree.{BlockTree}
use Rattle.images.specs.Roots.{free_inode}
use Rattle.inode.specs.Bases.{IsBased, anew, over}
use Rattle.layout.specs.declared.kind.Kind.TheVariants as kinds
use Rattle.records.proofs.DetailLaws.{ends_of, link_in}
use Rattle.records.proofs.new_objects.new_link.Goals as goal

-- a tree that is based on an inode without pointers has no settled blocks
no_blocks : (layout : Layout) (t : BlockTree) → IsBased (free_inode layout) t → t.count ≡ 0
no_blocks layout t (anew layout_is none) = none
no_blocks layout t (over pointers body has) = absurd (cc)

pub returns-clause-object : goal.returns-clause-object
returns-clause-object g c = λ detail disk shows inodes settled same.
    let text = c.args.text.now in
    let old = c.empty-file.result in
    let new = c.commit.new.self in
    let ends : EndsAt old.size (byte_at disk old) = λ p beyond. ap (λ (b : List ℕ). slice_index b (p % 4096)) (c.empty-file.ensures.blocks disk (p / 4096)) ∙ slice_index-zeros 4096 (p % 4096) in
    let size : new.size ≡ max old.size (0 + length text) = c.commit.ensures.size ∙ c.in-Ok.ensures.size in
    let none : old.size ≡ 0 = c.empty-file.ensures.size in
    let many : new.size ≡ length text = omega (arith, size, none) in
    let byte = committed_byte disk old c.prepare_write.new.self new c.in-Ok.change (with_bytes_at (byte_at disk old) 0 text) c.prepare_write.ensures.same c.commit.ensures (c.in-Ok.ensures.bytes disk shows ends) in
    let all = list_of_write (byte_at disk old) (byte_at disk new) old.size new.size 0 text size ends byte in
    let bytes : first_bytes (byte_at disk new) new.size ≡ text = all ∙ ap (λ (n : ℕ). written_list (first_bytes (byte_at disk old) n) 0 text) none ∙ written_first text in
    let is = c.requires.text in
    let some = is.some in
    let short = is.short in
    new_object kinds.Link c.args.permissions c.new-attributes.result c.new-status.result new c.new.result (Some (link_node (new_attributes c.args.permissions) text)) c.new-attributes.ensures c.new-status.ensures detail disk inodes settled (record {
      kind = tt;
      attributes = subst (λ (l : Layout). FitAttributes (has_attributes l) (new_attributes c.args.permissions)) (sym same) c.requires.kept;
      fits = λ s. (c.requires.mode, refl, omega (arith, many, some), omega (arith, many, short));
      stands = link_in detail inodes (record { kind = kinds.Link; attributes = new_attributes c.args.permissions; links = 1; size = new.size; block = file_block disk new }) text bytes;
      ends = ends_of detail disk new (written_ends (byte_at disk old) (byte_at disk new) old.size new.size 0 text size ends byte);
      base = c.commit.ensures.base settled (c.prepare_write.ensures.same.base settled (c.empty-file.ensures.base settled same));
      known = λ is. c.new.ensures inodes (file_block disk new);
    })

pub returns-clause-room : goal.returns-clause-room
returns-clause-room g c =
    let old = c.empty-file.result in
    let none = empty_room old c.empty-file.ensures.size c.empty-file.ensures.unchanged in
    let same = same_room old c.prepare_write.new.self c.prepare_write.ensures.same in
    let length_of = length c.args.text.now in
    let stores = c.in-Ok.ensures.stores (omega (arith, c.requires.text.short)) c.commit.new.self c.commit.ensures in
    let low : nat_lt SINGLE_BYTES (max old.size (0 + length_of)) ≡ false = grind (arith, nat_tests, c.empty-file.ensures.size, c.requires.text.short) in
    let few = subst (λ (b : Bool). file_room c.commit.new.self ≤ file_room c.prepare_write.new.self + (2 * touched 0 length_of + (if b then 6 else 3))) low stores in
    let one : touched 0 length_of ≤ 1 = omega (arith, c.requires.text.short) in
    omega (arith, none, same, few, one)

pub returns-in-Err-Damaged-clause-damaged : goal.returns-in-Err-Damaged-clause-damaged
returns-in-Err-Damaged-clause-damaged g c = λ disk shows is.
    let t = c.empty-file.result.tree in
    c.in-Err-Damaged.ensures.damaged disk shows (search rules) (λ i part unchanged lt. absurd (omega (arith, lt, t.fits.1, no_blocks c.args.layout t (c.empty-file.ensures.base (free_inode c.args.layout) refl))))

pub unreachable-requires : goal.unreachable-requires
unreachable-requires g c = omega (arith, c.in-Err-TooBig.ensures.too_big (search rules), c.requires.text.short, greatest_least c.empty-file.result.tree.layout)
