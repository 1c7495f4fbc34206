-- The root: what is read is spelled so, and what is spelled so is read.
use Rattle.std.proofs.Common.{◌≡◌, ℕ, ◌<◌, List, [], ◌++◌, get_or, drop, eqb, cond, Some, None, refl, sym, ap, subst, ◌∙◌, arith}
use Rattle.std.specs.Prelude.{codes}
use Rattle.std.proofs.lemmas.Bool.{eqb-true}
use Rattle.std.proofs.lemmas.List.{append-nil, drop_all}
use Rattle.layout.specs.Bytes.{little, zeros, IsBytes}
use Rattle.layout.specs.Pointer.{pointers_bytes, pointers_in}
use Rattle.layout.specs.Reading.{number_read, all_of}
use Rattle.layout.specs.Inode.{IsSomeInode, inode_bytes}
use Rattle.layout.specs.InodeReading.{inode_in}
use Rattle.layout.specs.Root.{magic, root_head, root_fields, head_bytes, root_bytes, IsRoot}
use Rattle.layout.specs.RootReading.{root_in}
use Rattle.layout.specs.Version.{layout_of}
use Rattle.layout.specs.declared.root.Root.{Root}
use Rattle.layout.proofs.Formats.{bind_some, some_is, if_then, Takes, IsBytes-behind, IsBytes-front, IsExact, num_exact, ranged_exact, part_exact, blank_exact, then_exact, whole_takes, whole_again}
use Rattle.layout.proofs.InodeLaws.{inode_takes, inode_read, length-inode}
use Rattle.layout.proofs.WordLaws.{length-pointers_bytes, pointers_again, pointers_spelled}

pub magic_is : little 8 0x544f4f524c464157 ≡ codes "WAFLROOT"
unfolding little
magic_is = refl

magic_exact : IsExact magic
magic_exact = record {
  takes = λ bytes x fits e.
      let a = bind_some (number_read 8 bytes) (λ y. cond (eqb y.0 0x544f4f524c464157) (Some (tt, y.1)) None) x e in
      let g = if_then (eqb a.0.0 0x544f4f524c464157) (Some (tt, a.0.1)) x a.2 in
      let t = ((num_exact 8).takes bytes a.0 fits a.1).0 in
      let spelled : little 8 a.0.0 ≡ codes "WAFLROOT" = ap (little 8) (eqb-true _ _ g.0) ∙ magic_is in
      (subst (λ (y : Unit {0} × List ℕ). Takes bytes (codes "WAFLROOT") y.1) (some_is (tt, a.0.1) x g.1) (subst (λ (z : List ℕ). Takes bytes z a.0.1) spelled t), tt);
  again = λ v rest fits.
      ap (λ (m : List ℕ). magic.at (m ++ rest)) (sym magic_is) ∙ rw ((num_exact 8).again 0x544f4f524c464157 rest (omega arith)) refl;
}

root_exact : IsExact root_fields
root_exact =
    then_exact (then_exact magic_exact (then_exact (ranged_exact 4 1 2 (omega arith)) (then_exact (ranged_exact 8 1 _ (omega arith))
    (then_exact (ranged_exact 4 64 1048576 (omega arith)) (then_exact (ranged_exact 4 32 65536 (omega arith)) (ranged_exact 4 131072 8388608 (omega arith)))))))
    (then_exact (part_exact 192) (then_exact (part_exact 120) (blank_exact 168)))

pub root_takes : (bytes : List ℕ) (r : Root) → IsBytes bytes → root_in bytes ≡ Some r → bytes ≡ root_bytes r
unfolding root_in head_bytes
root_takes bytes r fits e =
    let w = bind_some (all_of root_fields.at bytes) _ r e in
    let head = w.0.0 in
    let inode = w.0.1.0 in
    let pointers = w.0.1.1.0 in
    let t = whole_takes root_exact bytes w.0 fits w.1 in
    let all = subst (λ (r : List ℕ). (i : ℕ) → get_or r i 0 < 256) t.0 fits in
    let behind = IsBytes-behind (root_head.text head) (inode ++ (pointers ++ zeros 168)) all in
    let n = bind_some (inode_in (layout_of head.1.0) inode) _ r w.2 in
    let inode-is = (inode_takes (layout_of head.1.0) inode n.0 (IsBytes-front inode (pointers ++ zeros 168) behind) n.1).0 in
    let none : drop 120 pointers ≡ [] = drop_all 120 pointers (omega (arith, t.1.1.1.0)) in
    let pointers_fit = IsBytes-front pointers (zeros 168) (IsBytes-behind inode (pointers ++ zeros 168) behind) in
    let pointers-are : pointers ≡ pointers_bytes (pointers_in 30 pointers) =
    pointers_spelled 30 pointers (omega (arith, t.1.1.1.0)) pointers_fit ∙ ap (λ (r : List ℕ). pointers_bytes (pointers_in 30 pointers) ++ r) none ∙ append-nil (pointers_bytes (pointers_in 30 pointers)) in
    t.0 ∙ (λ j. root_fields.text ((tt, (head.1.0, head.1.1)), (inode-is j, (pointers-are j, tt)))) ∙ ap root_bytes (some_is _ r n.2)

pub root_again : (r : Root) → IsRoot r → root_in (root_bytes r) ≡ Some r
unfolding root_in head_bytes
root_again r is =
    let s = is.head.sizes in
    let none : pointers_bytes r.snapshots ≡ pointers_bytes r.snapshots ++ [] = sym (append-nil (pointers_bytes r.snapshots)) in
    let pointers : pointers_in 30 (pointers_bytes r.snapshots) ≡ r.snapshots = ap (pointers_in 30) none ∙ pointers_again 30 r.geometry.blocks r.snapshots [] is.slots (omega (arith, s.most_blocks)) is.snapshots in
    let read = whole_again root_exact ((tt, (r.version, (r.generation, (r.geometry.blocks, (r.geometry.inodes, r.geometry.half))))), (inode_bytes r.inode_file, (pointers_bytes r.snapshots, tt))) (
      (tt, ((is.head.known.least, is.head.known.most), ((is.head.first, omega (arith, is.head.last)), ((s.least_blocks, s.most_blocks), ((s.least_inodes, s.most_inodes), (s.least_half, s.most_half)))))),
      (length-inode r.inode_file r.geometry is.inode_file, (omega (arith, length-pointers_bytes r.snapshots, is.slots), tt)),
    ) in
    let some : IsSomeInode r.inode_file = record { sizes = r.geometry; are_sizes = s; fits = is.inode_file } in
    let inode : inode_in (layout_of r.version) (inode_bytes r.inode_file) ≡ Some r.inode_file = inode_read (layout_of r.version) r.inode_file some (is.inode_file.layout ∙ is.head.layout) in
    let same = is.head.layout in
    rw (read, inode, sym same, pointers) refl

-- no bytes spell two roots
pub root_injective : (q r : Root) → IsRoot q → IsRoot r → root_bytes q ≡ root_bytes r → q ≡ r
root_injective q r is_q is_r e = some_is q r (sym (root_again q is_q) ∙ ap root_in e ∙ root_again r is_r)
