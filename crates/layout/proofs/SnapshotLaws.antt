-- The root block of a snapshot: what is read is spelled so, and what is spelled so is read.
use Rattle.std.proofs.Common.{◌≡◌, ℕ, ◌<◌, List, ◌++◌, get_or, Some, refl, sym, ap, subst, ◌∙◌, arith}
use Rattle.layout.specs.Bytes.{little, zeros, IsBytes}
use Rattle.layout.specs.Format.{padded}
use Rattle.layout.specs.Reading.{all_of}
use Rattle.layout.specs.Inode.{inode_bytes}
use Rattle.layout.specs.InodeReading.{inode_in}
use Rattle.layout.specs.declared.trees.Layout.{Layout}
use Rattle.layout.specs.SnapRoot.{Snapshot, IsSnapshot, snapshot_fields, snapshot_bytes, snapshot_in}
use Rattle.layout.proofs.Formats.{bind_some, some_is, IsBytes-behind, IsBytes-front, IsExact, ranged_exact, part_exact, blank_exact, padded_exact, then_exact, whole_takes, whole_again}
use Rattle.layout.proofs.InodeLaws.{inode_takes, inode_again, length-inode}

snapshot_exact : IsExact snapshot_fields
snapshot_exact = then_exact (ranged_exact 8 1 _ (omega arith)) (then_exact (padded_exact 63 (omega arith)) (then_exact (part_exact 192) (blank_exact 3832)))

pub snapshot_takes : (layout : Layout) (bytes : List ℕ) (v : Snapshot) → IsBytes bytes → snapshot_in layout bytes ≡ Some v → (bytes ≡ snapshot_bytes v) × (v.inode_file.layout ≡ layout)
unfolding snapshot_in
snapshot_takes layout bytes v fits e =
    let w = bind_some (all_of snapshot_fields.at bytes) _ v e in
    let order = w.0.0 in
    let name = w.0.1.0 in
    let inode = w.0.1.1.0 in
    let t = whole_takes snapshot_exact bytes w.0 fits w.1 in
    let all = subst (λ (r : List ℕ). (i : ℕ) → get_or r i 0 < 256) t.0 fits in
    let behind = IsBytes-behind ((padded 63).text name) (inode ++ zeros 3832) (IsBytes-behind (little 8 order) ((padded 63).text name ++ (inode ++ zeros 3832)) all) in
    let n = bind_some (inode_in layout inode) _ v w.2 in
    let inode-is = inode_takes layout inode n.0 (IsBytes-front inode (zeros 3832) behind) n.1 in
    let is = some_is _ v n.2 in
    (t.0 ∙ (λ j. snapshot_fields.text (order, (name, (inode-is.0 j, tt)))) ∙ ap snapshot_bytes is, ap (λ (s : Snapshot). s.inode_file.layout) (sym is) ∙ inode-is.1)

pub snapshot_again : (v : Snapshot) → IsSnapshot v → snapshot_in v.inode_file.layout (snapshot_bytes v) ≡ Some v
unfolding snapshot_in
snapshot_again v is =
    let read = whole_again snapshot_exact (v.order, (v.name, (inode_bytes v.inode_file, tt)))
    ((is.first, omega (arith, is.last)), (is.short, (length-inode v.inode_file is.inode_file.sizes is.inode_file.fits, tt))) in
    rw (read, inode_again v.inode_file is.inode_file) refl

-- the same where the layout is told
pub snapshot_read : (layout : Layout) (v : Snapshot) → IsSnapshot v → v.inode_file.layout ≡ layout → snapshot_in layout (snapshot_bytes v) ≡ Some v
snapshot_read layout v is of = subst (λ (l : Layout). snapshot_in l (snapshot_bytes v) ≡ Some v) of (snapshot_again v is)
