-- What a tree in its grammar names stands behind the two roots.
use Rattle.std.proofs.Common.{◌≡◌, inl, inr, ℕ, zero, suc, ◌/◌, ◌%◌, List, length, get_or, [], All, refl, ap, sym, subst, ◌∙◌, arith}
use Rattle.std.specs.Prelude.{slice_index_or}
use Rattle.std.proofs.lemmas.Bool.{cases_lt, cases_eq}
use Rattle.std.proofs.lemmas.List.{get_or_past}
use Rattle.layout.proofs.FanLaws.{pointer_low}
use Rattle.layout.specs.Inode.{FitsBody}
use Rattle.layout.specs.Limits.{Sizes}
use Rattle.layout.specs.Maps.{indirect_pointer}
use Rattle.layout.specs.Places.{Blocks, follow, pointed}
use Rattle.layout.specs.Pointer.{PointsBelow}
use Rattle.layout.specs.Root.{IsRoot}
use Rattle.layout.specs.Trees.{fan_out, level_of}
use Rattle.layout.specs.declared.inode.Body.{Body}
use Rattle.layout.specs.declared.inode.Body.TheVariants.{Inline, Pointers}
use Rattle.layout.specs.declared.inode.Inode.{Inode}
use Rattle.layout.specs.declared.pointer.Pointer.{Pointer}
use Rattle.layout.specs.declared.pointer.Pointer.TheVariants.{Hole, Block}
use Rattle.layout.specs.declared.root.Root.{Root}
use Rattle.layout.specs.declared.trees.Layout.{Layout}
use Rattle.images.specs.Nodes.{Held, held, place_at_height, pointers_of}
use Rattle.images.specs.Roots.{HeldTree, whole, Reach, Needs, active, frozen, head, slot, frozen_at}
use Rattle.images.specs.Soundness.{IsSoundFile, IsSoundTree}
use Rattle.images.specs.States.{IsSound}
use Rattle.images.specs.Cuts.{IsOfDisk}
use Rattle.images.proofs.Frames.{frozen_none}
use Rattle.images.proofs.PointLaws.{active_base, frozen_read}
use Rattle.images.proofs.OverlayLaws.{held_up}
use Rattle.images.proofs.ReadingLaws.{highest, none_above}

pointer_behind : (blocks b : ℕ) (p : Pointer) → PointsBelow blocks p → p ≡ Block b → IsOfDisk blocks b
pointer_behind blocks b p below is = subst (PointsBelow blocks) is below

in_pointers : (blocks b i : ℕ) (pointers : List Pointer) → All (PointsBelow blocks) pointers → slice_index_or pointers i Hole ≡ Block b → IsOfDisk blocks b
in_pointers blocks b i pointers below is = elim (cases_lt i (length pointers)) [
  | inl lt ↦ pointer_behind blocks b (get_or pointers i Hole) (below i Hole lt) is
  | inr ge ↦ absurd (let e = sym (get_or_past pointers i Hole ge) ∙ is in cc)
]

in_body : (layout : Layout) (blocks size b i : ℕ) (body : Body) → FitsBody layout body blocks size → slice_index_or (pointers_of body) i Hole ≡ Block b → IsOfDisk blocks b
in_body layout blocks size b i (Inline bytes) fits is = absurd (let e = sym (get_or_past [] i Hole (omega arith)) ∙ is in cc)
in_body layout blocks size b i (Pointers pointers) fits is = in_pointers blocks b i pointers fits.2 is

module _ (s : Sizes) (d : Blocks) (f : Inode) (sound : IsSoundFile s (held d f)) where
  under : (m i b : ℕ) (p : Pointer) → (held d f).place (suc m) (i / fan_out f.layout) ≡ p → follow d p (i % fan_out f.layout) ≡ Block b → IsOfDisk s.blocks b
  unfolding held
  under m i b Hole is there = absurd (cc)
  under m i b (Block top) is there =
      let block = sound.indirect m (i / fan_out f.layout) top is in
      let at : pointed d (place_at_height d f (suc m) (i / fan_out f.layout)) ≡ d top = ap (pointed d) is in
      pointer_behind s.blocks b (indirect_pointer (d top) (i % fan_out f.layout))
      (subst (λ bytes. PointsBelow s.blocks (indirect_pointer bytes (i % fan_out f.layout))) at (block.within (i % fan_out f.layout) (pointer_low f.layout i)).0) there

  node_behind : (m i b : ℕ) → (held d f).place m i ≡ Block b → IsOfDisk s.blocks b
  unfolding held
  node_behind m i b there = elim (cases_lt m (level_of f.layout f.size)) [
    | inr ge ↦ absurd (let e = sym (none_above d f m i ge) ∙ there in cc)
    | inl lt ↦ elim (cases_eq (suc m) (level_of f.layout f.size)) [
      | inl top ↦ in_body f.layout s.blocks f.size b i f.body sound.inode.body (sym (highest d f m i (sym top)) ∙ there)
      | inr below ↦ under m i b ((held d f).place (suc m) (i / fan_out f.layout)) refl (sym (held_up d f m i (omega arith)) ∙ there)
    ]
  ]

tree_behind : (s : Sizes) (t : HeldTree) (d : Blocks) (b : ℕ) → IsSoundTree s t → ((n : ℕ) → t n ≡ held d (t n).inode) → Reach t b → IsOfDisk s.blocks b
tree_behind s t d b sound read reach =
    let n = reach.file in
    node_behind s d (t n).inode (subst (IsSoundFile s) (read n) (sound.files n)) reach.names.height reach.names.index b
    (ap (λ (h : Held). h.place reach.names.height reach.names.index) (sym (read n)) ∙ reach.names.is)

-- ---- what a root needs does too

module _ (d : Blocks) (r : Root) (root : IsRoot r) (sound : IsSound r (whole d r)) where
  frozen_behind : (k b : ℕ) (p : Pointer) → slot r k ≡ p → Reach (frozen_at d r.geometry p) b → IsOfDisk r.geometry.blocks b
  unfolding whole
  frozen_behind k b Hole is reach = absurd (frozen_none d r.geometry b reach)
  frozen_behind k b (Block top) is reach =
      tree_behind r.geometry (frozen_at d r.geometry (Block top)) d b
      (subst (λ p. IsSoundTree r.geometry (frozen_at d r.geometry p)) is (sound.frozen k top is))
      (frozen_read d r.geometry (Block top)) reach

  head_behind : (k b : ℕ) → slot r k ≡ Block b → IsOfDisk r.geometry.blocks b
  head_behind zero b is = absurd (cc)
  head_behind (suc k) b is = in_pointers r.geometry.blocks b k r.snapshots root.snapshots is

  pub needed_behind : (b : ℕ) → Needs r (whole d r) b → IsOfDisk r.geometry.blocks b
  unfolding whole
  needed_behind b (active names) = tree_behind r.geometry (whole d r).active d b sound.active (active_base d r sound.exact sound.active.once).read names
  needed_behind b (frozen k names) = frozen_behind k b (slot r k) refl names
  needed_behind b (head k is) = head_behind k b is
