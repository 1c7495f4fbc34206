-- A point that is planned gives the new contents, and its map is exact.
use Rattle.std.proofs.Common.{◌≡◌, ◌≢◌, ◌⊎◌, inl, inr, ◌↔◌, ℕ, zero, suc, Bool, true, false, ◌<◌, ◌≤◌, refl, ap, sym, subst, ◌∙◌, arith}
use Rattle.std.proofs.Math.Path.{fun_ext}
use Rattle.std.proofs.lemmas.Bool.{cases_eq, cases_Bool}
use Rattle.std.proofs.lemmas.List.{get_or_past}
use Rattle.layout.specs.Limits.{Sizes}
use Rattle.layout.specs.Places.{Blocks, pointed}
use Rattle.layout.specs.Root.{IsRoot}
use Rattle.layout.specs.declared.inode.Inode.{Inode}
use Rattle.layout.specs.declared.pointer.Pointer.{Pointer}
use Rattle.layout.specs.declared.pointer.Pointer.TheVariants.{Hole, Block}
use Rattle.layout.specs.declared.root.Root.{Root}
use Rattle.layout.specs.declared.version.TheConstants.{SNAPSHOT_SLOTS}
use Rattle.images.specs.Nodes.{Held, held, Names, IsOnce, Agrees}
use Rattle.images.specs.Roots.{HeldTree, tree, inode_under, Reach, whole, Needs, active, frozen, head, slot, frozen_inode_file, frozen_at}
use Rattle.images.specs.BlockMap.{HasBit, entry, IsExact, HasFilesApart, NamesOnce, IsSystem, head as system_head}
use Rattle.images.specs.Contents.{Content, content_of, tree_contents}
use Rattle.images.specs.Points.{MarksPlane, IsPlannedOn, IsUnderNewRoot, IsBase, Slot, Frozen}
use Rattle.images.specs.Points as point
use Rattle.images.proofs.Frames.{held_same, tree_same, frozen_same, frozen_none}
use Rattle.layout.proofs.PointerLaws.{pointed_same}
use Rattle.images.proofs.EmptyLaws.{no_bit}

-- the tree of the new root
pub tree_is : (e : Blocks) (r : Root) (inode : ℕ → Inode) → ((n : ℕ) → inode_under (held e r.inode_file) r.geometry.inodes n ≡ inode n)
    → tree e r.geometry.inodes r.inode_file ≡ (λ n. held e (inode n))
unfolding tree
tree_is e r inode is = fun_ext (λ n. ap (held e) (is n))

-- the active plane
active_exact : (changed : ℕ → Bool) (old : HeldTree) (plane : ℕ) (new : HeldTree) (before after : ℕ → ℕ) → HasFilesApart old
    → ((n : ℕ) → changed n ≡ false → new n ≡ old n)
    → MarksPlane changed old plane new before after
    → ((b : ℕ) → HasBit plane (before b) ↔ Reach old b) → (b : ℕ) → HasBit 0 (after b) ↔ Reach new b
active_exact changed old plane new before after apart stays marks exact b = (
  λ has. elim ((marks b).0 has) [
    | inl kept ↦ still ((exact b).0 kept.0) kept.1
    | inr comes ↦ record { file = comes.0; names = comes.2 }
  ],
  λ reach. (marks b).1 (elim (cases_Bool (changed reach.file)) [
    | inl yes_it ↦ inr (reach.file, yes_it, reach.names)
    | inr no_it ↦
        let was : Names (old reach.file) b = subst (λ h. Names h b) (stays reach.file no_it) reach.names in
        inl ((exact b).1 (record { file = reach.file; names = was }), λ n is names. differ (changed n) (changed reach.file) is no_it (ap changed (apart n reach.file b names was)))
  ]),
)
  where
    differ : (s t : Bool) → s ≡ true → t ≡ false → s ≡ t → ⊥
    differ s t p q same = absurd (cc)

    still : Reach old b → ((n : ℕ) → changed n ≡ true → Names (old n) b → ⊥) → Reach new b
    still reach none = elim (cases_Bool (changed reach.file)) [
      | inl yes_it ↦ absurd (none reach.file yes_it reach.names)
      | inr no_it ↦ record { file = reach.file; names = subst (λ h. Names h b) (sym (stays reach.file no_it)) reach.names }
    ]

-- the new tree's blocks belong to one file each
stays_apart : (old new : HeldTree) (taken : ℕ → ℕ → Bool) → HasFilesApart old
    → ((n b : ℕ) → Names (new n) b → Names (old n) b ⊎ (taken n b ≡ true))
    → ((n b : ℕ) → taken n b ≡ true → Reach old b → ⊥)
    → ((n m b : ℕ) → taken n b ≡ true → taken m b ≡ true → n ≡ m)
    → HasFilesApart new
stays_apart old new taken apart comes fresh once n m b here there =
    elim (comes n b here) [
      | inl was ↦ elim (comes m b there) [
        | inl was_too ↦ apart n m b was was_too
        | inr came ↦ absurd (fresh m b came (record { file = n; names = was }))
      ]
      | inr came ↦ elim (comes m b there) [
        | inl was ↦ absurd (fresh n b came (record { file = m; names = was }))
        | inr came_too ↦ once n m b came came_too
      ]
    ]

-- a file that isn't changed
pub stays_held : (d e : Blocks) (r : Root) (t : HeldTree) (plane n : ℕ) (f : Inode) → IsBase d r t plane → Agrees (Needs r (whole d r)) d e → f ≡ (t n).inode → held e f ≡ t n
stays_held d e r t plane n f base same is =
    ap (held e) is
    ∙ held_same d e (t n).inode (λ b names. same b (base.needed b (record { file = n; names = subst (λ h. Names h b) (sym (base.read n)) names })))
    ∙ sym (base.read n)

-- the active tree is a base
pub active_base : (d : Blocks) (r : Root) → IsExact r (whole d r) → NamesOnce (whole d r).active → IsBase d r (whole d r).active 0
unfolding whole tree held
active_base d r exact once = record { exact = exact.active; once = once; needed = λ b names. active names; read = λ n. refl }

pub frozen_read : (d : Blocks) (s : Sizes) (p : Pointer) (n : ℕ) → frozen_at d s p n ≡ held d (frozen_at d s p n).inode
unfolding tree held
frozen_read d s Hole n = refl
frozen_read d s (Block b) n = refl

-- and so is the tree of a snapshot
pub frozen_base : (d : Blocks) (r : Root) (k : ℕ) → 1 ≤ k → k ≢ 31 → IsExact r (whole d r) → NamesOnce ((whole d r).frozen k) → IsBase d r ((whole d r).frozen k) k
unfolding whole
frozen_base d r k low other exact once =
    record { exact = λ b. exact.frozen b k low other; once = once; needed = λ b names. frozen k names; read = frozen_read d r.geometry (slot r k) }

-- ---- snapshots

-- one that stays
pub frozen_stays : (d e : Blocks) (r new : Root) (k : ℕ) → Agrees (Needs r (whole d r)) d e → new.geometry ≡ r.geometry → slot new k ≡ slot r k
    → ((whole e new).frozen k ≡ (whole d r).frozen k) × ((whole e new).head k ≡ (whole d r).head k)
unfolding whole
frozen_stays d e r new k same geometry there = (
  ap (λ (g : Sizes). frozen_at e g (slot new k)) geometry ∙ ap (frozen_at e r.geometry) there
      ∙ frozen_same d e r.geometry (slot r k) (λ b is. same b (head k is)) (λ b names. same b (frozen k names)),
  ap (pointed e) there ∙ pointed_same d e (slot r k) (λ b is. same b (head k is)),
)

-- one that is taken
pub frozen_takes : (d e : Blocks) (r new : Root) (k block : ℕ) → Agrees (Needs r (whole d r)) d e → new.geometry ≡ r.geometry → slot new k ≡ Block block
    → frozen_inode_file r.geometry.layout (e block) ≡ r.inode_file → (whole e new).frozen k ≡ (whole d r).active
unfolding whole
frozen_takes d e r new k block same geometry there is =
    ap (λ (g : Sizes). frozen_at e g (slot new k)) geometry ∙ ap (frozen_at e r.geometry) there ∙ ap (tree e r.geometry.inodes) is
    ∙ tree_same d e r.geometry.inodes r.inode_file (λ b names. same b (active names))

-- one that is deleted
pub frozen_drops : (e : Blocks) (new : Root) (k b : ℕ) → slot new k ≡ Hole → Reach ((whole e new).frozen k) b → ⊥
unfolding whole
frozen_drops e new k b none names = frozen_none e new.geometry b (subst (λ p. Reach (frozen_at e new.geometry p) b) none names)

-- a slot's tree and plane
slot_frozen : (d e : Blocks) (r new : Root) (before after : ℕ → ℕ) (k : ℕ) → Agrees (Needs r (whole d r)) d e → new.geometry ≡ r.geometry → Slot e r new before after k
    → Frozen r new (whole d r) (whole e new) k
slot_frozen d e r new before after k same geometry (point.Slot.stays there plane) = let is = frozen_stays d e r new k same geometry there in point.Frozen.stays there is.0 is.1
slot_frozen d e r new before after k same geometry (point.Slot.takes block there free root_is plane) = point.Frozen.takes (frozen_takes d e r new k block same geometry there root_is)
slot_frozen d e r new before after k same geometry (point.Slot.drops none plane) = point.Frozen.drops none

slot_plane : (d e : Blocks) (r new : Root) (before after : ℕ → ℕ) (k : ℕ) → Agrees (Needs r (whole d r)) d e → new.geometry ≡ r.geometry
    → ((b : ℕ) → HasBit 0 (before b) ↔ Reach (whole d r).active b) → ((b : ℕ) → HasBit k (before b) ↔ Reach ((whole d r).frozen k) b)
    → Slot e r new before after k → (b : ℕ) → HasBit k (after b) ↔ Reach ((whole e new).frozen k) b
slot_plane d e r new before after k same geometry zero_is k_is (point.Slot.stays there plane) b =
    subst (λ t. HasBit k (after b) ↔ Reach t b) (sym (frozen_stays d e r new k same geometry there).0) (λ has. (k_is b).0 ((plane b).0 has), λ names. (plane b).1 ((k_is b).1 names))
slot_plane d e r new before after k same geometry zero_is k_is (point.Slot.takes block there free root_is plane) b =
    subst (λ t. HasBit k (after b) ↔ Reach t b) (sym (frozen_takes d e r new k block same geometry there root_is)) (λ has. (zero_is b).0 ((plane b).0 has), λ names. (plane b).1 ((zero_is b).1 names))
slot_plane d e r new before after k same geometry zero_is k_is (point.Slot.drops none plane) b =
    (λ has. absurd (plane b has), λ names. absurd (frozen_drops e new k b none names))

-- a slot past the last one is free
pub no_slot : (r : Root) (k : ℕ) → IsRoot r → SNAPSHOT_SLOTS < k → slot r k ≡ Hole
no_slot r zero root past = absurd (omega arith)
no_slot r (suc k) root past = get_or_past r.snapshots k Hole (omega (arith, root.slots))

-- a free block is none that the root needs
pub free_is_free : (d : Blocks) (r : Root) (b : ℕ) → IsRoot r → IsExact r (whole d r) → entry (whole d r).active b ≡ 0 → Needs r (whole d r) b → ⊥
unfolding whole
free_is_free d r b root exact free (active names) = no_bit 0 _ free ((exact.active b).1 names)
free_is_free d r b root exact free (head k is) = no_bit 31 _ free ((exact.system b).1 (system_head k is))
free_is_free d r b root exact free (frozen zero names) = frozen_none d r.geometry b names
free_is_free d r b root exact free (frozen (suc k) names) = elim (cases_eq (suc k) 31) [
  | inl is ↦ frozen_none d r.geometry b (subst (λ p. Reach (frozen_at d r.geometry p) b) (no_slot r (suc k) root (omega arith)) names)
  | inr other ↦ no_bit (suc k) _ free ((exact.frozen b (suc k) (omega arith) other).1 names)
]

-- each node of a file stands where it stood, or in a taken block
pub moved : (d e : Blocks) (r new : Root) (t : HeldTree) (plane : ℕ) (files : ℕ → Content) → IsBase d r t plane → Agrees (Needs r (whole d r)) d e
    → (plan : IsPlannedOn (whole d r) t plane r e new files) → (n m i b : ℕ) → (held e (plan.inode n)).place m i ≡ Block b
    → ((t n).place m i ≡ Block b) ⊎ (plan.taken n b ≡ true)
moved d e r new t plane files base same plan n m i b is = elim (cases_Bool (plan.changed n)) [
  | inl yes_it ↦ plan.moves n m i b yes_it is
  | inr no_it ↦ inl (subst (λ (h : Held). h.place m i ≡ Block b) (stays_held d e r t plane n (plan.inode n) base same (plan.stays n no_it)) is)
]

-- The point's theorem: on any disk that has the planned blocks and the old root's.
pub point_stands : (d e : Blocks) (r new : Root) (t : HeldTree) (plane : ℕ) (files : ℕ → Content) → IsRoot r → IsExact r (whole d r) → IsBase d r t plane
    → Agrees (Needs r (whole d r)) d e → IsPlannedOn (whole d r) t plane r e new files → IsUnderNewRoot r new (whole d r) (whole e new) files
unfolding whole
point_stands d e r new t plane files root exact base same plan =
    let active_is : (whole e new).active ≡ (λ n. held e (plan.inode n)) = tree_is e new plan.inode plan.inodes in
    let after : ℕ → ℕ = entry (λ n. held e (plan.inode n)) in
    let after_is : (b : ℕ) → entry (whole e new).active b ≡ after b = λ b. ap (λ t. entry t b) active_is in
    let apart : HasFilesApart (λ n. held e (plan.inode n)) = stays_apart t _ plan.taken base.once.apart comes
    (λ n b came reach. free_is_free d r b root exact (plan.free n b came) (base.needed b reach)) plan.once in
    record {
      content = λ n ordinary. ap (λ t. tree_contents t n) active_is ∙ elim (cases_Bool (plan.changed n)) [
        | inl yes_it ↦ plan.content n ordinary yes_it
        | inr no_it ↦ ap content_of (stays n no_it) ∙ sym (plan.same n ordinary no_it)
      ];
      frozen = λ k low other. slot_frozen d e r new _ _ k same plan.geometry (plan.slots k low other);
      once = subst NamesOnce (sym active_is) (record { apart = apart; each = each });
      exact = record {
        active = λ b. subst (λ t. HasBit 0 (entry t b) ↔ Reach t b) (sym active_is)
            (active_exact plan.changed t plane (λ n. held e (plan.inode n)) (entry (whole d r).active) after base.once.apart stays plan.marks base.exact b);
        frozen = λ b k low other. subst (λ x. HasBit k x ↔ Reach ((whole e new).frozen k) b) (sym (after_is b))
            (slot_plane d e r new (entry (whole d r).active) after k same plan.geometry exact.active (λ b. exact.frozen b k low other) (plan.slots k low other) b);
        system = λ b. subst (λ x. HasBit 31 x ↔ IsSystem new b) (sym (after_is b)) (plan.system b);
      };
    }
  where
    stays : (n : ℕ) → plan.changed n ≡ false → held e (plan.inode n) ≡ t n
    stays n no_it = stays_held d e r t plane n (plan.inode n) base same (plan.stays n no_it)

    comes : (n b : ℕ) → Names (held e (plan.inode n)) b → Names (t n) b ⊎ (plan.taken n b ≡ true)
    comes n b names = elim (moved d e r new t plane files base same plan n names.height names.index b names.is) [
      | inl was ↦ inl (record { height = names.height; index = names.index; is = was })
      | inr is ↦ inr is
    ]

    each : (n : ℕ) → IsOnce (held e (plan.inode n))
    each n = elim (cases_Bool (plan.changed n)) [
      | inl yes_it ↦ plan.each n yes_it
      | inr no_it ↦ subst IsOnce (sym (stays n no_it)) (base.once.each n)
    ]
