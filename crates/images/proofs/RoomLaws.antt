-- What a consistency point leaves free.
use Rattle.std.proofs.Common.{◌≡◌, ◌≢◌, ◌⊎◌, inl, inr, ℕ, zero, suc, true, ◌+◌, ◌<◌, ◌≤◌, refl, ap, sym, subst, ◌∙◌, arith}
use Rattle.std.specs.Prelude.{min}
use Rattle.std.specs.Int.{bit_at}
use Rattle.std.proofs.lemmas.Bool.{cases_eq, cases_lt}
use Rattle.layout.specs.Places.{Blocks, follow}
use Rattle.layout.specs.Root.{IsRoot}
use Rattle.layout.specs.Trees.{level_of}
use Rattle.layout.specs.declared.pointer.Pointer.TheVariants.{Block}
use Rattle.layout.specs.declared.root.Root.{Root}
use Rattle.layout.proofs.PointerLaws.{block_same, follow_same, hole_block}
use Rattle.images.specs.Nodes.{Agrees, Held, Names, held}
use Rattle.images.specs.Roots.{HeldTree, Needs, Reach, active, frozen, head, slot, whole}
use Rattle.images.specs.BlockMap.{HasBit, IsSystem, entry, roots, head as system_head}
use Rattle.images.specs.Contents.{Content}
use Rattle.images.specs.Points.{IsBase, IsPlannedOn, IsUnderNewRoot, IsSoundPlan, Slot}
use Rattle.images.specs.Points as point
use Rattle.images.specs.Room.{IsNewHead, IsOwn, KeepsOwn, SharesBase, StoresOwn, TakesBelow, TakesFirst, first, free_at, free_under, map, restores, takes}
use Rattle.images.specs.Soundness.{HasNoHole, IsSoundFile, IsSoundTree}
use Rattle.images.specs.States.{IsSound}
use Rattle.images.proofs.BehindLaws.{needed_behind}
use Rattle.images.proofs.EmptyLaws.{no_bit}
use Rattle.images.proofs.HoldLaws.{active_tree, sound_tree}
use Rattle.images.proofs.OverlayLaws.{first_up}
use Rattle.images.proofs.PointLaws.{active_base, free_is_free, frozen_drops, frozen_stays, frozen_takes, moved, no_slot, point_stands}
use Rattle.images.proofs.ReadingLaws.{none_above}
use Rattle.images.proofs.SpanLaws.{stands_first}
use Rattle.images.proofs.SumLaws.{leads_back}
use Rattle.images.proofs.OwnLaws.{Leads, bits_zero, first_stored, free_is, free_one, is_free, leads_alone, map_whole, top_is, top_size, node, over, stays}

module _ (d e : Blocks) (r new : Root) (t : HeldTree) (plane : ℕ) (files : ℕ → Content) (root : IsRoot r) (new_root : IsRoot new) (sound : IsSound r (whole d r))
    (base : IsBase d r t plane) (same : Agrees (Needs r (whole d r)) d e) (plan : IsPlannedOn (whole d r) t plane r e new files) where
  settled : IsUnderNewRoot r new (whole d r) (whole e new) files
  settled = point_stands d e r new t plane files root sound.exact base same plan

  new_tree : (whole e new).active ≡ (λ n. held e (plan.inode n))
  new_tree = active_tree e new plan.inode plan.inodes

  was_free : (n b : ℕ) → plan.taken n b ≡ true → Needs r (whole d r) b → ⊥
  was_free n b is = free_is_free d r b root sound.exact (plan.free n b is)

  moves : (n m i b : ℕ) → (held e (plan.inode n)).place m i ≡ Block b → ((t n).place m i ≡ Block b) ⊎ (plan.taken n b ≡ true)
  moves = moved d e r new t plane files base same plan

  comes : (n b : ℕ) → Names (held e (plan.inode n)) b → Names (t n) b ⊎ (plan.taken n b ≡ true)
  comes n b names = elim (moves n names.height names.index b names.is) [
    | inl was ↦ inl (record { height = names.height; index = names.index; is = was })
    | inr is ↦ inr is
  ]

  -- ---- what the new root needs beside its tree

  slot_frozen_was : (k b : ℕ) → Slot e r new (entry (whole d r).active) (entry (λ n. held e (plan.inode n))) k → Reach ((whole e new).frozen k) b
      → Reach ((whole d r).frozen k) b ⊎ ((block : ℕ) × IsNewHead r new k block × Reach (whole d r).active b)
  slot_frozen_was k b (point.Slot.stays there plane) reach = inl (subst (λ t. Reach t b) (frozen_stays d e r new k same plan.geometry there).0 reach)
  slot_frozen_was k b (point.Slot.takes block there free root_is plane) reach =
      inr (block, (there, λ is. free_is_free d r block root sound.exact free (head k is)), subst (λ t. Reach t b) (frozen_takes d e r new k block same plan.geometry there root_is) reach)
  slot_frozen_was k b (point.Slot.drops none plane) reach = absurd (frozen_drops e new k b none reach)

  frozen_was : (k b : ℕ) → Reach ((whole e new).frozen k) b
      → Reach ((whole d r).frozen k) b ⊎ ((block : ℕ) × IsNewHead r new k block × Reach (whole d r).active b)
  frozen_was zero b reach = absurd (frozen_drops e new 0 b refl reach)
  frozen_was (suc k) b reach = elim (cases_eq (suc k) 31) [
    | inl is ↦ absurd (frozen_drops e new (suc k) b (no_slot new (suc k) new_root (omega arith)) reach)
    | inr other ↦ slot_frozen_was (suc k) b (plan.slots (suc k) (omega arith) other) reach
  ]

  slot_head_was : (k b : ℕ) → Slot e r new (entry (whole d r).active) (entry (λ n. held e (plan.inode n))) k → slot new k ≡ Block b
      → (slot r k ≡ Block b) ⊎ (IsNewHead r new k b × (entry (whole d r).active b ≡ 0))
  slot_head_was k b (point.Slot.stays there plane) is = inl (sym there ∙ is)
  slot_head_was k b (point.Slot.takes block there free root_is plane) is =
      let at : block ≡ b = block_same block b (sym there ∙ is) in
      let here : entry (whole d r).active b ≡ 0 = subst (λ (b : ℕ). entry (whole d r).active b ≡ 0) at free in
      inr ((is, λ was. free_is_free d r b root sound.exact here (head k was)), here)
  slot_head_was k b (point.Slot.drops none plane) is = hole_block (sym none ∙ is)

  head_was : (k b : ℕ) → slot new k ≡ Block b → (slot r k ≡ Block b) ⊎ (IsNewHead r new k b × (entry (whole d r).active b ≡ 0))
  head_was zero b is = hole_block is
  head_was (suc k) b is = elim (cases_eq (suc k) 31) [
    | inl at ↦ hole_block (sym (no_slot new (suc k) new_root (omega arith)) ∙ is)
    | inr other ↦ slot_head_was (suc k) b (plan.slots (suc k) (omega arith) other) is
  ]

  -- what it doesn't need is free
  unneeded_free : (b : ℕ) → 2 ≤ b → (Needs new (whole e new) b → ⊥) → entry (whole e new).active b ≡ 0
  unneeded_free b behind none = bits_zero (entry (whole e new).active b) (entry (whole e new).active b) (omega arith) no_bit_k
    where
      system_none : IsSystem new b → ⊥
      system_none (roots low) = omega (arith, low, behind)
      system_none (system_head k is) = none (head k is)

      no_bit_k : (k : ℕ) → HasBit k (entry (whole e new).active b) → ⊥
      no_bit_k k has = elim (cases_eq k 0) [
        | inl first_k ↦ none (active ((settled.exact.active b).0 (subst (λ (k : ℕ). HasBit k (entry (whole e new).active b)) first_k has)))
        | inr some ↦ elim (cases_eq k 31) [
          | inl last ↦ system_none ((settled.exact.system b).0 (subst (λ (k : ℕ). HasBit k (entry (whole e new).active b)) last has))
          | inr other ↦ none (frozen k ((settled.exact.frozen b k (omega (arith, some)) other).0 has))
        ]
      ]

  free_behind : (b : ℕ) → entry (whole d r).active b ≡ 0 → 2 ≤ b
  free_behind b free = elim (cases_lt b 2) [
    | inl low ↦ absurd (no_bit 31 _ free ((sound.exact.system b).1 (roots low)))
    | inr ge ↦ ge
  ]

  -- where all that is taken comes before a block, only what is free before that is spent
  pub all_below : (mid : ℕ) → TakesBelow mid (λ n. Unit {0}) r new plan.taken
      → free_under (whole d r).active r.geometry.blocks ≤ free_under (whole e new).active r.geometry.blocks + free_under (whole d r).active (min mid r.geometry.blocks)
  all_below mid below =
      let count = leads_back (free_at (whole d r).active) (free_at (whole e new).active) (min mid r.geometry.blocks) r.geometry.blocks 0 (λ x y. x ≡ y)
      (free_one (whole d r).active) (λ x z y p q. p ∙ sym q) leads (λ k lt. absurd (omega (arith, lt))) in
      omega (arith, count)
    where
      still : (b : ℕ) → mid ≤ b → entry (whole d r).active b ≡ 0 → Needs new (whole e new) b → ⊥
      still b late free (active names) =
          let reach = subst (λ t. Reach t b) new_tree names in
          elim (comes reach.file b reach.names) [
            | inl was ↦ free_is_free d r b root sound.exact free (base.needed b (record { file = reach.file; names = was }))
            | inr is ↦ omega (arith, late, below.files reach.file b tt is)
          ]
      still b late free (frozen k names) = elim (frozen_was k b names) [
        | inl was ↦ free_is_free d r b root sound.exact free (frozen k was)
        | inr shares ↦ free_is_free d r b root sound.exact free (active shares.2)
      ]
      still b late free (head k is) = elim (head_was k b is) [
        | inl was ↦ free_is_free d r b root sound.exact free (head k was)
        | inr shares ↦ omega (arith, late, below.heads k b shares.0)
      ]

      leads : (x : ℕ) → x < r.geometry.blocks → min mid r.geometry.blocks ≤ x → free_at (whole d r).active x ≡ 1
          → (y : ℕ) × (y < r.geometry.blocks) × (free_at (whole e new).active y ≡ 1) × (x ≡ y)
      leads x lt late one =
          let free = free_is (whole d r).active x one in
          (x, lt, is_free (whole e new).active x (unneeded_free x (free_behind x free) (still x (omega (arith, late, lt)) free)), refl)

  module _ (old : IsSoundTree r.geometry t) (good : IsSoundPlan r.geometry e plan.inode plan.changed) where
    -- a node over the inode file's first block moved with it
    level_is : level_of (plan.inode 0).layout (plan.inode 0).size ≡ level_of (t 0).inode.layout (t 0).inode.size
    unfolding held
    level_is =
        let now = sound_tree d e r new t plane files root sound base old same plan good in
        let layout : (plan.inode 0).layout ≡ (t 0).inode.layout = (now.files 0).inode.layout ∙ sym (old.files 0).inode.layout in
        let size : (plan.inode 0).size ≡ (t 0).inode.size = top_size (plan.inode 0).kind r.geometry (plan.inode 0).attributes (plan.inode 0).links (plan.inode 0).size (now.kinds 0) (now.files 0).inode.kind
        ∙ sym (top_size (t 0).inode.kind r.geometry (t 0).inode.attributes (t 0).inode.links (t 0).inode.size (old.kinds 0) (old.files 0).inode.kind) in
        λ i. level_of (layout i) (size i)

    agree_down : (k : ℕ) → k < level_of (t 0).inode.layout (t 0).inode.size → (held e (plan.inode 0)).place k 0 ≡ (t 0).place k 0
        → (held e (plan.inode 0)).place 0 0 ≡ (t 0).place 0 0
    agree_down zero lt at = at
    agree_down (suc k) lt at =
        let top = base.read 0 in
        let needed : (b : ℕ) → (held d (t 0).inode).place (suc k) 0 ≡ Block b → e b ≡ d b = λ b is.
        same b (base.needed b (record { file = 0; names = record { height = suc k; index = 0; is = ap (λ (h : Held). h.place (suc k) 0) top ∙ is } })) in
        agree_down k (omega (arith, lt))
        (first_up e (plan.inode 0) k (omega (arith, lt, level_is))
        ∙ ap (λ p. follow e p 0) (at ∙ ap (λ (h : Held). h.place (suc k) 0) top)
        ∙ follow_same d e ((held d (t 0).inode).place (suc k) 0) 0 needed
        ∙ sym (first_up d (t 0).inode k lt) ∙ sym (ap (λ (h : Held). h.place k 0) top))

    lowest : (k : ℕ) → k < level_of (t 0).inode.layout (t 0).inode.size → (b : ℕ) × ((t 0).place 0 0 ≡ Block b)
    lowest k lt =
        let top = base.read 0 in
        let some = first_stored d r.geometry t (t 0).inode root.head.sizes top old (omega (arith, lt)) in
        let found = stands_first d (t 0).inode 0 (omega (arith, lt)) some in
        (found.0, ap (λ (h : Held). h.place 0 0) top ∙ found.1)

    -- such a node stands in a taken block where block 0 does
    first_taken : TakesFirst (λ n. held e (plan.inode n)) plan.taken → (k b : ℕ) → (held e (plan.inode 0)).place k 0 ≡ Block b → plan.taken 0 b ≡ true
    first_taken firsts k b is = elim (moves 0 k 0 b is) [
      | inr taken ↦ taken
      | inl was ↦ elim (cases_lt k (level_of (t 0).inode.layout (t 0).inode.size)) [
        | inr above ↦ hole_block (sym (none_above d (t 0).inode k 0 above) ∙ sym (ap (λ (h : Held). h.place k 0) (base.read 0)) ∙ was)
        | inl lt ↦
            let low = lowest k lt in
            absurd (was_free 0 low.0 (firsts low.0 (agree_down k lt (is ∙ sym was) ∙ low.1))
            (base.needed low.0 (record { file = 0; names = record { height = 0; index = 0; is = low.1 } })))
      ]
    ]

  own_was : (b : ℕ) → IsOwn (λ n. held e (plan.inode n)) b → IsOwn t b ⊎ ((n : ℕ) × (plan.taken n b ≡ true))
  own_was b (map names) = elim (moves 2 names.height names.index b names.is) [
    | inl was ↦ inl (map (record { height = names.height; index = names.index; is = was }))
    | inr is ↦ inr (2, is)
  ]
  own_was b (first height there) = elim (moves 0 height 0 b there) [
    | inl was ↦ inl (first height was)
    | inr is ↦ inr (0, is)
  ]

  own_needed : (b : ℕ) → IsOwn t b → Needs r (whole d r) b
  own_needed b (map names) = base.needed b (record { file = 2; names = names })
  own_needed b (first height there) = base.needed b (record { file = 0; names = record { height = height; index = 0; is = there } })

  -- no snapshot shares what the point stores of them
  pub keeps_own : IsSoundTree r.geometry t → (plane ≢ 0) ⊎ (t ≡ (whole d r).active) → IsSoundPlan r.geometry e plan.inode plan.changed
      → StoresOwn plane (λ n. held e (plan.inode n)) r new plan.taken → KeepsOwn new (whole e new)
  keeps_own old which good stores = record {
    frozen = λ k b own reach. elim (frozen_was k b reach) [
      | inl was ↦ elim (settled_or_taken b own) [
        | inl own_old ↦ sound.own.frozen k b own_old was
        | inr is ↦ was_free is.0 b is.1 (frozen k was)
      ]
      | inr shares ↦ (let is = anew (takes k shares.0 shares.1) b (own_now b own) in was_free is.0 b is.1 (active shares.2))
    ];
    head = λ k b own is. elim (head_was k b is) [
      | inl was ↦ elim (settled_or_taken b own) [
        | inl own_old ↦ sound.own.head k b own_old was
        | inr taken ↦ was_free taken.0 b taken.1 (head k was)
      ]
      | inr came ↦ elim (own_was b (own_now b own)) [
        | inl own_old ↦ free_is_free d r b root sound.exact came.1 (own_needed b own_old)
        | inr taken ↦ stores.heads taken.0 k b came.0 taken.1
      ]
    ];
  }
    where
      anew : SharesBase r new plane → (b : ℕ) → IsOwn (λ n. held e (plan.inode n)) b → (n : ℕ) × (plan.taken n b ≡ true)
      anew shares b (map names) = (2, stores.map b shares names)
      anew shares b (first height there) = (0, first_taken old good (stores.first shares) height b there)

      own_now : (b : ℕ) → IsOwn (whole e new).active b → IsOwn (λ n. held e (plan.inode n)) b
      own_now b own = subst (λ u. IsOwn u b) new_tree own

      -- from another tree than the active one all of them are stored anew
      settled_or_taken : (b : ℕ) → IsOwn (whole e new).active b → IsOwn (whole d r).active b ⊎ ((n : ℕ) × (plan.taken n b ≡ true))
      settled_or_taken b own = elim which [
        | inl other ↦ inr (anew (restores other) b (own_now b own))
        | inr same_tree ↦ elim (own_was b (own_now b own)) [
          | inl own_old ↦ inl (subst (λ u. IsOwn u b) same_tree own_old)
          | inr taken ↦ inr taken
        ]
      ]

  -- where it starts from the active tree, or from one that shares nothing of that, and no snapshot is taken
  module _ (old : IsSoundTree r.geometry t) (which : ((b : ℕ) → IsOwn (whole d r).active b → Reach t b → ⊥) ⊎ (t ≡ (whole d r).active))
      (none : (k b : ℕ) → IsNewHead r new k b → ⊥) where
    own_settled : (b : ℕ) → IsOwn (whole d r).active b → Needs r (whole d r) b
    own_settled b (map names) = active (record { file = 2; names = names })
    own_settled b (first height there) = active (record { file = 0; names = record { height = height; index = 0; is = there } })

    -- what it doesn't name any more of them is free
    gone : (b : ℕ) → IsOwn (whole d r).active b → (Reach (whole e new).active b → ⊥) → Needs new (whole e new) b → ⊥
    gone b own not (active names) = not names
    gone b own not (frozen k names) = elim (frozen_was k b names) [ inl was ↦ sound.own.frozen k b own was | inr shares ↦ none k shares.0 shares.1 ]
    gone b own not (head k is) = elim (head_was k b is) [ inl was ↦ sound.own.head k b own was | inr shares ↦ none k b shares.0 ]

    gone_node : (n m i o : ℕ) → IsOwn (whole d r).active o → ((whole d r).active n).place m i ≡ Block o → ((held e (plan.inode n)).place m i ≡ Block o → ⊥)
        → Reach (whole e new).active o → ⊥
    gone_node n m i o own is not reach =
        let now = subst (λ t. Reach t o) new_tree reach in
        let needs = own_settled o own in
        elim (comes now.file o now.names) [
          | inr taken ↦ was_free now.file o taken needs
          | inl was ↦ elim which [
            | inl apart ↦ apart o own (record { file = now.file; names = was })
            | inr is_active ↦
                let there = subst (λ (u : HeldTree). Names (u now.file) o) is_active was in
                let here : Names ((whole d r).active n) o = record { height = m; index = i; is = is } in
                let names = subst (λ (k : ℕ). Names (held e (plan.inode k)) o) (sound.active.once.apart now.file n o there here) now.names in
                elim (moves n names.height names.index o names.is) [
                  | inr taken ↦ was_free n o taken needs
                  | inl stood ↦
                      let one = sound.active.once.each n m i names.height names.index o is (subst (λ (u : HeldTree). (u n).place names.height names.index ≡ Block o) is_active stood) in
                      not (ap (λ h. (held e (plan.inode n)).place h i) one.0 ∙ ap ((held e (plan.inode n)).place names.height) one.1 ∙ names.is)
                ]
          ]
        ]

    -- such a block is one that leads to nothing else
    gives : (n m i o : ℕ) → IsOwn (whole d r).active o → ((whole d r).active n).place m i ≡ Block o → ((held e (plan.inode n)).place m i ≡ Block o → ⊥)
        → (o < r.geometry.blocks) × (free_at (whole e new).active o ≡ 1)
    gives n m i o own is not =
        let at = needed_behind d r root sound o (own_settled o own) in
        (at.1, is_free (whole e new).active o (unneeded_free o at.0 (gone o own (gone_node n m i o own is not))))

    module _ (good : IsSoundPlan r.geometry e plan.inode plan.changed) (mid : ℕ) (below : TakesBelow mid (λ n. n ≢ 2) r new plan.taken) (firsts : TakesFirst (λ n. held e (plan.inode n)) plan.taken) where
      abbrev Target : ℕ → Type 0
      Target x = (y : ℕ) × (y < r.geometry.blocks) × (free_at (whole e new).active y ≡ 1) × Leads (whole d r).active (λ n. held e (plan.inode n)) r.geometry.blocks x y

      -- a block that stays free leads to itself
      itself : (x : ℕ) → x < r.geometry.blocks → entry (whole d r).active x ≡ 0 → (Reach (whole e new).active x → ⊥) → Target x
      itself x lt free not = (x, lt, is_free (whole e new).active x (unneeded_free x (free_behind x free) still), stays refl free)
        where
          still : Needs new (whole e new) x → ⊥
          still (active names) = not names
          still (frozen k names) = elim (frozen_was k x names) [
            | inl was ↦ free_is_free d r x root sound.exact free (frozen k was)
            | inr shares ↦ none k shares.0 shares.1
          ]
          still (head k is) = elim (head_was k x is) [
            | inl was ↦ free_is_free d r x root sound.exact free (head k was)
            | inr shares ↦ none k x shares.0
          ]

      -- one that a node of the map has now leads to where the node stood
      back : (x m i : ℕ) → entry (whole d r).active x ≡ 0 → (held e (plan.inode 2)).place m i ≡ Block x → Target x
      unfolding held
      back x m i free is =
          let read = (active_base d r sound.exact sound.active.once).read 2 in
          let now = sound_tree d e r new t plane files root sound base old same plan good in
          let found = map_whole r.geometry d e ((whole d r).active 2).inode (plan.inode 2) (subst (IsSoundFile r.geometry) read (sound.active.files 2)) (now.files 2)
          (sound.active.kinds 2) (now.kinds 2) (subst HasNoHole read sound.active.block_map) m i x is in
          let there : ((whole d r).active 2).place m i ≡ Block found.0 = ap (λ (h : Held). h.place m i) read ∙ found.1 in
          let own : IsOwn (whole d r).active found.0 = map (record { height = m; index = i; is = there }) in
          let given = gives 2 m i found.0 own there (λ at.
          let one : found.0 ≡ x = block_same found.0 x (sym at ∙ is) in
          free_is_free d r x root sound.exact free (subst (Needs r (whole d r)) one (own_settled found.0 own))) in
          (found.0, given.0, given.1, node m i is there)

      leads : (x : ℕ) → x < r.geometry.blocks → min mid r.geometry.blocks ≤ x → free_at (whole d r).active x ≡ 1 → Target x
      leads x lt late one =
          let free = free_is (whole d r).active x one in
          elim (cases_eq (bit_at (entry (whole e new).active x) 0) 1) [
            | inr no_bit_there ↦ itself x lt free (λ reach. no_bit_there ((settled.exact.active x).1 reach))
            | inl has ↦
                let reach = subst (λ t. Reach t x) new_tree ((settled.exact.active x).0 has) in
                elim (comes reach.file x reach.names) [
                  | inl was ↦ absurd (free_is_free d r x root sound.exact free (base.needed x (record { file = reach.file; names = was })))
                  | inr taken ↦ elim (cases_eq reach.file 2) [
                    | inr other ↦ absurd (omega (arith, late, lt, below.files reach.file x other taken))
                    | inl is ↦ (let names = subst (λ (k : ℕ). Names (held e (plan.inode k)) x) is reach.names in back x names.height names.index free names.is)
                  ]
                ]
          ]

      beyond : (k : ℕ) → k < level_of r.inode_file.layout r.inode_file.size → Target (r.geometry.blocks + k)
      beyond k lt =
          let top = top_is d r in
          let some = first_stored d r.geometry (whole d r).active r.inode_file root.head.sizes top sound.active (omega (arith, lt)) in
          let found = stands_first d r.inode_file k lt some in
          let there : ((whole d r).active 0).place k 0 ≡ Block found.0 = ap (λ (h : Held). h.place k 0) top ∙ found.1 in
          let own : IsOwn (whole d r).active found.0 = first k there in
          let given = gives 0 k 0 found.0 own there (λ at. was_free 0 found.0 (first_taken old good firsts k found.0 at) (own_settled found.0 own)) in
          (found.0, given.0, given.1, over k refl there)

      pub but_own : free_under (whole d r).active r.geometry.blocks + level_of r.inode_file.layout r.inode_file.size
          ≤ free_under (whole e new).active r.geometry.blocks + free_under (whole d r).active (min mid r.geometry.blocks)
      but_own = leads_back (free_at (whole d r).active) (free_at (whole e new).active) (min mid r.geometry.blocks) r.geometry.blocks (level_of r.inode_file.layout r.inode_file.size)
          (Leads (whole d r).active (λ n. held e (plan.inode n)) r.geometry.blocks) (free_one (whole d r).active)
          (leads_alone (whole d r).active (λ n. held e (plan.inode n)) r.geometry.blocks sound.active.once (λ b reach free. free_is_free d r b root sound.exact free (active reach)))
          leads beyond
