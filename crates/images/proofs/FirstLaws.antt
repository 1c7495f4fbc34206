-- A root of an image that has nothing but an empty root directory holds just that.
use Rattle.layout.specs.Trees.{has_attributes}
use Rattle.std.proofs.Common.{◌≡◌, ◌≢◌, inl, inr, ◌↔◌, ℕ, zero, suc, ◌*◌, ◌<◌, ◌≤◌, List, [], None, refl, ap, sym, subst, ◌∙◌, arith}
use Rattle.std.proofs.Math.Path.{fun_ext}
use Rattle.std.proofs.lemmas.Bool.{cases_lt}
use Rattle.std.proofs.lemmas.List.Elements.{All-nil}
use Rattle.layout.proofs.LimitLaws.{limits_can_be}
use Rattle.layout.specs.StateLimits.{limits_of}
use Rattle.layout.specs.Inode.{IsInode, inode_bytes}
use Rattle.layout.specs.Limits.{Sizes, AreSizes}
use Rattle.layout.specs.Log.{LogHolds}
use Rattle.layout.specs.Opens.{IsNewest}
use Rattle.layout.specs.Places.{Blocks, blocks_of}
use Rattle.layout.specs.Record.{IsChange}
use Rattle.layout.specs.declared.TheConstants.{SLOT_A, SLOT_B}
use Rattle.layout.specs.declared.inode.Inode.{Inode}
use Rattle.layout.specs.declared.kind.Kind.{Kind}
use Rattle.layout.specs.declared.kind.Kind.TheVariants as kinds
use Rattle.layout.specs.declared.root.Root.{Root}
use Rattle.layout.specs.declared.trees.Layout.{Layout}
use Rattle.model.specs.States.{empty}
use Rattle.images.specs.Nodes.{held, Names, IsOnce}
use Rattle.images.specs.Roots.{HeldTree, Reach, free_inode, frozen_at, inode_under, slot, tree, whole}
use Rattle.images.specs.BlockMap.{HasBit, IsExact, IsSystem, NamesOnce, entry, roots, head}
use Rattle.images.specs.Contents.{Content, HoldsVolume, StandsAs, tree_contents}
use Rattle.images.specs.FirstRoots.{IsFirst, empty_directory, first_inodes, first_tree, root_alone_volume}
use Rattle.images.specs.Soundness.{FitsNumber, IsSoundFile, IsSoundTree, IsWithin, MapsNumbers}
use Rattle.images.specs.States.{Holds, OpensBy, HasReserve}
use Rattle.images.proofs.Frames.{frozen_none}
use Rattle.images.proofs.WithinLaws.{newest_within, root_plain}
use Rattle.images.proofs.SlotLaws.{no_snapshots, none_kept}
use Rattle.images.proofs.AloneLaws.{alone_forgets, alone_volume, no_names}
use Rattle.images.proofs.ReadingLaws.{read_past, read_spelled}
pub use Rattle.images.proofs.EmptyLaws.{directory_fits, free_named, free_sound, held_inode, none_named, zero_sound}
use Rattle.layout.proofs.PointerLaws.{no_block}

-- ---- the tree

directory_sound : (s : Sizes) (d : Blocks) → IsSoundFile s (held d (empty_directory s.layout))
directory_sound s d = zero_sound s d (empty_directory s.layout) (directory_fits s) refl refl

module _ (r : Root) (e : Blocks) (numbers map : Inode) (is : IsFirst r e numbers map) where
  abbrev t : HeldTree
  t = first_tree e r.inode_file numbers map

  abbrev inode : ℕ → Inode
  inode = first_inodes r.inode_file numbers map

  are : AreSizes r.geometry
  are = is.root.head.sizes

  sound : (n : ℕ) → IsSoundFile r.geometry (t n)
  sound zero = is.tree.files 0 (omega arith)
  sound (suc zero) = is.tree.files 1 (omega arith)
  sound (suc (suc zero)) = is.tree.files 2 (omega arith)
  sound (suc (suc (suc zero))) = subst (λ (l : Layout). IsSoundFile r.geometry (held e (empty_directory l))) (sym is.root.inode_file.layout) (directory_sound r.geometry e)
  sound (suc (suc (suc (suc n)))) = subst (λ (l : Layout). IsSoundFile r.geometry (held e (free_inode l))) (sym is.root.inode_file.layout) (free_sound r.geometry e)

  fits : (n : ℕ) → IsInode r.geometry (inode n)
  fits n = subst (IsInode r.geometry) (held_inode e (inode n)) (sound n).inode

  free_past : (n : ℕ) → 4 ≤ n → inode n ≡ free_inode r.inode_file.layout
  free_past zero past = absurd (omega arith)
  free_past (suc zero) past = absurd (omega arith)
  free_past (suc (suc zero)) past = absurd (omega arith)
  free_past (suc (suc (suc zero))) past = absurd (omega arith)
  free_past (suc (suc (suc (suc n)))) past = refl

  tree_first : (n : ℕ) → tree e r.geometry.inodes r.inode_file n ≡ t n
  unfolding tree inode_under held
  tree_first zero = refl
  tree_first (suc n) = elim (cases_lt (suc n) r.geometry.inodes) [
    | inl lt ↦
        read_spelled r.geometry e r.inode_file (inode (suc n)) (suc n) are is.root.inode_file.layout (omega arith) lt (fits (suc n))
        (is.tree.spelled.each (suc n) (omega arith) lt ∙ ap inode_bytes (held_inode e (inode (suc n))))
    | inr ge ↦ read_past e r.geometry.inodes r.inode_file (suc n) (omega arith) ge ∙ ap (held e) (sym (free_past (suc n) (omega (arith, ge, are.least_inodes))))
  ]

  active_is : (whole e r).active ≡ t
  unfolding whole
  active_is = fun_ext tree_first

  named_low : (n b : ℕ) → Names (t n) b → n < 3
  named_low zero b names = omega arith
  named_low (suc zero) b names = omega arith
  named_low (suc (suc zero)) b names = omega arith
  named_low (suc (suc (suc zero))) b names = absurd (none_named e (empty_directory r.inode_file.layout) refl b names)
  named_low (suc (suc (suc (suc n)))) b names = absurd (none_named e (free_inode r.inode_file.layout) refl b names)

  each : (n : ℕ) → IsOnce (t n)
  each n = elim (cases_lt n 3) [
    | inl low ↦ is.tree.once n low
    | inr high ↦ λ m i k j b here there. (let low = named_low n b (record { height = m; index = i; is = here }) in absurd (omega (arith, high, low)))
  ]

  once : NamesOnce t
  once = record { apart = λ n m b here there. is.tree.apart n m b (named_low n b here) (named_low m b there) here there; each = each }

  kind : (n : ℕ) → FitsNumber n (t n).inode.kind
  unfolding held
  kind zero = is.root.kind
  kind (suc zero) = is.tree.numbers_kind
  kind (suc (suc zero)) = is.tree.map_kind
  kind (suc (suc (suc zero))) = tt
  kind (suc (suc (suc (suc n)))) = tt

  used_low : (n : ℕ) → (t n).inode.kind ≢ kinds.Free → n < 4
  unfolding held
  used_low zero some = omega arith
  used_low (suc zero) some = omega arith
  used_low (suc (suc zero)) some = omega arith
  used_low (suc (suc (suc zero))) some = omega arith
  used_low (suc (suc (suc (suc n)))) some = absurd (some refl)

  taken : MapsNumbers t
  taken n = (λ has. inl ((is.tree.taken n).0 has), λ either. (is.tree.taken n).1 (elim either [ inl low ↦ low | inr some ↦ used_low n some ]))

  tree_sound : IsSoundTree r.geometry t
  tree_sound = record {
    files = sound;
    kinds = kind;
    inodes = is.tree.spelled;
    numbers = taken;
    inode_map = is.tree.numbers_whole;
    block_map = is.tree.map_whole;
    once = once;
  }

  -- ---- the map

  no_frozen : (k b : ℕ) → Reach ((whole e r).frozen k) b → ⊥
  unfolding whole
  no_frozen k b reach = frozen_none e r.geometry b (subst (λ p. Reach (frozen_at e r.geometry p) b) (is.slots k) reach)

  not_system : (b : ℕ) → IsSystem r b → b < 2
  not_system b (roots low) = low
  not_system b (head k at) = absurd (no_block (slot r k) b (is.slots k) at)

  exact : IsExact r (whole e r)
  exact = record {
    active = λ b. subst (λ u. HasBit 0 (entry u b) ↔ Reach u b) (sym active_is) (is.tree.active b);
    frozen = λ b k low other. subst (λ u. HasBit k (entry u b) ↔ Reach ((whole e r).frozen k) b) (sym active_is)
        (λ has. absurd (is.tree.none b k low other has), λ reach. absurd (no_frozen k b reach));
    system = λ b. subst (λ u. HasBit 31 (entry u b) ↔ IsSystem r b) (sym active_is)
        (λ has. roots ((is.tree.system b).0 has), λ system. (is.tree.system b).1 (not_system b system));
  }

  -- ---- the objects

  stands_as : (k : Kind) (c : Content) (kind_is : c.kind ≡ k) → StandsAs k r.geometry.inodes c None → StandsAs c.kind r.geometry.inodes c None
  stands_as k c kind_is stands = subst (λ x. StandsAs x r.geometry.inodes c None) (sym kind_is) stands

  objects : HoldsVolume r.geometry.inodes (tree_contents t) root_alone_volume
  unfolding held
  objects zero = stands_as kinds.InodeFile (tree_contents t 0) is.root.kind refl
  objects (suc zero) = stands_as kinds.InodeMap (tree_contents t 1) is.tree.numbers_kind refl
  objects (suc (suc zero)) = stands_as kinds.BlockMap (tree_contents t 2) is.tree.map_kind refl
  objects (suc (suc (suc zero))) = (λ x. None, no_names r.geometry.inodes _, refl)
  objects (suc (suc (suc (suc n)))) = refl

  -- ---- all of it

  pub first_holds : Holds r (whole e r) root_alone_volume []
  first_holds = record {
    sound = record {
      active = subst (IsSoundTree r.geometry) (sym active_is) tree_sound;
      frozen = λ k block there. absurd (no_block (slot r k) block (is.slots k) there);
      within = subst (λ (u : HeldTree). IsWithin r.version u) (sym active_is) (newest_within r.geometry r.version t is.version (root_plain r is.root) tree_sound);
      frozen_within = λ k block there. absurd (no_block (slot r k) block (is.slots k) there);
      snapshots = no_snapshots r (whole e r) is.slots;
      exact = exact;
      own = record {
        frozen = λ k b own reach. no_frozen k b reach;
        head = λ k b own there. absurd (no_block (slot r k) b (is.slots k) there);
      };
    };
    holds = subst (λ (u : HeldTree). HoldsVolume r.geometry.inodes (tree_contents u) root_alone_volume) (sym active_is) objects;
    volume = alone_volume (limits_of r.geometry) (limits_can_be r.geometry);
    kept = none_kept r (whole e r) is.slots;
  }

-- ---- the state

pub first_opens : (sectors : ℕ) (disk : ℕ → List ℕ) (nvram : List ℕ) (r : Root) → IsNewest r (disk SLOT_A) (disk SLOT_B) → sectors ≡ 8 * r.geometry.blocks
    → Holds r (whole (blocks_of disk) r) root_alone_volume [] → HasReserve r (whole (blocks_of disk) r) root_alone_volume [] → LogHolds r.geometry.half r.generation nvram [] → OpensBy sectors disk nvram (empty (limits_of r.geometry)) []
first_opens sectors disk nvram r newest size holds room log = record {
  opens = record {
    root = r;
    newest = newest;
    size = size;
    first = root_alone_volume;
    snapshots = [];
    holds = holds;
    changes = [];
    log = record { are = All-nil (IsChange (has_attributes r.geometry.layout)); log = log };
    room = room;
    last = root_alone_volume;
    replays = refl;
    state = record { tree = alone_forgets (limits_of r.geometry) (limits_can_be r.geometry); rest = refl };
  };
  these = refl;
}
