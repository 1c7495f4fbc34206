-- What the planning of the block map's file has done: where its nodes stand then.
use Rattle.std.proofs.Common.{◌≡◌, ◌≢◌, ◌⊎◌, inl, inr, ℕ, suc, ◌+◌, ◌*◌, ◌/◌, ◌%◌, ◌<◌, ◌≤◌, true, false, leb, List, length, refl, ap, sym, subst, ◌∙◌, arith}
use Rattle.std.specs.Prelude.{nat_le, nat_lt, if◌then◌else◌}
use Rattle.std.specs.Int.{div_ceil}
use Rattle.std.proofs.lemmas.Bool.{cases_lt, cond_below, cond_above, le-leb, lt-leb}
use Rattle.std.proofs.lemmas.List.{get_or_past}
use Rattle.model.specs.Attributes.{no_attributes}
use Rattle.layout.specs.Limits.{Sizes}
use Rattle.layout.specs.Maps.{indirect_pointer}
use Rattle.layout.specs.Pointer.{PointsBelow}
use Rattle.layout.specs.Inode.{FitsKind}
use Rattle.layout.specs.Places.{Blocks, follow}
use Rattle.layout.specs.Trees.{fan_out, level_of, single_bytes}
use Rattle.layout.specs.declared.geometry.TheConstants.{MOST_BLOCKS}
use Rattle.layout.specs.declared.inode.Body.TheVariants.{Pointers}
use Rattle.layout.specs.declared.inode.Inode.{Inode}
use Rattle.layout.specs.declared.kind.Kind.TheVariants as kinds
use Rattle.layout.specs.declared.trees.Layout.TheVariants.{Plain}
use Rattle.layout.specs.declared.pointer.Pointer.{Pointer}
use Rattle.layout.specs.declared.pointer.Pointer.TheVariants.{Hole, Block}
use Rattle.images.specs.Nodes.{held, Names, Agrees}
use Rattle.images.proofs.OverlayLaws.{held_up}
use Rattle.images.proofs.ReadingLaws.{level_one, level_two}
use Rattle.blockmap.specs.Maps.{IsTouched}
use Rattle.conspoint.specs.declared.draft.Draft.{Draft}
use Rattle.conspoint.specs.Drafts.{Grows, WasTaken}
use Rattle.conspoint.specs.Groups.{pointer_at}
use Rattle.conspoint.specs.MapFiles.{StoresPart, AreTouched, map_nodes, or_settled, node_at, IsSettledMap}
use Rattle.conspoint.specs.Plans.{ChangesTouched}
use Rattle.conspoint.proofs.MapNodes.{Stands, named_at, stands_direct, stands_under, sound_stands}
use Rattle.layout.proofs.PointerLaws.{no_block, some_block}

-- the inode of a map of so many blocks
abbrev pub own_inode : List Pointer → ℕ → Inode
own_inode pointers count =
    record { layout = Plain; kind = kinds.BlockMap; attributes = no_attributes; links = 1; size = 4 * count; body = Pointers pointers }

-- On a disk with the planned blocks: the map before and after, the nodes' settled and new places, and the pointers of the inode.
pub record Work (e : Blocks) (before after : Draft) (settled places tops : List Pointer) (n : ℕ) : Type 0 where
  pub parts : length before.map.parts.items ≡ n
  pub count : n ≡ div_ceil before.map.count 1024
  pub nodes : length settled ≡ map_nodes n
  pub size : length places ≡ length settled
  pub within : (k : ℕ) → PointsBelow before.map.count (pointer_at settled k)
  pub behind : 2 ≤ before.map.next
  pub most : before.map.count ≤ MOST_BLOCKS
  pub grows : Grows before after
  pub taken : (k b : ℕ) → pointer_at places k ≡ Block b → WasTaken before after b
  pub apart : (i k b : ℕ) → pointer_at places i ≡ Block b → pointer_at places k ≡ Block b → i ≡ k
  pub moved : (k : ℕ) → k < n → IsTouched after.map.parts.items k → pointer_at places k ≢ Hole
  pub over_moved : (k : ℕ) → k < n → n < length places → pointer_at places k ≢ Hole → pointer_at places n ≢ Hole
  pub changed : ChangesTouched after.map.count after.map.parts.items
  pub stored : (k b : ℕ) → k < n → pointer_at places k ≡ Block b → StoresPart after.map.parts.items k (e b)
  pub over_size : (b : ℕ) → pointer_at places n ≡ Block b → length (e b) ≡ 4096
  pub over_spelled : (b i : ℕ) → pointer_at places n ≡ Block b → i < 1024
      → indirect_pointer (e b) i ≡ (if nat_lt i n then node_at settled places i else Hole)
  pub tops_size : length tops ≡ 16
  pub tops_are : (i : ℕ) → pointer_at tops i ≡ node_at settled places ((if nat_le n 16 then 0 else n) + i)

-- a node's place, by whether it has a new one
pub by_place : (p : Pointer) → (p ≡ Hole) ⊎ ((b : ℕ) × (p ≡ Block b))
by_place Hole = inl refl
by_place (Block b) = inr (b, refl)

pub not_hole : (p : Pointer) (b : ℕ) → p ≡ Block b → p ≢ Hole
not_hole p b is none = no_block p b none is

pub new_node : (settled places : List Pointer) (k b : ℕ) → pointer_at places k ≡ Block b → node_at settled places k ≡ Block b
new_node settled places k b is = ap (λ p. or_settled p (pointer_at settled k)) is

pub old_node : (settled places : List Pointer) (k : ℕ) → pointer_at places k ≡ Hole → node_at settled places k ≡ pointer_at settled k
old_node settled places k is = ap (λ p. or_settled p (pointer_at settled k)) is

module _ {s : Sizes} {d e : Blocks} {old : Inode} {before after : Draft} {settled places tops : List Pointer} {n : ℕ} (w : Work e before after settled places tops n)
    (is : IsSettledMap s d old before.map settled) (agrees : Agrees (Names (held d old)) d e) where
  pub few : n ≤ 1024
  few = omega (arith, w.count, w.most)

  pub some : 1 ≤ n
  some = omega (arith, w.count, is.blocks, is.sizes.least_blocks)

  pub ends : n ≤ 16 → length settled ≡ n
  ends le = let t : leb n 16 ≡ true = le-leb _ _ le in w.nodes ∙ rw t refl

  pub goes_on : 16 < n → length settled ≡ n + 1
  goes_on lt = let t : leb n 16 ≡ false = lt-leb _ _ lt in w.nodes ∙ rw t refl

  settled_past : (k : ℕ) → length settled ≤ k → pointer_at settled k ≡ Hole
  settled_past k ge = get_or_past settled k Hole ge

  pub node_past : (k : ℕ) → length settled ≤ k → node_at settled places k ≡ Hole
  node_past k ge = old_node settled places k (get_or_past places k Hole (omega (arith, w.size))) ∙ settled_past k ge

  pub old_stands : Stands n (pointer_at settled) (held d old)
  old_stands =
      sound_stands s d old n settled is.sound is.plain is.kind is.sizes.least_blocks is.sizes.most_blocks (omega (arith, w.count, is.blocks))
      (λ k lt. is.lowest k (omega (arith, w.parts))) (λ level. ap (pointer_at settled) (sym w.parts) ∙ is.over level)
      (λ le k ge. settled_past k (omega (arith, ends le)))

  pub old_size : old.size ≡ 4 * before.map.count
  unfolding held
  old_size = (subst (λ k. FitsKind k s old.attributes old.links old.size) is.kind is.sound.inode.kind).2 ∙ ap (λ x. 4 * x) (sym is.blocks)

  -- what was touched is stored
  pub untouched : (k : ℕ) → k < n → pointer_at places k ≡ Hole → IsTouched before.map.parts.items k → ⊥
  untouched k lt hole touched = w.moved k lt (w.grows.settled.touched k touched) hole

  -- where all is stored, each node has a new place
  pub all_new : AreTouched before.map.parts.items → (k b : ℕ) → node_at settled places k ≡ Block b → pointer_at places k ≢ Hole
  all_new all k b at none = elim (cases_lt k n) [
    | inl lt ↦ untouched k lt none (all k (omega (arith, w.parts, lt)))
    | inr ge ↦ elim (cases_lt 16 n) [
      | inr less ↦ no_block (node_at settled places k) b (node_past k (omega (arith, ge, ends less))) at
      | inl many ↦ elim (cases_lt n k) [
        | inl past ↦ no_block (node_at settled places k) b (node_past k (omega (arith, past, goes_on many))) at
        | inr le ↦
            let last : k ≡ n = omega arith in
            w.over_moved 0 some (omega (arith, goes_on many, w.size)) (λ hole. untouched 0 some hole (all 0 (omega (arith, w.parts, some))))
            (ap (pointer_at places) (sym last) ∙ none)
      ]
    ]
  ]

  -- no settled node that stays is a hole
  pub old_block : (k : ℕ) → k < n → pointer_at places k ≡ Hole → pointer_at settled k ≢ Hole
  old_block k lt hole none = is.no_hole k (omega (arith, w.parts, lt)) (untouched k lt hole) (old_stands.low k lt ∙ none)

  pub most_nodes : length settled ≤ n + 1
  most_nodes = elim (cases_lt 16 n) [ inl many ↦ omega (arith, goes_on many) | inr less ↦ omega (arith, ends less) ]

  in_list : (k b : ℕ) → pointer_at settled k ≡ Block b → k ≤ n
  in_list k b at = elim (cases_lt n k) [
    | inr le ↦ le
    | inl lt ↦ absurd (no_block (pointer_at settled k) b (settled_past k (omega (arith, most_nodes))) at)
  ]

  pub old_named : (k b : ℕ) → pointer_at settled k ≡ Block b → Names (held d old) b
  old_named k b at = named_at n (pointer_at settled) (held d old) old_stands k b (in_list k b at) at

  -- a settled block stands on e as on d
  pub same_block : (k b : ℕ) → pointer_at settled k ≡ Block b → e b ≡ d b
  same_block k b at = agrees b (old_named k b at)

  -- node k of the settled map with block b is the only one
  pub old_once : (x y b : ℕ) → pointer_at settled x ≡ Block b → pointer_at settled y ≡ Block b → x ≡ y
  old_once x y b at_x at_y =
      let le_x = in_list x b at_x in
      let le_y = in_list y b at_y in
      elim (cases_lt x n) [
        | inl lt ↦ elim (cases_lt y n) [
          | inl too ↦ (is.once 0 x 0 y b (old_stands.low x lt ∙ at_x) (old_stands.low y too ∙ at_y)).1
          | inr ge ↦
              let y_is : n ≡ y = omega arith in
              let no = (is.once 0 x 1 0 b (old_stands.low x lt ∙ at_x) (old_stands.top ∙ ap (pointer_at settled) y_is ∙ at_y)).0 in
              absurd (omega (arith, no))
        ]
        | inr ge ↦
            let x_is : n ≡ x = omega arith in
            elim (cases_lt y n) [
              | inl lt ↦
                  let no = (is.once 0 y 1 0 b (old_stands.low y lt ∙ at_y) (old_stands.top ∙ ap (pointer_at settled) x_is ∙ at_x)).0 in
                  absurd (omega (arith, no))
              | inr too ↦ omega arith
            ]
      ]

  -- a new place is none of the settled map's
  pub apart_from_old : (x y b : ℕ) → pointer_at places x ≡ Block b → pointer_at settled y ≡ Block b → ⊥
  apart_from_old x y b at_x at_y = is.used b (old_named y b at_y) (w.taken x b at_x).free

  pub node_once : (x y b : ℕ) → node_at settled places x ≡ Block b → node_at settled places y ≡ Block b → x ≡ y
  node_once x y b at_x at_y = elim (by_place (pointer_at places x)) [
    | inr px ↦
        let new_x : pointer_at places x ≡ Block b = px.1 ∙ sym (new_node settled places x px.0 px.1) ∙ at_x in
        elim (by_place (pointer_at places y)) [
          | inr py ↦ w.apart x y b new_x (py.1 ∙ sym (new_node settled places y py.0 py.1) ∙ at_y)
          | inl hy ↦ absurd (apart_from_old x y b new_x (sym (old_node settled places y hy) ∙ at_y))
        ]
    | inl hx ↦
        let old_x : pointer_at settled x ≡ Block b = sym (old_node settled places x hx) ∙ at_x in
        elim (by_place (pointer_at places y)) [
          | inr py ↦ absurd (apart_from_old y x b (py.1 ∙ sym (new_node settled places y py.0 py.1) ∙ at_y) old_x)
          | inl hy ↦ old_once x y b old_x (sym (old_node settled places y hy) ∙ at_y)
        ]
  ]

  pub node_below : (k : ℕ) → PointsBelow s.blocks (node_at settled places k)
  node_below k = subst (λ (c : ℕ). PointsBelow c (node_at settled places k)) is.blocks (elim (by_place (pointer_at places k)) [
    | inl none ↦ subst (PointsBelow before.map.count) (sym (old_node settled places k none)) (w.within k)
    | inr new ↦
        let taken = w.taken k new.0 new.1 in
        subst (PointsBelow before.map.count) (sym (new_node settled places k new.0 new.1)) (omega (arith, taken.from, w.behind), taken.within)
  ])

  -- no node is a hole
  pub new_block : (k : ℕ) → k < n → node_at settled places k ≢ Hole
  new_block k lt none = elim (by_place (pointer_at places k)) [
    | inl hole ↦ old_block k lt hole (sym (old_node settled places k hole) ∙ none)
    | inr new ↦ no_block (node_at settled places k) new.0 none (new_node settled places k new.0 new.1)
  ]

  pub old_plain : old.layout ≡ Plain
  unfolding held
  old_plain = is.sound.inode.layout ∙ is.plain

  two_levels : 16 < n → level_of old.layout old.size ≡ 2
  two_levels lt =
      level_two old.layout old.size (omega (arith, old_size, w.count))
      (subst (λ l. old.size ≤ single_bytes l) (sym old_plain) (omega (arith, old_size, is.blocks, is.sizes.most_blocks)))

  -- node 0 at a height is what the indirect block over it says first, and so are those beside it
  old_up : (m i : ℕ) → suc m < level_of old.layout old.size → i < 1024 → (held d old).place m i ≡ follow d ((held d old).place (suc m) 0) i
  old_up m i low lt =
      let first : i / 1024 ≡ 0 = omega arith in
      let same : i % 1024 ≡ i = omega arith in
      held_up d old m i low
      ∙ ap (λ l. follow d ((held d old).place (suc m) (i / fan_out l)) (i % fan_out l)) old_plain
      ∙ ap (λ j. follow d ((held d old).place (suc m) j) (i % 1024)) first
      ∙ ap (follow d ((held d old).place (suc m) 0)) same

  -- under the settled indirect block
  old_under : (x i : ℕ) → 16 < n → pointer_at settled n ≡ Block x → i < 1024 → (held d old).place 0 i ≡ indirect_pointer (d x) i
  old_under x i many at lt =
      let level = two_levels many in
      old_up 0 i (omega (arith, level)) lt ∙ ap (λ p. follow d p i) (old_stands.top ∙ at)

  -- under an indirect block that stays all blocks do
  still : 16 < n → (i : ℕ) → i < n → pointer_at places n ≡ Hole → pointer_at places i ≡ Hole
  still many i low none = elim (by_place (pointer_at places i)) [
    | inl hole ↦ hole
    | inr new ↦ absurd (w.over_moved i low (omega (arith, goes_on many, w.size)) (not_hole (pointer_at places i) new.0 new.1) none)
  ]

  old_over : 16 < n → pointer_at places n ≡ Hole → pointer_at settled n ≢ Hole
  old_over many hole none =
      let level = two_levels many in
      let none_under : (held d old).place 0 0 ≡ Hole = old_up 0 0 (omega (arith, level)) (omega arith) ∙ ap (λ p. follow d p 0) (old_stands.top ∙ none) in
      old_block 0 (omega arith) (still many 0 (omega arith) hole) (sym (old_stands.low 0 (omega arith)) ∙ none_under)

  over_there : 16 < n → node_at settled places n ≢ Hole
  over_there many none = elim (by_place (pointer_at places n)) [
    | inl hole ↦ old_over many hole (sym (old_node settled places n hole) ∙ none)
    | inr new ↦ no_block (node_at settled places n) new.0 none (new_node settled places n new.0 new.1)
  ]

  pub spelled : (x i : ℕ) → 16 < n → node_at settled places n ≡ Block x → i < 1024 → indirect_pointer (e x) i ≡ (if nat_lt i n then node_at settled places i else Hole)
  spelled x i many at lt = elim (by_place (pointer_at places n)) [
    | inr new ↦ w.over_spelled x i (new.1 ∙ sym (new_node settled places n new.0 new.1) ∙ at) lt
    | inl none ↦
        let there : pointer_at settled n ≡ Block x = sym (old_node settled places n none) ∙ at in
        let same : indirect_pointer (e x) i ≡ (held d old).place 0 i = ap (λ (bytes : List ℕ). indirect_pointer bytes i) (same_block n x there) ∙ sym (old_under x i many there lt) in
        same ∙ elim (cases_lt i n) [
          | inl low ↦ old_stands.low i low ∙ sym (old_node settled places i (still many i low none)) ∙ cond_below i n (node_at settled places i) Hole low
          | inr ge ↦ old_stands.past i ge ∙ cond_above i n (node_at settled places i) Hole Hole ge refl
        ]
  ]

  pub new_stands : Stands n (node_at settled places) (held e (own_inode tops before.map.count))
  new_stands = elim (cases_lt 16 n) [
    | inr less ↦
        let t : leb n 16 ≡ true = le-leb _ _ less in
        stands_direct e (own_inode tops before.map.count) tops refl n (node_at settled places)
        (level_one Plain (4 * before.map.count) (omega (arith, is.blocks, is.sizes.least_blocks)) (omega (arith, w.count)))
        (λ i. w.tops_are i ∙ ap (λ b. node_at settled places ((if b then 0 else n) + i)) t ∙ ap (node_at settled places) (omega arith))
        (λ k ge. node_past k (omega (arith, ends less)))
    | inl many ↦
        let t : leb n 16 ≡ false = lt-leb _ _ many in
        let over = some_block (node_at settled places n) (over_there many) in
        stands_under e (own_inode tops before.map.count) tops refl n over.0 (node_at settled places)
        (level_two Plain (4 * before.map.count) (omega (arith, w.count)) (omega (arith, is.blocks, is.sizes.most_blocks)))
        (λ i. w.tops_are i ∙ ap (λ b. node_at settled places ((if b then 0 else n) + i)) t)
        (λ k gt. node_past k (omega (arith, goes_on many))) few over.1
        (λ i lt. spelled over.0 i many over.1 (omega (arith, few)) ∙ sym (cond_below i n (node_at settled places i) Hole lt))
        (λ i ge lt. spelled over.0 i many over.1 lt ∙ sym (cond_above i n (node_at settled places i) Hole Hole ge refl))
  ]
