-- The block map's file is planned, step by step.
use Rattle.std.proofs.Common.{◌≡◌, ◌≢◌, ◌⊎◌, inl, inr, ℕ, ◌+◌, ◌/◌, ◌<◌, ◌≤◌, true, false, leb, Bool, List, length, refl, ap, sym, subst, ◌∙◌, arith}
use Rattle.std.specs.Prelude.{All, nat_le, nat_lt, if◌then◌else◌, ◌↔◌}
use Rattle.std.specs.Int.{bit_at, div_ceil}
use Rattle.std.proofs.lemmas.Bool.{cases_lt}
use Rattle.std.proofs.lemmas.List.{get_or_past}
use Rattle.layout.specs.Maps.{indirect_pointer}
use Rattle.layout.specs.Pointer.{PointsBelow}
use Rattle.layout.specs.Places.{Blocks}
use Rattle.layout.specs.declared.geometry.TheConstants.{MOST_BLOCKS}
use Rattle.layout.specs.declared.pointer.Pointer.{Pointer}
use Rattle.layout.specs.declared.pointer.Pointer.TheVariants.{Hole, Block}
use Rattle.blockmap.specs.Bits.{HasBit}
use Rattle.blockmap.specs.Maps.{IsTouched, entry_at}
use Rattle.blockmap.specs.Parts.{Part}
use Rattle.blockmap.specs.declared.map.BlockMap.{BlockMap}
use Rattle.conspoint.specs.declared.draft.Draft.{Draft}
use Rattle.conspoint.specs.Closures.{IsClosedOver, PartsMoved, OverMoved}
use Rattle.conspoint.specs.Drafts.{OnEach, HasAll, Grows, WasTaken}
use Rattle.conspoint.specs.Groups.{pointer_at}
use Rattle.conspoint.specs.MapFiles.{StoresPart, map_nodes, node_at, IsOfMoved, PlansMap}
use Rattle.conspoint.specs.Marks.{Marking}
use Rattle.conspoint.specs.Marks.Marking.{marks, stays}
use Rattle.conspoint.proofs.DraftLemmas.{grows_twice, taken_later}
use Rattle.conspoint.proofs.MapStands.{all_taken, map_stands}
use Rattle.conspoint.proofs.MapWork.{Work, own_inode, not_hole, by_place, new_node, old_node}

-- ---- marks

-- whether the block is among those
abbrev decided : {A : ℕ → Type 0} {is_in : Bool} {old new : List Part} {b : ℕ} → Marking A is_in old new b → Bool
decided (marks is bit) = true
decided (stays not same) = false

among : {A : ℕ → Type 0} {is_in : Bool} {old new : List Part} {b : ℕ} (m : Marking A is_in old new b) → decided m ≡ true → A b
among (marks is bit) marked = is
among (stays not same) marked = cc

decides : {A : ℕ → Type 0} {is_in : Bool} {old new : List Part} {b : ℕ} (m : Marking A is_in old new b) → A b → decided m ≡ true
decides (marks is bit) here = refl
decides (stays not same) here = absurd (not here)

-- some blocks go out of set 0, and then some go in
active_then : {A B : ℕ → Type 0} {p q r : List Part} {b : ℕ} (x : Marking A false p q b) (y : Marking B true q r b)
    → HasBit 0 (entry_at r b) ↔ ((HasBit 0 (entry_at p b) × (decided x ≡ false)) ⊎ (decided y ≡ true))
active_then x (marks is bit) = ((λ has. inr refl), (λ either. bit.there))
active_then (marks gone out) (stays not same) = (
  (λ has. (let none = sym out.there ∙ sym (ap (λ e. bit_at e 0) same) ∙ has in absurd (omega (arith, none)))),
  (λ either. elim either [ inl was ↦ (let e = was.1 in cc) | inr e ↦ cc ]),
)
active_then (stays kept still) (stays not same) = (
  (λ has. inl (sym (ap (λ e. bit_at e 0) (same ∙ still)) ∙ has, refl)),
  (λ either. elim either [ inl was ↦ ap (λ e. bit_at e 0) (same ∙ still) ∙ was.0 | inr e ↦ cc ]),
)

others_one : {A : ℕ → Type 0} {is_in : Bool} {p q : List Part} {b : ℕ} (x : Marking A is_in p q b) (i : ℕ) → i ≢ 0 → bit_at (entry_at q b) i ≡ bit_at (entry_at p b) i
others_one (marks is bit) i differ = bit.others i differ
others_one (stays not same) i differ = ap (λ e. bit_at e i) same

-- ---- the steps

-- what was done: places reserved, blocks marked, the map's blocks stored, the indirect block, and the pointers of the inode
pub record Steps (d0 d1 d2 d3 d4 d5 : Draft) (settled places tops : List Pointer) (n first : ℕ) (over : Pointer) : Type 0 where
  pub count : n ≡ length d0.map.parts.items
  pub first_is : first ≡ (if nat_le n 16 then 0 else n)
  pub over_is : over ≡ pointer_at places n
  pub parts : length d0.map.parts.items ≡ div_ceil d0.map.count 1024
  pub nodes : length settled ≡ map_nodes (length d0.map.parts.items)
  pub within : All (PointsBelow d0.map.count) settled
  pub size : length places ≡ length settled
  pub reserve_grows : Grows d0 d1
  pub out_grows : Grows d1 d2
  pub in_grows : Grows d2 d3
  pub store_grows : Grows d3 d4
  pub over_grows : Grows d4 d5
  pub store_map : d4.map ≡ d3.map
  pub over_map : d5.map ≡ d4.map
  pub taken : (k b : ℕ) → pointer_at places k ≡ Block b → WasTaken d0 d1 b
  pub closed : IsClosedOver d1 settled places
  pub moved : PartsMoved d1 places
  pub over_moved : OverMoved d1 places
  pub entries : (b : ℕ) → entry_at d1.map.parts.items b ≡ entry_at d0.map.parts.items b
  pub out_same : (j : ℕ) → IsTouched d2.map.parts.items j → IsTouched d1.map.parts.items j
  pub in_same : (j : ℕ) → IsTouched d3.map.parts.items j → IsTouched d2.map.parts.items j
  pub out : (b : ℕ) → Marking (IsOfMoved settled places (length places)) false d1.map.parts.items d2.map.parts.items b
  pub into : (b : ℕ) → Marking (IsOfMoved places places (length places)) true d2.map.parts.items d3.map.parts.items b
  pub stored : OnEach d4 (λ e. (k b : ℕ) → k < length d3.map.parts.items → pointer_at places k ≡ Block b → StoresPart d3.map.parts.items k (e b))
  pub over_size : OnEach d5 (λ e. (b : ℕ) → over ≡ Block b → length (e b) ≡ 4096)
  pub over_spelled : OnEach d5 (λ e. (b i : ℕ) → over ≡ Block b → i < 1024 → indirect_pointer (e b) i ≡ (if nat_lt i n then node_at settled places i else Hole))
  pub tops_size : length tops ≡ 16
  pub tops_are : (i : ℕ) → pointer_at tops i ≡ node_at settled places (first + i)

pub below_all : (count : ℕ) (xs : List Pointer) → All (PointsBelow count) xs → (k : ℕ) → PointsBelow count (pointer_at xs k)
below_all count xs all k = elim (cases_lt k (length xs)) [
  | inl lt ↦ all k Hole lt
  | inr ge ↦ subst (PointsBelow count) (sym (get_or_past xs k Hole ge)) tt
]

-- a pointer of the list is one of its places
pub in_list : (xs : List Pointer) (k b : ℕ) → pointer_at xs k ≡ Block b → k < length xs
in_list xs k b is = elim (cases_lt k (length xs)) [
  | inl lt ↦ lt
  | inr ge ↦ (let none : Hole ≡ Block b = sym (get_or_past xs k Hole ge) ∙ is in cc)
]

-- each node leads to a block of the disk
pub nodes_below : (d0 d1 : Draft) (settled places : List Pointer) → All (PointsBelow d0.map.count) settled → ((k b : ℕ) → pointer_at places k ≡ Block b → WasTaken d0 d1 b)
    → (k : ℕ) → PointsBelow MOST_BLOCKS (node_at settled places k)
nodes_below d0 d1 settled places within taken k = elim (by_place (pointer_at places k)) [
  | inl none ↦ subst (PointsBelow MOST_BLOCKS) (sym (old_node settled places k none)) (wider (pointer_at settled k) (below_all d0.map.count settled within k))
  | inr new ↦
      let t = taken k new.0 new.1 in
      let low = d0.map.behind in
      let most = d0.map.most in
      subst (PointsBelow MOST_BLOCKS) (sym (new_node settled places k new.0 new.1)) (omega (arith, low, t.from), omega (arith, most, t.within))
]
  where
    wider : (p : Pointer) → PointsBelow d0.map.count p → PointsBelow MOST_BLOCKS p
    wider Hole below = tt
    wider (Block b) below = let most = d0.map.most in (below.0, omega (arith, below.1, most))

module _ (d0 d1 d2 d3 d4 d5 : Draft) (settled places tops : List Pointer) (n first : ℕ) (over : Pointer) (w : Steps d0 d1 d2 d3 d4 d5 settled places tops n first over) where
  later : Grows d1 d5
  later = grows_twice d1 d2 d5 w.out_grows (grows_twice d2 d3 d5 w.in_grows (grows_twice d3 d4 d5 w.store_grows w.over_grows))

  pub all_grows : Grows d0 d5
  all_grows = grows_twice d0 d1 d5 w.reserve_grows later

  parts_are : d5.map.parts.items ≡ d3.map.parts.items
  parts_are = ap (λ (m : BlockMap). m.parts.items) (w.over_map ∙ w.store_map)

  parts_later : length d1.map.parts.items ≡ n
  parts_later = w.reserve_grows.settled.count ∙ sym w.count

  parts_stored : length d3.map.parts.items ≡ n
  parts_stored = w.in_grows.settled.count ∙ w.out_grows.settled.count ∙ parts_later

  few : n ≤ 1024
  few = let most = d0.map.most in omega (arith, w.count, w.parts, most)

  nodes_are : length settled ≡ map_nodes n
  nodes_are = w.nodes ∙ ap map_nodes (sym w.count)

  pub reaches : (k : ℕ) → k < n → k < length places
  reaches k lt = omega (arith, lt, w.size, nodes_are, most_of (leb n 16) n)
    where
      most_of : (b : Bool) (n : ℕ) → n ≤ (if b then n else n + 1)
      most_of true n = omega arith
      most_of false n = omega arith

  work : (e : Blocks) → HasAll e d5.blocks.items → Work e d0 d5 settled places tops n
  work e has = record {
    parts = sym w.count;
    count = w.count ∙ w.parts;
    nodes = nodes_are;
    size = w.size;
    within = below_all d0.map.count settled w.within;
    behind = d0.map.behind;
    most = d0.map.most;
    grows = all_grows;
    taken = λ k b is. taken_later d0 d1 d5 b (w.taken k b is) later;
    apart = w.closed.apart;
    moved = λ k lt touched.
        let first : IsTouched d1.map.parts.items k = w.out_same k (w.in_same k (subst (λ (ps : List Part). IsTouched ps k) parts_are touched)) in
        w.moved k (omega (arith, lt, parts_later)) (reaches k lt) first;
    over_moved = λ k lt there some none.
        let at : length d1.map.parts.items + k / 1024 ≡ n = omega (arith, parts_later, lt, few) in
        w.over_moved k (omega (arith, lt, parts_later)) (omega (arith, lt, there)) (omega (arith, at, there)) some (ap (pointer_at places) at ∙ none);
    changed = d5.changed;
    stored = λ k b lt is. subst (λ (ps : List Part). StoresPart ps k (e b)) (sym parts_are) (w.stored e (w.over_grows.has e has) k b (omega (arith, lt, parts_stored)) is);
    over_size = λ b is. w.over_size e has b (w.over_is ∙ is);
    over_spelled = λ b i is lt. w.over_spelled e has b i (w.over_is ∙ is) lt;
    tops_size = w.tops_size;
    tops_are = λ i. w.tops_are i ∙ ap (λ k. node_at settled places (k + i)) w.first_is;
  }

  pub plans : PlansMap d0 d5 settled (own_inode tops d0.map.count)
  plans = record {
    taken = λ b. decided (w.into b);
    freed = λ b. decided (w.out b);
    was_taken = λ b here. let at = among (w.into b) here in taken_later d0 d1 d5 b (w.taken at.0 b at.3) later;
    active = λ b.
        let now = active_then (w.out b) (w.into b) in
        subst (λ (ps : List Part). HasBit 0 (entry_at ps b) ↔ ((HasBit 0 (entry_at d0.map.parts.items b) × (decided (w.out b) ≡ false)) ⊎ (decided (w.into b) ≡ true))) (sym parts_are)
        (subst (λ x. HasBit 0 (entry_at d3.map.parts.items b) ↔ ((HasBit 0 x × (decided (w.out b) ≡ false)) ⊎ (decided (w.into b) ≡ true))) (w.entries b) now);
    others = λ b i differ.
        ap (λ (ps : List Part). bit_at (entry_at ps b) i) parts_are ∙ others_one (w.into b) i differ ∙ others_one (w.out b) i differ ∙ ap (λ x. bit_at x i) (w.entries b);
    stands = λ e has s d old is agrees.
        map_stands (work e has) is agrees (λ b. decided (w.into b)) (λ b. decided (w.out b))
        (λ b here. let at = among (w.into b) here in (at.0, at.3))
        (λ k b at. decides (w.into b) (k, in_list places k b at, not_hole (pointer_at places k) b at, at))
        (λ b here. let at = among (w.out b) here in (at.0, at.2, at.3))
        (λ k b some at. decides (w.out b) (k, omega (arith, in_list settled k b at, w.size), some, at));
    anew = λ all e has s d old is agrees b.
        all_taken (work e has) is agrees (λ b. decided (w.into b)) (λ b. decided (w.out b))
        (λ b here. let at = among (w.into b) here in (at.0, at.3))
        (λ k b at. decides (w.into b) (k, in_list places k b at, not_hole (pointer_at places k) b at, at))
        (λ b here. let at = among (w.out b) here in (at.0, at.2, at.3))
        (λ k b some at. decides (w.out b) (k, omega (arith, in_list settled k b at, w.size), some, at)) all b;
  }
