-- One node is marked, and then those under it.
use Rattle.std.proofs.Common.{◌≡◌, ◌≢◌, ◌⊎◌, inl, inr, ℕ, suc, ◌+◌, ◌-◌, ◌*◌, ◌/◌, ◌%◌, ◌^◌, ◌<◌, ◌≤◌, List, [], length, refl, sym, ap, subst, ◌∙◌, arith}
use Rattle.std.specs.Prelude.{◌↔◌, min, slice_index, slice_index_or, Option, Some, None, Result, Ok, Err}
use Rattle.std.specs.Result.{IsErrAnd}
use Rattle.std.specs.Int.{bit_at}
use Rattle.std.proofs.lemmas.Bool.{cases_eq, cases_lt}
use Rattle.layout.specs.Maps.{IsIndirectBlock, indirect_pointer}
use Rattle.layout.specs.Places.{Blocks, follow}
use Rattle.layout.specs.Pointer.{PointsBelow}
use Rattle.layout.specs.Trees.{fan_out}
use Rattle.layout.specs.declared.pointer.Pointer.{Pointer}
use Rattle.layout.specs.declared.pointer.Pointer.TheVariants.{Block, Hole}
use Rattle.layout.specs.declared.trees.Layout.{Layout}
use Rattle.layout.proofs.FanLaws.{pointer_back, up_back}
use Rattle.layout.proofs.PointerLaws.{block_same, no_block}
use Rattle.blocktree.specs.Names.{nodes_at}
use Rattle.images.specs.BlockMap.{HasBit}
use Rattle.images.specs.Nodes.{Held}
use Rattle.checker.specs.Nodes.{AreIndirect, HasNodes, IsAmong, IsAt, IsUnder, KeepsMarks, KeepsShared, LooksUnder, MarksFor, MarksThese, SharesNone}
use Rattle.checker.specs.declared.error.CheckEnd.{CheckEnd}
use Rattle.checker.specs.declared.error.CheckEnd.TheVariants as halts
use Rattle.checker.specs.declared.fault.FileNode.{FileNode}
use Rattle.checker.specs.declared.nodes.Shared.{Shared}
use Rattle.checker.specs.declared.nodes.TheConstants.{PLANES}
use Rattle.checker.proofs.FanLemmas.{fan_low, group_from, group_to, group_up}
use Rattle.checker.proofs.NodeLaws.{hole_under, itself, looks_more, looks_none, none_before, one_up, some_none, some_same, these_more}

-- A block was marked, and where it was marked before, that is told.
module _ (old new : List ℕ) (before after : List (Option Shared)) (place bits twice : ℕ) (s : Shared)
    (was : (k : ℕ) → HasBit k twice ↔ (HasBit k (slice_index old place) × HasBit k bits))
    (here : (k : ℕ) → HasBit k (slice_index new place) ↔ (HasBit k (slice_index old place) ⊎ HasBit k bits))
    (there : (b : ℕ) → b ≢ place → slice_index new b ≡ slice_index old b)
    (kept : KeepsShared before after)
    (these : (k : ℕ) → k < PLANES → HasBit k twice → SharesNone before k → slice_index_or after k None ≡ Some s)
    (others : (k : ℕ) → (HasBit k twice → ⊥) → slice_index_or after k None ≡ slice_index_or before k None)
    (planes : (k : ℕ) → HasBit k bits → k < PLANES) where
  twice_told : (k : ℕ) → HasBit k twice → SharesNone after k → ⊥
  twice_told k bit none = some_none (slice_index_or after k None) s none (these k (planes k ((was k).0 bit).1) bit (none_before before after k kept none))

  pub again_told : twice ≡ bits → (k : ℕ) → HasBit k bits → SharesNone after k → ⊥
  again_told same k bit = twice_told k (subst (HasBit k) (sym same) bit)

  pub keeps_at : length new ≡ length old → KeepsMarks bits old new before after
  keeps_at length_is = record {
    length_is = length_is;
    others = λ k other. record {
      marks = λ b. elim (cases_eq b place) [
        | inl same ↦ subst (λ (n : ℕ). HasBit k (slice_index new n) ↔ HasBit k (slice_index old n)) (sym same) (
          (λ bit. elim ((here k).0 bit) [ inl marked ↦ marked | inr mine ↦ absurd (other mine) ]),
          (λ bit. (here k).1 (inl bit)),
        )
        | inr ne ↦ subst (λ (n : ℕ). HasBit k n ↔ HasBit k (slice_index old b)) (sym (there b ne)) (λ bit. bit, λ bit. bit)
      ];
      shared = others k (λ bit. other ((was k).0 bit).1);
    };
    kept = kept;
  }

  pub looks_at : (h : Held) → h.place s.second.height s.second.index ≡ Block place → s.block ≡ place → MarksFor h (IsAt s.second) s.second.number bits old new before after
  looks_at h is block k bit = record {
    marked = λ none.
        let fresh : HasBit k (slice_index old place) → ⊥ = λ marked. twice_told k ((was k).1 (marked, bit)) none in
        record {
          marks = λ b. (
            (λ mark. elim (cases_eq b place) [
              | inl same ↦ inr (s.second.height, s.second.index, (refl, refl), is ∙ ap Block (sym same))
              | inr ne ↦ inl (subst (HasBit k) (there b ne) mark)
            ]),
            (λ either. elim (cases_eq b place) [
              | inl same ↦ subst (λ (n : ℕ). HasBit k (slice_index new n)) (sym same) ((here k).1 (inr bit))
              | inr ne ↦ elim either [
                | inl mark ↦ subst (HasBit k) (sym (there b ne)) mark
                | inr some ↦ absurd (ne (at_place some.0 some.1 b some.2 some.3))
              ]
            ]),
          );
          apart = λ m i b at node mark. fresh (subst (λ (n : ℕ). HasBit k (slice_index old n)) (at_place m i b at node) mark);
          once = λ m i n j b at to x y. (at.0 ∙ sym to.0, at.1 ∙ sym to.1);
        };
    shared = λ none t told. elim (cases_eq (bit_at twice k) 1) [
      | inl again ↦
          let same : s ≡ t = some_same (slice_index_or after k None) s t (these k (planes k bit) again none) told in
          let P : Shared → Type 0 = λ x.
          (x.second.number ≡ s.second.number) × IsAt s.second x.second.height x.second.index
          × (h.place x.second.height x.second.index ≡ Block x.block)
          × (HasBit k (slice_index old x.block)
          ⊎ ((m : ℕ) × (i : ℕ) × IsAt s.second m i × (h.place m i ≡ Block x.block) × ((m ≡ x.second.height) × (i ≡ x.second.index) → ⊥))) in
          subst P same (refl, (refl, refl), is ∙ ap Block (sym block), inl (subst (λ (n : ℕ). HasBit k (slice_index old n)) (sym block) ((was k).0 again).0))
      | inr first ↦ some_none (slice_index_or after k None) t (others k first ∙ none) told
    ];
  }
    where
      at_place : (m i b : ℕ) → IsAt s.second m i → h.place m i ≡ Block b → b ≡ place
      at_place m i b at node = block_same b place (sym node ∙ (ap (λ (n : ℕ). h.place n i) at.0 ∙ ap (h.place s.second.height) at.1 ∙ is))

-- the nodes at a height up to one, and those under them, and then that one with those under it
pub among_more : (layout : Layout) (blocks now number count bits : ℕ) (disk : Blocks) (h : Held) (height low high index next : ℕ) (old mid new : List ℕ) (before middle after : List (Option Shared))
    → now ≡ blocks → low ≤ high → index ≡ high → next ≡ high + 1 → KeepsShared middle after
    → MarksFor h (IsAmong layout height low high) number bits old mid before middle × AreIndirect layout blocks disk h count (IsAmong layout height low high)
    → MarksFor h (IsUnder layout height index) number bits mid new middle after × AreIndirect layout now disk h count (IsUnder layout height index)
    → MarksFor h (IsAmong layout height low next) number bits old new before after × AreIndirect layout blocks disk h count (IsAmong layout height low next)
among_more layout blocks now number count bits disk h height low high index next old mid new before middle after same le here more kept one two =
    these_more h (IsAmong layout height low high) (IsUnder layout height index) (IsAmong layout height low next)
    (λ m i b among is. elim (cases_lt (i / fan_out layout ^ (height - m)) high) [
      | inl lt ↦ inl (among.0, among.1, lt)
      | inr ge ↦ inr (among.0, omega (arith, ge, among.2, here, more))
    ])
    (λ m i among. (among.0, among.1, omega (arith, among.2, more)))
    (λ m i under. (under.0, omega (arith, under.1, le, here), omega (arith, under.1, here, more)))
    (λ m i n j among under same.
    let there : i / fan_out layout ^ (height - m) ≡ j / fan_out layout ^ (height - n) = ap (λ (x : ℕ). i / fan_out layout ^ (height - x)) same.0 ∙ ap (λ (x : ℕ). x / fan_out layout ^ (height - n)) same.1 in
    omega (arith, there, among.2, under.1, here))
    layout blocks number count bits disk old mid new before middle after kept one
    (two.0, λ m i b under is. subst (λ (n : ℕ). IsIndirectBlock layout n (nodes_at layout count m - fan_out layout * i) (disk b)) same (two.1 m i b under is))

-- the blocks of a file up to one, and then that one
pub leaf_more : (layout : Layout) (number bits low high next : ℕ) (h : Held) (old mid new : List ℕ) (before middle after : List (Option Shared)) → low ≤ high → next ≡ high + 1 → KeepsShared middle after
    → MarksFor h (IsAmong layout 0 low high) number bits old mid before middle → MarksFor h (IsUnder layout 0 high) number bits mid new middle after → MarksFor h (IsAmong layout 0 low next) number bits old new before after
leaf_more layout number bits low high next h old mid new before middle after le more kept one two =
    (among_more layout 0 0 number 0 bits (λ _. []) h 0 low high high next old mid new before middle after refl le refl more kept
    (one, λ m i b among is. absurd (omega (arith, among.0))) (two, λ m i b under is. absurd (omega (arith, under.0)))).0

-- the same was done for all nodes of a set, where those that it has more are holes
pub looks_same : (h : Held) (S1 S : ℕ → ℕ → Type 0) (k number : ℕ) (old new : List ℕ) (before after : List (Option Shared))
    → ((m i b : ℕ) → S m i → h.place m i ≡ Block b → S1 m i) → ((m i : ℕ) → S1 m i → S m i)
    → LooksUnder h S1 k number old new before after → LooksUnder h S k number old new before after
looks_same h S1 S k number old new before after split left one =
    looks_more h S1 (λ m i. ⊥) S (λ m i b here is. inl (split m i b here is)) left (λ m i never. absurd never) (λ m i n j a never same. never)
    (λ j s is. is) one (looks_none h (λ m i. ⊥) k number new after (λ m i b never is. never))

-- a node that stands as high as the one over it is that one
pub at_top : (layout : Layout) (node : FileNode) (m i : ℕ) → IsUnder layout node.height node.index m i → node.height ≤ m → IsAt node m i
at_top layout node m i under ge =
    let top : m ≡ node.height = omega (arith, under.0, ge) in
    (top, sym (itself layout node.height i) ∙ (ap (λ (n : ℕ). i / fan_out layout ^ (node.height - n)) (sym top) ∙ under.1))

pub under_top : (layout : Layout) (node : FileNode) (m i : ℕ) → IsAt node m i → IsUnder layout node.height node.index m i
under_top layout node m i at =
    (omega (arith, at.0), ap (λ (n : ℕ). i / fan_out layout ^ (node.height - n)) at.0 ∙ (itself layout node.height i ∙ at.1))

-- a node that is a hole
pub hole_marked : (layout : Layout) (blocks : ℕ) (disk : Blocks) (h : Held) (node : FileNode) (count bits : ℕ) (marks : List ℕ) (shared : List (Option Shared)) → HasNodes layout disk h node.height → h.place node.height node.index ≡ Hole
    → MarksFor h (IsUnder layout node.height node.index) node.number bits marks marks shared shared × AreIndirect layout blocks disk h count (IsUnder layout node.height node.index)
hole_marked layout blocks disk h node count bits marks shared nodes hole =
    ((λ k bit. looks_none h (IsUnder layout node.height node.index) k node.number marks shared none), λ m i b under there. absurd (none (suc m) i b under there))
  where
    none : (m i b : ℕ) → IsUnder layout node.height node.index m i → h.place m i ≡ Block b → ⊥
    none m i b under there =
        no_block (h.place m i) b (hole_under layout disk h node.height nodes (node.height - m) m i (omega (arith, under.0)) (ap (h.place node.height) under.1 ∙ hole)) there

-- a block of the file
pub leaf_marked : (layout : Layout) (blocks : ℕ) (disk : Blocks) (h : Held) (node : FileNode) (count bits : ℕ) (old new : List ℕ) (before after : List (Option Shared)) → node.height ≡ 0
    → MarksFor h (IsAt node) node.number bits old new before after
    → MarksFor h (IsUnder layout node.height node.index) node.number bits old new before after × AreIndirect layout blocks disk h count (IsUnder layout node.height node.index)
leaf_marked layout blocks disk h node count bits old new before after leaf one = (
  (λ k bit. looks_same h (IsAt node) (IsUnder layout node.height node.index) k node.number old new before after
      (λ m i b under is. at_top layout node m i under (omega (arith, leaf))) (under_top layout node) (one k bit)),
  (λ m i b under there. absurd (omega (arith, under.0, leaf))),
)

-- Under a node stand those under the nodes of the next height that its block's pointers lead to.
module _ (layout : Layout) (blocks : ℕ) (disk : Blocks) (h : Held) (node : FileNode) (height used place count : ℕ)
    (some : node.height ≢ 0) (next : height ≡ node.height - 1)
    (is : h.place node.height node.index ≡ Block place)
    (nodes : HasNodes layout disk h node.height)
    (used_is : used ≡ nodes_at layout count height - fan_out layout * node.index) where
  up : suc height ≡ node.height
  up = omega (arith, some, next)

  pub among_under : (m i : ℕ) → IsAmong layout height (fan_out layout * node.index) (fan_out layout * node.index + fan_out layout) m i → IsUnder layout node.height node.index m i
  among_under m i among =
      let one : i / fan_out layout ^ (node.height - m) ≡ i / fan_out layout ^ (height - m) / fan_out layout = ap (λ (n : ℕ). i / fan_out layout ^ (n - m)) (sym up) ∙ one_up layout height m i among.0 in
      (omega (arith, among.0, up), one ∙ group_up layout (i / fan_out layout ^ (height - m)) node.index among.1 among.2)

  pub under_among : (m i : ℕ) → IsUnder layout node.height node.index m i → m < node.height → IsAmong layout height (fan_out layout * node.index) (fan_out layout * node.index + fan_out layout) m i
  under_among m i under lt =
      let le : m ≤ height = omega (arith, lt, up) in
      let one : i / fan_out layout ^ (node.height - m) ≡ i / fan_out layout ^ (height - m) / fan_out layout = ap (λ (n : ℕ). i / fan_out layout ^ (n - m)) (sym up) ∙ one_up layout height m i le in
      let at : i / fan_out layout ^ (height - m) / fan_out layout ≡ node.index = sym one ∙ under.1 in
      (le, group_from layout (i / fan_out layout ^ (height - m)) node.index at, group_to layout (i / fan_out layout ^ (height - m)) node.index at)

  pub place_below : (r : ℕ) → r < fan_out layout → h.place height (fan_out layout * node.index + r) ≡ indirect_pointer (disk place) r
  place_below r lt =
      let over : (fan_out layout * node.index + r) / fan_out layout ≡ node.index = up_back layout node.index r lt in
      let rest : (fan_out layout * node.index + r) % fan_out layout ≡ r = pointer_back layout node.index r lt in
      nodes height (fan_out layout * node.index + r) (omega (arith, up))
      ∙ (ap (λ (n : ℕ). follow disk (h.place n ((fan_out layout * node.index + r) / fan_out layout)) ((fan_out layout * node.index + r) % fan_out layout)) up
      ∙ (ap (λ (n : ℕ). follow disk (h.place node.height n) ((fan_out layout * node.index + r) % fan_out layout)) over
      ∙ (ap (λ (n : ℕ). follow disk (h.place node.height node.index) n) rest
      ∙ ap (λ (p : Pointer). follow disk p r) is)))

  -- the node's own block
  pub own_indirect : IsIndirectBlock layout blocks used (disk place) → AreIndirect layout blocks disk h count (IsAt node)
  own_indirect good m i b at there =
      let low : height ≡ m = omega (arith, at.0, up) in
      let same : place ≡ b = block_same place b (sym is ∙ (ap (λ (n : ℕ). h.place n node.index) (sym at.0) ∙ (ap (h.place (suc m)) (sym at.1) ∙ there))) in
      let few : used ≡ nodes_at layout count m - fan_out layout * i = used_is ∙ (ap (λ (n : ℕ). nodes_at layout count n - fan_out layout * node.index) low ∙ ap (λ (n : ℕ). nodes_at layout count m - fan_out layout * n) (sym at.1)) in
      subst (λ (n : ℕ). IsIndirectBlock layout blocks n (disk b)) few (subst (λ (n : ℕ). IsIndirectBlock layout blocks used (disk n)) same good)

  pub own_bad : (IsIndirectBlock layout blocks used (disk place) → ⊥) → AreIndirect layout blocks disk h count (IsUnder layout node.height node.index) → ⊥
  own_bad bad are =
      bad (subst (λ (n : ℕ). IsIndirectBlock layout blocks n (disk place)) (sym used_is)
      (are height node.index place (under_top layout node (suc height) node.index (up, refl)) (ap (λ (n : ℕ). h.place n node.index) up ∙ is)))

  -- all of the trees had marked the block, and under it stand blocks of the file alone
  pub again_marked : (bits : ℕ) (old new : List ℕ) (before after : List (Option Shared)) → height ≡ 0 → IsIndirectBlock layout blocks used (disk place)
      → ((k : ℕ) → HasBit k bits → SharesNone after k → ⊥) → MarksFor h (IsAt node) node.number bits old new before after
      → MarksFor h (IsUnder layout node.height node.index) node.number bits old new before after × AreIndirect layout blocks disk h count (IsUnder layout node.height node.index)
  again_marked bits old new before after low good again one = (
    (λ k bit. record {
      marked = λ none. absurd (again k bit none);
      shared = λ none s told.
          let all = (one k bit).shared none s told in (
            all.0,
            under_top layout node s.second.height s.second.index all.1,
            all.2,
            elim all.3 [
              | inl mark ↦ inl mark
              | inr other ↦ inr (other.0, other.1, under_top layout node other.0 other.1 other.2, other.3, other.4)
            ],
          );
    }),
    (λ m i b under there. own_indirect good m i b (at_top layout node (suc m) i under (omega (arith, up, low))) there),
  )

  -- the pointers of the node's block lead to the nodes under it
  pub child_place : (first r index : ℕ) (bytes : List ℕ) (below : Pointer) → first ≡ fan_out layout * node.index → r < fan_out layout → index ≡ first + r
      → below ≡ indirect_pointer bytes r → bytes ≡ disk place → h.place height index ≡ below
  child_place first r index bytes below first_is low index_is below_is read =
      let at : index ≡ fan_out layout * node.index + r = omega (arith, first_is, index_is) in
      ap (h.place height) at ∙ (place_below r low ∙ sym (below_is ∙ ap (λ (x : List ℕ). indirect_pointer x r) read))

  pub child_under : (first r index : ℕ) → first ≡ fan_out layout * node.index → r < fan_out layout → index ≡ first + r → (m i : ℕ) → IsUnder layout height index m i → IsUnder layout node.height node.index m i
  child_under first r index first_is low index_is m i under =
      among_under m i (under.0, omega (arith, under.1, first_is, index_is), omega (arith, under.1, first_is, index_is, low))

  -- those behind the file's end are holes
  module _ (within : IsIndirectBlock layout blocks used (disk place)) (n : ℕ) (most : n ≤ fan_out layout) (enough : n < fan_out layout → used ≤ n) where
    hole_after : (a : ℕ) → fan_out layout * node.index + n ≤ a → a < fan_out layout * node.index + fan_out layout → h.place height a ≡ Hole
    hole_after a ge lt =
        let at : fan_out layout * node.index + (a - fan_out layout * node.index) ≡ a = omega (arith, ge) in
        let low : a - fan_out layout * node.index < fan_out layout = omega (arith, ge, lt) in
        let past : used ≤ a - fan_out layout * node.index = omega (arith, enough (omega (arith, ge, lt)), ge) in
        let within_block : a - fan_out layout * node.index < 1024 = omega (arith, low, fan_low layout) in
        ap (h.place height) (sym at) ∙ (place_below (a - fan_out layout * node.index) low ∙ (within.within (a - fan_out layout * node.index) within_block).1 (omega (arith, past)))

    split : (m i b : ℕ) → IsUnder layout node.height node.index m i → h.place m i ≡ Block b → IsAt node m i ⊎ IsAmong layout height (fan_out layout * node.index) (fan_out layout * node.index + n) m i
    split m i b under there = elim (cases_lt m node.height) [
      | inr ge ↦ inl (at_top layout node m i under ge)
      | inl lt ↦
          let among = under_among m i under lt in
          elim (cases_lt (i / fan_out layout ^ (height - m)) (fan_out layout * node.index + n)) [
            | inl before ↦ inr (among.0, among.1, before)
            | inr past ↦ absurd (no_block (h.place m i) b
                (hole_under layout disk h height (λ l j low. nodes l j (omega (arith, low, up))) (height - m) m i (omega (arith, among.0)) (hole_after (i / fan_out layout ^ (height - m)) past among.2)) there)
          ]
    ]

    pub under_marked : (now first number bits : ℕ) (old mid new : List ℕ) (before middle after : List (Option Shared)) → now ≡ blocks → first ≡ fan_out layout * node.index → KeepsShared middle after
        → MarksFor h (IsAt node) number bits old mid before middle
        → MarksFor h (IsAmong layout height first (first + n)) number bits mid new middle after × AreIndirect layout now disk h count (IsAmong layout height first (first + n))
        → MarksFor h (IsUnder layout node.height node.index) number bits old new before after × AreIndirect layout blocks disk h count (IsUnder layout node.height node.index)
    under_marked now first number bits old mid new before middle after same first_is kept one two =
        these_more h (IsAt node) (IsAmong layout height first (first + n)) (IsUnder layout node.height node.index)
        (λ m i b under there. elim (split m i b under there) [
          | inl at ↦ inl at
          | inr among ↦ inr (among.0, omega (arith, among.1, first_is), omega (arith, among.2, first_is))
        ])
        (under_top layout node) (λ m i among. among_under m i (among.0, omega (arith, among.1, first_is), omega (arith, among.2, most, first_is)))
        (λ m i k j at among same. omega (arith, at.0, same.0, among.0, up))
        layout blocks number count bits disk old mid new before middle after kept (one, own_indirect within)
        (two.0, λ m i b among there. subst (λ (x : ℕ). IsIndirectBlock layout x (nodes_at layout count m - fan_out layout * i) (disk b)) same (two.1 m i b among there))

-- NUMBERS

-- an indirect block in its grammar stands before the file's end
pub first_exact : (layout : Layout) (blocks used first i : ℕ) (bytes : List ℕ) → IsIndirectBlock layout blocks used bytes → first ≡ min (fan_out layout * i) (2 ^ 32 - 1) → (1 ≤ used → fan_out layout * i + used < 2 ^ 32) → first ≡ fan_out layout * i
first_exact layout blocks used first i bytes good is low = elim (cases_lt good.some.0 used) [
  | inl lt ↦ omega (arith, is, low (omega (arith, lt)))
  | inr ge ↦ absurd (good.some.2 ((good.within good.some.0 good.some.1).1 (omega (arith, ge))))
]

pub first_fits : (layout : Layout) (used first i end : ℕ) → first ≡ fan_out layout * i → (1 ≤ used → fan_out layout * i + used < 2 ^ 32) → end ≡ min (fan_out layout) used → first ≡ min (fan_out layout * i) (2 ^ 32 - 1) → first + end < 2 ^ 32
first_fits layout used first i end is low few most = elim (cases_lt 0 used) [
  | inl some ↦ omega (arith, is, few, low (omega (arith, some)))
  | inr none ↦ omega (arith, few, none, most)
]

pub pointer_below : (layout : Layout) (a b used r : ℕ) (bytes : List ℕ) (p : Pointer) → IsIndirectBlock layout a used bytes → r < 1024 → a ≡ b → p ≡ indirect_pointer bytes r → PointsBelow b p
pointer_below layout a b used r bytes p good low same is =
    subst (PointsBelow b) (sym is) (subst (λ (n : ℕ). PointsBelow n (indirect_pointer bytes r)) same (good.within r low).0)

-- an error is passed on
these_err : (layout : Layout) (blocks : ℕ) (disk : Blocks) (h : Held) (S1 S : ℕ → ℕ → Type 0) (number count bits : ℕ) (o n p q : List ℕ) (b a c d : List (Option Shared)) (e : CheckEnd) → ((m i : ℕ) → S1 m i → S m i)
    → MarksThese layout blocks disk h S1 number count bits o n b a (Err e) → MarksThese layout blocks disk h S number count bits p q c d (Err e)
these_err layout blocks disk h S1 S number count bits o n p q b a c d halts.NoMemory sub marked = tt
these_err layout blocks disk h S1 S number count bits o n p q b a c d halts.Device sub marked = tt
these_err layout blocks disk h S1 S number count bits o n p q b a c d (halts.Fault fault) sub marked =
    ((λ are. marked.0 (λ m i x under there. are m i x (sub (suc m) i under) there)), marked.1, marked.2)

pub err_marked : (layout : Layout) (blocks now : ℕ) (disk : Blocks) (h : Held) (S1 S : ℕ → ℕ → Type 0) (number count bits : ℕ) (o n p q : List ℕ) (b a c d : List (Option Shared)) (result : Result (Unit {0}) CheckEnd) (e : CheckEnd)
    → now ≡ blocks → IsErrAnd result (λ f. f ≡ e) → ((m i : ℕ) → S1 m i → S m i)
    → MarksThese layout now disk h S1 number count bits o n b a (Err e) → MarksThese layout blocks disk h S number count bits p q c d result
err_marked layout blocks now disk h S1 S number count bits o n p q b a c d (Ok done) e same is sub marked = absurd is
err_marked layout blocks now disk h S1 S number count bits o n p q b a c d (Err f) e same is sub marked =
    these_err layout blocks disk h S1 S number count bits o n p q b a c d f sub
    (subst (λ (x : CheckEnd). MarksThese layout blocks disk h S1 number count bits o n b a (Err x)) (sym is)
    (subst (λ (x : ℕ). MarksThese layout x disk h S1 number count bits o n b a (Err e)) same marked))
