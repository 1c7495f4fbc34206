-- The trees while a number is looked at: of some it was already, with all that have the same inode there.
use Rattle.std.proofs.Common.{◌≡◌, ◌∙◌, ℕ, ◌+◌, ◌/◌, ◌%◌, ◌<◌, ◌≤◌, List, [], length, refl, ap, arith, sym, subst, inl, inr}
use Rattle.std.specs.Prelude.{◌⊎◌, ◌↔◌, Option, Some, slice_get, slice_index_or}
use Rattle.std.specs.Int.{bit_at}
use Rattle.std.proofs.lemmas.Bool.{cases_eq, cases_lt}
use Rattle.std.proofs.lemmas.List.{get_or_default}
use Rattle.std.proofs.lemmas.Nat.Bits.{bit_at-zero}
use Rattle.std.proofs.lemmas.Option.{slice_get_within}
use Rattle.layout.specs.Places.{Blocks}
use Rattle.layout.specs.declared.root.Root.{Root}
use Rattle.images.specs.BlockMap.{HasBit}
use Rattle.images.specs.Nodes.{file_block}
use Rattle.images.specs.Roots.{inode_bytes_at, inode_part, whole}
use Rattle.checker.specs.Findings.{tree_in}
use Rattle.checker.specs.Nodes.{KeepsMarks}
use Rattle.checker.specs.Rows.{AreRows, AreTwins, KeepsTrees, SeesInode}
use Rattle.checker.specs.Trees.{AreTrees, IsOut, IsSeenTo}
use Rattle.checker.specs.declared.nodes.Shared.{Shared}
use Rattle.checker.specs.declared.tree.Tree.{Tree}
use Rattle.model.proofs.OptionLaws.{some_same}
use Rattle.checker.proofs.EachLaws.{some_at}
use Rattle.checker.proofs.OutLaws.{seen_out}
use Rattle.checker.proofs.RowLaws.{known_at, plane_same, trees_again, trees_none}
use Rattle.checker.proofs.SeenLaws.{seen_stays}

pub bit_or_not : (k x : ℕ) → HasBit k x ⊎ (HasBit k x → ⊥)
bit_or_not k x = cases_eq (bit_at x k) 1

abbrev pub HasSameInode : List (List ℕ) → ℕ → ℕ → ℕ → Type 0
HasSameInode rows place l m = inode_part (slice_index_or rows l []) place ≡ inode_part (slice_index_or rows m []) place

-- the trees before place k were looked at, and all that have the same inode as one of them: done tells them
pub record IsBetween (disk : Blocks) (r : Root) (i n place done k : ℕ) (marks : List ℕ) (shared : List (Option Shared)) (rows : List (List ℕ)) (trees : List Tree) : Type 0 where
  pub are : AreTrees r trees (λ t. IsSeenTo disk r i n marks shared t ⊎ IsSeenTo disk r i (n + 1) marks shared t)
  pub rows_are : AreRows disk r i trees rows
  pub seen : (l : ℕ) (t : Tree) → slice_get trees l ≡ Some t → HasBit t.plane done → IsSeenTo disk r i (n + 1) marks shared t
  pub left : (l : ℕ) (t : Tree) → slice_get trees l ≡ Some t → (HasBit t.plane done → ⊥) → IsSeenTo disk r i n marks shared t
  pub passed : (l : ℕ) (t : Tree) → slice_get trees l ≡ Some t → l < k → IsOut t.fault ⊎ HasBit t.plane done
  pub closed : (l m : ℕ) (t u : Tree) → slice_get trees l ≡ Some t → slice_get trees m ≡ Some u → k ≤ l → k ≤ m → (IsOut t.fault → ⊥) → (IsOut u.fault → ⊥)
      → HasSameInode rows place l m → HasBit t.plane done → HasBit u.plane done

no_bit : (k : ℕ) → HasBit k 0 → ⊥
no_bit k is = omega (arith, is, bit_at-zero k)

module _ (disk : Blocks) (r : Root) (i n place : ℕ) (marks : List ℕ) (shared : List (Option Shared)) (rows : List (List ℕ)) (trees : List Tree) where
  pub between_start : AreRows disk r i trees rows → AreTrees r trees (IsSeenTo disk r i n marks shared) → IsBetween disk r i n place 0 0 marks shared rows trees
  between_start are seen = record {
    are = trees_again r trees trees (IsSeenTo disk r i n marks shared) (λ t. IsSeenTo disk r i n marks shared t ⊎ IsSeenTo disk r i (n + 1) marks shared t)
        (trees_none trees) seen (λ l t q was is known. inl (subst (IsSeenTo disk r i n marks shared) (some_same (sym was ∙ is)) known));
    rows_are = are;
    seen = λ l t is bit. absurd (no_bit t.plane bit);
    left = λ l t is none. known_at r trees (IsSeenTo disk r i n marks shared) l t seen is;
    passed = λ l t is low. absurd (omega (arith, low));
    closed = λ l m t u tl um a b x y same bit. absurd (no_bit t.plane bit);
  }

  -- a tree that isn't looked at
  pub between_skip : (done k : ℕ) (t : Tree) → IsBetween disk r i n place done k marks shared rows trees → slice_get trees k ≡ Some t → IsOut t.fault ⊎ HasBit t.plane done
      → IsBetween disk r i n place done (k + 1) marks shared rows trees
  between_skip done k t so at here = record {
    are = so.are;
    rows_are = so.rows_are;
    seen = so.seen;
    left = so.left;
    passed = λ l u is low. elim (cases_lt l k) [
      | inl less ↦ so.passed l u is less
      | inr high ↦
          let same : l ≡ k = omega (arith, low, high) in
          subst (λ (v : Tree). IsOut v.fault ⊎ HasBit v.plane done) (some_same (sym at ∙ ap (slice_get trees) (sym same) ∙ is)) here
    ];
    closed = λ l m u v ul vm a b. so.closed l m u v ul vm (omega (arith, a)) (omega (arith, b));
  }

  -- all were looked at
  pub between_end : (done k : ℕ) → IsBetween disk r i n place done k marks shared rows trees → length trees ≤ k → AreTrees r trees (IsSeenTo disk r i (n + 1) marks shared)
  between_end done k so all =
      trees_again r trees trees (λ t. IsSeenTo disk r i n marks shared t ⊎ IsSeenTo disk r i (n + 1) marks shared t) (IsSeenTo disk r i (n + 1) marks shared)
      (trees_none trees) so.are (λ l t q was is known. ended l q is (so.passed l q is (omega (arith, all, slice_get_within trees l q is))) (bit_or_not q.plane done))
    where
      ended : (l : ℕ) (q : Tree) → slice_get trees l ≡ Some q → IsOut q.fault ⊎ HasBit q.plane done → HasBit q.plane done ⊎ (HasBit q.plane done → ⊥)
          → IsSeenTo disk r i (n + 1) marks shared q
      ended l q is passed (inl bit) = so.seen l q is bit
      ended l q is (inr bit) (inr none) = absurd (none bit)
      ended l q is (inl out) (inr none) = seen_out disk r i n i (n + 1) marks marks shared shared q (so.left l q is none) out

  module _ (done k bits more : ℕ) (bytes new : List ℕ) (after : List (Option Shared)) (next : List Tree) (t : Tree) (so : IsBetween disk r i n place done k marks shared rows trees) (at : slice_get trees k ≡ Some t) (inside : IsOut t.fault → ⊥) (fresh : HasBit t.plane done → ⊥) (are_twins : AreTwins trees rows k place bits) (joined : (p : ℕ) → HasBit p more ↔ (HasBit p done ⊎ HasBit p bits)) (keeps : KeepsMarks bits marks new shared after) (kept : KeepsTrees trees next) (others : (l : ℕ) (x y : Tree) → slice_get trees l ≡ Some x → slice_get next l ≡ Some y → (HasBit x.plane bits → ⊥) → y ≡ x) (is_bytes : bytes ≡ inode_part (slice_index_or rows k []) place) (block : n / 21 ≡ i) (spot : n % 21 ≡ place) (sees : SeesInode disk r bits bytes n (IsSeenTo disk r i n marks shared) (IsSeenTo disk r i (n + 1) new after) trees next) where
    -- a tree of these bits
    twin : (l : ℕ) (x : Tree) → slice_get trees l ≡ Some x → HasBit x.plane bits → (k ≤ l) × (IsOut x.fault → ⊥) × HasSameInode rows place l k
    twin l x is bit = found ((are_twins x.plane).0 bit)
      where
        found : (m : ℕ) × (u : Tree) × (slice_get trees m ≡ Some u) × (u.plane ≡ x.plane) × ((m ≡ k) ⊎ ((k < m) × (IsOut u.fault → ⊥) × HasSameInode rows place m k))
            → (k ≤ l) × (IsOut x.fault → ⊥) × HasSameInode rows place l k
        found one =
            let same : l ≡ one.0 = so.are.once l one.0 x one.1 is one.2 (sym one.3) in
            let tree : one.1 ≡ x = some_same (sym one.2 ∙ ap (slice_get trees) (sym same) ∙ is) in
            elim one.4 [
              | inl itself ↦
                  let here : l ≡ k = same ∙ itself in
                  let own : t ≡ x = some_same (sym at ∙ ap (slice_get trees) (sym here) ∙ is) in (
                    omega (arith, here),
                    subst (λ (v : Tree). IsOut v.fault → ⊥) own inside,
                    ap (λ (m : ℕ). inode_part (slice_index_or rows m []) place) here,
                  )
              | inr later ↦ (
                omega (arith, same, later.0),
                subst (λ (v : Tree). IsOut v.fault → ⊥) tree later.1,
                ap (λ (m : ℕ). inode_part (slice_index_or rows m []) place) same ∙ later.2,
              )
            ]

    not_done : (l : ℕ) (x : Tree) → slice_get trees l ≡ Some x → HasBit x.plane bits → HasBit x.plane done → ⊥
    not_done l x is bit old =
        let same = twin l x is bit in
        fresh (so.closed l k x t is at same.0 (omega arith) same.1 inside same.2 old)

    bytes_of : (l : ℕ) (x : Tree) → slice_get trees l ≡ Some x → HasBit x.plane bits → bytes ≡ inode_bytes_at (file_block (tree_in (whole disk r) x.plane 0)) n
    bytes_of l x is bit =
        let same = twin l x is bit in
        let row : slice_index_or rows l [] ≡ file_block (tree_in (whole disk r) x.plane 0) i =
        get_or_default rows l [] (file_block (tree_in (whole disk r) x.plane 0) i) (omega (arith, so.rows_are.length_is, slice_get_within trees l x is)) ∙ so.rows_are.each l x is same.1 in
        is_bytes ∙ sym same.2 ∙ ap (λ (b : List ℕ). inode_part b place) row
        ∙ ap (λ (j : ℕ). inode_part (file_block (tree_in (whole disk r) x.plane 0) j) place) (sym block)
        ∙ ap (λ (p : ℕ). inode_part (file_block (tree_in (whole disk r) x.plane 0) (n / 21)) p) (sym spot)

    -- a tree and what it was
    was_at : (l : ℕ) (y : Tree) → slice_get next l ≡ Some y → (x : Tree) × (slice_get trees l ≡ Some x)
    was_at l y is = some_at trees l (omega (arith, kept.length_is, slice_get_within next l y is))

    done_of : (l : ℕ) (x y : Tree) → slice_get trees l ≡ Some x → slice_get next l ≡ Some y → HasBit y.plane more → HasBit x.plane done ⊎ HasBit x.plane bits
    done_of l x y was is bit = (joined x.plane).0 (subst (λ (p : ℕ). HasBit p more) (sym (plane_same trees next l x y kept was is)) bit)

    more_of : (l : ℕ) (x y : Tree) → slice_get trees l ≡ Some x → slice_get next l ≡ Some y → HasBit x.plane done ⊎ HasBit x.plane bits → HasBit y.plane more
    more_of l x y was is either = subst (λ (p : ℕ). HasBit p more) (plane_same trees next l x y kept was is) ((joined x.plane).1 either)

    was_inside : (l : ℕ) (x y : Tree) → slice_get trees l ≡ Some x → slice_get next l ≡ Some y → (IsOut y.fault → ⊥) → IsOut x.fault → ⊥
    was_inside l x y was is out = elim (bit_or_not x.plane bits) [
      | inl bit ↦ (twin l x was bit).1
      | inr none ↦ subst (λ (v : Tree). IsOut v.fault → ⊥) (others l x y was is none) out
    ]

    seen_of : (l : ℕ) (x y : Tree) → slice_get trees l ≡ Some x → slice_get next l ≡ Some y → HasBit x.plane done ⊎ HasBit x.plane bits → HasBit x.plane bits ⊎ (HasBit x.plane bits → ⊥)
        → IsSeenTo disk r i (n + 1) new after y
    seen_of l x y was is either (inl bit) = sees l x y was is bit (twin l x was bit).1 (bytes_of l x was bit) (so.left l x was (not_done l x was bit))
    seen_of l x y was is (inr bit) (inr none) = absurd (none bit)
    seen_of l x y was is (inl old) (inr none) =
        subst (IsSeenTo disk r i (n + 1) new after) (sym (others l x y was is none))
        (seen_stays disk r i (n + 1) marks new shared after x (keeps.others x.plane none) (so.seen l x was old))

    left_of : (l : ℕ) (x y : Tree) → slice_get trees l ≡ Some x → slice_get next l ≡ Some y → (HasBit y.plane more → ⊥) → IsSeenTo disk r i n new after y
    left_of l x y was is unmet =
        let none : HasBit x.plane bits → ⊥ = λ bit. unmet (more_of l x y was is (inr bit)) in
        subst (IsSeenTo disk r i n new after) (sym (others l x y was is none))
        (seen_stays disk r i n marks new shared after x (keeps.others x.plane none) (so.left l x was (λ old. unmet (more_of l x y was is (inl old)))))

    passed_of : (l : ℕ) (x y : Tree) → slice_get trees l ≡ Some x → slice_get next l ≡ Some y → (l < k) ⊎ (k ≤ l) → l < k + 1 → IsOut y.fault ⊎ HasBit y.plane more
    passed_of l x y was is (inl less) low = elim (so.passed l x was less) [
      | inl out ↦ inl (subst (λ (v : Tree). IsOut v.fault) (sym (others l x y was is (λ bit. (twin l x was bit).1 out))) out)
      | inr old ↦ inr (more_of l x y was is (inl old))
    ]
    passed_of l x y was is (inr high) low =
        let same : l ≡ k = omega (arith, low, high) in
        let own : t ≡ x = some_same (sym at ∙ ap (slice_get trees) (sym same) ∙ was) in
        inr (more_of l x y was is (inr (subst (λ (v : Tree). HasBit v.plane bits) own ((are_twins t.plane).1 (k, t, at, refl, inl refl)))))

    closed_of : (l m : ℕ) (x y u v : Tree) → slice_get trees l ≡ Some x → slice_get next l ≡ Some y → slice_get trees m ≡ Some u → slice_get next m ≡ Some v → k + 1 ≤ l → k + 1 ≤ m
        → (IsOut x.fault → ⊥) → (IsOut u.fault → ⊥) → HasSameInode rows place l m → HasBit x.plane done ⊎ HasBit x.plane bits → HasBit u.plane done ⊎ HasBit u.plane bits
    closed_of l m x y u v xl yl um vm a b out out_u same (inl old) = inl (so.closed l m x u xl um (omega (arith, a)) (omega (arith, b)) out out_u same old)
    closed_of l m x y u v xl yl um vm a b out out_u same (inr bit) =
        inr ((are_twins u.plane).1 (m, u, um, refl, inr (omega (arith, b), out_u, sym same ∙ (twin l x xl bit).2)))

    pub between_more : IsBetween disk r i n place more (k + 1) new after rows next
    between_more = record {
      are = trees_again r trees next (λ v. IsSeenTo disk r i n marks shared v ⊎ IsSeenTo disk r i (n + 1) marks shared v)
          (λ v. IsSeenTo disk r i n new after v ⊎ IsSeenTo disk r i (n + 1) new after v) kept so.are
          (λ l x y was is known. elim (bit_or_not y.plane more) [
            | inl bit ↦ inr (seen_of l x y was is (done_of l x y was is bit) (bit_or_not x.plane bits))
            | inr unmet ↦ inl (left_of l x y was is unmet)
          ]);
      rows_are = record {
        length_is = so.rows_are.length_is ∙ sym kept.length_is;
        each = λ l y is out.
            let x = was_at l y is in
            subst (λ (p : ℕ). slice_index_or rows l (file_block (tree_in (whole disk r) p 0) i) ≡ file_block (tree_in (whole disk r) p 0) i) (plane_same trees next l x.0 y kept x.1 is)
            (so.rows_are.each l x.0 x.1 (was_inside l x.0 y x.1 is out));
      };
      seen = λ l y is bit. let x = was_at l y is in seen_of l x.0 y x.1 is (done_of l x.0 y x.1 is bit) (bit_or_not x.0.plane bits);
      left = λ l y is unmet. let x = was_at l y is in left_of l x.0 y x.1 is unmet;
      passed = λ l y is low. let x = was_at l y is in passed_of l x.0 y x.1 is (cases_lt l k) low;
      closed = λ l m y v yl vm a b out out_v same bit.
          let x = was_at l y yl in
          let u = was_at m v vm in
          more_of m u.0 v u.1 vm (closed_of l m x.0 y u.0 v x.1 yl u.1 vm a b (was_inside l x.0 y x.1 yl out) (was_inside m u.0 v u.1 vm out_v) same (done_of l x.0 y x.1 yl bit));
    }
