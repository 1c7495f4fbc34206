-- The trees and the rows of their inode files, side by side.
use Rattle.std.proofs.Common.{◌≡◌, ◌∙◌, ℕ, ◌+◌, ◌*◌, ◌≤◌, List, ◌∷◌, [], length, drop, arith, ap, sym, subst, refl, inl, inr}
use Rattle.std.specs.Prelude.{◌⊎◌, ◌↔◌, Bool, true, false, not, IsTrue, Option, Some, None, slice_get, slice_index_or}
use Rattle.std.proofs.Math.Nat.{eq-or-lt_of_le}
use Rattle.std.proofs.lemmas.Bool.{cases_lt}
use Rattle.std.proofs.lemmas.List.{get_or_default}
use mathlib.Core.Bool.{beq}
use Rattle.std.proofs.lemmas.Option.{slice_get_within}
use Rattle.layout.specs.Bytes.{zeros}
use Rattle.layout.specs.Maps.{IsTaken}
use Rattle.layout.specs.Places.{Blocks}
use Rattle.layout.specs.declared.kind.Kind.{Kind}
use Rattle.layout.specs.declared.root.Root.{Root}
use Rattle.images.specs.BlockMap.{HasBit}
use Rattle.images.specs.Nodes.{file_block}
use Rattle.images.specs.Roots.{whole}
use Rattle.checker.specs.Findings.{first_fault, tree_in}
use Rattle.checker.specs.Nodes.{KeepsMarks}
use Rattle.checker.specs.Rows.{AreRows, AreTwins, IsMappedAs, KeepsTrees, MarksTrees, PlaneAt}
use Rattle.checker.specs.Trees.{AreTrees, IsOut, IsSeenTo}
use Rattle.checker.specs.declared.fault.Fault.{Fault}
use Rattle.checker.specs.declared.fault.Fault.TheVariants.{InodeMap}
use Rattle.checker.specs.declared.fault.Fault.TheVariants as faults
use Rattle.checker.specs.declared.fault.TreeFault.TheVariants.{InodeBlock}
use Rattle.checker.specs.declared.nodes.Shared.{Shared}
use Rattle.checker.specs.declared.tree.Tree.{Tree}
use Rattle.model.proofs.OptionLaws.{some_same}
use Rattle.checker.proofs.EachLaws.{Each, contained, contains, each_all, some_at}
use Rattle.checker.proofs.OutLaws.{again, out_keeps, out_or_not, seen_added, seen_out}
use Rattle.checker.proofs.SeenLaws.{stays_more, stays_none}

-- a tree is the same but for its fault
abbrev pub IsSame : Tree → Tree → Type 0
IsSame t q = record t { fault = q.fault } ≡ q

-- what is done to each tree, by the function that does it
abbrev pub Adds : ℕ → Fault → ℕ → Tree → Tree → Type 0
Adds bits fault i t q =
    IsSame t q × (HasBit t.plane bits → q.fault ≡ Some (first_fault t.fault fault)) × ((HasBit t.plane bits → ⊥) → q ≡ t)

abbrev pub Compares : ℕ → Kind → ℕ → ℕ → Tree → Tree → Type 0
Compares number kind bits i t q =
    IsSame t q × (((q ≡ t) × (HasBit t.plane bits → (IsOut t.fault → ⊥) → IsMappedAs number kind t.numbers.items))
    ⊎ (HasBit t.plane bits × (IsMappedAs number kind t.numbers.items → ⊥) × ((taken : Bool)
    × (IsTrue taken ↔ IsTaken t.numbers.items number) × (q.fault ≡ Some (first_fault t.fault (InodeMap number taken))))))

abbrev pub Ends : ℕ → List (List ℕ) → ℕ → Tree → Tree → Type 0
Ends block rows i t q =
    IsSame t q × (((q ≡ t) × (drop 4032 (slice_index_or rows i []) ≡ zeros 64))
    ⊎ ((drop 4032 (slice_index_or rows i []) ≡ zeros 64 → ⊥) × (q.fault ≡ Some (first_fault t.fault (faults.Tree (InodeBlock block))))))

-- such changes of one tree
pub same_of : (t q : Tree) (f : Option Fault) → q ≡ record t { fault = f } → IsSame t q
same_of t q f is = ap (λ (v : Tree). record t { fault = v.fault }) is ∙ sym is

pub fault_of_added : (t q : Tree) (f : Option Fault) → q ≡ record t { fault = f } → q.fault ≡ f
fault_of_added t q f is = ap (λ (v : Tree). v.fault) is

pub adds_in : (bits : ℕ) (fault : Fault) (i : ℕ) (t q : Tree) → HasBit t.plane bits → q ≡ record t { fault = Some (first_fault t.fault fault) } → Adds bits fault i t q
adds_in bits fault i t q bit is = (
  same_of t q (Some (first_fault t.fault fault)) is,
  (λ _. fault_of_added t q (Some (first_fault t.fault fault)) is),
  (λ none. absurd (none bit)),
)

pub adds_not : (bits : ℕ) (fault : Fault) (i : ℕ) (t : Tree) → (HasBit t.plane bits → ⊥) → Adds bits fault i t t
adds_not bits fault i t none = (refl, (λ bit. absurd (none bit)), (λ _. refl))

pub compares_not : (number : ℕ) (kind : Kind) (bits i : ℕ) (t : Tree) → (HasBit t.plane bits → (IsOut t.fault → ⊥) → IsMappedAs number kind t.numbers.items) → Compares number kind bits i t t
compares_not number kind bits i t mapped = (refl, inl (refl, mapped))

pub compares_in : (number : ℕ) (kind : Kind) (bits i : ℕ) (t q : Tree) (taken : Bool) → HasBit t.plane bits → (IsMappedAs number kind t.numbers.items → ⊥)
    → (IsTrue taken ↔ IsTaken t.numbers.items number) → q ≡ record t { fault = Some (first_fault t.fault (InodeMap number taken)) } → Compares number kind bits i t q
compares_in number kind bits i t q taken bit other told is = (
  same_of t q (Some (first_fault t.fault (InodeMap number taken))) is,
  inr (bit, other, (taken, told, fault_of_added t q (Some (first_fault t.fault (InodeMap number taken))) is)),
)

pub ends_not : (block : ℕ) (rows : List (List ℕ)) (i : ℕ) (t : Tree) → drop 4032 (slice_index_or rows i []) ≡ zeros 64 → Ends block rows i t t
ends_not block rows i t zero = (refl, inl (refl, zero))

pub ends_in : (block : ℕ) (rows : List (List ℕ)) (i : ℕ) (t q : Tree) → (drop 4032 (slice_index_or rows i []) ≡ zeros 64 → ⊥)
    → q ≡ record t { fault = Some (first_fault t.fault (faults.Tree (InodeBlock block))) } → Ends block rows i t q
ends_in block rows i t q other is =
    (same_of t q (Some (first_fault t.fault (faults.Tree (InodeBlock block)))) is, inr (other, fault_of_added t q (Some (first_fault t.fault (faults.Tree (InodeBlock block)))) is))

-- two tests of what is, or isn't, the same
pub tests_differ : (a b : Bool) (A U : Type 0) → not (beq a b) ≡ true → (IsTrue a ↔ A) → (IsTrue b ↔ U) → (A ↔ U) → ⊥
tests_differ true true A U is a b same = cc
tests_differ false false A U is a b same = cc
tests_differ true false A U is a b same = let yes = b.1 (same.0 (a.0 refl)) in cc
tests_differ false true A U is a b same = let yes = a.1 (same.1 (b.0 refl)) in cc

pub tests_agree : (a b : Bool) (A U : Type 0) → not (beq a b) ≡ false → (IsTrue a ↔ A) → (IsTrue b ↔ U) → A ↔ U
tests_agree true true A U is a b = ((λ _. b.0 refl), (λ _. a.0 refl))
tests_agree false false A U is a b = ((λ x. absurd (let yes = a.1 x in cc)), (λ x. absurd (let yes = b.1 x in cc)))
tests_agree true false A U is a b = absurd cc
tests_agree false true A U is a b = absurd cc

-- a row is a block of a tree's inode file
abbrev pub IsRowOf : Blocks → Root → ℕ → List (List ℕ) → ℕ → Tree → Type 0
IsRowOf disk r i rows l t =
    (IsOut t.fault → ⊥) → slice_index_or rows l (file_block (tree_in (whole disk r) t.plane 0) i) ≡ file_block (tree_in (whole disk r) t.plane 0) i

-- all trees were changed so
pub keeps : (P : ℕ → Tree → Tree → Type 0) (k : ℕ) (old new : List Tree) → ((i : ℕ) (t q : Tree) → P i t q → IsSame t q) → Each P k old new → length old ≤ k → KeepsTrees old new
keeps P k old new same each all = record {
  length_is = each.length_is;
  same = λ i t q was is. same i t q (each_all P k old new each all i t q was is);
}

-- ---- trees that are the same but for their faults

pub plane_same : (old new : List Tree) (l : ℕ) (t q : Tree) → KeepsTrees old new → slice_get old l ≡ Some t → slice_get new l ≡ Some q → t.plane ≡ q.plane
plane_same old new l t q kept was is = ap (λ (v : Tree). v.plane) (kept.same l t q was is)

pub trees_none : (trees : List Tree) → KeepsTrees trees trees
trees_none trees = record {
  length_is = refl;
  same = λ i t q was is.
      let one : t ≡ q = some_same (sym was ∙ is) in
      ap (λ (v : Tree). record t { fault = v.fault }) (sym one) ∙ one;
}

pub trees_more : (a b c : List Tree) → KeepsTrees a b → KeepsTrees b c → KeepsTrees a c
trees_more a b c first last = record {
  length_is = last.length_is ∙ first.length_is;
  same = λ i t q was is.
      let mid = some_at b i (omega (arith, first.length_is, slice_get_within a i t was)) in
      ap (λ (v : Tree). record v { fault = q.fault }) (first.same i t mid.0 was mid.1) ∙ last.same i mid.0 q mid.1 is;
}

no_plane : (a b : List Tree) (k : ℕ) → KeepsTrees a b → ((i : ℕ) → PlaneAt a i k → ⊥) → (i : ℕ) → PlaneAt b i k → ⊥
no_plane a b k kept none i at =
    let was = some_at a i (omega (arith, kept.length_is, slice_get_within b i at.0 at.1)) in
    none i (was.0, was.1, plane_same a b i was.0 at.0 kept was.1 at.1 ∙ at.2)

pub keeps_part : (k : ℕ) (old new : List Tree) → Each (λ j t q. IsSame t q) k old new → KeepsTrees old new
keeps_part k old new each = record {
  length_is = each.length_is;
  same = λ l t q was is. elim (cases_lt l k) [
    | inl low ↦ each.below l t q was is low
    | inr high ↦
        let one : t ≡ q = some_same (sym was ∙ sym (each.rest l high) ∙ is) in
        ap (λ (v : Tree). record t { fault = v.fault }) (sym one) ∙ one
  ];
}

-- parts of the check of numbers, one after the other
pub marked_none : (trees : List Tree) (marks : List ℕ) (shared : List (Option Shared)) → MarksTrees trees trees marks marks shared shared
marked_none trees marks shared = record { length_is = refl; trees = trees_none trees; others = λ k none. stays_none k marks shared }

pub marked_more : {old mid new : List Tree} {m n o : List ℕ} {x y z : List (Option Shared)} → MarksTrees old mid m n x y → MarksTrees mid new n o y z → MarksTrees old new m o x z
marked_more {old = old} {mid = mid} {new = new} {m = m} {n = n} {o = o} {x = x} {y = y} {z = z} first last = record {
  length_is = last.length_is ∙ first.length_is;
  trees = trees_more old mid new first.trees last.trees;
  others = λ k none. stays_more k m n o x y z (first.others k none) (last.others k (no_plane old mid k first.trees none));
}

-- what changes trees alone
pub marked_same : {old new : List Tree} (m : List ℕ) (x : List (Option Shared)) → KeepsTrees old new → MarksTrees old new m m x x
marked_same m x trees = record { length_is = refl; trees = trees; others = λ k none. stays_none k m x }

-- by the marks of the trees of some bits
pub marked_inode : {old new : List Tree} {m n : List ℕ} {x y : List (Option Shared)} {bits : ℕ} (rows : List (List ℕ)) (k place : ℕ) → KeepsMarks bits m n x y
    → KeepsTrees old new → AreTwins old rows k place bits → MarksTrees old new m n x y
marked_inode rows k place marked trees twins = record {
  length_is = marked.length_is;
  trees = trees;
  others = λ p none. marked.others p (λ bit. let twin = (twins p).0 bit in none twin.0 (twin.1, twin.2, twin.3));
}

-- ---- the trees of a root

pub first_plane : (old : List Tree) (t : Tree) → slice_get old 0 ≡ Some t → ((x : Tree) (rest : List Tree) → old ≡ x ∷ rest → x.plane ≡ 0) → t.plane ≡ 0
first_plane [] t is all = absurd (none_is is)
  where
    none_is : {x : Tree} → None ≡ Some x → ⊥
    none_is same = cc
first_plane (x ∷ xs) t is all = ap (λ (v : Tree). v.plane) (sym (some_same is)) ∙ all x xs refl

pub trees_again : (r : Root) (old new : List Tree) (K L : Tree → Type 0) → KeepsTrees old new → AreTrees r old K
    → ((l : ℕ) (t q : Tree) → slice_get old l ≡ Some t → slice_get new l ≡ Some q → K t → L q) → AreTrees r new L
trees_again r old new K L kept are next = record {
  first = λ q rest is.
      let at : slice_get new 0 ≡ Some q = ap (λ (xs : List Tree). slice_get xs 0) is in
      let was = some_at old 0 (omega (arith, are.some)) in
      sym (plane_same old new 0 was.0 q kept was.1 at) ∙ first_plane old was.0 was.1 are.first;
  some = omega (arith, kept.length_is, are.some);
  each = λ q has.
      let at = contained new q has in
      let was = some_at old at.0 (omega (arith, kept.length_is, slice_get_within new at.0 q at.1)) in
      next at.0 was.0 q was.1 at.1 (are.each was.0 (contains old at.0 was.0 was.1));
  all = λ k has.
      let one = are.all k has in
      let at = contained old one.0 one.1 in
      let is = some_at new at.0 (omega (arith, kept.length_is, slice_get_within old at.0 one.0 at.1)) in
      (is.0, contains new at.0 is.0 is.1, sym (plane_same old new at.0 one.0 is.0 kept at.1 is.1) ∙ one.2);
  once = λ i j t q ti qj same.
      let x = some_at old i (omega (arith, kept.length_is, slice_get_within new i t ti)) in
      let y = some_at old j (omega (arith, kept.length_is, slice_get_within new j q qj)) in
      are.once i j x.0 y.0 x.1 y.1 (plane_same old new i x.0 t kept x.1 ti ∙ same ∙ sym (plane_same old new j y.0 q kept y.1 qj));
}

pub known_at : (r : Root) (trees : List Tree) (K : Tree → Type 0) (l : ℕ) (t : Tree) → AreTrees r trees K → slice_get trees l ≡ Some t → K t
known_at r trees K l t are is = are.each t (contains trees l t is)

-- ---- the ends of the blocks

pub ends_seen : (disk : Blocks) (r : Root) (i : ℕ) (marks : List ℕ) (shared : List (Option Shared)) (old new : List Tree) (rows : List (List ℕ)) → KeepsTrees old new
    → ((l : ℕ) (t q : Tree) → slice_get old l ≡ Some t → slice_get new l ≡ Some q → Ends i rows l t q) → AreRows disk r i old rows
    → AreTrees r old (IsSeenTo disk r i (21 * i + 21) marks shared) → AreTrees r new (IsSeenTo disk r (i + 1) (21 * (i + 1)) marks shared)
ends_seen disk r i marks shared old new rows kept ends are seen =
    trees_again r old new (IsSeenTo disk r i (21 * i + 21) marks shared) (IsSeenTo disk r (i + 1) (21 * (i + 1)) marks shared) kept seen
    (λ l t q was is known. end l t q was known (ends l t q was is).0 (ends l t q was is).1 (out_or_not t.fault))
  where
    places : (21 * i + 21) ≡ 21 * (i + 1)
    places = omega arith

    row_is : (l : ℕ) (t : Tree) → slice_get old l ≡ Some t → (IsOut t.fault → ⊥) → slice_index_or rows l [] ≡ file_block (tree_in (whole disk r) t.plane 0) i
    row_is l t was inside =
        get_or_default rows l [] (file_block (tree_in (whole disk r) t.plane 0) i) (omega (arith, are.length_is, slice_get_within old l t was)) ∙ are.each l t was inside

    behind_more : (t : Tree) → drop 4032 (file_block (tree_in (whole disk r) t.plane 0) i) ≡ zeros 64 → IsSeenTo disk r i (21 * i + 21) marks shared t
        → (IsOut t.fault → ⊥) → IsSeenTo disk r (i + 1) (21 * i + 21) marks shared t
    behind_more t zero known inside = record {
      tree = known.tree;
      fault = known.fault;
      maps = known.maps;
      inodes = λ _. record {
        files = (known.inodes inside).files;
        within = (known.inodes inside).within;
        spelled = (known.inodes inside).spelled;
        behind = λ j lt. let most : j ≤ i = omega (arith, lt) in elim (eq-or-lt_of_le most) [
          | inl same ↦ subst (λ (n : ℕ). drop 4032 (file_block (tree_in (whole disk r) t.plane 0) n) ≡ zeros 64) (sym same) zero
          | inr less ↦ (known.inodes inside).behind j less
        ];
      };
      marked = known.marked;
      shared_is = known.shared_is;
      mapped = known.mapped;
    }

    to_places : (q : Tree) → IsSeenTo disk r (i + 1) (21 * i + 21) marks shared q → IsSeenTo disk r (i + 1) (21 * (i + 1)) marks shared q
    to_places q = subst (λ (n : ℕ). IsSeenTo disk r (i + 1) n marks shared q) places

    end : (l : ℕ) (t q : Tree) → slice_get old l ≡ Some t → IsSeenTo disk r i (21 * i + 21) marks shared t → IsSame t q
        → (((q ≡ t) × (drop 4032 (slice_index_or rows l []) ≡ zeros 64))
        ⊎ ((drop 4032 (slice_index_or rows l []) ≡ zeros 64 → ⊥) × (q.fault ≡ Some (first_fault t.fault (faults.Tree (InodeBlock i))))))
        → IsOut t.fault ⊎ (IsOut t.fault → ⊥) → IsSeenTo disk r (i + 1) (21 * (i + 1)) marks shared q
    end l t q was known same (inl zero) (inl out) =
        subst (IsSeenTo disk r (i + 1) (21 * (i + 1)) marks shared) (sym zero.0)
        (seen_out disk r i (21 * i + 21) (i + 1) (21 * (i + 1)) marks marks shared shared t known out)
    end l t q was known same (inl zero) (inr inside) =
        subst (IsSeenTo disk r (i + 1) (21 * (i + 1)) marks shared) (sym zero.0)
        (to_places t (behind_more t (ap (drop 4032) (sym (row_is l t was inside)) ∙ zero.1) known inside))
    end l t q was known same (inr more) (inl out) =
        let stays : record t { fault = Some (first_fault t.fault (faults.Tree (InodeBlock i))) } ≡ t = ap (λ (f : Option Fault). record t { fault = f }) (out_keeps t.fault (InodeBlock i) out) in
        subst (IsSeenTo disk r (i + 1) (21 * (i + 1)) marks shared)
        (sym (again t q (Some (first_fault t.fault (faults.Tree (InodeBlock i)))) same more.1 ∙ stays))
        (seen_out disk r i (21 * i + 21) (i + 1) (21 * (i + 1)) marks marks shared shared t known out)
    end l t q was known same (inr more) (inr inside) =
        subst (IsSeenTo disk r (i + 1) (21 * (i + 1)) marks shared) (sym (again t q (Some (first_fault t.fault (faults.Tree (InodeBlock i)))) same more.1))
        (seen_added disk r i (21 * i + 21) (i + 1) (21 * (i + 1)) marks marks shared shared t known (InodeBlock i)
        (λ grammar within. more.0 (ap (drop 4032) (row_is l t was inside) ∙ grammar.inodes.behind i)))
