-- The trees of a root, slot by slot.
use Rattle.std.proofs.Common.{◌≡◌, ◌∙◌, ◌⊎◌, ℕ, zero, suc, ◌+◌, ◌≤◌, List, [], ◌∷◌, ◌++◌, length, refl, ap, sym, subst, arith, inl, inr}
use Rattle.std.specs.Prelude.{Contains, None, Option, Some, slice_get, slice_index_or}
use Rattle.std.proofs.lemmas.Bool.{cases_lt}
use Rattle.std.proofs.lemmas.List.{get_or_past, length_push}
use Rattle.std.proofs.lemmas.List.Elements.{Contains-append_left, Contains-push, Contains-push_cases}
use Rattle.std.proofs.lemmas.Option.{slice_get_within}
use Rattle.layout.specs.Inode.{IsInode}
use Rattle.layout.specs.Places.{Blocks, pointed}
use Rattle.layout.specs.SnapRoot.{Snapshot, snapshot_in}
use Rattle.layout.specs.declared.inode.Inode.{Inode}
use Rattle.layout.specs.declared.kind.Kind.TheVariants.{InodeFile}
use Rattle.layout.specs.declared.pointer.Pointer.{Pointer}
use Rattle.layout.specs.declared.pointer.Pointer.TheVariants.{Block, Hole}
use Rattle.layout.specs.declared.root.Root.{Root}
use Rattle.layout.specs.declared.trees.Layout.{Layout}
use Rattle.images.specs.Nodes.{held}
use Rattle.images.specs.Roots.{frozen_at, frozen_inode_file, inode_file_or_free, inode_under, slot, tree, whole}
use Rattle.images.specs.Snapshots.{AreSnapshots, HasSnapshot}
use Rattle.checker.specs.Findings.{HasTree, IsNamedTree, name_bytes, tree_in}
use Rattle.checker.specs.Trees.{AreTrees, TellsSnapshot}
use Rattle.checker.specs.declared.fault.SnapshotName.{SnapshotName}
use Rattle.checker.specs.declared.fault.TreeName.TheVariants as names
use Rattle.checker.specs.declared.tree.Tree.{Tree}

-- the trees of a root and of its first so many slots
pub record AreTreesTo (r : Root) (n : ℕ) (trees : List Tree) (NumberTable : Tree → Type 0) : Type 0 where
  pub first : (t : Tree) (rest : List Tree) → trees ≡ t ∷ rest → t.plane ≡ 0
  pub some : 1 ≤ length trees
  pub each : (t : Tree) → Contains trees t → NumberTable t × (t.plane ≤ n)
  pub all : (k : ℕ) → HasTree r k → k ≤ n → (t : Tree) × Contains trees t × (t.plane ≡ k)
  pub once : (i j : ℕ) (t q : Tree) → slice_get trees i ≡ Some t → slice_get trees j ≡ Some q → t.plane ≡ q.plane → i ≡ j

get_push : (xs : List Tree) (y x : Tree) (i : ℕ) → slice_get (xs ++ y ∷ []) i ≡ Some x → (slice_get xs i ≡ Some x) ⊎ ((i ≡ length xs) × (y ≡ x))
get_push [] y x zero is = inr (refl, cc)
get_push [] y x (suc i) is = cc
get_push (z ∷ xs) y x zero is = inl is
get_push (z ∷ xs) y x (suc i) is = elim (get_push xs y x i is) [
  | inl before ↦ inl before
  | inr last ↦ inr (ap suc last.0, last.1)
]

get_contains : (xs : List Tree) (x : Tree) (i : ℕ) → slice_get xs i ≡ Some x → Contains xs x
get_contains [] x i is = cc
get_contains (z ∷ xs) x zero is = let same : z ≡ x = cc in (0, omega arith, same)
get_contains (z ∷ xs) x (suc i) is = let rest = get_contains xs x i is in (suc rest.0, omega (arith, rest.1), rest.2)

one_first : (xs : List Tree) (y t : Tree) (rest : List Tree) → ((q : Tree) (more : List Tree) → xs ≡ q ∷ more → q.plane ≡ 0) → 1 ≤ length xs → xs ++ y ∷ [] ≡ t ∷ rest → t.plane ≡ 0
one_first [] y t rest first some is = absurd (omega (arith, some))
one_first (x ∷ xs) y t rest first some is = let same : x ≡ t = cc in ap (λ (q : Tree). q.plane) (sym same) ∙ first x xs refl

module _ (r : Root) (n : ℕ) (trees : List Tree) (NumberTable : Tree → Type 0) (are : AreTreesTo r n trees NumberTable) where
  pub trees_skip : (HasTree r (n + 1) → ⊥) → AreTreesTo r (n + 1) trees NumberTable
  trees_skip none = record {
    first = are.first;
    some = are.some;
    each = λ t there. ((are.each t there).0, omega (arith, (are.each t there).1));
    all = λ k has le. elim (cases_lt k (n + 1)) [
      | inl lt ↦ are.all k has (omega (arith, lt))
      | inr ge ↦ (let at : k ≡ n + 1 = omega (arith, le, ge) in absurd (none (subst (HasTree r) at has)))
    ];
    once = are.once;
  }

  -- one more
  module _ (Now : Tree → Type 0) (more : List Tree) (t : Tree) (is : more ≡ trees ++ t ∷ []) (plane : t.plane ≡ n + 1) (known : Now t) (keeps : (q : Tree) → q.plane ≤ n → NumberTable q → Now q) where
    apart : (q : Tree) (i : ℕ) → slice_get trees i ≡ Some q → q.plane ≡ n + 1 → ⊥
    apart q i there same = omega (arith, (are.each q (get_contains trees q i there)).1, same)

    once_more : (i j : ℕ) (p q : Tree) → slice_get (trees ++ t ∷ []) i ≡ Some p → slice_get (trees ++ t ∷ []) j ≡ Some q → p.plane ≡ q.plane → i ≡ j
    once_more i j p q one other same = elim (get_push trees t p i one) [
      | inl a ↦ elim (get_push trees t q j other) [
        | inl b ↦ are.once i j p q a b same
        | inr b ↦ absurd (apart p i a (same ∙ ap (λ (x : Tree). x.plane) (sym b.1) ∙ plane))
      ]
      | inr a ↦ elim (get_push trees t q j other) [
        | inl b ↦ absurd (apart q j b (sym same ∙ ap (λ (x : Tree). x.plane) (sym a.1) ∙ plane))
        | inr b ↦ a.0 ∙ sym b.0
      ]
    ]

    pub trees_push : AreTreesTo r (n + 1) more Now
    trees_push = subst (λ (xs : List Tree). AreTreesTo r (n + 1) xs Now) (sym is) (record {
      first = λ q rest same. one_first trees t q rest are.first are.some same;
      some = omega (arith, length_push trees t);
      each = λ q there. elim (Contains-push_cases trees t q there) [
        | inl before ↦ (keeps q (are.each q before).1 (are.each q before).0, omega (arith, (are.each q before).1))
        | inr last ↦ (subst Now last known, omega (arith, ap (λ (x : Tree). x.plane) last, plane))
      ];
      all = λ k has le. elim (cases_lt k (n + 1)) [
        | inl lt ↦ (let one = are.all k has (omega (arith, lt)) in (one.0, Contains-append_left trees (t ∷ []) one.0 one.1, one.2))
        | inr ge ↦ (t, Contains-push trees t, omega (arith, plane, le, ge))
      ];
      once = once_more;
    })

-- the root's own
pub trees_start : (r : Root) (NumberTable : Tree → Type 0) (trees : List Tree) (t : Tree) → trees ≡ [] ++ t ∷ [] → t.plane ≡ 0 → NumberTable t → AreTreesTo r 0 trees NumberTable
trees_start r NumberTable trees t is plane known = subst (λ (xs : List Tree). AreTreesTo r 0 xs NumberTable) (sym is) (record {
  first = λ q rest same. let at : t ≡ q = cc in ap (λ (x : Tree). x.plane) (sym at) ∙ plane;
  some = omega arith;
  each = λ q there. elim (Contains-push_cases [] t q there) [
    | inl before ↦ absurd (omega (arith, before.1))
    | inr last ↦ (subst NumberTable last known, omega (arith, ap (λ (x : Tree). x.plane) last, plane))
  ];
  all = λ k has le. (t, Contains-push [] t, omega (arith, plane, le));
  once = λ i j p q one other same. omega (arith, slice_get_within (t ∷ []) i p one, slice_get_within (t ∷ []) j q other);
})

pub tree_lies : (r : Root) (k : ℕ) → HasTree r k → k ≤ length r.snapshots
tree_lies r zero has = omega arith
tree_lies r (suc k) has = elim (cases_lt k (length r.snapshots)) [
  | inl lt ↦ omega (arith, lt)
  | inr ge ↦ (let none : slice_index_or r.snapshots k Hole ≡ Hole = get_or_past r.snapshots k Hole ge in let is = has.1 in cc)
]

-- all
pub trees_end : (r : Root) (trees : List Tree) (NumberTable : Tree → Type 0) (n : ℕ) → length r.snapshots ≤ n → AreTreesTo r n trees NumberTable → AreTrees r trees NumberTable
trees_end r trees NumberTable n most are = record {
  first = are.first;
  some = are.some;
  each = λ t there. (are.each t there).0;
  all = λ k has. are.all k has (omega (arith, most, tree_lies r k has));
  once = are.once;
}

pub tree_at : (r : Root) (k b : ℕ) (p : Pointer) → slice_index_or r.snapshots k Hole ≡ p → p ≡ Block b → HasTree r (k + 1)
tree_at r k b p there is = let next : suc k ≡ k + 1 = omega arith in subst (HasTree r) next (b, there ∙ is)

pub active_top : (disk : Blocks) (r : Root) → (tree_in (whole disk r) 0 0).inode ≡ r.inode_file
unfolding whole tree inode_under held
active_top disk r = refl

-- ---- what snapshots' root blocks tell

frozen_is : (disk : Blocks) (r : Root) (k b : ℕ) → slot r (suc k) ≡ Block b → (tree_in (whole disk r) (suc k) 0).inode ≡ frozen_inode_file r.geometry.layout (disk b)
unfolding whole tree inode_under held frozen_inode_file
frozen_is disk r k b is = ap (λ (p : Pointer). (frozen_at disk r.geometry p 0).inode) is

module _ (disk : Blocks) (r : Root) (are : AreSnapshots r (whole disk r)) where
  -- this name and inode of an inode file are those of the snapshot in slot k
  pub record IsOfSnapshot (k : ℕ) (f : SnapshotName × Inode) : Type 0 where
    pub fits : IsInode r.geometry f.1
    pub top : (tree_in (whole disk r) k 0).inode ≡ f.1
    pub kind : f.1.kind ≡ InodeFile
    pub snapshot : Snapshot
    pub has : HasSnapshot r (whole disk r) k snapshot
    pub named : snapshot.name ≡ name_bytes f.0

  told_none : (k : ℕ) (p : Pointer) → slot r (suc k) ≡ p → TellsSnapshot r.geometry.layout disk p None → HasTree r (suc k) → ⊥
  unfolding whole
  told_none k Hole is told has = (let there = has.1 in cc)
  told_none k (Block b) is told has =
      let one = are.each (suc k) b is in
      told one.0 (record { is = one.2.is; layout_is = one.2.inode_file.layout; spelled = sym (ap (pointed disk) is) ∙ one.2.spelled })

  pub no_tree : (k : ℕ) (p : Pointer) → slice_index_or r.snapshots k Hole ≡ p → TellsSnapshot r.geometry.layout disk p None → HasTree r (k + 1) → ⊥
  no_tree k p is told has = let next : k + 1 ≡ suc k = omega arith in told_none k p is told (subst (HasTree r) next has)

  told_some : (k : ℕ) (p : Pointer) (f : SnapshotName × Inode) → slot r (suc k) ≡ p
      → TellsSnapshot r.geometry.layout disk p (Some f) → IsOfSnapshot (suc k) f
  unfolding whole frozen_inode_file
  told_some k Hole f is told = absurd (let same : Some f ≡ None = told in cc)
  told_some k (Block b) f is told =
      let one = are.each (suc k) b is in
      let read : snapshot_in r.geometry.layout (disk b) ≡ Some one.0 =
      ap (λ (p : Pointer). snapshot_in r.geometry.layout (pointed disk p)) (sym is) ∙ one.1.read in
      let inode : frozen_inode_file r.geometry.layout (disk b) ≡ f.1 =
      ap (inode_file_or_free r.geometry.layout) told.1 ∙ told.3 in
      let at : frozen_inode_file r.geometry.layout (disk b) ≡ one.0.inode_file = ap (inode_file_or_free r.geometry.layout) read in record {
        fits = subst (IsInode r.geometry) (sym at ∙ inode) one.2.inode_file;
        top = frozen_is disk r k b is ∙ inode;
        kind = ap (λ (x : Inode). x.kind) (sym inode ∙ at) ∙ one.2.is.kind;
        snapshot = told.0;
        has = record {
          block = b;
          there = is;
          read = ap (λ (p : Pointer). snapshot_in r.geometry.layout (pointed disk p)) is ∙ told.1;
        };
        named = told.2;
      }

  pub snapshot_tree : (k : ℕ) (p : Pointer) (f : SnapshotName × Inode)
      → slice_index_or r.snapshots k Hole ≡ p → TellsSnapshot r.geometry.layout disk p (Some f)
      → IsOfSnapshot (k + 1) f
  snapshot_tree k p f is told =
      let next : suc k ≡ k + 1 = omega arith in
      subst (λ (m : ℕ). IsOfSnapshot m f) next (told_some k p f is told)

  -- so its tree has this name
  pub tree_named : (k : ℕ) (f : SnapshotName × Inode) → IsOfSnapshot k f
      → IsNamedTree r (whole disk r) (names.Snapshot k f.0) k
  tree_named k f of = (refl, of.snapshot, of.has, of.named)

-- what was read of a slot
pub told_of : (layout : Layout) (disk : Blocks) (p : Pointer) (o x : Option (SnapshotName × Inode)) → o ≡ x
    → TellsSnapshot layout disk p o → TellsSnapshot layout disk p x
told_of layout disk p o x is told = subst (TellsSnapshot layout disk p) is told
