-- Blocks of the trees' inode files that are read.
use Rattle.std.proofs.Common.{◌≡◌, ◌∙◌, ℕ, ◌≢◌, ◌+◌, ◌*◌, ◌/◌, ◌%◌, ◌<◌, ◌≤◌, List, ◌++◌, ◌∷◌, [], length, set, ap, arith, refl, sym, subst, inl, inr}
use Rattle.std.specs.Prelude.{Option, Some, slice_get, slice_index_or}
use Rattle.std.proofs.Math.Nat.{eq-or-lt_of_le}
use Rattle.std.proofs.lemmas.List.{get_or_append_left, get_or_push}
use Rattle.std.proofs.lemmas.Option.{slice_get_within}
use Rattle.layout.specs.Inode.{inode_bytes}
use Rattle.layout.specs.Limits.{Sizes}
use Rattle.layout.specs.Places.{Blocks, pointed}
use Rattle.layout.specs.declared.pointer.Pointer.{Pointer}
use Rattle.layout.specs.declared.root.Root.{Root}
use Rattle.buffers.specs.Disks.{IsWhole}
use Rattle.blocktree.specs.PlaceMaps.{AreBelow, place_at}
use Rattle.blocktree.specs.Trees.{AreSound}
use Rattle.blocktree.specs.declared.place_map.PlaceMap.{PlaceMap}
use Rattle.inode.specs.declared.file.File.{File}
use Rattle.images.specs.Faults.{IsTreeGrammar}
use Rattle.images.specs.Soundness.{IsFileGrammar}
use Rattle.images.specs.Nodes.{Held, file_block, held}
use Rattle.images.specs.Roots.{inode_part, whole}
use Rattle.checker.specs.Findings.{tree_in}
use Rattle.checker.specs.Rows.{AreAllBelow, ArePlacesOfTrees, AreRows, KeepsTrees, LeadsToRow, LeadsToRows}
use Rattle.checker.specs.Tables.{ArePlaces}
use Rattle.checker.specs.Trees.{AreTrees, IsOut, IsSeenTo, IsTreeAt, IsTreeOf}
use Rattle.checker.specs.declared.nodes.Shared.{Shared}
use Rattle.checker.specs.declared.tree.Tree.{Tree}
use Rattle.checker.proofs.HeldLaws.{grammar_at, top_is, top_readable}
use Rattle.checker.proofs.OwnerLaws.{AreAllSound, file_sound}
use Rattle.checker.proofs.PlaceLaws.{places_are, stored_at, top_large, whole_at}
use Rattle.model.proofs.OptionLaws.{some_same}
use Rattle.model.proofs.ListLaws.{get_others, get_pushed}
use Rattle.checker.proofs.EachLaws.{Each, get_set, some_at}
use Rattle.checker.proofs.RowLaws.{IsRowOf, IsSame, known_at, trees_again}

module _ (disk : Blocks) (r : Root) (i : ℕ) (t : Tree) (is : IsTreeOf disk r t) where
  top_file : IsFileGrammar r.geometry (tree_in (whole disk r) t.plane 0) → IsFileGrammar r.geometry (held disk t.top)
  top_file grammar = subst (IsFileGrammar r.geometry) (top_is disk r t is) grammar

  top_place : (tree_in (whole disk r) t.plane 0).place 0 i ≡ (held disk t.top).place 0 i
  top_place = ap (λ (h : Held). h.place 0 i) (top_is disk r t is)

  -- where a block is
  pub leads_to_row : (all : AreAllSound) (blocks : ℕ) (p : PlaceMap) (pointer : Pointer) → blocks ≡ r.geometry.blocks → 1 ≤ r.geometry.inodes → pointer ≡ place_at p i
      → (AreSound blocks disk t.file.tree → ArePlaces disk t.file.tree p) → LeadsToRow disk r i t pointer
  leads_to_row all blocks p pointer same some at are grammar =
      let top = top_file grammar in
      at ∙ places_are r.geometry disk t.top t.file.tree p i (top_large disk r t is some) top is.file.starts (are (file_sound all r.geometry disk t.top t.file blocks top is.file same))
      ∙ sym top_place

  -- one that was read
  pub row_read : (row : List ℕ) (pointer : Pointer) → 1 ≤ r.geometry.inodes → row ≡ pointed disk pointer → LeadsToRow disk r i t pointer → IsFileGrammar r.geometry (tree_in (whole disk r) t.plane 0)
      → row ≡ file_block (tree_in (whole disk r) t.plane 0) i
  row_read row pointer some read leads grammar =
      read ∙ ap (pointed disk) (leads grammar ∙ top_place) ∙ sym (stored_at r.geometry disk t.top i (top_large disk r t is some) (top_file grammar))
      ∙ sym (ap (λ (h : Held). file_block h i) (top_is disk r t is))

  -- one that can't be read
  pub row_damaged : (pointer : Pointer) → (IsWhole (pointed disk pointer) → ⊥) → LeadsToRow disk r i t pointer → IsTreeGrammar r.geometry (tree_in (whole disk r) t.plane) → ⊥
  row_damaged pointer damaged leads grammar =
      damaged (whole_at disk t.top i pointer (top_readable disk r r.geometry t is grammar) (sym (leads (grammar.files 0) ∙ top_place)))

-- where all of them are
pub leads_to_rows : (disk : Blocks) (r : Root) (t : Tree) → AreAllSound → (p : PlaceMap) {s : Sizes} {blocks : ℕ} → IsTreeAt disk r s blocks t → (AreSound blocks disk t.file.tree → ArePlaces disk t.file.tree p)
    → LeadsToRows disk r t p
leads_to_rows disk r t all p {blocks = blocks} at are i = leads_to_row disk r i t at.tree all blocks p (place_at p i) at.over.count (omega (arith, at.over.root.head.sizes.least_inodes)) refl are

-- the bytes of a number, in a block that was read
pub part_read : (disk : Blocks) (r : Root) (s : Sizes) {blocks : ℕ} (n : ℕ) (t : Tree) (row : List ℕ) (pointer : Pointer) → IsTreeAt disk r s blocks t
    → row ≡ pointed disk pointer → LeadsToRow disk r (n / 21) t pointer → 1 ≤ n → n < s.inodes → inode_part row (n % 21) ≡ inode_bytes (tree_in (whole disk r) t.plane n).inode
part_read disk r s n t row pointer at read leads some low =
    let inodes : r.geometry.inodes ≡ s.inodes = ap (λ (x : Sizes). x.inodes) at.over.geometry in
    ap (λ (bytes : List ℕ). inode_part bytes (n % 21)) (row_read disk r (n / 21) t at.tree row pointer (omega (arith, low, inodes)) read leads (at.grammar.files 0)) ∙ (grammar_at at).inodes.each n some low

-- where one of the blocks is
pub leads_at : (disk : Blocks) (r : Root) (t : Tree) (places : PlaceMap) (n : ℕ) (p : Pointer) → p ≡ place_at places (n / 21) → LeadsToRows disk r t places → LeadsToRow disk r (n / 21) t p
leads_at disk r t places n p is leads grammar = is ∙ leads (n / 21) grammar

-- ---- the blocks of all trees

-- of the trees before place k the blocks were read
abbrev pub AreRead : Blocks → Root → ℕ → List ℕ → List (Option Shared) → ℕ → List Tree → List Tree → List (List ℕ) → Type 0
AreRead disk r i marks shared k old new rows =
    (j : ℕ) (t q : Tree) → slice_get old j ≡ Some t → slice_get new j ≡ Some q → j < k
    → IsSeenTo disk r i (21 * i) marks shared t → IsSeenTo disk r i (21 * i) marks shared q × IsRowOf disk r i rows j q

module _ (disk : Blocks) (r : Root) (i : ℕ) (marks : List ℕ) (shared : List (Option Shared)) (k : ℕ) (old mid : List Tree) where
  pub rows_more : (x y : Tree) (rows new : List (List ℕ)) (row : List ℕ) → Each (λ j t q. IsSame t q) k old mid → k < length mid → slice_get mid k ≡ Some x → length rows ≡ k → new ≡ rows ++ row ∷ []
      → AreRead disk r i marks shared k old mid rows
      → (IsSeenTo disk r i (21 * i) marks shared x → IsSeenTo disk r i (21 * i) marks shared y × ((IsOut y.fault → ⊥) → row ≡ file_block (tree_in (whole disk r) y.plane 0) i))
      → AreRead disk r i marks shared (k + 1) old (set mid k y) new
  rows_more x y rows new row each lt at long is before here j t q was now low known =
      let most : j ≤ k = omega (arith, low) in elim (eq-or-lt_of_le most) [
        | inl same ↦
            let t_is : t ≡ x = some_same (sym was ∙ ap (slice_get old) same ∙ sym (each.rest k (omega arith)) ∙ at) in
            let q_is : q ≡ y = some_same (sym now ∙ ap (slice_get (set mid k y)) same ∙ get_set mid k y lt) in
            let told = here (subst (IsSeenTo disk r i (21 * i) marks shared) t_is known) in
            let last : slice_index_or new j (file_block (tree_in (whole disk r) y.plane 0) i) ≡ row =
            ap (λ (rs : List (List ℕ)). slice_index_or rs j (file_block (tree_in (whole disk r) y.plane 0) i)) is
            ∙ get_or_push rows row (file_block (tree_in (whole disk r) y.plane 0) i) j (long ∙ sym same) in (
              subst (IsSeenTo disk r i (21 * i) marks shared) (sym q_is) told.0,
              subst (λ (v : Tree). IsRowOf disk r i new j v) (sym q_is)
                  (λ inside. last ∙ told.1 inside),
            )
        | inr less ↦
            let ne : j ≢ k = λ same. omega (arith, same, less) in
            let told = before j t q was (sym (get_others mid k j y ne) ∙ now) less known in (
              told.0,
              (λ inside. ap (λ (rs : List (List ℕ)). slice_index_or rs j (file_block (tree_in (whole disk r) q.plane 0) i)) is
                  ∙ get_or_append_left rows (row ∷ []) (file_block (tree_in (whole disk r) q.plane 0) i) j (omega (arith, less, long)) ∙ told.1 inside),
            )
      ]

  pub rows_done : (rows : List (List ℕ)) → KeepsTrees old mid → length rows ≡ k → k ≡ length old → AreRead disk r i marks shared k old mid rows
      → AreTrees r old (IsSeenTo disk r i (21 * i) marks shared) → AreRows disk r i mid rows × AreTrees r mid (IsSeenTo disk r i (21 * i) marks shared)
  rows_done rows kept long all read seen = (
    record {
      length_is = long ∙ all ∙ sym kept.length_is;
      each = λ l q at inside.
          let was = some_at old l (omega (arith, kept.length_is, slice_get_within mid l q at)) in
          (read l was.0 q was.1 at (omega (arith, all, slice_get_within old l was.0 was.1)) (known_at r old (IsSeenTo disk r i (21 * i) marks shared) l was.0 seen was.1)).1 inside;
    },
    trees_again r old mid (IsSeenTo disk r i (21 * i) marks shared) (IsSeenTo disk r i (21 * i) marks shared) kept seen
        (λ l t q was is known. (read l t q was is (omega (arith, all, slice_get_within old l t was)) known).0),
  )

-- ---- the places of the blocks of all trees

-- they stay, as the files do
pub places_kept : (blocks : ℕ) (disk : Blocks) (old new : List Tree) (places : List PlaceMap) → KeepsTrees old new → ArePlacesOfTrees blocks disk old places → ArePlacesOfTrees blocks disk new places
places_kept blocks disk old new places kept are l q p at there =
    let was = some_at old l (omega (arith, kept.length_is, slice_get_within new l q at)) in
    subst (λ (f : File). AreSound blocks disk f.tree → ArePlaces disk f.tree p) (ap (λ (v : Tree). v.file) (kept.same l was.0 q was.1 at)) (are l was.0 p was.1 there)

-- one tree's more
pub below_more : (blocks : ℕ) (old new : List PlaceMap) (p : PlaceMap) → new ≡ old ++ p ∷ [] → AreAllBelow blocks old → AreBelow blocks p → AreAllBelow blocks new
below_more blocks old new p is before here l q at = elim (get_pushed old p l q (subst (λ (ps : List PlaceMap). slice_get ps l ≡ Some q) is at)) [
  | inl was ↦ before l q was
  | inr last ↦ subst (AreBelow blocks) (sym last.1) here
]

pub places_more : (blocks : ℕ) (disk : Blocks) (trees : List Tree) (old new : List PlaceMap) (t : Tree) (p : PlaceMap) → new ≡ old ++ p ∷ [] → slice_get trees (length old) ≡ Some t
    → ArePlacesOfTrees blocks disk trees old → (AreSound blocks disk t.file.tree → ArePlaces disk t.file.tree p) → ArePlacesOfTrees blocks disk trees new
places_more blocks disk trees old new t p is tree before here l v q there at = elim (get_pushed old p l q (subst (λ (ps : List PlaceMap). slice_get ps l ≡ Some q) is at)) [
  | inl was ↦ before l v q there was
  | inr last ↦
      let same : t ≡ v = some_same (sym tree ∙ sym (ap (slice_get trees) last.0) ∙ there) in
      subst (λ (x : Tree). AreSound blocks disk x.file.tree → ArePlaces disk x.file.tree q) same
      (subst (λ (m : PlaceMap). AreSound blocks disk t.file.tree → ArePlaces disk t.file.tree m) (sym last.1) here)
]
