-- A table of a tree's numbers, row by row.
use Rattle.std.proofs.Common.{◌≡◌, ◌∙◌, ℕ, ◌+◌, ◌-◌, ◌*◌, ◌/◌, ◌%◌, ◌<◌, ◌≤◌, List, [], ◌∷◌, ◌++◌, get_or, length, take, drop, length-append, length-drop, length-take, replicate, Result, Ok, Err, sym, ap, subst, inl, inr, arith}
use Rattle.std.specs.Prelude.{Some, slice_get}
use Rattle.std.proofs.lemmas.Bool.{cases_lt}
use Rattle.std.proofs.lemmas.List.{get_or-drop, get_or-take, get_or_append_left}
use Rattle.std.proofs.Math.Seq.{get_or-append_right}
use Rattle.std.proofs.lemmas.Option.{get_or_from_slice_get, slice_get-get_or, slice_get_within}
use Rattle.layout.specs.Bytes.{zeros}
use Rattle.layout.specs.Places.{Blocks, pointed}
use Rattle.layout.specs.declared.pointer.Pointer.{Pointer}
use Rattle.layout.specs.declared.pointer.Pointer.TheVariants.{Hole}
use Rattle.layout.specs.declared.root.Root.{Root}
use Rattle.buffers.specs.Disks.{IsWhole}
use Rattle.buffers.specs.declared.blocks.Blocks.{Ghosts}
use Rattle.blocktree.specs.PlaceMaps.{place_at}
use Rattle.blocktree.specs.declared.place_map.PlaceMap.{PlaceMap}
use Rattle.model.proofs.OptionLaws.{none_some}
use Rattle.model.proofs.ListLaws.{get_pushed}
use Rattle.images.specs.Faults.{IsTreeGrammar}
use Rattle.images.specs.Nodes.{Held, file_block, held}
use Rattle.images.specs.Roots.{inode_part, whole}
use Rattle.checker.specs.Errors.{IsFault, ReadsForFaults}
use Rattle.checker.specs.Findings.{tree_in}
use Rattle.checker.specs.Tables.{ArePlaces, AreRowsAt, IsRowAt}
use Rattle.checker.specs.Trees.{IsTreeOf}
use Rattle.checker.specs.declared.error.CheckError.{CheckError}
use Rattle.checker.specs.declared.error.CheckError.TheVariants as check
use Rattle.checker.specs.declared.names.NumberRow.{NumberRow}
use Rattle.checker.specs.declared.tree.Tree.{Tree}
use Rattle.checker.proofs.HaltLaws.{looks_failed}
use Rattle.checker.proofs.HeldLaws.{top_grammar, top_is, top_readable}
use Rattle.checker.proofs.PlaceLaws.{places_are, stored_at, top_large, whole_at}
use Rattle.checker.proofs.ReadLaws.{HasLooked, looks_ok}

-- the bytes of a number in its block
pub part_at : (disk : Blocks) (places : PlaceMap) (i place n : ℕ) (bytes : List ℕ) → (IsWhole (pointed disk (place_at places i)) → bytes ≡ pointed disk (place_at places i)) → place < 21 → n ≡ 21 * i + place
    → IsWhole (pointed disk (place_at places (n / 21))) → inode_part bytes place ≡ inode_part (pointed disk (place_at places (n / 21))) (n % 21)
part_at disk places i place n bytes is low at whole =
    let block : i ≡ n / 21 = omega (arith, low, at) in
    let spot : place ≡ n % 21 = omega (arith, low, at) in
    ap (λ (b : List ℕ). inode_part b place) (is (subst (λ (k : ℕ). IsWhole (pointed disk (place_at places k))) (sym block) whole))
    ∙ ap (λ (k : ℕ). inode_part (pointed disk (place_at places k)) place) block ∙ ap (λ (k : ℕ). inode_part (pointed disk (place_at places (n / 21))) k) spot

-- the bytes at no place
pub hole_zeros : (disk : Blocks) (p : Pointer) → p ≡ Hole → replicate 4096 0 ≡ pointed disk p
unfolding zeros
hole_zeros disk p is = sym (ap (pointed disk) is)

-- ---- the rows

module _ (disk : Blocks) (places : PlaceMap) where
  pub rows_none : (rows : List NumberRow) → rows ≡ [] → AreRowsAt disk places rows
  rows_none rows none n row at = none_some (subst (λ (rows : List NumberRow). slice_get rows n ≡ Some row) none at)

  -- one row more
  pub rows_more : (old new : List NumberRow) (row : NumberRow) → new ≡ old ++ row ∷ [] → AreRowsAt disk places old → IsRowAt disk places (length old) row → AreRowsAt disk places new
  rows_more old new row is before here n q at = elim (get_pushed old row n q (subst (λ (rows : List NumberRow). slice_get rows n ≡ Some q) is at)) [
    | inl was ↦ before n q was
    | inr last ↦ subst (IsRowAt disk places n) (sym last.1) (subst (λ (m : ℕ). IsRowAt disk places m row) (sym last.0) here)
  ]

  row_moved : (before : PlaceMap) (n : ℕ) (row : NumberRow) → place_at before (n / 21) ≡ place_at places (n / 21) → IsRowAt disk before n row → IsRowAt disk places n row
  row_moved before n row same is = record {
    unnamed = is.unnamed;
    inode = λ s i fits whole bytes.
        is.inode s i fits (subst (λ (p : Pointer). IsWhole (pointed disk p)) (sym same) whole) (ap (λ (p : Pointer). inode_part (pointed disk p) (n % 21)) same ∙ bytes);
  }

  -- the rows of a block more, known of other places, where it is at the same one
  pub rows_taken : (before : PlaceMap) (old known new : List NumberRow) (i from to : ℕ) → from ≡ 21 * i → length old ≡ from → to ≤ from + 21 → new ≡ old ++ take (to - from) (drop from known)
      → place_at before i ≡ place_at places i → AreRowsAt disk before known → AreRowsAt disk places old → AreRowsAt disk places new
  rows_taken before old known new i from to low long high is same are so_far n row at =
      let more : List NumberRow = take (to - from) (drop from known) in
      let here : slice_get (old ++ more) n ≡ Some row = subst (λ (rows : List NumberRow). slice_get rows n ≡ Some row) is at in
      let there : get_or (old ++ more) n row ≡ row = get_or_from_slice_get (old ++ more) n row row here in
      let within : n < length (old ++ more) = slice_get_within (old ++ more) n row here in
      elim (cases_lt n (length old)) [
        | inl lt ↦ so_far n row (slice_get-get_or old n row lt ∙ ap (λ (r : NumberRow). Some r) (sym (get_or_append_left old more row n lt) ∙ there))
        | inr ge ↦
            let few : n - from < to - from = omega (arith, within, length-append old more, length-take (to - from) (drop from known), long, ge) in
            let rest : n < length known = omega (arith, within, length-append old more, length-take (to - from) (drop from known), length-drop from known, long, ge) in
            let spot : n - length old ≡ n - from = omega (arith, long) in
            let back : from + (n - from) ≡ n = omega (arith, long, ge) in
            let block : n / 21 ≡ i = omega (arith, low, high, few, long, ge) in
            let read : get_or (old ++ more) n row ≡ get_or known n row =
            get_or-append_right old more n row ge ∙ ap (λ (k : ℕ). get_or more k row) spot ∙ get_or-take (to - from) (drop from known) (n - from) row few ∙ get_or-drop from known (n - from) row
            ∙ ap (λ (k : ℕ). get_or known k row) back in
            row_moved before n row (subst (λ (k : ℕ). place_at before k ≡ place_at places k) (sym block) same)
            (are n row (slice_get-get_or known n row rest ∙ ap (λ (r : NumberRow). Some r) (sym read ∙ there)))
      ]

-- the row of a number at the places of a tree's inode file has what the tree has
pub row_is : (disk : Blocks) (r : Root) (tree : Tree) (places : PlaceMap) (n : ℕ) (row : NumberRow) → IsTreeOf disk r tree → IsTreeGrammar r.geometry (tree_in (whole disk r) tree.plane) → ArePlaces disk tree.file.tree places
    → 1 ≤ n → n < r.geometry.inodes → IsRowAt disk places n row
    → (row.kind ≡ (tree_in (whole disk r) tree.plane n).inode.kind) × (row.links ≡ (tree_in (whole disk r) tree.plane n).inode.links)
row_is disk r tree places n row is grammar found some low at =
    let t = tree_in (whole disk r) tree.plane in
    let i = n / 21 in
    let known = top_grammar disk r r.geometry tree is grammar in
    let large = top_large disk r tree is (omega (arith, low)) in
    let there : place_at places i ≡ (held disk tree.top).place 0 i = places_are r.geometry disk tree.top tree.file.tree places i large known is.file.starts found in
    let block : file_block (t 0) i ≡ pointed disk (place_at places i) =
    ap (λ (h : Held). file_block h i) (top_is disk r tree is) ∙ stored_at r.geometry disk tree.top i large known ∙ ap (pointed disk) (sym there) in
    at.inode r.geometry (t n).inode (grammar.files n).inode (whole_at disk tree.top i (place_at places i) (top_readable disk r r.geometry tree is grammar) (sym there))
    (ap (λ (b : List ℕ). inode_part b (n % 21)) (sym block) ∙ grammar.inodes.each n some low)

-- ---- what ends a reading

-- behind what was read, something that takes memory alone
pub looks_pushed : {B T : Type 0} {G : Ghosts B} {a b : B} (r : Result T CheckError) → HasLooked G a b → (r ≡ Err check.Device → ⊥) → ReadsForFaults G IsFault a b r
looks_pushed (Ok x) look fine = looks_ok look
looks_pushed (Err e) look fine = looks_failed look (λ is. absurd (fine (ap Err is)))
