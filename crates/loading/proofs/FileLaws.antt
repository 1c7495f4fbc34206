-- A settled file as the layers below read it, and as images hold it.
use Rattle.std.proofs.Common.{◌≡◌, ◌↔◌, inl, inr, ℕ, suc, ◌+◌, ◌-◌, ◌/◌, ◌≤◌, List, length, refl, ap, sym, subst, ◌∙◌, arith}
use Rattle.std.specs.Int.{div_ceil}
use Rattle.std.proofs.lemmas.Bool.{cases_lt}
use Rattle.std.proofs.lemmas.Bool.Decides.{nat_tests}
use Rattle.layout.specs.FileBytes.{byte_in, EndsAt}
use Rattle.layout.specs.Inode.{FitsBody}
use Rattle.layout.specs.Limits.{Sizes}
use Rattle.layout.specs.Places.{Blocks, place, pointed}
use Rattle.layout.specs.Trees.{level_of}
use Rattle.layout.specs.declared.inode.Body.{Body}
use Rattle.layout.specs.declared.inode.Body.TheVariants.{Inline, Pointers}
use Rattle.layout.specs.declared.inode.Inode.{Inode}
use Rattle.layout.specs.declared.trees.Layout.{Layout}
use Rattle.layout.specs.declared.pointer.Pointer.{Pointer}
use Rattle.layout.specs.declared.pointer.Pointer.TheVariants.{Hole, Block}
use Rattle.layout.proofs.ZeroLaws.{length-zeros}
use Rattle.buffers.specs.Disks.{IsWhole}
use Rattle.blocktree.specs.Places.{depth_of, IsPath}
use Rattle.images.specs.Faults.{IsMapGrammar}
use Rattle.images.specs.Nodes.{held}
use Rattle.images.specs.Soundness.{Detail, nodes_of_size, IsHeldFile, HasNoHole, IsReadable}
use Rattle.loading.specs.Readings.{IsBodyPath, IsMapFile, IsStored, IsWholeAt, IsWholeBody}
use Rattle.loading.specs.Laws.{ReadAsHeld}
use Rattle.inode.proofs.HeldLaws.{node_above, node_past, some_level}

-- with the law of inode on where nodes stand, and that on what stands over them
pub record NodeLaws : Type 0 where
  pub places : (disk : Blocks) (f : Inode) (pointers : List Pointer) (depth height i : ℕ) → f.body ≡ Pointers pointers → level_of f.layout f.size ≡ suc (depth + height)
      → (held disk f).place height i ≡ place f.layout disk pointers depth i
  pub paths : {detail : Detail} (s : Sizes) (disk : Blocks) (f : Inode) (pointers : List Pointer) (depth height i : ℕ) → IsHeldFile detail s (held disk f) → f.body ≡ Pointers pointers → level_of f.layout f.size ≡ suc (depth + height)
      → IsPath f.layout s.blocks disk pointers depth (nodes_of_size f.layout f.size height) i

no_level : (layout : Layout) (size : ℕ) → size ≤ 128 → level_of layout size ≤ 0
no_level layout size low = grind (arith, nat_tests, low)

pub body_path : {detail : Detail} (laws : NodeLaws) (s : Sizes) (disk : Blocks) (f : Inode) (i : ℕ) (body : Body) → f.body ≡ body → IsHeldFile detail s (held disk f) → IsBodyPath f.layout s.blocks disk body f.size i
unfolding held nodes_of_size
body_path laws s disk f i (Inline bytes) is sound = tt
body_path laws s disk f i (Pointers pointers) is sound = λ lt.
    let fits = subst (λ (b : Body). FitsBody f.layout b s.blocks f.size) is sound.inode.body in
    laws.paths s disk f pointers (depth_of f.layout f.size) 0 i sound is (some_level f.layout f.size fits.0)

-- ---- files that can be read

whole_at : (disk : Blocks) (f : Inode) (i : ℕ) (p : Pointer) → (held disk f).place 0 i ≡ p
    → ((b : ℕ) → (held disk f).place 0 i ≡ Block b → length ((held disk f).bytes 0 i) ≡ 4096) → IsWhole (pointed disk p)
unfolding held
whole_at disk f i Hole is readable = length-zeros 4096
whole_at disk f i (Block b) is readable = ap (λ p. length (pointed disk p)) (sym is) ∙ readable b is

module _ (laws : NodeLaws) {detail : Detail} (s : Sizes) (disk : Blocks) (f : Inode) (sound : IsHeldFile detail s (held disk f)) where
  place_is : (pointers : List Pointer) (i : ℕ) → f.body ≡ Pointers pointers → (held disk f).place 0 i ≡ place f.layout disk pointers (depth_of f.layout f.size) i
  unfolding held
  place_is pointers i is =
      let fits = subst (λ (b : Body). FitsBody f.layout b s.blocks f.size) is sound.inode.body in
      laws.places disk f pointers (depth_of f.layout f.size) 0 i is (some_level f.layout f.size fits.0)

  body_whole_at : (body : Body) (i : ℕ) → f.body ≡ body → ((b : ℕ) → (held disk f).place 0 i ≡ Block b → length ((held disk f).bytes 0 i) ≡ 4096)
      → IsWholeAt f.layout disk body f.size i
  body_whole_at (Inline bytes) i is readable = tt
  body_whole_at (Pointers pointers) i is readable = λ lt. whole_at disk f i (place f.layout disk pointers (depth_of f.layout f.size) i) (place_is pointers i is) readable

  body_readable : (body : Body) → f.body ≡ body → IsWholeBody f.layout disk body f.size → IsReadable (held disk f)
  unfolding held nodes_of_size
  body_readable (Inline bytes) is whole i b there =
      let fits = subst (λ (x : Body). FitsBody f.layout x s.blocks f.size) is sound.inode.body in
      let hole : Hole ≡ Block b = sym (node_above disk f 0 i (no_level f.layout f.size fits.0)) ∙ there in cc
  body_readable (Pointers pointers) is whole i b there = elim (cases_lt i (div_ceil f.size 4096)) [
    | inl low ↦ ap (λ p. length (pointed disk p)) (place_is pointers i is) ∙ whole i low
    | inr past ↦ let hole : Hole ≡ Block b = sym (node_past s disk f 0 i sound past) ∙ there in cc
  ]

  pub readable_whole : IsReadable (held disk f) ↔ IsWholeBody f.layout disk f.body f.size
  readable_whole = (λ readable i. body_whole_at f.body i refl (readable i), body_readable f.body refl)

  -- ---- the files of maps

  body_stored : (body : Body) → f.body ≡ body → HasNoHole (held disk f) → IsStored f.layout disk body f.size
  unfolding held nodes_of_size
  body_stored (Inline bytes) is whole = tt
  body_stored (Pointers pointers) is whole = λ i lt hole.
      let fits = subst (λ (b : Body). FitsBody f.layout b s.blocks f.size) is sound.inode.body in
      let level = some_level f.layout f.size fits.0 in
      whole i (omega (arith, level)) lt (place_is pointers i is ∙ hole)

  pub map_file : (reads : ReadAsHeld) → IsMapGrammar (held disk f) → IsMapFile disk f
  unfolding held
  map_file reads map = record {
    stored = body_stored f.body refl map.stored;
    last = body_whole_at f.body (f.size / 4096) refl map.last;
    ends = subst (λ block. EndsAt f.size (byte_in block)) (sym (reads detail s disk f sound)) map.ends;
  }
