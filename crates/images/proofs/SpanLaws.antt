-- Which nodes a file in its grammar has.
use Rattle.std.proofs.Common.{◌≡◌, ◌≢◌, inl, inr, ℕ, zero, suc, ◌*◌, ◌/◌, ◌%◌, ◌<◌, ◌≤◌, List, ap, ◌∙◌, arith, refl}
use Rattle.std.proofs.lemmas.Bool.{cases_lt}
use Rattle.layout.specs.Inode.{FitsBody}
use Rattle.layout.specs.Limits.{Sizes}
use Rattle.layout.specs.Places.{Blocks, follow}
use Rattle.layout.specs.Trees.{fan_out, level_of}
use Rattle.layout.specs.declared.inode.Body.{Body}
use Rattle.layout.specs.declared.inode.Body.TheVariants.{Inline, Pointers}
use Rattle.layout.specs.declared.inode.Inode.{Inode}
use Rattle.layout.specs.declared.pointer.Pointer.{Pointer}
use Rattle.layout.specs.declared.pointer.Pointer.TheVariants.{Hole, Block}
use Rattle.layout.specs.declared.trees.Layout.{Layout}
use Rattle.layout.proofs.FanLaws.{first_of, group_low}
use Rattle.layout.proofs.PointerLaws.{no_block, some_block}
use Rattle.layout.proofs.SizeLaws.{level_none}
use Rattle.images.specs.Nodes.{held}
use Rattle.images.specs.Soundness.{HasNoHole, IsSoundFile, nodes_of_size}
use Rattle.images.proofs.OverlayLaws.{first_up, held_up}
use Rattle.images.proofs.ReadingLaws.{node_behind, none_above}

pointers_in : (layout : Layout) (blocks size : ℕ) (body : Body) → FitsBody layout body blocks size → 1 ≤ level_of layout size → (pointers : List Pointer) × (body ≡ Pointers pointers)
pointers_in layout blocks size (Inline bytes) fits level = absurd (omega (arith, level, level_none layout size fits.0))
pointers_in layout blocks size (Pointers pointers) fits level = (pointers, refl)

-- where a node is a hole, so are those under it
under_hole : (d : Blocks) (f : Inode) (m i : ℕ) → suc m < level_of f.layout f.size → (held d f).place (suc m) (i / fan_out f.layout) ≡ Hole → (held d f).place m i ≡ Hole
under_hole d f m i lt hole = held_up d f m i lt ∙ ap (λ p. follow d p (i % fan_out f.layout)) hole

module _ (s : Sizes) (d : Blocks) (f : Inode) (sound : IsSoundFile s (held d f)) where
  pub body_of : 1 ≤ level_of f.layout f.size → (pointers : List Pointer) × (f.body ≡ Pointers pointers)
  unfolding held
  body_of level = pointers_in f.layout s.blocks f.size f.body sound.inode.body level

  -- no node stands past the file's end
  none_past : (m i : ℕ) → m < level_of f.layout f.size → nodes_of_size f.layout f.size m ≤ i → (held d f).place m i ≡ Hole
  none_past m i lt past = let body = body_of (omega (arith, lt)) in node_behind s d f body.0 sound body.1 m i past

  -- a node of a file stands where its size says
  pub within_span : (m i b : ℕ) → (held d f).place m i ≡ Block b → (m < level_of f.layout f.size) × (i < nodes_of_size f.layout f.size m)
  within_span m i b is = elim (cases_lt m (level_of f.layout f.size)) [
    | inr above ↦ absurd (no_block ((held d f).place m i) b (none_above d f m i above) is)
    | inl lt ↦ elim (cases_lt i (nodes_of_size f.layout f.size m)) [
      | inl before ↦ (lt, before)
      | inr past ↦ absurd (no_block ((held d f).place m i) b (none_past m i lt past) is)
    ]
  ]

  -- where no block is a hole, no node over them is
  none_hole : HasNoHole (held d f) → (m i : ℕ) → m < level_of f.layout f.size → i < nodes_of_size f.layout f.size m → (held d f).place m i ≢ Hole
  unfolding held nodes_of_size
  none_hole whole zero i lt before = whole i (omega (arith, lt)) before
  none_hole whole (suc m) i lt before = λ hole.
      none_hole whole m (fan_out f.layout * i) (omega (arith, lt)) (group_low f.layout (nodes_of_size f.layout f.size m) i before)
      (under_hole d f m (fan_out f.layout * i) lt (ap ((held d f).place (suc m)) (first_of f.layout i) ∙ hole))

  pub stands_whole : HasNoHole (held d f) → (m i : ℕ) → m < level_of f.layout f.size → i < nodes_of_size f.layout f.size m → (b : ℕ) × ((held d f).place m i ≡ Block b)
  stands_whole whole m i lt before = some_block ((held d f).place m i) (none_hole whole m i lt before)

-- over a file's first block, where that isn't a hole, no node is
first_hole : (d : Blocks) (f : Inode) (m : ℕ) → m < level_of f.layout f.size → (held d f).place m 0 ≡ Hole → (held d f).place 0 0 ≡ Hole
first_hole d f zero lt hole = hole
first_hole d f (suc m) lt hole = first_hole d f m (omega (arith, lt)) (first_up d f m lt ∙ ap (λ p. follow d p 0) hole)

pub stands_first : (d : Blocks) (f : Inode) (m : ℕ) → m < level_of f.layout f.size → (held d f).place 0 0 ≢ Hole → (b : ℕ) × ((held d f).place m 0 ≡ Block b)
stands_first d f m lt some = some_block ((held d f).place m 0) (λ hole. some (first_hole d f m lt hole))
