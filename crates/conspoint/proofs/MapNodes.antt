-- Where the nodes of the block map's file stand: its blocks, and behind them the indirect block over them.
use Rattle.std.proofs.Common.{◌≡◌, ◌⊎◌, inl, inr, ℕ, zero, suc, ◌+◌, ◌-◌, ◌*◌, ◌/◌, ◌%◌, ◌<◌, ◌≤◌, List, get_or, refl, ap, sym, subst, ◌∙◌, arith}
use Rattle.std.specs.Prelude.{nat_lt, if◌then◌else◌}
use Rattle.std.specs.Int.{div_ceil}
use Rattle.std.proofs.lemmas.Bool.{cases_lt, cond_above}
use Rattle.layout.specs.Inode.{FitsBody, nodes_of_size, pointers_used}
use Rattle.layout.specs.Limits.{Sizes}
use Rattle.layout.specs.Maps.{indirect_pointer}
use Rattle.layout.specs.Places.{Blocks, place, follow}
use Rattle.layout.specs.Trees.{fan_out, level_of, single_bytes}
use Rattle.layout.specs.declared.inode.Body.{Body}
use Rattle.layout.specs.declared.inode.Body.TheVariants.{Inline, Pointers}
use Rattle.layout.specs.declared.inode.Inode.{Inode}
use Rattle.layout.specs.declared.kind.Kind.TheVariants as kinds
use Rattle.layout.specs.declared.trees.Layout.{Layout}
use Rattle.layout.specs.declared.trees.Layout.TheVariants.{Plain}
use Rattle.layout.specs.declared.pointer.Pointer.{Pointer}
use Rattle.layout.specs.declared.pointer.Pointer.TheVariants.{Hole, Block}
use Rattle.images.specs.Nodes.{Held, held, Names, pointers_of}
use Rattle.images.specs.Soundness.{IsSoundFile}
use Rattle.images.proofs.OverlayLaws.{held_up}
use Rattle.images.proofs.ReadingLaws.{highest, hole_past, level_one, level_two, used_is, hole_behind, fits}
use Rattle.layout.proofs.FanLaws.{node_is, up_from, up_is}
use Rattle.layout.proofs.PointerLaws.{no_block}
use Rattle.layout.proofs.SizeLaws.{map_size}

-- the pointers that an inode of one level or of two levels uses
pub used_one : (layout : Layout) (size : ℕ) → 128 < size → size ≤ 65536 → pointers_used layout size ≡ div_ceil size 4096
unfolding nodes_of_size
used_one layout size some low = used_is layout size 0 (level_one layout size some low)

pub used_two : (layout : Layout) (size : ℕ) → 65536 < size → size ≤ single_bytes layout → pointers_used layout size ≡ div_ceil (div_ceil size 4096) (fan_out layout)
unfolding nodes_of_size
used_two layout size large low = used_is layout size 1 (level_two layout size large low)

-- n blocks of a file stand where g says, and the indirect block over them, where there is one, where it says behind them
pub record Stands (n : ℕ) (g : ℕ → Pointer) (h : Held) : Type 0 where
  pub low : (i : ℕ) → i < n → h.place 0 i ≡ g i
  pub past : (i : ℕ) → n ≤ i → h.place 0 i ≡ Hole
  pub top : h.place 1 0 ≡ g n
  pub beside : (i : ℕ) → h.place 1 (suc i) ≡ Hole
  pub above : (m i : ℕ) → h.place (suc (suc m)) i ≡ Hole

-- the node at this height and index is node k of the list
abbrev pub IsSpot : ℕ → ℕ → ℕ → ℕ → Type 0
IsSpot n m i k = ((m ≡ 0) × (i ≡ k) × (k < n)) ⊎ ((m ≡ 1) × (i ≡ 0) × (k ≡ n))

pub spot_once : (n m i k j x : ℕ) → IsSpot n m i x → IsSpot n k j x → (m ≡ k) × (i ≡ j)
spot_once n m i k j x (inl a) (inl b) = (a.0 ∙ sym b.0, a.1 ∙ sym b.1)
spot_once n m i k j x (inl a) (inr b) = absurd (omega (arith, a.2, b.2))
spot_once n m i k j x (inr a) (inl b) = absurd (omega (arith, a.2, b.2))
spot_once n m i k j x (inr a) (inr b) = (a.0 ∙ sym b.0, a.1 ∙ sym b.1)

module _ (n : ℕ) (g : ℕ → Pointer) (h : Held) (stands : Stands n g h) where
  pub spot_of : (m i b : ℕ) → h.place m i ≡ Block b → (k : ℕ) × IsSpot n m i k × (g k ≡ Block b)
  spot_of zero i b is = elim (cases_lt i n) [
    | inl lt ↦ (i, inl (refl, refl, lt), sym (stands.low i lt) ∙ is)
    | inr ge ↦ absurd (no_block (h.place 0 i) b (stands.past i ge) is)
  ]
  spot_of (suc zero) zero b is = (n, inr (refl, refl, refl), sym stands.top ∙ is)
  spot_of (suc zero) (suc i) b is = absurd (no_block (h.place 1 (suc i)) b (stands.beside i) is)
  spot_of (suc (suc m)) i b is = absurd (no_block (h.place (suc (suc m)) i) b (stands.above m i) is)

  pub at_spot : (m i k b : ℕ) → IsSpot n m i k → g k ≡ Block b → h.place m i ≡ Block b
  at_spot m i k b (inl low) is = ap (λ m. h.place m i) low.0 ∙ ap (h.place 0) low.1 ∙ stands.low k low.2 ∙ is
  at_spot m i k b (inr top) is = ap (λ m. h.place m i) top.0 ∙ ap (h.place 1) top.1 ∙ stands.top ∙ ap g (sym top.2) ∙ is

  pub named_at : (k b : ℕ) → k ≤ n → g k ≡ Block b → Names h b
  named_at k b le is = elim (cases_lt k n) [
    | inl lt ↦ record { height = 0; index = k; is = stands.low k lt ∙ is }
    | inr ge ↦ (let last : k ≡ n = omega arith in record { height = 1; index = 0; is = stands.top ∙ ap g (sym last) ∙ is })
  ]

  pub spot_named : (b : ℕ) → Names h b → (k : ℕ) × (k ≤ n) × (g k ≡ Block b)
  spot_named b names =
      let s = spot_of names.height names.index b names.is in
      (s.0, elim s.1 [ inl low ↦ (let lt = low.2 in omega arith) | inr top ↦ (let e = top.2 in omega arith) ], s.2)

-- ---- by level

-- the first group
first_up : (layout : Layout) (i : ℕ) → i < fan_out layout → i / fan_out layout ≡ 0
first_up layout i lt = up_is layout i 0 (omega arith) (omega (arith, lt))

first_pointer : (layout : Layout) (i : ℕ) → i < fan_out layout → i % fan_out layout ≡ i
first_pointer layout i lt = let at = node_is layout i 0 (first_up layout i lt) in omega (arith, at)

pub at_level : (d : Blocks) (f : Inode) (m i level : ℕ) → level_of f.layout f.size ≡ level → (held d f).place m i ≡ (if nat_lt m level then place f.layout d (pointers_of f.body) (level - suc m) i else Hole)
unfolding held
at_level d f m i level is = ap (λ k. if nat_lt m k then place f.layout d (pointers_of f.body) (k - suc m) i else Hole) is

pub above_level : (d : Blocks) (f : Inode) (m i level : ℕ) → level_of f.layout f.size ≡ level → level ≤ m → (held d f).place m i ≡ Hole
above_level d f m i level is ge = at_level d f m i level is ∙ sym (cond_above m level (place f.layout d (pointers_of f.body) (level - suc m) i) Hole Hole ge refl)

module _ (d : Blocks) (f : Inode) (pointers : List Pointer) (body : f.body ≡ Pointers pointers) where
  pub top_is : (level i : ℕ) → level_of f.layout f.size ≡ suc level → (held d f).place level i ≡ get_or pointers i Hole
  top_is level i is = highest d f level i is ∙ ap (λ b. get_or (pointers_of b) i Hole) body

  -- the inode has the pointers to the blocks
  pub stands_direct : (n : ℕ) (g : ℕ → Pointer) → level_of f.layout f.size ≡ 1 → ((i : ℕ) → get_or pointers i Hole ≡ g i) → ((k : ℕ) → n ≤ k → g k ≡ Hole) → Stands n g (held d f)
  stands_direct n g level are behind = record {
    low = λ i lt. top_is 0 i level ∙ are i;
    past = λ i ge. top_is 0 i level ∙ are i ∙ behind i ge;
    top = above_level d f 1 0 1 level (omega arith) ∙ sym (behind n (omega arith));
    beside = λ i. above_level d f 1 (suc i) 1 level (omega arith);
    above = λ m i. above_level d f (suc (suc m)) i 1 level (omega arith);
  }

  -- it has the one to the indirect block, which has them
  pub stands_under : (n x : ℕ) (g : ℕ → Pointer) → level_of f.layout f.size ≡ 2 → ((i : ℕ) → get_or pointers i Hole ≡ g (n + i)) → ((k : ℕ) → n < k → g k ≡ Hole) → n ≤ fan_out f.layout
      → g n ≡ Block x → ((i : ℕ) → i < n → indirect_pointer (d x) i ≡ g i) → ((i : ℕ) → n ≤ i → i < fan_out f.layout → indirect_pointer (d x) i ≡ Hole) → Stands n g (held d f)
  stands_under n x g level are behind few over under rest = record {
    low = λ i lt. low i (omega arith) ∙ under i lt;
    past = λ i ge. elim (cases_lt i (fan_out f.layout)) [
      | inl lt ↦ low i lt ∙ rest i ge lt
      | inr far ↦
          let one : 1 ≤ i / fan_out f.layout = up_from f.layout 1 i (omega (arith, far)) in
          held_up d f 0 i (omega (arith, level)) ∙ ap (λ p. follow d p (i % fan_out f.layout)) (top_is 1 (i / fan_out f.layout) level ∙ are (i / fan_out f.layout) ∙ behind (n + i / fan_out f.layout) (omega (arith, one)))
    ];
    top = top_is 1 0 level ∙ are 0 ∙ ap g (omega arith);
    beside = λ i. top_is 1 (suc i) level ∙ are (suc i) ∙ behind (n + suc i) (omega arith);
    above = λ m i. above_level d f (suc (suc m)) i 2 level (omega arith);
  }
    where
      low : (i : ℕ) → i < fan_out f.layout → (held d f).place 0 i ≡ indirect_pointer (d x) i
      low i lt =
          let first : i / fan_out f.layout ≡ 0 = first_up f.layout i lt in
          let same : i % fan_out f.layout ≡ i = first_pointer f.layout i lt in
          held_up d f 0 i (omega (arith, level))
          ∙ ap (λ p. follow d p (i % fan_out f.layout)) (top_is 1 (i / fan_out f.layout) level ∙ are (i / fan_out f.layout) ∙ ap g (omega (arith, first)) ∙ over)
          ∙ ap (indirect_pointer (d x)) same

-- ---- the map's inode

-- its body has pointers
pub body_of : (layout : Layout) (b : Body) (blocks size : ℕ) → FitsBody layout b blocks size → 128 < size → (pointers : List Pointer) × (b ≡ Pointers pointers)
body_of layout (Inline bytes) blocks size fits large = absurd (let low = fits.0 in omega arith)
body_of layout (Pointers pointers) blocks size fits large = (pointers, refl)

-- a map in its grammar, whose nodes are these
pub sound_stands : (s : Sizes) (d : Blocks) (f : Inode) (n : ℕ) (nodes : List Pointer) → IsSoundFile s (held d f) → s.layout ≡ Plain → f.kind ≡ kinds.BlockMap → 64 ≤ s.blocks → s.blocks ≤ 1048576 → n ≡ div_ceil s.blocks 1024
    → ((k : ℕ) → k < n → get_or nodes k Hole ≡ (held d f).place 0 k) → (level_of f.layout f.size ≡ 2 → get_or nodes n Hole ≡ (held d f).place 1 0)
    → (n ≤ 16 → (k : ℕ) → n ≤ k → get_or nodes k Hole ≡ Hole) → Stands n (λ k. get_or nodes k Hole) (held d f)
unfolding held
sound_stands s d f n nodes sound plain kind large most count low over end =
    let size : f.size ≡ 4 * s.blocks = map_size f.kind s f.attributes f.links f.size kind sound.inode.kind in
    let is_plain : f.layout ≡ Plain = sound.inode.layout ∙ plain in
    let body = body_of f.layout f.body s.blocks f.size sound.inode.body (omega arith) in
    let fit = fits s d f body.0 sound body.1 in
    let behind = λ (i : ℕ) (ge : n ≤ i). hole_behind s d f body.0 sound body.1 i (omega arith) in
    elim (cases_lt 65536 f.size) [
      | inr small ↦
          let level = level_one f.layout f.size fit.0 small in
          record {
            low = λ i lt. sym (low i lt);
            past = behind;
            top = above_level d f 1 0 1 level (omega arith) ∙ sym (end (omega arith) n (omega arith));
            beside = λ i. above_level d f 1 (suc i) 1 level (omega arith);
            above = λ m i. above_level d f (suc (suc m)) i 1 level (omega arith);
          }
      | inl big ↦
          let within : f.size ≤ single_bytes f.layout = subst (λ l. f.size ≤ single_bytes l) (sym is_plain) (omega (arith, size, most)) in
          let level = level_two f.layout f.size big within in
          let used : pointers_used f.layout f.size ≡ div_ceil (div_ceil f.size 4096) 1024 = used_two f.layout f.size big within ∙ ap (λ l. div_ceil (div_ceil f.size 4096) (fan_out l)) is_plain in
          record {
            low = λ i lt. sym (low i lt);
            past = behind;
            top = sym (over level);
            beside = λ i. top_is d f body.0 body.1 1 (suc i) level ∙ hole_past body.0 (pointers_used f.layout f.size) (suc i) fit.3 (omega (arith, used, size, most));
            above = λ m i. above_level d f (suc (suc m)) i 2 level (omega arith);
          }
    ]
