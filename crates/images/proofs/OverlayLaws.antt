-- A changed file that is laid out reads as it is in memory.
use Rattle.layout.specs.declared.inode.Body.TheVariants.{Inline}
use Rattle.images.specs.Overlays.{IsInline}
use Rattle.images.specs.Nodes.{Held}
use Rattle.std.proofs.Common.{[], ◌≡◌, ◌⊎◌, inl, inr, ℕ, zero, suc, Bool, true, ◌-◌, ◌/◌, ◌%◌, ◌<◌, ◌≤◌, List, refl, ap, sym, subst, ◌∙◌, arith}
use Rattle.std.proofs.lemmas.Bool.{cases_lt, cond_below, cond_above}
use Rattle.std.specs.Prelude.{slice_index_or}
use Rattle.layout.specs.Places.{Blocks, pointed, follow, place}
use Rattle.layout.specs.Trees.{fan_out, level_of}
use Rattle.layout.specs.declared.inode.Inode.{Inode}
use Rattle.layout.specs.declared.pointer.Pointer.{Pointer}
use Rattle.layout.specs.declared.pointer.Pointer.TheVariants.{Hole, Block}
use Rattle.images.specs.Nodes.{held, Names, IsOnce, pointers_of, place_at_height, file_block, body_block, Agrees}
use Rattle.images.specs.Contents.{content_of}
use Rattle.images.specs.Overlays.{Overlay, overlaid_block, overlaid_content, Group, keeps, spells, none, IsLaid}
use Rattle.images.proofs.FanLemmas.{zero_pointer, zero_up}
use Rattle.images.proofs.Frames.{held_same}
use Rattle.layout.proofs.PointerLaws.{hole_block}

-- a node is what the indirect block over it says
pub held_up : (d : Blocks) (f : Inode) (m i : ℕ) → suc m < level_of f.layout f.size → (held d f).place m i ≡ follow d ((held d f).place (suc m) (i / fan_out f.layout)) (i % fan_out f.layout)
unfolding held place
held_up d f m i lt =
    let low : m < level_of f.layout f.size = omega arith in
    let depth : level_of f.layout f.size - suc m ≡ suc (level_of f.layout f.size - suc (suc m)) = omega arith in
    sym (cond_below m (level_of f.layout f.size) (place f.layout d (pointers_of f.body) (level_of f.layout f.size - suc m) i) Hole low)
    ∙ ap (λ k. place f.layout d (pointers_of f.body) k i) depth
    ∙ ap (λ p. follow d p (i % fan_out f.layout)) (cond_below (suc m) (level_of f.layout f.size) (place f.layout d (pointers_of f.body) (level_of f.layout f.size - suc (suc m)) (i / fan_out f.layout)) Hole lt)

-- and the first node is what the first one over it says
pub first_up : (d : Blocks) (f : Inode) (m : ℕ) → suc m < level_of f.layout f.size → (held d f).place m 0 ≡ follow d ((held d f).place (suc m) 0) 0
first_up d f m lt =
    held_up d f m 0 lt
    ∙ ap (λ i. follow d ((held d f).place (suc m) i) (0 % fan_out f.layout)) (zero_up f.layout)
    ∙ ap (follow d ((held d f).place (suc m) 0)) (zero_pointer f.layout)

-- a group reads as the table says
group_up : (e : Blocks) (f : Inode) (table : ℕ → ℕ → Pointer) (m i : ℕ) → Group e (held e f) table m (i / fan_out f.layout) → follow e (table (suc m) (i / fan_out f.layout)) (i % fan_out f.layout) ≡ table m i
unfolding held
group_up e f table m i (keeps level over under) = ap (λ p. follow e p (i % fan_out f.layout)) over ∙ sym (held_up e f m i level) ∙ sym (under i refl)
group_up e f table m i (spells block over under) = ap (λ p. follow e p (i % fan_out f.layout)) over ∙ under i refl
group_up e f table m i (none over under) = ap (λ p. follow e p (i % fan_out f.layout)) over ∙ sym (under i refl)

-- from the inode down, depth by depth
table_place : (e : Blocks) (old : Inode) (pointers : List Pointer) (table : ℕ → ℕ → Pointer) (top : ℕ) → ((i : ℕ) → slice_index_or pointers i Hole ≡ table top i)
    → ((m j : ℕ) → m < top → Group e (held e old) table m j) → (k i : ℕ) → k ≤ top → place old.layout e pointers k i ≡ table (top - k) i
unfolding place
table_place e old pointers table top highest groups zero i le = let all : top ≡ top - 0 = omega arith in highest i ∙ ap (λ m. table m i) all
table_place e old pointers table top highest groups (suc k) i le =
    let over : top - k ≡ suc (top - suc k) = omega arith in
    ap (λ p. follow e p (i % fan_out old.layout)) (table_place e old pointers table top highest groups k (i / fan_out old.layout) (omega arith))
    ∙ ap (λ m. follow e (table m (i / fan_out old.layout)) (i % fan_out old.layout)) over
    ∙ group_up e old table (top - suc k) i (groups (top - suc k) (i / fan_out old.layout) (omega arith))

module _ (e : Blocks) (old : Inode) (c : Overlay) (f : Inode) (taken : ℕ → Bool) (table : ℕ → ℕ → Pointer) (is : IsLaid e (held e old) c f taken table) where
  -- the places are the table's
  laid_place : (m i : ℕ) → m ≤ is.top → (held e f).place m i ≡ table m i
  unfolding held
  laid_place m i le =
      let level = is.level in
      let low : m < level_of f.layout f.size = omega arith in
      let depth : is.top - (level_of f.layout f.size - suc m) ≡ m = omega arith in
      sym (cond_below m (level_of f.layout f.size) (place f.layout e (pointers_of f.body) (level_of f.layout f.size - suc m) i) Hole low)
      ∙ ap (λ body. place f.layout e (pointers_of body) (level_of f.layout f.size - suc m) i) is.body
      ∙ ap (λ l. place l e is.pointers (level_of f.layout f.size - suc m) i) is.layout
      ∙ table_place e old is.pointers table is.top is.highest is.groups (level_of f.layout f.size - suc m) i (omega arith)
      ∙ ap (λ k. table k i) depth

  laid_content : content_of (held e f) ≡ overlaid_content (held e old) c
  unfolding held
  laid_content =
      let block_is : (i : ℕ) → file_block (held e f) i ≡ overlaid_block (held e old) c i = λ i.
      ap (λ body. body_block body (pointed e (place_at_height e f 0 i)) i) is.body
      ∙ ap (pointed e) (laid_place 0 i (omega arith)) ∙ is.lowest i in
      λ j. record { kind = is.says.kind j; attributes = is.says.attributes j; links = is.says.links j; size = is.says.size j; block = λ i. block_is i j }

  -- a node stands below the level, and there the table has it
  in_table : (m i b : ℕ) → (held e f).place m i ≡ Block b → (m ≤ is.top) × (table m i ≡ Block b)
  unfolding held
  in_table m i b there =
      let level = is.level in
      elim (cases_lt m (level_of f.layout f.size)) [
        | inl lt ↦ (omega arith, sym (laid_place m i (omega arith)) ∙ there)
        | inr ge ↦ absurd (hole_block (cond_above m (level_of f.layout f.size) (place f.layout e (pointers_of f.body) (level_of f.layout f.size - suc m) i) Hole Hole ge refl ∙ there))
      ]

  laid_comes : (b : ℕ) → Names (held e f) b → Names (held e old) b ⊎ (taken b ≡ true)
  laid_comes b names =
      let at = in_table names.height names.index b names.is in
      elim (is.from names.height names.index b at.0 at.1) [
        | inl was ↦ inl (record { height = names.height; index = names.index; is = was })
        | inr came ↦ inr came
      ]

  laid_once : IsOnce (held e old) → IsOnce (held e f)
  laid_once once m i k j b here there =
      let at = in_table m i b here in
      let too = in_table k j b there in
      elim (is.from m i b at.0 at.1) [
        | inr came ↦ is.once m i k j b at.0 too.0 at.1 too.1 came
        | inl was ↦ elim (is.from k j b too.0 too.1) [
          | inr came ↦ is.once m i k j b at.0 too.0 at.1 too.1 came
          | inl was_too ↦ once m i k j b was was_too
        ]
      ]

-- ---- on any disk that has the file's blocks and the settled file's

module _ (d e : Blocks) (old : Inode) (c : Overlay) (f : Inode) (taken : ℕ → Bool) (table : ℕ → ℕ → Pointer) (same : Agrees (Names (held d old)) d e) (is : IsLaid e (held d old) c f taken table) where
  old_is : held e old ≡ held d old
  old_is = held_same d e old same

  on_e : IsLaid e (held e old) c f taken table
  on_e = subst (λ h. IsLaid e h c f taken table) (sym old_is) is

  pub content_stands : content_of (held e f) ≡ overlaid_content (held d old) c
  content_stands = laid_content e old c f taken table on_e ∙ ap (λ h. overlaid_content h c) old_is

  pub comes_stands : (b : ℕ) → Names (held e f) b → Names (held d old) b ⊎ (taken b ≡ true)
  comes_stands b names = subst (λ h. Names h b ⊎ (taken b ≡ true)) old_is (laid_comes e old c f taken table on_e b names)

  pub once_stands : IsOnce (held d old) → IsOnce (held e f)
  once_stands once = laid_once e old c f taken table on_e (subst IsOnce (sym old_is) once)

-- ---- a file whose inode has the bytes itself

inline_any : (bytes x y : List ℕ) (i : ℕ) → body_block (Inline bytes) x i ≡ body_block (Inline bytes) y i
inline_any bytes x y zero = refl
inline_any bytes x y (suc i) = refl

pub inline_content : (e : Blocks) (h : Held) (c : Overlay) (f : Inode) → IsInline h c f → content_of (held e f) ≡ overlaid_content h c
unfolding held
inline_content e h c f is =
    let block_is : (i : ℕ) → file_block (held e f) i ≡ overlaid_block h c i = λ i.
    ap (λ body. body_block body (pointed e (place_at_height e f 0 i)) i) is.body ∙ inline_any is.bytes (pointed e (place_at_height e f 0 i)) [] i ∙ is.blocks i in
    λ j. record { kind = is.says.kind j; attributes = is.says.attributes j; links = is.says.links j; size = is.says.size j; block = λ i. block_is i j }

pub inline_names : (e : Blocks) (h : Held) (c : Overlay) (f : Inode) (b : ℕ) → IsInline h c f → Names (held e f) b → ⊥
unfolding held
inline_names e h c f b is names =
    let level = is.level in
    hole_block (cond_above names.height (level_of f.layout f.size) (place f.layout e (pointers_of f.body) (level_of f.layout f.size - suc names.height) names.index) Hole Hole (omega arith) refl ∙ names.is)
