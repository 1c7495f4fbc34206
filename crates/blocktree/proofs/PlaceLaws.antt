-- One step from a node to the one above it, at each fan-out.
use Rattle.std.proofs.Common.{◌≡◌, ℕ, zero, suc, ◌-◌, ◌*◌, ◌/◌, ◌%◌, ◌^◌, ◌<◌, List, slice_index_or, refl, sym, ◌∙◌, ap, subst, arith}
use Rattle.std.specs.Int.{div_ceil}
use native.Mathlib.Nat.{pow-suc}
use Rattle.layout.specs.Pointer.{PointsBelow}
use Rattle.layout.specs.Trees.{fan_out}
use Rattle.layout.specs.declared.trees.Layout.{Layout}
use Rattle.layout.specs.declared.pointer.Pointer.{Pointer}
use Rattle.layout.specs.declared.pointer.Pointer.TheVariants.{Hole}
use Rattle.blocktree.specs.Places.{follow, place, IsStoredNode, IsPath}
use Rattle.blocktree.proofs.FanLemmas.{times}

pub place_first : (l : Layout) (disk : ℕ → List ℕ) (pointers : List Pointer) (depth i : ℕ) → depth ≡ 0 → place l disk pointers depth i ≡ slice_index_or pointers i Hole
unfolding place
place_first l disk pointers zero i e = refl
place_first l disk pointers (suc depth) i e = absurd (omega arith)

pub place_next : (l : Layout) (disk : ℕ → List ℕ) (pointers : List Pointer) (depth i up r : ℕ) (above : Pointer) → up ≡ i / fan_out l → r ≡ i % fan_out l → (depth ≡ 0 → ⊥) → above ≡ place l disk pointers (depth - 1) up
    → place l disk pointers depth i ≡ follow disk above r
unfolding place
place_next l disk pointers zero i up r above u p some is = absurd (some refl)
place_next l disk pointers (suc depth) i up r above u p some is =
    let one : suc depth - 1 ≡ depth = omega arith in
    let here : above ≡ place l disk pointers depth (i / fan_out l) = is ∙ ap (λ (d : ℕ). place l disk pointers d up) one ∙ ap (λ (n : ℕ). place l disk pointers depth n) u in
    ap (λ (q : Pointer). follow disk q (i % fan_out l)) (sym here) ∙ ap (λ (n : ℕ). follow disk above n) (sym p)

pub path_of_first : (l : Layout) (blocks n : ℕ) (disk : ℕ → List ℕ) (pointers : List Pointer) (depth count i : ℕ) → n ≡ blocks → depth ≡ 0 → PointsBelow n (slice_index_or pointers i Hole) → IsPath l blocks disk pointers depth count i
unfolding IsPath
path_of_first l blocks n disk pointers zero count i same e own = subst (λ (m : ℕ). PointsBelow m (slice_index_or pointers i Hole)) same own
path_of_first l blocks n disk pointers (suc depth) count i same e own = absurd (omega arith)

pub first_of_path : (l : Layout) (blocks n : ℕ) (disk : ℕ → List ℕ) (pointers : List Pointer) (depth count i : ℕ) → n ≡ blocks → depth ≡ 0 → IsPath l blocks disk pointers depth count i → PointsBelow n (slice_index_or pointers i Hole)
unfolding IsPath
first_of_path l blocks n disk pointers zero count i same e path = subst (λ (m : ℕ). PointsBelow m (slice_index_or pointers i Hole)) (sym same) path
first_of_path l blocks n disk pointers (suc depth) count i same e path = absurd (omega arith)

-- the way to a node is the way to the one above it, and that one
pub path_of_node : (l : Layout) (blocks n wide used up : ℕ) (disk : ℕ → List ℕ) (pointers : List Pointer) (depth count i : ℕ) (above : Pointer) → n ≡ blocks → wide ≡ div_ceil count (fan_out l) → used ≡ count - fan_out l * (i / fan_out l)
    → up ≡ i / fan_out l → (depth ≡ 0 → ⊥) → above ≡ place l disk pointers (depth - 1) up → IsPath l blocks disk pointers (depth - 1) wide up → IsStoredNode l n disk used above → IsPath l blocks disk pointers depth count i
unfolding IsPath
path_of_node l blocks n wide used up disk pointers zero count i above same w u p some is path node = absurd (some refl)
path_of_node l blocks n wide used up disk pointers (suc depth) count i above same w u p some is path node =
    let one : suc depth - 1 ≡ depth = omega arith in
    let here : above ≡ place l disk pointers depth (i / fan_out l) = is ∙ ap (λ (d : ℕ). place l disk pointers d up) one ∙ ap (λ (k : ℕ). place l disk pointers depth k) p in (
      subst (λ (k : ℕ). IsPath l blocks disk pointers depth (div_ceil count (fan_out l)) k) p
          (subst (λ (d : ℕ). IsPath l blocks disk pointers d (div_ceil count (fan_out l)) up) one (subst (λ (c : ℕ). IsPath l blocks disk pointers (suc depth - 1) c up) w path)),
      subst (λ (q : Pointer). IsStoredNode l blocks disk (count - fan_out l * (i / fan_out l)) q) here
          (subst (λ (c : ℕ). IsStoredNode l blocks disk c above) u (subst (λ (m : ℕ). IsStoredNode l m disk used above) same node)),
    )

pub path_above : (l : Layout) (blocks wide up : ℕ) (disk : ℕ → List ℕ) (pointers : List Pointer) (depth count i : ℕ) → wide ≡ div_ceil count (fan_out l) → up ≡ i / fan_out l → (depth ≡ 0 → ⊥) → IsPath l blocks disk pointers depth count i
    → IsPath l blocks disk pointers (depth - 1) wide up
unfolding IsPath
path_above l blocks wide up disk pointers zero count i w p some path = absurd (some refl)
path_above l blocks wide up disk pointers (suc depth) count i w p some path =
    let one : depth ≡ suc depth - 1 = omega arith in
    subst (λ (k : ℕ). IsPath l blocks disk pointers (suc depth - 1) wide k) (sym p)
    (subst (λ (c : ℕ). IsPath l blocks disk pointers (suc depth - 1) c (i / fan_out l)) (sym w) (subst (λ (d : ℕ). IsPath l blocks disk pointers d (div_ceil count (fan_out l)) (i / fan_out l)) one path.0))

pub node_of_path : (l : Layout) (blocks n used up : ℕ) (disk : ℕ → List ℕ) (pointers : List Pointer) (depth count i : ℕ) (above : Pointer) → n ≡ blocks → used ≡ count - fan_out l * (i / fan_out l) → up ≡ i / fan_out l → (depth ≡ 0 → ⊥)
    → above ≡ place l disk pointers (depth - 1) up → IsPath l blocks disk pointers depth count i → IsStoredNode l n disk used above
unfolding IsPath
node_of_path l blocks n used up disk pointers zero count i above same u p some is path = absurd (some refl)
node_of_path l blocks n used up disk pointers (suc depth) count i above same u p some is path =
    let one : suc depth - 1 ≡ depth = omega arith in
    let here : above ≡ place l disk pointers depth (i / fan_out l) = is ∙ ap (λ (d : ℕ). place l disk pointers d up) one ∙ ap (λ (k : ℕ). place l disk pointers depth k) p in
    subst (λ (m : ℕ). IsStoredNode l m disk used above) (sym same)
    (subst (λ (c : ℕ). IsStoredNode l blocks disk c above) (sym u) (subst (λ (q : Pointer). IsStoredNode l blocks disk (count - fan_out l * (i / fan_out l)) q) (sym here) path.1))

pub place_above : (l : Layout) (depth i : ℕ) → (depth ≡ 0 → ⊥) → i < 16 * fan_out l ^ depth → i / fan_out l < 16 * fan_out l ^ (depth - 1)
place_above l zero i some within = absurd (some refl)
place_above l (suc depth) i some within =
    let one : suc depth - 1 ≡ depth = omega arith in
    rw one (times l (fan_out l ^ depth) i (power within))
  where
    power : i < 16 * fan_out l ^ suc depth → i < 16 * (fan_out l * fan_out l ^ depth)
    power h = let e : fan_out l ^ suc depth ≡ fan_out l ^ depth * fan_out l = pow-suc (fan_out l) depth in omega arith
