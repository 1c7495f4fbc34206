-- A small file stands in its inode.
use Rattle.std.proofs.Common.{◌≡◌, inl, inr, ℕ, zero, suc, ◌+◌, ◌-◌, ◌/◌, ◌%◌, ◌≤◌, List, [], ◌∷◌, ◌++◌, length, get_or, take, drop, get_or-drop, length-append, append_assoc, refl, ap, sym, subst, ◌∙◌, arith}
use Rattle.std.specs.Prelude.{nat_lt, if◌then◌else◌}
use Rattle.std.proofs.lemmas.Bool.{cases_lt, cond_below, cond_above}
use Rattle.std.proofs.lemmas.List.{get_or_past, take-append-drop, length-take, length-drop, get_or_append_left, ext_get_or, get_or-take}
use Rattle.std.proofs.Math.Seq.{drop-append_seam, get_or-append_right}
use Rattle.layout.specs.Bytes.{zeros}
use Rattle.layout.specs.Inode.{FitsInline}
use Rattle.layout.specs.Limits.{Sizes}
use Rattle.layout.specs.Places.{Blocks, pointed}
use Rattle.layout.specs.declared.inode.Body.TheVariants.{Inline}
use Rattle.images.specs.Nodes.{held, body_block}
use Rattle.blocktree.specs.Places.{block_count}
use Rattle.inode.specs.Files.{file_block, IsFile}
use Rattle.inode.specs.declared.object.Object.{Object}
use Rattle.placement.specs.declared.nodes.Nodes.{Nodes}
use Rattle.placement.specs.Files.{file_level, object_block}
use Rattle.placement.specs.Layouts.{inode_with, IsLaidOut}
use Rattle.placement.specs.Nodes.{height_of, node}
use Rattle.blocktree.specs.declared.place_map.PlaceMap.{PlaceMap}
use Rattle.inode.proofs.HeldLaws.{node_above}
use Rattle.placement.proofs.HeldLaws.{is_inline}
use Rattle.placement.proofs.PlacedLaws.{node_over}
use Rattle.layout.proofs.PointerLaws.{hole_block}
use Rattle.layout.proofs.ZeroLaws.{length-zeros}

pub zero_byte : (n k : ℕ) → get_or (zeros n) k 0 ≡ 0
unfolding zeros
zero_byte zero k = refl
zero_byte (suc n) zero = refl
zero_byte (suc n) (suc k) = zero_byte n k

-- bytes that are all 0
zeros_of : (xs : List ℕ) → ((k : ℕ) → get_or xs k 0 ≡ 0) → xs ≡ zeros (length xs)
unfolding zeros
zeros_of [] each = refl
zeros_of (x ∷ xs) each = let rest = zeros_of xs (λ k. each (suc k)) in let first : x ≡ 0 = each 0 in λ i. first i ∷ rest i

zeros_two : (a b : ℕ) → zeros a ++ zeros b ≡ zeros (a + b)
zeros_two a b =
    let each : (k : ℕ) → get_or (zeros a ++ zeros b) k 0 ≡ 0 = λ k. elim (cases_lt k (length (zeros a))) [
      | inl lt ↦ get_or_append_left (zeros a) (zeros b) 0 k lt ∙ zero_byte a k
      | inr ge ↦ get_or-append_right (zeros a) (zeros b) k 0 ge ∙ zero_byte b (k - length (zeros a))
    ] in
    zeros_of (zeros a ++ zeros b) each ∙ ap zeros (length-append (zeros a) (zeros b) ∙ omega (arith, length-zeros a, length-zeros b))

module _ (block : List ℕ) (size : ℕ) (whole : length block ≡ 4096) (low : size ≤ 128) (past : (k : ℕ) → size ≤ k → get_or block k 0 ≡ 0) where
  rest_zeros : drop size block ≡ zeros (4096 - size)
  rest_zeros = zeros_of (drop size block) (λ k. get_or-drop size block k 0 ∙ past (size + k) (omega arith)) ∙ ap zeros (length-drop size block ∙ ap (λ n. n - size) whole)

  -- the first bytes and zeros are the block
  filled : (take size block ++ zeros (128 - size)) ++ zeros 3968 ≡ block
  filled =
      let all : (128 - size) + 3968 ≡ 4096 - size = omega arith in
      append_assoc (take size block) (zeros (128 - size)) (zeros 3968)
      ∙ ap (λ xs. take size block ++ xs) (zeros_two (128 - size) 3968 ∙ ap zeros all ∙ sym rest_zeros)
      ∙ take-append-drop size block

  taken_length : length (take size block) ≡ size
  taken_length = length-take size block ∙ omega (arith, whole, low)

  pub inline_fits : FitsInline (take size block ++ zeros (128 - size)) size
  inline_fits = (
    low,
    length-append (take size block) (zeros (128 - size)) ∙ omega (arith, taken_length, length-zeros (128 - size), low),
    ap (λ n. drop n (take size block ++ zeros (128 - size))) (sym taken_length) ∙ drop-append_seam (take size block) (zeros (128 - size)),
  )

-- the first bytes of a block, read one by one
pub head_is : (bytes block : List ℕ) (size : ℕ) → length bytes ≡ 128 → length block ≡ 4096 → size ≤ 128 → ((k : ℕ) → get_or bytes k 0 ≡ (if nat_lt k size then get_or block k 0 else 0))
    → bytes ≡ take size block ++ zeros (128 - size)
head_is bytes block size count whole low each =
    let head : length (take size block) ≡ size = length-take size block ∙ omega (arith, whole, low) in
    let all : length bytes ≡ length (take size block ++ zeros (128 - size)) = count ∙ sym (length-append (take size block) (zeros (128 - size)) ∙ omega (arith, head, length-zeros (128 - size), low)) in
    ext_get_or 0 bytes (take size block ++ zeros (128 - size)) all (λ k lt. each k ∙ elim (cases_lt k size) [
      | inl less ↦
          sym (cond_below k size (get_or block k 0) 0 less) ∙ sym (get_or-take size block k 0 less) ∙ sym (get_or_append_left (take size block) (zeros (128 - size)) 0 k (omega (arith, less, head)))
      | inr ge ↦
          sym (cond_above k size (get_or block k 0) 0 0 ge refl) ∙ sym (zero_byte (128 - size) (k - length (take size block)))
          ∙ sym (get_or-append_right (take size block) (zeros (128 - size)) k 0 (omega (arith, ge, head)))
    ])

module _ (s : Sizes) (d e : Blocks) (o : Object) (bytes : List ℕ) (nodes : Nodes) (level : file_level o.file ≡ 0) (none : nodes.heights.items ≡ [])
    (ends : IsFile d o.file) (whole : length (file_block d o.file 0) ≡ 4096) (is : bytes ≡ take o.file.size (file_block d o.file 0) ++ zeros (128 - o.file.size)) where
  past : (k : ℕ) → o.file.size ≤ k → get_or (file_block d o.file 0) k 0 ≡ 0
  past k le = elim (cases_lt k 4096) [
    | inl lt ↦
        let first : k / 4096 ≡ 0 = omega arith in
        let at : k % 4096 ≡ k = omega arith in
        ap (λ n. get_or (file_block d o.file 0) n 0) (sym at) ∙ ap (λ n. get_or (file_block d o.file n) (k % 4096) 0) (sym first) ∙ ends k le
    | inr ge ↦ get_or_past (file_block d o.file 0) k 0 (omega (arith, ge, whole))
  ]

  inline_place : (m i : ℕ) → (held e (inode_with o (Inline bytes))).place m i ≡ node nodes m i
  inline_place m i =
      let empty : height_of nodes ≡ 0 = ap (λ (xs : List PlaceMap). length xs) none in
      node_above e (inode_with o (Inline bytes)) m i (omega (arith, level)) ∙ sym (node_over nodes m i (omega (arith, empty)))

  first_block : bytes ++ zeros 3968 ≡ object_block d o 0
  first_block =
      let block = file_block d o.file 0 in
      let full = ap (λ xs. xs ++ zeros 3968) is ∙ filled block o.file.size whole (is_inline o.file.tree.layout o.file.size level) past in
      elim (cases_lt 0 (block_count o.file.size)) [
        | inl lt ↦ full ∙ cond_below 0 (block_count o.file.size) block (zeros 4096) lt
        | inr ge ↦
            let none : o.file.size ≡ 0 = omega (arith, ge) in
            full ∙ zeros_of block (λ k. past k (omega (arith, none))) ∙ ap zeros whole ∙ cond_above 0 (block_count o.file.size) block (zeros 4096) (zeros 4096) ge refl
      ]

  other_block : (i : ℕ) → zeros 4096 ≡ object_block d o (suc i)
  other_block i =
      let low = is_inline o.file.tree.layout o.file.size level in
      cond_above (suc i) (block_count o.file.size) (file_block d o.file (suc i)) (zeros 4096) (zeros 4096) (omega (arith, low)) refl

  inline_block : (stored : List ℕ) (i : ℕ) → body_block (Inline bytes) stored i ≡ object_block d o i
  inline_block stored zero = first_block
  inline_block stored (suc i) = other_block i

  pub inline_stands : IsLaidOut s e (object_block d o) (inode_with o (Inline bytes)) nodes
  unfolding held
  inline_stands = record {
    nodes = record { places = inline_place };
    blocks = λ i. inline_block (pointed e ((held e (inode_with o (Inline bytes))).place 0 i)) i;
    body = subst (λ xs. FitsInline xs o.file.size) (sym is) (inline_fits (file_block d o.file 0) o.file.size whole (is_inline o.file.tree.layout o.file.size level) past);
    indirect = λ m i b at. hole_block (sym (node_above e (inode_with o (Inline bytes)) (suc m) i (omega (arith, level))) ∙ at);
  }
